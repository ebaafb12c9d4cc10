-- How what is counted on a way of code goes over to a way of statements.
use Rattle.std.proofs.Common.{◌≡◌, ℕ, ◌+◌, ◌<◌, refl, ◌∙◌, arith}
use Rattle.std.specs.Prelude.{⊤}
use Rattle.psy_code.specs.declared.instr.Instr.TheVariants as instr
use Rattle.psy_gen.proofs.ways.Measures.{Measure}

-- Nothing is counted; or what is counted is found again; or it is found as often.
pub data Mode : Type 0 where
  Quiet : Mode
  Found : Mode
  Exact : Mode

-- What was met before and what a way of code counts, against what is met now and what the rest of that way counts
abbrev pub Over : Mode → ℕ → ℕ → ℕ → ℕ → Type 0
Over Quiet before count now more = (now ≡ before) × (more ≡ count)
Over Found before count now more = 0 < before + count → 0 < now + more
Over Exact before count now more = before + count ≡ now + more

pub over_same : (mode : Mode) (before count now more : ℕ) → now ≡ before → more ≡ count → Over mode before count now more
over_same Quiet before count now more e f = (e, f)
over_same Found before count now more e f = λ h. omega (arith, e, f, h)
over_same Exact before count now more e f = omega (arith, e, f)

pub over_then : (mode : Mode) (a b c d e f : ℕ) → Over mode a b c d → Over mode c d e f → Over mode a b e f
over_then Quiet a b c d e f p q = (q.0 ∙ p.0, q.1 ∙ p.1)
over_then Found a b c d e f p q = λ h. q (p h)
over_then Exact a b c d e f p q = p ∙ q

-- Where nothing is counted, looks count nothing.
abbrev pub Allows : Measure → Mode → Type 0
Allows its Found = ⊤
Allows its _ = (variable back : ℕ) → its.of (instr.Past variable back) ≡ 0

-- A counted instruction goes over.
pub over_counted : (mode : Mode) (before by count now more : ℕ) → (mode ≡ Quiet → by ≡ 0) → now ≡ before + by → count ≡ by + more
    → Over mode before count now more
over_counted Quiet before by count now more none e f = (omega (arith, none refl, e), omega (arith, none refl, f))
over_counted Found before by count now more none e f = λ h. omega (arith, e, f, h)
over_counted Exact before by count now more none e f = omega (arith, e, f)

-- Out of a loop after rounds that were passed over
abbrev pub Past : Mode → ℕ → ℕ → ℕ → ℕ → Type 0
Past Quiet before count now more = (now ≡ before) × (more ≡ count)
Past Found before count now more = 0 < before → 0 < now + more
Past Exact before count now more = ⊤

pub past_by : (mode : Mode) (before count now more : ℕ) → Over mode before count now more → Past mode before count now more
past_by Quiet before count now more p = p
past_by Found before count now more p = λ h. p (omega (arith, h))
past_by Exact before count now more p = tt {0}

pub past_on : (mode : Mode) (before count mid left now more : ℕ) → Over mode before count mid left → Past mode before left now more
    → Past mode before count now more
past_on Quiet before count mid left now more p q = (q.0, q.1 ∙ p.1)
past_on Found before count mid left now more p q = q
past_on Exact before count mid left now more p q = tt {0}
