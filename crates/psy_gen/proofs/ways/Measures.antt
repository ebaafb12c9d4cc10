-- Ways through code, with what is counted on them.
use Rattle.std.proofs.Common.{◌≡◌, ℕ, zero, suc, ◌+◌, List, Some, refl, sym, subst, ◌∙◌}
use Rattle.std.specs.Prelude.{slice_get, ⊤}
use Rattle.psy_code.specs.declared.instr.Instr.{Instr}
use Rattle.psy_code.specs.declared.instr.Instr.TheVariants as instr
use Rattle.psy_meaning.specs.CodeWays.{GoesOn}
use Rattle.psy_meaning.specs.Ways.{Meter, Sending, looking, sending}
use Rattle.psy_gen.proofs.Basics.{some_is}

-- It neither looks nor sends.
abbrev pub IsOther : Instr → Type 0
IsOther (instr.Past variable back) = ⊥
IsOther (instr.Send stream after clock) = ⊥
IsOther _ = ⊤

-- What looks and sends count: by instruction, and of what a way of statements met
pub record Measure : Type 0 where
  pub of : Instr → ℕ
  pub met : Meter → ℕ
  pub still : (m n : Meter) → n.looks ≡ m.looks → n.sends ≡ m.sends → met n ≡ met m
  pub look : (variable back : ℕ) (m n : Meter) → looking variable back m n → met n ≡ met m + of (instr.Past variable back)
  pub send : (one : Sending) (m n : Meter) → sending one m n → met n ≡ met m + of (instr.Send one.stream one.after one.clock)
  pub other : (i : Instr) → IsOther i → of i ≡ 0

-- The instruction ends an action at the point.
abbrev pub Ends : Instr → ℕ → Type 0
Ends (instr.Advance own) point = own ≡ point
Ends _ point = ⊥

-- A way of so many steps from a place ends at a point, and its instructions count so much.
abbrev pub Goes : List Instr → Measure → ℕ → ℕ → ℕ → ℕ → Type 0
Goes instrs its point zero place count = (i : Instr) × (slice_get instrs place ≡ Some i) × Ends i point × (count ≡ 0)
Goes instrs its point (suc n) place count =
    (i : Instr) × (next more : ℕ) × (slice_get instrs place ≡ Some i) × GoesOn i place next × Goes instrs its point n next more × (count ≡ its.of i + more)

-- Where a way goes on behind its first instruction
pub record Behind (instrs : List Instr) (its : Measure) (i : Instr) (point n place count : ℕ) : Type 0 where
  pub steps : ℕ
  pub next : ℕ
  pub more : ℕ
  pub shorter : n ≡ suc steps
  pub on : GoesOn i place next
  pub way : Goes instrs its point steps next more
  pub adds : count ≡ its.of i + more

module _ (instrs : List Instr) (its : Measure) where
  pub behind_first : (i : Instr) (point n place count : ℕ) → slice_get instrs place ≡ Some i → (Ends i point → ⊥) → Goes instrs its point n place count
      → Behind instrs its i point n place count
  behind_first i point zero place count at never (j, has, ends, none) = absurd (never (subst (λ x. Ends x point) (some_is j i (sym has ∙ at)) ends))
  behind_first i point (suc n) place count at never (j, next, more, has, on, way, adds) =
      let same : j ≡ i = some_is j i (sym has ∙ at) in
      record {
        steps = n;
        next = next;
        more = more;
        shorter = refl;
        on = subst (λ x. GoesOn x place next) same on;
        way = way;
        adds = subst (λ x. count ≡ its.of x + more) same adds;
      }

  pub end_first : (point own n place count : ℕ) → slice_get instrs place ≡ Some (instr.Advance own) → Goes instrs its point n place count
      → (own ≡ point) × (count ≡ 0)
  end_first point own zero place count at (j, has, ends, none) = (subst (λ x. Ends x point) (some_is j (instr.Advance own) (sym has ∙ at)) ends, none)
  end_first point own (suc n) place count at (j, next, more, has, on, way, adds) = absurd
      (subst (λ x. GoesOn x place next) (some_is j (instr.Advance own) (sym has ∙ at)) on)
