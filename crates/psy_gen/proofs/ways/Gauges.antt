-- What is counted: looks at a variable, or sends of some kind.
use Rattle.std.proofs.Common.{◌≡◌, ℕ, suc, ◌<◌, Bool, true, false, cond, List, [], ◌∷◌, refl, ap, ◌∙◌, arith}
use Rattle.std.specs.Prelude.{◌==◌}
use Rattle.std.specs.List.{count_by, Contains}
use Rattle.std.proofs.lemmas.List.Sums.{sum_by-cons, sum_by_push}
use Rattle.psy_lists.proofs.lemmas.Searches.{some_pass}
use Rattle.psy_code.specs.declared.instr.Instr.{Instr}
use Rattle.psy_code.specs.declared.instr.Instr.TheVariants as instr
use Rattle.psy_code.specs.Views.{Looked}
use Rattle.psy_meaning.specs.Ways.{Meter, Sending}
use Rattle.psy_gen.proofs.ways.Measures.{Measure, IsOther}

-- ---- looks

abbrev pub looks_at : ℕ → Looked → Bool
looks_at variable look = look.variable == variable

abbrev pub look_of : ℕ → Instr → ℕ
look_of variable (instr.Past own back) = cond (own == variable) 1 0
look_of variable _ = 0

pub no_look : (variable : ℕ) (i : Instr) → IsOther i → look_of variable i ≡ 0
no_look variable (instr.Past own back) h = absurd h
no_look variable _ h = refl

-- The looks at a variable
abbrev pub looks : ℕ → Measure
looks variable = record {
  of = look_of variable;
  met = λ m. count_by (looks_at variable) m.looks;
  still = λ m n e f. ap (count_by (looks_at variable)) e;
  look = λ own back m n e. ap (λ (k : Meter). count_by (looks_at variable) k.looks) e ∙ sum_by_push _ m.looks _;
  send = λ one m n e. ap (λ (k : Meter). count_by (looks_at variable) k.looks) e ∙ omega arith;
  other = no_look variable;
}

-- ---- sends

abbrev pub sent_of : (Sending → Bool) → Instr → ℕ
sent_of counts (instr.Send stream after clock) = cond (counts (record { stream = stream; after = after; clock = clock })) 1 0
sent_of counts _ = 0

pub no_send : (counts : Sending → Bool) (i : Instr) → IsOther i → sent_of counts i ≡ 0
no_send counts (instr.Send stream after clock) h = absurd h
no_send counts _ h = refl

-- The sends of a kind
abbrev pub sends : (Sending → Bool) → Measure
sends counts = record {
  of = sent_of counts;
  met = λ m. count_by counts m.sends;
  still = λ m n e f. ap (count_by counts) f;
  look = λ own back m n e. ap (λ (k : Meter). count_by counts k.sends) e ∙ omega arith;
  send = λ one m n e. ap (λ (k : Meter). count_by counts k.sends) e ∙ sum_by_push _ m.sends one;
  other = no_send counts;
}

-- ---- one that is counted

pub record Among {X : Type 0} (counts : X → Bool) (xs : List X) : Type 0 where
  pub one : X
  pub there : Contains xs one
  pub counted : counts one ≡ true

later : {X : Type 0} (counts : X → Bool) (x : X) (xs : List X) → Among counts xs → Among counts (x ∷ xs)
later counts x xs a = record { one = a.one; there = (suc a.there.0, omega (arith, a.there.1), a.there.2); counted = a.counted }

first_or : {X : Type 0} (counts : X → Bool) (x : X) (xs : List X) (b : Bool) → counts x ≡ b → 0 < count_by counts (x ∷ xs)
    → (0 < count_by counts xs → Among counts xs) → Among counts (x ∷ xs)
first_or counts x xs true e h known = record { one = x; there = (0, omega arith, refl); counted = e }
first_or counts x xs false e h known = later counts x xs
    (known (omega (arith, h, sum_by-cons (λ y. cond (counts y) 1 0) x xs, ap {B = ℕ} (λ b. cond b 1 0) e)))

pub find_among : {X : Type 0} (counts : X → Bool) (xs : List X) → 0 < count_by counts xs → Among counts xs
find_among counts [] h = absurd (omega (arith, h))
find_among counts (x ∷ xs) h = first_or counts x xs (counts x) refl h (find_among counts xs)

pub some_among : {X : Type 0} (counts : X → Bool) (xs : List X) (x : X) → Contains xs x → counts x ≡ true → 0 < count_by counts xs
some_among counts xs x (i, less, e) h = some_pass counts xs x i less e h
