-- Courses: what comes of a text or of a program, step by step. A course gives something, or a step of it stops with a refusal.
use Rattle.std.specs.Prelude.{◌≡◌, ◌⊎◌}
use Rattle.psy_plan.specs.declared.refusal.Refusal.{Refusal}
use Rattle.psy_plan.specs.declared.refusal.Stop.{Stop}
use Rattle.psy_plan.specs.declared.refusal.Stop.TheVariants as stop

-- What some steps come to
pub record Course (X : Type 0) : Type 1 where
  -- what they give, where no step stops
  pub gives : X → Type 0
  -- the refusal of the first step that stops
  pub stops : Refusal → Type 0

-- One step
abbrev pub step : {X : Type 0} → (X → Type 0) → (Refusal → Type 0) → Course X
step gives stops = record { gives = gives; stops = stops }

-- No step any more
abbrev pub pure : {X : Type 0} → X → Course X
pure x = step (λ y. y ≡ x) (λ refusal. ⊥)

-- A test that goes on where a fact holds, and else stops with this refusal
abbrev pub unless : Type 0 → Type 0 → Refusal → Course (Unit {0})
unless Holds Fails refusal = step (λ done. Holds) (λ r. (r ≡ refusal) × Fails)

-- One course, and with what it gives another
unfoldable pub in_row : {X Y : Type 0} → Course X → (X → Course Y) → Course Y
in_row {X = X} {Y = Y} c f = record {
  gives = λ y. (x : X) × c.gives x × (f x).gives y;
  stops = λ r. c.stops r ⊎ ((x : X) × c.gives x × (f x).stops r);
}

infixl 10 ◌>>=◌
-- The same as an operator, so that steps are written one below the other
abbrev pub ◌>>=◌ : {X Y : Type 0} → Course X → (X → Course Y) → Course Y
c >>= f = in_row c f

-- There is no answer for this cause, or for want of memory.
abbrev pub Stops : (Refusal → Type 0) → Stop → Type 0
Stops IsCause (stop.Refused refusal) = IsCause refusal
Stops IsCause stop.Memory = Unit {0}

-- ---- one end, and some

-- It gives one thing at most, and stops with one refusal at most, and not both.
pub record IsOne {X : Type 0} (c : Course X) : Type 0 where
  pub gift : (x y : X) → c.gives x → c.gives y → x ≡ y
  pub stop : (r s : Refusal) → c.stops r → c.stops s → r ≡ s
  pub apart : (x : X) (r : Refusal) → c.gives x → c.stops r → ⊥

-- It gives something, or stops with a refusal.
abbrev pub IsSome : {X : Type 0} → Course X → Type 0
IsSome {X = X} c = ((x : X) × c.gives x) ⊎ ((refusal : Refusal) × c.stops refusal)

-- It comes to some end, and to one at most.
pub record IsDecided {X : Type 0} (c : Course X) : Type 0 where
  pub one : IsOne c
  pub some : IsSome c
