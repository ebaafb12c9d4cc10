-- Courses: what a command comes to, step by step. A course gives something, or a step of it stops with a refusal; and it comes
-- to the reads of files.
use Rattle.std.specs.Prelude.{◌≡◌, ℕ, List, ◌⊎◌}
use Rattle.psy_plan.specs.declared.refusal.Refusal.{Refusal as Cause}
use Rattle.psy_plan.specs.Courses.{Course as Plan}
use Rattle.psy_run.specs.declared.refusal.File.{File}
use Rattle.psy_run.specs.declared.refusal.Refusal.{Refusal}
use Rattle.psy_run.specs.declared.refusal.Refusal.TheVariants.{Unplanned}

-- What a command, or some of its steps, comes to
pub record Course (X : Type 0) : Type 1 where
  -- what it gives, where no step stops
  pub gives : X → Type 0
  -- the refusal of the first step that stops
  pub stops : Refusal → Type 0
  -- it comes to the read of this file, under this name: none of the steps before that read stops
  pub reads : File → List ℕ → Type 0

-- One step, which reads no file
abbrev pub step : {X : Type 0} → (X → Type 0) → (Refusal → Type 0) → Course X
step gives stops = record { gives = gives; stops = stops; reads = λ file name. ⊥ }

-- No step any more
abbrev pub pure : {X : Type 0} → X → Course X
pure x = step (λ y. y ≡ x) (λ refusal. ⊥)

-- A test that goes on where a fact holds, and else stops with this refusal
abbrev pub unless : Type 0 → Type 0 → Refusal → Course (Unit {0})
unless Holds Fails refusal = step (λ done. Holds) (λ r. (r ≡ refusal) × Fails)

-- A refusal that is one of the plan's
abbrev pub by_plan : (Cause → Type 0) → Refusal → Type 0
by_plan Stops (Unplanned cause) = Stops cause
by_plan Stops _ = ⊥

-- Steps of the plan, which read no file
abbrev pub planned : {X : Type 0} → Plan X → Course X
planned plan = record { gives = plan.gives; stops = by_plan plan.stops; reads = λ file name. ⊥ }

-- One course, and with what it gives another
unfoldable pub in_row : {X Y : Type 0} → Course X → (X → Course Y) → Course Y
in_row {X = X} {Y = Y} c f = record {
  gives = λ y. (x : X) × c.gives x × (f x).gives y;
  stops = λ r. c.stops r ⊎ ((x : X) × c.gives x × (f x).stops r);
  reads = λ file name. c.reads file name ⊎ ((x : X) × c.gives x × (f x).reads file name);
}

infixl 10 ◌>>=◌
-- The same as an operator, so that steps are written one below the other
abbrev pub ◌>>=◌ : {X Y : Type 0} → Course X → (X → Course Y) → Course Y
c >>= f = in_row c f
