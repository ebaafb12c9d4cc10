-- Places of code from which a way goes on to an `Advance`, while they are found.
use Rattle.std.specs.Prelude.{◌≡◌, ◌↔◌, ℕ, ◌<◌, Bool, true, false, ◌||◌, get_or, List, length, Option, None, Some, slice_get}
use Rattle.psy_code.specs.declared.instr.Instr.{Instr}
use Rattle.psy_code.specs.declared.instr.Instr.TheVariants as instr
use Rattle.psy_flow.specs.Verified.{HasEnd}
use Rattle.psy_judge.specs.declared.walked.Onward.{Onward}
use Rattle.psy_judge.specs.Walked.{onward_of, unmarked}

-- The place, if there is one, is marked.
abbrev pub marked_in : List Bool → Option ℕ → Bool
marked_in marks None = false
marked_in marks (Some place) = get_or marks place false

-- It is an `Advance`, or goes on at a marked place.
abbrev pub ends_by : Instr → Onward → List Bool → Bool
ends_by (instr.Advance point) to marks = true
ends_by _ to marks = marked_in marks to.next || marked_in marks to.jump

-- From marked places a way goes on to an `Advance`.
pub record IsFoundEnd (instrs : List Instr) (marks : List Bool) : Type 0 where
  pub size : length marks ≡ length instrs
  pub each : (place : ℕ) → get_or marks place false ≡ true → HasEnd instrs place

-- What comes of a pass over these places: there is more, or no more is to be found there.
pub record IsPass (instrs : List Instr) (Passed : ℕ → Type 0) (before after : List Bool) (more : Bool) : Type 0 where
  pub same : more ≡ false → after ≡ before
  pub room : more ≡ true → unmarked after < unmarked before
  pub none : more ≡ false → (place : ℕ) (i : Instr) → Passed place → slice_get instrs place ≡ Some i → ends_by i (onward_of i place) after ≡ true
      → get_or after place false ≡ true

-- By place, whether a way goes on to an `Advance`
pub record AreEnds (instrs : List Instr) (marks : List Bool) : Type 0 where
  pub size : length marks ≡ length instrs
  pub each : (place : ℕ) → get_or marks place false ≡ true ↔ HasEnd instrs place
