-- The places that ways through code pass, while they are met: a way may leave the code.
use Rattle.std.specs.Prelude.{◌≡◌, ℕ, suc, ◌+◌, ◌<◌, Bool, true, false, List, [], ◌∷◌, ◌++◌, length, None, Some, slice_get, ◌↔◌}
use Rattle.std.specs.List.{Contains}
use Rattle.psy_code.specs.declared.instr.Instr.{Instr}
use Rattle.psy_code.specs.declared.instr.Instr.TheVariants as instr
use Rattle.psy_meaning.specs.CodeWays.{GoesOn, IsPassed}
use Rattle.psy_judge.specs.declared.walked.Onward.{Onward}

-- The places where a way may go on after an instruction
abbrev pub onward_of : Instr → ℕ → Onward
onward_of (instr.Jump to) place = record { next = None; jump = Some to }
onward_of (instr.JumpZero to) place = record { next = Some (place + 1); jump = Some to }
onward_of (instr.AndTest to) place = record { next = Some (place + 1); jump = Some to }
onward_of (instr.OrTest to) place = record { next = Some (place + 1); jump = Some to }
onward_of instr.Return place = record { next = None; jump = None }
onward_of (instr.Advance point) place = record { next = None; jump = None }
onward_of _ place = record { next = Some (place + 1); jump = None }

-- The place is marked.
abbrev pub IsMarkedAt : List Bool → ℕ → Type 0
IsMarkedAt marks place = slice_get marks place ≡ Some true

-- How many aren't marked
abbrev pub unmarked : List Bool → ℕ
unmarked [] = 0
unmarked (true ∷ marks) = unmarked marks
unmarked (false ∷ marks) = suc (unmarked marks)

-- A way from one of these places, whether it ends or not, comes to that one.
abbrev pub IsPassedFrom : List Instr → List ℕ → ℕ → Type 0
IsPassedFrom instrs starts place = (start : ℕ) × Contains starts start × IsPassed instrs start place

-- A place of the code, and a way from one of these places comes to it
abbrev pub IsMetFrom : List Instr → List ℕ → ℕ → Type 0
IsMetFrom instrs starts place = (place < length instrs) × IsPassedFrom instrs starts place

-- Marked and listed are the same places, of those in the code that ways from these places pass.
pub record AreMet (instrs : List Instr) (starts : List ℕ) (marks : List Bool) (places : List ℕ) : Type 0 where
  pub count : length marks ≡ length instrs
  pub room : unmarked marks + length places ≡ length instrs
  pub listed : (place : ℕ) → IsMarkedAt marks place → Contains places place
  pub marked : (place : ℕ) → Contains places place → IsMarkedAt marks place
  pub passed : (place : ℕ) → Contains places place → IsMetFrom instrs starts place

-- More places stand behind those before.
abbrev pub IsGrown : List ℕ → List ℕ → Type 0
IsGrown before after = (more : List ℕ) × (after ≡ before ++ more)

-- All places of the code where a way may go on from this one are listed.
abbrev pub MayFollow : List Instr → List ℕ → ℕ → Type 0
MayFollow instrs places place = (next : ℕ) (i : Instr) → slice_get instrs place ≡ Some i → GoesOn i place next → next < length instrs → Contains places next

-- All places of the code that ways from these places pass
pub record ArePassedFrom (instrs : List Instr) (starts places : List ℕ) : Type 0 where
  pub each : (place : ℕ) → Contains places place ↔ IsMetFrom instrs starts place
