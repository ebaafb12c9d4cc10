-- The places that ways through code pass, while they are met.
use Rattle.std.specs.Prelude.{◌≡◌, ℕ, suc, ◌+◌, ◌<◌, Bool, true, false, List, [], ◌∷◌, ◌++◌, length, nat_eq, Option, None, Some, slice_get, ◌↔◌}
use Rattle.std.specs.List.{Contains}
use Rattle.psy_code.specs.declared.instr.Instr.{Instr}
use Rattle.psy_code.specs.declared.instr.Instr.TheVariants as instr
use Rattle.psy_meaning.specs.CodeWays.{GoesOn, IsPassed}
use Rattle.psy_flow.specs.declared.walks.Onward.{Onward}

-- The places where a way may go on after an instruction
abbrev pub onward_of : Instr → ℕ → Onward
onward_of (instr.Jump to) place = record { next = None; jump = Some to }
onward_of (instr.JumpZero to) place = record { next = Some (place + 1); jump = Some to }
onward_of (instr.AndTest to) place = record { next = Some (place + 1); jump = Some to }
onward_of (instr.OrTest to) place = record { next = Some (place + 1); jump = Some to }
onward_of instr.Return place = record { next = None; jump = None }
onward_of (instr.Advance point) place = record { next = None; jump = None }
onward_of _ place = record { next = Some (place + 1); jump = None }

-- The place is marked.
abbrev pub IsMarked : List Bool → ℕ → Type 0
IsMarked marks place = slice_get marks place ≡ Some true

-- How many aren't marked
abbrev pub unmarked : List Bool → ℕ
unmarked [] = 0
unmarked (true ∷ marks) = unmarked marks
unmarked (false ∷ marks) = suc (unmarked marks)

-- Each place that ways from there pass lies in the code.
abbrev pub StaysIn : List Instr → ℕ → Type 0
StaysIn instrs from = (place : ℕ) → IsPassed instrs from place → place < length instrs

-- A way from one of these places, whether it ends or not, comes to that one.
abbrev pub IsPassedFrom : List Instr → List ℕ → ℕ → Type 0
IsPassedFrom instrs starts place = (start : ℕ) × Contains starts start × IsPassed instrs start place

-- Each place that ways from these places pass lies in the code.
abbrev pub AllStayIn : List Instr → List ℕ → Type 0
AllStayIn instrs starts = (place : ℕ) → IsPassedFrom instrs starts place → place < length instrs

-- Marked and listed are the same places, of those that ways from these places pass.
pub record AreMet (instrs : List Instr) (starts : List ℕ) (marks : List Bool) (places : List ℕ) : Type 0 where
  pub count : length marks ≡ length instrs
  pub room : unmarked marks + length places ≡ length instrs
  pub listed : (place : ℕ) → IsMarked marks place → Contains places place
  pub marked : (place : ℕ) → Contains places place → IsMarked marks place
  pub passed : (place : ℕ) → Contains places place → IsPassedFrom instrs starts place

-- More places stand behind those before.
abbrev pub IsGrown : List ℕ → List ℕ → Type 0
IsGrown before after = (more : List ℕ) × (after ≡ before ++ more)

-- All places where a way may go on from this one are listed.
abbrev pub MayFollow : List Instr → List ℕ → ℕ → Type 0
MayFollow instrs places place = (next : ℕ) (i : Instr) → slice_get instrs place ≡ Some i → GoesOn i place next → Contains places next

-- All places that ways from there pass
pub record ArePassed (instrs : List Instr) (from : ℕ) (places : List ℕ) : Type 0 where
  pub each : (place : ℕ) → Contains places place ↔ IsPassed instrs from place

-- All places that ways from these places pass
pub record ArePassedFrom (instrs : List Instr) (starts places : List ℕ) : Type 0 where
  pub each : (place : ℕ) → Contains places place ↔ IsPassedFrom instrs starts place

-- ---- ends

-- The instruction ends an action at the point.
abbrev pub ends_at : Instr → ℕ → Bool
ends_at (instr.Advance own) point = nat_eq own point
ends_at _ point = false

-- There is an instruction, and it does.
abbrev pub end_of : Option Instr → ℕ → Bool
end_of None point = false
end_of (Some i) point = ends_at i point

-- The instruction at the place does.
abbrev pub ends_there : List Instr → ℕ → ℕ → Bool
ends_there instrs point place = end_of (slice_get instrs place) point
