-- What is known while owners are judged one after the other.
use Rattle.std.specs.Prelude.{◌≡◌, ◌⊎◌, ◌↔◌, ℕ, ◌<◌, Bool, false, true, get_or, replicate, List, length, Option, None, Some}
use Rattle.std.specs.List.{Contains}
use Rattle.psy_code.specs.declared.code.Code.{Code}
use Rattle.psy_flow.specs.Owners.{Agent, Function, Owner}
use Rattle.psy_judge.specs.declared.fault.Fault.{Fault}
use Rattle.psy_judge.specs.declared.heights.Top.{Top}
use Rattle.psy_judge.specs.declared.heights.Top.TheVariants as top
use Rattle.psy_judge.specs.Highest.{AreSmall, AreTops, IsEmpty, top_at}
use Rattle.psy_judge.specs.Judging.{AreReached, IsTaken}

-- A fault at a place, if there is one
abbrev pub fault_of : ℕ → Option ℕ → Option Fault
fault_of place None = None
fault_of place (Some number) = Some (record { number = number; place = place })

-- How many functions are judged before an owner
abbrev pub functions_before : Code → Owner → ℕ
functions_before code (Agent number) = length code.functions
functions_before code (Function number) = number

-- All places and their tops, of the owner that begins at these starts
pub record IsExplored (code : Code) (owner : Owner) (places : List ℕ) (row : List Top) : Type 0 where
  pub reached : AreReached code owner places
  pub tops : AreTops code owner row
  pub size : length row ≡ length code.instrs
  pub small : AreSmall (length code.instrs) row
  pub listed : (place : ℕ) → (top_at row place ≡ top.Nothing) ⊎ Contains places place

-- Marked are the places of the code that these owners reach.
pub record AreTaken (code : Code) (Done : Owner → Type 0) (marks : List Bool) : Type 0 where
  pub size : length marks ≡ length code.instrs
  pub each : (place : ℕ) → place < length code.instrs → get_or marks place false ≡ true ↔ IsTaken code Done place

-- Ready for the next owner: marks and row are empty, and taken is what the owners before reach.
pub record IsReady (code : Code) (Done : Owner → Type 0) (marks taken : List Bool) (row : List Top) : Type 0 where
  pub clear : marks ≡ replicate (length code.instrs) false
  pub reached : AreTaken code Done taken
  pub empty : IsEmpty (length code.instrs) row
