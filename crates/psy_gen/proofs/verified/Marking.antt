-- Marks of the code of a unit: by place the owner whose code it is, and the height there.
use Rattle.std.proofs.Common.{◌≡◌, ℕ, zero, suc, ◌+◌, List, [], ◌∷◌, ◌++◌, Option, Some, None, ap, subst, arith}
use Rattle.std.specs.Prelude.{◌-◌, replicate, slice_get, slice_index_or}
use Rattle.psy_code.specs.declared.code.Code.{Code}
use Rattle.psy_code.specs.declared.instr.Instr.{Instr}
use Rattle.psy_tree.specs.declared.unit.Unit.{Unit as Whole}
use Rattle.psy_flow.specs.Heights.{Shift, shifts}
use Rattle.psy_flow.specs.Marks.{Mark, Marks}
use Rattle.psy_flow.specs.Owners.{Agent, Function, Owner}
use Rattle.psy_meaning.specs.Depths.{Depth, call_depths, shallow}
use Rattle.psy_gen.specs.Emission.{agent_size, code_of, function_size}

-- ---- heights

-- The height behind an instruction, where its first way goes; none where no way goes on
abbrev pub height_behind : ℕ → List Shift → ℕ
height_behind height [] = 0
height_behind height (shift ∷ rest) = height - shift.pops + shift.pushes

-- The height behind what stands at a place
abbrev pub height_on : Code → ℕ → ℕ → Option Instr → ℕ
height_on code place height None = 0
height_on code place height (Some i) = height_behind height (shifts code place i)

-- The height at a place: the one behind the place before it
abbrev pub height_at : Code → ℕ → ℕ
height_at code zero = 0
height_at code (suc place) = height_on code place (height_at code place) (slice_get code.instrs place)

pub height_next : (code : Code) (place : ℕ) (i : Instr) → slice_get code.instrs place ≡ Some i
    → height_at code (place + 1) ≡ height_behind (height_at code place) (shifts code place i)
height_next code place i at =
    let next : suc place ≡ place + 1 = omega arith in
    subst (λ n. height_at code n ≡ height_behind (height_at code place) (shifts code place i)) next
    (ap (height_on code place (height_at code place)) at)

-- ---- owners

-- The owner of each place of codes that stand one after the other, whose owners are counted from a number on
abbrev pub owners_from : {X : Type 0} → (X → ℕ) → (ℕ → Owner) → ℕ → List X → List Owner
owners_from size owner number [] = []
owners_from size owner number (x ∷ rest) = replicate (size x) (owner number) ++ owners_from size owner (number + 1) rest

-- The owner of each place: the functions', then the agents'
abbrev pub owners_of : Whole → List Owner
owners_of unit = owners_from function_size Function 0 unit.functions ++ owners_from agent_size Agent 0 unit.agents

-- ---- marks

-- What a call of a function holds at most
abbrev pub call_depth_of : Whole → ℕ → Depth
call_depth_of unit function = slice_index_or (call_depths unit.functions) function shallow

-- The mark of a place with this owner
abbrev pub mark_for : Code → ℕ → Option Owner → Option Mark
mark_for code place None = None
mark_for code place (Some owner) = Some (record { owner = owner; height = height_at code place })

-- By place its owner and height, and by function what a call of it holds at most
abbrev pub marks_of : Whole → Marks
marks_of unit = record {
  at = λ place. mark_for (code_of unit) place (slice_get (owners_of unit) place);
  needs = λ function. (call_depth_of unit function).operands;
  uses = λ function. (call_depth_of unit function).cells;
}
