-- What a function needs, place by place.
use Rattle.std.specs.Prelude.{◌≡◌, ◌⊎◌, ℕ, ◌+◌, ◌-◌, ◌*◌, ◌^◌, ◌<◌, ◌≤◌, max, get_or, List, length, Option, None, Some, slice_get}
use Rattle.psy_code.specs.declared.code.Code.{Code}
use Rattle.psy_code.specs.declared.instr.Instr.{Instr}
use Rattle.psy_code.specs.declared.instr.Instr.TheVariants as instr
use Rattle.psy_flow.specs.Heights.{IsHeight, Moves}
use Rattle.psy_flow.specs.Needs.{Calls, IsCounted, MayHold, MayUse}
use Rattle.psy_flow.specs.Owners.{Function, IsReached, function_code_at}
use Rattle.psy_judge.specs.declared.heights.Top.{Top}
use Rattle.psy_judge.specs.declared.heights.Top.TheVariants as top
use Rattle.psy_judge.specs.declared.needs.Need.{Need}
use Rattle.psy_judge.specs.declared.steps.Step.{Step}
use Rattle.psy_judge.specs.declared.steps.Steps.{Steps}
use Rattle.psy_judge.specs.Deciding.{called, need_at}

-- The height behind a way on, if there is one
abbrev pub after_on : Option Step → ℕ → ℕ
after_on None height = 0
after_on (Some step) height = height - step.pops + step.pushes

-- What is held at a call with so many operands left
abbrev pub left_held : Option Need → ℕ → ℕ
left_held None left = 0
left_held (Some need) left = left + need.held

-- What is held in a call, if there is one
abbrev pub call_held : Code → List (Option Need) → Option ℕ → ℕ → ℕ
call_held code needs None height = 0
call_held code needs (Some function) height = left_held (need_at needs function) (height - (function_code_at code function).params)

-- What is held at a place, behind it, and in a call there
abbrev pub held_at : Code → List (Option Need) → Instr → Steps → ℕ → ℕ
held_at code needs i on height = max height (max (max (after_on on.next height) (after_on on.jump height)) (call_held code needs (called i) height))

-- The greater of what is known and what is held at a place where all ways have one height
abbrev pub held_with : Code → List (Option Need) → Instr → Steps → Top → ℕ → ℕ
held_with code needs i on (top.One height) held = max held (held_at code needs i on height)
held_with code needs i on _ held = held

-- What a call uses
abbrev pub need_used : Option Need → ℕ
need_used None = 0
need_used (Some need) = need.used

abbrev pub call_used : List (Option Need) → Option ℕ → ℕ
call_used needs None = 0
call_used needs (Some function) = need_used (need_at needs function)

-- What a function may hold by its ways that come to a place is at most this: its height, that behind the place, and what a call there holds.
pub record AreHeld (code : Code) (function place most : ℕ) : Type 0 where
  pub own : (height : ℕ) → IsHeight code (Function function) place height → height ≤ most
  pub behind : (i : Instr) (height next after : ℕ) → IsHeight code (Function function) place height → slice_get code.instrs place ≡ Some i
      → Moves code place i height next after → after ≤ most
  pub call : (callee left more : ℕ) → Calls code (Function function) place callee left → callee < function → IsCounted code callee → MayHold code callee more
      → left + more ≤ most

-- What a call there may use is at most this.
abbrev pub AreUsed : Code → ℕ → ℕ → ℕ → Type 0
AreUsed code function place most = (callee more : ℕ) → slice_get code.instrs place ≡ Some (instr.Call callee) → callee < function → IsCounted code callee
    → MayUse code callee more → more ≤ most

-- Some call of the function uses so much.
abbrev pub IsUsed : Code → ℕ → ℕ → Type 0
IsUsed code function used = (place callee : ℕ) × IsReached code (Function function) place × (slice_get code.instrs place ≡ Some (instr.Call callee))
    × (callee < function) × IsCounted code callee × MayUse code callee used

-- What a function needs at the first so many of its places, but its own frame
pub record IsGathered (code : Code) (function : ℕ) (places : List ℕ) (visited : ℕ) (need : Need) : Type 0 where
  pub held : MayHold code function need.held
  pub used : (need.used ≡ 0) ⊎ IsUsed code function need.used
  pub all_held : (k : ℕ) → k < visited → k < length places → AreHeld code function (get_or places k 0) need.held
  pub all_used : (k : ℕ) → k < visited → k < length places → AreUsed code function (get_or places k 0) need.used
  pub held_few : need.held ≤ (function + 1) * 2 ^ 34
  pub used_few : need.used ≤ function * 2 ^ 34
