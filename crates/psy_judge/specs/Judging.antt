-- What is judged owner by owner.
use Rattle.std.specs.Prelude.{◌≡◌, ◌↔◌, ℕ, ◌+◌, ◌*◌, ◌<◌, ◌≤◌, ◌^◌, List, length, Option, None, Some, slice_get, ⊤}
use Rattle.std.specs.List.{Contains}
use Rattle.psy_base.specs.declared.limits.TheConstants.{FUNCTIONS, NAMES}
use Rattle.psy_code.specs.declared.code.Code.{Code}
use Rattle.psy_code.specs.declared.instr.Instr.{Instr}
use Rattle.psy_tree.specs.declared.unit.Unit.{Unit as Whole}
use Rattle.psy_meaning.specs.CodeWays.{GoesOn}
use Rattle.psy_flow.specs.Owners.{Agent, Begins, Function, IsReached, Owner, function_code_at}
use Rattle.psy_flow.specs.Heights.{IsBalanced}
use Rattle.psy_flow.specs.Marks.{HasEndFor}
use Rattle.psy_flow.specs.Needs.{FitsFrames, FitsStack, IsCounted, MayHold, MayUse}
use Rattle.psy_flow.specs.Verified.{Apart, Balanced, Framed, Inside, IsFramed, IsLed, IsNamed, IsOrdered, Led, Named, Ordered, Rule}
use Rattle.psy_judge.specs.declared.needs.Need.{Need}
use Rattle.psy_judge.specs.Highest.{Covers, IsFound}
use Rattle.psy_judge.specs.declared.heights.Top.{Top}
use Rattle.psy_judge.specs.Deciding.{need_at}

-- What an image keeps: no more instructions than places can be numbered, and so many functions with so many locals
pub record IsSized (code : Code) : Type 0 where
  pub instrs : length code.instrs < 2 ^ 32
  pub functions : length code.functions ≤ FUNCTIONS
  pub locals : (number : ℕ) → length (function_code_at code number).locals ≤ NAMES

-- The code has the agent or the function.
abbrev pub IsThere : Code → Owner → Type 0
IsThere code (Agent number) = number < length code.agents
IsThere code (Function number) = number < length code.functions

-- The owner is one of the first so many functions and agents.
abbrev pub IsDone : ℕ → ℕ → Owner → Type 0
IsDone functions agents (Agent number) = number < agents
IsDone functions agents (Function number) = number < functions

-- It is judged before another: functions come first.
abbrev pub IsEarlier : Code → Owner → Owner → Type 0
IsEarlier code (Function number) = IsDone number 0
IsEarlier code (Agent number) = IsDone (length code.functions) number

-- ---- a place

-- Where the owner begins there, the place is in the code, and so is each place where its ways go on from there.
pub record IsInsideFor (code : Code) (owner : Owner) (place : ℕ) : Type 0 where
  pub start : Begins code owner place → place < length code.instrs
  pub next : (i : Instr) (next : ℕ) → IsReached code owner place → slice_get code.instrs place ≡ Some i → GoesOn i place next → next < length code.instrs

-- What holds of the instruction at the place, where the owner reaches it
abbrev pub Here : Code → Owner → ℕ → (Instr → Type 0) → Type 0
Here code owner place Says = (i : Instr) → IsReached code owner place → slice_get code.instrs place ≡ Some i → Says i

-- An agent has room for its operands; a function has none of its own.
abbrev pub FitsStackOf : Code → Owner → ℕ → Type 0
FitsStackOf code (Agent number) place = FitsStack code number place
FitsStackOf code (Function number) place = ⊤

-- An agent has room for the frames of calls.
abbrev pub FitsFramesOf : Code → Owner → ℕ → Type 0
FitsFramesOf code (Agent number) place = FitsFrames code number place
FitsFramesOf code (Function number) place = ⊤

-- What a rule says of a place in the code for one owner
abbrev pub RuleFor : Whole → Code → Owner → ℕ → Rule → Type 0
RuleFor unit code owner place Inside = IsInsideFor code owner place
RuleFor unit code owner place Apart = ⊤
RuleFor unit code owner place Balanced = place < length code.instrs → IsBalanced code owner place × FitsStackOf code owner place
RuleFor unit code owner place Framed = place < length code.instrs → Here code owner place (IsFramed code owner) × FitsFramesOf code owner place
RuleFor unit code owner place Named = place < length code.instrs → Here code owner place (IsNamed unit code owner)
RuleFor unit code owner place Ordered = place < length code.instrs → Here code owner place (IsOrdered owner)
RuleFor unit code owner place Led = place < length code.instrs
    → Here code owner place (IsLed code owner place) × (IsReached code owner place → HasEndFor code owner place)

-- None of these others reaches a place of the code that the owner reaches.
abbrev pub IsAlone : Code → (Owner → Type 0) → Owner → ℕ → Type 0
IsAlone code Done owner place = place < length code.instrs → IsReached code owner place → (other : Owner) → Done other → IsReached code other place → ⊥

-- What a rule says of a place for one owner, beside these others
abbrev pub KeepsFor : Whole → Code → (Owner → Type 0) → Owner → ℕ → Rule → Type 0
KeepsFor unit code Done owner place rule = RuleFor unit code owner place rule × (rule ≡ Apart → IsAlone code Done owner place)

-- No two of these owners reach a place of the code.
abbrev pub AreApart : Code → (Owner → Type 0) → ℕ → Type 0
AreApart code Done place = place < length code.instrs → (owner other : Owner) → Done owner → Done other
    → IsReached code owner place → IsReached code other place → owner ≡ other

-- What a rule says of a place for all these owners
abbrev pub KeptBy : Whole → Code → (Owner → Type 0) → ℕ → Rule → Type 0
KeptBy unit code Done place rule = ((owner : Owner) → Done owner → RuleFor unit code owner place rule) × (rule ≡ Apart → AreApart code Done place)

-- ---- what is known meanwhile

-- What is kept of the heights at a place: they are found, and all are covered.
pub record IsTop (Has : ℕ → Type 0) (t : Top) : Type 0 where
  pub found : IsFound Has t
  pub covered : (height : ℕ) → Has height → Covers t height

-- One of these owners reaches the place.
abbrev pub IsTaken : Code → (Owner → Type 0) → ℕ → Type 0
IsTaken code Done place = (other : Owner) × Done other × IsReached code other place

-- It is the greatest of these.
abbrev pub IsGreatest : (ℕ → Type 0) → ℕ → Type 0
IsGreatest Has most = Has most × ((n : ℕ) → Has n → n ≤ most)

-- What a function needs that is counted: a function that isn't has no need.
pub record IsNeed (code : Code) (function : ℕ) (need : Need) : Type 0 where
  pub counted : IsCounted code function
  pub held : IsGreatest (MayHold code function) need.held
  pub used : IsGreatest (MayUse code function) need.used
  pub held_few : need.held ≤ (function + 1) * 2 ^ 34
  pub used_few : need.used ≤ (function + 1) * 2 ^ 34

abbrev pub IsNeedOf : Code → ℕ → Option Need → Type 0
IsNeedOf code function None = IsCounted code function → ⊥
IsNeedOf code function (Some need) = IsNeed code function need

-- The needs of the first so many functions
pub record AreNeeds (code : Code) (count : ℕ) (needs : List (Option Need)) : Type 0 where
  pub size : length needs ≡ count
  pub each : (function : ℕ) → function < count → IsNeedOf code function (need_at needs function)

-- These are the places of the code that the owner reaches.
abbrev pub AreReached : Code → Owner → List ℕ → Type 0
AreReached code owner places = (place : ℕ) → Contains places place ↔ ((place < length code.instrs) × IsReached code owner place)
