-- What the rules say of an instruction, as it is computed.
use Rattle.std.specs.Prelude.{ℕ, ◌+◌, ◌-◌, Bool, true, false, ◌&&◌, nat_eq, nat_le, nat_lt, List, get_or, length, Option, None, Some, slice_get}
use Rattle.psy_base.specs.declared.limits.TheConstants.{AFTER}
use Rattle.psy_code.specs.declared.code.Code.{Code}
use Rattle.psy_code.specs.declared.instr.Instr.{Instr}
use Rattle.psy_code.specs.declared.instr.Instr.TheVariants as instr
use Rattle.psy_tree.specs.declared.unit.StreamDecl.{StreamDecl}
use Rattle.psy_tree.specs.declared.unit.Unit.{Unit as Whole}
use Rattle.psy_tree.specs.declared.unit.VarDecl.{VarDecl}
use Rattle.psy_meaning.specs.CodeWays.{agent_code_at}
use Rattle.psy_flow.specs.Owners.{Agent, Function, Owner, function_code_at}
use Rattle.psy_judge.specs.declared.heights.Top.{Top}
use Rattle.psy_judge.specs.declared.heights.Top.TheVariants as top
use Rattle.psy_judge.specs.declared.needs.Need.{Need}
use Rattle.psy_judge.specs.declared.steps.Step.{Step}
use Rattle.psy_judge.specs.declared.steps.Steps.{Steps}
use Rattle.psy_judge.specs.declared.walked.Onward.{Onward}
use Rattle.psy_judge.specs.declared.whose.Whose.{Whose}
use Rattle.psy_judge.specs.declared.whose.Whose.TheVariants as whose

-- The owner that is meant
abbrev pub owner_of : Whose → Owner
owner_of (whose.Agent number) = Agent number
owner_of (whose.Function number) = Function number

-- ---- places

-- The place, if there is one, is one of the first so many.
abbrev pub lies_in : Option ℕ → ℕ → Bool
lies_in None count = true
lies_in (Some place) count = nat_lt place count

-- Each place where a way goes on is one of them.
abbrev pub stays_by : Onward → ℕ → Bool
stays_by to count = lies_in to.next count && lies_in to.jump count

-- ---- heights

-- The way on, if there is one, finds at the height what it pops.
abbrev pub finds_on : Option Step → ℕ → Bool
finds_on None height = true
finds_on (Some step) height = nat_le step.pops height

-- The instruction finds what it pops, on both ways on; a `Return` its value alone, and an `Advance` nothing.
abbrev pub finds_by : Instr → Steps → ℕ → Bool
finds_by instr.Return on height = nat_eq height 1
finds_by (instr.Advance point) on height = nat_eq height 0
finds_by _ on height = finds_on on.next height && finds_on on.jump height

-- There is one height at most, at which it does.
abbrev pub balanced_by : Instr → Steps → Top → Bool
balanced_by i on top.Nothing = true
balanced_by i on (top.One height) = finds_by i on height
balanced_by i on _ = false

-- The function that is called, if it is a call
abbrev pub called : Instr → Option ℕ
called (instr.Call function) = Some function
called _ = None

-- What a function needs that is counted
abbrev pub need_at : List (Option Need) → ℕ → Option Need
need_at needs function = get_or needs function None

-- A need above what is left passes no stack of this size.
abbrev pub need_fits : Option Need → ℕ → ℕ → Bool
need_fits None left stack = true
need_fits (Some need) left stack = nat_le (left + need.held) stack

-- A call, if there is one, leaves room for what its function needs.
abbrev pub call_fits : Code → List (Option Need) → ℕ → Option ℕ → ℕ → Bool
call_fits code needs stack None height = true
call_fits code needs stack (Some function) height = need_fits (need_at needs function) (height - (function_code_at code function).params) stack

-- There is room for the height, and for that of a call.
abbrev pub stack_fits : Code → List (Option Need) → ℕ → Instr → ℕ → Bool
stack_fits code needs stack i height = nat_le height stack && call_fits code needs stack (called i) height

-- The same for an owner: a function has no stack of its own.
abbrev pub held_by : Code → List (Option Need) → Owner → Instr → ℕ → Bool
held_by code needs (Agent number) i height = stack_fits code needs (agent_code_at code number).stack i height
held_by code needs (Function number) i height = true

-- All that rule 3 says of a place
abbrev pub level_by : Code → List (Option Need) → Owner → Instr → Steps → Top → Bool
level_by code needs owner i on top.Nothing = true
level_by code needs owner i on (top.One height) = finds_by i on height && held_by code needs owner i height
level_by code needs owner i on _ = false

-- ---- frames

-- Its cells and its counter lie in the owner's frame.
abbrev pub framed_by : ℕ → ℕ → Instr → Bool
framed_by cells counters (instr.Load cell) = nat_lt cell cells
framed_by cells counters (instr.Store cell) = nat_lt cell cells
framed_by cells counters (instr.LoadCell base count) = nat_le (base + count) cells
framed_by cells counters (instr.StoreCell base count) = nat_le (base + count) cells
framed_by cells counters (instr.Zero counter) = nat_lt counter counters
framed_by cells counters (instr.Guard counter bound) = nat_lt counter counters
framed_by cells counters _ = true

-- What a function uses passes no room of this size.
abbrev pub use_fits : Option Need → ℕ → Bool
use_fits None frames = true
use_fits (Some need) frames = nat_le need.used frames

-- There is room for the frames of a call, if there is one.
abbrev pub frames_fit : List (Option Need) → ℕ → Option ℕ → Bool
frames_fit needs frames None = true
frames_fit needs frames (Some function) = use_fits (need_at needs function) frames

-- The same for an owner: a function has no room of its own.
abbrev pub used_by : Code → List (Option Need) → Owner → Instr → Bool
used_by code needs (Agent number) i = frames_fit needs (agent_code_at code number).frames (called i)
used_by code needs (Function number) i = true

-- ---- names

-- It is this number.
abbrev pub is_number : Option ℕ → ℕ → Bool
is_number None number = false
is_number (Some n) number = nat_eq n number

-- The variable is there, and the agent owns it.
abbrev pub is_owned : Option VarDecl → ℕ → Bool
is_owned None number = false
is_owned (Some decl) number = is_number decl.owner number

-- The stream is there, and the agent receives it.
abbrev pub is_heard : Option StreamDecl → ℕ → Bool
is_heard None number = false
is_heard (Some decl) number = nat_eq decl.receiver number

-- The variable is there, and can be looked back so far.
abbrev pub is_deep : Option VarDecl → ℕ → Bool
is_deep None back = false
is_deep (Some decl) back = nat_lt back decl.depth

abbrev pub owns_by : Whole → Owner → ℕ → Bool
owns_by unit (Agent number) variable = is_owned (slice_get unit.variables variable) number
owns_by unit (Function number) variable = nat_lt variable (length unit.variables)

abbrev pub hears_by : Whole → Owner → ℕ → Bool
hears_by unit (Agent number) stream = is_heard (slice_get unit.streams stream) number
hears_by unit (Function number) stream = nat_lt stream (length unit.streams)

-- What it names is there.
abbrev pub named_by : Whole → Code → Owner → Instr → Bool
named_by unit code owner (instr.LoadCopy variable) = owns_by unit owner variable
named_by unit code owner (instr.StoreCopy variable) = owns_by unit owner variable
named_by unit code owner (instr.Past variable back) = is_deep (slice_get unit.variables variable) back
named_by unit code owner (instr.Ready stream) = hears_by unit owner stream
named_by unit code owner (instr.Take stream) = hears_by unit owner stream
named_by unit code owner (instr.Send stream after clock) = nat_lt stream (length unit.streams) && (nat_lt clock (length unit.clocks) && nat_le after AFTER)
named_by unit code owner (instr.Call function) = nat_lt function (length code.functions)
named_by unit code owner _ = true

-- ---- order

-- A function of this number may do this.
abbrev pub may_do : ℕ → Instr → Bool
may_do number (instr.Call function) = nat_lt function number
may_do number (instr.LoadCopy variable) = false
may_do number (instr.StoreCopy variable) = false
may_do number (instr.Past variable back) = false
may_do number (instr.Ready stream) = false
may_do number (instr.Take stream) = false
may_do number (instr.Send stream after clock) = false
may_do number (instr.Advance point) = false
may_do number _ = true

abbrev pub ordered_by : Owner → Instr → Bool
ordered_by (Agent number) i = true
ordered_by (Function number) i = may_do number i

-- ---- points

-- An `Advance` names a point behind the first, which is the next place.
abbrev pub leads_by : List ℕ → ℕ → Instr → Bool
leads_by points place (instr.Advance point) = nat_le 1 point && is_number (slice_get points point) (place + 1)
leads_by points place _ = true

-- It does, and a way goes on from it to an `Advance`, where it is an agent's.
abbrev pub led_by : Code → Owner → ℕ → Instr → Bool → Bool
led_by code (Agent number) place i ends = leads_by (agent_code_at code number).points place i && ends
led_by code (Function number) place i ends = true

-- ---- the first

-- The number of the first rule that isn't kept
abbrev pub first_of : Bool → Bool → Bool → Bool → Bool → Bool → Bool → Option ℕ
first_of true true true true true true true = None
first_of true true true true true true false = Some 7
first_of true true true true true false led = Some 6
first_of true true true true false ordered led = Some 5
first_of true true true false named ordered led = Some 4
first_of true true false framed named ordered led = Some 3
first_of true false level framed named ordered led = Some 2
first_of false alone level framed named ordered led = Some 1
