-- The format of an image: its parts in order, each with its fields.
use Rattle.std.specs.Prelude.{ℕ, ℤ, ◌+◌, ◌-◌, ◌^◌, ◌==◌, nat_lt, if◌then◌else◌, List, [], ◌∷◌, ◌++◌, length, Option, Some, None, ⊤}
use Rattle.psy_base.specs.declared.limits.TheConstants.{ADVANCE, AGENTS, BUDGET, CLOCKS, DEPTH, FUNCTIONS}
use Rattle.psy_base.specs.declared.limits.TheConstants.{KEEP, NAMES, POINTS, PROCESSORS, QUANTUM, STREAMS, VARIABLES}
use Rattle.psy_clock.specs.declared.clock.Clock.{Clock}
use Rattle.psy_clock.specs.declared.clock.TheConstants.{PERIOD}
use Rattle.psy_code.specs.declared.code.AgentCode.{AgentCode}
use Rattle.psy_code.specs.declared.code.CopyInit.{CopyInit}
use Rattle.psy_code.specs.declared.code.FunctionCode.{FunctionCode}
use Rattle.psy_code.specs.declared.instr.Instr.{Instr}
use Rattle.psy_image.specs.declared.agents.AgentLists.{AgentLists}
use Rattle.psy_image.specs.declared.image.Image.{Image}
use Rattle.psy_image.specs.declared.limits.TheConstants.{AGENT_CELLS, COUNTERS, FRAMES, STACK}
use Rattle.psy_image.specs.declared.seen.Claim.{Claim}
use Rattle.psy_image.specs.declared.seen.Seen.{Seen}
use Rattle.psy_image.specs.Fields.{Number, Signed, Name, These, End}
use Rattle.psy_image.specs.Formats.{Format, Done, Refuse, Spells, ◌>>=◌, field, left, times, each}
use Rattle.psy_image.specs.Instructions.{any, instruction}
use Rattle.psy_tree.specs.declared.unit.AgentDecl.{AgentDecl}
use Rattle.psy_tree.specs.declared.unit.Point.{Point}
use Rattle.psy_tree.specs.declared.unit.StreamDecl.{StreamDecl}
use Rattle.psy_tree.specs.declared.unit.VarDecl.{VarDecl}

-- A number between both, these included
abbrev pub number : ℕ → ℕ → Format ℕ
number least most = field (Number least most)

-- The number of one of so many things, from 0 on. Where there are none, no number is in range.
abbrev pub below : ℕ → Format ℕ
below count = number (1 - count) (count - 1)

-- A list of at most so many: its count, and then each of its members, read by a step
abbrev pub counted : {S : Type 0} → ℕ → (S → Format S) → S → Format S
counted most step s = number 0 most >>= λ count. times count step s

-- A value, behind others
unfoldable pub value : List ℤ → Format (List ℤ)
value values = field Signed >>= λ z. Done (values ++ z ∷ [])

-- At most so many values
unfoldable pub values_up_to : ℕ → Format (List ℤ)
values_up_to most = counted most value []

-- A clock, behind others: its name, its period and its first date, which is below the period
unfoldable pub clock : List (List ℕ) × List Clock → Format (List (List ℕ) × List Clock)
clock s = do
  name ← field (Name s.0)
  period ← number 1 PERIOD
  first ← below period
  Done (s.0 ++ name ∷ [], s.1 ++ (record { period = period; first = first }) ∷ [])

-- The clocks, with their names
unfoldable pub clocks : Format (List (List ℕ) × List Clock)
clocks = counted CLOCKS clock ([], [])

-- The owner that a number says: the number is one more, and 0 stands for none.
abbrev pub owner_of : ℕ → Option ℕ
owner_of owner = if owner == 0 then None else Some (owner - 1)

-- The agent that owns a variable, if one does, with how many bytes were left at its field
abbrev pub claim_of : ℕ → ℕ → List Claim
claim_of owner at = if owner == 0 then [] else record { agent = owner - 1; left = at } ∷ []

-- What was seen, and then a name and perhaps an agent
abbrev pub seeing : Seen → List ℕ → List Claim → Seen
seeing seen name claims = record { names = seen.names ++ name ∷ []; claims = seen.claims ++ claims }

-- A temporal variable or an input, behind others: its name, the number of its owner plus 1 or 0, its clock, its first value
-- and its depth
unfoldable pub variable : ℕ → Seen × List VarDecl → Format (Seen × List VarDecl)
variable clocks s = do
  name ← field (Name s.0.names)
  at ← left
  owner ← any
  clock ← below clocks
  init ← field Signed
  depth ← number 1 DEPTH
  Done (seeing s.0 name (claim_of owner at), s.1 ++ (record { name = name; owner = owner_of owner; clock = clock; init = init; depth = depth }) ∷ [])

-- The variables
unfoldable pub variables : ℕ → Seen → Format (Seen × List VarDecl)
variables clocks seen = counted VARIABLES (variable clocks) (seen, [])

-- A stream, behind others: its name, its receiver, for how many dates a message is kept, and of which clock
unfoldable pub stream : ℕ → Seen × List StreamDecl → Format (Seen × List StreamDecl)
stream clocks s = do
  name ← field (Name s.0.names)
  at ← left
  receiver ← any
  keep ← number 1 KEEP
  clock ← below clocks
  Done (seeing s.0 name ((record { agent = receiver; left = at }) ∷ []), s.1 ++ (record { name = name; receiver = receiver; keep = keep; clock = clock }) ∷ [])

-- The streams
unfoldable pub streams : ℕ → Seen → Format (Seen × List StreamDecl)
streams clocks seen = counted STREAMS (stream clocks) (seen, [])

-- A function, behind others: its place, its parameters, the first values of its locals, and its counters. Parameters and
-- locals are at most 64.
unfoldable pub function : List FunctionCode → Format (List FunctionCode)
function functions = do
  entry ← any
  params ← number 0 NAMES
  locals ← values_up_to (NAMES - params)
  counters ← number 0 COUNTERS
  Done (functions ++ (record { entry = entry; params = params; locals = locals; counters = counters }) ∷ [])

-- The functions
unfoldable pub functions : Format (List FunctionCode)
functions = counted FUNCTIONS function []

-- Each owner and receiver is one of so many agents; else the first that isn't is out of range.
unfoldable pub judged : ℕ → List Claim → Format ⊤
judged agents [] = Done tt
judged agents (claim ∷ claims) = if nat_lt claim.agent agents then judged agents claims else Refuse claim.left

-- A point of an `advance`, behind others: its count, its clock, the budget of the action, and its place
unfoldable pub point : ℕ → List Point × List ℕ → Format (List Point × List ℕ)
point clocks s = do
  count ← number 1 ADVANCE
  clock ← below clocks
  budget ← number 1 BUDGET
  place ← any
  Done (s.0 ++ (record { count = count; clock = clock; budget = budget }) ∷ [], s.1 ++ place ∷ [])

-- Point 0: its count is 0, and its clock and budget are those of the agent.
unfoldable pub head : ℕ → ℕ → Format (List Point × List ℕ)
head clock budget = do
  none ← number 0 0
  same_clock ← number clock clock
  same_budget ← number budget budget
  place ← any
  Done ((record { count = none; clock = same_clock; budget = same_budget }) ∷ [], place ∷ [])

-- The points of an agent, of which there is at least point 0, with their places
unfoldable pub points : ℕ → ℕ → ℕ → Format (List Point × List ℕ)
points clocks clock budget = do
  count ← number 1 POINTS
  first ← head clock budget
  times (count - 1) (point clocks) first

-- The number, where the agent is the owner
abbrev pub owned_one : ℕ → ℕ → Option ℕ → List ℕ
owned_one agent number None = []
owned_one agent number (Some owner) = if owner == agent then number ∷ [] else []

-- The numbers of the variables that an agent owns, of these, which are counted from that number on
abbrev pub owned_from : ℕ → ℕ → List VarDecl → List ℕ
owned_from agent number [] = []
owned_from agent number (v ∷ rest) = owned_one agent number v.owner ++ owned_from agent (number + 1) rest

-- A copy, behind others: its variable is this one, and its first value any
unfoldable pub copy : ℕ → List CopyInit → Format (List CopyInit)
copy owned so_far = do
  variable ← number owned owned
  init ← field Signed
  Done (so_far ++ (record { variable = variable; init = init }) ∷ [])

-- The copies of these variables, one of each, in order
unfoldable pub copies : List ℕ → Format (List CopyInit)
copies owned = number (length owned) (length owned) >>= λ count. each owned copy []

-- What an agent declares, with the places of its points: its name, its clock, its budget, its processor, and its points
unfoldable pub declaration : ℕ → List (List ℕ) → Format (AgentDecl × List ℕ)
declaration clocks names = do
  name ← field (Name names)
  clock ← below clocks
  budget ← number 1 BUDGET
  processor ← number 0 (PROCESSORS - 1)
  its_points ← points clocks clock budget
  Done (record { name = name; clock = clock; processor = processor; budget = budget; slots = []; points = its_points.0; stmts = [] }, its_points.1)

-- What an agent's machine is made from, behind the places of its points: the first values of its cells, its counters, its
-- copies, and how deep its operands and its calls go
unfoldable pub machine : List ℕ → List ℕ → Format AgentCode
machine owned places = do
  cells ← values_up_to AGENT_CELLS
  counters ← number 0 COUNTERS
  its_copies ← copies owned
  stack ← number 0 STACK
  frames ← number 0 FRAMES
  Done (record { points = places; cells = cells; counters = counters; copies = its_copies; stack = stack; frames = frames })

-- An agent, behind others
unfoldable pub agent : ℕ → List VarDecl → AgentLists → Format AgentLists
agent clocks variables s = do
  its ← declaration clocks s.names
  code ← machine (owned_from (length s.agents) 0 variables) its.1
  Done (record { names = s.names ++ its.0.name ∷ []; agents = s.agents ++ its.0 ∷ []; codes = s.codes ++ code ∷ [] })

-- The agents. By their count owners and receivers are judged.
unfoldable pub agents : ℕ → List VarDecl → Seen → Format AgentLists
agents clocks variables seen = do
  count ← number 0 AGENTS
  good ← judged count seen.claims
  times count (agent clocks variables) (record { names = seen.names; agents = []; codes = [] })

-- An instruction, behind others
unfoldable pub instr : List Instr → Format (List Instr)
instr instrs = instruction >>= λ i. Done (instrs ++ i ∷ [])

-- The instructions
unfoldable pub instrs : Format (List Instr)
instrs = counted (2 ^ 32 - 1) instr []

-- An image: `PSYC` and a 1, the cycles of a tick, and the parts, behind which nothing stands
unfoldable pub image : Format Image
image = do
  magic ← field (These (80 ∷ 83 ∷ 89 ∷ 67 ∷ 1 ∷ []))
  quantum ← number 1 QUANTUM
  its_clocks ← clocks
  its_variables ← variables (length its_clocks.1) (record { names = its_clocks.0; claims = [] })
  its_streams ← streams (length its_clocks.1) its_variables.0
  its_functions ← functions
  its_agents ← agents (length its_clocks.1) its_variables.1 its_streams.0
  its_instrs ← instrs
  end ← field End
  Done (record {
    unit = record {
      quantum = quantum;
      clocks = its_clocks.1;
      clock_names = its_clocks.0;
      variables = its_variables.1;
      streams = its_streams.1;
      functions = [];
      agents = its_agents.agents;
    };
    code = record { instrs = its_instrs; agents = its_agents.codes; functions = its_functions };
  })

-- The bytes are an image, all of them.
unfoldable pub spells_image : Image → List ℕ → Type 0
spells_image it bytes = Spells image bytes it []
