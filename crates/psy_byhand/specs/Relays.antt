-- Two agents with a stream from one to the other, by declarations alone, and code of them, made of any instructions.
use Rattle.std.specs.Prelude.{ℕ, List, [], ◌∷◌, pos}
use Rattle.psy_base.specs.declared.sizes.Sizes.{Sizes}
use Rattle.psy_code.specs.declared.code.AgentCode.{AgentCode}
use Rattle.psy_code.specs.declared.code.Code.{Code}
use Rattle.psy_code.specs.declared.instr.Instr.{Instr}
use Rattle.psy_tree.specs.declared.unit.StreamDecl.{StreamDecl}
use Rattle.psy_tree.specs.declared.unit.Unit.{Unit as Whole}
use Rattle.psy_byhand.specs.Laps.{agent_of, onwards, tenth, variable_of}

-- The stream `s` to the second agent, whose messages last for one date of the clock
abbrev pub stream : StreamDecl
stream = record { name = 115 ∷ []; receiver = 1; keep = 1; clock = 0 }

-- The clock `c`, the variable `v` of `B`, the stream, and the agents `A` and `B`, with so many cycles a tick and an action
abbrev pub unit_of : ℕ → ℕ → Whole
unit_of quantum budget = record {
  quantum = quantum;
  clocks = tenth ∷ [];
  clock_names = (99 ∷ []) ∷ [];
  variables = variable_of 1 ∷ [];
  streams = stream ∷ [];
  functions = [];
  agents = agent_of 65 budget ∷ agent_of 66 budget ∷ [];
}

abbrev pub nexts : List (List (List ℕ))
nexts = onwards ∷ onwards ∷ []

-- The first agent: both points at the first instruction, and room for one operand
abbrev pub sender_code : AgentCode
sender_code = record { points = 0 ∷ 0 ∷ []; cells = []; counters = 0; copies = []; stack = 1; frames = 0 }

-- The second one: its points at places 7 and 3, a copy of its variable, and room for two operands
abbrev pub receiver_code : AgentCode
receiver_code = record { points = 7 ∷ 3 ∷ []; cells = []; counters = 0; copies = record { variable = 0; init = pos 0 } ∷ []; stack = 2; frames = 0 }

abbrev pub code_of : List Instr → Code
code_of instrs = record { instrs = instrs; agents = sender_code ∷ receiver_code ∷ []; functions = [] }

-- A ring and a queue of so many places, and room for so many messages of an action of the first agent
abbrev pub sizes_of : ℕ → ℕ → ℕ → Sizes
sizes_of ring queue outbox = record { rings = ring ∷ []; queues = queue ∷ []; outboxes = outbox ∷ 0 ∷ [] }
