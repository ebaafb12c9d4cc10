-- One agent with a variable, by declarations alone, and code of it, made of any instructions.
use Rattle.std.specs.Prelude.{ℕ, List, [], ◌∷◌, pos}
use Rattle.psy_base.specs.declared.sizes.Sizes.{Sizes}
use Rattle.psy_code.specs.declared.code.Code.{Code}
use Rattle.psy_code.specs.declared.instr.Instr.{Instr}
use Rattle.psy_tree.specs.declared.unit.Unit.{Unit as Whole}
use Rattle.psy_byhand.specs.Laps.{agent_of, onwards, tenth, variable_of}

-- The clock `c`, the variable `v` and its owner `A`, with so many cycles a tick and an action
abbrev pub unit_of : ℕ → ℕ → Whole
unit_of quantum budget = record {
  quantum = quantum;
  clocks = tenth ∷ [];
  clock_names = (99 ∷ []) ∷ [];
  variables = variable_of 0 ∷ [];
  streams = [];
  functions = [];
  agents = agent_of 65 budget ∷ [];
}

abbrev pub nexts : List (List (List ℕ))
nexts = onwards ∷ []

-- Both points of the agent stand at the first instruction. It has a copy of its variable, and room for two operands.
abbrev pub code_of : List Instr → Code
code_of instrs = record {
  instrs = instrs;
  agents = record { points = 0 ∷ 0 ∷ []; cells = []; counters = 0; copies = record { variable = 0; init = pos 0 } ∷ []; stack = 2; frames = 0 } ∷ [];
  functions = [];
}

-- A ring of so many places, and room for no message
abbrev pub sizes_of : ℕ → Sizes
sizes_of places = record { rings = places ∷ []; queues = []; outboxes = 0 ∷ [] }
