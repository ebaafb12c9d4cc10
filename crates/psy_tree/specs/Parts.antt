-- The parts of a program, by number, and what stands where there is no part of that number.
use Rattle.std.specs.Prelude.{ℕ, List, [], get_or, map, None, pos}
use Rattle.psy_clock.specs.declared.clock.Clock.{Clock}
use Rattle.psy_tree.specs.declared.unit.AgentDecl.{AgentDecl}
use Rattle.psy_tree.specs.declared.unit.StreamDecl.{StreamDecl}
use Rattle.psy_tree.specs.declared.unit.Unit.{Unit as Whole}
use Rattle.psy_tree.specs.declared.unit.VarDecl.{VarDecl}

-- The clock of all ticks
abbrev pub no_clock : Clock
no_clock = record { period = 1; first = 0 }

-- An input of value 0
abbrev pub no_variable : VarDecl
no_variable = record { name = []; owner = None; clock = 0; init = pos 0; depth = 0 }

-- A stream to the first agent
abbrev pub no_stream : StreamDecl
no_stream = record { name = []; receiver = 0; keep = 1; clock = 0 }

-- An agent of processor 0 without points
abbrev pub no_agent : AgentDecl
no_agent = record { name = []; clock = 0; processor = 0; budget = 0; slots = []; points = []; stmts = [] }

-- The clock of a number
abbrev pub clock_in : Whole → ℕ → Clock
clock_in unit clock = get_or unit.clocks clock no_clock

-- The variable of a number
abbrev pub variable_at : Whole → ℕ → VarDecl
variable_at unit variable = get_or unit.variables variable no_variable

-- The stream of a number
abbrev pub stream_at : Whole → ℕ → StreamDecl
stream_at unit stream = get_or unit.streams stream no_stream

-- The agent of a number
abbrev pub agent_at : Whole → ℕ → AgentDecl
agent_at unit agent = get_or unit.agents agent no_agent

-- By agent, the processor that runs it
abbrev pub homes : Whole → List ℕ
homes unit = map (λ agent. agent.processor) unit.agents
