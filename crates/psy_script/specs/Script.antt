-- The script that a text states: stalls, orders and rounds.
use Rattle.std.specs.Prelude.{◌≡◌, ℕ, Bool, true, false, not, ◌==◌, ◌&&◌, ◌||◌, nat_le, nat_lt, if◌then◌else◌, List, [], ◌∷◌, map, length, Option}
use Rattle.std.specs.Prelude.{Some, None, option_and_then, option_map, option_to_list, bytes_eq, codes}
use Rattle.std.specs.List.{flat_map, list_all, list_any, position_or_len}
use Rattle.psy_base.specs.declared.limits.TheConstants.{RUN, STALL}
use Rattle.psy_budget.specs.declared.charge.Stall.{Stall}
use Rattle.psy_tree.specs.declared.unit.AgentDecl.{AgentDecl}
use Rattle.psy_tree.specs.declared.unit.Unit.{Unit as Whole}
use Rattle.psy_history.specs.Processors.{processors}
use Rattle.psy_history.specs.declared.told.Order.{Order}
use Rattle.psy_history.specs.declared.told.Round.{Round}
use Rattle.psy_history.specs.declared.told.Script.{Script}
use Rattle.psy_script.specs.declared.fault.LineKind.{LineKind}
use Rattle.psy_script.specs.declared.fault.LineKind.TheVariants.{BadLine, NoSuchName, Again, Range}
use Rattle.psy_script.specs.Faults.{Judge, IsLawful}
use Rattle.psy_text.specs.Lines.{is_skipped}
use Rattle.psy_text.specs.Lines.{lines_of}
use Rattle.psy_text.specs.Words.{words_of, number_of}
use Rattle.psy_script.specs.Rising.{rising}

-- What a line of a script says: so many cycles are spent before an instruction of an action; or ties go by an order from a cycle on; or the
-- processors do their units of a cycle in a round from a cycle on.
pub data Statement : Type 0 where
  Stalls : (agent : List ℕ) (action instr cycles : ℕ) → Statement
  Orders : (cycle : ℕ) (agents : List (List ℕ)) → Statement
  Rounds : (cycle : ℕ) (processors : List ℕ) → Statement

-- `AGENT ACTION INSTRUCTION CYCLES`, with what its words are as numbers
abbrev pub stall_with : List ℕ → Option ℕ → Option ℕ → Option ℕ → Option Statement
stall_with agent (Some action) (Some instr) (Some cycles) = Some (Stalls agent action instr cycles)
stall_with agent _ _ _ = None

-- `AGENT ACTION INSTRUCTION CYCLES`
abbrev pub stall_in : List (List ℕ) → Option Statement
stall_in (agent ∷ action ∷ instr ∷ cycles ∷ []) = stall_with agent (number_of action) (number_of instr) (number_of cycles)
stall_in _ = None

-- `CYCLE AGENT AGENT ..`, which names so many agents
abbrev pub order_in : ℕ → List (List ℕ) → Option Statement
order_in agents [] = None
order_in agents (cycle ∷ names) = if length names == agents then option_map (λ n. Orders n names) (number_of cycle) else None

-- The numbers that these words are, where each is one
abbrev pub numbers_of : List (List ℕ) → Option (List ℕ)
numbers_of [] = Some []
numbers_of (word ∷ words) = option_and_then (λ n. option_map (λ numbers. n ∷ numbers) (numbers_of words)) (number_of word)

-- `CYCLE N N ..`, which has so many numbers behind its cycle
abbrev pub round_in : ℕ → List (List ℕ) → Option Statement
round_in processors [] = None
round_in processors (cycle ∷ words) =
    if length words == processors then option_and_then (λ n. option_map (Rounds n) (numbers_of words)) (number_of cycle) else None

-- `stall ..`, `order ..` or `round ..`, in a program of so many agents and processors
abbrev pub statement_in : ℕ → ℕ → List (List ℕ) → Option Statement
statement_in agents processors [] = None
statement_in agents processors (word ∷ words) =
    if bytes_eq word (codes "stall") then stall_in words
    else if bytes_eq word (codes "order") then order_in agents words
    else if bytes_eq word (codes "round") then round_in processors words
    else None

-- What a line says, where it says something
abbrev pub statement_of : Whole → List ℕ → Option Statement
statement_of unit line = if is_skipped line then None else statement_in (length unit.agents) (processors unit) (words_of line)

-- What lines say
abbrev pub statements : Whole → List (List ℕ) → List Statement
statements unit lines = flat_map (λ line. option_to_list (statement_of unit line)) lines

-- ---- faults

-- An agent of the program has this name.
abbrev pub is_agent : Whole → List ℕ → Bool
is_agent unit name = list_any (λ (a : AgentDecl). bytes_eq name a.name) unit.agents

-- Each name that stands there is an agent's.
abbrev pub names_agents : Whole → Statement → Bool
names_agents unit (Stalls agent action instr cycles) = is_agent unit agent
names_agents unit (Orders cycle agents) = list_all (is_agent unit) agents
names_agents unit (Rounds cycle processors) = true

-- A name stands there twice.
abbrev pub has_twice : List (List ℕ) → Bool
has_twice [] = false
has_twice (name ∷ names) = list_any (bytes_eq name) names || has_twice names

-- A number stands there twice.
abbrev pub has_same : List ℕ → Bool
has_same [] = false
has_same (n ∷ numbers) = list_any (λ m. n == m) numbers || has_same numbers

-- It is a stall before this instruction.
abbrev pub is_stall_at : List ℕ → ℕ → ℕ → Statement → Bool
is_stall_at agent action instr (Stalls a n i cycles) = bytes_eq agent a && (action == n && instr == i)
is_stall_at agent action instr _ = false

-- It is an order from this cycle on.
abbrev pub is_order_at : ℕ → Statement → Bool
is_order_at cycle (Orders c agents) = cycle == c
is_order_at cycle _ = false

-- It is a round from this cycle on.
abbrev pub is_round_at : ℕ → Statement → Bool
is_round_at cycle (Rounds c processors) = cycle == c
is_round_at cycle _ = false

-- The agent's action and instruction, or the cycle of the order or of the round, stood in an earlier line of its kind; or the order names an
-- agent twice, or the round a processor.
abbrev pub stands_again : List Statement → Statement → Bool
stands_again before (Stalls agent action instr cycles) = list_any (is_stall_at agent action instr) before
stands_again before (Orders cycle agents) = list_any (is_order_at cycle) before || has_twice agents
stands_again before (Rounds cycle processors) = list_any (is_round_at cycle) before || has_same processors

-- Its numbers are in their ranges, in a program of so many processors: an action and an instruction up to 1,000,000, 1 to 1,000,000 cycles of a
-- stall, an order or a round from a cycle up to 100,000,000 on, and processors that there are.
abbrev pub is_in_range : ℕ → Statement → Bool
is_in_range processors (Stalls agent action instr cycles) = nat_le action STALL && (nat_le instr STALL && (nat_le 1 cycles && nat_le cycles STALL))
is_in_range processors (Orders cycle agents) = nat_le cycle RUN
is_in_range processors (Rounds cycle round) = nat_le cycle RUN && list_all (λ n. nat_lt n processors) round

-- What is wrong with what a line says, behind what was said before: it has no listed form; no agent has that name; what it speaks of stood
-- in an earlier line; a number isn't in its range. Of several the first.
abbrev pub statement_fault : Whole → List Statement → Option Statement → Option LineKind
statement_fault unit before None = Some BadLine
statement_fault unit before (Some said) =
    if not (names_agents unit said) then Some NoSuchName
    else if stands_again before said then Some Again
    else if not (is_in_range (processors unit) said) then Some Range
    else None

-- What is wrong with a line of a script that stands behind these, if anything is
abbrev pub script_judge : Whole → Judge
script_judge unit before line = if is_skipped line then None
    else statement_fault unit (statements unit before) (statement_in (length unit.agents) (processors unit) (words_of line))

-- ---- stalls, orders and rounds

-- The number of the agent with a name
abbrev pub agent_number : Whole → List ℕ → ℕ
agent_number unit name = position_or_len (bytes_eq name) (map (λ (a : AgentDecl). a.name) unit.agents)

-- The stall that a line states, where it states one
abbrev pub stall_said : Whole → Statement → List Stall
stall_said unit (Stalls agent action instr cycles) = record { agent = agent_number unit agent; action = action; instr = instr; cycles = cycles } ∷ []
stall_said unit _ = []

-- The order that a line states, where it states one
abbrev pub order_said : Whole → Statement → List Order
order_said unit (Orders cycle agents) = record { cycle = cycle; agents = map (agent_number unit) agents } ∷ []
order_said unit _ = []

-- The round that a line states, where it states one
abbrev pub round_said : Statement → List Round
round_said (Rounds cycle processors) = record { cycle = cycle; processors = processors } ∷ []
round_said _ = []

-- One number is less, or it is the same and the rest decides.
abbrev pub less_or : ℕ → ℕ → Bool → Bool
less_or a b rest = nat_lt a b || a == b && rest

-- Stalls go by agent, then action, then instruction.
abbrev pub stall_before : Stall → Stall → Bool
stall_before s t = less_or s.agent t.agent (less_or s.action t.action (nat_lt s.instr t.instr))

-- Orders go by cycle.
abbrev pub order_before : Order → Order → Bool
order_before o p = nat_lt o.cycle p.cycle

-- Rounds go by cycle.
abbrev pub round_before : Round → Round → Bool
round_before r q = nat_lt r.cycle q.cycle

-- The script of some lines: their stalls, their orders and their rounds, whatever their order in the text
abbrev pub script_in : Whole → List (List ℕ) → Script
script_in unit lines = record {
  stalls = rising stall_before (flat_map (stall_said unit) (statements unit lines));
  orders = rising order_before (flat_map (order_said unit) (statements unit lines));
  rounds = rising round_before (flat_map round_said (statements unit lines));
}

-- The script that the text of a script file states: it has no fault.
pub record IsScriptOf (unit : Whole) (text : List ℕ) (script : Script) : Type 0 where
  pub lawful : IsLawful (script_judge unit) text
  pub stated : script ≡ script_in unit (lines_of text)
