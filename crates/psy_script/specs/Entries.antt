-- A script as it stands between two lines: what a line says, with agents by their numbers, and how it stands beside the lines before.
use Rattle.std.specs.Prelude.{ℕ, Bool, true, false, ◌==◌, ◌^◌, ◌&&◌, ◌||◌, nat_lt, List, [], ◌∷◌, map, Option, Some, option_map, unwrap_or, bytes_eq}
use Rattle.std.specs.List.{list_all, list_any, position}
use Rattle.psy_budget.specs.declared.charge.Stall.{Stall}
use Rattle.psy_history.specs.declared.told.Order.{Order}
use Rattle.psy_history.specs.declared.told.Round.{Round}
use Rattle.psy_history.specs.declared.told.Script.{Script}
use Rattle.psy_script.specs.declared.entry.Entry.{Entry}
use Rattle.psy_script.specs.declared.entry.Entry.TheVariants as entry
use Rattle.psy_script.specs.declared.placed.Place.{Place}
use Rattle.psy_script.specs.declared.statement.Statement.{Statement as Line}
use Rattle.psy_script.specs.declared.statement.Statement.TheVariants as line
use Rattle.psy_text.specs.Words.{number_of, words_of}
use Rattle.psy_script.specs.Numbers.{all_some}
use Rattle.psy_script.specs.Rising.{put}
use Rattle.psy_script.specs.Script.{Statement, Stalls, Orders, Rounds, has_same, stall_before, order_before, round_before}

-- The number that a word is, and 0 where it is none
abbrev pub number_or_0 : List ℕ → ℕ
number_or_0 word = unwrap_or (number_of word) 0

-- The numbers that the words of a line are
abbrev pub numbers_in : List ℕ → List ℕ
numbers_in line = map number_or_0 (words_of line)

-- What the words of a line say
abbrev pub said : Line → Statement
said (line.Stall agent action instr cycles) = Stalls agent.now action instr cycles
said (line.Order cycle names) = Orders cycle (words_of names.now)
said (line.Round cycle numbers) = Rounds cycle (numbers_in numbers.now)

-- The number of the agent with a name, where there is one
abbrev pub place_in : List (List ℕ) → List ℕ → Option ℕ
place_in agents name = position (bytes_eq name) agents

-- What is said, with agents by their numbers, where each name is an agent's
abbrev pub entry_in : List (List ℕ) → Statement → Option Entry
entry_in agents (Stalls agent action instr cycles) = option_map
    (λ n. entry.Stall (record { agent = n; action = action; instr = instr; cycles = cycles })) (place_in agents agent)
entry_in agents (Orders cycle names) = option_map (λ ns. entry.Order (record { cycle = cycle; agents = ns })) (all_some (map (place_in agents) names))
entry_in agents (Rounds cycle numbers) = Some (entry.Round cycle numbers)

-- Two stalls stand before the same instruction.
abbrev pub is_beside : Stall → Stall → Bool
is_beside s t = s.agent == t.agent && (s.action == t.action && s.instr == t.instr)

-- An item stands there twice, by this test of two.
abbrev pub repeats : {X : Type 0} → (X → X → Bool) → List X → Bool
repeats equal [] = false
repeats equal (x ∷ xs) = list_any (λ y. equal y x) xs || repeats equal xs

-- The script has a stall before that instruction, or an order or a round from that cycle on; or the order lists an agent twice, or the round
-- a number.
abbrev pub clashes : Script → Entry → Bool
clashes script (entry.Stall s) = list_any (is_beside s) script.stalls
clashes script (entry.Order o) = list_any (λ (p : Order). o.cycle == p.cycle) script.orders || has_same o.agents
clashes script (entry.Round cycle numbers) = list_any (λ (r : Round). cycle == r.cycle) script.rounds || has_same numbers

-- The numbers of a round fit 32 bits.
abbrev pub is_narrow : Entry → Bool
is_narrow (entry.Stall s) = true
is_narrow (entry.Order o) = true
is_narrow (entry.Round cycle numbers) = list_all (λ n. nat_lt n (2 ^ 32)) numbers

-- The stall that stands at a place of the instructions, and takes so many cycles
abbrev pub stall_at : Place × ℕ → Stall
stall_at e = record { agent = e.0.agent; action = e.0.action; instr = e.0.instr; cycles = e.1 }

-- The order from a cycle on, of these agents
abbrev pub order_from : ℕ × List ℕ → Order
order_from e = record { cycle = e.0; agents = e.1 }

-- The round from a cycle on, of these processors
abbrev pub round_from : ℕ × List ℕ → Round
round_from e = record { cycle = e.0; processors = e.1 }

-- The script with one more stall, one more order or one more round
abbrev pub with_entry : Script → Entry → Script
with_entry script (entry.Stall s) = record script { stalls = put stall_before s script.stalls }
with_entry script (entry.Order o) = record script { orders = put order_before o script.orders }
with_entry script (entry.Round cycle numbers) = record script { rounds = put round_before (round_from (cycle, numbers)) script.rounds }
