-- What a script is, and which order and which round are in force at a cycle.
use Rattle.std.specs.Prelude.{◌≡◌, ◌⊎◌, ℕ, ◌<◌, ◌≤◌, ◌==◌, nat_le, if◌then◌else◌, List, [], ◌∷◌, filter, length}
use Rattle.std.specs.List.{All, AllPairs, range_with_len}
use Rattle.psy_base.specs.declared.limits.TheConstants.{RUN, STALL}
use Rattle.psy_budget.specs.declared.charge.Stall.{Stall}
use Rattle.psy_budget.specs.Charges.{IsBelow}
use Rattle.psy_ready.specs.Choice.{ListsEach}
use Rattle.psy_tree.specs.declared.unit.Unit.{Unit as Whole}
use Rattle.psy_history.specs.declared.told.Order.{Order}
use Rattle.psy_history.specs.declared.told.Round.{Round}
use Rattle.psy_history.specs.Processors.{processors}
use Rattle.psy_history.specs.declared.told.Script.{Script}

-- One stall stands before another: by agent, then by action, then by instruction.
abbrev pub StallBefore : Stall → Stall → Type 0
StallBefore s t = (s.agent < t.agent) ⊎ ((s.agent ≡ t.agent) × IsBelow t.action t.instr s)

-- A stall of an agent, with numbers that a line of a script can state
pub record IsStall (unit : Whole) (s : Stall) : Type 0 where
  pub agent : s.agent < length unit.agents
  pub action : s.action ≤ STALL
  pub instr : s.instr ≤ STALL
  pub some : 1 ≤ s.cycles
  pub most : s.cycles ≤ STALL

-- An order of all agents, from a cycle on that a line of a script can state
pub record IsOrder (unit : Whole) (o : Order) : Type 0 where
  pub cycle : o.cycle ≤ RUN
  pub agents : ListsEach (length unit.agents) o.agents

-- A round of all processors, from a cycle on that a line of a script can state
pub record IsRound (unit : Whole) (r : Round) : Type 0 where
  pub cycle : r.cycle ≤ RUN
  pub processors : ListsEach (processors unit) r.processors

-- A script of a program: what the lines of one can state, sorted
pub record IsScript (unit : Whole) (script : Script) : Type 0 where
  pub stalls : All (IsStall unit) script.stalls
  pub stalls_rise : AllPairs StallBefore script.stalls
  pub orders : All (IsOrder unit) script.orders
  pub orders_rise : AllPairs (λ o p. o.cycle < p.cycle) script.orders
  pub rounds : All (IsRound unit) script.rounds
  pub rounds_rise : AllPairs (λ r q. r.cycle < q.cycle) script.rounds

-- The stalls of an agent
abbrev pub stalls_of : Script → ℕ → List Stall
stalls_of script agent = filter (λ (s : Stall). s.agent == agent) script.stalls

-- The order in force at a cycle: that of the last one that has come, or the one before them all
abbrev pub in_force : List ℕ → List Order → ℕ → List ℕ
in_force order [] cycle = order
in_force order (o ∷ orders) cycle = if nat_le o.cycle cycle then in_force o.agents orders cycle else order

-- The order in force at a cycle of a program's run: at first the order of declaration
abbrev pub order_of : Whole → Script → ℕ → List ℕ
order_of unit script cycle = in_force (range_with_len 0 (length unit.agents)) script.orders cycle

-- The round in force at a cycle: that of the last one that has come, or the one before them all
abbrev pub round_in : List ℕ → List Round → ℕ → List ℕ
round_in round [] cycle = round
round_in round (r ∷ rounds) cycle = if nat_le r.cycle cycle then round_in r.processors rounds cycle else round

-- The round in force at a cycle of a program's run: at first from the first processor to the last
abbrev pub round_of : Whole → Script → ℕ → List ℕ
round_of unit script cycle = round_in (range_with_len 0 (processors unit)) script.rounds cycle
