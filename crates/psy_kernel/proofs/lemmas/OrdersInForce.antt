-- Orders in force have each agent.
use Rattle.std.proofs.Common.{ℕ, ◌<◌, Bool, true, false, if◌then◌else◌, nat_le, List, [], ◌∷◌, All, length, ◌∙◌, arith}
use Rattle.std.specs.List.{Contains, range_with_len}
use Rattle.std.proofs.lemmas.List.Elements.{All-head, All-tail}
use Rattle.std.proofs.lemmas.List.FromFn.{length-range_with_len, get_or-range_with_len}
use Rattle.psy_tree.specs.declared.unit.Unit.{Unit as Whole}
use Rattle.psy_history.specs.declared.told.Order.{Order}
use Rattle.psy_history.specs.Scripts.{IsOrder, in_force}

-- Each of so many agents stands in a list.
abbrev pub HasEach : ℕ → List ℕ → Type 0
HasEach agents xs = (agent : ℕ) → agent < agents → Contains xs agent

pub declared_each : (agents : ℕ) → HasEach agents (range_with_len 0 agents)
declared_each agents agent l = (agent, omega (arith, l, length-range_with_len 0 agents), get_or-range_with_len 0 agents agent agent l ∙ omega arith)

pub in_force_each : (unit : Whole) (before : List ℕ) (orders : List Order) (cycle : ℕ) → HasEach (length unit.agents) before → All (IsOrder unit) orders → HasEach (length unit.agents) (in_force before orders cycle)
in_force_each unit before [] cycle each all = each
in_force_each unit before (o ∷ orders) cycle each all =
    by (nat_le o.cycle cycle) (in_force_each unit o.agents orders cycle (All-head (IsOrder unit) o orders all).agents.each (All-tail (IsOrder unit) o orders all))
  where
    by : (b : Bool) → HasEach (length unit.agents) (in_force o.agents orders cycle) → HasEach (length unit.agents) (if b then in_force o.agents orders cycle else before)
    by true rest = rest
    by false rest = each
