-- The processors of a program, and what each of them serves: an agent's actions get the cycles of its own processor alone.
use Rattle.std.specs.Prelude.{ℕ, ◌+◌, ◌==◌, if◌then◌else◌, List, [], filter, get_or, length, map}
use Rattle.std.specs.List.{range_with_len}
use Rattle.psy_base.specs.declared.edge.Edge.{Edge}
use Rattle.psy_base.specs.Extremes.{most_of}
use Rattle.psy_tree.specs.declared.unit.Unit.{Unit as Whole}
use Rattle.psy_tree.specs.Parts.{homes}

-- The processor of an agent
unfoldable pub processor_at : Whole → ℕ → ℕ
processor_at unit agent = get_or (homes unit) agent 0

-- How many processors a program has: one more than the greatest number among those of its agents, and one without agents
unfoldable pub processors : Whole → ℕ
processors unit = most_of (homes unit) + 1

-- The agents of a processor, in this order
abbrev pub served : Whole → ℕ → List ℕ → List ℕ
served unit processor order = filter (λ agent. processor_at unit agent == processor) order

-- By agent, its edges where it is of a processor, and none where it is of another
abbrev pub edges_for : Whole → ℕ → List (List Edge) → List (List Edge)
edges_for unit processor graphs =
    map (λ agent. if processor_at unit agent == processor then get_or graphs agent [] else []) (range_with_len 0 (length graphs))
