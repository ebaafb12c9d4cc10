-- The numbers of a program for trials: a linear congruential generator, with the constants of Press et al., Numerical
-- Recipes, 1992, and what is drawn from it.
use Rattle.std.specs.Prelude.{ℕ, zero, suc, ◌+◌, ◌*◌, ◌/◌, ◌%◌, ◌^◌, List, map}
use Rattle.std.specs.List.{range_with_len}
use Rattle.psy_make.specs.declared.agent.Agent.{Agent}

-- The number behind x.
abbrev pub next : ℕ → ℕ
next x = (x * 1664525 + 1013904223) % 2 ^ 32

-- The i-th number; the 0th is the one that is given.
abbrev pub drawn : ℕ → ℕ → ℕ
drawn seed zero = seed
drawn seed (suc i) = next (drawn seed i)

-- What the i-th draw gives, counted from 1, where it is a draw of n: the upper half of the i-th number, modulo n.
abbrev pub draw : ℕ → ℕ → ℕ → ℕ
draw seed i n = drawn seed i / 2 ^ 16 % n

-- How many agents there are: the first draw.
abbrev pub count_of : ℕ → ℕ
count_of seed = 8 + draw seed 1 9

-- Agent i: its numbers are three draws, behind those of the agents before it.
abbrev pub agent_of : ℕ → ℕ → Agent
agent_of seed i = record {
  number = i;
  clock = draw seed (3 * i + 2) 3;
  looks_at = draw seed (3 * i + 3) (count_of seed);
  factor = 1 + draw seed (3 * i + 4) 9;
}

-- The agents, from agent 0 on.
abbrev pub agents_of : ℕ → List Agent
agents_of seed = map (agent_of seed) (range_with_len 0 (count_of seed))
