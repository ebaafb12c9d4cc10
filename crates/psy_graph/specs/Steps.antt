-- How far dates lie from each other, and what an agent's dates are counted by.
use Rattle.std.specs.Prelude.{◌≡◌, ℕ, zero, suc, ◌*◌, ◌/◌, ◌≤◌, ◌%◌, List, [], ◌∷◌}
use Rattle.psy_base.specs.declared.limits.TheConstants.{ADVANCE}
use Rattle.psy_clock.specs.declared.clock.TheConstants.{PERIOD}
use Rattle.psy_graph.specs.declared.cycle.TheConstants.{FAR}
use Rattle.psy_graph.specs.declared.times.Times.{Times}
use Rattle.psy_meaning.specs.Timing.{Timing}
use Rattle.psy_meaning.specs.Graph.{periods}

-- The timing that is told so
abbrev pub timing_by : Times → Timing
timing_by times = record { clocks = times.clocks.now; points = times.points.now; nexts = times.nexts.now }

-- An action ends within so many ticks of its start.
abbrev pub STEP : ℕ
STEP = ADVANCE * PERIOD

-- Euclid's algorithm in so many steps: the greatest common divisor, where there are as many as the second number
unfoldable pub divisor : ℕ → ℕ → ℕ → ℕ
divisor zero a b = a
divisor (suc n) a zero = a
divisor (suc n) a (suc b) = divisor n (suc b) (a % suc b)

-- The least common multiple of two numbers
unfoldable pub joined : ℕ → ℕ → ℕ
joined a b = a / divisor b a b * b

-- The least common multiple of some numbers
unfoldable pub multiple_of : List ℕ → ℕ
multiple_of [] = 1
multiple_of (n ∷ numbers) = joined (multiple_of numbers) n

-- The cycle of an agent
unfoldable pub cycle_of : Timing → ℕ
cycle_of timing = multiple_of (periods timing)

-- What is taken for the cycle: up to a far date both leave the same remainders.
pub record IsModulus (timing : Timing) (modulus : ℕ) : Type 0 where
  pub some : 1 ≤ modulus
  pub agrees : (date : ℕ) → date ≤ FAR → date % modulus ≡ date % cycle_of timing
