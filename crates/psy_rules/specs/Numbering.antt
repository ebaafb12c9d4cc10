-- The numbers of declarations among those of their kinds.
use Rattle.std.specs.Prelude.{◌≡◌, ℕ, ◌+◌, ◌<◌, ◌≤◌, Bool, if◌then◌else◌, List, take, length, Option, Some, None, slice_get}
use Rattle.psy_base.specs.declared.limits.TheConstants.{CLOCKS, AGENTS, VARIABLES, STREAMS, FUNCTIONS}
use Rattle.psy_tree.specs.declared.raw.Item.{Item}
use Rattle.psy_tree.specs.declared.reach.Found.{Found}
use Rattle.psy_tree.specs.declared.reach.Found.TheVariants as found
use Rattle.psy_tree.specs.Rules.{is_clock, is_agent, is_function, is_stream}
use Rattle.psy_tree.specs.Stands.{counting, is_variable}
use Rattle.psy_rules.specs.declared.numbers.Before.{Before}

-- How many declarations of each kind stand before number k.
abbrev pub before_at : List Item → ℕ → Before
before_at items k = record {
  clocks = counting is_clock (take k items);
  agents = counting is_agent (take k items);
  variables = counting is_variable (take k items);
  streams = counting is_stream (take k items);
  functions = counting is_function (take k items);
}

-- One where it is so.
abbrev pub one_if : Bool → ℕ
one_if b = if b then 1 else 0

-- What stands before the next one.
abbrev pub before_and : Before → Item → Before
before_and before i = record {
  clocks = before.clocks + one_if (is_clock (Some i));
  agents = before.agents + one_if (is_agent (Some i));
  variables = before.variables + one_if (is_variable (Some i));
  streams = before.streams + one_if (is_stream (Some i));
  functions = before.functions + one_if (is_function (Some i));
}

-- None of the counts is large.
pub record IsSmall (before : Before) : Type 0 where
  pub clocks : before.clocks ≤ CLOCKS
  pub agents : before.agents ≤ AGENTS
  pub variables : before.variables ≤ VARIABLES
  pub streams : before.streams ≤ STREAMS
  pub functions : before.functions ≤ FUNCTIONS

-- By declaration, how many of each kind stand before it.
abbrev pub AreNumbers : List Item → List Before → Type 0
AreNumbers items before = (k : ℕ) → k < length items → slice_get before k ≡ Some (before_at items k)

-- No kind has many declarations.
pub record AreFew (items : List Item) : Type 0 where
  pub clocks : counting is_clock items ≤ CLOCKS
  pub agents : counting is_agent items ≤ AGENTS
  pub variables : counting is_variable items ≤ VARIABLES
  pub streams : counting is_stream items ≤ STREAMS
  pub functions : counting is_function items ≤ FUNCTIONS

-- How many of each kind stand before what was found, if it is a declaration.
abbrev pub before_of : List Item → Option Found → Option Before
before_of items (Some (found.Item k)) = Some (before_at items k)
before_of items _ = None

-- The same, read from a list of them.
abbrev pub before_in : List Before → Option Found → Option Before
before_in before (Some (found.Item k)) = slice_get before k
before_in before _ = None
