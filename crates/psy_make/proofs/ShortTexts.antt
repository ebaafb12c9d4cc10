-- How long a made text is at most.
use Rattle.std.proofs.Common.{ℕ, ◌<◌, ◌≤◌, Bool, true, false, if◌then◌else◌, List, [], length, map, get_or, arith, length-append}
use Rattle.std.specs.Prelude.{decimal, flat_map}
use Rattle.std.specs.List.{All, range_with_len}
use Rattle.std.proofs.lemmas.Fmt.{length-decimal-le}
use Rattle.std.proofs.lemmas.List.{length-map}
use Rattle.std.proofs.lemmas.List.Concat.{length-flat_map}
use Rattle.std.proofs.lemmas.List.Elements.{All-append, All-map, All-from_recursion}
use Rattle.std.proofs.lemmas.List.FromFn.{length-range_with_len, get_or-range_with_len, length-map-range_with_len}
use Rattle.std.proofs.lemmas.List.Sums.{sum_by-le}
use Rattle.psy_make.specs.declared.agent.Agent.{Agent}
use Rattle.psy_make.specs.Generator.{count_of, agent_of, agents_of}
use Rattle.psy_make.specs.Text.{head_lines, temporal_line, opening, taking, sending, closing, agent_line, lines_of, ended, made_text}

-- The line has at most 256 bytes, with the line feed that ends it.
abbrev IsShort : List ℕ → Type 0
IsShort line = length (ended line) ≤ 256

-- Each number of the agent is written with at most two digits.
abbrev IsSmall : Agent → Type 0
IsSmall a = record { number : a.number < 100; clock : a.clock < 100; looks_at : a.looks_at < 100; factor : a.factor < 100 }

-- A number below 100 has at most two digits.
two_digits : (n : ℕ) → n < 100 → length (decimal n) ≤ 2
two_digits n small = length-decimal-le 2 n (omega arith) small (omega arith)

-- A text that stands under a condition is no longer than without it.
under_condition : (b : Bool) (text : List ℕ) → length (if b then text else []) ≤ length text
under_condition true text = omega arith
under_condition false text = omega arith

-- The line of a small agent's variable is short.
temporal_short : (a : Agent) → IsSmall a → IsShort (temporal_line a)
temporal_short a small = grind (arith, length-append {A = ℕ}, two_digits)

-- What a small agent's own line begins with is short.
opening_short : (a : Agent) → IsSmall a → length (opening a) ≤ 80
unfolding opening
opening_short a small = grind (arith, length-append {A = ℕ}, two_digits)

-- What it takes is short.
taking_short : (number : ℕ) → length (taking number) ≤ 40
taking_short number = omega (arith, under_condition)

-- What it sends is short.
sending_short : (number : ℕ) → length (sending number) ≤ 40
sending_short number = omega (arith, under_condition)

-- What it ends with is short.
closing_short : (a : Agent) → IsSmall a → length (closing a) ≤ 80
unfolding closing
closing_short a small = grind (arith, length-append {A = ℕ}, two_digits)

-- The line of a small agent is short.
agent_short : (a : Agent) → IsSmall a → IsShort (agent_line a)
agent_short a small = omega (arith, length-append {A = ℕ}, opening_short a small, taking_short a.number, sending_short a.number, closing_short a small)

-- Of at most 16 agents, each is small.
agent_small : (seed i : ℕ) → count_of seed ≤ 16 → i < count_of seed → IsSmall (agent_of seed i)
agent_small seed i few within = record { number = omega arith; clock = omega arith; looks_at = omega arith; factor = omega arith }

-- So all of them are.
agents_small : (seed : ℕ) → count_of seed ≤ 16 → All IsSmall (agents_of seed)
agents_small seed few =
    let count = count_of seed in
    let numbers = range_with_len 0 count in
    All-map IsSmall (agent_of seed) numbers (λ k d within. agent_small seed (get_or numbers k d) few (omega (arith, length-range_with_len 0 count, get_or-range_with_len 0 count k d)))

-- The head is short.
head_short : All IsShort head_lines
head_short = All-from_recursion IsShort head_lines (omega arith, (omega arith, (omega arith, (omega arith, (omega arith, tt)))))

-- Where the line of each small agent is short, all lines of small agents are.
each_short : (line : Agent → List ℕ) → ((a : Agent) → IsSmall a → IsShort (line a)) → (agents : List Agent) → All IsSmall agents → All IsShort (map line agents)
each_short line short agents small = All-map IsShort line agents (λ k d within. short (get_or agents k d) (small k d within))

-- Each line of the text is short.
lines_short : (seed : ℕ) → count_of seed ≤ 16 → All IsShort (lines_of seed)
lines_short seed few =
    let agents = agents_of seed in
    let small = agents_small seed few in
    let temporals = each_short temporal_line temporal_short agents small in
    let own = each_short agent_line agent_short agents small in
    All-append IsShort head_lines _ head_short (All-append IsShort (map temporal_line agents) (map agent_line agents) temporals own)

-- There are at most 5 lines of the head and two for each agent.
lines_few : (seed : ℕ) → count_of seed ≤ 16 → length (lines_of seed) ≤ 40
lines_few seed few =
    let agents = agents_of seed in
    grind (arith, few, length-append {A = List ℕ}, length-map agents temporal_line, length-map agents agent_line, length-map-range_with_len (agent_of seed) 0 (count_of seed))

-- A text of at most 40 short lines has at most 40 * 256 bytes.
few_and_short : (lines : List (List ℕ)) → All IsShort lines → length lines ≤ 40 → length (flat_map ended lines) ≤ 10240
few_and_short lines short few = omega (arith, length-flat_map ended lines, sum_by-le (λ line. length (ended line)) 256 lines short)

-- So the text that is made has.
pub text_short : (seed : ℕ) → count_of seed ≤ 16 → length (made_text seed) ≤ 10240
unfolding made_text
text_short seed few = few_and_short (lines_of seed) (lines_short seed few) (lines_few seed few)
