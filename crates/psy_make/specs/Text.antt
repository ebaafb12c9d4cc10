-- The text of the program that is made from a seed.
use Rattle.std.specs.Prelude.{ℕ, ◌%◌, List, [], ◌∷◌, ◌++◌, map, flat_map, codes, decimal, if◌then◌else◌, ◌==◌}
use Rattle.psy_make.specs.declared.agent.Agent.{Agent}
use Rattle.psy_make.specs.Generator.{agents_of}

-- What each program begins with: its tick, three clocks, of which two are derived, and the stream to agent 0.
abbrev pub head_lines : List (List ℕ)
head_lines =
    codes "tick 1000;"
    ∷ codes "clock c0 = 1 * tick;"
    ∷ codes "clock c1 = 4 * c0 + 1;"
    ∷ codes "clock c2 = 5 * c1 + 2;"
    ∷ codes "stream bus to A0 keep 1 on c1;"
    ∷ []

-- `temporal vI of AI on cJ = I depth 1;` of agent I with clock J.
abbrev pub temporal_line : Agent → List ℕ
temporal_line a =
    codes "temporal v" ++ decimal a.number ++ codes " of A" ++ decimal a.number ++ codes " on c" ++ decimal a.clock
    ++ codes " = " ++ decimal a.number ++ codes " depth 1;"

-- `agent AI on cJ budget 50 { int n = 0; body { n = n * K + past(vM, 0);` of agent I with clock J and factor K, which looks at vM.
unfoldable pub opening : Agent → List ℕ
opening a =
    codes "agent A" ++ decimal a.number ++ codes " on c" ++ decimal a.clock ++ codes " budget 50 { int n = 0; body { n = n * "
    ++ decimal a.factor ++ codes " + past(v" ++ decimal a.looks_at ++ codes ", 0);"

-- ` if (ready(bus)) { n = n + take(bus); }` of agent 0, and of no other.
abbrev pub taking : ℕ → List ℕ
taking i = if i == 0 then codes " if (ready(bus)) { n = n + take(bus); }" else []

-- ` send n to bus after 0 on c0;` of an agent with an odd number, and of no other.
abbrev pub sending : ℕ → List ℕ
sending i = if i % 2 == 1 then codes " send n to bus after 0 on c0;" else []

-- ` vI = n; if (n & 1) { advance 1 on cJ; } else { advance 2 on cJ; } } }` of agent I with clock J.
unfoldable pub closing : Agent → List ℕ
closing a =
    codes " v" ++ decimal a.number ++ codes " = n; if (n & 1) { advance 1 on c" ++ decimal a.clock
    ++ codes "; } else { advance 2 on c" ++ decimal a.clock ++ codes "; } } }"

-- The line of an agent: these four parts.
abbrev pub agent_line : Agent → List ℕ
agent_line a = opening a ++ taking a.number ++ sending a.number ++ closing a

-- The lines: the head, then one for each variable, then one for each agent.
abbrev pub lines_of : ℕ → List (List ℕ)
lines_of seed = head_lines ++ map temporal_line (agents_of seed) ++ map agent_line (agents_of seed)

-- A line with the line feed that ends it.
abbrev pub ended : List ℕ → List ℕ
ended line = line ++ codes "\n"

-- The whole text: each line, ended by a line feed.
unfoldable pub made_text : ℕ → List ℕ
made_text seed = flat_map ended (lines_of seed)
