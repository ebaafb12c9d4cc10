-- A trace that was worked out by hand, ways to spoil it, and what is wrong then.
use Rattle.std.specs.Prelude.{◌≡◌, ℕ, ◌-◌, List, [], ◌∷◌, ◌++◌, map, take, drop, Option, Some, None, codes, pos}
use Rattle.psy_text.specs.Words.{words_of}
use Rattle.psy_tree.specs.declared.unit.AgentDecl.{AgentDecl}
use Rattle.psy_tree.specs.declared.unit.Unit.{Unit as Whole}
use Rattle.psy_tree.specs.declared.unit.VarDecl.{VarDecl}
use Rattle.psy_audit.specs.Faults.{Fault, first_fault}
use Rattle.psy_audit.specs.Texts.{said_in}
use Rattle.psy_audit.specs.Traces.{Judged}

-- An agent of processor 0 each of whose actions ends one date of its clock later
abbrev pub steady : List ℕ → ℕ → ℕ → AgentDecl
steady name clock budget = record {
  name = name;
  clock = clock;
  processor = 0;
  budget = budget;
  slots = [];
  points = record { count = 0; clock = clock; budget = budget } ∷ record { count = 1; clock = clock; budget = budget } ∷ [];
  stmts = [];
}

-- A variable of an agent, of first value 0 and depth 1
abbrev pub variable : List ℕ → ℕ → ℕ → VarDecl
variable name owner clock = record { name = name; owner = Some owner; clock = clock; init = pos 0; depth = 1 }

-- A tick has 10 cycles. Fast acts every two ticks, in up to 8 cycles, and publishes v; Slow acts every ten, in up to 50, and publishes w.
abbrev pub two_agents : Whole
two_agents = record {
  quantum = 10;
  clocks = record { period = 2; first = 0 } ∷ record { period = 10; first = 0 } ∷ [];
  clock_names = codes "f" ∷ codes "s" ∷ [];
  variables = variable (codes "v") 0 0 ∷ variable (codes "w") 1 1 ∷ [];
  streams = [];
  functions = [];
  agents = steady (codes "Fast") 0 8 ∷ steady (codes "Slow") 1 50 ∷ [];
}

-- Judged up to date 2: the ring of v has 5 places, that of w one.
abbrev pub up_to_2 : Judged
up_to_2 = record {
  unit = two_agents;
  nexts = ((1 ∷ []) ∷ (1 ∷ []) ∷ []) ∷ ((1 ∷ []) ∷ (1 ∷ []) ∷ []) ∷ [];
  rings = 5 ∷ 1 ∷ [];
  until = 2;
  order = λ cycle. 0 ∷ 1 ∷ [];
}

-- Fast has cycles 0 to 6, Slow 7 to 9, and looks at v in the first of them.
abbrev pub both_agents : List (List ℕ)
both_agents =
    codes "act Fast 0 0 0 2 7 2"
    ∷ codes "act Slow 0 0 0 10 3 10"
    ∷ codes "pub v 0 0 0"
    ∷ codes "pub v 2 1 1"
    ∷ codes "pub w 0 0 0"
    ∷ codes "seg 0 0 7 Fast 0"
    ∷ codes "seg 0 7 10 Slow 0"
    ∷ codes "look Slow 0 7 v 0 0 0"
    ∷ codes "end 2"
    ∷ []

-- The same with other lines between the first so many and those behind so many
abbrev pub spoilt : ℕ → ℕ → List (List ℕ) → List (List ℕ)
spoilt front back lines = take front both_agents ++ (lines ++ drop back both_agents)

-- The same without a line of a number, counted from 1
abbrev pub without : ℕ → List (List ℕ)
without line = spoilt (line - 1) line []

-- The same with this in place of a line
abbrev pub instead : ℕ → List ℕ → List (List ℕ)
instead line text = spoilt (line - 1) line (text ∷ [])

-- The same with this behind a line
abbrev pub behind : ℕ → List ℕ → List (List ℕ)
behind line text = spoilt line line (text ∷ [])

-- The first fault of some lines
abbrev pub found : List (List ℕ) → Option Fault
found lines = first_fault up_to_2 (map (λ line. said_in two_agents 2 (words_of line)) lines)

-- A fault of this number in this line
abbrev pub wrong : ℕ → ℕ → Option Fault
wrong number line = Some (record { number = number; line = line })

-- Lines, and their first fault
abbrev pub Row : Type 0
Row = List (List ℕ) × Option Fault

-- What is no line, an end that is missing, a line behind it; and a name that none has
abbrev pub forms : List Row
forms =
    (both_agents, None)
    ∷ (behind 6 (codes "broken"), wrong 1 7)
    ∷ (without 9, wrong 1 9)
    ∷ (instead 9 (codes "end 3"), wrong 1 9)
    ∷ (behind 9 (codes "#"), wrong 1 10)
    ∷ (behind 9 (codes "end 2"), wrong 1 10)
    ∷ (behind 1 (codes "act Fest 0 0 0 2 7 2"), wrong 2 2)
    ∷ []

-- Actions: each in its place; as the program has them; with the cycles that they tell of, between their dates
abbrev pub courses : List Row
courses =
    (behind 2 (codes "act Slow 0 0 0 10 3 10"), wrong 3 3)
    ∷ (behind 8 (codes "act Slow 1 1 10 20 0 -"), wrong 3 9)
    ∷ (instead 1 (codes "act Fast 0 0 0 2 7 4"), wrong 4 1)
    ∷ (instead 2 (codes "act Slow 0 0 1 10 3 10"), wrong 4 2)
    ∷ (instead 2 (codes "act Slow 0 0 0 9 3 10"), wrong 4 2)
    ∷ (instead 1 (codes "act Fast 0 0 0 2 6 2"), wrong 5 1)
    ∷ (instead 1 (codes "act Fast 0 0 0 2 7 -"), wrong 5 1)
    ∷ (instead 6 (codes "seg 0 0 7 Fest 0"), wrong 5 1)
    ∷ (instead 2 (codes "act Slow 0 0 0 10 3 stop"), None)
    ∷ []

-- Publications: any value, at each date up to the last one, and behind it
abbrev pub dates : List Row
dates =
    (instead 4 (codes "pub v 2 1 7"), None)
    ∷ (instead 4 (codes "pub v 2 2 1"), wrong 6 4)
    ∷ (without 4, wrong 6 8)
    ∷ (behind 5 (codes "pub w 10 0 0"), None)
    ∷ []

-- Stretches: of the action that comes first, of a processor of its own, each as long as it can be, and none left while an action waits
abbrev pub turns : List Row
turns =
    (spoilt 5 7 (codes "seg 0 0 3 Slow 0" ∷ codes "seg 0 3 10 Fast 0" ∷ []), wrong 7 6)
    ∷ (without 2, wrong 7 6)
    ∷ (instead 7 (codes "seg 0 8 11 Slow 0"), wrong 7 7)
    ∷ (instead 7 (codes "seg 1 7 10 Slow 0"), wrong 7 7)
    ∷ (spoilt 6 7 (codes "seg 0 7 9 Slow 0" ∷ codes "seg 0 9 10 Slow 0" ∷ []), wrong 7 8)
    ∷ (instead 2 (codes "act Slow 0 0 0 10 3 -"), wrong 7 9)
    ∷ []

-- Looks: in a cycle of their action, no further back than the depth, and from the place of the value
abbrev pub sights : List Row
sights =
    (instead 8 (codes "look Slow 0 6 v 0 0 0"), wrong 8 8)
    ∷ (instead 8 (codes "look Slow 0 7 v 1 4 0"), wrong 8 8)
    ∷ (instead 8 (codes "look Slow 0 7 v 0 1 0"), wrong 8 8)
    ∷ (instead 8 (codes "look Slow 0 7 v 0 0 1"), wrong 8 8)
    ∷ []

-- Each of the lines has the fault that is told.
abbrev pub AreFound : List Row → Type 0
AreFound rows = map (λ row. found row.0) rows ≡ map (λ row. row.1) rows
