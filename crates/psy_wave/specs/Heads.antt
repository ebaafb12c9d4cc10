-- The head of a dump: the declarations of all that is dumped, and the first values.
use Rattle.std.specs.Prelude.{ℕ, ◌+◌, List, [], ◌∷◌, ◌++◌, codes, length, zero, suc}
use Rattle.psy_wave.specs.Codes.{code, valued}

-- The declaration of the thing at a place
abbrev pub declared : List ℕ → ℕ → ℕ → List ℕ → List ℕ
declared type_text kind place name = codes "$var " ++ type_text ++ code kind place ++ codes " " ++ name ++ codes " $end\n"

-- The declarations of names, of which the first is at this place
abbrev pub declared_from : List ℕ → ℕ → ℕ → List (List ℕ) → List ℕ
declared_from type_text kind place [] = []
declared_from type_text kind place (name ∷ names) = declared type_text kind place name ++ declared_from type_text kind (place + 1) names

-- A scope with the declarations of names
unfoldable pub scope : List ℕ → List ℕ → ℕ → List (List ℕ) → List ℕ
scope title type_text kind names = codes "$scope module " ++ title ++ codes " $end\n" ++ declared_from type_text kind 0 names ++ codes "$upscope $end\n"

-- So many things from a place on have this value.
abbrev pub all_valued : List ℕ → ℕ → ℕ → ℕ → List ℕ
all_valued value kind place zero = []
all_valued value kind place (suc count) = valued value kind place ++ all_valued value kind (place + 1) count

-- The declarations for variables, streams and agents: a vector for each variable, an event and a vector for each stream, a wire for each agent
abbrev pub definitions : List (List ℕ) → List (List ℕ) → List (List ℕ) → List ℕ
definitions variables streams agents =
    codes "$comment a tick of the run is a nanosecond $end\n$timescale 1 ns $end\n" ++ scope (codes "variables") (codes "integer 32 ") 118 variables
    ++ scope (codes "messages") (codes "event 1 ") 101 streams ++ scope (codes "message_values") (codes "integer 32 ") 109 streams
    ++ scope (codes "stops") (codes "wire 1 ") 115 agents

-- At time 0 no vector has a value, and no agent is stopped.
abbrev pub first_values : List (List ℕ) → List (List ℕ) → List (List ℕ) → List ℕ
first_values variables streams agents =
    codes "$enddefinitions $end\n#0\n$dumpvars\n" ++ all_valued (codes "bx ") 118 0 (length variables) ++ all_valued (codes "bx ") 109 0 (length streams)
    ++ all_valued (codes "0") 115 0 (length agents) ++ codes "$end\n"

-- The head of a dump
abbrev pub head : List (List ℕ) → List (List ℕ) → List (List ℕ) → List ℕ
head variables streams agents = definitions variables streams agents ++ first_values variables streams agents
