-- The limits that psyc says are passed, and what each means.
use Rattle.std.specs.Prelude.{ℕ, ◌==◌, ◌&&◌, Bool, List, [], ◌∷◌, codes, bytes_eq, find, Option}
use Rattle.psy_base.specs.declared.limits.TheConstants.{AGENTS, CLOCKS, EDGES, FILE_BYTES, FUNCTIONS, LINES, NAMES, NODES}
use Rattle.psy_base.specs.declared.limits.TheConstants.{POINTS, QUEUE, RING, RUN, STREAMS, VARIABLES, WINDOW_CELLS}
use Rattle.psy_where.specs.declared.limit.Limit.{Limit}
use Rattle.psy_where.specs.declared.limit.Limit.TheVariants.{Program, Image, Inputs, Script, Trace, State, Clocks, Agents, Variables, Streams, Functions, Names}
use Rattle.psy_where.specs.declared.limit.Limit.TheVariants.{Points, Nodes, Edges, Ring, Queue, Cells, Lines, Cycles}

-- What psyc calls it
abbrev pub limit_name : Limit → List ℕ
limit_name Program = codes "program"
limit_name Image = codes "image"
limit_name Inputs = codes "inputs"
limit_name Script = codes "script"
limit_name Trace = codes "trace"
limit_name State = codes "state"
limit_name Clocks = codes "clocks"
limit_name Agents = codes "agents"
limit_name Variables = codes "variables"
limit_name Streams = codes "streams"
limit_name Functions = codes "functions"
limit_name Names = codes "names"
limit_name Points = codes "points"
limit_name Nodes = codes "nodes"
limit_name Edges = codes "edges"
limit_name Ring = codes "ring"
limit_name Queue = codes "queue"
limit_name Cells = codes "cells"
limit_name Lines = codes "lines"
limit_name Cycles = codes "run"

-- How many there may be
abbrev pub limit_number : Limit → ℕ
limit_number Program = FILE_BYTES
limit_number Image = FILE_BYTES
limit_number Inputs = FILE_BYTES
limit_number Script = FILE_BYTES
limit_number Trace = FILE_BYTES
limit_number State = FILE_BYTES
limit_number Clocks = CLOCKS
limit_number Agents = AGENTS
limit_number Variables = VARIABLES
limit_number Streams = STREAMS
limit_number Functions = FUNCTIONS
limit_number Names = NAMES
limit_number Points = POINTS
limit_number Nodes = NODES
limit_number Edges = EDGES
limit_number Ring = RING
limit_number Queue = QUEUE
limit_number Cells = WINDOW_CELLS
limit_number Lines = LINES
limit_number Cycles = RUN

-- What it means that it is passed
abbrev pub limit_sentence : Limit → List ℕ
limit_sentence Program = codes "the program has more than 262144 bytes"
limit_sentence Image = codes "the image has more than 262144 bytes"
limit_sentence Inputs = codes "the file of inputs has more than 262144 bytes"
limit_sentence Script = codes "the script has more than 262144 bytes"
limit_sentence Trace = codes "the trace has more than 262144 bytes"
limit_sentence State = codes "the state has more than 262144 bytes"
limit_sentence Clocks = codes "more than 64 clocks are declared"
limit_sentence Agents = codes "more than 64 agents are declared"
limit_sentence Variables = codes "more than 256 temporal variables and inputs are declared"
limit_sentence Streams = codes "more than 64 streams are declared"
limit_sentence Functions = codes "more than 64 functions are declared"
limit_sentence Names = codes "an agent or a function has more than 64 names: parameters, variables and arrays"
limit_sentence Points = codes "an agent has more than 256 points: its `advance` statements, and the head of its body"
limit_sentence Nodes = codes "an agent's actions may start at more than 512 pairs of a point and a date of its cycle: use clocks whose periods share more"
limit_sentence Edges = codes "an agent's graph has more than 4096 edges: use clocks whose periods share more"
limit_sentence Ring = codes "more than 65536 values of a variable would have to be kept: use a slower clock, or a shorter action"
limit_sentence Queue = codes "more than 65536 messages of a stream may be held at a time: send less, keep them shorter, or make the receiver faster"
limit_sentence Cells = codes "a table for the demand or for a queue would have more than 4000000 cells: lower budgets, or use clocks whose periods share more"
limit_sentence Lines = codes "the file has more than 10000 lines"
limit_sentence Cycles = codes "the last date times the cycles of a tick is more than 100000000"

-- All of them
abbrev pub LIMITS : List Limit
LIMITS =
    Program ∷ Image ∷ Inputs ∷ Script ∷ Trace ∷ State ∷ Clocks ∷ Agents ∷ Variables ∷ Streams ∷ Functions ∷ Names ∷ Points ∷ Nodes ∷ Edges ∷ Ring ∷ Queue
    ∷ Cells ∷ Lines ∷ Cycles ∷ []

-- It has this name and number
abbrev pub is_limit : Limit → List ℕ → ℕ → Bool
is_limit limit name number = bytes_eq (limit_name limit) name && limit_number limit == number

-- The one with this name and number
abbrev pub limit_of : List ℕ → ℕ → Option Limit
limit_of name number = find (λ limit. is_limit limit name number) LIMITS
