-- The line with which psyc tells each refusal.
use Rattle.std.specs.Prelude.{ℕ, zero, suc, List, codes, Option, None, Some}
use Rattle.psy_base.specs.declared.limits.TheConstants as limit
use Rattle.psy_log.specs.Forms.{infeasible_line, limit_line, refused_line}
use Rattle.psy_tree.specs.declared.rules.Count.{Count}
use Rattle.psy_tree.specs.declared.rules.Count.TheVariants.{Clocks, Agents, Variables, Streams, Functions, Names, Points}
use Rattle.psy_tree.specs.Faults.{lex_number}
use Rattle.psy_tree.specs.Rules.{rule_number}
use Rattle.psy_plan.specs.declared.refusal.Refusal.{Refusal}
use Rattle.psy_plan.specs.declared.refusal.Refusal.TheVariants.{Lexical, Deep, Syntax, Rule, Many, Nodes, Edges, Ring, Queue, Cells, Infeasible}

-- What a count is called
abbrev pub count_name : Count → List ℕ
count_name Clocks = codes "clocks"
count_name Agents = codes "agents"
count_name Variables = codes "variables"
count_name Streams = codes "streams"
count_name Functions = codes "functions"
count_name Names = codes "names"
count_name Points = codes "points"

-- The greatest number that a count may have
abbrev pub count_limit : Count → ℕ
count_limit Clocks = limit.CLOCKS
count_limit Agents = limit.AGENTS
count_limit Variables = limit.VARIABLES
count_limit Streams = limit.STREAMS
count_limit Functions = limit.FUNCTIONS
count_limit Names = limit.NAMES
count_limit Points = limit.POINTS

-- The processor that a refusal names: none where it is the first
abbrev pub told_processor : ℕ → Option ℕ
told_processor zero = None
told_processor (suc n) = Some (suc n)

-- The line of each refusal
abbrev pub line_of : Refusal → List ℕ
line_of (Lexical kind place) = refused_line (codes "lex") (lex_number kind) (Some place)
line_of (Deep token) = refused_line (codes "parse") 2 (Some token)
line_of (Syntax token) = refused_line (codes "parse") 1 (Some token)
line_of (Rule kind token) = refused_line (codes "rule") (rule_number kind) (Some token)
line_of (Many count) = limit_line (count_name count) (count_limit count)
line_of Nodes = limit_line (codes "nodes") limit.NODES
line_of Edges = limit_line (codes "edges") limit.EDGES
line_of Ring = limit_line (codes "ring") limit.RING
line_of Queue = limit_line (codes "queue") limit.QUEUE
line_of Cells = limit_line (codes "cells") limit.WINDOW_CELLS
line_of (Infeasible length demand supply processor) = infeasible_line length demand supply (told_processor processor)
