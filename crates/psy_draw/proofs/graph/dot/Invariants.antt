-- What each loop of `graph::dot` keeps.
use Rattle.std.proofs.Common.{◌≡◌, ◌++◌, None, codes, drop, option_map}
use Rattle.psy_draw.specs.Graph.{clusters}
use Rattle.psy_draw.proofs.graph.dot.Given as goal

-- What was written goes on to the whole text but for its end
abbrev pub invariant-loop-note : goal.invariant-loop-note
invariant-loop-note l = l.out.items ++ clusters (option_map (λ a. a.now) l.agent) (drop l.note-index l.notes) ≡ codes "digraph psyc {\n  rankdir=LR;\n  node [shape=box];\n" ++ clusters None l.notes
