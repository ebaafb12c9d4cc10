-- What each loop of `layout::longest` keeps.
use Rattle.std.proofs.Common.{min}
use Rattle.psy_base.specs.declared.edge.Edge.{Edge}
use Rattle.psy_window.specs.Table.{IsTop}
use Rattle.psy_window.proofs.layout.longest.Given as goal

abbrev pub invariant-loop-edge : goal.invariant-loop-edge
invariant-loop-edge l = IsTop (λ (e : Edge). min e.len l.top) l.edges l.edge-index l.longest
