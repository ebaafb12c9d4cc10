-- What each loop of `points::+behind` keeps.
use Rattle.std.proofs.Common.{drop}
use Rattle.psy_meaning.specs.Rest.{rests_of_list}
use Rattle.psy_flow.specs.declared.points.Search.{Search}
use Rattle.psy_flow.specs.Tops.{called}
use Rattle.psy_flow.specs.Behind.{IsBehind}
use Rattle.psy_flow.proofs.points.+behind.Given as goal

abbrev pub invariant-behind-loop-place : goal.invariant-behind-loop-place
invariant-behind-loop-place l =
    (r : Search) → IsBehind l.gauge l.wanted (called l.row) (rests_of_list (drop l.place l.stmts)) l.left r → IsBehind l.gauge l.wanted (called l.row) (rests_of_list l.stmts) l.fn.number r
