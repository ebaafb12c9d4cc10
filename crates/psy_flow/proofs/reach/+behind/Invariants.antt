-- What each loop of `reach::+behind` keeps.
use Rattle.std.proofs.Common.{List, Bool, drop}
use Rattle.psy_meaning.specs.Rest.{rests_of_list}
use Rattle.psy_flow.specs.declared.reach.Reached.{Reached}
use Rattle.psy_flow.specs.Reach.{IsReached}
use Rattle.psy_flow.proofs.reach.+behind.Given as goal

abbrev pub invariant-reach_behind-loop-place : goal.invariant-reach_behind-loop-place
invariant-reach_behind-loop-place l =
    (r : Reached) (after : List Bool) → IsReached (rests_of_list (drop l.place l.stmts)) l.left l.marks after r → IsReached (rests_of_list l.stmts) l.fn.number l.fn.marks after r
