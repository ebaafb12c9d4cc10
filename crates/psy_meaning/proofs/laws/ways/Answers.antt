-- What is left of the proof of `laws::ways`.
use Rattle.std.proofs.Common.{subst}
use Rattle.psy_meaning.specs.Statements.{callees_of}
use Rattle.psy_meaning.specs.Ways.{To, Course, met_by, courses_through, piece_course, callee_ways}
use Rattle.psy_meaning.proofs.CalleeRuns.{callees_along}
use Rattle.psy_meaning.proofs.StatementRuns.{OutBy, pieces_along}
use Rattle.psy_meaning.proofs.laws.ways.Goals as goal

pub returns : goal.returns
returns c functions pieces point s t none nothing runs =
    let course : Course = courses_through (piece_course (callee_ways functions)) pieces in
    subst (λ d. course (To point) (met_by d) (met_by t.deeds)) nothing
    (subst (OutBy course (met_by s.deeds)) runs (pieces_along (callees_of functions) (callee_ways functions) (callees_along functions none) pieces s))
