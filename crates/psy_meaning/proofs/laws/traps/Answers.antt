-- What is left of the proof of `laws::traps`.
use Rattle.std.proofs.Common.{refl, subst}
use Rattle.psy_meaning.specs.Statements.{callees_of}
use Rattle.psy_meaning.specs.Rest.{rest}
use Rattle.psy_meaning.specs.Sound.{agent_scope}
use Rattle.psy_meaning.specs.Ways.{Course, met_by, unmetered, courses_through, piece_course, callee_ways}
use Rattle.psy_meaning.proofs.CalleeRuns.{callees_along}
use Rattle.psy_meaning.proofs.Endings.{no_fall, no_back, to_point}
use Rattle.psy_meaning.proofs.Fronts.{FrontIn}
use Rattle.psy_meaning.proofs.Rests.{rest_fine}
use Rattle.psy_meaning.proofs.SoundPaths.{none_advances, no_return}
use Rattle.psy_meaning.proofs.StatementRuns.{OutBy, pieces_along}
use Rattle.psy_meaning.proofs.laws.traps.Goals as goal

pub returns : goal.returns
returns c unit number agent point s t kind sound has nothing runs =
    let its = sound.agents number agent has in
    let back = no_return (agent_scope unit number agent) agent.stmts its.stmts refl in
    let pieces = rest agent.stmts point in
    let ways = callee_ways unit.functions in
    let course : Course = courses_through (piece_course ways) pieces in
    to_point course unmetered (met_by t.deeds) (no_fall ways agent.stmts point its.ends) (no_back ways pieces (rest_fine agent.stmts point back))
    (subst (λ d. FrontIn course (met_by d) (met_by t.deeds)) nothing (subst (OutBy course (met_by s.deeds)) runs (pieces_along (callees_of unit.functions) ways (callees_along unit.functions (none_advances unit sound)) pieces s)))
