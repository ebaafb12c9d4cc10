-- What is left of the proof of `laws::met`.
use Rattle.std.proofs.Common.{ℕ, refl, sym, subst, arith}
use Rattle.psy_tree.proofs.lemmas.Among.{Among, among, among_left, contains}
use Rattle.psy_meaning.specs.Rest.{rest}
use Rattle.psy_meaning.specs.Sound.{agent_scope}
use Rattle.psy_meaning.specs.Ways.{Course, Way, unmetered, courses_through, piece_course, callee_ways}
use Rattle.psy_meaning.proofs.CalleeRuns.{callees_along}
use Rattle.psy_meaning.proofs.Endings.{no_back, no_fall, to_point}
use Rattle.psy_meaning.proofs.Fronts.{Open}
use Rattle.psy_meaning.proofs.Rests.{rest_fine}
use Rattle.psy_meaning.proofs.SendsMet.{met_from}
use Rattle.psy_meaning.proofs.SoundPaths.{no_return, none_advances}
use Rattle.psy_meaning.proofs.lemmas.RestsOf.{rests_count}
use Rattle.psy_meaning.proofs.laws.met.Goals as goal

pub returns : goal.returns
returns c unit number agent sending sound has there =
    let its = sound.agents number agent has in
    let scope = agent_scope unit number agent in
    let ways : ℕ → Way = callee_ways unit.functions in
    let all : (function : ℕ) → Open (ways function) = λ function. (callees_along unit.functions (none_advances unit sound) function).0 in
    let (point, known, meets) = met_from sending ways all scope refl agent.stmts its.stmts (among sending _ there) in
    let (k, found, front) = meets unmetered in
    let course : Course = courses_through (piece_course ways) (rest agent.stmts point) in
    let back = rest_fine agent.stmts point (no_return scope agent.stmts its.stmts refl) in
    let (to, n, way, begins) = to_point course unmetered k (no_fall ways agent.stmts point its.ends) (no_back ways (rest agent.stmts point) back) front in
    let (more, e) = begins.sends in
    let among_all : Among sending n.sends = subst (Among sending) (sym e) (among_left sending k.sends more found) in
    (point, to, n, omega (arith, known, its.points, rests_count agent.stmts), way, contains sending n.sends among_all)
