-- An action ends at an `advance` or traps on a way to one.
use Rattle.std.proofs.Common.{◌≡◌, refl}
use Rattle.std.specs.Prelude.{ℕ, zero, suc, false, true, List, [], ◌∷◌, map, None, slice_index_or}
use Rattle.psy_tree.specs.declared.unit.AgentDecl.{AgentDecl}
use Rattle.psy_tree.specs.declared.unit.Stmt.{Stmt}
use Rattle.psy_tree.specs.declared.unit.Unit.{Unit as Whole}
use Rattle.psy_meaning.specs.States.{State, Final, Outcome, Falls, Returns, Halts}
use Rattle.psy_meaning.specs.Statements.{Piece, Do, Hop, callees_of, act}
use Rattle.psy_meaning.specs.Paths.{quiet_list}
use Rattle.psy_meaning.specs.Rest.{pieces_of, rests_in, with_rests, rest}
use Rattle.psy_meaning.specs.Ways.{Meter, Way, Course, Fell, Back, To, IsFrontOf, here, one, falling, courses_through, course_by, piece_course, callee_ways}
use Rattle.psy_meaning.specs.Sound.{agent_scope, IsSoundAgent, IsSoundUnit}
use Rattle.psy_meaning.proofs.CalleeRuns.{callees_along}
use Rattle.psy_meaning.proofs.Fronts.{FrontIn}
use Rattle.psy_meaning.proofs.lemmas.NoWays.{NoWay, none, none_on, none_falling, no_fall_second, no_fall_through, no_fall_behind}
use Rattle.psy_meaning.proofs.Rests.{AllFine, rest_fine}
use Rattle.psy_meaning.proofs.Runs.{met}
use Rattle.psy_meaning.proofs.SoundPaths.{none_advances, no_return}
use Rattle.psy_meaning.proofs.StatementRuns.{OutBy, pieces_along}

pub no_fall : (ways : ℕ → Way) (body : List Stmt) (point : ℕ) → quiet_list body ≡ false → NoWay Fell (courses_through (piece_course ways) (rest body point))
no_fall ways body zero h = no_fall_through ways body h
no_fall ways body (suc n) h =
    no_fall_behind ways (slice_index_or (rests_in (map with_rests body)) n []) (Hop ∷ pieces_of body)
    (no_fall_second (falling one) (courses_through (piece_course ways) (pieces_of body)) (no_fall_through ways body h))

pub no_back : (ways : ℕ → Way) (pieces : List Piece) → AllFine pieces → NoWay Back (courses_through (piece_course ways) pieces)
no_back ways [] p = none_falling None here
no_back ways (Do stmt ∷ ps) p = none_on None (course_by ways stmt) (courses_through (piece_course ways) ps) (none ways false true None refl stmt p.0) (no_back ways ps p.1)
no_back ways (Hop ∷ ps) p = none_on None (falling one) (courses_through (piece_course ways) ps) (none_falling None one) (no_back ways ps p.1)

pub ended : (course : Course) (m : Meter) (o p : Outcome) → NoWay Fell course → NoWay Back course → OutBy course m o → p ≡ o → (final : Final) × (p ≡ Halts final)
ended course m (Falls t) p f b g e = elim (f m _ g) [ ]
ended course m (Returns v t) p f b g e = elim (b m _ g) [ ]
ended course m (Halts final) p f b g e = (final, e)

pub to_point : (course : Course) (m k : Meter) → NoWay Fell course → NoWay Back course → FrontIn course m k → (point : ℕ) × (n : Meter) × course (To point) m n × IsFrontOf k n
to_point course m k f b (Fell, n, w, front) = elim (f m n w) [ ]
to_point course m k f b (Back, n, w, front) = elim (b m n w) [ ]
to_point course m k f b (To point, n, w, front) = (point, n, w, front)

-- An action of a sound unit's agent ends at an `advance` or traps.
pub action_ends : (unit : Whole) (number : ℕ) (agent : AgentDecl) (point : ℕ) (s : State) → IsSoundUnit unit → IsSoundAgent unit number agent → (final : Final) × (act unit.functions (rest agent.stmts point) s ≡ Halts final)
action_ends unit number agent point s sound its =
    let back = no_return (agent_scope unit number agent) agent.stmts its.stmts refl in
    let pieces = rest agent.stmts point in
    let ways = callee_ways unit.functions in
    ended (courses_through (piece_course ways) pieces) (met s) (act unit.functions pieces s) (act unit.functions pieces s) (no_fall ways agent.stmts point its.ends) (no_back ways pieces (rest_fine agent.stmts point back))
    (pieces_along (callees_of unit.functions) ways (callees_along unit.functions (none_advances unit sound)) pieces s) refl
