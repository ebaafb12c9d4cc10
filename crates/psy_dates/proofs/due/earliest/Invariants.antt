-- What each loop of `due::earliest` keeps.
use Rattle.std.proofs.Common.{ℕ, ◌<◌, ◌≤◌, get_or, map}
use Rattle.std.specs.List.{Contains}
use Rattle.psy_meaning.specs.Timing.{end_date}
use Rattle.psy_dates.specs.Moves.{timing_in}
use Rattle.psy_dates.proofs.due.earliest.Given as goal

abbrev pub invariant-points : goal.invariant-points
invariant-points l =
    let ends = map (end_date (timing_in l.plan l.agent) l.start) l.points in
    record {
      one : Contains ends l.least;
      most : (i : ℕ) → i < l.to-index → l.least ≤ get_or ends i 0;
    }
