-- What each loop of `timing::earliest` keeps.
use Rattle.std.proofs.Common.{ℕ, ◌<◌, ◌≤◌, get_or, map}
use Rattle.std.specs.List.{Contains}
use Rattle.psy_meaning.specs.RingSizes.{agent_timing}
use Rattle.psy_meaning.specs.Timing.{end_date}
use Rattle.psy_audit.proofs.timing.earliest.Given as goal

-- One of the dates, and none of those so far is earlier
abbrev pub invariant-points : goal.invariant-points
invariant-points l =
    let ends = map (end_date (agent_timing l.plan.unit l.plan.nexts l.agent) l.start) l.points in
    record {
      one : Contains ends l.least;
      most : (i : ℕ) → i < l.to-index → l.least ≤ get_or ends i 0;
    }
