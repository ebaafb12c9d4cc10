-- What each loop of `silent::stop` keeps.
use Rattle.std.proofs.Common.{◌≡◌, drop, map, take}
use Rattle.psy_match.specs.Silences.{kept_of, stopped_at}
use Rattle.psy_match.proofs.silent.stop.Given as goal

-- Those so far are stopped, and the others are as they were.
abbrev pub invariant-loop-one : goal.invariant-loop-one
invariant-loop-one l =
    (map kept_of (take l.one-index l.owned) ≡ map (stopped_at l.agent l.date) (map kept_of (take l.one-index l.initial.owned)))
    × (drop l.one-index l.owned ≡ drop l.one-index l.initial.owned)
