-- What is left of the proof of `climbing::climb`.
use Rattle.psy_judge.proofs.climbing.climb.Goals as goal

pub rounds-preserved : goal.rounds-preserved
rounds-preserved c = record {
  count = c.round.ensures.count;
  small = c.round.ensures.small;
  found = λ owner found. (c.round.ensures.walked owner (c.rounds.invariant.found owner found)).found;
  kept = λ place height has.
      (let (owner, found) = c.requires.owned in (c.round.ensures.walked owner (c.rounds.invariant.found owner found)).kept place height (c.rounds.invariant.kept place height has));
}

pub rounds-smaller : goal.rounds-smaller
rounds-smaller c = (let (owner, found) = c.requires.owned in c.round.ensures.room owner (c.rounds.invariant.found owner found) c.if-not-round.false)

pub returns-then-not-round-clause-walked : goal.returns-then-not-round-clause-walked
returns-then-not-round-clause-walked c owner found =
    let walked = c.round.ensures.walked owner (c.rounds.invariant.found owner found) in
    record {
      found = walked.found;
      kept = λ place height has. walked.kept place height (c.rounds.invariant.kept place height has);
      closed = λ e. walked.closed c.if-not-round.true;
    }
