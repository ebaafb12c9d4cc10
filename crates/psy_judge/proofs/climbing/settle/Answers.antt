-- What is left of the proof of `climbing::settle`.
use Rattle.std.proofs.Common.{refl, sym, subst}
use Rattle.psy_judge.specs.declared.heights.Top.{Top}
use Rattle.psy_judge.specs.Highest.{Covers}
use Rattle.psy_judge.proofs.RowsTaken.{all_tops}
use Rattle.psy_judge.proofs.climbing.settle.Goals as goal

pub twice-requires-clause-inside : goal.twice-requires-clause-inside
twice-requires-clause-inside c place has = ((c.requires.passed.each place).0 has).0

pub climb-requires-clause-inside : goal.climb-requires-clause-inside
climb-requires-clause-inside c place has = ((c.requires.passed.each place).0 has).0

pub climb-requires-clause-owned : goal.climb-requires-clause-owned
climb-requires-clause-owned c = (let (owner, begins) = c.requires.owned in (owner, (c.twice.ensures.walked owner (c.begin.ensures.found owner begins)).found))

pub returns-in_ok-climb-clause-tops : goal.returns-in_ok-climb-clause-tops
returns-in_ok-climb-clause-tops c owner begins =
    let first = c.twice.ensures.walked owner (c.begin.ensures.found owner begins) in
    let walked = c.in_ok-climb.ensures.walked owner first.found in
    all_tops c.args.code.now owner c.args.starts.now c.args.places.now c.climb.new.row begins c.requires.passed walked.found
    (λ place has within. walked.kept place 0 (first.kept place 0 (subst (λ (t : Top). Covers t 0) (sym (c.begin.ensures.begun place has within)) refl)))
    (walked.closed refl)

pub returns-else-twice-clause-tops : goal.returns-else-twice-clause-tops
returns-else-twice-clause-tops c owner begins =
    let walked = c.twice.ensures.walked owner (c.begin.ensures.found owner begins) in
    all_tops c.args.code.now owner c.args.starts.now c.args.places.now c.twice.new.row begins c.requires.passed walked.found
    (λ place has within. walked.kept place 0 (subst (λ (t : Top). Covers t 0) (sym (c.begin.ensures.begun place has within)) refl))
    (walked.closed c.if-twice.false)
