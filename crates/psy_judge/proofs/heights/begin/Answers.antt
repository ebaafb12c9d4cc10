-- What is left of the proof of `heights::begin`.
use Rattle.std.proofs.Common.{◌+◌, length, get_or, refl, sym, subst}
use Rattle.std.proofs.lemmas.List.Elements.{Contains-get_or}
use Rattle.psy_judge.proofs.RowsTaken.{AreBegun, begun_found, begun_none, begun_small, begun_step, begun_there}
use Rattle.psy_judge.proofs.heights.begin.Goals as goal

pub starts-init : goal.starts-init
starts-init c = begun_none (length c.args.code.now.instrs) c.args.starts.now c.args.row.now c.requires.empty

pub starts-preserved : goal.starts-preserved
starts-preserved c =
    let count = length c.args.code.now.instrs in
    let starts = c.args.starts.now in
    let k = c.starts.start-index in
    subst (AreBegun count starts (k + 1)) (sym c.begin_at.ensures)
    (begun_step count starts k (get_or starts k 0) c.starts.row c.starts.invariant refl (Contains-get_or starts k 0 c.starts-test.true))

pub returns-clause-count : goal.returns-clause-count
returns-clause-count c = c.starts.invariant.size

pub returns-clause-small : goal.returns-clause-small
returns-clause-small c = begun_small (length c.args.code.now.instrs) c.args.starts.now c.starts.start-index c.starts.row c.starts.invariant

pub returns-clause-found : goal.returns-clause-found
returns-clause-found c owner begins = begun_found c.args.code.now owner c.args.starts.now c.starts.start-index c.starts.row c.starts.invariant begins

pub returns-clause-begun : goal.returns-clause-begun
returns-clause-begun c = begun_there (length c.args.code.now.instrs) c.args.starts.now c.starts.start-index c.starts.row c.starts.invariant c.starts-test.false
