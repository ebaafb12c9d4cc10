-- What is left of the proof of `apart::near`.
use Rattle.std.proofs.Common.{◌∙◌, ap, map, subst}
use Rattle.std.specs.List.{All}
use Rattle.psy_audit.specs.declared.waits.Wait.{Wait}
use Rattle.psy_audit.specs.Apart.{IsSteady}
use Rattle.psy_audit.specs.Waits.{pending_in}
use Rattle.psy_audit.proofs.Edges.{waits_steady}
use Rattle.psy_audit.proofs.Nearest.{two_now, two_steady}
use Rattle.psy_audit.proofs.apart.near.Goals as goal

pub returns-then-apart-clause-now : goal.returns-then-apart-clause-now
returns-then-apart-clause-now c =
    let by = c.released_by.ensures in
    ap (pending_in c.args.cycle) c.two_at.ensures
    ∙ two_now c.args.cycle c.released_by.result c.args.list.now (c.requires c.if-apart.true) by.within by.before by.behind

pub returns-then-apart-clause-steady : goal.returns-then-apart-clause-steady
returns-then-apart-clause-steady c = λ to k low high all.
    let by = c.released_by.ensures in
    two_steady c.args.cycle to k c.released_by.result c.args.list.now (c.requires c.if-apart.true) by.within by.before by.behind low high
    (subst (All (IsSteady c.args.cycle to)) c.two_at.ensures all)

pub returns-else-apart-clause-steady : goal.returns-else-apart-clause-steady
returns-else-apart-clause-steady c = λ to k low high all.
    ap (map (λ (w : Wait). w.act)) (waits_steady c.args.cycle to k low high c.args.list.now all)
