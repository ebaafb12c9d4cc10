-- What is left of the proof of `first::soonest`.
use Rattle.std.proofs.Common.{◌∙◌, ap, sym, take}
use Rattle.psy_audit.specs.Rows.{sooner_or}
use Rattle.psy_audit.specs.Turns.{soonest_of}
use Rattle.psy_audit.specs.Waits.{pending_in}
use Rattle.psy_audit.proofs.Sooner.{pending_more}
use Rattle.psy_audit.proofs.first.soonest.Goals as goal

pub waits-preserved : goal.waits-preserved
waits-preserved c =
    let ws = c.args.waits.now in
    let i = c.waits.wait-index in
    c.sooner-first.ensures ∙ ap (λ o. sooner_or o c.pending.result) c.waits.invariant
    ∙ ap (sooner_or (soonest_of (pending_in c.args.cycle (take i ws)))) c.pending.ensures ∙ sym (pending_more c.args.cycle ws i _ c.waits-test.true)
