-- What is left of the proof of `engine::boot::charge_of`.
use Rattle.std.proofs.Common.{sym, subst}
use Rattle.psy_budget.specs.Charges.{StallsRise}
use Rattle.psy_kernel.proofs.Booted.{own_rise}
use Rattle.psy_kernel.proofs.engine.boot.charge_of.Goals as goal

pub new-requires : goal.new-requires
new-requires c = subst StallsRise (sym c.in_ok-stalls_of.ensures) (own_rise c.args.agent c.args.script.now.stalls c.requires)
