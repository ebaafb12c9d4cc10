-- What is left of the proof of `help::syntax_help`.
use Rattle.std.proofs.Common.{◌≡◌, Err, ap}
use Rattle.psy_where.specs.declared.fault.WhereFault.{WhereFault}
use Rattle.psy_where.specs.declared.fault.WhereFault.TheVariants.{Beyond}
use Rattle.psy_where.proofs.help.syntax_help.Goals as goal

pub returns-in-Err-clause-beyond : goal.returns-in-Err-clause-beyond
returns-in-Err-clause-beyond c beyond place is =
    let same : c.in-Err.fault ≡ Beyond = cc in
    c.in-Err.ensures.beyond (ap (λ (fault : WhereFault). Err fault) same) place is
