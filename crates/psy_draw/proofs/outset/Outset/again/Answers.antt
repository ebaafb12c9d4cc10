-- What is left of the proof of `outset::Outset::again`.
use Rattle.std.proofs.Common.{map, sym, subst}
use Rattle.std.specs.Prelude.{string_bytes}
use Rattle.psy_draw.specs.Gathering.{asks_variable}
use Rattle.psy_draw.specs.Listing.{Lists}
use Rattle.psy_draw.proofs.Refused.{ok_more}
use Rattle.psy_draw.proofs.outset.Outset.again.Goals as goal

pub returns-clause-names : goal.returns-clause-names
returns-clause-names c =
    ok_more c.copied.result (λ firsts is. subst (Lists (asks_variable (map string_bytes c.args.names.now)) c.args.summary.now) (sym is) c.in_ok-variables.ensures) c.copied.ensures.names
