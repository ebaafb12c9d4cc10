-- What is left of the proof of `passing::match_run`.
use Rattle.std.proofs.Common.{◌∙◌, ◌<◌, ◌-◌, ◌^◌, arith, length, sym}
use Rattle.psy_film.specs.declared.matching.Matching.{Matching}
use Rattle.psy_film.proofs.Walked.{matched}
use Rattle.psy_film.proofs.passing.match_run.Goals as goal

pub returns-in-Some-clause-cause : goal.returns-in-Some-clause-cause
returns-in-Some-clause-cause g c =
    let done = c.in_default.ensures.done in
    let old : Matching = record { own = c.of.result } in
    let few : length done.0 < 2 ^ 64 - 1 = omega (arith, done.2.few) in
    let own = matched old done.0 done.1 c.pass.new.teller done.3 c.args.source c.of.ensures in
    (done.0, done.2, sym (c.first_foreign.ensures c.args.source done.0 own few) ∙ c.in-Some.is, c.in_default.ensures.read)

pub returns-in-None-clause-own : goal.returns-in-None-clause-own
returns-in-None-clause-own g c =
    let done = c.in_default.ensures.done in
    let old : Matching = record { own = c.of.result } in
    let few : length done.0 < 2 ^ 64 - 1 = omega (arith, done.2.few) in
    let own = matched old done.0 done.1 c.pass.new.teller done.3 c.args.source c.of.ensures in
    (done.0, record { run = done.2; own = sym (c.first_foreign.ensures c.args.source done.0 own few) ∙ c.in-None.is })
