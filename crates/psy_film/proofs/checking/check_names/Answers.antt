-- What is left of the proof of `checking::check_names`.
use Rattle.std.proofs.Common.{◌∙◌, ◌<◌, ◌-◌, ◌^◌, None, arith, length, sym}
use Rattle.psy_passes.proofs.lemmas.ToldApart.{differ_by, same_by}
use Rattle.psy_film.specs.declared.checking.Checking.{Checking}
use Rattle.psy_film.proofs.Faults.{of_late}
use Rattle.psy_film.proofs.Looking.{found_first, none_yet}
use Rattle.psy_film.proofs.Names.{unlisted_same}
use Rattle.psy_film.proofs.Readings.{other_tail}
use Rattle.psy_film.proofs.Walked.{checked}
use Rattle.psy_film.proofs.checking.check_names.Goals as goal

pub returns-in-Err-clause-cause : goal.returns-in-Err-clause-cause
returns-in-Err-clause-cause g c =
    let run = c.requires.run in
    of_late _ _ c.args.source _ _ c.since.result (c.since.ensures _ _ _ _ run.0 run.1 c.in-Err.ensures.cause)

pub returns-then-ne-clause-cause : goal.returns-then-ne-clause-cause
returns-then-ne-clause-cause g c =
    let run = c.requires.run in
    let done = c.in-Ok.ensures.done in (
      other_tail c.one_front.ensures _ _ run.0 done.0 run.1 done.2
          (λ same. differ_by c.as_slice.result.now c.args.tail.now c.if-ne.ensures (c.as_slice.ensures.value ∙ done.4 ∙ sym same ∙ sym run.2)),
      c.in-Ok.ensures.read,
    )

pub returns-in-Some-clause-cause : goal.returns-in-Some-clause-cause
returns-in-Some-clause-cause g c =
    let done = c.in-Ok.ensures.done in
    let old : Checking = record { listed = c.args.listed; own = c.of.result; notes = 0; unlisted = None } in
    let few : length done.0 < 2 ^ 64 - 1 = omega (arith, done.2.few) in
    let walked = checked old done.0 done.1 c.pass.new.teller done.3 in
    (done.0, done.2, sym (c.first_foreign.ensures c.args.source done.0 (walked.1 c.args.source c.of.ensures) few) ∙ c.in-Some.is, c.in-Ok.ensures.read)

pub returns-in-Some-unlisted-clause-cause : goal.returns-in-Some-unlisted-clause-cause
returns-in-Some-unlisted-clause-cause g c =
    let done = c.in-Ok.ensures.done in
    let old : Checking = record { listed = c.args.listed; own = c.of.result; notes = 0; unlisted = None } in
    let few : length done.0 < 2 ^ 64 - 1 = omega (arith, done.2.few) in
    let walked = checked old done.0 done.1 c.pass.new.teller done.3 in
    let ends = sym (same_by c.as_slice.result.now c.args.tail.now c.if-ne.ensures) ∙ c.as_slice.ensures.value ∙ done.4 in (
      done.0,
      record {
        run = done.2;
        own = sym (c.first_foreign.ensures c.args.source done.0 (walked.1 c.args.source c.of.ensures) few) ∙ c.in_default.is;
      },
      unlisted_same done.0
          ∙ found_first c.found_unlisted.ensures c.args.listed.now c.args.tail.now done.0 c.pass.new.teller.notes c.pass.new.teller.unlisted c.requires.names
          done.2.read ends few (walked.2 (none_yet c.args.listed.now))
          ∙ c.in-Some-unlisted.is,
      c.in-Ok.ensures.read,
    )

pub returns-clause-own : goal.returns-clause-own
returns-clause-own g c =
    let done = c.in-Ok.ensures.done in
    let old : Checking = record { listed = c.args.listed; own = c.of.result; notes = 0; unlisted = None } in
    let few : length done.0 < 2 ^ 64 - 1 = omega (arith, done.2.few) in
    let walked = checked old done.0 done.1 c.pass.new.teller done.3 in
    let ends = sym (same_by c.as_slice.result.now c.args.tail.now c.if-ne.ensures) ∙ c.as_slice.ensures.value ∙ done.4 in (
      done.0,
      record {
        run = done.2;
        log = record {
          lines = done.2.read;
          listed = found_first c.found_unlisted.ensures c.args.listed.now c.args.tail.now done.0 c.pass.new.teller.notes c.pass.new.teller.unlisted
              c.requires.names done.2.read ends few (walked.2 (none_yet c.args.listed.now)) ∙ c.in-None.is;
        };
        ends = ends;
      },
      sym (c.first_foreign.ensures c.args.source done.0 (walked.1 c.args.source c.of.ensures) few) ∙ c.in_default.is,
    )
