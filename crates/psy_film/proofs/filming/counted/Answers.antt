-- What is left of the proof of `filming::counted`.
use Rattle.std.proofs.Common.{Err, ap, map, sym, subst}
use Rattle.std.specs.Prelude.{string_bytes}
use Rattle.psy_draw.specs.Gathering.{Counts, asks_variable}
use Rattle.psy_draw.specs.Listing.{Lists}
use Rattle.psy_film.specs.declared.counting.Counting.{Counting}
use Rattle.psy_film.proofs.Faults.{err_is, late}
use Rattle.psy_film.proofs.Walked.{counted}
use Rattle.psy_film.proofs.filming.counted.Goals as goal

pub write_told-requires : goal.write_told-requires
write_told-requires g c = (c.requires.0, c.requires.1.log.lines, c.requires.1.ends)

pub returns-in-Ok-clause-counts : goal.returns-in-Ok-clause-counts
returns-in-Ok-clause-counts g c =
    let done = c.in-Ok.ensures.done in
    let old : Counting = record { outset = c.in_ok-of.field-0; names = c.args.asked.names; from = c.first_date.result } in
    let walked = counted old done.0 done.1 c.in-Ok.counting done.5 in
    let names = map string_bytes c.args.asked.names.now in (
      done.0,
      record { run = done.2; log = done.3; ends = sym done.4 },
      subst (λ from. Counts names from done.0 c.in-Ok.counting.outset) c.first_date.ensures (walked.3 (c.in_ok-of.ensures.none c.first_date.result)),
    )

pub returns-in-Ok-clause-names : goal.returns-in-Ok-clause-names
returns-in-Ok-clause-names g c =
    let done = c.in-Ok.ensures.done in
    let old : Counting = record { outset = c.in_ok-of.field-0; names = c.args.asked.names; from = c.first_date.result } in
    let walked = counted old done.0 done.1 c.in-Ok.counting done.5 in
    subst (Lists (asks_variable (map string_bytes c.args.asked.names.now)) c.args.ending.summary.now) (sym walked.2) c.in_ok-of.ensures.names

pub returns-in-Err-clause-late : goal.returns-in-Err-clause-late
returns-in-Err-clause-late g c =
    let told = c.in-Err.ensures in
    let run = c.requires.1 in
    late _ _ _ c.in-Err.fault told.only (λ is. told.changed (ap Err is) (λ now note no. no) c.requires.0 run.run run.log (sym run.ends)) (λ is. told.unread (ap Err is))
    (λ is. told.unwritten (ap Err is)) (λ differ. told.readable (λ is. differ (err_is _ _ is)))
