-- What is left of the proof of `filming::gathered`.
use Rattle.std.proofs.Common.{◌≡◌, ◌++◌, false, true, map, sym, subst, ◌∙◌}
use Rattle.std.specs.Prelude.{string_bytes}
use Rattle.std.proofs.lemmas.Bool.{false≢true}
use Rattle.psy_draw.specs.Gathering.{Counts, asks_stream, asks_variable, first_values}
use Rattle.psy_draw.specs.Listing.{Lists}
use Rattle.psy_film.specs.Films.{IsLogOf}
use Rattle.psy_film.specs.declared.gathering.Gatherer.{Gatherer}
use Rattle.psy_film.proofs.Faults.{ok_is}
use Rattle.psy_film.proofs.Readings.{untold}
use Rattle.psy_film.proofs.Walked.{gathered}
use Rattle.psy_film.proofs.filming.gathered.Goals as goal

pub returns-then-not-agrees-clause-late : goal.returns-then-not-agrees-clause-late
returns-then-not-agrees-clause-late g c =
    let done = c.in-Ok.ensures.done in
    let by = c.args.by.stops in
    let from = by.scale.now.from in
    let old : Gatherer = record { again = c.in_ok-of.field-0; gathering = c.in_ok-of-2.field-0; by = by; from = from; silencing = c.args.silencing } in
    let walked = gathered old done.0 done.1 c.in-Ok.now done.5 in
    let names = map string_bytes by.names.now in
    let summary = c.args.ending.summary.now in
    let there = subst (Lists (asks_variable names) summary) (sym walked.2) c.in_ok-of.ensures.names in
    let again : Counts names from done.0 c.in-Ok.now.again = walked.5 (c.in_ok-of.ensures.none from) in
    let differ : c.agrees.result ≡ false = c.if-not-agrees.true in
    let before = c.requires.counts in (
      untold c.one_front.ensures _ _ before.0 done.0 before.1.run done.2
          (λ same. false≢true (sym differ ∙ c.agrees.ensures
          ∙ c.by_sayings.ensures.agree names from summary done.0 c.args.by.outset.now c.in-Ok.now.again c.requires.names there
          (c.by_sayings.ensures.same names from before.0 done.0 c.args.by.outset.now same before.2) again)),
      c.in-Ok.ensures.readable (ok_is c.in-Ok.now),
    )

pub returns-clause-gathers : goal.returns-clause-gathers
returns-clause-gathers g c =
    let done = c.in-Ok.ensures.done in
    let by = c.args.by.stops in
    let from = by.scale.now.from in
    let old : Gatherer = record { again = c.in_ok-of.field-0; gathering = c.in_ok-of-2.field-0; by = by; from = from; silencing = c.args.silencing } in
    let walked = gathered old done.0 done.1 c.in-Ok.now done.5 in
    let names = map string_bytes by.names.now in
    let summary = c.args.ending.summary.now in
    let there = subst (Lists (asks_variable names) summary) (sym walked.2) c.in_ok-of.ensures.names in
    let again : Counts names from done.0 c.in-Ok.now.again = walked.5 (c.in_ok-of.ensures.none from) in
    let agree : c.agrees.result ≡ true = c.if-not-agrees.false in
    let counts : Counts names from done.0 c.args.by.outset.now =
    c.by_sayings.ensures.agreed names from summary done.0 c.args.by.outset.now c.in-Ok.now.again c.requires.names there (sym c.agrees.ensures ∙ agree) again in
    let log : IsLogOf (g.R.Shelf.files c.args.reel.now) c.args.name.now c.args.ending.tail.now done.0 = record { run = done.2; log = done.3; ends = sym done.4 } in
    let values = first_values from (done.0 ++ c.args.by.more.now) in
    let none = c.in_ok-of-2.ensures.none _ values (c.requires.with_more done.0 counts).firsts in (
      done.0,
      log,
      counts,
      c.in_default.ensures.gathers values done.0 c.requires.more (walked.6 values (c.requires.known done.0 log) none),
      λ owning stopped. walked.7 owning stopped,
    )

pub returns-clause-variables : goal.returns-clause-variables
returns-clause-variables g c =
    let done = c.in-Ok.ensures.done in
    let by = c.args.by.stops in
    let old : Gatherer = record { again = c.in_ok-of.field-0; gathering = c.in_ok-of-2.field-0; by = by; from = by.scale.now.from; silencing = c.args.silencing } in
    let walked = gathered old done.0 done.1 c.in-Ok.now done.5 in
    subst (Lists (asks_variable (map string_bytes by.names.now)) c.args.ending.summary.now)
    (sym (c.in_default.ensures.variables ∙ walked.3 ∙ c.in_ok-of-2.ensures.variables)) c.requires.lists

pub returns-clause-streams : goal.returns-clause-streams
returns-clause-streams g c =
    let done = c.in-Ok.ensures.done in
    let by = c.args.by.stops in
    let old : Gatherer = record { again = c.in_ok-of.field-0; gathering = c.in_ok-of-2.field-0; by = by; from = by.scale.now.from; silencing = c.args.silencing } in
    let walked = gathered old done.0 done.1 c.in-Ok.now done.5 in
    subst (Lists (asks_stream (map string_bytes by.names.now)) c.args.ending.summary.now) (sym (c.in_default.ensures.streams ∙ walked.4))
    c.in_ok-of-2.ensures.streams

pub returns-in-Err-add_all-clause-late : goal.returns-in-Err-add_all-clause-late
returns-in-Err-add_all-clause-late g c = c.in-Ok.ensures.readable (ok_is c.in-Ok.now)
