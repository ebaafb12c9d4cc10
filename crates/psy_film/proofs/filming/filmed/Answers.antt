-- What is left of the proof of `filming::filmed`.
use Rattle.std.proofs.Common.{map, refl, sym, subst, ◌∙◌}
use Rattle.std.specs.Prelude.{string_bytes}
use Rattle.psy_passes.specs.NameChecks.{EndAs}
use Rattle.psy_film.proofs.Names.{has_summary, unlisted_same}
use Rattle.psy_film.proofs.Sources.{own_alike}
use Rattle.psy_film.proofs.filming.filmed.Goals as goal

pub notes_of-requires : goal.notes_of-requires
notes_of-requires g c = (c.requires.0, c.requires.1.log.lines, c.requires.1.ends)

pub drawn-requires-clause-listed : goal.drawn-requires-clause-listed
drawn-requires-clause-listed g c =
    record {
      agents = c.in_ok-listed.ensures.agents;
      variables = c.in_ok-listed.ensures.variables;
      streams = c.in_ok-listed.ensures.streams;
    }

pub drawn-requires-clause-known : goal.drawn-requires-clause-known
drawn-requires-clause-known g c = λ notes has.
    sym (c.by_summary.ensures.unasked c.in_ok-listed.listed c.as_slice-summary.result.now notes (map string_bytes c.args.asked.names.now) has
    (record { agents = c.in_ok-listed.ensures.agents; variables = c.in_ok-listed.ensures.variables; streams = c.in_ok-listed.ensures.streams }))
    ∙ sym c.first_unknown.ensures ∙ c.in_default.is

pub drawn-requires-clause-own : goal.drawn-requires-clause-own
drawn-requires-clause-own g c = λ notes has.
    let summary = c.as_slice-summary.result.now in
    let own = has_summary _ _ _ summary c.requires.0 (subst (λ said. EndAs said c.args.tail.now) (sym c.as_slice-summary.ensures.value) c.in_ok-notes.ensures)
    c.requires.1 in
    own_alike c.own_summary.ensures c.args.asked.source summary c.requires.0 notes own has c.requires.2

pub returns-in-Some-clause-cause : goal.returns-in-Some-clause-cause
returns-in-Some-clause-cause g c =
    let notes = c.requires.0 in
    let log = c.requires.1 in
    let summary = c.as_slice-summary.result.now in
    let has = has_summary _ _ _ summary notes (subst (λ said. EndAs said c.args.tail.now) (sym c.as_slice-summary.ensures.value) c.in_ok-notes.ensures) log in (
      notes,
      record { run = log.run; own = c.requires.2 },
      unlisted_same notes ∙ log.log.listed,
      sym (c.by_summary.ensures.unasked c.in_ok-listed.listed summary notes (map string_bytes c.args.asked.names.now) has
          (record { agents = c.in_ok-listed.ensures.agents; variables = c.in_ok-listed.ensures.variables; streams = c.in_ok-listed.ensures.streams }))
          ∙ sym c.first_unknown.ensures ∙ c.in-Some.is,
      refl,
    )
