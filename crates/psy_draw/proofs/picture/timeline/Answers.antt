-- What is left of the proof of `picture::timeline`.
use Rattle.std.proofs.Common.{map, sym, subst, ◌∙◌}
use Rattle.std.specs.Prelude.{string_bytes}
use Rattle.psy_draw.specs.Tables.{NamesFault}
use Rattle.psy_draw.proofs.Fed.{all_known}
use Rattle.psy_draw.proofs.Refused.{fault_is, on_ok}
use Rattle.psy_draw.proofs.SummaryNames.{failing_unlisted, outside_unasked}
use Rattle.psy_draw.proofs.picture.timeline.Goals as goal

pub returns-in-Some-clause-unlisted : goal.returns-in-Some-clause-unlisted
returns-in-Some-clause-unlisted c = λ n e.
    sym (failing_unlisted c.in_ok-listed.listed c.args.notes.now c.in_ok-listed.ensures.agents c.in_ok-listed.ensures.variables c.in_ok-listed.ensures.streams)
    ∙ subst (NamesFault c.in_ok-listed.listed c.args.notes.now (map string_bytes c.args.names.now)) (fault_is c.in-Some.fault _ e) c.in-Some.ensures

pub returns-in-Some-clause-unknown : goal.returns-in-Some-clause-unknown
returns-in-Some-clause-unknown c = λ k e.
    let listed = c.in_ok-listed.listed in
    let are = c.in_ok-listed.ensures in
    let names = map string_bytes c.args.names.now in
    let first = subst (NamesFault listed c.args.notes.now names) (fault_is c.in-Some.fault _ e) c.in-Some.ensures in (
      sym (failing_unlisted listed c.args.notes.now are.agents are.variables are.streams) ∙ first.0,
      sym (outside_unasked listed c.args.notes.now names are.agents are.variables are.streams) ∙ first.1,
    )

pub returns-in-Some-clause-empty : goal.returns-in-Some-clause-empty
returns-in-Some-clause-empty c = λ e.
    absurd (subst (NamesFault c.in_ok-listed.listed c.args.notes.now (map string_bytes c.args.names.now)) (fault_is c.in-Some.fault _ e) c.in-Some.ensures)

pub returns-clause-listed : goal.returns-clause-listed
returns-clause-listed c =
    on_ok _ c.drawn.result (sym (failing_unlisted c.in_ok-listed.listed c.args.notes.now c.in_ok-listed.ensures.agents c.in_ok-listed.ensures.variables c.in_ok-listed.ensures.streams) ∙ c.in-None.ensures.0)

pub returns-clause-known : goal.returns-clause-known
returns-clause-known c =
    on_ok _ c.drawn.result (sym (outside_unasked c.in_ok-listed.listed c.args.notes.now (map string_bytes c.args.names.now) c.in_ok-listed.ensures.agents c.in_ok-listed.ensures.variables c.in_ok-listed.ensures.streams) ∙ c.in-None.ensures.1)

pub returns-clause-unknown : goal.returns-clause-unknown
returns-clause-unknown c = λ k e. absurd (c.drawn.ensures.unknown k e)

pub returns-clause-empty : goal.returns-clause-empty
returns-clause-empty c = λ e.
    let listed = c.in_ok-listed.listed in
    let are = c.in_ok-listed.ensures in
    let names = map string_bytes c.args.names.now in (
      sym (failing_unlisted listed c.args.notes.now are.agents are.variables are.streams) ∙ c.in-None.ensures.0,
      sym (outside_unasked listed c.args.notes.now names are.agents are.variables are.streams) ∙ c.in-None.ensures.1,
      c.drawn.ensures.empty e,
    )

pub drawn-requires : goal.drawn-requires
drawn-requires c = all_known c.in_ok-listed.listed c.args.notes.now c.in-None.ensures.0
