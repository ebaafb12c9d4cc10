-- What is left of the proof of `run::keep_last`.
use Rattle.std.proofs.Common.{◌∙◌, ◌++◌, ap, sym, length, get_or, None, arith}
use Rattle.std.specs.Prelude.{option_to_list}
use Rattle.std.specs.List.{flat_map, range_with_len}
use Rattle.psy_collect.specs.Keeping.{end_in, published_in}
use Rattle.psy_collect.proofs.DateDone.{shows_at}
use Rattle.psy_collect.proofs.LastActs.{all_text}
use Rattle.psy_history.specs.Processors.{processors}
use Rattle.psy_kernel.specs.Runs.{all_given}
use Rattle.psy_collect.proofs.run.keep_last.Goals as goal

pub end_acts-requires : goal.end_acts-requires
end_acts-requires c = omega (arith, ap length c.as_slice.ensures.value, c.shared.ensures.stands.seated, c.plan.ensures.fits.fits.bare.agent_limit)

pub keep_publications-requires-clause-shows : goal.keep_publications-requires-clause-shows
keep_publications-requires-clause-shows c =
    let p = c.args.kernel.now in
    let q = c.pass_lines.new.kernel in
    let is = c.pass_lines.ensures ∙ ap all_given c.date.ensures.state in
    let date_is = c.from.ensures ∙ ap (λ x. x.until) (c.plan-plan.ensures.plan ∙ ap (λ x. x.plan) is) ∙ sym c.requires.last.dates in
    let until_is = c.until_of-until.ensures.value ∙ ap (λ x. x.until) c.plan.ensures.plan in
    shows_at p q is c.shared-2.result.now c.shared-2.ensures.stands c.plan-plan.result.now c.from.result c.plan-plan.ensures.plan date_is
    (omega (arith, date_is, c.requires.last.dates, until_is, c.until_of-until.ensures.few))

pub returns-clause-text : goal.returns-clause-text
returns-clause-text c =
    let p = c.args.kernel.now in
    let k = c.args.kept.now in
    let q = c.pass_lines.new.kernel in
    let is = c.pass_lines.ensures ∙ ap all_given c.date.ensures.state in
    let plan_is = c.plan-plan.ensures.plan ∙ ap (λ x. x.plan) is in
    let date_is = c.from.ensures ∙ ap (λ x. x.until) plan_is ∙ sym c.requires.last.dates in
    let shared = c.shared-2.result.now in
    all_text p k c.requires.running c.requires.last c.plan.ensures.fits c.plan.ensures.inputs c.plan.ensures.script c.fitting.ensures c.regular.ensures.lawful c.on_time.ensures.due c.rings.ensures.next
    c.shared.result.now c.shared.ensures.stands q is shared c.shared-2.ensures.stands c.end_acts.new.acts c.keep_publications.new.publications c.end_segments.new.segments
    (c.in_ok-end_acts.ensures ∙ ap (λ xs. k.acts ++ flat_map (end_in k.doing xs) (range_with_len 0 (length xs))) c.as_slice.ensures.value)
    (c.in_ok-keep_publications.ensures ∙ ap (λ x. k.publications ++ flat_map (published_in x shared c.from.result) (range_with_len 0 (length x.unit.variables))) plan_is
    ∙ ap (λ d. k.publications ++ flat_map (published_in p.plan shared d) (range_with_len 0 (length p.plan.unit.variables))) date_is)
    (c.in_ok-end_segments.ensures ∙ ap (λ n. k.segments ++ flat_map (λ processor. option_to_list (get_or k.serving processor None)) (range_with_len 0 n)) (c.processors_of.ensures.exact ∙ ap (λ x. processors x.unit) c.plan-2.ensures.plan))
