-- What is left of the proof of `run::keep_date`.
use Rattle.std.proofs.Common.{◌∙◌, ◌<◌, ◌++◌, ap, sym, subst, length, arith}
use Rattle.std.specs.List.{flat_map, range_with_len}
use Rattle.psy_collect.specs.Keeping.{last_in, over_in, published_in}
use Rattle.psy_collect.proofs.DateDone.{date_kept, shows_at}
use Rattle.psy_collect.proofs.Steps.{date_due}
use Rattle.psy_kernel.specs.Runs.{all_given}
use Rattle.psy_collect.proofs.run.keep_date.Goals as goal

pub keep_publications-requires-clause-shows : goal.keep_publications-requires-clause-shows
keep_publications-requires-clause-shows c =
    let p = c.args.kernel.now in
    let q = c.pass_lines.new.kernel in
    let due = date_due p c.args.date c.requires.due in
    shows_at p q (c.pass_lines.ensures ∙ ap all_given c.date.ensures.state) c.shared-shared.result.now c.shared-shared.ensures.stands c.plan-plan.result.now c.args.date c.plan-plan.ensures.plan due.0
    (let last = c.until_of-until.ensures.value ∙ ap (λ x. x.until) c.plan.ensures.plan in omega (arith, c.requires.early, last, c.until_of-until.ensures.few))

pub returns-clause-running : goal.returns-clause-running
returns-clause-running c =
    let p = c.args.kernel.now in
    let q = c.pass_lines.new.kernel in
    let due = date_due p c.args.date c.requires.due in
    let is = c.pass_lines.ensures ∙ ap all_given c.date.ensures.state in
    let plan_is = c.plan-plan.ensures.plan ∙ ap (λ x. x.plan) is in
    let shared = c.shared-shared.result.now in
    let seats = c.as_slice.ensures.value in
    let seats2 = c.as_slice-2.ensures.value in
    let k = c.args.kept.now in
    date_kept p k c.requires.running c.plan.ensures.fits c.plan.ensures.inputs c.plan.ensures.script c.fitting.ensures c.regular.ensures.lawful c.on_time.ensures.earlier c.given.ensures.within c.given.ensures.unstarted c.rings.ensures.next
    (omega (arith, c.requires.early, due.0)) due.1 q is shared c.shared-shared.ensures.stands c.keep_overs.new.acts c.keep_publications.new.publications c.keep_starts.new.last
    (c.in_ok-keep_publications.ensures ∙ ap (λ x. k.publications ++ flat_map (published_in x shared c.args.date) (range_with_len 0 (length x.unit.variables))) plan_is
    ∙ ap (λ d. k.publications ++ flat_map (published_in p.plan shared d) (range_with_len 0 (length p.plan.unit.variables))) due.0)
    (c.in_ok-keep_overs.ensures ∙ ap (λ xs. k.acts ++ flat_map (over_in k.doing xs c.args.date) (range_with_len 0 (length xs))) seats
    ∙ ap (λ d. k.acts ++ flat_map (over_in k.doing shared.seats.items d) (range_with_len 0 (length shared.seats.items))) due.0)
    c.keep_starts.ensures.many
    (λ agent less. c.keep_starts.ensures.each agent (subst (λ xs. agent < length xs) (sym seats2) less) ∙ ap (λ xs. last_in k.doing xs c.args.date agent) seats2 ∙ ap (λ d. last_in k.doing shared.seats.items d agent) due.0)
