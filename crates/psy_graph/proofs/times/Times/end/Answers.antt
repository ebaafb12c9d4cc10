-- What is left of the proof of `times::Times::end`.
use Rattle.std.proofs.Common.{◌≡◌, ◌+◌, ◌≤◌, ap, sym, subst, ◌∙◌}
use Rattle.psy_clock.specs.Dates.{after_date}
use Rattle.psy_meaning.specs.Timing.{point_at, clock_at, end_date}
use Rattle.psy_graph.specs.Steps.{timing_by, STEP}
use Rattle.psy_graph.proofs.Phases.{end_near}
use Rattle.psy_graph.proofs.times.Times.end.Goals as goal

pub returns-clause-near : goal.returns-clause-near
returns-clause-near c =
    let timing = timing_by c.args.self.now in
    let value : c.after.result ≡ end_date timing c.args.start c.args.to =
    c.after.ensures.value ∙ ap (λ k. after_date k c.args.start c.count.result) c.clock.ensures ∙ ap (after_date (clock_at timing (point_at timing c.args.to).clock) c.args.start) c.count.ensures in
    subst (λ d. d ≤ c.args.start + STEP) (sym value) (end_near c.distances.ensures.near timing c.requires.timed c.args.start c.args.to c.requires.some c.requires.to)
