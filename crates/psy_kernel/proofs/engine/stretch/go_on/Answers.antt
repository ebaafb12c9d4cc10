-- What is left of the proof of `engine::stretch::go_on`.
use Rattle.std.proofs.Common.{rules, ◌≡◌, ◌+◌, ◌*◌, ◌≤◌, ◌^◌, [], get_or, slice_get, ℤ, Vec, Global, sym, ap, ◌∙◌, subst, arith}
use Rattle.psy_dates.specs.declared.seat.Seat.{Seat}
use Rattle.psy_history.specs.Schedule.{units}
use Rattle.psy_kernel.specs.declared.engine.Figure.{Figure}
use Rattle.psy_kernel.specs.declared.engine.advance.Gone.TheVariants as gone
use Rattle.psy_kernel.specs.Seeing.{is_mine, sight_in}
use Rattle.psy_kernel.proofs.ManyCycles.{charged_at, copies_pass, count_fits, early_enough, end_passes, had_less, lasts_on, lasts_over, may_see}
use Rattle.psy_kernel.proofs.Scenes.{not_mine, same_count}
use Rattle.psy_kernel.proofs.engine.stretch.go_on.Goals.{in-Ended, in-Trapped, in-Spent}
use Rattle.psy_kernel.proofs.engine.stretch.go_on.Goals as goal

pub new-scene-requires : goal.new-scene-requires
new-scene-requires c =
    let g = c.requires.given.7 in
    let start : c.args.seat.now.start ≡ c.requires.given.4.start = g.given.has.seated.start in
    record {
      few = c.requires.few;
      lawful = c.requires.plan.fits.bare.clocks;
      start_early = omega (arith, start, g.given.gets.started, c.requires.early);
      date_early = c.requires.early;
    }

pub stretch-done-requires-clause-early : goal.stretch-done-requires-clause-early
stretch-done-requires-clause-early c =
    let g = c.requires.given.7 in
    let start : c.args.seat.now.start ≡ c.requires.given.4.start = g.given.has.seated.start in
    (omega (arith, start, g.given.gets.started), c.requires.early)

pub stretch-done-requires-clause-given : goal.stretch-done-requires-clause-given
stretch-done-requires-clause-given c =
    let w = c.requires.given in
    let may = may_see w.7 c.new-scene.result c.new-scene.ensures in
    (w.0, w.1, w.2, w.4, units w.4.agent w.4.number (w.3 c.args.span.agent), may, charged_at w.7, had_less w.7)

pub returns-in-Going-clause-lasts : goal.returns-in-Going-clause-lasts
returns-in-Going-clause-lasts c = λ opening inputs stalls turns r before waits given.
    let done = c.stretch-done in
    let may = may_see given c.new-scene.result c.new-scene.ensures in
    let had = units r.agent r.number (turns c.args.span.agent) in
    let passes = done.ensures.passes opening inputs stalls r had may (charged_at given) (had_less given) in
    lasts_on given c.requires.inside done.result.cycles done.ensures.count done.new.runner done.ensures.of done.ensures.figure
    done.new.eyes.outbox.now.sends done.new.eyes.taken.now.items passes _ _ (search rules) (search rules) c.in-Going.is

pub returns-in-Going-clause-untaken : goal.returns-in-Going-clause-untaken
returns-in-Going-clause-untaken c = λ stream decl at other.
    let sight = sight_in c.args.plan.now.unit c.args.rings.now c.args.queues.now c.args.span.agent c.args.seat.now.start c.args.span.date in
    same_count c.stretch-done.new.eyes.taken.now.items _ stream _ (search rules)
    (c.stretch-done.ensures.others stream (λ mine. not_mine sight stream decl at other
    (sym (ap (λ scene. is_mine scene stream) c.new-scene.ensures) ∙ mine)))

pub end_of-seat-requires-clause-may : goal.end_of-seat-requires-clause-may
end_of-seat-requires-clause-may c =
    let w = c.requires.given in
    let done = c.stretch-done in
    let may = may_see w.7 c.new-scene.result c.new-scene.ensures in
    let had = units w.4.agent w.4.number (w.3 c.args.span.agent) in
    let passes = done.ensures.passes w.0 w.1 w.2 w.4 had may (charged_at w.7) (had_less w.7) in
    end_passes w.7 c.requires.inside done.result.cycles done.ensures.count done.new.runner done.ensures.of done.ensures.figure
    done.new.eyes.outbox.now.sends done.new.eyes.taken.now.items passes c.in-Ended.point c.in-Ended.is

pub keep_copies-requires-clause-copies : goal.keep_copies-requires-clause-copies
keep_copies-requires-clause-copies c =
    let w = c.requires.given in
    let done = c.stretch-done in
    let may = may_see w.7 c.new-scene.result c.new-scene.ensures in
    let had = units w.4.agent w.4.number (w.3 c.args.span.agent) in
    let passes = done.ensures.passes w.0 w.1 w.2 w.4 had may (charged_at w.7) (had_less w.7) in
    copies_pass w.7 c.requires.inside done.result.cycles done.ensures.count done.new.runner done.ensures.of done.ensures.figure
    done.new.eyes.outbox.now.sends done.new.eyes.taken.now.items passes c.in-Ended.point c.in-Ended.is

pub figured-runner-requires-clause-count : goal.figured-runner-requires-clause-count
figured-runner-requires-clause-count c =
    subst (λ (f : Figure). f.count ≤ 2 ^ 50 + c.args.plan.now.until) (sym c.stretch-done.ensures.figure) (count_fits c.requires.given.7)

pub figured-runner-requires-clause-early : goal.figured-runner-requires-clause-early
figured-runner-requires-clause-early c =
    let w = c.requires.given in
    let same : c.match-done.seat.deadline ≡ w.4.deadline = elim c.match-done.branch [
      | in-Ended b ↦ ap (λ (x : Seat). x.deadline) b.seat-is ∙ w.7.given.has.seated.deadline
      | in-Trapped b ↦ ap (λ (x : Seat). x.deadline) (b.seat-is ∙ b.stop.ensures) ∙ w.7.given.has.seated.deadline
      | in-Spent b ↦ ap (λ (x : Seat). x.deadline) (b.seat-is ∙ b.stop-in-Spent.ensures) ∙ w.7.given.has.seated.deadline
    ] in
    subst (λ deadline. c.args.span.cycle + c.stretch-done.result.cycles ≤ deadline * c.args.plan.now.unit.quantum) (sym same)
    (early_enough w.7 c.requires.inside c.stretch-done.result.cycles c.stretch-done.ensures.count)

pub returns-clause-lasts : goal.returns-clause-lasts
returns-clause-lasts c = λ opening inputs stalls turns r before waits given.
    let done = c.stretch-done in
    let may = may_see given c.new-scene.result c.new-scene.ensures in
    let had = units r.agent r.number (turns c.args.span.agent) in
    let passes = done.ensures.passes opening inputs stalls r had may (charged_at given) (had_less given) in
    let over = lasts_over given c.requires.inside done.result.cycles done.ensures.count done.new.runner done.ensures.of done.ensures.figure
    done.new.eyes.outbox.now.sends done.new.eyes.taken.now.items passes _ _ (search rules) (search rules)
    c.figured-runner.result c.match-done.seat c.match-done.ended.items c.figured-runner.ensures in
    elim c.match-done.branch [
      | in-Ended b ↦
          over (gone.Ended b.in-Ended.point) b.in-Ended.is (
            b.end_of-seat.result,
            b.end_of-seat.ensures (get_or c.args.plan.now.nexts c.args.span.agent []),
            b.seat-is,
            λ variable v value known owned at. b.keep_copies.ensures.own variable v value known owned
                (sym (ap (λ (e : Vec ℤ Global). slice_get e.items variable) b.ended-is) ∙ at),
          )
      | in-Trapped b ↦ over (gone.Trapped b.in-Trapped.kind) b.in-Trapped.is (b.seat-is ∙ b.stop.ensures, ap (λ (e : Vec ℤ Global). e.items) b.ended-is)
      | in-Spent b ↦ over gone.Spent b.in-Spent.is (b.seat-is ∙ b.stop-in-Spent.ensures, ap (λ (e : Vec ℤ Global). e.items) b.ended-is)
    ]

pub returns-clause-untaken : goal.returns-clause-untaken
returns-clause-untaken c = λ stream decl at other.
    let sight = sight_in c.args.plan.now.unit c.args.rings.now c.args.queues.now c.args.span.agent c.args.seat.now.start c.args.span.date in
    same_count c.stretch-done.new.eyes.taken.now.items _ stream _ (search rules)
    (c.stretch-done.ensures.others stream (λ mine. not_mine sight stream decl at other
    (sym (ap (λ scene. is_mine scene stream) c.new-scene.ensures) ∙ mine)))

pub returns-clause-others : goal.returns-clause-others
returns-clause-others c = λ variable v at other. elim c.match-done.branch [
  | in-Ended b ↦ ap (λ (ended : Vec ℤ Global). slice_get ended.items variable) b.ended-is ∙ b.keep_copies.ensures.others variable v at other
  | in-Trapped b ↦ ap (λ (ended : Vec ℤ Global). slice_get ended.items variable) b.ended-is
  | in-Spent b ↦ ap (λ (ended : Vec ℤ Global). slice_get ended.items variable) b.ended-is
]
