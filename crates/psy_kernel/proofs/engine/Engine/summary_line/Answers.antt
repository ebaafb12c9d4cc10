-- What is left of the proof of `engine::Engine::summary_line`.
use Rattle.std.proofs.Common.{◌≡◌, ◌+◌, ◌<◌, ◌≤◌, ◌^◌, length, slice_get, sym, ap, subst, ◌∙◌, arith}
use Rattle.psy_dates.proofs.lemmas.Fits.{goes_well_from}
use Rattle.psy_meaning.specs.KnownWays.{Listed}
use Rattle.psy_dates.specs.Standing.{dates_done}
use Rattle.psy_kernel.specs.Engines.{EngineState, summary_on}
use Rattle.psy_history.specs.Scripts.{stalls_of}
use Rattle.psy_kernel.specs.Standing.{state_of}
use Rattle.psy_kernel.proofs.Engines.{opening_in, order_in, run_in}
use Rattle.psy_kernel.specs.Telling.{figured_lines}
use Rattle.psy_kernel.proofs.FewLines.{summary-few}
use Rattle.psy_kernel.proofs.SummaryLines.{summary_figured}
use Rattle.psy_kernel.proofs.engine.Engine.summary_line.Goals as goal

pub returns : goal.returns
returns c =
    let k = c.self.inside in
    let w = c.self.invariant in
    let over : dates_done k.shared.date ≡ k.plan.until + 1 = subst (λ (e : EngineState). e.dates ≡ e.plan.until + 1) (sym c.self.view_is) c.requires.over in
    let run = goes_well_from k.plan w.plan c.fitting.ensures c.openings.ensures.run (opening_in k) k.shared.inputs.lists (stalls_of k.script) w.inputs w.sound in
    let told : summary_on c.args.self.now ≡ figured_lines k.plan c.deref.result.now c.deref-2.result.now c.deref-3.result.now =
    ap summary_on (sym c.self.view_is)
    ∙ summary_figured k w over (c.one_of_them.ensures.one k.plan.unit) (c.regular.ensures.lawful (run_in k) (Listed w.plan.ways) k.plan.code run)
    (λ agent r supplied held le. c.on_time.ensures.due (run_in k) (order_in k) k.plan.until k.plan.until agent r supplied (omega arith) held le)
    c.reaches.ensures.same
    ∙ ap (λ runners. figured_lines k.plan runners k.reaches.items k.helds.items) (sym c.deref.ensures.value)
    ∙ ap (λ reaches. figured_lines k.plan c.deref.result.now reaches k.helds.items) (sym c.deref-2.ensures.value)
    ∙ ap (figured_lines k.plan c.deref.result.now c.deref-2.result.now) (sym c.deref-3.ensures.value) in
    record {
      some = λ is. ap (λ lines. slice_get lines c.args.place) told ∙ c.tell_figure.ensures.some is;
      few = subst (λ e. length (summary_on e) < 2 ^ 32) c.self.view_is (summary-few (state_of k) w.plan);
      none = λ is. (subst (λ lines. length lines ≤ c.args.place) (sym told) (c.tell_figure.ensures.none is).0, (c.tell_figure.ensures.none is).1);
    }
