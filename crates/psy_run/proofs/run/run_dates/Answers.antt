-- What is left of the proof of `run::run_dates`.
use Rattle.std.proofs.Common.{◌≡◌, ◌∙◌, ap, subst, sym, refl, ◌+◌, ◌*◌, ◌≤◌, length, arith}
use Rattle.psy_door.specs.Growth.{Grew, GrewByFront}
use Rattle.psy_kernel.specs.Progress.{after_date, lines_told, system}
use Rattle.psy_kernel.specs.Texts.{text_of}
use Rattle.psy_run.specs.Cuts.{IsCutAt}
use Rattle.psy_kernel.specs.Runs.{all_given}
use Rattle.psy_run.proofs.CutLemmas.{cut_at_date}
use Rattle.psy_run.proofs.lemmas.Growth.{Grew-nothing}
use Rattle.psy_run.proofs.LogLemmas.{Grew-date, GrewByFront-date, begun_by, cycles-after, lines-done, log-none, progress-parts, stage-date}
use Rattle.psy_run.proofs.run.run_dates.Goals as goal

pub stages-init : goal.stages-init
stages-init g c =
    let old = c.args.kernel.now in
    let held = g.S.Sink.held c.args.out.now in
    let begun = begun_by old c.requires.began in
    record {
      same = begun.same;
      given = begun.given;
      within = c.plan-plan.ensures.within;
      behind = omega (arith, begun.dates);
      cycles = begun.cycles;
      over = begun.over;
      unfailed = refl;
      grew = subst (Grew held held) (sym (log-none (system old) old.dates begun.dates)) (Grew-nothing held);
    }

pub returns-in-Err-clause-written : goal.returns-in-Err-clause-written
returns-in-Err-clause-written g c =
    let old = c.args.kernel.now in
    let p = c.stages.kernel in
    let due = stage-date p c.in-DateDue.field-0 (sym c.in-DateDue.ensures) in
    let until = ap (λ k. k.plan.until) c.stages.invariant.same in
    let lines = lines-done c.date.new.self p old c.date.ensures.state c.stages.invariant.same c.stages.invariant.behind in
    let before : p.dates + 1 ≤ old.plan.until + 1 = omega (arith, due.2, c.stages.invariant.within, until) in
    GrewByFront-date _ _ _ (system old) p.dates (old.plan.until + 1) c.stages.invariant.behind before c.stages.invariant.grew
    (subst (λ ls. GrewByFront (g.S.Sink.held c.stages.out) (g.S.Sink.held c.write_date.new.out) (text_of ls)) lines c.in-Err.ensures.written)

pub stages-preserved : goal.stages-preserved
stages-preserved g c =
    let old = c.args.kernel.now in
    let p = c.stages.kernel in
    let q = c.write_date.new.kernel in
    let due = stage-date p c.in-DateDue.field-0 (sym c.in-DateDue.ensures) in
    let until : p.plan.until ≡ old.plan.until = ap (λ k. k.plan.until) c.stages.invariant.same in
    let quantum : p.plan.unit.quantum ≡ old.plan.unit.quantum = ap (λ k. k.plan.unit.quantum) c.stages.invariant.same in
    let given = c.in_default.ensures.given in
    let after : q ≡ all_given (after_date p) = given ∙ ap all_given c.date.ensures.state in
    let dates : q.dates ≡ p.dates + 1 = ap (λ k. k.dates) after in
    let cycles : q.cycles ≡ p.dates * old.plan.unit.quantum = ap (λ k. k.cycles) after ∙ due.1 ∙ ap (λ n. p.dates * n) quantum in
    let lines = lines-done c.date.new.self p old c.date.ensures.state c.stages.invariant.same c.stages.invariant.behind in
    record {
      same = progress-parts q old (ap (λ k. k.plan) after ∙ ap (λ k. k.plan) c.stages.invariant.same) (ap (λ k. k.inputs) after ∙ ap (λ k. k.inputs) c.stages.invariant.same) (ap (λ k. k.script) after ∙ ap (λ k. k.script) c.stages.invariant.same)
          (ap (λ k. k.opening) after ∙ ap (λ k. k.opening) c.stages.invariant.same) (ap (λ k. k.units) after ∙ ap (λ k. k.units) c.stages.invariant.same) (ap (λ k. k.last) after);
      given = ap (λ k. k.given) given ∙ sym (ap (λ k. length (lines_told k)) given);
      within = omega (arith, due.2, c.stages.invariant.within, until, dates);
      behind = omega (arith, c.stages.invariant.behind, dates);
      cycles = rw dates (cycles-after old.plan.unit.quantum p.dates q.cycles cycles);
      over = λ last. let e : p.dates ≡ old.plan.until = omega (arith, dates, last) in cycles ∙ ap (λ n. n * old.plan.unit.quantum) e;
      unfailed = c.in_default.ensures.unfailed ∙ c.stages.invariant.unfailed;
      grew =
          rw dates
          (Grew-date _ _ _ (system old) p.dates c.stages.invariant.behind c.stages.invariant.grew
          (subst (λ ls. Grew (g.S.Sink.held c.stages.out) (g.S.Sink.held c.write_date.new.out) (text_of ls)) lines c.in_default.ensures.written));
    }

pub returns-in-Err-clause-cut : goal.returns-in-Err-clause-cut
returns-in-Err-clause-cut g c =
    let old = c.args.kernel.now in
    let p = c.stages.kernel in
    let due = stage-date p c.in-DateDue.field-0 (sym c.in-DateDue.ensures) in
    let until = ap (λ k. k.plan.until) c.stages.invariant.same in
    let lines = lines-done c.date.new.self p old c.date.ensures.state c.stages.invariant.same c.stages.invariant.behind in
    let before : p.dates + 1 ≤ old.plan.until + 1 = omega (arith, due.2, c.stages.invariant.within, until) in
    cut_at_date _ _ _ (system old) p.dates (old.plan.until + 1) c.in-Err.fault.taken c.stages.invariant.behind before c.stages.invariant.grew
    (subst (λ ls. IsCutAt (g.S.Sink.held c.stages.out) (g.S.Sink.held c.write_date.new.out) ls c.in-Err.fault.taken) lines c.in-Err.ensures.cut)
