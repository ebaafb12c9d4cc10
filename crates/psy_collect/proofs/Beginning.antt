-- A run that has just begun, and one that is the same.
use Rattle.std.proofs.Common.{◌≡◌, ◌∙◌, refl, sym, ap, subst, ℕ, ◌+◌, ◌*◌, ◌<◌, List, Option, None, length, arith}
use Rattle.std.proofs.lemmas.List.Elements.{All-nil}
use Rattle.std.proofs.lemmas.List.FromFn.{get_or-map-range_with_len, length-map-range_with_len}
use Rattle.psy_audit.specs.declared.said.Act.{Act}
use Rattle.psy_audit.specs.declared.said.Look.{Look}
use Rattle.psy_audit.specs.declared.said.Publication.{Publication}
use Rattle.psy_audit.specs.declared.said.Segment.{Segment}
use Rattle.psy_collect.specs.Collected.{IsLastDue, IsRunning, IsSameRun}
use Rattle.psy_collect.specs.Keeping.{nothing_kept}
use Rattle.psy_dates.specs.declared.plan.Plan.{Plan}
use Rattle.psy_history.specs.Processors.{processors}
use Rattle.psy_history.specs.declared.told.Script.{Script}
use Rattle.psy_kernel.specs.Progress.{Progress, after_date, booted}
use Rattle.psy_kernel.specs.Runs.{all_given, ended}
use Rattle.std.specs.Prelude.{ℤ}

some_processors : (plan : Plan) → 0 < processors plan.unit
unfolding processors
some_processors plan = omega arith

begins : (plan : Plan) (inputs : List (List ℤ)) (script : Script) → IsRunning (booted plan inputs script) (nothing_kept (length plan.unit.agents) (processors plan.unit))
begins plan inputs script = record {
  whole = refl;
  given = refl;
  begun = some_processors plan;
  early = omega arith;
  high = omega arith;
  low = omega arith;
  due = λ e. refl;
  collected = record {
    acts = record {
      over = λ agent less. refl;
      last = λ agent less. (let f : ℕ → Option Act = λ n. None in get_or-map-range_with_len f 0 (length plan.unit.agents) agent agent None less (omega arith));
      count = (let f : ℕ → Option Act = λ n. None in length-map-range_with_len f 0 (length plan.unit.agents));
      known = All-nil (λ (a : Act). a.agent < length plan.unit.agents);
    };
    publications = record { each = λ variable less. refl; known = All-nil (λ (q : Publication). q.variable < length plan.unit.variables) };
    stretches = record {
      over = λ processor less. refl;
      last = λ processor less. (let f : ℕ → Option Segment = λ n. None in get_or-map-range_with_len f 0 (processors plan.unit) processor processor None less (omega arith));
      count_is = (let f : ℕ → Option Segment = λ n. None in length-map-range_with_len f 0 (processors plan.unit));
      known = All-nil (λ (g : Segment). g.processor < processors plan.unit);
    };
    looks = record { each = λ agent less. refl; known = All-nil (λ (l : Look). l.agent < length plan.unit.agents) };
  };
}

-- Nothing is kept of a run that was just booted.
pub begun : (p : Progress) → p ≡ booted p.plan p.inputs p.script → IsRunning p (nothing_kept (length p.plan.unit.agents) (processors p.plan.unit))
begun p is = subst (λ q. IsRunning q (nothing_kept (length p.plan.unit.agents) (processors p.plan.unit))) (sym is) (begins p.plan p.inputs p.script)

-- Behind its last date a run is at its end.
pub at_end : (first mid last : Progress) → first ≡ booted first.plan first.inputs first.script → IsSameRun first mid → IsLastDue mid → last ≡ all_given (after_date mid) → last ≡ ended first
at_end first mid last booted_is same due is = is ∙ ap all_given (λ i. record {
  plan = same.plan i;
  inputs = same.inputs i;
  script = same.script i;
  opening = same.opening i;
  dates = dates i;
  cycles = cycles i;
  units = units i;
  given = given i;
  last = None;
})
  where
    dates : mid.dates + 1 ≡ first.plan.until + 1
    dates = ap (λ n. n + 1) (due.dates ∙ ap (λ (q : Plan). q.until) same.plan)

    cycles : mid.cycles ≡ first.plan.until * first.plan.unit.quantum
    cycles = due.cycles ∙ ap (λ (q : Plan). q.until * q.unit.quantum) same.plan

    units : mid.units ≡ first.units
    units = due.units ∙ sym (ap (λ (q : Progress). q.units) booted_is)

    given : 0 ≡ first.given
    given = sym (ap (λ (q : Progress). q.given) booted_is)
