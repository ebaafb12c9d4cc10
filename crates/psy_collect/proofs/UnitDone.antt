-- A run behind one more unit, and what is kept of it.
use Rattle.std.proofs.Common.{◌≡◌, ◌≢◌, refl, sym, subst, ℕ, ◌+◌, ◌*◌, ◌<◌, ◌==◌, Bool, true, false, ◌∷◌, ◌++◌, Option, Some, map, arith}
use Rattle.std.specs.Prelude.{if◌then◌else◌}
use Rattle.std.proofs.lemmas.Bool.{eqb-false}
use Rattle.psy_audit.specs.declared.said.Said.TheVariants.{Looked}
use Rattle.psy_audit.specs.Traced.{looks_of}
use Rattle.psy_collect.specs.Collected.{IsRunning}
use Rattle.psy_collect.specs.Keeping.{turned_by}
use Rattle.psy_collect.specs.declared.kept.Kept.{Kept}
use Rattle.psy_collect.proofs.Laws.{Earlier}
use Rattle.psy_collect.proofs.OwnLooks.{AllRun, own_looks, seen_looks}
use Rattle.psy_collect.proofs.Runs.{Lawful, lawful, runs}
use Rattle.psy_collect.proofs.Steps.{inside}
use Rattle.psy_collect.proofs.Turns.{as_many}
use Rattle.psy_collect.proofs.UnitKept.{given_is, unit_kept}
use Rattle.psy_dates.proofs.lemmas.Fits.{GoWell}
use Rattle.psy_dates.specs.Plans.{IsPlan}
use Rattle.psy_history.specs.Actions.{Action}
use Rattle.psy_history.specs.Compiled.{AreInputs}
use Rattle.psy_history.specs.Processors.{processor_at, processors}
use Rattle.psy_history.specs.Schedule.{turn_of}
use Rattle.psy_history.specs.Scheduled.{turns_of}
use Rattle.psy_history.specs.Scripts.{IsScript}
use Rattle.psy_kernel.specs.declared.seen.Seen.{Seen}
use Rattle.psy_kernel.specs.Progress.{IsSeenIn, Progress, UnitOf, after_unit, cycles_on, next_processor, order, ran_in, system}
use Rattle.psy_kernel.specs.Units.{IsLookBy, action_at}
use Rattle.psy_history.specs.Regular.{WereStarted}

module _ (p : Progress) (k : Kept) (running : IsRunning p k) (fits : IsPlan p.plan) (inputs : AreInputs p.plan.unit p.inputs) (script : IsScript p.plan.unit p.script) (well : GoWell) (law : Lawful) (earlier : Earlier) (law_runs : AllRun)
    (due : p.cycles ≢ p.dates * p.plan.unit.quantum) (known : next_processor p < processors p.plan.unit) (own : cycles_on p (next_processor p) ≡ p.cycles)
    (more : (n : ℕ) → n < processors p.plan.unit → cycles_on (after_unit p) n ≡ (if n == next_processor p then p.cycles + 1 else cycles_on p n)) (homes : (agent : ℕ) → processor_at p.plan.unit agent < processors p.plan.unit) where
  abbrev unit : Option UnitOf
  unit = Some (record { processor = next_processor p; cycle = p.cycles })

  -- The run with one unit more, by whether it ends its cycle
  abbrev then_by : Bool → Progress
  then_by test = record (if test then record p { cycles = p.cycles + 1; units = 0 } else record p { units = p.units + 1 }) { last = unit }

  low_inside : p.cycles < p.dates * p.plan.unit.quantum
  low_inside = inside p k running due

  sights : (seen : Option Seen) (r : Action) → action_at (system p) (order p) (next_processor p) p.cycles ≡ Some r → IsLookBy (system p) p.plan (turns_of (system p) (order p) p.cycles (next_processor p)) (Some r) seen
      → looks_of (system p) p.plan.sizes (turn_of (Some r) ∷ turns_of (system p) (order p) p.cycles (next_processor p)) r
      ≡ looks_of (system p) p.plan.sizes (turns_of (system p) (order p) p.cycles (next_processor p)) r ++ map Looked (seen_looks r.number p.cycles r.agent seen)
  sights seen r at look =
      let gets = given_is p k running fits inputs script well law earlier low_inside known own r at in
      own_looks (system p) p.plan fits (runs p running.whole fits inputs script well) law_runs p.dates r gets.before gets.actions (subst (WereStarted (system p) p.dates r.agent) gets.actions ((lawful p running.whole fits inputs script well law).actions p.dates r.agent).were_started).0
      (turns_of (system p) (order p) p.cycles (next_processor p)) p.cycles (as_many (system p) (order p) (next_processor p) p.cycles) gets.pending seen look

  done_by : (test : Bool) → (p.units + 1 == processors p.plan.unit) ≡ test → ((n : ℕ) → n < processors p.plan.unit → cycles_on (then_by test) n ≡ (if n == next_processor p then p.cycles + 1 else cycles_on p n))
      → (ran : Option ℕ) (seen : Option Seen) → ran ≡ ran_in (then_by test) unit → IsSeenIn (then_by test) unit seen → IsRunning (then_by test) (turned_by p.plan.unit p.cycles ran seen k)
  done_by true e on ran seen ran_is look = record {
    whole = running.whole;
    given = running.given;
    begun = omega (arith, running.begun);
    early = running.early;
    high = omega (arith, low_inside);
    low = omega (arith, running.low);
    due = λ _. refl;
    collected = unit_kept p k running fits inputs script well law earlier low_inside known own (p.cycles + 1) 0 unit on homes ran seen ran_is look (sights seen);
  }
  done_by false e on ran seen ran_is look = record {
    whole = running.whole;
    given = running.given;
    begun = (let other = eqb-false (p.units + 1) (processors p.plan.unit) e in let less : p.units + 1 < processors p.plan.unit = grind (arith, other, running.begun) in less);
    early = running.early;
    high = running.high;
    low = running.low;
    due = λ whole. absurd (due whole);
    collected = unit_kept p k running fits inputs script well law earlier low_inside known own p.cycles (p.units + 1) unit on homes ran seen ran_is look (sights seen);
  }

  -- What is kept of the run behind the unit
  pub unit_done : (new : Progress) → new ≡ after_unit p → (ran : Option ℕ) (seen : Option Seen) → ran ≡ ran_in new new.last → IsSeenIn new new.last seen → IsRunning new (turned_by p.plan.unit p.cycles ran seen k)
  unit_done new is ran seen ran_is look =
      subst (λ x. IsRunning x (turned_by p.plan.unit p.cycles ran seen k)) (sym is)
      (done_by (p.units + 1 == processors p.plan.unit) refl more ran seen (subst (λ x. ran ≡ ran_in x x.last) is ran_is) (subst (λ x. IsSeenIn x x.last seen) is look))
