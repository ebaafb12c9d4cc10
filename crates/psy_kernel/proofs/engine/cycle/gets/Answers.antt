-- What is left of the proof of `engine::cycle::gets`.
use Rattle.std.proofs.Common.{◌+◌, All, subst, sym}
use Rattle.std.proofs.lemmas.List.Elements.{All-head}
use Rattle.std.specs.Prelude.{ℕ, List, ◌∷◌, ◌≡◌, ℤ, true}
use Rattle.psy_dates.specs.declared.plan.Plan.{Plan}
use Rattle.psy_dates.specs.Plans.{IsPlan, IsSoundFor}
use Rattle.psy_dates.proofs.lemmas.Fits.{goes_well_from}
use Rattle.psy_history.specs.declared.told.Script.{Script}
use Rattle.psy_history.specs.Compiled.{AreInputs}
use Rattle.psy_history.specs.Regular.{Runs}
use Rattle.psy_history.specs.Runs.{IsRun}
use Rattle.psy_history.specs.Scheduled.{IsSupplied}
use Rattle.psy_history.specs.Scripts.{order_of, stalls_of}
use Rattle.psy_meaning.specs.KnownWays.{Listed}
use Rattle.psy_history.specs.Actions.{Action, Opening}
use Rattle.psy_history.specs.History.{history}
use Rattle.psy_history.specs.Schedule.{is_pending}
use Rattle.psy_kernel.specs.Cycles.{GetsCycle, IsCycleOf, run_of, run_turns}
use Rattle.psy_kernel.proofs.GetsCycle as known
use Rattle.psy_kernel.proofs.LooksBack.{AreLooksLaws, looks}
use Rattle.psy_kernel.proofs.engine.cycle.gets.Goals as goal

-- The run of a plan's code, with these inputs and this script
run_is : (c : goal.After-deeds) (plan : Plan) (opening : Opening) (inputs : List (List ℤ)) (script : Script) (its : IsPlan plan) → AreInputs plan.unit inputs → IsSoundFor plan opening inputs (stalls_of script) → IsRun (run_of plan opening inputs script) (Listed its.ways) plan.code
run_is c plan opening inputs script its of_inputs sound = goes_well_from plan its c.fitting.ensures c.openings.ensures.run opening inputs (stalls_of script) of_inputs sound

supply_of : (c : goal.After-deeds) (plan : Plan) (opening : Opening) (inputs : List (List ℤ)) (script : Script) (date cycle : ℕ) → IsCycleOf plan opening inputs script date cycle → IsSupplied (run_of plan opening inputs script) (order_of plan.unit script) plan.until
supply_of c plan opening inputs script date cycle h =
    known.supplied plan opening inputs (stalls_of script) h.of_plan script h.of_script (c.regular.ensures.lawful (run_of plan opening inputs script) (Listed h.of_plan.ways) plan.code (run_is c plan opening inputs script h.of_plan h.of_inputs h.sound))

gets_by : (c : goal.After-deeds) (plan : Plan) (opening : Opening) (inputs : List (List ℤ)) (script : Script) (date cycle agent : ℕ) (r : Action) (before : List Action) → IsCycleOf plan opening inputs script date cycle
    → history (run_of plan opening inputs script) (date + 1) agent ≡ r ∷ before → is_pending (run_turns plan opening inputs script cycle agent) r ≡ true
    → GetsCycle (run_of plan opening inputs script) plan.code (run_turns plan opening inputs script cycle agent) plan.until date cycle agent r before
gets_by c plan opening inputs script date cycle agent r before h is pending =
    let run = run_is c plan opening inputs script h.of_plan h.of_inputs h.sound in
    known.gets plan opening inputs (stalls_of script) h.of_plan script h.of_script (supply_of c plan opening inputs script date cycle h) date cycle h.before h.low h.high c.on_time.ensures.due run.points (h.sound h.of_plan).counts h.most agent r before is
    (c.regular.ensures.runs (run_of plan opening inputs script) (Listed h.of_plan.ways) plan.code run (date + 1) agent) pending

pub returns-clause-over : goal.returns-clause-over
returns-clause-over c = λ plan opening inputs script date cycle agent h.
    known.all_over plan opening inputs (stalls_of script) h.of_plan script h.of_script (supply_of c plan opening inputs script date cycle h) date cycle h.before h.low h.high c.on_time.ensures.earlier agent

pub returns-clause-gets : goal.returns-clause-gets
returns-clause-gets c = λ plan opening inputs script date cycle agent r before h is pending. gets_by c plan opening inputs script date cycle agent r before h is pending

pub returns-clause-looks : goal.returns-clause-looks
returns-clause-looks c = λ plan opening inputs script date cycle agent r before turns h same is pending.
    let run = run_is c plan opening inputs script h.of_plan h.of_inputs h.sound in
    let laws : AreLooksLaws = record {
      ages = c.ring_sizes.ensures.look;
      values = c.rings.ensures.look;
      stalls = c.reaches.ensures.stalled;
      pays = c.reaches.ensures.paid;
      fronts = c.queues.ensures.look;
      sends = c.deeds.ensures.sends;
      takes = c.deeds.ensures.takes;
    } in
    looks plan opening inputs (stalls_of script) h.of_plan run script date cycle h.low h.high laws (supply_of c plan opening inputs script date cycle h) turns agent same r before is
    (All-head (Runs (run_of plan opening inputs script) (Listed h.of_plan.ways) plan.code) r before (subst (All (Runs (run_of plan opening inputs script) (Listed h.of_plan.ways) plan.code)) is
    (c.regular.ensures.runs (run_of plan opening inputs script) (Listed h.of_plan.ways) plan.code run (date + 1) agent)))
    (subst (λ ts. GetsCycle (run_of plan opening inputs script) plan.code ts plan.until date cycle agent r before) (sym same)
    (gets_by c plan opening inputs script date cycle agent r before h is (subst (λ ts. is_pending ts r ≡ true) same pending)))

pub returns-clause-idle : goal.returns-clause-idle
returns-clause-idle c = c.reaches.ensures.idle

pub returns-clause-same : goal.returns-clause-same
returns-clause-same c = c.reaches.ensures.same

pub returns-clause-lawful : goal.returns-clause-lawful
returns-clause-lawful c = λ plan opening inputs script of_plan of_inputs sound. c.regular.ensures.lawful (run_of plan opening inputs script) (Listed of_plan.ways) plan.code (run_is c plan opening inputs script of_plan of_inputs sound)
