-- A whole run of a plan may be saved at its last date: what it leaves there is sound, where the date is quiet.
use Rattle.std.proofs.Common.{◌≡◌, ℕ, suc, ◌*◌, ◌^◌, ◌<◌, ◌≤◌, List, length, get_or, None, sym, ap, subst}
use Rattle.std.specs.List.{All}
use Rattle.std.proofs.lemmas.List.Elements.{All-nil}
use Rattle.psy_base.specs.declared.limits.TheConstants.{UNTIL}
use Rattle.psy_base.specs.declared.message.Message.{Message}
use Rattle.psy_code.specs.declared.code.Code.{Code}
use Rattle.psy_dates.specs.Beginnings.{beginning_of}
use Rattle.psy_dates.specs.Plans.{IsPlan, opened_of, whole_of}
use Rattle.psy_dates.proofs.lemmas.Fits.{GoWell, goes_well, queue_size, small_queue}
use Rattle.psy_history.specs.Actions.{Opening, System}
use Rattle.psy_history.specs.Compiled.{AreInputs}
use Rattle.psy_history.specs.Openings.{IsSound}
use Rattle.psy_history.specs.Queues.{queue_of}
use Rattle.psy_history.specs.Regular.{IsLawful}
use Rattle.psy_history.specs.Resuming.{IsQuiet, MayResume, MaySave}
use Rattle.psy_history.specs.Runs.{IsRun}
use Rattle.psy_history.specs.Scheduled.{HaveAll, IsSupplied}
use Rattle.psy_history.specs.Scripts.{IsScript, stalls_of}
use Rattle.psy_kernel.specs.Freezing.{BeginWithFirst, left_by}
use Rattle.psy_kernel.specs.Progress.{Progress, beginning, order, system}
use Rattle.psy_kernel.proofs.lemmas.OrdersInForce.{declared_each, in_force_each}
use Rattle.psy_meaning.specs.KnownWays.{Listed, Ways}
use Rattle.psy_save.proofs.MessageNumbers.{queue_short}

-- The history of a run is regular.
abbrev pub AreLawful : Type 0
AreLawful = (s : System) (ways : Ways) (code : Code) → IsRun s ways code → IsLawful s

-- What a whole run leaves at a quiet date is sound.
abbrev pub AreSaved : Type 0
AreSaved = (s : System) (ways : Ways) (code : Code) (sizes : List ℕ) (order : ℕ → List ℕ) (date : ℕ) → MaySave s ways code sizes order date → IsQuiet s date → MayResume s ways code sizes order date

module _ (well : GoWell) (lawful : AreLawful) (p : Progress) (its : IsPlan p.plan) (are : AreInputs p.plan.unit p.inputs) (of : IsScript p.plan.unit p.script) (none : p.opening ≡ None) where
  abbrev s : System
  s = system p

  whole : beginning p ≡ whole_of p.plan
  whole = ap (beginning_of p.plan) none

  run : IsRun s (Listed its.ways) p.plan.code
  run = subst (λ opening. IsRun (opened_of p.plan opening p.inputs (stalls_of p.script)) (Listed its.ways) p.plan.code) (sym whole) (goes_well p.plan its well p.inputs (stalls_of p.script) are)

  have_all : HaveAll s (order p)
  have_all cycle = in_force_each p.plan.unit _ p.script.orders cycle (declared_each (length p.plan.unit.agents)) of.orders

  supplied : IsSupplied s (order p) p.plan.until
  supplied = record {
    lawful = lawful s (Listed its.ways) p.plan.code run;
    quantum = its.fits.bare.quantum.0;
    orders = have_all;
    graphs = its.supplied.graphs;
    drawn = record { count = its.supplied.drawn.count; each = its.supplied.drawn.each };
    feasible = its.supplied.feasible;
  }

  may_save : BeginWithFirst p.plan → p.plan.until ≤ UNTIL → p.plan.until * p.plan.unit.quantum < 2 ^ 50 → MaySave s (Listed its.ways) p.plan.code p.plan.sizes.rings (order p) p.plan.until
  may_save first near cycles = record {
    run = run;
    whole = whole;
    supplied = supplied;
    rings = its.buffers.rings;
    queues = λ stream less. (get_or p.plan.sizes.queues stream 0, queue_size p.plan its stream less, small_queue p.plan its stream less);
    copies = first;
    near = near;
    cycles = cycles;
  }

  pub left_sound : AreSaved → BeginWithFirst p.plan → p.plan.until ≤ UNTIL → p.plan.until * p.plan.unit.quantum < 2 ^ 50 → IsQuiet s p.plan.until
      → IsSound (opened_of p.plan (left_by p) p.inputs (stalls_of p.script)) (Listed its.ways) p.plan.code
  left_sound saved first near cycles quiet = (saved s (Listed its.ways) p.plan.code p.plan.sizes.rings (order p) p.plan.until (may_save first near cycles) quiet).sound

  abbrev IsShort : Message → Type 0
  IsShort m = m.number < 2 ^ 32

  pub left_short : (stream : ℕ) → All IsShort (queue_of s (suc p.plan.until) stream)
  left_short stream =
      queue_short s p.plan.code run.coded its.fits.bare stream p.plan.until (subst (λ (o : Opening). All IsShort (o.messages stream)) (sym whole) (All-nil IsShort))
