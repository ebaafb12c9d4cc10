-- A run in which nobody acts: its cycles before the next date go to nobody, and what is kept of it stays.
use Rattle.std.proofs.Common.{◌≡◌, ◌∙◌, refl, sym, ap, subst, ℕ, zero, suc, ◌+◌, ◌-◌, ◌*◌, ◌/◌, ◌<◌, ◌≤◌, ◌==◌, false, List, ◌∷◌, Option, Some, None, filter, length, reverse, arith}
use Rattle.std.specs.List.{Contains, flat_map}
use Rattle.std.proofs.lemmas.Bool.{eqb-true, false≢true}
use Rattle.psy_lists.proofs.lemmas.Members.{filter_from, flat_map_from}
use Rattle.psy_audit.specs.Traced.{looks_of, stretches}
use Rattle.psy_collect.specs.Collected.{IsCollected, IsIdle, IsRunning, behind_first, doing_of, first_of, turns_at_end, turns_on}
use Rattle.psy_collect.specs.declared.kept.Kept.{Kept}
use Rattle.psy_collect.proofs.Acts.{unserved}
use Rattle.psy_collect.proofs.Large.{on_whole}
use Rattle.psy_collect.proofs.Steps.{in_date}
use Rattle.psy_collect.proofs.Turns.{soonest_in}
use Rattle.psy_collect.proofs.UnitKept.{doing_idle}
use Rattle.psy_history.specs.Actions.{Action, History, System}
use Rattle.psy_history.specs.History.{history}
use Rattle.psy_history.specs.Processors.{processor_at, served}
use Rattle.psy_history.specs.Schedule.{Turn, is_pending, pending, soonest, turn_of}
use Rattle.psy_history.specs.Scheduled.{turns_of}
use Rattle.psy_kernel.specs.Progress.{Progress, order, system, turns_so_far, up_to_date}
use Rattle.psy_tree.specs.declared.unit.Unit.{Unit as Whole}

-- So many cycles more, which go to nobody
abbrev nones : ℕ → List (Option Turn) → List (Option Turn)
nones zero turns = turns
nones (suc n) turns = None ∷ nones n turns

-- What one of them leaves, all leave.
left_so : {X : Type 0} (f : List (Option Turn) → X) → ((turns : List (Option Turn)) → f (None ∷ turns) ≡ f turns) → (n : ℕ) (turns : List (Option Turn)) → f (nones n turns) ≡ f turns
left_so f one zero turns = refl
left_so f one (suc n) turns = one (nones n turns) ∙ left_so f one n turns

-- Where no action of a processor's agents is pending, its cycle goes to nobody.
nobody : (unit : Whole) (processor : ℕ) (order : List ℕ) (turns : List (Option Turn)) (h : History) → ((agent : ℕ) (r : Action) → processor_at unit agent ≡ processor → Contains (h agent) r → is_pending turns r ≡ false)
    → soonest (pending (served unit processor order) turns h) ≡ None
nobody unit processor order turns h over = by (soonest (pending (served unit processor order) turns h)) refl
  where
    by : (o : Option Action) → soonest (pending (served unit processor order) turns h) ≡ o → soonest (pending (served unit processor order) turns h) ≡ None
    by None e = e
    by (Some r) e =
        let (agent, serves, mine) = flat_map_from (λ agent. filter (is_pending turns) (h agent)) (served unit processor order) r (soonest_in (pending (served unit processor order) turns h) r e) in
        let (there, waits) = filter_from (is_pending turns) (h agent) r mine in
        let (of, is_home) = filter_from (λ agent. processor_at unit agent == processor) order agent serves in
        absurd (false≢true (sym (over agent r (eqb-true (processor_at unit agent) processor is_home) there) ∙ waits))

module _ (p : Progress) (k : Kept) (running : IsRunning p k) (none : p.units ≡ 0) (inside : p.cycles < p.dates * p.plan.unit.quantum) (idle : IsIdle p) where
  abbrev s : System
  s = system p

  abbrev h : History
  h = history s p.dates

  abbrev q : Progress
  q = up_to_date p

  turns_then : (processor n : ℕ) → n + p.cycles ≤ p.dates * p.plan.unit.quantum → turns_of s (order p) (n + p.cycles) processor ≡ nones n (turns_of s (order p) p.cycles processor)
  turns_then processor zero few = (let same : 0 + p.cycles ≡ p.cycles = omega arith in ap (λ c. turns_of s (order p) c processor) same)
  turns_then processor (suc n) few =
      let cycle = n + p.cycles in
      let before = turns_of s (order p) p.cycles processor in
      let its = served p.plan.unit processor (order p cycle) in
      let next : suc n + p.cycles ≡ suc (n + p.cycles) = omega arith in
      ap (λ c. turns_of s (order p) c processor) next
      ∙ ap (λ ts. turn_of (soonest (pending its ts (history s (cycle / p.plan.unit.quantum + 1)))) ∷ ts) (turns_then processor n (omega (arith, few)))
      ∙ ap (λ d. turn_of (soonest (pending its (nones n before) (history s d))) ∷ nones n before) (in_date p.dates cycle p.plan.unit.quantum (omega (arith, few)) (omega (arith, running.low)))
      ∙ ap (λ o. turn_of o ∷ nones n before)
      (nobody p.plan.unit processor (order p cycle) (nones n before) h (λ agent r home there. left_so (λ ts. is_pending ts r) (λ ts. refl) n before ∙ idle processor agent r home there))

  -- How many cycles are left
  abbrev left : ℕ
  left = p.dates * p.plan.unit.quantum - p.cycles

  far : (processor : ℕ) → turns_on q processor ≡ nones left (turns_on p processor)
  far processor =
      let all : p.dates * p.plan.unit.quantum ≡ left + p.cycles = omega (arith, inside) in
      ap (λ c. turns_of s (order p) c processor) (on_whole q processor none ∙ all) ∙ turns_then processor left (omega (arith, inside))
      ∙ ap (λ c. nones left (turns_of s (order p) c processor)) (sym (on_whole p processor none))

  -- What one cycle that goes to nobody leaves is as it was.
  as_before : {X : Type 0} (f : List (Option Turn) → X) → ((turns : List (Option Turn)) → f (None ∷ turns) ≡ f turns) → (processor : ℕ) → f (turns_on p processor) ≡ f (turns_on q processor)
  as_before f one processor = sym (ap f (far processor) ∙ left_so f one left (turns_on p processor))

  abbrev home : ℕ → ℕ
  home agent = processor_at p.plan.unit agent

  kept : IsCollected q k
  kept = record {
    acts = unserved (length p.plan.unit.agents) (turns_at_end p) (turns_so_far p) (turns_so_far q) h k.acts k.doing running.collected.acts
        (λ agent less. sym (as_before (λ ts. doing_of ts (h agent)) (λ ts. doing_idle ts (h agent)) (home agent)));
    publications = running.collected.publications;
    stretches = record {
      over = λ processor less. running.collected.stretches.over processor less ∙ as_before (λ ts. reverse (behind_first (stretches processor ts))) (λ ts. refl) processor;
      last = λ processor less. running.collected.stretches.last processor less ∙ as_before (λ ts. first_of (stretches processor ts)) (λ ts. refl) processor;
      count_is = running.collected.stretches.count_is;
      known = running.collected.stretches.known;
    };
    looks = record {
      each = λ agent less. running.collected.looks.each agent less ∙ as_before (λ ts. flat_map (looks_of s p.plan.sizes ts) (reverse (h agent))) (λ ts. refl) (home agent);
      known = running.collected.looks.known;
    };
  }

  -- All cycles before the next date leave what is kept.
  pub skipped : (new : Progress) → new ≡ q → IsRunning new k
  skipped new is = subst (λ x. IsRunning x k) (sym is) (record {
    whole = running.whole;
    given = running.given;
    begun = running.begun;
    early = running.early;
    high = omega arith;
    low = omega arith;
    due = λ e. none;
    collected = kept;
  })
