-- Which processors had their unit of a cycle, and a kernel behind one more unit.
use Rattle.std.proofs.Common.{◌≡◌, refl, sym, ap, ◌∙◌, subst, inl, inr, arith}
use Rattle.std.specs.Prelude.{◌⊎◌, ℕ, ◌+◌, ◌*◌, ◌<◌, ◌≤◌, ◌==◌, true, false, ◌||◌, if◌then◌else◌, List, length, get_or, take, Some, slice_get, slice_set}
use Rattle.std.specs.List.{list_any, range_with_len}
use Rattle.std.proofs.lemmas.Bool.{cases_eq, eq-eqb, ne_eqb, or_right}
use Rattle.std.proofs.lemmas.List.{get_or-take, get_or_default, length-set, length-take-le}
use Rattle.std.proofs.lemmas.List.Folds.{list_any_at, list_any_more, list_any_none}
use Rattle.std.proofs.lemmas.Nat.{mul-le}
use Rattle.std.proofs.lemmas.Option.{slice_get-get_or, slice_get_within}
use Rattle.psy_lists.proofs.lemmas.Tests.{or_false}
use Rattle.psy_dates.proofs.lemmas.Sets.{get_set_other, get_set_same}
use Rattle.psy_ready.specs.Choice.{ListsEach}
use Rattle.psy_history.specs.Processors.{processors}
use Rattle.psy_history.specs.Scripts.{round_of}
use Rattle.psy_history.specs.declared.told.Round.{Round}
use Rattle.psy_kernel.specs.Engines.{EngineState, IsOverOn, done_on, next_date}
use Rattle.psy_kernel.specs.Kernels.{AreTurned, KernelStands, progress_of, round_by}
use Rattle.psy_kernel.specs.declared.stage.Stage.TheVariants.{CycleDue, UnitDue}
use Rattle.psy_kernel.specs.Progress.{Progress, next_processor, stage_of}
use Rattle.psy_kernel.specs.Slices.{IsOverFor}
use Rattle.psy_kernel.specs.declared.kernel.Kernel.TheInside.{Inside}
use Rattle.psy_kernel.proofs.RoundsInForce.{lists_as_many, lists_round, round_in_is}
use Rattle.psy_kernel.proofs.Stages.{early_until, inside_date, unit_due}
use Rattle.psy_kernel.proofs.Ticks.{IsInside, tick_kept}

-- ---- a round, so many of whose processors had their unit

module _ (n : ℕ) (ns : List ℕ) (lists : ListsEach n ns) (units : ℕ) (some : units < n) where
  within : units < length ns
  within = omega (arith, some, lists_as_many n ns lists)

  pub next_known : get_or ns units 0 < n
  next_known = lists.within units 0 within

  -- the next one is none of them,
  pub not_yet : list_any (λ m. m == get_or ns units 0) (take units ns) ≡ false
  not_yet = list_any_none (λ m. m == get_or ns units 0) (take units ns) (λ k d less. (let below : k < units = omega (arith, less, length-take-le units ns (omega (arith, within))) in ne_eqb (get_or (take units ns) k d) (get_or ns units 0) (apart k d below)))
    where
      apart : (k d : ℕ) → k < units → get_or (take units ns) k d ≡ get_or ns units 0 → ⊥
      apart k d below same = lists.once k units d below within (sym (get_or-take units ns k d below) ∙ same ∙ get_or_default ns units 0 d within)

  -- and then is one of them;
  pub has_it : list_any (λ m. m == get_or ns units 0) (take (units + 1) ns) ≡ true
  has_it =
      list_any_more (λ m. m == get_or ns units 0) ns units 0 within
      ∙ or_right (list_any (λ m. m == get_or ns units 0) (take units ns)) (get_or ns units 0 == get_or ns units 0) (eq-eqb (get_or ns units 0) (get_or ns units 0) refl)

  -- the others are what they were.
  pub as_before : (processor : ℕ) → (processor ≡ get_or ns units 0 → ⊥) → list_any (λ m. m == processor) (take (units + 1) ns) ≡ list_any (λ m. m == processor) (take units ns)
  as_before processor other =
      list_any_more (λ m. m == processor) ns units 0 within
      ∙ ap (λ b. list_any (λ m. m == processor) (take units ns) || b) (ne_eqb (get_or ns units 0) processor (λ e. other (sym e)))
      ∙ or_false (list_any (λ m. m == processor) (take units ns))

  -- Behind the last unit all had theirs.
  pub all_have : units + 1 ≡ n → (processor : ℕ) → processor < n → list_any (λ m. m == processor) (take (units + 1) ns) ≡ true
  all_have last processor less =
      let there = lists.each processor less in
      let long = lists_as_many n ns lists in
      let below : there.0 < units + 1 = omega (arith, there.1, long, last) in
      list_any_at (λ m. m == processor) (take (units + 1) ns) there.0 processor (omega (arith, below, length-take-le (units + 1) ns (omega (arith, within))))
      (eq-eqb (get_or (take (units + 1) ns) there.0 processor) processor (get_or-take (units + 1) ns there.0 processor below ∙ there.2))

-- ---- a kernel's round

pub round_is : (k : Inside) → KernelStands k → (declared : List ℕ) → declared ≡ k.declared.items → (rounds : List Round) → rounds ≡ k.engine.script.rounds → (round : List ℕ) → round ≡ round_by declared rounds k.turned → round ≡ round_of k.engine.plan.unit k.engine.script k.cycles
round_is k is declared declared_are rounds rounds_are round e =
    e
    ∙ ap (λ ns. round_by ns rounds k.turned) (declared_are ∙ is.declared)
    ∙ ap (λ rs. round_by (range_with_len 0 (processors k.engine.plan.unit)) rs k.turned) rounds_are
    ∙ sym (round_in_is (range_with_len 0 (processors k.engine.plan.unit)) k.engine.script.rounds k.turned k.cycles is.turned)

pub unit_place : (k : Inside) → KernelStands k → k.units < length (round_of k.engine.plan.unit k.engine.script k.cycles)
unit_place k is = within (processors k.engine.plan.unit) (round_of k.engine.plan.unit k.engine.script k.cycles) (lists_round k.engine.plan.unit k.engine.script k.cycles is.script) k.units is.units

-- ---- a kernel behind one more unit

-- The processor whose unit is due did it, and what the others did is what it was.
pub record HasUnit (k : Inside) (done : List ℕ) : Type 0 where
  pub as_many : length done ≡ length k.engine.done
  pub own : (count : ℕ) → slice_get done (next_processor (progress_of k)) ≡ Some count → count ≡ k.cycles + 1
  pub others : (processor : ℕ) → (processor ≡ next_processor (progress_of k) → ⊥) → slice_get done processor ≡ slice_get k.engine.done processor

module _ (k : Inside) (is : KernelStands k) where
  lists : ListsEach (processors k.engine.plan.unit) (round_of k.engine.plan.unit k.engine.script k.cycles)
  lists = lists_round k.engine.plan.unit k.engine.script k.cycles is.script

  pub next_within : next_processor (progress_of k) < processors k.engine.plan.unit
  next_within = next_known (processors k.engine.plan.unit) (round_of k.engine.plan.unit k.engine.script k.cycles) lists k.units is.units

  pub next_exact : (count : ℕ) → slice_get k.engine.done (next_processor (progress_of k)) ≡ Some count → count ≡ k.cycles
  next_exact count there =
      subst (λ b. count ≡ (if b then k.cycles + 1 else k.cycles))
      (not_yet (processors k.engine.plan.unit) (round_of k.engine.plan.unit k.engine.script k.cycles) lists k.units is.units) (is.exact (next_processor (progress_of k)) count there)

  -- It did one more.
  pub given_unit : (processor : ℕ) → processor ≡ next_processor (progress_of k) → (to : ℕ) → k.cycles < to → to ≤ k.cycles + 1 → HasUnit k (slice_set k.engine.done processor to)
  given_unit processor next to above high = record {
    as_many = length-set k.engine.done processor to;
    own = λ count there.
        get_set_same k.engine.done processor to count (subst (λ q. slice_get (slice_set k.engine.done processor to) q ≡ Some count) (sym next) there) ∙ one;
    others = λ other differs. get_set_other k.engine.done processor other to (λ same. differs (same ∙ next));
  }
    where
      one : to ≡ k.cycles + 1
      one = omega (arith, above, high)

  module _ (date : ℕ) (inside : IsInside k.engine.plan.unit.quantum k.engine.plan.until k.engine.dates k.cycles date) (done : List ℕ) (did : HasUnit k done) where
    exact_by : (processor count : ℕ) → slice_get done processor ≡ Some count
        → count ≡ (if list_any (λ m. m == processor) (take (k.units + 1) (round_of k.engine.plan.unit k.engine.script k.cycles)) then k.cycles + 1 else k.cycles)
    exact_by processor count there = elim (cases_eq processor (next_processor (progress_of k))) [
      | inl same ↦
          subst (λ q. slice_get done q ≡ Some count → count ≡ (if list_any (λ m. m == q) (take (k.units + 1) (round_of k.engine.plan.unit k.engine.script k.cycles)) then k.cycles + 1 else k.cycles)) (sym same)
          (λ at. subst (λ b. count ≡ (if b then k.cycles + 1 else k.cycles))
          (sym (has_it (processors k.engine.plan.unit) (round_of k.engine.plan.unit k.engine.script k.cycles) lists k.units is.units)) (did.own count at)) there
      | inr other ↦
          subst (λ b. count ≡ (if b then k.cycles + 1 else k.cycles))
          (sym (as_before (processors k.engine.plan.unit) (round_of k.engine.plan.unit k.engine.script k.cycles) lists k.units is.units processor other))
          (is.exact processor count (sym (did.others processor other) ∙ there))
    ]

    due : k.cycles < next_date k.engine
    due = subst (λ dates. k.cycles < dates * k.engine.plan.unit.quantum) (sym inside.0) inside.3

    -- that isn't the cycle's last one,
    pub goes_on : (k.units + 1 ≡ processors k.engine.plan.unit → ⊥) → KernelStands (record k { engine = record k.engine { done = done }; units = k.units + 1 })
    goes_on more = record {
      plan = is.plan;
      script = is.script;
      in_tick = is.in_tick;
      units = below k.units (processors k.engine.plan.unit) is.units more;
      inside = λ some. due;
      served = did.as_many ∙ is.served;
      exact = exact_by;
      declared = is.declared;
      turned = is.turned;
      last = is.last;
    }
      where
        below : (a b : ℕ) → a < b → (a + 1 ≡ b → ⊥) → a + 1 < b
        below a b less other = grind (arith, less, other)

    -- and that is.
    pub ends : k.units + 1 ≡ processors k.engine.plan.unit → (turned : ℕ) → AreTurned k.engine.script.rounds turned (k.cycles + 1) → KernelStands (record k { engine = record k.engine { done = done }; cycles = k.cycles + 1; units = 0; turned = turned })
    ends last turned now = record {
      plan = is.plan;
      script = is.script;
      in_tick = tick_kept k.engine.plan.unit.quantum k.engine.plan.until k.engine.dates k.cycles date 1 inside (omega (arith, inside.3));
      units = omega (arith, is.units);
      inside = λ some. absurd (omega (arith, some));
      served = did.as_many ∙ is.served;
      exact = λ processor count there.
          subst (λ b. count ≡ (if b then k.cycles + 1 else k.cycles))
          (all_have (processors k.engine.plan.unit) (round_of k.engine.plan.unit k.engine.script k.cycles) lists k.units is.units last processor (omega (arith, slice_get_within done processor count there, did.as_many, is.served)))
          (exact_by processor count there);
      declared = is.declared;
      turned = now;
      last = is.last;
    }

-- ---- as the code goes

-- A kernel that is the one before but for a unit
pub record IsBehindUnit (k now : Inside) : Type 0 where
  pub done : List ℕ
  pub did : HasUnit k done
  pub is : now ≡ record k { engine = record k.engine { done = done } }

module _ (k : Inside) (is : KernelStands k) (processor : ℕ) (next : processor ≡ next_processor (progress_of k)) where
  -- it did the cycles
  pub just : done_on k.engine processor ≡ k.cycles
  just = next_exact k is (done_on k.engine processor) (subst (λ q. slice_get k.engine.done q ≡ Some (done_on k.engine processor)) next (slice_get-get_or k.engine.done processor 0 (omega (arith, next, next_within k is, is.served))))

  pub behind_given : (engine : EngineState) → engine ≡ record k.engine { done = slice_set k.engine.done processor (done_on engine processor) }
      → (done_on k.engine processor < done_on engine processor) × (done_on engine processor ≤ done_on k.engine processor + 1) → (now : Inside) → now ≡ record k { engine = engine } → IsBehindUnit k now
  behind_given engine state count now e = record {
    done = slice_set k.engine.done processor (done_on engine processor);
    did = given_unit k is processor next (done_on engine processor) (omega (arith, just, count.0)) (omega (arith, just, count.1));
    is = e ∙ ap (λ (i : EngineState). record k { engine = i }) state;
  }

  pub one_more : (engine : EngineState) → (done_on k.engine processor < done_on engine processor) × (done_on engine processor ≤ done_on k.engine processor + 1) → done_on engine processor ≡ k.cycles + 1
  one_more engine count = omega (arith, just, count.0, count.1)

-- An action is over with the unit where it is with the processor's cycle.
module _ (k : Inside) (p : Progress) (view : progress_of k ≡ p) (processor : ℕ) (next : processor ≡ next_processor p) (engine : EngineState) (one : done_on engine processor ≡ k.cycles + 1) where
  pub unit_over : IsOverOn k.engine processor (done_on engine processor) → IsOverFor p (next_processor p) (p.cycles + 1)
  unit_over over = subst (λ n. IsOverFor p n (p.cycles + 1)) next (subst (λ (q : Progress). IsOverFor q processor (q.cycles + 1)) view (subst (λ n. IsOverOn k.engine processor n) one over))

  pub unit_goes : (IsOverOn k.engine processor (done_on engine processor) → ⊥) → IsOverFor p (next_processor p) (p.cycles + 1) → ⊥
  unit_goes goes over =
      goes (subst (λ n. IsOverOn k.engine processor n) (sym one) (subst (λ (q : Progress). IsOverFor q processor (q.cycles + 1)) (sym view) (subst (λ n. IsOverFor p n (p.cycles + 1)) (sym next) over)))

module _ (k : Inside) (is : KernelStands k) (p : Progress) (view : progress_of k ≡ p) (due : (stage_of p ≡ CycleDue p.cycles) ⊎ (stage_of p ≡ UnitDue p.cycles (next_processor p))) where
  due_in : (k.engine.dates ≡ k.engine.plan.until + 1 → ⊥) × (k.cycles ≡ k.engine.dates * k.engine.plan.unit.quantum → ⊥)
  due_in = unit_due (progress_of k) (subst (λ (q : Progress). (stage_of q ≡ CycleDue q.cycles) ⊎ (stage_of q ≡ UnitDue q.cycles (next_processor q))) (sym view) due)

  pub early_unit : k.engine.dates ≤ k.engine.plan.until
  early_unit = early_until k.engine.plan.unit.quantum k.engine.plan.until k.engine.dates k.cycles is.in_tick due_in.0

  inside : (date : ℕ) × IsInside k.engine.plan.unit.quantum k.engine.plan.until k.engine.dates k.cycles date
  inside = inside_date k.engine.plan.unit.quantum k.engine.plan.until k.engine.dates k.cycles is.in_tick due_in

  pub unit_before : k.cycles < next_date k.engine
  unit_before = subst (λ dates. k.cycles < dates * k.engine.plan.unit.quantum) (sym inside.1.0) inside.1.3

  module _ (now : Inside) (behind : IsBehindUnit k now) where
    pub units_kept : now.units ≡ k.units
    units_kept = ap (λ (i : Inside). i.units) behind.is

    pub stands_on : (now.units + 1 ≡ processors k.engine.plan.unit → ⊥) → KernelStands (record now { units = now.units + 1 })
    stands_on more =
        subst (λ (i : Inside). KernelStands (record i { units = i.units + 1 })) (sym behind.is)
        (goes_on k is inside.0 inside.1 behind.done behind.did (λ last. more (ap (λ n. n + 1) units_kept ∙ last)))

    pub stands_next : now.units + 1 ≡ processors k.engine.plan.unit → (turned : ℕ) → AreTurned now.engine.script.rounds turned (now.cycles + 1) → KernelStands (record now { cycles = now.cycles + 1; units = 0; turned = turned })
    stands_next last turned =
        subst (λ (i : Inside). AreTurned i.engine.script.rounds turned (i.cycles + 1) → KernelStands (record i { cycles = i.cycles + 1; units = 0; turned = turned })) (sym behind.is)
        (ends k is inside.0 inside.1 behind.done behind.did (ap (λ n. n + 1) (sym units_kept) ∙ last) turned)

-- The cycles of a run have a number of 64 bits.
pub cycle_fits : (cycles dates until quantum : ℕ) → cycles < dates * quantum → dates ≤ until → until ≤ 4294967295 → quantum ≤ 1000000 → cycles + 1 ≤ 4294967295000000
cycle_fits cycles dates until quantum less early most few =
    let high = mul-le dates quantum 4294967295 1000000 (omega (arith, early, most)) few in
    omega (arith, less, high)
