-- No action of a run is pending where all seats say so.
use Rattle.std.proofs.Common.{◌≡◌, ◌∙◌, refl, sym, ap, subst, ℕ, zero, suc, ◌+◌, ◌-◌, ◌*◌, ◌<◌, ◌≤◌, Bool, true, false, not, nat_le, List, [], ◌∷◌, length, get_or, inl, inr, arith}
use Rattle.std.specs.List.{Contains, list_all}
use Rattle.std.proofs.lemmas.Bool.{and_parts, false≢true, le-ltb, leb-true, ltb-false}
use Rattle.std.proofs.lemmas.List.Elements.{All-contains}
use Rattle.std.proofs.lemmas.Nat.{mul-le}
use Rattle.std.proofs.lemmas.Option.{slice_get-get_or}
use Rattle.psy_lists.proofs.lemmas.Members.{contains_front, contains_none, front_or_behind}
use Rattle.psy_lists.proofs.lemmas.Searches.{all_at}
use Rattle.psy_collect.specs.Collected.{IsIdle, IsRunning}
use Rattle.psy_collect.specs.Keeping.{no_seat, rests}
use Rattle.psy_collect.specs.declared.kept.Kept.{Kept}
use Rattle.psy_collect.proofs.Large.{on_whole}
use Rattle.psy_collect.proofs.Laws.{Earlier, Finished}
use Rattle.psy_collect.proofs.Longer.{next_turn}
use Rattle.psy_collect.proofs.Runs.{Lawful, supplied, unsilent}
use Rattle.psy_collect.proofs.Steps.{behind_last, some_dates}
use Rattle.psy_collect.proofs.Turns.{agent_of, known_of}
use Rattle.psy_dates.proofs.lemmas.Fits.{GoWell}
use Rattle.psy_dates.specs.declared.seat.Seat.{Seat}
use Rattle.psy_dates.specs.declared.shared.Shared.{Shared}
use Rattle.psy_dates.specs.Plans.{IsPlan}
use Rattle.psy_dates.specs.Standing.{IsSeated, SeatOf, SeatStands, SharedStands, phase_by}
use Rattle.psy_history.proofs.lemmas.MoreUnits.{units_more}
use Rattle.psy_history.specs.Actions.{Action, System, is_done, is_silent}
use Rattle.psy_history.specs.Compiled.{AreInputs}
use Rattle.psy_history.specs.History.{history}
use Rattle.psy_history.specs.Processors.{processor_at}
use Rattle.psy_history.specs.Schedule.{is_pending, units, work}
use Rattle.psy_history.specs.Scheduled.{IsFinished, IsSupplied, turns_by, turns_of}
use Rattle.psy_history.specs.Scripts.{IsScript}
use Rattle.psy_kernel.specs.Progress.{Progress, order, system, turns_so_far}

-- ---- what is finished stays so

module _ (s : System) (order : ℕ → List ℕ) (processor : ℕ) (r : Action) where
  abbrev had : ℕ → ℕ
  had cycles = units r.agent r.number (turns_of s order cycles processor)

  had_on : (cycle more : ℕ) → had cycle ≤ had (more + cycle)
  had_on cycle zero = (let same : cycle ≡ zero + cycle = omega arith in omega (arith, ap had same))
  had_on cycle (suc more) =
      let one = units_more r.agent r.number (next_turn s order processor (more + cycle)) (turns_of s order (more + cycle) processor) in
      let next : suc (more + cycle) ≡ suc more + cycle = omega arith in
      omega (arith, had_on cycle more, one, ap had next)

  finished_on : (cycle later : ℕ) → cycle ≤ later → is_pending (turns_of s order cycle processor) r ≡ false → is_pending (turns_of s order later processor) r ≡ false
  finished_on cycle later less over =
      let same : (later - cycle) + cycle ≡ later = omega (arith, less) in
      le-ltb (had later) (work r) (omega (arith, ltb-false (had cycle) (work r) over, had_on cycle (later - cycle), ap had same))

-- ---- by the seats

module _ (p : Progress) (k : Kept) (running : IsRunning p k) (fits : IsPlan p.plan) (inputs : AreInputs p.plan.unit p.inputs) (script : IsScript p.plan.unit p.script) (well : GoWell) (law : Lawful) (earlier : Earlier) (finished : Finished)
    (none : p.units ≡ 0) (inside : p.cycles < p.dates * p.plan.unit.quantum) (shared : Shared) (stands : SharedStands (system p) p.plan.sizes (turns_so_far p) p.dates shared)
    (all : list_all (λ (seat : Seat). rests seat.phase) shared.seats.items ≡ true) where
  abbrev s : System
  s = system p

  abbrev last : ℕ
  last = p.dates - 1

  its : IsSupplied s (order p) p.plan.until
  its = supplied p running.whole fits inputs script well law

  some : 1 ≤ p.dates
  some = some_dates p.dates p.cycles p.plan.unit.quantum inside

  low : last * p.plan.unit.quantum ≤ p.cycles
  low = behind_last p.dates p.cycles p.plan.unit.quantum inside running.low

  turns_are : (agent : ℕ) → turns_so_far p agent ≡ turns_by s (order p) p.cycles agent
  turns_are agent = ap (λ c. turns_of s (order p) c (processor_at p.plan.unit agent)) (on_whole p (processor_at p.plan.unit agent) none)

  module _ (agent : ℕ) (r : Action) (before : List Action) (is : history s p.dates agent ≡ r ∷ before) where
    there : Contains (history s p.dates agent) r
    there = subst (λ rs. Contains rs r) (sym is) (contains_front r before)

    less : agent < length shared.seats.items
    less = (let known = known_of s its.lawful p.dates agent r there in omega (arith, known, stands.seated))

    abbrev seat : Seat
    seat = get_or shared.seats.items agent no_seat

    sits : SeatOf last (turns_by s (order p) p.cycles agent) r seat
    sits =
        subst (λ turns. SeatOf last turns r seat) (turns_are agent)
        (subst (λ actions. SeatStands last (turns_so_far p agent) actions seat) is
        (subst (λ b. IsSeated b s.opening.dates last (turns_so_far p agent) (history s p.dates agent) seat) (unsilent p running.whole fits inputs script well agent)
        (stands.seats agent seat (slice_get-get_or shared.seats.items agent no_seat less))))

    silent_over : is_silent last (r ∷ []) ≡ true → is_pending (turns_by s (order p) p.cycles agent) r ≡ false
    silent_over silent =
        let deadline = leb-true r.deadline last (and_parts (not (is_done r.verdict)) (nat_le r.deadline last) silent).1 in
        let over = finished s (order p) p.plan.until p.dates agent r its there (omega (arith, deadline, some, running.early)) in
        let early = mul-le r.deadline p.plan.unit.quantum last p.plan.unit.quantum deadline (omega arith) in
        subst (λ a. is_pending (turns_by s (order p) p.cycles a) r ≡ false) (agent_of s its.lawful p.dates agent r there)
        (finished_on s (order p) (processor_at p.plan.unit r.agent) r (r.deadline * p.plan.unit.quantum) p.cycles (omega (arith, early, low)) over)

    -- The last action of an agent isn't pending, by its seat.
    last_over : is_pending (turns_by s (order p) p.cycles agent) r ≡ false
    last_over = by (is_silent last (r ∷ [])) (is_pending (turns_by s (order p) p.cycles agent) r) refl refl
      where
        by : (silent pending : Bool) → is_silent last (r ∷ []) ≡ silent → is_pending (turns_by s (order p) p.cycles agent) r ≡ pending → is_pending (turns_by s (order p) p.cycles agent) r ≡ false
        by silent false e waits = waits
        by true true e waits = silent_over e
        by false true e waits =
            let acts = sits.phase ∙ ap (λ b. phase_by b (is_pending (turns_by s (order p) p.cycles agent) r) (is_done r.verdict)) e ∙ ap (λ b. phase_by false b (is_done r.verdict)) waits in
            absurd (false≢true (sym (ap rests acts) ∙ all_at (λ (x : Seat). rests x.phase) shared.seats.items agent no_seat less all))

  -- Nobody acts, where all seats say so.
  pub idle : IsIdle p
  idle processor agent r home there = subst (λ n. is_pending (turns_of s (order p) p.cycles n) r ≡ false) home (on (history s p.dates agent) refl there)
    where
      on : (actions : List Action) → history s p.dates agent ≡ actions → Contains actions r → is_pending (turns_by s (order p) p.cycles agent) r ≡ false
      on [] is c = absurd (contains_none r c)
      on (q ∷ before) is c = elim (front_or_behind q before r c) [
        | inl same ↦ subst (λ x. is_pending (turns_by s (order p) p.cycles agent) x ≡ false) same (last_over agent q before is)
        | inr behind ↦
            (let next : p.dates ≡ last + 1 = omega (arith, some) in
            let over = earlier s (order p) p.plan.until last p.cycles agent q before its (omega (arith, running.early)) low (ap (λ d. history s d agent) (sym next) ∙ is) in
            subst (λ a. is_pending (turns_by s (order p) p.cycles a) r ≡ false) (agent_of s its.lawful p.dates agent r there) (All-contains (IsFinished s (order p) p.cycles) before r over behind))
      ]
