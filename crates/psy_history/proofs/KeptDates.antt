-- What is due by a date is finished by then, and what is kept at each cycle.
use Rattle.std.proofs.Common.{◌≡◌, ℕ, zero, suc, ◌+◌, ◌-◌, ◌*◌, ◌/◌, ◌<◌, ◌≤◌, List, [], ◌∷◌, drop, length, Option, refl, sym, ap, ◌∙◌, subst, inl, inr, arith}
use Rattle.std.specs.List.{All, Contains}
use Rattle.std.specs.Prelude.{false}
use Rattle.std.proofs.lemmas.Bool.{cases_lt, le-ltb}
use Rattle.std.proofs.lemmas.List.Elements.{All-contains}
use Rattle.std.proofs.lemmas.Nat.{div-mul-add}
use Rattle.psy_lists.proofs.lemmas.Members.{contains_none, contains_front, all_members}
use Rattle.psy_history.specs.Actions.{Action, History, System}
use Rattle.psy_history.specs.History.{action_of, history}
use Rattle.psy_history.specs.Schedule.{Turn, is_pending, pending, soonest, turn_of, units, work}
use Rattle.psy_history.specs.Asked.{Drawn}
use Rattle.psy_history.specs.Processors.{edges_for, processor_at, processors}
use Rattle.psy_history.specs.Regular.{IsRegular}
use Rattle.psy_history.specs.Scheduled.{IsSupplied, turns_of}
use Rattle.psy_history.proofs.Edges.{drawn_of, drawn_within}
use Rattle.psy_history.proofs.Bounds.{Rests, RestsBy, covered_quiet, covered_some, covered_start}
use Rattle.psy_history.proofs.Totals.{demand_total, total, total_above}
use Rattle.psy_history.proofs.Growth.{IsGrown, grown}
use Rattle.psy_history.proofs.OwnAgents.{edges_count, edges_own, served_from, served_in}
use Rattle.psy_history.proofs.Turns.{serving, units_rise}
use Rattle.psy_history.proofs.NextStarts.{ends_before, next_late, older_due, regular_head}
use Rattle.psy_history.proofs.KeptCycles.{Bounded, Covers, IsCovered, Older, Quiet, had_of, kept_cycle, last_of}

pub rests_of : (turns : List (Option Turn)) (actions : List Action) → ((r : Action) → Contains actions r → work r ≤ units r.agent r.number turns) → Rests (had_of turns actions) actions
rests_of turns [] done = tt {0}
rests_of turns (r ∷ before) done = done r (contains_front r before)

rests_by : (turns : List (Option Turn)) (actions : List Action) (by : ℕ) → ((r : Action) → Contains actions r → r.deadline ≤ by → work r ≤ units r.agent r.number turns) → RestsBy by (had_of turns actions) actions
rests_by turns [] by quiet = tt {0}
rests_by turns (r ∷ before) by quiet = quiet r (contains_front r before)

module _ (s : System) (order : ℕ → List ℕ) (until : ℕ) (supplied : IsSupplied s order until) (processor : ℕ) where
  abbrev at : ℕ → List (Option Turn)
  at cycle = turns_of s order cycle processor

  regular : (date agent : ℕ) → All (IsRegular s agent) (history s date agent)
  regular date agent = (supplied.lawful.actions date agent).each

  drawn : (agent : ℕ) → agent < length s.unit.agents → Drawn s supplied.graphs agent
  drawn = drawn_of s supplied.graphs supplied.drawn

  -- ---- cycles go on

  older_later : (cycle later : ℕ) (h : History) → cycle ≤ later → Older s processor (at cycle) h → Older s processor (at later) h
  older_later cycle later h l older agent x of c = omega (arith, older agent x of c, units_rise s (serving s order processor) x.agent x.number cycle later l)

  turn_at : (date cycle : ℕ) → cycle / s.unit.quantum ≡ date → at (suc cycle) ≡ turn_of (soonest (pending (serving s order processor cycle) (at cycle) (history s (suc date)))) ∷ at cycle
  turn_at date cycle e =
      let same : cycle / s.unit.quantum + 1 ≡ suc date = omega (arith, e) in
      ap (λ n. turn_of (soonest (pending (serving s order processor cycle) (at cycle) (history s n))) ∷ at cycle) same

  -- ---- what is kept at a date

  pub record Kept (date : ℕ) : Type 0 where
    pub older : Older s processor (at (date * s.unit.quantum)) (history s date)
    pub covered : (by : ℕ) → date ≤ by → by ≤ until → IsCovered s supplied.graphs processor by (date * s.unit.quantum) (at (date * s.unit.quantum)) (history s date)

  -- No cycle is left until then.
  spent : (date cycle : ℕ) → cycle ≡ s.unit.quantum * date → Older s processor (at cycle) (history s date) → Bounded s supplied.graphs processor date cycle (at cycle) (history s date) → Quiet s processor date (at cycle) (history s date)
  spent date cycle all older bounded agent r of c due = elim (cases_lt (units r.agent r.number (at cycle)) (work r)) [
    | inl less ↦ (
        let actions = history s date agent in
        let its = All-contains (IsRegular s agent) actions r (regular date agent) c in
        let g = drawn agent its.known in
        let (before, e) = last_of (at cycle) actions r (λ x. older agent x of) c less in
        let covered = subst (λ xs. Covers s supplied.graphs date (at cycle) agent g xs (bounded.bound agent)) e (bounded.covers agent of g) in
        let some = covered_some s supplied.graphs agent g date (units r.agent r.number (at cycle)) before r (bounded.bound agent) its less due covered in
        let above = total_above bounded.bound (length supplied.graphs) agent (drawn_within s supplied.graphs agent g) in
        absurd (omega (arith, some, above, bounded.enough, all)))
    | inr done ↦ done
  ]

  quiet_at : (date : ℕ) → date ≤ until → Kept date → Quiet s processor date (at (date * s.unit.quantum)) (history s date)
  quiet_at date early kept = elim (kept.covered date (omega arith) early) [
    | inl quiet ↦ quiet
    | inr bounded ↦ spent date (date * s.unit.quantum) (omega arith) kept.older bounded
  ]

  -- ---- a date

  older_date : (date : ℕ) → Quiet s processor date (at (date * s.unit.quantum)) (history s date) → Older s processor (at (date * s.unit.quantum)) (history s (suc date))
  older_date date quiet agent x of c =
      let was = older_due s supplied.lawful date agent x c in
      quiet agent x of was.0 was.1

  -- Where all is finished that is due by a later date, the demand until then bounds what is asked.
  rebased : (date by cycle : ℕ) → processor < processors s.unit → cycle ≡ date * s.unit.quantum → date < by → by ≤ until → Quiet s processor by (at cycle) (history s date) → Bounded s supplied.graphs processor by cycle (at cycle) (history s date)
  rebased date by cycle there all late early quiet =
      let rest = by - date in
      let far : date + rest ≡ by = omega (arith, late) in
      let own = edges_for s.unit processor supplied.graphs in
      let (demand, is, fits) = supplied.feasible processor there rest (omega (arith, late)) (omega (arith, early)) in
      let (bound, sum, each) = demand_total own rest demand is in
      let as_many : length own ≡ length supplied.graphs = edges_count s.unit processor supplied.graphs in
      let cycles = ap (λ n. s.unit.quantum * n) far in
      record {
        bound = bound;
        enough = (let enough : total bound (length own) + cycle ≤ s.unit.quantum * by = omega (arith, sum, fits, cycles, all) in subst (λ n. total bound n + cycle ≤ s.unit.quantum * by) as_many enough);
        covers = λ agent of g. covered_quiet s supplied.graphs agent g by date rest (had_of (at cycle) (history s date agent)) (history s date agent) (bound agent) far
            (rests_by (at cycle) (history s date agent) by (λ x. quiet agent x of)) (next_late s supplied.lawful date agent) (each agent g.edges (edges_own s.unit processor supplied.graphs agent g.edges of g.at));
      }

  covered_date : (date by cycle : ℕ) → Quiet s processor date (at cycle) (history s date) → Bounded s supplied.graphs processor by cycle (at cycle) (history s date) → Bounded s supplied.graphs processor by cycle (at cycle) (history s (suc date))
  covered_date date by cycle quiet bounded = record {
    bound = bounded.bound;
    enough = bounded.enough;
    covers = λ agent of g. covers agent of g (grown s date agent);
  }
    where
      covers : (agent : ℕ) → processor_at s.unit agent ≡ processor → (g : Drawn s supplied.graphs agent) → IsGrown s date agent → Covers s supplied.graphs by (at cycle) agent g (history s (suc date) agent) (bounded.bound agent)
      covers agent of g (inl (same, other)) = subst (λ xs. Covers s supplied.graphs by (at cycle) agent g xs (bounded.bound agent)) (sym same) (bounded.covers agent of g)
      covers agent of g (inr (n, next, starts, more)) =
          let r : Action = action_of s (history s date) agent n in
          let are = supplied.lawful.actions date agent in
          let rests = rests_of (at cycle) (history s date agent) (λ x c.
          let ends = ends_before s supplied.lawful date agent (history s date agent) are.were_started are.each n next x c in
          quiet agent x of c (omega (arith, ends, starts))) in
          let here = regular_head s supplied.lawful (suc date) agent r (history s date agent) more in
          let covered = covered_start s supplied.graphs agent g by (had_of (at cycle) (history s date agent)) (units r.agent r.number (at cycle)) (history s date agent) r n (bounded.bound agent) here next refl refl rests (bounded.covers agent of g) in
          subst (λ xs. Covers s supplied.graphs by (at cycle) agent g xs (bounded.bound agent)) (sym more) covered

  bounded_at : (date by : ℕ) → processor < processors s.unit → date < by → by ≤ until → Kept date → Bounded s supplied.graphs processor by (date * s.unit.quantum) (at (date * s.unit.quantum)) (history s date)
  bounded_at date by there late early kept = elim (kept.covered by (omega (arith, late)) early) [
    | inl quiet ↦ rebased date by (date * s.unit.quantum) there refl late early quiet
    | inr bounded ↦ bounded
  ]

  -- The cycles of a tick
  kept_cycles : (date by first n : ℕ) → first ≡ date * s.unit.quantum → n ≤ s.unit.quantum → Older s processor (at first) (history s (suc date)) → IsCovered s supplied.graphs processor by first (at first) (history s (suc date)) → IsCovered s supplied.graphs processor by (first + n) (at (first + n)) (history s (suc date))
  kept_cycles date by first zero e few older start = let same : first + 0 ≡ first = omega arith in subst (λ c. IsCovered s supplied.graphs processor by c (at c) (history s (suc date))) (sym same) start
  kept_cycles date by first (suc n) e few older start =
      let before = kept_cycles date by first n e (omega (arith, few)) older start in
      let cycle = first + n in
      let in_tick : cycle / s.unit.quantum ≡ date = ap (λ m. (m + n) / s.unit.quantum) e ∙ div-mul-add date s.unit.quantum n (omega (arith, few)) in
      let more = kept_cycle s supplied.graphs processor (history s (suc date)) (regular (suc date)) (at cycle) by (serving s order processor cycle)
      (λ agent known of. served_in s.unit processor (order cycle) agent of (supplied.orders cycle agent known)) (λ agent c. (served_from s.unit processor (order cycle) agent c).1) drawn (older_later first cycle (history s (suc date)) (omega arith) older) cycle before in
      let turns = subst (λ ts. IsCovered s supplied.graphs processor by (suc cycle) ts (history s (suc date))) (sym (turn_at date cycle in_tick)) more in
      let next : first + suc n ≡ suc cycle = omega arith in
      subst (λ c. IsCovered s supplied.graphs processor by c (at c) (history s (suc date))) (sym next) turns

  -- What is kept when so many cycles of a tick are done
  pub older_in : (date n : ℕ) → date ≤ until → Kept date → Older s processor (at (date * s.unit.quantum + n)) (history s (suc date))
  older_in date n early kept = (let first = date * s.unit.quantum in older_later first (first + n) (history s (suc date)) (omega arith) (older_date date (quiet_at date early kept)))

  pub covered_in : (date by n : ℕ) → processor < processors s.unit → n ≤ s.unit.quantum → date < by → by ≤ until → Kept date → IsCovered s supplied.graphs processor by (date * s.unit.quantum + n) (at (date * s.unit.quantum + n)) (history s (suc date))
  covered_in date by n there few late early kept =
      let quiet = quiet_at date (omega (arith, late, early)) kept in
      let bounded = covered_date date by (date * s.unit.quantum) quiet (bounded_at date by there late early kept) in
      kept_cycles date by (date * s.unit.quantum) n refl few (older_date date quiet) (inr bounded)

  kept_date : (date : ℕ) → processor < processors s.unit → date < until → Kept date → Kept (suc date)
  kept_date date there early kept =
      let next : date * s.unit.quantum + s.unit.quantum ≡ suc date * s.unit.quantum = omega arith in
      record {
        older = subst (λ c. Older s processor (at c) (history s (suc date))) next (older_in date s.unit.quantum (omega (arith, early)) kept);
        covered = λ by late soon. subst (λ c. IsCovered s supplied.graphs processor by c (at c) (history s (suc date))) next
            (covered_in date by s.unit.quantum there (omega arith) (omega (arith, late)) soon kept);
      }

  pub kept : (date : ℕ) → processor < processors s.unit → date ≤ until → Kept date
  kept zero there early = record {
    older = λ agent x of c. absurd (contains_none x c);
    covered = λ by late soon. inl (λ agent r of c due. absurd (contains_none r c));
  }
  kept (suc date) there early = kept_date date there (omega (arith, early)) (kept date there (omega (arith, early)))

  -- ---- what follows

  pub due_over : (date agent : ℕ) (r : Action) → processor < processors s.unit → date ≤ until → processor_at s.unit agent ≡ processor → Contains (history s date agent) r → r.deadline ≤ date → is_pending (at (date * s.unit.quantum)) r ≡ false
  due_over date agent r there early of c due =
      le-ltb (units r.agent r.number (at (date * s.unit.quantum))) (work r) (quiet_at date early (kept date there early) agent r of c due)

  pub earlier_over : (date cycles agent : ℕ) (r : Action) (before : List Action) → processor < processors s.unit → date ≤ until → processor_at s.unit agent ≡ processor → date * s.unit.quantum ≤ cycles → history s (date + 1) agent ≡ r ∷ before → All (λ q. is_pending (at cycles) q ≡ false) before
  earlier_over date cycles agent r before there early of far e = all_members (λ q. is_pending (at cycles) q ≡ false) before (λ x c.
      let next : date + 1 ≡ suc date = omega arith in
      let within = subst (λ xs. Contains (drop 1 xs) x) (sym e) c in
      let older = older_later (date * s.unit.quantum) cycles (history s (suc date)) far (older_date date (quiet_at date early (kept date there early))) in
      le-ltb (units x.agent x.number (at cycles)) (work x) (older agent x of (subst (λ n. Contains (drop 1 (history s n agent)) x) next within)))
