-- What an agent may still ask by a date is at most its bound, and so what all may ask at most the sum of the bounds.
use Rattle.std.proofs.Common.{◌≡◌, ℕ, suc, ◌+◌, ◌-◌, ◌*◌, ◌/◌, ◌%◌, ◌<◌, ◌≤◌, List, [], ◌∷◌, drop, length, Option, refl, sym, ap, ◌∙◌, subst, inl, inr, arith}
use Rattle.std.specs.Prelude.{false, ◌==◌, ◌&&◌, nat_le, sum_by}
use Rattle.std.specs.List.{All, Contains}
use Rattle.std.proofs.lemmas.Bool.{and_parts, cases_Bool, cases_lt, eqb-true, le-leb, le-ltb, leb-true, lt-ltb, ltb-false, ltb-true}
use Rattle.std.proofs.lemmas.List.Elements.{All-contains, All-head, All-tail}
use Rattle.std.proofs.lemmas.List.Sums.{sum_by-cons}
use Rattle.std.proofs.lemmas.Nat.{div-add-mod', div_below, mod_below}
use Rattle.psy_base.specs.declared.edge.Edge.{Edge}
use Rattle.psy_base.specs.Paths.{DueBy, IsPathFrom, weight_of}
use Rattle.psy_lists.proofs.lemmas.Members.{all_members}
use Rattle.psy_history.specs.Actions.{Action, System, timing}
use Rattle.psy_history.specs.History.{history}
use Rattle.psy_history.specs.Schedule.{Turn, is_pending, units, work}
use Rattle.psy_history.specs.Asked.{Drawn, IsBoundedBy, IsContinuation, IsStep, asked_by, found, left_of}
use Rattle.psy_history.specs.Asked.IsContinuation.{nothing, behind, next}
use Rattle.psy_history.specs.Regular.{IsRegular}
use Rattle.psy_history.specs.Processors.{processor_at, processors}
use Rattle.psy_history.specs.Scheduled.{IsFinished, IsSupplied, turns_of}
use Rattle.psy_history.proofs.Deadlines.{deadline_least}
use Rattle.psy_history.proofs.Edges.{step_some}
use Rattle.psy_history.proofs.KeptCycles.{Covers, IsCovered, Older}
use Rattle.psy_history.proofs.KeptDates.{covered_in, kept, older_in, rests_of}
use Rattle.psy_history.proofs.PathShifts.{due_begun}
use Rattle.psy_history.proofs.Numbers.{agent_of}
use Rattle.psy_history.proofs.Totals.{sum_most, total}

-- ---- what actions have left

module _ (by : ℕ) (turns : List (Option Turn)) where
  -- An action that is finished has nothing left,
  left_finished : (r : Action) → is_pending turns r ≡ false → left_of by turns r ≡ 0
  left_finished r finished = rw finished refl

  -- nor has one that is due later.
  left_late : (r : Action) → by < r.deadline → left_of by turns r ≡ 0
  left_late r late = elim (cases_Bool (is_pending turns r && nat_le r.deadline by)) [
    | inl t ↦ (let due = leb-true r.deadline by (and_parts (is_pending turns r) (nat_le r.deadline by) t).1 in absurd (omega (arith, due, late)))
    | inr f ↦ rw f refl
  ]

  left_pending : (r : Action) → units r.agent r.number turns < work r → r.deadline ≤ by → left_of by turns r ≡ r.budget - units r.agent r.number turns
  left_pending r pending due = rw (lt-ltb (units r.agent r.number turns) (work r) pending, le-leb r.deadline by due) refl

  left_none : (actions : List Action) → All (λ r. is_pending turns r ≡ false) actions → sum_by (left_of by turns) actions ≡ 0
  left_none [] all = refl
  left_none (r ∷ actions) all =
      let first = left_finished r (All-head (λ q. is_pending turns q ≡ false) r actions all) in
      let rest = left_none actions (All-tail (λ q. is_pending turns q ≡ false) r actions all) in
      omega (arith, first, rest, sum_by-cons (left_of by turns) r actions)

  -- Of an agent's actions the last alone has something left.
  left_last : (r : Action) (before : List Action) → ((x : Action) → Contains before x → work x ≤ units x.agent x.number turns) → sum_by (left_of by turns) (r ∷ before) ≡ left_of by turns r
  left_last r before older =
      let rest = left_none before (all_members (λ x. is_pending turns x ≡ false) before (λ x c. le-ltb (units x.agent x.number turns) (work x) (older x c))) in
      omega (arith, rest, sum_by-cons (left_of by turns) r before)

-- ---- what one agent may ask

module _ (s : System) (graphs : List (List Edge)) (agent : ℕ) (g : Drawn s graphs agent) (by : ℕ) (turns : List (Option Turn)) where
  -- Behind a pending action that is due later nothing is due by the date.
  nothing_behind : (r : Action) (to : ℕ) (e : Edge) (path : List Edge) → IsRegular s agent r → by < r.deadline → IsStep s graphs agent g r.point r.start to e → DueBy by (r.start + e.len) path → path ≡ []
  nothing_behind r to e [] its late step fits = refl
  nothing_behind r to e (f ∷ path) its late step fits =
      let ends = deadline_least (timing s agent) r.point r.start to step.follows in
      let begun = due_begun path f by (r.start + e.len) fits in
      absurd (omega (arith, ends, begun, late, its.deadline, step.len))

  module _ (r : Action) (before : List Action) (bound : ℕ) (its : IsRegular s agent r) (older : (x : Action) → Contains before x → work x ≤ units x.agent x.number turns) (covers : Covers s graphs by turns agent g (r ∷ before) bound) where
    -- Where the last action is pending, what it and a path behind it ask
    asked_behind : (to : ℕ) (e : Edge) (path : List Edge) → units r.agent r.number turns < work r → IsStep s graphs agent g r.point r.start to e → IsPathFrom g.edges e.to path → DueBy by (r.start + e.len) path → asked_by by turns (r ∷ before) path ≤ bound
    asked_behind to e path pending step from fits = elim (cases_lt by r.deadline) [
      | inl late ↦ (
          let none : weight_of path ≡ 0 = ap weight_of (nothing_behind r to e path its late step fits) in
          omega (arith, none, left_last by turns r before older, left_late by turns r late))
      | inr due ↦ (
          let weigh : r.budget + weight_of path ≤ bound + units r.agent r.number turns = covers.now pending due to e path step from fits in
          omega (arith, weigh, pending, left_last by turns r before older, left_pending by turns r pending due))
    ]

    -- what it asks alone
    asked_alone : asked_by by turns (r ∷ before) [] ≤ bound
    asked_alone = elim (cases_lt (units r.agent r.number turns) (work r)) [
      | inl pending ↦ (let (to, e, step) = step_some s graphs agent g r its in asked_behind to e [] pending step (tt {0}) (tt {0}))
      | inr done ↦ omega (arith, left_last by turns r before older, left_finished by turns r (le-ltb (units r.agent r.number turns) (work r) done))
    ]

  pub asked_most : (actions : List Action) (path : List Edge) (bound : ℕ) → All (IsRegular s agent) actions → ((x : Action) → Contains (drop 1 actions) x → work x ≤ units x.agent x.number turns) → Covers s graphs by turns agent g actions bound
      → IsContinuation s graphs agent g by turns actions path → asked_by by turns actions path ≤ bound
  asked_most [] _ bound all older covers nothing = omega arith
  asked_most (r ∷ before) _ bound all older covers nothing = asked_alone r before bound (All-head (IsRegular s agent) r before all) older covers
  asked_most (r ∷ before) path bound all older covers (behind {to = to} {e = e} pending step from fits) =
      asked_behind r before bound (All-head (IsRegular s agent) r before all) older covers to e path (ltb-true (units r.agent r.number turns) (work r) pending) step from fits
  asked_most actions path bound all older covers (next {n = n} node finished is at from due) =
      let rests = rests_of turns actions (λ x c. ltb-false (units x.agent x.number turns) (work x) (All-contains (λ q. is_pending turns q ≡ false) actions x finished c)) in
      let weigh = covers.next rests n node path is at from due in
      omega (arith, weigh, left_none by turns actions finished)

-- ---- what all agents of a processor may ask

module _ (s : System) (order : ℕ → List ℕ) (until : ℕ) (supplied : IsSupplied s order until) (processor : ℕ) where
  finished_by : (cycle agent : ℕ) (r : Action) → processor_at s.unit agent ≡ processor → Contains (found s cycle agent) r → work r ≤ units r.agent r.number (turns_of s order cycle processor) → IsFinished s order cycle r
  finished_by cycle agent r of c done =
      let its : processor_at s.unit r.agent ≡ processor = ap (processor_at s.unit) (agent_of s (cycle / s.unit.quantum + 1) agent r c) ∙ of in
      subst (λ p. is_pending (turns_of s order cycle p) r ≡ false) (sym its) (le-ltb (units r.agent r.number (turns_of s order cycle processor)) (work r) done)

  -- Where all is finished that is due, or the agents have bounds, what is kept at a cycle is what the schedule promises.
  promised : (cycle by : ℕ) → cycle < s.unit.quantum * by → Older s processor (turns_of s order cycle processor) (found s cycle) → IsCovered s supplied.graphs processor by cycle (turns_of s order cycle processor) (found s cycle) → IsBoundedBy s order processor supplied.graphs cycle by
  promised cycle by early older (inl quiet) = inl (λ agent r of c due. finished_by cycle agent r of c (quiet agent r of c due))
  promised cycle by early older (inr bounded) = inr (λ paths are.
      let turns = turns_of s order cycle processor in
      let each = sum_most (λ agent. processor_at s.unit agent == processor) (λ agent. asked_by by turns (found s cycle agent) (paths agent)) bounded.bound (length s.unit.agents) (λ agent known own.
      let of = eqb-true (processor_at s.unit agent) processor own in
      let (g, continues) = are agent known of in
      asked_most s supplied.graphs agent g by turns (found s cycle agent) (paths agent) (bounded.bound agent) (supplied.lawful.actions (cycle / s.unit.quantum + 1) agent).each (λ x. older agent x of) (bounded.covers agent of g) continues) in
      let enough : total bounded.bound (length s.unit.agents) + cycle ≤ s.unit.quantum * by = subst (λ n. total bounded.bound n + cycle ≤ s.unit.quantum * by) supplied.drawn.count bounded.enough in
      omega (arith, each, enough))

  pub bounded_by : (cycle by : ℕ) → processor < processors s.unit → cycle < s.unit.quantum * by → by ≤ until → IsBoundedBy s order processor supplied.graphs cycle by
  bounded_by cycle by there early soon =
      let date = cycle / s.unit.quantum in
      let n = cycle % s.unit.quantum in
      let late : date < by = div_below cycle s.unit.quantum by (omega (arith, supplied.quantum)) (omega (arith, early)) in
      let few : n < s.unit.quantum = mod_below cycle s.unit.quantum (omega (arith, supplied.quantum)) in
      let here : date * s.unit.quantum + n ≡ cycle = div-add-mod' cycle s.unit.quantum in
      let up : suc date ≡ date + 1 = omega arith in
      let was = kept s order until supplied processor date there (omega (arith, late, soon)) in
      let older = subst (λ c. Older s processor (turns_of s order c processor) (history s (suc date))) here (older_in s order until supplied processor date n (omega (arith, late, soon)) was) in
      let covered = subst (λ c. IsCovered s supplied.graphs processor by c (turns_of s order c processor) (history s (suc date))) here (covered_in s order until supplied processor date by n there (omega (arith, few)) late soon was) in
      promised cycle by early (subst (λ d. Older s processor (turns_of s order cycle processor) (history s d)) up older)
      (subst (λ d. IsCovered s supplied.graphs processor by cycle (turns_of s order cycle processor) (history s d)) up covered)
