-- Which action of a trace comes first at a cycle is the one that the cycle goes to.
use Rattle.std.proofs.Common.{◌≡◌, ◌∙◌, refl, sym, ap, subst, ℕ, zero, suc, ◌+◌, ◌*◌, ◌/◌, ◌<◌, ◌≤◌, ◌==◌, ◌&&◌, ◌||◌, nat_le, nat_lt, Bool, false, cond, List, [], ◌∷◌, map, reverse, Option, Some, None, inl, inr, arith}
use Rattle.std.specs.Prelude.{filter, option_map}
use Rattle.std.specs.List.{Contains, flat_map, list_any}
use Rattle.std.proofs.lemmas.Bool.{and_left, cases_Bool, cases_lt, eqb-true, le-leb, lt-leb}
use Rattle.std.proofs.lemmas.Nat.{div_below, mul-le, le-div}
use Rattle.psy_base.specs.declared.sizes.Sizes.{Sizes}
use Rattle.psy_lists.proofs.lemmas.Members.{filter_from, contains_behind}
use Rattle.psy_history.specs.Actions.{Action, System}
use Rattle.psy_history.specs.History.{action_of, history}
use Rattle.psy_history.specs.Processors.{processor_at, served}
use Rattle.psy_history.specs.Schedule.{Turn, is_pending, pending, soonest, sooner, units, work}
use Rattle.psy_history.specs.Scheduled.{IsFinished, turns_by}
use Rattle.psy_audit.specs.declared.said.Segment.{Segment}
use Rattle.psy_audit.specs.Courses.{is_filled}
use Rattle.psy_audit.specs.Traced.{act_of, stretches, with_cycle}
use Rattle.psy_audit.specs.Traces.{Judged, Lines, acts_of, segments_of}
use Rattle.psy_audit.specs.Turns.{first_at, is_pending_at, sooner_of, soonest_of}
use Rattle.psy_legal.proofs.Growth.{grown, kept_on}
use Rattle.psy_legal.proofs.Lists.{filter_of_map, filter_of_reverse, filter_same, flat_map_same, map_of_flat_map, reverse_contains, filter_none}
use Rattle.psy_legal.proofs.Numbers.{agent_of}
use Rattle.psy_legal.proofs.StartedActions.{start_below}
use Rattle.psy_legal.proofs.Tiles.{Tiles, tiles_more}
use Rattle.psy_legal.proofs.Told.{IsOnTime, Tells, all_stretches, judge}
use Rattle.psy_legal.proofs.Turns.{as_many, next_turn, serving, turns_in, units_rise}
use Rattle.psy_legal.proofs.Waiting.{given_within, had_or_left, reaches_behind, unfinished_is}
use Rattle.std.proofs.lemmas.List.Elements.{All-contains}

-- ---- the stretches of a processor

module _ (s : System) (order : ℕ → List ℕ) (processor : ℕ) where
  pub tiles_of : (n : ℕ) → Tiles (next_turn s order) processor n (stretches processor (turns_in s order n))
  tiles_of zero = λ c less. absurd (omega (arith, less))
  tiles_of (suc n) =
      subst (λ k. Tiles (next_turn s order) processor (suc n) (with_cycle processor k (next_turn s order n) (stretches processor (turns_in s order n)))) (sym (as_many s order n))
      (tiles_more (next_turn s order) processor n (stretches processor (turns_in s order n)) (tiles_of n))

-- ---- the soonest

soonest_told : (turns : List (Option Turn)) (actions : List Action) → soonest_of (map (act_of turns) actions) ≡ option_map (act_of turns) (soonest actions)
soonest_told turns [] = refl
soonest_told turns (r ∷ actions) = ap (sooner_of (act_of turns r)) (soonest_told turns actions) ∙ by (soonest actions)
  where
    by : (o : Option Action) → sooner_of (act_of turns r) (option_map (act_of turns) o) ≡ option_map (act_of turns) (sooner r o)
    by None = refl
    by (Some q) = elim (cases_Bool (nat_le r.deadline q.deadline)) [
      | inl t ↦ rw t refl
      | inr f ↦ rw f refl
    ]

-- ---- one pending action an agent

pub date_begins : (cycle quantum : ℕ) → 1 ≤ quantum → cycle / quantum * quantum ≤ cycle
date_begins cycle quantum some = elim (cases_lt cycle (cycle / quantum * quantum)) [
  | inl less ↦ (let below = div_below cycle quantum (cycle / quantum) (omega (arith, some)) less in absurd (omega (arith, below)))
  | inr most ↦ most
]

pub date_ends : (cycle quantum : ℕ) → 1 ≤ quantum → cycle < (cycle / quantum + 1) * quantum
date_ends cycle quantum some = elim (cases_lt cycle ((cycle / quantum + 1) * quantum)) [
  | inl less ↦ less
  | inr most ↦ (let reached = le-div (cycle / quantum + 1) cycle quantum (omega (arith, some)) most in absurd (omega (arith, reached)))
]

module _ (s : System) (order : ℕ → List ℕ) (sizes : Sizes) (until : ℕ) (known : IsOnTime s order sizes until) (all : Lines) (tells : Tells s order sizes until all) where
  abbrev j : Judged
  j = judge s order sizes until

  abbrev last : ℕ
  last = until * s.unit.quantum

  abbrev turns_on : ℕ → ℕ → List (Option Turn)
  turns_on processor cycles = turns_in s (serving s order processor) cycles

  -- ---- one action

  pending_is : (c agent : ℕ) (r : Action) → c < last → Contains (history s until agent) r
      → is_pending_at j all c (act_of (turns_by s order last agent) r) ≡ (nat_le (r.start * s.unit.quantum) c && is_pending (turns_on (processor_at s.unit agent) c) r)
  pending_is c agent r less there =
      let home = processor_at s.unit agent in
      let own = serving s order home in
      let same : r.agent ≡ agent = agent_of s until agent r there in
      let its = segments_of r.agent r.number all in
      let st : List Segment = all_stretches s order sizes until home in
      let behind = reaches_behind s own home last st its (tiles_of s own home last) r.agent r.number
      (λ t has. subst (λ a. Contains (all_stretches s order sizes until (processor_at s.unit a)) t × (t.agent ≡ r.agent) × (t.number ≡ r.number)) same (tells.of_act r.agent r.number t has))
      (λ t has a b. tells.of_home r.agent r.number t (subst (λ k. Contains (all_stretches s order sizes until (processor_at s.unit k)) t) (sym same) has) a b)
      c less in
      let had = units r.agent r.number (turns_in s own c) in
      let all_had = units r.agent r.number (turns_in s own last) in
      ap (λ t. nat_le (r.start * s.unit.quantum) c && t)
      (ap (λ t. t || list_any (λ (t : Segment). is_filled t && nat_lt c t.past) its) (unfinished_is (turns_by s order last agent) r)
      ∙ ap (λ t. nat_lt all_had (work r) || t) behind
      ∙ had_or_left had all_had (work r) (units_rise s own r.agent r.number c last (omega (arith, less))) (given_within s own until last agent r there))

  -- ---- an agent

  module _ (c processor agent : ℕ) (less : c < last) (home : processor_at s.unit agent ≡ processor) where
    abbrev today : ℕ
    today = c / s.unit.quantum

    abbrev waits : Action → Bool
    waits r = nat_le (r.start * s.unit.quantum) c && is_pending (turns_on processor c) r

    begun : today < until
    begun = div_below c s.unit.quantum until (omega (arith, known.quantum)) less

    -- Those that start later don't wait.
    waits_by : (n : ℕ) → today + 1 ≤ n → filter waits (history s n agent) ≡ filter waits (history s (today + 1) agent)
    waits_by n l =
        let P : ℕ → Type 0 = λ n. (today + 1 ≤ n) × (filter waits (history s n agent) ≡ filter waits (history s (today + 1) agent)) in
        let kept : P n = kept_on P (λ n h. (
          omega (arith, h.0),
          elim (grown s n agent) [
            | inl (same, other) ↦ ap (filter waits) same ∙ h.1
            | inr (next, is_next, at, more) ↦ (
                let r : Action = action_of s (history s n) agent next in
                let late : (today + 1) * s.unit.quantum ≤ n * s.unit.quantum = mul-le (today + 1) s.unit.quantum n s.unit.quantum h.0 (omega arith) in
                let start : r.start * s.unit.quantum ≡ n * s.unit.quantum = ap (λ k. k * s.unit.quantum) at in
                let not : waits r ≡ false = and_left (nat_le (r.start * s.unit.quantum) c) (is_pending (turns_on processor c) r) (lt-leb (r.start * s.unit.quantum) c (omega (arith, late, start, date_ends c s.unit.quantum known.quantum))) in
                ap (filter waits) more ∙ ap (λ t. cond t (r ∷ filter waits (history s n agent)) (filter waits (history s n agent))) not ∙ h.1)
          ],
        )) (today + 1) n l (omega arith, refl) in
        kept.1

    -- Those that have started wait where they are pending.
    waits_now : filter waits (history s (today + 1) agent) ≡ filter (is_pending (turns_on processor c)) (history s (today + 1) agent)
    waits_now = filter_same waits (is_pending (turns_on processor c)) (history s (today + 1) agent) (λ r there.
        let early = start_below s known.lawful (today + 1) agent r there in
        let before : r.start * s.unit.quantum ≤ today * s.unit.quantum = mul-le r.start s.unit.quantum today s.unit.quantum (omega (arith, early)) (omega arith) in
        ap (λ t. t && is_pending (turns_on processor c) r) (le-leb (r.start * s.unit.quantum) c (omega (arith, before, date_begins c s.unit.quantum known.quantum))))

    -- No more than one does.
    one_pending : (actions : List Action) → history s (today + 1) agent ≡ actions → reverse (filter (is_pending (turns_on processor c)) actions) ≡ filter (is_pending (turns_on processor c)) actions
    one_pending [] is = refl
    one_pending (r ∷ before) is =
        let finished = known.earlier today c agent r before (omega (arith, begun)) (date_begins c s.unit.quantum known.quantum) is in
        let none : filter (is_pending (turns_on processor c)) before ≡ [] = filter_none (is_pending (turns_on processor c)) before (λ x there.
        let of : x.agent ≡ agent = agent_of s (today + 1) agent x (subst (λ xs. Contains xs x) (sym is) (contains_behind r before x there)) in
        subst (λ p. is_pending (turns_on p c) x ≡ false) (ap (processor_at s.unit) of ∙ home) (All-contains (IsFinished s order c) before x finished there)) in
        elim (cases_Bool (is_pending (turns_on processor c) r)) [
          | inl t ↦ rw (t, none) refl
          | inr f ↦ rw (f, none) refl
        ]

    waiting_are : filter (is_pending_at j all c) (acts_of agent all) ≡ map (act_of (turns_on processor last)) (filter (is_pending (turns_on processor c)) (history s (today + 1) agent))
    waiting_are =
        let turns : List (Option Turn) = turns_by s order last agent in
        let actions = history s until agent in
        let here : turns ≡ turns_on processor last = ap (λ p. turns_on p last) home in
        ap (filter (is_pending_at j all c)) (tells.acts agent)
        ∙ filter_of_map (is_pending_at j all c) (act_of turns) (reverse actions)
        ∙ ap (map (act_of turns)) (
        filter_same (λ r. is_pending_at j all c (act_of turns r)) waits (reverse actions) (λ r there.
        pending_is c agent r less (reverse_contains actions r there) ∙ ap (λ p. nat_le (r.start * s.unit.quantum) c && is_pending (turns_on p c) r) home)
        ∙ filter_of_reverse waits actions
        ∙ ap reverse (waits_by until (omega (arith, begun)) ∙ waits_now)
        ∙ one_pending (history s (today + 1) agent) refl)
        ∙ ap (λ ts. map (act_of ts) (filter (is_pending (turns_on processor c)) (history s (today + 1) agent))) here

  -- ---- a processor

  pub first_is : (processor c : ℕ) → c < last
      → first_at j all processor c ≡ option_map (act_of (turns_on processor last)) (soonest (pending (serving s order processor c) (turns_on processor c) (history s (c / s.unit.quantum + 1))))
  first_is processor c less =
      let told = act_of (turns_on processor last) in
      let mine = λ (agent : ℕ). filter (is_pending (turns_on processor c)) (history s (c / s.unit.quantum + 1) agent) in
      let its : List ℕ = served s.unit processor (order c) in
      ap soonest_of (
      flat_map_same (λ agent. filter (is_pending_at j all c) (acts_of agent all)) (λ agent. map told (mine agent)) its (λ agent of.
      waiting_are c processor agent less (eqb-true (processor_at s.unit agent) processor (filter_from (λ agent. processor_at s.unit agent == processor) (order c) agent of).1))
      ∙ sym (map_of_flat_map told mine its))
      ∙ soonest_told (turns_on processor last) (flat_map mine its)
