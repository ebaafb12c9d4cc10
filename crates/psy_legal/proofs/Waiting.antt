-- Whether an action waits for its processor at a cycle, told by its cycles: those that it has behind that one, and whether it is finished.
use Rattle.std.proofs.Common.{◌≡◌, ◌∙◌, refl, sym, ap, subst, ℕ, zero, suc, ◌<◌, ◌≤◌, ◌&&◌, ◌||◌, nat_lt, true, false, List, Option, inl, inr, arith, ◌-◌}
use Rattle.std.specs.List.{Contains, list_any}
use Rattle.std.proofs.lemmas.Bool.{and_from, and_parts, cases_Bool, cases_eq, cases_lt, le-ltb, lt-ltb, ltb-true}
use Rattle.psy_lists.proofs.lemmas.Tests.{not_true}
use Rattle.psy_history.specs.Actions.{Action, System, Verdict, Done, Trapped, Overran}
use Rattle.psy_history.specs.History.{history}
use Rattle.psy_history.specs.Schedule.{Turn, is_of, is_pending, units, work}
use Rattle.psy_audit.specs.declared.said.Segment.{Segment}
use Rattle.psy_audit.specs.Courses.{is_filled, is_unfinished}
use Rattle.psy_audit.specs.Traced.{act_of, ending_by}
use Rattle.psy_legal.proofs.TileCycles.{any_none, any_of, goes_to, stretch_of, tile_within}
use Rattle.psy_legal.proofs.Tiles.{Tiles}
use Rattle.psy_legal.proofs.Turns.{next_is_pending, next_turn, turns_in, units_rise}

module _ (s : System) (order : ℕ → List ℕ) where
  -- An action has no more cycles than its work.
  pub given_within : (dates cycles agent : ℕ) (r : Action) → Contains (history s dates agent) r → units r.agent r.number (turns_in s order cycles) ≤ work r
  given_within dates zero agent r c = omega arith
  given_within dates (suc cycles) agent r c = elim (cases_Bool (is_of r.agent r.number (next_turn s order cycles))) [
    | inl t ↦ (let fewer = next_is_pending s order cycles dates agent r c t in rw t (omega (arith, fewer)))
    | inr f ↦ (let before = given_within dates cycles agent r c in rw f before)
  ]

  -- Where an action has more cycles later, one of those between goes to it,
  given_between : (agent number from n : ℕ) → from ≤ n → units agent number (turns_in s order from) < units agent number (turns_in s order n)
      → (c : ℕ) × (from ≤ c) × (c < n) × (is_of agent number (next_turn s order c) ≡ true)
  given_between agent number from zero l less = (let same : from ≡ 0 = omega (arith, l) in absurd (omega (arith, subst (λ k. units agent number (turns_in s order k) < 0) same less)))
  given_between agent number from (suc n) l less = elim (cases_eq from (suc n)) [
    | inl same ↦ absurd (omega (arith, subst (λ k. units agent number (turns_in s order k) < units agent number (turns_in s order (suc n))) same less))
    | inr other ↦ elim (cases_Bool (is_of agent number (next_turn s order n))) [
      | inl t ↦ (n, omega (arith, l, other), omega arith, t)
      | inr f ↦ (
          let before : units agent number (turns_in s order from) < units agent number (turns_in s order n) = rw f at less in
          let (c, low, high, is) = given_between agent number from n (omega (arith, l, other)) before in
          (c, low, omega (arith, high), is))
    ]
  ]

  -- and where one goes to it, it has more behind that one.
  more_behind : (agent number from c n : ℕ) → from ≤ c → c < n → is_of agent number (next_turn s order c) ≡ true → units agent number (turns_in s order from) < units agent number (turns_in s order n)
  more_behind agent number from c n low high is =
      let rise = units_rise s order agent number from c low in
      let one : units agent number (turns_in s order (suc c)) ≡ suc (units agent number (turns_in s order c)) = rw is refl in
      let rest = units_rise s order agent number (suc c) n (omega (arith, high)) in
      omega (arith, rise, one, rest)

  module _ (processor n : ℕ) (st its : List Segment) (tiles : Tiles (next_turn s order) processor n st) (agent number : ℕ)
      (own : (t : Segment) → Contains its t → Contains st t × (t.agent ≡ agent) × (t.number ≡ number)) (all : (t : Segment) → Contains st t → t.agent ≡ agent → t.number ≡ number → Contains its t) where
    -- A stretch of an action reaches behind a cycle where it has more cycles later.
    pub reaches_behind : (c : ℕ) → c < n → list_any (λ (t : Segment). is_filled t && nat_lt c t.past) its ≡ nat_lt (units agent number (turns_in s order c)) (units agent number (turns_in s order n))
    reaches_behind c less = elim (cases_lt (units agent number (turns_in s order c)) (units agent number (turns_in s order n))) [
      | inl more ↦ (
          let (k, low, high, is) = given_between agent number c n (omega (arith, less)) more in
          let (t, there, first, past) = stretch_of (next_turn s order) processor n st its tiles agent number own all k high is in
          any_of (λ (t : Segment). is_filled t && nat_lt c t.past) its t there (and_from (is_filled t) (nat_lt c t.past) (lt-ltb t.first t.past (omega (arith, first, past))) (lt-ltb c t.past (omega (arith, low, past))))
          ∙ sym (lt-ltb (units agent number (turns_in s order c)) (units agent number (turns_in s order n)) more))
      | inr few ↦
          any_none (λ (t : Segment). is_filled t && nat_lt c t.past) its (λ t there. not_true (is_filled t && nat_lt c t.past) (λ (test : (is_filled t && nat_lt c t.past) ≡ true).
          let both = and_parts (is_filled t) (nat_lt c t.past) test in
          let filled = ltb-true t.first t.past both.0 in
          let behind = ltb-true c t.past both.1 in
          let last : ℕ = t.past - 1 in
          let is = goes_to (next_turn s order) processor n st its tiles agent number own all t last there (omega (arith, filled)) (omega (arith, filled)) in
          let within = tile_within (next_turn s order) processor n st its tiles agent number own all t there in
          let more = more_behind agent number c last n (omega (arith, behind)) (omega (arith, within, filled)) is in
          omega (arith, more, few)))
          ∙ sym (le-ltb (units agent number (turns_in s order c)) (units agent number (turns_in s order n)) few)
    ]

-- ---- as it is told

-- It isn't finished where it is still pending.
unfinished_by : (v : Verdict) → is_unfinished (ending_by v) ≡ false
unfinished_by (Done point end) = refl
unfinished_by (Trapped kind) = refl
unfinished_by Overran = refl

pub unfinished_is : (turns : List (Option Turn)) (r : Action) → is_unfinished (act_of turns r).ending ≡ is_pending turns r
unfinished_is turns r = elim (cases_Bool (is_pending turns r)) [
  | inl t ↦ rw t refl
  | inr f ↦ rw f (unfinished_by r.verdict)
]

-- Of work, what was had at last, and what was had by then
pub had_or_left : (had last all : ℕ) → had ≤ last → last ≤ all → (nat_lt last all || nat_lt had last) ≡ nat_lt had all
had_or_left had last all l m = elim (cases_lt last all) [
  | inl less ↦ rw (lt-ltb last all less) (sym (lt-ltb had all (omega (arith, l, less))))
  | inr most ↦ (let same : last ≡ all = omega (arith, m, most) in ap (λ t. t || nat_lt had last) (le-ltb last all most) ∙ ap (nat_lt had) same)
]
