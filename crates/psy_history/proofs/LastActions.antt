-- An agent's last action, and those before it.
use Rattle.std.proofs.Common.{◌≡◌, ℕ, zero, suc, ◌<◌, ◌≤◌, true, List, [], ◌∷◌, drop, get_or, Some, refl, sym, ap, ◌∙◌, subst, inl, inr, arith}
use Rattle.std.specs.List.{All, AllPairs, Contains}
use Rattle.std.proofs.lemmas.Bool.{le-leb, leb-true}
use Rattle.std.proofs.lemmas.List.Elements.{All-head, All-tail}
use Rattle.std.proofs.lemmas.List.Kept.{AllPairs-cons}
use Rattle.psy_lists.proofs.lemmas.Members.{contains_none, front_or_behind, all_members}
use Rattle.psy_history.specs.Actions.{Action, Next, System, Verdict, Done, Trapped, Overran, is_done_by, next_of}
use Rattle.psy_history.specs.History.{action_of, history}
use Rattle.psy_history.specs.Visible.{seen_at}
use Rattle.psy_history.specs.Regular.{IsLawful, IsRegular, WereStarted}
use Rattle.psy_history.proofs.Growth.{grown, next_done}

-- ---- the last action

-- It was started behind what the agent had done by its start, and sees what the history shows there.
pub last_began : (s : System) (dates agent : ℕ) (r : Action) (before : List Action) → history s dates agent ≡ r ∷ before → (r.start < dates) × (history s r.start agent ≡ before) × (r.seen ≡ seen_at s (history s r.start) r.start)
last_began s zero agent r before e = absurd cc
last_began s (suc date) agent r before e = elim (grown s date agent) [
  | inl (same, other) ↦ (let (low, behind, seen) = last_began s date agent r before (sym same ∙ e) in (omega (arith, low), behind, seen))
  | inr (n, next, at, more) ↦ (
      let q : Action = action_of s (history s date) agent n in
      let is : q ∷ history s date agent ≡ r ∷ before = sym more ∙ e in
      let first : q ≡ r = ap (λ (xs : List Action). get_or xs 0 r) is in
      let rest : history s date agent ≡ before = ap (λ (xs : List Action). drop 1 xs) is in
      let start : r.start ≡ date = ap (λ (x : Action). x.start) (sym first) ∙ at in
      let seen : r.seen ≡ seen_at s (history s date) date = ap (λ (x : Action). x.seen) (sym first) ∙ ap (seen_at s (history s date)) at in
      (omega (arith, start), subst (λ d. history s d agent ≡ before) (sym start) rest, subst (λ d. r.seen ≡ seen_at s (history s d) d) (sym start) seen))
]

-- ---- those before it

-- It reached a point by this date.
abbrev pub EndedBy : ℕ → Action → Type 0
EndedBy by x = (point : ℕ) × (end : ℕ) × (x.verdict ≡ Done point end) × (end ≤ by)

-- An action that is done by a date ended by it,
pub ended_by : (by : ℕ) (x : Action) → is_done_by by x.verdict ≡ true → EndedBy by x
ended_by by x e = of x.verdict e
  where
    of : (v : Verdict) → is_done_by by v ≡ true → (point : ℕ) × (end : ℕ) × (v ≡ Done point end) × (end ≤ by)
    of (Done point end) t = (point, end, refl, leb-true end by t)
    of (Trapped kind) t = absurd cc
    of Overran t = absurd cc

-- And one that ended is done by each later date.
pub done_by : (by later : ℕ) (x : Action) → by ≤ later → EndedBy by x → is_done_by later x.verdict ≡ true
done_by by later x l (point, end, is, early) = ap (is_done_by later) is ∙ le-leb end later (omega (arith, early, l))

-- Where an agent goes on, each of its actions reached a point by then.
pub done_before : (s : System) (dates agent : ℕ) (actions : List Action) → WereStarted s dates agent actions → All (IsRegular s agent) actions → (n : Next) → next_of s agent actions ≡ Some n → (x : Action) → Contains actions x → EndedBy n.start x
done_before s dates agent [] were all n is x c = absurd (contains_none x c)
done_before s dates agent (r ∷ before) (was, were) all n is x c =
    let regular = All-head (IsRegular s agent) r before all in
    let done = (next_done r.number r.after r.verdict n is).0 in
    elim (front_or_behind r before x c) [
      | inl e ↦ (n.point, n.start, ap (λ (y : Action). y.verdict) (sym e) ∙ done, omega arith)
      | inr rest ↦ (
          let (point, end, ended, early) = done_before s dates agent before were (All-tail (IsRegular s agent) r before all) was.next was.is_next x rest in
          let start : r.start ≡ was.next.start = ap (λ (y : Action). y.start) was.made in
          let ends = regular.ends n.point n.start done in
          (point, end, ended, omega (arith, early, start, regular.due, ends.2)))
    ]

-- Of two actions of an agent the one behind ended by the other's start.
abbrev pub EndsBefore : Action → Action → Type 0
EndsBefore later earlier = EndedBy later.start earlier

-- One behind the other, along the list
ordered_by : (s : System) (dates agent : ℕ) (actions : List Action) → WereStarted s dates agent actions → All (IsRegular s agent) actions → AllPairs EndsBefore actions
ordered_by s dates agent [] were all = λ i j d less within. absurd (omega (arith, within))
ordered_by s dates agent (r ∷ before) (was, were) all =
    let rest = All-tail (IsRegular s agent) r before all in
    let start : was.next.start ≡ r.start = ap (λ (y : Action). y.start) (sym was.made) in
    AllPairs-cons EndsBefore r before
    (all_members (EndsBefore r) before (λ x c. subst (λ t. EndedBy t x) start (done_before s dates agent before were rest was.next was.is_next x c)))
    (ordered_by s dates agent before were rest)

module _ (s : System) (lawful : IsLawful s) where
  -- The actions of an agent end one before the other.
  pub actions_in_turn : (dates agent : ℕ) → AllPairs EndsBefore (history s dates agent)
  actions_in_turn dates agent = (let are = lawful.actions dates agent in ordered_by s dates agent (history s dates agent) are.were_started are.each)

  -- So each one before the last did by the last one's start.
  pub ended_before : (dates agent : ℕ) (r : Action) (before : List Action) → history s dates agent ≡ r ∷ before → (x : Action) → Contains before x → EndedBy r.start x
  ended_before dates agent r before e x (k, less, is) =
      let turn : AllPairs EndsBefore (r ∷ before) = subst (AllPairs EndsBefore) e (actions_in_turn dates agent) in
      subst (EndsBefore r) is (turn 0 (suc k) x (omega arith) (omega (arith, less)))
