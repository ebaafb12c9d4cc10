-- The agent that is picked is the one whose pending action has the earliest deadline.
use Rattle.std.proofs.Common.{◌≡◌, refl, sym, ap, ◌∙◌, subst, inl, inr, arith}
use Rattle.std.specs.Prelude.{ℕ, zero, suc, ◌<◌, ◌≤◌, Bool, true, false, nat_le, if◌then◌else◌, List, [], ◌∷◌, ◌++◌, filter, Option, Some, None, slice_get, ⊤}
use Rattle.std.specs.List.{All}
use Rattle.std.proofs.lemmas.Bool.{cond-true, cond-false, cond_both, le-leb, lt-leb}
use Rattle.std.proofs.lemmas.List.Elements.{All-cons, All-head, All-tail}
use Rattle.psy_ready.specs.Choice.{IsPick, NoLater, pending_deadline}
use Rattle.psy_history.specs.Actions.{Action, History}
use Rattle.psy_history.specs.Schedule.{Turn, is_pending, pending, sooner, soonest}
use Rattle.psy_kernel.specs.Cycles.{AreOver}
use Rattle.psy_kernel.specs.Standing.{IsChosen, deadline_of}

-- Of an agent's actions none is pending, or the last one alone, and it has this deadline
abbrev pub Front : List (Option Turn) → List Action → Option ℕ → Type 0
Front turns actions None = filter (is_pending turns) actions ≡ []
Front turns actions (Some deadline) = (r : Action) × (before : List Action) × (actions ≡ r ∷ before) × (filter (is_pending turns) actions ≡ r ∷ []) × (is_pending turns r ≡ true) × (r.deadline ≡ deadline)

none_kept : {X : Type 0} (test : X → Bool) (xs : List X) → All (λ x. test x ≡ false) xs → filter test xs ≡ []
none_kept test [] h = refl
none_kept test (x ∷ xs) h = cond-false (test x) (x ∷ filter test xs) (filter test xs) (All-head (λ y. test y ≡ false) x xs h) ∙ none_kept test xs (All-tail (λ y. test y ≡ false) x xs h)

first_off : {X : Type 0} (x : X) (kept : List X) (on : Bool) → (if on then x ∷ kept else kept) ≡ [] → (on ≡ false) × (kept ≡ [])
first_off x kept true e = absurd (cc)
first_off x kept false e = (refl, e)

left_none : {X : Type 0} (test : X → Bool) (xs : List X) → filter test xs ≡ [] → All (λ x. test x ≡ false) xs
left_none test [] e = λ at other less. absurd (omega (arith, less))
left_none test (x ∷ xs) e = (let off = first_off x (filter test xs) (test x) e in All-cons (λ y. test y ≡ false) x xs off.0 (left_none test xs off.1))

-- Where none is pending, each is finished or stopped.
pub front_none : (turns : List (Option Turn)) (actions : List Action) → Front turns actions None → All (λ r. is_pending turns r ≡ false) actions
front_none turns actions e = left_none (is_pending turns) actions e

front_by : (turns : List (Option Turn)) (r : Action) (before : List Action) → filter (is_pending turns) before ≡ [] → (test : Bool) → is_pending turns r ≡ test → Front turns (r ∷ before) (if test then Some r.deadline else None)
front_by turns r before h true e = (r, before, refl, cond-true (is_pending turns r) (r ∷ filter (is_pending turns) before) (filter (is_pending turns) before) e ∙ ap (λ rest. r ∷ rest) h, e, refl)
front_by turns r before h false e = cond-false (is_pending turns r) (r ∷ filter (is_pending turns) before) (filter (is_pending turns) before) e ∙ h

pub front_of : (turns : List (Option Turn)) (actions : List Action) → AreOver turns actions → Front turns actions (deadline_of turns actions)
front_of turns [] h = refl
front_of turns (r ∷ before) h = front_by turns r before (none_kept (is_pending turns) before h) (is_pending turns r) refl

abbrev NotBelow : ℕ → Option Action → Type 0
NotBelow deadline None = ⊤
NotBelow deadline (Some r) = deadline ≤ r.deadline

not_below_sooner : (deadline : ℕ) (r : Action) (later : Option Action) → deadline ≤ r.deadline → NotBelow deadline later → NotBelow deadline (sooner r later)
not_below_sooner deadline r None h rest = h
not_below_sooner deadline r (Some later) h rest = cond_both (nat_le r.deadline later.deadline) (Some r) (Some later) (NotBelow deadline) (λ _. h) (λ _. rest)

stays_first : (r : Action) (later : Option Action) → NotBelow r.deadline later → sooner r later ≡ Some r
stays_first r None h = refl
stays_first r (Some later) h = cond-true (nat_le r.deadline later.deadline) (Some r) (Some later) (le-leb r.deadline later.deadline h)

is_passed : (r later : Action) → later.deadline < r.deadline → sooner r (Some later) ≡ Some later
is_passed r later h = cond-false (nat_le r.deadline later.deadline) (Some r) (Some later) (lt-leb r.deadline later.deadline h)

module _ (turns : List (Option Turn)) (h : History) (waits : ℕ → Option ℕ) (fronts : (agent : ℕ) → Front turns (h agent) (waits agent)) where
  nothing : (agent : ℕ) (rest : List ℕ) → waits agent ≡ None → pending (agent ∷ rest) turns h ≡ pending rest turns h
  nothing agent rest e = ap (λ actions. actions ++ pending rest turns h) (subst (Front turns (h agent)) e (fronts agent))

  -- the head of an agent's actions stands before what is pending of the rest of the order
  abbrev IsHead : ℕ → List ℕ → ℕ → Action → Type 0
  IsHead agent rest deadline r = (before : List Action) × (h agent ≡ r ∷ before) × (is_pending turns r ≡ true) × (r.deadline ≡ deadline) × (pending (agent ∷ rest) turns h ≡ r ∷ pending rest turns h)

  head : (agent : ℕ) (rest : List ℕ) (deadline : ℕ) → waits agent ≡ Some deadline → (r : Action) × IsHead agent rest deadline r
  head agent rest deadline e =
      let front : Front turns (h agent) (Some deadline) = subst (Front turns (h agent)) e (fronts agent) in
      (front.0, (front.1, front.2, front.4, front.5, ap (λ actions. actions ++ pending rest turns h) front.3))

  later_by : (agent : ℕ) (rest : List ℕ) (deadline : ℕ) (waiting : Option ℕ) → waits agent ≡ waiting → ((d : ℕ) → waiting ≡ Some d → deadline ≤ d) → NotBelow deadline (soonest (pending rest turns h)) → NotBelow deadline (soonest (pending (agent ∷ rest) turns h))
  later_by agent rest deadline None e least behind = subst (λ actions. NotBelow deadline (soonest actions)) (sym (nothing agent rest e)) behind
  later_by agent rest deadline (Some d) e least behind =
      let w = head agent rest d e in
      subst (λ actions. NotBelow deadline (soonest actions)) (sym w.1.4) (not_below_sooner deadline w.0 (soonest (pending rest turns h)) (omega (arith, w.1.3, least d refl)) behind)

  all_later : (order : List ℕ) (deadline : ℕ) → ((p agent d : ℕ) → slice_get order p ≡ Some agent → waits agent ≡ Some d → deadline ≤ d) → NotBelow deadline (soonest (pending order turns h))
  all_later [] deadline least = tt {0}
  all_later (agent ∷ rest) deadline least = later_by agent rest deadline (waits agent) refl (λ d e. least zero agent d refl e) (all_later rest deadline (λ p a d at e. least (suc p) a d at e))

  -- the soonest is the head of this agent's actions
  abbrev pub IsSoonest : List ℕ → ℕ → ℕ → Type 0
  IsSoonest order agent deadline = (r : Action) × (before : List Action) × (h agent ≡ r ∷ before) × (is_pending turns r ≡ true) × (r.deadline ≡ deadline) × (soonest (pending order turns h) ≡ Some r)

  first_is : (agent : ℕ) (rest : List ℕ) (deadline : ℕ) → waits agent ≡ Some deadline → ((p a d : ℕ) → slice_get rest p ≡ Some a → waits a ≡ Some d → deadline ≤ d) → IsSoonest (agent ∷ rest) agent deadline
  first_is agent rest deadline e least =
      let w = head agent rest deadline e in
      (w.0, w.1.0, w.1.1, w.1.2, w.1.3, ap soonest w.1.4 ∙ stays_first w.0 (soonest (pending rest turns h)) (subst (λ d. NotBelow d (soonest (pending rest turns h))) (sym w.1.3) (all_later rest deadline least)))

  next_by : (other : ℕ) (rest : List ℕ) (agent deadline : ℕ) (waiting : Option ℕ) → waits other ≡ waiting → ((d : ℕ) → waiting ≡ Some d → deadline < d) → IsSoonest rest agent deadline → IsSoonest (other ∷ rest) agent deadline
  next_by other rest agent deadline None e later w = (w.0, w.1, w.2, w.3, w.4, ap soonest (nothing other rest e) ∙ w.5)
  next_by other rest agent deadline (Some d) e later w =
      let v = head other rest d e in
      (w.0, w.1, w.2, w.3, w.4, ap soonest v.1.4 ∙ ap (sooner v.0) w.5 ∙ is_passed v.0 w.0 (omega (arith, later d refl, v.1.3, w.4)))

  at_place : (deadline d : ℕ) → NoLater zero deadline zero d → deadline ≤ d
  at_place deadline d (inl less) = omega (arith, less)
  at_place deadline d (inr same) = omega (arith, same.0)

  no_later : (place deadline p d : ℕ) → NoLater place deadline p d → deadline ≤ d
  no_later place deadline p d (inl less) = omega (arith, less)
  no_later place deadline p d (inr same) = omega (arith, same.0)

  before_place : (place deadline d : ℕ) → NoLater (suc place) deadline zero d → deadline < d
  before_place place deadline d (inl less) = less
  before_place place deadline d (inr same) = absurd (omega (arith, same.1))

  behind : (place deadline p d : ℕ) → NoLater (suc place) deadline (suc p) d → NoLater place deadline p d
  behind place deadline p d (inl less) = inl less
  behind place deadline p d (inr same) = inr (same.0, omega (arith, same.1))

  soonest_at : (order : List ℕ) (place agent deadline : ℕ) → slice_get order place ≡ Some agent → waits agent ≡ Some deadline → ((p a d : ℕ) → slice_get order p ≡ Some a → waits a ≡ Some d → NoLater place deadline p d) → IsSoonest order agent deadline
  soonest_at [] place agent deadline at e first = cc
  soonest_at (other ∷ rest) zero agent deadline at e first =
      let same : other ≡ agent = cc in
      subst (λ a. IsSoonest (other ∷ rest) a deadline) same (first_is other rest deadline (ap waits same ∙ e) (λ p a d is so. no_later zero deadline (suc p) d (first (suc p) a d is so)))
  soonest_at (other ∷ rest) (suc place) agent deadline at e first =
      next_by other rest agent deadline (waits other) refl (λ d so. before_place place deadline d (first zero other d refl so)) (soonest_at rest place agent deadline at e (λ p a d is so. behind place deadline p d (first (suc p) a d is so)))

  nobody : (order : List ℕ) → ((agent : ℕ) → waits agent ≡ None) → pending order turns h ≡ []
  nobody [] none = refl
  nobody (agent ∷ rest) none = nothing agent rest (none agent) ∙ nobody rest none

module _ (turns : List (Option Turn)) (h : History) (ready : List (Option ℕ)) (fronts : (agent : ℕ) → Front turns (h agent) (pending_deadline ready agent)) where
  pub soonest_by_pick : (order : List ℕ) (agent : ℕ) (pick : IsPick ready order agent) → IsSoonest turns h (pending_deadline ready) fronts order agent pick.deadline
  soonest_by_pick order agent pick = soonest_at turns h (pending_deadline ready) fronts order pick.place agent pick.deadline pick.at pick.is_pending pick.first

  pub soonest_of_nobody : (order : List ℕ) → IsChosen ready order None → soonest (pending order turns h) ≡ None
  soonest_of_nobody order none = ap soonest (nobody turns h (pending_deadline ready) fronts order none)
