-- What a ring holds at each date, and where an action finds in it what it saw.
use Rattle.std.proofs.Common.{◌≡◌, ℕ, zero, suc, ◌+◌, ◌-◌, ◌<◌, ◌≤◌, ◌∷◌, map, Some, add-one, option_map, refl, sym, ap, ap₂, ◌∙◌, subst, inl, inr, arith}
use Rattle.std.specs.Prelude.{ℤ, nat_lt, if◌then◌else◌, length, replicate, slice_get, take}
use Rattle.std.specs.List.{Contains, range_with_len}
use Rattle.std.proofs.lemmas.Bool.{cases_Bool, cond-false, cond-true, le-ltb, lt-ltb}
use Rattle.std.proofs.lemmas.List.FromFn.{get_or-range_with_len, length-range_with_len, take-map-range_with_len}
use Rattle.std.proofs.lemmas.Option.{get_or_from_slice_get, slice_get-get_or, slice_get-map, slice_get_within}
use Rattle.psy_clock.specs.declared.clock.Clock.{Clock}
use Rattle.psy_clock.specs.Dates.{IsClock, count, count_below, date}
use Rattle.psy_code.specs.Views.{found_in, past_of}
use Rattle.psy_tree.specs.declared.unit.VarDecl.{VarDecl}
use Rattle.psy_history.specs.Actions.{Action, Next, System, publishing, variable_of}
use Rattle.psy_history.specs.History.{action_of, history}
use Rattle.psy_history.specs.Lines.{is_date}
use Rattle.psy_history.specs.Visible.{past, published}
use Rattle.psy_history.specs.Regular.{IsLawful}
use Rattle.psy_history.specs.Rings.{age_at, ring_of}
use Rattle.psy_history.proofs.ClockDates.{AreCounted, below_next, count_at_date, count_elsewhere, count_rises, date_is}
use Rattle.psy_history.proofs.LikeActions.{map_same}
use Rattle.psy_history.proofs.PastValues.{value_back, value_further_back}
use Rattle.psy_history.proofs.StartedActions.{was_started}

-- ---- lists of what numbers have

each_same : (f : ℕ → ℤ) (x : ℤ) → ((k : ℕ) → f k ≡ x) → (a n : ℕ) → replicate n x ≡ map f (range_with_len a n)
each_same f x each a zero = refl
each_same f x each a (suc n) = ap₂ (λ y ys. y ∷ ys) (sym (each a)) (each_same f x each (a + 1) n)

one_further : (f g : ℕ → ℤ) → ((k : ℕ) → g (suc k) ≡ f k) → (a b n : ℕ) → b ≡ suc a → map g (range_with_len b n) ≡ map f (range_with_len a n)
one_further f g each a b zero e = refl
one_further f g each a b (suc n) e = ap₂ (λ y ys. y ∷ ys) (ap g e ∙ each a) (one_further f g each (a + 1) (b + 1) n (omega (arith, e)))

put_in_front : (f g : ℕ → ℤ) (x : ℤ) → g 0 ≡ x → ((k : ℕ) → g (suc k) ≡ f k) → (n : ℕ) → map g (range_with_len 0 n) ≡ take n (x ∷ map f (range_with_len 0 n))
put_in_front f g x first each zero = refl
put_in_front f g x first each (suc n) = ap₂ (λ y ys. y ∷ ys) first (one_further f g each 0 (0 + 1) n (omega arith) ∙ sym (take-map-range_with_len f 0 (suc n) n (omega arith)))

pub place_in : {X : Type 0} (f : ℕ → X) (n i : ℕ) → i < n → slice_get (map f (range_with_len 0 n)) i ≡ Some (f i)
place_in f n i l =
    let at : slice_get (range_with_len 0 n) i ≡ Some i = slice_get-get_or (range_with_len 0 n) i 0 (omega (arith, l, length-range_with_len 0 n)) ∙ ap Some (get_or-range_with_len 0 n i 0 l ∙ omega arith) in
    slice_get-map f (range_with_len 0 n) i ∙ ap (option_map f) at

-- ---- rings

module _ (s : System) (lawful : IsLawful s) (counted : AreCounted) (variable : ℕ) (is : IsClock (publishing s variable)) where
  abbrev clock : Clock
  clock = publishing s variable

  -- the values at the dates below this one
  ring_is : (t size : ℕ) → ring_of s t variable size ≡ map (value_back s (history s t) variable (count_below clock t)) (range_with_len 0 size)
  ring_is zero size = each_same (value_back s (history s 0) variable (count_below clock 0)) (variable_of s variable).init (λ k. cond-false (nat_lt k 0) _ _ (le-ltb k 0 (omega arith))) 0 size
  ring_is (suc t) size = ap (λ n. map (value_back s (history s (suc t)) variable n) (range_with_len 0 size)) (sym (below_next counted clock is t))

  early : (t i : ℕ) → i < count_below clock t → date clock i ≤ t
  early t i l = omega (arith, (counted.below clock t i is).1 l)

  ring_grows : (t size : ℕ) → ring_of s (suc t) variable size ≡ (if is_date clock t then take size (published s (history s (suc t)) variable t ∷ ring_of s t variable size) else ring_of s t variable size)
  ring_grows t size =
      let before = value_back s (history s t) variable (count_below clock t) in
      let after = value_back s (history s (suc t)) variable (count clock t) in
      elim (cases_Bool (is_date clock t)) [
        | inl at ↦ (
            let more = count_at_date counted clock is t at in
            let newest : count clock t - 1 - 0 ≡ count_below clock t = omega (arith, more) in
            let first : after 0 ≡ published s (history s (suc t)) variable t =
            cond-true (nat_lt 0 (count clock t)) _ _ (lt-ltb 0 (count clock t) (omega (arith, more)))
            ∙ ap (published s (history s (suc t)) variable) (ap (date clock) newest ∙ date_is counted clock is t at) in
            let rest : (k : ℕ) → after (suc k) ≡ before k = λ k. value_further_back s lawful variable t (suc t) (count_below clock t) k (count clock t) (suc k) (omega arith) (omega (arith, more)) (early t) in
            put_in_front before after (published s (history s (suc t)) variable t) first rest size
            ∙ ap (λ ring. take size (published s (history s (suc t)) variable t ∷ ring)) (sym (ring_is t size))
            ∙ sym (cond-true (is_date clock t) _ _ at))
        | inr not ↦ (
            let same = count_elsewhere counted clock is t not in
            map_same after before (λ k. value_further_back s lawful variable t (suc t) (count_below clock t) k (count clock t) k (omega arith) (omega (arith, same)) (early t)) (range_with_len 0 size)
            ∙ sym (ring_is t size)
            ∙ sym (cond-false (is_date clock t) _ _ not))
      ]

  pub ring_next : (t size : ℕ) → ring_of s (t + 1) variable size ≡ (if is_date clock t then take size (published s (history s (t + 1)) variable t ∷ ring_of s t variable size) else ring_of s t variable size)
  ring_next t size = subst (λ next. ring_of s next variable size ≡ (if is_date clock t then take size (published s (history s next) variable t ∷ ring_of s t variable size) else ring_of s t variable size)) (sym (add-one t)) (ring_grows t size)

  -- ---- looks

  -- what an action sees was published by its start
  seen_back : (dates agent back : ℕ) (n : Next) (decl : VarDecl) → slice_get s.unit.variables variable ≡ Some decl → back < decl.depth
      → past_of (action_of s (history s dates) agent n).view variable back ≡ Some (past s (history s dates) variable n.start back)
  seen_back dates agent back n decl at less =
      let inner = slice_get_within s.unit.variables variable decl at in
      let deep : back < (variable_of s variable).depth = subst (λ (v : VarDecl). back < v.depth) (sym (get_or_from_slice_get s.unit.variables variable decl _ at)) less in
      ap (λ values. found_in values (λ list. slice_get list back)) (place_in (λ v. map (past s (history s dates) v n.start) (range_with_len 0 (variable_of s v).depth)) (length s.unit.variables) variable inner)
      ∙ place_in (past s (history s dates) variable n.start) (variable_of s variable).depth back deep

  found_in_ring : (t agent back size : ℕ) (decl : VarDecl) (r : Action) → Contains (history s (suc t) agent) r
      → slice_get s.unit.variables variable ≡ Some decl → back < decl.depth → age_at s variable back r.start t < size
      → slice_get (ring_of s (suc t) variable size) (age_at s variable back r.start t) ≡ past_of r.view variable back
  found_in_ring t agent back size decl r c at less inside =
      let (before, was) = was_started s lawful (suc t) agent r c in
      let start : r.start ≡ was.next.start = ap (λ (q : Action). q.start) was.made in
      let rises : count clock r.start ≤ count clock t = count_rises clock r.start t (omega (arith, start, was.at)) in
      let same : count clock r.start + age_at s variable back r.start t ≡ count clock t + back = omega (arith, rises) in
      place_in (past s (history s (suc t)) variable t) size (age_at s variable back r.start t) inside
      ∙ ap Some (value_further_back s lawful variable r.start (suc t) (count clock r.start) back (count clock t) (age_at s variable back r.start t) (omega (arith, start, was.at)) same (λ i l. (counted.upto clock r.start i is).1 l))
      ∙ ap (λ d. Some (past s (history s d) variable d back)) start
      ∙ sym (seen_back was.next.start agent back was.next decl at less)
      ∙ ap (λ (q : Action). past_of q.view variable back) (sym was.made)

  pub ring_look : (t agent back size : ℕ) (decl : VarDecl) (r : Action) → Contains (history s (t + 1) agent) r
      → slice_get s.unit.variables variable ≡ Some decl → back < decl.depth → age_at s variable back r.start t < size
      → slice_get (ring_of s (t + 1) variable size) (age_at s variable back r.start t) ≡ past_of r.view variable back
  ring_look t agent back size decl r c at less inside =
      subst (λ next. slice_get (ring_of s next variable size) (age_at s variable back r.start t) ≡ past_of r.view variable back) (sym (add-one t))
      (found_in_ring t agent back size decl r (subst (λ next. Contains (history s next agent) r) (add-one t) c) at less inside)
