-- What actions took of a stream: what they saw, by the date at which they are done, and the first ones of what it held.
use Rattle.std.proofs.Common.{◌≡◌, ◌↔◌, ℕ, zero, suc, Bool, true, false, not, List, [], ◌∷◌, length, drop, take, refl, ap, ◌∙◌, subst, inl, inr}
use Rattle.std.specs.Prelude.{◌==◌, ◌&&◌}
use Rattle.std.specs.List.{Contains, count_by, list_all, list_any}
use Rattle.std.proofs.lemmas.Bool.{and_from, or_from, or_parts}
use Rattle.std.proofs.lemmas.List.Elements.{All-contains}
use Rattle.psy_base.specs.declared.message.Message.{Message}
use Rattle.psy_lists.proofs.lemmas.Members.{contains_none, contains_front, contains_behind, front_or_behind}
use Rattle.psy_queue.specs.Order.{comes_before}
use Rattle.psy_history.specs.Actions.{Action, is_done_by}
use Rattle.psy_history.specs.Visible.{is_same, is_untaken, taken}
use Rattle.psy_history.proofs.MessageOrder.{before_differs, differs_back, same_self, strict_head, strict_tail, strictly}

-- ---- tests of members

-- A test that each element passes all pass,
pub list_all_members : {X : Type 0} (test : X → Bool) (xs : List X) → ((x : X) → Contains xs x → test x ≡ true) → list_all test xs ≡ true
list_all_members test [] each = refl
list_all_members test (x ∷ xs) each = and_from (test x) (list_all test xs) (each x (contains_front x xs)) (list_all_members test xs (λ y c. each y (contains_behind x xs y c)))

-- And one that each fails none does.
pub list_any_members : {X : Type 0} (test : X → Bool) (xs : List X) → ((x : X) → Contains xs x → test x ≡ false) → list_any test xs ≡ false
list_any_members test [] each = refl
list_any_members test (x ∷ xs) each = or_from (test x) (list_any test xs) (each x (contains_front x xs)) (list_any_members test xs (λ y c. each y (contains_behind x xs y c)))

contains_take : {X : Type 0} (n : ℕ) (xs : List X) (x : X) → Contains (take n xs) x → Contains xs x
contains_take zero xs x c = absurd (contains_none x c)
contains_take (suc n) [] x c = c
contains_take (suc n) (y ∷ xs) x c = elim (front_or_behind y (take n xs) x c) [
  | inl e ↦ subst (Contains (y ∷ xs)) e (contains_front y xs)
  | inr there ↦ contains_behind y xs x (contains_take n xs x there)
]

-- What an action took it saw.
pub taken_seen : (r : Action) (stream : ℕ) (m : Message) → Contains (taken r stream) m → Contains (r.seen stream) m
taken_seen r stream m c = contains_take (count_by (λ s. s == stream) r.deeds.takes) (r.seen stream) m c

-- ---- by which date

-- Where the same actions are done by two dates, the same messages are untaken.
pub untaken_alike : (stream one other : ℕ) (actions : List Action) (m : Message) → ((r : Action) → Contains actions r → is_done_by one r.verdict ≡ is_done_by other r.verdict) → is_untaken stream one actions m ≡ is_untaken stream other actions m
untaken_alike stream one other [] m alike = refl
untaken_alike stream one other (r ∷ before) m alike =
    let here : is_done_by one r.verdict ≡ is_done_by other r.verdict = alike r (contains_front r before) in
    let rest : is_untaken stream one before m ≡ is_untaken stream other before m = untaken_alike stream one other before m (λ x c. alike x (contains_behind r before x c)) in
    ap (λ b. not (b && list_any (is_same m) (taken r stream)) && is_untaken stream one before m) here ∙ ap (λ b. not (is_done_by other r.verdict && list_any (is_same m) (taken r stream)) && b) rest

-- An action that isn't done yet has taken nothing.
pub untaken_behind : (stream by : ℕ) (r : Action) (before : List Action) (m : Message) → is_done_by by r.verdict ≡ false → is_untaken stream by (r ∷ before) m ≡ is_untaken stream by before m
untaken_behind stream by r before m fails = ap (λ b. not (b && list_any (is_same m) (taken r stream)) && is_untaken stream by before m) fails

-- One that is done has taken what it took.
pub untaken_done : (stream by : ℕ) (r : Action) (before : List Action) (m : Message) → is_done_by by r.verdict ≡ true
    → is_untaken stream by (r ∷ before) m ≡ (not (list_any (is_same m) (taken r stream)) && is_untaken stream by before m)
untaken_done stream by r before m done = ap (λ b. not (b && list_any (is_same m) (taken r stream)) && is_untaken stream by before m) done

done_and : (done taken : Bool) → (done ≡ true → taken ≡ false) → not (done && taken) ≡ true
done_and false taken none = refl
done_and true taken none = ap not (none refl)

-- A message that isn't among those that were seen by actions which are done is untaken.
pub untaken_new : (stream by : ℕ) (actions : List Action) (m : Message) → ((r : Action) → Contains actions r → is_done_by by r.verdict ≡ true → (x : Message) → Contains (r.seen stream) x → is_same m x ≡ false) → is_untaken stream by actions m ≡ true
untaken_new stream by actions m other = list_all_members (λ r. not (is_done_by by r.verdict && list_any (is_same m) (taken r stream))) actions (λ r c.
    done_and (is_done_by by r.verdict) (list_any (is_same m) (taken r stream)) (λ done. list_any_members (is_same m) (taken r stream) (λ x d. other r c done x (taken_seen r stream x d))))

-- ---- the first ones

-- The front of a front is one.
pub front_of_front : (k j : ℕ) (ms : List Message) → (i : ℕ) × (take k (take j ms) ≡ take i ms)
front_of_front zero j ms = (0, refl)
front_of_front (suc k) zero ms = (0, refl)
front_of_front (suc k) (suc j) [] = (0, refl)
front_of_front (suc k) (suc j) (m ∷ ms) = (let (i, e) = front_of_front k j ms in (suc i, ap (λ xs. m ∷ xs) e))

-- Behind the front of a strict list stand those that aren't the same as one of it.
pub behind_front : (j : ℕ) (ms : List Message) (m : Message) → strictly ms → Contains (drop (length (take j ms)) ms) m ↔ (Contains ms m × (list_any (is_same m) (take j ms) ≡ false))
behind_front zero ms m strict = (λ c. (c, refl), λ h. h.0)
behind_front (suc j) [] m strict = (λ c. (c, refl), λ h. h.0)
behind_front (suc j) (x ∷ ms) m strict =
    let rest = behind_front j ms m (strict_tail x ms strict) in (
      λ c.
          let (there, none) = rest.0 c in
          let before = All-contains (λ y. comes_before x y ≡ true) ms m (strict_head x ms strict) there in
          (contains_behind x ms m there, or_from (is_same m x) (list_any (is_same m) (take j ms)) (differs_back x m (before_differs x m before)) none),
      λ h.
          let (differs, none) = or_parts (is_same m x) (list_any (is_same m) (take j ms)) h.1 in
          elim (front_or_behind x ms m h.0) [
            | inl e ↦ (
                let is : is_same m x ≡ true = subst (λ y. is_same y x ≡ true) e (same_self x) in
                absurd cc)
            | inr there ↦ rest.1 (there, none)
          ],
    )
