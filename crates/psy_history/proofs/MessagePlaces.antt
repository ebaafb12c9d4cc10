-- Messages put in their places: who is there, and that they stand in order.
use Rattle.std.proofs.Common.{◌≡◌, ◌⊎◌, ◌↔◌, Bool, true, false, if◌then◌else◌, List, [], ◌∷◌, refl, subst, inl, inr, arith}
use Rattle.std.specs.List.{All, Contains}
use Rattle.std.proofs.lemmas.List.Elements.{All-contains, All-tail}
use Rattle.psy_base.specs.declared.message.Message.{Message}
use Rattle.psy_lists.proofs.lemmas.Members.{contains_none, contains_front, contains_behind, front_or_behind, all_members}
use Rattle.psy_queue.specs.Order.{comes_before, put_in_order}
use Rattle.psy_history.specs.Visible.{in_order, is_same}
use Rattle.psy_history.specs.Queues.{entered}
use Rattle.psy_history.proofs.MessageOrder.{before_or_after, before_trans, differing, differs_back, pairs_head, pairs_none, pairs_tail, strict_cons, strict_head, strict_tail, strictly}

-- ---- one message

from_put_by : (m n : Message) (ns : List Message) (x : Message) (test : Bool) → (Contains (put_in_order m ns) x → (m ≡ x) ⊎ Contains ns x) → Contains (if test then m ∷ n ∷ ns else n ∷ put_in_order m ns) x → (m ≡ x) ⊎ Contains (n ∷ ns) x
from_put_by m n ns x true rest c = front_or_behind m (n ∷ ns) x c
from_put_by m n ns x false rest c = elim (front_or_behind n (put_in_order m ns) x c) [
  | inl e ↦ inr (subst (Contains (n ∷ ns)) e (contains_front n ns))
  | inr behind ↦ elim (rest behind) [ inl e ↦ inl e | inr there ↦ inr (contains_behind n ns x there) ]
]

from_put : (m : Message) (ns : List Message) (x : Message) → Contains (put_in_order m ns) x → (m ≡ x) ⊎ Contains ns x
from_put m [] x c = front_or_behind m [] x c
from_put m (n ∷ ns) x c = from_put_by m n ns x (comes_before m n) (from_put m ns x) c

put_by : (m n : Message) (ns : List Message) (x : Message) (test : Bool) → ((m ≡ x) ⊎ Contains ns x → Contains (put_in_order m ns) x) → (m ≡ x) ⊎ Contains (n ∷ ns) x → Contains (if test then m ∷ n ∷ ns else n ∷ put_in_order m ns) x
put_by m n ns x true rest (inl e) = subst (Contains (m ∷ n ∷ ns)) e (contains_front m (n ∷ ns))
put_by m n ns x true rest (inr c) = contains_behind m (n ∷ ns) x c
put_by m n ns x false rest (inl e) = contains_behind n (put_in_order m ns) x (rest (inl e))
put_by m n ns x false rest (inr c) = elim (front_or_behind n ns x c) [
  | inl e ↦ subst (Contains (n ∷ put_in_order m ns)) e (contains_front n (put_in_order m ns))
  | inr there ↦ contains_behind n (put_in_order m ns) x (rest (inr there))
]

into_put : (m : Message) (ns : List Message) (x : Message) → (m ≡ x) ⊎ Contains ns x → Contains (put_in_order m ns) x
into_put m [] x (inl e) = subst (Contains (m ∷ [])) e (contains_front m [])
into_put m [] x (inr c) = absurd (contains_none x c)
into_put m (n ∷ ns) x h = put_by m n ns x (comes_before m n) (into_put m ns x) h

-- With a message at its place, it and the others are there.
pub contains_put : (m : Message) (ns : List Message) (x : Message) → Contains (put_in_order m ns) x ↔ ((m ≡ x) ⊎ Contains ns x)
contains_put m ns x = (from_put m ns x, into_put m ns x)

before_all : (m n : Message) (ns : List Message) → strictly (n ∷ ns) → comes_before m n ≡ true → All (λ x. comes_before m x ≡ true) (n ∷ ns)
before_all m n ns strict first = all_members (λ x. comes_before m x ≡ true) (n ∷ ns) (λ x c. elim (front_or_behind n ns x c) [
  | inl e ↦ subst (λ y. comes_before m y ≡ true) e first
  | inr there ↦ before_trans m n x first (All-contains (λ y. comes_before n y ≡ true) ns x (strict_head n ns strict) there)
])

before_put : (m n : Message) (ns : List Message) → strictly (n ∷ ns) → comes_before n m ≡ true → All (λ x. comes_before n x ≡ true) (put_in_order m ns)
before_put m n ns strict first = all_members (λ x. comes_before n x ≡ true) (put_in_order m ns) (λ x c. elim (from_put m ns x c) [
  | inl e ↦ subst (λ y. comes_before n y ≡ true) e first
  | inr there ↦ All-contains (λ y. comes_before n y ≡ true) ns x (strict_head n ns strict) there
])

strictly_put_by : (m n : Message) (ns : List Message) (test : Bool) → comes_before m n ≡ test → is_same m n ≡ false → strictly (n ∷ ns) → strictly (put_in_order m ns) → strictly (if test then m ∷ n ∷ ns else n ∷ put_in_order m ns)
strictly_put_by m n ns true e differs strict rest = strict_cons m (n ∷ ns) (before_all m n ns strict e) strict
strictly_put_by m n ns false e differs strict rest = strict_cons n (put_in_order m ns) (before_put m n ns strict (before_or_after m n differs e)) rest

-- A strict list stays strict with a message that isn't there.
pub strictly_put : (m : Message) (ns : List Message) → strictly ns → All (λ n. is_same m n ≡ false) ns → strictly (put_in_order m ns)
strictly_put m [] strict differs = strict_cons m [] (λ k d l. absurd (omega (arith, l))) strict
strictly_put m (n ∷ ns) strict differs =
    strictly_put_by m n ns (comes_before m n) refl (differs 0 n (omega arith)) strict (strictly_put m ns (strict_tail n ns strict) (All-tail (λ x. is_same m x ≡ false) n ns differs))

-- ---- many messages

from_ordered : (ms : List Message) (x : Message) → Contains (in_order ms) x → Contains ms x
from_ordered [] x c = c
from_ordered (m ∷ ms) x c = elim (from_put m (in_order ms) x c) [
  | inl e ↦ subst (Contains (m ∷ ms)) e (contains_front m ms)
  | inr there ↦ contains_behind m ms x (from_ordered ms x there)
]

into_ordered : (ms : List Message) (x : Message) → Contains ms x → Contains (in_order ms) x
into_ordered [] x c = c
into_ordered (m ∷ ms) x c = elim (front_or_behind m ms x c) [
  | inl e ↦ into_put m (in_order ms) x (inl e)
  | inr there ↦ into_put m (in_order ms) x (inr (into_ordered ms x there))
]

-- In order there are the same messages.
pub contains_ordered : (ms : List Message) (m : Message) → Contains (in_order ms) m ↔ Contains ms m
contains_ordered ms m = (from_ordered ms m, into_ordered ms m)

-- Where no two are the same, they stand in order strictly.
pub strictly_ordered : (ms : List Message) → differing ms → strictly (in_order ms)
strictly_ordered [] differ = pairs_none (λ x y. comes_before x y ≡ true)
strictly_ordered (m ∷ ms) differ =
    let others = pairs_head (λ x y. is_same x y ≡ false) m ms differ in
    let rest = strictly_ordered ms (pairs_tail (λ x y. is_same x y ≡ false) m ms differ) in
    strictly_put m (in_order ms) rest (all_members (λ n. is_same m n ≡ false) (in_order ms) (λ n c. All-contains (λ x. is_same m x ≡ false) ms n others (from_ordered ms n c)))

-- ---- what enters

from_entered : (ms ns : List Message) (x : Message) → Contains (entered ms ns) x → Contains ms x ⊎ Contains ns x
from_entered [] ns x c = inr c
from_entered (m ∷ ms) ns x c = elim (from_entered ms (put_in_order m ns) x c) [
  | inl there ↦ inl (contains_behind m ms x there)
  | inr put ↦ elim (from_put m ns x put) [ inl e ↦ inl (subst (Contains (m ∷ ms)) e (contains_front m ms)) | inr there ↦ inr there ]
]

into_entered : (ms ns : List Message) (x : Message) → Contains ms x ⊎ Contains ns x → Contains (entered ms ns) x
into_entered [] ns x (inl c) = absurd (contains_none x c)
into_entered [] ns x (inr c) = c
into_entered (m ∷ ms) ns x (inl c) = elim (front_or_behind m ms x c) [
  | inl e ↦ into_entered ms (put_in_order m ns) x (inr (into_put m ns x (inl e)))
  | inr there ↦ into_entered ms (put_in_order m ns) x (inl there)
]
into_entered (m ∷ ms) ns x (inr c) = into_entered ms (put_in_order m ns) x (inr (into_put m ns x (inr c)))

-- Those that entered are there, and those that were.
pub contains_entered : (ms ns : List Message) (x : Message) → Contains (entered ms ns) x ↔ (Contains ms x ⊎ Contains ns x)
contains_entered ms ns x = (from_entered ms ns x, into_entered ms ns x)

-- A strict list stays strict where other messages enter.
pub strictly_entered : (ms ns : List Message) → strictly ns → differing ms → ((m n : Message) → Contains ms m → Contains ns n → is_same m n ≡ false) → strictly (entered ms ns)
strictly_entered [] ns strict differ apart = strict
strictly_entered (m ∷ ms) ns strict differ apart =
    let others = pairs_head (λ x y. is_same x y ≡ false) m ms differ in
    let put = strictly_put m ns strict (all_members (λ n. is_same m n ≡ false) ns (λ n c. apart m n (contains_front m ms) c)) in
    strictly_entered ms (put_in_order m ns) put (pairs_tail (λ x y. is_same x y ≡ false) m ms differ) (λ x n c d. elim (from_put m ns n d) [
      | inl e ↦ subst (λ y. is_same x y ≡ false) e (differs_back m x (All-contains (λ y. is_same m y ≡ false) ms x others c))
      | inr there ↦ apart x n (contains_behind m ms x c) there
    ])
