-- The order of messages, and messages that stand in it with no two the same.
use Rattle.std.proofs.Common.{◌≡◌, ◌⊎◌, ◌↔◌, ℕ, zero, suc, ◌<◌, ◌≤◌, Bool, true, false, List, [], ◌∷◌, length, get_or, drop, take, refl, sym, ap, ◌∙◌, subst, inl, inr, arith}
use Rattle.std.specs.Prelude.{◌==◌, ◌&&◌, nat_le, nat_lt}
use Rattle.std.specs.List.{All, AllPairs, Contains, filter}
use Rattle.std.proofs.lemmas.Bool.{and_cases, and_from, and_left, and_parts, and_right, cases_Bool, eq-eqb, eqb-true}
use Rattle.std.proofs.lemmas.Bool.Decides.{nat_tests}
use Rattle.std.proofs.lemmas.List.Elements.{All-contains, All-tail}
use Rattle.std.proofs.lemmas.List.Kept.{AllPairs-cons, AllPairs-filter}
use Rattle.psy_base.specs.declared.message.Message.{Message}
use Rattle.psy_queue.proofs.lemmas.Orders.{less_true, not_less, before_one_way}
use Rattle.psy_lists.proofs.lemmas.Members.{contains_none, contains_front, contains_behind, front_or_behind}
use Rattle.psy_queue.specs.Order.{AreInOrder, comes_before, less_then}
use Rattle.psy_history.specs.Visible.{is_same}

-- The messages stand in order, no two of them the same.
abbrev pub strictly : List Message → Type 0
strictly = AllPairs (λ m n. comes_before m n ≡ true)

-- No two of them are the same.
abbrev pub differing : List Message → Type 0
differing = AllPairs (λ m n. is_same m n ≡ false)

-- ---- one number, and what decides where it is the same

less_where : (a b : ℕ) (r : Bool) → (a < b) ⊎ ((a ≡ b) × (r ≡ true)) → less_then a b r ≡ true
less_where a b r (inl h) = grind (arith, nat_tests)
less_where a b r (inr h) = grind (arith, nat_tests)

chain_then : (a b c : ℕ) (r s t : Bool) → (r ≡ true → s ≡ true → t ≡ true) → less_then a b r ≡ true → less_then b c s ≡ true → less_then a c t ≡ true
chain_then a b c r s t rest h k = less_where a c t (elim (less_true a b r h) [
  | inl p ↦ elim (less_true b c s k) [ inl q ↦ inl (omega (arith, p, q)) | inr q ↦ inl (omega (arith, p, q.0)) ]
  | inr p ↦ elim (less_true b c s k) [ inl q ↦ inl (omega (arith, p.0, q)) | inr q ↦ inr (p.0 ∙ q.0, rest p.1 q.1) ]
])

chain_last : (a b c : ℕ) → nat_lt a b ≡ true → nat_lt b c ≡ true → nat_lt a c ≡ true
chain_last a b c h k = grind (arith, nat_tests)

other_then : (a b : ℕ) (r s same : Bool) → (same ≡ false → r ≡ false → s ≡ true) → (a == b && same) ≡ false → less_then a b r ≡ false → less_then b a s ≡ true
other_then a b r s same rest differs h = less_where b a s (elim (not_less a b r h) [
  | inl p ↦ inl p
  | inr p ↦ inr (sym p.0, rest (elim (and_cases (a == b) same differs) [ inl other ↦ absurd (grind (arith, nat_tests)) | inr is ↦ is ]) p.1)
])

other_last : (a b : ℕ) → (a == b) ≡ false → nat_lt a b ≡ false → nat_lt b a ≡ true
other_last a b differs h = grind (arith, nat_tests)

differs_then : (a b : ℕ) (r same : Bool) → (r ≡ true → same ≡ false) → less_then a b r ≡ true → (a == b && same) ≡ false
differs_then a b r same rest h = elim (less_true a b r h) [
  | inl p ↦ and_left (a == b) same (grind (arith, nat_tests))
  | inr p ↦ and_right (a == b) same (rest p.1)
]

differs_last : (a b : ℕ) → nat_lt a b ≡ true → (a == b) ≡ false
differs_last a b h = grind (arith, nat_tests)

-- ---- two messages, and three

-- What comes before another comes before what comes behind that one.
pub before_trans : (l m n : Message) → comes_before l m ≡ true → comes_before m n ≡ true → comes_before l n ≡ true
before_trans l m n = chain_then l.visible m.visible n.visible _ _ _ (chain_then l.entry m.entry n.entry _ _ _ (chain_then l.sender m.sender n.sender _ _ _ (chain_last l.number m.number n.number)))

-- Of two messages that aren't the same one comes before the other.
pub before_or_after : (m n : Message) → is_same m n ≡ false → comes_before m n ≡ false → comes_before n m ≡ true
before_or_after m n =
    other_then m.visible n.visible _ _ _ (other_then m.entry n.entry _ _ _ (other_then m.sender n.sender _ _ _ (other_last m.number n.number)))

-- Where one comes before the other, they aren't the same.
pub before_differs : (m n : Message) → comes_before m n ≡ true → is_same m n ≡ false
before_differs m n = differs_then m.visible n.visible _ _ (differs_then m.entry n.entry _ _ (differs_then m.sender n.sender _ _ (differs_last m.number n.number)))

-- What is the same in two messages that are the same
pub same_entry : (m n : Message) → is_same m n ≡ true → (m.visible ≡ n.visible) × (m.entry ≡ n.entry) × (m.sender ≡ n.sender) × (m.number ≡ n.number)
same_entry m n h =
    let a = and_parts (m.visible == n.visible) (m.entry == n.entry && (m.sender == n.sender && m.number == n.number)) h in
    let b = and_parts (m.entry == n.entry) (m.sender == n.sender && m.number == n.number) a.1 in
    let c = and_parts (m.sender == n.sender) (m.number == n.number) b.1 in
    (eqb-true m.visible n.visible a.0, eqb-true m.entry n.entry b.0, eqb-true m.sender n.sender c.0, eqb-true m.number n.number c.1)

-- Two messages are the same where these four numbers are,
pub same_from : (m n : Message) → m.visible ≡ n.visible → m.entry ≡ n.entry → m.sender ≡ n.sender → m.number ≡ n.number → is_same m n ≡ true
same_from m n a b c d =
    and_from (m.visible == n.visible) _ (eq-eqb m.visible n.visible a) (and_from (m.entry == n.entry) _ (eq-eqb m.entry n.entry b) (and_from (m.sender == n.sender) _ (eq-eqb m.sender n.sender c) (eq-eqb m.number n.number d)))

-- So each is the same as itself,
pub same_self : (m : Message) → is_same m m ≡ true
same_self m = same_from m m refl refl refl refl

-- And two that differ do so either way.
pub differs_back : (m n : Message) → is_same m n ≡ false → is_same n m ≡ false
differs_back m n h = elim (cases_Bool (is_same n m)) [
  | inl same ↦ (
      let (a, b, c, d) = same_entry n m same in
      let is : is_same m n ≡ true = same_from m n (sym a) (sym b) (sym c) (sym d) in
      absurd cc)
  | inr differs ↦ differs
]

-- ---- strict lists

-- What holds of all pairs holds of those behind the first element,
pub pairs_tail : {X : Type 0} (R : X → X → Type 0) (x : X) (xs : List X) → AllPairs R (x ∷ xs) → AllPairs R xs
pairs_tail R x xs pairs i j d less small = pairs (suc i) (suc j) d (omega (arith, less)) (omega (arith, small))

-- And of the first one and each behind it.
pub pairs_head : {X : Type 0} (R : X → X → Type 0) (x : X) (xs : List X) → AllPairs R (x ∷ xs) → All (R x) xs
pairs_head R x xs pairs k d small = pairs 0 (suc k) d (omega arith) (omega (arith, small))

-- There is no pair in an empty list.
pub pairs_none : {X : Type 0} (R : X → X → Type 0) → AllPairs R []
pairs_none R i j d less small = absurd (omega (arith, small))

-- A strict list is strict behind its first message,
pub strict_tail : (m : Message) (ms : List Message) → strictly (m ∷ ms) → strictly ms
strict_tail m ms strict = pairs_tail (λ x y. comes_before x y ≡ true) m ms strict

-- Which comes before all others.
pub strict_head : (m : Message) (ms : List Message) → strictly (m ∷ ms) → All (λ n. comes_before m n ≡ true) ms
strict_head m ms strict = pairs_head (λ x y. comes_before x y ≡ true) m ms strict

-- It is strict behind one more that comes before all of it.
pub strict_cons : (m : Message) (ms : List Message) → All (λ n. comes_before m n ≡ true) ms → strictly ms → strictly (m ∷ ms)
strict_cons m ms first strict = AllPairs-cons (λ x y. comes_before x y ≡ true) m ms first strict

-- It stands in order.
pub strict_in_order : (ms : List Message) → strictly ms → AreInOrder ms
strict_in_order ms strict i j d less small = before_one_way (get_or ms i d) (get_or ms j d) (strict i j d less small)

-- It is strict where some are left out,
pub strictly_filter : (p : Message → Bool) (ms : List Message) → strictly ms → strictly (filter p ms)
strictly_filter p ms strict = AllPairs-filter (λ x y. comes_before x y ≡ true) p ms strict

-- And where the first are gone.
pub strictly_drop : (n : ℕ) (ms : List Message) → strictly ms → strictly (drop n ms)
strictly_drop zero ms strict = strict
strictly_drop (suc n) [] strict = strict
strictly_drop (suc n) (m ∷ ms) strict = strictly_drop n ms (strict_tail m ms strict)

head_before : (m : Message) (ms : List Message) (n : Message) → strictly (m ∷ ms) → Contains ms n → comes_before m n ≡ true
head_before m ms n strict c = All-contains (λ x. comes_before m x ≡ true) ms n (strict_head m ms strict) c

-- The first one stands nowhere else
head_once : (m : Message) (ms : List Message) → strictly (m ∷ ms) → Contains ms m → ⊥
head_once m ms strict c =
    let before = head_before m ms m strict c in
    let other = before_one_way m m before in
    absurd cc

same_heads : (m : Message) (ms : List Message) (n : Message) (ns : List Message) → strictly (m ∷ ms) → strictly (n ∷ ns) → ((x : Message) → Contains (m ∷ ms) x ↔ Contains (n ∷ ns) x) → m ≡ n
same_heads m ms n ns strict also same = elim (front_or_behind n ns m ((same m).0 (contains_front m ms))) [
  | inl e ↦ sym e
  | inr there ↦ elim (front_or_behind m ms n ((same n).1 (contains_front n ns))) [
    | inl e ↦ e
    | inr here ↦ (
        let one = head_before m ms n strict here in
        let other = before_one_way n m (head_before n ns m also there) in
        absurd cc)
  ]
]

tail_within : (m : Message) (ms ns : List Message) → strictly (m ∷ ms) → ((x : Message) → Contains (m ∷ ms) x → Contains (m ∷ ns) x) → (x : Message) → Contains ms x → Contains ns x
tail_within m ms ns strict all x c = elim (front_or_behind m ns x (all x (contains_behind m ms x c))) [
  | inl e ↦ absurd (head_once m ms strict (subst (Contains ms) (sym e) c))
  | inr there ↦ there
]

-- Two strict lists with the same members are the same.
pub same_messages : (ms ns : List Message) → strictly ms → strictly ns → ((m : Message) → Contains ms m ↔ Contains ns m) → ms ≡ ns
same_messages [] [] strict also same = refl
same_messages [] (n ∷ ns) strict also same = absurd (contains_none n ((same n).1 (contains_front n ns)))
same_messages (m ∷ ms) [] strict also same = absurd (contains_none m ((same m).0 (contains_front m ms)))
same_messages (m ∷ ms) (n ∷ ns) strict also same =
    let e = same_heads m ms n ns strict also same in
    let there : strictly (m ∷ ns) = subst (λ x. strictly (x ∷ ns)) (sym e) also in
    let alike : (x : Message) → Contains (m ∷ ms) x ↔ Contains (m ∷ ns) x = subst (λ y. (x : Message) → Contains (m ∷ ms) x ↔ Contains (y ∷ ns) x) (sym e) same in
    let rest : ms ≡ ns =
    same_messages ms ns (strict_tail m ms strict) (strict_tail m ns there) (λ x. (tail_within m ms ns strict (λ y. (alike y).0) x, tail_within m ns ms there (λ y. (alike y).1) x)) in
    ap (λ xs. m ∷ xs) rest ∙ ap (λ x. x ∷ ns) e

-- Of a strict list, two that are the same are equal.
pub same_is_equal : (ms : List Message) (m n : Message) → strictly ms → Contains ms m → Contains ms n → is_same m n ≡ true → m ≡ n
same_is_equal [] m n strict c d same = absurd (contains_none m c)
same_is_equal (x ∷ ms) m n strict c d same = elim (front_or_behind x ms m c) [
  | inl e ↦ elim (front_or_behind x ms n d) [
    | inl f ↦ sym e ∙ f
    | inr there ↦ (
        let before = subst (λ y. comes_before y n ≡ true) e (head_before x ms n strict there) in
        let differs = before_differs m n before in
        absurd cc)
  ]
  | inr here ↦ elim (front_or_behind x ms n d) [
    | inl f ↦ (
        let before = subst (λ y. comes_before y m ≡ true) f (head_before x ms m strict here) in
        let differs = differs_back n m (before_differs n m before) in
        absurd cc)
    | inr there ↦ same_is_equal ms m n (strict_tail x ms strict) here there same
  ]
]

-- ---- what can be seen

-- What comes before another can be seen no later.
no_earlier : (m n : Message) → comes_before m n ≡ true → m.visible ≤ n.visible
no_earlier m n h = elim (less_true m.visible n.visible _ h) [ inl p ↦ omega (arith, p) | inr p ↦ omega (arith, p.0) ]

-- Where all fail a test, none is left.
none_pass : (p : Message → Bool) (ms : List Message) → All (λ m. p m ≡ false) ms → filter p ms ≡ []
none_pass p [] all = refl
none_pass p (m ∷ ms) all =
    let fails : p m ≡ false = all 0 m (omega arith) in
    rw fails (none_pass p ms (All-tail (λ n. p n ≡ false) m ms all))

-- What is visible at a date stands in front.
pub seen_front : (t : ℕ) (ms : List Message) → strictly ms → filter (λ (m : Message). nat_le m.visible t) ms ≡ take (length (filter (λ (m : Message). nat_le m.visible t) ms)) ms
seen_front t [] strict = refl
seen_front t (m ∷ ms) strict = elim (cases_Bool (nat_le m.visible t)) [
  | inl seen ↦ rw seen (ap (λ xs. m ∷ xs) (seen_front t ms (strict_tail m ms strict)))
  | inr late ↦ (
      let none : filter (λ (n : Message). nat_le n.visible t) ms ≡ [] = none_pass (λ n. nat_le n.visible t) ms (λ k d l. later m (get_or ms k d) late (strict_head m ms strict k d l)) in
      rw (late, none) refl)
]
  where
    later : (x y : Message) → nat_le x.visible t ≡ false → comes_before x y ≡ true → nat_le y.visible t ≡ false
    later x y h before = (let l = no_earlier x y before in grind (arith, nat_tests))
