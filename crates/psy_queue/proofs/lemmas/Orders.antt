-- Messages in order, where one is put among them, and how many of them can be seen.
use Rattle.std.proofs.Common.{◌≡◌, ◌⊎◌, ℕ, zero, suc, ◌<◌, ◌≤◌, Bool, true, false, not, nat_lt, if◌then◌else◌, cond, List, [], ◌∷◌, length, get_or, drop, refl, sym, ap, ◌∙◌, subst, inl, inr, arith, length-drop}
use Rattle.std.specs.List.{All, filter, insert}
use Rattle.std.specs.List.Sorted.{IsNonDecreasingBy, IsPartitionedBy, IsPartitionPoint}
use Rattle.std.proofs.lemmas.Bool.{cases_order}
use Rattle.std.proofs.lemmas.Bool.Decides.{nat_tests}
use Rattle.std.proofs.lemmas.List.Elements.{All-cons, All-tail}
use Rattle.std.proofs.lemmas.List.Kept.{AllPairs-cons}
use Rattle.psy_base.specs.declared.message.Message.{Message}
use Rattle.psy_queue.specs.Order.{AreInOrder, comes_before, less_then, put_in_order}

-- Where the first of two doesn't come before the second, the second's number is less, or the two are the same and the rest decides.
pub not_less : (a b : ℕ) (rest : Bool) → less_then a b rest ≡ false → (b < a) ⊎ ((a ≡ b) × (rest ≡ false))
not_less a b rest h = elim (cases_order a b) [
  | inl same ↦ inr (same, grind (arith, nat_tests))
  | inr other ↦ elim other [ inl first ↦ absurd (grind (arith, nat_tests)) | inr last ↦ inl last ]
]

pub less_not : (a b : ℕ) (rest : Bool) → (b < a) ⊎ ((a ≡ b) × (rest ≡ false)) → less_then a b rest ≡ false
less_not a b rest (inl h) = grind (arith, nat_tests)
less_not a b rest (inr h) = grind (arith, nat_tests)

chain_last : (a b c : ℕ) → nat_lt a b ≡ false → nat_lt b c ≡ false → nat_lt a c ≡ false
chain_last a b c h k = grind (arith, nat_tests)

chain_then : (a b c : ℕ) (r s t : Bool) → (r ≡ false → s ≡ false → t ≡ false) → less_then a b r ≡ false → less_then b c s ≡ false → less_then a c t ≡ false
chain_then a b c r s t rest h k = less_not a c t (elim (not_less a b r h) [
  | inl p ↦ elim (not_less b c s k) [ inl q ↦ inl (omega (arith, p, q)) | inr q ↦ inl (omega (arith, p, q.0)) ]
  | inr p ↦ elim (not_less b c s k) [ inl q ↦ inl (omega (arith, p.0, q)) | inr q ↦ inr (p.0 ∙ q.0, rest p.1 q.1) ]
])

-- What doesn't come before another doesn't come before what doesn't come after that one.
pub before_chain : (l m n : Message) → comes_before l m ≡ false → comes_before m n ≡ false → comes_before l n ≡ false
before_chain l m n = chain_then l.visible m.visible n.visible _ _ _ (chain_then l.entry m.entry n.entry _ _ _ (chain_then l.sender m.sender n.sender _ _ _ (chain_last l.number m.number n.number)))

pub one_way_last : (a b : ℕ) → nat_lt a b ≡ true → nat_lt b a ≡ false
one_way_last a b h = grind (arith, nat_tests)

pub less_true : (a b : ℕ) (r : Bool) → less_then a b r ≡ true → (a < b) ⊎ ((a ≡ b) × (r ≡ true))
less_true a b r h = elim (cases_order a b) [
  | inl same ↦ inr (same, grind (arith, nat_tests))
  | inr other ↦ elim other [ inl first ↦ inl first | inr last ↦ absurd (grind (arith, nat_tests)) ]
]

pub one_way_then : (a b : ℕ) (r s : Bool) → (r ≡ true → s ≡ false) → less_then a b r ≡ true → less_then b a s ≡ false
one_way_then a b r s rest h = less_not b a s (elim (less_true a b r h) [ inl p ↦ inl p | inr p ↦ inr (sym p.0, rest p.1) ])

pub before_one_way : (m n : Message) → comes_before m n ≡ true → comes_before n m ≡ false
before_one_way m n = one_way_then m.visible n.visible _ _ (one_way_then m.entry n.entry _ _ (one_way_then m.sender n.sender _ _ (one_way_last m.number n.number)))

-- One that doesn't come before another is visible no earlier.
pub visible_no_earlier : (m n : Message) → comes_before n m ≡ false → m.visible ≤ n.visible
visible_no_earlier m n h = elim (not_less n.visible m.visible _ h) [ inl p ↦ omega (arith, p) | inr p ↦ omega (arith, p.0) ]

module _ (P : Message → Type 0) where
  all_by : (m n : Message) (ns : List Message) (test : Bool) → P m → All P (n ∷ ns) → All P (put_in_order m ns) → All P (if test then m ∷ n ∷ ns else n ∷ put_in_order m ns)
  all_by m n ns true here all rest = All-cons P m (n ∷ ns) here all
  all_by m n ns false here all rest = All-cons P n (put_in_order m ns) (all 0 n (omega arith)) rest

  all_placed : (m : Message) (ns : List Message) → P m → All P ns → All P (put_in_order m ns)
  all_placed m [] here all = All-cons P m [] here all
  all_placed m (n ∷ ns) here all = all_by m n ns (comes_before m n) here all (all_placed m ns here (All-tail P n ns all))

pub in_order_tail : (n : Message) (ns : List Message) → AreInOrder (n ∷ ns) → AreInOrder ns
in_order_tail n ns rise i j d less small = rise (suc i) (suc j) d (omega (arith, less)) (omega (arith, small))

in_order_head : (n : Message) (ns : List Message) → AreInOrder (n ∷ ns) → All (λ m. comes_before m n ≡ false) ns
in_order_head n ns rise k d small = rise 0 (suc k) d (omega arith) (omega (arith, small))

in_order_by : (m n : Message) (ns : List Message) (test : Bool) → comes_before m n ≡ test → AreInOrder (n ∷ ns) → AreInOrder (put_in_order m ns) → AreInOrder (if test then m ∷ n ∷ ns else n ∷ put_in_order m ns)
in_order_by m n ns true e rise rest =
    AllPairs-cons (λ x y. comes_before y x ≡ false) m (n ∷ ns)
    (All-cons (λ y. comes_before y m ≡ false) n ns (before_one_way m n e) (λ k d small. before_chain (get_or ns k d) n m (in_order_head n ns rise k d small) (before_one_way m n e))) rise
in_order_by m n ns false e rise rest = AllPairs-cons (λ x y. comes_before y x ≡ false) n (put_in_order m ns) (all_placed (λ y. comes_before y n ≡ false) m ns e (in_order_head n ns rise)) rest

-- Messages still rise with one more at its place.
pub in_order_placed : (m : Message) (ns : List Message) → AreInOrder ns → AreInOrder (put_in_order m ns)
in_order_placed m [] rise = AllPairs-cons (λ x y. comes_before y x ≡ false) m [] (λ k d small. absurd (omega (arith, small))) rise
in_order_placed m (n ∷ ns) rise = in_order_by m n ns (comes_before m n) refl rise (in_order_placed m ns (in_order_tail n ns rise))

-- Messages still rise where the first are gone.
pub in_order_dropped : (taken : ℕ) (ns : List Message) → AreInOrder ns → AreInOrder (drop taken ns)
in_order_dropped zero ns rise = rise
in_order_dropped (suc taken) [] rise = rise
in_order_dropped (suc taken) (n ∷ ns) rise = in_order_dropped taken ns (in_order_tail n ns rise)

-- What `partition_point` asks, for a message that is put at its place
pub parted_before : (m : Message) (ns : List Message) → AreInOrder ns → IsPartitionedBy (λ n. not (comes_before m n)) ns
parted_before m ns rise i j d less small h = elim (cases_order i j) [
  | inl same ↦ subst (λ k. not (comes_before m (get_or ns k d)) ≡ true) (sym same) h
  | inr other ↦ elim other [
    | inl first ↦ ap not (before_chain m (get_or ns j d) (get_or ns i d) (not_true (comes_before m (get_or ns j d)) h) (rise i j d first small))
    | inr last ↦ absurd (omega (arith, less, last))
  ]
]
  where
    not_true : (b : Bool) → not b ≡ true → b ≡ false
    not_true true e = sym e
    not_true false e = refl

-- Visibility doesn't fall.
pub visible_rises : (ns : List Message) → AreInOrder ns → IsNonDecreasingBy (λ (m : Message). m.visible) ns
visible_rises ns rise i j d less small = elim (cases_order i j) [
  | inl same ↦ subst (λ k. (get_or ns i d).visible ≤ (get_or ns k d).visible) same (omega arith)
  | inr other ↦ elim other [ inl first ↦ visible_no_earlier (get_or ns i d) (get_or ns j d) (rise i j d first small) | inr last ↦ absurd (omega (arith, less, last)) ]
]

-- A message put at a place that parts those that it doesn't come before from those that it does
pub insert_is : (m : Message) (ns : List Message) (k : ℕ) → k ≤ length ns → IsPartitionPoint (λ n. comes_before m n ≡ false) (λ n. comes_before m n ≡ true) ns k → insert ns k m ≡ put_in_order m ns
insert_is m [] zero within point = refl
insert_is m [] (suc k) within point = absurd (omega (arith, within))
insert_is m (n ∷ ns) zero within point = ap (λ (b : Bool). if b then m ∷ n ∷ ns else n ∷ put_in_order m ns) (sym (point.1 0 n (omega arith) (omega arith)))
insert_is m (n ∷ ns) (suc k) within point =
    let rest : insert ns k m ≡ put_in_order m ns =
    insert_is m ns k (omega (arith, within)) (λ i d more less. point.0 (suc i) d (omega arith) (omega (arith, less)), λ i d more less. point.1 (suc i) d (omega (arith, more)) (omega (arith, less))) in
    ap (λ (xs : List Message). n ∷ xs) rest ∙ ap (λ (b : Bool). if b then m ∷ n ∷ ns else n ∷ put_in_order m ns) (sym (point.0 0 n (omega arith) (omega arith)))

-- How many pass a test, where the first do and the others don't
pub length_parted : (p : Message → Bool) (ns : List Message) (k : ℕ) → k ≤ length ns → IsPartitionPoint (λ n. p n ≡ true) (λ n. p n ≡ false) ns k → length (filter p ns) ≡ k
length_parted p [] zero within point = refl
length_parted p [] (suc k) within point = absurd (omega (arith, within))
length_parted p (n ∷ ns) zero within point =
    ap (λ (b : Bool). length (cond b (n ∷ filter p ns) (filter p ns))) (point.1 0 n (omega arith) (omega arith))
    ∙ length_parted p ns zero (omega arith) (λ i d more less. absurd (omega (arith, less)), λ i d more less. point.1 (suc i) d (omega arith) (omega (arith, less)))
length_parted p (n ∷ ns) (suc k) within point =
    ap (λ (b : Bool). length (cond b (n ∷ filter p ns) (filter p ns))) (point.0 0 n (omega arith) (omega arith))
    ∙ ap suc (length_parted p ns k (omega (arith, within)) (λ i d more less. point.0 (suc i) d (omega arith) (omega (arith, less)), λ i d more less. point.1 (suc i) d (omega (arith, more)) (omega (arith, less))))

-- No more are held once some are gone.
pub fewer_settled : (p : Message → Bool) (taken : ℕ) (ns : List Message) → length (filter p (drop taken ns)) ≤ length ns
fewer_settled p taken ns = omega (arith, fewer (drop taken ns), length-drop taken ns)
  where
    fewer_by : (m : Message) (ms : List Message) (test : Bool) → length (filter p ms) ≤ length ms → length (cond test (m ∷ filter p ms) (filter p ms)) ≤ length (m ∷ ms)
    fewer_by m ms true h = omega (arith, h)
    fewer_by m ms false h = omega (arith, h)

    fewer : (ms : List Message) → length (filter p ms) ≤ length ms
    fewer [] = omega arith
    fewer (m ∷ ms) = fewer_by m ms (p m) (fewer ms)
