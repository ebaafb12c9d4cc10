-- Messages that expire in their order, one more of them, and those that are left at a date.
use Rattle.std.proofs.Common.{◌≡◌, ℕ, zero, suc, ◌+◌, ◌-◌, ◌<◌, ◌≤◌, Bool, true, false, nat_lt, cond, leb, List, [], ◌∷◌, length, get_or, drop, Some, refl, sym, ap, ◌∙◌, subst, inl, inr, arith}
use Rattle.std.specs.Prelude.{slice_get}
use Rattle.std.specs.List.{All, filter, insert}
use Rattle.std.specs.List.Sorted.{IsNonDecreasingBy, IsPartitionPoint}
use Rattle.std.proofs.lemmas.Bool.{cases_order, le-ltb, leb-false, leb-true, lt-ltb}
use Rattle.std.proofs.lemmas.List.Elements.{All-cons, All-tail}
use Rattle.std.proofs.lemmas.List.Kept.{AllPairs-cons}
use Rattle.std.proofs.lemmas.Option.{slice_get-get_or}
use Rattle.psy_base.specs.declared.message.Message.{Message}
use Rattle.psy_queue.specs.Expiring.{ExpiryRises}

rises_tail : (n : Message) (ns : List Message) → ExpiryRises (n ∷ ns) → ExpiryRises ns
rises_tail n ns rise i j d less small = rise (suc i) (suc j) d (omega (arith, less)) (omega (arith, small))

rises_head : (n : Message) (ns : List Message) → ExpiryRises (n ∷ ns) → All (λ m. n.expiry ≤ m.expiry) ns
rises_head n ns rise k d small = rise 0 (suc k) d (omega arith) (omega (arith, small))

-- They still rise where the first are gone.
pub rises_dropped : (taken : ℕ) (ns : List Message) → ExpiryRises ns → ExpiryRises (drop taken ns)
rises_dropped zero ns rise = rise
rises_dropped (suc taken) [] rise = rise
rises_dropped (suc taken) (n ∷ ns) rise = rises_dropped taken ns (rises_tail n ns rise)

-- Expiry doesn't fall.
pub expiry_rises : (ns : List Message) → ExpiryRises ns → IsNonDecreasingBy (λ (m : Message). m.expiry) ns
expiry_rises ns rise i j d less small = elim (cases_order i j) [
  | inl same ↦ subst (λ k. (get_or ns i d).expiry ≤ (get_or ns k d).expiry) same (omega arith)
  | inr other ↦ elim other [ inl first ↦ rise i j d first small | inr last ↦ absurd (omega (arith, less, last)) ]
]

-- ---- one more

all_inserted : (P : Message → Type 0) (m : Message) (ns : List Message) (k : ℕ) → k ≤ length ns → P m → All P ns → All P (insert ns k m)
all_inserted P m [] zero within here all = All-cons P m [] here all
all_inserted P m [] (suc k) within here all = absurd (omega (arith, within))
all_inserted P m (n ∷ ns) zero within here all = All-cons P m (n ∷ ns) here all
all_inserted P m (n ∷ ns) (suc k) within here all = All-cons P n (insert ns k m) (all 0 n (omega arith)) (all_inserted P m ns k (omega (arith, within)) here (All-tail P n ns all))

rises_between : (m : Message) (ns : List Message) (k : ℕ) → k ≤ length ns → ExpiryRises ns → ((i : ℕ) (d : Message) → i < k → (get_or ns i d).expiry ≤ m.expiry)
    → ((i : ℕ) (d : Message) → k ≤ i → i < length ns → m.expiry ≤ (get_or ns i d).expiry) → ExpiryRises (insert ns k m)
rises_between m [] zero within rise before behind = AllPairs-cons (λ x y. x.expiry ≤ y.expiry) m [] (λ k d small. absurd (omega (arith, small))) rise
rises_between m [] (suc k) within rise before behind = absurd (omega (arith, within))
rises_between m (n ∷ ns) zero within rise before behind = AllPairs-cons (λ x y. x.expiry ≤ y.expiry) m (n ∷ ns) (λ i d small. behind i d (omega arith) small) rise
rises_between m (n ∷ ns) (suc k) within rise before behind =
    AllPairs-cons (λ x y. x.expiry ≤ y.expiry) n (insert ns k m)
    (all_inserted (λ x. n.expiry ≤ x.expiry) m ns k (omega (arith, within)) (before 0 n (omega arith)) (rises_head n ns rise))
    (rises_between m ns k (omega (arith, within)) (rises_tail n ns rise) (λ i d less. before (suc i) d (omega (arith, less))) (λ i d more small. behind (suc i) d (omega (arith, more)) (omega (arith, small))))

-- They still rise with one more that expires no earlier than the one before it, and no later than the one behind it.
pub rises_inserted : (m : Message) (ns : List Message) (k : ℕ) → k ≤ length ns → ExpiryRises ns → ((i : ℕ) (other : Message) → i + 1 ≡ k → slice_get ns i ≡ Some other → other.expiry ≤ m.expiry)
    → ((other : Message) → slice_get ns k ≡ Some other → m.expiry ≤ other.expiry) → ExpiryRises (insert ns k m)
rises_inserted m ns k within rise before behind = rises_between m ns k within rise earlier later
  where
    earlier : (i : ℕ) (d : Message) → i < k → (get_or ns i d).expiry ≤ m.expiry
    earlier i d less =
        let j : ℕ = k - 1 in
        let small : j < length ns = omega (arith, less, within) in
        let near : (get_or ns j d).expiry ≤ m.expiry = before j (get_or ns j d) (omega (arith, less)) (slice_get-get_or ns j d small) in
        elim (cases_order i j) [
          | inl same ↦ subst (λ n. (get_or ns n d).expiry ≤ m.expiry) (sym same) near
          | inr other ↦ elim other [ inl first ↦ omega (arith, rise i j d first small, near) | inr last ↦ absurd (omega (arith, less, last)) ]
        ]

    later : (i : ℕ) (d : Message) → k ≤ i → i < length ns → m.expiry ≤ (get_or ns i d).expiry
    later i d more small =
        let near : m.expiry ≤ (get_or ns k d).expiry = behind (get_or ns k d) (slice_get-get_or ns k d (omega (arith, more, small))) in
        elim (cases_order k i) [
          | inl same ↦ subst (λ n. m.expiry ≤ (get_or ns n d).expiry) same near
          | inr other ↦ elim other [ inl first ↦ omega (arith, rise k i d first small, near) | inr last ↦ absurd (omega (arith, more, last)) ]
        ]

-- ---- those that are left

not_expired : (date expiry : ℕ) → leb expiry date ≡ false → nat_lt date expiry ≡ true
not_expired date expiry h = lt-ltb date expiry (leb-false expiry date h)

has_expired : (date expiry : ℕ) → leb expiry date ≡ true → nat_lt date expiry ≡ false
has_expired date expiry h = le-ltb date expiry (leb-true expiry date h)

-- Where the first have expired and the others haven't, those that are left are the others.
pub left_behind : (date : ℕ) (ns : List Message) (k : ℕ) → k ≤ length ns → IsPartitionPoint (λ (m : Message). leb m.expiry date ≡ true) (λ (m : Message). leb m.expiry date ≡ false) ns k
    → drop k ns ≡ filter (λ (m : Message). nat_lt date m.expiry) ns
left_behind date [] zero within point = refl
left_behind date [] (suc k) within point = absurd (omega (arith, within))
left_behind date (n ∷ ns) zero within point =
    let left = λ (m : Message). nat_lt date m.expiry in
    let rest : ns ≡ filter left ns = left_behind date ns zero (omega arith) (λ i d more less. absurd (omega (arith, less)), λ i d more less. point.1 (suc i) d (omega arith) (omega (arith, less))) in
    ap (λ (xs : List Message). n ∷ xs) rest ∙ sym (ap (λ (b : Bool). cond b (n ∷ filter left ns) (filter left ns)) (not_expired date n.expiry (point.1 0 n (omega arith) (omega arith))))
left_behind date (n ∷ ns) (suc k) within point =
    let left = λ (m : Message). nat_lt date m.expiry in
    let rest : drop k ns ≡ filter left ns = left_behind date ns k (omega (arith, within)) (λ i d more less. point.0 (suc i) d (omega arith) (omega (arith, less)), λ i d more less. point.1 (suc i) d (omega (arith, more)) (omega (arith, less))) in
    rest ∙ sym (ap (λ (b : Bool). cond b (n ∷ filter left ns) (filter left ns)) (has_expired date n.expiry (point.0 0 n (omega arith) (omega arith))))
