-- Where agents stand in an order, and the first of their places.
use Rattle.std.proofs.Common.{◌≡◌, ℕ, ◌+◌, ◌<◌, ◌≤◌, ◌==◌, Bool, true, false, cond, min, List, length, get_or, slice_get, Option, Some, None, refl, sym, ap, ◌∙◌, subst, inl, inr, arith}
use Rattle.std.specs.Prelude.{◌≢◌, nat_lt, unwrap_or}
use Rattle.std.specs.List.{AllPairs, Contains, position, position_or_len}
use Rattle.std.specs.List.Sorted.{IsPartitionPoint}
use Rattle.std.proofs.Math.Nat.{min-le_left, min-le_right, min-eq_left, min-eq_right}
use Rattle.std.proofs.lemmas.Bool.{cases_order, cases_lt, cases_eq, lt-ltb}
use Rattle.std.proofs.lemmas.Bool.Decides.{nat_tests}
use Rattle.std.proofs.lemmas.List.{get_or_default}
use Rattle.std.proofs.lemmas.List.Quantifiers.{position-Some}
use Rattle.std.proofs.lemmas.List.Sums.{fails_before_first}
use Rattle.std.proofs.lemmas.Option.{slice_get-get_or, slice_get_within, get_or_from_slice_get}
use Rattle.psy_ready.specs.declared.ready.Pending.{Pending}
use Rattle.psy_ready.specs.Standing.{IsFirstPlace}

abbrev nothing : Pending
nothing = record { agent = 0; deadline = 0 }

abbrev is_agent : ℕ → ℕ → Bool
is_agent agent n = n == agent

same_number : (n agent : ℕ) → is_agent agent n ≡ true → n ≡ agent
same_number n agent e = grind (arith, nat_tests)

other_number : (n agent : ℕ) → is_agent agent n ≡ false → n ≢ agent
other_number n agent e = grind (arith, nat_tests)

-- What a search doesn't find isn't there.
pub none_passes : {X : Type 0} (test : X → Bool) (xs : List X) → position test xs ≡ None → (k : ℕ) (d : X) → k < length xs → test (get_or xs k d) ≡ false
none_passes test xs none k d less = elim (cases_lt (position_or_len test xs) (length xs)) [
  | inl found ↦ absurd (let wrong : None ≡ Some (position_or_len test xs) = sym none ∙ ap (λ (b : Bool). cond b (Some (position_or_len test xs)) None) (lt-ltb (position_or_len test xs) (length xs) found) in cc)
  | inr past ↦ fails_before_first test xs k d (omega (arith, less, past))
]

-- A search finds who is listed.
pub found_there : (order : List ℕ) (agent : ℕ) → Contains order agent → (found : Option ℕ) → found ≡ position (λ n. n == agent) order → slice_get order (unwrap_or found 0) ≡ Some agent
found_there order agent has (Some place) e =
    let at : (place < length order) × (is_agent agent (get_or order place 0) ≡ true) × ((k : ℕ) → k < place → is_agent agent (get_or order k 0) ≡ false) = position-Some (is_agent agent) order place 0 (sym e) in
    slice_get-get_or order place 0 at.0 ∙ ap (λ (n : ℕ). Some n) (same_number (get_or order place 0) agent at.1)
found_there order agent has None e = absurd (other_number (get_or order has.0 agent) agent (none_passes (is_agent agent) order (sym e) has.0 agent has.1) has.2)

abbrev is_later : ℕ → Pending → Bool
is_later deadline p = nat_lt deadline p.deadline

later : (deadline : ℕ) (p : Pending) → is_later deadline p ≡ true → deadline < p.deadline
later deadline p e = grind (arith, nat_tests)

not_later : (deadline : ℕ) (p : Pending) → is_later deadline p ≡ false → p.deadline ≤ deadline
not_later deadline p e = grind (arith, nat_tests)

-- Where the first one stands that is due later, the rest is.
pub later_behind : (sorted : List Pending) (deadline : ℕ) → AllPairs (λ (p q : Pending). p.deadline ≤ q.deadline) sorted → (found : Option ℕ) → found ≡ position (λ (p : Pending). nat_lt deadline p.deadline) sorted
    → IsPartitionPoint (λ (p : Pending). p.deadline ≤ deadline) (λ (p : Pending). deadline < p.deadline) sorted (unwrap_or found (length sorted))
later_behind sorted deadline rise (Some place) e =
    let at : (d : Pending) → (place < length sorted) × (is_later deadline (get_or sorted place d) ≡ true) × ((k : ℕ) → k < place → is_later deadline (get_or sorted k d) ≡ false) =
    λ d. position-Some (is_later deadline) sorted place d (sym e) in (
      λ k d _ less. not_later deadline (get_or sorted k d) ((at d).2 k less),
      λ k d past small. elim (cases_order place k) [
        | inl same ↦ subst (λ i. deadline < (get_or sorted i d).deadline) same (later deadline (get_or sorted place d) (at d).1)
        | inr other ↦ elim other [
          | inl first ↦ omega (arith, later deadline (get_or sorted place d) (at d).1, rise place k d first small)
          | inr last ↦ absurd (omega (arith, past, last))
        ]
      ],
    )
later_behind sorted deadline rise None e = (λ k d _ less. not_later deadline (get_or sorted k d) (none_passes (is_later deadline) sorted (sym e) k d less), λ k d past small. absurd (omega (arith, past, small)))

pub later_within : (sorted : List Pending) (deadline : ℕ) (found : Option ℕ) → found ≡ position (λ (p : Pending). nat_lt deadline p.deadline) sorted → unwrap_or found (length sorted) ≤ length sorted
later_within sorted deadline (Some place) e =
    let at : (place < length sorted) × (is_later deadline (get_or sorted place nothing) ≡ true) × ((k : ℕ) → k < place → is_later deadline (get_or sorted k nothing) ≡ false) =
    position-Some (is_later deadline) sorted place nothing (sym e) in omega (arith, at.0)
later_within sorted deadline None e = omega arith

-- An order that lists each agent once has one place for it.
one_place : (order : List ℕ) → AllPairs (λ a b. a ≢ b) order → (p q agent : ℕ) → slice_get order p ≡ Some agent → slice_get order q ≡ Some agent → p ≡ q
one_place order once p q agent here there =
    let same : get_or order p 0 ≡ get_or order q 0 = get_or_from_slice_get order p agent 0 here ∙ sym (get_or_from_slice_get order q agent 0 there) in
    elim (cases_order p q) [
      | inl is ↦ is
      | inr other ↦ elim other [ inl first ↦ absurd (once p q 0 first (slice_get_within order q agent there) same) | inr last ↦ absurd (once q p 0 last (slice_get_within order p agent here) (sym same)) ]
    ]

-- The least place of the first n agents; behind all places where n is 0
pub record IsLeast (due : List Pending) (order : List ℕ) (n least : ℕ) : Type 0 where
  pub none : n ≡ 0 → least ≡ length order
  pub one : 0 < n → (k : ℕ) × (k < n) × ((d : Pending) → slice_get order least ≡ Some (get_or due k d).agent)
  pub first : (k p : ℕ) (d : Pending) → k < n → slice_get order p ≡ Some (get_or due k d).agent → least ≤ p

pub least_of_none : (due : List Pending) (order : List ℕ) → IsLeast due order 0 (length order)
least_of_none due order = record { none = λ _. refl; one = λ some. absurd (omega (arith, some)); first = λ k p d small _. absurd (omega (arith, small)) }

module _ (due : List Pending) (order : List ℕ) (n least place : ℕ) (h : IsLeast due order n least) (at : (d : Pending) → slice_get order place ≡ Some (get_or due n d).agent) where
  some_before : least < place → 0 < n
  some_before less = elim (cases_eq n 0) [
    | inl zero ↦ absurd (omega (arith, less, h.none zero, slice_get_within order place (get_or due n nothing).agent (at nothing)))
    | inr other ↦ omega (arith, other)
  ]

  pub least_more : AllPairs (λ a b. a ≢ b) order → IsLeast due order (n + 1) (min least place)
  least_more once = record {
    none = λ e. absurd (omega (arith, e));
    one = λ _. elim (cases_lt least place) [
      | inl less ↦ (let o = h.one (some_before less) in (o.0, omega (arith, o.1), λ d. ap (slice_get order) (min-eq_left (omega (arith, less))) ∙ o.2 d))
      | inr more ↦ (n, omega arith, λ d. ap (slice_get order) (min-eq_right more) ∙ at d)
    ];
    first = λ k p d small here. elim (cases_eq k n) [
      | inl same ↦ (let is : p ≡ place = one_place order once p place (get_or due n d).agent (here ∙ ap (λ (i : ℕ). Some (get_or due i d).agent) same) (at d) in omega (arith, is, min-le_right least place))
      | inr other ↦ omega (arith, min-le_left least place, h.first k p d (omega (arith, small, other)) here)
    ];
  }

pub least_is_first : (due : List Pending) (order : List ℕ) (n least : ℕ) → IsLeast due order n least → n ≡ length due → 0 < length due → IsFirstPlace due order least
least_is_first due order n least h all some =
    let o = h.one (omega (arith, all, some)) in
    let less : o.0 < length due = omega (arith, o.1, all) in
    record {
      one = get_or due o.0 nothing;
      among = (o.0, less, get_or_default due o.0 (get_or due o.0 nothing) nothing less);
      at = o.2 nothing;
      first = λ p other has here. h.first has.0 p other (omega (arith, has.1, all)) (here ∙ ap (λ (q : Pending). Some q.agent) (sym has.2));
    }
