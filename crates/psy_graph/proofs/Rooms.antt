-- Places in order, and where another one stands among them.
use Rattle.std.proofs.Common.{◌≡◌, ◌⊎◌, ℕ, zero, suc, ◌+◌, ◌-◌, ◌<◌, ◌≤◌, List, [], ◌∷◌, length, get_or, sym, ap, subst, ◌∙◌, inl, inr, Some, arith}
use Rattle.std.specs.List.{AllPairs, Contains, insert, slice_get}
use Rattle.std.proofs.lemmas.Bool.{cases_lt, cases_order}
use Rattle.std.proofs.lemmas.Option.{slice_get-get_or}
use Rattle.std.proofs.lemmas.List.{get_or_default}
use Rattle.std.proofs.lemmas.List.Edits.{length-insert, get_or-insert_below, get_or-insert_at, get_or-insert_above}
use Rattle.psy_graph.specs.declared.place.Place.{Place}
use Rattle.psy_graph.specs.Places.{Before, IsSought, IsRoom}

abbrev place : ℕ → ℕ → Place
place point phase = record { point = point; phase = phase }

pub same_place : (a b : Place) → a.point ≡ b.point → a.phase ≡ b.phase → a ≡ b
same_place a b e f = ap (λ n. place n a.phase) e ∙ ap (λ n. place b.point n) f

pub before_self : (a : Place) → Before a a → ⊥
before_self a h = elim h [ inl l ↦ omega (arith, l) | inr l ↦ omega (arith, l.1) ]

pub before_chain : (a b c : Place) → Before a b → Before b c → Before a c
before_chain a b c h k = elim h [
  | inl l ↦ elim k [ inl m ↦ inl (omega (arith, l, m)) | inr m ↦ inl (omega (arith, l, m.0)) ]
  | inr l ↦ elim k [ inl m ↦ inl (omega (arith, l.0, m)) | inr m ↦ inr (l.0 ∙ m.0, omega (arith, l.1, m.1)) ]
]

pub order : (a b : Place) → Before a b ⊎ ((a ≡ b) ⊎ Before b a)
order a b = elim (cases_order a.point b.point) [
  | inl e ↦ elim (cases_order a.phase b.phase) [
    | inl f ↦ inr (inl (same_place a b e f))
    | inr h ↦ elim h [ inl l ↦ inl (inr (e, l)) | inr l ↦ inr (inr (inr (sym e, l))) ]
  ]
  | inr h ↦ elim h [ inl l ↦ inl (inl l) | inr l ↦ inr (inr (inl l)) ]
]

before_at : (a b c d : Place) → c ≡ a → d ≡ b → Before a b → Before c d
before_at a b c d e f h = subst (λ p. Before p d) (sym e) (subst (λ q. Before a q) (sym f) h)

module _ (places : List Place) (p : Place) (at : ℕ) (within : at ≤ length places) where
  below : (i : ℕ) (d : Place) → i < at → get_or (insert places at p) i d ≡ get_or places i d
  below i d l = get_or-insert_below places at p d i l within

  there : (i : ℕ) (d : Place) → i ≡ at → get_or (insert places at p) i d ≡ p
  there i d e = ap (λ n. get_or (insert places at p) n d) e ∙ get_or-insert_at places at p d within

  above : (i : ℕ) (d : Place) → at < i → get_or (insert places at p) i d ≡ get_or places (i - 1) d
  above i d l =
      let e : i ≡ i - 1 + 1 = omega (arith, l) in
      ap (λ n. get_or (insert places at p) n d) e ∙ get_or-insert_above places at p d (i - 1) (omega (arith, l)) within

-- A place put into its room leaves the order.
pub room_rise : (places : List Place) (p : Place) (at : ℕ) → AllPairs Before places → IsRoom places p at → AllPairs Before (insert places at p)
room_rise places p at rise room i j d ij jl =
    let w = room.within in
    let len : length (insert places at p) ≡ length places + 1 = length-insert places at p w in
    let new = insert places at p in
    elim (cases_order j at) [
      | inl e ↦ before_at (get_or places i d) p (get_or new i d) (get_or new j d) (below places p at w i d (omega (arith, ij, e))) (there places p at w j d e) (room.below i d (omega (arith, ij, e)))
      | inr h ↦ elim h [
        | inl l ↦ before_at (get_or places i d) (get_or places j d) (get_or new i d) (get_or new j d) (below places p at w i d (omega (arith, ij, l))) (below places p at w j d l) (rise i j d ij (omega (arith, l, w)))
        | inr l ↦ elim (cases_order i at) [
          | inl e ↦ before_at p (get_or places (j - 1) d) (get_or new i d) (get_or new j d) (there places p at w i d e) (above places p at w j d l) (room.above (j - 1) d (omega (arith, l)) (omega (arith, jl, len, l)))
          | inr k ↦ elim k [
            | inl m ↦ before_at (get_or places i d) (get_or places (j - 1) d) (get_or new i d) (get_or new j d) (below places p at w i d m) (above places p at w j d l) (rise i (j - 1) d (omega (arith, l, m)) (omega (arith, jl, len, l)))
            | inr m ↦ before_at (get_or places (i - 1) d) (get_or places (j - 1) d) (get_or new i d) (get_or new j d) (above places p at w i d m) (above places p at w j d l) (rise (i - 1) (j - 1) d (omega (arith, ij, m)) (omega (arith, jl, len, l)))
          ]
        ]
      ]
    ]

-- A place that the search didn't meet has its room where the search ended.
pub room_sought : (places : List Place) (p : Place) (at : ℕ) → AllPairs Before places → IsSought places p at → (slice_get places at ≡ Some p → ⊥) → IsRoom places p at
room_sought places p at rise sought other = record {
  within = sought.within;
  below = sought.below;
  above = λ i d ai il. elim (order (get_or places i d) p) [
    | inl b ↦ absurd (sought.above i d ai il b)
    | inr h ↦ elim h [
      | inl e ↦ elim (cases_lt at i) [
        | inl l ↦ absurd (sought.above at d (omega arith) (omega (arith, l, il)) (subst (λ q. Before (get_or places at d) q) e (rise at i d l il)))
        | inr l ↦ absurd (other (ap (slice_get places) (omega (arith, ai, l)) ∙ slice_get-get_or places i d il ∙ ap Some e))
      ]
      | inr b ↦ b
    ]
  ];
}

pub contains_behind : (x : Place) (xs : List Place) (p : Place) → Contains xs p → Contains (x ∷ xs) p
contains_behind x xs p c = (suc c.0, omega (arith, c.1), c.2)

rise_behind : (x : Place) (xs : List Place) → AllPairs Before (x ∷ xs) → AllPairs Before xs
rise_behind x xs rise i j d ij jl = rise (suc i) (suc j) d (omega (arith, ij)) (omega (arith, jl))

room_front : (x : Place) (xs : List Place) (p : Place) → AllPairs Before (x ∷ xs) → Before p x → (i : ℕ) (d : Place) → i < length (x ∷ xs) → Before p (get_or (x ∷ xs) i d)
room_front x xs p rise b zero d l = b
room_front x xs p rise b (suc i) d l = before_chain p x (get_or xs i d) b (rise 0 (suc i) d (omega arith) l)

room_below : (x : Place) (xs : List Place) (p : Place) (at : ℕ) → Before x p → IsRoom xs p at → (i : ℕ) (d : Place) → i < suc at → Before (get_or (x ∷ xs) i d) p
room_below x xs p at b room zero d l = b
room_below x xs p at b room (suc i) d l = room.below i d (omega (arith, l))

room_above : (x : Place) (xs : List Place) (p : Place) (at : ℕ) → IsRoom xs p at → (i : ℕ) (d : Place) → suc at ≤ i → i < length (x ∷ xs) → Before p (get_or (x ∷ xs) i d)
room_above x xs p at room zero d a l = absurd (omega (arith, a))
room_above x xs p at room (suc i) d a l = room.above i d (omega (arith, a)) (omega (arith, l))

room_behind : (x : Place) (xs : List Place) (p : Place) (at : ℕ) → Before x p → IsRoom xs p at → IsRoom (x ∷ xs) p (suc at)
room_behind x xs p at b room = record {
  within = omega (arith, room.within);
  below = room_below x xs p at b room;
  above = room_above x xs p at room;
}

-- A place is among others in order, or has a room among them.
pub room_for : (places : List Place) (p : Place) → AllPairs Before places → Contains places p ⊎ ((at : ℕ) × IsRoom places p at)
room_for [] p rise = inr (0, record { within = omega arith; below = λ i d l. absurd (omega (arith, l)); above = λ i d a l. absurd (omega (arith, l)) })
room_for (x ∷ xs) p rise = elim (order x p) [
  | inl b ↦ elim (room_for xs p (rise_behind x xs rise)) [
    | inl c ↦ inl (contains_behind x xs p c)
    | inr r ↦ inr (suc r.0, room_behind x xs p r.0 b r.1)
  ]
  | inr h ↦ elim h [
    | inl e ↦ inl (0, omega arith, e)
    | inr b ↦ inr (0, record { within = omega arith; below = λ i d l. absurd (omega (arith, l)); above = λ i d a l. room_front x xs p rise b i d l })
  ]
]

-- ---- the search

-- Where the place in the middle stands before the one that is sought, so do those up to it.
pub search_low : (places : List Place) (p : Place) (middle : ℕ) (d : Place) → AllPairs Before places → middle < length places → Before (get_or places middle d) p → (i : ℕ) (e : Place) → i < middle + 1 → Before (get_or places i e) p
search_low places p middle d rise l b i e il =
    let at : Before (get_or places middle e) p = subst (λ q. Before q p) (get_or_default places middle d e l) b in
    elim (cases_lt i middle) [
      | inl m ↦ before_chain (get_or places i e) (get_or places middle e) p (rise i middle e m l) at
      | inr m ↦ (let is : i ≡ middle = omega (arith, il, m) in subst (λ k. Before (get_or places k e) p) (sym is) at)
    ]

-- Where it doesn't, those behind it don't either.
pub search_high : (places : List Place) (p : Place) (middle : ℕ) (d : Place) → AllPairs Before places → middle < length places → (Before (get_or places middle d) p → ⊥) → (i : ℕ) (e : Place) → middle ≤ i → i < length places → Before (get_or places i e) p → ⊥
search_high places p middle d rise l other i e mi il b =
    let at : Before (get_or places middle e) p → ⊥ = λ h. other (subst (λ q. Before q p) (get_or_default places middle e d l) h) in
    elim (cases_lt middle i) [
      | inl m ↦ at (before_chain (get_or places middle e) (get_or places i e) p (rise middle i e m il) b)
      | inr m ↦ (let is : i ≡ middle = omega (arith, mi, m) in at (subst (λ k. Before (get_or places k e) p) is b))
    ]
