-- The pending agent of least deadline that stands first in an order.
use Rattle.std.proofs.Common.{◌≡◌, ◌⊎◌, ℕ, ◌<◌, ◌≤◌, List, length, get_or, slice_get, take, Option, Some, refl, sym, ap, ◌∙◌, subst, inl, inr, arith}
use Rattle.std.proofs.lemmas.Bool.{cases_order, cases_lt, cases_eq}
use Rattle.std.proofs.lemmas.Option.{slice_get-get_or, get_or_from_slice_get}
use Rattle.std.proofs.lemmas.List.{get_or_default, get_or-take, length-take-le}
use Rattle.std.specs.List.{All, Contains}
use Rattle.std.specs.List.Sorted.{IsPartitionPoint}
use Rattle.psy_ready.specs.declared.ready.Pending.{Pending}
use Rattle.psy_ready.specs.Choice.{IsPick, ListsEach, NoLater, pending_deadline}
use Rattle.psy_ready.specs.Standing.{AreSorted, IsFirstPlace}
use Rattle.psy_ready.proofs.Sorts.{inside_where}

module _ (deadlines : List (Option ℕ)) (sorted : List Pending) (is : AreSorted deadlines sorted) where
  module _ (order : List ℕ) (lists : ListsEach (length deadlines) order) (f : Pending) (some : 0 < length sorted) (at : (d : Pending) → get_or sorted 0 d ≡ f) where
    first_pends : pending_deadline deadlines f.agent ≡ Some f.deadline
    first_pends = subst (λ (p : Pending). pending_deadline deadlines p.agent ≡ Some p.deadline) (at f) (is.pending 0 f some)

    standing : Contains order f.agent
    standing = lists.each f.agent (inside_where deadlines f.agent f.deadline first_pends)

    stands : slice_get order standing.0 ≡ Some f.agent
    stands = slice_get-get_or order standing.0 f.agent standing.1 ∙ ap (λ (a : ℕ). Some a) standing.2

    -- a pending agent is the first one listed, or stands behind it
    listed : (P : Pending → Type 0) → P f → ((k : ℕ) (d : Pending) → 0 < k → k < length sorted → P (get_or sorted k d)) → (a d : ℕ) → pending_deadline deadlines a ≡ Some d → P (record { agent = a; deadline = d })
    listed P here behind a d due =
        let x : Pending = record { agent = a; deadline = d } in
        let has : Contains sorted x = is.each a d due in
        elim (cases_eq has.0 0) [
          | inl same ↦ subst P (sym (at x) ∙ ap (λ k. get_or sorted k x) (sym same) ∙ has.2) here
          | inr other ↦ subst P has.2 (behind has.0 x (omega (arith, other)) has.1)
        ]

    least : (a d : ℕ) → pending_deadline deadlines a ≡ Some d → f.deadline ≤ d
    least = listed (λ (p : Pending). f.deadline ≤ p.deadline) (omega arith) (λ k d more less. subst (λ (p : Pending). p.deadline ≤ (get_or sorted k d).deadline) (at d) (is.rise 0 k d more less))

    -- no place before it has the agent
    no_earlier : (p a : ℕ) → slice_get order p ≡ Some a → a ≡ f.agent → standing.0 ≤ p
    no_earlier p a here same = elim (cases_lt p standing.0) [
      | inl less ↦ absurd (lists.once p standing.0 f.agent less standing.1 (get_or_from_slice_get order p a f.agent here ∙ same ∙ sym standing.2))
      | inr more ↦ more
    ]

    -- It is due before all others.
    pub pick_alone : ((k : ℕ) (d : Pending) → 0 < k → k < length sorted → f.deadline < (get_or sorted k d).deadline) → IsPick deadlines order f.agent
    pick_alone later = record {
      place = standing.0;
      deadline = f.deadline;
      at = stands;
      is_pending = first_pends;
      first = λ p a d here due. listed (λ (x : Pending). slice_get order p ≡ Some x.agent → NoLater standing.0 f.deadline p x.deadline) (λ there. inr (refl, no_earlier p f.agent there refl))
          (λ k e more less _. inl (later k e more less)) a d due here;
    }

    -- those up to where it is that are due then
    module _ (k : ℕ) (point : IsPartitionPoint (λ (p : Pending). p.deadline ≤ f.deadline) (λ (p : Pending). f.deadline < p.deadline) sorted k) (within : k ≤ length sorted) where
      abbrev due_first : List Pending
      due_first = take k sorted

      -- the place among all of one that is due then
      in_sorted : (p : Pending) (has : Contains due_first p) → (has.0 < k) × (get_or sorted has.0 p ≡ p)
      in_sorted p has =
          let less : has.0 < k = omega (arith, has.1, length-take-le k sorted within) in
          (less, sym (get_or-take k sorted has.0 p less) ∙ has.2)

      pends : (p : Pending) → Contains due_first p → pending_deadline deadlines p.agent ≡ Some p.deadline
      pends p has =
          let there = in_sorted p has in
          subst (λ (q : Pending). pending_deadline deadlines q.agent ≡ Some q.deadline) there.1 (is.pending has.0 p (omega (arith, there.0, within)))

      same_due : (p : Pending) → Contains due_first p → p.deadline ≡ f.deadline
      same_due p has =
          let there = in_sorted p has in
          let no_later : p.deadline ≤ f.deadline = subst (λ (q : Pending). q.deadline ≤ f.deadline) there.1 (point.0 has.0 p (omega arith) there.0) in
          omega (arith, no_later, least p.agent p.deadline (pends p has))

      -- one that is due then is among them
      in_front : (a d : ℕ) → pending_deadline deadlines a ≡ Some d → f.deadline ≡ d → Contains due_first (record { agent = a; deadline = d })
      in_front a d due same =
          let x : Pending = record { agent = a; deadline = d } in
          let has : Contains sorted x = is.each a d due in
          elim (cases_lt has.0 k) [
            | inl less ↦ (has.0, omega (arith, less, length-take-le k sorted within), get_or-take k sorted has.0 x less ∙ has.2)
            | inr past ↦ absurd (let later : f.deadline < d = subst (λ (q : Pending). f.deadline < q.deadline) has.2 (point.1 has.0 x past has.1) in omega (arith, later, same))
          ]

      -- The order lists each of them.
      pub each_listed : All (λ (p : Pending). Contains order p.agent) due_first
      each_listed j d less = lists.each (get_or due_first j d).agent (inside_where deadlines (get_or due_first j d).agent (get_or due_first j d).deadline
          (pends (get_or due_first j d) (j, less, get_or_default due_first j (get_or due_first j d) d less)))

      -- The first of them in the order is picked.
      pub pick_first : (place : ℕ) → IsFirstPlace due_first order place → IsPick deadlines order (get_or order place 0)
      pick_first place h =
          let agent : get_or order place 0 ≡ h.one.agent = get_or_from_slice_get order place h.one.agent 0 h.at in
          record {
            place = place;
            deadline = f.deadline;
            at = h.at ∙ ap (λ (a : ℕ). Some a) (sym agent);
            is_pending = ap (pending_deadline deadlines) agent ∙ pends h.one h.among ∙ ap (λ (d : ℕ). Some d) (same_due h.one h.among);
            first = λ p a d here due. elim (cases_order f.deadline d) [
              | inl same ↦ inr (same, h.first p (record { agent = a; deadline = d }) (in_front a d due same) here)
              | inr other ↦ elim other [ inl first ↦ inl first | inr last ↦ absurd (omega (arith, last, least a d due)) ]
            ];
          }

-- The first of those listed is picked where it is alone, or the next one is due later.
pub pick_front : (deadlines : List (Option ℕ)) (sorted : List Pending) (order : List ℕ) (nothing : Pending) → AreSorted deadlines sorted → ListsEach (length deadlines) order → 0 < length sorted
    → (length sorted ≡ 1) ⊎ ((get_or sorted 0 nothing).deadline < (get_or sorted 1 nothing).deadline) → IsPick deadlines order (get_or sorted 0 nothing).agent
pick_front deadlines sorted order nothing is lists some alone =
    let f : Pending = get_or sorted 0 nothing in
    pick_alone deadlines sorted is order lists f some (λ d. get_or_default sorted 0 d nothing some) (λ k d more less. elim alone [
      | inl one ↦ absurd (omega (arith, one, more, less))
      | inr later ↦
          let next : f.deadline < (get_or sorted 1 d).deadline = subst (λ (p : Pending). f.deadline < p.deadline) (get_or_default sorted 1 nothing d (omega (arith, more, less))) later in
          elim (cases_order k 1) [
            | inl same ↦ subst (λ j. f.deadline < (get_or sorted j d).deadline) (sym same) next
            | inr other ↦ elim other [
              | inl first ↦ absurd (omega (arith, first, more))
              | inr last ↦ (let rises : (get_or sorted 1 d).deadline ≤ (get_or sorted k d).deadline = is.rise 1 k d last less in omega (arith, next, rises))
            ]
          ]
    ])
