-- How many elements of a list pass a test.
use Rattle.std.proofs.Common.{◌≡◌, ◌+◌, ◌≤◌, Bool, true, List, [], ◌∷◌, length, length-append, refl, ap, ◌∙◌, inl, inr, arith}
use Rattle.std.specs.Prelude.{filter}
use Rattle.std.specs.List.{Contains}
use Rattle.std.proofs.lemmas.Bool.{cases_Bool}
use Rattle.std.proofs.lemmas.List.Elements.{filter-append}
use Rattle.psy_base.specs.declared.message.Message.{Message}
use Rattle.psy_lists.proofs.lemmas.Members.{contains_front, contains_behind, filter_from}
use Rattle.psy_queue.specs.Order.{comes_before, put_in_order}
use Rattle.psy_history.specs.Visible.{in_order}

-- ---- two tests

-- None does, where none of the elements may
pub filter_none : {X : Type 0} (p : X → Bool) (xs : List X) → ((x : X) → Contains xs x → p x ≡ true → ⊥) → length (filter p xs) ≡ 0
filter_none {X = X} p xs none = from (filter p xs) (λ x c. filter_from p xs x c)
  where
    from : (ys : List X) → ((x : X) → Contains ys x → Contains xs x × (p x ≡ true)) → length ys ≡ 0
    from [] within = refl
    from (y ∷ ys) within = (let (there, passes) = within y (contains_front y ys) in absurd (none y there passes))

-- No more than pass another, where each that passes this one does
pub filter_fewer : {X : Type 0} (p q : X → Bool) (xs : List X) → ((x : X) → Contains xs x → p x ≡ true → q x ≡ true) → length (filter p xs) ≤ length (filter q xs)
filter_fewer p q [] weaker = omega arith
filter_fewer p q (x ∷ xs) weaker =
    let rest = filter_fewer p q xs (λ y c. weaker y (contains_behind x xs y c)) in
    elim (cases_Bool (p x)) [
      | inl passes ↦ (let also = weaker x (contains_front x xs) passes in rw passes (rw also (omega (arith, rest))))
      | inr fails ↦ elim (cases_Bool (q x)) [
        | inl also ↦ rw fails (rw also (omega (arith, rest)))
        | inr not ↦ rw fails (rw not rest)
      ]
    ]

-- ---- of messages in order

module _ (p : Message → Bool) where
  passing : (m : Message) (ms : List Message) → length (filter p (m ∷ ms)) ≡ length (filter p (m ∷ [])) + length (filter p ms)
  passing m ms = ap length (filter-append p (m ∷ []) ms) ∙ length-append (filter p (m ∷ [])) (filter p ms)

  passing_put : (m : Message) (ns : List Message) → length (filter p (put_in_order m ns)) ≡ length (filter p (m ∷ ns))
  passing_put m [] = refl
  passing_put m (n ∷ ns) = elim (cases_Bool (comes_before m n)) [
    | inl before ↦ rw before refl
    | inr behind ↦ rw behind (omega (arith, passing n (put_in_order m ns), passing_put m ns, passing m ns, passing m (n ∷ ns), passing n ns))
  ]

  -- as many as in any order
  pub passing_ordered : (ms : List Message) → length (filter p (in_order ms)) ≡ length (filter p ms)
  passing_ordered [] = refl
  passing_ordered (m ∷ ms) = omega (arith, passing_put m (in_order ms), passing m (in_order ms), passing_ordered ms, passing m ms)
