-- Which of some actions is due first.
use Rattle.std.proofs.Common.{◌≡◌, ◌∙◌, ◌⊎◌, refl, ap, subst, ◌<◌, ◌≤◌, true, false, cond, List, [], ◌∷◌, Some, None, inl, inr, nat_le, le_of_eq, le_of_lt, le_trans}
use Rattle.std.specs.List.{Contains}
use Rattle.std.proofs.lemmas.Bool.{cases_Bool, leb-false, leb-true}
use Rattle.psy_lists.proofs.lemmas.Members.{contains_behind, contains_front, contains_none, front_or_behind}
use Rattle.psy_audit.specs.declared.said.Act.{Act}
use Rattle.psy_audit.specs.Turns.{soonest_of, sooner_of}

-- One of some actions that is due no later than any
pub record IsSoonest (xs : List Act) (a : Act) : Type 0 where
  pub is : soonest_of xs ≡ Some a
  pub there : Contains xs a
  pub least : (b : Act) → Contains xs b → a.due ≤ b.due

-- One action alone
alone : (x : Act) (xs : List Act) → soonest_of xs ≡ None → xs ≡ [] → IsSoonest (x ∷ xs) x
alone x xs none empty = record {
  is = ap (sooner_of x) none;
  there = contains_front x xs;
  least = λ b c. elim (front_or_behind x xs b c) [
    | inl e ↦ le_of_eq (ap (λ (a : Act). a.due) e)
    | inr rest ↦ absurd (contains_none b (subst (λ l. Contains l b) empty rest))
  ];
}

-- The first of two
before_others : (x a : Act) (xs : List Act) → IsSoonest xs a → x.due ≤ a.due → nat_le x.due a.due ≡ true → IsSoonest (x ∷ xs) x
before_others x a xs s less test = record {
  is = ap (sooner_of x) s.is ∙ ap (λ b. cond b (Some x) (Some a)) test;
  there = contains_front x xs;
  least = λ b c. elim (front_or_behind x xs b c) [
    | inl e ↦ le_of_eq (ap (λ (a : Act). a.due) e)
    | inr rest ↦ le_trans less (s.least b rest)
  ];
}

-- The one behind
behind_one : (x a : Act) (xs : List Act) → IsSoonest xs a → a.due < x.due → nat_le x.due a.due ≡ false → IsSoonest (x ∷ xs) a
behind_one x a xs s less test = record {
  is = ap (sooner_of x) s.is ∙ ap (λ b. cond b (Some x) (Some a)) test;
  there = contains_behind x xs a s.there;
  least = λ b c. elim (front_or_behind x xs b c) [
    | inl e ↦ subst (λ (y : Act). a.due ≤ y.due) e (le_of_lt less)
    | inr rest ↦ s.least b rest
  ];
}

-- With one more, there is one.
with_one : (x : Act) (xs : List Act) → ((soonest_of xs ≡ None) × (xs ≡ [])) ⊎ ((a : Act) × IsSoonest xs a) → (a : Act) × IsSoonest (x ∷ xs) a
with_one x xs (inl none) = (x, alone x xs none.0 none.1)
with_one x xs (inr (a, s)) = elim (cases_Bool (nat_le x.due a.due)) [
  | inl passed ↦ (x, before_others x a xs s (leb-true x.due a.due passed) passed)
  | inr failed ↦ (a, behind_one x a xs s (leb-false x.due a.due failed) failed)
]

-- There is none of none, and one of others.
pub soonest_is : (xs : List Act) → ((soonest_of xs ≡ None) × (xs ≡ [])) ⊎ ((a : Act) × IsSoonest xs a)
soonest_is [] = inl (refl, refl)
soonest_is (x ∷ xs) = inr (with_one x xs (soonest_is xs))

-- So there is one where there is an action.
pub there_is : (xs : List Act) (b : Act) → Contains xs b → (a : Act) × IsSoonest xs a
there_is xs b c = elim (soonest_is xs) [
  | inl none ↦ absurd (contains_none b (subst (λ l. Contains l b) none.1 c))
  | inr one ↦ one
]
