-- What is wrong with a line, piece by piece.
use Rattle.std.proofs.Common.{◌≡◌, ◌∙◌, refl, sym, ap, ℕ, ◌+◌, ◌<◌, ◌==◌, Bool, true, false, cond, not, ◌&&◌, List, [], ◌∷◌, length, get_or, Option, Some, None, arith}
use Rattle.std.specs.List.{list_all, list_any, range_with_len}
use Rattle.std.proofs.lemmas.Bool.{ne_eqb}
use Rattle.std.proofs.lemmas.List.Folds.{list_all-append}
use Rattle.std.proofs.lemmas.List.FromFn.{get_or-map-range_with_len}
use Rattle.psy_lists.proofs.lemmas.Ranges.{range_more}
use Rattle.psy_tree.specs.declared.unit.Unit.{Unit as Whole}
use Rattle.psy_audit.specs.declared.before.Before.{Before}
use Rattle.psy_audit.specs.Befores.{StandsFor}
use Rattle.psy_audit.specs.Traces.{Lines, acts_of, last_of, publications_of}
use Rattle.psy_audit.proofs.Walks.{all_fails_at}

-- ---- the first three

-- What is found there is found whatever is behind.
pub head_some : (ended named behind : Bool) (rest : Option ℕ) (n : ℕ) → Some n ≡ cond ended (Some 1) (cond (not named) (Some 2) (cond (not behind) (Some 3) None))
    → Some n ≡ cond ended (Some 1) (cond (not named) (Some 2) (cond (not behind) (Some 3) rest))
head_some true named behind rest n e = e
head_some false false behind rest n e = e
head_some false true false rest n e = e
head_some false true true rest n e = absurd cc

-- Nothing is found there.
pub head_none : (ended named behind : Bool) (rest : Option ℕ) → ◌≡◌ {A = Option ℕ} None (cond ended (Some 1) (cond (not named) (Some 2) (cond (not behind) (Some 3) None)))
    → (ended ≡ false) × (named ≡ true) × (cond ended (Some 1) (cond (not named) (Some 2) (cond (not behind) (Some 3) rest)) ≡ rest)
head_none true named behind rest e = absurd cc
head_none false false behind rest e = absurd cc
head_none false true false rest e = absurd cc
head_none false true true rest e = (refl, refl, refl)

-- ---- what is kept

module _ (unit : Whole) (lines : Lines) (b : Before) (stands : StandsFor unit lines b) where
  pub act_before : (agent : ℕ) → agent < length unit.agents → get_or b.acts agent None ≡ last_of (acts_of agent lines)
  act_before agent less =
      ap (λ xs. get_or xs agent None) stands.acts ∙ get_or-map-range_with_len (λ a. last_of (acts_of a lines)) 0 (length unit.agents) agent agent None less (omega arith)

  pub number_before : (variable : ℕ) → variable < length unit.variables → get_or b.published variable 0 ≡ length (publications_of variable lines)
  number_before variable less =
      ap (λ xs. get_or xs variable 0) stands.published
      ∙ get_or-map-range_with_len (λ v. length (publications_of v lines)) 0 (length unit.variables) variable variable 0 less (omega arith)

-- ---- each of so many

module _ (p : ℕ → Bool) where
  pub each_more : (n : ℕ) → list_all p (range_with_len 0 n) ≡ true → p n ≡ true → list_all p (range_with_len 0 (n + 1)) ≡ true
  each_more n those this =
      ap (list_all p) (range_more n) ∙ list_all-append p (range_with_len 0 n) (n ∷ []) ∙ ap (λ b. b && (p n && true)) those ∙ ap (λ b. b && true) this

  pub each_fails : (n i : ℕ) → i < n → p i ≡ false → false ≡ list_all p (range_with_len 0 n)
  each_fails n i less failed = sym (all_fails_at p 0 n i i less (omega arith) failed)

-- There is one where there are not none.
pub any_some : {X : Type 0} (xs : List X) → not (length xs == 0) ≡ list_any (λ x. true) xs
any_some [] = refl
any_some (x ∷ xs) = ap not (ne_eqb (length (x ∷ xs)) 0 (λ e. absurd (omega (arith, e))))
