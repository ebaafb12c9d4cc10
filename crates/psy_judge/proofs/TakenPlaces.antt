-- The places that owners reach, as marks.
use Rattle.std.proofs.Common.{◌≡◌, ◌⊎◌, ℕ, zero, suc, ◌+◌, ◌<◌, ◌≤◌, Bool, true, false, not, List, length, get_or, refl, sym, ap, subst, ◌∙◌, inl, inr, arith, get_or-set_other, get_or-set_same}
use Rattle.std.specs.Prelude.{◌↔◌, nat_eq, replicate, slice_set}
use Rattle.std.specs.List.{Contains}
use Rattle.std.proofs.lemmas.Bool.{cases_lt, false≢true}
use Rattle.std.proofs.lemmas.List.{get_or_default, length-set}
use Rattle.std.proofs.lemmas.List.Elements.{Contains-get_or}
use Rattle.psy_code.specs.declared.code.Code.{Code}
use Rattle.psy_flow.specs.Owners.{Agent, Function, IsReached, Owner}
use Rattle.psy_judge.specs.Judged.{Judges}
use Rattle.psy_judge.specs.Judging.{AreReached, IsDone, IsTaken}
use Rattle.psy_judge.specs.Owned.{AreTaken}
use Rattle.psy_judge.proofs.JudgedBools.{judge_eq, known}

-- So many of the places are taken.
pub record AreTakenTo (places : List ℕ) (before : List Bool) (visited : ℕ) (now : List Bool) : Type 0 where
  pub size : length now ≡ length before
  pub kept : (place : ℕ) → get_or before place false ≡ true → get_or now place false ≡ true
  pub there : (k : ℕ) → k < visited → k < length places → get_or now (get_or places k 0) false ≡ true
  pub from : (place : ℕ) → get_or now place false ≡ true → (get_or before place false ≡ true) ⊎ Contains places place

pub taken_first : (places : List ℕ) (before : List Bool) → AreTakenTo places before 0 before
taken_first places before = record {
  size = refl;
  kept = λ place e. e;
  there = λ k less. absurd (omega (arith, less));
  from = λ place e. inl e;
}

set_here : (marks : List Bool) (at place : ℕ) → at < length marks → place ≡ at → get_or (slice_set marks at true) place false ≡ true
set_here marks at place less same = ap (λ p. get_or (slice_set marks at true) p false) same ∙ get_or-set_same marks at true false less

set_true : (marks : List Bool) (at place : ℕ) → at < length marks → get_or marks place false ≡ true → get_or (slice_set marks at true) place false ≡ true
set_true marks at place less e = elim (known (nat_eq place at) (judge_eq place at)) [
  | inl same ↦ set_here marks at place less same
  | inr other ↦ get_or-set_other marks at place true false other ∙ e
]

pub taken_more : (places : List ℕ) (before : List Bool) (visited : ℕ) (now : List Bool) → AreTakenTo places before visited now → visited < length places → get_or places visited 0 < length now
    → AreTakenTo places before (visited + 1) (slice_set now (get_or places visited 0) true)
taken_more places before visited now is within less = record {
  size = length-set now (get_or places visited 0) true ∙ is.size;
  kept = λ place e. set_true now (get_or places visited 0) place less (is.kept place e);
  there = λ k low inside. elim (cases_lt k visited) [
    | inl under ↦ set_true now (get_or places visited 0) (get_or places k 0) less (is.there k under inside)
    | inr past ↦ (let same : k ≡ visited = omega (arith, past, low) in set_here now (get_or places visited 0) (get_or places k 0) less (ap (λ j. get_or places j 0) same))
  ];
  from = λ place e. elim (known (nat_eq place (get_or places visited 0)) (judge_eq place (get_or places visited 0))) [
    | inl same ↦ inr (subst (Contains places) (sym same) (Contains-get_or places visited 0 within))
    | inr other ↦ is.from place (sym (get_or-set_other now (get_or places visited 0) place true false other) ∙ e)
  ];
}

pub taken_all : (places : List ℕ) (before : List Bool) (visited : ℕ) (now : List Bool) → AreTakenTo places before visited now → length places ≤ visited
    → (place : ℕ) → (get_or now place false ≡ true) ↔ ((get_or before place false ≡ true) ⊎ Contains places place)
taken_all places before visited now is all place = (
  is.from place,
  λ h. elim h [
    | inl old ↦ is.kept place old
    | inr (k, less, same) ↦ subst (λ p. get_or now p false ≡ true) (get_or_default places k 0 place less ∙ same) (is.there k (omega (arith, less, all)) less)
  ],
)

-- Whether no owner before reaches the place
pub alone_tells : (code : Code) (Done : Owner → Type 0) (marks : List Bool) (place : ℕ) (taken : Bool) → AreTaken code Done marks → place < length code.instrs → taken ≡ get_or marks place false
    → Judges (not taken) (IsTaken code Done place → ⊥)
alone_tells code Done marks place true are less e = λ none. none ((are.each place less).0 (sym e))
alone_tells code Done marks place false are less e = λ taken. false≢true (e ∙ (are.each place less).1 taken)

-- With one owner more
pub taken_with : (code : Code) (Done After : Owner → Type 0) (owner : Owner) (places : List ℕ) (before now : List Bool) → ((o : Owner) → After o → Done o ⊎ (o ≡ owner)) → ((o : Owner) → Done o → After o) → After owner
    → AreTaken code Done before → AreReached code owner places → length now ≡ length code.instrs
    → ((place : ℕ) → place < length code.instrs → (get_or now place false ≡ true) ↔ ((get_or before place false ≡ true) ⊎ Contains places place)) → AreTaken code After now
taken_with code Done After owner places before now on old new are reached size each = record {
  size = size;
  each = λ place less. (
    (λ e. elim ((each place less).0 e) [
      | inl was ↦ (let (other, done, reaches) = (are.each place less).0 was in (other, old other done, reaches))
      | inr has ↦ (owner, new, ((reached place).0 has).1)
    ]),
    (λ (other, after, reaches). (each place less).1 (elim (on other after) [
      | inl done ↦ inl ((are.each place less).1 (other, done, reaches))
      | inr same ↦ inr ((reached place).1 (less, subst (λ o. IsReached code o place) same reaches))
    ])),
  );
}

one_less : (n m : ℕ) → m < n + 1 → (m < n) ⊎ (m ≡ n)
one_less n m less = elim (cases_lt m n) [ inl under ↦ inl under | inr past ↦ inr (omega (arith, past, less)) ]

pub taken_function : (code : Code) (number : ℕ) (places : List ℕ) (before now : List Bool) → AreTaken code (IsDone number 0) before → AreReached code (Function number) places → length now ≡ length code.instrs
    → ((place : ℕ) → place < length code.instrs → (get_or now place false ≡ true) ↔ ((get_or before place false ≡ true) ⊎ Contains places place)) → AreTaken code (IsDone (number + 1) 0) now
taken_function code number places before now = taken_with code (IsDone number 0) (IsDone (number + 1) 0) (Function number) places before now on old (omega arith)
  where
    on : (o : Owner) → IsDone (number + 1) 0 o → IsDone number 0 o ⊎ (o ≡ Function number)
    on (Agent n) after = absurd (omega (arith, after))
    on (Function n) after = elim (one_less number n after) [ inl under ↦ inl under | inr same ↦ inr (ap Function same) ]

    old : (o : Owner) → IsDone number 0 o → IsDone (number + 1) 0 o
    old (Agent n) done = done
    old (Function n) done = omega (arith, done)

pub taken_agent : (code : Code) (functions number : ℕ) (places : List ℕ) (before now : List Bool) → AreTaken code (IsDone functions number) before → AreReached code (Agent number) places → length now ≡ length code.instrs
    → ((place : ℕ) → place < length code.instrs → (get_or now place false ≡ true) ↔ ((get_or before place false ≡ true) ⊎ Contains places place)) → AreTaken code (IsDone functions (number + 1)) now
taken_agent code functions number places before now = taken_with code (IsDone functions number) (IsDone functions (number + 1)) (Agent number) places before now on old (omega arith)
  where
    on : (o : Owner) → IsDone functions (number + 1) o → IsDone functions number o ⊎ (o ≡ Agent number)
    on (Agent n) after = elim (one_less number n after) [ inl under ↦ inl under | inr same ↦ inr (ap Agent same) ]
    on (Function n) after = inl after

    old : (o : Owner) → IsDone functions number o → IsDone functions (number + 1) o
    old (Agent n) done = omega (arith, done)
    old (Function n) done = done

pub taken_none : (code : Code) (marks : List Bool) → marks ≡ replicate (length code.instrs) false → AreTaken code (IsDone 0 0) marks
taken_none code marks same = record {
  size = ap length same ∙ count (length code.instrs);
  each = λ place less. ((λ e. absurd (false≢true (sym (none (length code.instrs) place) ∙ ap (λ (m : List Bool). get_or m place false) (sym same) ∙ e))), (λ (other, done, reaches). absurd (nobody other done)));
}
  where
    count : (n : ℕ) → length (replicate n false) ≡ n
    count zero = refl
    count (suc n) = ap suc (count n)

    none : (n p : ℕ) → get_or (replicate n false) p false ≡ false
    none zero p = refl
    none (suc n) zero = refl
    none (suc n) (suc p) = none n p

    nobody : (o : Owner) → IsDone 0 0 o → ⊥
    nobody (Agent n) done = omega (arith, done)
    nobody (Function n) done = omega (arith, done)
