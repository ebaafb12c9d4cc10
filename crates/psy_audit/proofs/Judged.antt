-- The first fault of a trace, as its lines are judged one by one.
use Rattle.std.proofs.Common.{◌≡◌, ◌∙◌, sym, ap, ℕ, suc, ◌+◌, ◌<◌, ◌≤◌, Bool, true, false, cond, not, [], ◌∷◌, ◌++◌, length, get_or, take, drop, Option, Some, None, inl, inr, arith}
use Rattle.std.specs.List.{list_any}
use Rattle.std.proofs.lemmas.Bool.{cases_Bool}
use Rattle.std.proofs.lemmas.List.{drop_all, length-take, take-append-drop, take_all, take_more}
use Rattle.psy_lists.proofs.lemmas.Places.{drop_read}
use Rattle.psy_tree.specs.declared.unit.Unit.{Unit as Whole}
use Rattle.psy_audit.specs.Answers.{fault_at}
use Rattle.psy_audit.specs.Befores.{StandsFor}
use Rattle.psy_audit.specs.declared.before.Before.{Before}
use Rattle.psy_audit.specs.declared.said.Said.{Said}
use Rattle.psy_audit.specs.declared.said.Said.TheVariants.{Ended}
use Rattle.psy_audit.specs.Faults.{comes_behind, fault_in, fault_of, fault_or, first_behind, first_fault, has_names}
use Rattle.psy_audit.specs.Traces.{Judged, Lines, body, is_end, last_of}
use Rattle.psy_audit.proofs.Befores.{body_before}

-- A line without fault stands behind none that ends the trace.
pub not_ended : (j : Judged) (all before : Lines) (line : Option Said) → fault_of j all before line ≡ None → list_any is_end before ≡ false
not_ended j all before None sound = absurd cc
not_ended j all before (Some said) sound = elim (cases_Bool (list_any is_end before)) [
  | inl ended ↦ absurd (ends (list_any is_end before) ended sound)
  | inr not_yet ↦ not_yet
]
  where
    ends : (b : Bool) → b ≡ true → cond b (Some 1) (cond (not (has_names j said)) (Some 2) (cond (not (comes_behind (last_of before) said)) (Some 3) (fault_in j all before said))) ≡ None → ⊥
    ends true is sound = absurd cc
    ends false is sound = absurd cc

module _ (j : Judged) (all : Lines) (i : ℕ) (line : Option Said) (l : i < length all) (is : line ≡ get_or all i line)
    (judged : first_fault j all ≡ first_behind j all (take i all) (drop i all)) where
  pub passed : take (i + 1) all ≡ take i all ++ line ∷ []
  passed = take_more all i line l ∙ ap (λ x. take i all ++ x ∷ []) (sym is)

  -- What stands for those before and for it stands for one more.
  pub stands_more : {unit : Whole} {b : Before} → StandsFor unit (take i all ++ line ∷ []) b → StandsFor unit (take (i + 1) all) b
  stands_more s = rw passed s

  count : length (take i all) ≡ i
  count = let few : i ≤ length all = omega (arith, l) in omega (arith, length-take i all, few)

  here : first_fault j all ≡ fault_or (fault_of j all (take i all) line) (suc i) (first_behind j all (take (i + 1) all) (drop (i + 1) all))
  here =
      judged ∙ ap (first_behind j all (take i all)) (drop_read all i line l is)
      ∙ ap (λ n. fault_or (fault_of j all (take i all) line) (suc n) (first_behind j all (take i all ++ line ∷ []) (drop (i + 1) all))) count
      ∙ ap (λ b. fault_or (fault_of j all (take i all) line) (suc i) (first_behind j all b (drop (i + 1) all))) (sym passed)

  -- One more line without fault
  pub judged_more : fault_of j all (take i all) line ≡ None → first_fault j all ≡ first_behind j all (take (i + 1) all) (drop (i + 1) all)
  judged_more sound = here ∙ ap (λ o. fault_or o (suc i) (first_behind j all (take (i + 1) all) (drop (i + 1) all))) sound

  -- A line with a fault
  pub judged_fault : (number : ℕ) → fault_of j all (take i all) line ≡ Some number → first_fault j all ≡ Some (fault_at number (i + 1))
  judged_fault number wrong =
      let next : suc i ≡ i + 1 = omega arith in
      here ∙ ap (λ o. fault_or o (suc i) (first_behind j all (take (i + 1) all) (drop (i + 1) all))) wrong ∙ ap (λ n. Some (fault_at number n)) next

  -- The lines before one that ends the trace are all that count.
  pub counted_before : line ≡ Some Ended → list_any is_end (take i all) ≡ false → body all ≡ take i all
  counted_before ends before =
      let whole : all ≡ take i all ++ Some Ended ∷ drop (i + 1) all =
      sym (take-append-drop i all) ∙ ap (λ xs. take i all ++ xs) (drop_read all i line l is) ∙ ap (λ x. take i all ++ x ∷ drop (i + 1) all) ends in
      ap body whole ∙ body_before (take i all) (drop (i + 1) all) before

-- No line is left.
pub judged_all : (j : Judged) (all : Lines) (i : ℕ) → length all ≤ i → first_fault j all ≡ first_behind j all (take i all) (drop i all)
    → first_fault j all ≡ cond (list_any is_end all) None (Some (fault_at 1 (length all + 1)))
judged_all j all i most judged =
    let whole : take i all ≡ all = take_all i all most in
    let none : drop i all ≡ [] = drop_all i all most in
    let next : suc (length all) ≡ length all + 1 = omega arith in
    judged ∙ ap (first_behind j all (take i all)) none ∙ ap (λ b. first_behind j all b []) whole
    ∙ ap (λ n. cond (list_any is_end all) None (Some (fault_at 1 n))) next
