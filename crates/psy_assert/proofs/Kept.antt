-- Assertions that are kept, by what is summed up between their cuts.
use Rattle.std.proofs.Common.{◌≡◌, ◌∙◌, sym, ap, subst, ℕ, ℤ, Bool, true, false, ◌&&◌, not, List, get_or, is_some, Bor}
use Rattle.std.specs.List.{list_any}
use Rattle.psy_log.specs.declared.note.Note.{Note}
use Rattle.psy_assert.specs.declared.terms.Assertion.{Assertion}
use Rattle.psy_assert.specs.declared.terms.Claim.{Claim}
use Rattle.psy_assert.specs.declared.terms.Claim.TheVariants as claim
use Rattle.psy_assert.specs.declared.terms.Relation.{Relation}
use Rattle.psy_assert.specs.declared.sum.Sought.{Sought}
use Rattle.psy_assert.specs.declared.sum.Sought.TheVariants as sought
use Rattle.psy_assert.specs.declared.sum.Sum.{Sum}
use Rattle.psy_assert.specs.declared.tally.Tally.{Tally}
use Rattle.psy_assert.specs.Cuts.{first_cut, last_cut}
use Rattle.psy_assert.specs.Spans.{first_date, last_date}
use Rattle.psy_assert.specs.Sums.{IsNewest, is_between, is_by_ends, passes, stands_so, value_of, wanted_of}
use Rattle.psy_assert.specs.Tallies.{IsTally, StandsAt}
use Rattle.psy_assert.specs.Verdicts.{failing, first_by, is_kept, is_sought_by, newest, tells, verdict_by, verdict_of}
use Rattle.psy_assert.proofs.Newest.{newest_same}
use Rattle.psy_assert.proofs.Spoken.{any_same, broken_kept, find_any, missing_kept, newest_some, newest_stands, values_kept}
use Rattle.psy_assert.proofs.Windows.{begins, between_within, ends, is_sought_within, is_unequal_within, is_within, tells_before, up_to_before, value_cut}

module _ (a : Assertion) (notes : List Note) where
  -- What is looked for is found between the cuts of a list where some note decides the assertion.
  found_between : (by_value : Bool) (wanted : Sought)
      → ((n : Note) → (is_within by_value (first_cut by_value a) (last_cut by_value a) n && passes wanted (value_of n)) ≡ is_sought_by a.claim (first_date a.span) (last_date a.span) n)
      → (tally : Tally) (i j : ℕ) → IsTally by_value tally notes → StandsAt tally.cuts.items i (first_cut by_value a) → StandsAt tally.cuts.items j (last_cut by_value a)
      → list_any (λ n. is_between by_value tally.cuts.items i j n && passes wanted (value_of n)) notes ≡ is_some (first_by a.claim (first_date a.span) (last_date a.span) notes)
  found_between by_value wanted same tally i j is at_first at_last =
      any_same (λ n. is_between by_value tally.cuts.items i j n && passes wanted (value_of n)) (is_sought_by a.claim (first_date a.span) (last_date a.span))
      (λ n. ap (λ t. t && passes wanted (value_of n)) (between_within by_value tally.cuts.items _ _ i j is.order at_first at_last n) ∙ same n) notes
      ∙ sym (find_any (is_sought_by a.claim (first_date a.span) (last_date a.span)) notes)

  pub found_named : (tally : Tally) (i j : ℕ) → IsTally false tally notes → StandsAt tally.cuts.items i (first_cut false a) → StandsAt tally.cuts.items j (last_cut false a)
      → list_any (λ n. is_between false tally.cuts.items i j n && passes (wanted_of a.claim) (value_of n)) notes ≡ is_some (first_by a.claim (first_date a.span) (last_date a.span) notes)
  found_named = found_between false (wanted_of a.claim) (is_sought_within a.claim (first_date a.span) (last_date a.span))

  pub found_valued : is_by_ends (wanted_of a.claim) ≡ false → (tally : Tally) (i j : ℕ) → IsTally true tally notes → StandsAt tally.cuts.items i (first_cut true a)
      → StandsAt tally.cuts.items j (last_cut true a) → list_any (λ n. is_between true tally.cuts.items i j n && true) notes ≡ is_some (first_by a.claim (first_date a.span) (last_date a.span) notes)
  found_valued single = found_between true sought.Any (is_unequal_within a.claim single (first_date a.span) (last_date a.span))

  of_claim : (c : Claim) → a.claim ≡ c → is_kept (verdict_by c (first_date a.span) (last_date a.span) notes) ≡ is_kept (verdict_of a notes)
  of_claim c same = sym (ap (λ d. is_kept (verdict_by d (first_date a.span) (last_date a.span) notes)) same)

  found_by : (c : Claim) → a.claim ≡ c → (found : Bool) → found ≡ is_some (first_by a.claim (first_date a.span) (last_date a.span) notes)
      → found ≡ is_some (first_by c (first_date a.span) (last_date a.span) notes)
  found_by c same found has = has ∙ ap (λ d. is_some (first_by d (first_date a.span) (last_date a.span) notes)) same

  module _ (found : Bool) (has : found ≡ is_some (first_by a.claim (first_date a.span) (last_date a.span) notes)) where
    pub no_stop_kept : a.claim ≡ claim.NoStop → not found ≡ is_kept (verdict_of a notes)
    no_stop_kept same = ap not (found_by claim.NoStop same found has) ∙ sym (broken_kept _) ∙ of_claim claim.NoStop same

    pub no_message_kept : (stream : Bor (List ℕ)) → a.claim ≡ claim.NoMessage stream → not found ≡ is_kept (verdict_of a notes)
    no_message_kept stream same = ap not (found_by (claim.NoMessage stream) same found has) ∙ sym (broken_kept _) ∙ of_claim (claim.NoMessage stream) same

    pub some_message_kept : (stream : Bor (List ℕ)) → a.claim ≡ claim.SomeMessage stream → found ≡ is_kept (verdict_of a notes)
    some_message_kept stream same = found_by (claim.SomeMessage stream) same found has ∙ sym (missing_kept _) ∙ of_claim (claim.SomeMessage stream) same

    module _ (tally : Tally) (i j : ℕ) (is : IsTally false tally notes) (at_first : StandsAt tally.cuts.items i (first_cut false a)) (at_last : StandsAt tally.cuts.items j (last_cut false a)) where
      -- The newest value of a variable by a date
      newest_at : (variable : Bor (List ℕ)) (by k : ℕ) → StandsAt tally.cuts.items k (value_cut variable by) → (s : Sum) → IsNewest (tells variable.now by) notes (get_or tally.sums.items k s).newest
      newest_at variable by k at s =
          newest_same _ (tells variable.now by) (λ n. up_to_before false tally.cuts.items (value_cut variable by) k is.order at (value_cut variable by) n ∙ tells_before variable by n) notes
          (get_or tally.sums.items k s).newest (is.sums.newest k (value_cut variable by) s at.0 at.0)

      pub values_are_kept : (variable : Bor (List ℕ)) (relation : Relation) (value : ℤ) → a.claim ≡ claim.Values variable relation value → (begin told : Bool) (s : Sum)
          → begin ≡ stands_so relation value (get_or tally.sums.items i s).newest → told ≡ is_some (get_or tally.sums.items j s).newest → ((begin && not found) && told) ≡ is_kept (verdict_of a notes)
      values_are_kept variable relation value same begin told s first last =
          let c = claim.Values variable relation value in
          let from = first_date a.span in
          let to = last_date a.span in
          let own : StandsAt tally.cuts.items i (value_cut variable from) = subst (λ d. StandsAt tally.cuts.items i (begins false d (first_date a.span))) same at_first in
          let end : StandsAt tally.cuts.items j (value_cut variable to) = subst (λ d. StandsAt tally.cuts.items j (ends false d (last_date a.span))) same at_last in
          let starts : begin ≡ not (is_some (failing relation value (newest variable.now from notes))) = first ∙ sym (newest_stands relation value variable.now from notes _ (newest_at variable from i own s)) in
          let any : told ≡ is_some (newest variable.now to notes) = last ∙ sym (newest_some variable.now to notes _ (newest_at variable to j end s)) in
          ap (λ b. (b && not found) && told) starts
          ∙ ap (λ f. (not (is_some (failing relation value (newest variable.now from notes))) && not f) && told) (found_by c same found has)
          ∙ ap (λ l. (not (is_some (failing relation value (newest variable.now from notes))) && not (is_some (first_by c from to notes))) && l) any
          ∙ sym (values_kept (failing relation value (newest variable.now from notes)) (first_by c from to notes) (newest variable.now to notes)) ∙ of_claim c same
