-- The notes between two cuts.
use Rattle.std.proofs.Common.{◌≡◌, ◌∙◌, refl, sym, ap, ℕ, ℤ, Bool, true, false, ◌&&◌, ◌||◌, cond, not, ltb, leb, eqb, true≢false, bytes_eq, List, get_or, Option, None, Some, Bor, arith}
use Rattle.std.specs.declared.cmp.Ordering.{Ordering}
use Rattle.std.specs.declared.cmp.Ordering.TheVariants.{Less, Equal, Greater}
use Rattle.std.specs.Ordering.{int_cmp, int_eq, is_eq, is_lt, nat_cmp, ordering_then}
use Rattle.std.proofs.lemmas.Cmp.{int_eq_equiv}
use Rattle.std.specs.Cmp.Lexicographic.{slice_cmp}
use Rattle.std.specs.List.Sorted.{IsSorted}
use Rattle.std.proofs.lemmas.Map.Text.{is_eq-slice_cmp}
use Rattle.psy_log.specs.declared.note.Note.{Note}
use Rattle.psy_log.specs.declared.note.Note.TheVariants as note
use Rattle.psy_assert.specs.declared.terms.Claim.{Claim}
use Rattle.psy_assert.specs.declared.terms.Claim.TheVariants as claim
use Rattle.psy_assert.specs.declared.terms.Relation.TheVariants as relation
use Rattle.psy_assert.specs.declared.cut.Cut.{Cut}
use Rattle.psy_assert.specs.declared.cut.Subject.TheVariants as subject
use Rattle.psy_assert.specs.declared.sum.Sought.TheVariants as sought
use Rattle.psy_assert.specs.Cuts.{cut_cmp, is_before, is_beside, note_cut, subject_of, is_of_values}
use Rattle.psy_assert.specs.Sums.{is_between, is_cut, is_by_ends, is_up_to, passes, rank, value_of, wanted_of}
use Rattle.psy_assert.specs.Verdicts.{is_sought_by, tells}
use Rattle.psy_assert.specs.Tallies.{StandsAt}
use Rattle.psy_assert.proofs.Ranks.{before_equal, beside_equal}

-- ---- dates

upto : (a b : ℕ) → not (ltb b a) ≡ leb a b
upto a b = grind (arith)

less_or_same : (a b : ℕ) → (ltb a b || eqb a b) ≡ leb a b
less_or_same a b = grind (arith)

behind_by : (l e : Bool) → is_lt (ordering_then (cond l Less (cond e Equal Greater)) Equal) ≡ l
behind_by true e = refl
behind_by false true = refl
behind_by false false = refl

ahead_by : (l e : Bool) → is_lt (ordering_then (cond l Less (cond e Equal Greater)) Less) ≡ (l || e)
ahead_by true e = refl
ahead_by false true = refl
ahead_by false false = refl

-- A date stands behind another, where cuts behind both are compared.
behind : (a b : ℕ) → is_lt (ordering_then (nat_cmp a b) Equal) ≡ ltb a b
behind a b = behind_by (ltb a b) (eqb a b)

-- It stands at it or behind it, where the first cut is before its date.
ahead : (a b : ℕ) → is_lt (ordering_then (nat_cmp a b) Less) ≡ leb a b
ahead a b = ahead_by (ltb a b) (eqb a b) ∙ less_or_same a b

-- ---- windows of one name

by_name : (o : Ordering) (a b : Ordering) → (is_lt (ordering_then o a) && not (is_lt (ordering_then o b))) ≡ (is_eq o && (is_lt a && not (is_lt b)))
by_name Less a b = refl
by_name Equal a b = refl
by_name Greater a b = refl

same_name : (one other : List ℕ) (a b : Ordering)
    → (is_lt (ordering_then (slice_cmp nat_cmp one other) a) && not (is_lt (ordering_then (slice_cmp nat_cmp one other) b))) ≡ (bytes_eq one other && (is_lt a && not (is_lt b)))
same_name one other a b = by_name (slice_cmp nat_cmp one other) a b ∙ ap (λ t. t && (is_lt a && not (is_lt b))) (is_eq-slice_cmp one other)

later_dates : (from to date : ℕ) → (is_lt (ordering_then (nat_cmp from date) Equal) && not (is_lt (ordering_then (nat_cmp to date) Equal))) ≡ (ltb from date && leb date to)
later_dates from to date = ap (λ t. t && not (is_lt (ordering_then (nat_cmp to date) Equal))) (behind from date) ∙ ap (λ t. ltb from date && t) (ap not (behind to date) ∙ upto date to)

all_dates : (from to date : ℕ) → (is_lt (ordering_then (nat_cmp from date) Less) && not (is_lt (ordering_then (nat_cmp to date) Equal))) ≡ (leb from date && leb date to)
all_dates from to date = ap (λ t. t && not (is_lt (ordering_then (nat_cmp to date) Equal))) (ahead from date) ∙ ap (λ t. leb from date && t) (ap not (behind to date) ∙ upto date to)

-- ---- what an assertion looks for

-- The note stands behind one cut, and not behind another.
abbrev pub is_within : Bool → Cut → Cut → Note → Bool
is_within by_value first last n = is_cut (λ cut. is_before first cut && not (is_before last cut)) (note_cut by_value n)

both : (t : Bool) → (t && true) ≡ t
both true = refl
both false = refl

-- The cuts of a claim between two dates
abbrev pub begins : Bool → Claim → ℕ → Cut
begins by_value c from = record { subject = subject_of by_value c; date = from; behind = is_of_values c }

abbrev pub ends : Bool → Claim → ℕ → Cut
ends by_value c to = record { subject = subject_of by_value c; date = to; behind = true }

pub is_sought_within : (c : Claim) (from to : ℕ) (n : Note) → (is_within false (begins false c from) (ends false c to) n && passes (wanted_of c) (value_of n)) ≡ is_sought_by c from to n
is_sought_within (claim.Values variable relation value) from to (note.Value date name told) =
    ap (λ t. t && passes (sought.Failing relation value) told) (same_name variable.now name.now _ _ ∙ ap (λ t. bytes_eq variable.now name.now && t) (later_dates from to date))
is_sought_within (claim.Values variable relation value) from to (note.Message date stream told) = refl
is_sought_within (claim.Values variable relation value) from to (note.StopOverrun date agent) = refl
is_sought_within (claim.Values variable relation value) from to (note.StopTrap date agent kind) = refl
is_sought_within (claim.Values variable relation value) from to _ = refl
is_sought_within claim.NoStop from to (note.StopOverrun date agent) = both _ ∙ all_dates from to date
is_sought_within claim.NoStop from to (note.StopTrap date agent kind) = both _ ∙ all_dates from to date
is_sought_within claim.NoStop from to _ = refl
is_sought_within (claim.NoMessage stream) from to (note.Message date name told) = both _ ∙ same_name stream.now name.now _ _ ∙ ap (λ t. bytes_eq stream.now name.now && t) (all_dates from to date)
is_sought_within (claim.NoMessage stream) from to _ = refl
is_sought_within (claim.SomeMessage stream) from to (note.Message date name told) = both _ ∙ same_name stream.now name.now _ _ ∙ ap (λ t. bytes_eq stream.now name.now && t) (all_dates from to date)
is_sought_within (claim.SomeMessage stream) from to _ = refl

-- ---- windows of one value

both_equal : (o p : Ordering) → is_eq (ordering_then o p) ≡ (is_eq o && is_eq p)
both_equal Less p = refl
both_equal Equal p = refl
both_equal Greater p = refl

aside : (b e w : Bool) → (((b && e) && w) && true) ≡ ((b && w) && not (not e))
aside true true true = refl
aside true true false = refl
aside true false true = refl
aside true false false = refl
aside false e w = refl

unequal_value : (variable name : List ℕ) (value told : ℤ) (from to date : ℕ)
    → ((is_lt (ordering_then (ordering_then (slice_cmp nat_cmp variable name) (int_cmp value told)) (ordering_then (nat_cmp from date) Equal))
    && not (is_lt (ordering_then (ordering_then (slice_cmp nat_cmp variable name) (int_cmp value told)) (ordering_then (nat_cmp to date) Equal)))) && true)
    ≡ ((bytes_eq variable name && (ltb from date && leb date to)) && not (not (int_eq told value)))
unequal_value variable name value told from to date =
    ap (λ t. t && true)
    (by_name (ordering_then (slice_cmp nat_cmp variable name) (int_cmp value told)) _ _
    ∙ ap (λ t. t && (is_lt (ordering_then (nat_cmp from date) Equal) && not (is_lt (ordering_then (nat_cmp to date) Equal))))
    (both_equal (slice_cmp nat_cmp variable name) (int_cmp value told)
    ∙ ap (λ t. t && int_eq value told) (is_eq-slice_cmp variable name) ∙ ap (λ t. bytes_eq variable name && t) (int_eq_equiv.symm value told))
    ∙ ap (λ t. (bytes_eq variable name && int_eq told value) && t) (later_dates from to date))
    ∙ aside (bytes_eq variable name) (int_eq told value) (ltb from date && leb date to)

-- The notes of a value between the cuts of a claim that no value is this one are those that break it.
pub is_unequal_within : (c : Claim) → is_by_ends (wanted_of c) ≡ false → (from to : ℕ) (n : Note) → (is_within true (begins true c from) (ends true c to) n && true) ≡ is_sought_by c from to n
is_unequal_within (claim.Values variable relation.Unequal value) e from to (note.Value date name told) = unequal_value variable.now name.now value told from to date
is_unequal_within (claim.Values variable relation.Unequal value) e from to (note.Message date stream told) = refl
is_unequal_within (claim.Values variable relation.Unequal value) e from to (note.StopOverrun date agent) = refl
is_unequal_within (claim.Values variable relation.Unequal value) e from to (note.StopTrap date agent kind) = refl
is_unequal_within (claim.Values variable relation.Unequal value) e from to _ = refl
is_unequal_within (claim.Values variable relation.Equal value) e from to n = absurd (true≢false e)
is_unequal_within (claim.Values variable relation.Less value) e from to n = absurd (true≢false e)
is_unequal_within (claim.Values variable relation.AtMost value) e from to n = absurd (true≢false e)
is_unequal_within (claim.Values variable relation.Greater value) e from to n = absurd (true≢false e)
is_unequal_within (claim.Values variable relation.AtLeast value) e from to n = absurd (true≢false e)
is_unequal_within claim.NoStop e from to n = absurd (true≢false e)
is_unequal_within (claim.NoMessage stream) e from to n = absurd (true≢false e)
is_unequal_within (claim.SomeMessage stream) e from to n = absurd (true≢false e)

-- The note tells a value of the variable by a date where it has the subject of the cut behind that date, and doesn't stand behind it.
told_name : (o : Ordering) (b : Ordering) → (is_eq o && not (is_lt (ordering_then o b))) ≡ (is_eq o && not (is_lt b))
told_name Less b = refl
told_name Equal b = refl
told_name Greater b = refl

-- The cut behind a date of a variable
abbrev pub value_cut : Bor (List ℕ) → ℕ → Cut
value_cut variable by = record { subject = subject.Values variable; date = by; behind = true }

pub tells_before : (variable : Bor (List ℕ)) (by : ℕ) (n : Note) → is_cut (λ cut. is_beside (value_cut variable by) cut && not (is_before (value_cut variable by) cut)) (note_cut false n) ≡ tells variable.now by n
tells_before variable by (note.Value date name told) =
    told_name (slice_cmp nat_cmp variable.now name.now) (ordering_then (nat_cmp by date) Equal)
    ∙ ap (λ t. t && not (is_lt (ordering_then (nat_cmp by date) Equal))) (is_eq-slice_cmp variable.now name.now)
    ∙ ap (λ t. bytes_eq variable.now name.now && t) (ap not (behind by date) ∙ upto date by)
tells_before variable by (note.Message date name told) = refl
tells_before variable by (note.StopOverrun date agent) = refl
tells_before variable by (note.StopTrap date agent kind) = refl
tells_before variable by _ = refl

-- ---- windows between cuts of a list

-- The notes between two cuts of a list are those that are counted so.
pub between_within : (by_value : Bool) (cuts : List Cut) (first last : Cut) (i j : ℕ) → IsSorted cut_cmp cuts → StandsAt cuts i first → StandsAt cuts j last → (n : Note)
    → is_between by_value cuts i j n ≡ is_within by_value first last n
between_within by_value cuts first last i j sorted at_first at_last n = by (note_cut by_value n)
  where
    by : (o : Option Cut) → is_cut (λ cut. ltb i (rank cuts cut) && leb (rank cuts cut) j) o ≡ is_cut (λ cut. is_before first cut && not (is_before last cut)) o
    by None = refl
    by (Some cut) =
        ap (λ t. t && leb (rank cuts cut) j) (sym (before_equal cuts first cut sorted i at_first.0 at_first.1))
        ∙ ap (λ t. is_before first cut && t) (sym (upto (rank cuts cut) j) ∙ ap not (sym (before_equal cuts last cut sorted j at_last.0 at_last.1)))

-- Those up to a cut of its subject are those that don't stand behind it.
pub up_to_before : (by_value : Bool) (cuts : List Cut) (own : Cut) (i : ℕ) → IsSorted cut_cmp cuts → StandsAt cuts i own → (d : Cut) (n : Note)
    → is_up_to by_value cuts (get_or cuts i d) i n ≡ is_cut (λ cut. is_beside own cut && not (is_before own cut)) (note_cut by_value n)
up_to_before by_value cuts own i sorted at d n = by (note_cut by_value n)
  where
    by : (o : Option Cut) → is_cut (λ cut. is_beside (get_or cuts i d) cut && leb (rank cuts cut) i) o ≡ is_cut (λ cut. is_beside own cut && not (is_before own cut)) o
    by None = refl
    by (Some cut) =
        ap (λ t. t && leb (rank cuts cut) i) (beside_equal (get_or cuts i d) own cut (at.1 d))
        ∙ ap (λ t. is_beside own cut && t) (sym (upto (rank cuts cut) i) ∙ ap not (sym (before_equal cuts own cut sorted i at.0 at.1)))
