-- Cuts between the dates of what notes and assertions speak of.
use Rattle.std.specs.Prelude.{ℕ, ℤ, Bool, true, false, List, Option, None, Some}
use Rattle.std.specs.Borrow.{Bor}
use Rattle.std.specs.declared.cmp.Ordering.{Ordering}
use Rattle.std.specs.declared.cmp.Ordering.TheVariants.{Less, Equal, Greater}
use Rattle.std.specs.Ordering.{bool_cmp, int_cmp, is_eq, is_lt, nat_cmp, ordering_then}
use Rattle.std.specs.Cmp.Lexicographic.{slice_cmp}
use Rattle.psy_log.specs.declared.note.Note.{Note}
use Rattle.psy_log.specs.declared.note.Note.TheVariants as note
use Rattle.psy_assert.specs.declared.terms.Assertion.{Assertion}
use Rattle.psy_assert.specs.declared.terms.Claim.{Claim}
use Rattle.psy_assert.specs.declared.terms.Claim.TheVariants as claim
use Rattle.psy_assert.specs.declared.cut.Subject.{Subject}
use Rattle.psy_assert.specs.declared.cut.Subject.TheVariants as subject
use Rattle.psy_assert.specs.declared.cut.Cut.{Cut}
use Rattle.psy_assert.specs.Spans.{first_date, last_date}

-- Stops come before messages, these before all values of variables, and these before single ones; each by name, and then by value.
abbrev pub subject_cmp : Subject → Subject → Ordering
subject_cmp subject.Stops subject.Stops = Equal
subject_cmp subject.Stops (subject.Messages other) = Less
subject_cmp subject.Stops (subject.Values other) = Less
subject_cmp subject.Stops (subject.Value other other_value) = Less
subject_cmp (subject.Messages one) subject.Stops = Greater
subject_cmp (subject.Messages one) (subject.Messages other) = slice_cmp nat_cmp one.now other.now
subject_cmp (subject.Messages one) (subject.Values other) = Less
subject_cmp (subject.Messages one) (subject.Value other other_value) = Less
subject_cmp (subject.Values one) subject.Stops = Greater
subject_cmp (subject.Values one) (subject.Messages other) = Greater
subject_cmp (subject.Values one) (subject.Values other) = slice_cmp nat_cmp one.now other.now
subject_cmp (subject.Values one) (subject.Value other other_value) = Less
subject_cmp (subject.Value one one_value) subject.Stops = Greater
subject_cmp (subject.Value one one_value) (subject.Messages other) = Greater
subject_cmp (subject.Value one one_value) (subject.Values other) = Greater
subject_cmp (subject.Value one one_value) (subject.Value other other_value) =
    ordering_then (slice_cmp nat_cmp one.now other.now) (int_cmp one_value other_value)

-- Cuts are in order by subject, then by date, and that before a date comes before that behind it.
abbrev pub cut_cmp : Cut → Cut → Ordering
cut_cmp one other = ordering_then (subject_cmp one.subject other.subject) (ordering_then (nat_cmp one.date other.date) (bool_cmp one.behind other.behind))

-- The one comes before the other.
abbrev pub is_before : Cut → Cut → Bool
is_before one other = is_lt (cut_cmp one other)

-- They have one subject.
abbrev pub is_beside : Cut → Cut → Bool
is_beside one other = is_eq (subject_cmp one.subject other.subject)

-- Values of a variable: this one, or all
abbrev pub values_of : Bool → Bor (List ℕ) → ℤ → Subject
values_of true variable value = subject.Value variable value
values_of false variable value = subject.Values variable

-- What a claim speaks of, by name, or by name and value
abbrev pub subject_of : Bool → Claim → Subject
subject_of by_value (claim.Values variable relation value) = values_of by_value variable value
subject_of by_value claim.NoStop = subject.Stops
subject_of by_value (claim.NoMessage stream) = subject.Messages stream
subject_of by_value (claim.SomeMessage stream) = subject.Messages stream

-- It speaks of values.
abbrev pub is_of_values : Claim → Bool
is_of_values (claim.Values variable relation value) = true
is_of_values _ = false

-- The cut behind which later values stand; that before the first date for other claims
abbrev pub first_cut : Bool → Assertion → Cut
first_cut by_value assertion = record {
  subject = subject_of by_value assertion.claim;
  date = first_date assertion.span;
  behind = is_of_values assertion.claim;
}

-- The cut behind the last date
abbrev pub last_cut : Bool → Assertion → Cut
last_cut by_value assertion = record {
  subject = subject_of by_value assertion.claim;
  date = last_date assertion.span;
  behind = true;
}

-- The cut behind the date of a note, where an assertion may speak of it
abbrev pub note_cut : Bool → Note → Option Cut
note_cut by_value (note.StopOverrun date agent) = Some (record { subject = subject.Stops; date = date; behind = true })
note_cut by_value (note.StopTrap date agent kind) = Some (record { subject = subject.Stops; date = date; behind = true })
note_cut by_value (note.Value date variable value) = Some (record { subject = values_of by_value variable value; date = date; behind = true })
note_cut by_value (note.Message date stream value) = Some (record { subject = subject.Messages stream; date = date; behind = true })
note_cut by_value _ = None
