-- What comes of an assertion over the notes of a run.
use Rattle.std.specs.Prelude.{ℕ, ℤ, ◌&&◌, Bool, true, false, not, nat_le, nat_lt, int_le, int_lt, List, Option, None, Some, bytes_eq, find, fold, if◌then◌else◌}
use Rattle.std.specs.Ordering.{int_eq}
use Rattle.psy_log.specs.declared.note.Note.{Note}
use Rattle.psy_log.specs.declared.note.Note.TheVariants as note
use Rattle.psy_assert.specs.declared.terms.Assertion.{Assertion}
use Rattle.psy_assert.specs.declared.terms.Claim.{Claim}
use Rattle.psy_assert.specs.declared.terms.Claim.TheVariants as claim
use Rattle.psy_assert.specs.declared.terms.Relation.{Relation}
use Rattle.psy_assert.specs.declared.terms.Relation.TheVariants as relation
use Rattle.psy_assert.specs.Spans.{first_date, last_date}
use Rattle.psy_assert.specs.declared.verdict.Verdict.{Verdict}
use Rattle.psy_assert.specs.declared.verdict.Verdict.TheVariants as verdict

-- A value stands so to another.
abbrev pub meets : Relation → ℤ → ℤ → Bool
meets relation.Equal value other = int_eq value other
meets relation.Unequal value other = not (int_eq value other)
meets relation.Less value other = int_lt value other
meets relation.AtMost value other = int_le value other
meets relation.Greater value other = int_lt other value
meets relation.AtLeast value other = int_le other value

-- The value that a note tells, where it tells one, stands so to this one.
abbrev pub is_met : Relation → ℤ → Note → Bool
is_met relation other (note.Value date variable value) = meets relation value other
is_met relation other _ = true

-- A value of the variable, told by a date
abbrev pub tells : List ℕ → ℕ → Note → Bool
tells name by (note.Value date variable value) = bytes_eq name variable.now && nat_le date by
tells name by _ = false

-- A value of the variable, told behind a date and up to another
abbrev pub is_later : List ℕ → ℕ → ℕ → Note → Bool
is_later name from to (note.Value date variable value) = bytes_eq name variable.now && (nat_lt from date && nat_le date to)
is_later name from to _ = false

-- A stop between two dates
abbrev pub is_stop : ℕ → ℕ → Note → Bool
is_stop from to (note.StopOverrun date agent) = nat_le from date && nat_le date to
is_stop from to (note.StopTrap date agent kind) = nat_le from date && nat_le date to
is_stop from to _ = false

-- A message of the stream between two dates
abbrev pub is_message : List ℕ → ℕ → ℕ → Note → Bool
is_message name from to (note.Message date stream value) = bytes_eq name stream.now && (nat_le from date && nat_le date to)
is_message name from to _ = false

-- The newest value of the variable that was told by a date: the one that stands at it
abbrev pub newest : List ℕ → ℕ → List Note → Option Note
newest name by notes = fold (λ found note. if tells name by note then Some note else found) None notes

-- The note, where its value doesn't stand so
abbrev pub failing : Relation → ℤ → Option Note → Option Note
failing relation value None = None
failing relation value (Some note) = if is_met relation value note then None else Some note

-- The claim, between two dates, is decided by the note: a value told behind the first date that doesn't stand so, a stop, or a message of the stream.
abbrev pub is_sought_by : Claim → ℕ → ℕ → Note → Bool
is_sought_by (claim.Values variable relation value) from to note = is_later variable.now from to note && not (is_met relation value note)
is_sought_by claim.NoStop from to note = is_stop from to note
is_sought_by (claim.NoMessage stream) from to note = is_message stream.now from to note
is_sought_by (claim.SomeMessage stream) from to note = is_message stream.now from to note

abbrev pub is_sought : Assertion → Note → Bool
is_sought assertion note = is_sought_by assertion.claim (first_date assertion.span) (last_date assertion.span) note

-- The first note that decides it
abbrev pub first_by : Claim → ℕ → ℕ → List Note → Option Note
first_by claimed from to notes = find (λ note. is_sought_by claimed from to note) notes

-- Broken by a note, where there is one
abbrev pub broken_by : Option Note → Verdict
broken_by None = verdict.Kept
broken_by (Some note) = verdict.Broken note

-- Kept by a note, where there is one
abbrev pub kept_by : Option Note → Verdict
kept_by None = verdict.Missing
kept_by (Some note) = verdict.Kept

-- Broken by a later value, or kept where there is a value
abbrev pub of_later : Option Note → Option Note → Verdict
of_later (Some note) last = verdict.Broken note
of_later None last = kept_by last

-- Broken by the value that stands at the first date, or else by a later one
abbrev pub of_values : Option Note → Option Note → Option Note → Verdict
of_values (Some note) later last = verdict.Broken note
of_values None later last = of_later later last

-- What comes of a claim between two dates: values hold where the one that stands at the first date and each later one does, and there is any;
-- no stop and no message, where none is found; some message, where one is
abbrev pub verdict_by : Claim → ℕ → ℕ → List Note → Verdict
verdict_by (claim.Values variable relation value) from to notes =
    of_values (failing relation value (newest variable.now from notes)) (first_by (claim.Values variable relation value) from to notes)
    (newest variable.now to notes)
verdict_by claim.NoStop from to notes = broken_by (first_by claim.NoStop from to notes)
verdict_by (claim.NoMessage stream) from to notes = broken_by (first_by (claim.NoMessage stream) from to notes)
verdict_by (claim.SomeMessage stream) from to notes = kept_by (first_by (claim.SomeMessage stream) from to notes)

abbrev pub verdict_of : Assertion → List Note → Verdict
verdict_of assertion notes = verdict_by assertion.claim (first_date assertion.span) (last_date assertion.span) notes

-- It is kept.
abbrev pub is_kept : Verdict → Bool
is_kept verdict.Kept = true
is_kept (verdict.Broken note) = false
is_kept verdict.Missing = false
