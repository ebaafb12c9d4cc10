-- What some notes tell, summed up.
use Rattle.std.specs.Prelude.{◌≡◌, ℕ, ◌<◌, ℤ, pos, ◌&&◌, ◌==◌, Bool, true, false, not, nat_le, nat_lt, int_le, int_lt}
use Rattle.std.specs.Prelude.{List, Option, None, Some, filter, length, slice_get, if◌then◌else◌}
use Rattle.std.specs.List.{list_any}
use Rattle.psy_log.specs.declared.note.Note.{Note}
use Rattle.psy_log.specs.declared.note.Note.TheVariants as note
use Rattle.psy_assert.specs.declared.terms.Claim.{Claim}
use Rattle.psy_assert.specs.declared.terms.Claim.TheVariants as claim
use Rattle.psy_assert.specs.declared.terms.Relation.{Relation}
use Rattle.psy_assert.specs.declared.terms.Relation.TheVariants as relation
use Rattle.psy_assert.specs.declared.cut.Cut.{Cut}
use Rattle.psy_assert.specs.declared.sum.Extent.{Extent}
use Rattle.psy_assert.specs.declared.sum.Newest.{Newest}
use Rattle.psy_assert.specs.declared.sum.Sought.{Sought}
use Rattle.psy_assert.specs.declared.sum.Sought.TheVariants as sought
use Rattle.psy_assert.specs.Cuts.{is_before, is_beside, note_cut}
use Rattle.psy_assert.specs.Verdicts.{meets}

-- The value that a note tells; 0 where it tells none
abbrev pub value_of : Note → ℤ
value_of (note.Value date variable value) = value
value_of _ = pos 0

-- A value is looked for.
abbrev pub passes : Sought → ℤ → Bool
passes sought.Any told = true
passes (sought.Failing relation value) told = not (meets relation told value)

-- What an assertion looks for
abbrev pub wanted_of : Claim → Sought
wanted_of (claim.Values variable relation value) = sought.Failing relation value
wanted_of _ = sought.Any

-- It holds of all values between two where it holds of those.
abbrev pub is_convex : Relation → Bool
is_convex relation.Unequal = false
is_convex _ = true

-- The least and the greatest value tell whether it is among some.
abbrev pub is_by_ends : Sought → Bool
is_by_ends sought.Any = true
is_by_ends (sought.Failing relation value) = is_convex relation

-- All values of the extent stand so to this one.
abbrev pub are_met : Relation → ℤ → Extent → Bool
are_met relation.Equal value extent = int_le value extent.least && int_le extent.most value
are_met relation.Less value extent = int_lt extent.most value
are_met relation.AtMost value extent = int_le extent.most value
are_met relation.Greater value extent = int_lt value extent.least
are_met relation.AtLeast value extent = int_le value extent.least
are_met relation.Unequal value extent = true

-- The extent has what is looked for.
abbrev pub has_sought : Sought → Option Extent → Bool
has_sought wanted None = false
has_sought sought.Any (Some extent) = true
has_sought (sought.Failing relation value) (Some extent) = not (are_met relation value extent)

-- The later one of two
abbrev pub later : Option Newest → Option Newest → Option Newest
later (Some first) (Some second) = if nat_lt first.place second.place then Some second else Some first
later (Some first) None = Some first
later None second = second

-- How many of the cuts come before this one
abbrev pub rank : List Cut → Cut → ℕ
rank cuts cut = length (filter (λ other. is_before other cut) cuts)

-- The note has a cut that passes this test.
abbrev pub is_cut : (Cut → Bool) → Option Cut → Bool
is_cut test None = false
is_cut test (Some cut) = test cut

-- It stands behind so many cuts.
abbrev pub stands_at : Bool → List Cut → ℕ → Note → Bool
stands_at by_value cuts place n = is_cut (λ cut. rank cuts cut == place) (note_cut by_value n)

-- It has the subject of that cut, and stands behind so many.
abbrev pub is_own : Bool → List Cut → Cut → ℕ → Note → Bool
is_own by_value cuts own place n = is_cut (λ cut. is_beside own cut && rank cuts cut == place) (note_cut by_value n)

-- It has the subject of that cut, and stands behind no more than so many.
abbrev pub is_up_to : Bool → List Cut → Cut → ℕ → Note → Bool
is_up_to by_value cuts own place n = is_cut (λ cut. is_beside own cut && nat_le (rank cuts cut) place) (note_cut by_value n)

-- It stands behind more cuts than so many, and no more than so many others.
abbrev pub is_between : Bool → List Cut → ℕ → ℕ → Note → Bool
is_between by_value cuts first last n = is_cut (λ cut. nat_lt first (rank cuts cut) && nat_le (rank cuts cut) last) (note_cut by_value n)

-- This is the last note that passes the test.
abbrev pub IsNewest : (Note → Bool) → List Note → Option Newest → Type 0
IsNewest test notes None = (i : ℕ) (n : Note) → slice_get notes i ≡ Some n → test n ≡ false
IsNewest test notes (Some newest) =
    ((n : Note) × (slice_get notes newest.place ≡ Some n) × (test n ≡ true) × (value_of n ≡ newest.value))
    × ((i : ℕ) (n : Note) → newest.place < i → slice_get notes i ≡ Some n → test n ≡ false)

-- The extent is that of the notes which pass the test.
abbrev pub IsExtent : (Note → Bool) → List Note → Option Extent → Type 0
IsExtent test notes extent =
    (wanted : Sought) → is_by_ends wanted ≡ true → has_sought wanted extent ≡ list_any (λ n. test n && passes wanted (value_of n)) notes

-- The newest value, where there is one, stands so to this one.
abbrev pub stands_so : Relation → ℤ → Option Newest → Bool
stands_so relation value None = true
stands_so relation value (Some newest) = meets relation newest.value value
