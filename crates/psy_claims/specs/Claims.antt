-- What the lines of a text assert of a run.
use Rattle.std.specs.Prelude.{◌≡◌, ℕ, ◌+◌, ◌<◌, ◌≤◌, Bool, true, false, List, [], ◌∷◌, Option, None, Some, bytes_eq, option_to_list, ◌++◌}
use Rattle.std.specs.List.{list_any}
use Rattle.psy_text.specs.Lines.{is_skipped}
use Rattle.psy_text.specs.Words.{words_of}
use Rattle.psy_log.specs.declared.note.Note.{Note}
use Rattle.psy_passes.specs.Listing.{streams_in, variables_in}
use Rattle.psy_assert.specs.declared.terms.Assertion.{Assertion}
use Rattle.psy_assert.specs.declared.terms.Claim.{Claim}
use Rattle.psy_assert.specs.declared.terms.Claim.TheVariants as claim
use Rattle.psy_assert.specs.Spans.{first_date, last_date}
use Rattle.psy_claims.specs.declared.claimed.Claimed.{Claimed}
use Rattle.psy_claims.specs.declared.fault.Slip.{Slip}
use Rattle.psy_claims.specs.declared.fault.Slip.TheVariants.{Form, Dates, Name}
use Rattle.psy_claims.specs.Grammar.{Spell, SpellNone}

-- The summary lists the name of the claim, where it has one.
abbrev pub is_named : List Note → Claim → Bool
is_named notes (claim.Values variable relation value) = list_any (bytes_eq variable.now) (variables_in notes)
is_named notes claim.NoStop = true
is_named notes (claim.NoMessage stream) = list_any (bytes_eq stream.now) (streams_in notes)
is_named notes (claim.SomeMessage stream) = list_any (bytes_eq stream.now) (streams_in notes)

-- What the line of a number says: nothing where it is empty or a comment, or else the assertion that its words spell, the dates of which don't fall
-- and whose name the summary lists
pub data Says (notes : List Note) (number : ℕ) (line : List ℕ) : Option Claimed → Type 0 where
  nothing : is_skipped line ≡ true → Says notes number line None
  claims : (claimed : Claimed) → claimed.number ≡ number → claimed.line.now ≡ line → is_skipped line ≡ false
      → Spell (words_of line) claimed.assertion → first_date claimed.assertion.span ≤ last_date claimed.assertion.span
      → is_named notes claimed.assertion.claim ≡ true → Says notes number line (Some claimed)

-- What is wrong with a line
pub data IsWrong (notes : List Note) (line : List ℕ) : Slip → Type 0 where
  no_form : is_skipped line ≡ false → SpellNone (words_of line) → IsWrong notes line Form
  falling : (assertion : Assertion) → is_skipped line ≡ false → Spell (words_of line) assertion
      → last_date assertion.span < first_date assertion.span → IsWrong notes line Dates
  unnamed : (assertion : Assertion) → is_skipped line ≡ false → Spell (words_of line) assertion
      → first_date assertion.span ≤ last_date assertion.span → is_named notes assertion.claim ≡ false → IsWrong notes line Name

-- What lines say, one behind the other, the first of which has that number
pub data Say (notes : List Note) : ℕ → List (List ℕ) → List Claimed → Type 0 where
  none : (number : ℕ) → Say notes number [] []
  one : (number : ℕ) (line : List ℕ) (said : Option Claimed) (lines : List (List ℕ)) (more : List Claimed) → Says notes number line said
      → Say notes (number + 1) lines more → Say notes number (line ∷ lines) (option_to_list said ++ more)

-- The line of that number is the first that is wrong.
pub data WrongAt (notes : List Note) : ℕ → List (List ℕ) → ℕ → Slip → Type 0 where
  here : (number : ℕ) (line : List ℕ) (lines : List (List ℕ)) (slip : Slip) → IsWrong notes line slip → WrongAt notes number (line ∷ lines) number slip
  behind : (number : ℕ) (line : List ℕ) (said : Option Claimed) (lines : List (List ℕ)) (at : ℕ) (slip : Slip) → Says notes number line said
      → WrongAt notes (number + 1) lines at slip → WrongAt notes number (line ∷ lines) at slip
