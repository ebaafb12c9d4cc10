-- What stands at the front of a text of which a part was read.
use Rattle.std.specs.Prelude.{◌≡◌, ◌≢◌, ℕ, ◌<◌, ◌==◌, ◌&&◌, Bool, nat_lt, not, List, [], ◌++◌, length}
use Rattle.std.specs.List.{list_any}
use Rattle.psy_log.specs.declared.note.Note.{Note}
use Rattle.psy_log.specs.Forms.{line_of}
use Rattle.psy_notes.specs.declared.line_front.Front.{Front}
use Rattle.psy_notes.specs.declared.line_front.Front.TheVariants as front
use Rattle.psy_notes.specs.declared.line_front.TheConstants.{NOTE_BYTES}
use Rattle.psy_notes.specs.declared.stand.Stand.{Stand}
use Rattle.psy_notes.specs.Texts.{Steps}

-- The text doesn't begin with the line of a note that may stand there.
abbrev pub NoLine : Stand → List ℕ → Type 0
NoLine stand text = (note : Note) (to : Stand) (more : List ℕ) → Steps stand note to → text ≢ line_of note ++ more

-- Bytes may be a part of a line: they have no line feed, and are fewer than a note's line may have.
abbrev pub is_part : List ℕ → Bool
is_part bytes = nat_lt (length bytes) NOTE_BYTES && not (list_any (λ b. b == 10) bytes)

-- What stands at the front of a text that begins with these bytes: a note's line that may stand there; or none so far, and a part of one
-- perhaps; or none, whatever comes behind them
abbrev pub IsFront : Stand → List ℕ → Front → Type 0
IsFront stand bytes (front.Line note to rest) = Steps stand note to × (bytes ≡ line_of note ++ rest.now) × (length rest.now < length bytes)
IsFront stand bytes front.Part = NoLine stand bytes × (length bytes < NOTE_BYTES)
IsFront stand bytes front.Broken = (bytes ≢ []) × ((more : List ℕ) → NoLine stand (bytes ++ more))
