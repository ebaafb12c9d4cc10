-- What is told of notes in a row.
use Rattle.std.specs.Prelude.{ℕ, List, [], ◌∷◌, ◌++◌}
use Rattle.psy_log.specs.declared.note.Note.{Note}

-- Of these notes, one behind the other, that text is told: a piece of each, in their order. What may be told of a note, and what becomes of the
-- teller, is the teller's to say.
pub data Told {T : Type 0} (tells : T → Note → List ℕ → T → Type 0) (old : T) : List Note → List ℕ → T → Type 0 where
  told_nothing : Told tells old [] [] old
  told_more : (notes : List Note) (text : List ℕ) (now : T) (note : Note) (piece : List ℕ) (next : T) → Told tells old notes text now
      → tells now note piece next → Told tells old (notes ++ note ∷ []) (text ++ piece) next
