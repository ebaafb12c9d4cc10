-- What stands at the front of a text, up to where it can't go on.
use Rattle.std.specs.Prelude.{◌≡◌, ℕ, ◌≤◌, Bool, List, ◌++◌, length}
use Rattle.psy_base.specs.declared.limits.TheConstants.{WORD_BYTES}
use Rattle.psy_tree.specs.Lexemes.{IsWord, EndsBefore}

-- A word of 1 to 32 bytes: a letter or `_`, and then letters, digits and `_`
abbrev pub IsName : List ℕ → Type 0
IsName name = IsWord name × (length name ≤ WORD_BYTES)

-- The text is the piece, and then the rest, which doesn't begin with a byte of that sort.
abbrev pub Cuts : (ℕ → Bool) → List ℕ → List ℕ → List ℕ → Type 0
Cuts sort text piece rest = (text ≡ piece ++ rest) × EndsBefore sort rest
