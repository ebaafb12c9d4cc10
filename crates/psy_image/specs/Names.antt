-- The names of an image: words of a text that could be a declaration's name.
use Rattle.std.specs.Prelude.{ℕ, Bool, false, ◌&&◌, nat_le, List, [], ◌∷◌, length, is_none}
use Rattle.std.specs.List.{list_all}
use Rattle.psy_base.specs.declared.limits.TheConstants.{WORD_BYTES}
use Rattle.psy_token.specs.Reading.{reserved}
use Rattle.psy_tree.specs.Lexemes.{begins_word, is_in_word}

-- A letter or `_`, and then letters, digits and `_`
abbrev pub is_word : List ℕ → Bool
is_word [] = false
is_word (b ∷ rest) = begins_word b && list_all is_in_word rest

-- A word of at most 32 bytes that isn't reserved
abbrev pub is_name : List ℕ → Bool
is_name text = nat_le (length text) WORD_BYTES && (is_word text && is_none (reserved text))
