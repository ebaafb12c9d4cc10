-- Names.
use Rattle.std.proofs.Common.{◌≡◌, ℕ, List, [], ◌∷◌, refl, Bool, true, false, ◌||◌, arith}
use Rattle.std.specs.Char.{is_ascii_digit}
use Rattle.std.proofs.lemmas.Bool.{or_left}
use Rattle.std.proofs.lemmas.Bool.Decides.{nat_tests}
use Rattle.psy_tree.specs.Lexemes.{Each, IsWord, begins_word, is_in_word}
use Rattle.psy_text.specs.Fronts.{Cuts, IsName}
use Rattle.psy_text.proofs.lemmas.Runs.{Cuts-once}

or_first : (a b : Bool) → a || b ≡ true → b ≡ false → a ≡ true
or_first true b is second = refl
or_first false b is second = cc

-- A word has bytes of words alone
pub Each-word : (word : List ℕ) → IsWord word → Each is_in_word word
Each-word [] is = absurd is
Each-word (b ∷ word) is = (or_left (begins_word b) (is_ascii_digit b) is.0, is.1)

-- Bytes of words, the first of which is no digit, are a word
pub IsWord-first : (b : ℕ) (word : List ℕ) → Each is_in_word (b ∷ word) → is_ascii_digit b ≡ false → IsWord (b ∷ word)
IsWord-first b word each first = (or_first (begins_word b) (is_ascii_digit b) each.0 first, each.1)

-- No word begins with a digit
pub first-word : (b : ℕ) (word : List ℕ) → IsWord (b ∷ word) → is_ascii_digit b ≡ false
first-word b word is = grind (arith, nat_tests, is.0)

-- At most one name stands at the front
pub one_name : (text name other rest more : List ℕ) → IsName name → IsName other → Cuts is_in_word text name rest → Cuts is_in_word text other more → (name ≡ other) × (rest ≡ more)
one_name text name other rest more is other_is = Cuts-once is_in_word text name other rest more (Each-word name is.0) (Each-word other other_is.0)
