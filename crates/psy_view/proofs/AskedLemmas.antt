-- What words ask for, as it is found word by word.
use Rattle.std.proofs.Common.{◌≡◌, ◌∙◌, refl, sym, ap, ℕ, ◌<◌, List, [], ◌∷◌, ◌++◌, length, map, true, bytes_eq, codes, arith}
use Rattle.std.specs.List.{flat_map}
use Rattle.std.proofs.lemmas.List.{append-nil, append_assoc}
use Rattle.psy_lists.proofs.lemmas.Texts.{same_text}
use Rattle.psy_view.specs.Asked.{Where, Asks, asks_where, line_of_words}

-- `where`, a name and some words ask for a refusal to be explained
pub asks_line : {S : Type 0} (f : S → List ℕ) (command name : List ℕ) (line : List S) → 0 < length line → true ≡ bytes_eq command (codes "where") → Asks (command ∷ name ∷ map f line) (Where name (line_of_words (map f line)))
asks_line f command name [] some is = absurd (omega (arith, some))
asks_line f command name (word ∷ more) some is = asks_where name (f word) (map f more) (ap (λ w. w ∷ name ∷ f word ∷ map f more) (same_text command (codes "where") is))

-- The words as they stood in one line: the first, and each other one behind a space
pub line_from : {S : Type 0} (f : S → List ℕ) (word : List ℕ) (words : List S) → line_of_words (word ∷ map f words) ≡ word ++ flat_map (λ w. codes " " ++ f w) words
line_from f word [] = sym (append-nil word)
line_from f word (next ∷ words) = append_assoc word (codes " ") (line_of_words (f next ∷ map f words)) ∙ ap (λ l. word ++ (codes " " ++ l)) (line_from f (f next) words)

-- Words of which there is none
pub no_words : {S : Type 0} (f : S → List ℕ) (words : List S) → length words < 1 → map f words ≡ []
no_words f [] none = refl
no_words f (word ∷ words) none = absurd (omega (arith, none))
