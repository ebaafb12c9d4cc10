-- A text is a name exactly where it spells a token that is a name.
use Rattle.std.proofs.Common.{◌≡◌, ◌∙◌, ◌↔◌, ◌&&◌, ℕ, Bool, true, false, cond, List, [], ◌∷◌, length, bytes_eq, Option, Some, None, refl, sym, ap}
use Rattle.std.specs.Prelude.{is_none, nat_le}
use Rattle.std.specs.List.{find, list_all}
use Rattle.std.proofs.lemmas.Bool.{false≢true, leb-true, le-leb}
use Rattle.std.proofs.lemmas.Slice.Eq.{bytes_eq-Decides}
use Rattle.psy_base.specs.declared.limits.TheConstants.{WORD_BYTES}
use Rattle.psy_lists.proofs.lemmas.Tests.{both, each_of_both}
use Rattle.psy_token.specs.Reading.{reserved}
use Rattle.psy_tree.specs.declared.token.Kind.TheVariants as kinds
use Rattle.psy_tree.specs.declared.token.Word.{Word}
use Rattle.psy_tree.specs.declared.token.Word.TheVariants as words
use Rattle.psy_tree.specs.Lexemes.{Each, IsSpelling, IsWord, begins_word, is_in_word, word_spelling}
use Rattle.psy_image.specs.Names.{is_name, is_word}

-- ---- words

each_is : (p : ℕ → Bool) (xs : List ℕ) → list_all p xs ≡ true → Each p xs
each_is p [] e = tt
each_is p (x ∷ xs) e = let (first, others) = each_of_both (p x) (list_all p xs) e in (first, each_is p xs others)

is_each : (p : ℕ → Bool) (xs : List ℕ) → Each p xs → list_all p xs ≡ true
is_each p [] h = refl
is_each p (x ∷ xs) h = both (p x) (list_all p xs) h.0 (is_each p xs h.1)

word_is : (text : List ℕ) → is_word text ≡ true → IsWord text
word_is [] e = absurd (false≢true e)
word_is (b ∷ rest) e = let (first, others) = each_of_both (begins_word b) (list_all is_in_word rest) e in (first, each_is is_in_word rest others)

is_a_word : (text : List ℕ) → IsWord text → is_word text ≡ true
is_a_word [] h = absurd h
is_a_word (b ∷ rest) h = both (begins_word b) (list_all is_in_word rest) h.0 (is_each is_in_word rest h.1)

-- ---- reserved words

-- A reserved word is found by its spelling.
spelled_word : (word : Word) → reserved (word_spelling word) ≡ Some word
spelled_word words.Advance = refl
spelled_word words.After = refl
spelled_word words.Agent = refl
spelled_word words.Body = refl
spelled_word words.Budget = refl
spelled_word words.Clock = refl
spelled_word words.Depth = refl
spelled_word words.Else = refl
spelled_word words.If = refl
spelled_word words.Input = refl
spelled_word words.Int = refl
spelled_word words.Int8 = refl
spelled_word words.Int16 = refl
spelled_word words.Int32 = refl
spelled_word words.Int64 = refl
spelled_word words.Keep = refl
spelled_word words.Max = refl
spelled_word words.Of = refl
spelled_word words.On = refl
spelled_word words.Past = refl
spelled_word words.Processor = refl
spelled_word words.Ready = refl
spelled_word words.Return = refl
spelled_word words.Send = refl
spelled_word words.Stream = refl
spelled_word words.Take = refl
spelled_word words.Temporal = refl
spelled_word words.Tick = refl
spelled_word words.To = refl
spelled_word words.While = refl

-- What is found passes.
found_by : (p : Word → Bool) (x word : Word) (xs : List Word) → (find p xs ≡ Some word → p word ≡ true) → (b : Bool) → p x ≡ b → cond b (Some x) (find p xs) ≡ Some word → p word ≡ true
found_by p x word xs later true e is = let same : x ≡ word = cc in ap p (sym same) ∙ e
found_by p x word xs later false e is = later is

found : (p : Word → Bool) (xs : List Word) (word : Word) → find p xs ≡ Some word → p word ≡ true
found p [] word e = absurd cc
found p (x ∷ xs) word e = found_by p x word xs (λ h. found p xs word h) (p x) refl e

not_reserved : (text : List ℕ) → is_none (reserved text) ≡ true → (word : Word) → text ≡ word_spelling word → ⊥
not_reserved text none word is = false≢true (sym (ap is_none (ap reserved is ∙ spelled_word word)) ∙ none)

-- All reserved words
abbrev every : List Word
every = words.Advance ∷ words.After ∷ words.Agent ∷ words.Body ∷ words.Budget ∷ words.Clock ∷ words.Depth ∷ words.Else ∷ words.If ∷ words.Input
    ∷ words.Int ∷ words.Int8 ∷ words.Int16 ∷ words.Int32 ∷ words.Int64 ∷ words.Keep ∷ words.Max ∷ words.Of ∷ words.On ∷ words.Past
    ∷ words.Processor ∷ words.Ready ∷ words.Return ∷ words.Send ∷ words.Stream ∷ words.Take ∷ words.Temporal ∷ words.Tick ∷ words.To ∷ words.While ∷ []

found_word : (text : List ℕ) (word : Word) → reserved text ≡ Some word → bytes_eq (word_spelling word) text ≡ true
found_word text word e = found (λ w. bytes_eq (word_spelling w) text) every word e

is_free : (text : List ℕ) → ((word : Word) → text ≡ word_spelling word → ⊥) → is_none (reserved text) ≡ true
is_free text free = by (reserved text) refl
  where
    by : (o : Option Word) → reserved text ≡ o → is_none o ≡ true
    by None e = refl
    by (Some word) e = absurd (free word (sym ((bytes_eq-Decides (word_spelling word) text).0 (found_word text word e))))

-- ---- names

pub name_spells : (text : List ℕ) → (is_name text ≡ true ↔ IsSpelling (kinds.Name text) text)
name_spells text = (there, back)
  where
    there : is_name text ≡ true → IsSpelling (kinds.Name text) text
    there e =
        let (short, others) = each_of_both (nat_le (length text) WORD_BYTES) (is_word text && is_none (reserved text)) e in
        let (word, free) = each_of_both (is_word text) (is_none (reserved text)) others in
        (refl, word_is text word, leb-true (length text) WORD_BYTES short, not_reserved text free)

    back : IsSpelling (kinds.Name text) text → is_name text ≡ true
    back (same, word, short, free) = both (nat_le (length text) WORD_BYTES) (is_word text && is_none (reserved text)) (le-leb (length text) WORD_BYTES short)
        (both (is_word text) (is_none (reserved text)) (is_a_word text word) (is_free text free))
