-- A text of lines is cut into the words that its lines were written of.
use Rattle.std.proofs.Common.{◌≡◌, ◌∙◌, refl, sym, ap, ℕ, ◌<◌, ◌==◌, ◌&&◌, ◌||◌, nat_lt, Bool, true, false, cond, List, [], ◌∷◌, ◌++◌, append_assoc, map, arith}
use Rattle.std.specs.Prelude.{⊤}
use Rattle.std.specs.List.{flat_map, Contains}
use Rattle.std.proofs.lemmas.Bool.{ltb-true, ne_eqb, lt-ltb}
use Rattle.psy_log.specs.Table.{spell}
use Rattle.psy_text.specs.Lines.{begins_with, lines_of, pieces_of, without_returns}
use Rattle.psy_text.specs.Words.{in_front, is_gap, words_of}
use Rattle.psy_tree.specs.Lexemes.{Each}
use Rattle.psy_lists.proofs.lemmas.Members.{contains_behind, contains_front}

-- A byte that may stand in a line: a blank, or one behind it
abbrev pub is_inner : ℕ → Bool
is_inner b = nat_lt 31 b

-- A byte that may stand in a word: one behind the blank
abbrev pub is_plain : ℕ → Bool
is_plain b = nat_lt 32 b

-- A word: one byte at least, each of them behind the blank
abbrev pub IsPlain : List ℕ → Type 0
IsPlain [] = ⊥
IsPlain (b ∷ word) = Each is_plain (b ∷ word)

-- Some words
abbrev pub ArePlain : List (List ℕ) → Type 0
ArePlain [] = ⊤
ArePlain (word ∷ words) = IsPlain word × ArePlain words

-- Words with a blank between two
abbrev joined : List ℕ → List (List ℕ) → List ℕ
joined word [] = word
joined word (next ∷ words) = word ++ 32 ∷ joined next words

spell_is : (word : List ℕ) (words : List (List ℕ)) (more : List ℕ) → spell (word ∷ words) more ≡ joined word words ++ 10 ∷ more
spell_is word [] more = refl
spell_is word (next ∷ words) more = ap (λ bytes. word ++ 32 ∷ bytes) (spell_is next words more) ∙ sym (append_assoc word (32 ∷ joined next words) (10 ∷ more))

-- ---- bytes

inner_of : (word : List ℕ) → Each is_plain word → Each is_inner word
inner_of [] each = tt {0}
inner_of (b ∷ word) (plain, each) = (lt-ltb 31 b (let high = ltb-true 32 b plain in omega (arith, high)), inner_of word each)

plain_of : (word : List ℕ) → IsPlain word → Each is_plain word
plain_of [] is = absurd is
plain_of (b ∷ word) is = is

each_append : (xs ys : List ℕ) → Each is_inner xs → Each is_inner ys → Each is_inner (xs ++ ys)
each_append [] ys a b = b
each_append (x ∷ xs) ys (is, a) b = (is, each_append xs ys a b)

joined_inner : (word : List ℕ) (words : List (List ℕ)) → IsPlain word → ArePlain words → Each is_inner (joined word words)
joined_inner word [] is are = inner_of word (plain_of word is)
joined_inner word (next ∷ words) is (plain, are) = each_append word (32 ∷ joined next words) (inner_of word (plain_of word is)) (refl, joined_inner next words plain are)

-- ---- lines

not_byte : (b c : ℕ) → is_inner b ≡ true → c < 32 → (b == c) ≡ false
not_byte b c inner low = (let high = ltb-true 31 b inner in ne_eqb b c (λ e. omega (arith, e, high, low)))

returns_kept : (bytes rest : List ℕ) → Each is_inner bytes → without_returns (bytes ++ rest) ≡ bytes ++ without_returns rest
returns_kept [] rest each = refl
returns_kept (b ∷ bytes) rest (inner, each) =
    ap (λ t. cond (t && begins_with 10 (bytes ++ rest)) (without_returns (bytes ++ rest)) (b ∷ without_returns (bytes ++ rest))) (not_byte b 13 inner (omega arith))
    ∙ ap (λ bs. b ∷ bs) (returns_kept bytes rest each)

piece_cut : (bytes rest : List ℕ) → Each is_inner bytes → pieces_of (bytes ++ 10 ∷ rest) ≡ bytes ∷ pieces_of rest
piece_cut [] rest each = refl
piece_cut (b ∷ bytes) rest (inner, each) =
    ap (λ t. cond t ([] ∷ pieces_of (bytes ++ 10 ∷ rest)) (in_front b (pieces_of (bytes ++ 10 ∷ rest)))) (not_byte b 10 inner (omega arith))
    ∙ ap (in_front b) (piece_cut bytes rest each)

-- ---- words

no_gap : (b : ℕ) → is_plain b ≡ true → is_gap b ≡ false
no_gap b plain =
    let high = ltb-true 32 b plain in
    ap (λ t. t || b == 9) (ne_eqb b 32 (λ e. omega (arith, e, high))) ∙ ne_eqb b 9 (λ e. omega (arith, e, high))

last_word : (b : ℕ) (word : List ℕ) → Each is_plain (b ∷ word) → words_of (b ∷ word) ≡ (b ∷ word) ∷ []
last_word b [] (plain, each) = ap (λ t. cond {A = List (List ℕ)} t [] ((b ∷ []) ∷ [])) (no_gap b plain)
last_word b (c ∷ word) (plain, (also, each)) =
    ap (λ t. cond t (words_of (c ∷ word)) (cond (is_gap c) ((b ∷ []) ∷ words_of (c ∷ word)) (in_front b (words_of (c ∷ word))))) (no_gap b plain)
    ∙ ap (λ t. cond t ((b ∷ []) ∷ words_of (c ∷ word)) (in_front b (words_of (c ∷ word)))) (no_gap c also)
    ∙ ap (in_front b) (last_word c word (also, each))

first_word : (b : ℕ) (word rest : List ℕ) → Each is_plain (b ∷ word) → words_of ((b ∷ word) ++ 32 ∷ rest) ≡ (b ∷ word) ∷ words_of rest
first_word b [] rest (plain, each) = ap (λ t. cond t (words_of (32 ∷ rest)) ((b ∷ []) ∷ words_of (32 ∷ rest))) (no_gap b plain)
first_word b (c ∷ word) rest (plain, (also, each)) =
    let behind = words_of ((c ∷ word) ++ 32 ∷ rest) in
    ap (λ t. cond t behind (cond (is_gap c) ((b ∷ []) ∷ behind) (in_front b behind))) (no_gap b plain)
    ∙ ap (λ t. cond t ((b ∷ []) ∷ behind) (in_front b behind)) (no_gap c also)
    ∙ ap (in_front b) (first_word c word rest (also, each))

words_joined : (word : List ℕ) (words : List (List ℕ)) → IsPlain word → ArePlain words → words_of (joined word words) ≡ word ∷ words
words_joined [] words is are = absurd is
words_joined (b ∷ word) [] is are = last_word b word is
words_joined (b ∷ word) (next ∷ words) is (plain, are) = first_word b word (joined next words) is ∙ ap (λ ws. (b ∷ word) ∷ ws) (words_joined next words plain are)

-- ---- the text

-- The words of a line, at least one
abbrev pub AreWords : List (List ℕ) → Type 0
AreWords [] = ⊥
AreWords (word ∷ words) = IsPlain word × ArePlain words

abbrev line_of : List (List ℕ) → List ℕ
line_of [] = []
line_of (word ∷ words) = joined word words

line_first : (words : List (List ℕ)) (rest : List ℕ) → AreWords words → spell words [] ++ rest ≡ line_of words ++ 10 ∷ rest
line_first [] rest are = absurd are
line_first (word ∷ words) rest are = ap (λ bytes. bytes ++ rest) (spell_is word words []) ∙ append_assoc (joined word words) (10 ∷ []) rest

line_inner : (words : List (List ℕ)) → AreWords words → Each is_inner (line_of words)
line_inner [] are = absurd are
line_inner (word ∷ words) are = joined_inner word words are.0 are.1

line_words : (words : List (List ℕ)) → AreWords words → words_of (line_of words) ≡ words
line_words [] are = absurd are
line_words (word ∷ words) are = words_joined word words are.0 are.1

module _ {X : Type 0} (words : X → List (List ℕ)) where
  abbrev text : List X → List ℕ
  text xs = flat_map (λ x. spell (words x) []) xs

  kept : (xs : List X) → ((x : X) → Contains xs x → AreWords (words x)) → without_returns (text xs) ≡ text xs
  kept [] are = refl
  kept (x ∷ xs) are =
      let its = are x (contains_front x xs) in
      ap without_returns (line_first (words x) (text xs) its) ∙ returns_kept (line_of (words x)) (10 ∷ text xs) (line_inner (words x) its)
      ∙ ap (λ bytes. line_of (words x) ++ 10 ∷ bytes) (kept xs (λ y c. are y (contains_behind x xs y c))) ∙ sym (line_first (words x) (text xs) its)

  cut : (xs : List X) → ((x : X) → Contains xs x → AreWords (words x)) → map words_of (pieces_of (text xs)) ≡ map words xs
  cut [] are = refl
  cut (x ∷ xs) are =
      let its = are x (contains_front x xs) in
      ap (λ bytes. map words_of (pieces_of bytes)) (line_first (words x) (text xs) its)
      ∙ ap (map words_of) (piece_cut (line_of (words x)) (text xs) (line_inner (words x) its))
      ∙ ap (λ ws. ws ∷ map words_of (pieces_of (text xs))) (line_words (words x) its)
      ∙ ap (λ wss. words x ∷ wss) (cut xs (λ y c. are y (contains_behind x xs y c)))

  -- Its lines have the words that they were written of.
  pub words_again : (xs : List X) → ((x : X) → Contains xs x → AreWords (words x)) → map words_of (lines_of (text xs)) ≡ map words xs
  words_again xs are = ap (λ bytes. map words_of (pieces_of bytes)) (kept xs are) ∙ cut xs are
