-- The front of a line: its gaps, and its first word.
use Rattle.std.proofs.Common.{◌≡◌, ℕ, suc, ◌<◌, not, false, List, [], ◌∷◌, length, take, drop, inl, inr, refl, sym, ap, ◌∙◌, arith}
use Rattle.std.specs.List.{prefix_len}
use Rattle.std.proofs.lemmas.Bool.{cases_Bool, cond-true, cond-false, not_from_true, not_from_false}
use Rattle.psy_text.specs.Words.{in_front, is_gap, words_of}
use Rattle.psy_text.proofs.Firsts.{prefix_len-pass, prefix_len-fail, fails_there}

-- Gaps before the words change nothing.
words_of-gaps : (line : List ℕ) → words_of line ≡ words_of (drop (prefix_len is_gap line) line)
words_of-gaps [] = refl
words_of-gaps (b ∷ line) = elim (cases_Bool (is_gap b)) [
  | inl gap ↦ cond-true (is_gap b) _ _ gap ∙ words_of-gaps line ∙ sym (ap (λ n. words_of (drop n (b ∷ line))) (prefix_len-pass is_gap b line gap))
  | inr none ↦ sym (ap (λ n. words_of (drop n (b ∷ line))) (prefix_len-fail is_gap b line none))
]

-- A line with nothing behind its gaps has no words.
pub words_of-none : (line words : List ℕ) → words ≡ drop (prefix_len is_gap line) line → length words ≡ 0 → words_of line ≡ []
words_of-none line [] behind end = words_of-gaps line ∙ ap words_of (sym behind)
words_of-none line (b ∷ words) behind end = absurd (omega arith)

-- How many bytes stand before the next gap
abbrev pub unbroken_len : List ℕ → ℕ
unbroken_len line = prefix_len (λ b. not (is_gap b)) line

-- A word goes up to the next gap, or to the end.
words_of-word : (b : ℕ) (line : List ℕ) → is_gap b ≡ false → words_of (b ∷ line) ≡ (b ∷ take (unbroken_len line) line) ∷ words_of (drop (unbroken_len line) line)
words_of-word b [] none = cond-false (is_gap b) _ _ none
words_of-word b (c ∷ line) none =
    let cut = λ (n : ℕ). (b ∷ take n (c ∷ line)) ∷ words_of (drop n (c ∷ line)) in
    cond-false (is_gap b) _ _ none
    ∙ elim (cases_Bool (is_gap c)) [
      | inl gap ↦ cond-true (is_gap c) _ _ gap ∙ sym (ap cut (prefix_len-fail (λ b. not (is_gap b)) c line (not_from_true (is_gap c) gap)))
      | inr other ↦
          cond-false (is_gap c) _ _ other ∙ ap (in_front b) (words_of-word c line other)
          ∙ sym (ap cut (prefix_len-pass (λ b. not (is_gap b)) c line (not_from_false (is_gap c) other)))
    ]

-- A line is cut behind its first word, which has at least one byte.
pub words_of-cut : (line words : List ℕ) → words ≡ drop (prefix_len is_gap line) line → 0 < length words → (words_of line ≡ take (unbroken_len words) words ∷ words_of (drop (unbroken_len words) words)) × (0 < unbroken_len words)
words_of-cut line [] behind some = absurd (omega arith)
words_of-cut line (b ∷ rest) behind some =
    let none : is_gap b ≡ false = fails_there is_gap line b rest (sym behind) in
    let more : unbroken_len (b ∷ rest) ≡ suc (unbroken_len rest) = prefix_len-pass (λ b. not (is_gap b)) b rest (not_from_false (is_gap b) none) in (
      words_of-gaps line ∙ ap words_of (sym behind) ∙ words_of-word b rest none ∙ sym (ap (λ n. take n (b ∷ rest) ∷ words_of (drop n (b ∷ rest))) more),
      omega (arith, more),
    )
