-- Lines and columns, byte by byte, and a walk from line to line.
use Rattle.std.proofs.Common.{◌≡◌, ℕ, zero, suc, ◌+◌, ◌-◌, ◌<◌, ◌≤◌, ◌==◌, true, false, List, length, take, drop, get_or, inl, inr, refl, sym, ap, subst, ◌∙◌, arith, length-drop}
use Rattle.std.specs.List.{prefix_len, suffix_len}
use Rattle.std.proofs.lemmas.Bool.{not-true, not-false, cases_lt}
use Rattle.std.proofs.lemmas.List.{get_or-drop}
use Rattle.std.proofs.lemmas.List.Sums.{prefix_len-le-length, prefix_len_passes, prefix_len_stops, suffix_len-take_yes, suffix_len-take_no, count_by_more_yes, count_by_more_no}
use Rattle.psy_tree.specs.Lexemes.{is_in_line}
use Rattle.psy_where.specs.Places.{IsLinePlace}
use Rattle.psy_spot.specs.Spots.{line_at, column_at}
use Rattle.psy_spot.proofs.lemmas.LinesBack.{length-line_back}

-- ---- one byte more

column_at-suffix : (text : List ℕ) (place : ℕ) → column_at text place ≡ suffix_len is_in_line (take place text) + 1
column_at-suffix text place = ap (λ n. n + 1) (length-line_back (take place text))

-- Behind a byte of the line comes the next column.
column_at-same : (text : List ℕ) (place : ℕ) → place < length text → is_in_line (get_or text place 0) ≡ true → column_at text (place + 1) ≡ column_at text place + 1
column_at-same text place within same =
    let back : place + 1 - 1 ≡ place = omega arith in
    let here : is_in_line (get_or text (place + 1 - 1) 0) ≡ true = ap (λ k. is_in_line (get_or text k 0)) back ∙ same in
    let more = suffix_len-take_yes is_in_line text (place + 1) 0 (omega arith) (omega arith) here in
    omega (arith, more, ap (λ k. suffix_len is_in_line (take k text)) back, column_at-suffix text place, column_at-suffix text (place + 1))

-- Behind a line feed comes the first.
column_at-feed : (text : List ℕ) (place : ℕ) → place < length text → is_in_line (get_or text place 0) ≡ false → column_at text (place + 1) ≡ 1
column_at-feed text place within feed =
    let back : place + 1 - 1 ≡ place = omega arith in
    let here : is_in_line (get_or text (place + 1 - 1) 0) ≡ false = ap (λ k. is_in_line (get_or text k 0)) back ∙ feed in
    omega (arith, suffix_len-take_no is_in_line text (place + 1) 0 (omega arith) (omega arith) here, column_at-suffix text (place + 1))

line_at-same : (text : List ℕ) (place : ℕ) → place < length text → is_in_line (get_or text place 0) ≡ true → line_at text (place + 1) ≡ line_at text place
line_at-same text place within same = ap (λ n. n + 1) (count_by_more_no (λ b. b == 10) text place 0 within (not-true _ same))

line_at-feed : (text : List ℕ) (place : ℕ) → place < length text → is_in_line (get_or text place 0) ≡ false → line_at text (place + 1) ≡ line_at text place + 1
line_at-feed text place within feed = ap (λ n. n + 1) (count_by_more_yes (λ b. b == 10) text place 0 within (not-false _ feed))

-- ---- the rest of a line

-- How many bytes of the line stand behind the place
abbrev rest_len : List ℕ → ℕ → ℕ
rest_len text place = prefix_len is_in_line (drop place text)

-- Up to its end it is one line, and the columns are counted.
within_line : (text : List ℕ) (place k : ℕ) → place ≤ length text → k ≤ rest_len text place → (line_at text (place + k) ≡ line_at text place) × (column_at text (place + k) ≡ column_at text place + k)
within_line text place zero within few =
    let e : place + 0 ≡ place = omega arith in
    (ap (line_at text) e, omega (arith, ap (column_at text) e))
within_line text place (suc k) within few =
    let before = within_line text place k within (omega arith) in
    let e : place + suc k ≡ place + k + 1 = omega arith in
    let inside : place + k < length text = omega (arith, prefix_len-le-length is_in_line (drop place text), length-drop place text) in
    let same : is_in_line (get_or text (place + k) 0) ≡ true =
    ap is_in_line (sym (get_or-drop place text k 0)) ∙ prefix_len_passes is_in_line (drop place text) k 0 (omega arith) in (
      ap (line_at text) e ∙ line_at-same text (place + k) inside same ∙ before.0,
      omega (arith, ap (column_at text) e, column_at-same text (place + k) inside same, before.1),
    )

-- Behind it comes the next line, where the text goes on.
next_line : (text : List ℕ) (place : ℕ) → place ≤ length text → place + rest_len text place < length text → (line_at text (place + (rest_len text place + 1)) ≡ line_at text place + 1) × (column_at text (place + (rest_len text place + 1)) ≡ 1)
next_line text place within more =
    let n = rest_len text place in
    let e : place + (n + 1) ≡ place + n + 1 = omega arith in
    let end = within_line text place n within (omega arith) in
    let feed : is_in_line (get_or text (place + n) 0) ≡ false =
    ap is_in_line (sym (get_or-drop place text n 0)) ∙ prefix_len_stops is_in_line (drop place text) 0 (omega (arith, length-drop place text)) in (
      ap (line_at text) e ∙ line_at-feed text (place + n) more feed ∙ ap (λ n. n + 1) end.0,
      ap (column_at text) e ∙ column_at-feed text (place + n) more feed,
    )

-- ---- the walk

-- The walk is at the beginning of this line, or behind the text, and didn't meet the line that is looked for.
pub record Walks (text : List ℕ) (number line place : ℕ) : Type 0 where
  pub counted : line ≤ place + 1
  pub within : place ≤ length text + 1
  pub here : place < length text → (line_at text place ≡ line) × (column_at text place ≡ 1)
  pub none : (before : ℕ) → before < place → IsLinePlace text number before → ⊥

pub Walks-first : (text : List ℕ) (number : ℕ) → Walks text number 1 0
Walks-first text number = record { counted = omega arith; within = omega arith; here = λ _. (refl, refl); none = λ before less is. absurd (omega arith) }

-- On this line only its first byte is in column 1.
none_here : (text : List ℕ) (number line place before : ℕ) → Walks text number line place → place < length text → (line ≡ number → ⊥) → place ≤ before → before < place + (rest_len text place + 1) → IsLinePlace text number before → ⊥
none_here text number line place before walks more other from to (within, is_line, first) =
    let e : place + (before - place) ≡ before = omega arith in
    let there = within_line text place (before - place) (omega arith) (omega arith) in
    let here = walks.here more in
    let same : before ≡ place = omega (arith, there.1, here.1, first, ap (column_at text) e) in
    other (sym here.0 ∙ sym (ap (line_at text) same) ∙ is_line)

pub Walks-more : (text : List ℕ) (number line place len : ℕ) → Walks text number line place → place < length text → (line ≡ number → ⊥) → len ≡ rest_len text place → Walks text number (line + 1) (place + (len + 1))
Walks-more text number line place len walks more other is =
    subst (λ n. Walks text number (line + 1) (place + (n + 1))) (sym is) (record {
      counted = omega (arith, walks.counted);
      within = omega (arith, prefix_len-le-length is_in_line (drop place text), length-drop place text);
      here = λ goes_on. let next = next_line text place (omega arith) (omega arith) in (next.0 ∙ ap (λ n. n + 1) (walks.here more).0, next.1);
      none = λ before less place_is. elim (cases_lt before place) [
        | inl old ↦ walks.none before old place_is
        | inr new ↦ none_here text number line place before walks more other new less place_is
      ];
    })
