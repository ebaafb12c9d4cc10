-- The front of a text, up to its first line feed or to its end.
use Rattle.std.proofs.Common.{◌≡◌, ℕ, ◌+◌, ◌-◌, ◌<◌, Bool, true, false, not, ◌==◌, cond, List, [], ◌∷◌, ◌++◌, length, take, drop, get_or, refl, sym, ap, subst, ◌∙◌, append_assoc, append-nil, arith}
use Rattle.std.specs.List.{list_any, prefix_len}
use Rattle.std.proofs.Math.Seq.{take-length}
use Rattle.std.proofs.lemmas.List.{take_more}
use Rattle.std.proofs.lemmas.List.Folds.{list_any-append}
use Rattle.std.proofs.lemmas.Bool.{or_parts, and_left, and_right, cond-false, eqb-true, not-false}
use Rattle.psy_text.specs.Lines.{begins_with, without_return, without_returns, pieces_of, lines_of}
use Rattle.psy_text.specs.Words.{in_front}
use Rattle.psy_text.proofs.Firsts.{fails_there}

-- ---- bytes without a line feed

-- No line feed comes next.
next_is_none : (front rest : List ℕ) → list_any (λ b. b == 10) front ≡ false → begins_with 10 rest ≡ false → begins_with 10 (front ++ rest) ≡ false
next_is_none [] rest none next = next
next_is_none (b ∷ front) rest none next = (or_parts (b == 10) _ none).0

-- They keep their carriage returns, where no line feed follows them.
without_returns-append : (front rest : List ℕ) → list_any (λ b. b == 10) front ≡ false → begins_with 10 rest ≡ false → without_returns (front ++ rest) ≡ front ++ without_returns rest
without_returns-append [] rest none next = refl
without_returns-append (b ∷ front) rest none next =
    let none_behind : list_any (λ b. b == 10) front ≡ false = (or_parts (b == 10) _ none).1 in
    cond-false _ _ _ (and_right (b == 13) _ (next_is_none front rest none_behind next))
    ∙ ap (λ bytes. b ∷ bytes) (without_returns-append front rest none_behind next)

-- Up to a line feed they are a piece.
pieces_of-feed : (front rest : List ℕ) → list_any (λ b. b == 10) front ≡ false → pieces_of (front ++ 10 ∷ rest) ≡ front ∷ pieces_of rest
pieces_of-feed [] rest none = refl
pieces_of-feed (b ∷ front) rest none =
    let parts : (b == 10 ≡ false) × (list_any (λ b. b == 10) front ≡ false) = or_parts (b == 10) _ none in
    cond-false _ _ _ parts.0 ∙ ap (in_front b) (pieces_of-feed front rest parts.1)

-- At the end they are the last piece.
pieces_of-last : (b : ℕ) (bytes : List ℕ) → list_any (λ b. b == 10) (b ∷ bytes) ≡ false → pieces_of (b ∷ bytes) ≡ (b ∷ bytes) ∷ []
pieces_of-last b [] none = cond-false _ _ _ (or_parts (b == 10) _ none).0
pieces_of-last b (c ∷ bytes) none =
    let parts : (b == 10 ≡ false) × (list_any (λ b. b == 10) (c ∷ bytes) ≡ false) = or_parts (b == 10) _ none in
    cond-false _ _ _ parts.0 ∙ ap (in_front b) (pieces_of-last c bytes parts.1)

-- ---- lines

-- The last line, which no line feed follows
pub lines_of-last : (text front rest : List ℕ) → text ≡ front ++ rest → length rest ≡ 0 → 0 < length text → list_any (λ b. b == 10) front ≡ false → lines_of text ≡ front ∷ lines_of rest
lines_of-last text front (b ∷ rest) split end some none = absurd (omega arith)
lines_of-last text [] [] split end some none = absurd (omega (arith, ap length split))
lines_of-last text (b ∷ front) [] split end some none =
    let whole : (b ∷ front) ++ [] ≡ b ∷ front = append-nil (b ∷ front) in
    ap lines_of split ∙ ap pieces_of (without_returns-append (b ∷ front) [] none refl ∙ whole) ∙ pieces_of-last b front none

-- They are without one in front of the last byte, and there.
none_in_front : (front : List ℕ) (b : ℕ) → list_any (λ b. b == 10) (front ++ b ∷ []) ≡ false → (list_any (λ b. b == 10) front ≡ false) × (list_any (λ b. b == 10) (b ∷ []) ≡ false)
none_in_front front b none = or_parts (list_any (λ b. b == 10) front) _ (sym (list_any-append (λ b. b == 10) front (b ∷ [])) ∙ none)

-- Bytes that end with a carriage return lose it before a line feed.
lines_of-returned : (front rest : List ℕ) → list_any (λ b. b == 10) (front ++ 13 ∷ []) ≡ false → lines_of ((front ++ 13 ∷ []) ++ 10 ∷ rest) ≡ front ∷ lines_of rest
lines_of-returned front rest none =
    let before = (none_in_front front 13 none).0 in
    ap lines_of (append_assoc front (13 ∷ []) (10 ∷ rest))
    ∙ ap pieces_of (without_returns-append front (13 ∷ 10 ∷ rest) before refl)
    ∙ pieces_of-feed front (without_returns rest) before

-- Other bytes keep all.
lines_of-plain : (front rest : List ℕ) (b : ℕ) → b == 13 ≡ false → list_any (λ b. b == 10) (front ++ b ∷ []) ≡ false → lines_of ((front ++ b ∷ []) ++ 10 ∷ rest) ≡ (front ++ b ∷ []) ∷ lines_of rest
lines_of-plain front rest b plain none =
    let parts = none_in_front front b none in
    let other : b == 10 ≡ false = (or_parts (b == 10) _ parts.1).0 in
    let kept : without_returns (b ∷ 10 ∷ rest) ≡ b ∷ 10 ∷ without_returns rest = cond-false _ _ _ (and_left (b == 13) _ plain) in
    ap lines_of (append_assoc front (b ∷ []) (10 ∷ rest))
    ∙ ap pieces_of (without_returns-append front (b ∷ 10 ∷ rest) parts.0 other ∙ ap (λ bytes. front ++ bytes) kept ∙ sym (append_assoc front (b ∷ []) (10 ∷ without_returns rest)))
    ∙ pieces_of-feed (front ++ b ∷ []) (without_returns rest) none

-- Bytes end with their last one.
last_apart : (bytes : List ℕ) → 0 < length bytes → bytes ≡ take (length bytes - 1) bytes ++ get_or bytes (length bytes - 1) 0 ∷ []
last_apart bytes some =
    let all : length bytes ≡ length bytes - 1 + 1 = omega arith in
    sym (take-length bytes) ∙ ap (λ n. take n bytes) all ∙ take_more bytes (length bytes - 1) 0 (omega arith)

lines_of-ended : (bytes front rest : List ℕ) (last : ℕ) → bytes ≡ front ++ last ∷ [] → list_any (λ b. b == 10) bytes ≡ false → (t : Bool) → last == 13 ≡ t → lines_of (bytes ++ 10 ∷ rest) ≡ cond t front bytes ∷ lines_of rest
lines_of-ended bytes front rest last split none true is =
    let ends : bytes ≡ front ++ 13 ∷ [] = split ∙ ap (λ b. front ++ b ∷ []) (eqb-true last 13 is) in
    ap (λ bs. lines_of (bs ++ 10 ∷ rest)) ends ∙ lines_of-returned front rest (subst (λ bs. list_any (λ b. b == 10) bs ≡ false) ends none)
lines_of-ended bytes front rest last split none false is =
    ap (λ bs. lines_of (bs ++ 10 ∷ rest)) split
    ∙ lines_of-plain front rest last is (subst (λ bs. list_any (λ b. b == 10) bs ≡ false) split none)
    ∙ ap (λ bs. bs ∷ lines_of rest) (sym split)

-- Bytes without a line feed are a line where one follows them.
pub lines_of-feed : (bytes rest : List ℕ) → list_any (λ b. b == 10) bytes ≡ false → lines_of (bytes ++ 10 ∷ rest) ≡ without_return bytes ∷ lines_of rest
lines_of-feed [] rest none = refl
lines_of-feed (b ∷ bytes) rest none =
    let n = length (b ∷ bytes) - 1 in
    lines_of-ended (b ∷ bytes) (take n (b ∷ bytes)) rest (get_or (b ∷ bytes) n 0) (last_apart (b ∷ bytes) (omega arith)) none (get_or (b ∷ bytes) n 0 == 13) refl

-- A text is cut behind its first line feed.
pub lines_of-cut : (text front rest line : List ℕ) (b : ℕ) → text ≡ front ++ b ∷ rest → drop (prefix_len (λ b. not (b == 10)) text) text ≡ b ∷ rest → ((more : List ℕ) → lines_of (front ++ 10 ∷ more) ≡ line ∷ lines_of more) → lines_of text ≡ line ∷ lines_of rest
lines_of-cut text front rest line b split behind first =
    let feed : b ≡ 10 = eqb-true b 10 (not-false (b == 10) (fails_there (λ b. not (b == 10)) text b rest behind)) in
    ap lines_of (split ∙ ap (λ b. front ++ b ∷ rest) feed) ∙ first rest
