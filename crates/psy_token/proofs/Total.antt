-- Each text has tokens, or a first fault.
use Rattle.std.proofs.Common.{◌≡◌, ℕ, zero, suc, ◌+◌, ◌<◌, ◌≤◌, List, [], ◌∷◌, ◌++◌, length, refl, ap, sym, subst, ◌∙◌, ◌⊎◌, inl, inr, arith, codes}
use Rattle.std.proofs.lemmas.List.{append_assoc, length-append}
use Rattle.psy_tree.specs.declared.token.Token.{Token}
use Rattle.psy_tree.specs.Tokens.{Piece, Separator, Lexeme, bytes_of, text_of, IsPiece, Splits, tokens_from, TokensOf}
use Rattle.psy_tree.specs.declared.faults.LexKind.{LexKind}
use Rattle.psy_tree.specs.Faults.{IsAtFault, FirstFault}
use Rattle.psy_tree.proofs.lemmas.TokenCounts.{kind_bytes}
use Rattle.psy_token.specs.Reading.{Front, End, Whole, Faulty, front_of}
use Rattle.psy_token.proofs.Sound.{Has, front_has}

some_bytes : (bytes other : List ℕ) → bytes ≡ other → 0 < length other → 0 < length bytes
some_bytes bytes other is some = omega (arith, ap length is)

-- No piece is empty
piece_bytes : (piece : Piece) (rest : List ℕ) → IsPiece piece rest → 0 < length (bytes_of piece)
piece_bytes (Separator bytes) rest (inl (b, blank, is)) = some_bytes bytes (b ∷ []) is (omega arith)
piece_bytes (Separator bytes) rest (inr (inl (inside, is, first))) = some_bytes bytes (codes "/*" ++ inside ++ codes "*/") is (omega arith)
piece_bytes (Separator bytes) rest (inr (inr (inside, is, each, ends))) = some_bytes bytes (codes "//" ++ inside) is (omega arith)
piece_bytes (Lexeme kind bytes) rest (is, ends) = kind_bytes kind bytes is

-- The text splits into pieces up to its end, or up to a fault
Read : List ℕ → Type 0
Read text = ((pieces : List Piece) × Splits text pieces []) ⊎ ((pieces : List Piece) × (rest : List ℕ) × (fault : LexKind) × (behind : ℕ) × Splits text pieces rest × IsAtFault fault rest behind)

Splits-cons : (text : List ℕ) (piece : Piece) (pieces : List Piece) (after rest : List ℕ) → text ≡ bytes_of piece ++ after → IsPiece piece after → Splits after pieces rest → Splits text (piece ∷ pieces) rest
Splits-cons text piece pieces after rest is stands later = record {
  whole = is ∙ ap (λ l. bytes_of piece ++ l) later.whole ∙ sym (append_assoc (bytes_of piece) (text_of pieces) rest);
  stand = (subst (IsPiece piece) later.whole stands, later.stand);
}

read_more : (text : List ℕ) (piece : Piece) (after : List ℕ) → text ≡ bytes_of piece ++ after → IsPiece piece after → Read after → Read text
unfolding Read
read_more text piece after is stands (inl (pieces, later)) = inl (piece ∷ pieces, Splits-cons text piece pieces after [] is stands later)
read_more text piece after is stands (inr (pieces, rest, fault, behind, later, at)) = inr (piece ∷ pieces, rest, fault, behind, Splits-cons text piece pieces after rest is stands later, at)

read_by : (text : List ℕ) (n : ℕ) → length text ≤ n → ((after : List ℕ) → length after < n → Read after) → (front : Front) → Has text front → Read text
unfolding Read
read_by text n fits later End is = inl ([], record { whole = is; stand = tt })
read_by text n fits later (Whole piece) (after, is, stands) =
    let some = piece_bytes piece after stands in
    read_more text piece after is stands (later after (omega (arith, ap length is, length-append (bytes_of piece) after, some)))
read_by text n fits later (Faulty fault behind) at = inr ([], text, fault, behind, record { whole = refl; stand = tt }, at)

read_up_to : (n : ℕ) (text : List ℕ) → length text ≤ n → Read text
read_up_to zero text fits = read_by text zero fits (λ after less. absurd (omega (arith, less))) (front_of text) (front_has text)
read_up_to (suc n) text fits = read_by text (suc n) fits (λ after less. read_up_to n after (omega (arith, less))) (front_of text) (front_has text)

either_of : (text : List ℕ) → Read text → ((tokens : List Token) × TokensOf text tokens) ⊎ ((fault : LexKind) × (place : ℕ) × FirstFault text fault place)
unfolding Read
either_of text (inl (pieces, splits)) = inl (tokens_from 0 pieces, (pieces, splits, refl))
either_of text (inr (pieces, rest, fault, behind, splits, at)) = inr (fault, length (text_of pieces) + behind, (pieces, rest, behind, splits, at, refl))

pub tokens_or_fault : (text : List ℕ) → ((tokens : List Token) × TokensOf text tokens) ⊎ ((fault : LexKind) × (place : ℕ) × FirstFault text fault place)
tokens_or_fault text = either_of text (read_up_to (length text) text (omega arith))
