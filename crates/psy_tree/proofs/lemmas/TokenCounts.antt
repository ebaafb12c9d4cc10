-- How many tokens there are: no more than bytes, and as many as numbers.
use Rattle.std.proofs.Common.{◌≡◌, ℕ, suc, ◌+◌, ◌<◌, ◌≤◌, List, [], ◌∷◌, length, refl, ap, arith}
use Rattle.std.proofs.lemmas.List.{length-append}
use Rattle.psy_tree.specs.declared.token.Kind.{Kind}
use Rattle.psy_tree.specs.declared.token.Kind.TheVariants as kinds
use Rattle.psy_tree.specs.declared.token.Token.{Token}
use Rattle.psy_tree.specs.declared.token.Word.{Word}
use Rattle.psy_tree.specs.declared.token.Word.TheVariants as words
use Rattle.psy_tree.specs.declared.token.Sign.{Sign}
use Rattle.psy_tree.specs.declared.token.Sign.TheVariants as signs
use Rattle.psy_tree.specs.Grammar.{numbered}
use Rattle.psy_tree.specs.Lexemes.{IsWord, IsNumber, IsSpelling, word_spelling, sign_spelling}
use Rattle.psy_tree.specs.Tokens.{Piece, Separator, Lexeme, text_of, AllStand, tokens_from, TokensOf}

spelled_word : (w : Word) → 0 < length (word_spelling w)
spelled_word words.Advance = omega arith
spelled_word _ = omega arith

spelled_sign : (s : Sign) → 0 < length (sign_spelling s)
spelled_sign signs.Semicolon = omega arith
spelled_sign _ = omega arith

word_bytes : (bytes : List ℕ) → IsWord bytes → 0 < length bytes
word_bytes [] is = absurd is
word_bytes (b ∷ bytes) is = omega arith

number_bytes : (bytes : List ℕ) → IsNumber bytes → 0 < length bytes
number_bytes [] is = absurd is
number_bytes (b ∷ bytes) is = omega arith

-- No spelling is empty
pub kind_bytes : (kind : Kind) (bytes : List ℕ) → IsSpelling kind bytes → 0 < length bytes
kind_bytes (kinds.Word w) bytes is = omega (arith, ap length is, spelled_word w)
kind_bytes (kinds.Name name) bytes (is, word, short, other) = omega (arith, ap length is, word_bytes name word)
kind_bytes (kinds.Number number) bytes (digits, is, small) = number_bytes bytes digits
kind_bytes (kinds.Sign s) bytes is = omega (arith, ap length is, spelled_sign s)

few_tokens : (place : ℕ) (pieces : List Piece) (rest : List ℕ) → AllStand pieces rest → length (tokens_from place pieces) ≤ length (text_of pieces)
few_tokens place [] rest stand = omega arith
few_tokens place (Separator bytes ∷ pieces) rest stand = omega (arith, few_tokens (place + length bytes) pieces rest stand.1, length-append bytes (text_of pieces))
few_tokens place (Lexeme kind bytes ∷ pieces) rest stand = omega (arith, few_tokens (place + length bytes) pieces rest stand.1, length-append bytes (text_of pieces), kind_bytes kind bytes stand.0.0)

pub length-TokensOf : (bytes : List ℕ) (tokens : List Token) → TokensOf bytes tokens → length tokens ≤ length bytes
length-TokensOf bytes tokens (pieces, splits, are) = omega (arith, few_tokens 0 pieces [] splits.stand, ap length are, ap length splits.whole, length-append (text_of pieces) ([]))

pub length_of_numbered : (n : ℕ) (tokens : List Token) → length (numbered n tokens) ≡ length tokens
length_of_numbered n [] = refl
length_of_numbered n (token ∷ tokens) = ap suc (length_of_numbered (suc n) tokens)
