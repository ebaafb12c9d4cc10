-- Where tokens begin.
use Rattle.std.proofs.Common.{◌≡◌, ℕ, zero, suc, ◌+◌, ◌<◌, ◌≤◌, List, [], ◌∷◌, length, Result, Err, Some, inl, inr, sym, ap, ◌∙◌, arith, length-append}
use Rattle.std.specs.Prelude.{slice_get}
use Rattle.std.proofs.lemmas.Option.{slice_get_within}
use Rattle.psy_tree.specs.declared.token.Token.{Token}
use Rattle.psy_tree.specs.Tokens.{Piece, Separator, Lexeme, text_of, tokens_from, TokensOf}
use Rattle.psy_token.specs.declared.fault.LexFault.{LexFault}
use Rattle.psy_token.specs.declared.fault.LexFault.TheVariants as lexing
use Rattle.psy_where.specs.declared.fault.WhereFault.{WhereFault}
use Rattle.psy_where.specs.declared.fault.WhereFault.TheVariants as faults
use Rattle.psy_where.specs.Lexing.{fault_of}
use Rattle.psy_where.specs.Places.{IsStart}

-- A token begins within its text.
start_of_piece : (pieces : List Piece) (place number : ℕ) (token : Token) → slice_get (tokens_from place pieces) number ≡ Some token → token.place ≤ place + length (text_of pieces)
start_of_piece [] place number token is = cc
start_of_piece (Separator bytes ∷ pieces) place number token is = omega (arith, start_of_piece pieces (place + length bytes) number token is, length-append bytes (text_of pieces))
start_of_piece (Lexeme kind bytes ∷ pieces) place zero token is =
    let first : place ≡ token.place = cc in
    omega arith
start_of_piece (Lexeme kind bytes ∷ pieces) place (suc number) token is = omega (arith, start_of_piece pieces (place + length bytes) number token is, length-append bytes (text_of pieces))

pub IsStart-within : (text : List ℕ) (tokens : List Token) (number place : ℕ) → TokensOf text tokens → IsStart tokens (length text) number place → place ≤ length text
IsStart-within text tokens number place (pieces, splits, are) (inl (end, is)) = omega arith
IsStart-within text tokens number place (pieces, splits, are) (inr (token, found, is)) =
    let first = start_of_piece pieces 0 number token (ap (λ ts. slice_get ts number) (sym are) ∙ found) in
    omega (arith, first, ap length splits.whole, length-append (text_of pieces) ([]))

-- There is none behind the end.
pub IsStart-end : (tokens : List Token) (end number place : ℕ) → IsStart tokens end number place → length tokens < number → ⊥
IsStart-end tokens end number place (inl (same, is)) less = omega arith
IsStart-end tokens end number place (inr (token, found, is)) less = omega (arith, slice_get_within tokens number token found)

-- Want of memory is no want of a place.
pub not_beyond : {A : Type 0} (answer : Result A WhereFault) (made : WhereFault) (fault : LexFault) → answer ≡ Err made → made ≡ fault_of fault → fault ≡ lexing.Memory → answer ≡ Err faults.Beyond → ⊥
not_beyond answer made fault is from memory beyond =
    let same : made ≡ faults.Memory = from ∙ ap fault_of memory in
    cc
