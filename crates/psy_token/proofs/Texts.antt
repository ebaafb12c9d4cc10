-- Whole texts: the pieces so far, and that a text splits in one way.
use Rattle.std.proofs.Common.{◌≡◌, ℕ, ◌+◌, ◌-◌, ◌≤◌, List, [], ◌∷◌, ◌++◌, length, take, drop, refl, ap, sym, subst, ◌∙◌, Option, Some, None, arith, inl, inr}
use Rattle.std.specs.Prelude.{Result, Ok, Err, IfOk, IfErr}
use Rattle.std.proofs.lemmas.List.{append_assoc, append_cancel_left, flat_map_more, length-append, length-drop, length-take-le, drop-drop, drop_at, drop_all}
use Rattle.psy_tree.specs.declared.token.Kind.{Kind}
use Rattle.psy_tree.specs.declared.token.Token.{Token}
use Rattle.psy_tree.specs.Tokens.{Piece, Separator, Lexeme, bytes_of, text_of, IsPiece, AllStand, Splits, tokens_from, TokensOf}
use Rattle.psy_tree.specs.declared.faults.LexKind.{LexKind}
use Rattle.psy_tree.specs.Faults.{IsAtFault, FirstFault}
use Rattle.psy_token.specs.declared.fault.LexFault.{LexFault}
use Rattle.psy_token.specs.declared.fault.LexFault.TheVariants as answers
use Rattle.psy_token.specs.Answer.{IsFirstFault, GivesTokens, GivesFault}
use Rattle.psy_token.specs.Reading.{Front, End, Whole, Faulty, front_of, piece_by, with_token, FaultGives}
use Rattle.psy_token.proofs.Sound.{Has, front_has}
use Rattle.psy_token.proofs.Complete.{front_stands, front_faulty}

-- One more piece

text_of-push : (pieces : List Piece) (piece : Piece) (rest : List ℕ) → text_of pieces ++ (bytes_of piece ++ rest) ≡ text_of (pieces ++ piece ∷ []) ++ rest
text_of-push pieces piece rest = sym (append_assoc (text_of pieces) (bytes_of piece) rest) ∙ ap (λ l. l ++ rest) (flat_map_more bytes_of [] pieces piece)

AllStand-push : (pieces : List Piece) (piece : Piece) (rest : List ℕ) → AllStand pieces (bytes_of piece ++ rest) → IsPiece piece rest → AllStand (pieces ++ piece ∷ []) rest
AllStand-push [] piece rest all stands = (stands, tt)
AllStand-push (p ∷ pieces) piece rest all stands = (subst (IsPiece p) (text_of-push pieces piece rest) all.0, AllStand-push pieces piece rest all.1 stands)

Splits-push : (text : List ℕ) (pieces : List Piece) (all : List ℕ) (piece : Piece) (rest : List ℕ) → Splits text pieces all → all ≡ bytes_of piece ++ rest → IsPiece piece rest → Splits text (pieces ++ piece ∷ []) rest
Splits-push text pieces all piece rest splits is stands = record {
  whole = splits.whole ∙ ap (λ l. text_of pieces ++ l) is ∙ text_of-push pieces piece rest;
  stand = AllStand-push pieces piece rest (subst (AllStand pieces) is splits.stand) stands;
}

place_more : (place : ℕ) (bytes text : List ℕ) → place + length bytes + length text ≡ place + length (bytes ++ text)
place_more place bytes text = omega (arith, length-append bytes text)

tokens-push : (place : ℕ) (pieces : List Piece) (kind : Option Kind) (bytes : List ℕ) → with_token (tokens_from place pieces) (place + length (text_of pieces)) kind ≡ tokens_from place (pieces ++ piece_by kind bytes ∷ [])
tokens-push place [] None bytes = refl
tokens-push place [] (Some kind) bytes = let e : place + 0 ≡ place = omega arith in ap (λ p. with_token [] p (Some kind)) e
tokens-push place (Separator b ∷ pieces) None bytes = tokens-push (place + length b) pieces None bytes
tokens-push place (Separator b ∷ pieces) (Some kind) bytes = ap (λ p. with_token (tokens_from (place + length b) pieces) p (Some kind)) (sym (place_more place b (text_of pieces))) ∙ tokens-push (place + length b) pieces (Some kind) bytes
tokens-push place (Lexeme k b ∷ pieces) None bytes = ap (λ ts. record { place = place; kind = k } ∷ ts) (tokens-push (place + length b) pieces None bytes)
tokens-push place (Lexeme k b ∷ pieces) (Some kind) bytes = ap (λ ts. record { place = place; kind = k } ∷ ts) (ap (λ p. with_token (tokens_from (place + length b) pieces) p (Some kind)) (sym (place_more place b (text_of pieces))) ∙ tokens-push (place + length b) pieces (Some kind) bytes)

bytes_of-piece_by : (kind : Option Kind) (bytes : List ℕ) → bytes_of (piece_by kind bytes) ≡ bytes
bytes_of-piece_by None bytes = refl
bytes_of-piece_by (Some kind) bytes = refl

-- The pass

-- What stands before `at` are pieces, with these tokens
abbrev pub State : List ℕ → ℕ → List Token → Type 0
State text at tokens = (at ≤ length text) × ((pieces : List Piece) × Splits text pieces (drop at text) × (at ≡ length (text_of pieces)) × (tokens ≡ tokens_from 0 pieces))

cut_rest : (rest : List ℕ) (kind : Option Kind) (len : ℕ) (after : List ℕ) → len ≤ length rest → rest ≡ bytes_of (piece_by kind (take len rest)) ++ after → after ≡ drop len rest
cut_rest rest kind len after within is =
    let e : rest ≡ take len rest ++ after = is ∙ ap (λ l. l ++ after) (bytes_of-piece_by kind (take len rest)) in
    sym (drop_at (take len rest) after len (length-take-le len rest within)) ∙ ap (drop len) (sym e)

pub State-more : (text : List ℕ) (at : ℕ) (tokens : List Token) (kind : Option Kind) (len : ℕ) → State text at tokens → front_of (drop at text) ≡ Whole (piece_by kind (take len (drop at text))) → len ≤ length (drop at text) → State text (at + len) (with_token tokens at kind)
State-more text at tokens kind len (within, (pieces, splits, at_is, tokens_are)) is fits =
    let rest = drop at text in
    let piece = piece_by kind (take len rest) in
    let has : Has rest (Whole piece) = subst (Has rest) is (front_has rest) in
    let after : has.0 ≡ drop (at + len) text = cut_rest rest kind len has.0 fits has.1 ∙ drop-drop len at text in
    let size : length (text_of (pieces ++ piece ∷ [])) ≡ at + len =
    ap length (sym (flat_map_more bytes_of [] pieces piece)) ∙ length-append (text_of pieces) (bytes_of piece) ∙ omega (arith, ap length (bytes_of-piece_by kind (take len rest)), length-take-le len rest fits, at_is) in (
      omega (arith, length-drop at text),
      (
        pieces ++ piece ∷ [],
        subst (λ r. Splits text (pieces ++ piece ∷ []) r) after (Splits-push text pieces rest piece has.0 splits has.1 has.2),
        sym size,
        ap (λ p. with_token tokens p kind) at_is ∙ ap (λ ts. with_token ts (length (text_of pieces)) kind) tokens_are ∙ ap (λ n. with_token (tokens_from 0 pieces) n kind) (omega arith) ∙ tokens-push 0 pieces kind (take len rest),
      ),
    )

-- At the end they are all
pub State-end : (text : List ℕ) (at : ℕ) (tokens : List Token) → State text at tokens → length text ≤ at → TokensOf text tokens
State-end text at tokens (within, (pieces, splits, at_is, tokens_are)) end = (pieces, subst (Splits text pieces) (drop_all at text end) splits, tokens_are)

first_fault : (text : List ℕ) (at : ℕ) (tokens : List Token) (fault : LexKind) (behind place : ℕ) → State text at tokens → place ≡ at + behind → front_of (drop at text) ≡ Faulty fault behind → FirstFault text fault place
first_fault text at tokens fault behind place (within, (pieces, splits, at_is, tokens_are)) place_is is =
    let has : Has (drop at text) (Faulty fault behind) = subst (Has (drop at text)) is (front_has (drop at text)) in
    (pieces, drop at text, behind, splits, has, omega (arith, place_is, at_is))

-- The fault that is met is the first one
pub IsFirstFault-met : (text : List ℕ) (at : ℕ) (tokens : List Token) (fault : LexFault) → State text at tokens → FaultGives at fault (front_of (drop at text)) → IsFirstFault text fault
IsFirstFault-met text at tokens (answers.Lexical kind place) state (above, is) = first_fault text at tokens kind (place - at) place state (omega (arith, above)) is
IsFirstFault-met text at tokens answers.Memory state met = tt

-- One way to split

abbrev IsLast : Front → Type 0
IsLast End = Unit {0}
IsLast (Whole piece) = ⊥
IsLast (Faulty fault behind) = Unit {0}

front_end : front_of [] ≡ End
unfolding front_of
front_end = refl

whole_first : (piece : Piece) (pieces : List Piece) (rest : List ℕ) → AllStand (piece ∷ pieces) rest → front_of (text_of (piece ∷ pieces) ++ rest) ≡ Whole piece
whole_first piece pieces rest all = ap front_of (append_assoc (bytes_of piece) (text_of pieces) rest) ∙ front_stands piece (text_of pieces ++ rest) all.0

one_split : (ps qs : List Piece) (r s : List ℕ) → AllStand ps r → AllStand qs s → text_of ps ++ r ≡ text_of qs ++ s → IsLast (front_of r) → IsLast (front_of s) → (ps ≡ qs) × (r ≡ s)
one_split [] [] r s all others same r_last s_last = (refl, same)
one_split [] (q ∷ qs) r s all others same r_last s_last = absurd (subst IsLast (ap front_of same ∙ whole_first q qs s others) r_last)
one_split (p ∷ ps) [] r s all others same r_last s_last = absurd (subst IsLast (ap front_of (sym same) ∙ whole_first p ps r all) s_last)
one_split (p ∷ ps) (q ∷ qs) r s all others same r_last s_last =
    let first : Whole p ≡ Whole q = sym (whole_first p ps r all) ∙ ap front_of same ∙ whole_first q qs s others in
    let e : p ≡ q = cc in
    let flat : bytes_of p ++ (text_of ps ++ r) ≡ bytes_of p ++ (text_of qs ++ s) =
    sym (append_assoc (bytes_of p) (text_of ps) r) ∙ same ∙ append_assoc (bytes_of q) (text_of qs) s ∙ ap (λ x. bytes_of x ++ (text_of qs ++ s)) (sym e) in
    let later = one_split ps qs r s all.1 others.1 (append_cancel_left (bytes_of p) (text_of ps ++ r) (text_of qs ++ s) flat) r_last s_last in
    (λ i. e i ∷ later.0 i, later.1)

splits_once : (text : List ℕ) (ps qs : List Piece) (r s : List ℕ) → Splits text ps r → Splits text qs s → IsLast (front_of r) → IsLast (front_of s) → (ps ≡ qs) × (r ≡ s)
splits_once text ps qs r s a b r_last s_last = one_split ps qs r s a.stand b.stand (sym a.whole ∙ b.whole) r_last s_last

end_last : IsLast (front_of [])
end_last = subst IsLast (sym front_end) tt

fault_last : (fault : LexKind) (rest : List ℕ) (behind : ℕ) → IsAtFault fault rest behind → IsLast (front_of rest)
fault_last fault rest behind at = subst IsLast (sym (front_faulty fault rest behind at)) tt

pub TokensOf-once : (text : List ℕ) (ts us : List Token) → TokensOf text ts → TokensOf text us → ts ≡ us
TokensOf-once text ts us (ps, a, are) (qs, b, others) = are ∙ ap (tokens_from 0) (splits_once text ps qs [] [] a b end_last end_last).0 ∙ sym others

pub FirstFault-once : (text : List ℕ) (f g : LexKind) (p q : ℕ) → FirstFault text f p → FirstFault text g q → (f ≡ g) × (p ≡ q)
FirstFault-once text f g p q (ps, r, m, a, x, p_is) (qs, s, n, b, y, q_is) =
    let same = splits_once text ps qs r s a b (fault_last f r m x) (fault_last g s n y) in
    let e : Faulty f m ≡ Faulty g n = sym (front_faulty f r m x) ∙ ap front_of same.1 ∙ front_faulty g s n y in
    let kinds : f ≡ g = cc in
    let behinds : m ≡ n = cc in
    (kinds, p_is ∙ (λ i. length (text_of (same.0 i)) + behinds i) ∙ sym q_is)

pub not_both : (text : List ℕ) (ts : List Token) (f : LexKind) (p : ℕ) → TokensOf text ts → FirstFault text f p → ⊥
not_both text ts f p (ps, a, are) (qs, s, n, b, y, p_is) =
    let same = splits_once text ps qs [] s a b end_last (fault_last f s n y) in
    let e : End ≡ Faulty f n = sym front_end ∙ ap front_of same.1 ∙ front_faulty f s n y in
    cc

-- The answers

pub gives_tokens : (text : List ℕ) (answer : Result (List Token) LexFault) → IfOk answer (λ ts. TokensOf text ts) → IfErr answer (λ f. IsFirstFault text f) → (tokens : List Token) → TokensOf text tokens → GivesTokens answer tokens
gives_tokens text (Ok given) good bad tokens h = TokensOf-once text given tokens good h
gives_tokens text (Err (answers.Lexical kind p)) good bad tokens h = absurd (not_both text tokens kind p h bad)
gives_tokens text (Err answers.Memory) good bad tokens h = refl

same_fault : (text : List ℕ) (f g : LexKind) (p q : ℕ) → FirstFault text f p → FirstFault text g q → answers.Lexical f p ≡ answers.Lexical g q
same_fault text f g p q a b = let same = FirstFault-once text f g p q a b in λ i. answers.Lexical (same.0 i) (same.1 i)

pub gives_fault : (text : List ℕ) (answer : Result (List Token) LexFault) → IfOk answer (λ ts. TokensOf text ts) → IfErr answer (λ f. IsFirstFault text f) → (fault : LexKind) (place : ℕ) → FirstFault text fault place → GivesFault answer (answers.Lexical fault place)
gives_fault text (Ok given) good bad fault place h = not_both text given fault place good h
gives_fault text (Err (answers.Lexical kind p)) good bad fault place h = inl (same_fault text kind fault p place bad h)
gives_fault text (Err answers.Memory) good bad fault place h = inr refl
