-- Tokens with their numbers.
use Rattle.std.proofs.Common.{◌≡◌, ℕ, zero, suc, ◌+◌, List, [], ◌∷◌, ◌++◌, length, take, refl, sym, ap, ◌∙◌, arith}
use Rattle.psy_tree.specs.declared.token.Token.{Token}
use Rattle.psy_tree.specs.declared.token.Kind.{Kind}
use Rattle.psy_tree.specs.Grammar.{Numbered, numbered}
use Rattle.psy_parse.proofs.Steps.{numbers}

pub length_of_numbered : (n : ℕ) (tokens : List Token) → length (numbered n tokens) ≡ length tokens
length_of_numbered n [] = refl
length_of_numbered n (token ∷ tokens) = ap suc (length_of_numbered (suc n) tokens)

pub numbered-append : (n : ℕ) (before after : List Token) → numbered n (before ++ after) ≡ numbered n before ++ numbered (n + length before) after
numbered-append n [] after = let same : n + 0 ≡ n = omega arith in ap (λ k. numbered k after) (sym same)
numbered-append n (token ∷ before) after =
    let same : suc n + length before ≡ n + length (token ∷ before) = omega arith in
    ap (λ (ts : List Numbered). (n, token.kind) ∷ ts) (numbered-append (suc n) before after ∙ ap (λ k. numbered (suc n) before ++ numbered k after) same)

pub numbered-take : (n i : ℕ) (tokens : List Token) → numbered n (take i tokens) ≡ take i (numbered n tokens)
numbered-take n zero tokens = refl
numbered-take n (suc i) [] = refl
numbered-take n (suc i) (token ∷ tokens) = ap (λ (ts : List Numbered). (n, token.kind) ∷ ts) (numbered-take (suc n) i tokens)

-- Tokens of these kinds
pub tokens_of : List Kind → List Token
tokens_of [] = []
tokens_of (kind ∷ kinds) = record { place = 0; kind = kind } ∷ tokens_of kinds

pub numbered-tokens_of : (n : ℕ) (kinds : List Kind) → numbered n (tokens_of kinds) ≡ numbers n kinds
unfolding tokens_of
numbered-tokens_of n [] = refl
numbered-tokens_of n (kind ∷ kinds) = ap (λ (ts : List Numbered). (n, kind) ∷ ts) (numbered-tokens_of (suc n) kinds)
