-- A text has no more lines than bytes.
use Rattle.std.proofs.Common.{ℕ, ◌+◌, ◌≤◌, ◌==◌, ◌&&◌, cond, List, [], ◌∷◌, length, ap, inl, inr, arith}
use Rattle.std.proofs.lemmas.Bool.{cases_Bool}
use Rattle.std.proofs.lemmas.List.{length-map}
use Rattle.psy_text.specs.Lines.{begins_with, lines_of, pieces_of, without_returns}
use Rattle.psy_text.specs.Words.{in_front, words_of}
use Rattle.psy_tree.specs.declared.unit.Unit.{Unit as Whole}
use Rattle.psy_audit.specs.Texts.{lines_in, said_in}

front_few : (b : ℕ) (pieces : List (List ℕ)) → length (in_front b pieces) ≤ length pieces + 1
front_few b [] = omega arith
front_few b (piece ∷ pieces) = omega arith

pieces_few : (text : List ℕ) → length (pieces_of text) ≤ length text
pieces_few [] = omega arith
pieces_few (b ∷ rest) =
    let some = pieces_few rest in
    elim (cases_Bool (b == 10)) [
      | inl ends ↦ (let is = ap (λ t. length (cond t ([] ∷ pieces_of rest) (in_front b (pieces_of rest)))) ends in omega (arith, is, some))
      | inr more ↦ (let is = ap (λ t. length (cond t ([] ∷ pieces_of rest) (in_front b (pieces_of rest)))) more in
          let front = front_few b (pieces_of rest) in omega (arith, is, front, some))
    ]

returns_few : (text : List ℕ) → length (without_returns text) ≤ length text
returns_few [] = omega arith
returns_few (b ∷ rest) =
    let some = returns_few rest in
    let test = b == 13 && begins_with 10 rest in
    elim (cases_Bool test) [
      | inl dropped ↦ (let is = ap (λ t. length (cond t (without_returns rest) (b ∷ without_returns rest))) dropped in omega (arith, is, some))
      | inr kept ↦ (let is = ap (λ t. length (cond t (without_returns rest) (b ∷ without_returns rest))) kept in omega (arith, is, some))
    ]

pub lines_few : (unit : Whole) (until : ℕ) (text : List ℕ) → length (lines_in unit until text) ≤ length text
lines_few unit until text =
    let lines = length-map (lines_of text) (λ (line : List ℕ). said_in unit until (words_of line)) in
    let pieces = pieces_few (without_returns text) in
    let kept = returns_few text in
    omega (arith, lines, pieces, kept)
