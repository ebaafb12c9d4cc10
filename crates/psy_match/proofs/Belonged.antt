-- Whether a run is of a program, once all its notes were taken in.
use Rattle.std.proofs.Common.{◌≡◌, ◌∙◌, ℕ, ◌+◌, ◌-◌, ◌^◌, ◌<◌, ◌==◌, Bool, true, false, List, [], None, Some, append-nil, cond, length, min, sym, ap, arith}
use Rattle.psy_log.specs.declared.note.Note.{Note}
use Rattle.psy_match.specs.Belonging.{Belongs, foreign_in_run, found_or, further, left_over}
use Rattle.psy_match.specs.declared.run.Belonging.{Belonging}
use Rattle.psy_tree.specs.declared.unit.Unit.{Unit as Whole}

-- How much is left
abbrev left_in : Belonging → ℕ
left_in b = length b.left.agents.now + length b.left.variables.now + length b.left.streams.now

module _ (unit : Whole) (notes : List Note) (b : Belonging) (belongs : Belongs unit notes b) (few : length notes < 2 ^ 64 - 1) where
  at_end : foreign_in_run unit notes ≡ found_or b.foreign b.notes (left_over (left_in b))
  at_end = ap (foreign_in_run unit) (sym (append-nil notes)) ∙ belongs.goes_on few []

  pub where_found : (number : ℕ) → b.foreign ≡ Some number → Some number ≡ foreign_in_run unit notes
  where_found number is = sym (at_end ∙ ap (λ found. found_or found b.notes (left_over (left_in b))) is)

  by_left : b.foreign ≡ None → (none : Bool) → (left_in b == 0) ≡ none → foreign_in_run unit notes ≡ further b.notes (cond none None (Some 1))
  by_left is none e =
      at_end ∙ ap (λ found. found_or found b.notes (left_over (left_in b))) is ∙ ap (λ none. further b.notes (cond none None (Some 1))) e

  pub where_none : b.foreign ≡ None → (left_in b == 0) ≡ true → None ≡ foreign_in_run unit notes
  where_none is none = sym (by_left is true none)

  pub where_lacking : b.foreign ≡ None → (left_in b == 0) ≡ false → (number : ℕ) → number ≡ min (b.notes + 1) (2 ^ 64 - 1)
      → Some number ≡ foreign_in_run unit notes
  where_lacking is some number e = ap Some (omega (arith, e, few, belongs.count)) ∙ sym (by_left is false some)
