-- What each loop of `deep::first_too_deep` keeps.
use Rattle.std.proofs.Common.{◌≡◌, ℕ, ◌<◌}
use Rattle.psy_base.specs.declared.limits.TheConstants.{BRACKETS, OPERATORS}
use Rattle.psy_tree.specs.Deep.{bracket_depth, operators_since, IsTooDeep}
use Rattle.psy_parse.proofs.Front.{front}
use Rattle.psy_parse.proofs.deep.first_too_deep.Given as goal

abbrev pub invariant-loop-number : goal.invariant-loop-number
invariant-loop-number l = record {
  depth : bracket_depth (front l.tokens l.number) ≡ l.depth;
  since : operators_since (front l.tokens l.number) ≡ l.since;
  low_depth : l.depth < BRACKETS;
  low_since : l.since < OPERATORS;
  before : (n : ℕ) → n < l.number → IsTooDeep l.tokens n → ⊥;
}
