-- What each loop of `decimal::decimal_value` keeps.
use Rattle.std.proofs.Common.{◌≡◌, ◌+◌, ◌*◌, ◌^◌, ◌<◌, drop, length}
use Rattle.psy_tree.specs.Lexemes.{decimal_value}
use Rattle.psy_text.proofs.decimal.decimal_value.Given as goal

-- The value so far, before the digits that are left
abbrev pub invariant-loop-digit : goal.invariant-loop-digit
invariant-loop-digit l = record {
  small : l.value < 2 ^ 64;
  so_far : l.value * 10 ^ length (drop l.digit-index l.digits) + decimal_value (drop l.digit-index l.digits) ≡ decimal_value l.digits;
}
