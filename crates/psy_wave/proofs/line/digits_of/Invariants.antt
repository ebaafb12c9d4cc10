-- What each loop of `line::digits_of` keeps.
use Rattle.std.proofs.Common.{◌≡◌, ◌++◌, ◌-◌, drop, length}
use Rattle.psy_wave.specs.Codes.{binary, word}
use Rattle.psy_wave.proofs.line.digits_of.Given as goal

-- The digits that are left and those that were found are all digits
abbrev pub invariant-loop-turn : goal.invariant-loop-turn
invariant-loop-turn l = record {
  size : length l.digits ≡ 32;
  found : word l.number ≡ binary (32 - l.turn) l.left ++ drop (32 - l.turn) l.digits;
}
