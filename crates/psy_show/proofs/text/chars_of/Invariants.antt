-- What each loop of `text::chars_of` keeps.
use Rattle.std.proofs.Common.{◌≡◌, ◌+◌, ◌++◌, ◌≤◌, length}
use Rattle.bstr.specs.Utf8.{lossy_chars}
use Rattle.psy_show.proofs.text.chars_of.Given as goal

abbrev pub invariant-each : goal.invariant-each
invariant-each l = record {
  chars : l.chars.items ++ l.c-iterator ≡ lossy_chars l.fn.bytes;
  within : length l.chars.items + length l.c-iterator ≤ length l.fn.bytes;
}
