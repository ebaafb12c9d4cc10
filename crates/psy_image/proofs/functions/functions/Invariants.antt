-- What the loop of `functions::functions` keeps.
use Rattle.std.proofs.Common.{◌≡◌, ◌-◌}
use Rattle.psy_image.specs.Formats.{times}
use Rattle.psy_image.specs.Images.{function, functions}
use Rattle.psy_image.specs.Reading.{read}
use Rattle.psy_image.proofs.functions.functions.Given as goal

abbrev pub invariant-functions : goal.invariant-functions
invariant-functions l = read (times (l.count - l.counter) function l.functions) l.rest ≡ read functions l.bytes
