-- What the loop of `functions::values` keeps.
use Rattle.std.proofs.Common.{◌≡◌, ◌-◌}
use Rattle.psy_image.specs.Formats.{times}
use Rattle.psy_image.specs.Images.{value, values_up_to}
use Rattle.psy_image.specs.Reading.{read}
use Rattle.psy_image.proofs.functions.values.Given as goal

abbrev pub invariant-values : goal.invariant-values
invariant-values l = read (times (l.count - l.counter) value l.values) l.rest ≡ read (values_up_to l.most) l.bytes
