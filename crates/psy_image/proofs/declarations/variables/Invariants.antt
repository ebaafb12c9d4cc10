-- What the loop of `declarations::variables` keeps.
use Rattle.std.proofs.Common.{◌≡◌, ◌-◌, ◌≤◌, length}
use Rattle.psy_image.specs.Formats.{times}
use Rattle.psy_image.specs.Images.{variable, variables}
use Rattle.psy_image.specs.Reading.{read}
use Rattle.psy_image.proofs.declarations.variables.Given as goal

abbrev pub invariant-variables : goal.invariant-variables
invariant-variables l = record {
  reads : read (times (l.count - l.counter) (variable l.clocks) (l.seen, l.list)) l.rest ≡ read (variables l.clocks l.fn.seen) l.bytes;
  few : length l.list ≤ l.counter;
}
