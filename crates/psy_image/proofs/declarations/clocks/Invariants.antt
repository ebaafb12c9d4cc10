-- What the loop of `declarations::clocks` keeps.
use Rattle.std.proofs.Common.{◌≡◌, ◌-◌, ◌≤◌, length}
use Rattle.psy_image.specs.Formats.{times}
use Rattle.psy_image.specs.Images.{clock, clocks}
use Rattle.psy_image.specs.Reading.{read}
use Rattle.psy_image.proofs.declarations.clocks.Given as goal

abbrev pub invariant-clocks : goal.invariant-clocks
invariant-clocks l = record {
  reads : read (times (l.count - l.counter) clock (l.names, l.clocks)) l.rest ≡ read clocks l.bytes;
  few : length l.clocks ≤ l.counter;
}
