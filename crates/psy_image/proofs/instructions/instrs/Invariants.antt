-- What the loop of `instructions::instrs` keeps.
use Rattle.std.proofs.Common.{◌≡◌, ◌-◌}
use Rattle.psy_image.specs.Formats.{times}
use Rattle.psy_image.specs.Images.{instr, instrs}
use Rattle.psy_image.specs.Reading.{read}
use Rattle.psy_image.proofs.instructions.instrs.Given as goal

abbrev pub invariant-instrs : goal.invariant-instrs
invariant-instrs l = read (times (l.count - l.counter) instr l.instrs) l.rest ≡ read instrs l.bytes
