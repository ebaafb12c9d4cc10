-- What each loop of `units::tell_steps` keeps.
use Rattle.std.proofs.Common.{◌≡◌, length}
use Rattle.psy_kernel.specs.Progress.{lines_told}
use Rattle.psy_drives.proofs.units.tell_steps.Given as goal

-- All lines of the date done last were given.
abbrev pub invariant-steps : goal.invariant-steps
invariant-steps g l = l.kernel.given ≡ length (lines_told l.kernel)
