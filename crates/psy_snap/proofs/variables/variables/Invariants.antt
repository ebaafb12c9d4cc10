-- What the loop of `variables::variables` keeps.
use Rattle.std.proofs.Common.{◌≡◌, [], drop}
use Rattle.psy_snap.specs.Forms.{form_of}
use Rattle.psy_snap.specs.Reading.{each_at, variable_at}
use Rattle.psy_snap.proofs.variables.variables.Given as goal

abbrev pub invariant-variables : goal.invariant-variables
invariant-variables l = each_at (variable_at l.fn.date) (drop l.number (form_of l.fn.plan []).variables) l.variables l.rest ≡ each_at (variable_at l.fn.date) (form_of l.fn.plan []).variables [] l.fn.bytes
