-- What each loop of `tables::acts_in` keeps.
use Rattle.std.proofs.Common.{◌≡◌, take}
use Rattle.std.specs.List.{flat_map}
use Rattle.psy_audit.specs.Traces.{act_in, body}
use Rattle.psy_audit.proofs.tables.acts_in.Given as goal

-- What the lines so far tell of
abbrev pub invariant-lines : goal.invariant-lines
invariant-lines l = l.found ≡ flat_map act_in (take l.line-index (body l.fn.lines))
