-- What each loop of `header::add_declarations` keeps.
use Rattle.std.proofs.Common.{◌≡◌, ◌++◌, drop}
use Rattle.psy_wave.specs.Heads.{declared_from}
use Rattle.psy_wave.proofs.header.add_declarations.Given as goal

-- What was written goes on to all declarations
abbrev pub invariant-loop-place : goal.invariant-loop-place
invariant-loop-place l = l.out.items ++ declared_from l.type_text l.kind l.place (drop l.place l.names) ≡ l.initial.out.items ++ declared_from l.type_text l.kind 0 l.names
