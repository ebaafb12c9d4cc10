-- What each loop of `header::add_values` keeps.
use Rattle.std.proofs.Common.{◌≡◌, ◌++◌, ◌-◌}
use Rattle.psy_wave.specs.Heads.{all_valued}
use Rattle.psy_wave.proofs.header.add_values.Given as goal

-- What was written goes on to all
abbrev pub invariant-loop-place : goal.invariant-loop-place
invariant-loop-place l = l.out.items ++ all_valued l.value l.kind l.place (l.count - l.place) ≡ l.initial.out.items ++ all_valued l.value l.kind 0 l.count
