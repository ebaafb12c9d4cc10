-- What each loop of `read::variable_named` keeps.
use Rattle.std.proofs.Common.{◌≡◌, ◌+◌, drop}
use Rattle.std.specs.Prelude.{bytes_eq}
use Rattle.std.specs.List.{position_or_len}
use Rattle.psy_audit.proofs.read.variable_named.Given as goal

-- None so far has the name.
abbrev pub invariant-variables : goal.invariant-variables
invariant-variables l = record {
  counted : l.place ≡ l.variable-index;
  left : position_or_len (λ v. bytes_eq l.name v.name) l.unit.variables ≡ l.place + position_or_len (λ v. bytes_eq l.name v.name) (drop l.place l.unit.variables);
}
