-- What each loop of `tables::rows::acts_of` keeps.
use Rattle.std.proofs.Common.{◌≡◌, ◌==◌, take}
use Rattle.std.specs.Prelude.{filter}
use Rattle.psy_audit.specs.declared.said.Act.{Act}
use Rattle.psy_audit.proofs.tables.rows.acts_of.Given as goal

-- Those among the items so far
abbrev pub invariant-acts : goal.invariant-acts
invariant-acts l = l.its ≡ filter (λ (x : Act). x.agent == l.agent) (take l.act-index l.acts)
