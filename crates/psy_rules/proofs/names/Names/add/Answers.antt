-- What is left of the proof of `names::Names::add`.
use Rattle.std.proofs.Common.{◌≡◌, false}
use Rattle.std.specs.Prelude.{is_some}
use Rattle.psy_tree.specs.Scope.{first_named}
use Rattle.psy_rules.proofs.Tables.{add_entry}
use Rattle.psy_rules.proofs.names.Names.add.Goals as goal

pub returns : goal.returns
returns c =
    let none : is_some (first_named c.args.name.now c.args.self.now) ≡ false = cc in
    let same : c.in_ok-from_bytes.field-0 ≡ c.args.name.now = cc (c.in_ok-from_bytes.ensures) in
    add_entry c.self.inside.table.entries c.insert.new.self.entries c.in_ok-from_bytes.field-0 c.args.name.now c.args.found c.args.self.now
    c.in_ok-insert.ensures.entries same c.self.view_is none
