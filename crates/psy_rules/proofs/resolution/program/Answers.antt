-- What is left of the proof of `resolution::program`.
use Rattle.std.proofs.Common.{List, sym, subst}
use Rattle.psy_tree.specs.declared.raw.Item.{Item}
use Rattle.psy_tree.specs.Scope.{item_entries}
use Rattle.psy_rules.specs.Tables.{StandsFor}
use Rattle.psy_rules.specs.Numbering.{AreNumbers}
use Rattle.psy_rules.specs.Lowered.{KeepLimits}
use Rattle.psy_tree.proofs.lemmas.Limits.{names_of}
use Rattle.psy_rules.proofs.Room.{room_of}
use Rattle.psy_rules.proofs.resolution.program.Goals as goal

pub returns-clause-program : goal.returns-clause-program
returns-clause-program c =
    let same = sym c.as_slice.ensures in
    let Tables : List Item → Type 0 = λ xs. StandsFor c.args.globals.now (item_entries 0 xs) in
    let Numbers : List Item → Type 0 = λ xs. AreNumbers xs c.args.before.now in
    let limits : KeepLimits c.args.raw.now.items = record {
      names = names_of c.args.raw.now.items c.requires.limits;
      points = room_of c.args.raw.now c.requires.no_fault c.requires.limits;
    } in
    record {
      globals = subst Tables same c.requires.globals;
      numbers = subst Numbers same c.requires.numbers;
      limits = subst KeepLimits same limits;
    }
