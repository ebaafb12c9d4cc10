-- What is left of the proof of `cells::join_at`.
use Rattle.psy_table.specs.Cells.{joined}
use Rattle.psy_table.proofs.CellLemmas.{items_made}
use Rattle.psy_table.proofs.cells.join_at.Goals as goal

pub returns-clause-joined : goal.returns-clause-joined
returns-clause-joined c =
    items_made (λ text. text.items) c.args.texts.now c.args.place c.index-texts-place.result c.add_joined.new.cell (λ t. joined t c.args.text.now) c.requires
    c.in_ok-add_joined.ensures
