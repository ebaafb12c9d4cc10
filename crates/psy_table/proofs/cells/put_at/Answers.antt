-- What is left of the proof of `cells::put_at`.
use Rattle.std.proofs.Common.{◌++◌, ap, ◌∙◌}
use Rattle.psy_table.proofs.CellLemmas.{items_set}
use Rattle.psy_table.proofs.cells.put_at.Goals as goal

pub returns-clause-put : goal.returns-clause-put
returns-clause-put c =
    items_set (λ text. text.items) c.args.texts.now c.args.place c.extend_from_slice.new.self c.args.text.now
    (c.in_ok-extend_from_slice.ensures.items ∙ ap (λ t. t ++ c.args.text.now) c.clear.ensures.items)
