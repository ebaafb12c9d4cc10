-- What is left of the proof of `cells::Cells::new`.
use Rattle.std.proofs.Common.{[], map, refl, replicate, ap, ◌∙◌}
use Rattle.psy_table.specs.CellsState.{CellsState, cells_of}
use Rattle.psy_table.proofs.CellLemmas.{empty_each, same_cells}
use Rattle.psy_table.proofs.cells.Cells.new.Goals as goal

pub returns : goal.returns
returns c =
    let new : CellsState = record { names = c.args.names; texts = map (λ text. text.items) c.in_ok-texts.texts.items } in
    same_cells new (cells_of (λ _. []) c.args.names) refl (c.in_ok-texts.ensures ∙ ap (λ n. replicate n []) c.len.ensures ∙ empty_each c.args.names)
