-- What is left of the proof of `cells::Cells::clear`.
use Rattle.std.proofs.Common.{◌≡◌, ◌++◌, [], drop, length, map, replicate, take, vec_len, ap, ◌∙◌, arith}
use Rattle.psy_lists.proofs.lemmas.Places.{written_back}
use Rattle.psy_table.specs.CellsState.{CellsState, cells_of}
use Rattle.psy_table.proofs.CellLemmas.{empty_each, same_cells}
use Rattle.psy_table.proofs.cells.Cells.clear.Goals as goal

pub returns : goal.returns
returns c =
    let texts = c.self.inside.texts in
    let as_many = ap length c.as_mut_slice.ensures.value in
    let back = written_back texts.items c.clear_all.new.texts texts.len (omega (arith, texts.ok)) (c.clear_all.ensures.as_many ∙ as_many) in
    let inside : vec_len texts ≡ length c.self.inside.names = c.self.invariant in
    let sizes : length texts.items ≡ length c.self.inside.names = omega (arith, inside, texts.ok) in
    let named = ap (λ s. s.names) c.self.view_is in
    let new : CellsState = record {
      names = c.self.inside.names;
      texts = map (λ text. text.items) (take texts.len (c.clear_all.new.texts ++ drop (length c.clear_all.new.texts) texts.items));
    } in
    same_cells new (cells_of (λ _. []) c.args.self.now.names) named
    (ap (map (λ text. text.items)) back ∙ c.clear_all.ensures.empty ∙ ap (λ n. replicate n []) (as_many ∙ sizes) ∙ empty_each c.self.inside.names
    ∙ ap (map (λ _. [])) named)
