-- What is left of the proof of `cells::Cells::put`.
use Rattle.std.proofs.Common.{◌++◌, drop, is_some, length, map, refl, set, sym, take, ap, ◌∙◌, arith}
use Rattle.psy_lists.proofs.lemmas.Places.{written_back}
use Rattle.psy_table.specs.CellsState.{CellsState}
use Rattle.psy_table.proofs.CellLemmas.{cells_changed, cells_unchanged}
use Rattle.psy_table.proofs.cells.Cells.put.Goals as goal

pub returns-in_ok-put_at-in-Some : goal.returns-in_ok-put_at-in-Some
returns-in_ok-put_at-in-Some c = λ f names e.
    let texts = c.self.inside.texts in
    let back = written_back texts.items c.put_at.new.texts texts.len (omega (arith, texts.ok)) (c.in_ok-put_at-in-Some.ensures.as_many ∙ ap length c.as_mut_slice.ensures.value) in
    let old : CellsState = record { names = c.self.inside.names; texts = map (λ text. text.items) texts.items } in
    let new : CellsState = record {
      names = c.self.inside.names;
      texts = map (λ text. text.items) (take texts.len (c.put_at.new.texts ++ drop (length c.put_at.new.texts) texts.items));
    } in
    cells_changed f c.args.name.now (λ _. c.args.text.now) names old new c.in-Some.place c.place.ensures.distinct (sym c.place.ensures.place ∙ c.in-Some.is)
    (c.self.view_is ∙ e) refl
    (ap (map (λ text. text.items)) back ∙ c.in_ok-put_at-in-Some.ensures.put
    ∙ ap (λ ts. set (map (λ text. text.items) ts) c.in-Some.place c.args.text.now) c.as_mut_slice.ensures.value)

pub returns-in-None : goal.returns-in-None
returns-in-None c = λ f names e.
    let old : CellsState = record { names = c.self.inside.names; texts = map (λ text. text.items) c.self.inside.texts.items } in
    sym c.self.view_is ∙ cells_unchanged f c.args.name.now (λ _. c.args.text.now) names old (sym c.place.ensures.found ∙ ap is_some c.in-None.is) (c.self.view_is ∙ e)
