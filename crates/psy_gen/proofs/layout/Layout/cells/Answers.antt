-- What is left of the proof of `layout::Layout::cells`.
use Rattle.std.proofs.Common.{sym, ap, ◌∙◌}
use Rattle.std.specs.Prelude.{slice_index_or}
use Rattle.psy_gen.specs.Emission.{Layout}
use Rattle.psy_gen.proofs.Spans.{cells_past}
use Rattle.psy_gen.proofs.layout.Layout.cells.Goals as goal

pub returns-in-None : goal.returns-in-None
returns-in-None c = sym (cells_past c.self.inside.spans c.args.slot (sym c.in-None.ensures.value)) ∙ ap (λ (l : Layout). slice_index_or l c.args.slot 0) c.self.view_is
