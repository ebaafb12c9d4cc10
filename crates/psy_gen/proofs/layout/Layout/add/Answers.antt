-- What is left of the proof of `layout::Layout::add`.
use Rattle.std.proofs.Common.{refl, ap, arith}
use Rattle.psy_tree.specs.Paths.{total}
use Rattle.psy_gen.proofs.Spans.{all_cells, stand_more}
use Rattle.psy_gen.proofs.layout.Layout.add.Goals as goal

pub overflow_add-size : goal.overflow_add-size
overflow_add-size c = omega (arith, all_cells c.self.inside.spans 0 c.self.inside.size c.self.invariant, ap total c.self.view_is, c.requires)

pub invariant_of-self-2 : goal.invariant_of-self-2
invariant_of-self-2 c = rw c.in_ok-push.ensures.ok (stand_more c.self.inside.spans 0 c.self.inside.size (record { base = c.self.inside.size; cells = c.args.cells }) c.self.invariant refl)
