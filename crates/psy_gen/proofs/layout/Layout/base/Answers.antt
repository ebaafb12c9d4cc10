-- What is left of the proof of `layout::Layout::base`.
use Rattle.std.proofs.Common.{sym, ap, ◌∙◌, take}
use Rattle.psy_tree.specs.Paths.{total}
use Rattle.psy_gen.specs.Emission.{Layout}
use Rattle.psy_gen.proofs.Spans.{base_found, base_behind}
use Rattle.psy_gen.proofs.layout.Layout.base.Goals as goal

pub returns-in-Some : goal.returns-in-Some
returns-in-Some c =
    base_found c.self.inside.spans c.args.slot c.self.inside.size c.in-Some.span.now c.self.invariant (sym c.in-Some.ensures.value) ∙ ap (λ (l : Layout). total (take c.args.slot l)) c.self.view_is

pub returns-in-None : goal.returns-in-None
returns-in-None c =
    base_behind c.self.inside.spans c.args.slot c.self.inside.size c.self.invariant (sym c.in-None.ensures.value) ∙ ap (λ (l : Layout). total (take c.args.slot l)) c.self.view_is
