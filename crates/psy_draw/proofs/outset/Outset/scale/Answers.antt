-- What is left of the proof of `outset::Outset::scale`.
use Rattle.std.proofs.Common.{◌<◌, subst}
use Rattle.psy_draw.specs.Places.{window_end}
use Rattle.psy_draw.proofs.Pictured.{scale_counted}
use Rattle.psy_draw.proofs.outset.Outset.scale.Goals as goal

pub returns-clause-scale : goal.returns-clause-scale
returns-clause-scale c = scale_counted c.args.window c.args.self.now c.new.result c.new.ensures.from c.new.ensures.to c.new.ensures.grain c.new.ensures.some

pub returns-clause-none : goal.returns-clause-none
returns-clause-none c = λ e names from notes counts. subst (λ last. window_end c.args.window last < c.args.window.from) counts.last (c.new.ensures.none e)
