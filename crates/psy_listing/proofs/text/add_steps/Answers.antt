-- What is left of the proof of `text::add_steps`.
use Rattle.psy_listing.specs.Listing.{step_text}
use Rattle.psy_feed.proofs.lemmas.Ranges.{line_more}
use Rattle.psy_listing.proofs.text.add_steps.Goals as goal

pub steps-preserved : goal.steps-preserved
steps-preserved c =
    line_more (step_text c.args.unit.now c.args.instrs.now c.args.places.now) c.args.out.now.items c.steps.out.items c.add_step.new.out.items
    c.steps.number c.steps.invariant c.in_ok-add_step.ensures
