-- What is left of the proof of `plan::Plan::add_messages`.
use Rattle.std.proofs.Common.{None, refl, sym, ◌∙◌}
use Rattle.psy_draw.specs.Columns.{is_there}
use Rattle.psy_draw.specs.Lanes.{message_values}
use Rattle.psy_draw.specs.Planning.{Sent, Shown}
use Rattle.psy_draw.specs.Sources.{place_in}
use Rattle.psy_draw.proofs.Lanes.{added}
use Rattle.psy_draw.proofs.plan.Plan.add_messages.Goals as goal

pub columns_of-requires : goal.columns_of-requires
columns_of-requires c = c.requires (sym c.is_asked.ensures ∙ c.if-not-is_asked.false)

pub returns-clause-lanes : goal.returns-clause-lanes
returns-clause-lanes c = λ notes draws.
    let source = c.args.source in
    let messages = message_values source.scale.now.from source.scale.now.to in
    let shown : Shown = record { name = c.args.name.now; silent = None; content = Sent (messages c.args.name.now notes) } in
    added (place_in source) _ shown c.args.self.now.lanes.items c.push.new.self.items _ (sym c.is_asked.ensures ∙ c.if-not-is_asked.false)
    c.in_ok-push.ensures.items refl refl (c.in_ok-columns.ensures (place_in source) (is_there (place_in source)) (λ n. messages n notes) draws.streams)
