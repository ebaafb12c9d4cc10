-- What is left of the proof of `stopped::Stopped::add_stop`.
use Rattle.std.proofs.Common.{None, map, refl, sym, ◌∙◌}
use Rattle.psy_draw.specs.Gathering.{Pushes}
use Rattle.psy_draw.specs.Homes.{home_at, housed_of}
use Rattle.psy_draw.specs.Planning.{Shown, Stopped}
use Rattle.psy_draw.specs.Scales.{place_by}
use Rattle.psy_draw.proofs.Lanes.{pushed}
use Rattle.psy_draw.proofs.Refused.{if_ok}
use Rattle.psy_draw.proofs.stopped.Stopped.add_stop.Goals as goal

pub returns-in-Some : goal.returns-in-Some
returns-in-Some c =
    let processor = home_at (map housed_of c.args.by.homes.now) c.args.agent.now in
    let shown : Shown = record { name = c.args.agent.now; silent = None; content = Stopped c.args.date c.args.trap processor } in
    let is = c.new.ensures in
    if_ok (Pushes _ c.args.self.now c.push.new.self) _ c.push.result
    (λ pushes known. pushed (place_by c.args.by.scale.now) _ shown _ c.args.self.now c.push.new.self (sym c.is_shown.ensures ∙ c.if-not-is_shown.false) pushes
    c.in-Some.ensures refl (is.0, is.1, is.2 ∙ c.home_at.ensures, is.3)) c.push.ensures
