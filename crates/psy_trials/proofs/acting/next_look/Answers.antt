-- What is left of the proof of `acting::next_look`.
use Rattle.std.proofs.Common.{◌≡◌, sym, subst}
use Rattle.psy_code.specs.Views.{View}
use Rattle.psy_meaning.specs.Alike.{IsViewOf}
use Rattle.psy_trials.proofs.Actions.{begins_at}
use Rattle.psy_trials.proofs.acting.next_look.Goals as goal

pub returns-clause-way : goal.returns-clause-way
returns-clause-way c =
    let unit = c.args.unit.now in
    let number = c.args._machine.now.agent in
    let its = c.requires.rests.0 in
    let r = c.requires.rests.3 in
    let view : View = record { pasts = c.in_ok-look.look.pasts; messages = c.in_ok-look.look.messages.items } in
    let sees : IsViewOf unit number view = subst (λ n. IsViewOf unit n view) (sym c.requires.agent) c.in_ok-look.ensures.view in
    let sound = c.sound.ensures.unit c.requires.text.text.0 unit c.requires.text.text.1 in
    begins_at unit c.args._code.now number r.agent its view c.args._machine.now.machine c.requires.rests.2 r.store r.counters
    c.requires.alike r.of_unit c.requires.rests.1 r.known r.holds r.counted r.stands sees
    (λ point store known holds. c.keeps.ensures.action unit number r.agent point store view sound r.of_unit known holds sees)
    (λ s t n point e. c.lasting.ensures.ended c.args._code.now its s t n point e)
    (λ s t n over. c.lasting.ensures.lasted c.args._code.now its s t n over)
