-- What is left of the proof of `acting::first_machine`.
use Rattle.std.proofs.Common.{refl, length}
use Rattle.std.proofs.lemmas.Option.{slice_get_read}
use Rattle.psy_trials.proofs.Actions.{rests_first}
use Rattle.psy_trials.proofs.acting.first_machine.Goals as goal

pub returns-clause-rests : goal.returns-clause-rests
returns-clause-rests c =
    let unit = c.args.unit.now in
    let agent = c.index-as_slice-agent.result in
    let sound = c.sound.ensures.unit c.requires.text.text.0 unit c.requires.text.text.1 in
    let is = rw c.as_slice.ensures at c.index-as_slice-agent.is in
    let of_unit = slice_get_read unit.agents (length unit.agents) c.args.agent agent refl c.requires.known is in
    rests_first unit c.args.code.now c.args.agent agent c.in_ok-machine.machine sound c.requires.alike of_unit c.in_ok-machine.ensures.new
    (c.keeps.ensures.first unit c.args.agent agent sound of_unit)
