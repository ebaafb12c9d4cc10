-- What is left of the proof of `machine::Machine::new`.
use Rattle.std.proofs.Common.{◌≡◌, Some, refl}
use Rattle.std.specs.Prelude.{slice_get}
use Rattle.std.proofs.lemmas.Option.{slice_get_read}
use Rattle.psy_machine.proofs.machine.Machine.new.Goals as goal

pub returns-clause-new : goal.returns-clause-new
returns-clause-new c =
    let agent = c.index-as_slice-agent.result in
    let read = rw c.as_slice.ensures at c.index-as_slice-agent.is in
    let get : slice_get c.args.code.now.agents c.args.agent ≡ Some agent = slice_get_read c.args.code.now.agents _ c.args.agent agent refl c.requires read in
    (agent, get, refl, cc (c.start_of.ensures, c.in_ok-new.ensures.values, c.in_ok-new-2.ensures.home, c.in_ok-new-2.ensures.calls, c.in_ok-new-3.ensures))

pub returns-clause-of : goal.returns-clause-of
returns-clause-of c =
    let agent = c.index-as_slice-agent.result in
    let read = rw c.as_slice.ensures at c.index-as_slice-agent.is in
    let get : slice_get c.args.code.now.agents c.args.agent ≡ Some agent = slice_get_read c.args.code.now.agents _ c.args.agent agent refl c.requires read in
    (agent, get, c.in_ok-new.ensures.room, c.in_ok-new-2.ensures.room)
