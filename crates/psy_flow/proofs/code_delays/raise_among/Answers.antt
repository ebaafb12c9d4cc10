-- What is left of the proof of `code_delays::raise_among`.
use Rattle.std.proofs.Common.{subst}
use Rattle.std.proofs.lemmas.List.{take_all}
use Rattle.psy_flow.specs.CodeLists.{HasDelayAmong, IsRaisedTo}
use Rattle.psy_flow.proofs.RaisedTo.{among_more, among_none}
use Rattle.psy_flow.proofs.code_delays.raise_among.Goals as goal

pub places-init : goal.places-init
places-init c = among_none c.args.unit.now c.args.instrs.now c.args.endings.now c.args.delays.now

pub raise_at-requires-clause-place : goal.raise_at-requires-clause-place
raise_at-requires-clause-place c = c.requires.inside c.places.place-index 0 c.places-test.true

pub places-preserved : goal.places-preserved
places-preserved c = among_more c.args.unit.now c.args.instrs.now c.args.endings.now c.args.places.now c.places.place-index c.args.delays.now c.places.delays c.raise_at.new.delays c.places-test.true c.places.invariant c.raise_at.ensures

pub returns : goal.returns
returns c =
    subst (λ places. IsRaisedTo (HasDelayAmong c.args.unit.now c.args.instrs.now c.args.endings.now places) c.args.delays.now c.places.delays)
    (take_all c.places.place-index c.args.places.now c.places-test.false) c.places.invariant
