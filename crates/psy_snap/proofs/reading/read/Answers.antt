-- What is left of the proof of `reading::read`.
use Rattle.std.proofs.Common.{arith}
use Rattle.psy_snap.specs.Forms.{form_of}
use Rattle.psy_snap.proofs.Answered.{has_form, in_ranges, is_fault, is_sound, is_spelled, is_within}
use Rattle.psy_snap.proofs.Readable.{readable}
use Rattle.psy_snap.proofs.reading.read.Goals as goal

pub state-requires-clause-plan : goal.state-requires-clause-plan
state-requires-clause-plan c = readable c.args.plan.now c.requires.plan

pub answer_of-requires-clause-within : goal.answer_of-requires-clause-within
answer_of-requires-clause-within c = is_within (form_of c.args.plan.now c.args.graphs.now) c.args.bytes.now c.state.result c.state.ensures

pub returns-clause-spelled : goal.returns-clause-spelled
returns-clause-spelled c = rw c.answer_of.ensures
    (is_spelled (form_of c.args.plan.now c.args.graphs.now) c.args.bytes.now c.state.result (λ i. omega (arith, c.type_inv.bytes i)) c.state.ensures)

pub returns-clause-sound : goal.returns-clause-sound
returns-clause-sound c = rw c.answer_of.ensures (is_sound (form_of c.args.plan.now c.args.graphs.now) c.args.bytes.now c.state.result c.state.ensures)

pub returns-clause-fits : goal.returns-clause-fits
returns-clause-fits c = rw c.answer_of.ensures
    (has_form (form_of c.args.plan.now c.args.graphs.now) c.args.bytes.now c.state.result (λ i. omega (arith, c.type_inv.bytes i)) c.state.ensures)

pub returns-clause-ranges : goal.returns-clause-ranges
returns-clause-ranges c = rw c.answer_of.ensures
    (in_ranges (form_of c.args.plan.now c.args.graphs.now) c.args.bytes.now c.state.result (λ i. omega (arith, c.type_inv.bytes i)) c.state.ensures)

pub returns-clause-fault : goal.returns-clause-fault
returns-clause-fault c = rw c.answer_of.ensures (is_fault (form_of c.args.plan.now c.args.graphs.now) c.args.bytes.now c.state.result c.state.ensures)
