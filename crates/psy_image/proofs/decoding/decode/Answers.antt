-- What is left of the proof of `decoding::decode`.
use Rattle.std.proofs.Common.{arith}
use Rattle.psy_image.proofs.Decoded.{is_fault, is_first, is_only, is_spelled, is_within}
use Rattle.psy_image.proofs.decoding.decode.Goals as goal

pub answer_of-requires-clause-within : goal.answer_of-requires-clause-within
answer_of-requires-clause-within c = is_within c.args.bytes.now c.image.result (λ i. omega (arith, c.type_inv.bytes i)) c.image.ensures

pub returns-clause-spelled : goal.returns-clause-spelled
returns-clause-spelled c = rw c.answer_of.ensures (is_spelled c.args.bytes.now c.image.result (λ i. omega (arith, c.type_inv.bytes i)) c.image.ensures)

pub returns-clause-fault : goal.returns-clause-fault
returns-clause-fault c = rw c.answer_of.ensures (is_fault c.args.bytes.now c.image.result (λ i. omega (arith, c.type_inv.bytes i)) c.image.ensures)

pub returns-clause-only : goal.returns-clause-only
returns-clause-only c = rw c.answer_of.ensures (is_only c.args.bytes.now c.image.result c.image.ensures)

pub returns-clause-bad : goal.returns-clause-bad
returns-clause-bad c = rw c.answer_of.ensures (is_first c.args.bytes.now c.image.result (λ i. omega (arith, c.type_inv.bytes i)) c.image.ensures)
