-- What is left of the proof of `frames::Frames::set_counter`.
use Rattle.std.proofs.Common.{arith}
use Rattle.psy_machine.proofs.Laid.{counter_within, set_counter_gives}
use Rattle.psy_machine.proofs.frames.Frames.set_counter.Goals as goal

pub overflow_add-place : goal.overflow_add-place
overflow_add-place c =
    let f = c.self.inside in
    omega (arith, counter_within f c.args.self.now c.args.number c.self.view_is c.self.invariant c.requires, f.counters.ok.0)

pub index_mut-requires : goal.index_mut-requires
index_mut-requires c =
    let f = c.self.inside in
    omega (arith, counter_within f c.args.self.now c.args.number c.self.view_is c.self.invariant c.requires, f.counters.ok.0)

pub returns : goal.returns
returns c = set_counter_gives c.self.inside c.args.self.now c.args.number c.args.turns c.self.view_is c.self.invariant
