-- What is left of the proof of `acting::execute`.
use Rattle.std.proofs.Common.{refl, arith}
use Rattle.psy_trials.proofs.Actions.{able, permitted, behind_stepped}
use Rattle.psy_trials.proofs.acting.execute.Goals as goal

pub step-requires-clause-able : goal.step-requires-clause-able
step-requires-clause-able c = let w = c.requires.way in rw w.action.of_code (able _ _ _ _ _ w)

pub step-requires-clause-permitted : goal.step-requires-clause-permitted
step-requires-clause-permitted c =
    permitted _ _ _ _ _ c.requires.way
    (record { view = record { pasts = c.args.look.now.pasts; messages = c.args.look.now.messages.items }; streams = c.args.look.now.streams; clocks = c.args.look.now.clocks; room = c.reserve.new.self.cap; sends = c.reserve.new.self.items; noted = c.args.look.now.noted })
    refl c.requires.streams c.requires.clocks (omega (arith, c.in_ok-reserve.ensures.ok, c.in_ok-reserve.ensures.len))

pub returns-clause-behind : goal.returns-clause-behind
returns-clause-behind c = behind_stepped _ _ _ _ _ _ _ c.step.ensures.window c.step.ensures.machine c.step.ensures.answer c.requires.way
