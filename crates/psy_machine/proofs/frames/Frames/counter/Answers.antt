-- What is left of the proof of `frames::Frames::counter`.
use Rattle.std.proofs.Common.{ap, ◌∙◌, arith}
use Rattle.std.specs.Prelude.{slice_get}
use Rattle.psy_code.specs.Execution.{Frame}
use Rattle.psy_machine.proofs.Laid.{present, counter_within, slice_get-drop}
use Rattle.psy_machine.proofs.frames.Frames.counter.Goals as goal

pub overflow_add-self-inside : goal.overflow_add-self-inside
overflow_add-self-inside c =
    let f = c.self.inside in
    omega (arith, counter_within f c.args.self.now c.args.number c.self.view_is c.self.invariant c.requires, f.counters.ok.0)

pub index-requires : goal.index-requires
index-requires c =
    let f = c.self.inside in
    omega (arith, counter_within f c.args.self.now c.args.number c.self.view_is c.self.invariant c.requires, f.counters.ok.0)

pub returns : goal.returns
returns c =
    let f = c.self.inside in
    let m = c.args.self.now in
    let same = ap (λ (s : Frame). slice_get s.counters c.args.number) (present f m c.self.view_is c.self.invariant) in
    let read = slice_get-drop f.counters.items f.present.counters c.args.number c.index.result.now (counter_within f m c.args.number c.self.view_is c.self.invariant c.requires) c.index.ensures in
    same ∙ read
