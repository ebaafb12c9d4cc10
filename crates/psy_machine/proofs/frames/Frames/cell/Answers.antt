-- What is left of the proof of `frames::Frames::cell`.
use Rattle.std.proofs.Common.{ap, arith}
use Rattle.std.specs.Prelude.{slice_get}
use Rattle.std.proofs.lemmas.Int.{to_z-of_z}
use Rattle.psy_code.specs.Execution.{Frame}
use Rattle.psy_machine.proofs.Laid.{present, cell_within, slice_get-drop}
use Rattle.psy_machine.proofs.frames.Frames.cell.Goals as goal

pub overflow_add-self-inside : goal.overflow_add-self-inside
overflow_add-self-inside c =
    let f = c.self.inside in
    omega (arith, cell_within f c.args.self.now c.args.number c.self.view_is c.self.invariant c.requires, f.cells.ok.0)

pub index-requires : goal.index-requires
index-requires c =
    let f = c.self.inside in
    omega (arith, cell_within f c.args.self.now c.args.number c.self.view_is c.self.invariant c.requires, f.cells.ok.0)

pub returns : goal.returns
returns c =
    let f = c.self.inside in
    let m = c.args.self.now in
    let same = ap (λ (s : Frame). slice_get s.cells c.args.number) (present f m c.self.view_is c.self.invariant) in
    let read = slice_get-drop f.cells.items f.present.cells c.args.number c.index.result.now (cell_within f m c.args.number c.self.view_is c.self.invariant c.requires) c.index.ensures in
    grind (arith, to_z-of_z, read, same)
