-- What is left of the proof of `frames::Frames::set_cell`.
use Rattle.std.proofs.Common.{arith}
use Rattle.std.proofs.Common.{w64, to_z, of_z, ◌≡◌}
use Rattle.std.proofs.lemmas.Int.{to_z-of_z}
use Rattle.psy_machine.proofs.Laid.{cell_within, set_cell_gives}
use Rattle.psy_machine.proofs.frames.Frames.set_cell.Goals as goal

pub overflow_add-place : goal.overflow_add-place
overflow_add-place c =
    let f = c.self.inside in
    omega (arith, cell_within f c.args.self.now c.args.number c.self.view_is c.self.invariant c.requires, f.cells.ok.0)

pub index_mut-requires : goal.index_mut-requires
index_mut-requires c =
    let f = c.self.inside in
    omega (arith, cell_within f c.args.self.now c.args.number c.self.view_is c.self.invariant c.requires, f.cells.ok.0)

pub returns : goal.returns
returns c =
    let value : to_z w64 (of_z w64 c.args.value) ≡ c.args.value = grind (arith, to_z-of_z) in
    rw value (set_cell_gives c.self.inside c.args.self.now c.args.number c.args.value c.self.view_is c.self.invariant)
