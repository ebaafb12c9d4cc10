-- What is left of the proof of `frames::Frames::home_cell`.
use Rattle.std.proofs.Common.{arith}
use Rattle.std.proofs.lemmas.Int.{to_z-of_z}
use Rattle.psy_machine.proofs.Laid.{home_cell}
use Rattle.psy_machine.proofs.frames.Frames.home_cell.Goals as goal

pub index-requires : goal.index-requires
index-requires c =
    let f = c.self.inside in
    omega (arith, (home_cell f c.args.self.now c.args.number c.self.view_is c.self.invariant c.requires).within)

pub returns : goal.returns
returns c =
    let f = c.self.inside in
    let home = home_cell f c.args.self.now c.args.number c.self.view_is c.self.invariant c.requires in
    let read = home.read c.index.result.now c.index.ensures in
    grind (arith, to_z-of_z, read)
