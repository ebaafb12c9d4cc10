-- What is left of the proof of `operands::Operands::below_top`.
use Rattle.std.proofs.Common.{◌≡◌, ◌+◌, ◌-◌, length, ap, arith}
use Rattle.std.proofs.lemmas.List.{length-reverse}
use Rattle.std.proofs.lemmas.Int.{to_z-of_z}
use Rattle.psy_machine.specs.Parts.{OperandStack}
use Rattle.psy_machine.proofs.Reversed.{second-reverse}
use Rattle.psy_machine.proofs.operands.Operands.below_top.Goals as goal

pub returns : goal.returns
returns c =
    let v = c.self.inside.values in
    let long = ap (λ (o : OperandStack). length o.values) c.self.view_is in
    let two : c.len.result - 2 + 2 ≡ length v.items = omega (arith, length-reverse v.items, v.ok.0, long) in
    rw (← c.self.view_is) (grind (arith, to_z-of_z, second-reverse v.items (c.len.result - 2) c.index.result.now two))
