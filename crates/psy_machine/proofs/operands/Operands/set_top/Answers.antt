-- What is left of the proof of `operands::Operands::set_top`.
use Rattle.std.proofs.Common.{◌≡◌, ◌+◌, ◌-◌, length, ap, arith}
use Rattle.std.proofs.lemmas.List.{length-reverse}
use Rattle.std.proofs.lemmas.Int.{to_z-of_z}
use Rattle.psy_machine.specs.Parts.{OperandStack}
use Rattle.psy_machine.proofs.Reversed.{reverse-set_last}
use Rattle.psy_machine.proofs.operands.Operands.set_top.Goals as goal

pub returns : goal.returns
returns c =
    let v = c.self.inside.values in
    let long = ap (λ (o : OperandStack). length o.values) c.self.view_is in
    let one : c.len-top.result - 1 + 1 ≡ length v.items = omega (arith, length-reverse v.items, v.ok.0, long) in
    rw (← c.self.view_is) (grind (arith, to_z-of_z, reverse-set_last v.items (c.len-top.result - 1) c.args.value one))
