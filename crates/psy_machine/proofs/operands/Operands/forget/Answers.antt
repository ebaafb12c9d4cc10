-- What is left of the proof of `operands::Operands::forget`.
use Rattle.std.proofs.Common.{◌≡◌, ◌+◌, ◌-◌, length, ap, arith}
use Rattle.std.proofs.lemmas.List.{length-reverse}
use Rattle.psy_machine.specs.Parts.{OperandStack}
use Rattle.psy_machine.proofs.Reversed.{drop-reverse}
use Rattle.psy_machine.proofs.operands.Operands.forget.Goals as goal

pub returns : goal.returns
returns c =
    let v = c.self.inside.values in
    let long = ap (λ (o : OperandStack). length o.values) c.self.view_is in
    let cut : c.len.result - c.args.count + c.args.count ≡ length v.items = omega (arith, length-reverse v.items, v.ok.0, long) in
    rw (← c.self.view_is) (grind (arith, drop-reverse v.items c.args.count (c.len.result - c.args.count) cut))
