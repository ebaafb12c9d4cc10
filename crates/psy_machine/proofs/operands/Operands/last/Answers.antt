-- What is left of the proof of `operands::Operands::last`.
use Rattle.std.proofs.Common.{◌≡◌, ◌+◌, ◌-◌, length, ap, arith}
use Rattle.std.proofs.lemmas.List.{length-reverse, take_rest}
use Rattle.psy_machine.specs.Parts.{OperandStack}
use Rattle.psy_machine.proofs.Reversed.{reverse-take-reverse}
use Rattle.psy_machine.proofs.operands.Operands.last.Goals as goal

pub returns : goal.returns
returns c =
    let v = c.self.inside.values in
    let long = ap (λ (o : OperandStack). length o.values) c.self.view_is in
    let cut : c.len.result - c.args.count + c.args.count ≡ length v.items = omega (arith, length-reverse v.items, v.ok.0, long) in
    rw (← c.self.view_is) (grind (arith, take_rest c.deref.result.now (c.len.result - c.args.count), reverse-take-reverse v.items c.args.count (c.len.result - c.args.count) cut))
