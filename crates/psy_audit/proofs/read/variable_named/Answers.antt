-- What is left of the proof of `read::variable_named`.
use Rattle.std.proofs.Common.{◌≡◌, ◌<◌, ◌∙◌, true, false, length, get_or, sym, subst, arith, ap}
use Rattle.std.specs.Prelude.{bytes_eq}
use Rattle.psy_tree.specs.declared.unit.VarDecl.{VarDecl}
use Rattle.psy_audit.proofs.Places.{position_behind, position_here}
use Rattle.psy_audit.proofs.read.variable_named.Goals as goal

pub returns-then-eq : goal.returns-then-eq
returns-then-eq c =
    let name = c.args.name.now in
    let p = λ (v : VarDecl). bytes_eq name v.name in
    let xs = c.args.unit.now.variables in
    let x = c.variable-item.result in
    let i = c.variables.place in
    let l : i < length xs = rw c.variables.invariant.counted (subst (λ ys. c.variables.variable-index < length ys) c.as_slice-variable-items.ensures c.variables-test.true) in
    let is : x ≡ get_or xs i x = rw c.variables.invariant.counted (subst (λ ys. x ≡ get_or ys c.variables.variable-index x) c.as_slice-variable-items.ensures c.variable-item.is) in
    let same : p x ≡ true = ap (bytes_eq name) (sym c.bytes.ensures) ∙ sym c.if-eq.ensures in
    omega (arith, c.variables.invariant.left, position_here p xs i x l is same)

pub variables-preserved : goal.variables-preserved
variables-preserved c =
    let name = c.args.name.now in
    let p = λ (v : VarDecl). bytes_eq name v.name in
    let xs = c.args.unit.now.variables in
    let x = c.variable-item.result in
    let i = c.variables.place in
    let l : i < length xs = rw c.variables.invariant.counted (subst (λ ys. c.variables.variable-index < length ys) c.as_slice-variable-items.ensures c.variables-test.true) in
    let is : x ≡ get_or xs i x = rw c.variables.invariant.counted (subst (λ ys. x ≡ get_or ys c.variables.variable-index x) c.as_slice-variable-items.ensures c.variable-item.is) in
    let other : p x ≡ false = ap (bytes_eq name) (sym c.bytes.ensures) ∙ sym c.if-eq.ensures in
    record {
      counted = omega (arith, c.variables.invariant.counted);
      left = omega (arith, c.variables.invariant.left, position_behind p xs i x l is other);
    }
