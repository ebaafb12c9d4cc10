-- The code of an expression goes on from place to place.
use Rattle.std.proofs.Common.{◌≡◌, ℕ, ◌+◌, List, [], ◌∷◌, ◌++◌, map, Some, refl, sym, subst, arith}
use Rattle.std.specs.Prelude.{slice_get}
use Rattle.psy_arith.specs.declared.operators.Op2.{Op2}
use Rattle.psy_arith.specs.declared.operators.Op2.TheVariants as op
use Rattle.psy_arith.specs.declared.width.Width.{Width}
use Rattle.psy_code.specs.declared.instr.Instr.{Instr}
use Rattle.psy_code.specs.declared.instr.Instr.TheVariants as instr
use Rattle.psy_tree.specs.declared.unit.Expr.{Expr, roll-Expr, map-Expr, ind-Expr}
use Rattle.psy_tree.specs.declared.unit.Expr.TheOpen.{Expr-F}
use Rattle.psy_tree.specs.Paths.{total}
use Rattle.psy_meaning.specs.Sizes.{binary_size, expr_size, expr_size_step}
use Rattle.psy_gen.specs.Emission.{Layout, Operand, base_of, cells_in_slot, width_of_unary, binary_code, arguments_code, expr_code_step, expr_code}
use Rattle.psy_gen.proofs.Contexts.{HasAt, has-first}
use Rattle.psy_gen.proofs.Equations.{operand, code_roll, size_roll}
use Rattle.psy_gen.proofs.ways.Behinds.{expr_behind}
use Rattle.psy_gen.proofs.ways.Passing.{Steps, steps_none, steps_one, steps_then, steps_to}
use Rattle.psy_gen.proofs.ways.Kinds.{IsPlain, Forks, plain_goes, fork_next}

module _ (instrs : List Instr) (layout : Layout) where
  abbrev pub E : Expr → Type 0
  E e = (p : ℕ) → HasAt instrs p (expr_code layout e p) → Steps instrs p (p + expr_size e)

  abbrev Known : Type 0
  Known = (e : Expr) × E e

  abbrev tree : Known → Expr
  tree k = k.0

  pub one_step : (i : Instr) (p : ℕ) → IsPlain i → slice_get instrs p ≡ Some i → Steps instrs p (p + 1)
  one_step i p is at = steps_one instrs i p at (plain_goes i p is)

  through : (ks : List Known) (rest : List Instr) (p : ℕ) → HasAt instrs p (arguments_code (map (operand layout) (map tree ks)) rest p)
      → Steps instrs p (p + total (map expr_size (map tree ks))) × HasAt instrs (p + total (map expr_size (map tree ks))) rest
  through [] rest p h = let z : p ≡ p + 0 = omega arith in (subst (Steps instrs p) z (steps_none instrs p), subst (λ q. HasAt instrs q rest) z h)
  through (k ∷ ks) rest p h =
      let n = expr_size k.0 in
      let more = total (map expr_size (map tree ks)) in
      let place : p + n + more ≡ p + (n + more) = omega arith in
      let code = arguments_code (map (operand layout) (map tree ks)) rest (p + n) in
      let others = through ks rest (p + n) (expr_behind instrs layout k.0 p code h) in (
        steps_to instrs p (p + n + more) (p + (n + more)) place
            (steps_then instrs p (p + n) (p + n + more) (k.1 p (has-first instrs p (expr_code layout k.0 p) code h)) others.0),
        subst (λ q. HasAt instrs q rest) place others.1,
      )

  then_one : (k : Known) (i : Instr) (p : ℕ) → IsPlain i → HasAt instrs p (expr_code layout k.0 p ++ i ∷ []) → Steps instrs p (p + (expr_size k.0 + 1))
  then_one k i p is h =
      let n = expr_size k.0 in
      let place : p + n + 1 ≡ p + (n + 1) = omega arith in
      steps_to instrs p (p + n + 1) (p + (n + 1)) place
      (steps_then instrs p (p + n) (p + n + 1) (k.1 p (has-first instrs p (expr_code layout k.0 p) (i ∷ []) h))
      (one_step i (p + n) is (expr_behind instrs layout k.0 p (i ∷ []) h).0))

  eager : (o : Op2) (w : Width) (l r : Known) (p : ℕ) → HasAt instrs p (expr_code layout l.0 p ++ (expr_code layout r.0 (p + expr_size l.0) ++ instr.Binary o w ∷ []))
      → Steps instrs p (p + (expr_size l.0 + (expr_size r.0 + 1)))
  eager o w l r p h =
      let a = expr_size l.0 in
      let code = expr_code layout r.0 (p + a) ++ instr.Binary o w ∷ [] in
      let place : p + a + (expr_size r.0 + 1) ≡ p + (a + (expr_size r.0 + 1)) = omega arith in
      steps_to instrs p (p + a + (expr_size r.0 + 1)) (p + (a + (expr_size r.0 + 1))) place
      (steps_then instrs p (p + a) (p + a + (expr_size r.0 + 1)) (l.1 p (has-first instrs p (expr_code layout l.0 p) code h))
      (then_one r (instr.Binary o w) (p + a) (tt {0}) (expr_behind instrs layout l.0 p code h)))

  lazy : (test : ℕ → Instr) (forks : (to : ℕ) → Forks (test to) to) (l r : Known) (p : ℕ)
      → HasAt instrs p (expr_code layout l.0 p ++
      (test (p + expr_size l.0 + 1 + expr_size r.0 + 1) ∷ (expr_code layout r.0 (p + expr_size l.0 + 1) ++ instr.Truth ∷ [])))
      → Steps instrs p (p + (expr_size l.0 + (expr_size r.0 + 2)))
  lazy test forks l r p h =
      let a = expr_size l.0 in
      let b = expr_size r.0 in
      let middle = p + a + 1 in
      let to = middle + b + 1 in
      let code = test to ∷ (expr_code layout r.0 middle ++ instr.Truth ∷ []) in
      let there = expr_behind instrs layout l.0 p code h in
      let place : middle + (b + 1) ≡ p + (a + (b + 2)) = omega arith in
      steps_to instrs p (middle + (b + 1)) (p + (a + (b + 2))) place
      (steps_then instrs p (p + a) (middle + (b + 1)) (l.1 p (has-first instrs p (expr_code layout l.0 p) code h))
      (steps_then instrs (p + a) middle (middle + (b + 1)) (steps_one instrs (test to) (p + a) there.0 (fork_next (test to) (p + a) to (forks to)))
      (then_one r instr.Truth middle (tt {0}) there.1)))

  binary : (o : Op2) (w : Width) (l r : Known) (p : ℕ) → HasAt instrs p (binary_code o w (operand layout l.0) (operand layout r.0) p)
      → Steps instrs p (p + (expr_size l.0 + (expr_size r.0 + binary_size o)))
  binary op.AndAnd w l r p h = lazy instr.AndTest (λ to. refl) l r p h
  binary op.OrOr w l r p h = lazy instr.OrTest (λ to. refl) l r p h
  binary o w l r p h = eager o w l r p h

  step : (y : Expr-F Known) (p : ℕ) → let x = map-Expr Known Expr tree y in HasAt instrs p
      (expr_code_step layout (map-Expr Expr Operand (operand layout) x) p) → Steps instrs p (p + expr_size_step (map-Expr Expr ℕ expr_size x))
  step (Expr-F.Number number) p h = one_step (instr.Push number) p (tt {0}) h.0
  step (Expr-F.Slot slot) p h = one_step (instr.Load (base_of layout slot)) p (tt {0}) h.0
  step (Expr-F.Copy variable) p h = one_step (instr.LoadCopy variable) p (tt {0}) h.0
  step (Expr-F.Cell slot index) p h = then_one index (instr.LoadCell (base_of layout slot) (cells_in_slot layout slot)) p (tt {0}) h
  step (Expr-F.Past variable back) p h = steps_one instrs (instr.Past variable back) p h.0 refl
  step (Expr-F.Ready stream) p h = one_step (instr.Ready stream) p (tt {0}) h.0
  step (Expr-F.Take stream) p h = one_step (instr.Take stream) p (tt {0}) h.0
  step (Expr-F.Unary operator width operand) p h = then_one operand (instr.Unary operator (width_of_unary operator width)) p (tt {0}) h
  step (Expr-F.Cast width operand) p h = then_one operand (instr.Cast width) p (tt {0}) h
  step (Expr-F.Binary operator width left right) p h = binary operator width left right p h
  step (Expr-F.Call function arguments) p h =
      let n = total (map expr_size (map tree arguments)) in
      let place : p + n + 1 ≡ p + (n + 1) = omega arith in
      let args = through arguments (instr.Call function ∷ []) p h in
      steps_to instrs p (p + n + 1) (p + (n + 1)) place (steps_then instrs p (p + n) (p + n + 1) args.0 (one_step (instr.Call function) (p + n) (tt {0}) args.1.0))

  layer : (y : Expr-F Known) → E (roll-Expr (map-Expr Known Expr tree y))
  layer y p h =
      let x : Expr-F Expr = map-Expr Known Expr tree y in
      subst (λ n. Steps instrs p (p + n)) (sym (size_roll x)) (step y p (subst (HasAt instrs p) (code_roll layout x p) h))

  pub expr_steps : (e : Expr) → E e
  expr_steps = ind-Expr E (λ x y is. subst (λ z. E (roll-Expr z)) is (layer y))
