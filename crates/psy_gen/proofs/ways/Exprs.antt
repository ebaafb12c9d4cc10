-- The code of expressions goes as their ways do.
use Rattle.std.proofs.Common.{◌≡◌, ℕ, ◌+◌, List, [], ◌∷◌, ◌++◌, map, refl, sym, subst, arith}
use Rattle.psy_arith.specs.declared.operators.Op2.{Op2}
use Rattle.psy_arith.specs.declared.operators.Op2.TheVariants as op
use Rattle.psy_arith.specs.declared.width.Width.{Width}
use Rattle.psy_code.specs.declared.instr.Instr.{Instr}
use Rattle.psy_code.specs.declared.instr.Instr.TheVariants as instr
use Rattle.psy_tree.specs.declared.unit.Expr.{Expr, roll-Expr, map-Expr, rec-roll-Expr, ind-Expr}
use Rattle.psy_tree.specs.declared.unit.Expr.TheOpen.{Expr-F}
use Rattle.psy_tree.specs.Paths.{total}
use Rattle.psy_meaning.specs.Sizes.{binary_size, expr_size, expr_size_step}
use Rattle.psy_meaning.specs.Ways.{Meter, Way, here, one, looking, both, either, ways_through, binary_way, expr_way_step, expr_way}
use Rattle.psy_meaning.proofs.lemmas.Layers.{natural_expr}
use Rattle.psy_gen.specs.Emission.{Layout, Operand, base_of, cells_in_slot, width_of_unary, binary_code, arguments_code, expr_code_step, expr_code}
use Rattle.psy_gen.proofs.Contexts.{HasAt, has-first}
use Rattle.psy_gen.proofs.Equations.{operand, code_roll, size_roll}
use Rattle.psy_gen.proofs.ways.Behinds.{expr_behind}
use Rattle.psy_gen.proofs.ways.Measures.{Measure}
use Rattle.psy_gen.proofs.ways.Modes.{Mode, Quiet, Found, Exact, Allows}
use Rattle.psy_gen.proofs.ways.Kinds.{IsPlain, Forks}
use Rattle.psy_gen.proofs.ways.Same.{Same, same_here, same_plain, counted, same_both, same_fork, same_still}

module _ (instrs : List Instr) (its : Measure) (layout : Layout) (calls : ℕ → Way) (some : (f : ℕ) (m : Meter) → (n : Meter) × calls f m n)
    (still : (f : ℕ) (m n : Meter) → calls f m n → its.met n ≡ its.met m) where
  abbrev S : Mode → Way → ℕ → ℕ → Type 0
  S mode way p q = Same instrs its mode way p q

  -- The code of the expression goes as its ways do.
  abbrev pub E : Expr → Type 0
  E e = (mode : Mode) (p : ℕ) → Allows its mode → HasAt instrs p (expr_code layout e p) → S mode (expr_way calls e) p (p + expr_size e)

  pub placed_at : (mode : Mode) (way : Way) (p q r : ℕ) → q ≡ r → S mode way p q → S mode way p r
  placed_at mode way p q r e s = subst (S mode way p) e s

  abbrev Known : Type 0
  Known = (e : Expr) × E e

  abbrev tree : Known → Expr
  tree k = k.0

  same_look : (mode : Mode) (variable back p : ℕ) → Allows its mode → HasAt instrs p (instr.Past variable back ∷ [])
      → S mode (looking variable back) p (p + 1)
  same_look mode variable back p allows h =
      counted instrs its mode (looking variable back) (instr.Past variable back) p
      (λ m. record m { steps = m.steps + 1; looks = m.looks ++ record { number = m.steps; variable = variable; back = back } ∷ [] }) h.0
      (λ point e. e) (λ next e. e) refl (none mode allows) (λ m. refl) (λ m n w. its.look variable back m n w)
    where
      none : (mode : Mode) → Allows its mode → mode ≡ Quiet → its.of (instr.Past variable back) ≡ 0
      none Quiet allows e = allows variable back
      none Found allows e = cc
      none Exact allows e = allows variable back

  -- An operand, and an instruction behind it
  then_plain : (k : Known) (mode : Mode) (p : ℕ) (i : Instr) → Allows its mode → S mode one (p + expr_size k.0) (p + expr_size k.0 + 1)
      → HasAt instrs p (expr_code layout k.0 p ++ i ∷ []) → S mode (both (expr_way calls k.0) one) p (p + (expr_size k.0 + 1))
  then_plain k mode p i allows last h =
      let e = k.0 in
      let place : p + expr_size e + 1 ≡ p + (expr_size e + 1) = omega arith in
      placed_at mode (both (expr_way calls e) one) p (p + expr_size e + 1) (p + (expr_size e + 1)) place
      (same_both instrs its mode (expr_way calls e) one p (p + expr_size e) (p + expr_size e + 1)
      (k.1 mode p allows (has-first instrs p (expr_code layout e p) (i ∷ []) h)) last)

  through : (ks : List Known) (behind : List Instr) (mode : Mode) (p : ℕ) → Allows its mode
      → HasAt instrs p (arguments_code (map (operand layout) (map tree ks)) behind p)
      → S mode (ways_through (expr_way calls) (map tree ks)) p (p + total (map expr_size (map tree ks))) × HasAt instrs
      (p + total (map expr_size (map tree ks))) behind
  through [] behind mode p allows h =
      let z : p ≡ p + 0 = omega arith in
      (subst (S mode here p) z (same_here instrs its mode p), subst (λ q. HasAt instrs q behind) z h)
  through (k ∷ ks) behind mode p allows h =
      let n = expr_size k.0 in
      let more = total (map expr_size (map tree ks)) in
      let place : p + n + more ≡ p + (n + more) = omega arith in
      let code = arguments_code (map (operand layout) (map tree ks)) behind (p + n) in
      let rest = through ks behind mode (p + n) allows (expr_behind instrs layout k.0 p code h) in (
        placed_at mode (both (expr_way calls k.0) (ways_through (expr_way calls) (map tree ks))) p (p + n + more) (p + (n + more)) place
            (same_both instrs its mode (expr_way calls k.0) (ways_through (expr_way calls) (map tree ks)) p (p + n) (p + n + more)
            (k.1 mode p allows (has-first instrs p (expr_code layout k.0 p) code h)) rest.0),
        subst (λ q. HasAt instrs q behind) place rest.1,
      )

  -- ---- operators

  eager : (o : Op2) (w : Width) (l r : Known) (mode : Mode) (p : ℕ) → Allows its mode
      → HasAt instrs p (expr_code layout l.0 p ++ (expr_code layout r.0 (p + expr_size l.0) ++ instr.Binary o w ∷ []))
      → S mode (both (expr_way calls l.0) (both (expr_way calls r.0) one)) p (p + (expr_size l.0 + (expr_size r.0 + 1)))
  eager o w l r mode p allows h =
      let a = expr_size l.0 in
      let b = expr_size r.0 in
      let code = expr_code layout r.0 (p + a) ++ instr.Binary o w ∷ [] in
      let there = expr_behind instrs layout l.0 p code h in
      let last = expr_behind instrs layout r.0 (p + a) (instr.Binary o w ∷ []) there in
      let place : p + a + (b + 1) ≡ p + (a + (b + 1)) = omega arith in
      placed_at mode (both (expr_way calls l.0) (both (expr_way calls r.0) one)) p (p + a + (b + 1)) (p + (a + (b + 1))) place
      (same_both instrs its mode (expr_way calls l.0) (both (expr_way calls r.0) one) p (p + a) (p + a + (b + 1))
      (l.1 mode p allows (has-first instrs p (expr_code layout l.0 p) code h))
      (then_plain r mode (p + a) (instr.Binary o w) allows (same_plain instrs its mode (instr.Binary o w) (p + a + b) (tt {0}) last.0) there))

  lazy : (test : ℕ → Instr) (forks : (to : ℕ) → Forks (test to) to) (l r : Known) (mode : Mode) (p : ℕ) → Allows its mode
      → HasAt instrs p (expr_code layout l.0 p ++
      (test (p + expr_size l.0 + 1 + expr_size r.0 + 1) ∷ (expr_code layout r.0 (p + expr_size l.0 + 1) ++ instr.Truth ∷ [])))
      → S mode (both (expr_way calls l.0) (both one (either here (both (expr_way calls r.0) one)))) p (p + (expr_size l.0 + (expr_size r.0 + 2)))
  lazy test forks l r mode p allows h =
      let a = expr_size l.0 in
      let b = expr_size r.0 in
      let middle = p + a + 1 in
      let to = middle + b + 1 in
      let behind_test = expr_code layout r.0 middle ++ instr.Truth ∷ [] in
      let there = expr_behind instrs layout l.0 p (test to ∷ behind_test) h in
      let last = expr_behind instrs layout r.0 middle (instr.Truth ∷ []) there.1 in
      let onward : middle + (b + 1) ≡ to = omega arith in
      let place : to ≡ p + (a + (b + 2)) = omega arith in
      let right = placed_at mode (both (expr_way calls r.0) one) middle (middle + (b + 1)) to onward
      (then_plain r mode middle instr.Truth allows (same_plain instrs its mode instr.Truth (middle + b) (tt {0}) last.0) there.1) in
      placed_at mode (both (expr_way calls l.0) (both one (either here (both (expr_way calls r.0) one)))) p to (p + (a + (b + 2))) place
      (same_both instrs its mode (expr_way calls l.0) (both one (either here (both (expr_way calls r.0) one))) p (p + a) to
      (l.1 mode p allows (has-first instrs p (expr_code layout l.0 p) (test to ∷ behind_test) h))
      (same_fork instrs its mode (test to) here (both (expr_way calls r.0) one) (p + a) to to there.0 (forks to) (same_here instrs its mode to) right))

  binary : (o : Op2) (w : Width) (l r : Known) (mode : Mode) (p : ℕ) → Allows its mode → HasAt instrs p (binary_code o w (operand layout l.0) (operand layout r.0) p)
      → S mode (binary_way o (expr_way calls l.0) (expr_way calls r.0)) p (p + (expr_size l.0 + (expr_size r.0 + binary_size o)))
  binary op.AndAnd w l r mode p allows h = lazy instr.AndTest (λ to. refl) l r mode p allows h
  binary op.OrOr w l r mode p allows h = lazy instr.OrTest (λ to. refl) l r mode p allows h
  binary o w l r mode p allows h = eager o w l r mode p allows h

  -- ---- all expressions

  leaf : (i : Instr) (mode : Mode) (p : ℕ) → IsPlain i → HasAt instrs p (i ∷ []) → S mode one p (p + 1)
  leaf i mode p plain h = same_plain instrs its mode i p plain h.0

  step : (y : Expr-F Known) (mode : Mode) (p : ℕ) → let x = map-Expr Known Expr tree y in Allows its mode
      → HasAt instrs p (expr_code_step layout (map-Expr Expr Operand (operand layout) x) p)
      → S mode (expr_way_step calls Expr (λ z. z) (expr_way calls) x) p (p + expr_size_step (map-Expr Expr ℕ expr_size x))
  step (Expr-F.Number number) mode p allows h = leaf (instr.Push number) mode p (tt {0}) h
  step (Expr-F.Slot slot) mode p allows h = leaf (instr.Load (base_of layout slot)) mode p (tt {0}) h
  step (Expr-F.Copy variable) mode p allows h = leaf (instr.LoadCopy variable) mode p (tt {0}) h
  step (Expr-F.Cell slot index) mode p allows h =
      let i = instr.LoadCell (base_of layout slot) (cells_in_slot layout slot) in
      then_plain index mode p i allows (same_plain instrs its mode i (p + expr_size index.0) (tt {0}) (expr_behind instrs layout index.0 p (i ∷ []) h).0) h
  step (Expr-F.Past variable back) mode p allows h = same_look mode variable back p allows h
  step (Expr-F.Ready stream) mode p allows h = leaf (instr.Ready stream) mode p (tt {0}) h
  step (Expr-F.Take stream) mode p allows h = leaf (instr.Take stream) mode p (tt {0}) h
  step (Expr-F.Unary operator width operand) mode p allows h =
      then_plain operand mode p (instr.Unary operator (width_of_unary operator width)) allows
      (same_plain instrs its mode (instr.Unary operator (width_of_unary operator width)) (p + expr_size operand.0) (tt {0})
      (expr_behind instrs layout operand.0 p (instr.Unary operator (width_of_unary operator width) ∷ []) h).0) h
  step (Expr-F.Cast width operand) mode p allows h =
      then_plain operand mode p (instr.Cast width) allows
      (same_plain instrs its mode (instr.Cast width) (p + expr_size operand.0) (tt {0})
      (expr_behind instrs layout operand.0 p (instr.Cast width ∷ []) h).0) h
  step (Expr-F.Binary operator width left right) mode p allows h = binary operator width left right mode p allows h
  step (Expr-F.Call function arguments) mode p allows h =
      let n = total (map expr_size (map tree arguments)) in
      let way = ways_through (expr_way calls) (map tree arguments) in
      let args = through arguments (instr.Call function ∷ []) mode p allows h in
      let place : p + n + 1 ≡ p + (n + 1) = omega arith in
      placed_at mode (both way (both one (calls function))) p (p + n + 1) (p + (n + 1)) place
      (same_both instrs its mode way (both one (calls function)) p (p + n) (p + n + 1) args.0
      (same_both instrs its mode one (calls function) (p + n) (p + n + 1) (p + n + 1)
      (same_plain instrs its mode (instr.Call function) (p + n) (tt {0}) args.1.0)
      (same_still instrs its mode (calls function) (p + n + 1) (some function) (still function))))

  layer : (y : Expr-F Known) → E (roll-Expr (map-Expr Known Expr tree y))
  layer y mode p allows h =
      let x : Expr-F Expr = map-Expr Known Expr tree y in
      subst (λ n. S mode (expr_way calls (roll-Expr x)) p (p + n)) (sym (size_roll x))
      (subst (λ way. S mode way p (p + expr_size_step (map-Expr Expr ℕ expr_size x))) (sym (rec-roll-Expr Way (expr_way_step calls) (natural_expr calls) x))
      (step y mode p allows (subst (HasAt instrs p) (code_roll layout x p) h)))

  pub same_expr : (e : Expr) → E e
  same_expr = ind-Expr E (λ x y is. subst (λ z. E (roll-Expr z)) is (layer y))
