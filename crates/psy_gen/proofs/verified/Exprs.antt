-- The code of an expression keeps all rules, and leaves one operand.
use Rattle.std.proofs.Common.{◌≡◌, ℕ, zero, suc, ◌+◌, ◌<◌, ◌≤◌, List, [], ◌∷◌, ◌++◌, map, length, Some, refl, sym, ap, subst, ◌∙◌, arith}
use Rattle.std.specs.Prelude.{◌-◌, slice_get, slice_index_or}
use Rattle.std.proofs.lemmas.Option.{get_or_from_slice_get, slice_get_within}
use Rattle.psy_arith.specs.declared.operators.Op2.{Op2}
use Rattle.psy_arith.specs.declared.operators.Op2.TheVariants as op
use Rattle.psy_arith.specs.declared.width.Width.{Width}
use Rattle.psy_code.specs.declared.code.FunctionCode.{FunctionCode}
use Rattle.psy_code.specs.declared.instr.Instr.{Instr}
use Rattle.psy_code.specs.declared.instr.Instr.TheVariants as instr
use Rattle.psy_tree.specs.declared.unit.Expr.{Expr, roll-Expr, map-Expr, fold-roll-Expr, rec-roll-Expr, ind-Expr}
use Rattle.psy_tree.specs.declared.unit.Expr.TheOpen.{Expr-F}
use Rattle.psy_tree.specs.Paths.{total}
use Rattle.psy_meaning.specs.Depths.{Depth, deeper, expr_depth, expr_depth_step, on_top_of, shallow, stacked}
use Rattle.psy_meaning.specs.Sizes.{binary_size, expr_size, expr_size_step}
use Rattle.psy_meaning.specs.Sound.{Each, HasFunction, HasSlot, IsSoundExpr, sound_expr_step}
use Rattle.psy_meaning.proofs.lemmas.SoundParts.{exprs_natural}
use Rattle.psy_flow.specs.Heights.{Finds, Shift, onto, past_call, shifts}
use Rattle.psy_flow.specs.Needs.{cells_of}
use Rattle.psy_flow.specs.Owners.{function_code_at}
use Rattle.psy_flow.specs.Verified.{IsFramed}
use Rattle.psy_gen.specs.Emission.{Operand, arguments_code, base_of, binary_code, cells_in_slot, expr_code, expr_code_step, width_of_unary}
use Rattle.psy_gen.proofs.Basics.{no_some, some_is}
use Rattle.psy_gen.proofs.Contexts.{HasAt, has-first}
use Rattle.psy_gen.proofs.Equations.{operand, code_roll, size_roll}
use Rattle.psy_gen.proofs.Lookups.{got_is}
use Rattle.psy_gen.proofs.ways.Behinds.{expr_behind}
use Rattle.psy_gen.proofs.verified.Own.{At, Fit, Goes, IsCalm, Over, Own, Passes, calm, calm_one, height_then, most, over_none, over_on, over_one, over_then, passes}

-- ---- slots

-- The cells of a slot stand among all.
pub slot_low : (layout : List ℕ) (slot cells : ℕ) → slice_get layout slot ≡ Some cells → base_of layout slot + cells ≤ total layout
slot_low [] slot cells got = no_some cells got
slot_low (n ∷ layout) zero cells got = omega (arith, some_is n cells got)
slot_low (n ∷ layout) (suc slot) cells got = omega (arith, slot_low layout slot cells got)

module _ (o : Own) where
  pub first_framed : (slot : ℕ) → HasSlot o.sc slot → base_of o.sc.layout slot < cells_of o.code o.owner
  first_framed slot (cells, got, some) = omega (arith, slot_low o.sc.layout slot cells got, some, o.cells)

  pub cells_framed : (slot : ℕ) → HasSlot o.sc slot → base_of o.sc.layout slot + cells_in_slot o.sc.layout slot ≤ cells_of o.code o.owner
  cells_framed slot (cells, got, some) = omega (arith, slot_low o.sc.layout slot cells got, got_is o.sc.layout slot cells got, o.cells)

  -- ---- expressions

  abbrev pub Has : ℕ → List Instr → Type 0
  Has p code = HasAt o.code.instrs p code

  -- Each place keeps all rules, one operand is left, and there is room for it.
  pub record Gives (p r height : ℕ) : Type 0 where
    pub over : Over o p r
    pub end : o.height r ≡ height + 1
    pub room : height + 1 ≤ most o

  gives_to : (p r s height : ℕ) → r ≡ s → Gives p r height → Gives p s height
  gives_to p r s height e g = subst (λ x. Gives p x height) e g

  gives_one : (p height : ℕ) → Passes o p (height - 0 + 1) → height + 1 ≤ most o → Gives p (p + 1) height
  gives_one p height done room = record { over = over_one o p done.0; end = omega (arith, done.1); room = room }

  -- An instruction behind an operand, in whose place it leaves another
  gives_on : (p m height : ℕ) → Gives p m height → Passes o m (height + 1 - 1 + 1) → Gives p (m + 1) height
  gives_on p m height g done = record { over = over_on o p m g.over done.0; end = omega (arith, done.1); room = g.room }

  abbrev E : Expr → Type 0
  E e = (p height : ℕ) → o.low ≤ p → p + expr_size e ≤ o.high → Has p (expr_code o.sc.layout e p) → o.height p ≡ height → IsSoundExpr o.sc e
      → Fit o height (expr_depth o.depths e) → Gives p (p + expr_size e) height

  abbrev Known : Type 0
  Known = (e : Expr) × E e

  abbrev tree : Known → Expr
  tree k = k.0

  leaf : (i : Instr) (p height : ℕ) → IsCalm i → At o p i → o.low ≤ p → p + 1 ≤ o.high → o.height p ≡ height → shifts o.code p i ≡ onto (p + 1) 0 1
      → Finds o.code p i height → IsFramed o.code o.owner i → height + 1 ≤ most o → Gives p (p + 1) height
  leaf i p height is_calm at above below is goes finds framed room =
      gives_one p height (calm o i p height 0 1 is_calm at above below is goes finds (omega (arith, room)) framed) room

  -- One instruction behind an operand
  behind : (e : Known) (i : Instr) (p height : ℕ) → IsCalm i → ((q : ℕ) → shifts o.code q i ≡ onto (q + 1) 1 1)
      → ((q n : ℕ) → 1 ≤ n → Finds o.code q i n) → IsFramed o.code o.owner i
      → o.low ≤ p → p + (expr_size e.0 + 1) ≤ o.high → Has p (expr_code o.sc.layout e.0 p ++ i ∷ []) → o.height p ≡ height → IsSoundExpr o.sc e.0
      → Fit o height (expr_depth o.depths e.0) → Gives p (p + (expr_size e.0 + 1)) height
  behind e i p height is_calm goes finds framed above below has is sound fit =
      let n = expr_size e.0 in
      let first = e.1 p height above (omega (arith, below)) (has-first o.code.instrs p (expr_code o.sc.layout e.0 p) (i ∷ []) has) is sound fit in
      let at = (expr_behind o.code.instrs o.sc.layout e.0 p (i ∷ []) has).0 in
      gives_to p (p + n + 1) (p + (n + 1)) height (omega arith)
      (gives_on p (p + n) height first
      (calm o i (p + n) (height + 1) 1 1 is_calm at (omega (arith, above)) (omega (arith, below)) first.end (goes (p + n))
      (finds (p + n) (height + 1) (omega arith)) first.room framed))

  eager : (operator : Op2) (width : Width) (l r : Known) (p height : ℕ) → o.low ≤ p → p + (expr_size l.0 + (expr_size r.0 + 1)) ≤ o.high
      → Has p (expr_code o.sc.layout l.0 p ++ (expr_code o.sc.layout r.0 (p + expr_size l.0) ++ instr.Binary operator width ∷ []))
      → o.height p ≡ height → IsSoundExpr o.sc l.0 → IsSoundExpr o.sc r.0
      → Fit o height (deeper (expr_depth o.depths l.0) (on_top_of 1 (expr_depth o.depths r.0))) → Gives p (p + (expr_size l.0 + (expr_size r.0 + 1))) height
  eager operator width l r p height above below has is left right fit =
      let a = expr_size l.0 in
      let b = expr_size r.0 in
      let i = instr.Binary operator width in
      let code = expr_code o.sc.layout r.0 (p + a) ++ i ∷ [] in
      let first = l.1 p height above (omega (arith, below)) (has-first o.code.instrs p (expr_code o.sc.layout l.0 p) code has) is left
      (omega (arith, fit.0), omega (arith, fit.1)) in
      let there = expr_behind o.code.instrs o.sc.layout l.0 p code has in
      let second = r.1 (p + a) (height + 1) (omega (arith, above)) (omega (arith, below))
      (has-first o.code.instrs (p + a) (expr_code o.sc.layout r.0 (p + a)) (i ∷ []) there) first.end right (omega (arith, fit.0), omega (arith, fit.1)) in
      let at = (expr_behind o.code.instrs o.sc.layout r.0 (p + a) (i ∷ []) there).0 in
      let last = calm o i (p + a + b) (height + 1 + 1) 2 1 (tt {0}) at (omega (arith, above)) (omega (arith, below)) second.end refl
      (omega arith, tt {0}) second.room (tt {0}) in
      gives_to p (p + a + b + 1) (p + (a + (b + 1))) height (omega arith)
      (record {
        over = over_on o p (p + a + b) (over_then o p (p + a) (p + a + b) first.over second.over) last.0;
        end = omega (arith, last.1);
        room = first.room;
      })

  -- A test on whose way to the next place no operand is left, and on whose jump one is
  abbrev tested : ℕ → ℕ → List Shift
  tested q to = record { to = q + 1; pops = 1; pushes = 0 } ∷ onto to 1 1

  lazy : (test : ℕ → Instr) → ((to : ℕ) → IsCalm (test to)) → ((q to : ℕ) → shifts o.code q (test to) ≡ tested q to)
      → ((q n to : ℕ) → 1 ≤ n → Finds o.code q (test to) n) → ((to : ℕ) → IsFramed o.code o.owner (test to))
      → (l r : Known) (p height : ℕ) → o.low ≤ p → p + (expr_size l.0 + (expr_size r.0 + 2)) ≤ o.high
      → Has p (expr_code o.sc.layout l.0 p ++
      (test (p + expr_size l.0 + 1 + expr_size r.0 + 1) ∷ (expr_code o.sc.layout r.0 (p + expr_size l.0 + 1) ++ instr.Truth ∷ [])))
      → o.height p ≡ height → IsSoundExpr o.sc l.0 → IsSoundExpr o.sc r.0
      → Fit o height (deeper (expr_depth o.depths l.0) (expr_depth o.depths r.0)) → Gives p (p + (expr_size l.0 + (expr_size r.0 + 2))) height
  lazy test is_calm goes finds framed l r p height above below has is left right fit =
      let a = expr_size l.0 in
      let b = expr_size r.0 in
      let middle = p + a + 1 in
      let to = middle + b + 1 in
      let i = test to in
      let code = expr_code o.sc.layout r.0 middle ++ instr.Truth ∷ [] in
      let first = l.1 p height above (omega (arith, below)) (has-first o.code.instrs p (expr_code o.sc.layout l.0 p) (i ∷ code) has) is left
      (omega (arith, fit.0), omega (arith, fit.1)) in
      let there = expr_behind o.code.instrs o.sc.layout l.0 p (i ∷ code) has in
      let next = height_then o i (p + a) (height + 1) (tested (p + a) to) there.0 first.end (goes (p + a) to) in
      let low : o.height middle ≡ height = omega (arith, next) in
      let second = r.1 middle height (omega (arith, above)) (omega (arith, below))
      (has-first o.code.instrs middle (expr_code o.sc.layout r.0 middle) (instr.Truth ∷ []) there.1) low right (omega (arith, fit.0), omega (arith, fit.1)) in
      let at = (expr_behind o.code.instrs o.sc.layout r.0 middle (instr.Truth ∷ []) there.1).0 in
      let last = calm o instr.Truth (middle + b) (height + 1) 1 1 (tt {0}) at (omega (arith, above)) (omega (arith, below)) second.end refl
      (omega arith, tt {0}) second.room (tt {0}) in
      let ways : Each (Goes o (height + 1)) (tested (p + a) to) = (
        (omega (arith, above), omega (arith, below), omega (arith, low)),
        ((omega (arith, above), omega (arith, below), omega (arith, last.1)), tt {0}),
      ) in
      let mark = calm_one o i (p + a) (height + 1) (is_calm to) there.0 (omega (arith, above)) (omega (arith, below)) first.end
      (finds (p + a) (height + 1) to (omega arith)) (subst (Each (Goes o (height + 1))) (sym (goes (p + a) to)) ways) first.room (framed to) in
      gives_to p (middle + b + 1) (p + (a + (b + 2))) height (omega arith)
      (record {
        over = over_on o p (middle + b) (over_then o p middle (middle + b) (over_on o p (p + a) first.over mark) second.over) last.0;
        end = omega (arith, last.1);
        room = first.room;
      })

  -- ---- calls

  -- What is known behind arguments
  record Held (p r height : ℕ) (rest : List Instr) : Type 0 where
    over : Over o p r
    end : o.height r ≡ height
    room : height ≤ most o
    has : Has r rest

  through : (ks : List Known) (rest : List Instr) (p base held : ℕ) → o.low ≤ p → p + total (map expr_size (map tree ks)) ≤ o.high
      → Has p (arguments_code (map (operand o.sc.layout) (map tree ks)) rest p) → o.height p ≡ base + held → base + held ≤ most o
      → Each (IsSoundExpr o.sc) (map tree ks) → Fit o base (stacked held (map (expr_depth o.depths) (map tree ks)))
      → Held p (p + total (map expr_size (map tree ks))) (base + held + length (map tree ks)) rest
  through [] rest p base held above below has is room sound fit =
      let z : p ≡ p + 0 = omega arith in
      record {
        over = subst (Over o p) z (over_none o p);
        end = ap o.height (sym z) ∙ omega (arith, is);
        room = omega (arith, room);
        has = subst (λ q. Has q rest) z has;
      }
  through (k ∷ ks) rest p base held above below has is room sound fit =
      let n = expr_size k.0 in
      let more = total (map expr_size (map tree ks)) in
      let code = arguments_code (map (operand o.sc.layout) (map tree ks)) rest (p + n) in
      let place : p + n + more ≡ p + (n + more) = omega arith in
      let first = k.1 p (base + held) above (omega (arith, below)) (has-first o.code.instrs p (expr_code o.sc.layout k.0 p) code has) is sound.0
      (omega (arith, fit.0), omega (arith, fit.1)) in
      let others = through ks rest (p + n) base (held + 1) (omega (arith, above)) (omega (arith, below))
      (expr_behind o.code.instrs o.sc.layout k.0 p code has) (omega (arith, first.end)) (omega (arith, first.room)) sound.1
      (omega (arith, fit.0), omega (arith, fit.1)) in
      record {
        over = subst (Over o p) place (over_then o p (p + n) (p + n + more) first.over others.over);
        end = ap o.height (sym place) ∙ omega (arith, others.end);
        room = omega (arith, others.room);
        has = subst (λ q. Has q rest) place others.has;
      }

  called : (function arguments q height : ℕ) → HasFunction o.sc function arguments → At o q (instr.Call function) → o.low ≤ q → q + 1 ≤ o.high
      → o.height q ≡ height + arguments → height + arguments ≤ most o → Fit o height (slice_index_or o.depths function shallow)
      → Passes o q (height + arguments - arguments + 1)
  called function arguments q height known at above below is room fit =
      let c = o.call function arguments known in
      let i = instr.Call function in
      let goes : shifts o.code q i ≡ onto (q + 1) arguments 1 = ap (past_call q) c.at ∙ ap (λ n. onto (q + 1) n 1) c.params in
      let there : Each (λ (s : Shift). s.pops ≤ height + arguments) (onto (q + 1) arguments 1) = (omega arith, tt {0}) in
      let its : function_code_at o.code function ≡ c.its = get_or_from_slice_get o.code.functions function c.its _ c.at in
      let own : (function_code_at o.code function).params ≡ arguments = ap (λ (f : FunctionCode). f.params) its ∙ c.params in
      passes o i q (height + arguments) arguments 1 at above below is goes
      (subst (Each (λ (s : Shift). s.pops ≤ height + arguments)) (sym goes) there) room
      (omega (arith, own, c.needs, fit.0), omega (arith, c.uses, fit.1)) (tt {0})
      (slice_get_within o.code.functions function c.its c.at, c.ordered) (tt {0})

  call : (function : ℕ) (ks : List Known) (p height : ℕ) → o.low ≤ p → p + (total (map expr_size (map tree ks)) + 1) ≤ o.high
      → Has p (arguments_code (map (operand o.sc.layout) (map tree ks)) (instr.Call function ∷ []) p) → o.height p ≡ height
      → HasFunction o.sc function (length (map tree ks)) → Each (IsSoundExpr o.sc) (map tree ks) → height + 1 ≤ most o
      → Fit o height (stacked 0 (map (expr_depth o.depths) (map tree ks))) → Fit o height (slice_index_or o.depths function shallow)
      → Gives p (p + (total (map expr_size (map tree ks)) + 1)) height
  call function ks p height above below has is known sound room fit inner =
      let n = total (map expr_size (map tree ks)) in
      let args = through ks (instr.Call function ∷ []) p height 0 above (omega (arith, below)) has (omega (arith, is)) (omega (arith, room)) sound fit in
      let last = called function (length (map tree ks)) (p + n) height known args.has.0 (omega (arith, above)) (omega (arith, below))
      (omega (arith, args.end)) (omega (arith, args.room)) inner in
      gives_to p (p + n + 1) (p + (n + 1)) height (omega arith)
      (record { over = over_on o p (p + n) args.over last.0; end = omega (arith, last.1); room = room })

  -- ---- each kind

  binary : (operator : Op2) (width : Width) (l r : Known) (p height : ℕ) → o.low ≤ p
      → p + (expr_size l.0 + (expr_size r.0 + binary_size operator)) ≤ o.high
      → Has p (binary_code operator width (operand o.sc.layout l.0) (operand o.sc.layout r.0) p) → o.height p ≡ height
      → IsSoundExpr o.sc l.0 → IsSoundExpr o.sc r.0
      → Fit o height (expr_depth_step o.depths (Expr-F.Binary operator width (expr_depth o.depths l.0) (expr_depth o.depths r.0)))
      → Gives p (p + (expr_size l.0 + (expr_size r.0 + binary_size operator))) height
  binary op.AndAnd width l r p height above below has is left right fit =
      lazy instr.AndTest (λ to. tt {0}) (λ q to. refl) (λ q n to some. (some, (some, tt {0}))) (λ to. tt {0}) l r p height above below has is left right fit
  binary op.OrOr width l r p height above below has is left right fit =
      lazy instr.OrTest (λ to. tt {0}) (λ q to. refl) (λ q n to some. (some, (some, tt {0}))) (λ to. tt {0}) l r p height above below has is left right fit
  binary operator width l r p height above below has is left right fit = eager operator width l r p height above below has is left right fit

  step : (y : Expr-F Known) (p height : ℕ) → let x = map-Expr Known Expr tree y in o.low ≤ p → p + expr_size_step (map-Expr Expr ℕ expr_size x) ≤ o.high
      → Has p (expr_code_step o.sc.layout (map-Expr Expr Operand (operand o.sc.layout) x) p) → o.height p ≡ height
      → sound_expr_step o.sc Expr (λ z. z) (IsSoundExpr o.sc) x → Fit o height (expr_depth_step o.depths (map-Expr Expr Depth (expr_depth o.depths) x))
      → Gives p (p + expr_size_step (map-Expr Expr ℕ expr_size x)) height
  step (Expr-F.Number n) p height above below has is sound fit =
      leaf (instr.Push n) p height (tt {0}) has.0 above below is refl (omega arith, tt {0}) (tt {0}) fit.0
  step (Expr-F.Slot slot) p height above below has is sound fit =
      leaf (instr.Load (base_of o.sc.layout slot)) p height (tt {0}) has.0 above below is refl (omega arith, tt {0}) (first_framed slot sound) fit.0
  step (Expr-F.Copy variable) p height above below has is sound fit =
      gives_one p height
      (passes o (instr.LoadCopy variable) p height 0 1 has.0 above below is refl (omega arith, tt {0}) (omega (arith, fit.0)) (tt {0}) (tt {0})
      (o.copy variable sound).0 (tt {0})) fit.0
  step (Expr-F.Cell slot index) p height above below has is sound fit =
      behind index (instr.LoadCell (base_of o.sc.layout slot) (cells_in_slot o.sc.layout slot)) p height (tt {0}) (λ q. refl) (λ q n some. (some, tt {0}))
      (cells_framed slot sound.0) above below has is sound.1 fit
  step (Expr-F.Past variable back) p height above below has is sound fit =
      gives_one p height
      (passes o (instr.Past variable back) p height 0 1 has.0 above below is refl (omega arith, tt {0}) (omega (arith, fit.0)) (tt {0}) (tt {0})
      (o.past variable back sound) (tt {0})) fit.0
  step (Expr-F.Ready stream) p height above below has is sound fit =
      gives_one p height
      (passes o (instr.Ready stream) p height 0 1 has.0 above below is refl (omega arith, tt {0}) (omega (arith, fit.0)) (tt {0}) (tt {0})
      (o.stream stream sound).0 (tt {0})) fit.0
  step (Expr-F.Take stream) p height above below has is sound fit =
      gives_one p height
      (passes o (instr.Take stream) p height 0 1 has.0 above below is refl (omega arith, tt {0}) (omega (arith, fit.0)) (tt {0}) (tt {0})
      (o.stream stream sound).1 (tt {0})) fit.0
  step (Expr-F.Unary operator width e) p height above below has is sound fit =
      behind e (instr.Unary operator (width_of_unary operator width)) p height (tt {0}) (λ q. refl) (λ q n some. (some, tt {0})) (tt {0}) above below has is
      sound fit
  step (Expr-F.Cast width e) p height above below has is sound fit =
      behind e (instr.Cast width) p height (tt {0}) (λ q. refl) (λ q n some. (some, tt {0})) (tt {0}) above below has is sound fit
  step (Expr-F.Binary operator width l r) p height above below has is sound fit = binary operator width l r p height above below has is sound.0 sound.1 fit
  step (Expr-F.Call function arguments) p height above below has is sound fit =
      call function arguments p height above below has is sound.0 sound.1 (omega (arith, fit.0)) (omega (arith, fit.0), omega (arith, fit.1))
      (omega (arith, fit.0), omega (arith, fit.1))

  layer : (y : Expr-F Known) → E (roll-Expr (map-Expr Known Expr tree y))
  layer y p height above below has is sound fit =
      let x : Expr-F Expr = map-Expr Known Expr tree y in
      let done = step y p height above (omega (arith, below, size_roll x)) (subst (Has p) (code_roll o.sc.layout x p) has) is
      (subst (λ (t : Type 0). t) (rec-roll-Expr (Type 0) (sound_expr_step o.sc) (exprs_natural o.sc) x) sound)
      (subst (Fit o height) (fold-roll-Expr Depth (expr_depth_step o.depths) x) fit) in
      gives_to p (p + expr_size_step (map-Expr Expr ℕ expr_size x)) (p + expr_size (roll-Expr x)) height (omega (arith, size_roll x)) done

  pub expr_gives : (e : Expr) → E e
  expr_gives = ind-Expr E (λ x y is. subst (λ z. E (roll-Expr z)) is (layer y))
