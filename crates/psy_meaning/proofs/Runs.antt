-- What an expression does is one of its ways, or the front of one where it traps.
use Rattle.std.proofs.Common.{refl, sym, subst, inl, inr}
use Rattle.std.specs.Prelude.{ℕ, Bool, true, false, not, length, if◌then◌else◌, List, [], ◌∷◌, map, Option, Some, None, ℤ, pos}
use Rattle.psy_arith.specs.declared.operators.Op2.{Op2}
use Rattle.psy_arith.specs.declared.operators.Op2.TheVariants as op
use Rattle.psy_arith.specs.declared.operators.Trap.{Trap}
use Rattle.psy_arith.specs.declared.operators.Trap.TheVariants as trap
use Rattle.psy_arith.specs.declared.width.Width.{Width}
use Rattle.psy_arith.specs.Operators.{is_zero, truth}
use Rattle.psy_arith.specs.Types.{taken2}
use Rattle.psy_arith.specs.Widths.{of_type}
use Rattle.psy_code.specs.Execution.{index_in}
use Rattle.psy_tree.specs.declared.unit.Expr.{Expr, roll-Expr, fold-roll-Expr, rec-roll-Expr, map-Expr, ind-Expr}
use Rattle.psy_tree.specs.declared.unit.Expr.TheOpen.{Expr-F}
use Rattle.psy_code.specs.Views.{Take, next_in}
use Rattle.psy_meaning.specs.States.{State, Ended, Trapped, Got, Value, Stops, Eval, Callee, and_then, cost_1, asking, or_stop, cells_at, value_at}
use Rattle.psy_meaning.specs.Expressions.{expr_step, eval, in_order, binary, truth_of, applied, element}
use Rattle.psy_meaning.specs.Ways.{Meter, Way, met_by, one, both, either, here, ways_through, binary_way, expr_way_step, expr_way}
use Rattle.psy_meaning.proofs.Fronts.{FrontOn, Open, front_same, front_both, open_one, open_both}
use Rattle.psy_meaning.proofs.lemmas.Layers.{natural_expr}
use Rattle.psy_meaning.proofs.OpenWays.{lazy, open_lazy, open_through, open_expr}

abbrev pub met : State → Meter
met s = met_by s.deeds

-- The value was come to by this way, or a trap on it.
abbrev pub GotBy : Way → Meter → Got → Type 0
GotBy way m (Value v t) = way m (met t)
GotBy way m (Stops (Ended point t)) = ⊥
GotBy way m (Stops (Trapped kind t)) = FrontOn way m (met t)

abbrev pub Along : Eval → Way → Type 0
Along e way = (s : State) → GotBy way (met s) (e s)

abbrev pub CallAlong : Callee → Way → Type 0
CallAlong does way = Open way × ((arguments : List ℤ) → Along (does arguments) way)

abbrev pub AllAlong : (ℕ → Callee) → (ℕ → Way) → Type 0
AllAlong callees ways = (number : ℕ) → CallAlong (callees number) (ways number)

-- A further way
got_further : (way : Way) (m n : Meter) (next : Way) (got : Got) → way m n → GotBy next n got → GotBy (both way next) m got
got_further way m n next (Value v t) w g = (n, w, g)
got_further way m n next (Stops (Trapped kind t)) w (k, q, f) = (k, (n, w, q), f)
got_further way m n next (Stops (Ended point t)) w g = g

pub got_then : (way next : Way) (m : Meter) (got : Got) (go : ℤ → State → Got) → Open next → GotBy way m got → ((v : ℤ) (t : State) → GotBy next (met t) (go v t)) → GotBy (both way next) m (and_then got go)
got_then way next m (Value v t) go p g h = got_further way m (met t) next (go v t) g (h v t)
got_then way next m (Stops (Trapped kind t)) go p g h = front_both way next m (met t) g p
got_then way next m (Stops (Ended point t)) go p g h = elim g [ ]

module _ (callees : ℕ → Callee) (ways : ℕ → Way) (all : AllAlong callees ways) where
  abbrev P : Expr → Type 0
  P e = Along (eval callees e) (expr_way ways e)

  abbrev Known : Type 0
  Known = (e : Expr) × P e

  abbrev tree : Known → Expr
  tree k = k.0

  goes : (e : Expr) → Open (expr_way ways e)
  goes = open_expr ways (λ number. (all number).0)

  -- what isn't there traps
  got_or_stop : {A : Type 0} (kind : Trap) (found : Option A) (s : State) (go : A → Got) → ((x : A) → GotBy one (met s) (go x)) → GotBy one (met s) (or_stop kind found s go)
  got_or_stop kind None s go h = let t = cost_1 s in (met t, refl, front_same (met t))
  got_or_stop kind (Some x) s go h = h x

  applied_along : (operator : Op2) (width : Width) (a b : ℤ) (s : State) → GotBy one (met s) (applied operator width a b s)
  applied_along operator width a b s = got_or_stop trap.Divide (taken2 (of_type width) operator a b) s (λ v. Value v (cost_1 s)) (λ v. refl)

  element_along : (slot : ℕ) (index : ℤ) (s : State) → GotBy one (met s) (element slot index s)
  element_along slot index s = got_or_stop trap.Index (index_in (length (cells_at s.store slot)) index) s (λ i. Value (value_at s.store slot i) (cost_1 s)) (λ i. refl)

  truth_along : (got : Got) (way : Way) (m : Meter) → GotBy way m got → GotBy (both way one) m (truth_of got)
  truth_along got way m g = got_then way one m got (λ v s. Value (truth (not (is_zero v))) (cost_1 s)) open_one g (λ v t. refl)

  both_along : (operator : Op2) (width : Width) (left right : Eval) (l r : Way) → Open r → Along left l → Along right r → (s : State) → GotBy (both l (both r one)) (met s) (and_then (left s) (λ a t. and_then (right t) (λ b u. applied operator width a b u)))
  both_along operator width left right l r o p q s =
      got_then l (both r one) (met s) (left s) _ (open_both r one o open_one) (p s) (λ a t. got_then r one (met t) (right t) _ open_one (q t) (λ b u. applied_along operator width a b u))

  got_right : (this that : Way) (m : Meter) (got : Got) → GotBy that m got → GotBy (either this that) m got
  got_right this that m (Value v t) g = inr g
  got_right this that m (Stops (Trapped kind t)) (n, w, f) = (n, inr w, f)
  got_right this that m (Stops (Ended point t)) g = g

  not_evaluated : (v : ℤ) (r : Way) (t : State) → GotBy (lazy r) (met t) (Value v (cost_1 t))
  not_evaluated v r t = (met (cost_1 t), refl, inl refl)

  evaluated : (right : Eval) (r : Way) → Along right r → (t : State) → GotBy (lazy r) (met t) (truth_of (right (cost_1 t)))
  evaluated right r q t =
      got_further one (met t) (met (cost_1 t)) (either here (both r one)) (truth_of (right (cost_1 t))) refl
      (got_right here (both r one) (met (cost_1 t)) (truth_of (right (cost_1 t))) (truth_along (right (cost_1 t)) r (met (cost_1 t)) (q (cost_1 t))))

  and_along : (b : Bool) (right : Eval) (r : Way) → Along right r → (t : State) → GotBy (lazy r) (met t) (if b then Value (pos 0) (cost_1 t) else truth_of (right (cost_1 t)))
  and_along true right r q t = not_evaluated (pos 0) r t
  and_along false right r q t = evaluated right r q t

  or_along : (b : Bool) (right : Eval) (r : Way) → Along right r → (t : State) → GotBy (lazy r) (met t) (if b then truth_of (right (cost_1 t)) else Value (pos 1) (cost_1 t))
  or_along true right r q t = evaluated right r q t
  or_along false right r q t = not_evaluated (pos 1) r t

  binary_along : (operator : Op2) (width : Width) (left right : Eval) (l r : Way) → Open r → Along left l → Along right r → Along (binary operator width left right) (binary_way operator l r)
  binary_along op.AndAnd width left right l r o p q s = got_then l (lazy r) (met s) (left s) _ (open_lazy r) (p s) (λ a t. and_along (is_zero a) right r q t)
  binary_along op.OrOr width left right l r o p q s = got_then l (lazy r) (met s) (left s) _ (open_lazy r) (p s) (λ a t. or_along (is_zero a) right r q t)
  binary_along operator width left right l r o p q s = both_along operator width left right l r o p q s

  together : (a b c : Way) (m : Meter) (got : Got) → GotBy (both a (both b c)) m got → GotBy (both (both a b) c) m got
  together a b c m (Value v t) (n, p, (k, q, r)) = (k, (n, p, q), r)
  together a b c m (Stops (Trapped kind t)) (h, (n, p, (k, q, r)), f) = (h, (k, (n, p, q), r), f)
  together a b c m (Stops (Ended point t)) g = g

  in_order_along : (known : List Known) (s : State) (go : List ℤ → State → Got) (next : Way) → Open next → ((vs : List ℤ) (t : State) → GotBy next (met t) (go vs t)) → GotBy (both (ways_through (expr_way ways) (map tree known)) next) (met s) (in_order (map (eval callees) (map tree known)) s go)
  in_order_along [] s go next p h = got_further here (met s) (met s) next (go [] s) refl (h [] s)
  in_order_along (k ∷ ks) s go next p h =
      let through = ways_through (expr_way ways) (map tree ks) in
      together (expr_way ways k.0) through next (met s) (in_order (map (eval callees) (map tree (k ∷ ks))) s go)
      (got_then (expr_way ways k.0) (both through next) (met s) (eval callees k.0 s) _ (open_both through next (open_through (expr_way ways) (map tree ks) goes) p) (k.1 s) (λ v t. in_order_along ks t (λ vs u. go (v ∷ vs) u) next p (λ vs u. h (v ∷ vs) u)))

  step_along : (y : Expr-F Known) → Along (expr_step callees (map-Expr Expr Eval (eval callees) (map-Expr Known Expr tree y))) (expr_way_step ways Expr (λ e. e) (expr_way ways) (map-Expr Known Expr tree y))
  step_along (Expr-F.Number number) s = refl
  step_along (Expr-F.Slot slot) s = refl
  step_along (Expr-F.Copy variable) s = refl
  step_along (Expr-F.Cell slot index) s = got_then (expr_way ways index.0) one (met s) (eval callees index.0 s) (λ i t. element slot i t) open_one (index.1 s) (λ i t. element_along slot i t)
  step_along (Expr-F.Past variable back) s = refl
  step_along (Expr-F.Ready stream) s = refl
  step_along (Expr-F.Take stream) s = got_or_stop trap.Take (next_in s.view stream) s (λ v. Value v (asking (Take stream) s)) (λ v. refl)
  step_along (Expr-F.Unary operator width operand) s = got_then (expr_way ways operand.0) one (met s) (eval callees operand.0 s) _ open_one (operand.1 s) (λ a t. refl)
  step_along (Expr-F.Cast width operand) s = got_then (expr_way ways operand.0) one (met s) (eval callees operand.0 s) _ open_one (operand.1 s) (λ a t. refl)
  step_along (Expr-F.Binary operator width left right) s = binary_along operator width (eval callees left.0) (eval callees right.0) (expr_way ways left.0) (expr_way ways right.0) (goes right.0) left.1 right.1 s
  step_along (Expr-F.Call function arguments) s =
      in_order_along arguments s (λ values t. callees function values (cost_1 t)) (both one (ways function)) (open_both one (ways function) open_one (all function).0)
      (λ values t. got_further one (met t) (met (cost_1 t)) (ways function) (callees function values (cost_1 t)) refl ((all function).1 values (cost_1 t)))

  layer : (y : Expr-F Known) → P (roll-Expr (map-Expr Known Expr tree y))
  layer y =
      let x : Expr-F Expr = map-Expr Known Expr tree y in
      subst (λ e. Along e (expr_way ways (roll-Expr x))) (sym (fold-roll-Expr Eval (expr_step callees) x))
      (subst (λ w. Along (expr_step callees (map-Expr Expr Eval (eval callees) x)) w) (sym (rec-roll-Expr Way (expr_way_step ways) (natural_expr ways) x)) (step_along y))

  pub along : (e : Expr) → P e
  along = ind-Expr P (λ x y is. subst (λ z. P (roll-Expr z)) is (layer y))
