-- What sound expressions keep: they give numbers of their types and leave the store's shape, and ask what they may.
use Rattle.std.proofs.Common.{◌≡◌, ℕ, suc, ◌≤◌, Bool, true, false, List, [], ◌∷◌, map, length, Option, Some, None, refl, sym, ap, subst, ◌∙◌}
use Rattle.std.specs.Prelude.{not, ◌==◌, if◌then◌else◌, get_or, slice_get, ℤ, pos, ⊤}
use Rattle.std.specs.Option.{IfSome}
use Rattle.std.proofs.lemmas.Int.{SFits-int_wrap}
use Rattle.std.proofs.lemmas.List.Elements.{All-nil, All-cons}
use Rattle.psy_arith.specs.declared.operators.Op2.{Op2}
use Rattle.psy_arith.specs.declared.operators.Op2.TheVariants as op
use Rattle.psy_arith.specs.declared.operators.Trap.{Trap}
use Rattle.psy_arith.specs.declared.operators.Trap.TheVariants as trap
use Rattle.psy_arith.specs.declared.width.Width.{Width}
use Rattle.psy_arith.specs.declared.width.Width.TheVariants.{W32}
use Rattle.psy_arith.specs.Operators.{is_zero, truth}
use Rattle.psy_arith.specs.Types.{taken2, type1, type2}
use Rattle.psy_arith.specs.Widths.{of_type}
use Rattle.psy_code.specs.Execution.{index_in}
use Rattle.psy_code.specs.Views.{Take, next_in}
use Rattle.psy_tree.specs.declared.unit.Expr.{Expr, roll-Expr, fold-roll-Expr, rec-roll-Expr, map-Expr, ind-Expr}
use Rattle.psy_tree.specs.declared.unit.Expr.TheOpen.{Expr-F}
use Rattle.psy_tree.specs.declared.unit.FunctionDecl.{FunctionDecl}
use Rattle.psy_tree.specs.declared.unit.Unit.{Unit as Whole}
use Rattle.psy_meaning.specs.Alike.{AllFit}
use Rattle.psy_meaning.specs.Expressions.{expr_step, eval, in_order, binary, truth_of, applied, element, messages_at}
use Rattle.psy_meaning.specs.Kept.{IsLookOf, Receives}
use Rattle.psy_meaning.specs.Sound.{Scope, HasPast, HasStream, GoesInto, Each, width_step, expr_width, sound_expr_step, IsSoundExpr}
use Rattle.psy_meaning.specs.States.{State, Ended, Trapped, Got, Value, Stops, Eval, Callee, and_then, cost_1, asking, or_stop, cells_at, value_at}
use Rattle.psy_meaning.proofs.KeptStates.{Shape, IsFine, value_fits, copy_fits, past_fits, next_fits, fine_cost, fine_past, fine_ready, fine_take}
use Rattle.psy_meaning.proofs.KeptValues.{Fits, Has, Ranges, zero_fits, one_fits, cast_fits, truth_fits}
use Rattle.psy_meaning.proofs.lemmas.SoundParts.{exprs_natural}

-- What a scope lets look at, receive and send by is the unit's.
pub record IsScopeOf (unit : Whole) (number : ℕ) (scope : Scope) : Type 0 where
  pub depths : scope.depths ≡ map (λ v. v.depth) unit.variables
  pub streams : scope.streams ≡ map (λ s. s.receiver == number) unit.streams
  pub clocks : scope.clocks ≤ length unit.clocks

module _ (unit : Whole) (number : ℕ) where
  -- a number of a type, or a trap; never an `advance`
  abbrev pub GotFine : List Width → Shape → Width → Got → Type 0
  GotFine widths shape width (Value v t) = Has width v × IsFine unit number widths shape t
  GotFine widths shape width (Stops (Trapped kind t)) = IsFine unit number widths shape t
  GotFine widths shape width (Stops (Ended point t)) = ⊥

  -- A function keeps the store of its caller, whatever its shape, and gives a number of 32 bits.
  abbrev pub CallKeeps : ℕ → Callee → Type 0
  CallKeeps params does = (widths : List Width) (shape : Shape) (arguments : List ℤ) (s : State) → length arguments ≡ params → AllFit arguments → IsFine unit number widths shape s
      → GotFine widths shape W32 (does arguments s)

  abbrev pub AllKeep : List FunctionDecl → (ℕ → Callee) → Type 0
  AllKeep functions callees = (function : ℕ) (decl : FunctionDecl) → slice_get functions function ≡ Some decl → CallKeeps decl.params (callees function)

module _ (ranges : Ranges) (unit : Whole) (number : ℕ) (scope : Scope) (of_unit : IsScopeOf unit number scope) (callees : ℕ → Callee) (all : AllKeep unit number scope.functions callees) (shape : Shape) where
  abbrev Fine : State → Type 0
  Fine s = IsFine unit number scope.widths shape s

  abbrev Good : Width → Got → Type 0
  Good width got = GotFine unit number scope.widths shape width got

  abbrev Keeps : Width → Eval → Type 0
  Keeps width e = (s : State) → Fine s → Good width (e s)

  -- The type of an expression
  abbrev type : Expr → Width
  type e = expr_width scope.widths e

  abbrev P : Expr → Type 0
  P e = IsSoundExpr scope e → Keeps (type e) (eval callees e)

  abbrev Known : Type 0
  Known = (e : Expr) × P e

  abbrev tree : Known → Expr
  tree k = k.0

  cost : (s : State) → Fine s → Fine (cost_1 s)
  cost s h = fine_cost unit number scope.widths shape s h

  good_then : (a b : Width) (got : Got) (go : ℤ → State → Got) → Good a got → ((v : ℤ) (t : State) → Has a v → Fine t → Good b (go v t)) → Good b (and_then got go)
  good_then a b (Value v t) go g h = h v t g.0 g.1
  good_then a b (Stops (Trapped kind t)) go g h = g
  good_then a b (Stops (Ended point t)) go g h = elim g [ ]

  good_or_stop : {A : Type 0} (width : Width) (kind : Trap) (found : Option A) (s : State) (go : A → Got) (Q : A → Type 0) → IfSome found Q → Fine s → ((x : A) → Q x → Good width (go x)) → Good width (or_stop kind found s go)
  good_or_stop width kind None s go Q q f h = cost s f
  good_or_stop width kind (Some x) s go Q q f h = h x q

  any : {A : Type 0} (found : Option A) → IfSome found (λ x. ⊤)
  any None = tt
  any (Some x) = tt

  good_element : (slot : ℕ) (index : ℤ) (s : State) → Fine s → Good (get_or scope.widths slot W32) (element slot index s)
  good_element slot index s f =
      let found = index_in (length (cells_at s.store slot)) index in
      good_or_stop (get_or scope.widths slot W32) trap.Index found s (λ i. Value (value_at s.store slot i) (cost_1 s)) (λ i. ⊤) (any found) f (λ i q. (value_fits scope.widths shape s.store slot i f.store, cost s f))

  good_applied : (operator : Op2) (width : Width) (a b : ℤ) (s : State) → Fine s → Good (type2 operator width) (applied operator width a b s)
  good_applied operator width a b s f =
      good_or_stop (type2 operator width) trap.Divide (taken2 (of_type width) operator a b) s (λ v. Value v (cost_1 s)) (Has (type2 operator width)) (ranges.two width operator a b) f (λ v has. (has, cost s f))

  good_truth : (width : Width) (got : Got) → Good width got → Good W32 (truth_of got)
  good_truth width got g = good_then width W32 got (λ v s. Value (truth (not (is_zero v))) (cost_1 s)) g (λ v t has f. (truth_fits (not (is_zero v)), cost t f))

  good_choice : (b : Bool) (this that : Got) → Good W32 this → Good W32 that → Good W32 (if b then this else that)
  good_choice true this that g h = g
  good_choice false this that g h = h

  good_both : (operator : Op2) (width a b : Width) (left right : Eval) → Keeps a left → Keeps b right → (s : State) → Fine s
      → Good (type2 operator width) (and_then (left s) (λ x t. and_then (right t) (λ y u. applied operator width x y u)))
  good_both operator width a b left right p q s f =
      good_then a (type2 operator width) (left s) _ (p s f) (λ x t has g. good_then b (type2 operator width) (right t) _ (q t g) (λ y u has k. good_applied operator width x y u k))

  good_binary : (operator : Op2) (width a b : Width) (left right : Eval) → Keeps a left → Keeps b right → Keeps (type2 operator width) (binary operator width left right)
  good_binary op.AndAnd width a b left right p q s f =
      good_then a W32 (left s) _ (p s f)
      (λ x t has g. good_choice (is_zero x) (Value (pos 0) (cost_1 t)) (truth_of (right (cost_1 t))) (zero_fits, cost t g) (good_truth b (right (cost_1 t)) (q (cost_1 t) (cost t g))))
  good_binary op.OrOr width a b left right p q s f =
      good_then a W32 (left s) _ (p s f)
      (λ x t has g. good_choice (is_zero x) (truth_of (right (cost_1 t))) (Value (pos 1) (cost_1 t)) (good_truth b (right (cost_1 t)) (q (cost_1 t) (cost t g))) (one_fits, cost t g))
  good_binary operator width a b left right p q s f = good_both operator width a b left right p q s f

  good_in_order : (ks : List Known) → Each (IsSoundExpr scope) (map tree ks) → Each (GoesInto scope W32) (map tree ks) → (s : State) → Fine s → (go : List ℤ → State → Got)
      → ((vs : List ℤ) (t : State) → length vs ≡ length (map tree ks) → AllFit vs → Fine t → Good W32 (go vs t)) → Good W32 (in_order (map (eval callees) (map tree ks)) s go)
  good_in_order [] e i s f go h = h [] s refl (All-nil Fits) f
  good_in_order (k ∷ ks) e i s f go h =
      good_then (type k.0) W32 (eval callees k.0 s) _ (k.1 e.0 s f)
      (λ v t has g. good_in_order ks e.1 i.1 t g (λ vs u. go (v ∷ vs) u) (λ vs u same all_fit. h (v ∷ vs) u (ap suc same) (All-cons Fits v vs (ranges.wider (type k.0) W32 v i.0 has) all_fit)))

  look : (variable back n : ℕ) → HasPast scope variable back → IsLookOf unit (record { number = n; variable = variable; back = back })
  look variable back n h = (h.0, subst (λ l. slice_get l variable ≡ Some h.0) of_unit.depths h.1, h.2)

  receives : (stream : ℕ) → HasStream scope stream → Receives unit number stream
  receives stream h = subst (λ l. slice_get l stream ≡ Some true) of_unit.streams h

  step : (y : Expr-F Known) → let x = map-Expr Known Expr tree y in
      sound_expr_step scope Expr (λ e. e) (IsSoundExpr scope) x → Keeps (width_step scope.widths (map-Expr Expr Width type x)) (expr_step callees (map-Expr Expr Eval (eval callees) x))
  step (Expr-F.Number n) h s f = (h, cost s f)
  step (Expr-F.Slot slot) h s f = (value_fits scope.widths shape s.store slot 0 f.store, cost s f)
  step (Expr-F.Copy variable) h s f = (copy_fits s.store variable f.store.copies, cost s f)
  step (Expr-F.Cell slot index) h s f =
      good_then (type index.0) (get_or scope.widths slot W32) (eval callees index.0 s) (λ i t. element slot i t) (index.1 h.1 s f) (λ i t has g. good_element slot i t g)
  step (Expr-F.Past variable back) h s f = (past_fits s.view variable back f.view, fine_past unit number scope.widths shape s variable back (λ n. look variable back n h) f)
  step (Expr-F.Ready stream) h s f = (cast_fits (length (messages_at s.view stream)), fine_ready unit number scope.widths shape s stream f)
  step (Expr-F.Take stream) h s f =
      good_or_stop W32 trap.Take (next_in s.view stream) s (λ v. Value v (asking (Take stream) s)) Fits (next_fits s.view stream f.view) f
      (λ v fits. (fits, fine_take unit number scope.widths shape s stream (receives stream h) f))
  step (Expr-F.Unary operator width operand) h s f =
      good_then (type operand.0) (type1 operator width) (eval callees operand.0 s) _ (operand.1 h s f) (λ a t has g. (ranges.one width operator a, cost t g))
  step (Expr-F.Binary operator width left right) h s f =
      good_binary operator width (type left.0) (type right.0) (eval callees left.0) (eval callees right.0) (left.1 h.0) (right.1 h.1) s f
  step (Expr-F.Cast width operand) h s f = good_then (type operand.0) width (eval callees operand.0 s) _ (operand.1 h s f) (λ a t has g. (SFits-int_wrap (of_type width) a, cost t g))
  step (Expr-F.Call function arguments) h s f =
      let (decl, got, same) = h.0 in
      good_in_order arguments h.1 h.2 s f (λ values t. callees function values (cost_1 t))
      (λ values t many fits g. all function decl got scope.widths shape values (cost_1 t) (many ∙ same) fits (cost t g))

  layer : (y : Expr-F Known) → P (roll-Expr (map-Expr Known Expr tree y))
  layer y h =
      let x : Expr-F Expr = map-Expr Known Expr tree y in
      subst (λ w. Keeps w (eval callees (roll-Expr x))) (sym (fold-roll-Expr Width (width_step scope.widths) x))
      (subst (Keeps (width_step scope.widths (map-Expr Expr Width type x))) (sym (fold-roll-Expr Eval (expr_step callees) x))
      (step y (subst (λ (t : Type 0). t) (rec-roll-Expr (Type 0) (sound_expr_step scope) (exprs_natural scope) x) h)))

  pub expr_keeps : (e : Expr) → P e
  expr_keeps = ind-Expr P (λ x y is. subst (λ z. P (roll-Expr z)) is (layer y))
