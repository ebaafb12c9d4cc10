-- What an action rests on, of what variables published: those alone that its text looks at.
use Rattle.std.proofs.Common.{◌≡◌, ℕ, zero, suc, ◌+◌, Bool, true, false, List, [], ◌∷◌, ◌++◌, map, length, Option, Some, None, refl, sym, ap, ◌∙◌, subst}
use Rattle.std.specs.Prelude.{◌==◌, if◌then◌else◌, not, slice_get, ℤ, pos}
use Rattle.std.specs.Int.{w32, int_wrap}
use Rattle.std.specs.List.{Contains}
use Rattle.std.proofs.lemmas.Option.{get_or_from_slice_get}
use Rattle.psy_arith.specs.declared.operators.Op2.{Op2}
use Rattle.psy_arith.specs.declared.operators.Op2.TheVariants as op
use Rattle.psy_arith.specs.declared.operators.Trap.TheVariants as trap
use Rattle.psy_arith.specs.declared.width.Width.{Width}
use Rattle.psy_arith.specs.Operators.{truth, is_zero}
use Rattle.psy_arith.specs.Types.{taken1, taken2}
use Rattle.psy_arith.specs.Widths.{of_type}
use Rattle.psy_code.specs.declared.look.Sent.{Sent}
use Rattle.psy_code.specs.Execution.{index_in}
use Rattle.psy_code.specs.Views.{View, Past, Ready, Take, Send, found_in, past_of, count_as_value, next_in, nothing_done}
use Rattle.psy_tree.specs.declared.unit.AgentDecl.{AgentDecl}
use Rattle.psy_tree.specs.declared.unit.Expr.{Expr, roll-Expr, fold-roll-Expr, map-Expr, ind-Expr}
use Rattle.psy_tree.specs.declared.unit.Expr.TheOpen.{Expr-F}
use Rattle.psy_tree.specs.declared.unit.FunctionDecl.{FunctionDecl}
use Rattle.psy_tree.specs.declared.unit.Stmt.{Stmt, roll-Stmt, fold-roll-Stmt, map-Stmt, ind-Stmt}
use Rattle.psy_tree.specs.declared.unit.Stmt.TheOpen.{Stmt-F}
use Rattle.psy_tree.specs.declared.unit.Unit.{Unit as Whole}
use Rattle.psy_meaning.specs.Alike.{begun}
use Rattle.psy_history.specs.Executors.{Carried, acted_by, by_statements, store_of}
use Rattle.psy_tree.specs.Parts.{agent_at}
use Rattle.psy_meaning.specs.Expressions.{applied, binary, element, eval, expr_step, in_order, messages_at, take_from, truth_of}
use Rattle.psy_meaning.specs.Rest.{rest}
use Rattle.psy_meaning.specs.Sound.{Each, AreSoundFunctions, IsSoundFunction, IsSoundUnit, function_scope}
use Rattle.psy_meaning.specs.States.{Act, Callee, Eval, Falls, Got, Halts, State, Trapped, Value, and_then, asking, cells_at, copy_at, cost_1, then_do, value_at, value_or_zero, with_copy_at, with_slot, with_value, Ended, Returns}
use Rattle.psy_meaning.specs.Statements.{Do, Hop, Piece, act, act_by, acts_by, all_of, callee, callees_from, callees_of, choose, function_frame, hop, in_store, no_callee, piece_by, set_element, stmt_step, turns, with_callee}
use Rattle.psy_meaning.proofs.lemmas.Eaches.{each-first, each-second}
use Rattle.psy_meaning.proofs.lemmas.RestPieces.{PiecesHave}
use Rattle.psy_history.specs.Feeding.{all_pasts, expr_pasts, expr_pasts_step, pasts_in, stmt_pasts, stmt_pasts_step}
use Rattle.psy_history.proofs.PastsOf.{ExprSees, StmtSees, blind_stmts, each_member, rest_sees}
use Rattle.psy_history.proofs.ViewsAlike.{ActAlike, CallsAlike, EvalAlike, GotAlike, Held, after, back_alike, both_end, both_fall, both_give, both_halt, both_return, both_trap, got_choice, got_or_stop, got_then, out_choice, out_or_halt, out_then, out_value, same_acted, seeing}

-- What a variable published so many dates back
abbrev value_seen : List (List ℤ) → ℕ → ℕ → Option ℤ
value_seen pasts variable back = found_in (slice_get pasts variable) (λ values. slice_get values back)

module _ (pasts others : List (List ℤ)) (Sees : ℕ → Type 0) (agree : (variable back : ℕ) → Sees variable → value_seen pasts variable back ≡ value_seen others variable back) where
  module _ (callees : ℕ → Callee) (all : CallsAlike pasts others callees) where
    -- ---- expressions

    abbrev Alike : Eval → Type 0
    Alike e = EvalAlike pasts others e

    abbrev P : Expr → Type 0
    P e = ExprSees Sees e → Alike (eval callees e)

    abbrev Given : Type 0
    Given = (e : Expr) × P e

    abbrev expr : Given → Expr
    expr k = k.0

    abbrev one : Held → Held
    one held = after cost_1 held

    element_alike : (slot : ℕ) (index : ℤ) → Alike (element slot index)
    element_alike slot index held =
        got_or_stop pasts others trap.Index (index_in (length (cells_at held.store slot)) index) held
        (λ i. Value (value_at held.store slot i) (cost_1 (seeing pasts held))) (λ i. Value (value_at held.store slot i) (cost_1 (seeing others held)))
        (λ i. both_give (value_at held.store slot i) (one held))

    take_alike : (stream : ℕ) → Alike (take_from stream)
    take_alike stream held =
        got_or_stop pasts others trap.Take (next_in (seeing pasts held).view stream) held
        (λ v. Value v (asking (Take stream) (seeing pasts held))) (λ v. Value v (asking (Take stream) (seeing others held)))
        (λ v. both_give v (after (asking (Take stream)) held))

    applied_alike : (operator : Op2) (width : Width) (a b : ℤ) → Alike (applied operator width a b)
    applied_alike operator width a b held =
        got_or_stop pasts others trap.Divide (taken2 (of_type width) operator a b) held (λ v. Value v (cost_1 (seeing pasts held))) (λ v. Value v (cost_1 (seeing others held))) (λ v. both_give v (one held))

    truth_alike : {got other : Got} → GotAlike pasts others got other → GotAlike pasts others (truth_of got) (truth_of other)
    truth_alike h = got_then pasts others (λ v s. Value (truth (not (is_zero v))) (cost_1 s)) h (λ v held. both_give (truth (not (is_zero v))) (one held))

    binary_alike : (operator : Op2) (width : Width) (left right : Eval) → Alike left → Alike right → Alike (binary operator width left right)
    binary_alike op.AndAnd width left right p q held =
        got_then pasts others (λ a t. if is_zero a then Value (pos 0) (cost_1 t) else truth_of (right (cost_1 t))) (p held)
        (λ a k. got_choice pasts others (is_zero a) (both_give (pos 0) (one k)) (truth_alike (q (one k))))
    binary_alike op.OrOr width left right p q held =
        got_then pasts others (λ a t. if is_zero a then truth_of (right (cost_1 t)) else Value (pos 1) (cost_1 t)) (p held)
        (λ a k. got_choice pasts others (is_zero a) (truth_alike (q (one k))) (both_give (pos 1) (one k)))
    binary_alike operator width left right p q held =
        got_then pasts others (λ a t. and_then (right t) (λ b u. applied operator width a b u)) (p held) (λ a k. got_then pasts others (λ b u. applied operator width a b u) (q k) (λ b l. applied_alike operator width a b l))

    in_order_alike : (ks : List Given) → Each Sees (all_pasts (map expr_pasts (map expr ks))) → (go : List ℤ → State → Got) → ((vs : List ℤ) → Alike (go vs)) → Alike (λ s. in_order (map (eval callees) (map expr ks)) s go)
    in_order_alike [] e go h held = h [] held
    in_order_alike (k ∷ ks) e go h held =
        let others_in = all_pasts (map expr_pasts (map expr ks)) in
        got_then pasts others (λ v t. in_order (map (eval callees) (map expr ks)) t (λ vs u. go (v ∷ vs) u)) (k.1 (each-first Sees (expr_pasts k.0) others_in e) held)
        (λ v l. in_order_alike ks (each-second Sees (expr_pasts k.0) others_in e) (λ vs u. go (v ∷ vs) u) (λ vs. h (v ∷ vs)) l)

    past_alike : (variable back : ℕ) → Sees variable → (held : Held)
        → GotAlike pasts others (Value (value_or_zero (value_seen pasts variable back)) (asking (Past variable back) (seeing pasts held))) (Value (value_or_zero (value_seen others variable back)) (asking (Past variable back) (seeing others held)))
    past_alike variable back sees held =
        subst
        (λ o. GotAlike pasts others (Value (value_or_zero (value_seen pasts variable back)) (asking (Past variable back) (seeing pasts held))) (Value (value_or_zero o) (asking (Past variable back) (seeing others held))))
        (agree variable back sees) (both_give (value_or_zero (value_seen pasts variable back)) (after (asking (Past variable back)) held))

    expr_alike_step : (y : Expr-F Given) → let x = map-Expr Given Expr expr y in Each Sees (expr_pasts_step (map-Expr Expr (List ℕ) expr_pasts x)) → Alike (expr_step callees (map-Expr Expr Eval (eval callees) x))
    expr_alike_step (Expr-F.Number number) h held = both_give number (one held)
    expr_alike_step (Expr-F.Slot slot) h held = both_give (value_at held.store slot 0) (one held)
    expr_alike_step (Expr-F.Copy variable) h held = both_give (copy_at held.store variable) (one held)
    expr_alike_step (Expr-F.Cell slot index) h held = got_then pasts others (λ i t. element slot i t) (index.1 h held) (element_alike slot)
    expr_alike_step (Expr-F.Past variable back) h held = past_alike variable back h.0 held
    expr_alike_step (Expr-F.Ready stream) h held = both_give (count_as_value (messages_at (seeing pasts held).view stream)) (after (asking (Ready stream)) held)
    expr_alike_step (Expr-F.Take stream) h held = take_alike stream held
    expr_alike_step (Expr-F.Unary operator width operand) h held =
        got_then pasts others (λ a t. Value (taken1 (of_type width) operator a) (cost_1 t)) (operand.1 h held) (λ a k. both_give (taken1 (of_type width) operator a) (one k))
    expr_alike_step (Expr-F.Cast width operand) h held =
        got_then pasts others (λ a t. Value (int_wrap (of_type width) a) (cost_1 t)) (operand.1 h held) (λ a k. both_give (int_wrap (of_type width) a) (one k))
    expr_alike_step (Expr-F.Binary operator width left right) h held =
        binary_alike operator width (eval callees left.0) (eval callees right.0) (left.1 (each-first Sees (expr_pasts left.0) (expr_pasts right.0) h)) (right.1 (each-second Sees (expr_pasts left.0) (expr_pasts right.0) h)) held
    expr_alike_step (Expr-F.Call function arguments) h held = in_order_alike arguments h (λ values t. callees function values (cost_1 t)) (λ values k. all function values (one k)) held

    expr_layer : (y : Expr-F Given) → P (roll-Expr (map-Expr Given Expr expr y))
    expr_layer y h =
        let x : Expr-F Expr = map-Expr Given Expr expr y in
        subst Alike (sym (fold-roll-Expr Eval (expr_step callees) x)) (expr_alike_step y (subst (Each Sees) (fold-roll-Expr (List ℕ) expr_pasts_step x) h))

    -- An expression gives the same where the variables are the same that it looks at,
    expr_alike : (e : Expr) → P e
    expr_alike = ind-Expr P (λ x y is. subst (λ z. P (roll-Expr z)) is (expr_layer y))

    -- ---- statements

    abbrev Same : Act → Type 0
    Same a = ActAlike pasts others a

    abbrev Q : Stmt → Type 0
    Q stmt = StmtSees Sees stmt → Same (act_by callees stmt)

    abbrev Known : Type 0
    Known = (stmt : Stmt) × Q stmt

    abbrev tree : Known → Stmt
    tree k = k.0

    element_set : (slot : ℕ) (index v : ℤ) → Same (set_element slot index v)
    element_set slot index v held =
        out_or_halt pasts others trap.Index (index_in (length (cells_at held.store slot)) index) held
        (λ i. Falls (with_slot slot i v (cost_1 (seeing pasts held)))) (λ i. Falls (with_slot slot i v (cost_1 (seeing others held))))
        (λ i. both_fall (after (λ s. with_slot slot i v (cost_1 s)) held))

    hop_same : Same hop
    hop_same held = both_fall (one held)

    falls_same : Same Falls
    falls_same held = both_fall held

    choose_same : (test : Expr) (holds fails : Act) → ExprSees Sees test → Same holds → Same fails → Same (choose (eval callees test) holds fails)
    choose_same test holds fails e p q held =
        out_value pasts others (λ v t. if is_zero v then fails (cost_1 t) else holds (cost_1 t)) (expr_alike test e held) (λ v k. out_choice pasts others (is_zero v) (q (one k)) (p (one k)))

    turns_same : (most : ℕ) (test : Expr) (body : Act) → ExprSees Sees test → Same body → Same (turns most (eval callees test) body)
    turns_same zero test body e p held =
        out_value pasts others (λ v t. if is_zero v then Falls (cost_1 (cost_1 t)) else Halts (Trapped trap.Loop (cost_1 t))) (expr_alike test e held)
        (λ v k. out_choice pasts others (is_zero v) (both_fall (one (one k))) (both_halt (Trapped trap.Loop (cost_1 (seeing pasts k))) (Trapped trap.Loop (cost_1 (seeing others k))) (both_trap trap.Loop (one k))))
    turns_same (suc more) test body e p held =
        let next : Act = λ u. turns more (eval callees test) body (cost_1 u) in
        out_value pasts others (λ v t. if is_zero v then Falls (cost_1 (cost_1 t)) else then_do (body (cost_1 (cost_1 t))) next) (expr_alike test e held)
        (λ v k. out_choice pasts others (is_zero v) (both_fall (one (one k))) (out_then pasts others next (p (one (one k))) (λ l. turns_same more test body e p (one l))))

    all_same : (ks : List Known) → Each Sees (pasts_in (map tree ks)) → Same (all_of (map (act_by callees) (map tree ks)))
    all_same [] h held = both_fall held
    all_same (k ∷ ks) h held =
        let others_in = pasts_in (map tree ks) in
        out_then pasts others (all_of (map (act_by callees) (map tree ks))) (k.1 (each-first Sees (stmt_pasts k.0) others_in h) held) (all_same ks (each-second Sees (stmt_pasts k.0) others_in h))

    stmt_same_step : (y : Stmt-F Known) → let x = map-Stmt Known Stmt tree y in Each Sees (stmt_pasts_step (map-Stmt Stmt (List ℕ) stmt_pasts x)) → Same (stmt_step callees (map-Stmt Stmt Act (act_by callees) x))
    stmt_same_step (Stmt-F.Set slot value) h held = out_value pasts others (λ v t. Falls (with_slot slot 0 v (cost_1 t))) (expr_alike value h held) (λ v k. both_fall (after (λ s. with_slot slot 0 v (cost_1 s)) k))
    stmt_same_step (Stmt-F.SetCopy variable value) h held =
        out_value pasts others (λ v t. Falls (with_copy_at variable (int_wrap w32 v) (cost_1 t))) (expr_alike value h held) (λ v k. both_fall (after (λ s. with_copy_at variable (int_wrap w32 v) (cost_1 s)) k))
    stmt_same_step (Stmt-F.SetCell slot index value) h held =
        let first = each-first Sees (expr_pasts index) (expr_pasts value) h in
        let second = each-second Sees (expr_pasts index) (expr_pasts value) h in
        out_value pasts others (λ i t. with_value (eval callees value t) (λ v u. set_element slot i v u)) (expr_alike index first held)
        (λ i k. out_value pasts others (λ v u. set_element slot i v u) (expr_alike value second k) (λ v l. element_set slot i v l))
    stmt_same_step (Stmt-F.If test branch None) h held =
        let inner = pasts_in (map tree branch) in
        choose_same test (all_of (map (act_by callees) (map tree branch))) Falls (each-first Sees (expr_pasts test) inner h) (all_same branch (each-second Sees (expr_pasts test) inner h)) falls_same held
    stmt_same_step (Stmt-F.If test branch (Some other)) h held =
        let this = pasts_in (map tree branch) in
        let that = pasts_in (map tree other) in
        let both = each-second Sees (expr_pasts test) (this ++ that) h in
        let first : Act = all_of (map (act_by callees) (map tree branch)) in
        choose_same test (λ t. then_do (first t) hop) (all_of (map (act_by callees) (map tree other))) (each-first Sees (expr_pasts test) (this ++ that) h)
        (λ k. out_then pasts others hop (all_same branch (each-first Sees this that both) k) hop_same) (all_same other (each-second Sees this that both)) held
    stmt_same_step (Stmt-F.Bounded test most body) h held =
        let inner = pasts_in (map tree body) in
        turns_same most test (all_of (map (act_by callees) (map tree body))) (each-first Sees (expr_pasts test) inner h) (all_same body (each-second Sees (expr_pasts test) inner h)) (one held)
    stmt_same_step (Stmt-F.Timed test body) h held =
        let inner = pasts_in (map tree body) in
        choose_same test (all_of (map (act_by callees) (map tree body))) Falls (each-first Sees (expr_pasts test) inner h) (all_same body (each-second Sees (expr_pasts test) inner h)) falls_same held
    stmt_same_step (Stmt-F.Send value stream late clock) h held =
        let sent : ℤ → Sent = λ v. record { stream = stream; value = int_wrap w32 v; after = late; clock = clock } in
        out_value pasts others (λ v t. Falls (asking (Send (sent v)) t)) (expr_alike value h held) (λ v k. both_fall (after (asking (Send (sent v))) k))
    stmt_same_step (Stmt-F.Advance point) h held = both_halt (Ended point (cost_1 (seeing pasts held))) (Ended point (cost_1 (seeing others held))) (both_end point (one held))
    stmt_same_step (Stmt-F.Return value) h held = out_value pasts others (λ v t. Returns v (cost_1 t)) (expr_alike value h held) (λ v k. both_return v (one k))

    stmt_layer : (y : Stmt-F Known) → Q (roll-Stmt (map-Stmt Known Stmt tree y))
    stmt_layer y h =
        let x : Stmt-F Stmt = map-Stmt Known Stmt tree y in
        subst Same (sym (fold-roll-Stmt Act (stmt_step callees) x)) (stmt_same_step y (subst (Each Sees) (fold-roll-Stmt (List ℕ) stmt_pasts_step x) h))

    -- so does a statement,
    stmt_same : (stmt : Stmt) → Q stmt
    stmt_same = ind-Stmt Q (λ x y is. subst (λ z. Q (roll-Stmt z)) is (stmt_layer y))

    -- and so do several,
    stmts_same : (stmts : List Stmt) → Each (StmtSees Sees) stmts → Same (acts_by callees stmts)
    stmts_same [] h held = both_fall held
    stmts_same (x ∷ xs) h held = out_then pasts others (acts_by callees xs) (stmt_same x h.0 held) (stmts_same xs h.1)

    -- and pieces.
    pieces_same : (pieces : List Piece) → PiecesHave (StmtSees Sees) pieces → Same (all_of (map (piece_by callees) pieces))
    pieces_same [] h held = both_fall held
    pieces_same (Do x ∷ xs) h held = out_then pasts others (all_of (map (piece_by callees) xs)) (stmt_same x h.0 held) (pieces_same xs h.1)
    pieces_same (Hop ∷ xs) h held = out_then pasts others (all_of (map (piece_by callees) xs)) (hop_same held) (pieces_same xs h.1)

  -- ---- functions

  callee_alike : (callees : ℕ → Callee) → CallsAlike pasts others callees → (above : List FunctionDecl) (f : FunctionDecl) → IsSoundFunction above f → (arguments : List ℤ) → EvalAlike pasts others (callee callees f arguments)
  callee_alike callees all above f sound arguments held =
      back_alike pasts others held.store (stmts_same callees all f.stmts (blind_stmts Sees (function_scope above [] [] f) refl f.stmts (sound.stmts [] [])) (after (in_store (function_frame f arguments)) held))

  with_alike : (number : ℕ) (last : Callee) (callees : ℕ → Callee) → ((arguments : List ℤ) → EvalAlike pasts others (last arguments)) → CallsAlike pasts others callees → CallsAlike pasts others (with_callee number last callees)
  with_alike number last callees p q function = by (function == number)
    where
      by : (t : Bool) (arguments : List ℤ) → EvalAlike pasts others ((if t then last else callees function) arguments)
      by true = p
      by false = q function

  from_alike : (number : ℕ) (callees : ℕ → Callee) (above fs : List FunctionDecl) → CallsAlike pasts others callees → AreSoundFunctions above fs → CallsAlike pasts others (callees_from number callees fs)
  from_alike number callees above [] all h = all
  from_alike number callees above (f ∷ fs) all h =
      from_alike (number + 1) (with_callee number (callee callees f) callees) (above ++ f ∷ []) fs (with_alike number (callee callees f) callees (callee_alike callees all above f h.0) all) h.1

  -- A sound unit's functions do the same, whatever the variables published.
  callees_alike : (fs : List FunctionDecl) → AreSoundFunctions [] fs → CallsAlike pasts others (callees_of fs)
  callees_alike fs h = from_alike 0 no_callee [] fs (λ function arguments held. both_give (pos 0) held) h

-- ---- actions

-- The same, of an agent that is known
acts_from : (unit : Whole) (agent : AgentDecl) (point : ℕ) (carried : Carried) (view other : View) (budget : ℕ) → IsSoundUnit unit → view.messages ≡ other.messages
    → ((variable back : ℕ) → Contains (pasts_in agent.stmts) variable → past_of view variable back ≡ past_of other variable back)
    → acted_by budget carried (act unit.functions (rest agent.stmts point) (begun (store_of agent carried) view)) ≡ acted_by budget carried (act unit.functions (rest agent.stmts point) (begun (store_of agent carried) other))
acts_from unit agent point carried view other budget sound messages agree =
    let Sees : ℕ → Type 0 = Contains (pasts_in agent.stmts) in
    let held : Held = record { store = store_of agent carried; messages = view.messages; deeds = nothing_done } in
    let sees = each_member Sees (pasts_in agent.stmts) (λ variable there. there) in
    let callees = callees_of unit.functions in
    let same = pieces_same view.pasts other.pasts Sees agree callees (callees_alike view.pasts other.pasts Sees agree unit.functions sound.functions) (rest agent.stmts point) (rest_sees Sees agent.stmts point sees) held in
    let seen : View = record { pasts = other.pasts; messages = view.messages } in
    let is : seen ≡ other = ap (λ (m : List (Option (List ℤ))). let v : View = record { pasts = other.pasts; messages = m } in v) messages in
    same_acted view.pasts other.pasts budget carried same ∙ ap (λ v. acted_by budget carried (act unit.functions (rest agent.stmts point) (begun (store_of agent carried) v))) is

-- What an action of a sound unit's agent does rests, of what variables published, on those alone that its text looks at.
pub acts_alike : (unit : Whole) (number : ℕ) (agent : AgentDecl) (point : ℕ) (carried : Carried) (view other : View) (budget : ℕ) → IsSoundUnit unit → slice_get unit.agents number ≡ Some agent → view.messages ≡ other.messages
    → ((variable back : ℕ) → Contains (pasts_in agent.stmts) variable → past_of view variable back ≡ past_of other variable back)
    → (by_statements unit).act number point carried view budget ≡ (by_statements unit).act number point carried other budget
acts_alike unit number agent point carried view other budget sound at messages agree =
    let is : agent_at unit number ≡ agent = get_or_from_slice_get unit.agents number agent _ at in
    let Same : AgentDecl → Type 0 = λ its. acted_by budget carried (act unit.functions (rest its.stmts point) (begun (store_of its carried) view)) ≡ acted_by budget carried (act unit.functions (rest its.stmts point) (begun (store_of its carried) other)) in
    subst Same (sym is) (acts_from unit agent point carried view other budget sound messages agree)
