-- The code of an expression acts as the expression.
use Rattle.std.proofs.Common.{◌≡◌, refl, sym, ap, subst, ◌∙◌, arith}
use Rattle.std.specs.Prelude.{ℕ, ◌+◌, ◌<◌, ◌≤◌, max, nat_lt, Bool, true, false, not, if◌then◌else◌, List, [], ◌∷◌, ◌++◌, map, length, slice_get, slice_index_or, Option, Some, None, ℤ, pos}
use Rattle.std.proofs.lemmas.List.{length-append}
use Rattle.std.specs.Int.{int_wrap}
use Rattle.psy_arith.specs.declared.operators.Op1.{Op1}
use Rattle.psy_arith.specs.declared.operators.Op1.TheVariants as one
use Rattle.psy_arith.specs.declared.operators.Op2.{Op2}
use Rattle.psy_arith.specs.declared.operators.Op2.TheVariants as op
use Rattle.psy_arith.specs.declared.operators.Trap.TheVariants as trap
use Rattle.psy_arith.specs.declared.width.Width.{Width}
use Rattle.psy_arith.specs.Operators.{truth, is_zero}
use Rattle.psy_arith.specs.Types.{taken1, taken2}
use Rattle.psy_arith.specs.Widths.{of_type}
use Rattle.psy_tree.specs.declared.unit.FunctionDecl.{FunctionDecl}
use Rattle.psy_tree.specs.declared.unit.Expr.{Expr, roll-Expr, fold-roll-Expr, para-roll-Expr, rec-roll-Expr, map-Expr, ind-Expr}
use Rattle.psy_tree.specs.declared.unit.Expr.TheOpen.{Expr-F}
use Rattle.psy_code.specs.declared.code.Code.{Code}
use Rattle.psy_code.specs.declared.code.AgentCode.{AgentCode}
use Rattle.psy_code.specs.declared.instr.Instr.{Instr}
use Rattle.psy_code.specs.declared.instr.Instr.TheVariants as instr
use Rattle.psy_code.specs.Views.{Past, Ready, Take, past_of, messages_of, count_as_value, first_of, found_in}
use Rattle.psy_code.specs.Execution.{index_in, copy_of, present, does, Went, Trapped}
use Rattle.psy_code.specs.Execution as code
use Rattle.psy_tree.specs.Paths.{total}
use Rattle.psy_meaning.specs.Sizes.{expr_size, expr_size_step}
use Rattle.psy_meaning.specs.Depths.{Depth, shallow, one_deep, deeper, on_top_of, stacked, expr_depth, expr_depth_step}
use Rattle.psy_meaning.specs.Sound.{Scope, HasSlot, HasCopy, HasPast, HasStream, HasFunction, Each, sound_expr_step, IsSoundExpr}
use Rattle.psy_meaning.specs.States.{Store, State, Got, Value, Eval, Callee, and_then, cost_1, asking, or_stop, value_at, copy_at, value_or_zero}
use Rattle.psy_meaning.specs.Expressions.{eval, expr_step, element, messages_at, take_from, applied, truth_of, in_order}
use Rattle.psy_meaning.proofs.lemmas.SoundParts.{exprs_natural}
use Rattle.psy_gen.specs.Emission.{Emit, Operand, base_of, cells_in_slot, arguments_code, width_of_unary, expr_code_step, expr_code}
use Rattle.psy_gen.proofs.Contexts.{Context, Home, Room, joined, machine_in, at, frame_size, present_in, copies_in, HasAt, has-first, has-second, Shape, GotAfter, got_leads, got_bind, got_before}
use Rattle.psy_gen.proofs.Lookups.{cell_is, cells_are, copy_is, past_is, messages_are, taken_there, got_is, index_small}
use Rattle.psy_gen.proofs.Steps.{step, traps}

pub len-one : (c : List Instr) (i : Instr) (n : ℕ) → length c ≡ n → length (c ++ i ∷ []) ≡ n + 1
len-one c i n e = length-append c (i ∷ []) ∙ ap (λ x. x + 1) e

-- An operator gives the same at the width at which code has it.
taken_at : (operator : Op1) (width : Width) (a : ℤ) → taken1 (of_type (width_of_unary operator width)) operator a ≡ taken1 (of_type width) operator a
taken_at one.Not width a = refl
taken_at one.Neg width a = refl
taken_at one.Flip width a = refl

-- The operands once these values were pushed
abbrev pub pushed : List ℤ → List ℤ → List ℤ
pushed [] operands = operands
pushed (v ∷ vs) operands = pushed vs (v ∷ operands)

module _ (whole : Code) (its : AgentCode) (sc : Scope) (k : Context) (callees : ℕ → Callee) (depths : List Depth) (more : ℕ) where
  abbrev pub depth_at : ℕ → Depth
  depth_at function = slice_index_or depths function shallow

  -- Copies are named in an agent's body alone.
  abbrev pub AtHome : Type 0
  AtHome = (variable : ℕ) → HasCopy sc variable → k ≡ Home

  -- Calls do what the functions do.
  abbrev pub CallsRun : Type 0
  CallsRun = (function : ℕ) (decl : FunctionDecl) → slice_get sc.functions function ≡ Some decl → (arguments operands : List ℤ) → length arguments ≡ decl.params → (p : ℕ) (counters : List ℕ) (s : State)
      → slice_get whole.instrs p ≡ Some (instr.Call function) → Shape sc s
      → Room its k (frame_size s.store counters) (length operands + max (length arguments) (depth_at function).operands) (depth_at function).cells more
      → GotAfter whole its sc k (p + 1) operands counters s (at k p (pushed arguments operands) s counters) (callees function arguments (cost_1 s))

  -- The code, of so many instructions and so deep, does what an expression does.
  abbrev pub Runs : Emit → ℕ → Depth → Eval → Type 0
  Runs code size d ev = (p : ℕ) (operands : List ℤ) (counters : List ℕ) (s : State) → HasAt whole.instrs p (code p) → p + size < length whole.instrs → Shape sc s
      → Room its k (frame_size s.store counters) (length operands + d.operands) d.cells more
      → GotAfter whole its sc k (p + size) operands counters s (at k p operands s counters) (ev s)

  abbrev pub Sized : Emit → ℕ → Type 0
  Sized code size = (p : ℕ) → length (code p) ≡ size

  ticked : (s : State) → Shape sc s → Shape sc (cost_1 s)
  ticked s shape = record { slots = shape.slots; copies = shape.copies; pasts = shape.pasts; streams = shape.streams }

  -- less room
  fewer : (size a b c d : ℕ) → Room its k size a c more → b ≤ a → d ≤ c → Room its k size b d more
  fewer size a b c d r h g = record { stack = omega (arith, r.stack, h); frames = omega (arith, r.frames, g); calls = r.calls }

  room_in : (s t : Store) (counters : List ℕ) (a c : ℕ) → t ≡ s → Room its k (frame_size s counters) a c more → Room its k (frame_size t counters) a c more
  room_in s t counters a c same r = subst (λ x. Room its k (frame_size x counters) a c more) (sym same) r

  got_at : (p q : ℕ) (operands : List ℤ) (counters : List ℕ) (before : State) (start : code.RunState) (got : Got) → p ≡ q → GotAfter whole its sc k p operands counters before start got → GotAfter whole its sc k q operands counters before start got
  got_at p q operands counters before start got e g = subst (λ x. GotAfter whole its sc k x operands counters before start got) e g

  -- One instruction that leaves a value
  value_step : (i : Instr) (v : ℤ) (before t u : State) (p : ℕ) (operands now : List ℤ) (counters : List ℕ) (room : ℕ) → slice_get whole.instrs p ≡ Some i
      → does whole its t.view i (machine_in k p now t.store counters) ≡ Went (machine_in k (p + 1) (v ∷ operands) u.store counters)
      → code.state_then (at k p now t counters) (code.call_by i now) (machine_in k (p + 1) (v ∷ operands) u.store counters) ≡ at k (p + 1) (v ∷ operands) u counters
      → u.store ≡ before.store → Shape sc u → Room its k (frame_size before.store counters) room 0 more → length operands + 1 ≤ room
      → GotAfter whole its sc k (p + 1) operands counters before (at k p now t counters) (Value v u)
  value_step i v before t u p operands now counters room here goes same store shape r fits = (
    store,
    shape,
    step whole its k p (p + 1) now (v ∷ operands) counters t u i 0 more here goes same
        (room_in before.store u.store counters (length (v ∷ operands)) 0 store (fewer (frame_size before.store counters) room (length (v ∷ operands)) 0 0 r (omega (arith, fits)) (omega arith))),
  )

  no_cells : (size a c : ℕ) → Room its k size a c more → Room its k size a 0 more
  no_cells size a c r = fewer size a a c 0 r (omega arith) (omega arith)

  number_runs : (v : ℤ) → Runs (λ p. instr.Push v ∷ []) 1 one_deep (λ s. Value v (cost_1 s))
  number_runs v p operands counters s h small shape room = value_step (instr.Push v) v s s (cost_1 s) p operands operands counters (length operands + 1) h.0 refl refl refl (ticked s shape) room (omega arith)

  slot_runs : (slot : ℕ) → HasSlot sc slot → Runs (λ p. instr.Load (base_of sc.layout slot) ∷ []) 1 one_deep (λ s. Value (value_at s.store slot 0) (cost_1 s))
  slot_runs slot (c, e, h0) p operands counters s h small shape room =
      let z : base_of sc.layout slot ≡ base_of sc.layout slot + 0 = omega arith in
      let found = ap (slice_get (joined s.store.slots)) z ∙ cell_is sc.layout s.store slot c 0 shape.slots e h0 in
      value_step (instr.Load (base_of sc.layout slot)) (value_at s.store slot 0) s s (cost_1 s) p operands operands counters (length operands + 1) h.0
      (rw (present_in k p operands s.store counters, found) refl) refl refl (ticked s shape) room (omega arith)

  copy_runs : AtHome → (variable : ℕ) → HasCopy sc variable → Runs (λ p. instr.LoadCopy variable ∷ []) 1 one_deep (λ s. Value (copy_at s.store variable) (cost_1 s))
  copy_runs home variable has p operands counters s h small shape room =
      let found = ap (λ x. copy_of variable (copies_in x s.store)) (home variable has) ∙ copy_is sc s.store variable shape.copies has in
      value_step (instr.LoadCopy variable) (copy_at s.store variable) s s (cost_1 s) p operands operands counters (length operands + 1) h.0 (rw found refl) refl refl (ticked s shape) room (omega arith)

  past_runs : (variable back : ℕ) → HasPast sc variable back → Runs (λ p. instr.Past variable back ∷ []) 1 one_deep (λ s. Value (value_or_zero (past_of s.view variable back)) (asking (Past variable back) s))
  past_runs variable back has p operands counters s h small shape room =
      value_step (instr.Past variable back) (value_or_zero (past_of s.view variable back)) s s (asking (Past variable back) s) p operands operands counters (length operands + 1) h.0
      (rw (past_is sc s.view variable back shape.pasts has) refl) refl refl (record { slots = shape.slots; copies = shape.copies; pasts = shape.pasts; streams = shape.streams }) room (omega arith)

  ready_runs : (stream : ℕ) → HasStream sc stream → Runs (λ p. instr.Ready stream ∷ []) 1 one_deep (λ s. Value (count_as_value (messages_at s.view stream)) (asking (Ready stream) s))
  ready_runs stream has p operands counters s h small shape room =
      value_step (instr.Ready stream) (count_as_value (messages_at s.view stream)) s s (asking (Ready stream) s) p operands operands counters (length operands + 1) h.0
      (rw (messages_are sc s.view stream shape.streams has) refl) refl refl (record { slots = shape.slots; copies = shape.copies; pasts = shape.pasts; streams = shape.streams }) room (omega arith)

  take_runs : (stream : ℕ) → HasStream sc stream → Runs (λ p. instr.Take stream ∷ []) 1 one_deep (take_from stream)
  take_runs stream has p operands counters s h small shape room =
      let found = messages_are sc s.view stream shape.streams has in
      subst (λ o. GotAfter whole its sc k (p + 1) operands counters s (at k p operands s counters) (or_stop trap.Take (found_in o first_of) s (λ v. Value v (asking (Take stream) s)))) (sym found) (from (messages_at s.view stream) found)
    where
      from : (ms : List ℤ) → messages_of s.view stream ≡ Some ms → GotAfter whole its sc k (p + 1) operands counters s (at k p operands s counters) (or_stop trap.Take (first_of ms) s (λ v. Value v (asking (Take stream) s)))
      from [] e = traps whole its k sc p operands counters s (instr.Take stream) trap.Take h.0 (rw e refl)
      from (m ∷ rest) e =
          value_step (instr.Take stream) m s s (asking (Take stream) s) p operands operands counters (length operands + 1) h.0 (rw e refl) refl refl
          (record { slots = shape.slots; copies = shape.copies; pasts = shape.pasts; streams = taken_there sc s.view stream shape.streams has }) room (omega arith)

  -- ---- one operand, and an instruction on it

  -- the second part stands behind the first
  behind : (c : Emit) (n p : ℕ) (rest : List Instr) → Sized c n → HasAt whole.instrs p (c p ++ rest) → HasAt whole.instrs (p + n) rest
  behind c n p rest sized h = subst (λ x. HasAt whole.instrs (p + x) rest) (sized p) (has-second whole.instrs p (c p) rest h)

  abbrev pub Goes : Emit → ℕ → Depth → Eval → Type 0
  Goes c n d ev = Sized c n × (1 ≤ d.operands) × Runs c n d ev

  -- One operand, and an instruction that goes on from it
  operand_runs : (c : Emit) (n : ℕ) (d : Depth) (ev : Eval) (i : Instr) (go : ℤ → State → Got) → Goes c n d ev
      → ((v : ℤ) (q : ℕ) (operands : List ℤ) (counters : List ℕ) (before t : State) → slice_get whole.instrs q ≡ Some i → t.store ≡ before.store → Shape sc t
      → Room its k (frame_size before.store counters) (length operands + 1) 0 more → GotAfter whole its sc k (q + 1) operands counters before (at k q (v ∷ operands) t counters) (go v t))
      → Runs (λ p. c p ++ i ∷ []) (n + 1) d (λ s. and_then (ev s) go)
  operand_runs c n d ev i go (sized, deep, runs) next p operands counters s h small shape room =
      let r = fewer (frame_size s.store counters) (length operands + d.operands) (length operands + 1) d.cells 0 room (omega (arith, deep)) (omega arith) in
      let e : p + n + 1 ≡ p + (n + 1) = omega arith in
      got_at (p + n + 1) (p + (n + 1)) operands counters s (at k p operands s counters) (and_then (ev s) go) e
      (got_bind whole its sc k (p + n) (p + n + 1) operands operands counters s (at k p operands s counters) (ev s) go
      (runs p operands counters s (has-first whole.instrs p (c p) (i ∷ []) h) (omega (arith, small)) shape room)
      (λ v t same sh. next v (p + n) operands counters s t (behind c n p (i ∷ []) sized h).0 same sh r))

  unary_runs : (operator : Op1) (width : Width) (c : Emit) (n : ℕ) (d : Depth) (ev : Eval) → Goes c n d ev
      → Runs (λ p. c p ++ instr.Unary operator (width_of_unary operator width) ∷ []) (n + 1) d (λ s. and_then (ev s) (λ a t. Value (taken1 (of_type width) operator a) (cost_1 t)))
  unary_runs operator width c n d ev goes =
      let i = instr.Unary operator (width_of_unary operator width) in
      operand_runs c n d ev i (λ a t. Value (taken1 (of_type width) operator a) (cost_1 t)) goes
      (λ a q operands counters before t here same sh r.
      value_step i (taken1 (of_type width) operator a) before t (cost_1 t) q operands (a ∷ operands) counters (length operands + 1) here
      (rw (taken_at operator width a) refl) refl same (ticked t sh) r (omega arith))

  cast_runs : (width : Width) (c : Emit) (n : ℕ) (d : Depth) (ev : Eval) → Goes c n d ev
      → Runs (λ p. c p ++ instr.Cast width ∷ []) (n + 1) d (λ s. and_then (ev s) (λ a t. Value (int_wrap (of_type width) a) (cost_1 t)))
  cast_runs width c n d ev goes =
      let i = instr.Cast width in
      operand_runs c n d ev i (λ a t. Value (int_wrap (of_type width) a) (cost_1 t)) goes
      (λ a q operands counters before t here same sh r.
      value_step i (int_wrap (of_type width) a) before t (cost_1 t) q operands (a ∷ operands) counters (length operands + 1) here refl refl same
      (ticked t sh) r (omega arith))

  element_step : (slot cells : ℕ) → slice_get sc.layout slot ≡ Some cells → (index : ℤ) (q : ℕ) (operands : List ℤ) (counters : List ℕ) (before t : State)
      → slice_get whole.instrs q ≡ Some (instr.LoadCell (base_of sc.layout slot) (cells_in_slot sc.layout slot)) → t.store ≡ before.store → Shape sc t
      → Room its k (frame_size before.store counters) (length operands + 1) 0 more → GotAfter whole its sc k (q + 1) operands counters before (at k q (index ∷ operands) t counters) (element slot index t)
  element_step slot cells e index q operands counters before t here same sh r =
      subst (λ n. GotAfter whole its sc k (q + 1) operands counters before (at k q (index ∷ operands) t counters) (or_stop trap.Index (index_in n index) t (λ i. Value (value_at t.store slot i) (cost_1 t))))
      (sym (cells_are sc.layout t.store slot cells sh.slots e)) (from (index_in cells index) refl)
    where
      from : (o : Option ℕ) → index_in cells index ≡ o → GotAfter whole its sc k (q + 1) operands counters before (at k q (index ∷ operands) t counters) (or_stop trap.Index o t (λ i. Value (value_at t.store slot i) (cost_1 t)))
      from None f = traps whole its k sc q (index ∷ operands) counters t (instr.LoadCell (base_of sc.layout slot) (cells_in_slot sc.layout slot)) trap.Index here (rw (got_is sc.layout slot cells e, f) refl)
      from (Some i) f =
          value_step (instr.LoadCell (base_of sc.layout slot) (cells_in_slot sc.layout slot)) (value_at t.store slot i) before t (cost_1 t) q operands (index ∷ operands) counters (length operands + 1) here
          (rw (got_is sc.layout slot cells e, f, present_in k q (index ∷ operands) t.store counters, cell_is sc.layout t.store slot cells i sh.slots e (index_small cells index i f)) refl) refl same (ticked t sh) r (omega arith)

  cell_runs : (slot : ℕ) → HasSlot sc slot → (c : Emit) (n : ℕ) (d : Depth) (ev : Eval) → Goes c n d ev
      → Runs (λ p. c p ++ instr.LoadCell (base_of sc.layout slot) (cells_in_slot sc.layout slot) ∷ []) (n + 1) d (λ s. and_then (ev s) (λ index t. element slot index t))
  cell_runs slot (cells, e, some) c n d ev goes =
      operand_runs c n d ev (instr.LoadCell (base_of sc.layout slot) (cells_in_slot sc.layout slot)) (λ index t. element slot index t) goes
      (λ index q operands counters before t here same sh r. element_step slot cells e index q operands counters before t here same sh r)

  -- ---- two operands

  applied_step : (operator : Op2) (width : Width) (a b : ℤ) (q : ℕ) (operands : List ℤ) (counters : List ℕ) (before t : State)
      → slice_get whole.instrs q ≡ Some (instr.Binary operator width) → t.store ≡ before.store → Shape sc t
      → Room its k (frame_size before.store counters) (length operands + 1) 0 more → GotAfter whole its sc k (q + 1) operands counters before (at k q (b ∷ (a ∷ operands)) t counters) (applied operator width a b t)
  applied_step operator width a b q operands counters before t here same sh r = from (taken2 (of_type width) operator a b) refl
    where
      from : (o : Option ℤ) → taken2 (of_type width) operator a b ≡ o → GotAfter whole its sc k (q + 1) operands counters before (at k q (b ∷ (a ∷ operands)) t counters) (or_stop trap.Divide o t (λ v. Value v (cost_1 t)))
      from None f = traps whole its k sc q (b ∷ (a ∷ operands)) counters t (instr.Binary operator width) trap.Divide here (rw f refl)
      from (Some v) f =
          value_step (instr.Binary operator width) v before t (cost_1 t) q operands (b ∷ (a ∷ operands)) counters (length operands + 1) here (rw f refl) refl same (ticked t sh) r (omega arith)

  both_runs : (operator : Op2) (width : Width) → (cl cr : Emit) (nl nr : ℕ) (dl dr : Depth) (el er : Eval) → Goes cl nl dl el → Goes cr nr dr er
      → Runs (λ p. cl p ++ (cr (p + nl) ++ instr.Binary operator width ∷ [])) (nl + (nr + 1)) (deeper dl (on_top_of 1 dr))
      (λ s. and_then (el s) (λ a t. and_then (er t) (λ b u. applied operator width a b u)))
  both_runs operator width cl cr nl nr dl dr el er (lsized, ldeep, lruns) (rsized, rdeep, rruns) p operands counters s h small shape room =
      let i = instr.Binary operator width in
      let d = deeper dl (on_top_of 1 dr) in
      let left = has-first whole.instrs p (cl p) (cr (p + nl) ++ i ∷ []) h in
      let right = behind cl nl p (cr (p + nl) ++ i ∷ []) lsized h in
      let last = behind cr nr (p + nl) (i ∷ []) rsized right in
      let rl = fewer (frame_size s.store counters) (length operands + d.operands) (length operands + dl.operands) d.cells dl.cells room (omega arith) (omega arith) in
      let r1 = fewer (frame_size s.store counters) (length operands + d.operands) (length operands + 1) d.cells 0 room (omega (arith, ldeep)) (omega arith) in
      let e : p + nl + nr + 1 ≡ p + (nl + (nr + 1)) = omega arith in
      got_at (p + nl + nr + 1) (p + (nl + (nr + 1))) operands counters s (at k p operands s counters) _ e
      (got_bind whole its sc k (p + nl) (p + nl + nr + 1) operands operands counters s (at k p operands s counters) (el s) _ (lruns p operands counters s left (omega (arith, small)) shape rl)
      (λ a t same sh.
      got_bind whole its sc k (p + nl + nr) (p + nl + nr + 1) (a ∷ operands) operands counters s (at k (p + nl) (a ∷ operands) t counters) (er t) _
      (got_before whole its sc k (p + nl + nr) (a ∷ operands) counters s t (at k (p + nl) (a ∷ operands) t counters) (er t) same
      (rruns (p + nl) (a ∷ operands) counters t (has-first whole.instrs (p + nl) (cr (p + nl)) (i ∷ []) right) (omega (arith, small)) sh
      (room_in s.store t.store counters (length (a ∷ operands) + dr.operands) dr.cells same (fewer (frame_size s.store counters) (length operands + d.operands) (length (a ∷ operands) + dr.operands) d.cells dr.cells room (omega arith) (omega arith)))))
      (λ b u same' sh'. applied_step operator width a b (p + nl + nr) operands counters s u last.0 same' sh' r1)))

  -- `&&` and `||`
  abbrev end_of : ℕ → ℕ → ℕ → ℕ
  end_of p nl nr = p + nl + 1 + nr + 1

  truth_step : (b : ℤ) (q : ℕ) (operands : List ℤ) (counters : List ℕ) (before t : State) → slice_get whole.instrs q ≡ Some instr.Truth → t.store ≡ before.store → Shape sc t
      → Room its k (frame_size before.store counters) (length operands + 1) 0 more → GotAfter whole its sc k (q + 1) operands counters before (at k q (b ∷ operands) t counters) (Value (truth (not (is_zero b))) (cost_1 t))
  truth_step b q operands counters before t here same sh r = value_step instr.Truth (truth (not (is_zero b))) before t (cost_1 t) q operands (b ∷ operands) counters (length operands + 1) here refl refl same (ticked t sh) r (omega arith)

  in_code_is : (to : ℕ) (next : code.Next) → to < length whole.instrs → code.in_code whole to next ≡ next
  in_code_is to next h = let e : nat_lt to (length whole.instrs) ≡ true = grind (arith, h) in rw e refl

  -- Where the test jumps, it leaves its answer.
  jump_step : (i : Instr) (v : ℤ) (q to : ℕ) (operands : List ℤ) (now : List ℤ) (counters : List ℕ) (before t : State) → slice_get whole.instrs q ≡ Some i
      → does whole its t.view i (machine_in k q now t.store counters) ≡ Went (machine_in k to (v ∷ operands) t.store counters)
      → code.state_then (at k q now t counters) (code.call_by i now) (machine_in k to (v ∷ operands) t.store counters) ≡ at k to (v ∷ operands) (cost_1 t) counters
      → t.store ≡ before.store → Shape sc t → Room its k (frame_size before.store counters) (length operands + 1) 0 more
      → GotAfter whole its sc k to operands counters before (at k q now t counters) (Value v (cost_1 t))
  jump_step i v q to operands now counters before t here goes same_state same sh r =
      (same, ticked t sh, step whole its k q to now (v ∷ operands) counters t (cost_1 t) i 0 more here goes same_state (room_in before.store t.store counters (length (v ∷ operands)) 0 same (fewer (frame_size before.store counters) (length operands + 1) (length (v ∷ operands)) 0 0 r (omega arith) (omega arith))))

  -- Where it doesn't, the right side is evaluated.
  right_runs : (i : Instr) (cr : Emit) (nr : ℕ) (dr : Depth) (er : Eval) → Goes cr nr dr er → (v : ℤ) (q : ℕ) (operands : List ℤ) (counters : List ℕ) (before t : State) → slice_get whole.instrs q ≡ Some i
      → HasAt whole.instrs (q + 1) (cr (q + 1) ++ instr.Truth ∷ []) → q + 1 + nr + 1 < length whole.instrs
      → does whole its t.view i (machine_in k q (v ∷ operands) t.store counters) ≡ Went (machine_in k (q + 1) operands t.store counters)
      → code.state_then (at k q (v ∷ operands) t counters) (code.call_by i (v ∷ operands)) (machine_in k (q + 1) operands t.store counters) ≡ at k (q + 1) operands (cost_1 t) counters
      → t.store ≡ before.store → Shape sc t → Room its k (frame_size before.store counters) (length operands + dr.operands) dr.cells more
      → GotAfter whole its sc k (q + 1 + nr + 1) operands counters before (at k q (v ∷ operands) t counters) (truth_of (er (cost_1 t)))
  right_runs i cr nr dr er (sized, deep, runs) v q operands counters before t here h small goes same_state same sh r =
      let r1 = fewer (frame_size before.store counters) (length operands + dr.operands) (length operands + 1) dr.cells 0 r (omega (arith, deep)) (omega arith) in
      let r0 = fewer (frame_size before.store counters) (length operands + dr.operands) (length operands) dr.cells 0 r (omega arith) (omega arith) in
      let first = step whole its k q (q + 1) (v ∷ operands) operands counters t (cost_1 t) i 0 more here goes same_state (room_in before.store t.store counters (length operands) 0 same r0) in
      got_leads whole its sc k (q + 1 + nr + 1) operands counters before (at k q (v ∷ operands) t counters) (at k (q + 1) operands (cost_1 t) counters) (truth_of (er (cost_1 t))) first
      (got_bind whole its sc k (q + 1 + nr) (q + 1 + nr + 1) operands operands counters before (at k (q + 1) operands (cost_1 t) counters) (er (cost_1 t)) _
      (got_before whole its sc k (q + 1 + nr) operands counters before (cost_1 t) (at k (q + 1) operands (cost_1 t) counters) (er (cost_1 t)) same
      (runs (q + 1) operands counters (cost_1 t) (has-first whole.instrs (q + 1) (cr (q + 1)) (instr.Truth ∷ []) h) (omega (arith, small)) (ticked t sh) (room_in before.store t.store counters (length operands + dr.operands) dr.cells same r)))
      (λ b u same' sh'. truth_step b (q + 1 + nr) operands counters before u (behind cr nr (q + 1) (instr.Truth ∷ []) sized h).0 same' sh' r1))

  and_choice : (cr : Emit) (nr : ℕ) (dr : Depth) (er : Eval) → Goes cr nr dr er → (v : ℤ) (q : ℕ) (operands : List ℤ) (counters : List ℕ) (before t : State) → slice_get whole.instrs q ≡ Some (instr.AndTest (q + 1 + nr + 1))
      → HasAt whole.instrs (q + 1) (cr (q + 1) ++ instr.Truth ∷ []) → q + 1 + nr + 1 < length whole.instrs
      → t.store ≡ before.store → Shape sc t → Room its k (frame_size before.store counters) (length operands + dr.operands) dr.cells more
      → GotAfter whole its sc k (q + 1 + nr + 1) operands counters before (at k q (v ∷ operands) t counters) (if is_zero v then Value (pos 0) (cost_1 t) else truth_of (er (cost_1 t)))
  and_choice cr nr dr er goes v q operands counters before t here h small same sh r = from (is_zero v) refl
    where
      from : (b : Bool) → is_zero v ≡ b → GotAfter whole its sc k (q + 1 + nr + 1) operands counters before (at k q (v ∷ operands) t counters) (if b then Value (pos 0) (cost_1 t) else truth_of (er (cost_1 t)))
      from true e =
          jump_step (instr.AndTest (q + 1 + nr + 1)) (pos 0) q (q + 1 + nr + 1) operands (v ∷ operands) counters before t here (in_code_is (q + 1 + nr + 1) _ small ∙ rw e refl) refl same sh
          (fewer (frame_size before.store counters) (length operands + dr.operands) (length operands + 1) dr.cells 0 r (omega (arith, goes.1)) (omega arith))
      from false e = right_runs (instr.AndTest (q + 1 + nr + 1)) cr nr dr er goes v q operands counters before t here h small (in_code_is (q + 1 + nr + 1) _ small ∙ rw e refl) refl same sh r

  or_choice : (cr : Emit) (nr : ℕ) (dr : Depth) (er : Eval) → Goes cr nr dr er → (v : ℤ) (q : ℕ) (operands : List ℤ) (counters : List ℕ) (before t : State) → slice_get whole.instrs q ≡ Some (instr.OrTest (q + 1 + nr + 1))
      → HasAt whole.instrs (q + 1) (cr (q + 1) ++ instr.Truth ∷ []) → q + 1 + nr + 1 < length whole.instrs
      → t.store ≡ before.store → Shape sc t → Room its k (frame_size before.store counters) (length operands + dr.operands) dr.cells more
      → GotAfter whole its sc k (q + 1 + nr + 1) operands counters before (at k q (v ∷ operands) t counters) (if is_zero v then truth_of (er (cost_1 t)) else Value (pos 1) (cost_1 t))
  or_choice cr nr dr er goes v q operands counters before t here h small same sh r = from (is_zero v) refl
    where
      from : (b : Bool) → is_zero v ≡ b → GotAfter whole its sc k (q + 1 + nr + 1) operands counters before (at k q (v ∷ operands) t counters) (if b then truth_of (er (cost_1 t)) else Value (pos 1) (cost_1 t))
      from true e = right_runs (instr.OrTest (q + 1 + nr + 1)) cr nr dr er goes v q operands counters before t here h small (in_code_is (q + 1 + nr + 1) _ small ∙ rw e refl) refl same sh r
      from false e =
          jump_step (instr.OrTest (q + 1 + nr + 1)) (pos 1) q (q + 1 + nr + 1) operands (v ∷ operands) counters before t here (in_code_is (q + 1 + nr + 1) _ small ∙ rw e refl) refl same sh
          (fewer (frame_size before.store counters) (length operands + dr.operands) (length operands + 1) dr.cells 0 r (omega (arith, goes.1)) (omega arith))

  -- A left side, and what its test makes of the right one
  lazy_runs : (test : ℕ → Instr) (cl cr : Emit) (nl nr : ℕ) (dl dr : Depth) (el er : Eval) (go : ℤ → State → Got) → Goes cl nl dl el → Goes cr nr dr er
      → ((v : ℤ) (q : ℕ) (operands : List ℤ) (counters : List ℕ) (before t : State) → slice_get whole.instrs q ≡ Some (test (q + 1 + nr + 1)) → HasAt whole.instrs (q + 1) (cr (q + 1) ++ instr.Truth ∷ []) → q + 1 + nr + 1 < length whole.instrs
      → t.store ≡ before.store → Shape sc t → Room its k (frame_size before.store counters) (length operands + dr.operands) dr.cells more
      → GotAfter whole its sc k (q + 1 + nr + 1) operands counters before (at k q (v ∷ operands) t counters) (go v t))
      → Runs (λ p. cl p ++ (test (p + nl + 1 + nr + 1) ∷ (cr (p + nl + 1) ++ instr.Truth ∷ []))) (nl + (nr + 2)) (deeper dl dr) (λ s. and_then (el s) go)
  lazy_runs test cl cr nl nr dl dr el er go (lsized, ldeep, lruns) right next p operands counters s h small shape room =
      let d = deeper dl dr in
      let rest = test (p + nl + 1 + nr + 1) ∷ (cr (p + nl + 1) ++ instr.Truth ∷ []) in
      let there = behind cl nl p rest lsized h in
      let e : p + nl + 1 + nr + 1 ≡ p + (nl + (nr + 2)) = omega arith in
      got_at (p + nl + 1 + nr + 1) (p + (nl + (nr + 2))) operands counters s (at k p operands s counters) _ e
      (got_bind whole its sc k (p + nl) (p + nl + 1 + nr + 1) operands operands counters s (at k p operands s counters) (el s) go
      (lruns p operands counters s (has-first whole.instrs p (cl p) rest h) (omega (arith, small)) shape (fewer (frame_size s.store counters) (length operands + d.operands) (length operands + dl.operands) d.cells dl.cells room (omega arith) (omega arith)))
      (λ v t same sh. next v (p + nl) operands counters s t there.0 there.1 (omega (arith, small)) same sh (fewer (frame_size s.store counters) (length operands + d.operands) (length operands + dr.operands) d.cells dr.cells room (omega arith) (omega arith))))

  -- ---- all expressions

  abbrev pub PE : Expr → Type 0
  PE e = Sized (expr_code sc.layout e) (expr_size e) × (1 ≤ (expr_depth depths e).operands) × (IsSoundExpr sc e → Runs (expr_code sc.layout e) (expr_size e) (expr_depth depths e) (eval callees e))

  abbrev Known : Type 0
  Known = (e : Expr) × PE e

  abbrev tree : Known → Expr
  tree x = x.0

  goes_of : (x : Known) → IsSoundExpr sc x.0 → Goes (expr_code sc.layout x.0) (expr_size x.0) (expr_depth depths x.0) (eval callees x.0)
  goes_of x sound = (x.1.0, x.1.1, x.1.2 sound)

  abbrev operand_of : Expr → Operand
  operand_of e = (e, expr_code sc.layout e)

  abbrev args_size : List Known → ℕ
  args_size ks = total (map expr_size (map tree ks))

  abbrev args_depth : ℕ → List Known → Depth
  args_depth held ks = stacked held (map (expr_depth depths) (map tree ks))

  -- the arguments of a call, one after the other
  arguments_run : (ks : List Known) (last : List Instr) (go : List ℤ → State → Got) (p q base held : ℕ) (operands result : List ℤ) (counters : List ℕ) (before s : State)
      → HasAt whole.instrs p (arguments_code (map operand_of (map tree ks)) last p) → p + args_size ks < length whole.instrs → Each (IsSoundExpr sc) (map tree ks) → s.store ≡ before.store → Shape sc s
      → length operands ≡ base + held → Room its k (frame_size before.store counters) (base + (args_depth held ks).operands) (args_depth held ks).cells more
      → ((vs : List ℤ) (t : State) → length vs ≡ length ks → t.store ≡ before.store → Shape sc t → HasAt whole.instrs (p + args_size ks) last → GotAfter whole its sc k q result counters before (at k (p + args_size ks) (pushed vs operands) t counters) (go vs t))
      → GotAfter whole its sc k q result counters before (at k p operands s counters) (in_order (map (eval callees) (map tree ks)) s go)
  arguments_run [] last go p q base held operands result counters before s h small sound same shape len room next =
      let e : p + 0 ≡ p = omega arith in
      subst (λ x. GotAfter whole its sc k q result counters before (at k x operands s counters) (go [] s)) e (next [] s refl same shape (subst (λ x. HasAt whole.instrs x last) (sym e) h))
  arguments_run (x ∷ xs) last go p q base held operands result counters before s h small sound same shape len room next =
      let c = expr_code sc.layout x.0 in
      let n = expr_size x.0 in
      let d = expr_depth depths x.0 in
      let all = args_depth held (x ∷ xs) in
      let rest = arguments_code (map operand_of (map tree xs)) last (p + n) in
      let e : p + n + args_size xs ≡ p + args_size (x ∷ xs) = omega arith in
      got_bind whole its sc k (p + n) q operands result counters before (at k p operands s counters) (eval callees x.0 s) _
      (got_before whole its sc k (p + n) operands counters before s (at k p operands s counters) (eval callees x.0 s) same
      (x.1.2 sound.0 p operands counters s (has-first whole.instrs p (c p) rest h) (omega (arith, small)) shape
      (room_in before.store s.store counters (length operands + d.operands) d.cells same (fewer (frame_size before.store counters) (base + all.operands) (length operands + d.operands) all.cells d.cells room (omega (arith, len)) (omega arith)))))
      (λ v t same' sh.
      arguments_run xs last (λ vs u. go (v ∷ vs) u) (p + n) q base (held + 1) (v ∷ operands) result counters before t (behind c n p rest x.1.0 h) (omega (arith, small)) sound.1 same' sh (omega (arith, len))
      (fewer (frame_size before.store counters) (base + all.operands) (base + (args_depth (held + 1) xs).operands) all.cells (args_depth (held + 1) xs).cells room (omega arith) (omega arith))
      (λ vs u lengths same'' sh'' has.
      subst (λ y. GotAfter whole its sc k q result counters before (at k y (pushed vs (v ∷ operands)) u counters) (go (v ∷ vs) u)) (sym e)
      (next (v ∷ vs) u (omega (arith, lengths)) same'' sh'' (subst (λ y. HasAt whole.instrs y last) e has))))

  args_deep : (ks : List Known) (held : ℕ) → held + length ks ≤ max held (args_depth held ks).operands
  args_deep [] held = omega arith
  args_deep (x ∷ xs) held = omega (arith, args_deep xs (held + 1), x.1.1)

  args_sized : (ks : List Known) (last : List Instr) (p : ℕ) → length (arguments_code (map operand_of (map tree ks)) last p) ≡ args_size ks + length last
  args_sized [] last p = omega arith
  args_sized (x ∷ xs) last p = length-append (expr_code sc.layout x.0 p) (arguments_code (map operand_of (map tree xs)) last (p + expr_size x.0)) ∙ omega (arith, x.1.0 p, args_sized xs last (p + expr_size x.0))

  lengths-map : (ks : List Known) → length (map tree ks) ≡ length ks
  lengths-map [] = refl
  lengths-map (x ∷ xs) = omega (arith, lengths-map xs)

  call_runs : CallsRun → (function : ℕ) (ks : List Known) → HasFunction sc function (length (map tree ks)) → Each (IsSoundExpr sc) (map tree ks)
      → Runs (arguments_code (map operand_of (map tree ks)) (instr.Call function ∷ [])) (args_size ks + 1) (deeper one_deep (deeper (args_depth 0 ks) (depth_at function))) (λ s. in_order (map (eval callees) (map tree ks)) s (λ values t. callees function values (cost_1 t)))
  call_runs calls function ks (decl, e, params) sound p operands counters s h small shape room =
      let d = deeper one_deep (deeper (args_depth 0 ks) (depth_at function)) in
      let f = depth_at function in
      let size = args_size ks in
      let place : p + size + 1 ≡ p + (size + 1) = omega arith in
      got_at (p + size + 1) (p + (size + 1)) operands counters s (at k p operands s counters) _ place
      (arguments_run ks (instr.Call function ∷ []) (λ values t. callees function values (cost_1 t)) p (p + size + 1) (length operands) 0 operands operands counters s s h (omega (arith, small)) sound refl shape (omega arith)
      (fewer (frame_size s.store counters) (length operands + d.operands) (length operands + (args_depth 0 ks).operands) d.cells (args_depth 0 ks).cells room (omega arith) (omega arith))
      (λ vs t len same sh has.
      got_before whole its sc k (p + size + 1) operands counters s t (at k (p + size) (pushed vs operands) t counters) (callees function vs (cost_1 t)) same
      (calls function decl e vs operands (omega (arith, len, params, lengths-map ks)) (p + size) counters t has.0 sh
      (room_in s.store t.store counters (length operands + max (length vs) f.operands) f.cells same
      (fewer (frame_size s.store counters) (length operands + d.operands) (length operands + max (length vs) f.operands) d.cells f.cells room (omega (arith, len, args_deep ks 0)) (omega arith))))))

  -- What is known of a layer's code, once it is known of its parts
  abbrev Layer : Expr-F Expr → Type 0
  Layer x =
      let c = expr_code_step sc.layout (map-Expr Expr Operand operand_of x) in
      let n = expr_size_step (map-Expr Expr ℕ expr_size x) in
      let d = expr_depth_step depths (map-Expr Expr Depth (expr_depth depths) x) in
      Sized c n × (1 ≤ d.operands) × (sound_expr_step sc Expr (λ e. e) (IsSoundExpr sc) x → Runs c n d (expr_step callees (map-Expr Expr Eval (eval callees) x)))

  module _ (calls : CallsRun) (home : AtHome) where
    both_layer : (operator : Op2) (width : Width) (l r : Known) → let n = expr_size l.0 + (expr_size r.0 + 1) in let c : Emit = (λ p. expr_code sc.layout l.0 p ++ (expr_code sc.layout r.0 (p + expr_size l.0) ++ instr.Binary operator width ∷ [])) in
        let d = deeper (expr_depth depths l.0) (on_top_of 1 (expr_depth depths r.0)) in
        Sized c n × (1 ≤ d.operands) × (IsSoundExpr sc l.0 × IsSoundExpr sc r.0 → Runs c n d (λ s. and_then (eval callees l.0 s) (λ a t. and_then (eval callees r.0 t) (λ b u. applied operator width a b u))))
    both_layer operator width l r = (
      λ p. length-append (expr_code sc.layout l.0 p) _ ∙ omega (arith, l.1.0 p, len-one (expr_code sc.layout r.0 (p + expr_size l.0)) (instr.Binary operator width) (expr_size r.0) (r.1.0 (p + expr_size l.0))),
      omega (arith, l.1.1),
      λ sound. both_runs operator width (expr_code sc.layout l.0) (expr_code sc.layout r.0) (expr_size l.0) (expr_size r.0) (expr_depth depths l.0) (expr_depth depths r.0) (eval callees l.0) (eval callees r.0) (goes_of l sound.0) (goes_of r sound.1),
    )

    lazy_sized : (test : ℕ → Instr) (l r : Known) → Sized (λ p. expr_code sc.layout l.0 p ++ (test (p + expr_size l.0 + 1 + expr_size r.0 + 1) ∷ (expr_code sc.layout r.0 (p + expr_size l.0 + 1) ++ instr.Truth ∷ []))) (expr_size l.0 + (expr_size r.0 + 2))
    lazy_sized test l r p =
        length-append (expr_code sc.layout l.0 p) _ ∙ omega (arith, l.1.0 p, len-one (expr_code sc.layout r.0 (p + expr_size l.0 + 1)) instr.Truth (expr_size r.0) (r.1.0 (p + expr_size l.0 + 1)))

    binary_layer : (operator : Op2) (width : Width) (l r : Known) → Layer (Expr-F.Binary operator width l.0 r.0)
    binary_layer op.AndAnd width l r = (
      lazy_sized instr.AndTest l r,
      omega (arith, l.1.1),
      λ sound. lazy_runs instr.AndTest (expr_code sc.layout l.0) (expr_code sc.layout r.0) (expr_size l.0) (expr_size r.0) (expr_depth depths l.0) (expr_depth depths r.0) (eval callees l.0) (eval callees r.0) _ (goes_of l sound.0) (goes_of r sound.1)
          (λ v q operands counters before t here h small same sh room. and_choice (expr_code sc.layout r.0) (expr_size r.0) (expr_depth depths r.0) (eval callees r.0) (goes_of r sound.1) v q operands counters before t here h small same sh room),
    )
    binary_layer op.OrOr width l r = (
      lazy_sized instr.OrTest l r,
      omega (arith, l.1.1),
      λ sound. lazy_runs instr.OrTest (expr_code sc.layout l.0) (expr_code sc.layout r.0) (expr_size l.0) (expr_size r.0) (expr_depth depths l.0) (expr_depth depths r.0) (eval callees l.0) (eval callees r.0) _ (goes_of l sound.0) (goes_of r sound.1)
          (λ v q operands counters before t here h small same sh room. or_choice (expr_code sc.layout r.0) (expr_size r.0) (expr_depth depths r.0) (eval callees r.0) (goes_of r sound.1) v q operands counters before t here h small same sh room),
    )
    binary_layer operator width l r = both_layer operator width l r

    layer_runs : (y : Expr-F Known) → Layer (map-Expr Known Expr tree y)
    layer_runs (Expr-F.Number number) = (λ p. refl, omega arith, λ sound. number_runs number)
    layer_runs (Expr-F.Slot slot) = (λ p. refl, omega arith, λ sound. slot_runs slot sound)
    layer_runs (Expr-F.Copy variable) = (λ p. refl, omega arith, λ sound. copy_runs home variable sound)
    layer_runs (Expr-F.Cell slot index) = (
      λ p. len-one (expr_code sc.layout index.0 p) (instr.LoadCell (base_of sc.layout slot) (cells_in_slot sc.layout slot)) (expr_size index.0) (index.1.0 p),
      index.1.1,
      λ sound. cell_runs slot sound.0 (expr_code sc.layout index.0) (expr_size index.0) (expr_depth depths index.0) (eval callees index.0) (goes_of index sound.1),
    )
    layer_runs (Expr-F.Past variable back) = (λ p. refl, omega arith, λ sound. past_runs variable back sound)
    layer_runs (Expr-F.Ready stream) = (λ p. refl, omega arith, λ sound. ready_runs stream sound)
    layer_runs (Expr-F.Take stream) = (λ p. refl, omega arith, λ sound. take_runs stream sound)
    layer_runs (Expr-F.Unary operator width operand) = (
      λ p. len-one (expr_code sc.layout operand.0 p) (instr.Unary operator (width_of_unary operator width)) (expr_size operand.0) (operand.1.0 p),
      operand.1.1,
      λ sound. unary_runs operator width (expr_code sc.layout operand.0) (expr_size operand.0) (expr_depth depths operand.0) (eval callees operand.0) (goes_of operand sound),
    )
    layer_runs (Expr-F.Cast width operand) = (
      λ p. len-one (expr_code sc.layout operand.0 p) (instr.Cast width) (expr_size operand.0) (operand.1.0 p),
      operand.1.1,
      λ sound. cast_runs width (expr_code sc.layout operand.0) (expr_size operand.0) (expr_depth depths operand.0) (eval callees operand.0) (goes_of operand sound),
    )
    layer_runs (Expr-F.Binary operator width left right) = binary_layer operator width left right
    layer_runs (Expr-F.Call function arguments) =
        (λ p. args_sized arguments (instr.Call function ∷ []) p, omega arith, λ sound. call_runs calls function arguments sound.0 sound.1)

    layer : (y : Expr-F Known) → PE (roll-Expr (map-Expr Known Expr tree y))
    layer y =
        let x : Expr-F Expr = map-Expr Known Expr tree y in
        let c = sym (para-roll-Expr Emit (expr_code_step sc.layout) x) in
        let n = sym (fold-roll-Expr ℕ expr_size_step x) in
        let d = sym (fold-roll-Expr Depth (expr_depth_step depths) x) in
        let e = sym (fold-roll-Expr Eval (expr_step callees) x) in
        let t = sym (rec-roll-Expr (Type 0) (sound_expr_step sc) (exprs_natural sc) x) in
        subst (λ a. Sized a (expr_size (roll-Expr x)) × (1 ≤ (expr_depth depths (roll-Expr x)).operands) × (IsSoundExpr sc (roll-Expr x) → Runs a (expr_size (roll-Expr x)) (expr_depth depths (roll-Expr x)) (eval callees (roll-Expr x)))) c
        (subst (λ a. Sized (expr_code_step sc.layout (map-Expr Expr Operand operand_of x)) a × (1 ≤ (expr_depth depths (roll-Expr x)).operands) × (IsSoundExpr sc (roll-Expr x) → Runs (expr_code_step sc.layout (map-Expr Expr Operand operand_of x)) a (expr_depth depths (roll-Expr x)) (eval callees (roll-Expr x)))) n
        (subst (λ a. Sized (expr_code_step sc.layout (map-Expr Expr Operand operand_of x)) (expr_size_step (map-Expr Expr ℕ expr_size x)) × (1 ≤ a.operands) × (IsSoundExpr sc (roll-Expr x) → Runs (expr_code_step sc.layout (map-Expr Expr Operand operand_of x)) (expr_size_step (map-Expr Expr ℕ expr_size x)) a (eval callees (roll-Expr x)))) d
        (subst (λ a. Sized (expr_code_step sc.layout (map-Expr Expr Operand operand_of x)) (expr_size_step (map-Expr Expr ℕ expr_size x)) × (1 ≤ (expr_depth_step depths (map-Expr Expr Depth (expr_depth depths) x)).operands) × (IsSoundExpr sc (roll-Expr x) → Runs (expr_code_step sc.layout (map-Expr Expr Operand operand_of x)) (expr_size_step (map-Expr Expr ℕ expr_size x)) (expr_depth_step depths (map-Expr Expr Depth (expr_depth depths) x)) a)) e
        (subst (λ a. Sized (expr_code_step sc.layout (map-Expr Expr Operand operand_of x)) (expr_size_step (map-Expr Expr ℕ expr_size x)) × (1 ≤ (expr_depth_step depths (map-Expr Expr Depth (expr_depth depths) x)).operands) × (a → Runs (expr_code_step sc.layout (map-Expr Expr Operand operand_of x)) (expr_size_step (map-Expr Expr ℕ expr_size x)) (expr_depth_step depths (map-Expr Expr Depth (expr_depth depths) x)) (expr_step callees (map-Expr Expr Eval (eval callees) x)))) t
        (layer_runs y)))))

    pub expr_runs : (e : Expr) → PE e
    expr_runs = ind-Expr PE (λ x y is. subst (λ z. PE (roll-Expr z)) is (layer y))
