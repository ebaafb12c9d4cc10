-- The code of statements acts as the statements.
use Rattle.std.proofs.Common.{◌≡◌, refl, sym, ap, subst, ◌∙◌, arith}
use Rattle.std.specs.Prelude.{ℕ, zero, suc, ◌+◌, ◌-◌, ◌%◌, ◌^◌, ◌<◌, ◌≤◌, ◌==◌, nat_lt, Bool, true, false, if◌then◌else◌, List, [], ◌∷◌, ◌++◌, map, length, slice_get, slice_set, Option, Some, None, ℤ, ⊤}
use Rattle.std.proofs.lemmas.List.{length-append, map-id}
use Rattle.std.proofs.Math.Nat.{mod-eq_of_lt}
use Rattle.std.specs.Int.{w32, int_wrap}
use Rattle.psy_arith.specs.declared.operators.Trap.TheVariants as trap
use Rattle.psy_arith.specs.Operators.{is_zero}
use Rattle.psy_tree.specs.declared.unit.Expr.{Expr}
use Rattle.psy_tree.specs.declared.unit.Stmt.{Stmt, roll-Stmt, fold-roll-Stmt, para-roll-Stmt, rec-roll-Stmt, map-Stmt, ind-Stmt}
use Rattle.psy_tree.specs.declared.unit.Stmt.TheOpen.{Stmt-F}
use Rattle.psy_code.specs.declared.code.Code.{Code}
use Rattle.psy_code.specs.declared.code.AgentCode.{AgentCode}
use Rattle.psy_code.specs.declared.instr.Instr.{Instr}
use Rattle.psy_code.specs.declared.instr.Instr.TheVariants as instr
use Rattle.psy_code.specs.Views.{Send}
use Rattle.psy_code.specs.Execution.{index_in, copy_of, with_copy, present, does, Went, Trapped}
use Rattle.psy_code.specs.Execution as code
use Rattle.psy_tree.specs.Paths.{total}
use Rattle.psy_meaning.specs.Sizes.{expr_size, stmt_size, stmts_size, stmt_size_step}
use Rattle.psy_meaning.specs.Depths.{Depth, shallow, deeper, deepest, on_top_of, expr_depth, stmt_depth, stmts_depth, stmt_depth_step, loops, loops_in, loops_step}
use Rattle.psy_meaning.specs.Sound.{Scope, HasSlot, HasCopy, Each, IsSoundExpr, IsSoundStmt, AreSound, sound_stmt_step}
use Rattle.psy_meaning.specs.States.{State, Ended, Outcome, Falls, Returns, Halts, Act, Callee, with_value, then_do, cost_1, asking, trapping, or_halt, copy_at, with_slot, with_copy_at}
use Rattle.psy_meaning.specs.Paths.{quiet_list}
use Rattle.psy_meaning.specs.Expressions.{eval}
use Rattle.psy_meaning.specs.Statements.{set_element, all_of, choose, hop, branches, turns, stmt_step, act_by, acts_by}
use Rattle.psy_meaning.proofs.lemmas.SoundParts.{stmts_natural}
use Rattle.psy_gen.specs.Emission.{Emit, Coded, Part, base_of, cells_in_slot, expr_code, block_code, block_size, block_loops, if_code, bounded_code, timed_code, stmt_code_step, stmt_code, stmts_code}
use Rattle.psy_gen.proofs.Leads.{Leads, here, after, by_one, went, ended}
use Rattle.psy_gen.proofs.Contexts.{Context, Home, Inside, Room, has_room_by, joined, machine_in, at, frame_size, HasAt, has-first, has-second, Shape, Holds}
use Rattle.psy_gen.proofs.Lookups.{cells_are, copy_is, got_is, index_small, cell_is, set_is, lengths-set, variables-set}
use Rattle.psy_gen.proofs.Loud.{all_loud}
use Rattle.psy_gen.proofs.Steps.{traps}
use Rattle.psy_gen.proofs.ExprRuns.{Runs, Sized, len-one}
use Rattle.psy_gen.proofs.Outcomes.{Keeps, keeps_same, returned, LeadsTo, After, after_leads, after_at, after_keeps, after_any, value_after, then_after, then_down, step_to, size_is, counter_in, store_goes, zero_goes, guard_is, keeps_set, get-set}
use Rattle.psy_gen.proofs.Basics.{got-within}

module _ (whole : Code) (its : AgentCode) (sc : Scope) (k : Context) (callees : ℕ → Callee) (depths : List Depth) (more count : ℕ) where
  -- What is known of an expression's code
  abbrev pub ExprKnown : Expr → Type 0
  ExprKnown e = Sized whole its sc k callees depths more (expr_code sc.layout e) (expr_size e) × (1 ≤ (expr_depth depths e).operands)
      × (IsSoundExpr sc e → Runs whole its sc k callees depths more (expr_code sc.layout e) (expr_size e) (expr_depth depths e) (eval callees e))

  abbrev StmtSized : Coded → ℕ → Type 0
  StmtSized code size = (c p : ℕ) → length (code c p) ≡ size

  -- The code, of so many instructions and loops and so deep, does what a statement does.
  abbrev pub StmtRuns : Coded → ℕ → ℕ → Depth → Act → Type 0
  StmtRuns code size loops d act = (c p : ℕ) (operands : List ℤ) (counters : List ℕ) (s : State) → HasAt whole.instrs p (code c p) → p + size < length whole.instrs → c + loops ≤ count → length counters ≡ count → Shape sc s
      → Room its k (total sc.layout + count) (length operands + d.operands) d.cells more
      → After whole its sc k (p + size) c operands counters (at k p operands s counters) (act s)

  less : (a b c d : ℕ) → Room its k (total sc.layout + count) a c more → b ≤ a → d ≤ c → Room its k (total sc.layout + count) b d more
  less a b c d r h g = record { stack = omega (arith, r.stack, h); frames = omega (arith, r.frames, g); calls = r.calls }

  -- the room as expressions see it
  as_seen : (s : State) (counters : List ℕ) (a c : ℕ) → Shape sc s → length counters ≡ count → Room its k (total sc.layout + count) a c more → Room its k (frame_size s.store counters) a c more
  as_seen s counters a c shape e r = subst (λ x. Room its k x a c more) (sym (size_is sc s counters count shape e)) r

  behind : (c : Emit) (n p : ℕ) (rest : List Instr) → ((p : ℕ) → length (c p) ≡ n) → HasAt whole.instrs p (c p ++ rest) → HasAt whole.instrs (p + n) rest
  behind c n p rest sized h = subst (λ x. HasAt whole.instrs (p + x) rest) (sized p) (has-second whole.instrs p (c p) rest h)

  -- A value, and an instruction that goes on from it
  valued_runs : (e : Expr) (i : Instr) (go : ℤ → State → Outcome) → ExprKnown e → IsSoundExpr sc e
      → ((v : ℤ) (q c : ℕ) (operands : List ℤ) (counters : List ℕ) (t : State) → slice_get whole.instrs q ≡ Some i → Shape sc t → length counters ≡ count → Room its k (total sc.layout + count) (length operands + 1) 0 more
      → After whole its sc k (q + 1) c operands counters (at k q (v ∷ operands) t counters) (go v t))
      → StmtRuns (λ c p. expr_code sc.layout e p ++ i ∷ []) (expr_size e + 1) 0 (expr_depth depths e) (λ s. with_value (eval callees e s) go)
  valued_runs e i go (sized, deep, runs) sound next c p operands counters s h small loops len shape room =
      let n = expr_size e in
      let d = expr_depth depths e in
      let place : p + n + 1 ≡ p + (n + 1) = omega arith in
      after_at whole its sc k (p + n + 1) (p + (n + 1)) c operands counters (at k p operands s counters) _ place
      (value_after whole its sc k (p + n + 1) (p + n) c operands operands counters s (at k p operands s counters) (eval callees e s) go
      (runs sound p operands counters s (has-first whole.instrs p (expr_code sc.layout e p) (i ∷ []) h) (omega (arith, small)) shape (as_seen s counters (length operands + d.operands) d.cells shape len room))
      (λ v t same sh. next v (p + n) c operands counters t (behind (expr_code sc.layout e) n p (i ∷ []) sized h).0 sh len (less (length operands + d.operands) (length operands + 1) d.cells 0 room (omega (arith, deep)) (omega arith))))

  -- One instruction behind which statements go on
  falls_step : (i : Instr) (p q c : ℕ) (now operands : List ℤ) (counters next : List ℕ) (s t : State) → slice_get whole.instrs p ≡ Some i
      → does whole its s.view i (machine_in k p now s.store counters) ≡ Went (machine_in k q operands t.store next)
      → code.state_then (at k p now s counters) (code.call_by i now) (machine_in k q operands t.store next) ≡ at k q operands t next
      → Shape sc t → Keeps c counters next → length counters ≡ count → Room its k (total sc.layout + count) (length operands) 0 more
      → After whole its sc k q c operands counters (at k p now s counters) (Falls t)
  falls_step i p q c now operands counters next s t here goes same shape keeps len room =
      (next, keeps, shape, step_to whole its sc k p q now operands counters next s t i (total sc.layout + count) 0 more here goes same (size_is sc t next count shape (keeps.count ∙ len)) room)

  shape_of_slot : (s : State) (slot j : ℕ) (v : ℤ) → Shape sc s → Shape sc (with_slot slot j v (cost_1 s))
  shape_of_slot s slot j v shape = record { slots = lengths-set s.store.slots slot j v ∙ shape.slots; copies = shape.copies; pasts = shape.pasts; streams = shape.streams }

  set_runs : (slot : ℕ) (e : Expr) → ExprKnown e → HasSlot sc slot → IsSoundExpr sc e
      → StmtRuns (λ c p. expr_code sc.layout e p ++ instr.Store (base_of sc.layout slot) ∷ []) (expr_size e + 1) 0 (expr_depth depths e) (λ s. with_value (eval callees e s) (λ v t. Falls (with_slot slot 0 v (cost_1 t))))
  set_runs slot e known (cells, found, some) sound =
      valued_runs e (instr.Store (base_of sc.layout slot)) (λ v t. Falls (with_slot slot 0 v (cost_1 t))) known sound
      (λ v q c operands counters t here sh len room.
      let u : State = with_slot slot 0 v (cost_1 t) in
      let z : base_of sc.layout slot + 0 ≡ base_of sc.layout slot = omega arith in
      let at_cell = ap (slice_get (joined t.store.slots)) (sym z) ∙ cell_is sc.layout t.store slot cells 0 sh.slots found some in
      let changed = set_is sc.layout t.store slot cells 0 v sh.slots found some ∙ ap (λ x. slice_set (joined t.store.slots) x v) z in
      falls_step (instr.Store (base_of sc.layout slot)) q (q + 1) c (v ∷ operands) operands counters counters t u here (store_goes k q (base_of sc.layout slot) v _ (v ∷ operands) operands t.store counters u.store.slots at_cell changed)
      refl (shape_of_slot t slot 0 v sh) (keeps_same c counters) len (less (length operands + 1) (length operands) 0 0 room (omega arith) (omega arith)))

  -- Copies are named in an agent's body alone.
  abbrev pub AtHome : Type 0
  AtHome = (variable : ℕ) → HasCopy sc variable → k ≡ Home

  copy_goes : (variable : ℕ) (v : ℤ) (q c : ℕ) (operands : List ℤ) (counters : List ℕ) (t : State) → (k : Context) → k ≡ Home → copy_of variable t.store.copies ≡ Some (copy_at t.store variable)
      → code.store_copy variable (machine_in k q (v ∷ operands) t.store counters) ≡ Went (machine_in k (q + 1) operands (with_copy_at variable (int_wrap w32 v) (cost_1 t)).store counters)
  copy_goes variable v q c operands counters t Home e found = rw found refl
  copy_goes variable v q c operands counters t (Inside home copies back outer) e found = not_home home copies back outer e
    where
      is_home : Context → ℕ
      is_home Home = 1
      is_home (Inside home copies back outer) = 0

      not_home : {A : Type 0} (home : code.Frame) (copies : List code.Copy) (back : ℕ) (outer : List code.OpenCall) → Inside home copies back outer ≡ Home → A
      not_home home copies back outer e = absurd (omega (arith, ap is_home e))

  copy_runs : AtHome → (variable : ℕ) (e : Expr) → ExprKnown e → HasCopy sc variable → IsSoundExpr sc e
      → StmtRuns (λ c p. expr_code sc.layout e p ++ instr.StoreCopy variable ∷ []) (expr_size e + 1) 0 (expr_depth depths e) (λ s. with_value (eval callees e s) (λ v t. Falls (with_copy_at variable (int_wrap w32 v) (cost_1 t))))
  copy_runs home variable e known has sound =
      valued_runs e (instr.StoreCopy variable) (λ v t. Falls (with_copy_at variable (int_wrap w32 v) (cost_1 t))) known sound
      (λ v q c operands counters t here sh len room.
      falls_step (instr.StoreCopy variable) q (q + 1) c (v ∷ operands) operands counters counters t (with_copy_at variable (int_wrap w32 v) (cost_1 t)) here
      (copy_goes variable v q c operands counters t k (home variable has) (copy_is sc t.store variable sh.copies has)) refl
      (record { slots = sh.slots; copies = variables-set t.store.copies variable (int_wrap w32 v) ∙ sh.copies; pasts = sh.pasts; streams = sh.streams }) (keeps_same c counters) len (less (length operands + 1) (length operands) 0 0 room (omega arith) (omega arith)))

  send_runs : (stream after clock : ℕ) (e : Expr) → ExprKnown e → IsSoundExpr sc e
      → StmtRuns (λ c p. expr_code sc.layout e p ++ instr.Send stream after clock ∷ []) (expr_size e + 1) 0 (expr_depth depths e)
      (λ s. with_value (eval callees e s) (λ v t. Falls (asking (Send (record { stream = stream; value = int_wrap w32 v; after = after; clock = clock })) t)))
  send_runs stream after clock e known sound =
      valued_runs e (instr.Send stream after clock) _ known sound
      (λ v q c operands counters t here sh len room.
      falls_step (instr.Send stream after clock) q (q + 1) c (v ∷ operands) operands counters counters t (asking (Send (record { stream = stream; value = int_wrap w32 v; after = after; clock = clock })) t) here refl refl
      (record { slots = sh.slots; copies = sh.copies; pasts = sh.pasts; streams = sh.streams }) (keeps_same c counters) len (less (length operands + 1) (length operands) 0 0 room (omega arith) (omega arith)))

  -- Values are returned from functions alone.
  abbrev pub AtWork : Type 0
  AtWork = sc.returns ≡ true → (home : code.Frame) × (copies : List code.Copy) × (back : ℕ) × (outer : List code.OpenCall) × (k ≡ Inside home copies back outer)

  return_leads : (v : ℤ) (q : ℕ) (operands : List ℤ) (counters : List ℕ) (t : State) (k : Context) (home : code.Frame) (copies : List code.Copy) (back : ℕ) (outer : List code.OpenCall) → k ≡ Inside home copies back outer
      → slice_get whole.instrs q ≡ Some instr.Return → Room its k (total sc.layout + count) (length operands + 1) 0 more → LeadsTo whole its sc k (at k q (v ∷ operands) t counters) (returned k v operands (cost_1 t))
  return_leads v q operands counters t Home home copies back outer e here room = elim (subst AtHomeOnly e (tt {0})) [ ]
    where
      AtHomeOnly : Context → Type 0
      AtHomeOnly Home = ⊤
      AtHomeOnly (Inside home copies back outer) = ⊥
  return_leads v q operands counters t (Inside home copies back outer) a b c d e here room =
      by_one whole its (at (Inside home copies back outer) q (v ∷ operands) t counters) _
      (went whole its (at (Inside home copies back outer) q (v ∷ operands) t counters) instr.Return (record { place = back; operands = v ∷ operands; home = home; calls = outer; copies = copies }) here refl
      (has_room_by its (record { place = back; operands = v ∷ operands; home = home; calls = outer; copies = copies }) (omega (arith, room.stack)) (omega (arith, room.frames)) (omega (arith, room.calls))))

  return_runs : AtWork → (e : Expr) → ExprKnown e → sc.returns ≡ true → IsSoundExpr sc e
      → StmtRuns (λ c p. expr_code sc.layout e p ++ instr.Return ∷ []) (expr_size e + 1) 0 (expr_depth depths e) (λ s. with_value (eval callees e s) (λ v t. Returns v (cost_1 t)))
  return_runs work e known allowed sound =
      valued_runs e instr.Return (λ v t. Returns v (cost_1 t)) known sound
      (λ v q c operands counters t here sh len room.
      let w = work allowed in
      (record { slots = sh.slots; copies = sh.copies; pasts = sh.pasts; streams = sh.streams }, return_leads v q operands counters t k w.0 w.1 w.2 w.3 w.4 here room))

  -- ---- an array's cell

  element_after : (slot cells : ℕ) → slice_get sc.layout slot ≡ Some cells → (index v : ℤ) (q c : ℕ) (operands : List ℤ) (counters : List ℕ) (t : State)
      → slice_get whole.instrs q ≡ Some (instr.StoreCell (base_of sc.layout slot) (cells_in_slot sc.layout slot)) → Shape sc t → length counters ≡ count → Room its k (total sc.layout + count) (length operands + 1) 0 more
      → After whole its sc k (q + 1) c operands counters (at k q (v ∷ (index ∷ operands)) t counters) (set_element slot index v t)
  element_after slot cells e index v q c operands counters t here sh len room =
      subst (λ n. After whole its sc k (q + 1) c operands counters (at k q (v ∷ (index ∷ operands)) t counters) (or_halt trap.Index (index_in n index) t (λ i. Falls (with_slot slot i v (cost_1 t)))))
      (sym (cells_are sc.layout t.store slot cells sh.slots e)) (from (index_in cells index) refl)
    where
      i : Instr
      i = instr.StoreCell (base_of sc.layout slot) (cells_in_slot sc.layout slot)

      from : (o : Option ℕ) → index_in cells index ≡ o → After whole its sc k (q + 1) c operands counters (at k q (v ∷ (index ∷ operands)) t counters) (or_halt trap.Index o t (λ i. Falls (with_slot slot i v (cost_1 t))))
      from None f = traps whole its k sc q (v ∷ (index ∷ operands)) counters t (instr.StoreCell (base_of sc.layout slot) (cells_in_slot sc.layout slot)) trap.Index here (rw (got_is sc.layout slot cells e, f) refl)
      from (Some j) f =
          falls_step (instr.StoreCell (base_of sc.layout slot) (cells_in_slot sc.layout slot)) q (q + 1) c (v ∷ (index ∷ operands)) operands counters counters t (with_slot slot j v (cost_1 t)) here
          (rw (got_is sc.layout slot cells e, f)
          (store_goes k q (base_of sc.layout slot + j) v _ (v ∷ (index ∷ operands)) operands t.store counters (with_slot slot j v (cost_1 t)).store.slots (cell_is sc.layout t.store slot cells j sh.slots e (index_small cells index j f)) (set_is sc.layout t.store slot cells j v sh.slots e (index_small cells index j f))))
          refl (shape_of_slot t slot j v sh) (keeps_same c counters) len (less (length operands + 1) (length operands) 0 0 room (omega arith) (omega arith))

  set_cell_runs : (slot : ℕ) (a b : Expr) → ExprKnown a → ExprKnown b → HasSlot sc slot → IsSoundExpr sc a → IsSoundExpr sc b
      → StmtRuns (λ c p. expr_code sc.layout a p ++ (expr_code sc.layout b (p + expr_size a) ++ instr.StoreCell (base_of sc.layout slot) (cells_in_slot sc.layout slot) ∷ [])) (expr_size a + (expr_size b + 1)) 0 (deeper (expr_depth depths a) (on_top_of 1 (expr_depth depths b)))
      (λ s. with_value (eval callees a s) (λ i t. with_value (eval callees b t) (λ v u. set_element slot i v u)))
  set_cell_runs slot a b (asized, adeep, aruns) (bsized, bdeep, bruns) (cells, found, some) asound bsound c p operands counters s h small loops len shape room =
      let i = instr.StoreCell (base_of sc.layout slot) (cells_in_slot sc.layout slot) in
      let na = expr_size a in
      let nb = expr_size b in
      let da = expr_depth depths a in
      let db = expr_depth depths b in
      let d = deeper da (on_top_of 1 db) in
      let rest = expr_code sc.layout b (p + na) ++ i ∷ [] in
      let second = behind (expr_code sc.layout a) na p rest asized h in
      let place : p + na + nb + 1 ≡ p + (na + (nb + 1)) = omega arith in
      after_at whole its sc k (p + na + nb + 1) (p + (na + (nb + 1))) c operands counters (at k p operands s counters) _ place
      (value_after whole its sc k (p + na + nb + 1) (p + na) c operands operands counters s (at k p operands s counters) (eval callees a s) _
      (aruns asound p operands counters s (has-first whole.instrs p (expr_code sc.layout a p) rest h) (omega (arith, small)) shape
      (as_seen s counters (length operands + da.operands) da.cells shape len (less (length operands + d.operands) (length operands + da.operands) d.cells da.cells room (omega arith) (omega arith))))
      (λ index t same sh.
      value_after whole its sc k (p + na + nb + 1) (p + na + nb) c operands (index ∷ operands) counters t (at k (p + na) (index ∷ operands) t counters) (eval callees b t) _
      (bruns bsound (p + na) (index ∷ operands) counters t (has-first whole.instrs (p + na) (expr_code sc.layout b (p + na)) (i ∷ []) second) (omega (arith, small)) sh
      (as_seen t counters (length (index ∷ operands) + db.operands) db.cells sh len (less (length operands + d.operands) (length (index ∷ operands) + db.operands) d.cells db.cells room (omega arith) (omega arith))))
      (λ v u same' sh'. element_after slot cells found index v (p + na + nb) c operands counters u (behind (expr_code sc.layout b) nb (p + na) (i ∷ []) bsized second).0 sh' len (less (length operands + d.operands) (length operands + 1) d.cells 0 room (omega (arith, adeep)) (omega arith)))))

  -- ---- tests

  in_code_is : (to : ℕ) (next : code.Next) → to < length whole.instrs → code.in_code whole to next ≡ next
  in_code_is to next h = let e : nat_lt to (length whole.instrs) ≡ true = grind (arith, h) in rw e refl

  ticked : (s : State) → Shape sc s → Shape sc (cost_1 s)
  ticked s shape = record { slots = shape.slots; copies = shape.copies; pasts = shape.pasts; streams = shape.streams }

  -- a jump, and the end of a jump that a test makes
  leads_step : (i : Instr) (p q : ℕ) (now operands : List ℤ) (counters : List ℕ) (s : State) → slice_get whole.instrs p ≡ Some i
      → does whole its s.view i (machine_in k p now s.store counters) ≡ Went (machine_in k q operands s.store counters)
      → code.state_then (at k p now s counters) (code.call_by i now) (machine_in k q operands s.store counters) ≡ at k q operands (cost_1 s) counters
      → Shape sc s → length counters ≡ count → Room its k (total sc.layout + count) (length operands) 0 more
      → Leads whole its (at k p now s counters) (at k q operands (cost_1 s) counters)
  leads_step i p q now operands counters s here goes same shape len room =
      step_to whole its sc k p q now operands counters counters s (cost_1 s) i (total sc.layout + count) 0 more here goes same (size_is sc (cost_1 s) counters count (ticked s shape) len) room

  -- A test: on 0 the machine goes on at one place, and else at the next.
  test_after : (v : ℤ) (q p to c : ℕ) (operands : List ℤ) (counters : List ℕ) (t : State) (holds fails : Act) → slice_get whole.instrs q ≡ Some (instr.JumpZero to) → to < length whole.instrs → Shape sc t → length counters ≡ count
      → Room its k (total sc.layout + count) (length operands) 0 more
      → After whole its sc k p c operands counters (at k (q + 1) operands (cost_1 t) counters) (holds (cost_1 t)) → After whole its sc k p c operands counters (at k to operands (cost_1 t) counters) (fails (cost_1 t))
      → After whole its sc k p c operands counters (at k q (v ∷ operands) t counters) (if is_zero v then fails (cost_1 t) else holds (cost_1 t))
  test_after v q p to c operands counters t holds fails here small sh len room h f = from (is_zero v) refl
    where
      from : (b : Bool) → is_zero v ≡ b → After whole its sc k p c operands counters (at k q (v ∷ operands) t counters) (if b then fails (cost_1 t) else holds (cost_1 t))
      from true e =
          after_leads whole its sc k p c operands counters (at k q (v ∷ operands) t counters) (at k to operands (cost_1 t) counters) (fails (cost_1 t))
          (leads_step (instr.JumpZero to) q to (v ∷ operands) operands counters t here (in_code_is to _ small ∙ rw e refl) refl sh len room) f
      from false e =
          after_leads whole its sc k p c operands counters (at k q (v ∷ operands) t counters) (at k (q + 1) operands (cost_1 t) counters) (holds (cost_1 t))
          (leads_step (instr.JumpZero to) q (q + 1) (v ∷ operands) operands counters t here (in_code_is to _ small ∙ rw e refl) refl sh len room) h

  -- A test of statements: the code of its expression, and a jump
  choose_after : (e : Expr) → ExprKnown e → IsSoundExpr sc e → (p q to c : ℕ) (operands : List ℤ) (counters : List ℕ) (s : State) (rest : List Instr) (holds fails : Act) → HasAt whole.instrs p (expr_code sc.layout e p ++ (instr.JumpZero to ∷ rest)) → p + expr_size e < length whole.instrs
      → to < length whole.instrs → Shape sc s → length counters ≡ count → Room its k (total sc.layout + count) (length operands + (expr_depth depths e).operands) (expr_depth depths e).cells more
      → ((t : State) → Shape sc t → HasAt whole.instrs (p + expr_size e + 1) rest → After whole its sc k q c operands counters (at k (p + expr_size e + 1) operands t counters) (holds t))
      → ((t : State) → Shape sc t → After whole its sc k q c operands counters (at k to operands t counters) (fails t))
      → After whole its sc k q c operands counters (at k p operands s counters) (choose (eval callees e) holds fails s)
  choose_after e (sized, deep, runs) sound p q to c operands counters s rest holds fails h small target shape len room holds_after fails_after =
      let n = expr_size e in
      let d = expr_depth depths e in
      let there = behind (expr_code sc.layout e) n p (instr.JumpZero to ∷ rest) sized h in
      value_after whole its sc k q (p + n) c operands operands counters s (at k p operands s counters) (eval callees e s) _
      (runs sound p operands counters s (has-first whole.instrs p (expr_code sc.layout e p) (instr.JumpZero to ∷ rest) h) small shape (as_seen s counters (length operands + d.operands) d.cells shape len room))
      (λ v t same sh. test_after v (p + n) q to c operands counters t holds fails there.0 target sh len (less (length operands + d.operands) (length operands) d.cells 0 room (omega arith) (omega arith)) (holds_after (cost_1 t) (ticked t sh) there.1) (fails_after (cost_1 t) (ticked t sh)))

  -- ---- statements one after the other

  abbrev PS : Stmt → Type 0
  PS stmt = StmtSized (stmt_code sc.layout stmt) (stmt_size stmt) × (IsSoundStmt sc stmt → StmtRuns (stmt_code sc.layout stmt) (stmt_size stmt) (loops stmt) (stmt_depth depths stmt) (act_by callees stmt))

  abbrev Known : Type 0
  Known = (stmt : Stmt) × PS stmt

  abbrev tree : Known → Stmt
  tree x = x.0

  abbrev part_of : Stmt → Part
  part_of stmt = (stmt, stmt_code sc.layout stmt)

  abbrev parts : List Known → List Part
  parts ks = map part_of (map tree ks)

  abbrev block_depth : List Known → Depth
  block_depth ks = deepest (map (stmt_depth depths) (map tree ks))

  abbrev block_act : List Known → Act
  block_act ks = all_of (map (act_by callees) (map tree ks))

  sizes_same : (ks : List Known) → block_size (parts ks) ≡ total (map stmt_size (map tree ks))
  sizes_same [] = refl
  sizes_same (x ∷ xs) = ap (λ n. stmt_size x.0 + n) (sizes_same xs)

  loops_same : (ks : List Known) → block_loops (parts ks) ≡ total (map loops (map tree ks))
  loops_same [] = refl
  loops_same (x ∷ xs) = ap (λ n. loops x.0 + n) (loops_same xs)

  block_sized : (ks : List Known) → StmtSized (block_code (parts ks)) (block_size (parts ks))
  block_sized [] c p = refl
  block_sized (x ∷ xs) c p = length-append (stmt_code sc.layout x.0 c p) (block_code (parts xs) (c + loops x.0) (p + stmt_size x.0)) ∙ omega (arith, x.1.0 c p, block_sized xs (c + loops x.0) (p + stmt_size x.0))

  falls_here : (p q c : ℕ) (operands : List ℤ) (counters : List ℕ) (s : State) → p ≡ q → Shape sc s → After whole its sc k q c operands counters (at k p operands s counters) (Falls s)
  falls_here p q c operands counters s e shape = subst (λ x. After whole its sc k x c operands counters (at k p operands s counters) (Falls s)) e (counters, keeps_same c counters, shape, here whole its (at k p operands s counters))

  block_runs : (ks : List Known) → Each (IsSoundStmt sc) (map tree ks) → StmtRuns (block_code (parts ks)) (block_size (parts ks)) (block_loops (parts ks)) (block_depth ks) (block_act ks)
  block_runs [] sound c p operands counters s h small enough len shape room = falls_here p (p + 0) c operands counters s (omega arith) shape
  block_runs (x ∷ xs) sound c p operands counters s h small enough len shape room =
      let n = stmt_size x.0 in
      let l = loops x.0 in
      let d = stmt_depth depths x.0 in
      let all = block_depth (x ∷ xs) in
      let rest = block_code (parts xs) (c + l) (p + n) in
      let place : p + n + block_size (parts xs) ≡ p + (n + block_size (parts xs)) = omega arith in
      after_at whole its sc k (p + n + block_size (parts xs)) (p + (n + block_size (parts xs))) c operands counters (at k p operands s counters) _ place
      (then_after whole its sc k (p + n) (p + n + block_size (parts xs)) c (c + l) operands counters (at k p operands s counters) (act_by callees x.0 s) (block_act xs) (omega arith)
      (x.1.1 sound.0 c p operands counters s (has-first whole.instrs p (stmt_code sc.layout x.0 c p) rest h) (omega (arith, small)) (omega (arith, enough)) len shape (less (length operands + all.operands) (length operands + d.operands) all.cells d.cells room (omega arith) (omega arith)))
      (λ t now keeps sh.
      block_runs xs sound.1 (c + l) (p + n) operands now t (subst (λ y. HasAt whole.instrs (p + y) rest) (x.1.0 c p) (has-second whole.instrs p (stmt_code sc.layout x.0 c p) rest h)) (omega (arith, small)) (omega (arith, enough)) (keeps.count ∙ len) sh
      (less (length operands + all.operands) (length operands + (block_depth xs).operands) all.cells (block_depth xs).cells room (omega arith) (omega arith))))

  -- ---- choices

  if_runs : (e : Expr) (ks : List Known) → ExprKnown e → IsSoundExpr sc e → Each (IsSoundStmt sc) (map tree ks)
      → StmtRuns (if_code sc.layout e (parts ks) None) (expr_size e + 1 + (block_size (parts ks) + 0)) (block_loops (parts ks) + 0) (deeper (expr_depth depths e) (deeper (block_depth ks) shallow)) (branches (eval callees e) (block_act ks) None)
  if_runs e ks known sound each c p operands counters s h small enough len shape room =
      let n = expr_size e in
      let b = block_size (parts ks) in
      let d = expr_depth depths e in
      let all = deeper d (deeper (block_depth ks) shallow) in
      let first = p + n + 1 in
      let place : first + b ≡ p + (n + 1 + (b + 0)) = omega arith in
      after_at whole its sc k (first + b) (p + (n + 1 + (b + 0))) c operands counters (at k p operands s counters) _ place
      (choose_after e known sound p (first + b) (first + b) c operands counters s (block_code (parts ks) c first) (block_act ks) Falls h (omega (arith, small)) (omega (arith, small)) shape len
      (less (length operands + all.operands) (length operands + d.operands) all.cells d.cells room (omega arith) (omega arith))
      (λ t sh has. block_runs ks each c first operands counters t has (omega (arith, small)) (omega (arith, enough)) len sh (less (length operands + all.operands) (length operands + (block_depth ks).operands) all.cells (block_depth ks).cells room (omega arith) (omega arith)))
      (λ t sh. falls_here (first + b) (first + b) c operands counters t refl sh))

  pub hop_after : (p to c : ℕ) (operands : List ℤ) (counters : List ℕ) (s : State) → slice_get whole.instrs p ≡ Some (instr.Jump to) → to < length whole.instrs → Shape sc s → length counters ≡ count → Room its k (total sc.layout + count) (length operands) 0 more
      → After whole its sc k to c operands counters (at k p operands s counters) (hop s)
  hop_after p to c operands counters s has small sh len room =
      falls_step (instr.Jump to) p to c operands operands counters counters s (cost_1 s) has (in_code_is to _ small) refl (ticked s sh) (keeps_same c counters) len room

  if_else_runs : (e : Expr) (ks os : List Known) → ExprKnown e → IsSoundExpr sc e → Each (IsSoundStmt sc) (map tree ks) → Each (IsSoundStmt sc) (map tree os)
      → StmtRuns (if_code sc.layout e (parts ks) (Some (parts os))) (expr_size e + 1 + (block_size (parts ks) + (block_size (parts os) + 1))) (block_loops (parts ks) + block_loops (parts os)) (deeper (expr_depth depths e) (deeper (block_depth ks) (block_depth os)))
      (branches (eval callees e) (block_act ks) (Some (map (act_by callees) (map tree os))))
  if_else_runs e ks os known sound each others c p operands counters s h small enough len shape room =
      let n = expr_size e in
      let b = block_size (parts ks) in
      let o = block_size (parts os) in
      let l = block_loops (parts ks) in
      let d = expr_depth depths e in
      let all = deeper d (deeper (block_depth ks) (block_depth os)) in
      let first = p + n + 1 in
      let second = first + b + 1 in
      let place : second + o ≡ p + (n + 1 + (b + (o + 1))) = omega arith in
      let jump = instr.Jump (second + o) ∷ block_code (parts os) (c + l) second in
      let rest = block_code (parts ks) c first ++ jump in
      let has_rest = (behind (expr_code sc.layout e) n p (instr.JumpZero second ∷ rest) known.0 h).1 in
      let has_jump = subst (λ y. HasAt whole.instrs (first + y) jump) (block_sized ks c first) (has-second whole.instrs first (block_code (parts ks) c first) jump has_rest) in
      after_at whole its sc k (second + o) (p + (n + 1 + (b + (o + 1)))) c operands counters (at k p operands s counters) _ place
      (choose_after e known sound p (second + o) second c operands counters s rest (λ t. then_do (block_act ks t) hop) (block_act os) h (omega (arith, small)) (omega (arith, small)) shape len
      (less (length operands + all.operands) (length operands + d.operands) all.cells d.cells room (omega arith) (omega arith))
      (λ t sh has.
      then_after whole its sc k (first + b) (second + o) c c operands counters (at k first operands t counters) (block_act ks t) hop (omega arith)
      (block_runs ks each c first operands counters t (has-first whole.instrs first (block_code (parts ks) c first) jump has) (omega (arith, small)) (omega (arith, enough)) len sh (less (length operands + all.operands) (length operands + (block_depth ks).operands) all.cells (block_depth ks).cells room (omega arith) (omega arith)))
      (λ u now keeps sh'. hop_after (first + b) (second + o) c operands now u has_jump.0 (omega (arith, small)) sh' (keeps.count ∙ len) (less (length operands + all.operands) (length operands) all.cells 0 room (omega arith) (omega arith))))
      (λ t sh.
      after_keeps whole its sc k (second + o) c (c + l) operands counters counters (at k second operands t counters) (block_act os t) (omega arith) (keeps_same c counters)
      (block_runs os others (c + l) second operands counters t has_jump.1 (omega (arith, small)) (omega (arith, enough)) len sh (less (length operands + all.operands) (length operands + (block_depth os).operands) all.cells (block_depth os).cells room (omega arith) (omega arith)))))

  -- A loop without bound: its body doesn't fall through.
  timed_runs : (e : Expr) (ks : List Known) → ExprKnown e → IsSoundExpr sc e → quiet_list (map tree ks) ≡ false → Each (IsSoundStmt sc) (map tree ks)
      → StmtRuns (timed_code sc.layout e (parts ks)) (expr_size e + 2 + block_size (parts ks)) (block_loops (parts ks)) (deeper (expr_depth depths e) (block_depth ks)) (choose (eval callees e) (block_act ks) Falls)
  timed_runs e ks known sound loud each c p operands counters s h small enough len shape room =
      let n = expr_size e in
      let b = block_size (parts ks) in
      let d = expr_depth depths e in
      let all = deeper d (block_depth ks) in
      let first = p + n + 1 in
      let end = first + b + 1 in
      let place : end ≡ p + (n + 2 + b) = omega arith in
      let rest = block_code (parts ks) c first ++ instr.Jump p ∷ [] in
      after_at whole its sc k end (p + (n + 2 + b)) c operands counters (at k p operands s counters) _ place
      (choose_after e known sound p end end c operands counters s rest (block_act ks) Falls h (omega (arith, small)) (omega (arith, small)) shape len
      (less (length operands + all.operands) (length operands + d.operands) all.cells d.cells room (omega arith) (omega arith))
      (λ t sh has.
      after_any whole its sc k (first + b) end c operands counters (at k first operands t counters) (block_act ks t) (all_loud callees (map tree ks) loud t)
      (block_runs ks each c first operands counters t (has-first whole.instrs first (block_code (parts ks) c first) (instr.Jump p ∷ []) has) (omega (arith, small)) (omega (arith, enough)) len sh (less (length operands + all.operands) (length operands + (block_depth ks).operands) all.cells (block_depth ks).cells room (omega arith) (omega arith))))
      (λ t sh. falls_here end end c operands counters t refl sh))

  -- ---- bounded loops

  not_equal : (a b c : ℕ) → a + suc c ≡ b → (a == b) ≡ false
  not_equal a b c e = grind (arith, e)

  equal : (a b : ℕ) → a + 0 ≡ b → (a == b) ≡ true
  equal a b e = grind (arith, e)

  -- The guard of a value that is 0, and the jump behind the loop
  done_after : (v : ℤ) (q end c most j : ℕ) (operands : List ℤ) (counters : List ℕ) (t : State) → is_zero v ≡ true → slice_get whole.instrs q ≡ Some (instr.Guard c most) → slice_get whole.instrs (q + 1) ≡ Some (instr.JumpZero end) → end < length whole.instrs
      → slice_get counters c ≡ Some j → Shape sc t → length counters ≡ count → Room its k (total sc.layout + count) (length operands + 1) 0 more
      → After whole its sc k end c operands counters (at k q (v ∷ operands) t counters) (Falls (cost_1 (cost_1 t)))
  done_after v q end c most j operands counters t is_0 guard test small found sh len room =
      let g = leads_step (instr.Guard c most) q (q + 1) (v ∷ operands) (v ∷ operands) counters t guard (guard_is k q c most j v operands t.store counters found ∙ rw is_0 refl) refl sh len (less (length operands + 1) (length (v ∷ operands)) 0 0 room (omega arith) (omega arith)) in
      after_leads whole its sc k end c operands counters (at k q (v ∷ operands) t counters) (at k (q + 1) (v ∷ operands) (cost_1 t) counters) (Falls (cost_1 (cost_1 t))) g
      (falls_step (instr.JumpZero end) (q + 1) end c (v ∷ operands) operands counters counters (cost_1 t) (cost_1 (cost_1 t)) test (in_code_is end _ small ∙ rw is_0 refl) refl (ticked (cost_1 t) (ticked t sh)) (keeps_same c counters) len (less (length operands + 1) (length operands) 0 0 room (omega arith) (omega arith)))

  -- The guard of another value where the bound is reached
  stopped_after : (v : ℤ) (q p c most j : ℕ) (operands : List ℤ) (counters : List ℕ) (t : State) → is_zero v ≡ false → (j == most) ≡ true → slice_get whole.instrs q ≡ Some (instr.Guard c most) → slice_get counters c ≡ Some j
      → After whole its sc k p c operands counters (at k q (v ∷ operands) t counters) (Halts (trapping trap.Loop t))
  stopped_after v q p c most j operands counters t more_turns reached guard found = traps whole its k sc q (v ∷ operands) counters t (instr.Guard c most) trap.Loop guard (guard_is k q c most j v operands t.store counters found ∙ rw (more_turns, reached) refl)

  -- The guard of another value below the bound, and on to the body
  turn_leads : (v : ℤ) (q end c most j : ℕ) (operands : List ℤ) (counters : List ℕ) (t : State) → is_zero v ≡ false → (j == most) ≡ false → j < 2 ^ 32 - 1 → slice_get whole.instrs q ≡ Some (instr.Guard c most) → slice_get whole.instrs (q + 1) ≡ Some (instr.JumpZero end) → end < length whole.instrs
      → slice_get counters c ≡ Some j → Shape sc t → length counters ≡ count → Room its k (total sc.layout + count) (length operands + 1) 0 more
      → Leads whole its (at k q (v ∷ operands) t counters) (at k (q + 1 + 1) operands (cost_1 (cost_1 t)) (slice_set counters c (j + 1)))
  turn_leads v q end c most j operands counters t holds below few guard test small found sh len room =
      let next = slice_set counters c (j + 1) in
      let fits : (j + 1) % 2 ^ 32 ≡ j + 1 = mod-eq_of_lt (omega (arith, few)) in
      let m = machine_in k q (v ∷ operands) t.store counters in
      let goes : does whole its t.view (instr.Guard c most) m ≡ Went (machine_in k (q + 1) (v ∷ operands) t.store next) =
      guard_is k q c most j v operands t.store counters found ∙ rw (holds, below, fits) (ap (code.onward (v ∷ operands)) (counter_in k q (v ∷ operands) t.store counters c (j + 1))) in
      let g = step_to whole its sc k q (q + 1) (v ∷ operands) (v ∷ operands) counters next t (cost_1 t) (instr.Guard c most) (total sc.layout + count) 0 more guard goes refl
      (size_is sc (cost_1 t) next count (ticked t sh) ((keeps_set counters c (j + 1)).count ∙ len)) (less (length operands + 1) (length (v ∷ operands)) 0 0 room (omega arith) (omega arith)) in
      after whole its (at k q (v ∷ operands) t counters) (at k (q + 1) (v ∷ operands) (cost_1 t) next) (at k (q + 1 + 1) operands (cost_1 (cost_1 t)) next) g
      (leads_step (instr.JumpZero end) (q + 1) (q + 1 + 1) (v ∷ operands) operands next (cost_1 t) test (in_code_is end _ small ∙ rw holds refl) refl (ticked t sh) ((keeps_set counters c (j + 1)).count ∙ len) (less (length operands + 1) (length operands) 0 0 room (omega arith) (omega arith)))

  abbrev loop_depth : Expr → List Known → Depth
  loop_depth e ks = deeper (expr_depth depths e) (block_depth ks)

  -- The code of a loop behind its test
  abbrev loop_tail : List Known → ℕ → ℕ → ℕ → ℕ → ℕ → List Instr
  loop_tail ks c most again end first = instr.Guard c most ∷ (instr.JumpZero end ∷ (block_code (parts ks) (c + 1) first ++ instr.Jump again ∷ []))

  -- The last test
  last_after : (ks : List Known) (v : ℤ) (q c most j again end first : ℕ) (operands : List ℤ) (counters : List ℕ) (t : State) → HasAt whole.instrs q (loop_tail ks c most again end first) → end < length whole.instrs → j + 0 ≡ most
      → slice_get counters c ≡ Some j → Shape sc t → length counters ≡ count → Room its k (total sc.layout + count) (length operands + 1) 0 more
      → After whole its sc k end c operands counters (at k q (v ∷ operands) t counters) (if is_zero v then Falls (cost_1 (cost_1 t)) else Halts (trapping trap.Loop t))
  last_after ks v q c most j again end first operands counters t h small sum found sh len room = from (is_zero v) refl
    where
      from : (b : Bool) → is_zero v ≡ b → After whole its sc k end c operands counters (at k q (v ∷ operands) t counters) (if b then Falls (cost_1 (cost_1 t)) else Halts (trapping trap.Loop t))
      from true z = done_after v q end c most j operands counters t z h.0 h.1.0 small found sh len room
      from false z = stopped_after v q end c most j operands counters t z (equal j most sum) h.0 found

  -- A test before a further turn
  one_after : (ks : List Known) → Each (IsSoundStmt sc) (map tree ks) → (v : ℤ) (q c most j left again end : ℕ) (operands : List ℤ) (counters : List ℕ) (t : State) (rest : Act)
      → HasAt whole.instrs q (loop_tail ks c most again end (q + 1 + 1)) → q + 1 + 1 + block_size (parts ks) + 1 ≡ end → end < length whole.instrs → again < q + 1 → j + suc left ≡ most → most ≤ 65536 → c + 1 + block_loops (parts ks) ≤ count
      → slice_get counters c ≡ Some j → Shape sc t → length counters ≡ count → Room its k (total sc.layout + count) (length operands + 1) 0 more → Room its k (total sc.layout + count) (length operands + (block_depth ks).operands) (block_depth ks).cells more
      → ((now : List ℕ) (u : State) → slice_get now c ≡ Some (j + 1) → Shape sc u → length now ≡ count → After whole its sc k end c operands now (at k again operands u now) (rest u))
      → After whole its sc k end c operands counters (at k q (v ∷ operands) t counters) (if is_zero v then Falls (cost_1 (cost_1 t)) else then_do (block_act ks (cost_1 (cost_1 t))) (λ u. rest (cost_1 u)))
  one_after ks each v q c most j left again end operands counters t rest h ends small before sum bound enough found sh len room room_body next = from (is_zero v) refl
    where
      first : ℕ
      first = q + 1 + 1

      from : (b : Bool) → is_zero v ≡ b → After whole its sc k end c operands counters (at k q (v ∷ operands) t counters) (if b then Falls (cost_1 (cost_1 t)) else then_do (block_act ks (cost_1 (cost_1 t))) (λ u. rest (cost_1 u)))
      from true z = done_after v q end c most j operands counters t z h.0 h.1.0 small found sh len room
      from false z =
          let changed = slice_set counters c (j + 1) in
          let u : State = cost_1 (cost_1 t) in
          let jump = instr.Jump again ∷ [] in
          let kept = keeps_set counters c (j + 1) in
          let has_jump = subst (λ y. HasAt whole.instrs (q + 1 + 1 + y) jump) (block_sized ks (c + 1) (q + 1 + 1)) (has-second whole.instrs (q + 1 + 1) (block_code (parts ks) (c + 1) (q + 1 + 1)) jump h.1.1) in
          after_leads whole its sc k end c operands counters (at k q (v ∷ operands) t counters) (at k (q + 1 + 1) operands u changed) _
          (turn_leads v q end c most j operands counters t z (not_equal j most left sum) (omega (arith, sum, bound)) h.0 h.1.0 small found sh len room)
          (after_keeps whole its sc k end c c operands counters changed (at k (q + 1 + 1) operands u changed) _ (omega arith) kept
          (then_down whole its sc k (q + 1 + 1 + block_size (parts ks)) end c (c + 1) operands changed (at k (q + 1 + 1) operands u changed) (block_act ks u) (λ x. rest (cost_1 x)) (omega arith)
          (block_runs ks each (c + 1) (q + 1 + 1) operands changed u (has-first whole.instrs (q + 1 + 1) (block_code (parts ks) (c + 1) (q + 1 + 1)) jump h.1.1) (omega (arith, ends, small)) enough (kept.count ∙ len) (ticked (cost_1 t) (ticked t sh)) room_body)
          (λ x now keeps sh'.
          let len' = keeps.count ∙ kept.count ∙ len in
          after_leads whole its sc k end c operands now (at k (q + 1 + 1 + block_size (parts ks)) operands x now) (at k again operands (cost_1 x) now) (rest (cost_1 x))
          (leads_step (instr.Jump again) (q + 1 + 1 + block_size (parts ks)) again operands operands now x has_jump.0 (in_code_is again _ (omega (arith, before, ends, small))) refl sh' len' (less (length operands + 1) (length operands) 0 0 room (omega arith) (omega arith)))
          (next now (cost_1 x) (keeps.below c (omega arith) ∙ get-set counters c (j + 1) (omega (arith, len, enough))) (ticked x sh') len'))))

  -- The turns of a loop, from its test on
  turns_after : (e : Expr) (ks : List Known) → ExprKnown e → IsSoundExpr sc e → Each (IsSoundStmt sc) (map tree ks) → (left j c most again end : ℕ) (operands : List ℤ) (counters : List ℕ) (s : State)
      → HasAt whole.instrs again (expr_code sc.layout e again ++ loop_tail ks c most again end (again + expr_size e + 1 + 1)) → again + expr_size e + 1 + 1 + block_size (parts ks) + 1 ≡ end → end < length whole.instrs
      → j + left ≡ most → most ≤ 65536 → c + 1 + block_loops (parts ks) ≤ count → slice_get counters c ≡ Some j → Shape sc s → length counters ≡ count
      → Room its k (total sc.layout + count) (length operands + (loop_depth e ks).operands) (loop_depth e ks).cells more
      → After whole its sc k end c operands counters (at k again operands s counters) (turns left (eval callees e) (block_act ks) s)
  turns_after e ks known sound each zero j c most again end operands counters s h ends small sum bound enough found shape len room =
      let n = expr_size e in
      let d = loop_depth e ks in
      let tail = loop_tail ks c most again end (again + n + 1 + 1) in
      let there = behind (expr_code sc.layout e) n again tail known.0 h in
      value_after whole its sc k end (again + n) c operands operands counters s (at k again operands s counters) (eval callees e s) _
      (known.2 sound again operands counters s (has-first whole.instrs again (expr_code sc.layout e again) tail h) (omega (arith, small, ends)) shape (as_seen s counters (length operands + (expr_depth depths e).operands) (expr_depth depths e).cells shape len
      (less (length operands + d.operands) (length operands + (expr_depth depths e).operands) d.cells (expr_depth depths e).cells room (omega arith) (omega arith))))
      (λ v t same sh. last_after ks v (again + n) c most j again end (again + n + 1 + 1) operands counters t there small sum found sh len (less (length operands + d.operands) (length operands + 1) d.cells 0 room (omega (arith, known.1)) (omega arith)))
  turns_after e ks known sound each (suc left) j c most again end operands counters s h ends small sum bound enough found shape len room =
      let n = expr_size e in
      let d = loop_depth e ks in
      let tail = loop_tail ks c most again end (again + n + 1 + 1) in
      let there = behind (expr_code sc.layout e) n again tail known.0 h in
      value_after whole its sc k end (again + n) c operands operands counters s (at k again operands s counters) (eval callees e s) _
      (known.2 sound again operands counters s (has-first whole.instrs again (expr_code sc.layout e again) tail h) (omega (arith, small, ends)) shape (as_seen s counters (length operands + (expr_depth depths e).operands) (expr_depth depths e).cells shape len
      (less (length operands + d.operands) (length operands + (expr_depth depths e).operands) d.cells (expr_depth depths e).cells room (omega arith) (omega arith))))
      (λ v t same sh.
      one_after ks each v (again + n) c most j left again end operands counters t (turns left (eval callees e) (block_act ks)) there ends small (omega arith) sum bound enough found sh len
      (less (length operands + d.operands) (length operands + 1) d.cells 0 room (omega (arith, known.1)) (omega arith)) (less (length operands + d.operands) (length operands + (block_depth ks).operands) d.cells (block_depth ks).cells room (omega arith) (omega arith))
      (λ now u found' sh' len'. turns_after e ks known sound each left (j + 1) c most again end operands now u h ends small (omega (arith, sum)) bound enough found' sh' len' room))

  bounded_runs : (e : Expr) (most : ℕ) (ks : List Known) → ExprKnown e → IsSoundExpr sc e → most ≤ 65536 → Each (IsSoundStmt sc) (map tree ks)
      → StmtRuns (bounded_code sc.layout e most (parts ks)) (expr_size e + 4 + block_size (parts ks)) (block_loops (parts ks) + 1) (loop_depth e ks) (λ s. turns most (eval callees e) (block_act ks) (cost_1 s))
  bounded_runs e most ks known sound bound each c p operands counters s h small enough len shape room =
      let n = expr_size e in
      let b = block_size (parts ks) in
      let d = loop_depth e ks in
      let again = p + 1 in
      let end = again + n + 2 + b + 1 in
      let next = slice_set counters c 0 in
      let kept = keeps_set counters c 0 in
      let now = got-within counters c (omega (arith, len, enough)) in
      let start = step_to whole its sc k p again operands operands counters next s (cost_1 s) (instr.Zero c) (total sc.layout + count) 0 more h.0 (zero_goes k p c now.0 operands s.store counters now.1) refl (size_is sc (cost_1 s) next count (ticked s shape) (kept.count ∙ len))
      (less (length operands + d.operands) (length operands) d.cells 0 room (omega arith) (omega arith)) in
      let two : again + n + 2 ≡ again + n + 1 + 1 = omega arith in
      let code_there = subst (λ f. HasAt whole.instrs again (expr_code sc.layout e again ++ (instr.Guard c most ∷ (instr.JumpZero end ∷ (block_code (parts ks) (c + 1) f ++ instr.Jump again ∷ []))))) two h.1 in
      let place : end ≡ p + (n + 4 + b) = omega arith in
      after_at whole its sc k end (p + (n + 4 + b)) c operands counters (at k p operands s counters) _ place
      (after_leads whole its sc k end c operands counters (at k p operands s counters) (at k again operands (cost_1 s) next) _ start
      (after_keeps whole its sc k end c c operands counters next (at k again operands (cost_1 s) next) _ (omega arith) kept
      (turns_after e ks known sound each most 0 c most again end operands next (cost_1 s) code_there (omega arith) (omega (arith, small)) (omega arith) bound (omega (arith, enough)) (get-set counters c 0 (omega (arith, len, enough))) (ticked s shape) (kept.count ∙ len) room)))

  -- ---- the end of an action

  -- Each point that can be named has its place.
  abbrev pub AllPoints : Type 0
  AllPoints = (point : ℕ) → point < sc.points → (place : ℕ) × (slice_get its.points point ≡ Some place)

  ended_here : (place p : ℕ) (operands : List ℤ) (s : State) (counters : List ℕ) (k : Context) → Holds k (cost_1 s) (code.state_then (at k p operands s counters) None (code.begun_at place (machine_in k p operands s.store counters)))
  ended_here place p operands s counters Home = (refl, refl, refl)
  ended_here place p operands s counters (Inside home copies back outer) = (refl, refl, refl)

  advance_runs : AllPoints → (point : ℕ) → point < sc.points → StmtRuns (λ c p. instr.Advance point ∷ []) 1 0 shallow (λ s. Halts (Ended point (cost_1 s)))
  advance_runs points point named c p operands counters s h small enough len shape room =
      let place = points point named in
      let m = machine_in k p operands s.store counters in
      let t = code.state_then (at k p operands s counters) None (code.begun_at place.0 m) in
      (1, t, ap (λ x. code.go_on x (λ y. code.Running y)) (ended whole its (at k p operands s counters) (instr.Advance point) point (code.begun_at place.0 m) h.0 (rw (place.1) refl)), ended_here place.0 p operands s counters k)

  -- ---- all statements

  -- What is known of a layer's code, once it is known of its parts
  abbrev Layer : Stmt-F Stmt → Type 0
  Layer x =
      let c = stmt_code_step sc.layout (map-Stmt Stmt Part part_of x) in
      let n = stmt_size_step (map-Stmt Stmt ℕ stmt_size x) in
      let l = loops_step (map-Stmt Stmt ℕ loops x) in
      let d = stmt_depth_step depths (map-Stmt Stmt Depth (stmt_depth depths) x) in
      StmtSized c n × (sound_stmt_step sc Stmt (λ y. y) (IsSoundStmt sc) x → StmtRuns c n l d (stmt_step callees (map-Stmt Stmt Act (act_by callees) x)))

  -- the same with other names for the numbers
  recounted : (c : Coded) (n m l j : ℕ) (d : Depth) (act : Act) → n ≡ m → l ≡ j → StmtRuns c n l d act → StmtRuns c m j d act
  recounted c n m l j d act e f g = subst (λ x. StmtRuns c x j d act) e (subst (λ x. StmtRuns c n x d act) f g)

  module _ (exprs : (e : Expr) → ExprKnown e) (home : AtHome) (work : AtWork) (points : AllPoints) where
    if_layer : (test : Expr) (ks : List Known) → Layer (Stmt-F.If test (map tree ks) None)
    if_layer test ks = (
      λ c p. length-append (expr_code sc.layout test p) _ ∙ omega (arith, (exprs test).0 p, block_sized ks c (p + expr_size test + 1), sizes_same ks),
      λ sound. recounted (if_code sc.layout test (parts ks) None) _ _ _ _ _ _ (omega (arith, sizes_same ks)) (omega (arith, loops_same ks)) (if_runs test ks (exprs test) sound.0 sound.1),
    )

    if_else_layer : (test : Expr) (ks os : List Known) → Layer (Stmt-F.If test (map tree ks) (Some (map tree os)))
    if_else_layer test ks os = (
      λ c p.
          let first = p + expr_size test + 1 in
          let second = first + block_size (parts ks) + 1 in
          let l = block_loops (parts ks) in
          length-append (expr_code sc.layout test p) _
          ∙ omega (arith, (exprs test).0 p, length-append (block_code (parts ks) c first) (instr.Jump (second + block_size (parts os)) ∷ block_code (parts os) (c + l) second), block_sized ks c first, block_sized os (c + l) second, sizes_same ks, sizes_same os),
      λ sound. recounted (if_code sc.layout test (parts ks) (Some (parts os))) _ _ _ _ _ _ (omega (arith, sizes_same ks, sizes_same os)) (omega (arith, loops_same ks, loops_same os)) (if_else_runs test ks os (exprs test) sound.0 sound.1 sound.2),
    )

    bounded_layer : (test : Expr) (most : ℕ) (ks : List Known) → Layer (Stmt-F.Bounded test most (map tree ks))
    bounded_layer test most ks = (
      λ c p.
          let again = p + 1 in
          let first = again + expr_size test + 2 in
          let body = block_code (parts ks) (c + 1) first in
          let inner = instr.Guard c most ∷ (instr.JumpZero (first + block_size (parts ks) + 1) ∷ (body ++ instr.Jump again ∷ [])) in
          omega (arith, length-append (expr_code sc.layout test again) inner, (exprs test).0 again, len-one body (instr.Jump again) (block_size (parts ks)) (block_sized ks (c + 1) first), sizes_same ks),
      λ sound. recounted (bounded_code sc.layout test most (parts ks)) _ _ _ _ _ _ (omega (arith, sizes_same ks)) (omega (arith, loops_same ks)) (bounded_runs test most ks (exprs test) sound.0 sound.1.1 sound.2),
    )

    timed_layer : (test : Expr) (ks : List Known) → Layer (Stmt-F.Timed test (map tree ks))
    timed_layer test ks = (
      λ c p.
          let first = p + expr_size test + 1 in
          let body = block_code (parts ks) c first in
          let inner = instr.JumpZero (first + block_size (parts ks) + 1) ∷ (body ++ instr.Jump p ∷ []) in
          length-append (expr_code sc.layout test p) inner ∙ omega (arith, (exprs test).0 p, len-one body (instr.Jump p) (block_size (parts ks)) (block_sized ks c first), sizes_same ks),
      λ sound. recounted (timed_code sc.layout test (parts ks)) _ _ _ _ _ _ (omega (arith, sizes_same ks)) (omega (arith, loops_same ks)) (timed_runs test ks (exprs test) sound.0 (subst (λ l. quiet_list l ≡ false) (map-id (map tree ks)) sound.1) sound.2),
    )

    layer_runs : (y : Stmt-F Known) → Layer (map-Stmt Known Stmt tree y)
    layer_runs (Stmt-F.Set slot value) = (λ c p. len-one (expr_code sc.layout value p) (instr.Store (base_of sc.layout slot)) (expr_size value) ((exprs value).0 p), λ sound. set_runs slot value (exprs value) sound.0 sound.1)
    layer_runs (Stmt-F.SetCopy variable value) = (λ c p. len-one (expr_code sc.layout value p) (instr.StoreCopy variable) (expr_size value) ((exprs value).0 p), λ sound. copy_runs home variable value (exprs value) sound.0 sound.1)
    layer_runs (Stmt-F.SetCell slot index value) = (
      λ c p. length-append (expr_code sc.layout index p) _ ∙ omega (arith, (exprs index).0 p, len-one (expr_code sc.layout value (p + expr_size index)) (instr.StoreCell (base_of sc.layout slot) (cells_in_slot sc.layout slot)) (expr_size value) ((exprs value).0 (p + expr_size index))),
      λ sound. set_cell_runs slot index value (exprs index) (exprs value) sound.0 sound.1 sound.2,
    )
    layer_runs (Stmt-F.If test branch None) = if_layer test branch
    layer_runs (Stmt-F.If test branch (Some other)) = if_else_layer test branch other
    layer_runs (Stmt-F.Bounded test most body) = bounded_layer test most body
    layer_runs (Stmt-F.Timed test body) = timed_layer test body
    layer_runs (Stmt-F.Send value stream after clock) = (λ c p. len-one (expr_code sc.layout value p) (instr.Send stream after clock) (expr_size value) ((exprs value).0 p), λ sound. send_runs stream after clock value (exprs value) sound.1)
    layer_runs (Stmt-F.Advance point) = (λ c p. refl, λ sound. advance_runs points point sound)
    layer_runs (Stmt-F.Return value) = (λ c p. len-one (expr_code sc.layout value p) instr.Return (expr_size value) ((exprs value).0 p), λ sound. return_runs work value (exprs value) sound.0 sound.1)

    layer : (y : Stmt-F Known) → PS (roll-Stmt (map-Stmt Known Stmt tree y))
    layer y =
        let x : Stmt-F Stmt = map-Stmt Known Stmt tree y in
        let z : Stmt = roll-Stmt x in
        let ec = sym (para-roll-Stmt Coded (stmt_code_step sc.layout) x) in
        let en = sym (fold-roll-Stmt ℕ stmt_size_step x) in
        let el = sym (fold-roll-Stmt ℕ loops_step x) in
        let ed = sym (fold-roll-Stmt Depth (stmt_depth_step depths) x) in
        let ea = sym (fold-roll-Stmt Act (stmt_step callees) x) in
        let es = sym (rec-roll-Stmt (Type 0) (sound_stmt_step sc) (stmts_natural sc) x) in
        let c = stmt_code_step sc.layout (map-Stmt Stmt Part part_of x) in
        let n = stmt_size_step (map-Stmt Stmt ℕ stmt_size x) in
        let l = loops_step (map-Stmt Stmt ℕ loops x) in
        let d = stmt_depth_step depths (map-Stmt Stmt Depth (stmt_depth depths) x) in
        let a : Act = stmt_step callees (map-Stmt Stmt Act (act_by callees) x) in
        subst (λ b. StmtSized b (stmt_size z) × (IsSoundStmt sc z → StmtRuns b (stmt_size z) (loops z) (stmt_depth depths z) (act_by callees z))) ec
        (subst (λ b. StmtSized c b × (IsSoundStmt sc z → StmtRuns c b (loops z) (stmt_depth depths z) (act_by callees z))) en
        (subst (λ b. StmtSized c n × (IsSoundStmt sc z → StmtRuns c n b (stmt_depth depths z) (act_by callees z))) el
        (subst (λ b. StmtSized c n × (IsSoundStmt sc z → StmtRuns c n l b (act_by callees z))) ed
        (subst (λ b. StmtSized c n × (IsSoundStmt sc z → StmtRuns c n l d b)) ea
        (subst (λ b. StmtSized c n × (b → StmtRuns c n l d a)) es
        (layer_runs y))))))

    pub stmt_runs : (stmt : Stmt) → PS stmt
    stmt_runs = ind-Stmt PS (λ x y is. subst (λ z. PS (roll-Stmt z)) is (layer y))

    -- ---- a list of statements

    abbrev known_of : Stmt → Known
    known_of stmt = (stmt, stmt_runs stmt)

    trees : (stmts : List Stmt) → map tree (map known_of stmts) ≡ stmts
    trees [] = refl
    trees (x ∷ xs) = ap (λ l. x ∷ l) (trees xs)

    sizes_are : (stmts : List Stmt) → block_size (map part_of stmts) ≡ stmts_size stmts
    sizes_are [] = refl
    sizes_are (x ∷ xs) = ap (λ n. stmt_size x + n) (sizes_are xs)

    loops_are : (stmts : List Stmt) → block_loops (map part_of stmts) ≡ loops_in stmts
    loops_are [] = refl
    loops_are (x ∷ xs) = ap (λ n. loops x + n) (loops_are xs)

    pub all_runs : (stmts : List Stmt) → AreSound sc stmts → StmtRuns (stmts_code sc.layout stmts) (stmts_size stmts) (loops_in stmts) (stmts_depth depths stmts) (acts_by callees stmts)
    all_runs stmts sound =
        recounted (stmts_code sc.layout stmts) _ _ _ _ _ _ (sizes_are stmts) (loops_are stmts)
        (subst (λ l. Each (IsSoundStmt sc) l → StmtRuns (block_code (map part_of l)) (block_size (map part_of l)) (block_loops (map part_of l)) (deepest (map (stmt_depth depths) l)) (all_of (map (act_by callees) l))) (trees stmts) (block_runs (map known_of stmts)) sound)

    pub all_sized : (stmts : List Stmt) (c p : ℕ) → length (stmts_code sc.layout stmts c p) ≡ stmts_size stmts
    all_sized [] c p = refl
    all_sized (x ∷ xs) c p = length-append (stmt_code sc.layout x c p) (stmts_code sc.layout xs (c + loops x) (p + stmt_size x)) ∙ omega (arith, (stmt_runs x).0 c p, all_sized xs (c + loops x) (p + stmt_size x))
