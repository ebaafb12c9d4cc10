-- Each place of the code of statements is come to, and a way goes on from it; each of their sends stands at a place.
use Rattle.std.proofs.Common.{◌≡◌, ℕ, ◌+◌, ◌<◌, ◌≤◌, List, [], ◌∷◌, ◌++◌, map, Some, None, refl, sym, ap, subst, ◌∙◌, inl, inr, arith}
use Rattle.std.specs.Prelude.{slice_get, ◌-◌, false}
use Rattle.psy_lists.proofs.lemmas.Tests.{differ}
use Rattle.psy_code.specs.declared.instr.Instr.{Instr}
use Rattle.psy_code.specs.declared.instr.Instr.TheVariants as instr
use Rattle.psy_tree.specs.declared.unit.Expr.{Expr}
use Rattle.psy_tree.specs.declared.unit.Stmt.{Stmt, roll-Stmt, map-Stmt, fold-roll-Stmt, para-roll-Stmt, rec-roll-Stmt, ind-Stmt}
use Rattle.psy_tree.specs.declared.unit.Stmt.TheOpen.{Stmt-F}
use Rattle.psy_meaning.specs.CodeWays.{GoesOn, IsPassed}
use Rattle.psy_meaning.specs.Depths.{loops}
use Rattle.psy_meaning.specs.Sendings.{sendings_in, sendings_of, sendings_step}
use Rattle.psy_meaning.specs.Sizes.{expr_size, stmt_size, stmts_size, stmt_size_step}
use Rattle.psy_meaning.specs.Sound.{Scope, Each, IsSoundStmt, sound_stmt_step}
use Rattle.psy_meaning.specs.Ways.{Sending}
use Rattle.psy_meaning.proofs.lemmas.Eaches.{each-append, each-first, each-second}
use Rattle.psy_meaning.proofs.lemmas.SoundParts.{stmts_natural}
use Rattle.psy_gen.specs.Emission.{Layout, Part, Placed, Places, base_of, cells_in_slot, expr_code}
use Rattle.psy_gen.specs.Emission.{block_size, block_loops, placed_size, if_code, bounded_code, timed_code, stmt_code_step, stmt_code, stmts_code, places_in}
use Rattle.psy_gen.specs.Emission.{places_step, places_of}
use Rattle.psy_gen.proofs.Contexts.{HasAt, has-first}
use Rattle.psy_gen.proofs.Equations.{part, placed, block_size_is, placed_size_is, stmt_roll, stmt_size_roll}
use Rattle.psy_gen.proofs.ways.Behinds.{expr_behind, stmt_behind, stmts_behind}
use Rattle.psy_gen.proofs.ways.Passing.{Steps, steps_one, steps_then, steps_pass, Earlier, Flow, flow_none, flow_steps, flow_then}
use Rattle.psy_gen.proofs.ways.Passing.{flow_to, flow_advance, flow_jump, passed_on, passed_then}
use Rattle.psy_gen.proofs.ways.ExprSteps.{expr_steps, one_step}

module _ (instrs : List Instr) (layout : Layout) where
  module _ (low high : ℕ) (IsPoint : ℕ → Type 0) (sc : Scope) (works : sc.returns ≡ false) where
    abbrev F : ℕ → ℕ → Type 0
    F p r = Flow instrs low high IsPoint p r

    -- The send stands at a place within the bounds.
    pub record StandsIn (send : Sending) : Type 0 where
      pub place : ℕ
      pub above : low ≤ place
      pub below : place < high
      pub at : slice_get instrs place ≡ Some (instr.Send send.stream send.after send.clock)

    -- What is known of statements from one place to another
    pub record Flows (p r : ℕ) (sendings : List Sending) : Type 0 where
      pub flow : F p r
      pub stand : Each StandsIn sendings

    abbrev W : Stmt → Type 0
    W s = (c p : ℕ) → low ≤ p → p + stmt_size s ≤ high → IsSoundStmt sc s → HasAt instrs p (stmt_code layout s c p) → Each IsPoint (places_of s p)
        → Flows p (p + stmt_size s) (sendings_of s)

    abbrev Held : Type 0
    Held = (s : Stmt) × W s

    abbrev stmt : Held → Stmt
    stmt k = k.0

    flows_to : (p r s : ℕ) (sendings : List Sending) → r ≡ s → Flows p r sendings → Flows p s sendings
    flows_to p r s sendings e f = subst (λ x. Flows p x sendings) e f

    block : (ks : List Held) (c p : ℕ) → low ≤ p → p + stmts_size (map stmt ks) ≤ high → Each (IsSoundStmt sc) (map stmt ks)
        → HasAt instrs p (stmts_code layout (map stmt ks) c p) → Each IsPoint (places_in (map placed (map stmt ks)) p)
        → Flows p (p + stmts_size (map stmt ks)) (sendings_in (map stmt ks))
    block [] c p above below sound h points = let z : p ≡ p + 0 = omega arith in record {
      flow = subst (F p) z
          (flow_none instrs low high IsPoint p);
      stand = tt;
    }
    block (k ∷ ks) c p above below sound h points =
        let n = stmt_size k.0 in
        let more = stmts_size (map stmt ks) in
        let rest = stmts_code layout (map stmt ks) (c + loops k.0) (p + n) in
        let there = stmt_behind instrs layout k.0 c p rest h in
        let place : p + n + more ≡ p + (n + more) = omega arith in
        let first = k.1 c p above (omega (arith, below)) sound.0 (has-first instrs p (stmt_code layout k.0 c p) rest h)
        (each-first IsPoint (places_of k.0 p) (places_in (map placed (map stmt ks)) (p + n)) points) in
        let others = block ks (c + loops k.0) (p + n) (omega (arith, above)) (omega (arith, below)) sound.1 there
        (each-second IsPoint (places_of k.0 p) (places_in (map placed (map stmt ks)) (p + n)) points) in
        record {
          flow = flow_to instrs low high IsPoint p (p + n + more) (p + (n + more)) place
              (flow_then instrs low high IsPoint p (p + n) (p + n + more) first.flow others.flow);
          stand = each-append StandsIn (sendings_of k.0) (sendings_in (map stmt ks)) first.stand others.stand;
        }

    -- An expression, and an instruction behind it
    tested : (e : Expr) (i : Instr) (rest : List Instr) (p : ℕ) → GoesOn i (p + expr_size e) (p + expr_size e + 1)
        → HasAt instrs p (expr_code layout e p ++ (i ∷ rest)) → Steps instrs p (p + expr_size e + 1)
    tested e i rest p on h =
        steps_then instrs p (p + expr_size e) (p + expr_size e + 1) (expr_steps instrs layout e p (has-first instrs p (expr_code layout e p) (i ∷ rest) h))
        (steps_one instrs i (p + expr_size e) (expr_behind instrs layout e p (i ∷ rest) h).0 on)

    valued : (e : Expr) (i : Instr) (p : ℕ) → low ≤ p → p + (expr_size e + 1) ≤ high → GoesOn i (p + expr_size e) (p + expr_size e + 1)
        → HasAt instrs p (expr_code layout e p ++ i ∷ []) → F p (p + (expr_size e + 1))
    valued e i p above below on h =
        let place : p + expr_size e + 1 ≡ p + (expr_size e + 1) = omega arith in
        flow_to instrs low high IsPoint p (p + expr_size e + 1) (p + (expr_size e + 1)) place
        (flow_steps instrs low high IsPoint p (p + expr_size e + 1) above (omega (arith, below)) (tested e i [] p on h))

    -- A jump comes to a place behind the test that made it.
    comes : (p to : ℕ) → low ≤ p → p < to → slice_get instrs p ≡ Some (instr.JumpZero to) → Earlier instrs low high IsPoint to
    comes p to above less at = record {
      before = p;
      less = less;
      within = above;
      passed = passed_on instrs p p to (instr.JumpZero to) at
          (inr refl) IsPassed.first;
    }

    if_flows : (e : Expr) (ks : List Held) (c p : ℕ) → low ≤ p → p + (expr_size e + 1 + (stmts_size (map stmt ks) + 0)) ≤ high
        → Each (IsSoundStmt sc) (map stmt ks)
        → HasAt instrs p (if_code layout e (map (part layout) (map stmt ks)) None c p)
        → Each IsPoint (places_in (map placed (map stmt ks)) (p + expr_size e + 1))
        → Flows p (p + (expr_size e + 1 + (stmts_size (map stmt ks) + 0))) (sendings_in (map stmt ks))
    if_flows e ks c p above below sound h points =
        let first = p + expr_size e + 1 in
        let b = stmts_size (map stmt ks) in
        let i = instr.JumpZero (first + block_size (map (part layout) (map stmt ks))) in
        let code = stmts_code layout (map stmt ks) c first in
        let place : first + b ≡ p + (expr_size e + 1 + (b + 0)) = omega arith in
        let body = block ks c first (omega (arith, above)) (omega (arith, below)) sound (expr_behind instrs layout e p (i ∷ code) h).1 points in
        flows_to p (first + b) (p + (expr_size e + 1 + (b + 0))) (sendings_in (map stmt ks)) place
        (record {
          flow = flow_then instrs low high IsPoint p first (first + b)
              (flow_steps instrs low high IsPoint p first above (omega (arith, below)) (tested e i code p (inl refl) h)) body.flow;
          stand = body.stand;
        })

    if_else_flows : (e : Expr) (ks os : List Held) (c p : ℕ) → low ≤ p
        → p + (expr_size e + 1 + (stmts_size (map stmt ks) + (stmts_size (map stmt os) + 1))) ≤ high → Each (IsSoundStmt sc) (map stmt ks)
        → Each (IsSoundStmt sc) (map stmt os)
        → HasAt instrs p (if_code layout e (map (part layout) (map stmt ks)) (Some (map (part layout) (map stmt os))) c p)
        → Each IsPoint (places_in (map placed (map stmt ks)) (p + expr_size e + 1) ++ places_in (map placed (map stmt os))
        (p + expr_size e + 1 + placed_size (map placed (map stmt ks)) + 1))
        → Flows p (p + (expr_size e + 1 + (stmts_size (map stmt ks) + (stmts_size (map stmt os) + 1))))
        (sendings_in (map stmt ks) ++ sendings_in (map stmt os))
    if_else_flows e ks os c p above below sound also h points =
        let n = expr_size e in
        let b = stmts_size (map stmt ks) in
        let o = stmts_size (map stmt os) in
        let ps = map (part layout) (map stmt ks) in
        let qs = map (part layout) (map stmt os) in
        let first = p + n + 1 in
        let second = first + block_size ps + 1 in
        let end = second + block_size qs in
        let size = block_size_is layout (map stmt ks) in
        let more = block_size_is layout (map stmt os) in
        let those = places_in (map placed (map stmt os)) (first + placed_size (map placed (map stmt ks)) + 1) in
        let these = places_in (map placed (map stmt ks)) first in
        let others = stmts_code layout (map stmt os) (c + block_loops ps) second in
        let code = stmts_code layout (map stmt ks) c first ++ (instr.Jump end ∷ others) in
        let test = expr_behind instrs layout e p (instr.JumpZero second ∷ code) h in
        let jump = stmts_behind instrs layout (map stmt ks) c first (instr.Jump end ∷ others) test.1 in
        let at_second : first + b + 1 ≡ second = omega (arith, size) in
        let places_from : first + placed_size (map placed (map stmt ks)) + 1 ≡ second = omega (arith, size, placed_size_is (map stmt ks)) in
        let body = block ks c first (omega (arith, above)) (omega (arith, below)) sound
        (has-first instrs first (stmts_code layout (map stmt ks) c first) (instr.Jump end ∷ others) test.1) (each-first IsPoint these those points) in
        let rest = block os (c + block_loops ps) second (omega (arith, above)) (omega (arith, below, size)) also
        (subst (λ q. HasAt instrs q others) at_second jump.1)
        (subst (λ q. Each IsPoint (places_in (map placed (map stmt os)) q)) places_from (each-second IsPoint these those points)) in
        let front = flow_then instrs low high IsPoint p first (first + b)
        (flow_steps instrs low high IsPoint p first above (omega (arith, below)) (tested e (instr.JumpZero second) code p (inl refl) h)) body.flow in
        let over = flow_jump instrs low high IsPoint (first + b)
        (record {
          next = end;
          more = omega (arith, size);
          within = omega (arith, below, size, more);
          passed = passed_on instrs (first + b)
              (first + b) end (instr.Jump end) jump.0 refl IsPassed.first;
        })
        (subst (Earlier instrs low high IsPoint) (sym at_second) (comes (p + n) second (omega (arith, above)) (omega arith) test.0)) in
        let place : second + o ≡ p + (n + 1 + (b + (o + 1))) = omega (arith, size) in
        flows_to p (second + o) (p + (n + 1 + (b + (o + 1)))) (sendings_in (map stmt ks) ++ sendings_in (map stmt os)) place
        (record {
          flow = flow_then instrs low high IsPoint p (first + b) (second + o) front
              (flow_then instrs low high IsPoint (first + b) (first + b + 1) (second + o) over (subst (λ q. F q (second + o)) (sym at_second) rest.flow));
          stand = each-append StandsIn (sendings_in (map stmt ks)) (sendings_in (map stmt os)) body.stand rest.stand;
        })

    -- A test, a body and a jump back to the test, behind which the loop is left
    loop_flows : (again out b end : ℕ) → low ≤ again → again ≤ out → out + 1 + b + 1 ≤ high → Steps instrs again (out + 1)
        → slice_get instrs out ≡ Some (instr.JumpZero end) → end ≡ out + 1 + b + 1
        → F (out + 1) (out + 1 + b) → slice_get instrs (out + 1 + b) ≡ Some (instr.Jump again) → F again (out + 1 + b + 1)
    loop_flows again out b end above first below steps at is body back =
        let last = out + 1 + b in
        let tests : IsPassed instrs again out = pass_to again out first (λ q over under. steps q over (omega (arith, under))) in
        let leaves : IsPassed instrs again end = passed_on instrs again out end (instr.JumpZero end) at (inr refl) tests in
        let round : IsPassed instrs last end = passed_then instrs last again end
        (passed_on instrs last last again (instr.Jump again) back refl IsPassed.first) leaves in
        flow_then instrs low high IsPoint again last (last + 1)
        (flow_then instrs low high IsPoint again (out + 1) last (flow_steps instrs low high IsPoint again (out + 1) above (omega (arith, below)) steps) body)
        (flow_jump instrs low high IsPoint last (record { next = end; more = omega (arith, is); within = omega (arith, is, below); passed = round })
        (subst (Earlier instrs low high IsPoint) is (comes out end (omega (arith, above, first)) (omega (arith, is)) at)))
      where
        pass_to : (p r : ℕ) → p ≤ r → Steps instrs p r → IsPassed instrs p r
        pass_to p r less f = by (r - p) (omega (arith, less))
          where
            by : (d : ℕ) → p + d ≡ r → IsPassed instrs p r
            by d e = subst (IsPassed instrs p) e (steps_pass instrs p d (λ q over under. f q over (omega (arith, under, e))))

    timed_flows : (e : Expr) (ks : List Held) (c p : ℕ) → low ≤ p → p + (expr_size e + 2 + stmts_size (map stmt ks)) ≤ high
        → Each (IsSoundStmt sc) (map stmt ks)
        → HasAt instrs p (timed_code layout e (map (part layout) (map stmt ks)) c p)
        → Each IsPoint (places_in (map placed (map stmt ks)) (p + expr_size e + 1))
        → Flows p (p + (expr_size e + 2 + stmts_size (map stmt ks))) (sendings_in (map stmt ks))
    timed_flows e ks c p above below sound h points =
        let n = expr_size e in
        let b = stmts_size (map stmt ks) in
        let first = p + n + 1 in
        let end = first + block_size (map (part layout) (map stmt ks)) + 1 in
        let size = block_size_is layout (map stmt ks) in
        let code = stmts_code layout (map stmt ks) c first ++ instr.Jump p ∷ [] in
        let test = expr_behind instrs layout e p (instr.JumpZero end ∷ code) h in
        let body = block ks c first (omega (arith, above)) (omega (arith, below)) sound
        (has-first instrs first (stmts_code layout (map stmt ks) c first) (instr.Jump p ∷ []) test.1) points in
        let place : p + n + 1 + b + 1 ≡ p + (n + 2 + b) = omega arith in
        flows_to p (p + n + 1 + b + 1) (p + (n + 2 + b)) (sendings_in (map stmt ks)) place
        (record {
          flow = loop_flows p (p + n) b end above (omega arith) (omega (arith, below)) (tested e (instr.JumpZero end) code p (inl refl) h) test.0
              (omega (arith, size)) body.flow (stmts_behind instrs layout (map stmt ks) c first (instr.Jump p ∷ []) test.1).0;
          stand = body.stand;
        })

    bounded_flows : (e : Expr) (most : ℕ) (ks : List Held) (c p : ℕ) → low ≤ p → p + (expr_size e + 4 + stmts_size (map stmt ks)) ≤ high
        → Each (IsSoundStmt sc) (map stmt ks)
        → HasAt instrs p (bounded_code layout e most (map (part layout) (map stmt ks)) c p)
        → Each IsPoint (places_in (map placed (map stmt ks)) (p + 1 + expr_size e + 2))
        → Flows p (p + (expr_size e + 4 + stmts_size (map stmt ks))) (sendings_in (map stmt ks))
    bounded_flows e most ks c p above below sound h points =
        let n = expr_size e in
        let b = stmts_size (map stmt ks) in
        let again = p + 1 in
        let first = again + n + 2 in
        let out = again + n + 1 in
        let end = first + block_size (map (part layout) (map stmt ks)) + 1 in
        let size = block_size_is layout (map stmt ks) in
        let code = stmts_code layout (map stmt ks) (c + 1) first ++ instr.Jump again ∷ [] in
        let guard = expr_behind instrs layout e again (instr.Guard c most ∷ (instr.JumpZero end ∷ code)) h.1 in
        let next : out + 1 ≡ first = omega arith in
        let there = subst (λ q. HasAt instrs q code) next guard.1.1 in
        let body = block ks (c + 1) first (omega (arith, above)) (omega (arith, below)) sound
        (has-first instrs first (stmts_code layout (map stmt ks) (c + 1) first) (instr.Jump again ∷ []) there) points in
        let back = stmts_behind instrs layout (map stmt ks) (c + 1) first (instr.Jump again ∷ []) there in
        let steps = steps_then instrs again out (out + 1) (tested e (instr.Guard c most) (instr.JumpZero end ∷ code) again refl h.1)
        (steps_one instrs (instr.JumpZero end) out guard.1.0 (inl refl)) in
        let loop = loop_flows again out b end (omega (arith, above)) (omega arith) (omega (arith, below)) steps guard.1.0 (omega (arith, size))
        (subst (λ q. F q (q + b)) (sym next) body.flow) (subst (λ q. slice_get instrs (q + b) ≡ Some (instr.Jump again)) (sym next) back.0) in
        let place : out + 1 + b + 1 ≡ p + (n + 4 + b) = omega arith in
        flows_to p (out + 1 + b + 1) (p + (n + 4 + b)) (sendings_in (map stmt ks)) place
        (record {
          flow = flow_then instrs low high IsPoint p again (out + 1 + b + 1)
              (flow_steps instrs low high IsPoint p again above (omega (arith, below)) (one_step instrs layout (instr.Zero c) p (tt {0}) h.0)) loop;
          stand = body.stand;
        })

    stmt_step : (y : Stmt-F Held) (c p : ℕ) → let x = map-Stmt Held Stmt stmt y in low ≤ p → p + stmt_size_step (map-Stmt Stmt ℕ stmt_size x) ≤ high
        → sound_stmt_step sc Stmt (λ z. z) (IsSoundStmt sc) x
        → HasAt instrs p (stmt_code_step layout (map-Stmt Stmt Part (part layout) x) c p) → Each IsPoint (places_step (map-Stmt Stmt Placed placed x) p)
        → Flows p (p + stmt_size_step (map-Stmt Stmt ℕ stmt_size x)) (sendings_step (map-Stmt Stmt (List Sending) sendings_of x))
    stmt_step (Stmt-F.Set slot value) c p above below sound h points = record {
      flow = valued value
          (instr.Store (base_of layout slot)) p above below refl h;
      stand = tt;
    }
    stmt_step (Stmt-F.SetCopy variable value) c p above below sound h points = record {
      flow = valued value
          (instr.StoreCopy variable) p above below refl h;
      stand = tt;
    }
    stmt_step (Stmt-F.SetCell slot index value) c p above below sound h points =
        let i = instr.StoreCell (base_of layout slot) (cells_in_slot layout slot) in
        let q = p + expr_size index in
        let code = expr_code layout value q ++ i ∷ [] in
        let place : q + (expr_size value + 1) ≡ p + (expr_size index + (expr_size value + 1)) = omega arith in
        record {
          flow = flow_to instrs low high IsPoint p (q + (expr_size value + 1)) (p + (expr_size index + (expr_size value + 1))) place
              (flow_then instrs low high IsPoint p q (q + (expr_size value + 1))
              (flow_steps instrs low high IsPoint p q above (omega (arith, below))
              (expr_steps instrs layout index p (has-first instrs p (expr_code layout index p) code h)))
              (valued value i q (omega (arith, above)) (omega (arith, below)) refl (expr_behind instrs layout index p code h)));
          stand = tt;
        }
    stmt_step (Stmt-F.If test branch None) c p above below sound h points = if_flows test branch c p above below sound.1 h points
    stmt_step (Stmt-F.If test branch (Some other)) c p above below sound h points = if_else_flows test branch other c p above below sound.1 sound.2 h points
    stmt_step (Stmt-F.Bounded test most body) c p above below sound h points = bounded_flows test most body c p above below sound.2 h points
    stmt_step (Stmt-F.Timed test body) c p above below sound h points = timed_flows test body c p above below sound.2 h points
    stmt_step (Stmt-F.Send value stream after clock) c p above below sound h points =
        let i = instr.Send stream after clock in
        record {
          flow = valued value i p above below refl h;
          stand = (
            record {
              place = p + expr_size value;
              above = omega (arith, above);
              below = omega (arith, below);
              at =
                  (expr_behind instrs layout value p (i ∷ []) h).0;
            },
            tt,
          );
        }
    stmt_step (Stmt-F.Advance point) c p above below sound h points = record { flow = flow_advance instrs low high IsPoint p point h.0 points.0; stand = tt }
    stmt_step (Stmt-F.Return value) c p above below sound h points = differ (sym sound.0 ∙ works)

    stmt_layer : (y : Stmt-F Held) → W (roll-Stmt (map-Stmt Held Stmt stmt y))
    stmt_layer y c p above below sound h points =
        let x : Stmt-F Stmt = map-Stmt Held Stmt stmt y in
        let done = stmt_step y c p above (omega (arith, below, stmt_size_roll x))
        (subst (λ (t : Type 0). t) (rec-roll-Stmt (Type 0) (sound_stmt_step sc) (stmts_natural sc) x) sound)
        (subst (HasAt instrs p) (stmt_roll layout x c p) h) (subst (λ (f : Places). Each IsPoint (f p)) (para-roll-Stmt Places places_step x) points) in
        subst (λ n. Flows p (p + n) (sendings_of (roll-Stmt x))) (sym (stmt_size_roll x))
        (subst (Flows p (p + stmt_size_step (map-Stmt Stmt ℕ stmt_size x))) (sym (fold-roll-Stmt (List Sending) sendings_step x)) done)

    stmt_flows : (s : Stmt) → W s
    stmt_flows = ind-Stmt W (λ x y is. subst (λ z. W (roll-Stmt z)) is (stmt_layer y))

    abbrev held_of : Stmt → Held
    held_of s = (s, stmt_flows s)

    trees : (stmts : List Stmt) → map stmt (map held_of stmts) ≡ stmts
    trees [] = refl
    trees (x ∷ xs) = ap (λ l. x ∷ l) (trees xs)

    -- Those of a body
    pub body_flows : (stmts : List Stmt) (p : ℕ) → low ≤ p → p + stmts_size stmts ≤ high → Each (IsSoundStmt sc) stmts
        → HasAt instrs p (stmts_code layout stmts 0 p) → Each IsPoint (places_in (map placed stmts) p)
        → Flows p (p + stmts_size stmts) (sendings_in stmts)
    body_flows stmts p =
        subst (λ ss. low ≤ p → p + stmts_size ss ≤ high → Each (IsSoundStmt sc) ss → HasAt instrs p (stmts_code layout ss 0 p)
        → Each IsPoint (places_in (map placed ss) p) → Flows p (p + stmts_size ss) (sendings_in ss))
        (trees stmts) (block (map held_of stmts) 0 p)
