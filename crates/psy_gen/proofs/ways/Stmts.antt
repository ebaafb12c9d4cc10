-- The code of statements goes as their courses do.
use Rattle.std.proofs.Common.{◌≡◌, ℕ, zero, suc, ◌+◌, List, [], ◌∷◌, ◌++◌, map, Some, None, refl, sym, ap, subst, ◌∙◌, inl, inr, arith}
use Rattle.std.specs.Prelude.{◌⊎◌, ◌≤◌, true, false}
use Rattle.std.proofs.lemmas.List.{map-id}
use Rattle.psy_lists.proofs.lemmas.Tests.{differ}
use Rattle.psy_code.specs.declared.instr.Instr.{Instr}
use Rattle.psy_code.specs.declared.instr.Instr.TheVariants as instr
use Rattle.psy_tree.specs.declared.unit.Expr.{Expr}
use Rattle.psy_tree.specs.declared.unit.Stmt.{Stmt, roll-Stmt, map-Stmt, rec-roll-Stmt, ind-Stmt}
use Rattle.psy_tree.specs.declared.unit.Stmt.TheOpen.{Stmt-F}
use Rattle.psy_meaning.specs.Depths.{loops}
use Rattle.psy_meaning.specs.Paths.{holds_advance, quiet_list}
use Rattle.psy_meaning.specs.Rest.{pieces_of}
use Rattle.psy_meaning.specs.Sizes.{expr_size, stmt_size, stmts_size, stmt_size_step}
use Rattle.psy_meaning.specs.Sound.{Scope, Each, IsSoundStmt, sound_stmt_step}
use Rattle.psy_meaning.specs.Ways.{Meter, Sending, Way, Course, Fell, here, one, sending, both, falling, behind, and_on, or_else, courses_through, turning}
use Rattle.psy_meaning.specs.Ways.{course_step, course_by, expr_way, piece_course}
use Rattle.psy_meaning.proofs.lemmas.Layers.{natural_stmt}
use Rattle.psy_meaning.proofs.lemmas.NoWays.{none_through, no_fall_through}
use Rattle.psy_meaning.proofs.lemmas.SoundParts.{stmts_natural}
use Rattle.psy_gen.specs.Emission.{Layout, Part, base_of, cells_in_slot, block_size, block_loops, expr_code, if_code, bounded_code, timed_code}
use Rattle.psy_gen.specs.Emission.{stmt_code_step, stmt_code, stmts_code}
use Rattle.psy_gen.specs.Keeping.{keeps_step}
use Rattle.psy_gen.proofs.Contexts.{HasAt, has-first}
use Rattle.psy_gen.proofs.Equations.{part, block_size_is, stmt_roll, stmt_size_roll}
use Rattle.psy_gen.proofs.ways.Behinds.{expr_behind, stmt_behind, stmts_behind}
use Rattle.psy_gen.proofs.ways.Exprs.{same_expr}
use Rattle.psy_gen.proofs.ways.Measures.{Measure}
use Rattle.psy_gen.proofs.ways.Modes.{Mode, Quiet, Found, Exact, Allows}
use Rattle.psy_gen.proofs.ways.Rounds.{Loop, quiet_turns, exact_of, found_turns}
use Rattle.psy_gen.proofs.ways.Courses.{all_falling, all_reaching}
use Rattle.psy_gen.proofs.ways.Kinds.{IsPlain}
use Rattle.psy_gen.proofs.ways.Same.{Onto, Upto, Same, SameAll, same_here, same_plain, same_jump, counted, same_both}
use Rattle.psy_gen.proofs.ways.Courses.{all_behind, all_on, all_fork, all_ends}
use Rattle.psy_gen.proofs.ways.Suits.{loops_in, sends_in, Suits, suits_in}

-- Statements as pieces
pub as_pieces : (calls : ℕ → Way) (stmts : List Stmt) → courses_through (piece_course calls) (pieces_of stmts) ≡ courses_through (course_by calls) stmts
as_pieces calls [] = refl
as_pieces calls (x ∷ xs) = ap (and_on (course_by calls x)) (as_pieces calls xs)

module _ (instrs : List Instr) (its : Measure) (layout : Layout) (calls : ℕ → Way) (some : (f : ℕ) (m : Meter) → (n : Meter) × calls f m n)
    (still : (f : ℕ) (m n : Meter) → calls f m n → its.met n ≡ its.met m) (sc : Scope) (works : sc.returns ≡ false) where
  abbrev S : Mode → Way → ℕ → ℕ → Type 0
  S mode way p q = Same instrs its mode way p q

  abbrev A : Mode → Course → ℕ → ℕ → Type 0
  A mode course p q = SameAll instrs its mode course p q

  -- The code of the statement goes as its course does.
  abbrev pub Q : Stmt → Type 0
  Q stmt = (mode : Mode) (c p : ℕ) → Allows its mode → IsSoundStmt sc stmt → Suits mode stmt → HasAt instrs p (stmt_code layout stmt c p)
      → A mode (course_by calls stmt) p (p + stmt_size stmt)

  abbrev Known : Type 0
  Known = (stmt : Stmt) × Q stmt

  abbrev tree : Known → Stmt
  tree k = k.0

  pub at_place : (mode : Mode) (course : Course) (p q r : ℕ) → q ≡ r → A mode course p q → A mode course p r
  at_place mode course p q r e a = subst (A mode course p) e a

  pub of_expr : (e : Expr) (mode : Mode) (p : ℕ) (rest : List Instr) → Allows its mode → HasAt instrs p (expr_code layout e p ++ rest)
      → S mode (expr_way calls e) p (p + expr_size e)
  of_expr e mode p rest allows h = same_expr instrs its layout calls some still e mode p allows (has-first instrs p (expr_code layout e p) rest h)

  -- ---- one after the other

  block : (ks : List Known) (mode : Mode) (c p : ℕ) → Allows its mode → Each (IsSoundStmt sc) (map tree ks) → Each (Suits mode) (map tree ks)
      → HasAt instrs p (stmts_code layout (map tree ks) c p)
      → A mode (courses_through (course_by calls) (map tree ks)) p (p + stmts_size (map tree ks))
  block [] mode c p allows sound suits h = let z : p ≡ p + 0 = omega arith in at_place mode (falling here) p p (p + 0) z
      (all_falling instrs its mode here p p (same_here instrs its mode p))
  block (k ∷ ks) mode c p allows sound suits h =
      let n = stmt_size k.0 in
      let more = stmts_size (map tree ks) in
      let rest = stmts_code layout (map tree ks) (c + loops k.0) (p + n) in
      let course = courses_through (course_by calls) (map tree ks) in
      let place : p + n + more ≡ p + (n + more) = omega arith in
      at_place mode (and_on (course_by calls k.0) course) p (p + n + more) (p + (n + more)) place
      (all_on instrs its mode (course_by calls k.0) course p (p + n) (p + n + more)
      (k.1 mode c p allows sound.0 suits.0 (has-first instrs p (stmt_code layout k.0 c p) rest h))
      (block ks mode (c + loops k.0) (p + n) allows sound.1 suits.1 (stmt_behind instrs layout k.0 c p rest h)))

  -- ---- a value, and an instruction

  valued : (e : Expr) (last : Way) (i : Instr) (mode : Mode) (p : ℕ) → Allows its mode → HasAt instrs p (expr_code layout e p ++ i ∷ [])
      → ((q : ℕ) → HasAt instrs q (i ∷ []) → S mode last q (q + 1))
      → S mode (both (expr_way calls e) last) p (p + (expr_size e + 1))
  valued e last i mode p allows h next =
      let place : p + expr_size e + 1 ≡ p + (expr_size e + 1) = omega arith in
      subst (S mode (both (expr_way calls e) last) p) place
      (same_both instrs its mode (expr_way calls e) last p (p + expr_size e) (p + expr_size e + 1) (of_expr e mode p (i ∷ []) allows h)
      (next (p + expr_size e) (expr_behind instrs layout e p (i ∷ []) h)))

  plainly : (i : Instr) (mode : Mode) → IsPlain i → (q : ℕ) → HasAt instrs q (i ∷ []) → S mode one q (q + 1)
  plainly i mode plain q h = same_plain instrs its mode i q plain h.0

  sent : (mode : Mode) (stream after clock q : ℕ) → sends_in mode → HasAt instrs q (instr.Send stream after clock ∷ [])
      → S mode (sending (record { stream = stream; after = after; clock = clock })) q (q + 1)
  sent mode stream after clock q may h =
      let own : Sending = record { stream = stream; after = after; clock = clock } in
      counted instrs its mode (sending own) (instr.Send stream after clock) q (λ m. record m { steps = m.steps + 1; sends = m.sends ++ own ∷ [] }) h.0
      (λ point e. e) (λ next e. e) refl (none mode may) (λ m. refl) (λ m n w. its.send own m n w)
    where
      none : (mode : Mode) → sends_in mode → mode ≡ Quiet → its.of (instr.Send stream after clock) ≡ 0
      none Quiet may e = absurd may
      none Found may e = cc
      none Exact may e = cc

  -- ---- tests

  -- A test and one step more, grouped the other way
  regroup : (way : Way) (course : Course) (mode : Mode) (p q : ℕ) → A mode (behind way (behind one course)) p q → A mode (behind (both way one) course) p q
  regroup way course mode p q a = record {
    into = λ before point n count w. by before point n count (a.into before point n count w);
    out = λ before now point n count (mid, (t, v, e), u) w. a.out before now point n count (t, v, (mid, e, u)) w;
    end = λ before now point (mid, (t, v, e), u). a.end before now point (t, v, (mid, e, u));
  }
    where
      by : (before : Meter) (point n count : ℕ)
          → Onto instrs its mode (behind way (behind one course) Fell) q point n count before ⊎ Upto its mode
          (behind way (behind one course)) point count before
          → Onto instrs its mode (behind (both way one) course Fell) q point n count before ⊎ Upto its mode (behind (both way one) course) point count before
      by before point n count (inl b) = inl (record {
        now = b.now;
        steps = b.steps;
        more = b.more;
        goes = (b.goes.2.0, (b.goes.0, b.goes.1, b.goes.2.1), b.goes.2.2);
        left = b.left;
        shorter = b.shorter;
        over = b.over;
      })
      by before point n count (inr b) = inr (record { now = b.now; goes = (b.goes.2.0, (b.goes.0, b.goes.1, b.goes.2.1), b.goes.2.2); over = b.over })

  -- Behind a test, this course where it holds, and else that one, at the place of the jump
  tested : (e : Expr) (this that : Course) (mode : Mode) (p to r : ℕ) (rest : List Instr) → Allows its mode
      → HasAt instrs p (expr_code layout e p ++ (instr.JumpZero to ∷ rest))
      → A mode this (p + expr_size e + 1) r → A mode that to r → A mode (behind (both (expr_way calls e) one) (or_else this that)) p r
  tested e this that mode p to r rest allows h f g =
      let q = p + expr_size e in
      regroup (expr_way calls e) (or_else this that) mode p r
      (all_behind instrs its mode (expr_way calls e) (behind one (or_else this that)) p q r (of_expr e mode p (instr.JumpZero to ∷ rest) allows h)
      (all_fork instrs its mode (instr.JumpZero to) this that q to r (expr_behind instrs layout e p (instr.JumpZero to ∷ rest) h).0 refl f g))

  nothing_at : (mode : Mode) (p : ℕ) → A mode (falling here) p p
  nothing_at mode p = all_falling instrs its mode here p p (same_here instrs its mode p)

  if_same : (e : Expr) (ks : List Known) (mode : Mode) (c p : ℕ) → Allows its mode → Each (IsSoundStmt sc) (map tree ks) → Each (Suits mode) (map tree ks)
      → HasAt instrs p (if_code layout e (map (part layout) (map tree ks)) None c p)
      → A mode (behind (both (expr_way calls e) one) (or_else (courses_through (course_by calls) (map tree ks)) (falling here))) p
      (p + (expr_size e + 1 + (stmts_size (map tree ks) + 0)))
  if_same e ks mode c p allows sound suits h =
      let first = p + expr_size e + 1 in
      let body = courses_through (course_by calls) (map tree ks) in
      let to = first + block_size (map (part layout) (map tree ks)) in
      let ends : first + stmts_size (map tree ks) ≡ to = omega (arith, block_size_is layout (map tree ks)) in
      let place : to ≡ p + (expr_size e + 1 + (stmts_size (map tree ks) + 0)) = omega (arith, block_size_is layout (map tree ks)) in
      let code = stmts_code layout (map tree ks) c first in
      at_place mode (behind (both (expr_way calls e) one) (or_else body (falling here))) p to (p + (expr_size e + 1 + (stmts_size (map tree ks) + 0))) place
      (tested e body (falling here) mode p to to code allows h
      (at_place mode body first (first + stmts_size (map tree ks)) to ends
      (block ks mode c first allows sound suits (expr_behind instrs layout e p (instr.JumpZero to ∷ code) h).1))
      (nothing_at mode to))

  if_else_same : (e : Expr) (ks os : List Known) (mode : Mode) (c p : ℕ) → Allows its mode → Each (IsSoundStmt sc) (map tree ks)
      → Each (Suits mode) (map tree ks) → Each (IsSoundStmt sc) (map tree os) → Each (Suits mode) (map tree os)
      → HasAt instrs p (if_code layout e (map (part layout) (map tree ks)) (Some (map (part layout) (map tree os))) c p)
      → A mode (behind (both (expr_way calls e) one)
      (or_else (and_on (courses_through (course_by calls) (map tree ks)) (falling one)) (courses_through (course_by calls) (map tree os)))) p
      (p + (expr_size e + 1 + (stmts_size (map tree ks) + (stmts_size (map tree os) + 1))))
  if_else_same e ks os mode c p allows sound suits also suit h =
      let ps = map (part layout) (map tree ks) in
      let qs = map (part layout) (map tree os) in
      let b = stmts_size (map tree ks) in
      let o = stmts_size (map tree os) in
      let first = p + expr_size e + 1 in
      let second = first + block_size ps + 1 in
      let end = second + block_size qs in
      let this = courses_through (course_by calls) (map tree ks) in
      let that = courses_through (course_by calls) (map tree os) in
      let others = stmts_code layout (map tree os) (c + block_loops ps) second in
      let code = stmts_code layout (map tree ks) c first ++ (instr.Jump end ∷ others) in
      let there = (expr_behind instrs layout e p (instr.JumpZero second ∷ code) h).1 in
      let jump = stmts_behind instrs layout (map tree ks) c first (instr.Jump end ∷ others) there in
      let at_second : first + b + 1 ≡ second = omega (arith, block_size_is layout (map tree ks)) in
      let ends : second + o ≡ end = omega (arith, block_size_is layout (map tree os)) in
      let place : end ≡ p + (expr_size e + 1 + (b + (o + 1))) = omega (arith, block_size_is layout (map tree ks), block_size_is layout (map tree os)) in
      at_place mode (behind (both (expr_way calls e) one) (or_else (and_on this (falling one)) that)) p end (p + (expr_size e + 1 + (b + (o + 1)))) place
      (tested e (and_on this (falling one)) that mode p second end code allows h
      (all_on instrs its mode this (falling one) first (first + b) end
      (block ks mode c first allows sound suits (has-first instrs first (stmts_code layout (map tree ks) c first) (instr.Jump end ∷ others) there))
      (all_falling instrs its mode one (first + b) end (same_jump instrs its mode (first + b) end jump.0)))
      (at_place mode that second (second + o) end ends
      (block os mode (c + block_loops ps) second allows also suit (subst (λ q. HasAt instrs q others) at_second jump.1))))

  timed_same : (e : Expr) (ks : List Known) (mode : Mode) (c p : ℕ) → Allows its mode → quiet_list (map tree ks) ≡ false
      → Each (IsSoundStmt sc) (map tree ks) → Each (Suits mode) (map tree ks)
      → HasAt instrs p (timed_code layout e (map (part layout) (map tree ks)) c p)
      → A mode (behind (both (expr_way calls e) one) (or_else (courses_through (course_by calls) (map tree ks)) (falling here))) p
      (p + (expr_size e + 2 + stmts_size (map tree ks)))
  timed_same e ks mode c p allows loud sound suits h =
      let b = stmts_size (map tree ks) in
      let first = p + expr_size e + 1 in
      let end = first + block_size (map (part layout) (map tree ks)) + 1 in
      let body = courses_through (course_by calls) (map tree ks) in
      let code = stmts_code layout (map tree ks) c first ++ instr.Jump p ∷ [] in
      let there = (expr_behind instrs layout e p (instr.JumpZero end ∷ code) h).1 in
      let place : end ≡ p + (expr_size e + 2 + b) = omega (arith, block_size_is layout (map tree ks)) in
      at_place mode (behind (both (expr_way calls e) one) (or_else body (falling here))) p end (p + (expr_size e + 2 + b)) place
      (tested e body (falling here) mode p end end code allows h
      (all_ends instrs its mode body first (first + b) end (no_fall (map tree ks) loud)
      (block ks mode c first allows sound suits (has-first instrs first (stmts_code layout (map tree ks) c first) (instr.Jump p ∷ []) there)))
      (nothing_at mode end))
    where
      no_fall : (stmts : List Stmt) → quiet_list stmts ≡ false → (m n : Meter) → courses_through (course_by calls) stmts Fell m n → ⊥
      no_fall stmts loud m n w = no_fall_through calls stmts loud m n (subst (λ (c : Course). c Fell m n) (sym (as_pieces calls stmts)) w)

  -- ---- bounded loops

  loop_at : (e : Expr) (most : ℕ) (ks : List Known) (mode : Mode) (c again : ℕ)
      → let out = again + expr_size e + 1 in let end = again + expr_size e + 2 + block_size (map (part layout) (map tree ks)) + 1 in
      Allows its mode → holds_advance (map tree ks) ≡ false → Each (IsSoundStmt sc) (map tree ks) → Each (Suits mode) (map tree ks)
      → HasAt instrs again (expr_code layout e again ++
      (instr.Guard c most ∷ (instr.JumpZero end ∷ (stmts_code layout (map tree ks) (c + 1) (again + expr_size e + 2) ++ instr.Jump again ∷ []))))
      → Loop instrs its mode (expr_way calls e) (courses_through (course_by calls) (map tree ks)) again out
      (again + expr_size e + 2 + stmts_size (map tree ks)) end
  loop_at e most ks mode c again allows stays sound suits h =
      let n = expr_size e in
      let out = again + n + 1 in
      let first = again + n + 2 in
      let end = first + block_size (map (part layout) (map tree ks)) + 1 in
      let body = stmts_code layout (map tree ks) (c + 1) first in
      let tail = instr.JumpZero end ∷ (body ++ instr.Jump again ∷ []) in
      let guard = expr_behind instrs layout e again (instr.Guard c most ∷ tail) h in
      let next : out + 1 ≡ first = omega arith in
      let there = subst (λ q. HasAt instrs q (body ++ instr.Jump again ∷ [])) next guard.1.1 in
      record {
        tests = same_both instrs its mode (expr_way calls e) one again (again + n) out (of_expr e mode again (instr.Guard c most ∷ tail) allows h)
            (same_plain instrs its mode (instr.Guard c most) (again + n) (tt {0}) guard.0);
        leaves = guard.1.0;
        turns = subst (λ q. A mode (courses_through (course_by calls) (map tree ks)) q (first + stmts_size (map tree ks))) (sym next)
            (block ks mode (c + 1) first allows sound suits (has-first instrs first body (instr.Jump again ∷ []) there));
        goes_back = (stmts_behind instrs layout (map tree ks) (c + 1) first (instr.Jump again ∷ []) there).0;
        stays = λ m n point w. none_through calls true false (Some point) refl (map tree ks) stays m n w;
      }

  turns_same : (e : Expr) (most : ℕ) (ks : List Known) (mode : Mode) (c again : ℕ)
      → let end = again + expr_size e + 2 + block_size (map (part layout) (map tree ks)) + 1 in
      Allows its mode → holds_advance (map tree ks) ≡ false → 1 ≤ most → Each (IsSoundStmt sc) (map tree ks) → loops_in mode most (map tree ks)
      → Each (Suits mode) (map tree ks)
      → HasAt instrs again (expr_code layout e again ++
      (instr.Guard c most ∷ (instr.JumpZero end ∷ (stmts_code layout (map tree ks) (c + 1) (again + expr_size e + 2) ++ instr.Jump again ∷ []))))
      → A mode (turning most (expr_way calls e) (courses_through (course_by calls) (map tree ks))) again end
  turns_same e most ks Quiet c again allows stays turned sound fits suits h = quiet_turns instrs its _ _ again _ _ _
      (loop_at e most ks Quiet c again allows stays sound suits h) most
  turns_same e most ks Exact c again allows stays turned sound fits suits h =
      let end = again + expr_size e + 2 + block_size (map (part layout) (map tree ks)) + 1 in
      exact_of instrs its (turning most (expr_way calls e) (courses_through (course_by calls) (map tree ks))) again end
      (quiet_turns instrs its _ _ again _ _ _ (loop_at e most ks Quiet c again allows stays sound fits h) most)
  turns_same e zero ks Found c again allows stays turned sound fits suits h = absurd (omega (arith, turned))
  turns_same e (suc most) ks Found c again allows stays turned sound fits suits h = found_turns instrs its _ _ again _ _ _
      (loop_at e (suc most) ks Found c again allows stays sound suits h) most

  bounded_same : (e : Expr) (most : ℕ) (ks : List Known) (mode : Mode) (c p : ℕ) → Allows its mode → holds_advance (map tree ks) ≡ false
      → 1 ≤ most → Each (IsSoundStmt sc) (map tree ks) → loops_in mode most (map tree ks) → Each (Suits mode) (map tree ks)
      → HasAt instrs p (bounded_code layout e most (map (part layout) (map tree ks)) c p)
      → A mode (behind one (turning most (expr_way calls e) (courses_through (course_by calls) (map tree ks)))) p
      (p + (expr_size e + 4 + stmts_size (map tree ks)))
  bounded_same e most ks mode c p allows stays turned sound fits suits h =
      let again = p + 1 in
      let course = turning most (expr_way calls e) (courses_through (course_by calls) (map tree ks)) in
      let end = again + expr_size e + 2 + block_size (map (part layout) (map tree ks)) + 1 in
      let place : end ≡ p + (expr_size e + 4 + stmts_size (map tree ks)) = omega (arith, block_size_is layout (map tree ks)) in
      at_place mode (behind one course) p end (p + (expr_size e + 4 + stmts_size (map tree ks))) place
      (all_behind instrs its mode one course p again end (same_plain instrs its mode (instr.Zero c) p (tt {0}) h.0)
      (turns_same e most ks mode c again allows stays turned sound fits suits h.1))

  -- ---- all statements

  abbrev part_of : Stmt → Part
  part_of = part layout

  step : (y : Stmt-F Known) (mode : Mode) (c p : ℕ) → let x = map-Stmt Known Stmt tree y in Allows its mode
      → sound_stmt_step sc Stmt (λ z. z) (IsSoundStmt sc) x
      → keeps_step (loops_in mode) (sends_in mode) Stmt (λ z. z) (Suits mode) x → HasAt instrs p (stmt_code_step layout (map-Stmt Stmt Part part_of x) c p)
      → A mode (course_step calls Stmt (λ z. z) (course_by calls) x) p (p + stmt_size_step (map-Stmt Stmt ℕ stmt_size x))
  step (Stmt-F.Set slot value) mode c p allows sound suits h =
      let i = instr.Store (base_of layout slot) in
      all_falling instrs its mode (both (expr_way calls value) one) p (p + (expr_size value + 1))
      (valued value one i mode p allows h (plainly i mode (tt {0})))
  step (Stmt-F.SetCopy variable value) mode c p allows sound suits h =
      let i = instr.StoreCopy variable in
      all_falling instrs its mode (both (expr_way calls value) one) p (p + (expr_size value + 1))
      (valued value one i mode p allows h (plainly i mode (tt {0})))
  step (Stmt-F.SetCell slot index value) mode c p allows sound suits h =
      let i = instr.StoreCell (base_of layout slot) (cells_in_slot layout slot) in
      let q = p + expr_size index in
      let last = both (expr_way calls value) one in
      let code = expr_code layout value q ++ i ∷ [] in
      let place : q + (expr_size value + 1) ≡ p + (expr_size index + (expr_size value + 1)) = omega arith in
      all_falling instrs its mode (both (expr_way calls index) last) p (p + (expr_size index + (expr_size value + 1)))
      (subst (S mode (both (expr_way calls index) last) p) place
      (same_both instrs its mode (expr_way calls index) last p q (q + (expr_size value + 1)) (of_expr index mode p code allows h)
      (valued value one i mode q allows (expr_behind instrs layout index p code h) (plainly i mode (tt {0})))))
  step (Stmt-F.If test branch None) mode c p allows sound suits h = if_same test branch mode c p allows sound.1 suits.0 h
  step (Stmt-F.If test branch (Some other)) mode c p allows sound suits h = if_else_same test branch other mode c p allows sound.1 suits.0 sound.2 suits.1 h
  step (Stmt-F.Bounded test most body) mode c p allows sound suits h =
      bounded_same test most body mode c p allows (ap holds_advance (sym (map-id (map tree body))) ∙ sound.3) sound.1.0 sound.2
      (subst (loops_in mode most) (map-id (map tree body)) suits.0) suits.1 h
  step (Stmt-F.Timed test body) mode c p allows sound suits h = timed_same test body mode c p allows
      (ap quiet_list (sym (map-id (map tree body))) ∙ sound.1) sound.2 suits h
  step (Stmt-F.Send value stream after clock) mode c p allows sound suits h =
      let way = sending (record { stream = stream; after = after; clock = clock }) in
      all_falling instrs its mode (both (expr_way calls value) way) p (p + (expr_size value + 1))
      (valued value way (instr.Send stream after clock) mode p allows h (λ q. sent mode stream after clock q suits))
  step (Stmt-F.Advance point) mode c p allows sound suits h = all_reaching instrs its mode point p (p + 1) h.0
  step (Stmt-F.Return value) mode c p allows sound suits h = differ (sym sound.0 ∙ works)

  layer : (y : Stmt-F Known) → Q (roll-Stmt (map-Stmt Known Stmt tree y))
  layer y mode c p allows sound suits h =
      let x : Stmt-F Stmt = map-Stmt Known Stmt tree y in
      subst (λ n. A mode (course_by calls (roll-Stmt x)) p (p + n)) (sym (stmt_size_roll x))
      (subst (λ course. A mode course p (p + stmt_size_step (map-Stmt Stmt ℕ stmt_size x)))
      (sym (rec-roll-Stmt Course (course_step calls) (natural_stmt calls) x))
      (step y mode c p allows (subst (λ (t : Type 0). t) (rec-roll-Stmt (Type 0) (sound_stmt_step sc) (stmts_natural sc) x) sound)
      (suits_in mode x suits) (subst (HasAt instrs p) (stmt_roll layout x c p) h)))

  pub same_stmt : (stmt : Stmt) → Q stmt
  same_stmt = ind-Stmt Q (λ x y is. subst (λ z. Q (roll-Stmt z)) is (layer y))

  abbrev known_of : Stmt → Known
  known_of stmt = (stmt, same_stmt stmt)

  trees : (stmts : List Stmt) → map tree (map known_of stmts) ≡ stmts
  trees [] = refl
  trees (x ∷ xs) = ap (λ l. x ∷ l) (trees xs)

  -- The code of a list of statements goes as their courses do, one after the other.
  pub same_stmts : (stmts : List Stmt) (mode : Mode) (c p : ℕ) → Allows its mode → Each (IsSoundStmt sc) stmts → Each (Suits mode) stmts
      → HasAt instrs p (stmts_code layout stmts c p)
      → A mode (courses_through (course_by calls) stmts) p (p + stmts_size stmts)
  same_stmts stmts =
      subst (λ ss. (mode : Mode) (c p : ℕ) → Allows its mode → Each (IsSoundStmt sc) ss → Each (Suits mode) ss → HasAt instrs p (stmts_code layout ss c p)
      → A mode (courses_through (course_by calls) ss) p (p + stmts_size ss))
      (trees stmts) (block (map known_of stmts))
