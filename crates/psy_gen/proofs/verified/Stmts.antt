-- The code of statements keeps all rules, and leaves no operand.
use Rattle.std.proofs.Common.{◌≡◌, ℕ, ◌+◌, ◌<◌, ◌≤◌, List, [], ◌∷◌, ◌++◌, map, length, Some, None, refl, sym, ap, subst, ◌∙◌, arith}
use Rattle.std.specs.Prelude.{◌-◌, pos, ⊤}
use Rattle.psy_code.specs.declared.instr.Instr.{Instr}
use Rattle.psy_code.specs.declared.instr.Instr.TheVariants as instr
use Rattle.psy_tree.specs.declared.unit.Expr.{Expr}
use Rattle.psy_tree.specs.declared.unit.Stmt.{Stmt, roll-Stmt, map-Stmt, fold-roll-Stmt, para-roll-Stmt, rec-roll-Stmt, ind-Stmt}
use Rattle.psy_tree.specs.declared.unit.Stmt.TheOpen.{Stmt-F}
use Rattle.psy_meaning.specs.Depths.{Depth, expr_depth, loops, loops_in, loops_step, stmt_depth, stmt_depth_step, stmts_depth}
use Rattle.psy_meaning.specs.Paths.{advances_in, advances_of, advances_step}
use Rattle.psy_meaning.specs.Sizes.{expr_size, stmt_size, stmt_size_step, stmts_size}
use Rattle.psy_meaning.specs.Sound.{Each, IsSoundExpr, IsSoundStmt, sound_stmt_step}
use Rattle.psy_meaning.proofs.lemmas.Eaches.{each-append}
use Rattle.psy_meaning.proofs.lemmas.SoundParts.{stmts_natural}
use Rattle.psy_flow.specs.Heights.{onto}
use Rattle.psy_flow.specs.Verified.{IsLed, IsOrdered}
use Rattle.psy_gen.specs.Emission.{Part, Placed, Places, base_of, block_loops, block_size, bounded_code, cells_in_slot, expr_code, if_code}
use Rattle.psy_gen.specs.Emission.{placed_size, places_in, places_of, places_step, stmt_code, stmt_code_step, stmts_code, timed_code}
use Rattle.psy_gen.proofs.Contexts.{has-first}
use Rattle.psy_gen.proofs.Equations.{block_loops_is, block_size_is, part, placed, placed_size_is, stmt_roll, stmt_size_roll}
use Rattle.psy_gen.proofs.PlaceCounts.{count, places_count}
use Rattle.psy_gen.proofs.ways.Behinds.{expr_behind, stmt_behind, stmts_behind}
use Rattle.psy_gen.proofs.verified.Exprs.{Has, cells_framed, expr_gives, first_framed}
use Rattle.psy_gen.proofs.verified.Own.{At, Fit, Marked, Over, Own, Passes, calm, calm_one, height_then, most, one, over_none, over_on, over_one, over_then, passes}

-- ---- two lists side by side

-- Each pair of them has it.
abbrev pub Pairs : (ℕ → ℕ → Type 0) → List ℕ → List ℕ → Type 0
Pairs P [] ys = ⊤
Pairs P (x ∷ xs) [] = ⊤
Pairs P (x ∷ xs) (y ∷ ys) = P x y × Pairs P xs ys

pairs_first : (P : ℕ → ℕ → Type 0) (xs ys us vs : List ℕ) → length ys ≡ length xs → Pairs P (xs ++ us) (ys ++ vs) → Pairs P xs ys
pairs_first P [] ys us vs e h = tt {0}
pairs_first P (x ∷ xs) [] us vs e h = tt {0}
pairs_first P (x ∷ xs) (y ∷ ys) us vs e h = (h.0, pairs_first P xs ys us vs (omega (arith, e)) h.1)

pairs_second : (P : ℕ → ℕ → Type 0) (xs ys us vs : List ℕ) → length ys ≡ length xs → Pairs P (xs ++ us) (ys ++ vs) → Pairs P us vs
pairs_second P [] [] us vs e h = h
pairs_second P [] (y ∷ ys) us vs e h = absurd (omega (arith, e))
pairs_second P (x ∷ xs) [] us vs e h = absurd (omega (arith, e))
pairs_second P (x ∷ xs) (y ∷ ys) us vs e h = pairs_second P xs ys us vs (omega (arith, e)) h.1

module _ (o : Own) where
  -- A place of the code where the height is none
  abbrev pub Start : ℕ → Type 0
  Start place = (o.low ≤ place) × (place ≤ o.high) × (o.height place ≡ 0)

  -- Where the point is one of the owner, an `Advance` to it may stand before the place.
  abbrev pub Led : ℕ → ℕ → Type 0
  Led point place = point < o.sc.points → (q : ℕ) → place ≡ q + 1
      → IsLed o.code o.owner q (instr.Advance point) × IsOrdered o.owner (instr.Advance point)

  -- Each place keeps all rules, no operand is left, and none is there behind an `advance`.
  pub record Does (p r : ℕ) (places : List ℕ) : Type 0 where
    pub over : Over o p r
    pub end : o.height r ≡ 0
    pub starts : Each Start places

  abbrev W : Stmt → Type 0
  W s = (c p : ℕ) → o.low ≤ p → p + stmt_size s ≤ o.high → Has o p (stmt_code o.sc.layout s c p) → o.height p ≡ 0 → IsSoundStmt o.sc s
      → Fit o 0 (stmt_depth o.depths s) → c + loops s ≤ o.count → Pairs Led (advances_of s) (places_of s p) → Does p (p + stmt_size s) (places_of s p)

  abbrev Held : Type 0
  Held = (s : Stmt) × W s

  abbrev stmt : Held → Stmt
  stmt k = k.0

  does_to : (p r s : ℕ) (places : List ℕ) → r ≡ s → Does p r places → Does p s places
  does_to p r s places e d = subst (λ x. Does p x places) e d

  block : (ks : List Held) (c p : ℕ) → o.low ≤ p → p + stmts_size (map stmt ks) ≤ o.high → Has o p (stmts_code o.sc.layout (map stmt ks) c p)
      → o.height p ≡ 0 → Each (IsSoundStmt o.sc) (map stmt ks) → Fit o 0 (stmts_depth o.depths (map stmt ks)) → c + loops_in (map stmt ks) ≤ o.count
      → Pairs Led (advances_in (map stmt ks)) (places_in (map placed (map stmt ks)) p)
      → Does p (p + stmts_size (map stmt ks)) (places_in (map placed (map stmt ks)) p)
  block [] c p above below has is sound fit few led =
      let z : p ≡ p + 0 = omega arith in
      record { over = subst (Over o p) z (over_none o p); end = ap o.height (sym z) ∙ is; starts = tt {0} }
  block (k ∷ ks) c p above below has is sound fit few led =
      let n = stmt_size k.0 in
      let more = stmts_size (map stmt ks) in
      let rest = stmts_code o.sc.layout (map stmt ks) (c + loops k.0) (p + n) in
      let place : p + n + more ≡ p + (n + more) = omega arith in
      let these = places_of k.0 p in
      let those = places_in (map placed (map stmt ks)) (p + n) in
      let first = k.1 c p above (omega (arith, below)) (has-first o.code.instrs p (stmt_code o.sc.layout k.0 c p) rest has) is sound.0
      (omega (arith, fit.0), omega (arith, fit.1)) (omega (arith, few))
      (pairs_first Led (advances_of k.0) these (advances_in (map stmt ks)) those (count k.0 p) led) in
      let others = block ks (c + loops k.0) (p + n) (omega (arith, above)) (omega (arith, below))
      (stmt_behind o.code.instrs o.sc.layout k.0 c p rest has) first.end sound.1
      (omega (arith, fit.0), omega (arith, fit.1)) (omega (arith, few))
      (pairs_second Led (advances_of k.0) these (advances_in (map stmt ks)) those (count k.0 p) led) in
      does_to p (p + n + more) (p + (n + more)) (these ++ those) place
      (record {
        over = over_then o p (p + n) (p + n + more) first.over others.over;
        end = others.end;
        starts = each-append Start these those first.starts others.starts;
      })

  -- ---- jumps

  jump_zero : (q to : ℕ) → At o q (instr.JumpZero to) → o.low ≤ q → q + 1 ≤ o.high → o.low ≤ to → to ≤ o.high → o.height q ≡ 1 → 1 ≤ most o
      → o.height (q + 1) ≡ 0 → o.height to ≡ 0 → Marked o q
  jump_zero q to at above below over under is room next there =
      calm_one o (instr.JumpZero to) q 1 (tt {0}) at above (omega (arith, below)) is (omega arith, (omega arith, tt {0}))
      ((omega (arith, above), below, next), ((over, under, there), tt {0})) room (tt {0})

  jump : (q to : ℕ) → At o q (instr.Jump to) → o.low ≤ q → q ≤ o.high → o.low ≤ to → to ≤ o.high → o.height q ≡ 0 → o.height to ≡ 0 → Marked o q
  jump q to at above below over under is there =
      calm_one o (instr.Jump to) q 0 (tt {0}) at above below is (omega arith, tt {0}) ((over, under, there), tt {0}) (omega arith) (tt {0})

  jump_next : (q to : ℕ) → At o q (instr.Jump to) → o.height q ≡ 0 → o.height (q + 1) ≡ 0
  jump_next q to at is = height_then o (instr.Jump to) q 0 (onto to 0 0) at is refl

  -- ---- a value and an instruction that takes it

  valued : (e : Expr) (i : Instr) (p : ℕ) → o.low ≤ p → p + (expr_size e + 1) ≤ o.high → Has o p (expr_code o.sc.layout e p ++ i ∷ [])
      → o.height p ≡ 0 → IsSoundExpr o.sc e → Fit o 0 (expr_depth o.depths e)
      → (At o (p + expr_size e) i → o.height (p + expr_size e) ≡ 1 → 1 ≤ most o → Passes o (p + expr_size e) 0) → Does p (p + (expr_size e + 1)) []
  valued e i p above below has is sound fit takes =
      let n = expr_size e in
      let first = expr_gives o e p 0 above (omega (arith, below)) (has-first o.code.instrs p (expr_code o.sc.layout e p) (i ∷ []) has) is sound fit in
      let last = takes (expr_behind o.code.instrs o.sc.layout e p (i ∷ []) has).0 first.end first.room in
      does_to p (p + n + 1) (p + (n + 1)) [] (omega arith)
      (record { over = over_on o p (p + n) first.over last.0; end = last.1; starts = tt {0} })

  -- What is known of a test, and of what stands behind its jump
  record Tests (p n to : ℕ) (rest : List Instr) : Type 0 where
    over : Over o p (p + n)
    at : At o (p + n) (instr.JumpZero to)
    end : o.height (p + n) ≡ 1
    room : 1 ≤ most o
    next : o.height (p + n + 1) ≡ 0
    has : Has o (p + n + 1) rest

  tests : (e : Expr) (to p : ℕ) (rest : List Instr) → o.low ≤ p → p + expr_size e ≤ o.high
      → Has o p (expr_code o.sc.layout e p ++ (instr.JumpZero to ∷ rest)) → o.height p ≡ 0 → IsSoundExpr o.sc e → Fit o 0 (expr_depth o.depths e)
      → Tests p (expr_size e) to rest
  tests e to p rest above below has is sound fit =
      let n = expr_size e in
      let i = instr.JumpZero to in
      let first = expr_gives o e p 0 above below (has-first o.code.instrs p (expr_code o.sc.layout e p) (i ∷ rest) has) is sound fit in
      let there = expr_behind o.code.instrs o.sc.layout e p (i ∷ rest) has in
      record {
        over = first.over;
        at = there.0;
        end = first.end;
        room = first.room;
        next = height_then o i (p + n) 1 (record { to = p + n + 1; pops = 1; pushes = 0 } ∷ onto to 1 0) there.0 first.end refl;
        has = there.1;
      }

  -- ---- branches

  if_does : (e : Expr) (ks : List Held) (c p : ℕ) → o.low ≤ p → p + (expr_size e + 1 + (stmts_size (map stmt ks) + 0)) ≤ o.high
      → Has o p (if_code o.sc.layout e (map (part o.sc.layout) (map stmt ks)) None c p) → o.height p ≡ 0 → IsSoundExpr o.sc e
      → Each (IsSoundStmt o.sc) (map stmt ks) → Fit o 0 (expr_depth o.depths e) → Fit o 0 (stmts_depth o.depths (map stmt ks))
      → c + loops_in (map stmt ks) ≤ o.count → Pairs Led (advances_in (map stmt ks)) (places_in (map placed (map stmt ks)) (p + expr_size e + 1))
      → Does p (p + (expr_size e + 1 + (stmts_size (map stmt ks) + 0))) (places_in (map placed (map stmt ks)) (p + expr_size e + 1))
  if_does e ks c p above below has is first sound fit fits few led =
      let n = expr_size e in
      let b = stmts_size (map stmt ks) in
      let start = p + n + 1 in
      let to = start + block_size (map (part o.sc.layout) (map stmt ks)) in
      let size = block_size_is o.sc.layout (map stmt ks) in
      let code = stmts_code o.sc.layout (map stmt ks) c start in
      let end : start + b ≡ to = omega (arith, size) in
      let t = tests e to p code above (omega (arith, below)) has is first fit in
      let body = block ks c start (omega (arith, above)) (omega (arith, below)) t.has t.next sound fits few led in
      let mark = jump_zero (p + n) to t.at (omega (arith, above)) (omega (arith, below)) (omega (arith, above)) (omega (arith, below, size)) t.end t.room t.next
      (ap o.height (sym end) ∙ body.end) in
      does_to p (start + b) (p + (n + 1 + (b + 0))) (places_in (map placed (map stmt ks)) start) (omega arith)
      (record {
        over = over_then o p start (start + b) (over_on o p (p + n) t.over mark) body.over;
        end = body.end;
        starts = body.starts;
      })

  if_else_does : (e : Expr) (ks os : List Held) (c p : ℕ) → o.low ≤ p
      → p + (expr_size e + 1 + (stmts_size (map stmt ks) + (stmts_size (map stmt os) + 1))) ≤ o.high
      → Has o p (if_code o.sc.layout e (map (part o.sc.layout) (map stmt ks)) (Some (map (part o.sc.layout) (map stmt os))) c p) → o.height p ≡ 0
      → IsSoundExpr o.sc e → Each (IsSoundStmt o.sc) (map stmt ks) → Each (IsSoundStmt o.sc) (map stmt os) → Fit o 0 (expr_depth o.depths e)
      → Fit o 0 (stmts_depth o.depths (map stmt ks)) → Fit o 0 (stmts_depth o.depths (map stmt os))
      → c + (loops_in (map stmt ks) + loops_in (map stmt os)) ≤ o.count
      → Pairs Led (advances_in (map stmt ks) ++ advances_in (map stmt os))
      (places_in (map placed (map stmt ks)) (p + expr_size e + 1) ++ places_in (map placed (map stmt os))
      (p + expr_size e + 1 + placed_size (map placed (map stmt ks)) + 1))
      → Does p (p + (expr_size e + 1 + (stmts_size (map stmt ks) + (stmts_size (map stmt os) + 1))))
      (places_in (map placed (map stmt ks)) (p + expr_size e + 1) ++ places_in (map placed (map stmt os))
      (p + expr_size e + 1 + placed_size (map placed (map stmt ks)) + 1))
  if_else_does e ks os c p above below has is first sound also fit fits others_fit few led =
      let n = expr_size e in
      let b = stmts_size (map stmt ks) in
      let d = stmts_size (map stmt os) in
      let ps = map (part o.sc.layout) (map stmt ks) in
      let qs = map (part o.sc.layout) (map stmt os) in
      let start = p + n + 1 in
      let second = start + block_size ps + 1 in
      let end = second + block_size qs in
      let size = block_size_is o.sc.layout (map stmt ks) in
      let more = block_size_is o.sc.layout (map stmt os) in
      let its_loops = block_loops_is o.sc.layout (map stmt ks) in
      let these = places_in (map placed (map stmt ks)) start in
      let from = start + placed_size (map placed (map stmt ks)) + 1 in
      let those = places_in (map placed (map stmt os)) from in
      let places_from : from ≡ second = omega (arith, size, placed_size_is (map stmt ks)) in
      let at_second : start + b + 1 ≡ second = omega (arith, size) in
      let at_end : second + d ≡ end = omega (arith, more) in
      let those_code = stmts_code o.sc.layout (map stmt os) (c + block_loops ps) second in
      let code = stmts_code o.sc.layout (map stmt ks) c start ++ (instr.Jump end ∷ those_code) in
      let t = tests e second p code above (omega (arith, below)) has is first fit in
      let body = block ks c start (omega (arith, above)) (omega (arith, below))
      (has-first o.code.instrs start (stmts_code o.sc.layout (map stmt ks) c start) (instr.Jump end ∷ those_code) t.has) t.next sound fits
      (omega (arith, few)) (pairs_first Led (advances_in (map stmt ks)) these (advances_in (map stmt os)) those (places_count (map stmt ks) start) led) in
      let over_there = stmts_behind o.code.instrs o.sc.layout (map stmt ks) c start (instr.Jump end ∷ those_code) t.has in
      let next : o.height second ≡ 0 = ap o.height (sym at_second) ∙ jump_next (start + b) end over_there.0 body.end in
      let others = block os (c + block_loops ps) second (omega (arith, above)) (omega (arith, below, size))
      (subst (λ q. Has o q those_code) at_second over_there.1) next also others_fit (omega (arith, few, its_loops))
      (subst (λ q. Pairs Led (advances_in (map stmt os)) (places_in (map placed (map stmt os)) q)) places_from
      (pairs_second Led (advances_in (map stmt ks)) these (advances_in (map stmt os)) those (places_count (map stmt ks) start) led)) in
      let mark = jump_zero (p + n) second t.at (omega (arith, above)) (omega (arith, below)) (omega (arith, above)) (omega (arith, below, size)) t.end t.room t.next
      next in
      let skip = jump (start + b) end over_there.0 (omega (arith, above)) (omega (arith, below)) (omega (arith, above)) (omega (arith, below, size, more))
      body.end (ap o.height (sym at_end) ∙ others.end) in
      let front = over_on o p (start + b) (over_then o p start (start + b) (over_on o p (p + n) t.over mark) body.over) skip in
      does_to p (second + d) (p + (n + 1 + (b + (d + 1)))) (these ++ those) (omega (arith, size))
      (record {
        over = over_then o p second (second + d) (subst (Over o p) at_second front) others.over;
        end = others.end;
        starts = each-append Start these those body.starts
            (subst (λ q. Each Start (places_in (map placed (map stmt os)) q)) (sym places_from) others.starts);
      })

  -- ---- loops

  timed_does : (e : Expr) (ks : List Held) (c p : ℕ) → o.low ≤ p → p + (expr_size e + 2 + stmts_size (map stmt ks)) ≤ o.high
      → Has o p (timed_code o.sc.layout e (map (part o.sc.layout) (map stmt ks)) c p) → o.height p ≡ 0 → IsSoundExpr o.sc e
      → Each (IsSoundStmt o.sc) (map stmt ks) → Fit o 0 (expr_depth o.depths e) → Fit o 0 (stmts_depth o.depths (map stmt ks))
      → c + loops_in (map stmt ks) ≤ o.count → Pairs Led (advances_in (map stmt ks)) (places_in (map placed (map stmt ks)) (p + expr_size e + 1))
      → Does p (p + (expr_size e + 2 + stmts_size (map stmt ks))) (places_in (map placed (map stmt ks)) (p + expr_size e + 1))
  timed_does e ks c p above below has is first sound fit fits few led =
      let n = expr_size e in
      let b = stmts_size (map stmt ks) in
      let start = p + n + 1 in
      let end = start + block_size (map (part o.sc.layout) (map stmt ks)) + 1 in
      let size = block_size_is o.sc.layout (map stmt ks) in
      let at_end : start + b + 1 ≡ end = omega (arith, size) in
      let code = stmts_code o.sc.layout (map stmt ks) c start ++ instr.Jump p ∷ [] in
      let t = tests e end p code above (omega (arith, below)) has is first fit in
      let body = block ks c start (omega (arith, above)) (omega (arith, below))
      (has-first o.code.instrs start (stmts_code o.sc.layout (map stmt ks) c start) (instr.Jump p ∷ []) t.has) t.next sound fits few led in
      let back = (stmts_behind o.code.instrs o.sc.layout (map stmt ks) c start (instr.Jump p ∷ []) t.has).0 in
      let next = jump_next (start + b) p back body.end in
      let mark = jump_zero (p + n) end t.at (omega (arith, above)) (omega (arith, below)) (omega (arith, above)) (omega (arith, below, size)) t.end t.room t.next
      (ap o.height (sym at_end) ∙ next) in
      let again = jump (start + b) p back (omega (arith, above)) (omega (arith, below)) above (omega (arith, below)) body.end is in
      does_to p (start + b + 1) (p + (n + 2 + b)) (places_in (map placed (map stmt ks)) start) (omega arith)
      (record {
        over = over_on o p (start + b) (over_then o p start (start + b) (over_on o p (p + n) t.over mark) body.over) again;
        end = next;
        starts = body.starts;
      })

  bounded_does : (e : Expr) (turns : ℕ) (ks : List Held) (c p : ℕ) → o.low ≤ p → p + (expr_size e + 4 + stmts_size (map stmt ks)) ≤ o.high
      → Has o p (bounded_code o.sc.layout e turns (map (part o.sc.layout) (map stmt ks)) c p) → o.height p ≡ 0 → IsSoundExpr o.sc e
      → Each (IsSoundStmt o.sc) (map stmt ks) → Fit o 0 (expr_depth o.depths e) → Fit o 0 (stmts_depth o.depths (map stmt ks))
      → c + (loops_in (map stmt ks) + 1) ≤ o.count
      → Pairs Led (advances_in (map stmt ks)) (places_in (map placed (map stmt ks)) (p + 1 + expr_size e + 2))
      → Does p (p + (expr_size e + 4 + stmts_size (map stmt ks))) (places_in (map placed (map stmt ks)) (p + 1 + expr_size e + 2))
  bounded_does e turns ks c p above below has is first sound fit fits few led =
      let n = expr_size e in
      let b = stmts_size (map stmt ks) in
      let again = p + 1 in
      let guard = again + n in
      let out = guard + 1 in
      let start = again + n + 2 in
      let end = start + block_size (map (part o.sc.layout) (map stmt ks)) + 1 in
      let size = block_size_is o.sc.layout (map stmt ks) in
      let at_end : start + b + 1 ≡ end = omega (arith, size) in
      let place : out + 1 ≡ start = omega arith in
      let code = stmts_code o.sc.layout (map stmt ks) (c + 1) start ++ instr.Jump again ∷ [] in
      let rest = instr.Guard c turns ∷ (instr.JumpZero end ∷ code) in
      let clear = calm o (instr.Zero c) p 0 0 0 (tt {0}) has.0 above (omega (arith, below)) is refl (omega arith, tt {0}) (omega arith)
      (omega (arith, few, o.counters)) in
      let test = expr_gives o e again 0 (omega (arith, above)) (omega (arith, below))
      (has-first o.code.instrs again (expr_code o.sc.layout e again) rest has.1) clear.1 first fit in
      let there = expr_behind o.code.instrs o.sc.layout e again rest has.1 in
      let held = calm o (instr.Guard c turns) guard 1 1 1 (tt {0}) there.0 (omega (arith, above)) (omega (arith, below)) test.end refl
      (omega arith, tt {0}) test.room (omega (arith, few, o.counters)) in
      let i = instr.JumpZero end in
      let next : o.height (out + 1) ≡ 0 = height_then o i out 1 (record { to = out + 1; pops = 1; pushes = 0 } ∷ onto end 1 0) there.1.0 held.1 refl in
      let inner = subst (λ q. Has o q code) place there.1.1 in
      let body = block ks (c + 1) start (omega (arith, above)) (omega (arith, below))
      (has-first o.code.instrs start (stmts_code o.sc.layout (map stmt ks) (c + 1) start) (instr.Jump again ∷ []) inner)
      (ap o.height (sym place) ∙ next) sound fits (omega (arith, few)) led in
      let back = (stmts_behind o.code.instrs o.sc.layout (map stmt ks) (c + 1) start (instr.Jump again ∷ []) inner).0 in
      let behind = jump_next (start + b) again back body.end in
      let mark = jump_zero out end there.1.0 (omega (arith, above)) (omega (arith, below)) (omega (arith, above)) (omega (arith, below, size)) held.1 test.room next
      (ap o.height (sym at_end) ∙ behind) in
      let round = jump (start + b) again back (omega (arith, above)) (omega (arith, below)) (omega (arith, above)) (omega (arith, below)) body.end clear.1 in
      let front = over_then o p again guard (over_one o p clear.0) test.over in
      let tested = subst (Over o p) place (over_on o p out (over_on o p guard front held.0) mark) in
      does_to p (start + b + 1) (p + (n + 4 + b)) (places_in (map placed (map stmt ks)) start) (omega arith)
      (record {
        over = over_on o p (start + b) (over_then o p start (start + b) tested body.over) round;
        end = behind;
        starts = body.starts;
      })

  -- ---- each kind

  advance : (point p : ℕ) → At o p (instr.Advance point) → o.low ≤ p → p + 1 ≤ o.high → o.height p ≡ 0 → point < o.sc.points → Led point (p + 1)
      → Does p (p + 1) ((p + 1) ∷ [])
  advance point p at above below is less led =
      let l = led less p refl in
      let next : o.height (p + 1) ≡ 0 = height_then o (instr.Advance point) p 0 [] at is refl in
      let mark = one o (instr.Advance point) p 0 at above (omega (arith, below)) is (record {
        finds = refl;
        goes = tt {0};
        held = omega arith;
        called = tt {0};
        framed = tt {0};
        asks = (tt {0}, l.1);
        led = l.0;
      }) in
      record { over = over_one o p mark; end = next; starts = ((omega (arith, above), below, next), tt {0}) }

  stmt_step : (y : Stmt-F Held) (c p : ℕ) → let x = map-Stmt Held Stmt stmt y in o.low ≤ p → p + stmt_size_step (map-Stmt Stmt ℕ stmt_size x) ≤ o.high
      → Has o p (stmt_code_step o.sc.layout (map-Stmt Stmt Part (part o.sc.layout) x) c p) → o.height p ≡ 0
      → sound_stmt_step o.sc Stmt (λ z. z) (IsSoundStmt o.sc) x → Fit o 0 (stmt_depth_step o.depths (map-Stmt Stmt Depth (stmt_depth o.depths) x))
      → c + loops_step (map-Stmt Stmt ℕ loops x) ≤ o.count
      → Pairs Led (advances_step (map-Stmt Stmt (List ℕ) advances_of x)) (places_step (map-Stmt Stmt Placed placed x) p)
      → Does p (p + stmt_size_step (map-Stmt Stmt ℕ stmt_size x)) (places_step (map-Stmt Stmt Placed placed x) p)
  stmt_step (Stmt-F.Set slot value) c p above below has is sound fit few led =
      let q = p + expr_size value in
      valued value (instr.Store (base_of o.sc.layout slot)) p above below has is sound.1 fit
      (λ at end room. calm o (instr.Store (base_of o.sc.layout slot)) q 1 1 0 (tt {0}) at (omega (arith, above)) (omega (arith, below)) end refl
      (omega arith, tt {0}) room (first_framed o slot sound.0))
  stmt_step (Stmt-F.SetCopy variable value) c p above below has is sound fit few led =
      let q = p + expr_size value in
      valued value (instr.StoreCopy variable) p above below has is sound.1 fit
      (λ at end room. passes o (instr.StoreCopy variable) q 1 1 0 at (omega (arith, above)) (omega (arith, below)) end refl
      (omega arith, tt {0}) room (tt {0}) (tt {0}) (o.copy variable sound.0).1 (tt {0}))
  stmt_step (Stmt-F.SetCell slot index value) c p above below has is sound fit few led =
      let i = instr.StoreCell (base_of o.sc.layout slot) (cells_in_slot o.sc.layout slot) in
      let a = expr_size index in
      let b = expr_size value in
      let q = p + a in
      let code = expr_code o.sc.layout value q ++ i ∷ [] in
      let first = expr_gives o index p 0 above (omega (arith, below)) (has-first o.code.instrs p (expr_code o.sc.layout index p) code has) is sound.1
      (omega (arith, fit.0), omega (arith, fit.1)) in
      let there = expr_behind o.code.instrs o.sc.layout index p code has in
      let second = expr_gives o value q 1 (omega (arith, above)) (omega (arith, below))
      (has-first o.code.instrs q (expr_code o.sc.layout value q) (i ∷ []) there) first.end sound.2 (omega (arith, fit.0), omega (arith, fit.1)) in
      let at = (expr_behind o.code.instrs o.sc.layout value q (i ∷ []) there).0 in
      let last = calm o i (q + b) 2 2 0 (tt {0}) at (omega (arith, above)) (omega (arith, below)) second.end refl (omega arith, tt {0}) second.room
      (cells_framed o slot sound.0) in
      does_to p (q + b + 1) (p + (a + (b + 1))) [] (omega arith)
      (record { over = over_on o p (q + b) (over_then o p q (q + b) first.over second.over) last.0; end = last.1; starts = tt {0} })
  stmt_step (Stmt-F.If test branch None) c p above below has is sound fit few led =
      if_does test branch c p above below has is sound.0 sound.1 (omega (arith, fit.0), omega (arith, fit.1)) (omega (arith, fit.0), omega (arith, fit.1))
      (omega (arith, few)) led
  stmt_step (Stmt-F.If test branch (Some other)) c p above below has is sound fit few led =
      if_else_does test branch other c p above below has is sound.0 sound.1 sound.2 (omega (arith, fit.0), omega (arith, fit.1))
      (omega (arith, fit.0), omega (arith, fit.1)) (omega (arith, fit.0), omega (arith, fit.1)) few led
  stmt_step (Stmt-F.Bounded test turns body) c p above below has is sound fit few led =
      bounded_does test turns body c p above below has is sound.0 sound.2 (omega (arith, fit.0), omega (arith, fit.1))
      (omega (arith, fit.0), omega (arith, fit.1)) few led
  stmt_step (Stmt-F.Timed test body) c p above below has is sound fit few led =
      timed_does test body c p above below has is sound.0 sound.2 (omega (arith, fit.0), omega (arith, fit.1)) (omega (arith, fit.0), omega (arith, fit.1))
      few led
  stmt_step (Stmt-F.Send value stream after clock) c p above below has is sound fit few led =
      let q = p + expr_size value in
      valued value (instr.Send stream after clock) p above below has is sound.1 fit
      (λ at end room. passes o (instr.Send stream after clock) q 1 1 0 at (omega (arith, above)) (omega (arith, below)) end refl
      (omega arith, tt {0}) room (tt {0}) (tt {0}) (o.send stream after clock sound.0) (tt {0}))
  stmt_step (Stmt-F.Advance point) c p above below has is sound fit few led = advance point p has.0 above below is sound led.0
  stmt_step (Stmt-F.Return value) c p above below has is sound fit few led =
      let q = p + expr_size value in
      valued value instr.Return p above below has is sound.1 fit
      (λ at end room. (
        calm_one o instr.Return q 1 (tt {0}) at (omega (arith, above)) (omega (arith, below)) end refl (tt {0}) room (tt {0}),
        height_then o instr.Return q 1 [] at end refl,
      ))

  stmt_layer : (y : Stmt-F Held) → W (roll-Stmt (map-Stmt Held Stmt stmt y))
  stmt_layer y c p above below has is sound fit few led =
      let x : Stmt-F Stmt = map-Stmt Held Stmt stmt y in
      let places : places_of (roll-Stmt x) p ≡ places_step (map-Stmt Stmt Placed placed x) p =
      ap (λ (f : Places). f p) (para-roll-Stmt Places places_step x) in
      let advances = fold-roll-Stmt (List ℕ) advances_step x in
      let done = stmt_step y c p above (omega (arith, below, stmt_size_roll x)) (subst (Has o p) (stmt_roll o.sc.layout x c p) has) is
      (subst (λ (t : Type 0). t) (rec-roll-Stmt (Type 0) (sound_stmt_step o.sc) (stmts_natural o.sc) x) sound)
      (subst (Fit o 0) (fold-roll-Stmt Depth (stmt_depth_step o.depths) x) fit) (omega (arith, few, fold-roll-Stmt ℕ loops_step x))
      (subst (Pairs Led (advances_step (map-Stmt Stmt (List ℕ) advances_of x))) places (subst (λ l. Pairs Led l (places_of (roll-Stmt x) p)) advances led)) in
      does_to p (p + stmt_size_step (map-Stmt Stmt ℕ stmt_size x)) (p + stmt_size (roll-Stmt x)) (places_of (roll-Stmt x) p)
      (omega (arith, stmt_size_roll x)) (subst (Does p (p + stmt_size_step (map-Stmt Stmt ℕ stmt_size x))) (sym places) done)

  stmt_does : (s : Stmt) → W s
  stmt_does = ind-Stmt W (λ x y is. subst (λ z. W (roll-Stmt z)) is (stmt_layer y))

  abbrev held_of : Stmt → Held
  held_of s = (s, stmt_does s)

  trees : (stmts : List Stmt) → map stmt (map held_of stmts) ≡ stmts
  trees [] = refl
  trees (x ∷ xs) = ap (λ l. x ∷ l) (trees xs)

  -- The code of a body
  pub body_does : (stmts : List Stmt) (p : ℕ) → o.low ≤ p → p + stmts_size stmts ≤ o.high → Has o p (stmts_code o.sc.layout stmts 0 p)
      → o.height p ≡ 0 → Each (IsSoundStmt o.sc) stmts → Fit o 0 (stmts_depth o.depths stmts) → 0 + loops_in stmts ≤ o.count
      → Pairs Led (advances_in stmts) (places_in (map placed stmts) p) → Does p (p + stmts_size stmts) (places_in (map placed stmts) p)
  body_does stmts p =
      subst (λ ss. o.low ≤ p → p + stmts_size ss ≤ o.high → Has o p (stmts_code o.sc.layout ss 0 p) → o.height p ≡ 0 → Each (IsSoundStmt o.sc) ss
      → Fit o 0 (stmts_depth o.depths ss) → 0 + loops_in ss ≤ o.count → Pairs Led (advances_in ss) (places_in (map placed ss) p)
      → Does p (p + stmts_size ss) (places_in (map placed ss) p)) (trees stmts) (block (map held_of stmts) 0 p)

  -- ---- ends of code

  -- A body with the jump back
  pub looped : (p q : ℕ) (places : List ℕ) → At o q (instr.Jump p) → o.low ≤ p → p ≤ q → q ≤ o.high → o.height p ≡ 0 → Does p q places
      → Does p (q + 1) places
  looped p q places at above after below is body = record {
    over = over_on o p q body.over (jump q p at (omega (arith, above, after)) below above (omega (arith, after, below)) body.end is);
    end = jump_next q p at body.end;
    starts = body.starts;
  }

  -- A body with `return 0;` at its end
  pub returned : (p q : ℕ) (places : List ℕ) → Has o q (instr.Push (pos 0) ∷ (instr.Return ∷ [])) → o.low ≤ p → p ≤ q → q + 1 ≤ o.high → 1 ≤ most o
      → Does p q places → Does p (q + 2) places
  returned p q places has above after below room body =
      let last = q + 1 in
      let pushed = calm o (instr.Push (pos 0)) q 0 0 1 (tt {0}) has.0 (omega (arith, above, after)) below body.end refl (omega arith, tt {0}) (omega arith)
      (tt {0}) in
      let mark = calm_one o instr.Return last 1 (tt {0}) has.1.0 (omega (arith, above, after)) below pushed.1 refl (tt {0}) room (tt {0}) in
      does_to p (last + 1) (q + 2) places (omega arith)
      (record {
        over = over_on o p last (over_on o p q body.over pushed.0) mark;
        end = height_then o instr.Return last 1 [] has.1.0 pushed.1 refl;
        starts = body.starts;
      })
