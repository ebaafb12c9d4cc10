-- The code behind an `advance` acts as the rest of the body.
use Rattle.std.proofs.Common.{◌≡◌, refl, sym, ap, subst, ◌∙◌, arith}
use Rattle.std.specs.Prelude.{ℕ, zero, suc, ◌+◌, ◌<◌, ◌≤◌, max, false, List, [], ◌∷◌, ◌++◌, map, length, slice_get, slice_index_or, Some, None, ⊤}
use Rattle.std.proofs.lemmas.List.{append-nil, map-append, map-id}
use Rattle.psy_meaning.proofs.lemmas.RestPieces.{stmts_are}
use Rattle.psy_tree.specs.declared.unit.Expr.{Expr}
use Rattle.psy_tree.specs.declared.unit.Stmt.{Stmt, roll-Stmt, fold-roll-Stmt, para-roll-Stmt, rec-roll-Stmt, map-Stmt, ind-Stmt}
use Rattle.psy_tree.specs.declared.unit.Stmt.TheOpen.{Stmt-F}
use Rattle.psy_code.specs.declared.code.Code.{Code}
use Rattle.psy_code.specs.declared.code.AgentCode.{AgentCode}
use Rattle.psy_code.specs.declared.instr.Instr.{Instr}
use Rattle.psy_code.specs.declared.instr.Instr.TheVariants as instr
use Rattle.psy_tree.specs.Paths.{total}
use Rattle.psy_meaning.specs.Sizes.{expr_size, stmt_size, stmts_size, stmt_size_step}
use Rattle.psy_meaning.specs.Depths.{Depth, shallow, deeper, stmt_depth, stmts_depth, stmt_depth_step, loops, loops_in, loops_step}
use Rattle.psy_meaning.specs.Sound.{Scope, IsSoundStmt, AreSound, sound_stmt_step}
use Rattle.psy_meaning.specs.States.{State, Outcome, Falls, Returns, Halts, Act, Callee, then_do}
use Rattle.psy_meaning.specs.Statements.{all_of, hop, act_by, acts_by, Piece, Do, Hop, piece_by}
use Rattle.psy_meaning.specs.Rest.{Rests, each_then, pieces_of, stmts_in, rests_in, rests_step, rests_of, with_rests}
use Rattle.psy_meaning.specs.Rest as rest
use Rattle.psy_meaning.specs.Paths.{holds_advance}
use Rattle.psy_meaning.proofs.lemmas.SoundParts.{stmts_natural}
use Rattle.psy_gen.specs.Emission.{Coded, Places, Placed, expr_code, block_size, block_loops, placed_size, stmt_code_step, stmt_code, stmts_code, places_in, places_step, places_of}
use Rattle.psy_gen.specs.Emission as emission
use Rattle.psy_gen.proofs.Equations.{part, placed, block_size_is, block_loops_is, placed_size_is}
use Rattle.psy_gen.proofs.Contexts.{Home, Room, at, HasAt, has-first, has-second, Shape}
use Rattle.psy_gen.proofs.Leads.{here}
use Rattle.psy_gen.proofs.NoRests.{all_none}
use Rattle.psy_gen.proofs.StmtRuns.{ExprKnown, AtHome, AtWork, AllPoints, stmt_runs, all_runs, all_sized, hop_after}
use Rattle.psy_gen.proofs.Outcomes.{keeps_same, After, after_keeps, then_after}

-- ---- lists of pieces

after_first : (xs bs : List Act) (o : Outcome) → ((t : State) → all_of (xs ++ bs) t ≡ then_do (all_of xs t) (all_of bs)) → then_do o (all_of (xs ++ bs)) ≡ then_do (then_do o (all_of xs)) (all_of bs)
after_first xs bs (Falls t) h = h t
after_first xs bs (Returns v t) h = refl
after_first xs bs (Halts final) h = refl

all_of-append : (xs bs : List Act) (s : State) → all_of (xs ++ bs) s ≡ then_do (all_of xs s) (all_of bs)
all_of-append [] bs s = refl
all_of-append (a ∷ xs) bs s = after_first xs bs (a s) (all_of-append xs bs)

pieces_are : (callees : ℕ → Callee) (stmts : List Stmt) → map (piece_by callees) (pieces_of stmts) ≡ map (act_by callees) stmts
pieces_are callees [] = refl
pieces_are callees (x ∷ xs) = ap (λ l. act_by callees x ∷ l) (pieces_are callees xs)

deeper_shallow : (d : Depth) → deeper d shallow ≡ d
deeper_shallow d = let a : max d.operands 0 ≡ d.operands = omega arith in let b : max d.cells 0 ≡ d.cells = omega arith in ap (λ x. record { operands = x; cells = max d.cells 0 }) a ∙ ap (λ x. record { operands = d.operands; cells = x }) b

module _ (whole : Code) (its : AgentCode) (sc : Scope) (callees : ℕ → Callee) (depths : List Depth) (more count : ℕ) (deepest_of : Depth)
    (exprs : (e : Expr) → ExprKnown whole its sc Home callees depths more count e) (home : AtHome whole its sc Home callees depths more count) (work : AtWork whole its sc Home callees depths more count)
    (points : AllPoints whole its sc Home callees depths more count) (room : Room its Home (total sc.layout + count) deepest_of.operands deepest_of.cells more) where
  -- No deeper than the agent's machine may be
  abbrev pub Fits : Depth → Type 0
  Fits d = (d.operands ≤ deepest_of.operands) × (d.cells ≤ deepest_of.cells)

  abbrev pub act_of : List Piece → Act
  act_of pieces = all_of (map (piece_by callees) pieces)

  -- From one place to another the code does what the pieces do.
  abbrev pub PiecesRun : List Piece → ℕ → ℕ → Type 0
  PiecesRun pieces q end = (counters : List ℕ) (s : State) → length counters ≡ count → Shape sc s → After whole its sc Home end 0 [] counters (at Home q [] s counters) (act_of pieces s)

  abbrev pub EachRuns : Rests → List ℕ → ℕ → Type 0
  EachRuns [] [] end = ⊤
  EachRuns (r ∷ rs) (q ∷ qs) end = PiecesRun r q end × EachRuns rs qs end
  EachRuns _ _ end = ⊥

  each-append : (rs ss : Rests) (qs ps : List ℕ) (end : ℕ) → EachRuns rs qs end → EachRuns ss ps end → EachRuns (rs ++ ss) (qs ++ ps) end
  each-append [] ss [] ps end g h = h
  each-append [] ss (q ∷ qs) ps end g h = elim g [ ]
  each-append (r ∷ rs) ss [] ps end g h = elim g [ ]
  each-append (r ∷ rs) ss (q ∷ qs) ps end g h = (g.0, each-append rs ss qs ps end g.1 h)

  pieces_then : (r pieces : List Piece) (q mid end : ℕ) → PiecesRun r q mid → PiecesRun pieces mid end → PiecesRun (r ++ pieces) q end
  pieces_then r pieces q mid end g h counters s len shape =
      subst (After whole its sc Home end 0 [] counters (at Home q [] s counters)) (sym (ap (λ l. all_of l s) (map-append (piece_by callees) r pieces) ∙ all_of-append (map (piece_by callees) r) (map (piece_by callees) pieces) s))
      (then_after whole its sc Home mid end 0 0 [] counters (at Home q [] s counters) (act_of r s) (act_of pieces) (omega arith) (g counters s len shape) (λ t now keeps sh. h now t (keeps.count ∙ len) sh))

  each_on : (rs : Rests) (pieces : List Piece) (qs : List ℕ) (mid end : ℕ) → EachRuns rs qs mid → PiecesRun pieces mid end → EachRuns (each_then rs pieces) qs end
  each_on [] pieces [] mid end g h = g
  each_on [] pieces (q ∷ qs) mid end g h = elim g [ ]
  each_on (r ∷ rs) pieces [] mid end g h = elim g [ ]
  each_on (r ∷ rs) pieces (q ∷ qs) mid end g h = (pieces_then r pieces q mid end g.0 h, each_on rs pieces qs mid end g.1 h)

  each_at : (rs : Rests) (qs : List ℕ) (p q : ℕ) → p ≡ q → EachRuns rs qs p → EachRuns rs qs q
  each_at rs qs p q e g = subst (EachRuns rs qs) e g

  -- a jump
  hop_runs : (p to : ℕ) → slice_get whole.instrs p ≡ Some (instr.Jump to) → to < length whole.instrs → PiecesRun (Hop ∷ []) p to
  hop_runs p to has small counters s len shape =
      then_after whole its sc Home to to 0 0 [] counters (at Home p [] s counters) (hop s) (λ t. Falls t) (omega arith)
      (hop_after whole its sc Home callees depths more count p to 0 [] counters s has small shape len (record { stack = omega arith; frames = omega (arith, room.frames); calls = room.calls }))
      (λ t now keeps sh. falls_now to now t sh)
    where
      falls_now : (to : ℕ) (now : List ℕ) (t : State) → Shape sc t → After whole its sc Home to 0 [] now (at Home to [] t now) (Falls t)
      falls_now to now t sh = (now, keeps_same 0 now, sh, here whole its (at Home to [] t now))

  -- statements one after the other
  stmts_run : (stmts : List Stmt) (c p : ℕ) → AreSound sc stmts → HasAt whole.instrs p (stmts_code sc.layout stmts c p) → p + stmts_size stmts < length whole.instrs → c + loops_in stmts ≤ count → Fits (stmts_depth depths stmts) → PiecesRun (pieces_of stmts) p (p + stmts_size stmts)
  stmts_run stmts c p sound h small enough fits counters s len shape =
      subst (λ l. After whole its sc Home (p + stmts_size stmts) 0 [] counters (at Home p [] s counters) (all_of l s)) (sym (pieces_are callees stmts))
      (after_keeps whole its sc Home (p + stmts_size stmts) 0 c [] counters counters (at Home p [] s counters) (acts_by callees stmts s) (omega arith) (keeps_same 0 counters)
      (all_runs whole its sc Home callees depths more count exprs home work points stmts sound c p [] counters s h small enough len shape
      (record { stack = omega (arith, room.stack, fits.0); frames = omega (arith, room.frames, fits.1); calls = room.calls })))

  abbrev RS : Stmt → Type 0
  RS stmt = (c p : ℕ) → HasAt whole.instrs p (stmt_code sc.layout stmt c p) → p + stmt_size stmt < length whole.instrs → c + loops stmt ≤ count → IsSoundStmt sc stmt → Fits (stmt_depth depths stmt) → EachRuns (rests_of stmt) (places_of stmt p) (p + stmt_size stmt)

  abbrev Known : Type 0
  Known = (stmt : Stmt) × RS stmt

  abbrev tree : Known → Stmt
  tree x = x.0

  sized : (stmt : Stmt) (c p : ℕ) → length (stmt_code sc.layout stmt c p) ≡ stmt_size stmt
  sized stmt c p = (stmt_runs whole its sc Home callees depths more count exprs home work points stmt).0 c p

  -- the rests of a list, behind each `advance`
  list_rests : (ks : List Known) (c p : ℕ) → HasAt whole.instrs p (stmts_code sc.layout (map tree ks) c p) → p + stmts_size (map tree ks) < length whole.instrs → c + loops_in (map tree ks) ≤ count → AreSound sc (map tree ks) → Fits (stmts_depth depths (map tree ks))
      → EachRuns (rests_in (map with_rests (map tree ks))) (places_in (map placed (map tree ks)) p) (p + stmts_size (map tree ks))
  list_rests [] c p h small enough sound fits = tt {0}
  list_rests (x ∷ xs) c p h small enough sound fits =
      let n = stmt_size x.0 in
      let l = loops x.0 in
      let others = map tree xs in
      let place : p + n + stmts_size others ≡ p + stmts_size (map tree (x ∷ xs)) = omega arith in
      let behind = subst (λ y. HasAt whole.instrs (p + y) (stmts_code sc.layout others (c + l) (p + n))) (sized x.0 c p) (has-second whole.instrs p (stmt_code sc.layout x.0 c p) (stmts_code sc.layout others (c + l) (p + n)) h) in
      each_at _ _ (p + n + stmts_size others) (p + stmts_size (map tree (x ∷ xs))) place
      (each-append (each_then (rests_of x.0) (pieces_of (stmts_in (map with_rests others)))) (rests_in (map with_rests others)) (places_of x.0 p) (places_in (map placed others) (p + n)) (p + n + stmts_size others)
      (each_on (rests_of x.0) (pieces_of (stmts_in (map with_rests others))) (places_of x.0 p) (p + n) (p + n + stmts_size others)
      (x.1 c p (has-first whole.instrs p (stmt_code sc.layout x.0 c p) (stmts_code sc.layout others (c + l) (p + n)) h) (omega (arith, small)) (omega (arith, enough)) sound.0 (omega (arith, fits.0), omega (arith, fits.1)))
      (subst (λ ss. PiecesRun (pieces_of ss) (p + n) (p + n + stmts_size others)) (sym (stmts_are others)) (stmts_run others (c + l) (p + n) sound.1 behind (omega (arith, small)) (omega (arith, enough)) (omega (arith, fits.0), omega (arith, fits.1)))))
      (list_rests xs (c + l) (p + n) behind (omega (arith, small)) (omega (arith, enough)) sound.1 (omega (arith, fits.0), omega (arith, fits.1))))

  list_sized : (stmts : List Stmt) (c p : ℕ) → length (stmts_code sc.layout stmts c p) ≡ stmts_size stmts
  list_sized stmts c p = all_sized whole its sc Home callees depths more count exprs home work points stmts c p

  test_sized : (e : Expr) (p : ℕ) → length (expr_code sc.layout e p) ≡ expr_size e
  test_sized e p = (exprs e).0 p

  abbrev code_step : Stmt-F Stmt → Coded
  code_step x = stmt_code_step sc.layout (map-Stmt Stmt emission.Part (part sc.layout) x)

  abbrev size_step : Stmt-F Stmt → ℕ
  size_step x = stmt_size_step (map-Stmt Stmt ℕ stmt_size x)

  abbrev depth_step : Stmt-F Stmt → Depth
  depth_step x = stmt_depth_step depths (map-Stmt Stmt Depth (stmt_depth depths) x)

  abbrev Layer : Stmt-F Stmt → Type 0
  Layer x = (c p : ℕ) → HasAt whole.instrs p (code_step x c p) → p + size_step x < length whole.instrs → c + loops_step (map-Stmt Stmt ℕ loops x) ≤ count → sound_stmt_step sc Stmt (λ y. y) (IsSoundStmt sc) x → Fits (depth_step x)
      → PiecesRun (Do (roll-Stmt x) ∷ []) p (p + size_step x) → EachRuns (rests_step (map-Stmt Stmt rest.Part with_rests x)) (places_step (map-Stmt Stmt Placed placed x) p) (p + size_step x)

  -- what stands behind a test
  behind_test : (e : Expr) (i : Instr) (p : ℕ) (code : List Instr) → HasAt whole.instrs p (expr_code sc.layout e p ++ (i ∷ code)) → HasAt whole.instrs (p + expr_size e + 1) code
  behind_test e i p code h = (subst (λ y. HasAt whole.instrs (p + y) (i ∷ code)) (test_sized e p) (has-second whole.instrs p (expr_code sc.layout e p) (i ∷ code) h)).1

  if_layer : (test : Expr) (ks : List Known) → Layer (Stmt-F.If test (map tree ks) None)
  if_layer test ks c p h small enough sound fits self =
      let first = p + expr_size test + 1 in
      let place : first + stmts_size (map tree ks) ≡ p + (expr_size test + 1 + (stmts_size (map tree ks) + 0)) = omega arith in
      each_at _ _ (first + stmts_size (map tree ks)) (p + (expr_size test + 1 + (stmts_size (map tree ks) + 0))) place
      (list_rests ks c first (behind_test test _ p (stmts_code sc.layout (map tree ks) c first) h) (omega (arith, small)) (omega (arith, enough)) sound.1 (omega (arith, fits.0), omega (arith, fits.1)))

  if_else_layer : (test : Expr) (ks os : List Known) → Layer (Stmt-F.If test (map tree ks) (Some (map tree os)))
  if_else_layer test ks os c p h small enough sound fits self =
      let b = stmts_size (map tree ks) in
      let o = stmts_size (map tree os) in
      let l = block_loops (map (part sc.layout) (map tree ks)) in
      let first = p + expr_size test + 1 in
      let second = first + block_size (map (part sc.layout) (map tree ks)) + 1 in
      let end = second + block_size (map (part sc.layout) (map tree os)) in
      let jump = instr.Jump end ∷ stmts_code sc.layout (map tree os) (c + l) second in
      let code = stmts_code sc.layout (map tree ks) c first ++ jump in
      let there = behind_test test _ p code h in
      let has_jump = subst (λ y. HasAt whole.instrs (first + y) jump) (list_sized (map tree ks) c first) (has-second whole.instrs first (stmts_code sc.layout (map tree ks) c first) jump there) in
      let bs = block_size_is sc.layout (map tree ks) in
      let os' = block_size_is sc.layout (map tree os) in
      let ls = block_loops_is sc.layout (map tree ks) in
      let from_second : second ≡ first + b + 1 = omega (arith, bs) in
      let ends : end ≡ p + (expr_size test + 1 + (b + (o + 1))) = omega (arith, bs, os') in
      let places_from : second ≡ first + placed_size (map placed (map tree ks)) + 1 = omega (arith, bs, placed_size_is (map tree ks)) in
      let others_end : second + o ≡ end = omega (arith, os') in
      each_at _ _ end (p + (expr_size test + 1 + (b + (o + 1)))) ends
      (each-append (each_then (rests_in (map with_rests (map tree ks))) (Hop ∷ [])) (rests_in (map with_rests (map tree os))) (places_in (map placed (map tree ks)) first) (places_in (map placed (map tree os)) (first + placed_size (map placed (map tree ks)) + 1)) end
      (each_on (rests_in (map with_rests (map tree ks))) (Hop ∷ []) (places_in (map placed (map tree ks)) first) (first + b) end
      (list_rests ks c first (has-first whole.instrs first (stmts_code sc.layout (map tree ks) c first) jump there) (omega (arith, small)) (omega (arith, enough)) sound.1 (omega (arith, fits.0), omega (arith, fits.1)))
      (hop_runs (first + b) end has_jump.0 (omega (arith, small, ends))))
      (subst (λ y. EachRuns (rests_in (map with_rests (map tree os))) (places_in (map placed (map tree os)) y) end) places_from
      (each_at _ _ (second + o) end others_end
      (list_rests os (c + l) second (subst (λ y. HasAt whole.instrs y (stmts_code sc.layout (map tree os) (c + l) second)) (sym from_second) has_jump.1) (omega (arith, small, from_second)) (omega (arith, enough, ls)) sound.2 (omega (arith, fits.0), omega (arith, fits.1))))))

  timed_layer : (test : Expr) (ks : List Known) → Layer (Stmt-F.Timed test (map tree ks))
  timed_layer test ks c p h small enough sound fits self =
      let b = stmts_size (map tree ks) in
      let first = p + expr_size test + 1 in
      let size = expr_size test + 2 + b in
      let code = stmts_code sc.layout (map tree ks) c first ++ instr.Jump p ∷ [] in
      let there = behind_test test _ p code h in
      let has_jump = subst (λ y. HasAt whole.instrs (first + y) (instr.Jump p ∷ [])) (list_sized (map tree ks) c first) (has-second whole.instrs first (stmts_code sc.layout (map tree ks) c first) (instr.Jump p ∷ []) there) in
      let again = pieces_then (Hop ∷ []) (Do (roll-Stmt (Stmt-F.Timed test (map tree ks))) ∷ []) (first + b) p (p + size) (hop_runs (first + b) p has_jump.0 (omega (arith, small))) self in
      each_on (rests_in (map with_rests (map tree ks))) (Hop ∷ Do (roll-Stmt (Stmt-F.Timed test (stmts_in (map with_rests (map tree ks))))) ∷ []) (places_in (map placed (map tree ks)) first) (first + b) (p + size)
      (list_rests ks c first (has-first whole.instrs first (stmts_code sc.layout (map tree ks) c first) (instr.Jump p ∷ []) there) (omega (arith, small)) (omega (arith, enough)) sound.2 (omega (arith, fits.0), omega (arith, fits.1)))
      (subst (λ l. PiecesRun (Hop ∷ Do (roll-Stmt (Stmt-F.Timed test l)) ∷ []) (first + b) (p + size)) (sym (stmts_are (map tree ks))) again)

  bounded_layer : (test : Expr) (most : ℕ) (ks : List Known) → Layer (Stmt-F.Bounded test most (map tree ks))
  bounded_layer test most ks c p h small enough sound fits self =
      let none = all_none (map tree ks) (subst (λ l. holds_advance l ≡ false) (map-id (map tree ks)) sound.3) in
      let first = p + 1 + expr_size test + 2 in
      let end = p + (expr_size test + 4 + stmts_size (map tree ks)) in
      subst (λ r. EachRuns r (places_in (map placed (map tree ks)) first) end) (sym none.0) (subst (λ q. EachRuns [] q end) (sym (none.1 first)) (tt {0}))

  layer_rests : (y : Stmt-F Known) → Layer (map-Stmt Known Stmt tree y)
  layer_rests (Stmt-F.Set slot value) c p h small enough sound fits self = tt {0}
  layer_rests (Stmt-F.SetCopy variable value) c p h small enough sound fits self = tt {0}
  layer_rests (Stmt-F.SetCell slot index value) c p h small enough sound fits self = tt {0}
  layer_rests (Stmt-F.If test branch None) c p h small enough sound fits self = if_layer test branch c p h small enough sound fits self
  layer_rests (Stmt-F.If test branch (Some other)) c p h small enough sound fits self = if_else_layer test branch other c p h small enough sound fits self
  layer_rests (Stmt-F.Bounded test most body) c p h small enough sound fits self = bounded_layer test most body c p h small enough sound fits self
  layer_rests (Stmt-F.Timed test body) c p h small enough sound fits self = timed_layer test body c p h small enough sound fits self
  layer_rests (Stmt-F.Send value stream after clock) c p h small enough sound fits self = tt {0}
  layer_rests (Stmt-F.Advance point) c p h small enough sound fits self = ((λ counters s len shape. (counters, keeps_same 0 counters, shape, here whole its (at Home (p + 1) [] s counters))), tt {0})
  layer_rests (Stmt-F.Return value) c p h small enough sound fits self = tt {0}

  layer : (y : Stmt-F Known) → RS (roll-Stmt (map-Stmt Known Stmt tree y))
  layer y c p h small enough sound fits =
      let x : Stmt-F Stmt = map-Stmt Known Stmt tree y in
      let z : Stmt = roll-Stmt x in
      let coded = ap (λ (f : Coded). f c p) (para-roll-Stmt Coded (stmt_code_step sc.layout) x) in
      let size : stmt_size z ≡ size_step x = fold-roll-Stmt ℕ stmt_size_step x in
      let looped : loops z ≡ loops_step (map-Stmt Stmt ℕ loops x) = fold-roll-Stmt ℕ loops_step x in
      let deep : stmt_depth depths z ≡ depth_step x = fold-roll-Stmt Depth (stmt_depth_step depths) x in
      let alone : stmts_depth depths (z ∷ []) ≡ stmt_depth depths z = deeper_shallow (stmt_depth depths z) in
      let one_size : p + (stmt_size z + 0) ≡ p + size_step x = omega (arith, size) in
      let self = subst (PiecesRun (Do z ∷ []) p) one_size
      (stmts_run (z ∷ []) c p (sound, tt {0}) (subst (HasAt whole.instrs p) (sym (append-nil (stmt_code sc.layout z c p))) h) (omega (arith, small)) (omega (arith, enough)) (subst Fits (sym alone) fits)) in
      let done = layer_rests y c p (subst (HasAt whole.instrs p) coded h) (omega (arith, small, size)) (omega (arith, enough, looped)) (subst (λ (t : Type 0). t) (rec-roll-Stmt (Type 0) (sound_stmt_step sc) (stmts_natural sc) x) sound) (subst Fits deep fits) self in
      subst (λ r. EachRuns r (places_of z p) (p + stmt_size z)) (sym (para-roll-Stmt Rests rests_step x))
      (subst (λ (f : Places). EachRuns (rests_step (map-Stmt Stmt rest.Part with_rests x)) (f p) (p + stmt_size z)) (sym (para-roll-Stmt Places places_step x))
      (subst (λ n. EachRuns (rests_step (map-Stmt Stmt rest.Part with_rests x)) (places_step (map-Stmt Stmt Placed placed x) p) (p + n)) (sym size) done))

  rests_run : (stmt : Stmt) → RS stmt
  rests_run = ind-Stmt RS (λ x y is. subst (λ z. RS (roll-Stmt z)) is (layer y))

  abbrev known_of : Stmt → Known
  known_of stmt = (stmt, rests_run stmt)

  trees : (stmts : List Stmt) → map tree (map known_of stmts) ≡ stmts
  trees [] = refl
  trees (x ∷ xs) = ap (λ l. x ∷ l) (trees xs)

  pub all_rests : (stmts : List Stmt) (c p : ℕ) → HasAt whole.instrs p (stmts_code sc.layout stmts c p) → p + stmts_size stmts < length whole.instrs → c + loops_in stmts ≤ count → AreSound sc stmts → Fits (stmts_depth depths stmts)
      → EachRuns (rests_in (map with_rests stmts)) (places_in (map placed stmts) p) (p + stmts_size stmts)
  all_rests stmts c p =
      subst (λ l. HasAt whole.instrs p (stmts_code sc.layout l c p) → p + stmts_size l < length whole.instrs → c + loops_in l ≤ count → AreSound sc l → Fits (stmts_depth depths l) → EachRuns (rests_in (map with_rests l)) (places_in (map placed l) p) (p + stmts_size l)) (trees stmts)
      (list_rests (map known_of stmts) c p)

  -- the rest of one number
  pick : (rs : Rests) (qs : List ℕ) (end n : ℕ) → EachRuns rs qs end → n < length qs → PiecesRun (slice_index_or rs n []) (slice_index_or qs n 0) end
  pick [] [] end n g h = absurd (omega (arith, h))
  pick [] (q ∷ qs) end n g h = elim g [ ]
  pick (r ∷ rs) [] end n g h = elim g [ ]
  pick (r ∷ rs) (q ∷ qs) end zero g h = g.0
  pick (r ∷ rs) (q ∷ qs) end (suc n) g h = pick rs qs end n g.1 (omega (arith, h))

  -- The body from each of its points: behind its end a jump leads back to its head.
  pub body_runs : (stmts : List Stmt) (p point : ℕ) → HasAt whole.instrs p (stmts_code sc.layout stmts 0 p ++ instr.Jump p ∷ []) → p + stmts_size stmts < length whole.instrs → loops_in stmts ≤ count → AreSound sc stmts → Fits (stmts_depth depths stmts)
      → point < length (p ∷ places_in (map placed stmts) p) → PiecesRun (rest.rest stmts point) (slice_index_or (p ∷ places_in (map placed stmts) p) point 0) (p + stmts_size stmts)
  body_runs stmts p zero h small enough sound fits named = stmts_run stmts 0 p sound (has-first whole.instrs p (stmts_code sc.layout stmts 0 p) (instr.Jump p ∷ []) h) small (omega (arith, enough)) fits
  body_runs stmts p (suc n) h small enough sound fits named =
      let end = p + stmts_size stmts in
      let jump = subst (λ y. HasAt whole.instrs (p + y) (instr.Jump p ∷ [])) (list_sized stmts 0 p) (has-second whole.instrs p (stmts_code sc.layout stmts 0 p) (instr.Jump p ∷ []) h) in
      let code = has-first whole.instrs p (stmts_code sc.layout stmts 0 p) (instr.Jump p ∷ []) h in
      pieces_then (slice_index_or (rests_in (map with_rests stmts)) n []) (Hop ∷ pieces_of stmts) (slice_index_or (places_in (map placed stmts) p) n 0) end end
      (pick (rests_in (map with_rests stmts)) (places_in (map placed stmts) p) end n (all_rests stmts 0 p code small (omega (arith, enough)) sound fits) (omega (arith, named)))
      (pieces_then (Hop ∷ []) (pieces_of stmts) end p end (hop_runs end p jump.0 (omega (arith, small))) (stmts_run stmts 0 p sound code small (omega (arith, enough)) fits))
