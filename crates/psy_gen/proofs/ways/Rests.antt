-- The code behind an `advance` goes as the rest of the body does.
use Rattle.std.proofs.Common.{◌≡◌, ℕ, zero, suc, ◌+◌, ◌<◌, List, [], ◌∷◌, ◌++◌, map, length, Some, None, get_or, refl, sym, ap, subst, arith}
use Rattle.std.specs.Prelude.{slice_get, slice_index_or, false, ⊤}
use Rattle.std.proofs.lemmas.List.{append-nil, map-id}
use Rattle.psy_meaning.proofs.lemmas.RestPieces.{stmts_are}
use Rattle.psy_code.specs.declared.instr.Instr.{Instr}
use Rattle.psy_code.specs.declared.instr.Instr.TheVariants as instr
use Rattle.psy_tree.specs.declared.unit.Expr.{Expr}
use Rattle.psy_tree.specs.declared.unit.Stmt.{Stmt, roll-Stmt, map-Stmt, para-roll-Stmt, rec-roll-Stmt, ind-Stmt}
use Rattle.psy_tree.specs.declared.unit.Stmt.TheOpen.{Stmt-F}
use Rattle.psy_meaning.specs.Depths.{loops}
use Rattle.psy_meaning.specs.Paths.{holds_advance}
use Rattle.psy_meaning.specs.Rest.{Rests, each_then, pieces_of, stmts_in, rests_in, rests_step, rests_of, with_rests}
use Rattle.psy_meaning.specs.Rest as rest
use Rattle.psy_meaning.specs.Sizes.{expr_size, stmt_size, stmts_size, stmt_size_step}
use Rattle.psy_meaning.specs.Sound.{Scope, Each, IsSoundStmt, sound_stmt_step}
use Rattle.psy_meaning.specs.Statements.{Piece, Do, Hop}
use Rattle.psy_meaning.specs.Ways.{Meter, Way, Course, here, one, falling, courses_through, piece_course}
use Rattle.psy_meaning.proofs.lemmas.SoundParts.{stmts_natural}
use Rattle.psy_gen.specs.Emission.{Coded, Layout, Placed, Places, block_size, block_loops, placed_size, expr_code, stmt_code_step, stmt_code, stmts_code}
use Rattle.psy_gen.specs.Emission.{places_in, places_step, places_of}
use Rattle.psy_gen.specs.Emission as emission
use Rattle.psy_gen.specs.Keeping.{keeps_step}
use Rattle.psy_gen.proofs.Contexts.{HasAt, has-first}
use Rattle.psy_gen.proofs.Equations.{part, placed, block_size_is, placed_size_is, stmt_roll, stmt_size_roll}
use Rattle.psy_gen.proofs.NoRests.{all_none}
use Rattle.psy_gen.proofs.ways.Behinds.{expr_behind, stmt_behind, stmts_behind}
use Rattle.psy_gen.proofs.ways.Joins.{same_joined}
use Rattle.psy_gen.proofs.ways.Measures.{Measure}
use Rattle.psy_gen.proofs.ways.Modes.{Mode, Allows}
use Rattle.psy_gen.proofs.ways.Courses.{all_falling, all_on}
use Rattle.psy_gen.proofs.ways.Same.{SameAll, same_here, same_jump}
use Rattle.psy_gen.proofs.ways.Stmts.{as_pieces, same_stmts}
use Rattle.psy_gen.proofs.ways.Suits.{loops_in, sends_in, Suits, suits_in}

module _ (instrs : List Instr) (its : Measure) (layout : Layout) (calls : ℕ → Way) (some : (f : ℕ) (m : Meter) → (n : Meter) × calls f m n)
    (still : (f : ℕ) (m n : Meter) → calls f m n → its.met n ≡ its.met m) (sc : Scope) (works : sc.returns ≡ false)
    (mode : Mode) (allows : Allows its mode) where
  -- From one place to another the code goes as the pieces do.
  abbrev pub PiecesSame : List Piece → ℕ → ℕ → Type 0
  PiecesSame pieces p q = SameAll instrs its mode (courses_through (piece_course calls) pieces) p q

  abbrev EachSame : Rests → List ℕ → ℕ → Type 0
  EachSame [] [] end = ⊤
  EachSame (r ∷ rs) (q ∷ qs) end = PiecesSame r q end × EachSame rs qs end
  EachSame _ _ end = ⊥

  each_more : (rs ss : Rests) (qs ps : List ℕ) (end : ℕ) → EachSame rs qs end → EachSame ss ps end → EachSame (rs ++ ss) (qs ++ ps) end
  each_more [] ss [] ps end g h = h
  each_more [] ss (q ∷ qs) ps end g h = absurd g
  each_more (r ∷ rs) ss [] ps end g h = absurd g
  each_more (r ∷ rs) ss (q ∷ qs) ps end g h = (g.0, each_more rs ss qs ps end g.1 h)

  pub pieces_then : (r pieces : List Piece) (q mid end : ℕ) → PiecesSame r q mid → PiecesSame pieces mid end → PiecesSame (r ++ pieces) q end
  pieces_then r pieces q mid end g h = same_joined (piece_course calls) instrs its mode r pieces q mid end g h

  each_on : (rs : Rests) (pieces : List Piece) (qs : List ℕ) (mid end : ℕ) → EachSame rs qs mid → PiecesSame pieces mid end
      → EachSame (each_then rs pieces) qs end
  each_on [] pieces [] mid end g h = g
  each_on [] pieces (q ∷ qs) mid end g h = absurd g
  each_on (r ∷ rs) pieces [] mid end g h = absurd g
  each_on (r ∷ rs) pieces (q ∷ qs) mid end g h = (pieces_then r pieces q mid end g.0 h, each_on rs pieces qs mid end g.1 h)

  each_at : (rs : Rests) (qs : List ℕ) (p q : ℕ) → p ≡ q → EachSame rs qs p → EachSame rs qs q
  each_at rs qs p q e g = subst (EachSame rs qs) e g

  -- No more pieces
  at_end : (p : ℕ) → PiecesSame [] p p
  at_end p = all_falling instrs its mode here p p (same_here instrs its mode p)

  -- A jump
  hop_same : (p to : ℕ) → slice_get instrs p ≡ Some (instr.Jump to) → PiecesSame (Hop ∷ []) p to
  hop_same p to h = all_on instrs its mode (falling one) (falling here) p to to (all_falling instrs its mode one p to (same_jump instrs its mode p to h))
      (at_end to)

  -- Statements one after the other
  pub stmts_same : (stmts : List Stmt) (c p : ℕ) → Each (IsSoundStmt sc) stmts → Each (Suits mode) stmts → HasAt instrs p (stmts_code layout stmts c p)
      → PiecesSame (pieces_of stmts) p (p + stmts_size stmts)
  stmts_same stmts c p sound suits h =
      subst (λ (course : Course). SameAll instrs its mode course p (p + stmts_size stmts)) (sym (as_pieces calls stmts))
      (same_stmts instrs its layout calls some still sc works stmts mode c p allows sound suits h)

  abbrev RS : Stmt → Type 0
  RS stmt = (c p : ℕ) → IsSoundStmt sc stmt → Suits mode stmt → HasAt instrs p (stmt_code layout stmt c p)
      → EachSame (rests_of stmt) (places_of stmt p) (p + stmt_size stmt)

  abbrev Known : Type 0
  Known = (stmt : Stmt) × RS stmt

  abbrev tree : Known → Stmt
  tree k = k.0

  -- The rests of a list, behind each `advance`
  list_rests : (ks : List Known) (c p : ℕ) → Each (IsSoundStmt sc) (map tree ks) → Each (Suits mode) (map tree ks)
      → HasAt instrs p (stmts_code layout (map tree ks) c p)
      → EachSame (rests_in (map with_rests (map tree ks))) (places_in (map placed (map tree ks)) p) (p + stmts_size (map tree ks))
  list_rests [] c p sound suits h = tt {0}
  list_rests (x ∷ xs) c p sound suits h =
      let n = stmt_size x.0 in
      let l = loops x.0 in
      let others = map tree xs in
      let end = p + n + stmts_size others in
      let place : end ≡ p + stmts_size (map tree (x ∷ xs)) = omega arith in
      let code = stmts_code layout others (c + l) (p + n) in
      let there = stmt_behind instrs layout x.0 c p code h in
      each_at (rests_in (map with_rests (map tree (x ∷ xs)))) (places_in (map placed (map tree (x ∷ xs))) p) end (p + stmts_size (map tree (x ∷ xs))) place
      (each_more (each_then (rests_of x.0) (pieces_of (stmts_in (map with_rests others)))) (rests_in (map with_rests others)) (places_of x.0 p)
      (places_in (map placed others) (p + n)) end
      (each_on (rests_of x.0) (pieces_of (stmts_in (map with_rests others))) (places_of x.0 p) (p + n) end
      (x.1 c p sound.0 suits.0 (has-first instrs p (stmt_code layout x.0 c p) code h))
      (subst (λ ss. PiecesSame (pieces_of ss) (p + n) end) (sym (stmts_are others)) (stmts_same others (c + l) (p + n) sound.1 suits.1 there)))
      (list_rests xs (c + l) (p + n) sound.1 suits.1 there))

  abbrev Layer : Stmt-F Stmt → Type 0
  Layer x = (c p : ℕ) → sound_stmt_step sc Stmt (λ y. y) (IsSoundStmt sc) x → keeps_step (loops_in mode) (sends_in mode) Stmt (λ y. y) (Suits mode) x
      → HasAt instrs p (stmt_code_step layout (map-Stmt Stmt emission.Part (part layout) x) c p)
      → PiecesSame (Do (roll-Stmt x) ∷ []) p (p + stmt_size_step (map-Stmt Stmt ℕ stmt_size x))
      → EachSame (rests_step (map-Stmt Stmt rest.Part with_rests x)) (places_step (map-Stmt Stmt Placed placed x) p)
      (p + stmt_size_step (map-Stmt Stmt ℕ stmt_size x))

  -- What stands behind a test
  behind_test : (e : Expr) (i : Instr) (p : ℕ) (code : List Instr) → HasAt instrs p (expr_code layout e p ++ (i ∷ code))
      → HasAt instrs (p + expr_size e + 1) code
  behind_test e i p code h = (expr_behind instrs layout e p (i ∷ code) h).1

  if_layer : (test : Expr) (ks : List Known) → Layer (Stmt-F.If test (map tree ks) None)
  if_layer test ks c p sound suits h self =
      let first = p + expr_size test + 1 in
      let b = stmts_size (map tree ks) in
      let place : first + b ≡ p + (expr_size test + 1 + (b + 0)) = omega arith in
      each_at (rests_in (map with_rests (map tree ks))) (places_in (map placed (map tree ks)) first) (first + b) (p + (expr_size test + 1 + (b + 0))) place
      (list_rests ks c first sound.1 suits.0
      (behind_test test (instr.JumpZero (first + block_size (map (part layout) (map tree ks)))) p (stmts_code layout (map tree ks) c first) h))

  if_else_layer : (test : Expr) (ks os : List Known) → Layer (Stmt-F.If test (map tree ks) (Some (map tree os)))
  if_else_layer test ks os c p sound suits h self =
      let b = stmts_size (map tree ks) in
      let o = stmts_size (map tree os) in
      let l = block_loops (map (part layout) (map tree ks)) in
      let first = p + expr_size test + 1 in
      let second = first + block_size (map (part layout) (map tree ks)) + 1 in
      let end = second + block_size (map (part layout) (map tree os)) in
      let others = stmts_code layout (map tree os) (c + l) second in
      let jump = instr.Jump end ∷ others in
      let there = behind_test test (instr.JumpZero second) p (stmts_code layout (map tree ks) c first ++ jump) h in
      let has_jump = stmts_behind instrs layout (map tree ks) c first jump there in
      let bs = block_size_is layout (map tree ks) in
      let ends : end ≡ p + (expr_size test + 1 + (b + (o + 1))) = omega (arith, bs, block_size_is layout (map tree os)) in
      let from_second : first + b + 1 ≡ second = omega (arith, bs) in
      let places_from : second ≡ first + placed_size (map placed (map tree ks)) + 1 = omega (arith, bs, placed_size_is (map tree ks)) in
      let others_end : second + o ≡ end = omega (arith, block_size_is layout (map tree os)) in
      let these = rests_in (map with_rests (map tree ks)) in
      let those = rests_in (map with_rests (map tree os)) in
      let their = places_in (map placed (map tree os)) (first + placed_size (map placed (map tree ks)) + 1) in
      each_at (each_then these (Hop ∷ []) ++ those) (places_in (map placed (map tree ks)) first ++ their) end (p + (expr_size test + 1 + (b + (o + 1)))) ends
      (each_more (each_then these (Hop ∷ [])) those (places_in (map placed (map tree ks)) first) their end
      (each_on these (Hop ∷ []) (places_in (map placed (map tree ks)) first) (first + b) end
      (list_rests ks c first sound.1 suits.0 (has-first instrs first (stmts_code layout (map tree ks) c first) jump there))
      (hop_same (first + b) end has_jump.0))
      (subst (λ y. EachSame those (places_in (map placed (map tree os)) y) end) places_from
      (each_at those (places_in (map placed (map tree os)) second) (second + o) end others_end
      (list_rests os (c + l) second sound.2 suits.1 (subst (λ y. HasAt instrs y others) from_second has_jump.1)))))

  timed_layer : (test : Expr) (ks : List Known) → Layer (Stmt-F.Timed test (map tree ks))
  timed_layer test ks c p sound suits h self =
      let b = stmts_size (map tree ks) in
      let first = p + expr_size test + 1 in
      let size = expr_size test + 2 + b in
      let jump = instr.Jump p ∷ [] in
      let there = behind_test test (instr.JumpZero (first + block_size (map (part layout) (map tree ks)) + 1)) p
      (stmts_code layout (map tree ks) c first ++ jump) h in
      let has_jump = stmts_behind instrs layout (map tree ks) c first jump there in
      let again = pieces_then (Hop ∷ []) (Do (roll-Stmt (Stmt-F.Timed test (map tree ks))) ∷ []) (first + b) p (p + size)
      (hop_same (first + b) p has_jump.0) self in
      let these = rests_in (map with_rests (map tree ks)) in
      each_on these (Hop ∷ Do (roll-Stmt (Stmt-F.Timed test (stmts_in (map with_rests (map tree ks))))) ∷ []) (places_in (map placed (map tree ks)) first)
      (first + b) (p + size)
      (list_rests ks c first sound.2 suits (has-first instrs first (stmts_code layout (map tree ks) c first) jump there))
      (subst (λ l. PiecesSame (Hop ∷ Do (roll-Stmt (Stmt-F.Timed test l)) ∷ []) (first + b) (p + size)) (sym (stmts_are (map tree ks))) again)

  bounded_layer : (test : Expr) (most : ℕ) (ks : List Known) → Layer (Stmt-F.Bounded test most (map tree ks))
  bounded_layer test most ks c p sound suits h self =
      let none = all_none (map tree ks) (subst (λ l. holds_advance l ≡ false) (map-id (map tree ks)) sound.3) in
      let first = p + 1 + expr_size test + 2 in
      let end = p + (expr_size test + 4 + stmts_size (map tree ks)) in
      subst (λ r. EachSame r (places_in (map placed (map tree ks)) first) end) (sym none.0) (subst (λ q. EachSame [] q end) (sym (none.1 first)) (tt {0}))

  layer_rests : (y : Stmt-F Known) → Layer (map-Stmt Known Stmt tree y)
  layer_rests (Stmt-F.Set slot value) c p sound suits h self = tt {0}
  layer_rests (Stmt-F.SetCopy variable value) c p sound suits h self = tt {0}
  layer_rests (Stmt-F.SetCell slot index value) c p sound suits h self = tt {0}
  layer_rests (Stmt-F.If test branch None) c p sound suits h self = if_layer test branch c p sound suits h self
  layer_rests (Stmt-F.If test branch (Some other)) c p sound suits h self = if_else_layer test branch other c p sound suits h self
  layer_rests (Stmt-F.Bounded test most body) c p sound suits h self = bounded_layer test most body c p sound suits h self
  layer_rests (Stmt-F.Timed test body) c p sound suits h self = timed_layer test body c p sound suits h self
  layer_rests (Stmt-F.Send value stream after clock) c p sound suits h self = tt {0}
  layer_rests (Stmt-F.Advance point) c p sound suits h self = (at_end (p + 1), tt {0})
  layer_rests (Stmt-F.Return value) c p sound suits h self = tt {0}

  layer : (y : Stmt-F Known) → RS (roll-Stmt (map-Stmt Known Stmt tree y))
  layer y c p sound suits h =
      let x : Stmt-F Stmt = map-Stmt Known Stmt tree y in
      let z : Stmt = roll-Stmt x in
      let size = stmt_size_roll x in
      let one_size : p + (stmt_size z + 0) ≡ p + stmt_size_step (map-Stmt Stmt ℕ stmt_size x) = omega (arith, size) in
      let self = subst (PiecesSame (Do z ∷ []) p) one_size
      (stmts_same (z ∷ []) c p (sound, tt {0}) (suits, tt {0}) (subst (HasAt instrs p) (sym (append-nil (stmt_code layout z c p))) h)) in
      let done = layer_rests y c p (subst (λ (t : Type 0). t) (rec-roll-Stmt (Type 0) (sound_stmt_step sc) (stmts_natural sc) x) sound)
      (suits_in mode x suits)
      (subst (HasAt instrs p) (stmt_roll layout x c p) h) self in
      subst (λ r. EachSame r (places_of z p) (p + stmt_size z)) (sym (para-roll-Stmt Rests rests_step x))
      (subst (λ (f : Places). EachSame (rests_step (map-Stmt Stmt rest.Part with_rests x)) (f p) (p + stmt_size z))
      (sym (para-roll-Stmt Places places_step x))
      (subst (λ n. EachSame (rests_step (map-Stmt Stmt rest.Part with_rests x)) (places_step (map-Stmt Stmt Placed placed x) p) (p + n)) (sym size) done))

  same_rests : (stmt : Stmt) → RS stmt
  same_rests = ind-Stmt RS (λ x y is. subst (λ z. RS (roll-Stmt z)) is (layer y))

  abbrev known_of : Stmt → Known
  known_of stmt = (stmt, same_rests stmt)

  trees : (stmts : List Stmt) → map tree (map known_of stmts) ≡ stmts
  trees [] = refl
  trees (x ∷ xs) = ap (λ l. x ∷ l) (trees xs)

  all_rests : (stmts : List Stmt) (c p : ℕ) → Each (IsSoundStmt sc) stmts → Each (Suits mode) stmts → HasAt instrs p (stmts_code layout stmts c p)
      → EachSame (rests_in (map with_rests stmts)) (places_in (map placed stmts) p) (p + stmts_size stmts)
  all_rests stmts c p =
      subst (λ l. Each (IsSoundStmt sc) l → Each (Suits mode) l → HasAt instrs p (stmts_code layout l c p)
      → EachSame (rests_in (map with_rests l)) (places_in (map placed l) p) (p + stmts_size l)) (trees stmts)
      (list_rests (map known_of stmts) c p)

  -- The rest of one number
  pick : (rs : Rests) (qs : List ℕ) (end n : ℕ) → EachSame rs qs end → n < length qs → PiecesSame (slice_index_or rs n []) (get_or qs n 0) end
  pick [] [] end n g h = absurd (omega (arith, h))
  pick [] (q ∷ qs) end n g h = absurd g
  pick (r ∷ rs) [] end n g h = absurd g
  pick (r ∷ rs) (q ∷ qs) end zero g h = g.0
  pick (r ∷ rs) (q ∷ qs) end (suc n) g h = pick rs qs end n g.1 (omega (arith, h))

  -- The body from each of its points: behind its end a jump leads back to its head.
  pub same_rest : (stmts : List Stmt) (p point : ℕ) → Each (IsSoundStmt sc) stmts → Each (Suits mode) stmts
      → HasAt instrs p (stmts_code layout stmts 0 p ++ instr.Jump p ∷ [])
      → point < length (p ∷ places_in (map placed stmts) p)
      → PiecesSame (rest.rest stmts point) (get_or (p ∷ places_in (map placed stmts) p) point 0) (p + stmts_size stmts)
  same_rest stmts p zero sound suits h named = stmts_same stmts 0 p sound suits (has-first instrs p (stmts_code layout stmts 0 p) (instr.Jump p ∷ []) h)
  same_rest stmts p (suc n) sound suits h named =
      let end = p + stmts_size stmts in
      let jump = stmts_behind instrs layout stmts 0 p (instr.Jump p ∷ []) h in
      let code = has-first instrs p (stmts_code layout stmts 0 p) (instr.Jump p ∷ []) h in
      pieces_then (slice_index_or (rests_in (map with_rests stmts)) n []) (Hop ∷ pieces_of stmts) (get_or (places_in (map placed stmts) p) n 0) end end
      (pick (rests_in (map with_rests stmts)) (places_in (map placed stmts) p) end n (all_rests stmts 0 p sound suits code) (omega (arith, named)))
      (pieces_then (Hop ∷ []) (pieces_of stmts) end p end (hop_same end p jump.0) (stmts_same stmts 0 p sound suits code))
