-- What sound statements keep: they leave the store's shape and numbers of their types, send what they may, and end where they may.
use Rattle.std.proofs.Common.{ℕ, zero, suc, Bool, true, false, List, [], ◌∷◌, map, length, Option, Some, None, sym, ap, subst, arith}
use Rattle.std.specs.Prelude.{◌==◌, if◌then◌else◌, get_or, ℤ}
use Rattle.std.specs.Int.{w32, int_wrap}
use Rattle.std.proofs.lemmas.Int.{SFits-int_wrap}
use Rattle.std.proofs.lemmas.List.{length-map}
use Rattle.psy_arith.specs.declared.operators.Trap.TheVariants as trap
use Rattle.psy_arith.specs.declared.width.Width.{Width}
use Rattle.psy_arith.specs.declared.width.Width.TheVariants.{W32}
use Rattle.psy_arith.specs.Operators.{is_zero}
use Rattle.psy_code.specs.Execution.{index_in}
use Rattle.psy_tree.specs.declared.unit.Expr.{Expr}
use Rattle.psy_tree.specs.declared.unit.Stmt.{Stmt, roll-Stmt, fold-roll-Stmt, map-Stmt, ind-Stmt}
use Rattle.psy_tree.specs.declared.unit.Stmt.TheOpen.{Stmt-F}
use Rattle.psy_tree.specs.declared.unit.StreamDecl.{StreamDecl}
use Rattle.psy_tree.specs.declared.unit.Unit.{Unit as Whole}
use Rattle.psy_meaning.specs.Expressions.{eval}
use Rattle.psy_meaning.specs.Kept.{IsSentOf}
use Rattle.psy_meaning.specs.Paths.{advances_step, advances_of}
use Rattle.psy_meaning.specs.Sound.{Scope, GoesInto, CanSend, Each, expr_width, sound_stmt_step, IsSoundExpr, IsSoundStmt}
use Rattle.psy_meaning.specs.States.{State, Ended, Trapped, Got, Value, Stops, Outcome, Falls, Returns, Halts, Act, Callee, with_value, then_do, cost_1, or_halt, cells_at, with_slot}
use Rattle.psy_meaning.specs.Statements.{all_of, choose, hop, turns, set_element, stmt_step, act_by, acts_by, Piece, Do, Hop, piece_by}
use Rattle.psy_meaning.proofs.KeptExprs.{IsScopeOf, GotFine, AllKeep, expr_keeps}
use Rattle.psy_meaning.proofs.KeptStates.{Shape, IsFine, fine_cost, fine_send, fine_slot, fine_copy}
use Rattle.psy_meaning.proofs.KeptValues.{Fits, Has, Ranges}
use Rattle.psy_meaning.proofs.lemmas.RestPieces.{PartsHave, PiecesHave}
use Rattle.psy_meaning.proofs.Suited.{Allowed, IsSuited, layer_sound, layer_allowed, layer_suited}

module _ (unit : Whole) (number : ℕ) (reached : ℕ → Type 0) (widths : List Width) (shape : Shape) where
  -- The statements fall through, return a number of 32 bits, end at a point that can be reached, or trap.
  abbrev pub OutFine : Outcome → Type 0
  OutFine (Falls t) = IsFine unit number widths shape t
  OutFine (Returns v t) = Fits v × IsFine unit number widths shape t
  OutFine (Halts (Ended point t)) = reached point × IsFine unit number widths shape t
  OutFine (Halts (Trapped kind t)) = IsFine unit number widths shape t

module _ (ranges : Ranges) (unit : Whole) (number : ℕ) (scope : Scope) (of_unit : IsScopeOf unit number scope) (callees : ℕ → Callee) (all : AllKeep unit number scope.functions callees) (reached : ℕ → Type 0) (shape : Shape) where
  abbrev Fine : State → Type 0
  Fine s = IsFine unit number scope.widths shape s

  abbrev Out : Outcome → Type 0
  Out o = OutFine unit number reached scope.widths shape o

  abbrev ActKeeps : Act → Type 0
  ActKeeps act = (s : State) → Fine s → Out (act s)

  abbrev Suited : Stmt → Type 0
  Suited stmt = IsSuited scope reached stmt

  abbrev P : Stmt → Type 0
  P stmt = Suited stmt → ActKeeps (act_by callees stmt)

  abbrev Known : Type 0
  Known = (stmt : Stmt) × P stmt

  abbrev tree : Known → Stmt
  tree k = k.0

  cost : (s : State) → Fine s → Fine (cost_1 s)
  cost s h = fine_cost unit number scope.widths shape s h

  -- The type of an expression
  abbrev type : Expr → Width
  type e = expr_width scope.widths e

  abbrev Got_in : Width → Got → Type 0
  Got_in width got = GotFine unit number scope.widths shape width got

  known : (e : Expr) → IsSoundExpr scope e → (s : State) → Fine s → Got_in (type e) (eval callees e s)
  known e h s f = expr_keeps ranges unit number scope of_unit callees all shape e h s f

  -- A value that goes where one of a type is asked for
  goes : (width : Width) (e : Expr) (v : ℤ) → GoesInto scope width e → Has (type e) v → Has width v
  goes width e v h has = ranges.wider (type e) width v h has

  -- ---- one after the other

  out_value : (width : Width) (got : Got) (go : ℤ → State → Outcome) → Got_in width got → ((v : ℤ) (t : State) → Has width v → Fine t → Out (go v t)) → Out (with_value got go)
  out_value width (Value v t) go g h = h v t g.0 g.1
  out_value width (Stops (Trapped kind t)) go g h = g
  out_value width (Stops (Ended point t)) go g h = elim g [ ]

  out_then : (o : Outcome) (go : Act) → Out o → ActKeeps go → Out (then_do o go)
  out_then (Falls t) go g h = h t g
  out_then (Returns v t) go g h = g
  out_then (Halts (Ended point t)) go g h = g
  out_then (Halts (Trapped kind t)) go g h = g

  out_choice : (b : Bool) (this that : Outcome) → Out this → Out that → Out (if b then this else that)
  out_choice true this that g h = g
  out_choice false this that g h = h

  hop_keeps : ActKeeps hop
  hop_keeps s f = cost s f

  falls_keeps : ActKeeps Falls
  falls_keeps s f = f

  choose_keeps : (test : Expr) (holds fails : Act) → IsSoundExpr scope test → ActKeeps holds → ActKeeps fails → ActKeeps (choose (eval callees test) holds fails)
  choose_keeps test holds fails e p q s f =
      out_value (type test) (eval callees test s) _ (known test e s f) (λ v t has g. out_choice (is_zero v) (fails (cost_1 t)) (holds (cost_1 t)) (q (cost_1 t) (cost t g)) (p (cost_1 t) (cost t g)))

  turns_keep : (most : ℕ) (test : Expr) (body : Act) → IsSoundExpr scope test → ActKeeps body → ActKeeps (turns most (eval callees test) body)
  turns_keep zero test body e p s f =
      out_value (type test) (eval callees test s) _ (known test e s f) (λ v t has g. out_choice (is_zero v) (Falls (cost_1 (cost_1 t))) (Halts (Trapped trap.Loop (cost_1 t))) (cost (cost_1 t) (cost t g)) (cost t g))
  turns_keep (suc more) test body e p s f =
      out_value (type test) (eval callees test s) _ (known test e s f)
      (λ v t has g. let twice = cost (cost_1 t) (cost t g) in
      out_choice (is_zero v) (Falls (cost_1 (cost_1 t))) (then_do (body (cost_1 (cost_1 t))) (λ u. turns more (eval callees test) body (cost_1 u))) twice
      (out_then (body (cost_1 (cost_1 t))) _ (p (cost_1 (cost_1 t)) twice) (λ u k. turns_keep more test body e p (cost_1 u) (cost u k))))

  all_keep : (ks : List Known) → Each Suited (map tree ks) → ActKeeps (all_of (map (act_by callees) (map tree ks)))
  all_keep [] h s f = f
  all_keep (k ∷ ks) h s f = out_then (act_by callees k.0 s) (all_of (map (act_by callees) (map tree ks))) (k.1 h.0 s f) (all_keep ks h.1)

  -- ---- statements

  element_keeps : (slot : ℕ) (index v : ℤ) (s : State) → Has (get_or scope.widths slot W32) v → Fine s → (found : Option ℕ) → Out (or_halt trap.Index found s (λ i. Falls (with_slot slot i v (cost_1 s))))
  element_keeps slot index v s has f None = cost s f
  element_keeps slot index v s has f (Some i) = fine_slot unit number scope.widths shape (cost_1 s) slot i v has (cost s f)

  sent : (stream after clock : ℕ) (v : ℤ) → CanSend scope stream after clock → Fits v → IsSentOf unit (record { stream = stream; value = v; after = after; clock = clock })
  sent stream after clock v h fits = record {
    stream = omega (arith, h.target, ap length of_unit.streams, length-map unit.streams (λ (s : StreamDecl). s.receiver == number));
    clock = omega (arith, h.by, of_unit.clocks);
    after = h.delay;
    value = fits;
  }

  step : (y : Stmt-F Known) → let x = map-Stmt Known Stmt tree y in sound_stmt_step scope Stmt (λ z. z) (IsSoundStmt scope) x → Each (Allowed scope reached) (advances_step (map-Stmt Stmt (List ℕ) advances_of x)) → PartsHave Suited x → ActKeeps (stmt_step callees (map-Stmt Stmt Act (act_by callees) x))
  step (Stmt-F.Set slot value) h a parts s f =
      out_value (type value) (eval callees value s) _ (known value h.1 s f)
      (λ v t has g. fine_slot unit number scope.widths shape (cost_1 t) slot 0 v (goes (get_or scope.widths slot W32) value v h.2 has) (cost t g))
  step (Stmt-F.SetCopy variable value) h a parts s f =
      out_value (type value) (eval callees value s) _ (known value h.1 s f) (λ v t has g. fine_copy unit number scope.widths shape (cost_1 t) variable (int_wrap w32 v) (SFits-int_wrap w32 v) (cost t g))
  step (Stmt-F.SetCell slot index value) h a parts s f =
      out_value (type index) (eval callees index s) _ (known index h.1 s f)
      (λ i t i_has g. out_value (type value) (eval callees value t) (λ v u. set_element slot i v u) (known value h.2 t g)
      (λ v u has k. element_keeps slot i v u (goes (get_or scope.widths slot W32) value v h.3 has) k (index_in (length (cells_at u.store slot)) i)))
  step (Stmt-F.If test branch None) h a parts s f = choose_keeps test _ Falls h.0 (all_keep branch parts) falls_keeps s f
  step (Stmt-F.If test branch (Some other)) h a parts s f =
      choose_keeps test _ _ h.0 (λ t g. out_then (all_of (map (act_by callees) (map tree branch)) t) hop (all_keep branch parts.0 t g) hop_keeps) (all_keep other parts.1) s f
  step (Stmt-F.Bounded test most body) h a parts s f = turns_keep most test (all_of (map (act_by callees) (map tree body))) h.0 (all_keep body parts) (cost_1 s) (cost s f)
  step (Stmt-F.Timed test body) h a parts s f = choose_keeps test _ Falls h.0 (all_keep body parts) falls_keeps s f
  step (Stmt-F.Send value stream after clock) h a parts s f =
      out_value (type value) (eval callees value s) _ (known value h.1 s f)
      (λ v t has g. fine_send unit number scope.widths shape t (record { stream = stream; value = int_wrap w32 v; after = after; clock = clock }) (sent stream after clock (int_wrap w32 v) h.0 (SFits-int_wrap w32 v)) g)
  step (Stmt-F.Advance point) h a parts s f = (a.0 h, cost s f)
  step (Stmt-F.Return value) h a parts s f = out_value (type value) (eval callees value s) _ (known value h.1 s f) (λ v t has g. (goes W32 value v h.2 has, cost t g))

  layer : (y : Stmt-F Known) → P (roll-Stmt (map-Stmt Known Stmt tree y))
  layer y h =
      let x : Stmt-F Stmt = map-Stmt Known Stmt tree y in
      subst ActKeeps (sym (fold-roll-Stmt Act (stmt_step callees) x)) (step y (layer_sound scope reached x h) (layer_allowed scope reached x h) (layer_suited scope reached x h))

  stmt_keeps : (stmt : Stmt) → P stmt
  stmt_keeps = ind-Stmt P (λ x y is. subst (λ z. P (roll-Stmt z)) is (layer y))

  pub stmts_keep : (stmts : List Stmt) → Each Suited stmts → ActKeeps (acts_by callees stmts)
  stmts_keep [] h s f = f
  stmts_keep (x ∷ xs) h s f = out_then (act_by callees x s) (acts_by callees xs) (stmt_keeps x h.0 s f) (stmts_keep xs h.1)

  pub pieces_keep : (pieces : List Piece) → PiecesHave Suited pieces → ActKeeps (all_of (map (piece_by callees) pieces))
  pieces_keep [] h s f = f
  pieces_keep (Do x ∷ xs) h s f = out_then (act_by callees x s) (all_of (map (piece_by callees) xs)) (stmt_keeps x h.0 s f) (pieces_keep xs h.1)
  pieces_keep (Hop ∷ xs) h s f = out_then (hop s) (all_of (map (piece_by callees) xs)) (hop_keeps s f) (pieces_keep xs h.1)
