-- The pieces of a rest have what their statements have, where the parts of a statement have what it has.
use Rattle.std.proofs.Common.{◌≡◌, ℕ, zero, suc, List, [], ◌∷◌, map, Some, None, refl, sym, ap, subst}
use Rattle.std.specs.Prelude.{slice_index_or, ⊤}
use Rattle.psy_tree.specs.declared.unit.Stmt.{Stmt, roll-Stmt, para-roll-Stmt, map-Stmt, ind-Stmt}
use Rattle.psy_tree.specs.declared.unit.Stmt.TheOpen.{Stmt-F}
use Rattle.psy_meaning.specs.Rest.{Rests, Part, each_then, pieces_of, stmts_in, rests_in, rests_step, rests_of, with_rests, rest}
use Rattle.psy_meaning.specs.Sound.{Each}
use Rattle.psy_meaning.specs.Statements.{Piece, Do, Hop}
use Rattle.psy_meaning.proofs.lemmas.Eaches.{each-append}

-- The statements of which one consists have it.
abbrev pub PartsHave : (Stmt → Type 0) → Stmt-F Stmt → Type 0
PartsHave P (Stmt-F.If test branch None) = Each P branch
PartsHave P (Stmt-F.If test branch (Some other)) = Each P branch × Each P other
PartsHave P (Stmt-F.Bounded test most body) = Each P body
PartsHave P (Stmt-F.Timed test body) = Each P body
PartsHave P _ = ⊤

-- A jump has anything.
abbrev pub PieceHas : (Stmt → Type 0) → Piece → Type 0
PieceHas P (Do stmt) = P stmt
PieceHas P Hop = ⊤

abbrev pub PiecesHave : (Stmt → Type 0) → List Piece → Type 0
PiecesHave P pieces = Each (PieceHas P) pieces

pub stmts_are : (stmts : List Stmt) → stmts_in (map with_rests stmts) ≡ stmts
stmts_are [] = refl
stmts_are (x ∷ xs) = ap (λ ys. x ∷ ys) (stmts_are xs)

module _ (P : Stmt → Type 0) (down : (x : Stmt-F Stmt) → P (roll-Stmt x) → PartsHave P x) where
  abbrev RestsHave : Rests → Type 0
  RestsHave rests = Each (PiecesHave P) rests

  each_has : (rests : Rests) (pieces : List Piece) → RestsHave rests → PiecesHave P pieces → RestsHave (each_then rests pieces)
  each_has [] pieces h k = h
  each_has (r ∷ rs) pieces h k = (each-append (PieceHas P) r pieces h.0 k, each_has rs pieces h.1 k)

  pieces_have : (stmts : List Stmt) → Each P stmts → PiecesHave P (pieces_of stmts)
  pieces_have [] h = tt
  pieces_have (x ∷ xs) h = (h.0, pieces_have xs h.1)

  abbrev Q : Stmt → Type 0
  Q stmt = P stmt → RestsHave (rests_of stmt)

  abbrev Known : Type 0
  Known = (stmt : Stmt) × Q stmt

  abbrev tree : Known → Stmt
  tree k = k.0

  -- the parts of a layer
  abbrev parts : List Known → List Part
  parts ks = map with_rests (map tree ks)

  one_has : (stmt : Stmt) (rest : List Stmt) → RestsHave (rests_of stmt) → Each P rest → RestsHave (each_then (rests_of stmt) (pieces_of (stmts_in (map with_rests rest))))
  one_has stmt rest h k = each_has (rests_of stmt) (pieces_of (stmts_in (map with_rests rest))) h (subst (λ ss. PiecesHave P (pieces_of ss)) (sym (stmts_are rest)) (pieces_have rest k))

  have_in : (ks : List Known) → Each P (map tree ks) → RestsHave (rests_in (parts ks))
  have_in [] h = tt
  have_in (k ∷ ks) h =
      each-append (PiecesHave P) (each_then (rests_of k.0) (pieces_of (stmts_in (parts ks)))) (rests_in (parts ks)) (one_has k.0 (map tree ks) (k.1 h.0) h.1) (have_in ks h.1)

  step : (y : Stmt-F Known) → let x = map-Stmt Known Stmt tree y in P (roll-Stmt x) → PartsHave P x → RestsHave (rests_step (map-Stmt Stmt Part with_rests x))
  step (Stmt-F.Set slot value) h k = tt
  step (Stmt-F.SetCopy variable value) h k = tt
  step (Stmt-F.SetCell slot index value) h k = tt
  step (Stmt-F.If test branch None) h k = have_in branch k
  step (Stmt-F.If test branch (Some other)) h k =
      each-append (PiecesHave P) (each_then (rests_in (parts branch)) (Hop ∷ [])) (rests_in (parts other)) (each_has (rests_in (parts branch)) (Hop ∷ []) (have_in branch k.0) (tt, tt)) (have_in other k.1)
  step (Stmt-F.Bounded test most body) h k = have_in body k
  step (Stmt-F.Timed test body) h k =
      each_has (rests_in (parts body)) (Hop ∷ Do (roll-Stmt (Stmt-F.Timed test (stmts_in (parts body)))) ∷ []) (have_in body k)
      (tt, (subst (λ ss. P (roll-Stmt (Stmt-F.Timed test ss))) (sym (stmts_are (map tree body))) h, tt))
  step (Stmt-F.Send value stream after clock) h k = tt
  step (Stmt-F.Advance point) h k = (tt, tt)
  step (Stmt-F.Return value) h k = tt

  layer : (y : Stmt-F Known) → Q (roll-Stmt (map-Stmt Known Stmt tree y))
  layer y h =
      let x : Stmt-F Stmt = map-Stmt Known Stmt tree y in
      subst RestsHave (sym (para-roll-Stmt Rests rests_step x)) (step y h (down x h))

  stmt_has : (stmt : Stmt) → Q stmt
  stmt_has = ind-Stmt Q (λ x y is. subst (λ z. Q (roll-Stmt z)) is (layer y))

  all_have : (stmts : List Stmt) → Each P stmts → RestsHave (rests_in (map with_rests stmts))
  all_have [] h = tt
  all_have (x ∷ xs) h =
      each-append (PiecesHave P) (each_then (rests_of x) (pieces_of (stmts_in (map with_rests xs)))) (rests_in (map with_rests xs)) (one_has x xs (stmt_has x h.0) h.1) (all_have xs h.1)

  at_has : (rests : Rests) (n : ℕ) → RestsHave rests → PiecesHave P (slice_index_or rests n [])
  at_has [] n h = tt
  at_has (r ∷ rs) zero h = h.0
  at_has (r ∷ rs) (suc n) h = at_has rs n h.1

  pub rest_has : (body : List Stmt) (point : ℕ) → Each P body → PiecesHave P (rest body point)
  rest_has body zero h = pieces_have body h
  rest_has body (suc n) h =
      each-append (PieceHas P) (slice_index_or (rests_in (map with_rests body)) n []) (Hop ∷ pieces_of body) (at_has (rests_in (map with_rests body)) n (all_have body h)) (tt, pieces_have body h)
