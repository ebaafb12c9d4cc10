-- Statements without a fault are sound where names without a fault stand for what can be named.
use Rattle.std.proofs.Common.{◌≡◌, refl, sym, ap, subst, ◌∙◌, arith}
use Rattle.std.specs.Prelude.{ℕ, ◌+◌, ◌≤◌, Bool, true, false, not, ◌&&◌, ◌||◌, get_or, nat_lt, is_some, List, [], ◌∷◌, ◌++◌, map, take, length, Option, Some, None}
use Rattle.std.proofs.lemmas.List.{map-id}
use Rattle.psy_arith.specs.declared.width.Width.{Width}
use Rattle.psy_arith.specs.declared.width.Width.TheVariants.{W32}
use Rattle.psy_tree.specs.declared.raw.Lit.{Lit}
use Rattle.psy_tree.specs.declared.raw.RawExpr.{RawExpr}
use Rattle.psy_tree.specs.declared.raw.RawStmt.{RawStmt, roll-RawStmt, map-RawStmt, ind-RawStmt, fold-roll-RawStmt, para-roll-RawStmt}
use Rattle.psy_tree.specs.declared.raw.RawStmt.TheOpen.{RawStmt-F}
use Rattle.psy_tree.specs.declared.reach.Asks.TheVariants as asks
use Rattle.psy_tree.specs.declared.reach.Found.{Found}
use Rattle.psy_tree.specs.declared.reach.Found.TheVariants as found
use Rattle.psy_tree.specs.declared.rules.RuleKind.TheVariants as kind
use Rattle.psy_tree.specs.declared.unit.Point.{Point}
use Rattle.psy_tree.specs.declared.unit.Stmt.{Stmt}
use Rattle.psy_tree.specs.declared.unit.Stmt.TheOpen.{Stmt-F}
use Rattle.psy_tree.specs.Scope.{Site, stands_for}
use Rattle.psy_tree.specs.Places.{Place, Uses, Ranges, Loops, joined, expr_places, most_places, stmt_places, stmt_places_step, stmts_places}
use Rattle.psy_tree.specs.Paths.{advances, advances_step, advances_list, quiet_list as raw_quiet_list}
use Rattle.psy_tree.specs.Rules.{is_clock, is_stream}
use Rattle.psy_tree.specs.Stands.{Numbering, counting, is_variable, number_at, slot_number, width_at, expr_of, expr_into, set_by, while_of, stmt_step, stmt_of, stmts_of}
use Rattle.psy_meaning.specs.Paths.{holds_advance, quiet_list}
use Rattle.psy_meaning.specs.Sound.{Scope, GoesInto, Each, IsSoundExpr, IsSoundStmt, AreSound}
use Rattle.psy_tree.proofs.lemmas.Lists.{map_firsts}
use Rattle.psy_meaning.proofs.PathsOf.{holds_of, quiet_of, points_of}
use Rattle.psy_meaning.proofs.lemmas.Eaches.{each-first, each-second}
use Rattle.psy_tree.proofs.lemmas.Faultless.{in_range, Fine}
use Rattle.psy_meaning.proofs.lemmas.SoundParts.{stmt_sound}
use Rattle.psy_meaning.proofs.SoundExprs.{HasValue, Suits, goes_into, sound_exprs, sound_into}
use Rattle.psy_meaning.proofs.TypedExprs.{widths_at, cell_width, value_width}

without_max : (advances quiet : Bool) → (not false && not advances) ≡ false → (advances && (false || quiet)) ≡ false → quiet ≡ false
without_max true quiet g h = h
without_max false quiet g h = cc

with_max : (advances quiet : Bool) → (advances && (true || quiet)) ≡ false → advances ≡ false
with_max true quiet h = cc
with_max false quiet h = refl

module _ (site : Site) (scope : Scope) (suits : Suits site scope) where
  abbrev P : RawStmt → Type 0
  P s = Each (Fine site) (stmt_places s) → (points : List Point) → length points + advances s ≤ scope.points → IsSoundStmt scope (stmt_of site s points).0

  abbrev Known : Type 0
  Known = (s : RawStmt) × P s

  abbrev tree : Known → RawStmt
  tree x = x.0

  abbrev with_places : RawStmt → RawStmt × List Place
  with_places s = (s, stmt_places s)

  -- the places of the statements inside one
  abbrev inner : List RawStmt → List Place
  inner ss = joined (map (λ s. s.1) (map with_places ss))

  exprs : (e : RawExpr) → Each (Fine site) (expr_places e) → IsSoundExpr scope (expr_of site e)
  exprs = sound_exprs site scope suits

  -- A value that goes where one of a type is asked for, which it fits
  intos : (width : Width) (e : RawExpr) → Each (Fine site) (expr_places e) → IsSoundExpr scope (expr_into site width e)
  intos = sound_into site scope suits

  goes : (width : Width) (e : RawExpr) → Each (Fine site) (expr_places e) → GoesInto scope width (expr_into site width e)
  goes = goes_into site scope suits

  -- The scope has the types of the site's slots.
  width_in : (width : Width) (slot : ℕ) → width ≡ get_or (widths_at site) slot W32 → width ≡ get_or scope.widths slot W32
  width_in width slot e = e ∙ ap (λ ws. get_or ws slot W32) (sym suits.widths)

  set_sound : (f : Option Found) (e : RawExpr) → HasValue site scope f → Each (Fine site) (expr_places e) → IsSoundStmt scope (set_by site f (expr_into site (width_at site f) e))
  set_sound None e has h = absurd has
  set_sound (Some (found.Slot k)) e has h =
      let width = width_at site (Some (found.Slot k)) in
      let value = expr_into site width e in
      stmt_sound scope (Stmt-F.Set k value) (has, intos width e h, subst (λ w. GoesInto scope w value) (width_in width k (value_width site k)) (goes width e h))
  set_sound (Some (found.Item k)) e has h =
      stmt_sound scope (Stmt-F.SetCopy (counting is_variable (take k site.items)) (expr_into site W32 e)) (has, intos W32 e h, goes W32 e h)

  all_in : (ks : List Known) → Each (Fine site) (inner (map tree ks)) → (points : List Point) → length points + advances_list (map tree ks) ≤ scope.points → Each (IsSoundStmt scope) (stmts_of site (map tree ks) points).0
  all_in [] h points room = tt
  all_in (x ∷ xs) h points room = (
    x.1 (each-first (Fine site) (stmt_places x.0) (inner (map tree xs)) h) points (omega (arith, room)),
    all_in xs (each-second (Fine site) (stmt_places x.0) (inner (map tree xs)) h) (stmt_of site x.0 points).1 (omega (arith, room, points_of site (x.0 ∷ []) points)),
  )

  loop_sound : (token : ℕ) (test : RawExpr) (most : Option Lit) (body : List Known) → let raws = map tree body in
      Each (Fine site) (expr_places test) → Each (Fine site) (most_places most) → Each (Fine site) (inner raws) → Fine site (Loops token (is_some most) (nat_lt 0 (advances_list raws)) (raw_quiet_list raws))
      → (points : List Point) → length points + advances_list raws ≤ scope.points → IsSoundStmt scope (while_of most (expr_of site test) (stmts_of site raws points).0)
  loop_sound token test None body t m b l points room =
      let raws = map tree body in
      let ss = (stmts_of site raws points).0 in
      let loud = ap quiet_list (map-id ss) ∙ quiet_of site raws points ∙ without_max (nat_lt 0 (advances_list raws)) (raw_quiet_list raws) (l kind.NoMax) (l kind.MixedLoop) in
      stmt_sound scope (Stmt-F.Timed (expr_of site test) ss) (exprs test t, loud, all_in body b points room)
  loop_sound token test (Some most) body t m b l points room =
      let raws = map tree body in
      let ss = (stmts_of site raws points).0 in
      let none = ap holds_advance (map-id ss) ∙ holds_of site raws points ∙ with_max (nat_lt 0 (advances_list raws)) (raw_quiet_list raws) (l kind.MixedLoop) in
      stmt_sound scope (Stmt-F.Bounded (expr_of site test) most.value ss) (exprs test t, in_range site most 1 65536 m.0, all_in body b points room, none)

  layer_sound : (y : RawStmt-F Known) → let x = map-RawStmt Known RawStmt tree y in
      Each (Fine site) (stmt_places_step (map-RawStmt RawStmt (RawStmt × List Place) with_places x)) → (points : List Point) → length points + advances_step (map-RawStmt RawStmt ℕ advances x) ≤ scope.points
      → IsSoundStmt scope (stmt_step site (map-RawStmt RawStmt (Numbering Stmt) (stmt_of site) x) points).0
  layer_sound (RawStmt-F.Set name value) h points room = set_sound (stands_for site name.text) value (suits.values name h.0) h.1
  layer_sound (RawStmt-F.SetCell name index value) h points room =
      let slot = slot_number (stands_for site name.text) in
      let width = width_at site (stands_for site name.text) in
      let stored = expr_into site width value in
      let first = each-first (Fine site) (expr_places index) (expr_places value) h.1 in
      let second = each-second (Fine site) (expr_places index) (expr_places value) h.1 in
      stmt_sound scope (Stmt-F.SetCell slot (expr_of site index) stored)
      (suits.cells name h.0, exprs index first, intos width value second, subst (λ w. GoesInto scope w stored) (width_in width slot (cell_width site name h.0)) (goes width value second))
  layer_sound (RawStmt-F.If test branch None) h points room =
      let raws = map tree branch in
      stmt_sound scope (Stmt-F.If (expr_of site test) (stmts_of site raws points).0 None)
      (exprs test (each-first (Fine site) (expr_places test) (inner raws) h), all_in branch (each-second (Fine site) (expr_places test) (inner raws) h) points (omega (arith, room)), tt {0})
  layer_sound (RawStmt-F.If test branch (Some other)) h points room =
      let firsts = map tree branch in
      let others = map tree other in
      let behind = each-second (Fine site) (expr_places test) (inner firsts ++ inner others) h in
      let next = (stmts_of site firsts points).1 in
      stmt_sound scope (Stmt-F.If (expr_of site test) (stmts_of site firsts points).0 (Some (stmts_of site others next).0)) (
        exprs test (each-first (Fine site) (expr_places test) (inner firsts ++ inner others) h),
        all_in branch (each-first (Fine site) (inner firsts) (inner others) behind) points (omega (arith, room)),
        all_in other (each-second (Fine site) (inner firsts) (inner others) behind) next (omega (arith, room, points_of site firsts points)),
      )
  layer_sound (RawStmt-F.While token test most body) h points room =
      let raws = map tree body in
      let loop = λ (ss : List RawStmt). Loops token (is_some most) (nat_lt 0 (advances_list ss)) (raw_quiet_list ss) in
      let again = map (λ (s : RawStmt × List Place). s.0) (map with_places raws) in
      let after_test = each-second (Fine site) (expr_places test) (most_places most ++ (inner raws ++ loop again ∷ [])) h in
      let after_most = each-second (Fine site) (most_places most) (inner raws ++ loop again ∷ []) after_test in
      let last = each-second (Fine site) (inner raws) (loop again ∷ []) after_most in
      loop_sound token test most body
      (each-first (Fine site) (expr_places test) (most_places most ++ (inner raws ++ loop again ∷ [])) h)
      (each-first (Fine site) (most_places most) (inner raws ++ loop again ∷ []) after_test)
      (each-first (Fine site) (inner raws) (loop again ∷ []) after_most)
      (subst (λ ss. Fine site (loop ss)) (map_firsts stmt_places raws) last.0)
      points room
  layer_sound (RawStmt-F.Send token value stream after clock) h points room =
      let last = Uses stream asks.Target ∷ (Ranges after 0 1024 ∷ (Uses clock asks.Clock ∷ [])) in
      let first = each-first (Fine site) (expr_places value) last h.1 in
      let behind = each-second (Fine site) (expr_places value) last h.1 in
      stmt_sound scope (Stmt-F.Send (expr_into site W32 value) (number_at is_stream site stream) after.value (number_at is_clock site clock))
      (suits.sends token stream after clock h.0 behind.0 behind.1.0 behind.1.1.0, intos W32 value first, goes W32 value first)
  layer_sound (RawStmt-F.Advance token count clock budget) h points room = stmt_sound scope (Stmt-F.Advance (length points)) (omega (arith, room))
  layer_sound (RawStmt-F.Return token value) h points room = stmt_sound scope (Stmt-F.Return (expr_into site W32 value)) (suits.returns token h.0, intos W32 value h.1, goes W32 value h.1)

  layer : (y : RawStmt-F Known) → P (roll-RawStmt (map-RawStmt Known RawStmt tree y))
  layer y h points room =
      let x : RawStmt-F RawStmt = map-RawStmt Known RawStmt tree y in
      subst (λ (n : Numbering Stmt). IsSoundStmt scope (n points).0) (sym (fold-roll-RawStmt (Numbering Stmt) (stmt_step site) x))
      (layer_sound y (subst (Each (Fine site)) (para-roll-RawStmt (List Place) stmt_places_step x) h) points (omega (arith, room, fold-roll-RawStmt ℕ advances_step x)))

  sound : (s : RawStmt) → P s
  sound = ind-RawStmt P (λ x y is. subst (λ z. P (roll-RawStmt z)) is (layer y))

  pub sound_stmts : (stmts : List RawStmt) → Each (Fine site) (stmts_places stmts) → (points : List Point) → length points + advances_list stmts ≤ scope.points → AreSound scope (stmts_of site stmts points).0
  sound_stmts [] h points room = tt
  sound_stmts (x ∷ xs) h points room = (
    sound x (each-first (Fine site) (stmt_places x) (stmts_places xs) h) points (omega (arith, room)),
    sound_stmts xs (each-second (Fine site) (stmt_places x) (stmts_places xs) h) (stmt_of site x points).1 (omega (arith, room, points_of site (x ∷ []) points)),
  )
