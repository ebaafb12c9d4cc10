-- Statements that hold no `advance` have a top behind them or back in the caller.
use Rattle.std.proofs.Common.{◌≡◌, refl, sym, ap, subst, ◌∙◌, inl, inr}
use Rattle.std.specs.Prelude.{ℕ, zero, suc, ◌+◌, max, Bool, true, false, List, [], ◌∷◌, map, Option, Some, None, ◌⊎◌}
use Rattle.std.specs.List.{list_any}
use Rattle.psy_tree.specs.declared.unit.Stmt.{Stmt, roll-Stmt, fold-roll-Stmt, map-Stmt, ind-Stmt}
use Rattle.psy_tree.specs.declared.unit.Stmt.TheOpen.{Stmt-F}
use Rattle.psy_meaning.specs.Paths.{one_of, holds_step, holds}
use Rattle.psy_meaning.proofs.lemmas.NoWays.{or_false}
use Rattle.psy_flow.specs.declared.gauge.Gauge.{Gauge}
use Rattle.psy_flow.specs.declared.tops.Tops.{Tops}
use Rattle.psy_flow.specs.Tops.{in_step, in_send, expr_most, plus, greater, falling, behind, on_from, leaving, or_else, and_on, turning, tops_through, stmt_tops_step, stmt_tops, stmts_tops}

abbrev pub IsThere : Option ℕ → Type 0
IsThere o = (n : ℕ) × (o ≡ Some n)

abbrev pub IsHome : Tops → Type 0
IsHome t = IsThere t.fell ⊎ IsThere t.back

-- ---- words for tops

pub there_left : (a b : Option ℕ) → IsThere a → IsThere (greater a b)
there_left a None (n, e) = (n, ap (λ o. greater o None) e)
there_left a (Some m) (n, e) = (max n m, ap (λ o. greater o (Some m)) e)

pub there_right : (a b : Option ℕ) → IsThere b → IsThere (greater a b)
there_right None b p = p
there_right (Some m) b (n, e) = (max m n, ap (greater (Some m)) e)

pub there_plus : (n : ℕ) (o : Option ℕ) → IsThere o → IsThere (plus n o)
there_plus n o (m, e) = (n + m, ap (plus n) e)

home_left : (a b : Tops) → IsHome a → IsHome (or_else a b)
home_left a b (inl p) = inl (there_left a.fell b.fell p)
home_left a b (inr p) = inr (there_left a.back b.back p)

home_right : (a b : Tops) → IsHome b → IsHome (or_else a b)
home_right a b (inl p) = inl (there_right a.fell b.fell p)
home_right a b (inr p) = inr (there_right a.back b.back p)

home_behind : (n : ℕ) (t : Tops) → IsHome t → IsHome (behind n t)
home_behind n t (inl p) = inl (there_plus n t.fell p)
home_behind n t (inr p) = inr (there_plus n t.back p)

home_falling : (n : ℕ) → IsHome (falling n)
home_falling n = inl (n, refl)

home_on : (first second : Tops) → IsHome first → IsHome second → IsHome (and_on first second)
home_on first second (inl (n, e)) q = home_left (on_from first.fell second) (leaving first) (subst (λ o. IsHome (on_from o second)) (sym e) (home_behind n second q))
home_on first second (inr p) q = home_right (on_from first.fell second) (leaving first) (inr p)

home_turning : (g : Gauge) (most test : ℕ) (body : Tops) → IsHome (turning g most test body)
home_turning g zero test body = home_falling (test + (in_step g + in_step g))
home_turning g (suc more) test body =
    home_left (falling (test + (in_step g + in_step g))) (behind (test + (in_step g + in_step g)) (and_on body (behind (in_step g) (turning g more test body)))) (home_falling (test + (in_step g + in_step g)))

-- ---- statements

module _ (g : Gauge) (wanted : Option ℕ) (calls : ℕ → ℕ) where
  abbrev top : Stmt → Tops
  top stmt = stmt_tops g wanted calls stmt

  abbrev Q : Stmt → Type 0
  Q stmt = holds true false stmt ≡ false → IsHome (top stmt)

  abbrev Known : Type 0
  Known = (stmt : Stmt) × Q stmt

  abbrev tree : Known → Stmt
  tree k = k.0

  home_list : (ks : List Known) → one_of (map (holds true false) (map tree ks)) ≡ false → IsHome (tops_through (map top (map tree ks)))
  home_list [] h = home_falling 0
  home_list (k ∷ ks) h =
      let none = or_false (holds true false k.0) (one_of (map (holds true false) (map tree ks))) h in
      home_on (top k.0) (tops_through (map top (map tree ks))) (k.1 none.0) (home_list ks none.1)

  step_home : (y : Stmt-F Known) → holds_step true false (map-Stmt Stmt Bool (holds true false) (map-Stmt Known Stmt tree y)) ≡ false → IsHome (stmt_tops_step g wanted calls (map-Stmt Stmt Tops top (map-Stmt Known Stmt tree y)))
  step_home (Stmt-F.Set slot value) h = home_falling (expr_most g calls value + in_step g)
  step_home (Stmt-F.SetCopy variable value) h = home_falling (expr_most g calls value + in_step g)
  step_home (Stmt-F.SetCell slot index value) h = home_falling (expr_most g calls index + (expr_most g calls value + in_step g))
  step_home (Stmt-F.If test branch None) h =
      let this : Tops = tops_through (map top (map tree branch)) in
      home_behind (expr_most g calls test + in_step g) (or_else this (falling 0)) (home_right this (falling 0) (home_falling 0))
  step_home (Stmt-F.If test branch (Some other)) h =
      let this : Tops = and_on (tops_through (map top (map tree branch))) (falling (in_step g)) in
      let that : Tops = tops_through (map top (map tree other)) in
      let none = or_false (one_of (map (holds true false) (map tree branch))) (one_of (map (holds true false) (map tree other))) h in
      home_behind (expr_most g calls test + in_step g) (or_else this that) (home_right this that (home_list other none.1))
  step_home (Stmt-F.Bounded test most body) h =
      let inner : Tops = tops_through (map top (map tree body)) in
      home_behind (in_step g) (turning g most (expr_most g calls test) inner) (home_turning g most (expr_most g calls test) inner)
  step_home (Stmt-F.Timed test body) h =
      let inner : Tops = tops_through (map top (map tree body)) in
      home_behind (expr_most g calls test + in_step g) (or_else inner (falling 0)) (home_right inner (falling 0) (home_falling 0))
  step_home (Stmt-F.Send value stream after clock) h = home_falling (expr_most g calls value + in_send g stream)
  step_home (Stmt-F.Advance point) h = absurd (cc)
  step_home (Stmt-F.Return value) h = inr (expr_most g calls value + in_step g, refl)

  layer : (y : Stmt-F Known) → Q (roll-Stmt (map-Stmt Known Stmt tree y))
  layer y h =
      let x : Stmt-F Stmt = map-Stmt Known Stmt tree y in
      subst IsHome (sym (fold-roll-Stmt Tops (stmt_tops_step g wanted calls) x)) (step_home y (sym (fold-roll-Stmt Bool (holds_step true false) x) ∙ h))

  home_stmt : (stmt : Stmt) → Q stmt
  home_stmt = ind-Stmt Q (λ x y is. subst (λ z. Q (roll-Stmt z)) is (layer y))

  pub home_stmts : (stmts : List Stmt) → list_any (holds true false) stmts ≡ false → IsHome (stmts_tops g wanted calls stmts)
  home_stmts [] h = home_falling 0
  home_stmts (x ∷ xs) h =
      let none = or_false (holds true false x) (list_any (holds true false) xs) h in
      home_on (top x) (stmts_tops g wanted calls xs) (home_stmt x none.0) (home_stmts xs none.1)
