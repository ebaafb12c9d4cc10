-- What each `advance` of a list of statements adds to the points.
use Rattle.std.proofs.Common.{◌≡◌, List, [], ◌∷◌, ◌++◌, map, Option, Some, None, refl, sym, ap, subst, ◌∙◌, inl, inr, append-nil, append_assoc}
use Rattle.std.specs.List.{All}
use Rattle.std.proofs.lemmas.List.Elements.{All-nil, All-append, All-cons}
use Rattle.psy_tree.specs.declared.raw.Name.{Name}
use Rattle.psy_tree.specs.declared.raw.Lit.{Lit}
use Rattle.psy_tree.specs.declared.raw.RawStmt.{RawStmt, ind-RawStmt, roll-RawStmt, map-RawStmt, fold-roll-RawStmt, para-roll-RawStmt}
use Rattle.psy_tree.specs.declared.raw.RawStmt.TheOpen.{RawStmt-F}
use Rattle.psy_tree.specs.declared.reach.Asks.TheVariants as asks
use Rattle.psy_tree.specs.declared.unit.Point.{Point}
use Rattle.psy_tree.specs.declared.unit.Stmt.{Stmt}
use Rattle.psy_tree.specs.Scope.{Site}
use Rattle.psy_tree.specs.Places.{Place, Uses, Ranges, expr_places, most_places, budget_places, joined, stmt_places, stmt_places_step, stmts_places}
use Rattle.psy_tree.specs.Rules.{is_clock}
use Rattle.psy_tree.specs.Stands.{Numbering, number_at, budget_of, stmt_step, stmt_of, stmts_of}
use Rattle.psy_tree.proofs.lemmas.Among.{among_left, among_right}
use Rattle.psy_tree.proofs.lemmas.Faultless.{Fine, AllFine}
use Rattle.psy_tree.proofs.lemmas.Lists.{map_seconds}

left : (site : Site) (ps qs : List Place) → AllFine site (ps ++ qs) → AllFine site ps
left site ps qs h p there = h p (among_left p ps qs there)

right : (site : Site) (ps qs : List Place) → AllFine site (ps ++ qs) → AllFine site qs
right site ps qs h p there = h p (among_right p ps qs there)

abbrev pub Adds : (Point → Type 0) → List Point → List Point → Type 0
Adds P points behind = (more : List Point) × (behind ≡ points ++ more) × All P more

adds_none : (P : Point → Type 0) (points : List Point) → Adds P points points
adds_none P points = ([], sym (append-nil points), All-nil P)

adds_then : (P : Point → Type 0) (a b c : List Point) → Adds P a b → Adds P b c → Adds P a c
adds_then P a b c first next = (first.0 ++ next.0, next.1 ∙ ap (λ l. l ++ next.0) first.1 ∙ append_assoc a first.0 next.0, All-append P first.0 next.0 first.2 next.2)

-- The point of an `advance` at the site
abbrev pub point_of : Site → Lit → Name → Option Lit → Point
point_of site count clock budget = record { count = count.value; clock = number_at is_clock site clock; budget = budget_of site budget }

abbrev beside : RawStmt → RawStmt × List Place
beside s = (s, stmt_places s)

module _ (site : Site) (P : Point → Type 0)
    (each : (count : Lit) (clock : Name) (budget : Option Lit) → Fine site (Ranges count 1 1024) → Fine site (Uses clock asks.Clock) → AllFine site (budget_places budget) → P (point_of site count clock budget)) where
  abbrev Q : RawStmt → Type 0
  Q s = AllFine site (stmt_places s) → (points : List Point) → Adds P points (stmt_of site s points).1

  abbrev Known : Type 0
  Known = (s : RawStmt) × Q s

  abbrev tree : Known → RawStmt
  tree k = k.0

  known_add : (ks : List Known) → AllFine site (stmts_places (map tree ks)) → (points : List Point) → Adds P points (stmts_of site (map tree ks) points).1
  known_add [] h points = adds_none P points
  known_add (k ∷ ks) h points =
      let r : Stmt × List Point = stmt_of site k.0 points in
      adds_then P points r.1 (stmts_of site (map tree ks) r.1).1
      (k.1 (left site (stmt_places k.0) (stmts_places (map tree ks)) h) points)
      (known_add ks (right site (stmt_places k.0) (stmts_places (map tree ks)) h) r.1)

  -- The places of a block as they stand in a step
  abbrev placed : List Known → List Place
  placed ks = joined (map (λ (s : RawStmt × List Place). s.1) (map beside (map tree ks)))

  block_add : (ks : List Known) → AllFine site (placed ks) → (points : List Point) → Adds P points (stmts_of site (map tree ks) points).1
  block_add ks h points = known_add ks (subst (λ ps. AllFine site (joined ps)) (map_seconds stmt_places (map tree ks)) h) points

  step_adds : (y : RawStmt-F Known) → let x = map-RawStmt Known RawStmt tree y in
      AllFine site (stmt_places_step (map-RawStmt RawStmt (RawStmt × List Place) beside x)) → (points : List Point) → Adds P points (stmt_step site (map-RawStmt RawStmt (Numbering Stmt) (stmt_of site) x) points).1
  step_adds (RawStmt-F.Set name value) h points = adds_none P points
  step_adds (RawStmt-F.SetCell name index value) h points = adds_none P points
  step_adds (RawStmt-F.If test branch None) h points = block_add branch (right site (expr_places test) (placed branch) h) points
  step_adds (RawStmt-F.If test branch (Some other)) h points =
      let inner = right site (expr_places test) (placed branch ++ placed other) h in
      let b : List Stmt × List Point = stmts_of site (map tree branch) points in
      adds_then P points b.1 (stmts_of site (map tree other) b.1).1 (block_add branch (left site (placed branch) (placed other) inner) points) (block_add other (right site (placed branch) (placed other) inner) b.1)
  step_adds (RawStmt-F.While token test most body) h points =
      block_add body (left site (placed body) _ (right site (most_places most) _ (right site (expr_places test) _ h))) points
  step_adds (RawStmt-F.Send token value stream after clock) h points = adds_none P points
  step_adds (RawStmt-F.Advance token count clock budget) h points = (
    point_of site count clock budget ∷ [],
    refl,
    All-cons P (point_of site count clock budget) [] (each count clock budget (h (Ranges count 1 1024) (inr (inl refl))) (h (Uses clock asks.Clock) (inr (inr (inl refl)))) (λ p there. h p (inr (inr (inr there))))) (All-nil P),
  )
  step_adds (RawStmt-F.Return token value) h points = adds_none P points

  layer : (y : RawStmt-F Known) → Q (roll-RawStmt (map-RawStmt Known RawStmt tree y))
  layer y h points =
      let x : RawStmt-F RawStmt = map-RawStmt Known RawStmt tree y in
      subst (Adds P points) (sym (ap (λ (f : Numbering Stmt). (f points).1) (fold-roll-RawStmt (Numbering Stmt) (stmt_step site) x)))
      (step_adds y (subst (AllFine site) (para-roll-RawStmt (List Place) stmt_places_step x) h) points)

  stmt_adds : (s : RawStmt) → Q s
  stmt_adds = ind-RawStmt Q (λ x y e. subst (λ z. Q (roll-RawStmt z)) e (layer y))

  pub stmts_add : (stmts : List RawStmt) → AllFine site (stmts_places stmts) → (points : List Point) → Adds P points (stmts_of site stmts points).1
  stmts_add [] h points = adds_none P points
  stmts_add (s ∷ stmts) h points =
      let r : Stmt × List Point = stmt_of site s points in
      adds_then P points r.1 (stmts_of site stmts r.1).1
      (stmt_adds s (left site (stmt_places s) (stmts_places stmts) h) points)
      (stmts_add stmts (right site (stmt_places s) (stmts_places stmts) h) r.1)
