-- The statements that a list of the tree's stands for have as many `advance` statements, in order, and the same paths.
use Rattle.std.proofs.Common.{◌≡◌, ℕ, zero, suc, ◌+◌, Bool, true, false, ◌&&◌, ◌||◌, List, [], ◌∷◌, ◌++◌, map, length, Some, None, refl, sym, ap, ap₂, subst, ◌∙◌, arith}
use Rattle.std.specs.Prelude.{nat_lt, Option}
use Rattle.std.specs.List.{list_any, list_all, range_with_len}
use Rattle.std.proofs.lemmas.List.{length-append}
use Rattle.psy_arith.specs.declared.width.Width.TheVariants.{W32}
use Rattle.psy_tree.specs.declared.raw.Lit.{Lit}
use Rattle.psy_tree.specs.declared.raw.RawStmt.{RawStmt, ind-RawStmt, roll-RawStmt, map-RawStmt, fold-roll-RawStmt}
use Rattle.psy_tree.specs.declared.raw.RawStmt.TheOpen.{RawStmt-F}
use Rattle.psy_tree.specs.declared.reach.Found.{Found}
use Rattle.psy_tree.specs.declared.reach.Found.TheVariants as found
use Rattle.psy_tree.specs.declared.unit.Point.{Point}
use Rattle.psy_tree.specs.declared.unit.Expr.{Expr}
use Rattle.psy_tree.specs.declared.unit.Stmt.{Stmt, roll-Stmt, map-Stmt, fold-roll-Stmt}
use Rattle.psy_tree.specs.declared.unit.Stmt.TheOpen.{Stmt-F}
use Rattle.psy_tree.specs.Scope.{Site, stands_for}
use Rattle.psy_tree.specs.Paths.{advances, advances_step as raw_advances_step, advances_list, quiet as raw_quiet, quiet_step as raw_quiet_step, quiet_list as raw_quiet_list}
use Rattle.psy_tree.specs.Stands.{Numbering, and_more, expr_of, expr_into, width_at, set_by, while_of, stmt_step, stmt_of, stmts_of}
use Rattle.psy_meaning.specs.Paths.{one_of, all_quiet, holds, holds_step, holds_advance, advances_step, advances_of, advances_in, quiet, quiet_step, quiet_list}
use Rattle.psy_tree.proofs.lemmas.Advances.{positive_sum}

-- A statement and the points behind it, for one of the tree's with n `advance` statements that is quiet or not.
abbrev Is : ℕ → Bool → List Point → Stmt × List Point → Type 0
Is n q points r = (holds true false r.0 ≡ nat_lt 0 n) × (quiet r.0 ≡ q) × (length r.1 ≡ length points + n) × (advances_of r.0 ≡ range_with_len (length points) n)

-- The same of statements
abbrev Are : ℕ → Bool → List Point → List Stmt × List Point → Type 0
Are n q points r = (one_of (map (holds true false) r.0) ≡ nat_lt 0 n) × (all_quiet (map quiet r.0) ≡ q) × (length r.1 ≡ length points + n) × (advances_in r.0 ≡ range_with_len (length points) n)

range-append : (a n m : ℕ) → range_with_len a n ++ range_with_len (a + n) m ≡ range_with_len a (n + m)
range-append a zero m =
    let e : a + 0 ≡ a = omega arith in
    let z : m ≡ 0 + m = omega arith in
    ap (λ k. range_with_len k m) e ∙ ap (range_with_len a) z
range-append a (suc n) m =
    let e : a + suc n ≡ a + 1 + n = omega arith in
    let s : suc (n + m) ≡ suc n + m = omega arith in
    ap (λ k. a ∷ (range_with_len (a + 1) n ++ range_with_len k m)) e ∙ ap (λ ns. a ∷ ns) (range-append (a + 1) n m) ∙ ap (range_with_len a) s

-- The numbers of one list of statements, and those of another behind it
in_order : (a b n m : ℕ) (ns ms : List ℕ) → b ≡ a + n → ns ≡ range_with_len a n → ms ≡ range_with_len b m → ns ++ ms ≡ range_with_len a (n + m)
in_order a b n m ns ms e f g = ap₂ (λ xs ys. xs ++ ys) f (g ∙ ap (λ k. range_with_len k m) e) ∙ range-append a n m

more : (n m : ℕ) (q p : Bool) (points : List Point) (r : Stmt × List Point) (rs : List Stmt × List Point) → Is n q points r → Are m p r.1 rs → Are (n + m) (q && p) points (and_more r.0 rs)
more n m q p points r rs is are = (
  ap₂ (λ a b. a || b) is.0 are.0 ∙ positive_sum n m,
  ap₂ (λ a b. a && b) is.1 are.1,
  omega (arith, is.2, are.2),
  in_order (length points) (length r.1) n m (advances_of r.0) (advances_in rs.0) is.2 is.3 are.3,
)

rolled : (x : Stmt-F Stmt) (n : ℕ) (q : Bool) (points behind : List Point) → holds_step true false (map-Stmt Stmt Bool (holds true false) x) ≡ nat_lt 0 n → quiet_step (map-Stmt Stmt Bool quiet x) ≡ q → length behind ≡ length points + n
    → advances_step (map-Stmt Stmt (List ℕ) advances_of x) ≡ range_with_len (length points) n → Is n q points (roll-Stmt x, behind)
rolled x n q points behind h k l m = (fold-roll-Stmt Bool (holds_step true false) x ∙ h, fold-roll-Stmt Bool quiet_step x ∙ k, l, fold-roll-Stmt (List ℕ) advances_step x ∙ m)

set_is : (site : Site) (f : Option Found) (value : Expr) (points : List Point) → Is 0 true points (set_by site f value, points)
set_is site None value points = rolled (Stmt-F.Set _ value) 0 true points points refl refl (omega arith) refl
set_is site (Some (found.Slot k)) value points = rolled (Stmt-F.Set _ value) 0 true points points refl refl (omega arith) refl
set_is site (Some (found.Item k)) value points = rolled (Stmt-F.SetCopy _ value) 0 true points points refl refl (omega arith) refl

while_is : (most : Option Lit) (test : Expr) (n : ℕ) (q : Bool) (points : List Point) (body : List Stmt × List Point) → Are n q points body → Is n true points (while_of most test body.0, body.1)
while_is None test n q points body are =
    rolled (Stmt-F.Timed test body.0) n true points body.1 are.0 refl are.2 are.3
while_is (Some most) test n q points body are = rolled (Stmt-F.Bounded test most.value body.0) n true points body.1 are.0 refl are.2 are.3

or_true : (b : Bool) → true ≡ (b || true)
or_true true = refl
or_true false = refl

if_is : (test : Expr) (n : ℕ) (q : Bool) (points : List Point) (branch : List Stmt × List Point) → Are n q points branch → Is (n + 0) (q || true) points (roll-Stmt (Stmt-F.If test branch.0 None), branch.1)
if_is test n q points branch are =
    let e : n ≡ n + 0 = omega arith in
    rolled (Stmt-F.If test branch.0 None) (n + 0) (q || true) points branch.1 (are.0 ∙ ap (nat_lt 0) e) (or_true q) (omega (arith, are.2)) (are.3 ∙ ap (range_with_len (length points)) e)

if_else_is : (test : Expr) (n m : ℕ) (q p : Bool) (points : List Point) (branch other : List Stmt × List Point) → Are n q points branch → Are m p branch.1 other →
    Is (n + m) (q || p) points (roll-Stmt (Stmt-F.If test branch.0 (Some other.0)), other.1)
if_else_is test n m q p points branch other are and =
    rolled (Stmt-F.If test branch.0 (Some other.0)) (n + m) (q || p) points other.1
    (ap₂ (λ a b. a || b) are.0 and.0 ∙ positive_sum n m)
    (ap₂ (λ a b. a || b) are.1 and.1)
    (omega (arith, are.2, and.2))
    (in_order (length points) (length branch.1) n m (advances_in branch.0) (advances_in other.0) are.2 are.3 and.3)

any_map : {A : Type 0} (f : A → Bool) (xs : List A) → list_any f xs ≡ one_of (map f xs)
any_map f [] = refl
any_map f (x ∷ xs) = ap (λ b. f x || b) (any_map f xs)

all_map : {A : Type 0} (f : A → Bool) (xs : List A) → list_all f xs ≡ all_quiet (map f xs)
all_map f [] = refl
all_map f (x ∷ xs) = ap (λ b. f x && b) (all_map f xs)

module _ (site : Site) where
  abbrev Q : RawStmt → Type 0
  Q s = (points : List Point) → Is (advances s) (raw_quiet s) points (stmt_of site s points)

  abbrev Known : Type 0
  Known = (s : RawStmt) × Q s

  abbrev tree : Known → RawStmt
  tree k = k.0

  are_known : (ks : List Known) (points : List Point) → Are (advances_list (map tree ks)) (raw_quiet_list (map tree ks)) points (stmts_of site (map tree ks) points)
  are_known [] points = (refl, refl, omega arith, refl)
  are_known (k ∷ ks) points =
      let r : Stmt × List Point = stmt_of site k.0 points in
      more (advances k.0) (advances_list (map tree ks)) (raw_quiet k.0) (raw_quiet_list (map tree ks)) points (stmt_of site k.0 points) (stmts_of site (map tree ks) r.1) (k.1 points) (are_known ks r.1)

  step_is : (y : RawStmt-F Known) (points : List Point) → let x = map-RawStmt Known RawStmt tree y in
      Is (raw_advances_step (map-RawStmt RawStmt ℕ advances x)) (raw_quiet_step (map-RawStmt RawStmt Bool raw_quiet x)) points (stmt_step site (map-RawStmt RawStmt (Numbering Stmt) (stmt_of site) x) points)
  step_is (RawStmt-F.Set name value) points = set_is site (stands_for site name.text) (expr_into site (width_at site (stands_for site name.text)) value) points
  step_is (RawStmt-F.SetCell name index value) points = rolled (Stmt-F.SetCell _ (expr_of site index) _) 0 true points points refl refl (omega arith) refl
  step_is (RawStmt-F.If test branch None) points = if_is (expr_of site test) (advances_list (map tree branch)) (raw_quiet_list (map tree branch)) points (stmts_of site (map tree branch) points) (are_known branch points)
  step_is (RawStmt-F.If test branch (Some other)) points =
      let b : List Stmt × List Point = stmts_of site (map tree branch) points in
      if_else_is (expr_of site test) (advances_list (map tree branch)) (advances_list (map tree other)) (raw_quiet_list (map tree branch)) (raw_quiet_list (map tree other)) points
      (stmts_of site (map tree branch) points) (stmts_of site (map tree other) b.1) (are_known branch points) (are_known other b.1)
  step_is (RawStmt-F.While token test most body) points =
      while_is most (expr_of site test) (advances_list (map tree body)) (raw_quiet_list (map tree body)) points (stmts_of site (map tree body) points) (are_known body points)
  step_is (RawStmt-F.Send token value stream after clock) points = rolled (Stmt-F.Send (expr_into site W32 value) _ after.value _) 0 true points points refl refl (omega arith) refl
  step_is (RawStmt-F.Advance token count clock budget) points =
      rolled (Stmt-F.Advance (length points)) 1 false points (stmt_step site (RawStmt-F.Advance token count clock budget) points).1 refl refl (length-append points _) refl
  step_is (RawStmt-F.Return token value) points = rolled (Stmt-F.Return (expr_into site W32 value)) 0 true points points refl refl (omega arith) refl

  same : (n m : ℕ) (q p : Bool) (points : List Point) (a b : Stmt × List Point) → n ≡ m → q ≡ p → a ≡ b → Is m p points b → Is n q points a
  same n m q p points a b e f g h = subst (λ k. Is k q points a) (sym e) (subst (λ z. Is m z points a) (sym f) (subst (Is m p points) (sym g) h))

  layer : (y : RawStmt-F Known) → Q (roll-RawStmt (map-RawStmt Known RawStmt tree y))
  layer y points =
      let x : RawStmt-F RawStmt = map-RawStmt Known RawStmt tree y in
      same _ _ _ _ points _ _
      (fold-roll-RawStmt ℕ raw_advances_step x)
      (fold-roll-RawStmt Bool raw_quiet_step x)
      (ap (λ (f : Numbering Stmt). f points) (fold-roll-RawStmt (Numbering Stmt) (stmt_step site) x))
      (step_is y points)

  is : (s : RawStmt) → Q s
  is = ind-RawStmt Q (λ x y e. subst (λ z. Q (roll-RawStmt z)) e (layer y))

  are : (stmts : List RawStmt) (points : List Point) → Are (advances_list stmts) (raw_quiet_list stmts) points (stmts_of site stmts points)
  are [] points = (refl, refl, omega arith, refl)
  are (s ∷ stmts) points =
      let r : Stmt × List Point = stmt_of site s points in
      more (advances s) (advances_list stmts) (raw_quiet s) (raw_quiet_list stmts) points (stmt_of site s points) (stmts_of site stmts r.1) (is s points) (are stmts r.1)

pub holds_of : (site : Site) (stmts : List RawStmt) (points : List Point) → holds_advance (stmts_of site stmts points).0 ≡ nat_lt 0 (advances_list stmts)
holds_of site stmts points = any_map (holds true false) (stmts_of site stmts points).0 ∙ (are site stmts points).0

pub quiet_of : (site : Site) (stmts : List RawStmt) (points : List Point) → quiet_list (stmts_of site stmts points).0 ≡ raw_quiet_list stmts
quiet_of site stmts points = all_map quiet (stmts_of site stmts points).0 ∙ (are site stmts points).1

pub points_of : (site : Site) (stmts : List RawStmt) (points : List Point) → length (stmts_of site stmts points).1 ≡ length points + advances_list stmts
points_of site stmts points = (are site stmts points).2

pub numbers_of : (site : Site) (stmts : List RawStmt) (points : List Point) → advances_in (stmts_of site stmts points).0 ≡ range_with_len (length points) (advances_list stmts)
numbers_of site stmts points = (are site stmts points).3
