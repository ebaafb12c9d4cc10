-- The pieces of a rest hold no `return`, where the body holds none.
use Rattle.std.proofs.Common.{◌≡◌, sym, ◌∙◌}
use Rattle.std.specs.Prelude.{ℕ, Bool, true, false, List, [], ◌∷◌, map, Some, None}
use Rattle.std.specs.List.{list_any}
use Rattle.psy_tree.specs.declared.unit.Stmt.{Stmt, roll-Stmt, fold-roll-Stmt, map-Stmt}
use Rattle.psy_tree.specs.declared.unit.Stmt.TheOpen.{Stmt-F}
use Rattle.psy_meaning.specs.Statements.{Piece}
use Rattle.psy_meaning.specs.Paths.{one_of, holds_step, holds, holds_return}
use Rattle.psy_meaning.specs.Rest.{rest}
use Rattle.psy_meaning.specs.Sound.{Each}
use Rattle.psy_meaning.proofs.lemmas.NoWays.{or_false}
use Rattle.psy_meaning.proofs.lemmas.RestPieces.{PartsHave, PiecesHave, rest_has}

abbrev back : Stmt → Bool
back = holds false true

abbrev Fine : Stmt → Type 0
Fine stmt = back stmt ≡ false

abbrev pub AllFine : List Piece → Type 0
AllFine pieces = PiecesHave Fine pieces

fine_in : (stmts : List Stmt) → one_of (map back stmts) ≡ false → Each Fine stmts
fine_in [] h = tt
fine_in (x ∷ xs) h = let both_false = or_false (back x) (one_of (map back xs)) h in (both_false.0, fine_in xs both_false.1)

parts_fine : (x : Stmt-F Stmt) → holds_step false true (map-Stmt Stmt Bool back x) ≡ false → PartsHave Fine x
parts_fine (Stmt-F.If test branch None) h = fine_in branch h
parts_fine (Stmt-F.If test branch (Some other)) h =
    let both_false = or_false (one_of (map back branch)) (one_of (map back other)) h in (fine_in branch both_false.0, fine_in other both_false.1)
parts_fine (Stmt-F.Bounded test most body) h = fine_in body h
parts_fine (Stmt-F.Timed test body) h = fine_in body h
parts_fine _ h = tt

down_fine : (x : Stmt-F Stmt) → Fine (roll-Stmt x) → PartsHave Fine x
down_fine x h = parts_fine x (sym (fold-roll-Stmt Bool (holds_step false true) x) ∙ h)

body_fine : (stmts : List Stmt) → list_any back stmts ≡ false → Each Fine stmts
body_fine [] h = tt
body_fine (x ∷ xs) h = let both_false = or_false (back x) (list_any back xs) h in (both_false.0, body_fine xs both_false.1)

pub rest_fine : (body : List Stmt) (point : ℕ) → holds_return body ≡ false → AllFine (rest body point)
rest_fine body point h = rest_has Fine down_fine body point (body_fine body h)
