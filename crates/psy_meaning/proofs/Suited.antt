-- Statements that are sound, and whose `advance` statements have points that can be reached.
use Rattle.std.proofs.Common.{ℕ, ◌<◌, List, [], ◌∷◌, Some, None, subst}
use Rattle.psy_tree.specs.declared.unit.Stmt.{Stmt, roll-Stmt, fold-roll-Stmt, rec-roll-Stmt, map-Stmt}
use Rattle.psy_tree.specs.declared.unit.Stmt.TheOpen.{Stmt-F}
use Rattle.psy_meaning.specs.Paths.{advances_step, advances_of, advances_in}
use Rattle.psy_meaning.specs.Sound.{Scope, Each, AreSound, IsSoundStmt, sound_stmt_step}
use Rattle.psy_meaning.proofs.lemmas.Eaches.{each-first, each-second}
use Rattle.psy_meaning.proofs.lemmas.RestPieces.{PartsHave}
use Rattle.psy_meaning.proofs.lemmas.SoundParts.{stmts_natural}

module _ (scope : Scope) (reached : ℕ → Type 0) where
  -- A point that the scope has can be reached.
  abbrev pub Allowed : ℕ → Type 0
  Allowed point = point < scope.points → reached point

  abbrev pub IsSuited : Stmt → Type 0
  IsSuited stmt = IsSoundStmt scope stmt × Each Allowed (advances_of stmt)

  pub all_suited : (stmts : List Stmt) → AreSound scope stmts → Each Allowed (advances_in stmts) → Each IsSuited stmts
  all_suited [] h a = tt
  all_suited (x ∷ xs) h a =
      let others = advances_in xs in
      ((h.0, each-first Allowed (advances_of x) others a), all_suited xs h.1 (each-second Allowed (advances_of x) others a))

  parts_suited : (x : Stmt-F Stmt) → sound_stmt_step scope Stmt (λ y. y) (IsSoundStmt scope) x → Each Allowed (advances_step (map-Stmt Stmt (List ℕ) advances_of x)) → PartsHave IsSuited x
  parts_suited (Stmt-F.If test branch None) h a = all_suited branch h.1 a
  parts_suited (Stmt-F.If test branch (Some other)) h a =
      let first = advances_in branch in
      let second = advances_in other in
      (all_suited branch h.1 (each-first Allowed first second a), all_suited other h.2 (each-second Allowed first second a))
  parts_suited (Stmt-F.Bounded test most body) h a = all_suited body h.2 a
  parts_suited (Stmt-F.Timed test body) h a = all_suited body h.2 a
  parts_suited _ h a = tt

  -- ---- what a suited statement gives of its layer

  pub layer_sound : (x : Stmt-F Stmt) → IsSuited (roll-Stmt x) → sound_stmt_step scope Stmt (λ y. y) (IsSoundStmt scope) x
  layer_sound x h = subst (λ (t : Type 0). t) (rec-roll-Stmt (Type 0) (sound_stmt_step scope) (stmts_natural scope) x) h.0

  pub layer_allowed : (x : Stmt-F Stmt) → IsSuited (roll-Stmt x) → Each Allowed (advances_step (map-Stmt Stmt (List ℕ) advances_of x))
  layer_allowed x h = subst (Each Allowed) (fold-roll-Stmt (List ℕ) advances_step x) h.1

  pub layer_suited : (x : Stmt-F Stmt) → IsSuited (roll-Stmt x) → PartsHave IsSuited x
  layer_suited x h = parts_suited x (layer_sound x h) (layer_allowed x h)
