-- Sound statements hold no `advance` where there is no point, and no `return` where none is allowed.
use Rattle.std.proofs.Common.{◌≡◌, ℕ, ◌<◌, Bool, true, false, ◌||◌, List, [], ◌∷◌, ◌++◌, map, Some, None, refl, sym, subst, ◌∙◌, arith}
use Rattle.std.specs.List.{list_any}
use Rattle.std.proofs.lemmas.List.Elements.{All-nil, All-cons}
use Rattle.psy_lists.proofs.lemmas.Tests.{not_true}
use Rattle.psy_tree.specs.declared.unit.FunctionDecl.{FunctionDecl}
use Rattle.psy_tree.specs.declared.unit.Stmt.{Stmt, roll-Stmt, rec-roll-Stmt, fold-roll-Stmt, map-Stmt, ind-Stmt}
use Rattle.psy_tree.specs.declared.unit.Stmt.TheOpen.{Stmt-F}
use Rattle.psy_tree.specs.declared.unit.Unit.{Unit as Whole}
use Rattle.psy_meaning.specs.Paths.{one_of, holds_step, holds, holds_advance, holds_return, NoneAdvances}
use Rattle.psy_meaning.specs.Sound.{Scope, Each, sound_stmt_step, IsSoundStmt, AreSound, function_scope, AreSoundFunctions, IsSoundUnit}
use Rattle.psy_meaning.proofs.lemmas.SoundParts.{stmts_natural}

both_false : (a b : Bool) → a ≡ false → b ≡ false → (a || b) ≡ false
both_false false b e f = f
both_false true b e f = e

-- What counts, an `advance` or a `return`, can't stand here
record Bars (scope : Scope) (advance back : Bool) : Type 0 where
  points : advance ≡ true → scope.points ≡ 0
  returns : back ≡ true → scope.returns ≡ false

module _ (scope : Scope) (advance back : Bool) (bars : Bars scope advance back) where
  abbrev Q : Stmt → Type 0
  Q stmt = IsSoundStmt scope stmt → holds advance back stmt ≡ false

  abbrev Known : Type 0
  Known = (stmt : Stmt) × Q stmt

  abbrev tree : Known → Stmt
  tree k = k.0

  none_in : (ks : List Known) → Each (IsSoundStmt scope) (map tree ks) → one_of (map (holds advance back) (map tree ks)) ≡ false
  none_in [] h = refl
  none_in (k ∷ ks) h = both_false (holds advance back k.0) (one_of (map (holds advance back) (map tree ks))) (k.1 h.0) (none_in ks h.1)

  no_point : (point : ℕ) → point < scope.points → advance ≡ true → ⊥
  no_point point h e = omega (arith, h, bars.points e)

  no_return_here : scope.returns ≡ true → back ≡ true → ⊥
  no_return_here h e = let different : true ≡ false = sym h ∙ bars.returns e in cc

  step : (y : Stmt-F Known) → let x = map-Stmt Known Stmt tree y in sound_stmt_step scope Stmt (λ y. y) (IsSoundStmt scope) x → holds_step advance back (map-Stmt Stmt Bool (holds advance back) x) ≡ false
  step (Stmt-F.Set slot value) h = refl
  step (Stmt-F.SetCopy variable value) h = refl
  step (Stmt-F.SetCell slot index value) h = refl
  step (Stmt-F.If test branch None) h = none_in branch h.1
  step (Stmt-F.If test branch (Some other)) h = both_false (one_of (map (holds advance back) (map tree branch))) (one_of (map (holds advance back) (map tree other))) (none_in branch h.1) (none_in other h.2)
  step (Stmt-F.Bounded test most body) h = none_in body h.2
  step (Stmt-F.Timed test body) h = none_in body h.2
  step (Stmt-F.Send value stream after clock) h = refl
  step (Stmt-F.Advance point) h = not_true advance (no_point point h)
  step (Stmt-F.Return value) h = not_true back (no_return_here h.0)

  layer : (y : Stmt-F Known) → Q (roll-Stmt (map-Stmt Known Stmt tree y))
  layer y h =
      let x : Stmt-F Stmt = map-Stmt Known Stmt tree y in
      fold-roll-Stmt Bool (holds_step advance back) x ∙ step y (subst (λ (t : Type 0). t) (rec-roll-Stmt (Type 0) (sound_stmt_step scope) (stmts_natural scope) x) h)

  none : (stmt : Stmt) → Q stmt
  none = ind-Stmt Q (λ x y is. subst (λ z. Q (roll-Stmt z)) is (layer y))

  all_none : (stmts : List Stmt) → AreSound scope stmts → list_any (holds advance back) stmts ≡ false
  all_none [] h = refl
  all_none (x ∷ xs) h = both_false (holds advance back x) (list_any (holds advance back) xs) (none x h.0) (all_none xs h.1)

pub no_advance : (scope : Scope) (stmts : List Stmt) → AreSound scope stmts → scope.points ≡ 0 → holds_advance stmts ≡ false
no_advance scope stmts h e = all_none scope true false (record { points = λ t. e; returns = λ t. absurd (cc) }) stmts h

pub no_return : (scope : Scope) (stmts : List Stmt) → AreSound scope stmts → scope.returns ≡ false → holds_return stmts ≡ false
no_return scope stmts h e = all_none scope false true (record { points = λ t. absurd (cc); returns = λ t. e }) stmts h

none_along : (above functions : List FunctionDecl) → AreSoundFunctions above functions → NoneAdvances functions
none_along above [] h = All-nil (λ g. holds_advance g.stmts ≡ false)
none_along above (f ∷ fs) h =
    All-cons (λ g. holds_advance g.stmts ≡ false) f fs (no_advance (function_scope above [] [] f) f.stmts (h.0.stmts [] []) refl) (none_along (above ++ f ∷ []) fs h.1)

pub none_advances : (unit : Whole) → IsSoundUnit unit → NoneAdvances unit.functions
none_advances unit h = none_along [] unit.functions h.functions
