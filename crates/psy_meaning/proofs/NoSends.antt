-- Functions of a sound unit send nothing.
use Rattle.std.proofs.Common.{◌≡◌, ℕ, ◌+◌, true, false, List, [], ◌∷◌, ◌++◌, map, Some, None, refl, sym, subst, ◌∙◌, inl, inr}
use Rattle.psy_tree.specs.declared.unit.FunctionDecl.{FunctionDecl}
use Rattle.psy_tree.specs.declared.unit.Stmt.{Stmt, roll-Stmt, rec-roll-Stmt, fold-roll-Stmt, map-Stmt, ind-Stmt}
use Rattle.psy_tree.specs.declared.unit.Stmt.TheOpen.{Stmt-F}
use Rattle.psy_meaning.specs.Sendings.{sendings_in, sendings_of, sendings_step}
use Rattle.psy_meaning.specs.Sound.{Scope, Each, sound_stmt_step, IsSoundStmt, AreSound, function_scope, AreSoundFunctions}
use Rattle.psy_meaning.specs.Ways.{Sending, Way, Fell, Back, here, one, courses_through, course_by, callee_way, with_way, callee_ways_from, callee_ways}
use Rattle.psy_meaning.proofs.lemmas.Eaches.{each-append}
use Rattle.psy_meaning.proofs.OpenWays.{two}
use Rattle.psy_meaning.proofs.SendWays.{Keeps, keeps_here, keeps_one, keeps_both, keeps_stmts}
use Rattle.psy_meaning.proofs.lemmas.SoundParts.{stmts_natural}

module _ (Fine : Sending → Type 0) where
  -- ---- statements that may not send

  module _ (scope : Scope) (silent : scope.sends ≡ false) where
    abbrev Q : Stmt → Type 0
    Q stmt = IsSoundStmt scope stmt → Each Fine (sendings_of stmt)

    abbrev Known : Type 0
    Known = (stmt : Stmt) × Q stmt

    abbrev tree : Known → Stmt
    tree k = k.0

    none_in : (ks : List Known) → Each (IsSoundStmt scope) (map tree ks) → Each Fine (sendings_in (map tree ks))
    none_in [] h = tt
    none_in (k ∷ ks) h = each-append Fine (sendings_of k.0) (sendings_in (map tree ks)) (k.1 h.0) (none_in ks h.1)

    no_send : {A : Type 0} → scope.sends ≡ true → A
    no_send h = let different : true ≡ false = sym h ∙ silent in absurd cc

    step : (y : Stmt-F Known) → let x = map-Stmt Known Stmt tree y in sound_stmt_step scope Stmt (λ y. y) (IsSoundStmt scope) x → Each Fine (sendings_step (map-Stmt Stmt (List Sending) sendings_of x))
    step (Stmt-F.Set slot value) h = tt
    step (Stmt-F.SetCopy variable value) h = tt
    step (Stmt-F.SetCell slot index value) h = tt
    step (Stmt-F.If test branch None) h = none_in branch h.1
    step (Stmt-F.If test branch (Some other)) h = each-append Fine (sendings_in (map tree branch)) (sendings_in (map tree other)) (none_in branch h.1) (none_in other h.2)
    step (Stmt-F.Bounded test most body) h = none_in body h.2
    step (Stmt-F.Timed test body) h = none_in body h.2
    step (Stmt-F.Send value stream after clock) h = no_send h.0.allowed
    step (Stmt-F.Advance point) h = tt
    step (Stmt-F.Return value) h = tt

    layer : (y : Stmt-F Known) → Q (roll-Stmt (map-Stmt Known Stmt tree y))
    layer y h =
        let x : Stmt-F Stmt = map-Stmt Known Stmt tree y in
        subst (Each Fine) (sym (fold-roll-Stmt (List Sending) sendings_step x)) (step y (subst (λ (t : Type 0). t) (rec-roll-Stmt (Type 0) (sound_stmt_step scope) (stmts_natural scope) x) h))

    -- A statement that may not send holds no send,
    none : (stmt : Stmt) → Q stmt
    none = ind-Stmt Q (λ x y is. subst (λ z. Q (roll-Stmt z)) is (layer y))

    -- nor do several.
    all_none : (stmts : List Stmt) → AreSound scope stmts → Each Fine (sendings_in stmts)
    all_none [] h = tt
    all_none (x ∷ xs) h = each-append Fine (sendings_of x) (sendings_in xs) (none x h.0) (all_none xs h.1)

  -- ---- functions

  -- A function whose text holds none adds none,
  callee_keeps : (ways : ℕ → Way) (f : FunctionDecl) → ((number : ℕ) → Keeps Fine (ways number)) → Each Fine (sendings_in f.stmts) → Keeps Fine (callee_way ways f)
  callee_keeps ways f all h m n (inl w) k = keeps_stmts Fine ways all f.stmts h Back m n w k
  callee_keeps ways f all h m n (inr w) k = keeps_both Fine (courses_through (course_by ways) f.stmts Fell) two (keeps_stmts Fine ways all f.stmts h Fell) (keeps_both Fine one one (keeps_one Fine) (keeps_one Fine)) m n w k

  with_keeps : (number : ℕ) (last : Way) (ways : ℕ → Way) → Keeps Fine last → ((function : ℕ) → Keeps Fine (ways function)) → (function : ℕ) → Keeps Fine (with_way number last ways function)
  with_keeps number last ways p q function m n (inl (e, w)) h = p m n w h
  with_keeps number last ways p q function m n (inr (e, w)) h = q function m n w h

  from_keeps : (number : ℕ) (ways : ℕ → Way) (above fs : List FunctionDecl) → ((function : ℕ) → Keeps Fine (ways function)) → AreSoundFunctions above fs → (function : ℕ) → Keeps Fine (callee_ways_from number ways fs function)
  from_keeps number ways above [] all h = all
  from_keeps number ways above (f ∷ fs) all h =
      let its : Each Fine (sendings_in f.stmts) = all_none (function_scope above [] [] f) refl f.stmts (h.0.stmts [] []) in
      from_keeps (number + 1) (with_way number (callee_way ways f) ways) (above ++ f ∷ []) fs (with_keeps number (callee_way ways f) ways (callee_keeps ways f all its) all) h.1

  -- and so does none of a sound unit's functions.
  pub callees_keep : (fs : List FunctionDecl) → AreSoundFunctions [] fs → (function : ℕ) → Keeps Fine (callee_ways fs function)
  callees_keep fs h = from_keeps 0 (λ function. here) [] fs (λ function. keeps_here Fine) h
