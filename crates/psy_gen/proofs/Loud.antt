-- Statements of which no path is quiet don't fall through.
use Rattle.std.proofs.Common.{◌≡◌, refl, sym, subst, ◌∙◌}
use Rattle.std.specs.Prelude.{ℕ, Bool, true, false, ◌&&◌, if◌then◌else◌, List, [], ◌∷◌, map, Some, None, ℤ, ⊤}
use Rattle.psy_lists.proofs.lemmas.Tests.{differ}
use Rattle.psy_arith.specs.Operators.{is_zero}
use Rattle.psy_tree.specs.declared.unit.Stmt.{Stmt, roll-Stmt, fold-roll-Stmt, map-Stmt, ind-Stmt}
use Rattle.psy_tree.specs.declared.unit.Stmt.TheOpen.{Stmt-F}
use Rattle.psy_meaning.specs.States.{State, Final, Got, Value, Stops, Outcome, Falls, Returns, Halts, Eval, Act, Callee, with_value, then_do, cost_1}
use Rattle.psy_meaning.specs.Expressions.{eval}
use Rattle.psy_meaning.specs.Statements.{all_of, choose, hop, stmt_step, act_by}
use Rattle.psy_meaning.specs.Paths.{all_quiet, quiet_step, quiet, quiet_list}
use Rattle.psy_meaning.proofs.lemmas.NoWays.{or_false}

abbrev falls : Outcome → Type 0
falls (Falls s) = ⊤
falls (Returns v s) = ⊥
falls (Halts final) = ⊥

abbrev pub Loud : Act → Type 0
Loud act = (s t : State) → act s ≡ Falls t → ⊥

not_returns : (v : ℤ) (s t : State) → Returns v s ≡ Falls t → ⊥
not_returns v s t e = subst falls (sym e) (tt {0})

not_halts : (final : Final) (t : State) → Halts final ≡ Falls t → ⊥
not_halts final t e = subst falls (sym e) (tt {0})

value_loud : (got : Got) (go : ℤ → State → Outcome) → ((v : ℤ) (s t : State) → go v s ≡ Falls t → ⊥) → (t : State) → with_value got go ≡ Falls t → ⊥
value_loud (Value v s) go h t e = h v s t e
value_loud (Stops final) go h t e = not_halts final t e

pub then_loud : (o : Outcome) (go : Act) → Loud go → (t : State) → then_do o go ≡ Falls t → ⊥
then_loud (Falls s) go h t e = h s t e
then_loud (Returns v s) go h t e = not_returns v s t e
then_loud (Halts final) go h t e = not_halts final t e

first_loud : (o : Outcome) (go : Act) → ((t : State) → o ≡ Falls t → ⊥) → (t : State) → then_do o go ≡ Falls t → ⊥
first_loud (Falls s) go h t e = h s refl
first_loud (Returns v s) go h t e = not_returns v s t e
first_loud (Halts final) go h t e = not_halts final t e

choice_loud : (b : Bool) (o p : Outcome) → ((t : State) → o ≡ Falls t → ⊥) → ((t : State) → p ≡ Falls t → ⊥) → (t : State) → (if b then o else p) ≡ Falls t → ⊥
choice_loud true o p g h t e = g t e
choice_loud false o p g h t e = h t e

choose_loud : (test : Eval) (holds fails : Act) → Loud holds → Loud fails → Loud (choose test holds fails)
choose_loud test holds fails g h s t e = value_loud (test s) _ (λ v u. choice_loud (is_zero v) (fails (cost_1 u)) (holds (cost_1 u)) (h (cost_1 u)) (g (cost_1 u))) t e

on_loud : (a b : Bool) (first rest : Act) → (a ≡ false → Loud first) → (b ≡ false → Loud rest) → (a && b) ≡ false → Loud (λ s. then_do (first s) rest)
on_loud true b first rest p q h s t e = then_loud (first s) rest (q h) t e
on_loud false b first rest p q h s t e = first_loud (first s) rest (p refl s) t e

module _ (callees : ℕ → Callee) where
  abbrev R : Stmt → Type 0
  R stmt = quiet stmt ≡ false → Loud (act_by callees stmt)

  abbrev Known : Type 0
  Known = (stmt : Stmt) × R stmt

  abbrev tree : Known → Stmt
  tree x = x.0

  loud_in : (ks : List Known) → all_quiet (map quiet (map tree ks)) ≡ false → Loud (all_of (map (act_by callees) (map tree ks)))
  loud_in [] h = differ h
  loud_in (x ∷ xs) h = on_loud (quiet x.0) (all_quiet (map quiet (map tree xs))) (act_by callees x.0) (all_of (map (act_by callees) (map tree xs))) x.1 (loud_in xs) h

  step_loud : (y : Stmt-F Known) → quiet_step (map-Stmt Stmt Bool quiet (map-Stmt Known Stmt tree y)) ≡ false → Loud (stmt_step callees (map-Stmt Stmt Act (act_by callees) (map-Stmt Known Stmt tree y)))
  step_loud (Stmt-F.Advance point) h s t e = not_halts _ t e
  step_loud (Stmt-F.If test branch None) h s t e = differ h
  step_loud (Stmt-F.If test branch (Some other)) h s t e =
      let both = or_false (all_quiet (map quiet (map tree branch))) (all_quiet (map quiet (map tree other))) h in
      choose_loud (eval callees test) _ (all_of (map (act_by callees) (map tree other))) (λ u v f. first_loud (all_of (map (act_by callees) (map tree branch)) u) hop (loud_in branch both.0 u) v f) (loud_in other both.1) s t e
  step_loud (Stmt-F.Set slot value) h s t e = differ h
  step_loud (Stmt-F.SetCopy variable value) h s t e = differ h
  step_loud (Stmt-F.SetCell slot index value) h s t e = differ h
  step_loud (Stmt-F.Bounded test most body) h s t e = differ h
  step_loud (Stmt-F.Timed test body) h s t e = differ h
  step_loud (Stmt-F.Send value stream after clock) h s t e = differ h
  step_loud (Stmt-F.Return value) h s t e = differ h

  layer : (y : Stmt-F Known) → R (roll-Stmt (map-Stmt Known Stmt tree y))
  layer y h =
      let x : Stmt-F Stmt = map-Stmt Known Stmt tree y in
      subst Loud (sym (fold-roll-Stmt Act (stmt_step callees) x)) (step_loud y (sym (fold-roll-Stmt Bool quiet_step x) ∙ h))

  loud : (stmt : Stmt) → R stmt
  loud = ind-Stmt R (λ x y is. subst (λ z. R (roll-Stmt z)) is (layer y))

  pub all_loud : (stmts : List Stmt) → quiet_list stmts ≡ false → Loud (all_of (map (act_by callees) stmts))
  all_loud [] h = differ h
  all_loud (x ∷ xs) h = on_loud (quiet x) (quiet_list xs) (act_by callees x) (all_of (map (act_by callees) xs)) (loud x) (all_loud xs) h
