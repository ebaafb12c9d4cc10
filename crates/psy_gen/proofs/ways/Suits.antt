-- What statements keep, by their parts.
use Rattle.std.proofs.Common.{◌≡◌, List, [], ◌∷◌, map, Some, None, refl, sym, ap, subst, ◌∙◌}
use Rattle.std.specs.Prelude.{⊤}
use Rattle.std.proofs.lemmas.List.{map-id}
use Rattle.psy_tree.specs.declared.unit.Stmt.{Stmt, roll-Stmt, map-Stmt, rec-roll-Stmt}
use Rattle.psy_tree.specs.declared.unit.Stmt.TheOpen.{Stmt-F}
use Rattle.psy_meaning.specs.Sound.{Each}
use Rattle.psy_meaning.proofs.lemmas.Eaches.{each-map}
use Rattle.psy_gen.specs.Keeping.{OfLoops, keeps_step, Keeps, IsSendless}
use Rattle.psy_gen.proofs.ways.Modes.{Mode, Quiet, Found, Exact}

natural : (loop : OfLoops) (sends : Type 0) (X : Type 0) (v : X → Stmt) (f : Stmt → Type 0) (x : Stmt-F X)
    → keeps_step loop sends X v (λ p. f (v p)) x ≡ keeps_step loop sends Stmt (λ y. y) f (map-Stmt X Stmt v x)
natural loop sends X v f (Stmt-F.Set slot value) = refl
natural loop sends X v f (Stmt-F.SetCopy variable value) = refl
natural loop sends X v f (Stmt-F.SetCell slot index value) = refl
natural loop sends X v f (Stmt-F.If test branch None) = ap (λ t. t × ⊤) (each-map v f branch)
natural loop sends X v f (Stmt-F.If test branch (Some other)) = ap (λ t. t × Each (λ x. f (v x)) other) (each-map v f branch) ∙ ap
    (λ t. Each f (map v branch) × t) (each-map v f other)
natural loop sends X v f (Stmt-F.Bounded test most body) =
    ap (λ l. loop most l × Each (λ x. f (v x)) body) (sym (map-id (map v body))) ∙ ap (λ t. loop most (map (λ y. y) (map v body)) × t) (each-map v f body)
natural loop sends X v f (Stmt-F.Timed test body) = each-map v f body
natural loop sends X v f (Stmt-F.Send value stream after clock) = refl
natural loop sends X v f (Stmt-F.Advance point) = refl
natural loop sends X v f (Stmt-F.Return value) = refl

keeps_roll : (loop : OfLoops) (sends : Type 0) (x : Stmt-F Stmt)
    → Keeps loop sends (roll-Stmt x) ≡ keeps_step loop sends Stmt (λ y. y) (Keeps loop sends) x
keeps_roll loop sends x = rec-roll-Stmt (Type 0) (keeps_step loop sends) (natural loop sends) x

-- What bounded loops are to keep, so that what is counted goes over
abbrev pub loops_in : Mode → OfLoops
loops_in Quiet most body = ⊤
loops_in Found most body = ⊤
loops_in Exact most body = Each IsSendless body

abbrev pub sends_in : Mode → Type 0
sends_in Quiet = ⊥
sends_in Found = ⊤
sends_in Exact = ⊤

-- What a statement is to keep: nothing, where what is counted is found again.
abbrev pub Suits : Mode → Stmt → Type 0
Suits Quiet = Keeps (loops_in Quiet) (sends_in Quiet)
Suits Found = λ stmt. ⊤
Suits Exact = Keeps (loops_in Exact) (sends_in Exact)

pub all_found : (stmts : List Stmt) → Each (Suits Found) stmts
all_found [] = tt
all_found (x ∷ xs) = (tt {0}, all_found xs)

found_in : (x : Stmt-F Stmt) → keeps_step (loops_in Found) (sends_in Found) Stmt (λ y. y) (Suits Found) x
found_in (Stmt-F.If test branch None) = (all_found branch, tt {0})
found_in (Stmt-F.If test branch (Some other)) = (all_found branch, all_found other)
found_in (Stmt-F.Bounded test most body) = (tt {0}, all_found body)
found_in (Stmt-F.Timed test body) = all_found body
found_in _ = tt {0}

-- Its parts keep it too.
pub suits_in : (mode : Mode) (x : Stmt-F Stmt) → Suits mode (roll-Stmt x) → keeps_step (loops_in mode) (sends_in mode) Stmt (λ y. y) (Suits mode) x
suits_in Quiet x h = subst (λ (t : Type 0). t) (keeps_roll (loops_in Quiet) (sends_in Quiet) x) h
suits_in Found x h = found_in x
suits_in Exact x h = subst (λ (t : Type 0). t) (keeps_roll (loops_in Exact) (sends_in Exact) x) h
