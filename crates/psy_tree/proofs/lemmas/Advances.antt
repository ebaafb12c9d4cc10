-- Where an `advance` stands there is a place for its word.
use Rattle.std.proofs.Common.{◌≡◌, ℕ, zero, suc, ◌+◌, ◌<◌, ◌≤◌, Bool, true, false, cond, List, [], ◌∷◌, ◌++◌, map, Option, Some, None, refl, sym, ap, ◌∙◌, subst, inl, inr, arith}
use Rattle.std.specs.Prelude.{◌||◌, nat_lt, is_some, slice_get}
use Rattle.std.proofs.lemmas.Bool.{false≢true, lt-ltb}
use Rattle.psy_tree.specs.declared.raw.RawExpr.{RawExpr}
use Rattle.psy_tree.specs.declared.raw.Lit.{Lit}
use Rattle.psy_tree.specs.declared.raw.RawStmt.{RawStmt, ind-RawStmt, roll-RawStmt, map-RawStmt, fold-roll-RawStmt}
use Rattle.psy_tree.specs.declared.raw.RawStmt.TheVariants as stmt
use Rattle.psy_tree.specs.declared.raw.RawStmt.TheOpen.{RawStmt-F}
use Rattle.psy_tree.specs.declared.raw.Name.{Name}
use Rattle.psy_tree.specs.declared.raw.Local.{Local}
use Rattle.psy_tree.specs.declared.raw.Item.{Item}
use Rattle.psy_tree.specs.declared.raw.Item.TheVariants as item
use Rattle.psy_tree.specs.declared.raw.Raw.{Raw}
use Rattle.psy_tree.specs.declared.rules.RuleKind.TheVariants as kind
use Rattle.psy_tree.specs.Scope.{slots_of}
use Rattle.psy_tree.specs.Places.{Place, Acts, Loops, expr_places, most_places, stmt_places, stmts_places, slot_places, local_place, inside_places}
use Rattle.psy_tree.specs.Paths.{advances, advances_step, advances_list, quiet_list}
use Rattle.psy_tree.specs.Rules.{NoFault, is_function}
use Rattle.psy_tree.proofs.lemmas.Among.{Among, among_right}
use Rattle.psy_tree.proofs.lemmas.Faultless.{fine_inside}
use Rattle.psy_tree.proofs.lemmas.PlacesOf.{places_if, places_if_else, places_while, places_advance}

abbrev pub is_act : Place → Bool
is_act (Acts token) = true
is_act _ = false

abbrev pub acts : List Place → ℕ
acts [] = 0
acts (p ∷ ps) = cond (is_act p) 1 0 + acts ps

acts-append : (ps qs : List Place) → acts (ps ++ qs) ≡ acts ps + acts qs
acts-append [] qs = omega arith
acts-append (p ∷ ps) qs = omega (arith, acts-append ps qs)

abbrev pub Acted : RawStmt → Type 0
Acted s = advances s ≤ acts (stmt_places s)

abbrev firsts : List ((s : RawStmt) × Acted s) → List RawStmt
firsts ss = map (λ e. e.0) ss

acted_all : (ss : List ((s : RawStmt) × Acted s)) → advances_list (firsts ss) ≤ acts (stmts_places (firsts ss))
acted_all [] = omega arith
acted_all (s ∷ ss) = omega (arith, s.1, acted_all ss, acts-append (stmt_places s.0) (stmts_places (firsts ss)))

advances_if : (test : RawExpr) (branch : List RawStmt) → advances (stmt.If test branch None) ≡ advances_list branch + 0
advances_if test branch = ap advances (sym (stmt.rolls-If test branch None)) ∙ fold-roll-RawStmt ℕ advances_step (RawStmt-F.If test branch None)

advances_if_else : (test : RawExpr) (branch other : List RawStmt) → advances (stmt.If test branch (Some other)) ≡ advances_list branch + advances_list other
advances_if_else test branch other = ap advances (sym (stmt.rolls-If test branch (Some other))) ∙ fold-roll-RawStmt ℕ advances_step (RawStmt-F.If test branch (Some other))

advances_while : (token : ℕ) (test : RawExpr) (most : Option Lit) (body : List RawStmt) → advances (stmt.While token test most body) ≡ advances_list body
advances_while token test most body = ap advances (sym (stmt.rolls-While token test most body)) ∙ fold-roll-RawStmt ℕ advances_step (RawStmt-F.While token test most body)

advances_advance : (token : ℕ) (count : Lit) (clock : Name) (budget : Option Lit) → advances (stmt.Advance token count clock budget) ≡ 1
advances_advance token count clock budget = ap advances (sym (stmt.rolls-Advance token count clock budget)) ∙ fold-roll-RawStmt ℕ advances_step (RawStmt-F.Advance token count clock budget)

acted_advance : (token : ℕ) (count : Lit) (clock : Name) (budget : Option Lit) → Acted (stmt.Advance token count clock budget)
acted_advance token count clock budget = omega (arith, advances_advance token count clock budget, ap acts (places_advance token count clock budget))

acted_while : (token : ℕ) (test : RawExpr) (most : Option Lit) (body : List RawStmt) → advances_list body ≤ acts (stmts_places body) → Acted (stmt.While token test most body)
acted_while token test most body h =
    let loop : Place = Loops token (is_some most) (nat_lt 0 (advances_list body)) (quiet_list body) in
    omega (
      arith,
      h,
      advances_while token test most body,
      ap acts (places_while token test most body),
      acts-append (expr_places test) (most_places most ++ (stmts_places body ++ loop ∷ [])),
      acts-append (most_places most) (stmts_places body ++ loop ∷ []),
      acts-append (stmts_places body) (loop ∷ []),
    )

acted_layer : (y : RawStmt-F ((s : RawStmt) × Acted s)) → Acted (roll-RawStmt (map-RawStmt ((s : RawStmt) × Acted s) RawStmt (λ e. e.0) y))
acted_layer (RawStmt-F.Set name value) = omega (arith, fold-roll-RawStmt ℕ advances_step (RawStmt-F.Set name value))
acted_layer (RawStmt-F.SetCell name index value) = omega (arith, fold-roll-RawStmt ℕ advances_step (RawStmt-F.SetCell name index value))
acted_layer (RawStmt-F.If test branch None) =
    subst Acted (sym (stmt.rolls-If test (firsts branch) None))
    (omega (arith, acted_all branch, advances_if test (firsts branch), ap acts (places_if test (firsts branch)), acts-append (expr_places test) (stmts_places (firsts branch))))
acted_layer (RawStmt-F.If test branch (Some other)) =
    subst Acted (sym (stmt.rolls-If test (firsts branch) (Some (firsts other))))
    (omega (
      arith,
      acted_all branch,
      acted_all other,
      advances_if_else test (firsts branch) (firsts other),
      ap acts (places_if_else test (firsts branch) (firsts other)),
      acts-append (expr_places test) (stmts_places (firsts branch) ++ stmts_places (firsts other)),
      acts-append (stmts_places (firsts branch)) (stmts_places (firsts other)),
    ))
acted_layer (RawStmt-F.While token test most body) =
    subst Acted (sym (stmt.rolls-While token test most (firsts body))) (acted_while token test most (firsts body) (acted_all body))
acted_layer (RawStmt-F.Send token value stream after clock) = omega (arith, fold-roll-RawStmt ℕ advances_step (RawStmt-F.Send token value stream after clock))
acted_layer (RawStmt-F.Advance token count clock budget) = subst Acted (sym (stmt.rolls-Advance token count clock budget)) (acted_advance token count clock budget)
acted_layer (RawStmt-F.Return token value) = omega (arith, fold-roll-RawStmt ℕ advances_step (RawStmt-F.Return token value))

-- y is x with a proof beside each statement inside it
acted : (s : RawStmt) → Acted s
acted = ind-RawStmt Acted (λ x y is. subst (λ z. Acted (roll-RawStmt z)) is (acted_layer y))

pub advances-le_acts : (ss : List RawStmt) → advances_list ss ≤ acts (stmts_places ss)
advances-le_acts [] = omega arith
advances-le_acts (s ∷ ss) = omega (arith, acted s, advances-le_acts ss, acts-append (stmt_places s) (stmts_places ss))

-- ---- a function without a fault has none

act_first : (p : Place) (ps : List Place) → (0 < acts ps → (t : ℕ) × Among (Acts t) ps) → 0 < acts (p ∷ ps) → (t : ℕ) × Among (Acts t) (p ∷ ps)
act_first (Acts token) ps more h = (token, inl refl)
act_first _ ps more h = (let there : (t : ℕ) × Among (Acts t) ps = more (omega (arith, h)) in (there.0, inr there.1))

act_of : (ps : List Place) → 0 < acts ps → (t : ℕ) × Among (Acts t) ps
act_of [] h = absurd (omega arith)
act_of (p ∷ ps) h = act_first p ps (act_of ps) h

no_act : (raw : Raw) (k : ℕ) (name : Name) (params : List Name) (locals : List Local) (stmts : List RawStmt) → NoFault raw → slice_get raw.items k ≡ Some (item.Function name params locals stmts) → 0 < acts (stmts_places stmts) → ⊥
no_act raw k name params locals stmts sound own h =
    let f : Item = item.Function name params locals stmts in
    let there : (t : ℕ) × Among (Acts t) (stmts_places stmts) = act_of (stmts_places stmts) h in
    let inner : Among (Acts there.0) (inside_places f) =
    among_right (Acts there.0) (slot_places 0 (slots_of f)) (map local_place locals ++ stmts_places stmts)
    (among_right (Acts there.0) (map local_place locals) (stmts_places stmts) there.1) in
    false≢true (sym (fine_inside raw sound k f (Acts there.0) own inner kind.WrongKind) ∙ ap is_function own)

none_left : (n a : ℕ) → n ≤ a → (0 < a → ⊥) → n ≡ 0
none_left n zero h none = omega arith
none_left n (suc a) h none = absurd (none (omega arith))

pub function_quiet : (raw : Raw) (k : ℕ) (name : Name) (params : List Name) (locals : List Local) (stmts : List RawStmt) → NoFault raw → slice_get raw.items k ≡ Some (item.Function name params locals stmts) → advances_list stmts ≡ 0
function_quiet raw k name params locals stmts sound own =
    none_left (advances_list stmts) (acts (stmts_places stmts)) (advances-le_acts stmts) (no_act raw k name params locals stmts sound own)

-- A sum is positive where a part is.
pub positive_sum : (m n : ℕ) → (nat_lt 0 m || nat_lt 0 n) ≡ nat_lt 0 (m + n)
positive_sum zero n = ap (nat_lt 0) (omega arith)
positive_sum (suc m) n = ap (λ b. b || nat_lt 0 n) (lt-ltb 0 (suc m) (omega arith)) ∙ sym (lt-ltb 0 (suc m + n) (omega arith))
