-- Statements and expressions whose names are looked up stand for those with numbers.
use Rattle.std.proofs.Common.{◌≡◌, ℕ, ◌+◌, ◌<◌, ◌≤◌, List, [], ◌∷◌, ◌++◌, map, take, drop, length, get_or, refl, sym, ap, ◌∙◌, arith}
use Rattle.std.proofs.lemmas.List.{take_more, map-append, take-append-drop}
use Rattle.psy_tree.specs.declared.raw.RawStmt.{RawStmt}
use Rattle.psy_tree.specs.declared.unit.Point.{Point}
use Rattle.psy_tree.specs.Scope.{Site}
use Rattle.psy_tree.specs.Paths.{total, advances, advances_list}
use Rattle.psy_rules.proofs.Judging.{advances_more}
use Rattle.psy_tree.specs.Stands.{Numbering, in_turn, and_more, stmt_of, stmts_of}

in_turn-push : {A : Type 0} (ns : List (Numbering A)) (n : Numbering A) (ps : List Point) → in_turn (ns ++ n ∷ []) ps ≡ ((in_turn ns ps).0 ++ (n (in_turn ns ps).1).0 ∷ [], (n (in_turn ns ps).1).1)
in_turn-push [] n ps = refl
in_turn-push (m ∷ ns) n ps = ap (and_more (m ps).0) (in_turn-push ns n (m ps).1)

pub stmts_more : (site : Site) (xs : List RawStmt) (i : ℕ) (x : RawStmt) (ps : List Point) → i < length xs → get_or xs i x ≡ x →
    stmts_of site (take (i + 1) xs) ps ≡ ((stmts_of site (take i xs) ps).0 ++ (stmt_of site x (stmts_of site (take i xs) ps).1).0 ∷ [], (stmt_of site x (stmts_of site (take i xs) ps).1).1)
stmts_more site xs i x ps h e =
    ap (λ ys. stmts_of site ys ps) (take_more xs i x h ∙ ap (λ y. take i xs ++ y ∷ []) e)
    ∙ ap (λ ns. in_turn ns ps) (map-append (stmt_of site) (take i xs) (x ∷ []))
    ∙ in_turn-push (map (stmt_of site) (take i xs)) (stmt_of site x) ps

total-append_le : (ms ns : List ℕ) → total ms ≤ total (ms ++ ns)
total-append_le [] ns = omega arith
total-append_le (m ∷ ms) ns = omega (arith, total-append_le ms ns)

pub advances_take : (xs : List RawStmt) (i : ℕ) → advances_list (take i xs) ≤ advances_list xs
advances_take xs i =
    let e : advances_list xs ≡ total (map advances (take i xs) ++ map advances (drop i xs)) =
    sym (ap advances_list (take-append-drop i xs)) ∙ ap total (map-append advances (take i xs) (drop i xs)) in
    omega (arith, total-append_le (map advances (take i xs)) (map advances (drop i xs)))

pub room_more : (xs : List RawStmt) (i : ℕ) (x : RawStmt) → i < length xs → x ≡ get_or xs i x → advances_list (take i xs) + advances x ≤ advances_list xs
room_more xs i x h e = omega (arith, advances_more xs i x h (sym e), advances_take xs (i + 1))
