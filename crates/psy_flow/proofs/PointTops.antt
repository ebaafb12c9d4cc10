-- The tops of pieces one after the other, as far as is counted.
use Rattle.std.proofs.Common.{◌≡◌, ℕ, List, [], ◌∷◌, ◌++◌, map, Option, Some, None, refl, sym, ap, ◌∙◌, arith}
use Rattle.std.proofs.lemmas.List.{map-append}
use Rattle.psy_tree.specs.declared.unit.Stmt.{Stmt}
use Rattle.psy_meaning.specs.Statements.{Piece, Do, Hop}
use Rattle.psy_meaning.specs.Rest.{pieces_of}
use Rattle.psy_flow.specs.declared.gauge.Gauge.{Gauge}
use Rattle.psy_flow.specs.declared.tops.Tops.{Tops}
use Rattle.psy_flow.specs.Tops.{in_step, falling, plus, greater, behind, or_else, leaving, on_from, and_on, tops_through, stmt_tops, stmts_tops, piece_tops, pieces_tops, capped_tops}
use Rattle.psy_flow.proofs.Limits.{same_tops, capped-capped, capped-and_on, behind_like, step_is}
use Rattle.psy_flow.proofs.Throughs.{and_on-last, through-append}

pub greater-none : (x : Option ℕ) → greater x None ≡ x
greater-none None = refl
greater-none (Some a) = refl

pub and_on-falling : (n : ℕ) (t : Tops) → and_on (falling n) t ≡ behind n t
and_on-falling n t = same_tops (and_on (falling n) t) (behind n t) (greater-none (plus n t.fell)) (greater-none (plus n t.back)) (greater-none (plus n t.to))

pub capped-falling_zero : (g : Gauge) → capped_tops g (falling 0) ≡ falling 0
capped-falling_zero g = ap falling (omega arith)

-- ---- pieces

pub pieces_tops-append : (g : Gauge) (wanted : Option ℕ) (calls : ℕ → ℕ) (ps qs : List Piece) → pieces_tops g wanted calls (ps ++ qs) ≡ and_on (pieces_tops g wanted calls ps) (pieces_tops g wanted calls qs)
pieces_tops-append g wanted calls ps qs =
    let each : Piece → Tops = piece_tops g wanted calls in
    ap tops_through (map-append each ps qs) ∙ through-append (map each ps) (map each qs)

pub pieces_tops-pieces_of : (g : Gauge) (wanted : Option ℕ) (calls : ℕ → ℕ) (stmts : List Stmt) → pieces_tops g wanted calls (pieces_of stmts) ≡ stmts_tops g wanted calls stmts
pieces_tops-pieces_of g wanted calls [] = refl
pieces_tops-pieces_of g wanted calls (x ∷ xs) = ap (and_on (stmt_tops g wanted calls x)) (pieces_tops-pieces_of g wanted calls xs)

pub capped-hop : (g : Gauge) (wanted : Option ℕ) (calls : ℕ → ℕ) → falling (in_step g) ≡ capped_tops g (pieces_tops g wanted calls (Hop ∷ []))
capped-hop g wanted calls = sym (ap (capped_tops g) (and_on-last (falling (in_step g))) ∙ ap falling (sym (step_is g)))

hop_pieces : (g : Gauge) (wanted : Option ℕ) (calls : ℕ → ℕ) (t : Tops) (ps : List Piece) → pieces_tops g wanted calls ps ≡ t → capped_tops g (behind (in_step g) (capped_tops g t)) ≡ capped_tops g (pieces_tops g wanted calls (Hop ∷ ps))
hop_pieces g wanted calls t ps e =
    behind_like g (in_step g) (in_step g) (capped_tops g t) t refl (capped-capped g t)
    ∙ ap (λ x. capped_tops g (behind (in_step g) x)) (sym e)
    ∙ ap (capped_tops g) (sym (and_on-falling (in_step g) (pieces_tops g wanted calls ps)))

pub capped-hop_stmt : (g : Gauge) (wanted : Option ℕ) (calls : ℕ → ℕ) (stmt : Stmt) → capped_tops g (behind (in_step g) (capped_tops g (stmt_tops g wanted calls stmt))) ≡ capped_tops g (pieces_tops g wanted calls (Hop ∷ Do stmt ∷ []))
capped-hop_stmt g wanted calls stmt = hop_pieces g wanted calls (stmt_tops g wanted calls stmt) (Do stmt ∷ []) (and_on-last (stmt_tops g wanted calls stmt))

pub capped-hop_stmts : (g : Gauge) (wanted : Option ℕ) (calls : ℕ → ℕ) (stmts : List Stmt) → capped_tops g (behind (in_step g) (capped_tops g (stmts_tops g wanted calls stmts))) ≡ capped_tops g (pieces_tops g wanted calls (Hop ∷ pieces_of stmts))
capped-hop_stmts g wanted calls stmts = hop_pieces g wanted calls (stmts_tops g wanted calls stmts) (pieces_of stmts) (pieces_tops-pieces_of g wanted calls stmts)

pub capped-pieces_of : (g : Gauge) (wanted : Option ℕ) (calls : ℕ → ℕ) (stmts : List Stmt) → capped_tops g (stmts_tops g wanted calls stmts) ≡ capped_tops g (pieces_tops g wanted calls (pieces_of stmts))
capped-pieces_of g wanted calls stmts = ap (capped_tops g) (sym (pieces_tops-pieces_of g wanted calls stmts))

-- What the program answers for tops of pieces and those of others behind them
pub capped-more : (g : Gauge) (wanted : Option ℕ) (calls : ℕ → ℕ) (ps qs : List Piece) (first second both : Tops) → first ≡ capped_tops g (pieces_tops g wanted calls ps) → second ≡ capped_tops g (pieces_tops g wanted calls qs) →
    both ≡ or_else (capped_tops g (on_from first.fell second)) (leaving first) → both ≡ capped_tops g (pieces_tops g wanted calls (ps ++ qs))
capped-more g wanted calls ps qs first second both p q e =
    e ∙ ap (λ a. or_else (capped_tops g (on_from a.fell second)) (leaving a)) p
    ∙ ap (λ b. or_else (capped_tops g (on_from (capped_tops g (pieces_tops g wanted calls ps)).fell b)) (leaving (capped_tops g (pieces_tops g wanted calls ps)))) q
    ∙ capped-and_on g (pieces_tops g wanted calls ps) (pieces_tops g wanted calls qs)
    ∙ ap (capped_tops g) (sym (pieces_tops-append g wanted calls ps qs))
