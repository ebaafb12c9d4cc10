-- Whether statements and pieces one after the other fall through, and what they reach.
use Rattle.std.proofs.Common.{◌≡◌, ℕ, Bool, true, false, ◌||◌, ◌&&◌, List, [], ◌∷◌, ◌++◌, map, Some, None, is_some, refl, sym, ap, ◌∙◌}
use Rattle.std.proofs.lemmas.List.{map-append}
use Rattle.std.proofs.Math.Bool.{or-false, and-true, and-false}
use Rattle.psy_tree.specs.declared.unit.Stmt.{Stmt}
use Rattle.psy_meaning.specs.Statements.{Piece, Do, Hop}
use Rattle.psy_meaning.specs.Rest.{pieces_of}
use Rattle.psy_flow.specs.declared.gauge.Gauge.TheVariants as gauge
use Rattle.psy_flow.specs.declared.tops.Tops.{Tops}
use Rattle.psy_flow.specs.Tops.{tops_through, falling, called, stmt_tops, stmts_tops, piece_tops}
use Rattle.psy_flow.specs.Reach.{falls, reaches, all_fall, some_reaches, pieces_fall, pieces_reach, marked}
use Rattle.psy_flow.proofs.Marks.{marked_same, marked_both}
use Rattle.psy_flow.proofs.ReachTops.{fell_and_on, to_and_on, fell-append, to-append, fell_same}

abbrev piece_to : ℕ → Piece → Tops
piece_to q = piece_tops gauge.Steps (Some q) (called [])

abbrev piece_any : Piece → Tops
piece_any = piece_tops gauge.Steps None (called [])

piece_same : (p : Piece) (q : ℕ) → is_some (piece_to q p).fell ≡ is_some (piece_any p).fell
piece_same (Do stmt) q = fell_same stmt q
piece_same Hop q = refl

pieces_same : (ps : List Piece) (q : ℕ) → is_some (tops_through (map (piece_to q) ps)).fell ≡ pieces_fall ps
pieces_same [] q = refl
pieces_same (p ∷ ps) q =
    fell_and_on (piece_to q p) (tops_through (map (piece_to q) ps))
    ∙ ap (λ b. b && is_some (tops_through (map (piece_to q) ps)).fell) (piece_same p q)
    ∙ ap (λ b. is_some (piece_any p).fell && b) (pieces_same ps q)
    ∙ sym (fell_and_on (piece_any p) (tops_through (map piece_any ps)))

pub pieces_fall-append : (ps qs : List Piece) → pieces_fall (ps ++ qs) ≡ (pieces_fall ps && pieces_fall qs)
pieces_fall-append ps qs = ap (λ ts. is_some (tops_through ts).fell) (map-append piece_any ps qs) ∙ fell-append (map piece_any ps) (map piece_any qs)

pub pieces_reach-append : (ps qs : List Piece) (q : ℕ) → pieces_reach (ps ++ qs) q ≡ (pieces_reach ps q || (pieces_fall ps && pieces_reach qs q))
pieces_reach-append ps qs q =
    ap (λ ts. is_some (tops_through ts).to) (map-append (piece_to q) ps qs) ∙ to-append (map (piece_to q) ps) (map (piece_to q) qs)
    ∙ ap (λ b. pieces_reach ps q || (b && pieces_reach qs q)) (pieces_same ps q)

map_pieces : {X : Type 0} (f : Piece → X) (stmts : List Stmt) → map f (pieces_of stmts) ≡ map (λ s. f (Do s)) stmts
map_pieces f [] = refl
map_pieces f (s ∷ stmts) = ap (λ xs. f (Do s) ∷ xs) (map_pieces f stmts)

pub fall_pieces_of : (stmts : List Stmt) → pieces_fall (pieces_of stmts) ≡ all_fall stmts
fall_pieces_of stmts = ap (λ ts. is_some (tops_through ts).fell) (map_pieces piece_any stmts)

pub reach_pieces_of : (stmts : List Stmt) (q : ℕ) → pieces_reach (pieces_of stmts) q ≡ some_reaches stmts q
reach_pieces_of stmts q = ap (λ ts. is_some (tops_through ts).to) (map_pieces (piece_to q) stmts)

-- ---- a jump in front, a statement alone

pub fall_hop : (ps : List Piece) → pieces_fall (Hop ∷ ps) ≡ pieces_fall ps
fall_hop ps = fell_and_on (falling 1) (tops_through (map piece_any ps))

pub reach_hop : (ps : List Piece) (q : ℕ) → pieces_reach (Hop ∷ ps) q ≡ pieces_reach ps q
reach_hop ps q = to_and_on (falling 1) (tops_through (map (piece_to q) ps))

pub fall_one : (s : Stmt) → pieces_fall (Do s ∷ []) ≡ falls s
fall_one s = fell_and_on (piece_any (Do s)) (falling 0) ∙ and-true (falls s)

pub reach_one : (s : Stmt) (q : ℕ) → pieces_reach (Do s ∷ []) q ≡ reaches s q
reach_one s q =
    to_and_on (piece_to q (Do s)) (falling 0) ∙ ap (λ b. reaches s q || b) (and-false (is_some (piece_to q (Do s)).fell)) ∙ or-false (reaches s q)

-- ---- statements, one further

pub fall-cons : (s : Stmt) (stmts : List Stmt) → all_fall (s ∷ stmts) ≡ (falls s && all_fall stmts)
fall-cons s stmts = fell_and_on (stmt_tops gauge.Steps None (called []) s) (stmts_tops gauge.Steps None (called []) stmts)

pub reach-cons : (s : Stmt) (stmts : List Stmt) (q : ℕ) → some_reaches (s ∷ stmts) q ≡ (reaches s q || (falls s && some_reaches stmts q))
reach-cons s stmts q =
    to_and_on (stmt_tops gauge.Steps (Some q) (called []) s) (stmts_tops gauge.Steps (Some q) (called []) stmts)
    ∙ ap (λ b. reaches s q || (b && some_reaches stmts q)) (fell_same s q)

-- The statements reach what the first reaches, and what the others reach where it falls through.
pub marked_on : (marks : List Bool) (s : Stmt) (stmts : List Stmt) → falls s ≡ true → marked (marked marks (reaches s)) (some_reaches stmts) ≡ marked marks (some_reaches (s ∷ stmts))
marked_on marks s stmts e =
    marked_both marks (reaches s) (some_reaches stmts)
    ∙ marked_same marks _ _ (λ q. sym (reach-cons s stmts q ∙ ap (λ b. reaches s q || (b && some_reaches stmts q)) e))

pub marked_stop : (marks : List Bool) (s : Stmt) (stmts : List Stmt) → falls s ≡ false → marked marks (reaches s) ≡ marked marks (some_reaches (s ∷ stmts))
marked_stop marks s stmts e =
    marked_same marks _ _ (λ q. sym (reach-cons s stmts q ∙ ap (λ b. reaches s q || (b && some_reaches stmts q)) e ∙ or-false (reaches s q)))
