-- Marks of the numbers that a text names.
use Rattle.std.proofs.Common.{◌≡◌, ℕ, ◌+◌, ◌<◌, Bool, true, false, List, [], ◌∷◌, ◌++◌, map, take, length, get_or, append-nil, append_assoc, refl, sym, ap, ◌∙◌, arith, Some, None}
use Rattle.std.specs.Prelude.{nat_eq, replicate, slice_get}
use Rattle.std.specs.List.{Contains, list_any}
use Rattle.std.proofs.lemmas.Bool.{false≢true}
use Rattle.std.proofs.lemmas.Grind.{flat_map-append}
use Rattle.std.proofs.lemmas.List.{length-replicate, map-append}
use Rattle.std.proofs.lemmas.List.Folds.{list_any_at}
use Rattle.std.proofs.lemmas.Option.{same_Some, slice_get-get_or}
use Rattle.psy_arith.specs.declared.operators.Op2.{Op2}
use Rattle.psy_arith.specs.declared.width.Width.{Width}
use Rattle.psy_tree.specs.declared.unit.Expr.{Expr, fold-roll-Expr}
use Rattle.psy_tree.specs.declared.unit.Expr.TheVariants as expr
use Rattle.psy_tree.specs.declared.unit.Expr.TheOpen.{Expr-F}
use Rattle.psy_tree.specs.declared.unit.Stmt.{Stmt, roll-Stmt, fold-roll-Stmt, map-Stmt}
use Rattle.psy_tree.specs.declared.unit.Stmt.TheVariants as stmt
use Rattle.psy_tree.specs.declared.unit.Stmt.TheOpen.{Stmt-F}
use Rattle.psy_meaning.specs.Sendings.{sendings_in, sendings_of, sendings_step, joined as joined_sendings}
use Rattle.psy_meaning.specs.Ways.{Sending}
use Rattle.psy_flow.specs.Reach.{marked}
use Rattle.psy_flow.specs.Texts.{expr_looks, expr_looks_step, joined, looks_in, marked_at, stmt_looks, stmt_looks_step, stmt_streams, streams_in}
use Rattle.psy_flow.proofs.Lists.{map_more}
use Rattle.psy_flow.proofs.MarkedNumbers.{length-marked, set_marked}
use Rattle.psy_flow.proofs.Marks.{marked_both, marked_none}

pub marked_append : (marks : List Bool) (xs ys : List ℕ) → marked_at (marked_at marks xs) ys ≡ marked_at marks (xs ++ ys)
marked_append marks [] ys = refl
marked_append marks (x ∷ xs) ys = marked_append (marked marks (λ q. nat_eq x q)) xs ys

-- ---- lists one behind the other

pub joined_more : {X : Type 0} (f : X → List ℕ) (xs : List X) (i : ℕ) (x : X) → i < length xs → get_or xs i x ≡ x → joined (map f (take (i + 1) xs)) ≡ joined (map f (take i xs)) ++ f x
joined_more f xs i x h e =
    let before : List (List ℕ) = map f (take i xs) in
    ap joined (map_more f xs i x h e) ∙ flat_map-append (λ (ns : List ℕ). ns) before (f x ∷ []) ∙ ap (λ ns. joined before ++ ns) (append-nil (f x))

pub streams_more : (stmts : List Stmt) (i : ℕ) (x : Stmt) → i < length stmts → get_or stmts i x ≡ x → streams_in (take (i + 1) stmts) ≡ streams_in (take i stmts) ++ stmt_streams x
streams_more stmts i x h e =
    let stream : Sending → ℕ = λ (s : Sending). s.stream in
    let before : List (List Sending) = map sendings_of (take i stmts) in
    let more : sendings_in (take (i + 1) stmts) ≡ sendings_in (take i stmts) ++ sendings_of x =
    ap joined_sendings (map_more sendings_of stmts i x h e) ∙ flat_map-append (λ (ss : List Sending). ss) before (sendings_of x ∷ [])
    ∙ ap (λ ss. joined_sendings before ++ ss) (append-nil (sendings_of x)) in
    ap (map stream) more ∙ map-append stream (sendings_in (take i stmts)) (sendings_of x)

-- Marks of one list more
pub marks_more : (marks before after : List Bool) (ns more all : List ℕ) → before ≡ marked_at marks ns → after ≡ marked_at before more → all ≡ ns ++ more → after ≡ marked_at marks all
marks_more marks before after ns more all e f g = f ∙ ap (λ ms. marked_at ms more) e ∙ marked_append marks ns more ∙ ap (marked_at marks) (sym g)

-- ---- statements and expressions by their parts

looks_roll : (x : Stmt-F Stmt) → stmt_looks (roll-Stmt x) ≡ stmt_looks_step (map-Stmt Stmt (List ℕ) stmt_looks x)
looks_roll x = fold-roll-Stmt (List ℕ) stmt_looks_step x

pub looks_binary : (operator : Op2) (width : Width) (left right : Expr) → expr_looks (expr.Binary operator width left right) ≡ expr_looks left ++ expr_looks right
looks_binary operator width left right =
    ap expr_looks (sym (expr.rolls-Binary operator width left right)) ∙ fold-roll-Expr (List ℕ) expr_looks_step (Expr-F.Binary operator width left right)

pub looks_set_cell : (slot : ℕ) (index value : Expr) → stmt_looks (stmt.SetCell slot index value) ≡ expr_looks index ++ expr_looks value
looks_set_cell slot index value = ap stmt_looks (sym (stmt.rolls-SetCell slot index value)) ∙ looks_roll (Stmt-F.SetCell slot index value)

pub looks_if : (test : Expr) (branch : List Stmt) → stmt_looks (stmt.If test branch None) ≡ expr_looks test ++ looks_in branch
looks_if test branch = ap stmt_looks (sym (stmt.rolls-If test branch None)) ∙ looks_roll (Stmt-F.If test branch None)

pub looks_if_else : (test : Expr) (branch other : List Stmt) → stmt_looks (stmt.If test branch (Some other)) ≡ (expr_looks test ++ looks_in branch) ++ looks_in other
looks_if_else test branch other =
    ap stmt_looks (sym (stmt.rolls-If test branch (Some other))) ∙ looks_roll (Stmt-F.If test branch (Some other))
    ∙ sym (append_assoc (expr_looks test) (looks_in branch) (looks_in other))

pub looks_bounded : (test : Expr) (most : ℕ) (body : List Stmt) → stmt_looks (stmt.Bounded test most body) ≡ expr_looks test ++ looks_in body
looks_bounded test most body = ap stmt_looks (sym (stmt.rolls-Bounded test most body)) ∙ looks_roll (Stmt-F.Bounded test most body)

pub looks_timed : (test : Expr) (body : List Stmt) → stmt_looks (stmt.Timed test body) ≡ expr_looks test ++ looks_in body
looks_timed test body = ap stmt_looks (sym (stmt.rolls-Timed test body)) ∙ looks_roll (Stmt-F.Timed test body)

pub streams_if_else : (test : Expr) (branch other : List Stmt) → stmt_streams (stmt.If test branch (Some other)) ≡ streams_in branch ++ streams_in other
streams_if_else test branch other =
    let stream : Sending → ℕ = λ (s : Sending). s.stream in
    ap stmt_streams (sym (stmt.rolls-If test branch (Some other)))
    ∙ ap (map stream) (fold-roll-Stmt (List Sending) sendings_step (Stmt-F.If test branch (Some other)))
    ∙ map-append stream (sendings_in branch) (sendings_in other)

-- ---- what isn't marked

-- The number is one of these.
abbrev among : List ℕ → ℕ → Bool
among ns n = list_any (λ m. nat_eq m n) ns

marked_among : (marks : List Bool) (ns : List ℕ) → marked_at marks ns ≡ marked marks (among ns)
marked_among marks [] = sym (marked_none marks (among []) (λ q. refl))
marked_among marks (n ∷ ns) = marked_among (marked marks (λ q. nat_eq n q)) ns ∙ marked_both marks (λ q. nat_eq n q) (among ns)

pub length-marked_at : (count : ℕ) (ns : List ℕ) → length (marked_at (replicate count false) ns) ≡ count
length-marked_at count ns = ap length (marked_among (replicate count false) ns) ∙ length-marked 0 (replicate count false) (among ns) ∙ length-replicate count false

-- It isn't among the numbers.
pub unmarked : (count : ℕ) (ns : List ℕ) (marks : List Bool) (n : ℕ) → marks ≡ marked_at (replicate count false) ns → n < count → get_or marks n false ≡ false → Contains ns n → ⊥
unmarked count ns marks n is less not (k, inside, same) =
    let here : among ns n ≡ true = list_any_at (λ m. nat_eq m n) ns k n inside (let e : nat_eq (get_or ns k n) n ≡ true = grind (arith, same) in e) in
    let zeroed : among ns (0 + n) ≡ true = ap (among ns) (let z : 0 + n ≡ n = omega arith in z) ∙ here in
    let set : slice_get marks n ≡ Some true = ap (λ ms. slice_get ms n) (is ∙ marked_among (replicate count false) ns) ∙ set_marked 0 count n (among ns) less zeroed in
    let within : n < length marks = omega (arith, less, ap length is, length-marked_at count ns) in
    let read : slice_get marks n ≡ Some false = slice_get-get_or marks n false within ∙ ap Some not in
    false≢true (same_Some false true (sym read ∙ set))
