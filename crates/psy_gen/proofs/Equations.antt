-- The code and the size of each kind of expression and statement.
use Rattle.std.proofs.Common.{◌≡◌, ℕ, ◌+◌, List, [], ◌∷◌, ◌++◌, map, refl, sym, ap, ◌∙◌, inl, inr, arith, append_assoc}
use Rattle.std.specs.Prelude.{◌⊎◌, Option, Some, None, ℤ, ◌≤◌}
use Rattle.psy_arith.specs.declared.operators.Op1.{Op1}
use Rattle.psy_arith.specs.declared.operators.Op2.{Op2}
use Rattle.psy_arith.specs.declared.operators.Op2.TheVariants as op
use Rattle.psy_arith.specs.declared.width.Width.{Width}
use Rattle.psy_code.specs.declared.instr.Instr.{Instr}
use Rattle.psy_code.specs.declared.instr.Instr.TheVariants as instr
use Rattle.psy_tree.specs.declared.unit.Expr.{Expr, roll-Expr, map-Expr, para-roll-Expr, fold-roll-Expr}
use Rattle.psy_tree.specs.declared.unit.Expr.TheVariants as expr
use Rattle.psy_tree.specs.declared.unit.Expr.TheOpen.{Expr-F}
use Rattle.psy_tree.specs.declared.unit.Stmt.{Stmt, roll-Stmt, map-Stmt, para-roll-Stmt, fold-roll-Stmt}
use Rattle.psy_tree.specs.declared.unit.Stmt.TheVariants as stmt
use Rattle.psy_tree.specs.declared.unit.Stmt.TheOpen.{Stmt-F}
use Rattle.psy_tree.specs.Paths.{total}
use Rattle.psy_meaning.specs.Sizes.{binary_size, expr_size, expr_size_step, stmt_size, stmt_size_step, stmts_size}
use Rattle.psy_meaning.specs.Depths.{loops, loops_in, loops_step}
use Rattle.psy_gen.specs.Emission.{Layout, Emit, Operand, Coded, Part, Places, Placed, base_of, cells_in_slot, width_of_unary, expr_code, expr_code_step, binary_code, arguments_code, stmt_code, stmt_code_step, stmts_code, block_size, block_loops, places_of, places_step, stmts_places, placed_size}

-- ---- expressions

-- An expression beside its code
abbrev pub operand : Layout → Expr → Operand
operand layout e = (e, expr_code layout e)

pub code_roll : (layout : Layout) (x : Expr-F Expr) (p : ℕ) → expr_code layout (roll-Expr x) p ≡ expr_code_step layout (map-Expr Expr Operand (operand layout) x) p
code_roll layout x p = ap (λ (c : Emit). c p) (para-roll-Expr Emit (expr_code_step layout) x)

code_rolled : (layout : Layout) (e : Expr) (x : Expr-F Expr) (p : ℕ) → roll-Expr x ≡ e → expr_code layout e p ≡ expr_code_step layout (map-Expr Expr Operand (operand layout) x) p
code_rolled layout e x p is = ap (λ z. expr_code layout z p) (sym is) ∙ code_roll layout x p

pub code_number : (layout : Layout) (number : ℤ) (p : ℕ) → expr_code layout (expr.Number number) p ≡ instr.Push number ∷ []
code_number layout number p = code_rolled layout (expr.Number number) (Expr-F.Number number) p (expr.rolls-Number number)

pub code_slot : (layout : Layout) (slot p : ℕ) → expr_code layout (expr.Slot slot) p ≡ instr.Load (base_of layout slot) ∷ []
code_slot layout slot p = code_rolled layout (expr.Slot slot) (Expr-F.Slot slot) p (expr.rolls-Slot slot)

pub code_copy : (layout : Layout) (variable p : ℕ) → expr_code layout (expr.Copy variable) p ≡ instr.LoadCopy variable ∷ []
code_copy layout variable p = code_rolled layout (expr.Copy variable) (Expr-F.Copy variable) p (expr.rolls-Copy variable)

pub code_cell : (layout : Layout) (slot : ℕ) (index : Expr) (p : ℕ) → expr_code layout (expr.Cell slot index) p ≡ expr_code layout index p ++ instr.LoadCell (base_of layout slot) (cells_in_slot layout slot) ∷ []
code_cell layout slot index p = code_rolled layout (expr.Cell slot index) (Expr-F.Cell slot index) p (expr.rolls-Cell slot index)

pub code_past : (layout : Layout) (variable back p : ℕ) → expr_code layout (expr.Past variable back) p ≡ instr.Past variable back ∷ []
code_past layout variable back p = code_rolled layout (expr.Past variable back) (Expr-F.Past variable back) p (expr.rolls-Past variable back)

pub code_ready : (layout : Layout) (stream p : ℕ) → expr_code layout (expr.Ready stream) p ≡ instr.Ready stream ∷ []
code_ready layout stream p = code_rolled layout (expr.Ready stream) (Expr-F.Ready stream) p (expr.rolls-Ready stream)

pub code_take : (layout : Layout) (stream p : ℕ) → expr_code layout (expr.Take stream) p ≡ instr.Take stream ∷ []
code_take layout stream p = code_rolled layout (expr.Take stream) (Expr-F.Take stream) p (expr.rolls-Take stream)

pub code_unary : (layout : Layout) (o : Op1) (w : Width) (e : Expr) (p : ℕ) → expr_code layout (expr.Unary o w e) p ≡ expr_code layout e p ++ instr.Unary o (width_of_unary o w) ∷ []
code_unary layout o w e p = code_rolled layout (expr.Unary o w e) (Expr-F.Unary o w e) p (expr.rolls-Unary o w e)

pub code_cast : (layout : Layout) (w : Width) (e : Expr) (p : ℕ) → expr_code layout (expr.Cast w e) p ≡ expr_code layout e p ++ instr.Cast w ∷ []
code_cast layout w e p = code_rolled layout (expr.Cast w e) (Expr-F.Cast w e) p (expr.rolls-Cast w e)

pub code_binary : (layout : Layout) (o : Op2) (w : Width) (l r : Expr) (p : ℕ) → expr_code layout (expr.Binary o w l r) p ≡ binary_code o w (operand layout l) (operand layout r) p
code_binary layout o w l r p = code_rolled layout (expr.Binary o w l r) (Expr-F.Binary o w l r) p (expr.rolls-Binary o w l r)

-- An operator that evaluates both its sides
pub binary_eager : (o : Op2) (w : Width) (l r : Operand) (p : ℕ) → (o ≡ op.AndAnd → ⊥) → (o ≡ op.OrOr → ⊥)
    → binary_code o w l r p ≡ l.1 p ++ (r.1 (p + expr_size l.0) ++ instr.Binary o w ∷ [])
binary_eager op.AndAnd w l r p x y = elim (x refl) [ ]
binary_eager op.OrOr w l r p x y = elim (y refl) [ ]
binary_eager o w l r p x y = refl

pub code_call : (layout : Layout) (function : ℕ) (arguments : List Expr) (p : ℕ) → expr_code layout (expr.Call function arguments) p ≡ arguments_code (map (operand layout) arguments) (instr.Call function ∷ []) p
code_call layout function arguments p = code_rolled layout (expr.Call function arguments) (Expr-F.Call function arguments) p (expr.rolls-Call function arguments)

pub size_roll : (x : Expr-F Expr) → expr_size (roll-Expr x) ≡ expr_size_step (map-Expr Expr ℕ expr_size x)
size_roll x = fold-roll-Expr ℕ expr_size_step x

size_rolled : (e : Expr) (x : Expr-F Expr) → roll-Expr x ≡ e → expr_size e ≡ expr_size_step (map-Expr Expr ℕ expr_size x)
size_rolled e x is = ap expr_size (sym is) ∙ size_roll x

pub size_cell : (slot : ℕ) (index : Expr) → expr_size (expr.Cell slot index) ≡ expr_size index + 1
size_cell slot index = size_rolled (expr.Cell slot index) (Expr-F.Cell slot index) (expr.rolls-Cell slot index)

pub size_unary : (o : Op1) (w : Width) (e : Expr) → expr_size (expr.Unary o w e) ≡ expr_size e + 1
size_unary o w e = size_rolled (expr.Unary o w e) (Expr-F.Unary o w e) (expr.rolls-Unary o w e)

pub size_cast : (w : Width) (e : Expr) → expr_size (expr.Cast w e) ≡ expr_size e + 1
size_cast w e = size_rolled (expr.Cast w e) (Expr-F.Cast w e) (expr.rolls-Cast w e)

pub size_binary : (o : Op2) (w : Width) (l r : Expr) → expr_size (expr.Binary o w l r) ≡ expr_size l + (expr_size r + binary_size o)
size_binary o w l r = size_rolled (expr.Binary o w l r) (Expr-F.Binary o w l r) (expr.rolls-Binary o w l r)

-- A test and the truth of the right side
pub size_lazy : (o : Op2) → (o ≡ op.AndAnd) ⊎ (o ≡ op.OrOr) → binary_size o ≡ 2
size_lazy o (inl is) = ap binary_size is
size_lazy o (inr is) = ap binary_size is

pub size_call : (function : ℕ) (arguments : List Expr) → expr_size (expr.Call function arguments) ≡ total (map expr_size arguments) + 1
size_call function arguments = size_rolled (expr.Call function arguments) (Expr-F.Call function arguments) (expr.rolls-Call function arguments)

-- What stands behind the arguments
pub arguments_behind : (operands : List Operand) (behind : List Instr) (p : ℕ) → arguments_code operands behind p ≡ arguments_code operands [] p ++ behind
arguments_behind [] behind p = refl
arguments_behind (a ∷ rest) behind p = ap (λ c. a.1 p ++ c) (arguments_behind rest behind (p + expr_size a.0)) ∙ sym (append_assoc (a.1 p) (arguments_code rest [] (p + expr_size a.0)) behind)

-- ---- blocks

-- A statement beside its code, and beside its places
abbrev pub part : Layout → Stmt → Part
part layout s = (s, stmt_code layout s)

abbrev pub placed : Stmt → Placed
placed s = (s, places_of s)

pub block_size_is : (layout : Layout) (ss : List Stmt) → block_size (map (part layout) ss) ≡ stmts_size ss
block_size_is layout [] = refl
block_size_is layout (s ∷ ss) = ap (λ n. stmt_size s + n) (block_size_is layout ss)

pub block_loops_is : (layout : Layout) (ss : List Stmt) → block_loops (map (part layout) ss) ≡ loops_in ss
block_loops_is layout [] = refl
block_loops_is layout (s ∷ ss) = ap (λ n. loops s + n) (block_loops_is layout ss)

pub placed_size_is : (ss : List Stmt) → placed_size (map placed ss) ≡ stmts_size ss
placed_size_is [] = refl
placed_size_is (s ∷ ss) = ap (λ n. stmt_size s + n) (placed_size_is ss)

-- ---- statements

pub stmt_roll : (layout : Layout) (x : Stmt-F Stmt) (counter p : ℕ) → stmt_code layout (roll-Stmt x) counter p ≡ stmt_code_step layout (map-Stmt Stmt Part (part layout) x) counter p
stmt_roll layout x counter p = ap (λ (c : Coded). c counter p) (para-roll-Stmt Coded (stmt_code_step layout) x)

stmt_rolled : (layout : Layout) (s : Stmt) (x : Stmt-F Stmt) (counter p : ℕ) → roll-Stmt x ≡ s → stmt_code layout s counter p ≡ stmt_code_step layout (map-Stmt Stmt Part (part layout) x) counter p
stmt_rolled layout s x counter p is = ap (λ z. stmt_code layout z counter p) (sym is) ∙ stmt_roll layout x counter p

pub code_set : (layout : Layout) (slot : ℕ) (value : Expr) (counter p : ℕ) → stmt_code layout (stmt.Set slot value) counter p ≡ expr_code layout value p ++ instr.Store (base_of layout slot) ∷ []
code_set layout slot value counter p = stmt_rolled layout (stmt.Set slot value) (Stmt-F.Set slot value) counter p (stmt.rolls-Set slot value)

pub code_set_copy : (layout : Layout) (variable : ℕ) (value : Expr) (counter p : ℕ) → stmt_code layout (stmt.SetCopy variable value) counter p ≡ expr_code layout value p ++ instr.StoreCopy variable ∷ []
code_set_copy layout variable value counter p = stmt_rolled layout (stmt.SetCopy variable value) (Stmt-F.SetCopy variable value) counter p (stmt.rolls-SetCopy variable value)

pub code_set_cell : (layout : Layout) (slot : ℕ) (index value : Expr) (counter p : ℕ) →
    stmt_code layout (stmt.SetCell slot index value) counter p ≡ expr_code layout index p ++ (expr_code layout value (p + expr_size index) ++ instr.StoreCell (base_of layout slot) (cells_in_slot layout slot) ∷ [])
code_set_cell layout slot index value counter p = stmt_rolled layout (stmt.SetCell slot index value) (Stmt-F.SetCell slot index value) counter p (stmt.rolls-SetCell slot index value)

pub code_send : (layout : Layout) (value : Expr) (stream after clock counter p : ℕ) → stmt_code layout (stmt.Send value stream after clock) counter p ≡ expr_code layout value p ++ instr.Send stream after clock ∷ []
code_send layout value stream after clock counter p = stmt_rolled layout (stmt.Send value stream after clock) (Stmt-F.Send value stream after clock) counter p (stmt.rolls-Send value stream after clock)

pub code_advance : (layout : Layout) (point counter p : ℕ) → stmt_code layout (stmt.Advance point) counter p ≡ instr.Advance point ∷ []
code_advance layout point counter p = stmt_rolled layout (stmt.Advance point) (Stmt-F.Advance point) counter p (stmt.rolls-Advance point)

pub code_return : (layout : Layout) (value : Expr) (counter p : ℕ) → stmt_code layout (stmt.Return value) counter p ≡ expr_code layout value p ++ instr.Return ∷ []
code_return layout value counter p = stmt_rolled layout (stmt.Return value) (Stmt-F.Return value) counter p (stmt.rolls-Return value)

pub code_if : (layout : Layout) (test : Expr) (branch : List Stmt) (counter p : ℕ) →
    stmt_code layout (stmt.If test branch None) counter p ≡ expr_code layout test p ++ (instr.JumpZero (p + expr_size test + 1 + stmts_size branch) ∷ stmts_code layout branch counter (p + expr_size test + 1))
code_if layout test branch counter p =
    stmt_rolled layout (stmt.If test branch None) (Stmt-F.If test branch None) counter p (stmt.rolls-If test branch None)
    ∙ ap (λ n. expr_code layout test p ++ (instr.JumpZero (p + expr_size test + 1 + n) ∷ stmts_code layout branch counter (p + expr_size test + 1))) (block_size_is layout branch)

pub code_if_else : (layout : Layout) (test : Expr) (branch other : List Stmt) (counter p : ℕ) →
    stmt_code layout (stmt.If test branch (Some other)) counter p ≡
    (let first = p + expr_size test + 1 in
    let second = first + stmts_size branch + 1 in
    expr_code layout test p ++ (instr.JumpZero second ∷ (stmts_code layout branch counter first ++ (instr.Jump (second + stmts_size other) ∷ stmts_code layout other (counter + loops_in branch) second))))
code_if_else layout test branch other counter p =
    stmt_rolled layout (stmt.If test branch (Some other)) (Stmt-F.If test branch (Some other)) counter p (stmt.rolls-If test branch (Some other))
    ∙ rw (block_size_is layout branch, block_size_is layout other, block_loops_is layout branch) refl

pub code_bounded : (layout : Layout) (test : Expr) (most : ℕ) (body : List Stmt) (counter p : ℕ) →
    stmt_code layout (stmt.Bounded test most body) counter p ≡
    (let again = p + 1 in
    let first = again + expr_size test + 2 in
    instr.Zero counter ∷ (expr_code layout test again ++ (instr.Guard counter most ∷ (instr.JumpZero (first + stmts_size body + 1) ∷ (stmts_code layout body (counter + 1) first ++ instr.Jump again ∷ [])))))
code_bounded layout test most body counter p =
    stmt_rolled layout (stmt.Bounded test most body) (Stmt-F.Bounded test most body) counter p (stmt.rolls-Bounded test most body)
    ∙ rw (block_size_is layout body) refl

pub code_timed : (layout : Layout) (test : Expr) (body : List Stmt) (counter p : ℕ) →
    stmt_code layout (stmt.Timed test body) counter p ≡
    (let first = p + expr_size test + 1 in
    expr_code layout test p ++ (instr.JumpZero (first + stmts_size body + 1) ∷ (stmts_code layout body counter first ++ instr.Jump p ∷ [])))
code_timed layout test body counter p =
    stmt_rolled layout (stmt.Timed test body) (Stmt-F.Timed test body) counter p (stmt.rolls-Timed test body)
    ∙ rw (block_size_is layout body) refl

pub stmt_size_roll : (x : Stmt-F Stmt) → stmt_size (roll-Stmt x) ≡ stmt_size_step (map-Stmt Stmt ℕ stmt_size x)
stmt_size_roll x = fold-roll-Stmt ℕ stmt_size_step x

size_of : (s : Stmt) (x : Stmt-F Stmt) → roll-Stmt x ≡ s → stmt_size s ≡ stmt_size_step (map-Stmt Stmt ℕ stmt_size x)
size_of s x is = ap stmt_size (sym is) ∙ stmt_size_roll x

pub size_set : (slot : ℕ) (value : Expr) → stmt_size (stmt.Set slot value) ≡ expr_size value + 1
size_set slot value = size_of (stmt.Set slot value) (Stmt-F.Set slot value) (stmt.rolls-Set slot value)

pub size_set_copy : (variable : ℕ) (value : Expr) → stmt_size (stmt.SetCopy variable value) ≡ expr_size value + 1
size_set_copy variable value = size_of (stmt.SetCopy variable value) (Stmt-F.SetCopy variable value) (stmt.rolls-SetCopy variable value)

pub size_set_cell : (slot : ℕ) (index value : Expr) → stmt_size (stmt.SetCell slot index value) ≡ expr_size index + (expr_size value + 1)
size_set_cell slot index value = size_of (stmt.SetCell slot index value) (Stmt-F.SetCell slot index value) (stmt.rolls-SetCell slot index value)

pub size_if : (test : Expr) (branch : List Stmt) → stmt_size (stmt.If test branch None) ≡ expr_size test + 1 + stmts_size branch
size_if test branch = size_of (stmt.If test branch None) (Stmt-F.If test branch None) (stmt.rolls-If test branch None) ∙ omega arith

pub size_if_else : (test : Expr) (branch other : List Stmt) → stmt_size (stmt.If test branch (Some other)) ≡ expr_size test + 1 + (stmts_size branch + (stmts_size other + 1))
size_if_else test branch other = size_of (stmt.If test branch (Some other)) (Stmt-F.If test branch (Some other)) (stmt.rolls-If test branch (Some other))

-- As far as the second branch, be there one or not
pub size_if_front : (test : Expr) (branch : List Stmt) (other : Option (List Stmt)) → expr_size test + 1 + stmts_size branch ≤ stmt_size (stmt.If test branch other)
size_if_front test branch None = omega (arith, size_if test branch)
size_if_front test branch (Some other) = omega (arith, size_if_else test branch other)

pub size_bounded : (test : Expr) (most : ℕ) (body : List Stmt) → stmt_size (stmt.Bounded test most body) ≡ expr_size test + 4 + stmts_size body
size_bounded test most body = size_of (stmt.Bounded test most body) (Stmt-F.Bounded test most body) (stmt.rolls-Bounded test most body)

pub size_timed : (test : Expr) (body : List Stmt) → stmt_size (stmt.Timed test body) ≡ expr_size test + 2 + stmts_size body
size_timed test body = size_of (stmt.Timed test body) (Stmt-F.Timed test body) (stmt.rolls-Timed test body)

pub size_send : (value : Expr) (stream after clock : ℕ) → stmt_size (stmt.Send value stream after clock) ≡ expr_size value + 1
size_send value stream after clock = size_of (stmt.Send value stream after clock) (Stmt-F.Send value stream after clock) (stmt.rolls-Send value stream after clock)

pub size_advance : (point : ℕ) → stmt_size (stmt.Advance point) ≡ 1
size_advance point = size_of (stmt.Advance point) (Stmt-F.Advance point) (stmt.rolls-Advance point)

pub size_return : (value : Expr) → stmt_size (stmt.Return value) ≡ expr_size value + 1
size_return value = size_of (stmt.Return value) (Stmt-F.Return value) (stmt.rolls-Return value)

-- ---- loops

loops_rolled : (s : Stmt) (x : Stmt-F Stmt) → roll-Stmt x ≡ s → loops s ≡ loops_step (map-Stmt Stmt ℕ loops x)
loops_rolled s x is = ap loops (sym is) ∙ fold-roll-Stmt ℕ loops_step x

pub loops_if : (test : Expr) (branch : List Stmt) → loops (stmt.If test branch None) ≡ loops_in branch
loops_if test branch = loops_rolled (stmt.If test branch None) (Stmt-F.If test branch None) (stmt.rolls-If test branch None) ∙ omega arith

pub loops_if_else : (test : Expr) (branch other : List Stmt) → loops (stmt.If test branch (Some other)) ≡ loops_in branch + loops_in other
loops_if_else test branch other = loops_rolled (stmt.If test branch (Some other)) (Stmt-F.If test branch (Some other)) (stmt.rolls-If test branch (Some other))

pub loops_if_front : (test : Expr) (branch : List Stmt) (other : Option (List Stmt)) → loops_in branch ≤ loops (stmt.If test branch other)
loops_if_front test branch None = omega (arith, loops_if test branch)
loops_if_front test branch (Some other) = omega (arith, loops_if_else test branch other)

pub loops_bounded : (test : Expr) (most : ℕ) (body : List Stmt) → loops (stmt.Bounded test most body) ≡ loops_in body + 1
loops_bounded test most body = loops_rolled (stmt.Bounded test most body) (Stmt-F.Bounded test most body) (stmt.rolls-Bounded test most body)

pub loops_timed : (test : Expr) (body : List Stmt) → loops (stmt.Timed test body) ≡ loops_in body
loops_timed test body = loops_rolled (stmt.Timed test body) (Stmt-F.Timed test body) (stmt.rolls-Timed test body)

-- ---- places

places_rolled : (s : Stmt) (x : Stmt-F Stmt) (p : ℕ) → roll-Stmt x ≡ s → places_of s p ≡ places_step (map-Stmt Stmt Placed placed x) p
places_rolled s x p is = ap (λ z. places_of z p) (sym is) ∙ ap (λ (c : Places). c p) (para-roll-Stmt Places places_step x)

pub places_set : (slot : ℕ) (value : Expr) (p : ℕ) → places_of (stmt.Set slot value) p ≡ []
places_set slot value p = places_rolled (stmt.Set slot value) (Stmt-F.Set slot value) p (stmt.rolls-Set slot value)

pub places_set_copy : (variable : ℕ) (value : Expr) (p : ℕ) → places_of (stmt.SetCopy variable value) p ≡ []
places_set_copy variable value p = places_rolled (stmt.SetCopy variable value) (Stmt-F.SetCopy variable value) p (stmt.rolls-SetCopy variable value)

pub places_set_cell : (slot : ℕ) (index value : Expr) (p : ℕ) → places_of (stmt.SetCell slot index value) p ≡ []
places_set_cell slot index value p = places_rolled (stmt.SetCell slot index value) (Stmt-F.SetCell slot index value) p (stmt.rolls-SetCell slot index value)

pub places_send : (value : Expr) (stream after clock p : ℕ) → places_of (stmt.Send value stream after clock) p ≡ []
places_send value stream after clock p = places_rolled (stmt.Send value stream after clock) (Stmt-F.Send value stream after clock) p (stmt.rolls-Send value stream after clock)

pub places_advance : (point p : ℕ) → places_of (stmt.Advance point) p ≡ (p + 1) ∷ []
places_advance point p = places_rolled (stmt.Advance point) (Stmt-F.Advance point) p (stmt.rolls-Advance point)

pub places_return : (value : Expr) (p : ℕ) → places_of (stmt.Return value) p ≡ []
places_return value p = places_rolled (stmt.Return value) (Stmt-F.Return value) p (stmt.rolls-Return value)

pub places_if : (test : Expr) (branch : List Stmt) (p : ℕ) → places_of (stmt.If test branch None) p ≡ stmts_places branch (p + expr_size test + 1)
places_if test branch p = places_rolled (stmt.If test branch None) (Stmt-F.If test branch None) p (stmt.rolls-If test branch None)

pub places_if_else : (test : Expr) (branch other : List Stmt) (p : ℕ) →
    places_of (stmt.If test branch (Some other)) p ≡ stmts_places branch (p + expr_size test + 1) ++ stmts_places other (p + expr_size test + 1 + stmts_size branch + 1)
places_if_else test branch other p =
    places_rolled (stmt.If test branch (Some other)) (Stmt-F.If test branch (Some other)) p (stmt.rolls-If test branch (Some other))
    ∙ ap (λ n. stmts_places branch (p + expr_size test + 1) ++ stmts_places other (p + expr_size test + 1 + n + 1)) (placed_size_is branch)

pub places_bounded : (test : Expr) (most : ℕ) (body : List Stmt) (p : ℕ) → places_of (stmt.Bounded test most body) p ≡ stmts_places body (p + 1 + expr_size test + 2)
places_bounded test most body p = places_rolled (stmt.Bounded test most body) (Stmt-F.Bounded test most body) p (stmt.rolls-Bounded test most body)

pub places_timed : (test : Expr) (body : List Stmt) (p : ℕ) → places_of (stmt.Timed test body) p ≡ stmts_places body (p + expr_size test + 1)
places_timed test body p = places_rolled (stmt.Timed test body) (Stmt-F.Timed test body) p (stmt.rolls-Timed test body)
