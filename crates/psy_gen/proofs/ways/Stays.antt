-- The code of an agent stays in itself, and what it names is there.
use Rattle.std.proofs.Common.{◌≡◌, ℕ, suc, ◌+◌, ◌<◌, ◌≤◌, List, [], ◌∷◌, ◌++◌, map, length, Some, None, refl, sym, ap, subst, ◌∙◌, inl, inr, arith}
use Rattle.std.specs.Prelude.{slice_get, true, ◌==◌, ◌⊎◌, ⊤}
use Rattle.std.proofs.lemmas.List.{length-map}
use Rattle.std.proofs.Math.Nat.{eq-or-lt_of_le}
use Rattle.std.proofs.lemmas.Option.{slice_get_within}
use Rattle.psy_lists.proofs.lemmas.Tests.{differ}
use Rattle.psy_arith.specs.declared.operators.Op2.{Op2}
use Rattle.psy_arith.specs.declared.operators.Op2.TheVariants as op
use Rattle.psy_arith.specs.declared.width.Width.{Width}
use Rattle.psy_code.specs.declared.instr.Instr.{Instr}
use Rattle.psy_code.specs.declared.instr.Instr.TheVariants as instr
use Rattle.psy_tree.specs.declared.unit.AgentDecl.{AgentDecl}
use Rattle.psy_tree.specs.declared.unit.Expr.{Expr, roll-Expr, map-Expr, rec-roll-Expr, ind-Expr}
use Rattle.psy_tree.specs.declared.unit.Expr.TheOpen.{Expr-F}
use Rattle.psy_tree.specs.declared.unit.Stmt.{Stmt, roll-Stmt, map-Stmt, para-roll-Stmt, rec-roll-Stmt, ind-Stmt}
use Rattle.psy_tree.specs.declared.unit.Stmt.TheOpen.{Stmt-F}
use Rattle.psy_tree.specs.declared.unit.Unit.{Unit as Whole}
use Rattle.psy_tree.specs.Paths.{total}
use Rattle.psy_meaning.specs.CodeWays.{GoesOn, NamesThere}
use Rattle.psy_meaning.specs.Depths.{loops}
use Rattle.psy_meaning.specs.Sizes.{binary_size, expr_size, expr_size_step, stmt_size, stmts_size, stmt_size_step}
use Rattle.psy_meaning.specs.Sound.{Scope, Each, HasCopy, HasStream, IsSoundExpr, IsSoundStmt, agent_scope, sound_expr_step, sound_stmt_step}
use Rattle.psy_meaning.proofs.lemmas.Eaches.{each-append}
use Rattle.psy_meaning.proofs.lemmas.SoundParts.{exprs_natural, stmts_natural}
use Rattle.psy_gen.specs.Emission.{Layout, Operand, Part, Placed, Places, base_of, cells_in_slot, width_of_unary, binary_code, arguments_code, expr_code_step, expr_code}
use Rattle.psy_gen.specs.Emission.{block_size, block_loops, placed_size, if_code, bounded_code, timed_code, stmt_code_step, stmt_code, stmts_code, places_in}
use Rattle.psy_gen.specs.Emission.{places_step, places_of}
use Rattle.psy_gen.proofs.Contexts.{HasAt}
use Rattle.psy_gen.proofs.Basics.{some_is}
use Rattle.psy_gen.proofs.Equations.{operand, code_roll, size_roll, part, placed, block_size_is, placed_size_is, stmt_roll, stmt_size_roll}
use Rattle.psy_gen.proofs.Lengths.{expr_length, stmt_length, stmts_length}
use Rattle.psy_gen.proofs.ways.Kinds.{IsPlain, Forks, plain_on, fork_on}
use Rattle.psy_gen.proofs.ways.Owned.{owned_low}

module _ (unit : Whole) (number : ℕ) (agent : AgentDecl) (low high : ℕ) where
  abbrev sc : Scope
  sc = agent_scope unit number agent

  abbrev pub IsIn : ℕ → Type 0
  IsIn place = (low ≤ place) × (place ≤ high)

  -- The instruction at the place goes on within the code, and names what is there.
  pub record Remains (i : Instr) (place : ℕ) : Type 0 where
    pub on : (next : ℕ) → GoesOn i place next → IsIn next
    pub named : NamesThere unit agent i

  abbrev Stays : ℕ → List Instr → Type 0
  Stays p [] = ⊤
  Stays p (i ∷ is) = Remains i p × Stays (p + 1) is

  stays_more : (a b : List Instr) (p : ℕ) → Stays p a → Stays (p + length a) b → Stays p (a ++ b)
  stays_more [] b p g h = let z : p + 0 ≡ p = omega arith in subst (λ q. Stays q b) z h
  stays_more (i ∷ a) b p g h = let next : p + suc (length a) ≡ p + 1 + length a = omega arith in
      (g.0, stays_more a b (p + 1) g.1 (subst (λ q. Stays q b) next h))

  -- ---- instructions

  plain : (i : Instr) (p : ℕ) → IsPlain i → NamesThere unit agent i → low ≤ p → p + 1 ≤ high → Remains i p
  plain i p is there above below = record {
    on = λ next e.
        (let goes = plain_on i p next is e in (omega (arith, goes, above), omega (arith, goes, below)));
    named = there;
  }

  fork_names : (i : Instr) (to : ℕ) → Forks i to → NamesThere unit agent i
  fork_names (instr.LoadCopy variable) to h = absurd h
  fork_names (instr.StoreCopy variable) to h = absurd h
  fork_names (instr.Past variable back) to h = absurd h
  fork_names (instr.Ready stream) to h = absurd h
  fork_names (instr.Take stream) to h = absurd h
  fork_names (instr.Send stream after clock) to h = absurd h
  fork_names (instr.Advance point) to h = absurd h
  fork_names _ to h = tt {0}

  fork : (i : Instr) (p to : ℕ) → Forks i to → low ≤ p → p + 1 ≤ high → IsIn to → Remains i p
  fork i p to forks above below there = record { on = λ next e. by next (fork_on i p to next forks e); named = fork_names i to forks }
    where
      by : (next : ℕ) → (next ≡ p + 1) ⊎ (next ≡ to) → IsIn next
      by next (inl e) = (omega (arith, e, above), omega (arith, e, below))
      by next (inr e) = (omega (arith, e, there.0), omega (arith, e, there.1))

  jump : (p to : ℕ) → IsIn to → Remains (instr.Jump to) p
  jump p to there = record { on = λ next e. subst IsIn (sym e) there; named = tt {0} }

  -- ---- names

  copy_there : (variable : ℕ) → HasCopy sc variable → variable < length unit.variables
  copy_there variable (place, got) = owned_low number 0 (length unit.variables) place variable unit.variables (omega arith) got

  stream_there : (stream : ℕ) → HasStream sc stream → stream < length unit.streams
  stream_there stream got = omega (arith, slice_get_within sc.streams stream true got, length-map unit.streams (λ s. s.receiver == number))

  -- ---- expressions

  module _ (layout : Layout) where
    abbrev E : Expr → Type 0
    E e = (p : ℕ) → low ≤ p → p + expr_size e ≤ high → IsSoundExpr sc e → Stays p (expr_code layout e p)

    abbrev Known : Type 0
    Known = (e : Expr) × E e

    abbrev tree : Known → Expr
    tree k = k.0

    behind : (e : Expr) (p : ℕ) (rest : List Instr) → Stays p (expr_code layout e p) → Stays (p + expr_size e) rest → Stays p (expr_code layout e p ++ rest)
    behind e p rest g h = stays_more (expr_code layout e p) rest p g (subst (λ n. Stays (p + n) rest) (sym (expr_length layout e p)) h)

    through : (ks : List Known) (rest : List Instr) (p : ℕ) → low ≤ p → p + total (map expr_size (map tree ks)) ≤ high → Each (IsSoundExpr sc) (map tree ks)
        → Stays (p + total (map expr_size (map tree ks))) rest
        → Stays p (arguments_code (map (operand layout) (map tree ks)) rest p)
    through [] rest p above below sound h = let z : p + 0 ≡ p = omega arith in subst (λ q. Stays q rest) z h
    through (k ∷ ks) rest p above below sound h =
        let n = expr_size k.0 in
        let more = total (map expr_size (map tree ks)) in
        let place : p + (n + more) ≡ p + n + more = omega arith in
        behind k.0 p (arguments_code (map (operand layout) (map tree ks)) rest (p + n)) (k.1 p above (omega (arith, below)) sound.0)
        (through ks rest (p + n) (omega (arith, above)) (omega (arith, below)) sound.1 (subst (λ q. Stays q rest) place h))

    eager : (o : Op2) (w : Width) (l r : Known) (p : ℕ) → low ≤ p → p + (expr_size l.0 + (expr_size r.0 + 1)) ≤ high → IsSoundExpr sc l.0 → IsSoundExpr sc r.0
        → Stays p (expr_code layout l.0 p ++ (expr_code layout r.0 (p + expr_size l.0) ++ instr.Binary o w ∷ []))
    eager o w l r p above below first second =
        let a = expr_size l.0 in
        let b = expr_size r.0 in
        behind l.0 p (expr_code layout r.0 (p + a) ++ instr.Binary o w ∷ []) (l.1 p above (omega (arith, below)) first)
        (behind r.0 (p + a) (instr.Binary o w ∷ []) (r.1 (p + a) (omega (arith, above)) (omega (arith, below)) second)
        (plain (instr.Binary o w) (p + a + b) (tt {0}) (tt {0}) (omega (arith, above)) (omega (arith, below)), tt {0}))

    lazy : (test : ℕ → Instr) (forks : (to : ℕ) → Forks (test to) to) (l r : Known) (p : ℕ) → low ≤ p → p + (expr_size l.0 + (expr_size r.0 + 2)) ≤ high
        → IsSoundExpr sc l.0 → IsSoundExpr sc r.0
        → Stays p (expr_code layout l.0 p ++
        (test (p + expr_size l.0 + 1 + expr_size r.0 + 1) ∷ (expr_code layout r.0 (p + expr_size l.0 + 1) ++ instr.Truth ∷ [])))
    lazy test forks l r p above below first second =
        let a = expr_size l.0 in
        let b = expr_size r.0 in
        let middle = p + a + 1 in
        let to = middle + b + 1 in
        behind l.0 p (test to ∷ (expr_code layout r.0 middle ++ instr.Truth ∷ [])) (l.1 p above (omega (arith, below)) first) (
          fork (test to) (p + a) to (forks to) (omega (arith, above)) (omega (arith, below)) (omega (arith, above), omega (arith, below)),
          behind r.0 middle (instr.Truth ∷ []) (r.1 middle (omega (arith, above)) (omega (arith, below)) second)
              (plain instr.Truth (middle + b) (tt {0}) (tt {0}) (omega (arith, above)) (omega (arith, below)), tt {0}),
        )

    binary : (o : Op2) (w : Width) (l r : Known) (p : ℕ) → low ≤ p → p + (expr_size l.0 + (expr_size r.0 + binary_size o)) ≤ high → IsSoundExpr sc l.0
        → IsSoundExpr sc r.0
        → Stays p (binary_code o w (operand layout l.0) (operand layout r.0) p)
    binary op.AndAnd w l r p above below first second = lazy instr.AndTest (λ to. refl) l r p above below first second
    binary op.OrOr w l r p above below first second = lazy instr.OrTest (λ to. refl) l r p above below first second
    binary o w l r p above below first second = eager o w l r p above below first second

    leaf : (i : Instr) (p : ℕ) → IsPlain i → NamesThere unit agent i → low ≤ p → p + 1 ≤ high → Stays p (i ∷ [])
    leaf i p is there above below = (plain i p is there above below, tt {0})

    step : (y : Expr-F Known) (p : ℕ) → let x = map-Expr Known Expr tree y in low ≤ p → p + expr_size_step (map-Expr Expr ℕ expr_size x) ≤ high
        → sound_expr_step sc Expr (λ z. z) (IsSoundExpr sc) x
        → Stays p (expr_code_step layout (map-Expr Expr Operand (operand layout) x) p)
    step (Expr-F.Number n) p above below sound = leaf (instr.Push n) p (tt {0}) (tt {0}) above below
    step (Expr-F.Slot slot) p above below sound = leaf (instr.Load (base_of layout slot)) p (tt {0}) (tt {0}) above below
    step (Expr-F.Copy variable) p above below sound = leaf (instr.LoadCopy variable) p (tt {0}) (copy_there variable sound) above below
    step (Expr-F.Cell slot index) p above below sound =
        behind index.0 p (instr.LoadCell (base_of layout slot) (cells_in_slot layout slot) ∷ []) (index.1 p above (omega (arith, below)) sound.1)
        (leaf (instr.LoadCell (base_of layout slot) (cells_in_slot layout slot)) (p + expr_size index.0) (tt {0}) (tt {0}) (omega (arith, above))
        (omega (arith, below)))
    step (Expr-F.Past variable back) p above below (depth, got, less) = (
      record {
        on = λ next e. (omega (arith, e, above), omega (arith, e, below));
        named = omega (arith, slice_get_within sc.depths variable depth got, length-map unit.variables (λ v. v.depth));
      },
      tt {0},
    )
    step (Expr-F.Ready stream) p above below sound = leaf (instr.Ready stream) p (tt {0}) (stream_there stream sound) above below
    step (Expr-F.Take stream) p above below sound = leaf (instr.Take stream) p (tt {0}) (stream_there stream sound) above below
    step (Expr-F.Unary operator width operand) p above below sound =
        behind operand.0 p (instr.Unary operator (width_of_unary operator width) ∷ []) (operand.1 p above (omega (arith, below)) sound)
        (leaf (instr.Unary operator (width_of_unary operator width)) (p + expr_size operand.0) (tt {0}) (tt {0}) (omega (arith, above)) (omega (arith, below)))
    step (Expr-F.Cast width operand) p above below sound =
        behind operand.0 p (instr.Cast width ∷ []) (operand.1 p above (omega (arith, below)) sound)
        (leaf (instr.Cast width) (p + expr_size operand.0) (tt {0}) (tt {0}) (omega (arith, above)) (omega (arith, below)))
    step (Expr-F.Binary operator width left right) p above below sound = binary operator width left right p above below sound.0 sound.1
    step (Expr-F.Call function arguments) p above below sound =
        through arguments (instr.Call function ∷ []) p above (omega (arith, below)) sound.1
        (leaf (instr.Call function) (p + total (map expr_size (map tree arguments))) (tt {0}) (tt {0}) (omega (arith, above)) (omega (arith, below)))

    layer : (y : Expr-F Known) → E (roll-Expr (map-Expr Known Expr tree y))
    layer y p above below sound =
        let x : Expr-F Expr = map-Expr Known Expr tree y in
        subst (Stays p) (sym (code_roll layout x p))
        (step y p above (omega (arith, below, size_roll x))
        (subst (λ (t : Type 0). t) (rec-roll-Expr (Type 0) (sound_expr_step sc) (exprs_natural sc) x) sound))

    expr_stays : (e : Expr) → E e
    expr_stays = ind-Expr E (λ x y is. subst (λ z. E (roll-Expr z)) is (layer y))

    -- ---- statements

    abbrev Q : Stmt → Type 0
    Q s = (c p : ℕ) → low ≤ p → p + stmt_size s ≤ high → IsSoundStmt sc s → Stays p (stmt_code layout s c p) × Each IsIn (places_of s p)

    abbrev Held : Type 0
    Held = (s : Stmt) × Q s

    abbrev stmt : Held → Stmt
    stmt k = k.0

    block : (ks : List Held) (c p : ℕ) → low ≤ p → p + stmts_size (map stmt ks) ≤ high → Each (IsSoundStmt sc) (map stmt ks)
        → Stays p (stmts_code layout (map stmt ks) c p) × Each IsIn (places_in (map placed (map stmt ks)) p)
    block [] c p above below sound = (tt {0}, tt)
    block (k ∷ ks) c p above below sound =
        let n = stmt_size k.0 in
        let rest = stmts_code layout (map stmt ks) (c + loops k.0) (p + n) in
        let first = k.1 c p above (omega (arith, below)) sound.0 in
        let others = block ks (c + loops k.0) (p + n) (omega (arith, above)) (omega (arith, below)) sound.1 in (
          stays_more (stmt_code layout k.0 c p) rest p first.0 (subst (λ m. Stays (p + m) rest) (sym (stmt_length layout k.0 c p)) others.0),
          each-append IsIn (places_of k.0 p) (places_in (map placed (map stmt ks)) (p + n)) first.1 others.1,
        )

    block_then : (stmts : List Stmt) (c p : ℕ) (rest : List Instr) → Stays p (stmts_code layout stmts c p) → Stays (p + stmts_size stmts) rest
        → Stays p (stmts_code layout stmts c p ++ rest)
    block_then stmts c p rest g h = stays_more (stmts_code layout stmts c p) rest p g
        (subst (λ n. Stays (p + n) rest) (sym (stmts_length layout stmts c p)) h)

    valued : (e : Expr) (i : Instr) (p : ℕ) → low ≤ p → p + (expr_size e + 1) ≤ high → IsSoundExpr sc e → Remains i (p + expr_size e)
        → Stays p (expr_code layout e p ++ i ∷ [])
    valued e i p above below sound last = behind e p (i ∷ []) (expr_stays e p above (omega (arith, below)) sound) (last, tt {0})

    if_stays : (e : Expr) (ks : List Held) (c p : ℕ) → low ≤ p → p + (expr_size e + 1 + (stmts_size (map stmt ks) + 0)) ≤ high → IsSoundExpr sc e
        → Each (IsSoundStmt sc) (map stmt ks)
        → Stays p (if_code layout e (map (part layout) (map stmt ks)) None c p) × Each IsIn (places_in (map placed (map stmt ks)) (p + expr_size e + 1))
    if_stays e ks c p above below first sound =
        let n = expr_size e in
        let to = p + n + 1 + block_size (map (part layout) (map stmt ks)) in
        let size = block_size_is layout (map stmt ks) in
        let body = block ks c (p + n + 1) (omega (arith, above)) (omega (arith, below)) sound in (
          behind e p (instr.JumpZero to ∷ stmts_code layout (map stmt ks) c (p + n + 1)) (expr_stays e p above (omega (arith, below)) first) (
            fork (instr.JumpZero to) (p + n) to refl (omega (arith, above)) (omega (arith, below))
                (omega (arith, above), omega (arith, below, size)),
            body.0,
          ),
          body.1,
        )

    if_else_stays : (e : Expr) (ks os : List Held) (c p : ℕ) → low ≤ p
        → p + (expr_size e + 1 + (stmts_size (map stmt ks) + (stmts_size (map stmt os) + 1))) ≤ high → IsSoundExpr sc e
        → Each (IsSoundStmt sc) (map stmt ks) → Each (IsSoundStmt sc) (map stmt os)
        → Stays p (if_code layout e (map (part layout) (map stmt ks)) (Some (map (part layout) (map stmt os))) c p)
        × Each IsIn (places_in (map placed (map stmt ks)) (p + expr_size e + 1) ++ places_in (map placed (map stmt os))
        (p + expr_size e + 1 + placed_size (map placed (map stmt ks)) + 1))
    if_else_stays e ks os c p above below first sound also =
        let n = expr_size e in
        let b = stmts_size (map stmt ks) in
        let ps = map (part layout) (map stmt ks) in
        let qs = map (part layout) (map stmt os) in
        let start = p + n + 1 in
        let second = start + block_size ps + 1 in
        let end = second + block_size qs in
        let size = block_size_is layout (map stmt ks) in
        let more = block_size_is layout (map stmt os) in
        let body = block ks c start (omega (arith, above)) (omega (arith, below)) sound in
        let others = block os (c + block_loops ps) second (omega (arith, above)) (omega (arith, below, size)) also in
        let that = stmts_code layout (map stmt os) (c + block_loops ps) second in
        let place : second ≡ start + b + 1 = omega (arith, size) in
        let places_from : second ≡ start + placed_size (map placed (map stmt ks)) + 1 = omega (arith, size, placed_size_is (map stmt ks)) in (
          behind e p (instr.JumpZero second ∷ (stmts_code layout (map stmt ks) c start ++ (instr.Jump end ∷ that)))
              (expr_stays e p above (omega (arith, below)) first) (
                fork (instr.JumpZero second) (p + n) second refl (omega (arith, above)) (omega (arith, below))
                    (omega (arith, above), omega (arith, below, size)),
                block_then (map stmt ks) c start (instr.Jump end ∷ that) body.0
                    (jump (start + b) end (omega (arith, above), omega (arith, below, size, more)), subst (λ q. Stays q that) place others.0),
              ),
          each-append IsIn (places_in (map placed (map stmt ks)) start)
              (places_in (map placed (map stmt os)) (start + placed_size (map placed (map stmt ks)) + 1)) body.1
              (subst (λ q. Each IsIn (places_in (map placed (map stmt os)) q)) places_from others.1),
        )

    timed_stays : (e : Expr) (ks : List Held) (c p : ℕ) → low ≤ p → p + (expr_size e + 2 + stmts_size (map stmt ks)) ≤ high → IsSoundExpr sc e
        → Each (IsSoundStmt sc) (map stmt ks)
        → Stays p (timed_code layout e (map (part layout) (map stmt ks)) c p) × Each IsIn (places_in (map placed (map stmt ks)) (p + expr_size e + 1))
    timed_stays e ks c p above below first sound =
        let n = expr_size e in
        let start = p + n + 1 in
        let end = start + block_size (map (part layout) (map stmt ks)) + 1 in
        let size = block_size_is layout (map stmt ks) in
        let body = block ks c start (omega (arith, above)) (omega (arith, below)) sound in (
          behind e p (instr.JumpZero end ∷ (stmts_code layout (map stmt ks) c start ++ instr.Jump p ∷ []))
              (expr_stays e p above (omega (arith, below)) first) (
                fork (instr.JumpZero end) (p + n) end refl (omega (arith, above)) (omega (arith, below)) (omega (arith, above), omega (arith, below, size)),
                block_then (map stmt ks) c start (instr.Jump p ∷ []) body.0 (jump (start + stmts_size (map stmt ks)) p (above, omega (arith, below)), tt {0}),
              ),
          body.1,
        )

    bounded_stays : (e : Expr) (most : ℕ) (ks : List Held) (c p : ℕ) → low ≤ p → p + (expr_size e + 4 + stmts_size (map stmt ks)) ≤ high → IsSoundExpr sc e
        → Each (IsSoundStmt sc) (map stmt ks)
        → Stays p (bounded_code layout e most (map (part layout) (map stmt ks)) c p) × Each IsIn
        (places_in (map placed (map stmt ks)) (p + 1 + expr_size e + 2))
    bounded_stays e most ks c p above below first sound =
        let n = expr_size e in
        let again = p + 1 in
        let start = again + n + 2 in
        let end = start + block_size (map (part layout) (map stmt ks)) + 1 in
        let size = block_size_is layout (map stmt ks) in
        let body = block ks (c + 1) start (omega (arith, above)) (omega (arith, below)) sound in
        let code = stmts_code layout (map stmt ks) (c + 1) start ++ instr.Jump again ∷ [] in
        let place : start ≡ again + n + 1 + 1 = omega arith in
        let stays = block_then (map stmt ks) (c + 1) start (instr.Jump again ∷ []) body.0
        (jump (start + stmts_size (map stmt ks)) again (omega (arith, above), omega (arith, below)), tt {0}) in (
          (
            plain (instr.Zero c) p (tt {0}) (tt {0}) above (omega (arith, below)),
            behind e again (instr.Guard c most ∷ (instr.JumpZero end ∷ code)) (expr_stays e again (omega (arith, above)) (omega (arith, below)) first) (
              plain (instr.Guard c most) (again + n) (tt {0}) (tt {0}) (omega (arith, above)) (omega (arith, below)),
              (
                fork (instr.JumpZero end) (again + n + 1) end refl (omega (arith, above)) (omega (arith, below))
                    (omega (arith, above), omega (arith, below, size)),
                subst (λ q. Stays q code) place stays,
              ),
            ),
          ),
          body.1,
        )

    abbrev part_of : Stmt → Part
    part_of = part layout

    stmt_step : (y : Stmt-F Held) (c p : ℕ) → let x = map-Stmt Held Stmt stmt y in low ≤ p → p + stmt_size_step (map-Stmt Stmt ℕ stmt_size x) ≤ high
        → sound_stmt_step sc Stmt (λ z. z) (IsSoundStmt sc) x
        → Stays p (stmt_code_step layout (map-Stmt Stmt Part part_of x) c p) × Each IsIn (places_step (map-Stmt Stmt Placed placed x) p)
    stmt_step (Stmt-F.Set slot value) c p above below sound = (
      valued value (instr.Store (base_of layout slot)) p above below sound.1
          (plain (instr.Store (base_of layout slot)) (p + expr_size value) (tt {0}) (tt {0}) (omega (arith, above)) (omega (arith, below))),
      tt,
    )
    stmt_step (Stmt-F.SetCopy variable value) c p above below sound = (
      valued value (instr.StoreCopy variable) p above below sound.1
          (plain (instr.StoreCopy variable) (p + expr_size value) (tt {0}) (copy_there variable sound.0) (omega (arith, above)) (omega (arith, below))),
      tt,
    )
    stmt_step (Stmt-F.SetCell slot index value) c p above below sound =
        let i = instr.StoreCell (base_of layout slot) (cells_in_slot layout slot) in
        let q = p + expr_size index in (
          behind index p (expr_code layout value q ++ i ∷ []) (expr_stays index p above (omega (arith, below)) sound.1)
              (valued value i q (omega (arith, above)) (omega (arith, below)) sound.2
              (plain i (q + expr_size value) (tt {0}) (tt {0}) (omega (arith, above)) (omega (arith, below)))),
          tt,
        )
    stmt_step (Stmt-F.If test branch None) c p above below sound = if_stays test branch c p above below sound.0 sound.1
    stmt_step (Stmt-F.If test branch (Some other)) c p above below sound = if_else_stays test branch other c p above below sound.0 sound.1 sound.2
    stmt_step (Stmt-F.Bounded test most body) c p above below sound = bounded_stays test most body c p above below sound.0 sound.2
    stmt_step (Stmt-F.Timed test body) c p above below sound = timed_stays test body c p above below sound.0 sound.2
    stmt_step (Stmt-F.Send value stream after clock) c p above below sound = (
      valued value (instr.Send stream after clock) p above below sound.1 (record {
        on = λ next e. (omega (arith, e, above), omega (arith, e, below));
        named = (omega (arith, sound.0.target, length-map unit.streams (λ s. s.receiver == number)), sound.0.by);
      }),
      tt,
    )
    stmt_step (Stmt-F.Advance point) c p above below sound =
        ((record { on = λ next e. absurd e; named = sound }, tt {0}), ((omega (arith, above), below), tt))
    stmt_step (Stmt-F.Return value) c p above below sound = differ (sym sound.0)

    stmt_layer : (y : Stmt-F Held) → Q (roll-Stmt (map-Stmt Held Stmt stmt y))
    stmt_layer y c p above below sound =
        let x : Stmt-F Stmt = map-Stmt Held Stmt stmt y in
        let done = stmt_step y c p above (omega (arith, below, stmt_size_roll x))
        (subst (λ (t : Type 0). t) (rec-roll-Stmt (Type 0) (sound_stmt_step sc) (stmts_natural sc) x) sound) in
        (subst (Stays p) (sym (stmt_roll layout x c p)) done.0, subst (λ (f : Places). Each IsIn (f p)) (sym (para-roll-Stmt Places places_step x)) done.1)

    stmt_stays : (s : Stmt) → Q s
    stmt_stays = ind-Stmt Q (λ x y is. subst (λ z. Q (roll-Stmt z)) is (stmt_layer y))

    abbrev held_of : Stmt → Held
    held_of s = (s, stmt_stays s)

    trees : (stmts : List Stmt) → map stmt (map held_of stmts) ≡ stmts
    trees [] = refl
    trees (x ∷ xs) = ap (λ l. x ∷ l) (trees xs)

    -- The code of a body with the jump back, and the places behind its `advance` statements
    pub body_stays : (stmts : List Stmt) → low + stmts_size stmts ≤ high → Each (IsSoundStmt sc) stmts
        → Stays low (stmts_code layout stmts 0 low ++ instr.Jump low ∷ []) × Each IsIn (places_in (map placed stmts) low)
    body_stays stmts below sound =
        let done = subst (λ ss. (c p : ℕ) → low ≤ p → p + stmts_size ss ≤ high → Each (IsSoundStmt sc) ss → Stays p (stmts_code layout ss c p) × Each IsIn
        (places_in (map placed ss) p)) (trees stmts)
        (block (map held_of stmts)) 0 low (omega arith) below sound in
        (block_then stmts 0 low (instr.Jump low ∷ []) done.0 (jump (low + stmts_size stmts) low (omega arith, omega (arith, below)), tt {0}), done.1)

  first_or : (whole : List Instr) (p q : ℕ) (j i : Instr) → Remains j p → slice_get whole p ≡ Some j → slice_get whole q ≡ Some i → (p ≡ q) ⊎ (p < q)
      → (p < q → Remains i q) → Remains i q
  first_or whole p q j i keeps has at (inr next) later = later next
  first_or whole p q j i keeps has at (inl e) later = subst (λ x. Remains x q) (some_is j i (sym has ∙ ap (slice_get whole) e ∙ at)) (subst (Remains j) e keeps)

  -- What stands at a place of the code
  pub remains_at : (whole : List Instr) (code : List Instr) (p q : ℕ) (i : Instr) → Stays p code → HasAt whole p code → p ≤ q → q < p + length code
      → slice_get whole q ≡ Some i → Remains i q
  remains_at whole [] p q i stays has above below at = absurd (omega (arith, above, below))
  remains_at whole (j ∷ code) p q i stays has above below at =
      first_or whole p q j i stays.0 has.0 at (eq-or-lt_of_le above)
      (λ next. remains_at whole code (p + 1) q i stays.1 has.1 (omega (arith, next)) (omega (arith, below)) at)
