-- Places, counters and cells are numbers of 32 bits.
use Rattle.std.proofs.Common.{◌≡◌, ℕ, zero, suc, ◌+◌, ◌*◌, ◌^◌, ◌<◌, ◌≤◌, List, [], ◌∷◌, ◌++◌, map, take, length, Some, refl, ap, subst, arith, length-append}
use Rattle.std.specs.Prelude.{get_or, slice_get, replicate}
use Rattle.std.specs.List.{All}
use Rattle.std.proofs.lemmas.List.Elements.{All-head, All-tail, All-get_or}
use Rattle.std.proofs.lemmas.Option.{slice_get_within, get_or_from_slice_get}
use Rattle.psy_base.specs.declared.limits.TheConstants.{CELLS}
use Rattle.psy_code.specs.declared.instr.Instr.{Instr}
use Rattle.psy_tree.specs.declared.unit.Unit.{Unit as Whole}
use Rattle.psy_tree.specs.declared.unit.AgentDecl.{AgentDecl}
use Rattle.psy_tree.specs.declared.unit.Slots.{Slots}
use Rattle.psy_tree.specs.declared.unit.Expr.{Expr}
use Rattle.psy_tree.specs.declared.unit.Stmt.{Stmt}
use Rattle.psy_tree.specs.Paths.{total}
use Rattle.psy_meaning.specs.Sizes.{expr_size, stmts_size}
use Rattle.psy_meaning.specs.Units.{IsBareSlot, IsBareAgent, IsOfText}
use Rattle.psy_gen.specs.Emission.{Emit, Layout, exprs_code, stmts_code, codes_from, agent_layout}
use Rattle.psy_gen.proofs.Lengths.{exprs_length, stmts_length}
use Rattle.psy_gen.proofs.Wholes.{codes_length}

-- ---- what is left to be emitted, and what is there

module _ (layout : Layout) where
  pub exprs_left : (rest all : List Expr) (c0 c1 : List Instr) → c1 ++ exprs_code layout rest (length c1) ≡ c0 ++ exprs_code layout all (length c0) → length c1 + total (map expr_size rest) ≡ length c0 + total (map expr_size all)
  exprs_left rest all c0 c1 e =
      omega (arith, ap length e, length-append c1 (exprs_code layout rest (length c1)), length-append c0 (exprs_code layout all (length c0)), exprs_length layout rest (length c1), exprs_length layout all (length c0))

  pub stmts_left : (rest all : List Stmt) (k n : ℕ) (c0 c1 : List Instr) → c1 ++ stmts_code layout rest n (length c1) ≡ c0 ++ stmts_code layout all k (length c0) → length c1 + stmts_size rest ≡ length c0 + stmts_size all
  stmts_left rest all k n c0 c1 e =
      omega (arith, ap length e, length-append c1 (stmts_code layout rest n (length c1)), length-append c0 (stmts_code layout all k (length c0)), stmts_length layout rest n (length c1), stmts_length layout all k (length c0))

module _ {X : Type 0} (code : X → Emit) (size : X → ℕ) (measured : (x : X) (p : ℕ) → length (code x p) ≡ size x) where
  pub codes_left : (rest all : List X) (c0 c1 : List Instr) → c1 ++ codes_from code size rest (length c1) ≡ c0 ++ codes_from code size all (length c0) → length c1 + total (map size rest) ≡ length c0 + total (map size all)
  codes_left rest all c0 c1 e =
      omega (arith, ap length e, length-append c1 (codes_from code size rest (length c1)), length-append c0 (codes_from code size all (length c0)), codes_length code size measured rest (length c1), codes_length code size measured all (length c0))

-- ---- cells

pub ones : (n : ℕ) → total (replicate n 1) ≡ n
ones zero = refl
ones (suc n) = omega (arith, ones n)

abbrev cells_in : List Slots → ℕ
cells_in slots = total (map (λ (s : Slots). s.cells) slots)

few_cells : (slots : List Slots) → All IsBareSlot slots → cells_in slots ≤ length slots * CELLS
few_cells [] h = omega arith
few_cells (s ∷ rest) h = omega (arith, (All-head IsBareSlot s rest h).cells.1, few_cells rest (All-tail IsBareSlot s rest h))

-- The cells of those before a slot, and its own
pub cells_through : (slots : List Slots) (i : ℕ) (s : Slots) → i < length slots → s ≡ get_or slots i s → cells_in (take i slots) + s.cells ≤ cells_in slots
cells_through [] i s h e = absurd (omega (arith, h))
cells_through (x ∷ slots) zero s h e = omega (arith, ap (λ (y : Slots). y.cells) e)
cells_through (x ∷ slots) (suc i) s h e = omega (arith, cells_through slots i s (omega (arith, h)) e)

pub cells_small : (unit : Whole) (number : ℕ) (agent : AgentDecl) → IsOfText unit → slice_get unit.agents number ≡ Some agent → total (agent_layout agent) < 2 ^ 32
cells_small unit number agent text got =
    let bare = subst (IsBareAgent unit) (get_or_from_slice_get unit.agents number agent agent got) (All-get_or (IsBareAgent unit) unit.agents number agent (slice_get_within unit.agents number agent got) text.bare.agents) in
    omega (arith, few_cells agent.slots bare.slots, bare.names)
