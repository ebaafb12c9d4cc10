-- What an action of a sound unit's agent keeps.
use Rattle.std.proofs.Common.{◌≡◌, ℕ, zero, suc, ◌+◌, ◌<◌, ◌≤◌, Bool, true, false, List, [], ◌∷◌, map, replicate, length, Option, Some, None, refl, sym, ap, subst, arith}
use Rattle.std.specs.Prelude.{◌==◌, if◌then◌else◌, ℤ, FitsSigned}
use Rattle.std.specs.Int.{w32}
use Rattle.std.specs.List.{All, range_with_len}
use Rattle.std.proofs.lemmas.Bool.{true≢false}
use Rattle.std.proofs.lemmas.List.{length-map}
use Rattle.std.proofs.lemmas.List.Elements.{All-nil, All-cons, All-head, All-tail, All-append, All-replicate}
use Rattle.std.proofs.lemmas.Option.{none-some}
use Rattle.psy_arith.specs.declared.width.Width.{Width}
use Rattle.psy_arith.specs.Widths.{of_type}
use Rattle.psy_code.specs.Execution.{Copy}
use Rattle.psy_code.specs.Views.{View}
use Rattle.psy_tree.specs.declared.unit.AgentDecl.{AgentDecl}
use Rattle.psy_tree.specs.declared.unit.Expr.{Expr}
use Rattle.psy_tree.specs.declared.unit.Slots.{Slots}
use Rattle.psy_tree.specs.declared.unit.Unit.{Unit as Whole}
use Rattle.psy_tree.specs.declared.unit.VarDecl.{VarDecl}
use Rattle.psy_meaning.specs.Alike.{FitSlots, IsStoreOf, IsViewOf, owned_copy, owned_from, first_copies, first_slots, first_store, begun}
use Rattle.psy_meaning.specs.Expressions.{eval}
use Rattle.psy_meaning.specs.Kept.{IsAdvanceOf, IsKept}
use Rattle.psy_meaning.specs.Paths.{advances_in}
use Rattle.psy_meaning.specs.Rest.{rest}
use Rattle.psy_meaning.specs.Sound.{Each, IsSoundExpr, expr_width, agent_scope, IsSoundAgent, IsSoundUnit}
use Rattle.psy_meaning.specs.States.{Store, State, Value, Final, Ended, Trapped, Halts}
use Rattle.psy_meaning.specs.Statements.{callees_of, act}
use Rattle.psy_meaning.proofs.KeptCalls.{callees_keep}
use Rattle.psy_meaning.proofs.KeptExprs.{IsScopeOf, GotFine, expr_keeps}
use Rattle.psy_meaning.proofs.KeptStates.{Shape, FitsCopy, IsShaped, IsFine, fit-cons}
use Rattle.psy_meaning.proofs.KeptStmts.{OutFine, pieces_keep}
use Rattle.psy_meaning.proofs.KeptValues.{Fits, Has, Ranges}
use Rattle.psy_meaning.proofs.lemmas.RestPieces.{rest_has}
use Rattle.psy_meaning.proofs.Suited.{IsSuited, all_suited, layer_suited}

-- ---- points

range_reached : (least low n points : ℕ) → least ≤ low → Each (λ point. point < points → (least ≤ point) × (point < points)) (range_with_len low n)
range_reached least low zero points h = tt
range_reached least low (suc n) points h = ((λ less. (h, less)), range_reached least (low + 1) n points (omega (arith, h)))

-- ---- an agent's stores

module _ (unit : Whole) (number : ℕ) (agent : AgentDecl) where
  -- What a store of the agent keeps, in an action that is watched or isn't
  abbrev pub shape : Bool → Shape
  shape watched = record { layout = map length (first_slots agent); names = map (λ (c : Copy). c.variable) (first_copies unit number); watched = watched }

  abbrev pub widths : List Width
  widths = map (λ s. s.width) agent.slots

  shaped : (watched : Bool) (store : Store) → IsStoreOf unit number agent store → IsShaped widths (shape watched) store
  shaped watched store h = record {
    slots = h.slots;
    many = omega (
      arith,
      ap length h.slots,
      length-map store.slots length,
      length-map (first_slots agent) length,
      length-map agent.slots (λ (s : Slots). replicate s.cells s.init),
      length-map agent.slots (λ (s : Slots). s.width),
    );
    values = h.values;
    variables = h.variables;
    copies = h.copies;
  }

  store_of : (watched : Bool) (store : Store) → IsShaped widths (shape watched) store → IsStoreOf unit number agent store
  store_of watched store h = record { slots = h.slots; values = h.values; variables = h.variables; copies = h.copies }

  begins : (store : Store) (view : View) → IsStoreOf unit number agent store → IsViewOf unit number view → IsFine unit number widths (shape true) (begun store view)
  begins store view h k = record {
    store = shaped true store h;
    view = record { pasts = k.values; messages = k.messages };
    deeds = λ w. record { looks = All-nil _; takes = All-nil _; sends = All-nil _ };
  }

  -- A state with a store and a view of the agent, whatever was done
  unwatched : (s : State) → IsStoreOf unit number agent s.store → IsViewOf unit number s.view → IsFine unit number widths (shape false) s
  unwatched s h k = record {
    store = shaped false s.store h;
    view = record { pasts = k.values; messages = k.messages };
    deeds = λ w. absurd (true≢false (sym w));
  }

  kept_of : (final : Final) → OutFine unit number (IsAdvanceOf agent) widths (shape true) (Halts final) → IsKept unit number agent final
  kept_of (Ended point t) h = (h.0, store_of true t.store h.1.store, h.1.deeds refl)
  kept_of (Trapped kind t) h = (store_of true t.store h.store, h.deeds refl)

  module _ (ranges : Ranges) (sound : IsSoundUnit unit) where
    of_unit : IsScopeOf unit number (agent_scope unit number agent)
    of_unit = record { depths = refl; streams = refl; clocks = omega arith }

    -- A sound expression gives a number of its type.
    pub value_typed : (s t : State) (e : Expr) (v : ℤ) → IsStoreOf unit number agent s.store → IsViewOf unit number s.view → IsSoundExpr (agent_scope unit number agent) e
        → eval (callees_of unit.functions) e s ≡ Value v t → Has (expr_width widths e) v
    value_typed s t e v h k is gives =
        let keeps = expr_keeps ranges unit number (agent_scope unit number agent) of_unit (callees_of unit.functions) (callees_keep ranges unit number unit.functions sound.functions) (shape false) in
        (subst (GotFine unit number widths (shape false) (expr_width widths e)) gives (keeps e is s (unwatched s h k))).0

    pub action_keeps : (point : ℕ) (store : Store) (view : View) (final : Final) → IsSoundAgent unit number agent → IsStoreOf unit number agent store → IsViewOf unit number view
        → act unit.functions (rest agent.stmts point) (begun store view) ≡ Halts final → IsKept unit number agent final
    action_keeps point store view final its h k e =
        let scope = agent_scope unit number agent in
        let reached = IsAdvanceOf agent in
        let points : Each (λ point. point < length agent.points → reached point) (advances_in agent.stmts) =
        subst (Each (λ point. point < length agent.points → reached point)) (sym its.numbered) (range_reached 1 1 (length (advances_in agent.stmts)) (length agent.points) (omega arith)) in
        let pieces = rest_has (IsSuited scope reached) (layer_suited scope reached) agent.stmts point (all_suited scope reached agent.stmts its.stmts points) in
        let callees = callees_keep ranges unit number unit.functions sound.functions in
        kept_of final
        (subst (OutFine unit number reached widths (shape true)) e
        (pieces_keep ranges unit number scope of_unit (callees_of unit.functions) callees reached (shape true) (rest agent.stmts point) pieces (begun store view) (begins store view h k)))

-- ---- the first store

held_fits : (b : Bool) (c : Copy) → FitsCopy c → All FitsCopy (if b then c ∷ [] else [])
held_fits true c h = All-cons FitsCopy c [] h (All-nil FitsCopy)
held_fits false c h = All-nil FitsCopy

owned_fits : (agent number : ℕ) (v : VarDecl) (owner : Option ℕ) → Fits v.init → All FitsCopy (owned_copy agent number v owner)
owned_fits agent number v None h = All-nil FitsCopy
owned_fits agent number v (Some owner) h = held_fits (owner == agent) (record { variable = number; value = v.init }) h

all_owned_fit : (agent number : ℕ) (vs : List VarDecl) → All (λ v. FitsSigned w32 v.init) vs → All FitsCopy (owned_from agent number vs)
all_owned_fit agent number [] h = All-nil FitsCopy
all_owned_fit agent number (v ∷ vs) h =
    All-append FitsCopy (owned_copy agent number v v.owner) (owned_from agent (number + 1) vs) (owned_fits agent number v v.owner (All-head (λ v. FitsSigned w32 v.init) v vs h))
    (all_owned_fit agent (number + 1) vs (All-tail (λ v. FitsSigned w32 v.init) v vs h))

slots_fit : (slots : List Slots) → All (λ s. FitsSigned (of_type s.width) s.init) slots → FitSlots (map (λ s. s.width) slots) (map (λ s. replicate s.cells s.init) slots)
slots_fit [] h = λ slot width cells w e. absurd (none-some width w)
slots_fit (s ∷ ss) h =
    fit-cons s.width (replicate s.cells s.init) (map (λ s. s.width) ss) (map (λ s. replicate s.cells s.init) ss)
    (All-replicate (FitsSigned (of_type s.width)) s.cells s.init (All-head (λ (s : Slots). FitsSigned (of_type s.width) s.init) s ss h))
    (slots_fit ss (All-tail (λ (s : Slots). FitsSigned (of_type s.width) s.init) s ss h))

pub first_of_agent : (unit : Whole) (number : ℕ) (agent : AgentDecl) → IsSoundUnit unit → IsSoundAgent unit number agent → IsStoreOf unit number agent (first_store unit number agent)
first_of_agent unit number agent sound its = record {
  slots = refl;
  values = slots_fit agent.slots its.values;
  variables = refl;
  copies = all_owned_fit number 0 unit.variables sound.values;
}
