-- The types of an agent's cells, one by one.
use Rattle.std.proofs.Common.{◌≡◌, ◌∙◌, ℕ, ◌-◌, ◌<◌, cond, inl, inr, List, [], ◌∷◌, ◌++◌, append_assoc, get_or, map, replicate, length, Option, Some, None, sym, ap, arith}
use Rattle.std.specs.List.{flat_map}
use Rattle.std.proofs.lemmas.Bool.{cases_lt, le-ltb, lt-ltb}
use Rattle.std.proofs.lemmas.List.{get_or-append_right, get_or-map, get_or-replicate, get_or-take, get_or_append_left, length-append, length-map, length-replicate, length-take}
use Rattle.std.proofs.lemmas.List.Concat.{flat_map-cons}
use Rattle.psy_arith.specs.declared.width.Width.{Width}
use Rattle.psy_snap.specs.Cuts.{Ask, cell_of}
use Rattle.psy_snap.specs.Forms.{cell_types, types_of_slot}
use Rattle.psy_snap.specs.Plans.{slot_of}
use Rattle.psy_tree.specs.declared.unit.AgentDecl.{AgentDecl}
use Rattle.psy_tree.specs.declared.unit.Slots.{Slots}

type_at : (slots : List Slots) (cells i : ℕ) (d : Option Width) → i < cells → get_or (flat_map types_of_slot slots ++ replicate cells None) i d ≡ slot_of slots i
type_at [] cells i d less = get_or-replicate cells i None d less
type_at (s ∷ slots) cells i d less =
    let more : List (Option Width) = flat_map types_of_slot slots ++ replicate cells None in
    let whole : flat_map types_of_slot (s ∷ slots) ++ replicate cells None ≡ types_of_slot s ++ more =
    ap (λ ts. ts ++ replicate cells None) (flat_map-cons types_of_slot s slots) ∙ append_assoc (types_of_slot s) (flat_map types_of_slot slots) (replicate cells None) in
    let long : length (types_of_slot s) ≡ s.cells = length-replicate s.cells (Some s.width) in
    ap (λ ts. get_or ts i d) whole ∙ elim (cases_lt i s.cells) [
      | inl lt ↦ get_or_append_left (types_of_slot s) more d i (omega (arith, lt, long)) ∙ get_or-replicate s.cells i (Some s.width) d lt
          ∙ sym (ap (λ b. cond b (Some s.width) (slot_of slots (i - s.cells))) (lt-ltb i s.cells lt))
      | inr le ↦ get_or-append_right (types_of_slot s) more s.cells i d long le ∙ type_at slots cells (i - s.cells) d (omega (arith, less))
          ∙ sym (ap (λ b. cond b (Some s.width) (slot_of slots (i - s.cells))) (le-ltb i s.cells le))
    ]

module _ (agent : AgentDecl) (cells : ℕ) where
  pub types_count : length (cell_types agent cells) ≡ cells
  unfolding cell_types
  types_count =
      omega (
        arith,
        length-take cells (flat_map types_of_slot agent.slots ++ replicate cells None),
        length-append (flat_map types_of_slot agent.slots) (replicate cells None),
        length-replicate {A = Option Width} cells None,
      )

  -- There is an ask for each cell.
  pub asks_count : length (map cell_of (cell_types agent cells)) ≡ cells
  asks_count = length-map (cell_types agent cells) cell_of ∙ types_count

  pub is_type : (i : ℕ) → i < cells → get_or (cell_types agent cells) i None ≡ slot_of agent.slots i
  unfolding cell_types
  is_type i less = get_or-take cells (flat_map types_of_slot agent.slots ++ replicate cells None) i None less ∙ type_at agent.slots cells i None less

  -- It is that for the type of the cell's slot.
  pub ask_is : (i : ℕ) (d : Ask) → i < cells → get_or (map cell_of (cell_types agent cells)) i d ≡ cell_of (slot_of agent.slots i)
  ask_is i d less = get_or-map cell_of (cell_types agent cells) i None d (omega (arith, less, types_count)) ∙ ap cell_of (is_type i less)
