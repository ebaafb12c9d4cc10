-- The parts of a state that has the form of a plan's, by their numbers; and a state whose parts have it.
use Rattle.std.proofs.Common.{◌≡◌, ◌∙◌, ℕ, ◌<◌, ◌++◌, List, get_or, map, replicate, length, zero-add, Option, Some, None, sym, ap, subst, arith}
use Rattle.std.specs.Prelude.{slice_get}
use Rattle.std.specs.List.{All, flat_map, range_with_len}
use Rattle.std.proofs.lemmas.List.{length-append, length-map, length-replicate, length-take}
use Rattle.std.proofs.lemmas.List.FromFn.{get_or-map-range_with_len, length-map-range_with_len}
use Rattle.std.proofs.lemmas.Option.{get_or_from_slice_get, same_Some, slice_get-get_or, slice_get_within}
use Rattle.psy_arith.specs.declared.width.Width.{Width}
use Rattle.psy_dates.specs.declared.plan.Plan.{Plan}
use Rattle.psy_dates.specs.Plans.{IsPlan}
use Rattle.psy_meaning.specs.Alike.{first_copies}
use Rattle.psy_meaning.specs.CodeWays.{agent_code_at}
use Rattle.psy_snap.specs.Forms.{cell_types, types_of_slot}
use Rattle.psy_snap.specs.Shapes.{AreOf}
use Rattle.psy_tree.specs.declared.unit.AgentDecl.{AgentDecl}

-- The form of a number below a count
form_there : {F : Type 0} (form : ℕ → F) (count i : ℕ) → i < count → slice_get (map form (range_with_len 0 count)) i ≡ Some (form i)
form_there form count i less =
    slice_get-get_or (map form (range_with_len 0 count)) i (form i) (omega (arith, less, length-map-range_with_len form 0 count))
    ∙ ap Some (get_or-map-range_with_len form 0 count i i (form i) less (zero-add i))

module _ {F X : Type 0} (Right : F → X → Type 0) (form : ℕ → F) (count : ℕ) (xs : List X) where
  pub parts_count : AreOf Right (map form (range_with_len 0 count)) xs → length xs ≡ count
  parts_count are = are.count ∙ length-map-range_with_len form 0 count

  -- A part that there is
  pub part_right : AreOf Right (map form (range_with_len 0 count)) xs → (i : ℕ) (x : X) → slice_get xs i ≡ Some x → Right (form i) x
  part_right are i x at = are.each i (form i) x (form_there form count i (omega (arith, slice_get_within xs i x at, parts_count are))) at

  pub are_by : length xs ≡ count → ((i : ℕ) (x : X) → slice_get xs i ≡ Some x → Right (form i) x) → AreOf Right (map form (range_with_len 0 count)) xs
  are_by same each = record {
    count = same ∙ sym (length-map-range_with_len form 0 count);
    each = λ i f x there at. subst (λ g. Right g x)
        (same_Some (form i) f (sym (form_there form count i (omega (arith, slice_get_within xs i x at, same))) ∙ there)) (each i x at);
  }

-- ---- parts that are made by their numbers

module _ {X : Type 0} (make : ℕ → X) (count : ℕ) where
  made_count : length (map make (range_with_len 0 count)) ≡ count
  made_count = length-map-range_with_len make 0 count

  pub made_at : (i : ℕ) (d : X) → i < count → get_or (map make (range_with_len 0 count)) i d ≡ make i
  made_at i d less = get_or-map-range_with_len make 0 count i i d less (zero-add i)

  pub all_made : (P : X → Type 0) → ((i : ℕ) → i < count → P (make i)) → All P (map make (range_with_len 0 count))
  all_made P each = λ i d less.
      let within : i < count = omega (arith, less, made_count) in
      subst P (sym (made_at i d within)) (each i within)

  pub are_made : {F : Type 0} (Right : F → X → Type 0) (form : ℕ → F) → ((i : ℕ) → i < count → Right (form i) (make i))
      → AreOf Right (map form (range_with_len 0 count)) (map make (range_with_len 0 count))
  are_made Right form each = are_by Right form count (map make (range_with_len 0 count)) made_count (λ i x at.
      let within : i < count = omega (arith, slice_get_within (map make (range_with_len 0 count)) i x at, made_count) in
      subst (Right (form i)) (sym (made_at i x within) ∙ get_or_from_slice_get (map make (range_with_len 0 count)) i x x at) (each i within))

-- ---- counts

-- An agent's cells have as many types.
pub types_count : (agent : AgentDecl) (cells : ℕ) → length (cell_types agent cells) ≡ cells
unfolding cell_types
types_count agent cells =
    omega (
      arith,
      length-take cells (flat_map types_of_slot agent.slots ++ replicate cells None),
      length-append (flat_map types_of_slot agent.slots) (replicate cells None),
      length-replicate {A = Option Width} cells None,
    )

-- The code of an agent has as many copies as the agent owns variables.
pub copies_count : (plan : Plan) → IsPlan plan → (agent : ℕ) → agent < length plan.unit.agents → length (agent_code_at plan.code agent).copies ≡ length (first_copies plan.unit agent)
copies_count plan its agent less =
    sym (length-map (agent_code_at plan.code agent).copies (λ c. c.variable)) ∙ ap length (its.fits.parts.each agent less).copies ∙ length-map (first_copies plan.unit agent) (λ c. c.variable)
