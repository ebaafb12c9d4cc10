-- Agents are found where the bytes spell them, and none of them is at fault.
use Rattle.std.proofs.Common.{◌≡◌, ◌∙◌, ℕ, suc, ◌<◌, ◌≤◌, Bool, true, false, not, List, [], ◌∷◌, ◌++◌, append_assoc, map, length, Option, Some, None, Result, Ok, refl, sym, ap, arith}
use Rattle.std.specs.Prelude.{⊤, ℤ, FitsSigned, nat_lt, ◌||◌}
use Rattle.std.specs.Int.{w32, w64, cast_unsigned}
use Rattle.std.specs.List.{All, flat_map}
use Rattle.std.proofs.lemmas.Bool.{leb-false, ltb-false, ltb-true}
use Rattle.std.proofs.lemmas.Int.{to_z-of_z}
use Rattle.std.proofs.lemmas.List.{length-append, length-map, length-replicate}
use Rattle.std.proofs.lemmas.List.Elements.{All-head, All-tail}
use Rattle.psy_arith.specs.declared.width.Width.{Width}
use Rattle.psy_base.specs.declared.limits.TheConstants.{UNTIL}
use Rattle.psy_dates.specs.declared.opening.AgentOpening.{AgentOpening}
use Rattle.psy_dates.specs.declared.opening.Begun.{Begun}
use Rattle.psy_dates.specs.declared.opening.NextAction.{NextAction}
use Rattle.psy_snap.specs.declared.fault.ReadError.{ReadError}
use Rattle.psy_snap.specs.Bytes.{action_bytes, agent_bytes, begun_bytes, cell_bytes, kind_of, kind_of_action, long_bytes, number_bytes, slack_bytes, value_bytes}
use Rattle.psy_snap.specs.Cuts.{Ask, any_number, cell_of, copies_asks, long_below, one_of, up_to}
use Rattle.psy_snap.specs.Faults.{starts_wrong}
use Rattle.psy_snap.specs.Forms.{AgentForm, fits_type, may_start}
use Rattle.psy_snap.specs.Ranges.{FitsAction, FitsAgent, FitsBegun, FitsStart}
use Rattle.psy_snap.specs.Reading.{action_at, agent_at, begun_at, cells_at, each_at, field_at, figures_at, found_at, go_on, is_misplaced, kind_at, started_at, values_at}
use Rattle.psy_snap.specs.Shapes.{HasAgentForm, HasBegun, HasCells}
use Rattle.psy_snap.proofs.Finds.{Both, Finds, Rights, as_width, finds_each, finds_field, finds_none, finds_said, finds_then, finds_weaker, found_behind}
use Rattle.psy_snap.proofs.PartsFound.{AreFigures, finds_all_signed, finds_figures, finds_unless}
use Rattle.psy_snap.proofs.Spelled.{IsLong as HasWidth, Pairs, all_mapped, all_replicated}

-- An action of the agent: its number, its point and its cells are in their ranges.
pub record IsActionOf (form : AgentForm) (action : NextAction) : Type 0 where
  pub number : action.number ≤ UNTIL
  pub point : action.point < form.points
  pub cells : Pairs (λ type z. fits_type type z ≡ true) form.cells action.cells

abbrev pub IsStartOf : AgentForm → Option NextAction → Type 0
IsStartOf form None = ⊤
IsStartOf form (Some action) = IsActionOf form action

abbrev pub IsBegunOf : AgentForm → Option Begun → Type 0
IsBegunOf form None = ⊤
IsBegunOf form (Some begun) = IsStartOf form begun.action

-- It may start there at the date.
pub record StartsAt (date : ℕ) (form : AgentForm) (action : NextAction) : Type 0 where
  pub first : form.first ≤ date
  pub may : may_start form action.point date ≡ true

abbrev pub MayBe : ℕ → AgentForm → Option NextAction → Type 0
MayBe date form None = ⊤
MayBe date form (Some action) = StartsAt date form action

-- The agent can be so at the date.
abbrev pub CanBe : ℕ → AgentForm → Option Begun → Type 0
CanBe date form None = date < form.first
CanBe date form (Some begun) = MayBe date form begun.action

pub record IsAgentRight (date : ℕ) (form : AgentForm) (agent : AgentOpening) : Type 0 where
  pub can : CanBe date form agent.begun
  pub begun : IsBegunOf form agent.begun
  pub figures : AreFigures agent.count agent.slack

-- Cells have the ranges of their types.
cells_right : (types : List (Option Width)) (before cells : List ℤ) → length cells ≡ length types → All (FitsSigned w64) cells
    → Rights (λ (ask : Ask) before z. ask.range (cast_unsigned w64 z) ≡ true) (map cell_of types) before cells → Pairs (λ type z. fits_type type z ≡ true) types cells
cells_right [] before [] same fits right = tt
cells_right [] before (z ∷ cells) same fits right = absurd (omega (arith, same))
cells_right (type ∷ types) before [] same fits right = absurd (omega (arith, same))
cells_right (type ∷ types) before (z ∷ cells) same fits right =
    (ap (fits_type type) (sym (to_z-of_z w64 z (All-head (FitsSigned w64) z cells fits))) ∙ right.first, cells_right types (before ++ z ∷ []) cells (omega (arith, same)) (All-tail (FitsSigned w64) z cells fits) right.second)

regrouped : (a b c d e f g : List ℕ) → a ++ ((((b ++ (c ++ d)) ++ e) ++ f) ++ g) ≡ (a ++ b) ++ (c ++ (d ++ (e ++ (f ++ g))))
regrouped a b c d e f g =
    ap (λ t. a ++ t) (append_assoc ((b ++ (c ++ d)) ++ e) f g ∙ append_assoc (b ++ (c ++ d)) e (f ++ g) ∙ append_assoc b (c ++ d) (e ++ (f ++ g)) ∙ ap (λ t. b ++ t) (append_assoc c d (e ++ (f ++ g))))
    ∙ sym (append_assoc a b (c ++ (d ++ (e ++ (f ++ g)))))

pub neither : (a b : Bool) → (a || b) ≡ false → (a ≡ false) × (b ≡ false)
neither true b e = absurd cc
neither false b e = (refl, e)

pub not_off : (b : Bool) → not b ≡ false → b ≡ true
not_off true e = refl
not_off false e = absurd cc

module _ (form : AgentForm) where
  -- ---- an action

  abbrev made : ℕ → ℕ → List ℤ → NextAction
  made number point cells = record { number = number; point = point; cells = cells }

  abbrev with_cells : ℕ → ℕ → List ℕ → Result (NextAction × List ℕ) ReadError
  with_cells number point more = go_on (cells_at (map cell_of form.cells) [] more) (λ cells last. Ok (made number point cells, last))

  abbrev with_point : ℕ → List ℕ → Result (NextAction × List ℕ) ReadError
  with_point number rest = go_on (field_at (one_of form.points) rest) (with_cells number)

  finds_action : (number point : ℕ) (cells : List ℤ) → FitsAction (made number point cells) → length cells ≡ length form.cells
      → Finds (action_at form) (action_bytes (Some (made number point cells))) (made number point cells) (λ rest. IsActionOf form (made number point cells))
  unfolding action_at
  finds_action number point cells fits same =
      let its = finds_all_signed w64 true refl (map cell_of form.cells) cells (same ∙ sym (length-map form.cells cell_of)) (all_mapped (HasWidth true) cell_of form.cells (λ type. refl)) fits.cells in
      finds_weaker (action_at form) (action_bytes (Some (made number point cells))) (made number point cells)
      (λ rest h. record {
        number = omega (arith, ltb-true _ _ h.first);
        point = ltb-true _ _ h.second.first;
        cells = cells_right form.cells [] cells same fits.cells h.second.second;
      })
      (finds_then (field_at (long_below (suc UNTIL))) with_point (long_bytes number) (number_bytes point ++ flat_map cell_bytes cells) number (made number point cells)
      (finds_field (long_below (suc UNTIL)) number fits.number)
      (finds_then (field_at (one_of form.points)) (with_cells number) (number_bytes point) (flat_map cell_bytes cells) point (made number point cells)
      (finds_field (one_of form.points) point fits.point)
      (finds_said (cells_at (map cell_of form.cells) []) (λ cells. made number point cells) (flat_map cell_bytes cells) cells its)))

  finds_started : (action : Option NextAction) → FitsStart action → HasCells form action
      → Finds (started_at form (kind_of_action action)) (action_bytes action) action (λ rest. IsStartOf form action)
  finds_started None fits has = finds_none None
  finds_started (Some action) fits has =
      finds_said (action_at form) (λ a. Some a) (action_bytes (Some action)) action (finds_action action.number action.point action.cells fits has)

  -- ---- what it has once it has begun

  abbrev begun_with : List ℤ → Option NextAction → Option Begun
  begun_with copies action = Some (record { copies = copies; action = action })

  abbrev with_copies : Option NextAction → List ℕ → Result (Option Begun × List ℕ) ReadError
  with_copies action rest = go_on (values_at (copies_asks form) [] rest) (λ copies more. Ok (begun_with copies action, more))

  begun_front : (action : Option NextAction) (copies : List ℤ) → FitsStart action → HasCells form action → All (FitsSigned w32) copies → length copies ≡ form.copies
      → Finds (λ bytes. go_on (started_at form (kind_of_action action) bytes) with_copies) (action_bytes action ++ flat_map value_bytes copies) (begun_with copies action)
      (λ rest. IsStartOf form action)
  begun_front action copies fits has all same =
      let its = finds_all_signed w32 false refl (copies_asks form) copies (same ∙ sym (length-replicate form.copies any_number)) (all_replicated (HasWidth false) any_number form.copies refl) all in
      finds_weaker (λ bytes. go_on (started_at form (kind_of_action action) bytes) with_copies) (action_bytes action ++ flat_map value_bytes copies) (begun_with copies action) (λ rest h. h.first)
      (finds_then (started_at form (kind_of_action action)) with_copies (action_bytes action) (flat_map value_bytes copies) action (begun_with copies action) (finds_started action fits has)
      (finds_said (values_at (copies_asks form) []) (λ copies. begun_with copies action) (flat_map value_bytes copies) copies its))

  begun_by : (action : Option NextAction) (copies : List ℤ) → FitsStart action → HasCells form action → All (FitsSigned w32) copies → length copies ≡ form.copies
      → Finds (begun_at form (kind_of_action action)) (action_bytes action ++ flat_map value_bytes copies) (begun_with copies action) (λ rest. IsStartOf form action)
  unfolding begun_at
  begun_by None copies fits has all same = begun_front None copies fits has all same
  begun_by (Some action) copies fits has all same = begun_front (Some action) copies fits has all same

  finds_begun : (begun : Option Begun) → FitsBegun begun → HasBegun form begun → Finds (begun_at form (kind_of begun)) (begun_bytes begun) begun (λ rest. IsBegunOf form begun)
  unfolding begun_at
  finds_begun None fits has = finds_none None
  finds_begun (Some begun) fits has = begun_by begun.action begun.copies fits.start has.1 fits.copies has.0

  module _ (date : ℕ) where
    -- ---- its kind

    kind_few : (begun : Option Begun) → kind_of begun ≤ 2
    kind_few None = omega arith
    kind_few (Some begun) = by begun.action
      where
        by : (action : Option NextAction) → kind_of_action action ≤ 2
        by None = omega arith
        by (Some action) = omega arith

    finds_kind : (kind : ℕ) → kind ≤ 2
        → Finds (kind_at form date) (number_bytes kind) kind (λ rest. Both ((up_to 2).range kind ≡ true) (is_misplaced form date kind (found_at false 12 (number_bytes kind ++ rest)) ≡ false))
    unfolding kind_at
    finds_kind kind few = finds_unless (up_to 2) (λ kind bytes. is_misplaced form date kind (found_at false 12 bytes)) 2 kind (omega (arith, few))

    can_start : (action : NextAction) (copies figures rest : List ℕ) → FitsAction action
        → is_misplaced form date 1 (found_at false 12 (number_bytes 1 ++ (((action_bytes (Some action) ++ copies) ++ figures) ++ rest))) ≡ false → StartsAt date form action
    can_start action copies figures rest fits right =
        let front : List ℕ = number_bytes 1 ++ long_bytes action.number in
        let there : found_at false 12 (number_bytes 1 ++ (((action_bytes (Some action) ++ copies) ++ figures) ++ rest)) ≡ Some action.point =
        ap (found_at false 12) (regrouped (number_bytes 1) (long_bytes action.number) (number_bytes action.point) (flat_map cell_bytes action.cells) copies figures rest)
        ∙ found_behind false front action.point (flat_map cell_bytes action.cells ++ (copies ++ (figures ++ rest))) 12
        (omega (arith, length-append (number_bytes 1) (long_bytes action.number), as_width false 1, as_width true action.number)) fits.point in
        let (early, wrong) = neither (nat_lt date form.first) (starts_wrong form date (Some action.point)) (ap (is_misplaced form date 1) (sym there) ∙ right) in
        record { first = ltb-false _ _ early; may = not_off _ wrong }

    can_go_on : (action : Option NextAction) (copies figures rest : List ℕ) → FitsStart action
        → is_misplaced form date (kind_of_action action) (found_at false 12 (number_bytes (kind_of_action action) ++ (((action_bytes action ++ copies) ++ figures) ++ rest))) ≡ false
        → MayBe date form action
    can_go_on None copies figures rest fits right = tt
    can_go_on (Some action) copies figures rest fits right = can_start action copies figures rest fits right

    can_be : (begun : Option Begun) (figures rest : List ℕ) → FitsBegun begun
        → is_misplaced form date (kind_of begun) (found_at false 12 (number_bytes (kind_of begun) ++ ((begun_bytes begun ++ figures) ++ rest))) ≡ false → CanBe date form begun
    can_be None figures rest fits right = leb-false _ _ right
    can_be (Some begun) figures rest fits right = can_go_on begun.action (flat_map value_bytes begun.copies) figures rest fits.start right

    -- ---- an agent

    abbrev agent_with : Option Begun → ℕ × Option ℕ → AgentOpening
    agent_with begun figures = record { begun = begun; count = figures.0; slack = figures.1 }

    abbrev with_figures : List AgentOpening → Option Begun → List ℕ → Result (List AgentOpening × List ℕ) ReadError
    with_figures agents begun more = go_on (figures_at more) (λ figures last. Ok (agents ++ agent_with begun figures ∷ [], last))

    abbrev with_begun : List AgentOpening → ℕ → List ℕ → Result (List AgentOpening × List ℕ) ReadError
    with_begun agents kind rest = go_on (begun_at form kind rest) (with_figures agents)

    finds_agent : (agents : List AgentOpening) (begun : Option Begun) (count : ℕ) (slack : Option ℕ) → FitsAgent (agent_with begun (count, slack)) → HasBegun form begun
        → Finds (agent_at date form agents) (agent_bytes (agent_with begun (count, slack))) (agents ++ agent_with begun (count, slack) ∷ []) (λ rest. IsAgentRight date form (agent_with begun (count, slack)))
    unfolding agent_at
    finds_agent agents begun count slack fits has =
        let it = agent_with begun (count, slack) in
        let figures : List ℕ = long_bytes count ++ slack_bytes slack in
        finds_weaker (agent_at date form agents) (agent_bytes it) (agents ++ it ∷ [])
        (λ rest h. record { can = can_be begun figures rest fits.begun h.first.second; begun = h.second.first; figures = h.second.second })
        (finds_then (kind_at form date) (with_begun agents) (number_bytes (kind_of begun)) (begun_bytes begun ++ figures) (kind_of begun) (agents ++ it ∷ []) (finds_kind (kind_of begun) (kind_few begun))
        (finds_then (begun_at form (kind_of begun)) (with_figures agents) (begun_bytes begun) figures begun (agents ++ it ∷ []) (finds_begun begun fits.begun has)
        (finds_said figures_at (λ figures. agents ++ agent_with begun figures ∷ []) figures (count, slack) (finds_figures count slack fits.count fits.slack))))

-- ---- the agents

-- It has the form, and its numbers are in their ranges.
abbrev pub GoodAgent : AgentForm → AgentOpening → Type 0
GoodAgent form agent = Both (HasAgentForm form agent) (FitsAgent agent)

pub finds_agents : (date : ℕ) (forms : List AgentForm) (agents : List AgentOpening) → Pairs GoodAgent forms agents
    → Finds (each_at (agent_at date) forms []) (flat_map agent_bytes agents) agents (λ rest. Rights (λ form before agent. IsAgentRight date form agent) forms [] agents)
finds_agents date forms agents good =
    finds_each agent_bytes (agent_at date) GoodAgent (λ form before agent. IsAgentRight date form agent)
    (λ form before agent its. finds_agent form date before agent.begun agent.count agent.slack its.second its.first) forms [] agents good
