-- Reading agents that are right goes well.
use Rattle.std.proofs.Common.{◌≡◌, ◌∙◌, ℕ, suc, ◌≤◌, true, false, List, [], ◌∷◌, ◌++◌, append_assoc, map, length, Option, Some, None, Result, Ok, refl, sym, ap, arith}
use Rattle.std.specs.Prelude.{ℤ, FitsSigned, nat_lt}
use Rattle.std.specs.Int.{w32, w64, cast_unsigned}
use Rattle.std.specs.List.{All, flat_map}
use Rattle.std.proofs.lemmas.Bool.{le-leb, le-ltb, lt-leb, lt-ltb, not_from_true, or_from}
use Rattle.std.proofs.lemmas.Int.{to_z-of_z}
use Rattle.std.proofs.lemmas.List.{length-append, length-map, length-replicate}
use Rattle.std.proofs.lemmas.List.Elements.{All-head, All-tail}
use Rattle.psy_arith.specs.declared.width.Width.{Width}
use Rattle.psy_base.specs.declared.limits.TheConstants.{UNTIL}
use Rattle.psy_dates.specs.declared.opening.AgentOpening.{AgentOpening}
use Rattle.psy_dates.specs.declared.opening.Begun.{Begun}
use Rattle.psy_dates.specs.declared.opening.NextAction.{NextAction}
use Rattle.psy_snap.specs.declared.fault.ReadError.{ReadError}
use Rattle.psy_snap.specs.Bytes.{action_bytes, agent_bytes, begun_bytes, cell_bytes, kind_of, kind_of_action, long_bytes, number_bytes, slack_bytes, value_bytes}
use Rattle.psy_snap.specs.Cuts.{Ask, any_number, cell_of, copies_asks, long_below, one_of, up_to}
use Rattle.psy_snap.specs.Faults.{starts_wrong}
use Rattle.psy_snap.specs.Forms.{AgentForm, fits_type, may_start}
use Rattle.psy_snap.specs.Ranges.{FitsAction, FitsAgent, FitsBegun, FitsStart}
use Rattle.psy_snap.specs.Reading.{action_at, agent_at, begun_at, cells_at, each_at, field_at, figures_at, found_at, go_on, is_misplaced, kind_at, started_at, values_at}
use Rattle.psy_snap.specs.Shapes.{HasBegun, HasCells}
use Rattle.psy_snap.proofs.AgentsFound.{CanBe, GoodAgent, IsActionOf, IsAgentRight, IsBegunOf, IsStartOf, MayBe, StartsAt}
use Rattle.psy_snap.proofs.Finds.{Both, Rights, as_width, found_behind}
use Rattle.psy_snap.proofs.Goes.{Goes, goes_each, goes_field, goes_none, goes_said, goes_then, goes_unless, goes_where}
use Rattle.psy_snap.proofs.PartsGo.{any_rights, goes_all_signed, goes_figures}
use Rattle.psy_snap.proofs.Spelled.{AllAre, IsLong as HasWidth, Pairs, all_mapped, all_replicated}

-- Cells have the ranges of their types.
cells_rights : (types : List (Option Width)) (before cells : List ℤ) → Pairs (λ type z. fits_type type z ≡ true) types cells → All (FitsSigned w64) cells
    → Rights (λ (ask : Ask) before z. ask.range (cast_unsigned w64 z) ≡ true) (map cell_of types) before cells
cells_rights [] before cells right fits = tt
cells_rights (type ∷ types) before [] right fits = tt
cells_rights (type ∷ types) before (z ∷ cells) right fits = record {
  first = ap (fits_type type) (to_z-of_z w64 z (All-head (FitsSigned w64) z cells fits)) ∙ right.0;
  second = cells_rights types (before ++ z ∷ []) cells right.1 (All-tail (FitsSigned w64) z cells fits);
}

regrouped : (a b c d e f g : List ℕ) → a ++ ((((b ++ (c ++ d)) ++ e) ++ f) ++ g) ≡ (a ++ b) ++ (c ++ (d ++ (e ++ (f ++ g))))
regrouped a b c d e f g =
    ap (λ t. a ++ t) (append_assoc ((b ++ (c ++ d)) ++ e) f g ∙ append_assoc (b ++ (c ++ d)) e (f ++ g) ∙ append_assoc b (c ++ d) (e ++ (f ++ g)) ∙ ap (λ t. b ++ t) (append_assoc c d (e ++ (f ++ g))))
    ∙ sym (append_assoc a b (c ++ (d ++ (e ++ (f ++ g)))))

module _ (form : AgentForm) where
  -- ---- an action

  abbrev made : ℕ → ℕ → List ℤ → NextAction
  made number point cells = record { number = number; point = point; cells = cells }

  abbrev with_cells : ℕ → ℕ → List ℕ → Result (NextAction × List ℕ) ReadError
  with_cells number point more = go_on (cells_at (map cell_of form.cells) [] more) (λ cells last. Ok (made number point cells, last))

  abbrev with_point : ℕ → List ℕ → Result (NextAction × List ℕ) ReadError
  with_point number rest = go_on (field_at (one_of form.points) rest) (with_cells number)

  goes_action : (number point : ℕ) (cells : List ℤ) → FitsAction (made number point cells) → length cells ≡ length form.cells
      → Goes (action_at form) (action_bytes (Some (made number point cells))) (made number point cells) (λ rest. IsActionOf form (made number point cells))
  unfolding action_at
  goes_action number point cells fits same =
      let its = goes_all_signed w64 true refl (map cell_of form.cells) cells (same ∙ sym (length-map form.cells cell_of)) (all_mapped (HasWidth true) cell_of form.cells (λ type. refl)) fits.cells in
      goes_where (action_at form) (action_bytes (Some (made number point cells))) (made number point cells)
      (λ rest is. record {
        first = lt-ltb number (suc UNTIL) (omega (arith, is.number));
        second = record { first = lt-ltb point form.points is.point; second = cells_rights form.cells [] cells is.cells fits.cells };
      })
      (goes_then (field_at (long_below (suc UNTIL))) with_point (long_bytes number) (number_bytes point ++ flat_map cell_bytes cells) number (made number point cells)
      (goes_field (long_below (suc UNTIL)) number fits.number)
      (goes_then (field_at (one_of form.points)) (with_cells number) (number_bytes point) (flat_map cell_bytes cells) point (made number point cells)
      (goes_field (one_of form.points) point fits.point)
      (goes_said (cells_at (map cell_of form.cells) []) (λ cells. made number point cells) (flat_map cell_bytes cells) cells its)))

  goes_started : (action : Option NextAction) → FitsStart action → HasCells form action
      → Goes (started_at form (kind_of_action action)) (action_bytes action) action (λ rest. IsStartOf form action)
  goes_started None fits has = goes_none None
  goes_started (Some action) fits has =
      goes_said (action_at form) (λ a. Some a) (action_bytes (Some action)) action (goes_action action.number action.point action.cells fits has)

  -- ---- what it has once it has begun

  abbrev begun_with : List ℤ → Option NextAction → Option Begun
  begun_with copies action = Some (record { copies = copies; action = action })

  abbrev with_copies : Option NextAction → List ℕ → Result (Option Begun × List ℕ) ReadError
  with_copies action rest = go_on (values_at (copies_asks form) [] rest) (λ copies more. Ok (begun_with copies action, more))

  any_copies : AllAre (λ (ask : Ask). (n : ℕ) → ask.range n ≡ true) (copies_asks form)
  any_copies = all_replicated (λ (ask : Ask). (n : ℕ) → ask.range n ≡ true) any_number form.copies (λ n. refl)

  begun_front : (action : Option NextAction) (copies : List ℤ) → FitsStart action → HasCells form action → All (FitsSigned w32) copies → length copies ≡ form.copies
      → Goes (λ bytes. go_on (started_at form (kind_of_action action) bytes) with_copies) (action_bytes action ++ flat_map value_bytes copies) (begun_with copies action)
      (λ rest. IsStartOf form action)
  begun_front action copies fits has all same =
      let its = goes_all_signed w32 false refl (copies_asks form) copies (same ∙ sym (length-replicate form.copies any_number)) (all_replicated (HasWidth false) any_number form.copies refl) all in
      goes_where (λ bytes. go_on (started_at form (kind_of_action action) bytes) with_copies) (action_bytes action ++ flat_map value_bytes copies) (begun_with copies action)
      (λ rest is. record { first = is; second = any_rights (copies_asks form) [] copies any_copies })
      (goes_then (started_at form (kind_of_action action)) with_copies (action_bytes action) (flat_map value_bytes copies) action (begun_with copies action) (goes_started action fits has)
      (goes_said (values_at (copies_asks form) []) (λ copies. begun_with copies action) (flat_map value_bytes copies) copies its))

  begun_by : (action : Option NextAction) (copies : List ℤ) → FitsStart action → HasCells form action → All (FitsSigned w32) copies → length copies ≡ form.copies
      → Goes (begun_at form (kind_of_action action)) (action_bytes action ++ flat_map value_bytes copies) (begun_with copies action) (λ rest. IsStartOf form action)
  unfolding begun_at
  begun_by None copies fits has all same = begun_front None copies fits has all same
  begun_by (Some action) copies fits has all same = begun_front (Some action) copies fits has all same

  goes_begun : (begun : Option Begun) → FitsBegun begun → HasBegun form begun → Goes (begun_at form (kind_of begun)) (begun_bytes begun) begun (λ rest. IsBegunOf form begun)
  unfolding begun_at
  goes_begun None fits has = goes_none None
  goes_begun (Some begun) fits has = begun_by begun.action begun.copies fits.start has.1 fits.copies has.0

  module _ (date : ℕ) where
    -- ---- its kind

    start_few : (action : Option NextAction) → kind_of_action action ≤ 2
    start_few None = omega arith
    start_few (Some action) = omega arith

    kind_few : (begun : Option Begun) → kind_of begun ≤ 2
    kind_few None = omega arith
    kind_few (Some begun) = start_few begun.action

    goes_kind : (kind : ℕ) → kind ≤ 2
        → Goes (kind_at form date) (number_bytes kind) kind (λ rest. Both ((up_to 2).range kind ≡ true) (is_misplaced form date kind (found_at false 12 (number_bytes kind ++ rest)) ≡ false))
    unfolding kind_at
    goes_kind kind few = goes_unless (up_to 2) (λ kind bytes. is_misplaced form date kind (found_at false 12 bytes)) 2 kind (omega (arith, few))

    starts_there : (action : NextAction) (copies figures rest : List ℕ) → FitsAction action → StartsAt date form action
        → is_misplaced form date 1 (found_at false 12 (number_bytes 1 ++ (((action_bytes (Some action) ++ copies) ++ figures) ++ rest))) ≡ false
    starts_there action copies figures rest fits starts =
        let front : List ℕ = number_bytes 1 ++ long_bytes action.number in
        let there : found_at false 12 (number_bytes 1 ++ (((action_bytes (Some action) ++ copies) ++ figures) ++ rest)) ≡ Some action.point =
        ap (found_at false 12) (regrouped (number_bytes 1) (long_bytes action.number) (number_bytes action.point) (flat_map cell_bytes action.cells) copies figures rest)
        ∙ found_behind false front action.point (flat_map cell_bytes action.cells ++ (copies ++ (figures ++ rest))) 12
        (omega (arith, length-append (number_bytes 1) (long_bytes action.number), as_width false 1, as_width true action.number)) fits.point in
        ap (is_misplaced form date 1) there
        ∙ or_from (nat_lt date form.first) (starts_wrong form date (Some action.point)) (le-ltb date form.first starts.first) (not_from_true (may_start form action.point date) starts.may)

    goes_there : (action : Option NextAction) (copies figures rest : List ℕ) → FitsStart action → MayBe date form action
        → is_misplaced form date (kind_of_action action) (found_at false 12 (number_bytes (kind_of_action action) ++ (((action_bytes action ++ copies) ++ figures) ++ rest))) ≡ false
    goes_there None copies figures rest fits may = refl
    goes_there (Some action) copies figures rest fits may = starts_there action copies figures rest fits may

    is_there : (begun : Option Begun) (figures rest : List ℕ) → FitsBegun begun → CanBe date form begun
        → is_misplaced form date (kind_of begun) (found_at false 12 (number_bytes (kind_of begun) ++ ((begun_bytes begun ++ figures) ++ rest))) ≡ false
    is_there None figures rest fits can = lt-leb form.first date can
    is_there (Some begun) figures rest fits can = goes_there begun.action (flat_map value_bytes begun.copies) figures rest fits.start can

    -- ---- an agent

    abbrev agent_with : Option Begun → ℕ × Option ℕ → AgentOpening
    agent_with begun figures = record { begun = begun; count = figures.0; slack = figures.1 }

    abbrev with_figures : List AgentOpening → Option Begun → List ℕ → Result (List AgentOpening × List ℕ) ReadError
    with_figures agents begun more = go_on (figures_at more) (λ figures last. Ok (agents ++ agent_with begun figures ∷ [], last))

    abbrev with_begun : List AgentOpening → ℕ → List ℕ → Result (List AgentOpening × List ℕ) ReadError
    with_begun agents kind rest = go_on (begun_at form kind rest) (with_figures agents)

    goes_agent : (agents : List AgentOpening) (begun : Option Begun) (count : ℕ) (slack : Option ℕ) → FitsAgent (agent_with begun (count, slack)) → HasBegun form begun
        → Goes (agent_at date form agents) (agent_bytes (agent_with begun (count, slack))) (agents ++ agent_with begun (count, slack) ∷ []) (λ rest. IsAgentRight date form (agent_with begun (count, slack)))
    unfolding agent_at
    goes_agent agents begun count slack fits has =
        let it = agent_with begun (count, slack) in
        let figures : List ℕ = long_bytes count ++ slack_bytes slack in
        goes_where (agent_at date form agents) (agent_bytes it) (agents ++ it ∷ [])
        (λ rest right. record {
          first = record { first = le-leb (kind_of begun) 2 (kind_few begun); second = is_there begun figures rest fits.begun right.can };
          second = record { first = right.begun; second = right.figures };
        })
        (goes_then (kind_at form date) (with_begun agents) (number_bytes (kind_of begun)) (begun_bytes begun ++ figures) (kind_of begun) (agents ++ it ∷ []) (goes_kind (kind_of begun) (kind_few begun))
        (goes_then (begun_at form (kind_of begun)) (with_figures agents) (begun_bytes begun) figures begun (agents ++ it ∷ []) (goes_begun begun fits.begun has)
        (goes_said figures_at (λ figures. agents ++ agent_with begun figures ∷ []) figures (count, slack) (goes_figures count slack fits.count fits.slack))))

-- ---- the agents

pub goes_agents : (date : ℕ) (forms : List AgentForm) (agents : List AgentOpening) → Pairs GoodAgent forms agents
    → Goes (each_at (agent_at date) forms []) (flat_map agent_bytes agents) agents (λ rest. Rights (λ form before agent. IsAgentRight date form agent) forms [] agents)
goes_agents date forms agents good =
    goes_each agent_bytes (agent_at date) GoodAgent (λ form before agent. IsAgentRight date form agent)
    (λ form before agent its. goes_agent form date before agent.begun agent.count agent.slack its.second its.first) forms [] agents good
