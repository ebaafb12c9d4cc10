-- The state of an opening that a plan's runs may go on from has the form of the plan's states, its numbers are in their ranges, and agents that it has not
-- begun await their first dates.
use Rattle.std.proofs.Common.{◌≡◌, ◌∙◌, ℕ, suc, ◌^◌, ◌<◌, ◌≤◌, Bool, true, false, cond, inl, inr, List, get_or, length, Option, Some, None, refl, sym, ap, arith}
use Rattle.std.specs.Prelude.{ℤ, FitsSigned, nat_lt}
use Rattle.std.specs.Int.{w32, w64}
use Rattle.std.specs.List.{All}
use Rattle.std.proofs.lemmas.Bool.{ltb-false, ltb-true}
use Rattle.std.proofs.lemmas.List.{length-map}
use Rattle.std.proofs.lemmas.List.Elements.{All-map}
use Rattle.std.proofs.lemmas.Option.{none-some}
use Rattle.psy_base.specs.declared.limits.TheConstants.{UNTIL}
use Rattle.psy_base.specs.declared.message.Message.{Message}
use Rattle.psy_budget.specs.declared.charge.Stall.{Stall}
use Rattle.psy_code.specs.declared.code.CopyInit.{CopyInit}
use Rattle.psy_dates.specs.declared.opening.AgentOpening.{AgentOpening}
use Rattle.psy_dates.specs.declared.opening.Begun.{Begun}
use Rattle.psy_dates.specs.declared.opening.Opening.{Opening as State}
use Rattle.psy_dates.specs.declared.plan.Plan.{Plan}
use Rattle.psy_dates.specs.Beginnings.{agent_in}
use Rattle.psy_dates.specs.Plans.{IsPlan, opened_of}
use Rattle.psy_dates.proofs.lemmas.Fits.{queue_size, ring_size, small_queue, small_ring}
use Rattle.psy_graph.specs.declared.graph.Graph.{Graph}
use Rattle.psy_graph.specs.Graphs.{IsTimed}
use Rattle.psy_graph.proofs.lemmas.MayStarts.{may_point}
use Rattle.psy_history.specs.Actions.{Next, Opening, System}
use Rattle.psy_history.specs.Executors.{Carried}
use Rattle.psy_history.specs.Openings.{AreHeldBefore, HasFigure, IsBegun, IsSound, MayCarry}
use Rattle.psy_kernel.specs.Freezing.{action_of, agent_of, begun_of, begun_with, copies_of, state_by, stream_by, variable_by}
use Rattle.psy_meaning.specs.CodeWays.{agent_code_at}
use Rattle.psy_meaning.specs.KnownWays.{Listed}
use Rattle.psy_meaning.specs.RingSizes.{agent_timing}
use Rattle.psy_meaning.specs.Timing.{first_date}
use Rattle.psy_snap.specs.Forms.{agent_form, form_of, stream_form, variable_form}
use Rattle.psy_snap.specs.Ranges.{FitsAgent, FitsBegun, FitsMessage, FitsState, FitsStart, FitsStream, FitsVariable, IfThere, IsLong, IsShort}
use Rattle.psy_snap.specs.Shapes.{HasAgentForm, HasBegun, HasForm, HasStreamForm, HasVarForm}
use Rattle.psy_save.proofs.FormParts.{all_made, are_made, copies_count, made_at, types_count}
use Rattle.psy_tree.specs.Parts.{agent_at, no_agent}

abbrev no_opening : AgentOpening
no_opening = record { begun = None; count = 0; slack = None }

module _ (plan : Plan) (its : IsPlan plan) (graphs : List Graph) (timed : (agent : ℕ) → agent < length plan.unit.agents → IsTimed (agent_timing plan.unit plan.nexts agent)) (until last : ℕ) (opening : Opening)
    (inputs : List (List ℤ)) (stalls : ℕ → List Stall) (sound : IsSound (opened_of plan opening inputs stalls) (Listed its.ways) plan.code) (done : opening.dates ≡ suc last) (small : last ≤ UNTIL)
    (later : last ≤ until) (long : (agent : ℕ) (carried : Carried) → agent < length plan.unit.agents → MayCarry plan.unit plan.code agent carried → All (FitsSigned w64) carried.cells)
    (short : (stream : ℕ) → All (λ (m : Message). m.number < 2 ^ 32) (opening.messages stream)) where
  abbrev system : System
  system = opened_of plan opening inputs stalls

  abbrev planned : Plan
  planned = record plan { until = until }

  abbrev state : State
  state = state_by plan opening

  -- ---- agents

  module _ (agent : ℕ) (less : agent < length plan.unit.agents) where
    abbrev own : List CopyInit
    own = (agent_code_at plan.code agent).copies

    abbrev copies : List ℤ
    copies = copies_of opening own

    count_copies : length copies ≡ (agent_form planned graphs agent).copies
    unfolding agent_form
    count_copies = length-map own (λ (c : CopyInit). opening.committed c.variable) ∙ copies_count plan its agent less

    fit_copies : All (FitsSigned w32) copies
    fit_copies = All-map (FitsSigned w32) (λ (c : CopyInit). opening.committed c.variable) own (λ i d there. sound.committed (get_or own i d).variable)

    module _ (n : Next) (starts : opening.starts agent ≡ Some n) where
      begins : n.start < opening.dates → IsBegun system agent n
      begins early = elim (sound.places agent n starts) [
        | inl begun ↦ begun
        | inr waits ↦ absurd (omega (arith, early, waits.ahead))
      ]

      count_cells : length n.carried.cells ≡ length (agent_form planned graphs agent).cells
      unfolding agent_form
      count_cells = (sound.carries agent n starts).cells ∙ sym (types_count (agent_at plan.unit agent) (length (agent_code_at plan.code agent).cells))

      fits_start : n.start < opening.dates → FitsStart (Some (action_of n))
      fits_start early =
          let alike = sound.starts agent n starts in
          let point = may_point (agent_timing plan.unit plan.nexts agent) (timed agent less) n.point alike.met alike.may in
          record {
            number = omega (arith, (begins early).number);
            point = omega (arith, point, (its.fits.bare.agents agent no_agent less).limit);
            cells = long agent n.carried less (sound.carries agent n starts);
          }

    -- It has the copies and cells of the form,
    has_with : (next : Option Next) → opening.starts agent ≡ next → HasBegun (agent_form planned graphs agent) (begun_with opening.dates copies next)
    has_with None is = tt
    has_with (Some n) is = by (nat_lt n.start opening.dates)
      where
        by : (b : Bool) → HasBegun (agent_form planned graphs agent) (cond b (Some (record { copies = copies; action = Some (action_of n) })) None)
        by true = (count_copies, count_cells n is)
        by false = tt

    has_begun : (silent : Bool) → HasBegun (agent_form planned graphs agent) (begun_of opening.dates copies silent (opening.starts agent))
    has_begun true = (count_copies, tt)
    has_begun false = has_with (opening.starts agent) refl

    -- in their ranges;
    fits_with : (next : Option Next) → opening.starts agent ≡ next → FitsBegun (begun_with opening.dates copies next)
    fits_with None is = tt
    fits_with (Some n) is = by (nat_lt n.start opening.dates) refl
      where
        by : (b : Bool) → nat_lt n.start opening.dates ≡ b → FitsBegun (cond b (Some (record { copies = copies; action = Some (action_of n) })) None)
        by true early = record { copies = fit_copies; start = fits_start n is (ltb-true _ _ early) }
        by false late = tt

    fits_begun : (silent : Bool) → FitsBegun (begun_of opening.dates copies silent (opening.starts agent))
    fits_begun true = record { copies = fit_copies; start = tt }
    fits_begun false = fits_with (opening.starts agent) refl

    -- and where it has nothing, its first date lies behind.
    late_with : (n : Next) (b : Bool) → nat_lt n.start opening.dates ≡ b → cond {A = Option Begun} b (Some (record { copies = copies; action = Some (action_of n) })) None ≡ None → opening.dates ≤ n.start
    late_with n true early none = absurd (none-some _ (sym none))
    late_with n false late none = ltb-false _ _ late

    awaits : (silent : Bool) → opening.silent agent ≡ silent → begun_of opening.dates copies silent (opening.starts agent) ≡ None → state.date < first_date (agent_timing plan.unit plan.nexts agent)
    awaits true is none = absurd (none-some _ (sym none))
    awaits false is none =
        let (n, starts) = sound.begins agent less is in
        let behind = late_with n (nat_lt n.start opening.dates) refl (ap (begun_with opening.dates copies) (sym starts) ∙ none) in
        elim (sound.places agent n starts) [
          | inl begun ↦ absurd (omega (arith, begun.last, behind))
          | inr waits ↦ omega (arith, done, waits.ahead, ap (λ (m : Next). m.start) waits.first)
        ]

    slack_fits : (count : ℕ) (slack : Option ℕ) → HasFigure count slack → IfThere IsLong slack
    slack_fits count None has = tt
    slack_fits count (Some n) has = omega (arith, has.1)

    agent_fits : FitsAgent (agent_of plan opening agent)
    agent_fits = record {
      begun = fits_begun (opening.silent agent);
      count = omega (arith, sound.counts agent);
      slack = slack_fits (opening.count agent) (opening.slack agent) (sound.slacks agent);
    }

    pub await : (agent_in state agent).begun ≡ None → state.date < first_date (agent_timing plan.unit plan.nexts agent)
    await none =
        awaits (opening.silent agent) refl
        (sym (ap (λ (a : AgentOpening). a.begun) (made_at (agent_of plan opening) (length plan.unit.agents) agent no_opening less)) ∙ none)

  -- ---- variables

  module _ (variable : ℕ) (less : variable < length plan.unit.variables) where
    count_values : length (opening.published variable) ≡ (variable_form planned variable).size
    unfolding variable_form
    count_values = (sound.rings last variable done less).size (get_or plan.sizes.rings variable 0) (ring_size plan its variable less)

    reach_fits : (reach : Option ℕ) → opening.reach variable ≡ reach → IfThere IsShort reach
    reach_fits None is = tt
    reach_fits (Some n) is = omega (arith, sound.reaches variable (get_or plan.sizes.rings variable 0) n (ring_size plan its variable less) is, small_ring plan its variable less)

    variable_fits : FitsVariable (variable_by opening variable)
    variable_fits = record { values = sound.published variable; reach = reach_fits (opening.reach variable) refl }

  -- ---- streams

  module _ (stream : ℕ) (less : stream < length plan.unit.streams) where
    held : AreHeldBefore system stream (opening.messages stream)
    held = sound.messages stream

    message_fits : All FitsMessage (opening.messages stream)
    message_fits = λ i d there.
        let m = held.each i d there in
        record {
          visible = omega (arith, m.late, m.near);
          entry = omega (arith, m.visible, m.late, m.near);
          sender = omega (arith, m.sender, its.fits.bare.agent_limit);
          number = short stream i d there;
          expiry = omega (arith, m.near);
          value = m.value;
        }

    stream_fits : FitsStream (stream_by opening stream)
    stream_fits = record {
      held = omega (arith, sound.most stream (get_or plan.sizes.queues stream 0) (queue_size plan its stream less), small_queue plan its stream less);
      messages = message_fits;
    }

  -- ---- all of it

  pub has_form : HasForm (form_of planned graphs) state
  unfolding form_of
  has_form = record {
    date = omega (arith, done, later);
    agents = are_made (agent_of plan opening) (length plan.unit.agents) HasAgentForm (agent_form planned graphs) (λ agent less. has_begun agent less (opening.silent agent));
    variables = are_made (variable_by opening) (length plan.unit.variables) HasVarForm (variable_form planned) count_values;
    streams = are_made (stream_by opening) (length plan.unit.streams) HasStreamForm (stream_form planned) (λ stream less. (held stream less).few);
  }

  pub fits_state : FitsState state
  fits_state = record {
    date = omega (arith, done, small);
    agents = all_made (agent_of plan opening) (length plan.unit.agents) FitsAgent agent_fits;
    variables = all_made (variable_by opening) (length plan.unit.variables) FitsVariable variable_fits;
    streams = all_made (stream_by opening) (length plan.unit.streams) FitsStream stream_fits;
  }
