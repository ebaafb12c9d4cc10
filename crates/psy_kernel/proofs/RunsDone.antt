-- An engine whose last date was done: who is busy there.
use Rattle.std.proofs.Common.{◌≡◌, ℕ, suc, ◌+◌, ◌-◌, ◌*◌, ◌<◌, ◌≤◌, List, [], length, slice_get, Option, Some, None, sym, ap, subst, ◌∙◌, inl, inr, arith}
use Rattle.std.specs.Prelude.{MatchOption}
use Rattle.std.proofs.Math.Numerals.{add-one}
use Rattle.std.proofs.lemmas.Bool.{cases_lt}
use Rattle.std.proofs.lemmas.Option.{slice_get-get_or}
use Rattle.psy_code.specs.declared.code.Code.{Code}
use Rattle.psy_history.specs.Actions.{System}
use Rattle.psy_history.specs.History.{history}
use Rattle.psy_history.specs.Processors.{processor_at, processors}
use Rattle.psy_history.specs.Regular.{IsLawful}
use Rattle.psy_history.specs.Resuming.{IsQuiet, is_busy}
use Rattle.psy_history.specs.Runs.{IsRun}
use Rattle.psy_history.specs.Schedule.{Turn}
use Rattle.psy_history.specs.Scheduled.{turns_by}
use Rattle.psy_history.specs.Scripts.{stalls_of}
use Rattle.psy_meaning.specs.KnownWays.{Listed, Ways}
use Rattle.psy_dates.specs.declared.seat.Seat.{Seat}
use Rattle.psy_dates.specs.Standing.{SharedStands, dates_done}
use Rattle.psy_dates.proofs.lemmas.Begun.{AreBegun, are_begun}
use Rattle.psy_dates.proofs.lemmas.Fits.{goes_well_from}
use Rattle.psy_kernel.specs.declared.engine.Engine.TheInside.{Inside}
use Rattle.psy_kernel.specs.Engines.{EngineState}
use Rattle.psy_kernel.specs.Freezing.{IsFirstBusy, IsFirstUnderWay, NoneUnderWay, is_under_way}
use Rattle.psy_kernel.specs.Standing.{EngineStands, state_of}
use Rattle.psy_kernel.specs.Starting.{seat_at}
use Rattle.psy_kernel.proofs.DatesDue.{AreRunLaws, HaveHomes, Unstarted}
use Rattle.psy_kernel.proofs.Engines.{opening_in, order_in, run_in, turns_in}
use Rattle.psy_kernel.proofs.Parts.{shared_alike}
use Rattle.psy_kernel.proofs.Started.{Sits}
use Rattle.psy_kernel.proofs.SummaryLines.{all_turns}
use Rattle.psy_kernel.proofs.UnderWay.{IsAgentAt, none_known, under_way_is}

-- The last date of an engine was done.
pub record IsDone (k : Inside) : Type 0 where
  pub stands : EngineStands k
  pub done : dates_done k.shared.date ≡ k.plan.until + 1
  pub run : IsRun (run_in k) (Listed stands.plan.ways) k.plan.code
  pub lawful : IsLawful (run_in k)
  pub opens : AreBegun (run_in k) (suc k.plan.until)
  pub homes : (agent : ℕ) → processor_at k.plan.unit agent < processors k.plan.unit
  pub no_cycle : Unstarted

pub is_done : (k : Inside) (e : EngineState) → EngineStands k → state_of k ≡ e → e.dates ≡ e.plan.until + 1 → AreRunLaws → Unstarted → HaveHomes → IsDone k
is_done k e w view over laws no_cycle homes = record {
  stands = w;
  done = done;
  run = run;
  lawful = laws.lawful s ways code run;
  opens = are_begun s ways code (suc k.plan.until) (w.sound w.plan) (omega (arith, w.behind, done)) (laws.none s ways code run) (laws.silent s ways code run) (laws.waits s ways code run);
  homes = homes k.plan.unit;
  no_cycle = no_cycle;
}
  where
    s : System
    s = run_in k

    ways : Ways
    ways = Listed w.plan.ways

    code : Code
    code = k.plan.code

    done : dates_done k.shared.date ≡ k.plan.until + 1
    done = subst (λ (q : EngineState). q.dates ≡ q.plan.until + 1) (sym view) over

    run : IsRun s ways code
    run = goes_well_from k.plan w.plan laws.well laws.opened (opening_in k) k.shared.inputs.lists (stalls_of k.script) w.inputs w.sound

module _ (k : Inside) (at : IsDone k) where
  abbrev pub s : System
  s = run_in k

  abbrev pub until : ℕ
  until = k.plan.until

  -- by agent, what all cycles before the date went to
  abbrev pub turns : ℕ → List (Option Turn)
  turns agent = turns_by s (order_in k) (until * s.unit.quantum) agent

  pub turns_all : (agent : ℕ) → turns_in k agent ≡ turns agent
  turns_all agent = all_turns k at.stands at.done at.homes agent

  pub quantum_some : 1 ≤ k.plan.unit.quantum
  quantum_some = at.stands.plan.fits.bare.quantum.0

  pub last : dates_done k.shared.date ≡ suc until
  last = at.done ∙ add-one until

  pub shares : SharedStands s k.plan.sizes turns (suc until) k.shared
  shares = shared_alike s k.plan.sizes (turns_in k) turns (suc until) k.shared turns_all (subst (λ d. SharedStands s k.plan.sizes (turns_in k) d k.shared) last at.stands.shared)

  -- the date done last
  pub before : suc until - 1 ≡ until
  before = omega arith

  pub agent_at : (agent : ℕ) → IsAgentAt s until agent (turns agent)
  agent_at agent = record {
    lawful = at.lawful;
    opens = at.opens;
    unstarted = λ number more. at.no_cycle s (order_in k) until (until * s.unit.quantum) agent number at.lawful quantum_some (omega arith) more;
  }

  pub sits : (agent : ℕ) (seat : Seat) → slice_get k.shared.seats.items agent ≡ Some seat → Sits s until (turns agent) agent (history s (suc until) agent) seat
  sits agent seat there = subst (λ d. Sits s d (turns agent) agent (history s (suc until) agent) seat) before (shares.seats agent seat there)

  pub seat_there : (agent : ℕ) → agent < length k.plan.unit.agents → slice_get k.shared.seats.items agent ≡ Some (seat_at k.shared.seats.items agent)
  seat_there agent less = slice_get-get_or k.shared.seats.items agent _ (omega (arith, less, shares.seated))

  under_way : (agent : ℕ) → agent < length k.plan.unit.agents → is_under_way until (seat_at k.shared.seats.items agent) ≡ is_busy until (history s (suc until) agent)
  under_way agent less = under_way_is s until agent (turns agent) (agent_at agent) (seat_at k.shared.seats.items agent) (sits agent (seat_at k.shared.seats.items agent) (seat_there agent less))

  -- An agent that there isn't has no actions.
  pub none_unknown : (dates agent : ℕ) → length k.plan.unit.agents ≤ agent → history s dates agent ≡ []
  none_unknown dates agent past = none_known s at.lawful dates agent past

  quiet_from : NoneUnderWay until k.shared.seats.items (length k.shared.seats.items) → IsQuiet s until
  quiet_from none agent = elim (cases_lt agent (length k.plan.unit.agents)) [
    | inl less ↦ sym (under_way agent less) ∙ none agent (omega (arith, less, shares.seated))
    | inr past ↦ ap (is_busy until) (none_unknown (suc until) agent past)
  ]

  first_from : (agent : ℕ) → IsFirstUnderWay until k.shared.seats.items agent → IsFirstBusy s until agent
  first_from agent first =
      let known : agent < length k.plan.unit.agents = omega (arith, first.known, shares.seated) in
      record {
        known = known;
        busy = sym (under_way agent known) ∙ first.is;
        first = λ lesser less. sym (under_way lesser (omega (arith, less, known))) ∙ first.first lesser less;
      }

  -- The first agent that is busy, or the date is quiet
  pub busy_told : (o : Option ℕ) → MatchOption o (NoneUnderWay until k.shared.seats.items (length k.shared.seats.items)) (IsFirstUnderWay until k.shared.seats.items)
      → MatchOption o (IsQuiet s until) (IsFirstBusy s until)
  busy_told None none = quiet_from none
  busy_told (Some agent) first = first_from agent first
