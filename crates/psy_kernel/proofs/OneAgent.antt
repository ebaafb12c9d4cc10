-- What the agent whose action gets a cycle has after it.
use Rattle.std.proofs.Common.{◌≡◌, refl, sym, ap, ◌∙◌, subst, inl, inr, arith}
use Rattle.std.specs.Prelude.{ℕ, suc, ◌+◌, ◌-◌, ◌*◌, ◌<◌, ◌≤◌, Bool, true, false, not, nat_le, nat_lt, if◌then◌else◌, List, [], ◌∷◌, filter, length, map, ◌^◌, Option, Some, None, slice_get, ℤ}
use Rattle.std.specs.List.{All}
use Rattle.std.proofs.lemmas.Bool.{cases_lt, cond-true, cond-false, and_right, ltb-true, lt-ltb, le-ltb, le-leb, lt-leb}
use Rattle.std.proofs.lemmas.List.{get_or_past}
use Rattle.std.proofs.lemmas.List.Elements.{All-weaker}
use Rattle.std.proofs.lemmas.Option.{slice_get-get_or}
use Rattle.psy_lists.proofs.lemmas.Searches.{filter_less}
use Rattle.psy_arith.specs.declared.operators.Trap.{Trap}
use Rattle.psy_code.specs.declared.code.Code.{Code}
use Rattle.psy_code.specs.Execution.{Machine, copy_of}
use Rattle.psy_dates.specs.declared.seat.Seat.{Seat}
use Rattle.psy_dates.specs.declared.seat.Phase.TheVariants as phase
use Rattle.psy_dates.specs.Standing.{KeepsCopy, SeatOf, TellsEnd, phase_by, phase_of, trap_of}
use Rattle.psy_machine.specs.Stepping.{AgentMachine, IsOf}
use Rattle.psy_history.specs.Actions.{Action, System, Verdict, Done, Trapped, Overran, is_done, is_silent, timing, variable_of}
use Rattle.psy_meaning.specs.CodeWays.{agent_code_at}
use Rattle.psy_history.specs.Executors.{copy_in, machine_at}
use Rattle.psy_history.specs.Schedule.{Turn, finish, is_of, is_pending, units, work}
use Rattle.psy_meaning.specs.States.{value_or_zero}
use Rattle.psy_meaning.specs.Timing.{end_date}
use Rattle.psy_tree.specs.declared.unit.VarDecl.{VarDecl}
use Rattle.psy_history.specs.Summary.{due_by, due_count, least_slack, slack_of}
use Rattle.psy_base.specs.Extremes.{lesser}
use Rattle.psy_kernel.specs.Acting.{AfterCycle, InAction}
use Rattle.psy_kernel.specs.Cycles.{GetsCycle, OneStands, figured}
use Rattle.psy_kernel.specs.declared.engine.Figure.{Figure}
use Rattle.psy_kernel.specs.declared.engine.Runner.{Runner}
use Rattle.psy_kernel.specs.declared.engine.advance.Gone.TheVariants as gone
use Rattle.psy_kernel.specs.Standing.{IsAtEnd, IsRunning, MachineIn, charge_after, settled}
use Rattle.psy_kernel.proofs.Figures.{added_is, added_more, least_more}
use Rattle.psy_kernel.proofs.OtherAgents.{AreSameFor, is_own, least_settled_same, missed, other_number, settled_same}
use Rattle.psy_tree.specs.Parts.{no_variable}

-- ---- settled actions

-- An action that isn't settled stands in front of those that are
settled_behind : (p : Action → Bool) (until : ℕ) (r : Action) (before : List Action) → p r ≡ false → filter p (due_by until (r ∷ before)) ≡ filter p (due_by until before)
settled_behind p until r before h = by (nat_le r.deadline until)
  where
    by : (test : Bool) → filter p (if test then r ∷ due_by until before else due_by until before) ≡ filter p (due_by until before)
    by true = cond-false (p r) (r ∷ filter p (due_by until before)) (filter p (due_by until before)) h
    by false = refl

-- One that is due later isn't
later_behind : (p : Action → Bool) (until : ℕ) (r : Action) (before : List Action) → until < r.deadline → filter p (due_by until (r ∷ before)) ≡ filter p (due_by until before)
later_behind p until r before h = ap (λ test. filter p (if test then r ∷ due_by until before else due_by until before)) (lt-leb r.deadline until h)

settled_first : (p : Action → Bool) (until : ℕ) (r : Action) (before : List Action) → r.deadline ≤ until → p r ≡ true → filter p (due_by until (r ∷ before)) ≡ r ∷ filter p (due_by until before)
settled_first p until r before due h =
    ap (λ test. filter p (if test then r ∷ due_by until before else due_by until before)) (le-leb r.deadline until due)
    ∙ cond-true (p r) (r ∷ filter p (due_by until before)) (filter p (due_by until before)) h

-- A variable that has an owner is one of the program's
pub variable_known : (s : System) (variable owner : ℕ) → (variable_of s variable).owner ≡ Some owner → slice_get s.unit.variables variable ≡ Some (variable_of s variable)
variable_known s variable owner e = elim (cases_lt variable (length s.unit.variables)) [
  | inl less ↦ slice_get-get_or s.unit.variables variable no_variable less
  | inr past ↦ absurd (let none : None ≡ Some owner = sym (ap (λ (v : VarDecl). v.owner) (get_or_past s.unit.variables variable no_variable past)) ∙ e in cc)
]

-- ---- the action that gets the cycle

module _ (s : System) (code : Code) (turns : List (Option Turn)) (until date cycle agent : ℕ) (r : Action) (before : List Action) (g : GetsCycle s code turns until date cycle agent r before) where
  abbrev pub had : ℕ
  had = units r.agent r.number turns

  abbrev pub turn : Turn
  turn = record { agent = r.agent; number = r.number }

  abbrev pub now : List (Option Turn)
  now = Some turn ∷ turns

  older : All (AreSameFor turns now) before
  older = All-weaker (λ (q : Action). q.number < r.number) (AreSameFor turns now) (λ q h. missed (Some turn) turns q (other_number q.agent q.number turn (λ e. absurd (omega (arith, h, e))))) before g.numbers

  pub more : units r.agent r.number now ≡ suc had
  more = cond-true (is_of r.agent r.number (Some turn)) (suc had) had (is_own r.agent r.number)

  finished : finish r.agent r.number now ≡ cycle + 1
  finished = cond-true (is_of r.agent r.number (Some turn)) (length turns + 1) (finish r.agent r.number turns) (is_own r.agent r.number) ∙ ap (λ n. n + 1) g.at

  pub early : had < work r
  early = ltb-true had (work r) g.pending

  pub still : suc had < work r → is_pending now r ≡ true
  still h = ap (λ n. nat_lt n (work r)) more ∙ lt-ltb (suc had) (work r) h

  pub over : suc had ≡ work r → is_pending now r ≡ false
  over h = ap (λ n. nat_lt n (work r)) more ∙ le-ltb (suc had) (work r) (omega (arith, h))

  settled_now : is_pending now r ≡ true → settled now until (r ∷ before) ≡ settled now until before
  settled_now h = settled_behind (λ q. not (is_pending now q)) until r before (ap not h)

  settled_then : settled turns until (r ∷ before) ≡ settled turns until before
  settled_then = settled_behind (λ q. not (is_pending turns q)) until r before (ap not g.pending)

  -- the figures before
  module _ (figure : Figure) (counted : figure.count ≡ due_count s agent (settled turns until (r ∷ before))) (slacked : figure.slack ≡ least_slack s turns agent (settled turns until (r ∷ before))) where
    pub count_few : figure.count ≤ 2 ^ 50 + until
    count_few =
        let e = counted ∙ ap (due_count s agent) settled_then ∙ added_is (s.opening.count agent) (length (settled turns until before)) in
        let a = filter_less (λ q. not (is_pending turns q)) (due_by until before) in
        let b = filter_less (λ (q : Action). nat_le q.deadline until) before in
        omega (arith, e, a, b, g.few, g.counted)

    count_before : figure.count ≡ due_count s agent (settled now until before)
    count_before = counted ∙ ap (due_count s agent) (settled_then ∙ sym (settled_same turns now until before older))

    slack_before : figure.slack ≡ least_slack s now agent (settled now until before)
    slack_before = slacked ∙ ap (least_slack s turns agent) settled_then ∙ sym (least_settled_same turns now s until agent before older)

    count_kept : is_pending now r ≡ true → figure.count ≡ due_count s agent (settled now until (r ∷ before))
    count_kept h = count_before ∙ ap (due_count s agent) (sym (settled_now h))

    slack_kept : is_pending now r ≡ true → figure.slack ≡ least_slack s now agent (settled now until (r ∷ before))
    slack_kept h = slack_before ∙ ap (least_slack s now agent) (sym (settled_now h))

    abbrev after : Figure
    after = figured until s.unit.quantum r.deadline (cycle + 1) figure

    -- the figures of an action that is due by the last date, and of one that isn't
    abbrev AreFigures : Figure → Type 0
    AreFigures f = (f.count ≡ due_count s agent (settled now until (r ∷ before))) × (f.slack ≡ least_slack s now agent (settled now until (r ∷ before)))

    figures_due : is_pending now r ≡ false → r.deadline ≤ until → AreFigures (record { count = figure.count + 1; slack = lesser (r.deadline * s.unit.quantum - (cycle + 1)) figure.slack })
    figures_due h due =
        let e = settled_first (λ q. not (is_pending now q)) until r before due (ap not h) in (
          ap (λ n. n + 1) count_before ∙ added_more (s.opening.count agent) (length (settled now until before)) ∙ ap (due_count s agent) (sym e),
          ap (λ n. lesser (r.deadline * s.unit.quantum - n) figure.slack) (sym finished) ∙ ap (lesser (slack_of s.unit.quantum now r)) slack_before
              ∙ least_more (s.opening.slack agent) (slack_of s.unit.quantum now r) (map (slack_of s.unit.quantum now) (settled now until before)) ∙ ap (least_slack s now agent) (sym e),
        )

    figures_later : until < r.deadline → AreFigures figure
    figures_later later =
        let e = later_behind (λ q. not (is_pending now q)) until r before later in
        (count_before ∙ ap (due_count s agent) (sym e), slack_before ∙ ap (least_slack s now agent) (sym e))

    figures : is_pending now r ≡ false → AreFigures after
    figures h = elim (cases_lt until r.deadline) [
      | inl later ↦ subst AreFigures (sym (cond-false (nat_le r.deadline until) (record { count = figure.count + 1; slack = lesser (r.deadline * s.unit.quantum - (cycle + 1)) figure.slack }) figure (lt-leb r.deadline until later))) (figures_later later)
      | inr due ↦ subst AreFigures (sym (cond-true (nat_le r.deadline until) (record { count = figure.count + 1; slack = lesser (r.deadline * s.unit.quantum - (cycle + 1)) figure.slack }) figure (le-leb r.deadline until due))) (figures_due h due)
    ]

  -- ---- its seat

  awake : is_silent date (r ∷ []) ≡ false
  awake = and_right (not (is_done r.verdict)) (nat_le r.deadline date) (lt-leb r.deadline date g.later)

  pub phase_acting : is_pending now r ≡ true → phase_of date now r ≡ phase.Acting
  phase_acting h = ap (λ silent. phase_by silent (is_pending now r) (is_done r.verdict)) awake ∙ ap (λ pending. phase_by false pending (is_done r.verdict)) h

  phase_then : phase_of date turns r ≡ phase.Acting
  phase_then = ap (λ silent. phase_by silent (is_pending turns r) (is_done r.verdict)) awake ∙ ap (λ pending. phase_by false pending (is_done r.verdict)) g.pending

  pub phase_over : is_pending now r ≡ false → phase_of date now r ≡ phase_by false false (is_done r.verdict)
  phase_over h = ap (λ silent. phase_by silent (is_pending now r) (is_done r.verdict)) awake ∙ ap (λ pending. phase_by false pending (is_done r.verdict)) h

  module _ (seat : Seat) (at : SeatOf date turns r seat) where
    seat_acting : is_pending now r ≡ true → SeatOf date now r seat
    seat_acting h = record {
      phase = at.phase ∙ phase_then ∙ sym (phase_acting h);
      number = at.number;
      point = at.point;
      start = at.start;
      deadline = at.deadline;
      ends = at.ends;
    }

    seat_ended : (point end : ℕ) → is_pending now r ≡ false → r.verdict ≡ Done point end → SeatOf date now r (record seat { phase = phase.Ended; end = end; reached = point })
    seat_ended point end h e = record {
      phase = sym (phase_over h ∙ ap (λ verdict. phase_by false false (is_done verdict)) e);
      number = at.number;
      point = at.point;
      start = at.start;
      deadline = at.deadline;
      ends = subst (λ verdict. TellsEnd (record seat { phase = phase.Ended; end = end; reached = point }) verdict phase.Ended) (sym e) (refl, refl);
    }

    seat_stopped : is_pending now r ≡ false → is_done r.verdict ≡ false → SeatOf date now r (record seat { phase = phase.Stopped; trap = trap_of r.verdict })
    seat_stopped h e = record {
      phase = sym (phase_over h ∙ ap (λ done. phase_by false false done) e);
      number = at.number;
      point = at.point;
      start = at.start;
      deadline = at.deadline;
      ends = tells r.verdict e;
    }
      where
        tells : (verdict : Verdict) → is_done verdict ≡ false → TellsEnd (record seat { phase = phase.Stopped; trap = trap_of verdict }) verdict phase.Stopped
        tells (Done point end) wrong = refl
        tells (Trapped kind) wrong = refl
        tells Overran wrong = refl

  -- ---- all that it has

  -- the kept copies are those of the machine
  abbrev pub AreOfMachine : List ℤ → AgentMachine → Type 0
  AreOfMachine ended machine = (variable : ℕ) (v : VarDecl) (value : ℤ) → slice_get s.unit.variables variable ≡ Some v → v.owner ≡ Some agent → slice_get ended variable ≡ Some value → copy_of variable machine.machine.copies ≡ Some value

  kept_copies : (point : ℕ) (ended : List ℤ) (machine : AgentMachine) → machine.machine ≡ machine_at (agent_code_at code r.agent) point r.after → AreOfMachine ended machine
      → (variable : ℕ) (value : ℤ) → slice_get ended variable ≡ Some value → (variable_of s variable).owner ≡ Some agent → value ≡ copy_in r.after variable
  kept_copies point ended machine e are variable value at owned =
      let copy = are variable (variable_of s variable) value (variable_known s variable agent owned) owned at in
      ap value_or_zero (sym copy ∙ ap (λ (m : Machine). copy_of variable m.copies) e)

  pub in_action : (runner : Runner) (waits : Option ℕ) (seat : Seat) (ended : List ℤ) → OneStands s code turns until date agent (r ∷ before) runner waits seat ended → InAction s code r had runner.charge runner.machine
  in_action runner waits seat ended old = record {
    of_code = g.of_code;
    agent = old.stands.is_agent ∙ sym g.agent_is;
    pending = early;
    charged = old.stands.charged;
    running = subst (λ test. MachineIn s code turns r test runner.machine) g.pending old.stands.executes;
  }

  module _ (runner : Runner) (waits : Option ℕ) (seat : Seat) (ended : List ℤ) (old : OneStands s code turns until date agent (r ∷ before) runner waits seat ended) (runner' : Runner) (is_of : IsOf code runner'.machine) where
    pub goes_on : runner'.figure ≡ runner.figure → AfterCycle s code r had gone.Going runner'.charge runner'.machine → OneStands s code now until date agent (r ∷ before) runner' waits seat ended
    goes_on same a =
        let on = still a.gone.0 in
        record {
          stands = record {
            charged = a.charged ∙ ap (charge_after s r) (sym more);
            is_agent = a.agent ∙ g.agent_is;
            of_code = is_of;
            executes = subst (λ test. MachineIn s code now r test runner'.machine) (sym on) (subst (λ n. IsRunning code r (charge_after s r n).paid runner'.machine) (sym more) a.gone.1);
            ready = old.stands.ready ∙ ap (λ test. if test then Some r.deadline else None) (g.pending ∙ sym on);
            counted = ap (λ (f : Figure). f.count) same ∙ count_kept runner.figure old.stands.counted old.stands.slacked on;
            slacked = ap (λ (f : Figure). f.slack) same ∙ slack_kept runner.figure old.stands.counted old.stands.slacked on;
          };
          seated = seat_acting seat old.seated on;
          kept = λ variable value at owned e. absurd (let wrong : phase.Acting ≡ phase.Ended = sym (phase_acting on) ∙ e in cc);
        }

    -- with the figure that it has where it is over
    module _ (figure_is : runner'.figure ≡ figured until s.unit.quantum r.deadline (cycle + 1) runner.figure) where
      is_over : (seat' : Seat) (ended' : List ℤ) → suc had ≡ work r → runner'.charge ≡ charge_after s r (suc had) → runner'.machine.agent ≡ r.agent → IsAtEnd code r r.verdict runner'.machine → SeatOf date now r seat'
          → ((variable : ℕ) (value : ℤ) → slice_get ended' variable ≡ Some value → (variable_of s variable).owner ≡ Some agent → KeepsCopy date now variable (r ∷ before) value)
          → OneStands s code now until date agent (r ∷ before) runner' None seat' ended'
      is_over seat' ended' last charged of at_end sits kept =
          let off = over last in
          let f = subst (AreFigures runner.figure old.stands.counted old.stands.slacked) (sym figure_is) (figures runner.figure old.stands.counted old.stands.slacked off) in
          record {
            stands = record {
              charged = charged ∙ ap (charge_after s r) (sym more);
              is_agent = of ∙ g.agent_is;
              of_code = is_of;
              executes = subst (λ test. MachineIn s code now r test runner'.machine) (sym off) at_end;
              ready = ap (λ test. if test then Some r.deadline else None) (sym off);
              counted = f.0;
              slacked = f.1;
            };
            seated = sits;
            kept = kept;
          }

      pub reaches : (point end : ℕ) (ended' : List ℤ) → end ≡ end_date (timing s agent) r.start point → AfterCycle s code r had (gone.Ended point) runner'.charge runner'.machine → AreOfMachine ended' runner'.machine
          → OneStands s code now until date agent (r ∷ before) runner' None (record seat { phase = phase.Ended; end = end; reached = point }) ended'
      reaches point end ended' is a are =
          let same : a.gone.1 ≡ end = (g.ends point a.gone.1 a.gone.2).0 ∙ sym is in
          is_over (record seat { phase = phase.Ended; end = end; reached = point }) ended' a.gone.0 a.charged a.agent (subst (λ verdict. IsAtEnd code r verdict runner'.machine) (sym a.gone.2) a.gone.3)
          (seat_ended seat old.seated point end (over a.gone.0) (a.gone.2 ∙ ap (Done point) same))
          (λ variable value at owned e. kept_copies point ended' runner'.machine a.gone.3 are variable value at owned)

      not_ended : is_pending now r ≡ false → is_done r.verdict ≡ false → (variable : ℕ) (value : ℤ) → KeepsCopy date now variable (r ∷ before) value
      not_ended off done variable value e = absurd (let wrong : phase.Stopped ≡ phase.Ended = sym (phase_over off ∙ ap (λ test. phase_by false false test) done) ∙ e in cc)

      pub traps : (kind : Trap) → AfterCycle s code r had (gone.Trapped kind) runner'.charge runner'.machine → OneStands s code now until date agent (r ∷ before) runner' None (record seat { phase = phase.Stopped; trap = Some kind }) ended
      traps kind a =
          let off = over a.gone.0 in
          let done = ap is_done a.gone.1 in
          is_over (record seat { phase = phase.Stopped; trap = Some kind }) ended a.gone.0 a.charged a.agent (subst (λ verdict. IsAtEnd code r verdict runner'.machine) (sym a.gone.1) (tt {0}))
          (subst (λ trap. SeatOf date now r (record seat { phase = phase.Stopped; trap = trap })) (ap trap_of a.gone.1) (seat_stopped seat old.seated off done))
          (λ variable value at owned. not_ended off done variable value)

      pub overruns : AfterCycle s code r had gone.Spent runner'.charge runner'.machine → OneStands s code now until date agent (r ∷ before) runner' None (record seat { phase = phase.Stopped; trap = None }) ended
      overruns a =
          let off = over a.gone.0 in
          let done = ap is_done a.gone.1 in
          is_over (record seat { phase = phase.Stopped; trap = None }) ended a.gone.0 a.charged a.agent (subst (λ verdict. IsAtEnd code r verdict runner'.machine) (sym a.gone.1) (tt {0}))
          (subst (λ trap. SeatOf date now r (record seat { phase = phase.Stopped; trap = trap })) (ap trap_of a.gone.1) (seat_stopped seat old.seated off done))
          (λ variable value at owned. not_ended off done variable value)
