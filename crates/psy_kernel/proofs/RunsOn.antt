-- A run of an action's code within its budget, under any view that shows it what it may look at.
use Rattle.std.proofs.Common.{◌≡◌, ◌≢◌, ◌⊎◌, ℕ, zero, suc, ◌+◌, ◌-◌, ◌<◌, ◌≤◌, Option, Some, None, slice_get, refl, sym, ap, ◌∙◌, subst, inl, inr, arith}
use Rattle.std.specs.Prelude.{IsSome, length}
use Rattle.std.proofs.lemmas.Bool.{cases_lt}
use Rattle.psy_meaning.proofs.lemmas.Running.{same_running, not_over}
use Rattle.psy_code.specs.declared.code.AgentCode.{AgentCode}
use Rattle.psy_code.specs.declared.code.Code.{Code}
use Rattle.psy_code.specs.Execution.{RunState, Run, Running, RanTo, TrappedBy, NoRun, Stuck, call_of, next_of, go_on, run_by, run_one, run_code}
use Rattle.psy_code.specs.Lasting.{IsOver}
use Rattle.psy_code.specs.Views.{Call, Past, Ready, Take, Send, View, Window, PermitsAll, ServesAll, first_of, found_in}
use Rattle.psy_machine.specs.Stepping.{look_of, window_after}
use Rattle.psy_history.specs.Actions.{Action, System}
use Rattle.psy_meaning.specs.CodeWays.{agent_code_at}
use Rattle.psy_history.specs.Regular.{AnswerAlike, Goes, MayAsk, begun_by}
use Rattle.psy_meaning.specs.KnownWays.{Ways}
use Rattle.psy_kernel.specs.Acting.{ShowsAs}

module _ (code : Code) (its : AgentCode) where
  -- a run that is over stays so
  stays_by : (run : Run) (t : RunState) (n k : ℕ) → ((s : RunState) → IsOver (run_code code its s n) t → run_code code its s (n + k) ≡ run_code code its s n)
      → IsOver (go_on run (λ s. run_code code its s n)) t → go_on run (λ s. run_code code its s (n + k)) ≡ go_on run (λ s. run_code code its s n)
  stays_by (Running s) t n k each over = each s over
  stays_by (RanTo point s) t n k each over = refl
  stays_by (TrappedBy kind s) t n k each over = refl
  stays_by NoRun t n k each over = refl

  suc_plus : (n k : ℕ) → suc n + k ≡ suc (n + k)
  suc_plus n k = omega arith

  stays : (t : RunState) (n k : ℕ) (s : RunState) → IsOver (run_code code its s n) t → run_code code its s (n + k) ≡ run_code code its s n
  stays t zero k s over = absurd over
  stays t (suc n) k s over = ap (run_code code its s) (suc_plus n k) ∙ stays_by (run_one code its s) t n k (stays t n k) over

  pub stays_over : (t : RunState) (n m : ℕ) (s : RunState) → n ≤ m → IsOver (run_code code its s n) t → run_code code its s m ≡ run_code code its s n
  stays_over t n m s less over =
      let e : m ≡ n + (m - n) = omega (arith, less) in
      ap (run_code code its s) e ∙ stays t n (m - n) s over

-- ---- what is asked of a window that shows an action what it may ask

module _ (s : System) (ways : Ways) (code : Code) (r : Action) (paid : ℕ) (window : Window) (shows : ShowsAs s code r paid window) (state : RunState) (running : run_code code (agent_code_at code r.agent) (begun_by (agent_code_at code r.agent) r) paid ≡ Running state) where
  -- it answers what the action asks as its own view does
  pub answers_alike : state.view.pasts ≡ r.view.pasts → (call : Option Call) → call_of code state.machine ≡ call → MayAsk ways s.unit r.agent r.point call → AnswerAlike window.view state.view call
  answers_alike pasts None is asks = tt {0}
  answers_alike pasts (Some (Past variable back)) is asks = shows.pasts state running variable back is ∙ sym (ap (λ lists. found_in (slice_get lists variable) (λ values. slice_get values back)) pasts)
  answers_alike pasts (Some (Ready stream)) is asks = ap (λ messages. found_in messages (λ values. Some (length values))) (shows.messages state running stream asks)
  answers_alike pasts (Some (Take stream)) is asks =
      (ap (λ messages. found_in messages (λ values. Some (length values))) (shows.messages state running stream asks), ap (λ messages. found_in messages first_of) (shows.messages state running stream asks))
  answers_alike pasts (Some (Send sent)) is asks = tt {0}

  -- it permits what that view serves
  pub permits : (call : Option Call) → call_of code state.machine ≡ call → MayAsk ways s.unit r.agent r.point call → AnswerAlike window.view state.view call → ServesAll state.view call → PermitsAll window call
  permits None is asks alike served = tt {0}
  permits (Some (Past variable back)) is asks alike served = (subst IsSome (sym alike) served, tt {0})
  permits (Some (Ready stream)) is asks alike served = (subst IsSome (sym (shows.messages state running stream asks)) served, tt {0})
  permits (Some (Take stream)) is asks alike served = (subst IsSome (sym (shows.messages state running stream asks)) served, tt {0})
  permits (Some (Send sent)) is asks alike served = (tt {0}, (omega (arith, asks.fits.stream, shows.streams), omega (arith, asks.fits.clock, shows.clocks), shows.room state running sent is))

-- A window that noted no look notes that of a call
pub noted_after : (window : Window) (call : Option Call) → window.noted ≡ None → (window_after window call).noted ≡ look_of call
noted_after window None fresh = fresh
noted_after window (Some (Past variable back)) fresh = refl
noted_after window (Some (Ready stream)) fresh = fresh
noted_after window (Some (Take stream)) fresh = fresh
noted_after window (Some (Send sent)) fresh = fresh

-- ---- a run that is over after so many instructions, or goes on until its budget is spent

pub record IsWhole (s : System) (ways : Ways) (code : Code) (its : AgentCode) (r : Action) (steps : ℕ) (last : RunState) : Type 0 where
  pub within : steps ≤ r.budget
  pub ends : IsOver (run_code code its (begun_by its r) steps) last ⊎ ((steps ≡ r.budget) × (run_code code its (begun_by its r) steps ≡ Running last))
  pub counted : last.deeds.steps ≡ steps
  pub on_the_way : (n : ℕ) → n < steps → Goes s ways code its r n

module _ (s : System) (ways : Ways) (code : Code) (its : AgentCode) (r : Action) (steps : ℕ) (last : RunState) (whole : IsWhole s ways code its r steps last) where
  abbrev run : ℕ → Run
  run n = run_code code its (begun_by its r) n

  -- a run that goes on isn't at its end,
  pub before_over : IsOver (run steps) last → (n : ℕ) (t : RunState) → run n ≡ Running t → n < steps
  before_over over n t e = elim (cases_lt n steps) [
    | inl less ↦ less
    | inr more ↦ absurd (not_over t last (run steps) (sym (stays_over code its last steps n (begun_by its r) more over) ∙ e) over)
  ]

  -- nor where its budget is not yet spent
  pub early : (n : ℕ) → n < r.budget → (t : RunState) → run n ≡ Running t → n < steps
  early n left t e = elim whole.ends [ inl over ↦ before_over over n t e | inr spent ↦ omega (arith, left, spent.0) ]

  pub at_end : (n : ℕ) → n < steps → ((t : RunState) → run (suc n) ≡ Running t → ⊥) → steps ≡ suc n
  at_end n less halts = elim (cases_lt (suc n) steps) [
    | inl other ↦ absurd (halts _ (whole.on_the_way (suc n) other).running)
    | inr more ↦ omega (arith, less, more)
  ]

  -- where it doesn't go on, it is over
  pub over_then : (n : ℕ) → steps ≡ n → ((t : RunState) → run n ≡ Running t → ⊥) → IsOver (run steps) last
  over_then n is halts = elim whole.ends [ inl over ↦ over | inr spent ↦ absurd (halts last (ap run (sym is) ∙ spent.1)) ]

  -- the next instruction of a run that goes on
  module _ (n : ℕ) (left : n < r.budget) (t : RunState) (running : run n ≡ Running t) where
    goes : Goes s ways code its r n
    goes = whole.on_the_way n (early n left t running)

    same : goes.state ≡ t
    same = same_running goes.state t (sym goes.running ∙ running)

    pub asks : MayAsk ways s.unit r.agent r.point (call_of code t.machine)
    asks = subst (λ (t : RunState). MayAsk ways s.unit r.agent r.point (call_of code t.machine)) same goes.asks

    pub served : ServesAll t.view (call_of code t.machine)
    served = subst (λ (t : RunState). ServesAll t.view (call_of code t.machine)) same goes.served

    pub pasts : t.view.pasts ≡ r.view.pasts
    pasts = subst (λ (t : RunState). t.view.pasts ≡ r.view.pasts) same goes.pasts

    seen : (view : View) → AnswerAlike view t.view (call_of code t.machine) → next_of code its view t.machine ≡ next_of code its t.view t.machine
    seen view alike =
        subst (λ (t : RunState). AnswerAlike view t.view (call_of code t.machine) → next_of code its view t.machine ≡ next_of code its t.view t.machine) same (goes.same view) alike

    pub able : (view : View) → AnswerAlike view t.view (call_of code t.machine) → next_of code its view t.machine ≢ Stuck
    able view alike stuck = subst (λ (t : RunState). next_of code its t.view t.machine ≢ Stuck) same goes.able (sym (seen view alike) ∙ stuck)

    pub next_run : (view : View) → AnswerAlike view t.view (call_of code t.machine) → run (suc n) ≡ run_by t (call_of code t.machine) (next_of code its view t.machine)
    next_run view alike = goes.next ∙ ap (run_one code its) same ∙ ap (run_by t (call_of code t.machine)) (sym (seen view alike))
