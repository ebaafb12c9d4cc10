-- No action sends more messages than its agent's outbox holds.
use Rattle.std.proofs.Common.{◌≡◌, ℕ, zero, suc, ◌+◌, ◌<◌, ◌≤◌, ◌==◌, Bool, true, false, List, [], ◌∷◌, ◌++◌, Some, length, get_or, refl, sym, ap, ◌∙◌, subst, inl, inr, arith}
use Rattle.std.specs.Prelude.{cond, nat_lt}
use Rattle.std.specs.List.{All, Contains, count_by}
use Rattle.std.proofs.lemmas.Bool.{cases_Bool, le-ltb, lt-ltb}
use Rattle.std.proofs.lemmas.List.{length-append}
use Rattle.std.proofs.lemmas.List.Elements.{All-contains, Contains-get_or}
use Rattle.std.proofs.lemmas.List.Sums.{sum_by-cons}
use Rattle.std.proofs.lemmas.Option.{slice_get-get_or}
use Rattle.psy_base.specs.declared.limits.TheConstants.{QUEUE}
use Rattle.psy_lists.proofs.lemmas.Members.{contains_front, contains_behind}
use Rattle.psy_code.specs.declared.code.AgentCode.{AgentCode}
use Rattle.psy_code.specs.declared.code.Code.{Code}
use Rattle.psy_code.specs.declared.look.Sent.{Sent}
use Rattle.psy_code.specs.Execution.{Run, RunState, Running, call_of, deeds_then, run_by, run_code, state_then}
use Rattle.psy_code.specs.Views.{Send}
use Rattle.psy_history.specs.Actions.{Action, System, timing}
use Rattle.psy_meaning.specs.CodeWays.{agent_code_at}
use Rattle.psy_base.specs.Extremes.{IsGreatest}
use Rattle.psy_meaning.specs.Timing.{following}
use Rattle.psy_history.specs.Regular.{MayAsk, begun_by}
use Rattle.psy_history.specs.Runs.{IsRun, StandsWell}
use Rattle.psy_meaning.specs.KnownWays.{HasMost, Ways, is_sent}
use Rattle.psy_history.specs.Ways.{IsSentBy, SendsAtMost, sends_in}
use Rattle.psy_meaning.specs.QueueSizes.{AreQueues, AreSendsBelow, HasSendsTo, IsSizeFor, IsSpread, IsSpreadBelow}
use Rattle.psy_history.proofs.AskedCalls.{deeds_of, sent_asked_for}
use Rattle.psy_history.proofs.GoingOn.{goes_on}
use Rattle.psy_history.proofs.RunActions.{AreRunLaws, point_known}
use Rattle.psy_history.proofs.RunHistories.{IsOwn}
use Rattle.psy_history.proofs.RunsWithin.{able_at, one_more, stands_well, well}
use Rattle.psy_history.proofs.SendEdges.{single_weight, uncut}
use Rattle.psy_history.proofs.SendWeights.{weighed}

-- ---- counts

-- None passes a test that each fails.
pub count_none : {X : Type 0} (test : X → Bool) (xs : List X) → ((x : X) → Contains xs x → test x ≡ false) → count_by test xs ≡ 0
count_none test [] fails = refl
count_none test (x ∷ xs) fails =
    let first : ◌≡◌ {A = ℕ} (cond (test x) 1 0) 0 = ap (λ b. cond b 1 0) (fails x (contains_front x xs)) in
    omega (arith, sum_by-cons (λ x. cond (test x) 1 0) x xs, first, count_none test xs (λ y c. fails y (contains_behind x xs y c)))

-- All pass a test that each passes.
count_all : {X : Type 0} (test : X → Bool) (xs : List X) → ((x : X) → Contains xs x → test x ≡ true) → count_by test xs ≡ length xs
count_all test [] passes = refl
count_all test (x ∷ xs) passes =
    let first : ◌≡◌ {A = ℕ} (cond (test x) 1 0) 1 = ap (λ b. cond b 1 0) (passes x (contains_front x xs)) in
    omega (arith, sum_by-cons (λ x. cond (test x) 1 0) x xs, first, count_all test xs (λ y c. passes y (contains_behind x xs y c)))

-- Below the next number is what is below this one, or is it.
below_next : (n k : ℕ) → cond (nat_lt n (suc k)) 1 0 ≡ cond (nat_lt n k) 1 0 + cond (n == k) 1 0
below_next n k = grind arith

-- Sends to the streams below the next number are those below this one and those to it.
count_next : (k : ℕ) (sends : List Sent) → count_by (λ (s : Sent). nat_lt s.stream (suc k)) sends ≡ count_by (λ (s : Sent). nat_lt s.stream k) sends + sends_in k sends
count_next k [] = refl
count_next k (s ∷ sends) =
    omega (
      arith,
      sum_by-cons (λ (s : Sent). cond (nat_lt s.stream (suc k)) 1 0) s sends,
      sum_by-cons (λ (s : Sent). cond (nat_lt s.stream k) 1 0) s sends,
      sum_by-cons (λ (s : Sent). cond (s.stream == k) 1 0) s sends,
      below_next s.stream k,
      count_next k sends,
    )

module _ (s : System) (ways : Ways) (code : Code) (laws : AreRunLaws code) (run : IsRun s ways code) (agent : ℕ) (r : Action) (own : IsOwn s ways code agent r) where
  abbrev its : AgentCode
  its = agent_code_at code agent

  abbrev after : ℕ → Run
  after = run_code code its (begun_by its r)

  -- ---- the most sends to a stream from a point to a next one

  module _ (to : ℕ) (follows : Contains (following (timing s agent) r.point) to) (sends : List Sent) (at_most : SendsAtMost ways agent r.point to sends) where
    -- The most sends to a stream on such a way, and at most as many of these are to it.
    record IsBound (stream : ℕ) : Type 0 where
      bound : ℕ
      most : HasMost ways agent r.point to stream bound
      above : sends_in stream sends ≤ bound

    bound_with : (stream n : ℕ) → HasMost ways agent r.point to stream n → n ≤ QUEUE → IsBound stream
    bound_with stream n most small = record { bound = n; most = most; above = uncut (sends_in stream sends) n (at_most stream n most) small }

    -- An agent sends at most as many within a window as the size of the queue says of all.
    spread_of : (stream window agents size : ℕ) → IsSpreadBelow s.unit ways s.nexts stream window agents size → agent < agents → (one : ℕ) × IsSpread s.unit ways s.nexts stream window agent one × (one ≤ size)
    spread_of stream window zero size is less = absurd (omega (arith, less))
    spread_of stream window (suc agents) size (others, one, below, its, sum) less = elim (cases_Bool (agent == agents)) [
      | inl same ↦ (let is : agents ≡ agent = grind (arith, same) in (one, subst (λ a. IsSpread s.unit ways s.nexts stream window a one) is its, omega (arith, sum)))
      | inr other ↦ (let (n, found, small) = spread_of stream window agents others below (grind (arith, less, other)) in (n, found, omega (arith, small, sum)))
    ]

    -- The edge of the action to the point tells the bound.
    bound_in : (stream window one : ℕ) → one ≤ QUEUE → IsSpread s.unit ways s.nexts stream window agent one → IsBound stream
    bound_in stream window one small (spots, edges, sent, graph, are, greatest) =
        let (f, among, most) = weighed s ways agent stream spots edges sent graph are r own.regular to follows in
        let less : f.weight ≤ one = single_weight sent _ one greatest f among in
        bound_with stream f.weight most (omega (arith, less, small))

    -- Whoever sends to the stream, there is a bound.
    bound_by : (stream size : ℕ) (b : Bool) → is_sent ways stream ≡ b → IsSizeFor s.unit ways s.nexts stream size b → size ≤ QUEUE → IsBound stream
    bound_by stream size false none is small =
        let known = point_known s ways code laws run agent own.regular.known r.point own.regular.starts.met own.regular.starts.may in
        bound_with stream 0 (run.unsent agent r.point to stream own.regular.known known follows none) (omega arith)
    bound_by stream size true some (window, of_window, spreads) small =
        let (one, spread, less) = spread_of stream window (length s.unit.agents) size spreads own.regular.known in
        bound_in stream window one (omega (arith, less, small)) spread

    -- ---- the sum over the streams

    module _ (queues : List ℕ) (are : AreQueues s.unit ways s.nexts queues) (small : All (λ size. size ≤ QUEUE) queues) where
      -- Each stream of the unit has a bound.
      bound_of : (stream : ℕ) → stream < length s.unit.streams → IsBound stream
      bound_of stream less =
          let within : stream < length queues = omega (arith, less, are.count) in
          let size = get_or queues stream 0 in
          bound_by stream size (is_sent ways stream) refl (are.each stream size (slice_get-get_or queues stream 0 within)) (All-contains (λ size. size ≤ QUEUE) queues size small (Contains-get_or queues stream 0 within))

      -- The bounds of the first so many streams, summed
      sum_below : (streams : ℕ) → streams ≤ length s.unit.streams → (n : ℕ) × AreSendsBelow ways agent r.point to streams n × (count_by (λ (x : Sent). nat_lt x.stream streams) sends ≤ n)
      sum_below zero within = (0, refl, omega (arith, count_none (λ (x : Sent). nat_lt x.stream 0) sends (λ x c. le-ltb x.stream 0 (omega arith))))
      sum_below (suc stream) within =
          let (others, below, less) = sum_below stream (omega (arith, within)) in
          let one = bound_of stream (omega (arith, within)) in
          (others + one.bound, (others, one.bound, below, one.most, refl), omega (arith, count_next stream sends, less, one.above))

      -- No more is sent to the unit's streams than the outbox holds.
      sent_most : (size : ℕ) → IsGreatest (HasSendsTo s.unit ways s.nexts agent) size → count_by (λ (x : Sent). nat_lt x.stream (length s.unit.streams)) sends ≤ size
      sent_most size greatest =
          let (n, sums, less) = sum_below (length s.unit.streams) (omega arith) in
          let known = point_known s ways code laws run agent own.regular.known r.point own.regular.starts.met own.regular.starts.may in
          let most = greatest.most n (r.point, to, known, follows, sums) in
          omega (arith, less, most)

  -- ---- an action

  -- What it has sent after so many instructions, it asked to send: so all of it is to streams of the unit.
  all_known : (n : ℕ) → n ≤ r.budget → (sent : Sent) → Contains (deeds_of (after n)).sends sent → nat_lt sent.stream (length s.unit.streams) ≡ true
  all_known n most sent c =
      let asked = sent_asked_for code its n (begun_by its r) refl sent c in
      let asks = (well s ways code laws run agent r own).asks asked.at asked.state (omega (arith, asked.before, most, own.regular.budget)) asked.running in
      let by : IsSentBy ways s.unit sent = subst (MayAsk ways s.unit agent r.point) asked.asks asks in
      lt-ltb sent.stream (length s.unit.streams) by.fits.stream

  -- So there is room in the agent's outbox for what an instruction sends.
  pub has_place : (queues : List ℕ) → AreQueues s.unit ways s.nexts queues → All (λ size. size ≤ QUEUE) queues → (size instr : ℕ) (state : RunState) (sent : Sent) → IsGreatest (HasSendsTo s.unit ways s.nexts agent) size
      → after instr ≡ Running state → call_of code state.machine ≡ Some (Send sent) → instr < r.budget → length state.deeds.sends < size
  has_place queues are small size instr state sent greatest running asks less =
      let (m, went) = goes_on code its state.view state.machine (Send sent) (tt {0}) asks (able_at s ways code laws run agent r own instr state less running) in
      let last : RunState = state_then state (call_of code state.machine) m in
      let next : after (suc instr) ≡ Running last = one_more code its (begun_by its r) state instr running ∙ ap (run_by state (call_of code state.machine)) went in
      let (to, follows, at_most) = subst (StandsWell s ways code agent r.point) next (stands_well s ways code laws run agent r own (suc instr) (omega (arith, less))) in
      let sends : last.deeds.sends ≡ state.deeds.sends ++ sent ∷ [] = ap (λ call. (deeds_then state.deeds call).sends) asks in
      let known = count_all (λ (x : Sent). nat_lt x.stream (length s.unit.streams)) last.deeds.sends
      (λ x c. all_known (suc instr) (omega (arith, less)) x (subst (λ o. Contains (deeds_of o).sends x) (sym next) c)) in
      let most = sent_most to follows last.deeds.sends at_most queues are small size greatest in
      omega (arith, known, most, ap length sends, length-append state.deeds.sends (sent ∷ []))
