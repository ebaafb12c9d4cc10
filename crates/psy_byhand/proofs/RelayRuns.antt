-- What comes of the relay's instructions: the first agent sends what it sees; the second takes a message, and adds 1 to what it says.
use Rattle.std.proofs.Common.{◌≡◌, ◌⊎◌, ℕ, zero, suc, ◌+◌, ◌≤◌, ◌==◌, All, List, [], ◌∷◌, Option, Some, None, map, length, refl, sym, subst, inl, inr, arith}
use Rattle.std.specs.Prelude.{◌+ℤ◌, FitsSigned, ℤ, Bool, true, false, cond, if◌then◌else◌, min, pos}
use Rattle.std.specs.Int.{w32, int_wrap}
use Rattle.std.specs.List.{Contains}
use Rattle.std.proofs.lemmas.Int.{SFits-int_wrap}
use Rattle.std.proofs.lemmas.List.Elements.{All-head}
use Rattle.std.proofs.lemmas.List.Sums.{sum_by-cons}
use Rattle.psy_arith.specs.declared.operators.Op2.{Op2}
use Rattle.psy_arith.specs.declared.operators.Op2.TheVariants.{Add}
use Rattle.psy_arith.specs.declared.width.Width.TheVariants.{W32}
use Rattle.psy_arith.specs.declared.operators.Trap.{Trap}
use Rattle.psy_base.specs.declared.limits.TheConstants.{SENDS}
use Rattle.psy_base.specs.declared.ways.SendWay.{SendWay}
use Rattle.psy_base.specs.declared.ways.Ways.{Ways as WayLists}
use Rattle.psy_code.specs.declared.code.Code.{Code}
use Rattle.psy_code.specs.declared.instr.Instr.{Instr}
use Rattle.psy_code.specs.declared.instr.Instr.TheVariants as instr
use Rattle.psy_code.specs.declared.look.Sent.{Sent}
use Rattle.psy_code.specs.Execution.{RanTo, Run, RunState, Running, TrappedBy, call_of}
use Rattle.psy_code.specs.Views.{View}
use Rattle.psy_history.specs.Actions.{System}
use Rattle.psy_history.specs.Executors.{Carried}
use Rattle.psy_history.specs.Fitting.{undisturbed}
use Rattle.psy_history.specs.Openings.{MayCarry}
use Rattle.psy_history.specs.Regular.{MayAsk}
use Rattle.psy_history.specs.Runs.{GoesWell, StandsWell, run_from}
use Rattle.psy_history.specs.Ways.{IsSentBy, sends_in}
use Rattle.psy_meaning.specs.Alike.{IsViewOf, is_there}
use Rattle.psy_meaning.specs.KnownWays.{Listed, most_in}
use Rattle.psy_byhand.specs.Laps.{variable_of}
use Rattle.psy_byhand.specs.Relays.{code_of, nexts, unit_of}
use Rattle.psy_byhand.proofs.Holding.{empty, holding, holds, is_empty, may_be_empty, may_hold}
use Rattle.psy_byhand.proofs.LapGraph.{one_there}

-- Their instructions, with any operator
abbrev pub relaying : Op2 → List Instr
relaying op =
    instr.Past 0 0 ∷ instr.Send 0 0 0 ∷ instr.Advance 1 ∷
    instr.Take 0 ∷ instr.Push (pos 1) ∷ instr.Binary op W32 ∷ instr.StoreCopy 0 ∷ instr.Advance 1 ∷ []

abbrev pub code : Code
code = code_of (relaying Add)

-- One message on each way of the first agent
abbrev pub one_send : List SendWay
one_send = record { to = 1; stream = 0; most = 1 } ∷ []

-- Their ways: the first agent looks at the variable and sends, which takes at most nine ticks.
abbrev pub ways : WayLists
ways = record {
  nexts = nexts;
  looks = ((0 ∷ []) ∷ (0 ∷ []) ∷ []) ∷ ([] ∷ [] ∷ []) ∷ [];
  sends = (one_send ∷ one_send ∷ []) ∷ ([] ∷ [] ∷ []) ∷ [];
  delays = 9 ∷ [];
}

module _ (quantum budget : ℕ) where
  abbrev system : System
  system = undisturbed (unit_of quantum budget) code nexts

  module _ (agent point : ℕ) where
    abbrev Asks : RunState → Type 0
    Asks t = MayAsk (Listed ways) (unit_of quantum budget) agent point (call_of code t.machine)

    asks_as : (s t : RunState) → Running s ≡ Running t → Asks s → Asks t
    asks_as s t e h = (let same : s ≡ t = cc in subst Asks same h)

    over : (to : ℕ) (s t : RunState) → RanTo to s ≡ Running t → ⊥
    over to s t e = cc

  -- ---- the first agent

  module _ (value : ℤ) (messages : List (Option (List ℤ))) where
    abbrev view : View
    view = record { pasts = (value ∷ []) ∷ []; messages = messages }

    abbrev sent : Sent
    sent = record { stream = 0; value = int_wrap w32 value; after = 0; clock = 0 }

    abbrev after : ℕ → ℕ → Run
    after point = run_from code 0 point empty view

    -- One message is no more than the ways send.
    one_or_none : (hits : Bool) (count n : ℕ) → count ≡ cond hits 1 0 + 0 → (if hits then 1 else 0) ≡ n → min count SENDS ≤ n
    one_or_none true count n is most = omega (arith, is, most)
    one_or_none false count n is most = omega (arith, is, most)

    one_at_most : (stream n : ℕ) → most_in one_send 1 stream ≡ n → min (sends_in stream (sent ∷ [])) SENDS ≤ n
    one_at_most stream n most = one_or_none (0 == stream) (sends_in stream (sent ∷ [])) n (sum_by-cons (λ (s : Sent). cond (s.stream == stream) 1 0) sent []) most

    ended : MayCarry (unit_of quantum budget) code 0 empty
    ended = may_be_empty (unit_of quantum budget) code 0 refl refl

    stands_0 : (n : ℕ) → StandsWell system (Listed ways) code 0 0 (after 0 n)
    stands_0 zero = (1, one_there, λ stream n most. omega arith)
    stands_0 (suc zero) = (1, one_there, λ stream n most. omega arith)
    stands_0 (suc (suc zero)) = (1, one_there, one_at_most)
    stands_0 (suc (suc (suc n))) = (one_there, one_at_most, ended)

    stands_1 : (n : ℕ) → StandsWell system (Listed ways) code 0 1 (after 1 n)
    stands_1 zero = (1, one_there, λ stream n most. omega arith)
    stands_1 (suc zero) = (1, one_there, λ stream n most. omega arith)
    stands_1 (suc (suc zero)) = (1, one_there, one_at_most)
    stands_1 (suc (suc (suc n))) = (one_there, one_at_most, ended)

    looked : Contains {X = ℕ} (0 ∷ []) 0
    looked = (0, omega arith, refl)

    is_sent_by : IsSentBy (Listed ways) (unit_of quantum budget) sent
    is_sent_by = record { fits = record { stream = omega arith; clock = omega arith; after = omega arith; value = SFits-int_wrap w32 value }; named = refl; soon = omega arith }

    asks_0 : (n : ℕ) (t : RunState) → after 0 n ≡ Running t → Asks 0 0 t
    asks_0 zero t e = asks_as 0 0 _ t e (variable_of 1, refl, omega arith, looked)
    asks_0 (suc zero) t e = asks_as 0 0 _ t e is_sent_by
    asks_0 (suc (suc zero)) t e = asks_as 0 0 _ t e tt
    asks_0 (suc (suc (suc n))) t e = absurd (over 0 0 _ _ t e)

    asks_1 : (n : ℕ) (t : RunState) → after 1 n ≡ Running t → Asks 0 1 t
    asks_1 zero t e = asks_as 0 1 _ t e (variable_of 1, refl, omega arith, looked)
    asks_1 (suc zero) t e = asks_as 0 1 _ t e is_sent_by
    asks_1 (suc (suc zero)) t e = asks_as 0 1 _ t e tt
    asks_1 (suc (suc (suc n))) t e = absurd (over 0 1 _ _ t e)

  -- A view has one value of the variable.
  one_value : (pasts : List (List ℤ)) → map length pasts ≡ 1 ∷ [] → (value : ℤ) × (pasts ≡ (value ∷ []) ∷ [])
  one_value [] e = absurd cc
  one_value ([] ∷ pasts) e = absurd cc
  one_value ((value ∷ []) ∷ []) e = (value, refl)
  one_value ((value ∷ []) ∷ more ∷ pasts) e = absurd cc
  one_value ((value ∷ second ∷ values) ∷ pasts) e = absurd cc

  pub sender_goes : (point : ℕ) (carried : Carried) (view : View) → (point ≡ 0) ⊎ (point ≡ 1) → MayCarry (unit_of quantum budget) code 0 carried → IsViewOf (unit_of quantum budget) 0 view → GoesWell system (Listed ways) code 0 point carried view
  sender_goes point carried view point_is may sees =
      let none = is_empty (unit_of quantum budget) code 0 refl refl carried may in
      let (value, pasts) = one_value view.pasts sees.depths in
      subst (λ c. GoesWell system (Listed ways) code 0 point c view) (sym none)
      (subst (λ ps. GoesWell system (Listed ways) code 0 point empty (record { pasts = ps; messages = view.messages })) (sym pasts)
      (elim point_is [
        | inl e ↦ subst (λ p. GoesWell system (Listed ways) code 0 p empty (record { pasts = (value ∷ []) ∷ []; messages = view.messages })) (sym e) (record { stands = λ n most. stands_0 value view.messages n; asks = λ n t early run. asks_0 value view.messages n t run })
        | inr e ↦ subst (λ p. GoesWell system (Listed ways) code 0 p empty (record { pasts = (value ∷ []) ∷ []; messages = view.messages })) (sym e) (record { stands = λ n most. stands_1 value view.messages n; asks = λ n t early run. asks_1 value view.messages n t run })
      ]))

  -- ---- the second agent

  module _ (value : ℤ) (fits : FitsSigned w32 value) (pasts : List (List ℤ)) where
    abbrev begun : List ℤ → ℕ → ℕ → Run
    begun messages point = run_from code 1 point (holding value) (record { pasts = pasts; messages = Some messages ∷ [] })

    -- A message, and 1
    abbrev sum : ℤ → ℤ
    sum m = int_wrap w32 (int_wrap w32 m +ℤ int_wrap w32 (pos 1))

    carries : (v : ℤ) → FitsSigned w32 v → MayCarry (unit_of quantum budget) code 1 (holding v)
    carries v fit = may_hold (unit_of quantum budget) code 1 refl refl v fit

    -- From the head on it advances.
    stands_head : (messages : List ℤ) (n : ℕ) → StandsWell system (Listed ways) code 1 0 (begun messages 0 n)
    stands_head messages zero = (1, one_there, λ stream n most. omega arith)
    stands_head messages (suc n) = (one_there, λ stream n most. omega arith, carries value fits)

    asks_head : (messages : List ℤ) (n : ℕ) (t : RunState) → begun messages 0 n ≡ Running t → Asks 1 0 t
    asks_head messages zero t e = asks_as 1 0 _ t e tt
    asks_head messages (suc n) t e = absurd (over 1 0 _ _ t e)

    -- From the `advance` on it traps where there is no message, and else takes one.
    stands_on : (messages : List ℤ) (n : ℕ) → StandsWell system (Listed ways) code 1 1 (begun messages 1 n)
    stands_on [] zero = (1, one_there, λ stream n most. omega arith)
    stands_on [] (suc n) = tt
    stands_on (m ∷ messages) zero = (1, one_there, λ stream n most. omega arith)
    stands_on (m ∷ messages) (suc zero) = (1, one_there, λ stream n most. omega arith)
    stands_on (m ∷ messages) (suc (suc zero)) = (1, one_there, λ stream n most. omega arith)
    stands_on (m ∷ messages) (suc (suc (suc zero))) = (1, one_there, λ stream n most. omega arith)
    stands_on (m ∷ messages) (suc (suc (suc (suc zero)))) = (1, one_there, λ stream n most. omega arith)
    stands_on (m ∷ messages) (suc (suc (suc (suc (suc n))))) = (one_there, λ stream n most. omega arith, carries (int_wrap w32 (sum m)) (SFits-int_wrap w32 (sum m)))

    trapped : (kind : Trap) (s t : RunState) → TrappedBy kind s ≡ Running t → ⊥
    trapped kind s t e = cc

    asks_on : (messages : List ℤ) (n : ℕ) (t : RunState) → begun messages 1 n ≡ Running t → Asks 1 1 t
    asks_on messages zero t e = asks_as 1 1 _ t e refl
    asks_on [] (suc n) t e = absurd (trapped _ _ t e)
    asks_on (m ∷ messages) (suc zero) t e = asks_as 1 1 _ t e tt
    asks_on (m ∷ messages) (suc (suc zero)) t e = asks_as 1 1 _ t e tt
    asks_on (m ∷ messages) (suc (suc (suc zero))) t e = asks_as 1 1 _ t e tt
    asks_on (m ∷ messages) (suc (suc (suc (suc zero)))) t e = asks_as 1 1 _ t e tt
    asks_on (m ∷ messages) (suc (suc (suc (suc (suc n))))) t e = absurd (over 1 1 _ _ t e)

  -- A view of the receiver has the messages of the stream.
  its_messages : (all : List (Option (List ℤ))) → map is_there all ≡ true ∷ [] → (messages : List ℤ) × (all ≡ Some messages ∷ [])
  its_messages [] e = absurd cc
  its_messages (None ∷ more) e = absurd cc
  its_messages (Some messages ∷ []) e = (messages, refl)
  its_messages (Some messages ∷ more ∷ rest) e = absurd cc

  copy_fits : (value : ℤ) (carried : Carried) → carried ≡ holding value → MayCarry (unit_of quantum budget) code 1 carried → FitsSigned w32 value
  copy_fits value carried is may = All-head (λ c. FitsSigned w32 c.value) (record { variable = 0; value = value }) [] (subst (λ (c : Carried). All (λ c. FitsSigned w32 c.value) c.copies) is may.copies)

  pub receiver_goes : (point : ℕ) (carried : Carried) (view : View) → (point ≡ 0) ⊎ (point ≡ 1) → MayCarry (unit_of quantum budget) code 1 carried → IsViewOf (unit_of quantum budget) 1 view → GoesWell system (Listed ways) code 1 point carried view
  receiver_goes point carried view point_is may sees =
      let (value, is) = holds (unit_of quantum budget) code 1 refl refl carried may in
      let fits = copy_fits value carried is may in
      let (messages, all) = its_messages view.messages sees.streams in
      subst (λ c. GoesWell system (Listed ways) code 1 point c view) (sym is)
      (subst (λ ms. GoesWell system (Listed ways) code 1 point (holding value) (record { pasts = view.pasts; messages = ms })) (sym all)
      (elim point_is [
        | inl e ↦ subst (λ p. GoesWell system (Listed ways) code 1 p (holding value) (record { pasts = view.pasts; messages = Some messages ∷ [] })) (sym e) (record { stands = λ n most. stands_head value fits view.pasts messages n; asks = λ n t early run. asks_head value fits view.pasts messages n t run })
        | inr e ↦ subst (λ p. GoesWell system (Listed ways) code 1 p (holding value) (record { pasts = view.pasts; messages = Some messages ∷ [] })) (sym e) (record { stands = λ n most. stands_on value fits view.pasts messages n; asks = λ n t early run. asks_on value fits view.pasts messages n t run })
      ]))
