-- What comes of the counter's instructions: after five of them the action has ended, with 1 added to its copy.
use Rattle.std.proofs.Common.{◌≡◌, ◌⊎◌, ℕ, zero, suc, List, [], ◌∷◌, refl, sym, subst, inl, inr, arith}
use Rattle.std.specs.Prelude.{◌+ℤ◌, ℤ, pos}
use Rattle.std.specs.Int.{w32, int_wrap}
use Rattle.std.proofs.lemmas.Int.{SFits-int_wrap}
use Rattle.psy_arith.specs.declared.operators.Op2.{Op2}
use Rattle.psy_arith.specs.declared.operators.Op2.TheVariants.{Add}
use Rattle.psy_arith.specs.declared.width.Width.TheVariants.{W32}
use Rattle.psy_base.specs.declared.ways.Ways.{Ways as WayLists}
use Rattle.psy_code.specs.declared.code.Code.{Code}
use Rattle.psy_code.specs.declared.instr.Instr.{Instr}
use Rattle.psy_code.specs.declared.instr.Instr.TheVariants as instr
use Rattle.psy_code.specs.Execution.{RanTo, Run, RunState, Running, call_of}
use Rattle.psy_code.specs.Views.{View}
use Rattle.psy_history.specs.Actions.{System}
use Rattle.psy_history.specs.Executors.{Carried}
use Rattle.psy_history.specs.Fitting.{undisturbed}
use Rattle.psy_history.specs.Openings.{MayCarry}
use Rattle.psy_history.specs.Regular.{MayAsk}
use Rattle.psy_history.specs.Runs.{GoesWell, StandsWell, run_from}
use Rattle.psy_meaning.specs.KnownWays.{Listed}
use Rattle.psy_byhand.specs.Counters.{code_of, nexts, unit_of}
use Rattle.psy_byhand.proofs.Holding.{holding, holds, may_hold}
use Rattle.psy_byhand.proofs.LapGraph.{one_there}

-- Its instructions, with any operator
abbrev pub counting : Op2 → List Instr
counting op = instr.LoadCopy 0 ∷ instr.Push (pos 1) ∷ instr.Binary op W32 ∷ instr.StoreCopy 0 ∷ instr.Advance 1 ∷ []

abbrev pub code : Code
code = code_of (counting Add)

-- Its ways: no look, and no send
abbrev pub ways : WayLists
ways = record { nexts = nexts; looks = ([] ∷ [] ∷ []) ∷ []; sends = ([] ∷ [] ∷ []) ∷ []; delays = [] }

module _ (quantum budget : ℕ) where
  abbrev system : System
  system = undisturbed (unit_of quantum budget) code nexts

  -- ---- an action, from the head and from the `advance`

  module _ (value : ℤ) (view : View) where
    -- What comes of the operator, and what is left of it in the copy
    abbrev sum : ℤ
    sum = int_wrap w32 (int_wrap w32 value +ℤ int_wrap w32 (pos 1))

    abbrev kept : ℤ
    kept = int_wrap w32 sum

    abbrev after : ℕ → ℕ → Run
    after point = run_from code 0 point (holding value) view

    ended : MayCarry (unit_of quantum budget) code 0 (holding kept)
    ended = may_hold (unit_of quantum budget) code 0 refl refl kept (SFits-int_wrap w32 sum)

    stands_0 : (n : ℕ) → StandsWell system (Listed ways) code 0 0 (after 0 n)
    stands_0 zero = (1, one_there, λ stream n most. omega arith)
    stands_0 (suc zero) = (1, one_there, λ stream n most. omega arith)
    stands_0 (suc (suc zero)) = (1, one_there, λ stream n most. omega arith)
    stands_0 (suc (suc (suc zero))) = (1, one_there, λ stream n most. omega arith)
    stands_0 (suc (suc (suc (suc zero)))) = (1, one_there, λ stream n most. omega arith)
    stands_0 (suc (suc (suc (suc (suc n))))) = (one_there, λ stream n most. omega arith, ended)

    -- The same stands from the `advance`, since it begins at the same place.
    stands_1 : (n : ℕ) → StandsWell system (Listed ways) code 0 1 (after 1 n)
    stands_1 zero = (1, one_there, λ stream n most. omega arith)
    stands_1 (suc zero) = (1, one_there, λ stream n most. omega arith)
    stands_1 (suc (suc zero)) = (1, one_there, λ stream n most. omega arith)
    stands_1 (suc (suc (suc zero))) = (1, one_there, λ stream n most. omega arith)
    stands_1 (suc (suc (suc (suc zero)))) = (1, one_there, λ stream n most. omega arith)
    stands_1 (suc (suc (suc (suc (suc n))))) = (one_there, λ stream n most. omega arith, ended)

    -- No instruction asks anything.
    module _ (point : ℕ) where
      abbrev Asks : RunState → Type 0
      Asks t = MayAsk (Listed ways) (unit_of quantum budget) 0 point (call_of code t.machine)

      asks_as : (s t : RunState) → Running s ≡ Running t → Asks s → Asks t
      asks_as s t e h = (let same : s ≡ t = cc in subst Asks same h)

      over : (to : ℕ) (s t : RunState) → RanTo to s ≡ Running t → ⊥
      over to s t e = cc

    asks_0 : (n : ℕ) (t : RunState) → after 0 n ≡ Running t → Asks 0 t
    asks_0 zero t e = asks_as 0 _ t e tt
    asks_0 (suc zero) t e = asks_as 0 _ t e tt
    asks_0 (suc (suc zero)) t e = asks_as 0 _ t e tt
    asks_0 (suc (suc (suc zero))) t e = asks_as 0 _ t e tt
    asks_0 (suc (suc (suc (suc zero)))) t e = asks_as 0 _ t e tt
    asks_0 (suc (suc (suc (suc (suc n))))) t e = absurd (over 0 _ _ t e)

    asks_1 : (n : ℕ) (t : RunState) → after 1 n ≡ Running t → Asks 1 t
    asks_1 zero t e = asks_as 1 _ t e tt
    asks_1 (suc zero) t e = asks_as 1 _ t e tt
    asks_1 (suc (suc zero)) t e = asks_as 1 _ t e tt
    asks_1 (suc (suc (suc zero))) t e = asks_as 1 _ t e tt
    asks_1 (suc (suc (suc (suc zero)))) t e = asks_as 1 _ t e tt
    asks_1 (suc (suc (suc (suc (suc n))))) t e = absurd (over 1 _ _ t e)

  -- From both points it goes well.
  pub goes_well : (point : ℕ) (carried : Carried) (view : View) → (point ≡ 0) ⊎ (point ≡ 1) → MayCarry (unit_of quantum budget) code 0 carried → GoesWell system (Listed ways) code 0 point carried view
  goes_well point carried view point_is may =
      let (value, is) = holds (unit_of quantum budget) code 0 refl refl carried may in
      subst (λ c. GoesWell system (Listed ways) code 0 point c view) (sym is)
      (elim point_is [
        | inl e ↦ subst (λ p. GoesWell system (Listed ways) code 0 p (holding value) view) (sym e) (record { stands = λ n most. stands_0 value view n; asks = λ n t early run. asks_0 value view n t run })
        | inr e ↦ subst (λ p. GoesWell system (Listed ways) code 0 p (holding value) view) (sym e) (record { stands = λ n most. stands_1 value view n; asks = λ n t early run. asks_1 value view n t run })
      ])
