-- The cycles of a processor between a date and the next one.
use Rattle.std.proofs.Common.{◌≡◌, sym, subst, arith}
use Rattle.std.specs.Prelude.{ℕ, zero, suc, ◌+◌, ◌*◌, ◌<◌, ◌≤◌}
use Rattle.psy_kernel.specs.Standing.{InTick}

no_cycles : (quantum : ℕ) → 0 * quantum ≡ 0
no_cycles quantum = grind arith

-- A cycle that stands between a date and the next one
abbrev pub IsInside : ℕ → ℕ → ℕ → ℕ → ℕ → Type 0
IsInside quantum until dates cycles date = (dates ≡ date + 1) × (date < until) × (date * quantum ≤ cycles) × (cycles < (date + 1) * quantum)

-- Before the last date, a cycle that comes before the next one does so.
pub inside_tick : (quantum until dates cycles : ℕ) → InTick quantum until dates cycles → dates ≤ until → cycles < dates * quantum → (date : ℕ) × IsInside quantum until dates cycles date
inside_tick quantum until zero cycles h early less = let none = no_cycles quantum in absurd (omega (arith, less, none))
inside_tick quantum until (suc date) cycles h early less =
    let e : suc date ≡ date + 1 = omega arith in
    (date, (e, omega (arith, early), h.1, subst (λ n. cycles < n * quantum) e less))

-- And as many more as the tick has stay in it
pub tick_kept : (quantum until dates cycles date n : ℕ) → IsInside quantum until dates cycles date → cycles + n ≤ (date + 1) * quantum → InTick quantum until dates (cycles + n)
tick_kept quantum until dates cycles date n h high =
    let e : dates ≡ suc date = omega (arith, h.0) in
    subst (λ d. InTick quantum until d (cycles + n)) (sym e) (omega (arith, h.1), omega (arith, h.2), high, λ last. absurd (omega (arith, h.1, last)))
