-- What the cycles of an agent's action go to: the stalls before each instruction, then the instruction itself.
use Rattle.std.specs.Prelude.{ℕ, zero, suc, ◌+◌, ◌-◌, ◌^◌, ◌<◌, ◌≤◌, ◌⊎◌, ◌≡◌, min, ◌==◌, ◌&&◌, nat_lt, if◌then◌else◌, List, [], ◌∷◌}
use Rattle.std.specs.List.{AllPairs, sum_by}
use Rattle.psy_budget.specs.declared.charge.Stall.{Stall}
use Rattle.psy_budget.specs.declared.charge.Tick.{Tick}
use Rattle.psy_budget.specs.declared.charge.Tick.TheVariants as tick

-- An action as it was charged so far.
pub record Charged : Type 0 where
  -- the stalls of the agent, of all its actions
  pub stalls : List Stall
  -- how many of its actions have started, this one among them
  pub started : ℕ
  pub budget : ℕ
  -- how many cycles it had
  pub consumed : ℕ
  -- how many instructions these paid
  pub paid : ℕ

-- A stall of an earlier action, or one of this action before an earlier instruction
abbrev pub IsBelow : ℕ → ℕ → Stall → Type 0
IsBelow action instr s = (s.action < action) ⊎ ((s.action ≡ action) × (s.instr < instr))

-- Stalls rise strictly by action, then by instruction.
abbrev pub StallsRise : List Stall → Type 0
StallsRise = AllPairs (λ s t. IsBelow t.action t.instr s)

-- The cycles of an action's stalls before its instructions 0 to n - 1
abbrev pub stalled : List Stall → ℕ → ℕ → ℕ
stalled stalls action n = sum_by (λ s. if s.action == action && nat_lt s.instr n then s.cycles else 0) stalls

-- The number of the present action, counted from 0
abbrev pub action_of : Charged → ℕ
action_of c = c.started - 1

-- What the next cycle goes to. It isn't granted where the budget is spent; else it goes to a stall before the next instruction
-- where one is left, and to that instruction where none is.
abbrev pub tick_of : Charged → Tick
tick_of c =
    if c.consumed == c.budget then tick.Spent
    else if nat_lt c.consumed (c.paid + stalled c.stalls (action_of c) (c.paid + 1)) then tick.Stalled
    else tick.Paid

-- The charge after a cycle that went to this
abbrev pub after_tick : Charged → Tick → Charged
after_tick c tick.Paid = record c { consumed = c.consumed + 1; paid = c.paid + 1 }
after_tick c tick.Stalled = record c { consumed = c.consumed + 1 }
after_tick c tick.Spent = c

-- The next action begins. The count of actions stays at 2^64 - 1.
abbrev pub after_start : Charged → ℕ → Charged
after_start c budget = record c { started = min (c.started + 1) (2 ^ 64 - 1); budget = budget; consumed = 0; paid = 0 }

-- The action of this number begins.
abbrev pub after_start_at : Charged → ℕ → ℕ → Charged
after_start_at c number budget = record c { started = number + 1; budget = budget; consumed = 0; paid = 0 }

-- Actions with these budgets begin, one behind the other.
abbrev pub after_starts : Charged → List ℕ → Charged
after_starts c [] = c
after_starts c (budget ∷ budgets) = after_starts (after_start c budget) budgets

-- The charge after so many cycles
abbrev pub ticked : Charged → ℕ → Charged
ticked c zero = c
ticked c (suc n) = after_tick (ticked c n) (tick_of (ticked c n))

-- The next n cycles all go to this.
abbrev pub AllGoTo : Charged → Tick → ℕ → Type 0
AllGoTo c t n = (k : ℕ) → k < n → tick_of (ticked c k) ≡ t

-- n is the greatest number, up to `most`, of cycles in a row from the next on that all go to this.
pub record IsStretch (c : Charged) (t : Tick) (most n : ℕ) : Type 0 where
  pub within : n ≤ most
  pub all : AllGoTo c t n
  pub greatest : (m : ℕ) → m ≤ most → AllGoTo c t m → m ≤ n

-- The next cycle is the one that pays this instruction.
abbrev pub Pays : Charged → ℕ → Type 0
Pays c instr = (tick_of c ≡ tick.Paid) × (c.paid ≡ instr)

-- The number of the cycle of an action that pays an instruction: before it come the instructions before, and the stalls up to
-- and with its own.
abbrev pub cycle_of : List Stall → ℕ → ℕ → ℕ
cycle_of stalls action instr = instr + stalled stalls action (instr + 1)
