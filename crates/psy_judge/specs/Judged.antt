-- What is judged of code, and the least of its faults.
use Rattle.std.specs.Prelude.{◌≡◌, ◌<◌, ◌&&◌, ◌||◌, ℕ, Bool, true, false, if◌then◌else◌, nat_eq, nat_lt, Option, None, Some}
use Rattle.psy_flow.specs.Verified.{ComesBefore, Rule, number_of}
use Rattle.psy_judge.specs.declared.fault.Fault.{Fault}

-- Told is whether it holds.
abbrev pub Judges : Bool → Type 0 → Type 0
Judges true P = P
Judges false P = P → ⊥

-- A place breaks what the rule of this number says of it.
abbrev pub Breaks : (ℕ → Rule → Type 0) → ℕ → ℕ → Type 0
Breaks Says number place = (rule : Rule) × (number ≡ number_of rule) × (Says place rule → ⊥)

-- The least fault by place, then number: what comes before it is kept.
pub record IsLeastOf (Says : ℕ → Rule → Type 0) (fault : Fault) : Type 0 where
  pub present : Breaks Says fault.number fault.place
  pub least : (before : ℕ) (rule : Rule) → ComesBefore before (number_of rule) fault.place fault.number → Says before rule

-- The least fault, where there is any
abbrev pub IsLeast : (ℕ → Rule → Type 0) → Option Fault → Type 0
IsLeast Says None = (place : ℕ) (rule : Rule) → Says place rule
IsLeast Says (Some fault) = IsLeastOf Says fault

-- The first rule that is broken at one place, by its number, where any is
abbrev pub IsFirst : (Rule → Type 0) → Option ℕ → Type 0
IsFirst Says None = (rule : Rule) → Says rule
IsFirst Says (Some number) = ((rule : Rule) × (number ≡ number_of rule) × (Says rule → ⊥)) × ((rule : Rule) → number_of rule < number → Says rule)

-- By place, then by number
abbrev pub is_before : Fault → Fault → Bool
is_before this that = nat_lt this.place that.place || (nat_eq this.place that.place && nat_lt this.number that.number)

-- The lesser of two
abbrev pub lesser : Option Fault → Option Fault → Option Fault
lesser None that = that
lesser (Some this) None = Some this
lesser (Some this) (Some that) = if is_before that this then Some that else Some this
