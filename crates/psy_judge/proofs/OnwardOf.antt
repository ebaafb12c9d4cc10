-- Where a way may go on after an instruction, as the program finds it.
use Rattle.std.proofs.Common.{◌≡◌, ◌⊎◌, ℕ, ◌+◌, None, Some, ap, inl, inr, sym}
use Rattle.std.specs.Prelude.{Option}
use Rattle.std.proofs.lemmas.Option.{none-some, same_Some}
use Rattle.psy_code.specs.declared.instr.Instr.{Instr}
use Rattle.psy_code.specs.declared.instr.Instr.TheVariants as instr
use Rattle.psy_meaning.specs.CodeWays.{GoesOn}
use Rattle.psy_judge.specs.Walked.{onward_of}

-- No place
abbrev nothing : Option ℕ
nothing = None

-- One of both is the place.
abbrev pub IsOneOf : ℕ → Instr → ℕ → Type 0
IsOneOf next i place = (Some next ≡ (onward_of i place).next) ⊎ (Some next ≡ (onward_of i place).jump)

only_next : (next place : ℕ) → (Some next ≡ Some (place + 1)) ⊎ (Some next ≡ nothing) → next ≡ place + 1
only_next next place (inl e) = same_Some next (place + 1) e
only_next next place (inr e) = absurd (none-some next (sym e))

only_jump : (next to : ℕ) → (Some next ≡ nothing) ⊎ (Some next ≡ Some to) → next ≡ to
only_jump next to (inl e) = absurd (none-some next (sym e))
only_jump next to (inr e) = same_Some next to e

both : (next place to : ℕ) → (Some next ≡ Some (place + 1)) ⊎ (Some next ≡ Some to) → (next ≡ place + 1) ⊎ (next ≡ to)
both next place to (inl e) = inl (same_Some next (place + 1) e)
both next place to (inr e) = inr (same_Some next to e)

none : (next : ℕ) → (Some next ≡ nothing) ⊎ (Some next ≡ nothing) → ⊥
none next (inl e) = none-some next (sym e)
none next (inr e) = none-some next (sym e)

either : (next place to : ℕ) → (next ≡ place + 1) ⊎ (next ≡ to) → (Some next ≡ Some (place + 1)) ⊎ (Some next ≡ Some to)
either next place to (inl e) = inl (ap Some e)
either next place to (inr e) = inr (ap Some e)

pub goes_if : (i : Instr) (place next : ℕ) → IsOneOf next i place → GoesOn i place next
goes_if (instr.Push number) place next h = only_next next place h
goes_if (instr.Load cell) place next h = only_next next place h
goes_if (instr.Store cell) place next h = only_next next place h
goes_if (instr.LoadCell base cells) place next h = only_next next place h
goes_if (instr.StoreCell base cells) place next h = only_next next place h
goes_if (instr.LoadCopy variable) place next h = only_next next place h
goes_if (instr.StoreCopy variable) place next h = only_next next place h
goes_if (instr.Past variable back) place next h = only_next next place h
goes_if (instr.Ready stream) place next h = only_next next place h
goes_if (instr.Take stream) place next h = only_next next place h
goes_if (instr.Send stream after clock) place next h = only_next next place h
goes_if (instr.Jump to) place next h = only_jump next to h
goes_if (instr.JumpZero to) place next h = both next place to h
goes_if (instr.AndTest to) place next h = both next place to h
goes_if (instr.OrTest to) place next h = both next place to h
goes_if instr.Truth place next h = only_next next place h
goes_if (instr.Zero counter) place next h = only_next next place h
goes_if (instr.Guard counter bound) place next h = only_next next place h
goes_if (instr.Call function) place next h = only_next next place h
goes_if instr.Return place next h = none next h
goes_if (instr.Advance point) place next h = none next h
goes_if (instr.Binary operator width) place next h = only_next next place h
goes_if (instr.Unary operator width) place next h = only_next next place h
goes_if (instr.Cast width) place next h = only_next next place h

pub one_of : (i : Instr) (place next : ℕ) → GoesOn i place next → IsOneOf next i place
one_of (instr.Push number) place next h = inl (ap Some h)
one_of (instr.Load cell) place next h = inl (ap Some h)
one_of (instr.Store cell) place next h = inl (ap Some h)
one_of (instr.LoadCell base cells) place next h = inl (ap Some h)
one_of (instr.StoreCell base cells) place next h = inl (ap Some h)
one_of (instr.LoadCopy variable) place next h = inl (ap Some h)
one_of (instr.StoreCopy variable) place next h = inl (ap Some h)
one_of (instr.Past variable back) place next h = inl (ap Some h)
one_of (instr.Ready stream) place next h = inl (ap Some h)
one_of (instr.Take stream) place next h = inl (ap Some h)
one_of (instr.Send stream after clock) place next h = inl (ap Some h)
one_of (instr.Jump to) place next h = inr (ap Some h)
one_of (instr.JumpZero to) place next h = either next place to h
one_of (instr.AndTest to) place next h = either next place to h
one_of (instr.OrTest to) place next h = either next place to h
one_of instr.Truth place next h = inl (ap Some h)
one_of (instr.Zero counter) place next h = inl (ap Some h)
one_of (instr.Guard counter bound) place next h = inl (ap Some h)
one_of (instr.Call function) place next h = inl (ap Some h)
one_of instr.Return place next h = absurd h
one_of (instr.Advance point) place next h = absurd h
one_of (instr.Binary operator width) place next h = inl (ap Some h)
one_of (instr.Unary operator width) place next h = inl (ap Some h)
one_of (instr.Cast width) place next h = inl (ap Some h)
