-- Kinds of instructions, by where they go on.
use Rattle.std.proofs.Common.{◌≡◌, ℕ, ◌+◌, refl, sym, ◌∙◌, inl, inr}
use Rattle.std.specs.Prelude.{◌⊎◌, ⊤}
use Rattle.psy_code.specs.declared.instr.Instr.{Instr}
use Rattle.psy_code.specs.declared.instr.Instr.TheVariants as instr
use Rattle.psy_meaning.specs.CodeWays.{GoesOn}
use Rattle.psy_gen.proofs.ways.Measures.{IsOther, Ends}

-- It goes on to the next place, and neither looks nor sends.
abbrev pub IsPlain : Instr → Type 0
IsPlain (instr.Past variable back) = ⊥
IsPlain (instr.Send stream after clock) = ⊥
IsPlain (instr.Jump to) = ⊥
IsPlain (instr.JumpZero to) = ⊥
IsPlain (instr.AndTest to) = ⊥
IsPlain (instr.OrTest to) = ⊥
IsPlain instr.Return = ⊥
IsPlain (instr.Advance point) = ⊥
IsPlain _ = ⊤

pub plain_on : (i : Instr) (p next : ℕ) → IsPlain i → GoesOn i p next → next ≡ p + 1
plain_on (instr.Past variable back) p next h e = absurd h
plain_on (instr.Send stream after clock) p next h e = absurd h
plain_on (instr.Jump to) p next h e = absurd h
plain_on (instr.JumpZero to) p next h e = absurd h
plain_on (instr.AndTest to) p next h e = absurd h
plain_on (instr.OrTest to) p next h e = absurd h
plain_on instr.Return p next h e = absurd h
plain_on (instr.Advance point) p next h e = absurd h
plain_on _ p next h e = e

pub plain_goes : (i : Instr) (p : ℕ) → IsPlain i → GoesOn i p (p + 1)
plain_goes (instr.Past variable back) p h = absurd h
plain_goes (instr.Send stream after clock) p h = absurd h
plain_goes (instr.Jump to) p h = absurd h
plain_goes (instr.JumpZero to) p h = absurd h
plain_goes (instr.AndTest to) p h = absurd h
plain_goes (instr.OrTest to) p h = absurd h
plain_goes instr.Return p h = absurd h
plain_goes (instr.Advance point) p h = absurd h
plain_goes _ p h = refl

pub plain_ends : (i : Instr) (point : ℕ) → IsPlain i → Ends i point → ⊥
plain_ends (instr.Advance own) point h e = h
plain_ends _ point h e = e

pub plain_other : (i : Instr) → IsPlain i → IsOther i
plain_other (instr.Past variable back) h = absurd h
plain_other (instr.Send stream after clock) h = absurd h
plain_other _ h = tt {0}

-- It goes on to the next place or jumps.
abbrev pub Forks : Instr → ℕ → Type 0
Forks (instr.JumpZero own) to = own ≡ to
Forks (instr.AndTest own) to = own ≡ to
Forks (instr.OrTest own) to = own ≡ to
Forks _ to = ⊥

pub fork_on : (i : Instr) (p to next : ℕ) → Forks i to → GoesOn i p next → (next ≡ p + 1) ⊎ (next ≡ to)
fork_on (instr.JumpZero own) p to next h (inl e) = inl e
fork_on (instr.JumpZero own) p to next h (inr e) = inr (e ∙ h)
fork_on (instr.AndTest own) p to next h (inl e) = inl e
fork_on (instr.AndTest own) p to next h (inr e) = inr (e ∙ h)
fork_on (instr.OrTest own) p to next h (inl e) = inl e
fork_on (instr.OrTest own) p to next h (inr e) = inr (e ∙ h)
fork_on _ p to next h e = absurd h

pub fork_next : (i : Instr) (p to : ℕ) → Forks i to → GoesOn i p (p + 1)
fork_next (instr.JumpZero own) p to h = inl refl
fork_next (instr.AndTest own) p to h = inl refl
fork_next (instr.OrTest own) p to h = inl refl
fork_next _ p to h = absurd h

pub fork_jump : (i : Instr) (p to : ℕ) → Forks i to → GoesOn i p to
fork_jump (instr.JumpZero own) p to h = inr (sym h)
fork_jump (instr.AndTest own) p to h = inr (sym h)
fork_jump (instr.OrTest own) p to h = inr (sym h)
fork_jump _ p to h = absurd h

pub fork_ends : (i : Instr) (to point : ℕ) → Forks i to → Ends i point → ⊥
fork_ends (instr.Advance own) to point h e = h
fork_ends _ to point h e = e

pub fork_other : (i : Instr) (to : ℕ) → Forks i to → IsOther i
fork_other (instr.Past variable back) to h = absurd h
fork_other (instr.Send stream after clock) to h = absurd h
fork_other _ to h = tt {0}
