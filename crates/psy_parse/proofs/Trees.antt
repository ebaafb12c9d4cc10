-- Tokens have a tree, or a token at fault.
use Rattle.std.proofs.Common.{◌≡◌, ℕ, suc, ◌+◌, ◌-◌, List, [], length, Result, Ok, Err, ◌⊎◌, inl, inr, refl, sym, subst, arith}
use Rattle.std.proofs.lemmas.List.{append-nil}
use Rattle.std.proofs.lemmas.Bool.Decides.{leb_tells}
use Rattle.psy_tree.specs.declared.token.Token.{Token}
use Rattle.psy_tree.specs.declared.raw.Raw.{Raw}
use Rattle.psy_tree.specs.Grammar.{numbered, Spells}
use Rattle.psy_parse.specs.Fault.{NoTree, Viable, AtFault, inside, at_end}
use Rattle.psy_parse.specs.Reading.{text_at}
use Rattle.psy_parse.proofs.AgainItems.{no_tree}
use Rattle.psy_parse.proofs.FaultAt.{spells_from_reading, fault_at, viable_all}

tree_by : (tokens : List Token) (read : Result Raw ℕ) → text_at (length tokens + 1) (numbered 0 tokens) ≡ read → ((raw : Raw) × Spells raw tokens) ⊎ NoTree tokens
tree_by tokens (Ok raw) is = inl (raw, spells_from_reading tokens raw is)
tree_by tokens (Err n) is = inr (no_tree tokens n is)

pub tree_or_none : (tokens : List Token) → ((raw : Raw) × Spells raw tokens) ⊎ NoTree tokens
tree_or_none tokens = tree_by tokens (text_at (length tokens + 1) (numbered 0 tokens)) refl

fault_by : (tokens : List Token) (read : Result Raw ℕ) → text_at (length tokens + 1) (numbered 0 tokens) ≡ read → NoTree tokens → (n : ℕ) × AtFault tokens n
fault_by tokens (Ok raw) is none = absurd (none raw (spells_from_reading tokens raw is))
fault_by tokens (Err k) is none = (length tokens - k, fault_at tokens k is)

-- Tokens without a tree have a token at fault
pub fault_of_none : (tokens : List Token) → NoTree tokens → (n : ℕ) × AtFault tokens n
fault_of_none tokens none = fault_by tokens (text_at (length tokens + 1) (numbered 0 tokens)) refl none

no_fault_by : (tokens : List Token) (n : ℕ) → Viable tokens → AtFault tokens n → NoTree tokens
no_fault_by tokens _ v (inside {i = i} lt earlier not) = absurd (not (viable_all (suc i) tokens v))
no_fault_by tokens _ v (at_end whole none) = none

viable_tree : (tokens : List Token) (raw : Raw) → Spells raw tokens → Viable tokens
viable_tree tokens raw s = record { more = []; raw = raw; spells = subst (λ (ts : List Token). Spells raw ts) (sym (append-nil tokens)) s }

-- Tokens with a tree have none
pub none_of_fault : (tokens : List Token) (n : ℕ) → AtFault tokens n → NoTree tokens
none_of_fault tokens n fault raw s = no_fault_by tokens n (viable_tree tokens raw s) fault raw s

-- They have one at most
pub AtFault-once : (tokens : List Token) (n other : ℕ) → AtFault tokens n → AtFault tokens other → n ≡ other
AtFault-once tokens _ _ (inside {i = i} lt earlier not) (inside {i = j} lt' earlier' not') = elim (leb_tells i j) [
  | inl up ↦ elim (leb_tells j i) [
    | inl down ↦ omega (arith, up.1, down.1)
    | inr above ↦ absurd (not (earlier' i above.1))
  ]
  | inr below ↦ absurd (not' (earlier j below.1))
]
AtFault-once tokens _ _ (inside {i = i} lt earlier not) (at_end v none) = absurd (not (viable_all (suc i) tokens v))
AtFault-once tokens _ _ (at_end v none) (inside {i = i} lt earlier not) = absurd (not (viable_all (suc i) tokens v))
AtFault-once tokens _ _ (at_end v none) (at_end w none') = refl
