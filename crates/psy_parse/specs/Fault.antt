-- Where a list of tokens stops being the front of a program.
use Rattle.std.specs.Prelude.{ℕ, suc, ◌<◌, List, ◌++◌, length, take}
use Rattle.psy_tree.specs.declared.token.Token.{Token}
use Rattle.psy_tree.specs.declared.raw.Raw.{Raw}
use Rattle.psy_tree.specs.Grammar.{Spells}

-- No tree has these tokens
abbrev pub NoTree : List Token → Type 0
NoTree tokens = (raw : Raw) → Spells raw tokens → ⊥

-- Some list that begins with these tokens has a tree
pub record Viable (tokens : List Token) : Type 0 where
  pub more : List Token
  pub raw : Raw
  pub spells : Spells raw (tokens ++ more)

-- The token at fault of tokens that have no tree: the first with which they are viable no longer, or their number where all of them are viable
pub data AtFault (tokens : List Token) : ℕ → Type 0 where
  inside : {i : ℕ} → i < length tokens → ((earlier : ℕ) → earlier < i → Viable (take (suc earlier) tokens)) → (Viable (take (suc i) tokens) → ⊥)
      → AtFault tokens i
  at_end : Viable tokens → NoTree tokens → AtFault tokens (length tokens)
