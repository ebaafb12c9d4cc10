-- What the answer of a reader is, where memory is found.
use Rattle.std.specs.Prelude.{◌≡◌, ◌⊎◌, List, ℤ, Result, MatchResult}
use Rattle.psy_history.specs.declared.told.Inputs.{Inputs}
use Rattle.psy_history.specs.declared.told.Script.{Script}
use Rattle.psy_script.specs.declared.fault.TextFault.{TextFault}
use Rattle.psy_script.specs.declared.fault.TextFault.TheVariants.{Memory}

-- The answer has these lists, or is want of memory.
abbrev pub GivesLists : Result Inputs TextFault → List (List ℤ) → Type 0
GivesLists answer lists = MatchResult answer (λ inputs. inputs.lists ≡ lists) (λ fault. fault ≡ Memory)

-- The answer is this script, or want of memory.
abbrev pub GivesScript : Result Script TextFault → Script → Type 0
GivesScript answer script = MatchResult answer (λ given. given ≡ script) (λ fault. fault ≡ Memory)

-- The answer is this fault, or want of memory.
abbrev pub GivesFault : {A : Type 0} → Result A TextFault → TextFault → Type 0
GivesFault answer expected = MatchResult answer (λ given. ⊥) (λ fault. (fault ≡ expected) ⊎ (fault ≡ Memory))
