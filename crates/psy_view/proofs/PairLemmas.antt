-- What came of what psyc wrote and a program.
use Rattle.std.proofs.Common.{◌≡◌, sym, subst, ℕ, List, Option, Result, Ok, Err, IfOk}
use Rattle.psy_base.specs.declared.memory.Memory.{Memory}
use Rattle.psy_log.specs.declared.note.Note.{Note}
use Rattle.psy_notes.specs.declared.stand.Stand.{Stand}
use Rattle.psy_tree.specs.declared.unit.Unit.{Unit as Whole}
use Rattle.psy_view.specs.declared.pair.Matched.{Matched}
use Rattle.psy_view.specs.declared.pair.Matched.TheVariants as matched
use Rattle.psy_view.specs.Pairing.{IsMatched, Says}
use Rattle.psy_view.specs.Views.{IsUnpaired}

module _ (begins : Stand) (command : List ℕ) (foreign : Whole → List Note → Option ℕ) (name program bytes text : List ℕ) where
  -- What is said, is told in place of a pair.
  said_of : (came : Matched) (told : List ℕ) → Says came told → IsUnpaired begins command foreign name program bytes text told
      → IsMatched begins command foreign name program bytes text came
  said_of (matched.Of pair) told says is = absurd says
  said_of (matched.Told view) told says is = (says.0, subst (IsUnpaired begins command foreign name program bytes text) (sym says.1) is)

  pub said : (came : Result Matched Memory) (told : List ℕ) → IfOk came (λ m. Says m told) → IsUnpaired begins command foreign name program bytes text told
      → IfOk came (IsMatched begins command foreign name program bytes text)
  said (Ok m) told says is = said_of m told says is
  said (Err none) told says is = says

-- Where the status is 1
pub at_one : (Now : ℕ → List ℕ → Type 0) (status : ℕ) (text : List ℕ) → status ≡ 1 → Now 1 text → Now status text
at_one Now status text one is = subst (λ s. Now s text) (sym one) is
