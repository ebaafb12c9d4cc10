-- Bytes that are told apart, and bytes that aren't.
use Rattle.std.proofs.Common.{◌≡◌, ◌≢◌, ◌∙◌, refl, sym, ap, ℕ, Bool, true, false, not, bytes_eq, List}
use Rattle.std.proofs.lemmas.Bool.{false≢true}
use Rattle.std.proofs.lemmas.Slice.Eq.{bytes_eq-Decides}

-- Bytes that are told apart differ, and those that aren't are the same.
pub differ_by : (some other : List ℕ) → true ≡ not (bytes_eq some other) → some ≢ other
differ_by some other told same = false≢true (sym (told ∙ ap not ((bytes_eq-Decides some other).1 same)))

pub same_by : (some other : List ℕ) → false ≡ not (bytes_eq some other) → some ≡ other
same_by some other told = (bytes_eq-Decides some other).0 (both (bytes_eq some other) told)
  where
    both : (b : Bool) → false ≡ not b → b ≡ true
    both true is = refl
    both false is = absurd (false≢true is)
