-- Texts that are compared byte by byte.
use Rattle.std.proofs.Common.{◌≡◌, ℕ, true, List, bytes_eq, sym}
use Rattle.std.proofs.lemmas.Slice.Eq.{bytes_eq-Decides}

-- Texts that aren't told apart are the same.
pub same_text : (a b : List ℕ) → true ≡ bytes_eq a b → a ≡ b
same_text a b e = (bytes_eq-Decides a b).0 (sym e)
