-- How many notes stand before one that is found.
use Rattle.std.proofs.Common.{◌≡◌, ◌∙◌, ℕ, ◌+◌, Option, None, Some, refl, ap, arith}
use Rattle.psy_match.specs.Belonging.{behind, further}

-- None stands before the first.
pub at_first : (found : Option ℕ) → found ≡ further 0 found
at_first None = refl
at_first (Some k) = ap Some (omega arith)

further_behind : (n : ℕ) (found : Option ℕ) → further n (behind found) ≡ further (n + 1) found
further_behind n None = refl
further_behind n (Some k) = ap Some (omega arith)

-- Where it isn't the next note, it stands one further.
pub one_further : (n : ℕ) (whole rest more : Option ℕ) → whole ≡ further n rest → rest ≡ behind more → whole ≡ further (n + 1) more
one_further n whole rest more e f = e ∙ ap (further n) f ∙ further_behind n more

-- It is the next note.
pub here : (n m : ℕ) (whole rest : Option ℕ) → whole ≡ further n rest → rest ≡ Some 1 → m ≡ n + 1 → whole ≡ Some m
here n m whole rest e f g = e ∙ ap (further n) f ∙ ap Some (omega (arith, g))

pub none : (n : ℕ) (whole rest : Option ℕ) → whole ≡ further n rest → rest ≡ None → whole ≡ None
none n whole rest e f = e ∙ ap (further n) f
