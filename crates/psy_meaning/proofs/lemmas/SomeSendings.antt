-- Whether there is a sending among some.
use Rattle.std.proofs.Common.{◌≡◌, true, List, [], ◌∷◌, refl, arith}
use Rattle.std.specs.List.{Contains}
use Rattle.psy_meaning.specs.KnownWays.{is_some_sending}
use Rattle.psy_meaning.specs.Ways.{Sending}

pub some_here : (sendings : List Sending) (s : Sending) → Contains sendings s → is_some_sending sendings ≡ true
some_here [] s (k, less, is) = absurd (omega (arith, less))
some_here (x ∷ xs) s c = refl
