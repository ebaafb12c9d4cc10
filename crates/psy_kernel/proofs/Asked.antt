-- The processors that are asked anew who runs.
use Rattle.std.proofs.Common.{◌≡◌, ℕ, suc, ◌≤◌, true, List, [], ◌∷◌, length, map, Some, refl, ap, ◌∙◌, arith}
use Rattle.std.specs.List.{slice_get}
use Rattle.std.proofs.lemmas.Option.{slice_get_within}
use Rattle.psy_dates.specs.Movers.{IsDoneBelow}
use Rattle.psy_kernel.specs.declared.engine.Server.{Server}

-- It is asked anew
abbrev pub asked : Server → Server
asked server = record server { stale = true }

all_made : (servers after : List Server) → length after ≡ length servers → ((place : ℕ) (x : Server) → slice_get servers place ≡ Some x → slice_get after place ≡ Some (asked x)) → after ≡ map asked servers
all_made [] [] as_many made = refl
all_made [] (y ∷ after) as_many made = absurd (omega (arith, as_many))
all_made (x ∷ servers) [] as_many made = absurd (omega (arith, as_many))
all_made (x ∷ servers) (y ∷ after) as_many made =
    let first : y ≡ asked x = (let both = made 0 x refl in cc) in
    ap (λ z. z ∷ after) first ∙ ap (λ rest. asked x ∷ rest) (all_made servers after (omega (arith, as_many)) (λ place. made (suc place)))

pub all_asked : (servers after : List Server) (n : ℕ) → length servers ≤ n → IsDoneBelow (λ place. asked) n servers after → after ≡ map asked servers
all_asked servers after n whole done = all_made servers after done.count (λ place x at. done.done place x (omega (arith, slice_get_within servers place x at, whole)) at)
