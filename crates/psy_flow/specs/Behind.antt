-- What comes of going to an `advance` by its number.
use Rattle.std.specs.Prelude.{◌≡◌, ℕ, ◌+◌, ◌<◌, [], length, Option, slice_index_or}
use Rattle.psy_meaning.specs.Rest.{Rests}
use Rattle.psy_flow.specs.declared.gauge.Gauge.{Gauge}
use Rattle.psy_flow.specs.declared.points.Search.{Search}
use Rattle.psy_flow.specs.declared.points.Search.TheVariants as search
use Rattle.psy_flow.specs.Tops.{capped_tops, pieces_tops}

-- Found are the greatest counts of the rest of this number. Further on there is what these rests leave of the number.
abbrev pub IsBehind : Gauge → Option ℕ → (ℕ → ℕ) → Rests → ℕ → Search → Type 0
IsBehind g wanted calls rests number (search.Found t) = (number < length rests)
    × (t ≡ capped_tops g (pieces_tops g wanted calls (slice_index_or rests number [])))
IsBehind g wanted calls rests number (search.Further left) = number ≡ length rests + left
