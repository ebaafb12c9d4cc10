-- What the walks over a run take in of a note.
use Rattle.std.specs.Prelude.{◌≡◌, ◌<◌, ◌+◌, ◌-◌, ◌^◌, ◌++◌, ℕ, true, List, [], ◌∷◌, Option, None, Some, length, map, min, not, string_bytes}
use Rattle.std.specs.List.{position_from}
use Rattle.psy_passes.specs.Tables.{is_among}
use Rattle.psy_passes.specs.declared.listed.Listed.{Listed}
use Rattle.psy_log.specs.declared.note.Note.{Note}
use Rattle.psy_draw.specs.Columns.{Dated}
use Rattle.psy_draw.specs.Gathering.{Counts, Gathers, is_known}
use Rattle.psy_draw.specs.Homes.{housed_of}
use Rattle.psy_draw.specs.declared.outset.Outset.{Outset}
use Rattle.psy_film.specs.Sources.{IsOwn}
use Rattle.psy_film.specs.declared.checking.Checking.{Checking}
use Rattle.psy_film.specs.declared.counting.Counting.{Counting}
use Rattle.psy_film.specs.declared.gathering.Gatherer.{Gatherer}
use Rattle.psy_film.specs.declared.matching.Matching.{Matching}
use Rattle.psy_film.specs.declared.own.Own.{Own}
use Rattle.psy_film.specs.declared.source.Source.{Source}
use Rattle.psy_match.specs.Silences.{AreStopped, Owning}

-- Whether notes are of a program is taken in of one more.
abbrev pub OwnsOn : Note → Own → Own → Type 0
OwnsOn note old new = (source : Option Source) (notes : List Note) → IsOwn source notes old → IsOwn source (notes ++ note ∷ []) new

-- So it is, and nothing is told of it.
pub record MatchesOn (old : Matching) (note : Note) (piece : List ℕ) (new : Matching) : Type 0 where
  pub nothing : piece ≡ []
  pub own : OwnsOn note old.own new.own

-- The number of the first of these notes whose name isn't listed, where they are counted from a number on
abbrev pub first_other : Listed → ℕ → List Note → Option ℕ
first_other listed number notes = position_from (λ note. not (is_among listed note)) number notes

-- What was found, or else this
abbrev pub found_or : Option ℕ → Option ℕ → Option ℕ
found_or None other = other
found_or (Some number) other = Some number

-- These notes were looked through, as far as notes can be counted: whatever notes come behind them, the first with another name was found, or it is the first
-- behind.
pub record LooksThrough (listed : Listed) (notes : List Note) (count : ℕ) (found : Option ℕ) : Type 0 where
  pub counted : count ≡ min (length notes) (2 ^ 64 - 1)
  pub goes_on : length notes < 2 ^ 64 - 1 → (more : List Note) → first_other listed 1 (notes ++ more) ≡ found_or found (first_other listed (count + 1) more)

-- It is taken in of one more note whether it is of the program, and whether its name is listed; nothing is told of it.
pub record ChecksOn (old : Checking) (note : Note) (piece : List ℕ) (new : Checking) : Type 0 where
  pub nothing : piece ≡ []
  pub listed : new.listed ≡ old.listed
  pub own : OwnsOn note old.own new.own
  pub names : (notes : List Note) → LooksThrough old.listed.now notes old.notes old.unlisted
      → LooksThrough old.listed.now (notes ++ note ∷ []) new.notes new.unlisted

-- One more note is known.
pub record KnowsMore (names : List (List ℕ)) (from : ℕ) (note : Note) (old new : Outset) : Type 0 where
  pub same : new.firsts.names ≡ old.firsts.names
  pub counts : (notes : List Note) → Counts names from notes old → Counts names from (notes ++ note ∷ []) new

-- What must be known before values are drawn is known of one more note, of which nothing is told.
pub record CountsOn (old : Counting) (note : Note) (piece : List ℕ) (new : Counting) : Type 0 where
  pub nothing : piece ≡ []
  pub names : new.names ≡ old.names
  pub from : new.from ≡ old.from
  pub knows : KnowsMore (map string_bytes old.names.now) old.from note old.outset new.outset

-- The lanes have one more note, of which nothing is told; and so has what is known of owners that were stopped.
pub record GathersOn (old : Gatherer) (note : Note) (piece : List ℕ) (new : Gatherer) : Type 0 where
  pub nothing : piece ≡ []
  pub by : new.by ≡ old.by
  pub from : new.from ≡ old.from
  pub knows : KnowsMore (map string_bytes old.by.names.now) old.from note old.again new.again
  pub variables : new.gathering.variables.names ≡ old.gathering.variables.names
  pub streams : new.gathering.streams.names ≡ old.gathering.streams.names
  pub gathers : (values : List ℕ → List Dated) (notes : List Note) → is_known old.by.agents.now note ≡ true
      → Gathers old.by.scale.now (map housed_of old.by.homes.now) (map string_bytes old.by.names.now) values notes old.gathering
      → Gathers old.by.scale.now (map housed_of old.by.homes.now) (map string_bytes old.by.names.now) values (notes ++ note ∷ []) new.gathering
  pub stops : (owning : List Owning) (notes : List Note) → AreStopped owning notes old.silencing → AreStopped owning (notes ++ note ∷ []) new.silencing
