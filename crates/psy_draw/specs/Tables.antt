-- The name in a note, and the tables of the summary's names.
use Rattle.std.specs.Prelude.{◌≡◌, ◌||◌, ℕ, Bool, true, List, None, Some, bytes_eq}
use Rattle.std.specs.List.{list_any}
use Rattle.psy_log.specs.declared.note.Note.{Note}
use Rattle.psy_log.specs.declared.note.Note.TheVariants as note
use Rattle.psy_draw.specs.declared.fault.DrawFault.{DrawFault}
use Rattle.psy_draw.specs.declared.fault.DrawFault.TheVariants as fault
use Rattle.psy_draw.specs.declared.listed.Listed.{Listed}
use Rattle.psy_draw.specs.Listing.{first_failing, first_outside}

-- The name in a dated note, where this is one, is among those of its kind.
abbrev pub is_among : Listed → Note → Bool
is_among listed (note.StopOverrun date agent) = list_any (bytes_eq agent.now) listed.agents
is_among listed (note.StopTrap date agent kind) = list_any (bytes_eq agent.now) listed.agents
is_among listed (note.Value date variable value) = list_any (bytes_eq variable.now) listed.variables
is_among listed (note.Message date stream value) = list_any (bytes_eq stream.now) listed.streams
is_among listed _ = true

-- The name is among those of agents, of variables or of streams.
abbrev pub has_name : Listed → List ℕ → Bool
has_name listed name = list_any (bytes_eq name) listed.agents || list_any (bytes_eq name) listed.variables || list_any (bytes_eq name) listed.streams

-- All names of notes are listed, and these too.
abbrev pub AllListed : Listed → List Note → List (List ℕ) → Type 0
AllListed listed notes names = (first_failing (is_among listed) notes ≡ None) × (first_outside (has_name listed) names ≡ None)

-- The fault tells the first name that isn't listed, of a note or of these.
abbrev pub NamesFault : Listed → List Note → List (List ℕ) → DrawFault → Type 0
NamesFault listed notes names (fault.Unlisted n) = first_failing (is_among listed) notes ≡ Some n
NamesFault listed notes names (fault.Unknown k) = (first_failing (is_among listed) notes ≡ None) × (first_outside (has_name listed) names ≡ Some k)
NamesFault listed notes names _ = ⊥
