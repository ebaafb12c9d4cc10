-- Summaries by what their notes say.
use Rattle.std.specs.Prelude.{◌≡◌, List, map}
use Rattle.psy_log.specs.declared.note.Note.{Note}
use Rattle.psy_log.specs.Forms.{says}
use Rattle.psy_draw.specs.Gathering.{undated}
use Rattle.psy_draw.specs.Listing.{Lists, ends_agent, ends_stream, ends_variable}
use Rattle.psy_draw.specs.declared.listed.Listed.{Listed}

-- Among these notes are the end and the summary of a run: they say what those say.
abbrev pub HasSummary : List Note → List Note → Type 0
HasSummary notes summary = map says (undated notes) ≡ map says (undated summary)

-- These are the names that a summary lists.
pub record AreListed (listed : Listed) (summary : List Note) : Type 0 where
  pub agents : Lists ends_agent summary listed.agents
  pub variables : Lists ends_variable summary listed.variables
  pub streams : Lists ends_stream summary listed.streams
