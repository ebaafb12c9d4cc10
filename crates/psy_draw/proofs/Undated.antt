-- What a summary tells, without the notes that have a date.
use Rattle.std.proofs.Common.{◌≡◌, List, ◌++◌, refl, ap, ◌∙◌}
use Rattle.std.specs.List.{flat_map}
use Rattle.psy_log.specs.declared.note.Note.{Note}
use Rattle.psy_log.specs.declared.note.Note.TheVariants as note
use Rattle.psy_draw.specs.declared.source.Source.{Source}
use Rattle.psy_draw.specs.Sayings.{HasSummary}
use Rattle.psy_draw.specs.Showing.{agent_rows, stream_rows, variable_rows}
use Rattle.psy_draw.specs.Sources.{inputs_in, inputs_of, lanes_in, planned, stops_of, streams_of, variables_of}
use Rattle.psy_draw.proofs.Sayings.{rest, same_summary}

-- ---- the lanes

variables_step : (source : Source) (notes : List Note) (n : Note) → variables_of source notes n ≡ variables_of source notes (rest n)
variables_step source notes (note.VariableEnd variable size reach) = refl
variables_step source notes _ = refl

streams_step : (source : Source) (notes : List Note) (n : Note) → streams_of source notes n ≡ streams_of source notes (rest n)
streams_step source notes (note.StreamEnd stream size held) = refl
streams_step source notes _ = refl

inputs_step : (source : Source) (notes : List Note) (n : Note) → inputs_of source notes n ≡ inputs_of source notes (rest n)
inputs_step source notes (note.VariableEnd variable size reach) = refl
inputs_step source notes _ = refl

-- The lanes by the summary are those of the run.
pub planned_is : (source : Source) (notes : List Note) → HasSummary notes source.summary.now
    → planned source (flat_map (stops_of source) notes) notes ≡ lanes_in source notes
planned_is source notes has =
    let summary = source.summary.now in
    let stops = flat_map (stops_of source) notes in
    ap (λ vs. stops ++ (vs ++ flat_map (streams_of source notes) summary)) (same_summary (variables_of source notes) (variables_step source notes) refl notes summary has)
    ∙ ap (λ ss. stops ++ (flat_map (variables_of source notes) notes ++ ss)) (same_summary (streams_of source notes) (streams_step source notes) refl notes summary has)

-- So are the names of variables without a value.
pub inputs_are : (source : Source) (notes : List Note) → HasSummary notes source.summary.now → inputs_in source notes ≡ flat_map (inputs_of source notes) notes
inputs_are source notes has = same_summary (inputs_of source notes) (inputs_step source notes) refl notes source.summary.now has

-- ---- the rows

agent_step : (n : Note) → agent_rows n ≡ agent_rows (rest n)
agent_step (note.AgentEnd agent count slack) = refl
agent_step _ = refl

variable_step : (n : Note) → variable_rows n ≡ variable_rows (rest n)
variable_step (note.VariableEnd variable size reach) = refl
variable_step _ = refl

stream_step : (n : Note) → stream_rows n ≡ stream_rows (rest n)
stream_step (note.StreamEnd stream size held) = refl
stream_step _ = refl

-- The rows by the summary are those of the run.
pub agents_alike : (notes summary : List Note) → HasSummary notes summary → flat_map agent_rows summary ≡ flat_map agent_rows notes
agents_alike = same_summary agent_rows agent_step refl

pub variables_alike : (notes summary : List Note) → HasSummary notes summary → flat_map variable_rows summary ≡ flat_map variable_rows notes
variables_alike = same_summary variable_rows variable_step refl

pub streams_alike : (notes summary : List Note) → HasSummary notes summary → flat_map stream_rows summary ≡ flat_map stream_rows notes
streams_alike = same_summary stream_rows stream_step refl
