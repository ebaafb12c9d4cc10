-- Two histories that differ in what executes their actions and in where they begin: the same events give the same lines, and the same figures the same
-- summary.
use Rattle.std.proofs.Common.{◌≡◌, ℕ, ◌+◌, ◌*◌, List, ◌∷◌, ◌++◌, map, length, get_or, ap}
use Rattle.std.proofs.Math.Path.{fun_ext}
use Rattle.std.specs.List.{range_with_len}
use Rattle.psy_base.specs.declared.sizes.Sizes.{Sizes}
use Rattle.psy_history.specs.Actions.{Opening, System, stream_of, variable_of}
use Rattle.psy_history.specs.Executors.{Executor}
use Rattle.psy_history.specs.History.{history}
use Rattle.psy_history.specs.Lines.{events}
use Rattle.psy_history.specs.Scheduled.{turns_by}
use Rattle.psy_history.specs.Summary.{due_by, due_count, least_slack, most_held, reach}
use Rattle.psy_kernel.specs.Texts.{agent_end, event_line, lines_of, stream_end, summary_of, text_of, variable_end}
use Rattle.psy_log.specs.Forms.{agent_line, end_line, stream_line, variable_line}
use Rattle.psy_tree.specs.Parts.{agent_at}

-- The figures of two summaries up to a date are the same.
pub record SameFigures (s t : System) (order : ℕ → List ℕ) (until : ℕ) : Type 0 where
  pub counts : (agent : ℕ) → due_count s agent (due_by until (history s (until + 1) agent)) ≡ due_count t agent (due_by until (history t (until + 1) agent))
  pub slacks : (agent : ℕ) → least_slack s (turns_by s order (until * s.unit.quantum) agent) agent (due_by until (history s (until + 1) agent))
      ≡ least_slack t (turns_by t order (until * t.unit.quantum) agent) agent (due_by until (history t (until + 1) agent))
  pub reaches : (variable : ℕ) → reach s (turns_by s order (until * s.unit.quantum)) (history s (until + 1)) variable
      ≡ reach t (turns_by t order (until * t.unit.quantum)) (history t (until + 1)) variable
  pub helds : (stream : ℕ) → most_held s until stream ≡ most_held t until stream

module _ (s : System) (executor : Executor) (opening : Opening) where
  -- The other history
  abbrev t : System
  t = record s { executor = executor; opening = opening }

  -- The same lines of a date
  pub same_lines : (date : ℕ) → events s date ≡ events t date → text_of (lines_of s date) ≡ text_of (lines_of t date)
  same_lines date same = ap (λ told. text_of (map (event_line t date) told)) same

  module _ (order : ℕ → List ℕ) (sizes : Sizes) (until : ℕ) (same : SameFigures s t order until) where
    same_agent : (agent : ℕ) → agent_end s (turns_by s order (until * s.unit.quantum)) until agent ≡ agent_end t (turns_by t order (until * s.unit.quantum)) until agent
    same_agent agent = λ i. agent_line (agent_at s.unit agent).name (same.counts agent i) (same.slacks agent i)

    same_variable : (variable : ℕ) → variable_end s (turns_by s order (until * s.unit.quantum)) sizes until variable ≡ variable_end t (turns_by t order (until * s.unit.quantum)) sizes until variable
    same_variable variable = ap (λ far. variable_line (variable_of s variable).name (get_or sizes.rings variable 0) far) (same.reaches variable)

    same_stream : (stream : ℕ) → stream_end s sizes until stream ≡ stream_end t sizes until stream
    same_stream stream = ap (λ most. stream_line (stream_of s stream).name (get_or sizes.queues stream 0) most) (same.helds stream)

    -- The same summary
    pub same_summary : summary_of s order sizes until ≡ summary_of t order sizes until
    same_summary = λ i. end_line until ∷ (map (fun_ext same_agent i) (range_with_len 0 (length s.unit.agents)) ++ (map (fun_ext same_variable i) (range_with_len 0 (length s.unit.variables)) ++ map (fun_ext same_stream i) (range_with_len 0 (length s.unit.streams))))
