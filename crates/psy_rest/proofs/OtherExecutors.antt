-- Where another executor gives a history the same events and figures, it writes the same text.
use Rattle.std.proofs.Common.{◌≡◌, ℕ, ◌+◌, ◌*◌, List, ◌++◌, length, map, Option, Some, None, ap}
use Rattle.std.proofs.Math.Path.{fun_ext}
use Rattle.std.specs.List.{flat_map}
use Rattle.psy_base.specs.declared.sizes.Sizes.{Sizes}
use Rattle.psy_base.specs.Extremes.{least_of, lesser}
use Rattle.psy_history.specs.Actions.{System}
use Rattle.psy_history.specs.Executors.{Executor}
use Rattle.psy_history.specs.History.{history}
use Rattle.psy_history.specs.Lines.{events}
use Rattle.psy_history.specs.Scheduled.{turns_by}
use Rattle.psy_history.specs.Summary.{added_to, dates_from, due_by, most_held, numbers_in, reach, slack, slack_of}
use Rattle.psy_kernel.specs.Texts.{lines_of, log_of, run_text, text_of}
use Rattle.psy_rest.proofs.SameEnds.{SameFigures, same_lines, same_summary}

-- What is the same of code and of the statements that it acts as
pub record AreAlike (s t : System) : Type 0 where
  pub lines : (date : ℕ) → events s date ≡ events t date
  pub counts : (dates until agent : ℕ) → length (due_by until (history s dates agent)) ≡ length (due_by until (history t dates agent))
  pub slacks : (order : ℕ → List ℕ) (dates cycles until agent : ℕ)
      → slack s.unit.quantum (turns_by s order cycles agent) (due_by until (history s dates agent)) ≡ slack t.unit.quantum (turns_by t order cycles agent) (due_by until (history t dates agent))
  pub held : (until stream : ℕ) → most_held s until stream ≡ most_held t until stream
  pub reaches : (order : ℕ → List ℕ) (dates cycles variable : ℕ)
      → reach s (turns_by s order cycles) (history s dates) variable ≡ reach t (turns_by t order cycles) (history t dates) variable

-- The least of some numbers is the same behind a figure too.
least_behind : (figure : Option ℕ) (ms ns : List ℕ) → least_of ms ≡ least_of ns → least_of (numbers_in figure ++ ms) ≡ least_of (numbers_in figure ++ ns)
least_behind None ms ns same = same
least_behind (Some n) ms ns same = ap (lesser n) same

module _ (s : System) (executor : Executor) (alike : AreAlike s (record s { executor = executor })) where
  -- The other history
  abbrev t : System
  t = record s { executor = executor }

  pub same_log : (dates : ℕ) → log_of s dates ≡ log_of t dates
  same_log dates =
      let same : (date : ℕ) → text_of (lines_of s date) ≡ text_of (lines_of t date) = λ date. same_lines s executor s.opening date (alike.lines date) in
      λ i. flat_map (fun_ext same i) (dates_from s.opening.dates dates)

  module _ (order : ℕ → List ℕ) (sizes : Sizes) (until : ℕ) where
    figures : SameFigures s t order until
    figures = record {
      counts = λ agent. ap (added_to (s.opening.count agent)) (alike.counts (until + 1) until agent);
      slacks = λ agent. least_behind (s.opening.slack agent)
          (map (slack_of s.unit.quantum (turns_by s order (until * s.unit.quantum) agent)) (due_by until (history s (until + 1) agent)))
          (map (slack_of s.unit.quantum (turns_by t order (until * s.unit.quantum) agent)) (due_by until (history t (until + 1) agent)))
          (alike.slacks order (until + 1) (until * s.unit.quantum) until agent);
      reaches = λ variable. alike.reaches order (until + 1) (until * s.unit.quantum) variable;
      helds = λ stream. alike.held until stream;
    }

    pub same_text : run_text s order sizes until ≡ run_text t order sizes until
    same_text = λ i. same_log (until + 1) i ++ text_of (same_summary s executor s.opening order sizes until figures i)
