-- What is left of the proof of `before::Before::pass`.
use Rattle.std.proofs.Common.{◌≡◌, ◌∙◌, ◌++◌, false, length, refl, sym, ap}
use Rattle.std.specs.List.{list_any}
use Rattle.psy_history.specs.Processors.{processors}
use Rattle.psy_audit.specs.Faults.{comes_behind}
use Rattle.psy_audit.specs.Traces.{is_end, segment_in}
use Rattle.psy_audit.proofs.Befores.{ended_more, found_more, last_more}
use Rattle.psy_audit.proofs.before.Before.pass.Goals as goal

pub returns : goal.returns
returns c = λ unit before stands none few.
    let line = c.args.line.now in
    let no : list_any is_end before ≡ false = sym stands.ended ∙ none in
    record {
      ended = c.is_end-self.ensures ∙ sym (ended_more before line no);
      last = λ said. sym (ap (λ o. comes_behind o said) (last_more before line));
      acts = c.note_act.ensures (length unit.agents) before stands.acts no;
      published = c.note_publication.ensures (length unit.variables) before stands.published no few;
      past = c.note_past.ensures (processors unit) before stands.past no;
      segments = c.in_ok-add_segment.ensures ∙ ap (λ xs. xs ++ segment_in line) stands.segments ∙ sym (found_more segment_in refl before line no);
    }
