-- What is left of the proof of `listed::Listed::of`.
use Rattle.std.proofs.Common.{ℕ, Bool, List, []}
use Rattle.psy_log.specs.declared.note.Note.{Note}
use Rattle.psy_log.specs.declared.note.Note.TheVariants as note
use Rattle.psy_draw.specs.Listing.{ends_agent, ends_stream, ends_variable}
use Rattle.psy_draw.proofs.SummaryNames.{lists_more}
use Rattle.psy_draw.proofs.listed.Listed.of.Goals as goal

pub loop-note-preserved : goal.loop-note-preserved
loop-note-preserved c =
    let more = λ (ends : List ℕ → Note → Bool) (old new : List (List ℕ)). lists_more ends c.args.notes.now c.loop-note.note-index (note.StopOverrun 0 (record { ref_ptr = (0, 0); now = [] })) old new c.loop-note-test.true in
    record {
      agents = more ends_agent c.loop-note.listed.agents c.add.new.self.agents c.loop-note.invariant.agents c.in_ok-add.ensures.agents;
      variables = more ends_variable c.loop-note.listed.variables c.add.new.self.variables c.loop-note.invariant.variables c.in_ok-add.ensures.variables;
      streams = more ends_stream c.loop-note.listed.streams c.add.new.self.streams c.loop-note.invariant.streams c.in_ok-add.ensures.streams;
    }
