-- What each loop of `progress::Progress::take_lines` keeps.
use Rattle.std.proofs.Common.{◌≡◌, ◌⊎◌, ◌<◌, ◌≤◌, ◌++◌, ℕ, List, Option, length}
use Rattle.psy_log.specs.declared.note.Note.{Note}
use Rattle.psy_notes.specs.Texts.{text_of}
use Rattle.psy_passes.specs.declared.reading.TheConstants.{LINES}
use Rattle.psy_passes.specs.Progress.{StandsFor}
use Rattle.psy_passes.proofs.progress.Progress.take_lines.Given as goal

-- What was read goes on to all bytes
abbrev pub invariant-taking : goal.invariant-taking
invariant-taking g l =
    record {
      taken :
          (old : g.row.T.Denot) (held : Option (List ℕ)) (notes : List Note) (text : List ℕ) → StandsFor g.T.Tell.tells old held (g.S.Sink.held l.fn.out) notes text l.fn.tell l.fn.self
          → (after : List Note) × (said : List ℕ) × StandsFor g.T.Tell.tells old held (g.S.Sink.held l.out) after said l.tell l.self
          × (text_of after ++ l.rest ≡ text_of notes ++ l.fn.bytes);
      on : ((l.rest ≡ l.fn.bytes) × (l.self.lines ≡ l.fn.self.lines)) ⊎ (l.fn.self.lines < l.self.lines);
      few : l.self.lines ≤ LINES;
      unfailed : g.S.Sink.faults l.out ≡ g.S.Sink.faults l.fn.out;
    }

-- What is left to read
abbrev pub decreases-taking : goal.decreases-taking
decreases-taking g l = length l.rest
