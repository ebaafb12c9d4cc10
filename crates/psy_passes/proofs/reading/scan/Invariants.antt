-- What each loop of `reading::scan` keeps.
use Rattle.std.proofs.Common.{◌≡◌, ◌≢◌, ◌+◌, ◌-◌, ◌*◌, ◌<◌, ◌≤◌, ◌++◌, [], List, ℕ, vec_len}
use Rattle.psy_door.specs.Files.{WhereTold, bytes_under}
use Rattle.psy_log.specs.declared.note.Note.{Note}
use Rattle.psy_notes.specs.Fronts.{NoLine}
use Rattle.psy_notes.specs.Texts.{text_of}
use Rattle.psy_passes.specs.declared.reading.TheConstants.{LINES}
use Rattle.psy_passes.specs.Progress.{StandsFor}
use Rattle.psy_passes.proofs.reading.scan.Given as goal

-- A part of the file was read as notes, and a part of a line
abbrev pub invariant-reading : goal.invariant-reading
invariant-reading g l =
    record {
      stands :
          (notes : List Note) × (text : List ℕ) × StandsFor g.T.Tell.tells l.fn.tell (g.S.Sink.held l.fn.out) (g.S.Sink.held l.out) notes text l.tell l.progress
          × WhereTold (g.R.Shelf.files l.fn.reel) (λ held. bytes_under held l.name ≡ text_of notes ++ (l.bytes.items ++ g.R.Reel.left l.reel));
      part : l.bytes.items ≢ [] → NoLine l.progress.stand l.bytes.items;
      small : vec_len l.bytes < 128;
      few : l.progress.lines ≤ LINES;
      files : g.R.Shelf.files l.reel ≡ g.R.Shelf.files l.fn.reel;
      readable : g.R.Shelf.faults l.reel ≡ g.R.Shelf.faults l.fn.reel;
      writable : g.S.Sink.faults l.out ≡ g.S.Sink.faults l.fn.out;
    }

-- The lines that may come, and the bytes that a line may have
abbrev pub decreases-reading : goal.decreases-reading
decreases-reading g l = (LINES + 1 - l.progress.lines) * 129 + (128 - vec_len l.bytes)
