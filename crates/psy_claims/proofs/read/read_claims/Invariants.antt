-- What each loop of `read::read_claims` keeps.
use Rattle.std.proofs.Common.{◌≡◌, ◌+◌, ◌≤◌, List, length}
use Rattle.psy_text.specs.Lines.{lines_of}
use Rattle.psy_log.specs.declared.note.Note.{Note}
use Rattle.psy_passes.specs.Listing.{streams_in, variables_in}
use Rattle.psy_claims.proofs.LinesSaid.{SaidFrom, WrongFrom}
use Rattle.psy_claims.proofs.read.read_claims.Given as goal

-- What the lines so far said, and what is left
abbrev pub invariant-each : goal.invariant-each
invariant-each l = record {
  room : l.number + length l.rest ≤ length l.text;
  say :
      (notes : List Note) → l.listed.variables ≡ variables_in notes → l.listed.streams ≡ streams_in notes
      → SaidFrom notes (l.number + 1) (lines_of l.rest) (lines_of l.text) l.claims.items;
  wrong :
      (notes : List Note) → l.listed.variables ≡ variables_in notes → l.listed.streams ≡ streams_in notes
      → WrongFrom notes (l.number + 1) (lines_of l.rest) (lines_of l.text);
}

abbrev pub decreases-each : goal.decreases-each
decreases-each l = length l.rest
