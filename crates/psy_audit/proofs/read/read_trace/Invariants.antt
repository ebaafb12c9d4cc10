-- What each loop of `read::read_trace` keeps.
use Rattle.std.proofs.Common.{◌≡◌, ◌++◌, length, map}
use Rattle.psy_audit.specs.Texts.{lines_in, said_in}
use Rattle.psy_text.specs.Lines.{lines_of}
use Rattle.psy_text.specs.Words.{words_of}
use Rattle.psy_audit.proofs.read.read_trace.Given as goal

-- The lines so far, and those of the rest
abbrev pub invariant-each : goal.invariant-each
invariant-each l = l.lines ++ map (λ line. said_in l.unit l.until (words_of line)) (lines_of l.rest) ≡ lines_in l.unit l.until l.text

abbrev pub decreases-each : goal.decreases-each
decreases-each l = length l.rest
