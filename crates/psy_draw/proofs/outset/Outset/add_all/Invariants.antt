-- What each loop of `outset::Outset::add_all` keeps.
use Rattle.std.proofs.Common.{◌≡◌, ◌++◌, List, map, take}
use Rattle.std.specs.Prelude.{string_bytes}
use Rattle.psy_draw.specs.Gathering.{Counts}
use Rattle.psy_log.specs.declared.note.Note.{Note}
use Rattle.psy_draw.proofs.outset.Outset.add_all.Given as goal

-- The notes so far are known.
abbrev pub invariant-loop-note : goal.invariant-loop-note
invariant-loop-note l = record {
  names : l.self.firsts.names ≡ l.initial.self.firsts.names;
  counts : (notes : List Note) → Counts (map string_bytes l.names) l.from notes l.initial.self
      → Counts (map string_bytes l.names) l.from (notes ++ take l.note-index l.more) l.self;
}
