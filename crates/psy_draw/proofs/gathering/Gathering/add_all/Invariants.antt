-- What each loop of `gathering::Gathering::add_all` keeps.
use Rattle.std.proofs.Common.{◌≡◌, ◌++◌, ℕ, List, true, map, take}
use Rattle.std.specs.Prelude.{string_bytes}
use Rattle.std.specs.List.{list_all}
use Rattle.psy_draw.specs.Columns.{Dated}
use Rattle.psy_draw.specs.Gathering.{Gathers, is_known}
use Rattle.psy_draw.specs.Homes.{housed_of}
use Rattle.psy_log.specs.declared.note.Note.{Note}
use Rattle.psy_draw.proofs.gathering.Gathering.add_all.Given as goal

-- The notes so far were taken in.
abbrev pub invariant-loop-note : goal.invariant-loop-note
invariant-loop-note l = record {
  variables : l.self.variables.names ≡ l.initial.self.variables.names;
  streams : l.self.streams.names ≡ l.initial.self.streams.names;
  gathers : (values : List ℕ → List Dated) (notes : List Note) → list_all (is_known l.by.agents.now) l.more ≡ true
      → Gathers l.by.scale.now (map housed_of l.by.homes.now) (map string_bytes l.by.names.now) values notes l.initial.self
      → Gathers l.by.scale.now (map housed_of l.by.homes.now) (map string_bytes l.by.names.now) values (notes ++ take l.note-index l.more) l.self;
}
