-- Runs of which a picture is drawn.
use Rattle.std.specs.Prelude.{◌≡◌, ◌++◌, ℕ, List, Option, None}
use Rattle.psy_door.specs.Files.{Files}
use Rattle.psy_draw.specs.Pictures.{IsPicture}
use Rattle.psy_draw.specs.declared.window.Window.{Window}
use Rattle.psy_film.specs.Sources.{AreFedBy, foreign_by, knowledge_by}
use Rattle.psy_film.specs.declared.source.Source.{Source}
use Rattle.psy_log.specs.declared.note.Note.{Note}
use Rattle.psy_notes.specs.Texts.{text_of}
use Rattle.psy_passes.specs.Logs.{IsLog}
use Rattle.psy_passes.specs.Runs.{IsRun, tail_of}

-- The file of this name, where files are told, is the log with these notes, whose end and summary have these lines.
pub record IsLogOf (files : Option Files) (name tail : List ℕ) (notes : List Note) : Type 0 where
  pub run : IsRun files name notes
  pub log : IsLog (text_of notes) notes
  pub ends : tail ≡ tail_of notes

-- It is the run with these notes, and of the program where one is given.
pub record IsRunBy (files : Option Files) (name : List ℕ) (source : Option Source) (notes : List Note) : Type 0 where
  pub run : IsRun files name notes
  pub own : foreign_by source notes ≡ None

-- The picture of the run with these notes, by its program and inputs: that of all its notes, with what the inputs publish behind them
pub record IsFilm (files : Option Files) (name : List ℕ) (window : Window) (source : Option Source) (names : List (List ℕ)) (svg : List ℕ) : Type 0 where
  pub notes : List Note
  pub more : List Note
  pub run : IsRunBy files name source notes
  pub fed : AreFedBy source notes more
  pub picture : IsPicture name window (knowledge_by source notes) names (notes ++ more) svg
