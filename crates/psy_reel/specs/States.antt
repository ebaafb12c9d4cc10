-- What contracts see of reels.
use Rattle.std.specs.Prelude.{ℕ, List, [], ◌∷◌}
use Rattle.psy_door.specs.Files.{Files, files_of}
use Rattle.psy_door.specs.States.{FileShelfState}

-- The counts of a reel over files of the system: those of its shelf, and its own
pub record FileReelState : Type 0 where
  pub shelf : FileShelfState
  pub faults : ℕ

-- A text under a name, and what is left of the file that was begun
pub record TextReelState : Type 0 where
  pub name : List ℕ
  pub text : List ℕ
  pub left : List ℕ
  pub taken : ℕ

-- The files of such a reel: the text under that name
abbrev pub file_of : TextReelState → Files
file_of reel = files_of ((reel.name, reel.text) ∷ [])
