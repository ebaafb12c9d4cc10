-- The program of a run and its inputs, where they are given, and what they tell of the run.
use Rattle.std.specs.Prelude.{◌≡◌, ℕ, List, [], Option, None, Some}
use Rattle.std.specs.Borrow.{Bor}
use Rattle.psy_draw.specs.Homes.{Housed}
use Rattle.psy_draw.specs.Knowledge.{Knowledge, nothing}
use Rattle.psy_film.specs.declared.own.Own.{Own}
use Rattle.psy_film.specs.declared.source.Source.{Source}
use Rattle.psy_history.specs.declared.told.Inputs.{Inputs}
use Rattle.psy_log.specs.declared.note.Note.{Note}
use Rattle.psy_match.specs.Belonging.{Belongs, foreign_in_run}
use Rattle.psy_match.specs.Feeding.{AreFed}
use Rattle.psy_match.specs.Homes.{homes_in}
use Rattle.psy_match.specs.Knowledge.{knowledge_in}
use Rattle.psy_match.specs.Silences.{Owning, owning_in}
use Rattle.psy_match.specs.declared.run.Belonging.{Belonging}
use Rattle.psy_tree.specs.declared.unit.Unit.{Unit as Whole}

-- The first note of a run that isn't of the program
abbrev pub foreign_by : Option Source → List Note → Option ℕ
foreign_by None notes = None
foreign_by (Some source) notes = foreign_in_run source.unit.now notes

-- What the program tells of a run with these notes
abbrev pub knowledge_by : Option Source → List Note → Knowledge
knowledge_by None notes = nothing
knowledge_by (Some source) notes = knowledge_in source.unit.now notes

-- Of which processors its agents are
abbrev pub homes_by : Option Source → List Housed
homes_by None = []
homes_by (Some source) = homes_in source.unit.now

-- Its variables that have owners
abbrev pub owning_by : Option Source → List Owning
owning_by None = []
owning_by (Some source) = owning_in source.unit.now

-- These notes are what its inputs publish up to the end of a run; none, where no inputs are given.
abbrev pub AreFedWith : Whole → Option (Bor Inputs) → List Note → List Note → Type 0
AreFedWith unit None notes more = more ≡ []
AreFedWith unit (Some inputs) notes more = AreFed unit inputs.now.lists notes more

abbrev pub AreFedBy : Option Source → List Note → List Note → Type 0
AreFedBy None notes more = more ≡ []
AreFedBy (Some source) notes more = AreFedWith source.unit.now source.inputs notes more

-- It was taken in of these notes whether they are of the program.
abbrev pub TakesIn : Option Source → List Note → Option Belonging → Type 0
TakesIn None notes None = Unit {0}
TakesIn None notes (Some belonging) = ⊥
TakesIn (Some source) notes None = ⊥
TakesIn (Some source) notes (Some belonging) = Belongs source.unit.now notes belonging

abbrev pub IsOwn : Option Source → List Note → Own → Type 0
IsOwn source notes own = TakesIn source notes own.belonging
