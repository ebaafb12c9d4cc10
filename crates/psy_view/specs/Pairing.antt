-- What came of what psyc wrote and a program.
use Rattle.std.specs.Prelude.{◌≡◌, ℕ, List, Option, codes}
use Rattle.psy_log.specs.declared.note.Note.{Note}
use Rattle.psy_match.specs.Belonging.{foreign_in_graph, foreign_in_run}
use Rattle.psy_meaning.specs.Units.{IsOfText}
use Rattle.psy_notes.specs.Stands.{run_begins, graph_begins}
use Rattle.psy_notes.specs.declared.stand.Stand.{Stand}
use Rattle.psy_plan.specs.Programs.{AreTokensOf}
use Rattle.psy_tree.specs.declared.unit.Unit.{Unit as Whole}
use Rattle.psy_script.specs.Inputs.{AreListsOf}
use Rattle.psy_view.specs.declared.feeding.Fed.{Fed}
use Rattle.psy_view.specs.declared.feeding.Fed.TheVariants as feeding
use Rattle.psy_view.specs.declared.pair.Matched.{Matched}
use Rattle.psy_view.specs.declared.pair.Matched.TheVariants as matched
use Rattle.psy_view.specs.Views.{IsPair, IsTold, IsUnpaired, RefusesInputs}

-- This is said, with status 1, in place of a pair.
abbrev pub Says : Matched → List ℕ → Type 0
Says (matched.Of pair) text = ⊥
Says (matched.Told view) text = (view.status ≡ 1) × (view.text.items ≡ text)

-- The pair, with the tokens of the program's text; or what is told where there is none
abbrev pub IsMatched : Stand → List ℕ → (Whole → List Note → Option ℕ) → List ℕ → List ℕ → List ℕ → List ℕ → Matched → Type 0
IsMatched begins command foreign name program bytes text (matched.Of pair) =
    IsPair begins foreign bytes text pair.notes.items pair.program.unit × IsOfText pair.program.unit × AreTokensOf text pair.program.tokens
IsMatched begins command foreign name program bytes text (matched.Told view) =
    (view.status ≡ 1) × IsUnpaired begins command foreign name program bytes text view.text.items

abbrev pub IsRunMatched : List ℕ → List ℕ → List ℕ → List ℕ → Matched → Type 0
IsRunMatched name program bytes text came = IsMatched run_begins (codes "run") foreign_in_run name program bytes text came

abbrev pub IsGraphMatched : List ℕ → List ℕ → List ℕ → List ℕ → Matched → Type 0
IsGraphMatched name program bytes text came = IsMatched graph_begins (codes "graph") foreign_in_graph name program bytes text came

-- What came of a file of inputs: their lists; or what is told of the line with which psyc refuses it
abbrev pub AreRead : Whole → List ℕ → List ℕ → Fed → Type 0
AreRead unit name fed (feeding.Of inputs) = AreListsOf unit fed inputs.lists
AreRead unit name fed (feeding.Told view) =
    (view.status ≡ 1) × ((line : List ℕ) × RefusesInputs unit fed line × IsTold name fed line view.text.items)
