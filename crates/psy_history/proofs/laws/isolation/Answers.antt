-- What is left of the proof of `laws::isolation`.
use Rattle.std.proofs.Common.{ap, ◌∙◌}
use Rattle.std.proofs.lemmas.Option.{get_or_from_slice_get}
use Rattle.psy_tree.specs.declared.unit.Unit.{Unit as Whole}
use Rattle.psy_tree.specs.declared.unit.VarDecl.{VarDecl}
use Rattle.psy_history.specs.History.{history}
use Rattle.psy_meaning.specs.Units.{IsOfText}
use Rattle.psy_history.specs.Compiled.{stated}
use Rattle.psy_history.specs.Feeding.{itself}
use Rattle.psy_history.proofs.IsolatedHistories.{histories_same}
use Rattle.psy_history.proofs.SameActions.{publications_same, stops_same}
use Rattle.psy_history.proofs.StatedHistories.{AreTextLaws}
use Rattle.psy_history.proofs.laws.isolation.Goals as goal

laws_of : (c : goal.After-sendings) (unit : Whole) → IsOfText unit → AreTextLaws unit
laws_of c unit text =
    let sound = c.sound.ensures.unit text.text.0 unit text.text.1 in
    record {
      sound = sound;
      keeps = λ number agent point store view. c.keeps.ensures.action unit number agent point store view sound;
      first = λ number agent. c.keeps.ensures.first unit number agent sound;
      ways = λ pieces point s t. c.ways.ensures unit.functions pieces point s t (c.sound.ensures.functions unit sound);
      sendings = λ number agent from to met sending. c.sendings.ensures unit number agent from to met sending sound;
    }

pub returns-clause-actions : goal.returns-clause-actions
returns-clause-actions c unit nexts stalls others inputs dates to text given alike = histories_same unit nexts stalls others inputs (laws_of c unit text) given dates to alike to itself

pub returns-clause-stops : goal.returns-clause-stops
returns-clause-stops c unit nexts stalls others inputs dates to date text given alike =
    stops_same date (history (stated unit nexts stalls inputs) dates to) (history (stated unit nexts others inputs) dates to) (returns-clause-actions c unit nexts stalls others inputs dates to text given alike)

pub returns-clause-values : goal.returns-clause-values
returns-clause-values c unit nexts stalls others inputs dates to date variable v text given alike at owned =
    let is = ap (λ (d : VarDecl). d.owner) (get_or_from_slice_get unit.variables variable v _ at) ∙ owned in
    publications_same unit nexts stalls others inputs (history (stated unit nexts stalls inputs) dates) (history (stated unit nexts others inputs) dates) date variable to is (returns-clause-actions c unit nexts stalls others inputs dates to text given alike)
