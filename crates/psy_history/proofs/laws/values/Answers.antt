-- What is left of the proof of `laws::values`.
use Rattle.std.proofs.lemmas.List.Elements.{All-nil}
use Rattle.psy_lists.proofs.lemmas.Members.{get_or_holds}
use Rattle.psy_history.specs.Actions.{variable_of}
use Rattle.psy_history.specs.History.{history}
use Rattle.psy_meaning.specs.Units.{IsOfText}
use Rattle.psy_tree.specs.declared.unit.Unit.{Unit as Whole}
use Rattle.psy_history.specs.Compiled.{stated}
use Rattle.psy_history.proofs.Seeing.{Fits, MessageFits, by_owner, messages_fit, zero_fits}
use Rattle.psy_history.proofs.StatedHistories.{AreTextLaws, all_fit}
use Rattle.psy_history.proofs.laws.values.Goals as goal

laws_of : (c : goal.After-sendings) (unit : Whole) → IsOfText unit → AreTextLaws unit
laws_of c unit text =
    let sound = c.sound.ensures.unit text.text.0 unit text.text.1 in
    record {
      sound = sound;
      keeps = λ number agent point store view. c.keeps.ensures.action unit number agent point store view sound;
      first = λ number agent. c.keeps.ensures.first unit number agent sound;
      ways = λ pieces point s t. c.ways.ensures unit.functions pieces point s t (c.sound.ensures.functions unit sound);
      sendings = λ number agent from to met sending. c.sendings.ensures unit number agent from to met sending sound;
    }

pub returns-clause-published : goal.returns-clause-published
returns-clause-published c unit nexts stalls inputs dates variable date text given =
    let s = stated unit nexts stalls inputs in
    let laws = laws_of c unit text in
    by_owner s (λ v. get_or_holds (λ d. Fits d.init) unit.variables v _ zero_fits laws.sound.values) (λ v. All-nil Fits) (λ stream. All-nil MessageFits) given.values laws.sound.values
    (history s dates) (all_fit unit nexts stalls inputs laws given dates) variable date (variable_of s variable).owner

pub returns-clause-messages : goal.returns-clause-messages
returns-clause-messages c unit nexts stalls inputs dates stream text given =
    let s = stated unit nexts stalls inputs in
    let laws = laws_of c unit text in
    messages_fit s (λ v. get_or_holds (λ d. Fits d.init) unit.variables v _ zero_fits laws.sound.values) (λ v. All-nil Fits) (λ stream. All-nil MessageFits) given.values laws.sound.values
    (history s dates) (all_fit unit nexts stalls inputs laws given dates) stream
