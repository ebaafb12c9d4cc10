-- What is left of the proof of `laws::keeps`.
use Rattle.psy_meaning.specs.Alike.{begun}
use Rattle.psy_meaning.proofs.Endings.{action_ends}
use Rattle.psy_meaning.proofs.KeptActions.{action_keeps, first_of_agent}
use Rattle.psy_meaning.proofs.KeptValues.{Ranges}
use Rattle.psy_meaning.proofs.laws.keeps.Goals as goal

pub returns-clause-action : goal.returns-clause-action
returns-clause-action c unit number agent point store view sound has less its_store its_view =
    let its = sound.agents number agent has in
    let (final, halts) = action_ends unit number agent point (begun store view) sound its in
    let ranges : Ranges = record { two = c.types.ensures.two; one = c.types.ensures.one; wider = c.types.ensures.wider } in
    (final, halts, action_keeps unit number agent ranges sound point store view final its its_store its_view halts)

pub returns-clause-first : goal.returns-clause-first
returns-clause-first c unit number agent sound has = first_of_agent unit number agent sound (sound.agents number agent has)
