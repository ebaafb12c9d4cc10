-- What is left of the proof of `laws::typed`.
use Rattle.psy_tree.specs.Places.{expr_places}
use Rattle.psy_tree.proofs.lemmas.Among.{contains}
use Rattle.psy_tree.proofs.lemmas.Faultless.{Fine}
use Rattle.psy_meaning.proofs.KeptActions.{value_typed}
use Rattle.psy_meaning.proofs.KeptValues.{Ranges}
use Rattle.psy_meaning.proofs.TypedExprs.{typed_within}
use Rattle.psy_meaning.proofs.lemmas.Eaches.{each-among}
use Rattle.psy_meaning.proofs.laws.typed.Goals as goal

pub returns-clause-value : goal.returns-clause-value
returns-clause-value c unit number agent s t e v sound has its_store its_view is gives =
    let ranges : Ranges = record { two = c.types.ensures.two; one = c.types.ensures.one; wider = c.types.ensures.wider } in
    value_typed unit number agent ranges sound s t e v its_store its_view is gives

pub returns-clause-text : goal.returns-clause-text
returns-clause-text c site e fine =
    typed_within site e (each-among (Fine site) (expr_places e) (λ place there kind. fine place kind (contains place (expr_places e) there)))
