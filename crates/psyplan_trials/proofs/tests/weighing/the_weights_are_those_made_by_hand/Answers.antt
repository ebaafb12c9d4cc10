-- What is left of the proof of `tests::weighing::the_weights_are_those_made_by_hand`.
use Rattle.std.proofs.Common.{[], ◌∷◌, All, arith}
use Rattle.std.proofs.lemmas.List.Elements.{All-cons}
use Rattle.psy_base.specs.declared.edge.Edge.{Edge}
use Rattle.psy_window.specs.Windows.{IsEdge}
use Rattle.psyplan_trials.proofs.tests.weighing.the_weights_are_those_made_by_hand.Goals as goal

alone : (e : Edge) → IsEdge 1 e → All (IsEdge 1) (e ∷ [])
alone e edge = All-cons (IsEdge 1) e [] edge (λ k d small. absurd (omega (arith, small)))

pub weights-requires : goal.weights-requires
weights-requires g c = alone c.again.result c.again.ensures

pub weights-requires-2 : goal.weights-requires-2
weights-requires-2 g c = alone c.again-2.result c.again-2.ensures

pub weights-requires-3 : goal.weights-requires-3
weights-requires-3 g c = alone c.again-3.result c.again-3.ensures

pub weights-requires-4 : goal.weights-requires-4
weights-requires-4 g c = alone c.again-4.result c.again-4.ensures
