-- What is left of the proof of `tests::weighing::short_advances_weigh_most`.
use Rattle.std.proofs.Common.{List, [], ◌∷◌, All, arith}
use Rattle.std.proofs.lemmas.List.Elements.{All-cons}
use Rattle.psy_base.specs.declared.edge.Edge.{Edge}
use Rattle.psy_window.specs.Windows.{IsEdge}
use Rattle.psyplan_trials.proofs.tests.weighing.short_advances_weigh_most.Goals as goal

-- An edge before others
before : (e : Edge) (es : List Edge) → IsEdge 3 e → All (IsEdge 3) es → All (IsEdge 3) (e ∷ es)
before e es edge edges = All-cons (IsEdge 3) e es edge edges

six : (e1 e2 e3 e4 e5 e6 : Edge) → IsEdge 3 e1 → IsEdge 3 e2 → IsEdge 3 e3 → IsEdge 3 e4 → IsEdge 3 e5 → IsEdge 3 e6 → All (IsEdge 3) (e1 ∷ e2 ∷ e3 ∷ e4 ∷ e5 ∷ e6 ∷ [])
six e1 e2 e3 e4 e5 e6 i1 i2 i3 i4 i5 i6 =
    let last : All (IsEdge 3) (e6 ∷ []) = before e6 [] i6 (λ k d small. absurd (omega (arith, small))) in
    before e1 (e2 ∷ e3 ∷ e4 ∷ e5 ∷ e6 ∷ []) i1 (before e2 (e3 ∷ e4 ∷ e5 ∷ e6 ∷ []) i2 (before e3 (e4 ∷ e5 ∷ e6 ∷ []) i3 (before e4 (e5 ∷ e6 ∷ []) i4 (before e5 (e6 ∷ []) i5 last))))

pub weights-requires : goal.weights-requires
weights-requires g c = six c.advance.result c.advance-2.result c.advance-3.result c.advance-4.result c.advance-5.result c.advance-6.result c.advance.ensures c.advance-2.ensures c.advance-3.ensures c.advance-4.ensures c.advance-5.ensures c.advance-6.ensures

pub weights-requires-2 : goal.weights-requires-2
weights-requires-2 g c = six c.advance.result c.advance-2.result c.advance-3.result c.advance-4.result c.advance-5.result c.advance-6.result c.advance.ensures c.advance-2.ensures c.advance-3.ensures c.advance-4.ensures c.advance-5.ensures c.advance-6.ensures
