-- What is left of the proof of `tests::rates::two_clocks`.
use Rattle.std.proofs.Common.{[], ◌∷◌}
use Rattle.std.proofs.lemmas.List.Elements.{All-nil, All-cons}
use Rattle.psyplan_trials.proofs.tests.rates.two_clocks.Goals as goal
use Rattle.psy_window.specs.Windows.{IsEdge}

pub certify-requires-clause-edges : goal.certify-requires-clause-edges
certify-requires-clause-edges g c =
    All-cons (IsEdge 5) c.edge.result (c.edge-2.result ∷ c.edge-3.result ∷ c.edge-4.result ∷ c.edge-5.result ∷ []) c.edge.ensures
    (All-cons (IsEdge 5) c.edge-2.result (c.edge-3.result ∷ c.edge-4.result ∷ c.edge-5.result ∷ []) c.edge-2.ensures
    (All-cons (IsEdge 5) c.edge-3.result (c.edge-4.result ∷ c.edge-5.result ∷ []) c.edge-3.ensures
    (All-cons (IsEdge 5) c.edge-4.result (c.edge-5.result ∷ []) c.edge-4.ensures (All-cons (IsEdge 5) c.edge-5.result [] c.edge-5.ensures (All-nil (IsEdge 5))))))
