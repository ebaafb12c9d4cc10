-- The edges of a graph that is weighted by sends: a path of one edge alone fits any window, and a weight that a queue may have isn't cut.
use Rattle.std.proofs.Common.{ℕ, ◌<◌, ◌≤◌, List, [], ◌∷◌, Some, get_or, length, refl, ap, ◌∙◌, arith}
use Rattle.std.specs.Prelude.{min}
use Rattle.std.specs.List.{Contains}
use Rattle.std.proofs.lemmas.List.Elements.{Contains-get_or}
use Rattle.std.proofs.lemmas.Option.{slice_get-get_or}
use Rattle.psy_base.specs.declared.edge.Edge.{Edge}
use Rattle.psy_base.specs.declared.limits.TheConstants.{QUEUE, SENDS}
use Rattle.psy_base.specs.Paths.{FitsFirstFree, IsGreatestWeight}
use Rattle.psy_meaning.specs.Graph.{Spot}
use Rattle.psy_meaning.specs.KnownWays.{Ways}
use Rattle.psy_meaning.specs.QueueSizes.{AreSendEdges, IsSendEdge}

-- The edge with the same ends that is weighted by the sends to a stream
pub sent_edge : (ways : Ways) (agent stream : ℕ) (spots : List Spot) (edges sent : List Edge) → AreSendEdges ways agent stream spots edges sent → (e : Edge) → Contains edges e → (f : Edge) × Contains sent f × IsSendEdge ways agent stream spots e f
sent_edge ways agent stream spots edges sent are e (k, less, is) =
    let within : k < length sent = omega (arith, less, are.count) in
    (get_or sent k e, Contains-get_or sent k e within, are.each k e (get_or sent k e) (slice_get-get_or edges k e less ∙ ap Some is) (slice_get-get_or sent k e within))

-- A weight that a queue may have isn't cut: no more is sent.
pub uncut : (sends weight : ℕ) → min sends SENDS ≤ weight → weight ≤ QUEUE → sends ≤ weight
uncut sends weight less small = omega (arith, less, small)

-- A path of one edge fits any window.
pub single_weight : (sent : List Edge) (length n : ℕ) → IsGreatestWeight sent (FitsFirstFree length) n → (f : Edge) → Contains sent f → f.weight ≤ n
single_weight sent length n greatest f there = let less = greatest.most (f ∷ []) (f.from, (there, refl, tt)) (omega arith) in omega (arith, less)
