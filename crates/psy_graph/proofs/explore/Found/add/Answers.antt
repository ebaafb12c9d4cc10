-- What is left of the proof of `explore::Found::add`.
use Rattle.std.proofs.Common.{◌≡◌, Some, sym, subst, refl, inr, arith}
use Rattle.std.specs.List.{slice_get}
use Rattle.std.proofs.lemmas.Bool.Decides.{not_from_Decides}
use Rattle.psy_graph.specs.Places.{IsRoom, IsSought}
use Rattle.psy_graph.proofs.Rooms.{room_sought}
use Rattle.psy_graph.proofs.explore.Found.add.Goals as goal
use Rattle.psy_graph.proofs.explore.Found.add.Goals.{Else-stands_at}

room : (c : Else-stands_at) → IsRoom c.args.self.now.places.items c.args.place c.seek-at.result
room c =
    let places = c.args.self.now.places.items in
    let sought : IsSought places c.args.place c.seek-at.result = subst (λ xs. IsSought xs c.args.place c.seek-at.result) c.as_slice.ensures.value c.seek-at.ensures in
    let other : slice_get places c.seek-at.result ≡ Some c.args.place → ⊥ =
    λ e. not_from_Decides c.stands_at.result c.stands_at.ensures c.if-stands_at.false (subst (λ xs. slice_get xs c.seek-at.result ≡ Some c.args.place) (sym c.as_slice-2.ensures.value) e) in
    room_sought places c.args.place c.seek-at.result c.requires.rise sought other

pub returns-then-len-clause-full : goal.returns-then-len-clause-full
returns-then-len-clause-full c = inr (refl, omega arith, c.seek-at.result, room (goal.at.returns-then-len-clause-full c).Else-stands_at)

pub returns-clause-added : goal.returns-clause-added
returns-clause-added c = inr (c.seek-at.result, room (goal.at.returns-clause-added c).Else-stands_at, c.in_ok-insert.ensures.work, c.in_ok-insert.ensures.places)
