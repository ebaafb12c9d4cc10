-- What is left of the proof of `shelf_reel::ShelfReelReel::next_piece`.
use Rattle.std.proofs.Common.{◌≡◌, ◌∙◌, sym, ap, arith, length, drop, ◌-◌}
use Rattle.std.proofs.lemmas.List.{length-drop, nil_from_length}
use Rattle.psy_pieces.proofs.shelf_reel.ShelfReelReel.next_piece.Goals as goal

pub returns-clause-ended : goal.returns-clause-ended
returns-clause-ended g c = λ none.
    let inside = c.self.inside in
    let left : length (drop inside.taken inside.bytes.items) ≡ length inside.bytes.items - inside.taken = length-drop inside.taken inside.bytes.items in
    sym (ap (λ s. s.left) c.self.view_is) ∙ nil_from_length (drop inside.taken inside.bytes.items) (omega (arith, left, none, c.deal-n.ensures.count, c.self.invariant, c.requires))
