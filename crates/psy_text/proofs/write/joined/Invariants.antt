-- What each loop of `write::joined` keeps.
use Rattle.std.proofs.Common.{◌≡◌, take}
use Rattle.std.specs.List.{flat_map}
use Rattle.psy_text.proofs.write.joined.Given as goal

-- The pieces so far
abbrev pub invariant-loop-piece : goal.invariant-loop-piece
invariant-loop-piece l = l.text.items ≡ flat_map (λ piece. piece.now) (take l.piece-index l.pieces)
