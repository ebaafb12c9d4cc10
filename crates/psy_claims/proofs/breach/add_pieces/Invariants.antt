-- What each loop of `breach::add_pieces` keeps.
use Rattle.std.proofs.Common.{◌≡◌, ◌++◌, take}
use Rattle.std.specs.List.{flat_map}
use Rattle.psy_claims.proofs.breach.add_pieces.Given as goal

-- The pieces so far
abbrev pub invariant-loop-piece : goal.invariant-loop-piece
invariant-loop-piece l = l.out.items ≡ l.initial.out.items ++ flat_map (λ piece. piece.now) (take l.piece-index l.pieces)
