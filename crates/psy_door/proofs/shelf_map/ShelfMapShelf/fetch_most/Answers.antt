-- What is left of the proof of `shelf_map::ShelfMapShelf::fetch_most`.
use Rattle.std.proofs.Common.{inl}
use Rattle.psy_door.proofs.shelf_map.ShelfMapShelf.fetch_most.Goals as goal

pub returns-then-is_listed-clause-fails_only : goal.returns-then-is_listed-clause-fails_only
returns-then-is_listed-clause-fails_only c failed = inl (rw (← c.self.view_is) (rw c.as_slice.ensures.value at (c.is_listed.ensures.0 c.if-is_listed.true)))
