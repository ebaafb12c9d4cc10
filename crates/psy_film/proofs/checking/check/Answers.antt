-- What is left of the proof of `checking::check`.
use Rattle.psy_film.proofs.checking.check.Goals as goal

pub names_of-requires : goal.names_of-requires
names_of-requires g c = (c.requires.0, c.requires.1.read, c.requires.2)
