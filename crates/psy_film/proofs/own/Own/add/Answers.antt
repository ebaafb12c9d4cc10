-- What is left of the proof of `own::Own::add`.
use Rattle.std.proofs.Common.{subst}
use Rattle.psy_film.specs.Sources.{TakesIn}
use Rattle.psy_film.proofs.Sources.{takes_in_more}
use Rattle.psy_film.proofs.own.Own.add.Goals as goal

pub returns-in-Some : goal.returns-in-Some
returns-in-Some c = λ source notes own.
    takes_in_more source notes c.args.note.now c.in-Some.belonging c.add.new.self c.add.ensures (subst (TakesIn source notes) c.in-Some.is own)
