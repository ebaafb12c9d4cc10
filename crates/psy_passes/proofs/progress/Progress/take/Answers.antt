-- What is left of the proof of `progress::Progress::take`.
use Rattle.std.proofs.Common.{◌++◌, refl}
use Rattle.psy_passes.proofs.Kept.{takes}
use Rattle.psy_passes.proofs.progress.Progress.take.Goals as goal

pub returns-clause-taken : goal.returns-clause-taken
returns-clause-taken g c = λ old held now_held notes text stands steps line.
    let told = c.in-Ok.ensures.told in (
      text ++ told.0,
      takes g.T.Tell.tells old held now_held notes text c.args.tell.now c.tell.new.self c.args.self.now _ c.args.note.now told.0 stands steps c.requires told.1 refl
          (c.in_default.ensures line) told.2,
    )
