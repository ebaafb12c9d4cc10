-- What is left of the proof of `firsts::Firsts::copied`.
use Rattle.psy_draw.proofs.Agreeing.{copied}
use Rattle.psy_draw.proofs.firsts.Firsts.copied.Goals as goal

pub returns-clause-same : goal.returns-clause-same
returns-clause-same c = λ values are. copied values c.args.self.now c.args.names c.in_ok-told.told.items are c.requires c.in_ok-told.ensures
