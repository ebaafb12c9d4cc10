-- What is left of the proof of `top::reply`.
use Rattle.std.proofs.Common.{ap, subst}
use Rattle.psy_view.specs.Answer.{IsUnexported}
use Rattle.psy_view.specs.Reading.{request_of}
use Rattle.psy_view.proofs.ExportLemmas.{is_export}
use Rattle.psy_view.proofs.top.reply.Goals as goal

pub unreachable-requires : goal.unreachable-requires
unreachable-requires g c = subst IsUnexported (ap request_of c.in-Export.is) c.requires _ _ (is_export _ _)
