-- What is left of the proof of `viable::is_front`.
use Rattle.std.proofs.Common.{ap, Err}
use Rattle.psy_expect.proofs.Fronts.{viable_whole, front_by_fault}
use Rattle.psy_expect.proofs.viable.is_front.Goals as goal
use Rattle.psy_expect.proofs.viable.is_front.Goals.{in-Ok, in-Err-Syntax, in-Err-Deep, in-Err-Memory}

pub returns : goal.returns
returns c = elim c.match-parse.branch [
  | in-Ok w ↦ rw w.result-is (record { viable = viable_whole _ _ w.in-Ok.ensures.tree; shallow = w.in-Ok.ensures.shallow })
  | in-Err-Syntax w ↦
      let is = ap Err w.in-Err-Syntax.field-0-is in
      let token = w.in-Err-Syntax.token in
      rw w.result-is (front_by_fault c.args.tokens.now token (w.in-Err-Syntax.ensures.at_fault token is) (w.in-Err-Syntax.ensures.syntax token is).0)
  | in-Err-Deep w ↦
      let deep = (w.in-Err-Deep.ensures.deep _).0 (ap Err w.in-Err-Deep.field-0-is) in
      rw w.result-is (λ front. front.shallow _ deep.stands deep.reached)
  | in-Err-Memory w ↦ rw w.result-is tt
]
