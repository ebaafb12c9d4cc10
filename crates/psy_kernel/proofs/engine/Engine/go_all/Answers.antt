-- What is left of the proof of `engine::Engine::go_all`.
use Rattle.std.proofs.Common.{◌∙◌, ap, arith}
use Rattle.std.proofs.lemmas.Option.{slice_get_within}
use Rattle.psy_history.specs.Processors.{processors}
use Rattle.psy_kernel.specs.Engines.{EngineState}
use Rattle.psy_kernel.proofs.Exchanged.{all_same}
use Rattle.psy_kernel.proofs.engine.Engine.go_all.Goals as goal

pub returns : goal.returns
returns c =
    let first : EngineState = c.args.self.now in
    let last : EngineState = c.processors.self in
    record {
      state =
          c.processors.invariant.kept
          ∙ ap (λ ds. record first { done = ds }) (all_same last.done (processors first.plan.unit) c.args.end (c.processors.invariant.count ∙ c.requires.served)
          (λ place n there. c.processors.invariant.gone place n there (omega (arith, slice_get_within last.done place n there, c.processors.invariant.count, c.requires.served, c.processors-test.false, c.processors-processor-end.ensures))));
    }
