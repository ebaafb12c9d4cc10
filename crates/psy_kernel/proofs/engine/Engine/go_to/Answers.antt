-- What is left of the proof of `engine::Engine::go_to`.
use Rattle.std.proofs.Common.{◌∙◌, ℕ, ap, slice_set}
use Rattle.psy_kernel.specs.Engines.{EngineState, done_on}
use Rattle.psy_kernel.proofs.Exchanged.{set_twice}
use Rattle.psy_kernel.proofs.engine.Engine.go_to.Goals as goal

pub parts-preserved : goal.parts-preserved
parts-preserved c =
    let first : EngineState = c.args.self.now in
    let p : ℕ = c.args.processor in
    let to : ℕ = done_on c.go_ahead.new.self p in
    record {
      kept =
          c.go_ahead.ensures.state
          ∙ ap (λ (e : EngineState). record e { done = slice_set e.done p to }) c.parts.invariant.kept
          ∙ ap (λ ds. record first { done = ds }) (set_twice first.done p (done_on c.parts.self p) to);
      below = c.go_ahead.ensures.count.1;
    }
