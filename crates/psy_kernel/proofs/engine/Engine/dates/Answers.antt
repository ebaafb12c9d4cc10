-- What is left of the proof of `engine::Engine::dates`.
use Rattle.std.proofs.Common.{◌≡◌, ◌≤◌, length, ap, sym, ◌∙◌, arith}
use Rattle.psy_kernel.specs.Engines.{EngineState}
use Rattle.psy_kernel.proofs.GivenLines.{date_within}
use Rattle.psy_kernel.proofs.engine.Engine.dates.Goals as goal

pub prove-unreachable-requires : goal.prove-unreachable-requires
prove-unreachable-requires c =
    let k = c.self.inside in
    let some : 1 ≤ length k.servers.items = (let one = c.one_of_them.ensures.one k.plan.unit 0 in omega (arith, one, c.self.invariant.served)) in
    let within : c.in-Some.date ≤ k.plan.until = date_within k c.self.invariant c.in-Some.date c.in-Some.is some in
    let last : c.until-until.result ≡ k.plan.until = c.until-until.ensures ∙ ap (λ (e : EngineState). e.plan.until) (sym c.self.view_is) in
    omega (arith, within, last)
