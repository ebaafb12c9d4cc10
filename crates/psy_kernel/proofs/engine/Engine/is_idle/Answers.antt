-- What is left of the proof of `engine::Engine::is_idle`.
use Rattle.std.proofs.Common.{◌∙◌, length, sym, subst}
use Rattle.std.specs.List.{range_with_len}
use Rattle.psy_ready.specs.Choice.{ListsEach}
use Rattle.psy_kernel.specs.declared.engine.Engine.TheInside.{Inside}
use Rattle.psy_kernel.specs.declared.engine.Server.{Server}
use Rattle.psy_kernel.proofs.Engines.{AreCycleLaws}
use Rattle.psy_kernel.proofs.Idle.{idle_there, nobody_picked, there}
use Rattle.psy_kernel.proofs.OrdersInForce.{lists_declared}
use Rattle.psy_kernel.proofs.engine.Engine.is_idle.Goals as goal

pub pick-requires : goal.pick-requires
pick-requires c =
    let k : Inside = c.self.inside in
    let server : Server = c.index-server.result.now in
    let at = there k c.args.self.now c.self.view_is c.args.processor server c.requires.known c.index-server.ensures in
    let waiting = (c.self.invariant.servers c.args.processor server at).waiting in
    subst (ListsEach (length server.ready)) (sym (c.as_slice.ensures.value ∙ c.self.invariant.all)) (subst (λ n. ListsEach n (range_with_len 0 (length k.plan.unit.agents))) (sym waiting) (lists_declared (length k.plan.unit.agents)))

pub returns : goal.returns
returns c =
    let k : Inside = c.self.inside in
    let server : Server = c.index-server.result.now in
    let at = there k c.args.self.now c.self.view_is c.args.processor server c.requires.known c.index-server.ensures in
    let laws : AreCycleLaws = record { lawful = c.gets.ensures.lawful; over = c.gets.ensures.over; gets = c.gets.ensures.gets; looks = c.gets.ensures.looks; idle = c.gets.ensures.idle; same = c.gets.ensures.same } in
    record { idle = λ none. idle_there k c.self.invariant c.args.processor server at c.args.self.now c.self.view_is c.gets.ensures.most c.requires.early c.requires.due laws (nobody_picked _ c.pick.result c.pick.ensures c.is_none.result c.is_none.ensures none) }
