-- What is left of the proof of `engine::Engine::go_ahead`.
use Rattle.std.proofs.Common.{ℕ, inl, inr, arith}
use Rattle.std.proofs.lemmas.Bool.{cases_Bool}
use Rattle.psy_kernel.specs.Engines.{EngineState, done_on}
use Rattle.psy_kernel.specs.Standing.{EngineStands}
use Rattle.psy_kernel.specs.declared.engine.Engine.TheInside.{Inside}
use Rattle.psy_kernel.specs.declared.engine.Server.{Server}
use Rattle.psy_kernel.proofs.Changes.{change_there, done_is, end_above, end_ahead, end_within, first_there}
use Rattle.psy_kernel.proofs.Idle.{there}
use Rattle.psy_kernel.proofs.engine.Engine.go_ahead.Goals as goal

pub overflow_sub-most : goal.overflow_sub-most
overflow_sub-most c =
    let k : Inside = c.self.inside in
    let is : EngineStands k = c.self.invariant in
    let e : EngineState = c.args.self.now in
    let p : ℕ = c.args.processor in
    let server : Server = c.index-server.result.now in
    let at = there k e c.self.view_is p server c.requires.known c.index-server.ensures in
    let same = done_is k is p server at e c.self.view_is in
    let orders = c.as_slice.result.now in
    let end = c.order_or-end.result in
    let is_end = c.order_or-end.ensures in
    let above = end_above k is p server at e c.self.view_is c.args.limit c.requires.due c.requires.within orders c.as_slice.ensures end is_end.no_later is_end.ahead is_end.at in
    omega (arith, above, same)

pub give-requires-clause-some : goal.give-requires-clause-some
give-requires-clause-some c =
    let k : Inside = c.self.inside in
    let is : EngineStands k = c.self.invariant in
    let e : EngineState = c.args.self.now in
    let p : ℕ = c.args.processor in
    let server : Server = c.index-server.result.now in
    let at = there k e c.self.view_is p server c.requires.known c.index-server.ensures in
    let same = done_is k is p server at e c.self.view_is in
    let orders = c.as_slice.result.now in
    let end = c.order_or-end.result in
    let is_end = c.order_or-end.ensures in
    let above = end_above k is p server at e c.self.view_is c.args.limit c.requires.due c.requires.within orders c.as_slice.ensures end is_end.no_later is_end.ahead is_end.at in
    omega (arith, above, same)

pub give-requires-clause-inside : goal.give-requires-clause-inside
give-requires-clause-inside c =
    let k : Inside = c.self.inside in
    let is : EngineStands k = c.self.invariant in
    let e : EngineState = c.args.self.now in
    let p : ℕ = c.args.processor in
    let server : Server = c.index-server.result.now in
    let at = there k e c.self.view_is p server c.requires.known c.index-server.ensures in
    let same = done_is k is p server at e c.self.view_is in
    let orders = c.as_slice.result.now in
    let end = c.order_or-end.result in
    let is_end = c.order_or-end.ensures in
    let above = end_above k is p server at e c.self.view_is c.args.limit c.requires.due c.requires.within orders c.as_slice.ensures end is_end.no_later is_end.ahead is_end.at in
    let within = end_within k is p server at e c.self.view_is c.args.limit c.requires.due c.requires.within orders c.as_slice.ensures end is_end.no_later is_end.ahead is_end.at in
    omega (arith, above, same, within)

pub give-requires-clause-ahead : goal.give-requires-clause-ahead
give-requires-clause-ahead c =
    let k : Inside = c.self.inside in
    let is : EngineStands k = c.self.invariant in
    let e : EngineState = c.args.self.now in
    let p : ℕ = c.args.processor in
    let server : Server = c.index-server.result.now in
    let at = there k e c.self.view_is p server c.requires.known c.index-server.ensures in
    let same = done_is k is p server at e c.self.view_is in
    let orders = c.as_slice.result.now in
    let end = c.order_or-end.result in
    let is_end = c.order_or-end.ensures in
    let above = end_above k is p server at e c.self.view_is c.args.limit c.requires.due c.requires.within orders c.as_slice.ensures end is_end.no_later is_end.ahead is_end.at in
    λ place o here later. (let ahead = end_ahead k is p server at e c.self.view_is c.args.limit c.requires.due c.requires.within orders c.as_slice.ensures end is_end.no_later is_end.ahead is_end.at place o here later in omega (arith, above, same, ahead))

pub returns-clause-count : goal.returns-clause-count
returns-clause-count c =
    let k : Inside = c.self.inside in
    let is : EngineStands k = c.self.invariant in
    let e : EngineState = c.args.self.now in
    let p : ℕ = c.args.processor in
    let server : Server = c.index-server.result.now in
    let at = there k e c.self.view_is p server c.requires.known c.index-server.ensures in
    let same = done_is k is p server at e c.self.view_is in
    let orders = c.as_slice.result.now in
    let end = c.order_or-end.result in
    let is_end = c.order_or-end.ensures in
    let above = end_above k is p server at e c.self.view_is c.args.limit c.requires.due c.requires.within orders c.as_slice.ensures end is_end.no_later is_end.ahead is_end.at in
    (c.give.ensures.count.0, omega (arith, c.give.ensures.count.1, above, same, is_end.no_later))

pub returns-clause-change : goal.returns-clause-change
returns-clause-change c =
    let k : Inside = c.self.inside in
    let is : EngineStands k = c.self.invariant in
    let e : EngineState = c.args.self.now in
    let p : ℕ = c.args.processor in
    let server : Server = c.index-server.result.now in
    let at = there k e c.self.view_is p server c.requires.known c.index-server.ensures in
    let same = done_is k is p server at e c.self.view_is in
    let orders = c.as_slice.result.now in
    let end = c.order_or-end.result in
    let is_end = c.order_or-end.ensures in
    let above = end_above k is p server at e c.self.view_is c.args.limit c.requires.due c.requires.within orders c.as_slice.ensures end is_end.no_later is_end.ahead is_end.at in
    change_there k is p server at e c.self.view_is c.args.limit c.requires.due c.requires.within orders c.as_slice.ensures end is_end.no_later is_end.ahead is_end.at
    (done_on c.give.new.self p) (omega (arith, c.give.ensures.count.1, above, same))
    (λ less. elim (cases_Bool c.give.result) [
      | inl over ↦ c.give.ensures.over over
      | inr goes ↦ absurd (omega (arith, less, c.give.ensures.whole goes, above, same))
    ])

pub returns-clause-first : goal.returns-clause-first
returns-clause-first c =
    let k : Inside = c.self.inside in
    let is : EngineStands k = c.self.invariant in
    let e : EngineState = c.args.self.now in
    let p : ℕ = c.args.processor in
    let server : Server = c.index-server.result.now in
    let at = there k e c.self.view_is p server c.requires.known c.index-server.ensures in
    let same = done_is k is p server at e c.self.view_is in
    let orders = c.as_slice.result.now in
    let end = c.order_or-end.result in
    let is_end = c.order_or-end.ensures in
    let above = end_above k is p server at e c.self.view_is c.args.limit c.requires.due c.requires.within orders c.as_slice.ensures end is_end.no_later is_end.ahead is_end.at in
    first_there k is p server at e c.self.view_is c.args.limit c.requires.due c.requires.within orders c.as_slice.ensures end is_end.no_later is_end.ahead is_end.at
    (done_on c.give.new.self p) (omega (arith, c.give.ensures.count.1, above, same)) c.give.ensures.steady
