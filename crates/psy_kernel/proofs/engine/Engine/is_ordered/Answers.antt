-- What is left of the proof of `engine::Engine::is_ordered`.
use Rattle.std.proofs.Common.{◌-◌, List, get_or, arith}
use Rattle.std.proofs.lemmas.Bool.{eqb-false, eqb-true}
use Rattle.psy_history.specs.declared.told.Order.{Order}
use Rattle.psy_kernel.specs.declared.engine.Engine.TheInside.{Inside}
use Rattle.psy_kernel.specs.declared.engine.Server.{Server}
use Rattle.psy_kernel.proofs.Idle.{last_read, last_within, ordered_there, there, unordered_none, unordered_other}
use Rattle.psy_kernel.proofs.engine.Engine.is_ordered.Goals as goal

pub offset_bounds-orders-server : goal.offset_bounds-orders-server
offset_bounds-orders-server c =
    let at = there c.self.inside c.args.self.now c.self.view_is c.args.processor c.index-server.result.now c.requires.known c.index-server.ensures in
    let less = last_within c.self.inside c.self.invariant c.args.processor c.index-server.result.now at c.args.self.now c.self.view_is c.as_slice-orders.result.now c.as_slice-orders.ensures c.if-server-gt0.true in
    omega (arith, less, c.as_slice-orders.type_inv)

pub bounds-orders-server : goal.bounds-orders-server
bounds-orders-server c =
    let at = there c.self.inside c.args.self.now c.self.view_is c.args.processor c.index-server.result.now c.requires.known c.index-server.ensures in
    last_within c.self.inside c.self.invariant c.args.processor c.index-server.result.now at c.args.self.now c.self.view_is c.as_slice-orders.result.now c.as_slice-orders.ensures c.if-server-gt0.true

pub bounds-orders-server-then-server-gt0 : goal.bounds-orders-server-then-server-gt0
bounds-orders-server-then-server-gt0 c =
    let at = there c.self.inside c.args.self.now c.self.view_is c.args.processor c.index-server.result.now c.requires.known c.index-server.ensures in
    last_within c.self.inside c.self.invariant c.args.processor c.index-server.result.now at c.args.self.now c.self.view_is c.as_slice-orders.result.now c.as_slice-orders.ensures c.if-server-gt0.true

pub returns-then-server-gt0-clause-yes : goal.returns-then-server-gt0-clause-yes
returns-then-server-gt0-clause-yes c =
    let k : Inside = c.self.inside in
    let server : Server = c.index-server.result.now in
    let orders : List Order = c.as_slice-orders.result.now in
    let at = there k c.args.self.now c.self.view_is c.args.processor server c.requires.known c.index-server.ensures in
    let last : Order = get_or orders (server.passed - 1) c.index-orders-server.result in
    let here = last_read k c.self.invariant c.args.processor server at c.args.self.now c.self.view_is orders c.as_slice-orders.ensures c.if-server-gt0.true c.index-orders-server.result in
    λ yes. ordered_there k c.self.invariant c.args.processor server at c.args.self.now c.self.view_is orders c.as_slice-orders.ensures last here (eqb-true last.cycle server.cycles yes)

pub returns-then-server-gt0-clause-no : goal.returns-then-server-gt0-clause-no
returns-then-server-gt0-clause-no c =
    let k : Inside = c.self.inside in
    let server : Server = c.index-server.result.now in
    let orders : List Order = c.as_slice-orders.result.now in
    let at = there k c.args.self.now c.self.view_is c.args.processor server c.requires.known c.index-server.ensures in
    let last : Order = get_or orders (server.passed - 1) c.index-orders-server.result in
    let here = last_read k c.self.invariant c.args.processor server at c.args.self.now c.self.view_is orders c.as_slice-orders.ensures c.if-server-gt0.true c.index-orders-server.result in
    λ no. unordered_other k c.self.invariant c.args.processor server at c.args.self.now c.self.view_is orders c.as_slice-orders.ensures last here (eqb-false last.cycle server.cycles no)

pub returns-else-server-gt0-clause-no : goal.returns-else-server-gt0-clause-no
returns-else-server-gt0-clause-no c =
    let at = there c.self.inside c.args.self.now c.self.view_is c.args.processor c.index-server.result.now c.requires.known c.index-server.ensures in
    λ no. unordered_none c.self.inside c.self.invariant c.args.processor c.index-server.result.now at c.args.self.now c.self.view_is (omega (arith, c.if-server-gt0.false))
