-- What is left of the proof of `machine::Machine::step`.
use Rattle.std.proofs.Common.{ap}
use Rattle.psy_machine.specs.Stepping.{AgentMachine}
use Rattle.psy_machine.proofs.Steps.{fetched}
use Rattle.psy_machine.proofs.machine.Machine.step.Goals as goal

pub act-requires-clause-able : goal.act-requires-clause-able
act-requires-clause-able g c =
    let s = fetched c.args.code.now (g.L.Look.window c.args.look.now).view c.args.self.now c.as_slice.result.now c.as_slice-2.result.now c.self.inside.agent c.self.inside.place c.index-as_slice-self.result c.index-as_slice-self-2.result c.as_slice.ensures c.as_slice-2.ensures (ap (λ (m : AgentMachine). m.agent) c.self.view_is) (ap (λ (m : AgentMachine). m.machine.place) c.self.view_is) c.index-as_slice-self.is c.index-as_slice-self-2.is c.as_slice-2.type_inv.0 c.requires.of c.requires.able in
    s.can

pub act-requires-clause-permitted : goal.act-requires-clause-permitted
act-requires-clause-permitted g c =
    let s = fetched c.args.code.now (g.L.Look.window c.args.look.now).view c.args.self.now c.as_slice.result.now c.as_slice-2.result.now c.self.inside.agent c.self.inside.place c.index-as_slice-self.result c.index-as_slice-self-2.result c.as_slice.ensures c.as_slice-2.ensures (ap (λ (m : AgentMachine). m.agent) c.self.view_is) (ap (λ (m : AgentMachine). m.machine.place) c.self.view_is) c.index-as_slice-self.is c.index-as_slice-self-2.is c.as_slice-2.type_inv.0 c.requires.of c.requires.able in
    rw (← s.call) c.requires.permitted

pub returns-clause-answer : goal.returns-clause-answer
returns-clause-answer g c =
    let s = fetched c.args.code.now (g.L.Look.window c.args.look.now).view c.args.self.now c.as_slice.result.now c.as_slice-2.result.now c.self.inside.agent c.self.inside.place c.index-as_slice-self.result c.index-as_slice-self-2.result c.as_slice.ensures c.as_slice-2.ensures (ap (λ (m : AgentMachine). m.agent) c.self.view_is) (ap (λ (m : AgentMachine). m.machine.place) c.self.view_is) c.index-as_slice-self.is c.index-as_slice-self-2.is c.as_slice-2.type_inv.0 c.requires.of c.requires.able in
    rw s.next c.act.ensures.did.answer

pub returns-clause-machine : goal.returns-clause-machine
returns-clause-machine g c =
    let s = fetched c.args.code.now (g.L.Look.window c.args.look.now).view c.args.self.now c.as_slice.result.now c.as_slice-2.result.now c.self.inside.agent c.self.inside.place c.index-as_slice-self.result c.index-as_slice-self-2.result c.as_slice.ensures c.as_slice-2.ensures (ap (λ (m : AgentMachine). m.agent) c.self.view_is) (ap (λ (m : AgentMachine). m.machine.place) c.self.view_is) c.index-as_slice-self.is c.index-as_slice-self-2.is c.as_slice-2.type_inv.0 c.requires.of c.requires.able in
    rw s.next c.act.ensures.did.machine

pub returns-clause-window : goal.returns-clause-window
returns-clause-window g c =
    let s = fetched c.args.code.now (g.L.Look.window c.args.look.now).view c.args.self.now c.as_slice.result.now c.as_slice-2.result.now c.self.inside.agent c.self.inside.place c.index-as_slice-self.result c.index-as_slice-self-2.result c.as_slice.ensures c.as_slice-2.ensures (ap (λ (m : AgentMachine). m.agent) c.self.view_is) (ap (λ (m : AgentMachine). m.machine.place) c.self.view_is) c.index-as_slice-self.is c.index-as_slice-self-2.is c.as_slice-2.type_inv.0 c.requires.of c.requires.able in
    rw s.call c.act.ensures.window
