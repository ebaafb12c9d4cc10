-- What is left of the proof of `faults::fault_in`.
use Rattle.std.proofs.Common.{length}
use Rattle.std.proofs.lemmas.Bool.{and_parts, ltb-true}
use Rattle.std.specs.Prelude.{nat_lt}
use Rattle.psy_audit.proofs.faults.fault_in.Goals as goal

pub act_fault-requires-clause-agent : goal.act_fault-requires-clause-agent
act_fault-requires-clause-agent c = let named = rw c.in-Acted.is at c.requires.names in ltb-true c.in-Acted.act.agent (length c.args.table.now.plan.now.unit.agents) named

pub publication_fault-requires-clause-variable : goal.publication_fault-requires-clause-variable
publication_fault-requires-clause-variable c =
    let named = rw c.in-Published.is at c.requires.names in ltb-true c.in-Published.publication.variable (length c.args.table.now.plan.now.unit.variables) named

pub segment_fault-requires-clause-agent : goal.segment_fault-requires-clause-agent
segment_fault-requires-clause-agent c =
    let named = rw c.in-Served.is at c.requires.names in ltb-true c.in-Served.segment.agent (length c.args.table.now.plan.now.unit.agents) named

pub look_fault-requires-clause-agent : goal.look_fault-requires-clause-agent
look_fault-requires-clause-agent c =
    let unit = c.args.table.now.plan.now.unit in
    let l = c.in-Looked.look in
    let named = rw c.in-Looked.is at c.requires.names in
    ltb-true l.agent (length unit.agents) (and_parts (nat_lt l.agent (length unit.agents)) (nat_lt l.variable (length unit.variables)) named).0

pub look_fault-requires-clause-variable : goal.look_fault-requires-clause-variable
look_fault-requires-clause-variable c =
    let unit = c.args.table.now.plan.now.unit in
    let l = c.in-Looked.look in
    let named = rw c.in-Looked.is at c.requires.names in
    ltb-true l.variable (length unit.variables) (and_parts (nat_lt l.agent (length unit.agents)) (nat_lt l.variable (length unit.variables)) named).1

pub returns-in_ok-acted-in-Acted : goal.returns-in_ok-acted-in-Acted
returns-in_ok-acted-in-Acted c = λ lines stands at. rw c.in-Acted.is (c.in_ok-acted-in-Acted.ensures lines stands)

pub returns-in-Published : goal.returns-in-Published
returns-in-Published c = λ lines stands at. rw c.in-Published.is (c.publication_fault.ensures lines stands)

pub returns-in-Served : goal.returns-in-Served
returns-in-Served c = λ lines stands at. rw c.in-Served.is (c.segment_fault.ensures lines stands)

pub returns-in_ok-looked-in-Looked : goal.returns-in_ok-looked-in-Looked
returns-in_ok-looked-in-Looked c = λ lines stands at. rw c.in-Looked.is (c.in_ok-looked-in-Looked.ensures lines)

pub returns-in-Ended : goal.returns-in-Ended
returns-in-Ended c = λ lines stands at. rw c.in-Ended.is (c.end_fault.ensures lines stands (at c.in-Ended.is))
