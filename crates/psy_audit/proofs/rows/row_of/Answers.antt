-- What is left of the proof of `rows::row_of`.
use Rattle.std.proofs.Common.{◌∙◌, ◌==◌, List, filter, map, ap}
use Rattle.psy_audit.specs.declared.rows.AgentRow.{AgentRow}
use Rattle.psy_audit.specs.declared.said.Act.{Act}
use Rattle.psy_audit.specs.declared.said.Segment.{Segment}
use Rattle.psy_audit.specs.declared.waits.Wait.{Wait}
use Rattle.psy_audit.specs.Judging.{untied}
use Rattle.psy_audit.specs.Traces.{acts_of, segments}
use Rattle.psy_audit.specs.Waits.{wait_in}
use Rattle.psy_audit.proofs.Firsts.{waits_are}
use Rattle.psy_audit.proofs.rows.row_of.Goals as goal

abbrev made : List Act → List Segment → List Wait → AgentRow
made xs ss ws = record { acts = xs; segments = ss; waits = ws }

pub returns : goal.returns
returns c = λ all acts segments_are.
    let j = untied c.args.plan.now in
    let agent = c.args.agent in
    let its = c.in_ok-acts.ensures ∙ ap (λ (xs : List Act). filter (λ (a : Act). a.agent == agent) xs) acts in
    let own = c.in_ok-segments.ensures ∙ ap (λ (xs : List Segment). filter (λ (s : Segment). s.agent == agent) xs) segments_are in
    let waits = λ (xs : List Act) (ss : List Segment). map (λ (a : Act). wait_in j (filter (λ (s : Segment). s.number == a.number) ss) a) xs in
    let wait = c.in_ok-waits.ensures ∙ ap (λ xs. waits xs c.in_ok-segments.segments) (c.as_slice.ensures ∙ its) ∙ ap (waits (acts_of agent all)) own ∙ waits_are j all agent in
    ap (λ xs. made xs c.in_ok-segments.segments c.in_ok-waits.waits) its ∙ ap (λ ss. made (acts_of agent all) ss c.in_ok-waits.waits) own
    ∙ ap (made (acts_of agent all) (filter (λ (s : Segment). s.agent == agent) (segments all))) wait
