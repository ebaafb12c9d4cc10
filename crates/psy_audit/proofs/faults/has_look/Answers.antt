-- What is left of the proof of `faults::has_look`.
use Rattle.std.proofs.Common.{◌∙◌, List, ap}
use Rattle.std.specs.List.{list_any}
use Rattle.psy_audit.specs.declared.said.Act.{Act}
use Rattle.psy_audit.specs.declared.said.Publication.{Publication}
use Rattle.psy_audit.specs.declared.said.Segment.{Segment}
use Rattle.psy_audit.specs.Judging.{untied}
use Rattle.psy_audit.specs.Looks.{is_look_with}
use Rattle.psy_audit.specs.Traces.{publications_of, segments_of}
use Rattle.psy_audit.proofs.Firsts.{own_segments}
use Rattle.psy_audit.proofs.faults.has_look.Goals as goal

pub returns : goal.returns
returns c =
    let t = c.args.table.now in
    let l = c.args.look.now in
    let j = untied t.plan.now in
    let is = λ (its : List Segment) (published : List Publication) (acts : List Act). list_any (is_look_with j its published l) acts in
    let its = c.as_slice.ensures ∙ c.in_ok-its.ensures ∙ c.segments_near.ensures
    ∙ own_segments t.lines.now l.agent l.number in
    c.is_look.ensures
    ∙ ap (λ xs. is xs c.publications_of.result.now c.acts_of.result.now) its
    ∙ ap (λ ps. is (segments_of l.agent l.number t.lines.now) ps c.acts_of.result.now) c.publications_of.ensures
    ∙ ap (is (segments_of l.agent l.number t.lines.now) (publications_of l.variable t.lines.now)) c.acts_of.ensures
