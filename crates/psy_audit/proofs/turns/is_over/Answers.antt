-- What is left of the proof of `turns::is_over`.
use Rattle.std.proofs.Common.{◌∙◌, ◌==◌, ℕ, filter, None, ap}
use Rattle.std.specs.List.{list_all}
use Rattle.psy_audit.specs.declared.said.Segment.{Segment}
use Rattle.psy_audit.specs.Rows.{suits}
use Rattle.psy_audit.specs.Tables.{judge}
use Rattle.psy_audit.specs.Traces.{last_of}
use Rattle.psy_audit.specs.Turns.{between, first_at, past_of, past_on}
use Rattle.psy_audit.proofs.Turning.{past_before}
use Rattle.psy_audit.proofs.turns.is_over.Goals as goal

pub returns : goal.returns
returns c = λ lines stands same.
    let t = c.args.table.now in
    let p = c.args.processor in
    let f = λ (from to : ℕ). list_all (λ (cycle : ℕ). suits None (first_at (judge t) t.lines.now p cycle)) (between from to) in
    let past = c.past_on.ensures ∙ past_before t.plan.now.unit lines c.args.before.now stands p c.requires.processor
    ∙ ap (λ xs. past_of (last_of (filter (λ (s : Segment). s.processor == p) xs))) same in
    c.all_suit.ensures ∙ ap (λ n. f n c.end_of.result) past ∙ ap (f (past_on p t.lines.now)) c.end_of.ensures
