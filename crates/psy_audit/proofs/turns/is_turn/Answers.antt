-- What is left of the proof of `turns::is_turn`.
use Rattle.std.proofs.Common.{◌∙◌, ◌==◌, ◌&&◌, ℕ, List, not, ap}
use Rattle.std.specs.List.{list_all, list_any}
use Rattle.psy_audit.specs.declared.said.Segment.{Segment}
use Rattle.psy_audit.specs.Tables.{judge}
use Rattle.psy_audit.specs.Turns.{between, first_at, is_idle, is_own, past_on, touches}
use Rattle.psy_audit.proofs.Turning.{past_before, touches_before}
use Rattle.psy_audit.proofs.turns.is_turn.Goals as goal

pub returns : goal.returns
returns c = λ lines stands.
    let t = c.args.table.now in
    let s = c.args.segment.now in
    let b = c.args.before.now in
    let j = judge t in
    let unit = t.plan.now.unit in
    let own = list_all (λ (cycle : ℕ). is_own s (first_at j t.lines.now s.processor cycle)) (between s.first s.past) in
    let touch = λ (xs : List Segment). list_any (λ (x : Segment). x.processor == s.processor && touches s x) xs in
    let past = c.past_on.ensures ∙ past_before unit lines b stands s.processor c.requires.processor in
    c.has_turn.ensures
    ∙ ap (λ n. not (touch c.as_slice.result.now) && (own && is_idle j t.lines.now s.processor n s.first)) past
    ∙ ap (λ xs. not (touch xs) && (own && is_idle j t.lines.now s.processor (past_on s.processor lines) s.first)) c.as_slice.ensures
    ∙ ap (λ n. not n && (own && is_idle j t.lines.now s.processor (past_on s.processor lines) s.first)) (touches_before unit lines b stands s)
