-- What is left of the proof of `first::next_change`.
use Rattle.std.proofs.Common.{◌≡◌, ◌∙◌, ◌<◌, length, ap, inl, inr, subst, sym, arith}
use Rattle.std.proofs.lemmas.Bool.{cases_lt}
use Rattle.std.proofs.lemmas.List.Elements.{All-contains}
use Rattle.psy_history.specs.Processors.{processor_at}
use Rattle.psy_history.specs.Scripts.{in_force}
use Rattle.psy_audit.specs.Rows.{first_in, waits_at}
use Rattle.psy_audit.specs.Turns.{soonest_of}
use Rattle.psy_audit.specs.Waits.{pending_in}
use Rattle.psy_audit.proofs.Sooner.{agents_same}
use Rattle.psy_audit.proofs.first.next_change.Goals as goal

pub agents-preserved : goal.agents-preserved
agents-preserved c =
    let near = c.next_of-next.ensures.within in
    record {
      behind = c.next_of-next.ensures.behind;
      within = omega (arith, near, c.agents.invariant.within);
      order = λ declared k low high. c.agents.invariant.order declared k low (omega (arith, near, high));
      same = λ a less home k low high. elim (cases_lt a c.agents.agent) [
        | inl before ↦ c.agents.invariant.same a before home k low (omega (arith, near, high))
        | inr here ↦ (let is : c.agents.agent ≡ a = omega (arith, less, here) in
            subst (λ n. pending_in k (waits_at c.args.rows.now n) ≡ pending_in c.args.cycle (waits_at c.args.rows.now n)) is
            (c.next_of-next.ensures.same (subst (λ n. processor_at c.args.plan.now.unit n ≡ c.args.processor) (sym is) home) k low high))
      ];
    }

pub returns-clause-same : goal.returns-clause-same
returns-clause-same c = λ declared k few low high.
    let unit = c.args.plan.now.unit in
    let rows = c.args.rows.now in
    let cycle = c.args.cycle in
    let p = c.args.processor in
    let order = in_force declared c.args.orders.now cycle in
    ap (first_in unit rows p k) (c.agents.invariant.order declared k low high)
    ∙ ap soonest_of (agents_same unit p (λ agent. pending_in k (waits_at rows agent)) (λ agent. pending_in cycle (waits_at rows agent)) order
    (λ agent member home. (let less : agent < length unit.agents = All-contains (λ a. a < length unit.agents) order agent few member in
    c.agents.invariant.same agent (omega (arith, less, c.agents-test.false, c.len-agent-end.ensures)) home k low high)))
