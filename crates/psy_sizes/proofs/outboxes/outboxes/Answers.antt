-- What is left of the proof of `outboxes::outboxes`.
use Rattle.std.proofs.Common.{◌≡◌, ℕ, [], ◌∷◌, ◌++◌, length, length-append, ap, subst, arith}
use Rattle.std.proofs.lemmas.Option.{get_or_from_slice_get, slice_get_within}
use Rattle.psy_base.specs.Extremes.{IsGreatest}
use Rattle.psy_lists.proofs.lemmas.Places.{each_more}
use Rattle.psy_meaning.specs.KnownWays.{Listed}
use Rattle.psy_meaning.specs.QueueSizes.{HasSendsTo}
use Rattle.psy_sizes.proofs.outboxes.outboxes.Goals as goal

pub agents-preserved : goal.agents-preserved
agents-preserved c =
    let old = c.agents.sizes in
    let new = c.push.new.self in
    let size = c.outbox.result in
    let number = c.agents.number in
    let pushed : new ≡ old ++ size ∷ [] = c.in_ok-push.ensures.ok in
    let count : length new ≡ length (old ++ size ∷ []) = ap length pushed in
    let Has : ℕ → ℕ → Type 0 = λ n m. IsGreatest (HasSendsTo c.args.unit.now (Listed c.args.ways.now) c.args.ways.now.nexts n) m in
    record {
      count = omega (arith, count, c.agents.invariant.count, length-append old (size ∷ []));
      each = each_more Has old new size number c.agents.invariant.count c.agents.invariant.each c.outbox.ensures pushed;
    }

pub returns : goal.returns
returns c =
    let sizes = c.agents.sizes in
    let Has : ℕ → ℕ → Type 0 = λ n m. IsGreatest (HasSendsTo c.args.unit.now (Listed c.args.ways.now) c.args.ways.now.nexts n) m in
    record {
      count = omega (arith, c.agents.invariant.count, c.agents-test.false, c.agents.auto.number-end, c.len-number-end.ensures);
      each = λ number size e. (let l = slice_get_within sizes number size e in subst (Has number) (get_or_from_slice_get sizes number size size e) (c.agents.invariant.each number size (omega (arith, l, c.agents.invariant.count))));
    }
