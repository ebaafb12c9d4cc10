-- What is left of the proof of `queues::queues`.
use Rattle.std.proofs.Common.{◌≡◌, ◌⊎◌, ℕ, ◌<◌, ◌≤◌, [], ◌∷◌, ◌++◌, length, length-append, Err, IfErr, sym, ap, subst, inl, inr, arith, rules}
use Rattle.std.specs.List.{All}
use Rattle.std.proofs.lemmas.List.Elements.{All-push}
use Rattle.psy_base.specs.declared.limits.TheConstants.{QUEUE}
use Rattle.psy_lists.proofs.lemmas.Places.{each_more}
use Rattle.psy_meaning.specs.KnownWays.{Listed}
use Rattle.psy_sizes.specs.declared.fault.SizeFault.{SizeFault}
use Rattle.psy_sizes.specs.declared.fault.SizeFault.TheVariants.{Memory}
use Rattle.psy_sizes.specs.Queues.{IsKeptQueue, IsQueueFault}
use Rattle.psy_sizes.proofs.QueueOf.{all_queues, first_fault}
use Rattle.psy_sizes.proofs.queues.queues.Goals as goal

pub returns-in_err-queue-clause-cause : goal.returns-in_err-queue-clause-cause
returns-in_err-queue-clause-cause c =
    let unit = c.args.unit.now in
    let fault = c.in_err-queue.field-0.0 in
    let stream = c.streams.stream in
    let kept = c.streams.invariant in
    let known : stream < length unit.streams = omega (arith, c.streams-test.true, c.streams.auto.stream-end, c.len-stream-end.ensures) in
    let ways = c.args.ways.now in
    let Q : SizeFault → Type 0 = λ f. (f ≡ Memory) ⊎ IsQueueFault unit (Listed ways) ways.nexts f in
    let is : Q fault = elim c.in_err-queue.ensures.cause [
      | inl memory ↦ inl memory
      | inr at ↦ inr (first_fault unit (Listed ways) ways.nexts stream c.streams.sizes fault known kept.each at)
    ] in
    let e : c.from_residual.result ≡ Err fault = search rules in
    subst (λ r. IfErr r Q) (sym e) is

pub streams-preserved : goal.streams-preserved
streams-preserved c =
    let unit = c.args.unit.now in
    let old = c.streams.sizes in
    let new = c.push.new.list in
    let size = c.in_ok-queue.field-0 in
    let pushed : new ≡ old ++ size ∷ [] = c.in_ok-push.ensures in
    let count : length new ≡ length (old ++ size ∷ []) = ap length pushed in
    let Each : ℕ → ℕ → Type 0 = λ stream n. IsKeptQueue unit (Listed c.args.ways.now) c.args.ways.now.nexts stream n in
    let Fit : ℕ → Type 0 = λ n. n ≤ QUEUE in
    record {
      count = omega (arith, count, c.streams.invariant.count, length-append old (size ∷ []));
      each = each_more Each old new size c.streams.stream c.streams.invariant.count c.streams.invariant.each c.in_ok-queue.ensures.queue pushed;
      small = subst (All Fit) (sym pushed) (All-push Fit old size c.streams.invariant.small c.in_ok-queue.ensures.small);
    }

pub returns-clause-queues : goal.returns-clause-queues
returns-clause-queues c =
    let unit = c.args.unit.now in
    let kept = c.streams.invariant in
    let all : c.streams.stream ≡ length unit.streams = omega (arith, kept.count, c.streams-test.false, c.streams.auto.stream-end, c.len-stream-end.ensures) in
    all_queues unit (Listed c.args.ways.now) c.args.ways.now.nexts c.streams.sizes (omega (arith, kept.count, all)) (λ stream d less. kept.each stream d (omega (arith, less, all)))

pub returns-clause-counted : goal.returns-clause-counted
returns-clause-counted c stream known =
    (c.streams.invariant.each stream 0 (omega (arith, known, c.streams-test.false, c.streams.auto.stream-end, c.len-stream-end.ensures))).counted
