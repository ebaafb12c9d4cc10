-- What is left of the proof of `code_sends::code_sends`.
use Rattle.std.proofs.Common.{◌≡◌, ◌<◌, ◌≤◌, ℕ, Bool, false, List, get_or, length, replicate, ap, subst, ◌∙◌, arith}
use Rattle.std.specs.List.{Contains}
use Rattle.std.proofs.lemmas.List.{length-replicate, take_all}
use Rattle.std.proofs.lemmas.List.Elements.{Contains-get_or}
use Rattle.psy_base.specs.declared.ways.SendWay.{SendWay}
use Rattle.psy_meaning.specs.CodeWays.{HaveMosts, IsMostCodeSends}
use Rattle.psy_flow.specs.CodeLists.{HaveMostsTo}
use Rattle.psy_flow.specs.Listed.{AreSendsAmong, AreSendsUpTo}
use Rattle.psy_flow.specs.Reach.{marked}
use Rattle.psy_flow.proofs.CodeSendCounts.{one_most_code, sent_there, some_sends}
use Rattle.psy_flow.proofs.Judged.{one_more_point}
use Rattle.psy_flow.proofs.MarkedNumbers.{length-marked}
use Rattle.psy_flow.proofs.SendsUpTo.{among_all, among_up, up_among}
use Rattle.psy_flow.proofs.code_sends.code_sends.Goals as goal

pub mark_all_sent-requires : goal.mark_all_sent-requires
mark_all_sent-requires c =
    let places = c.args.places.now in
    λ k d less. c.requires.inside (get_or places k d) ((c.requires.passed.each (get_or places k d)).0 (Contains-get_or places k d less))

pub add_code_sends-requires-clause-goes : goal.add_code_sends-requires-clause-goes
add_code_sends-requires-clause-goes c = (c.requires.nexts.each (get_or c.args.nexts.now c.nexts.to-index 0)).0 (Contains-get_or c.args.nexts.now c.nexts.to-index 0 c.nexts-test.true)

pub add_code_sends-requires-clause-few : goal.add_code_sends-requires-clause-few
add_code_sends-requires-clause-few c =
    let marks : List Bool = replicate c.args.streams false in
    let also = some_sends c.args.instrs.now c.args.places.now in
    let all : c.as_slice.result.now ≡ marked marks also = c.as_slice.ensures ∙ c.mark_all_sent.ensures ∙ ap (λ ms. marked ms also) c.in_ok-sent.ensures in
    rw all (omega (arith, length-marked 0 marks also, length-replicate c.args.streams false, c.requires.few))

pub nexts-preserved : goal.nexts-preserved
nexts-preserved c =
    let instrs = c.args.instrs.now in
    let nexts = c.args.nexts.now in
    let i = c.nexts.to-index in
    let Most = λ (to : ℕ) (stream : ℕ). IsMostCodeSends instrs c.args.from to stream c.args.budget in
    let one : (to stream n m : ℕ) → Most to stream n → Most to stream m → n ≡ m = λ to stream. one_most_code instrs c.args.from to stream c.args.budget in
    let there : (way : SendWay) → Most way.to way.stream way.most × (1 ≤ way.most) → (way.stream < c.args.streams) × Contains nexts way.to =
    λ way (is, some). sent_there instrs c.args.from c.args.budget c.args.streams nexts c.requires.nexts c.requires.named way.to way.stream way.most is some in
    let marks : List Bool = replicate c.args.streams false in
    let also = some_sends instrs c.args.places.now in
    let all : c.as_slice.result.now ≡ marked marks also = c.as_slice.ensures ∙ c.mark_all_sent.ensures ∙ ap (λ ms. marked ms also) c.in_ok-sent.ensures in
    let streams : length c.as_slice.result.now ≡ c.args.streams = omega (arith, ap length all, length-marked 0 marks also, length-replicate c.args.streams false) in
    record {
      count = c.add_code_sends.ensures.count;
      ways = up_among Most one nexts c.args.streams c.requires.nexts.rise there i c.add_code_sends.new.ways c.nexts-test.true
          (subst (λ n. AreSendsUpTo Most (get_or nexts i 0) n c.add_code_sends.new.ways) streams
          (c.in_ok-add_code_sends.ensures.ways (among_up Most one nexts c.args.streams c.requires.nexts.rise there i c.nexts.ways c.nexts-test.true c.nexts.invariant.ways)));
      judged = one_more_point instrs c.args.from c.args.budget c.args.streams nexts i c.nexts-test.true c.nexts.invariant.judged
          (subst (λ n. HaveMostsTo instrs c.args.from c.args.budget n (get_or nexts i 0)) streams c.in_ok-add_code_sends.ensures.judged);
    }

pub returns-clause-sends : goal.returns-clause-sends
returns-clause-sends c =
    let instrs = c.args.instrs.now in
    let nexts = c.args.nexts.now in
    let Most = λ (to : ℕ) (stream : ℕ). IsMostCodeSends instrs c.args.from to stream c.args.budget in
    let one : (to stream n m : ℕ) → Most to stream n → Most to stream m → n ≡ m = λ to stream. one_most_code instrs c.args.from to stream c.args.budget in
    let there : (way : SendWay) → Most way.to way.stream way.most × (1 ≤ way.most) → (way.stream < c.args.streams) × Contains nexts way.to =
    λ way (is, some). sent_there instrs c.args.from c.args.budget c.args.streams nexts c.requires.nexts c.requires.named way.to way.stream way.most is some in
    let (rises, each) = among_all Most one nexts c.args.streams c.requires.nexts.rise there c.nexts.ways
    (subst (λ ns. AreSendsAmong Most ns c.nexts.ways) (take_all c.nexts.to-index nexts c.nexts-test.false) c.nexts.invariant.ways) in
    record { rise = rises; each = each }

pub returns-clause-judged : goal.returns-clause-judged
returns-clause-judged c =
    let instrs = c.args.instrs.now in
    let nexts = c.args.nexts.now in
    subst (HaveMosts instrs c.args.from c.args.budget c.args.streams) (take_all c.nexts.to-index nexts c.nexts-test.false) c.nexts.invariant.judged
