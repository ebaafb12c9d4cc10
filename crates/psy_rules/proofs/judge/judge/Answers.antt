-- What is left of the proof of `judge::judge`.
use Rattle.std.proofs.Common.{◌≡◌, ◌+◌, ◌<◌, ◌≤◌, false, take, length, get_or, refl, sym, ap, ◌∙◌, arith}
use Rattle.std.specs.Prelude.{is_some}
use Rattle.std.proofs.lemmas.Option.{slice_get_read}
use Rattle.psy_tree.specs.Scope.{first_named}
use Rattle.psy_tree.specs.Places.{item_places}
use Rattle.psy_tree.specs.Rules.{sound}
use Rattle.psy_rules.specs.Tables.{is_inner}
use Rattle.psy_rules.specs.Judged.{judged_sited}
use Rattle.psy_tree.proofs.lemmas.Clocks.{clocks_more, lawful_more, no_clocks}
use Rattle.psy_rules.proofs.Program.{least_more, least_all}
use Rattle.psy_rules.proofs.LeastFaults.{best_of}
use Rattle.psy_rules.proofs.Twice.{clock_same}
use Rattle.psy_rules.proofs.judge.judge.Goals as goal

pub loop-at-init : goal.loop-at-init
loop-at-init c = record {
  least = c.judge_range.ensures (record { items = c.args.raw.now.items; at = 0; inside = false });
  clocks = c.new-clocks.ensures.items;
  lawful = no_clocks c.new-clocks.result.items c.new-clocks.ensures.items;
  inner = λ q. ap (λ t. is_some (first_named q t)) c.new-inner.ensures;
}

pub judge_item-requires-clause-own : goal.judge_item-requires-clause-own
judge_item-requires-clause-own c =
    slice_get_read c.as_slice-items.result.now (length c.as_slice-items.result.now) c.loop-at.at c.index-items-at.result refl c.loop-at-test.true c.index-items-at.is

pub loop-at-preserved : goal.loop-at-preserved
loop-at-preserved c =
    let within : c.loop-at.at < length c.args.raw.now.items = omega (arith, ap length c.as_slice-items.ensures) in
    let here : get_or c.args.raw.now.items c.loop-at.at c.index-items-at.result ≡ c.index-items-at.result =
    sym (c.index-items-at.is ∙ ap (λ xs. get_or xs c.loop-at.at c.index-items-at.result) c.as_slice-items.ensures) in
    record {
      least = least_more c.args.raw.now c.loop-at.at c.index-items-at.result c.loop-at.least.fault c.judge_item.new.least.fault within here c.loop-at.invariant.least
          (c.in_ok-judge_item.ensures.least ∙ ap (λ xs. judged_sited (item_places xs c.loop-at.at c.index-items-at.result) c.loop-at.least.fault) c.as_slice-items.ensures);
      clocks = clocks_more c.args.raw.now.items c.loop-at.at c.index-items-at.result c.loop-at.clocks.items c.push.new.self.items c.sound-clock.result within here c.loop-at.invariant.clocks
          c.in_ok-push.ensures.items
          (c.sound-clock.ensures.value ∙ clock_same c.args.raw.now.items c.args.globals.now c.as_slice-in-loop-at.result.now c.index-items-at.result c.requires
          ∙ ap (λ ks. sound c.args.raw.now.items ks c.index-items-at.result) c.as_slice-in-loop-at.ensures.value);
      lawful = lawful_more c.loop-at.clocks.items c.push.new.self.items c.sound-clock.result c.in_ok-push.ensures.items c.loop-at.invariant.lawful c.sound-clock.ensures.lawful;
      inner = λ q. c.in_ok-judge_item.ensures.inner q ∙ ap (λ xs. is_inner q (take (c.loop-at.at + 1) xs)) c.as_slice-items.ensures;
    }

pub returns-clause-least : goal.returns-clause-least
returns-clause-least c =
    let past : length c.args.raw.now.items ≤ c.loop-at.at = omega (arith, ap length c.as_slice-items.ensures) in
    best_of c.args.raw.now c.loop-at.least.fault (c.loop-at.invariant.least ∙ least_all c.args.raw.now c.loop-at.at past)
