-- What is left of the proof of `tally::Tally::of`.
use Rattle.std.proofs.Common.{◌≡◌, ◌∙◌, sym, subst, length}
use Rattle.std.proofs.lemmas.List.{with_items_is}
use Rattle.psy_assert.specs.Tallies.{IsSettling}
use Rattle.psy_assert.proofs.tally.Tally.of.Goals as goal

pub returns : goal.returns
returns c =
    let cuts = c.in_ok-cuts.cuts.items in
    let size : length c.sum_up.new.sums ≡ c.in_ok-sums.sums.len = c.sum_up.auto.sums ∙ c.as_mut_slice.ensures.len in
    record {
      order = c.in_ok-cuts.ensures;
      sums =
          subst (IsSettling c.args.by_value cuts c.args.notes.now (length cuts)) (sym (with_items_is c.in_ok-sums.sums c.sum_up.new.sums size))
          (rw c.as_slice.ensures.value at c.sum_up.ensures);
    }

pub sum_up-requires-clause-sums : goal.sum_up-requires-clause-sums
sum_up-requires-clause-sums c =
    rw c.as_mut_slice.ensures.value (c.in_ok-sums.ensures c.args.by_value c.as_slice.result.now (c.as_slice.ensures.len ∙ sym c.len.ensures))
