-- What is left of the proof of `unlisted::first_unlisted`.
use Rattle.std.proofs.Common.{ℕ, ◌+◌, option_map, sym, ap, ◌∙◌, arith}
use Rattle.psy_draw.specs.Tables.{is_among}
use Rattle.psy_draw.proofs.Failing.{failing_found, failing_never}
use Rattle.psy_draw.proofs.unlisted.first_unlisted.Goals as goal

pub returns-then-not-is_among : goal.returns-then-not-is_among
returns-then-not-is_among c =
    sym (ap (option_map (λ (k : ℕ). k + 1)) (failing_found (is_among c.args.listed.now) c.args.notes.now c.loop-index.index _ c.loop-index-test.true c.loop-index.invariant (sym c.is_among.ensures ∙ c.if-not-is_among.true)))

pub returns : goal.returns
returns c = sym (ap (option_map (λ (k : ℕ). k + 1)) (failing_never (is_among c.args.listed.now) c.args.notes.now (λ k d under. c.loop-index.invariant k d (omega (arith, under, c.loop-index-test.false)))))
