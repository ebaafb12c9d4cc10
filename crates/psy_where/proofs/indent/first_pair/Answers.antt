-- What is left of the proof of `indent::first_pair`.
use Rattle.std.proofs.Common.{◌≡◌, ◌-◌, [], length, take, refl, sym, ap, ◌∙◌, arith}
use Rattle.psy_expect.specs.declared.brace.Brace.TheVariants.{Opens, Closes, Neither}
use Rattle.psy_where.specs.Indents.{first_pair, line_from}
use Rattle.psy_spot.specs.Spots.{before_at}
use Rattle.psy_where.proofs.PairsFound.{found-is, kept-closes, kept-neither, kept-opens, left-more, none-is, pair-end, pair-is, popped, rises, rises-more}
use Rattle.psy_where.proofs.indent.first_pair.Goals as goal
use Rattle.psy_where.proofs.indent.first_pair.Goals.{in-Opens+in_ok-push-in-Opens, in-Closes+else-is_some, in-Neither}

pub each-init : goal.each-init
each-init c =
    let first : 0 ≡ 0 - length (before_at c.args.text.now 0) = omega arith in
    record {
      within = omega arith;
      seen = omega arith;
      rises = rises c.args.text.now c.args.tokens.now c.args.many c.requires.tokens;
      line = c.line_from-line.ensures ∙ ap (line_from c.args.text.now) first;
      openings = c.new-openings.ensures.items;
      left = refl;
    }

pub returns-then-is_some : goal.returns-then-is_some
returns-then-is_some c =
    let text = c.args.text.now in
    let front = take c.args.many c.args.tokens.now in
    let t = c.index-front-at.result in
    let kind = sym c.in-Closes.is ∙ c.brace_of.ensures in
    let taken =
    popped c.each.openings.items c.pop.new.self.items c.pop.result c.pop.ensures.items
    (λ none. let few = rw none at c.pop.ensures.cases in omega (arith, c.each.openings.ok.0, few.0)) in
    let by =
    sym (pair-is text (take c.each.at front) c.each.openings.items c.line_behind-line.result t.place c.pop.result c.line_behind-line.ensures
    c.each.invariant.openings taken.0)
    ∙ sym c.pair_of-pair.ensures in
    found-is text front c.each.at t (first_pair text [] front) c.pair_of-pair.result c.each-test.true c.index-front-at.is kind by
    (sym c.is_some.ensures ∙ c.if-is_some.true) c.each.invariant.left

pub each-preserved : goal.each-preserved
each-preserved c =
    let text = c.args.text.now in
    let front = take c.args.many c.args.tokens.now in
    let at = c.each.at in
    let t = c.index-front-at.result in
    let is = c.index-front-at.is in
    let items = c.each.openings.items in
    let are = c.each.invariant.openings in
    let further = rises-more front c.each.at c.each.seen (length c.args.text.now) t c.each-test.true c.index-front-at.is c.each.invariant.rises in
    record {
      within = omega (arith, c.each-test.true);
      seen = further.1;
      rises = further.2;
      line = c.line_behind-line.ensures;
      openings =
          elim c.match-brace_of.branch [
            | in-Opens+in_ok-push-in-Opens w ↦
                rw w.openings-is (w.in_ok-push-in-Opens.ensures.items
                ∙ kept-opens text front at t items c.line_behind-line.result c.each-test.true is (sym w.in-Opens.is ∙ c.brace_of.ensures)
                c.line_behind-line.ensures are)
            | in-Closes+else-is_some w ↦
                let taken =
                popped items w.pop.new.self.items w.pop.result w.pop.ensures.items
                (λ none. let few = rw none at w.pop.ensures.cases in omega (arith, c.each.openings.ok.0, few.0)) in
                rw w.openings-is (kept-closes text front at t items _ c.each-test.true is (sym w.in-Closes.is ∙ c.brace_of.ensures) are taken.1)
            | in-Neither w ↦ rw w.openings-is (kept-neither text front at t items c.each-test.true is (sym w.in-Neither.is ∙ c.brace_of.ensures) are)
          ];
      left =
          elim c.match-brace_of.branch [
            | in-Opens+in_ok-push-in-Opens w ↦
                left-more text front at t Opens _ c.each-test.true is (sym w.in-Opens.is ∙ c.brace_of.ensures) refl c.each.invariant.left
            | in-Closes+else-is_some w ↦
                let taken =
                popped items w.pop.new.self.items w.pop.result w.pop.ensures.items
                (λ none. let few = rw none at w.pop.ensures.cases in omega (arith, c.each.openings.ok.0, few.0)) in
                let by =
                sym (pair-is text (take at front) items c.line_behind-line.result t.place w.pop.result c.line_behind-line.ensures are taken.0)
                ∙ sym w.pair_of-pair.ensures in
                let none = none-is w.pair_of-pair.result (sym w.is_some.ensures ∙ w.if-is_some.false) in
                left-more text front at t Closes _ c.each-test.true is (sym w.in-Closes.is ∙ c.brace_of.ensures) (by ∙ none) c.each.invariant.left
            | in-Neither w ↦ left-more text front at t Neither _ c.each-test.true is (sym w.in-Neither.is ∙ c.brace_of.ensures) refl c.each.invariant.left
          ];
    }

pub returns : goal.returns
returns c =
    let front = take c.args.many c.args.tokens.now in
    sym (pair-end c.args.text.now front (take c.each.at front) c.each.at (omega (arith, c.each-test.false))) ∙ c.each.invariant.left
