-- What is left of the proof of `picture::drawn`.
use Rattle.std.proofs.Common.{[], map, sym, subst, ◌∙◌}
use Rattle.std.specs.Prelude.{string_bytes}
use Rattle.psy_draw.specs.Gathering.{AreFirst, asks_variable, first_values}
use Rattle.psy_draw.specs.Listing.{Lists}
use Rattle.psy_draw.proofs.picture.drawn.Goals as goal

pub filled-requires-clause-names : goal.filled-requires-clause-names
filled-requires-clause-names c =
    subst (Lists (asks_variable (map string_bytes c.args.asked.names.now)) c.args.notes.now) (sym c.add_all.ensures.names) c.in_ok-outset.ensures.names

pub filled-requires-clause-firsts : goal.filled-requires-clause-firsts
filled-requires-clause-firsts c =
    let counts = c.add_all.ensures.counts [] (c.in_ok-outset.ensures.none c.first_date.result) in
    let is = c.in-Some.ensures.scale (map string_bytes c.args.asked.names.now) c.first_date.result c.args.notes.now counts in
    subst (λ from. AreFirst (first_values from c.args.notes.now) c.add_all.new.self.firsts) (c.first_date.ensures ∙ sym is.from) counts.firsts

pub returns-in_ok-filled-in-Some-clause-picture : goal.returns-in_ok-filled-in-Some-clause-picture
returns-in_ok-filled-in-Some-clause-picture c =
    let counts = c.add_all.ensures.counts [] (c.in_ok-outset.ensures.none c.first_date.result) in
    c.in_ok-filled-in-Some.ensures.picture c.args.window (c.in-Some.ensures.scale (map string_bytes c.args.asked.names.now) c.first_date.result c.args.notes.now counts)

pub returns-in_ok-filled-in-Some-clause-dated : goal.returns-in_ok-filled-in-Some-clause-dated
returns-in_ok-filled-in-Some-clause-dated c =
    let counts = c.add_all.ensures.counts [] (c.in_ok-outset.ensures.none c.first_date.result) in
    let is = c.in-Some.ensures.scale (map string_bytes c.args.asked.names.now) c.first_date.result c.args.notes.now counts in
    is.dated

pub returns-in-None-clause-empty : goal.returns-in-None-clause-empty
returns-in-None-clause-empty c = λ e.
    let counts = c.add_all.ensures.counts [] (c.in_ok-outset.ensures.none c.first_date.result) in
    c.scale.ensures.none c.in-None.is (map string_bytes c.args.asked.names.now) c.first_date.result c.args.notes.now counts
