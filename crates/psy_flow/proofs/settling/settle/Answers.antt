-- What is left of the proof of `settling::settle`.
use Rattle.std.proofs.Common.{get_or, arith}
use Rattle.std.proofs.lemmas.List.Elements.{Contains-get_or}
use Rattle.psy_flow.proofs.PassRows.{empty_found, empty_small}
use Rattle.psy_flow.proofs.Rounds.{beyond}
use Rattle.psy_flow.proofs.WorthCells.{tops}
use Rattle.psy_flow.proofs.settling.settle.Goals as goal

pub empty-requires-clause-inside : goal.empty-requires-clause-inside
empty-requires-clause-inside c =
    let places = c.args.places.now in
    λ k d less. c.requires.inside (get_or places k d) ((c.requires.passed.each (get_or places k d)).0 (Contains-get_or places k d less))

pub count-most-requires : goal.count-most-requires
count-most-requires c =
    let places = c.args.places.now in
    λ k d less. c.requires.inside (get_or places k d) ((c.requires.passed.each (get_or places k d)).0 (Contains-get_or places k d less))

pub passes-init : goal.passes-init
passes-init c = record {
  count = c.empty.ensures.count;
  found = empty_found c.args.instrs.now c.args.quest c.args.places.now _ c.empty.ensures.empty;
  small = empty_small _ c.args.places.now _ c.empty.ensures.empty;
}

pub returns-in-Settled-clause-tops : goal.returns-in-Settled-clause-tops
returns-in-Settled-clause-tops c e = tops c.args.instrs.now c.args.quest c.args.places.now c.args.from c.requires.passed c.pass.new.row c.in-Settled.ensures.course c.in-Settled.ensures.found

pub returns-in-Beyond-clause-endless : goal.returns-in-Beyond-clause-endless
returns-in-Beyond-clause-endless c e =
    let (place, n, has, way, more) = c.in-Beyond.ensures.course in
    beyond c.args.instrs.now c.args.quest c.args.from place n c.args.places.now c.requires.passed has way (omega (arith, more, c.count-most.ensures.count))
