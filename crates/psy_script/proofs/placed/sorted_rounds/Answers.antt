-- What is left of the proof of `placed::sorted_rounds`.
use Rattle.std.proofs.Common.{◌≡◌, ◌<◌, subst, map, rules}
use Rattle.std.specs.List.{AllPairs}
use Rattle.psy_history.specs.declared.told.Round.{Round}
use Rattle.psy_script.specs.Entries.{round_from}
use Rattle.psy_script.proofs.PutEntries.{rounds_rise}
use Rattle.psy_script.proofs.placed.sorted_rounds.Goals as goal

pub returns-clause-rise : goal.returns-clause-rise
returns-clause-rise c =
    let all : map round_from c.args.rounds.entries ≡ c.loop-cycle.sorted = search (rules) in
    subst (AllPairs (λ (r q : Round). r.cycle < q.cycle)) all (rounds_rise c.args.rounds.entries (c.into_iter-cycle-iterator.ensures.into_iter_gives).5)
