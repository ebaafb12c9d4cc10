-- What is left of the proof of `placed::sorted_stalls`.
use Rattle.std.proofs.Common.{◌≡◌, subst, map, rules}
use Rattle.std.specs.List.{AllPairs}
use Rattle.psy_history.specs.Scripts.{StallBefore}
use Rattle.psy_script.specs.Entries.{stall_at}
use Rattle.psy_script.proofs.PutEntries.{stalls_rise}
use Rattle.psy_script.proofs.placed.sorted_stalls.Goals as goal

pub returns-clause-rise : goal.returns-clause-rise
returns-clause-rise c =
    let all : map stall_at c.args.stalls.entries ≡ c.loop-place.sorted = search (rules) in
    subst (AllPairs StallBefore) all (stalls_rise c.args.stalls.entries (c.into_iter-place-iterator.ensures.into_iter_gives).5)
