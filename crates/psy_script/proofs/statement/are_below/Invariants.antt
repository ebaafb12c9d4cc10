-- What each loop of `statement::are_below` keeps.
use Rattle.std.proofs.Common.{◌≡◌, length, nat_lt}
use Rattle.std.specs.List.{list_all}
use Rattle.psy_script.specs.Entries.{numbers_in}
use Rattle.psy_script.proofs.statement.are_below.Given as goal

abbrev pub invariant-loop-cut : goal.invariant-loop-cut
invariant-loop-cut l = list_all (λ n. nat_lt n l.bound) (numbers_in l.fn.numbers) ≡ list_all (λ n. nat_lt n l.bound) (numbers_in l.rest)

abbrev pub decreases-loop-cut : goal.decreases-loop-cut
decreases-loop-cut l = length l.rest
