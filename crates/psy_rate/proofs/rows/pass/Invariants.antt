-- What each loop of `rows::pass` keeps.
use Rattle.std.proofs.Common.{◌≡◌, ℕ, length}
use Rattle.psy_rate.specs.Rows.{IsRow, HasGone}
use Rattle.psy_rate.proofs.rows.pass.Given as goal

abbrev pub invariant-loop-seen : goal.invariant-loop-seen
invariant-loop-seen l = ((count : ℕ) → IsRow l.edges 0 l.rate count l.initial.row → IsRow l.edges l.seen l.rate count l.row) × HasGone l.edges l.seen l.rate l.initial.row l.row l.last × (length l.chosen ≡ length l.row)
