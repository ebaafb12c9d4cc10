-- What each loop of `tail::Tail::extend` keeps.
use Rattle.std.proofs.Common.{ℕ, List, take}
use Rattle.std.specs.List.{fold}
use Rattle.psy_last.specs.Lasts.{with_byte}
use Rattle.psy_last.specs.Tails.{IsTail}
use Rattle.psy_last.proofs.tail.Tail.extend.Given as goal

abbrev pub invariant-each : goal.invariant-each
invariant-each l = (line : List ℕ) → IsTail l.fn.self line → IsTail l.self (fold with_byte line (take l.byte-index l.bytes))
