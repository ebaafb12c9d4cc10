-- What each loop of `few::Few::add_all` keeps.
use Rattle.std.proofs.Common.{◌≡◌, fold, take}
use Rattle.psy_draw.specs.Columns.{with_other}
use Rattle.psy_draw.proofs.few.Few.add_all.Given as goal

-- The different values so far
abbrev pub invariant-loop-value : goal.invariant-loop-value
invariant-loop-value l = take l.self.count l.self.seen ≡ fold with_other (take l.initial.self.count l.initial.self.seen) (take l.value-index l.values)
