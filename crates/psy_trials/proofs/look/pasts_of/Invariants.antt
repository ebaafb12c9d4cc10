-- What each loop of `look::pasts_of` keeps.
use Rattle.std.proofs.Common.{◌≡◌, take, map, length}
use Rattle.std.specs.List.{All}
use Rattle.psy_meaning.specs.Alike.{AllFit}
use Rattle.psy_trials.proofs.look.pasts_of.Given as goal

abbrev pub invariant-loop-variable : goal.invariant-loop-variable
invariant-loop-variable l = record { depths : map length l.pasts ≡ map (λ v. v.depth) (take l.variable-index l.variables); fit : All AllFit l.pasts }
