-- What is kept of the lines before one.
use Rattle.std.specs.Prelude.{◌≡◌, map, length, Some}
use Rattle.std.specs.List.{list_any, range_with_len}
use Rattle.psy_history.specs.Processors.{processors}
use Rattle.psy_tree.specs.declared.unit.Unit.{Unit as Whole}
use Rattle.psy_audit.specs.declared.before.Before.{Before}
use Rattle.psy_audit.specs.declared.said.Said.{Said}
use Rattle.psy_audit.specs.Faults.{comes_behind}
use Rattle.psy_audit.specs.Traces.{Lines, acts_of, is_end, last_of, publications_of, segments}
use Rattle.psy_audit.specs.Turns.{past_on}

-- It stands for the lines before: whether one of them ends the trace, what comes behind the last of them, by agent its last action, by variable the
-- number of its publications, by processor the cycle behind its last stretch, and all stretches.
pub record StandsFor (unit : Whole) (before : Lines) (b : Before) : Type 0 where
  pub ended : b.ended ≡ list_any is_end before
  pub last : (said : Said) → comes_behind (Some b.last) said ≡ comes_behind (last_of before) said
  pub acts : b.acts ≡ map (λ agent. last_of (acts_of agent before)) (range_with_len 0 (length unit.agents))
  pub published : b.published ≡ map (λ variable. length (publications_of variable before)) (range_with_len 0 (length unit.variables))
  pub past : b.past ≡ map (λ processor. past_on processor before) (range_with_len 0 (processors unit))
  pub segments : b.segments ≡ segments before
