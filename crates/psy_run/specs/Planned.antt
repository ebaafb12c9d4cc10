-- What psyc plans for a program.
use Rattle.std.specs.Prelude.{◌≡◌}
use Rattle.psy_dates.specs.declared.plan.Plan.{Plan}
use Rattle.psy_dates.specs.Plans.{IsFeasibleFor, IsPlan}
use Rattle.psy_gen.specs.Emission.{code_of}
use Rattle.psy_history.specs.Compiled.{IsCompiled}
use Rattle.psy_meaning.specs.BufferSizes.{AreSizes}
use Rattle.psy_meaning.specs.KnownWays.{OfText}

-- A plan by the statements of its program: its code acts as they do, its points are followed as theirs, its buffers have the sizes that they ask
-- for, and the demand is supplied.
pub record IsStatedPlan (plan : Plan) : Type 0 where
  pub compiled : IsCompiled plan.unit plan.code plan.nexts
  pub buffers : AreSizes plan.unit (OfText plan.unit) plan.nexts plan.sizes
  pub supplied : IsFeasibleFor plan

-- Such a plan by the code that the compiler makes, and that it fits: a kernel runs it, and what it writes is what the statements mean.
pub record IsPlanned (plan : Plan) : Type 0 where
  pub made : plan.code ≡ code_of plan.unit
  pub stated : IsStatedPlan plan
  pub fits : IsPlan plan
