-- Why there is no answer, step by step.
use Rattle.std.proofs.Common.{◌≡◌, sym, subst, Result, Ok, Err, IfErr, IfOk}
use Rattle.std.specs.Result.{IsErrAnd}
use Rattle.psy_plan.specs.declared.refusal.Refusal.{Refusal}
use Rattle.psy_plan.specs.declared.refusal.Stop.{Stop}
use Rattle.psy_plan.specs.declared.refusal.Stop.TheVariants as stop
use Rattle.psy_plan.specs.Courses.{Stops}

module _ (Is Is' : Refusal → Type 0) (by : (refusal : Refusal) → Is refusal → Is' refusal) where
  -- What stops a step for one cause stops it for another that follows.
  pub stops_by : (s : Stop) → Stops Is s → Stops Is' s
  stops_by (stop.Refused refusal) h = by refusal h
  stops_by stop.Memory h = h

  -- What `?` hands on
  pub exit_by : {X : Type 0} (s : Stop) (result : Result X Stop) → IsErrAnd result (λ handed. handed ≡ s) → Stops Is s → IfErr result (Stops Is')
  exit_by s (Ok x) is h = absurd is
  exit_by s (Err handed) is h = subst (Stops Is') (sym is) (stops_by s h)

  -- The same of an answer
  pub stopped_by : {X : Type 0} (result : Result X Stop) → IfErr result (Stops Is) → IfErr result (Stops Is')
  stopped_by (Ok x) h = tt
  stopped_by (Err s) h = stops_by s h

-- What is given by one reading is given by another that follows.
pub given_by : {X E : Type 0} (Is Is' : X → Type 0) → ((x : X) → Is x → Is' x) → (result : Result X E) → IfOk result Is → IfOk result Is'
given_by Is Is' by (Ok x) h = by x h
given_by Is Is' by (Err e) h = tt
