-- What is left of the proof of `saving::save`.
use Rattle.std.proofs.Common.{arith, ℕ, Result, sym, ◌∙◌, ap}
use Rattle.std.proofs.lemmas.Result.{err_from_is_err_and}
use Rattle.std.specs.Prelude.{◌≡◌, Err}
use Rattle.psy_dates.specs.declared.opening.Opening.{Opening}
use Rattle.psy_dates.specs.declared.plan.Plan.{Plan}
use Rattle.psy_kernel.specs.declared.fault.FreezeFault.{FreezeFault}
use Rattle.psy_kernel.specs.declared.fault.FreezeFault.TheVariants as freeze
use Rattle.psy_save.specs.declared.fault.SaveFault.{SaveFault}
use Rattle.psy_save.specs.declared.fault.SaveFault.TheVariants as save
use Rattle.psy_save.specs.Faults.{by_freeze}
use Rattle.psy_save.proofs.saving.save.Goals as goal

fault_is : (fault : FreezeFault) (agent : ℕ) → by_freeze fault ≡ save.Busy agent → fault ≡ freeze.Busy agent
fault_is (freeze.Busy n) agent e = let same : save.Busy n ≡ save.Busy agent = e in let is : n ≡ agent = cc in ap freeze.Busy is
fault_is freeze.Memory agent e = absurd (let same : save.Memory ≡ save.Busy agent = e in cc)

err_is : {A : Type 0} (one other : SaveFault) → ◌≡◌ {A = Result A SaveFault} (Err one) (Err other) → one ≡ other
err_is one other e = cc

abbrev failed : FreezeFault → Result Opening FreezeFault
failed fault = Err fault

pub returns-in_err-state-clause-busy : goal.returns-in_err-state-clause-busy
returns-in_err-state-clause-busy c agent is =
    let (given, told, of) = err_from_is_err_and c.from_residual.result c.from_residual.ensures.1 in
    let of_it : given ≡ by_freeze c.in_err-state.field-0.0 = of in
    let fault = fault_is c.in_err-state.field-0.0 agent (sym of_it ∙ err_is given (save.Busy agent) (sym told ∙ is)) in
    c.freeze.ensures.busy agent (c.in_err-state.was ∙ ap (λ (f : FreezeFault). failed f) fault)

pub spell-requires : goal.spell-requires
spell-requires c =
    let last : c.plan.result.now.until ≡ c.args.kernel.now.plan.until = ap (λ (p : Plan). p.until) c.plan.ensures.plan in
    record { date = omega (arith, c.in_ok-state.ensures.shape.near, c.last_date-until.ensures, c.last_date-until.type_inv, last) }
