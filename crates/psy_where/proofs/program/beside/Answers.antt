-- What is left of the proof of `program::beside`.
use Rattle.std.proofs.Common.{Result, Ok, Err, ap, inr}
use Rattle.std.proofs.lemmas.Result.{err_from_is_err_and}
use Rattle.psy_where.specs.declared.fault.WhereFault.{WhereFault}
use Rattle.psy_where.specs.declared.fault.WhereFault.TheVariants.{NoRefusal}
use Rattle.psy_where.proofs.TokenStarts.{not_beyond}
use Rattle.psy_where.proofs.program.beside.Goals as goal

abbrev fault_in : {A : Type 0} → Result A WhereFault → WhereFault
fault_in (Ok a) = NoRefusal
fault_in (Err fault) = fault

pub returns-in-Err-clause-refusal : goal.returns-in-Err-clause-refusal
returns-in-Err-clause-refusal c is = c.in-Err.ensures.refusal (ap Err (ap fault_in is))

pub returns-in_err-tokens-clause-beyond : goal.returns-in_err-tokens-clause-beyond
returns-in_err-tokens-clause-beyond c beyond =
    let answer = c.from_residual-in_err-tokens.result in
    let p = err_from_is_err_and answer c.from_residual-in_err-tokens.ensures.1 in
    inr (λ tokens are. not_beyond answer p.0 c.in_err-tokens.field-0.0 p.1 p.2 (c.in_err-tokens.ensures.all_tokens tokens are) beyond)
