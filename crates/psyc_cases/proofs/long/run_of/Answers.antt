-- What is left of the proof of `long::run_of`.
use Rattle.std.proofs.Common.{◌≡◌, refl, subst, sym}
use Rattle.psy_kernel.specs.Progress.{Progress, began}
use Rattle.psyc_cases.proofs.long.run_of.Goals as goal

pub run_loop-requires : goal.run_loop-requires
run_loop-requires c = record { began = subst (λ (k : Progress). k ≡ began k.plan k.inputs k.script k.opening) (sym c.requires.booted) refl }
