-- What is left of the proof of `clean::psyc_over_clean`.
use Rattle.std.proofs.Common.{refl, inl, inr, arith}
use Rattle.psy_door.specs.Faults.{Rose}
use Rattle.psy_door.specs.Files.{files_of}
use Rattle.psy_run.proofs.clean.psyc_over_clean.Goals as goal

-- A count that is always 0 never rises.
never_rose : Rose 0 0 → ⊥
never_rose rose = absurd (omega (arith, rose))

pub returns-clause-complete : goal.returns-clause-complete
returns-clause-complete c status text answers = elim (c.psyc.ensures.complete (files_of c.args.shelf.now.files) status text refl answers never_rose never_rose) [
  | inl given ↦ inl given
  | inr eight ↦ inr (eight, c.psyc.ensures.memory eight)
]

pub returns-clause-never : goal.returns-clause-never
returns-clause-never c = (λ three. never_rose (c.psyc.ensures.read three).1.rose, λ four. never_rose (c.psyc.ensures.write four))
