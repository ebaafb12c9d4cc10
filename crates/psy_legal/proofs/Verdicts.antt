-- How an action came to its verdict.
use Rattle.std.proofs.Common.{◌≡◌, ℕ, inl, inr}
use Rattle.std.specs.Prelude.{nat_lt}
use Rattle.std.proofs.lemmas.Bool.{cases_Bool}
use Rattle.psy_history.specs.Actions.{Done, Overran, verdict_by, verdict_of}
use Rattle.psy_history.specs.Executors.{Fate, Reached, Unfinished}
use Rattle.psy_history.specs.Executors as fate
use Rattle.psy_meaning.specs.Timing.{Timing, end_date}

-- One that is done reached the point, whose date is its end
done_by : (times : Timing) (start : ℕ) (f : Fate) (p e : ℕ) → verdict_by times start f ≡ Done p e → (f ≡ Reached p) × (e ≡ end_date times start p)
done_by times start (Reached q) p e h = (cc, cc)
done_by times start (fate.Trapped kind) p e h = absurd cc
done_by times start Unfinished p e h = absurd cc

pub done_of : (times : Timing) (start budget charge : ℕ) (f : Fate) (p e : ℕ) → verdict_of times start budget charge f ≡ Done p e → (f ≡ Reached p) × (e ≡ end_date times start p)
done_of times start budget charge f p e h = elim (cases_Bool (nat_lt budget charge)) [
  | inl t ↦ (let over : Overran ≡ Done p e = rw t at h in absurd cc)
  | inr t ↦ done_by times start f p e (rw t at h)
]
