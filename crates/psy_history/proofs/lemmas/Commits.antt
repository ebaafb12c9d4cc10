-- What an action commits before it ends.
use Rattle.std.proofs.Common.{◌≡◌, ℕ, ◌-◌, ◌<◌, refl}
use Rattle.std.specs.Prelude.{nat_le, ℤ}
use Rattle.std.proofs.lemmas.Bool.{cond-false, lt-leb}
use Rattle.psy_history.specs.Actions.{Verdict, Done, Trapped, Overran}
use Rattle.psy_history.specs.Executors.{Carried}
use Rattle.psy_history.specs.Visible.{commit}

-- An action that ends after a date commits nothing by it
pub not_yet : (variable date : ℕ) (carried : Carried) (earlier : ℤ) (verdict : Verdict) → ((point end : ℕ) → verdict ≡ Done point end → date < end) → commit variable date carried earlier verdict ≡ earlier
not_yet variable date carried earlier (Done point end) late = cond-false (nat_le end date) _ _ (lt-leb end date (late point end refl))
not_yet variable date carried earlier (Trapped kind) late = refl
not_yet variable date carried earlier Overran late = refl
