-- Why a picture would be too large.
use Rattle.std.proofs.Common.{◌≡◌, ◌⊎◌, ℕ, ◌≤◌, List, length, ⊎_elim, arith, subst}
use Rattle.psy_draw.specs.declared.room.TheConstants.{MOST_LANES, MOST_ROWS}
use Rattle.psy_draw.specs.Planning.{HasMany, HasManyLanes, Shown}
use Rattle.psy_draw.specs.Rows.{Entry}
use Rattle.psy_draw.specs.Summaries.{HasManyRows}

-- As many lanes and names are too many too.
pub many_as : (a b c d : ℕ) → a ≡ c → b ≡ d → HasMany a b → HasMany c d
many_as a b c d lanes names many = subst (HasMany c) names (subst (λ n. HasMany n b) lanes many)

-- The same rows are too many too.
pub many_rows_as : (a b c d e f : List Entry) → a ≡ d → b ≡ e → c ≡ f → HasManyRows a b c → HasManyRows d e f
many_rows_as a b c d e f p q r many = subst (HasManyRows d e) r (subst (λ rows. HasManyRows d rows c) q (subst (λ rows. HasManyRows rows b c) p many))

-- Numbers that are small are not too many.
pub no_crowd : (lanes : List Shown) (names : List (List ℕ)) (a b c : List Entry) → length lanes ≤ MOST_LANES → length names ≤ MOST_LANES
    → length a ≤ MOST_ROWS → length b ≤ MOST_ROWS → length c ≤ MOST_ROWS → HasManyLanes lanes names ⊎ HasManyRows a b c → ⊥
no_crowd lanes names a b c p q r s t crowd =
    ⊎_elim (λ many. ⊎_elim (λ h. omega (arith, p, h)) (λ h. omega (arith, q, h)) many)
    (λ many. ⊎_elim (λ h. omega (arith, r, h)) (λ rest. ⊎_elim (λ h. omega (arith, s, h)) (λ h. omega (arith, t, h)) rest) many) crowd
