-- The working copies that are kept, one after the other.
use Rattle.std.proofs.Common.{◌≡◌, ◌≢◌, refl, sym, ap, ◌∙◌, inl, inr, arith}
use Rattle.std.specs.Prelude.{ℕ, zero, suc, ◌+◌, ◌<◌, List, [], ◌∷◌, length, Some, slice_get, slice_set, ℤ}
use Rattle.std.proofs.lemmas.Bool.{cases_eq}
use Rattle.psy_code.specs.declared.code.CopyInit.{CopyInit}
use Rattle.psy_code.specs.Execution.{Copy, copy_of}
use Rattle.psy_dates.proofs.lemmas.Sets.{get_set_other, get_set_same}

-- Those of the first so many are the machine's, and what isn't listed is as it was.
pub record AreKept (listed : List CopyInit) (copies : List Copy) (before now : List ℤ) (n : ℕ) : Type 0 where
  pub all : length now ≡ length before
  pub own : (place : ℕ) (c : CopyInit) (value : ℤ) → place < n → slice_get listed place ≡ Some c → slice_get now c.variable ≡ Some value → copy_of c.variable copies ≡ Some value
  pub others : (variable : ℕ) → ((place : ℕ) (c : CopyInit) → slice_get listed place ≡ Some c → c.variable ≢ variable) → slice_get now variable ≡ slice_get before variable

module _ (own : List CopyInit) (copies : List Copy) (before : List ℤ) where
  pub none_kept : AreKept own copies before before 0
  none_kept = record {
    all = refl;
    own = λ place c value less. absurd (omega (arith, less));
    others = λ variable unlisted. refl;
  }

  pub one_kept : (now : List ℤ) (n : ℕ) (c : CopyInit) (value : ℤ) → slice_get own n ≡ Some c → copy_of c.variable copies ≡ Some value → length (slice_set now c.variable value) ≡ length now
      → AreKept own copies before now n → AreKept own copies before (slice_set now c.variable value) (n + 1)
  one_kept now n c value at copy same h = record {
    all = same ∙ h.all;
    own = λ place d x less is here. elim (cases_eq d.variable c.variable) [
      | inl e ↦ (let x_is : x ≡ value = get_set_same now c.variable value x (ap (slice_get (slice_set now c.variable value)) (sym e) ∙ here) in ap (λ k. copy_of k copies) e ∙ copy ∙ ap Some (sym x_is))
      | inr other ↦ elim (cases_eq place n) [
        | inl last ↦ absurd (other (let both : Some d ≡ Some c = sym is ∙ ap (slice_get own) last ∙ at in let d_is : d ≡ c = cc in ap (λ (y : CopyInit). y.variable) d_is))
        | inr earlier ↦ h.own place d x (let low : place < n = grind (arith, earlier, less) in low) is (sym (get_set_other now c.variable d.variable value other) ∙ here)
      ]
    ];
    others = λ variable unlisted. get_set_other now c.variable variable value (λ e. unlisted n c at (sym e)) ∙ h.others variable unlisted;
  }

pub copy_there : (own : List CopyInit) (place : ℕ) → place < length own → (c : CopyInit) × (slice_get own place ≡ Some c)
copy_there [] place l = absurd (omega (arith, l))
copy_there (c ∷ own) zero l = (c, refl)
copy_there (c ∷ own) (suc place) l = copy_there own place (omega (arith, l))
