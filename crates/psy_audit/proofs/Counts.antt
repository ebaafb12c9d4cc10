-- How many dates of a clock stand up to a time.
use Rattle.std.proofs.Common.{◌≡◌, ◌↔◌, ℕ, ◌+◌, ◌-◌, ◌*◌, ◌/◌, ◌%◌, ◌<◌, ◌≤◌, inl, inr, arith}
use Rattle.std.proofs.lemmas.Bool.{cases_lt}

module _ (first period t n : ℕ) (each : (i : ℕ) → (first + i * period ≤ t ↔ i < n)) where
  -- None, before the first
  pub counted_none : t < first → 0 ≡ n
  counted_none less = elim (cases_lt 0 n) [
    | inl some ↦ absurd (omega (arith, (each 0).1 some, less))
    | inr none ↦ omega (arith, none)
  ]

  -- The first, and one more for each period behind it
  pub counted : 0 < period → first ≤ t → (t - first) / period + 1 ≡ n
  counted some behind =
      let q = (t - first) / period in
      let whole : period * q + (t - first) % period ≡ t - first = omega (arith, some) in
      let less : (t - first) % period < period = omega (arith, some) in
      let low : first + q * period ≤ t = omega (arith, whole, behind) in
      let there : q < n = (each q).0 low in
      elim (cases_lt (q + 1) n) [
        | inl more ↦ (let high : first + (q + 1) * period ≤ t = (each (q + 1)).1 more in absurd (omega (arith, whole, less, high, behind)))
        | inr last ↦ omega (arith, there, last)
      ]
