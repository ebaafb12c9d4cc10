-- What a variable published at a date stays so, whatever starts at later ones, and is found from each date that it is looked at from.
use Rattle.std.proofs.Common.{◌≡◌, ℕ, zero, suc, ◌≤◌, Option, Some, None, refl, ap, ◌∙◌, inl, inr, arith}
use Rattle.std.specs.Prelude.{nat_le, if◌then◌else◌}
use Rattle.psy_history.proofs.lemmas.Commits.{not_yet}
use Rattle.psy_clock.specs.Dates.{date}
use Rattle.psy_history.specs.Actions.{Action, System, variable_of}
use Rattle.psy_history.specs.History.{action_of, history}
use Rattle.psy_history.specs.Visible.{committed_in, published, published_before, published_behind, published_by}
use Rattle.psy_history.specs.Regular.{IsLawful}
use Rattle.psy_legal.proofs.Growth.{grown, kept_on}
use Rattle.psy_legal.proofs.NextStarts.{regular_head}

module _ (s : System) (lawful : IsLawful s) where
  -- nor does one that starts at it
  started_later : (variable by date agent : ℕ) → by ≤ date → committed_in s variable by (history s (suc date) agent) ≡ committed_in s variable by (history s date agent)
  started_later variable by date agent l = elim (grown s date agent) [
    | inl (same, other) ↦ ap (committed_in s variable by) same
    | inr (n, next, at, more) ↦ (
        let r : Action = action_of s (history s date) agent n in
        let regular = regular_head s lawful (suc date) agent r (history s date agent) more in
        ap (committed_in s variable by) more
        ∙ not_yet variable by r.after (committed_in s variable by (history s date agent)) r.verdict (λ point end done. omega (arith, l, regular.due, at, (regular.ends point end done).2)))
  ]

  committed_stays : (variable by some more agent : ℕ) → by ≤ some → some ≤ more → committed_in s variable by (history s more agent) ≡ committed_in s variable by (history s some agent)
  committed_stays variable by some more agent early l =
      let Stays : ℕ → Type 0 = λ n. (by ≤ n) × (committed_in s variable by (history s n agent) ≡ committed_in s variable by (history s some agent)) in
      let kept : Stays more = kept_on Stays (λ n h. (omega (arith, h.0), started_later variable by n agent h.0 ∙ h.1)) some more l (early, refl) in
      kept.1

  pub published_stays : (variable by some more : ℕ) → by ≤ some → some ≤ more → published s (history s more) variable by ≡ published s (history s some) variable by
  published_stays variable by some more early l = behind s.opening.dates
    where
      by_owner : (owner : Option ℕ) → published_by s (history s more) variable by owner ≡ published_by s (history s some) variable by owner
      by_owner None = refl
      by_owner (Some owner) = committed_stays variable by some more owner early l

      behind : (dates : ℕ) → published_behind dates s (history s more) variable by ≡ published_behind dates s (history s some) variable by
      behind zero = by_owner (variable_of s variable).owner
      behind (suc last) = ap (λ later. if nat_le by last then published_before s last variable by else later) (by_owner (variable_of s variable).owner)
