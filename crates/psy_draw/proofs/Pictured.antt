-- The file of a window.
use Rattle.std.proofs.Common.{◌≡◌, ℕ, ◌-◌, ◌/◌, ◌^◌, ◌≤◌, List, Option, None, Some, max, min, ap, subst, ◌∙◌, arith}
use Rattle.std.specs.Prelude.{IfSome}
use Rattle.std.specs.Int.{div_ceil}
use Rattle.std.specs.List.{count_by}
use Rattle.psy_base.specs.declared.limits.TheConstants.{UNTIL}
use Rattle.psy_draw.specs.declared.outset.Outset.{Outset}
use Rattle.psy_draw.specs.declared.scale.Scale.{Scale}
use Rattle.psy_draw.specs.declared.window.Window.{Window}
use Rattle.psy_draw.specs.declared.scale.TheConstants.{COLUMNS}
use Rattle.psy_draw.specs.Dates.{last_date}
use Rattle.psy_draw.specs.Gathering.{Counts}
use Rattle.psy_draw.specs.Knowledge.{Knowledge}
use Rattle.psy_draw.specs.Lanes.{may_have_lane}
use Rattle.psy_draw.specs.Pictures.{IsFile, IsFileOf}
use Rattle.psy_draw.specs.Places.{grain_of, window_end}
use Rattle.psy_draw.specs.Scales.{IsScaleOf}
use Rattle.psy_log.specs.declared.note.Note.{Note}

-- A file by a scale is that of the window of which the scale is.
pub file_of_window : (name : List ℕ) (window : Window) (known : Knowledge) (names : List (List ℕ)) (notes : List Note) (from to grain : ℕ) (svg : List ℕ) → from ≡ min window.from UNTIL → to ≡ min (window_end window (last_date notes)) UNTIL
    → grain ≡ grain_of (count_by (may_have_lane names) notes) → IsFile name from to grain known names notes svg → IsFileOf name window known names notes svg
file_of_window name window known names notes from to grain svg p q r file =
    let P : ℕ → ℕ → ℕ → Type 0 = λ a b d. IsFile name a b d known names notes svg in
    subst (P (min window.from UNTIL) (min (window_end window (last_date notes)) UNTIL)) r (subst (λ n. P (min window.from UNTIL) n grain) q (subst (λ n. P n to grain) p file))

-- A count that is past all that are counted makes no other grain.
pub same_grain : (n : ℕ) → grain_of (min n (2 ^ 64 - 1)) ≡ grain_of n
same_grain n =
    let bounded : min (min n (2 ^ 64 - 1)) COLUMNS ≡ min n COLUMNS = omega arith in
    ap (λ k. div_ceil 960 (min (COLUMNS / max 1 k) 960)) bounded

-- By what is known of notes a scale is that of a window.
pub scale_counted : (window : Window) (outset : Outset) (came : Option Scale) → IfSome came (λ scale. scale.from ≡ min window.from UNTIL)
    → IfSome came (λ scale. scale.to ≡ min (window_end window outset.last) UNTIL) → IfSome came (λ scale. scale.grain ≡ grain_of outset.lanes)
    → IfSome came (λ scale. window.from ≤ window_end window outset.last)
    → IfSome came (λ scale. (names : List (List ℕ)) (from : ℕ) (notes : List Note) → Counts names from notes outset → IsScaleOf window names notes scale)
scale_counted window outset None from to grain some = tt
scale_counted window outset (Some scale) from to grain some = λ names first notes counts. record {
  from = from;
  to = to ∙ ap (λ last. min (window_end window last) UNTIL) counts.last;
  grain = grain ∙ ap grain_of counts.lanes ∙ same_grain _;
  dated = subst (λ last. window.from ≤ window_end window last) counts.last some;
}
