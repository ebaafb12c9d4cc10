-- The places of dates by a scale.
use Rattle.std.specs.Prelude.{◌≡◌, ◌≤◌, ℕ, List, min}
use Rattle.std.specs.List.{count_by}
use Rattle.psy_base.specs.declared.limits.TheConstants.{UNTIL}
use Rattle.psy_draw.specs.declared.scale.Scale.{Scale}
use Rattle.psy_draw.specs.declared.window.Window.{Window}
use Rattle.psy_draw.specs.Dates.{last_date}
use Rattle.psy_draw.specs.Lanes.{may_have_lane}
use Rattle.psy_draw.specs.Places.{grain_of, window_end, x_of}
use Rattle.psy_log.specs.declared.note.Note.{Note}

-- The place of a date
abbrev pub place_by : Scale → ℕ → ℕ
place_by scale date = x_of scale.from scale.to scale.grain date

-- The scale is that of a picture of a window and of these names, of a run with these notes, a date of which lies in the window.
pub record IsScaleOf (window : Window) (names : List (List ℕ)) (notes : List Note) (scale : Scale) : Type 0 where
  pub from : scale.from ≡ min window.from UNTIL
  pub to : scale.to ≡ min (window_end window (last_date notes)) UNTIL
  pub grain : scale.grain ≡ grain_of (count_by (may_have_lane names) notes)
  pub dated : window.from ≤ window_end window (last_date notes)
