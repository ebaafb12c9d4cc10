-- Actions of which no two wait at once, those that go on as they began, and stretches in the order of actions.
use Rattle.std.specs.Prelude.{◌≡◌, ◌<◌, ◌≤◌, ℕ, false, List}
use Rattle.std.specs.List.{AllPairs}
use Rattle.psy_audit.specs.declared.said.Segment.{Segment}
use Rattle.psy_audit.specs.declared.waits.Wait.{Wait}
use Rattle.psy_audit.specs.Courses.{is_unfinished}

-- An action is over before another is released.
pub record IsBefore (one other : Wait) : Type 0 where
  pub finished : is_unfinished one.act.ending ≡ false
  pub over : one.past ≤ other.from
  pub released : one.from ≤ other.from

-- Each of some actions is over before those behind it are released.
abbrev pub AreApart : List Wait → Type 0
AreApart waits = AllPairs IsBefore waits

-- An action neither begins to wait nor ends behind one cycle and before another.
pub record IsSteady (from to : ℕ) (w : Wait) : Type 0 where
  pub first : from < w.from → to ≤ w.from
  pub past : from < w.past → to ≤ w.past

-- Each of some stretches is of no later action than those behind it.
abbrev pub AreRising : List Segment → Type 0
AreRising its = AllPairs (λ (one other : Segment). one.number ≤ other.number) its
