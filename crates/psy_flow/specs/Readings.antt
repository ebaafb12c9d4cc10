-- When two readings of a program's ways say the same.
use Rattle.std.specs.Prelude.{◌≡◌, ◌↔◌, ℕ, ◌<◌, length}
use Rattle.psy_tree.specs.declared.unit.Unit.{Unit as Whole}
use Rattle.psy_tree.specs.Parts.{agent_at}
use Rattle.psy_meaning.specs.KnownWays.{HasMost, Looks, Ways, delay_by, is_sent, sends_to}

-- From all points of a program's agents they look and send alike, and their messages are delayed alike.
pub record AreAlike (unit : Whole) (ways others : Ways) : Type 0 where
  pub looks : (agent point variable : ℕ) → agent < length unit.agents → point < length (agent_at unit agent).points
      → Looks ways agent point variable ↔ Looks others agent point variable
  pub most : (agent from to stream n : ℕ) → agent < length unit.agents → from < length (agent_at unit agent).points
      → HasMost ways agent from to stream n ↔ HasMost others agent from to stream n
  pub sends : (agent stream : ℕ) → agent < length unit.agents → sends_to ways agent stream ≡ sends_to others agent stream
  pub sent : (stream : ℕ) → is_sent ways stream ≡ is_sent others stream
  pub delays : (stream : ℕ) → stream < length unit.streams → delay_by ways stream ≡ delay_by others stream
