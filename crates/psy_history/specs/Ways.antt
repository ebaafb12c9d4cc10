-- What a run may send by the ways of its code.
use Rattle.std.specs.Prelude.{◌≡◌, ℕ, ◌≤◌, ◌==◌, true, List, min}
use Rattle.std.specs.List.{count_by}
use Rattle.psy_base.specs.declared.limits.TheConstants.{SENDS}
use Rattle.psy_code.specs.declared.look.Sent.{Sent}
use Rattle.psy_tree.specs.declared.unit.Unit.{Unit as Whole}
use Rattle.psy_meaning.specs.Kept.{IsSentOf}
use Rattle.psy_meaning.specs.KnownWays.{HasMost, Ways, delay_by, is_sent}
use Rattle.psy_meaning.specs.Sendings.{delay_of}
use Rattle.psy_meaning.specs.Ways.{sending_of}

-- How many of these sends are to a stream
abbrev pub sends_in : ℕ → List Sent → ℕ
sends_in stream sends = count_by (λ (sent : Sent). sent.stream == stream) sends

-- To each stream no more is sent than on a way from the one point to the other, both counts cut at 65,537.
abbrev pub SendsAtMost : Ways → ℕ → ℕ → ℕ → List Sent → Type 0
SendsAtMost ways agent from to sends = (stream n : ℕ) → HasMost ways agent from to stream n → min (sends_in stream sends) SENDS ≤ n

-- A message that can be sent, to a stream to which the ways send, by no greater delay
pub record IsSentBy (ways : Ways) (unit : Whole) (sent : Sent) : Type 0 where
  pub fits : IsSentOf unit sent
  pub named : is_sent ways sent.stream ≡ true
  pub soon : delay_of unit (sending_of sent) ≤ delay_by ways sent.stream
