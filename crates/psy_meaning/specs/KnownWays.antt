-- What is known of the ways of a program's actions: by its statements, or by lists.
use Rattle.std.specs.Prelude.{◌≡◌, ℕ, ◌==◌, ◌&&◌, Bool, true, false, if◌then◌else◌, List, [], ◌∷◌, get_or}
use Rattle.std.specs.List.{Contains, list_any}
use Rattle.psy_base.specs.declared.ways.SendWay.{SendWay}
use Rattle.psy_base.specs.declared.ways.Ways.{Ways as WayLists}
use Rattle.psy_tree.specs.declared.unit.Unit.{Unit as Whole}
use Rattle.psy_tree.specs.Parts.{agent_at}
use Rattle.psy_meaning.specs.Flow.{IsMostSends, MayLook}
use Rattle.psy_meaning.specs.Sendings.{all_sendings, longest_delay, sendings_to}
use Rattle.psy_meaning.specs.Ways.{Sending}

-- The ways of a program's statements, or those of lists
pub data Ways : Type 0 where
  OfText : (unit : Whole) → Ways
  Listed : (lists : WayLists) → Ways

-- ---- looks

-- A way from a point of an agent looks at a variable.
abbrev pub Looks : Ways → ℕ → ℕ → ℕ → Type 0
Looks (OfText unit) agent point variable = MayLook unit.functions (agent_at unit agent) point variable
Looks (Listed lists) agent point variable = Contains (get_or (get_or lists.looks agent []) point []) variable

-- ---- sends

-- The most messages to a stream on a way to a point, where these are the sends of all ways: 0 where none is listed
abbrev pub most_in : List SendWay → ℕ → ℕ → ℕ
most_in [] to stream = 0
most_in (way ∷ ways) to stream = if way.to == to && way.stream == stream then way.most else most_in ways to stream

-- The most messages to a stream on a way from a point of an agent to another, cut at 65,537
abbrev pub HasMost : Ways → ℕ → ℕ → ℕ → ℕ → ℕ → Type 0
HasMost (OfText unit) agent from to stream n = IsMostSends unit.functions (agent_at unit agent) from to stream n
HasMost (Listed lists) agent from to stream n = most_in (get_or (get_or lists.sends agent []) from []) to stream ≡ n

-- There is a send.
abbrev pub is_some_sending : List Sending → Bool
is_some_sending [] = false
is_some_sending (sending ∷ more) = true

-- Some way of these lists, by point, sends to a stream.
abbrev pub any_to : ℕ → List (List SendWay) → Bool
any_to stream = list_any (list_any (λ (way : SendWay). way.stream == stream))

-- An agent sends to a stream.
abbrev pub sends_to : Ways → ℕ → ℕ → Bool
sends_to (OfText unit) agent stream = is_some_sending (sendings_to stream (agent_at unit agent))
sends_to (Listed lists) agent stream = any_to stream (get_or lists.sends agent [])

-- Somebody sends to a stream.
abbrev pub is_sent : Ways → ℕ → Bool
is_sent (OfText unit) stream = is_some_sending (all_sendings unit stream)
is_sent (Listed lists) stream = list_any (any_to stream) lists.sends

-- The greatest delay of a send to a stream
abbrev pub delay_by : Ways → ℕ → ℕ
delay_by (OfText unit) stream = longest_delay unit stream
delay_by (Listed lists) stream = get_or lists.delays stream 0
