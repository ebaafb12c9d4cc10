-- The size of a stream's queue: the most messages of actions that end within the dates for which a message may be held. And the size of
-- an agent's outbox: the most messages that one action sends.
use Rattle.std.specs.Prelude.{◌≡◌, ℕ, zero, suc, ◌+◌, ◌-◌, ◌*◌, ◌⊎◌, ◌<◌, ◌≤◌, Bool, true, false, List, length, Some, slice_get}
use Rattle.std.specs.List.{Contains}
use Rattle.psy_base.specs.declared.edge.Edge.{Edge}
use Rattle.psy_base.specs.declared.limits.TheConstants.{QUEUE, WINDOW_CELLS}
use Rattle.psy_base.specs.Extremes.{IsGreatest}
use Rattle.psy_base.specs.Paths.{FitsFirstFree, IsGreatestWeight}
use Rattle.psy_tree.specs.declared.unit.Unit.{Unit as Whole}
use Rattle.psy_tree.specs.Parts.{agent_at, stream_at}
use Rattle.psy_meaning.specs.Graph.{Spot, IsGraph}
use Rattle.psy_meaning.specs.KnownWays.{HasMost, Ways, delay_by, is_sent, sends_to}
use Rattle.psy_meaning.specs.RingSizes.{agent_timing}
use Rattle.psy_meaning.specs.Sendings.{period_of}
use Rattle.psy_meaning.specs.Timing.{Timing, MayStart, end_date, first_date, following}

-- ---- for how many dates a message may be held

-- The most ticks from the date from which a message of a stream is visible to the one at which it expires
abbrev pub lasting_of : Whole → ℕ → ℕ
lasting_of unit stream = (stream_at unit stream).keep * period_of unit (stream_at unit stream).clock

-- An agent begins after so many ticks, or an action of it may last that long.
abbrev pub MayLast : Timing → ℕ → Type 0
MayLast timing ticks = (ticks ≡ first_date timing) ⊎ ((point start to : ℕ) × MayStart timing point start × Contains (following timing point) to
    × (start + ticks ≡ end_date timing start to))

-- The dates for which a message of a stream may be held: from the end of its sender's action until it is visible, until it expires, and
-- until its receiver starts again.
abbrev pub IsWindow : Whole → Ways → List (List (List ℕ)) → ℕ → ℕ → Type 0
IsWindow unit ways nexts stream window =
    (longest : ℕ) × IsGreatest (MayLast (agent_timing unit nexts (stream_at unit stream).receiver)) longest
    × (window ≡ delay_by ways stream + lasting_of unit stream + longest - 1)

-- ---- how many messages are sent in that time

-- An edge of an agent's graph whose weight is the most sends to a stream on a way from its point to the next
pub record IsSendEdge (ways : Ways) (agent stream : ℕ) (spots : List Spot) (e sent : Edge) : Type 0 where
  pub same : sent ≡ record e { weight = sent.weight }
  pub most : (from to : Spot) → slice_get spots e.from ≡ Some from → slice_get spots e.to ≡ Some to
      → HasMost ways agent from.point to.point stream sent.weight

-- All edges of a graph, weighted by their sends
pub record AreSendEdges (ways : Ways) (agent stream : ℕ) (spots : List Spot) (edges sent : List Edge) : Type 0 where
  pub count : length sent ≡ length edges
  pub each : (place : ℕ) (e f : Edge) → slice_get edges place ≡ Some e → slice_get sent place ≡ Some f → IsSendEdge ways agent stream spots e f

-- The most messages that an agent sends to a stream by actions that end within so many dates in a row
abbrev pub IsSpread : Whole → Ways → List (List (List ℕ)) → ℕ → ℕ → ℕ → ℕ → Type 0
IsSpread unit ways nexts stream window agent n =
    (spots : List Spot) × (edges sent : List Edge)
    × IsGraph (agent_timing unit nexts agent) spots edges
    × AreSendEdges ways agent stream spots edges sent
    × IsGreatestWeight sent (FitsFirstFree (window - 1)) n

-- The same, summed over the first so many agents
abbrev pub IsSpreadBelow : Whole → Ways → List (List (List ℕ)) → ℕ → ℕ → ℕ → ℕ → Type 0
IsSpreadBelow unit ways nexts stream window zero n = n ≡ 0
IsSpreadBelow unit ways nexts stream window (suc agent) n =
    (others one : ℕ) × IsSpreadBelow unit ways nexts stream window agent others × IsSpread unit ways nexts stream window agent one × (n ≡ others + one)

-- ---- queues

-- The size of a stream's queue, where somebody sends to it; nothing where nobody does.
abbrev pub IsSizeFor : Whole → Ways → List (List (List ℕ)) → ℕ → ℕ → Bool → Type 0
IsSizeFor unit ways nexts stream size false = size ≡ 0
IsSizeFor unit ways nexts stream size true = (window : ℕ) × IsWindow unit ways nexts stream window
    × IsSpreadBelow unit ways nexts stream window (length unit.agents) size

-- The size of a stream's queue
abbrev pub IsQueueSize : Whole → Ways → List (List (List ℕ)) → ℕ → ℕ → Type 0
IsQueueSize unit ways nexts stream size = IsSizeFor unit ways nexts stream size (is_sent ways stream)

-- By stream, the sizes of the queues
pub record AreQueues (unit : Whole) (ways : Ways) (nexts : List (List (List ℕ))) (sizes : List ℕ) : Type 0 where
  pub count : length sizes ≡ length unit.streams
  pub each : (stream size : ℕ) → slice_get sizes stream ≡ Some size → IsQueueSize unit ways nexts stream size

-- The table of windows of an agent that sends to a stream has more cells than one may have.
abbrev pub PassesTable : Whole → Ways → List (List (List ℕ)) → ℕ → Type 0
PassesTable unit ways nexts stream =
    (agent window : ℕ) × (spots : List Spot) × (edges : List Edge)
    × (agent < length unit.agents)
    × (sends_to ways agent stream ≡ true)
    × IsWindow unit ways nexts stream window
    × IsGraph (agent_timing unit nexts agent) spots edges
    × (WINDOW_CELLS < length spots * window)

-- The size of a stream's queue can be computed, and keeps the limit.
pub record KeepsQueue (unit : Whole) (ways : Ways) (nexts : List (List (List ℕ))) (stream : ℕ) : Type 0 where
  pub counted : PassesTable unit ways nexts stream → ⊥
  pub size : ℕ
  pub is_size : IsQueueSize unit ways nexts stream size
  pub small : size ≤ QUEUE

-- The first stream at fault is one for which a table would have too many cells.
pub record IsLargeTable (unit : Whole) (ways : Ways) (nexts : List (List (List ℕ))) (stream : ℕ) : Type 0 where
  pub known : stream < length unit.streams
  pub passes : PassesTable unit ways nexts stream
  pub earlier : (before : ℕ) → before < stream → KeepsQueue unit ways nexts before

-- The first stream at fault is one whose queue would have more places than a queue may.
pub record IsLargeQueue (unit : Whole) (ways : Ways) (nexts : List (List (List ℕ))) (stream : ℕ) : Type 0 where
  pub known : stream < length unit.streams
  pub counted : PassesTable unit ways nexts stream → ⊥
  pub size : ℕ
  pub is_size : IsQueueSize unit ways nexts stream size
  pub passes : QUEUE < size
  pub earlier : (before : ℕ) → before < stream → KeepsQueue unit ways nexts before

-- ---- outboxes

-- The most sends to each of the first so many streams on a way from one point of an agent to another, summed
abbrev pub AreSendsBelow : Ways → ℕ → ℕ → ℕ → ℕ → ℕ → Type 0
AreSendsBelow ways agent from to zero n = n ≡ 0
AreSendsBelow ways agent from to (suc stream) n =
    (others one : ℕ) × AreSendsBelow ways agent from to stream others × HasMost ways agent from to stream one × (n ≡ others + one)

-- So many messages may be sent, at most, from some point of an agent to one that may follow it.
abbrev pub HasSendsTo : Whole → Ways → List (List (List ℕ)) → ℕ → ℕ → Type 0
HasSendsTo unit ways nexts agent n = (from to : ℕ) × (from < length (agent_at unit agent).points)
    × Contains (following (agent_timing unit nexts agent) from) to × AreSendsBelow ways agent from to (length unit.streams) n

-- By agent, the sizes of the outboxes: the most messages of one action
pub record AreOutboxes (unit : Whole) (ways : Ways) (nexts : List (List (List ℕ))) (sizes : List ℕ) : Type 0 where
  pub count : length sizes ≡ length unit.agents
  pub each : (agent size : ℕ) → slice_get sizes agent ≡ Some size → IsGreatest (HasSendsTo unit ways nexts agent) size
