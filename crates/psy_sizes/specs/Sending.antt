-- How many messages one action of an agent may send, summed over streams: on its ways to some points, and from the points before one.
use Rattle.std.specs.Prelude.{ℕ, ◌<◌, ◌≤◌, List, [], get_or}
use Rattle.std.specs.List.{All, Contains}
use Rattle.psy_base.specs.declared.limits.TheConstants.{SENDS}
use Rattle.psy_base.specs.declared.ways.Ways.{Ways as WayLists}
use Rattle.psy_meaning.specs.KnownWays.{Ways}
use Rattle.psy_meaning.specs.QueueSizes.{AreSendsBelow}

-- So many messages may be sent, at most, to the first so many streams on a way from a point to one of these points.
abbrev pub HasSendsAmong : Ways → ℕ → ℕ → ℕ → List ℕ → ℕ → Type 0
HasSendsAmong ways agent streams from nexts n = (to : ℕ) × Contains nexts to × AreSendsBelow ways agent from to streams n

-- The same on a way from one of the points before this one to one that may follow it, by the agent's next points
abbrev pub HasSendsBefore : Ways → ℕ → ℕ → List (List ℕ) → ℕ → ℕ → Type 0
HasSendsBefore ways agent streams nexts points n = (from to : ℕ) × (from < points) × Contains (get_or nexts from []) to
    × AreSendsBelow ways agent from to streams n

-- The sends listed for an agent are cut at one more than a queue may hold.
abbrev pub AreCut : WayLists → ℕ → Type 0
AreCut ways agent = (point : ℕ) → All (λ way. way.most ≤ SENDS) (get_or (get_or ways.sends agent []) point [])
