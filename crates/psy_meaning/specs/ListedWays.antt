-- The ways of a program's actions as lists, by agent and point: where they end, at what they look and what they send; and by stream, how
-- long a message may take to be visible.
use Rattle.std.specs.Prelude.{◌≡◌, ◌⊎◌, ℕ, ◌+◌, ◌-◌, ◌*◌, ◌<◌, ◌≤◌, List, [], map, length, get_or, Some, slice_get, ◌↔◌}
use Rattle.std.specs.List.{All, AllPairs, Contains}
use Rattle.psy_base.specs.declared.limits.TheConstants.{AFTER, SENDS}
use Rattle.psy_clock.specs.declared.clock.TheConstants.{PERIOD}
use Rattle.psy_base.specs.declared.ways.SendWay.{SendWay}
use Rattle.psy_base.specs.declared.ways.Ways.{Ways}
use Rattle.psy_tree.specs.declared.unit.AgentDecl.{AgentDecl}
use Rattle.psy_tree.specs.declared.unit.FunctionDecl.{FunctionDecl}
use Rattle.psy_tree.specs.declared.unit.Unit.{Unit as Whole}
use Rattle.psy_tree.specs.Parts.{agent_at}
use Rattle.psy_meaning.specs.Flow.{AreAllNexts, IsMostSends, MayLook, Rises}
use Rattle.psy_meaning.specs.Sendings.{longest_delay}

-- ---- lists by agent and point

-- So many points by agent, and for each point what belongs to it
pub record AreByPoint {X : Type 0} (points : List ℕ) (Are : ℕ → ℕ → X → Type 0) (lists : List (List X)) : Type 0 where
  pub counts : map length lists ≡ points
  pub each : (agent point : ℕ) (list : List X) (one : X) → slice_get lists agent ≡ Some list → slice_get list point ≡ Some one → Are agent point one

-- By agent, how many points it has
abbrev pub points_of : Whole → List ℕ
points_of unit = map (λ a. length a.points) unit.agents

-- In order of the point where a way ends, then of the stream
abbrev pub IsWayBefore : SendWay → SendWay → Type 0
IsWayBefore a b = (a.to < b.to) ⊎ ((a.to ≡ b.to) × (a.stream < b.stream))

-- ---- from one point

-- All variables at which a way from a point looks, rising
pub record AreLooks (functions : List FunctionDecl) (agent : AgentDecl) (point : ℕ) (variables : List ℕ) : Type 0 where
  pub rise : Rises variables
  pub each : (variable : ℕ) → Contains variables variable ↔ MayLook functions agent point variable

-- A way from a point to another sends to a stream, and none more often.
abbrev pub IsSendWay : List FunctionDecl → AgentDecl → ℕ → SendWay → Type 0
IsSendWay functions agent point way = IsMostSends functions agent point way.to way.stream way.most × (1 ≤ way.most)

-- All sends of the ways from a point, in order
pub record AreSends (functions : List FunctionDecl) (agent : AgentDecl) (point : ℕ) (sends : List SendWay) : Type 0 where
  pub rise : AllPairs IsWayBefore sends
  pub each : (way : SendWay) → Contains sends way ↔ IsSendWay functions agent point way

-- ---- of a program

-- By stream, the greatest delay of the sends to it
pub record AreDelays (unit : Whole) (delays : List ℕ) : Type 0 where
  pub count : length delays ≡ length unit.streams
  pub each : (stream delay : ℕ) → slice_get delays stream ≡ Some delay → delay ≡ longest_delay unit stream

-- The ways of the statements of a program
pub record AreWaysOf (unit : Whole) (ways : Ways) : Type 0 where
  pub nexts : AreAllNexts unit ways.nexts
  pub looks : AreByPoint (points_of unit) (λ agent. AreLooks unit.functions (agent_at unit agent)) ways.looks
  pub sends : AreByPoint (points_of unit) (λ agent. AreSends unit.functions (agent_at unit agent)) ways.sends
  pub delays : AreDelays unit ways.delays

-- ---- ways of any code

-- The greatest delay that a send may have, 10,249,999 ticks: up to the 1,025th date of a clock of the longest period
abbrev pub LONGEST : ℕ
LONGEST = (AFTER + 1) * PERIOD - 1

-- Points that may follow a point of an agent: there is one, none of them is the head, and they rise.
pub record AreNextsFor (agent : AgentDecl) (nexts : List ℕ) : Type 0 where
  pub some : 1 ≤ length nexts
  pub rise : Rises nexts
  pub known : All (λ to. (1 ≤ to) × (to < length agent.points)) nexts

-- Variables that a program has, rising
pub record AreLooksFor (unit : Whole) (variables : List ℕ) : Type 0 where
  pub rise : Rises variables
  pub known : All (λ variable. variable < length unit.variables) variables

-- A send to a stream that there is, on a way to one of these points
pub record IsSendWayFor (unit : Whole) (nexts : List ℕ) (way : SendWay) : Type 0 where
  pub to : Contains nexts way.to
  pub stream : way.stream < length unit.streams
  pub some : 1 ≤ way.most
  pub cut : way.most ≤ SENDS

-- Such sends, in order
pub record AreSendsFor (unit : Whole) (nexts : List ℕ) (sends : List SendWay) : Type 0 where
  pub rise : AllPairs IsWayBefore sends
  pub known : All (IsSendWayFor unit nexts) sends

-- The ways are of a program, whatever its statements: lists for each agent and each of its points, that name what there is, and a delay
-- for each stream.
pub record AreWaysFor (unit : Whole) (ways : Ways) : Type 0 where
  pub nexts : AreByPoint (points_of unit) (λ agent point. AreNextsFor (agent_at unit agent)) ways.nexts
  pub looks : AreByPoint (points_of unit) (λ agent point. AreLooksFor unit) ways.looks
  pub sends : AreByPoint (points_of unit) (λ agent point. AreSendsFor unit (get_or (get_or ways.nexts agent []) point [])) ways.sends
  pub count : length ways.delays ≡ length unit.streams
  pub delays : All (λ delay. delay ≤ LONGEST) ways.delays
