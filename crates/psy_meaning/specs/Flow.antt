-- What follows a point of an agent, on all ways: the points that may come next, and the most that a way there costs and sends.
use Rattle.std.specs.Prelude.{◌≡◌, ◌⊎◌, ℕ, ◌<◌, min, ◌==◌, List, Some, length, slice_get, ◌↔◌}
use Rattle.std.specs.List.{count_by, Contains}
use Rattle.psy_base.specs.Extremes.{IsGreatest}
use Rattle.psy_base.specs.declared.limits.TheConstants.{SENDS}
use Rattle.psy_code.specs.Views.{Looked}
use Rattle.psy_tree.specs.declared.unit.AgentDecl.{AgentDecl}
use Rattle.psy_tree.specs.declared.unit.FunctionDecl.{FunctionDecl}
use Rattle.psy_tree.specs.declared.unit.Unit.{Unit as Whole}
use Rattle.psy_meaning.specs.Rest.{rest}
use Rattle.psy_meaning.specs.Ways.{Meter, IsWay}

-- A way from a point of an agent to the next one, and what it meets
abbrev pub IsWayFrom : List FunctionDecl → AgentDecl → ℕ → ℕ → Meter → Type 0
IsWayFrom functions agent from to met = IsWay functions (rest agent.stmts from) to met

-- The code behind a point may reach this one first.
abbrev pub IsNext : List FunctionDecl → AgentDecl → ℕ → ℕ → Type 0
IsNext functions agent from to = (met : Meter) × IsWayFrom functions agent from to met

-- A way from a point has this cost.
abbrev pub HasCost : List FunctionDecl → AgentDecl → ℕ → ℕ → Type 0
HasCost functions agent from cost = (to : ℕ) × (met : Meter) × IsWayFrom functions agent from to met × (met.steps ≡ cost)

-- A way from one point to another has so many sends to a stream.
abbrev pub HasSends : List FunctionDecl → AgentDecl → ℕ → ℕ → ℕ → ℕ → Type 0
HasSends functions agent from to stream sends = (met : Meter) × IsWayFrom functions agent from to met × (count_by (λ s. s.stream == stream) met.sends ≡ sends)

-- A way from a point looks at a variable.
abbrev pub MayLook : List FunctionDecl → AgentDecl → ℕ → ℕ → Type 0
MayLook functions agent from variable = (to : ℕ) × (met : Meter) × IsWayFrom functions agent from to met × (look : Looked) × Contains met.looks look
    × (look.variable ≡ variable)

-- The greatest of these numbers, cut at a limit
abbrev pub IsCut : (ℕ → Type 0) → ℕ → ℕ → Type 0
IsCut Has limit result = (n : ℕ) × IsGreatest Has n × (result ≡ min n limit)

-- The greatest number of sends on a way from one point to another, cut at 65,537; 0 where there is none
abbrev pub IsMostSends : List FunctionDecl → AgentDecl → ℕ → ℕ → ℕ → ℕ → Type 0
IsMostSends functions agent from to stream result =
    ((IsNext functions agent from to → ⊥) × (result ≡ 0)) ⊎ IsCut (HasSends functions agent from to stream) SENDS result

-- The numbers rise.
abbrev pub Rises : List ℕ → Type 0
Rises xs = (i j m n : ℕ) → i < j → slice_get xs i ≡ Some m → slice_get xs j ≡ Some n → m < n

-- What may follow each point of an agent, as lists by point: the numbers of the next points, rising.
pub record AreNexts (functions : List FunctionDecl) (agent : AgentDecl) (nexts : List (List ℕ)) : Type 0 where
  pub length : length nexts ≡ length agent.points
  pub rise : (point : ℕ) (list : List ℕ) → slice_get nexts point ≡ Some list → Rises list
  pub each : (point : ℕ) (list : List ℕ) → slice_get nexts point ≡ Some list → (to : ℕ) → Contains list to ↔ IsNext functions agent point to

-- By agent, the points that may follow each of its points
pub record AreAllNexts (unit : Whole) (nexts : List (List (List ℕ))) : Type 0 where
  pub count : length nexts ≡ length unit.agents
  pub each : (number : ℕ) (agent : AgentDecl) (list : List (List ℕ)) → slice_get unit.agents number ≡ Some agent → slice_get nexts number ≡ Some list
      → AreNexts unit.functions agent list
