-- The lists of an agent's ways while they grow.
use Rattle.std.specs.Prelude.{◌≡◌, ◌⊎◌, ◌↔◌, ℕ, ◌<◌, ◌≤◌, ◌==◌, nat_lt, Bool, if◌then◌else◌, List, [], ◌∷◌, ◌++◌, filter, map, length, Some, slice_get}
use Rattle.std.specs.List.{AllPairs, Contains}
use Rattle.psy_base.specs.Extremes.{most_of}
use Rattle.psy_base.specs.declared.ways.SendWay.{SendWay}
use Rattle.psy_tree.specs.declared.unit.AgentDecl.{AgentDecl}
use Rattle.psy_tree.specs.declared.unit.FunctionDecl.{FunctionDecl}
use Rattle.psy_tree.specs.declared.unit.Unit.{Unit as Whole}
use Rattle.psy_meaning.specs.Flow.{AreNexts, MayLook, Rises}
use Rattle.psy_meaning.specs.ListedWays.{AreLooks, IsWayBefore}
use Rattle.psy_meaning.specs.Sendings.{delay_of}
use Rattle.psy_meaning.specs.Ways.{Sending}
use Rattle.psy_flow.specs.declared.listed.AgentPaths.{AgentPaths}

-- ---- numbers

-- Those of the first so many numbers that have something, rising
pub record AreBelow (Has : ℕ → Type 0) (below : ℕ) (numbers : List ℕ) : Type 0 where
  pub rise : AllPairs (λ a b. a < b) numbers
  pub each : (number : ℕ) → Contains numbers number ↔ ((number < below) × Has number)

-- All numbers that have it, rising
pub record AreNumbers (Has : ℕ → Type 0) (numbers : List ℕ) : Type 0 where
  pub rise : Rises numbers
  pub each : (number : ℕ) → Contains numbers number ↔ Has number

-- ---- looks

-- The number, or none
abbrev pub if_so : Bool → ℕ → List ℕ
if_so so n = if so then n ∷ [] else []

-- Those of the first so many variables at which a way looks
abbrev pub AreLooksBelow : List FunctionDecl → AgentDecl → ℕ → ℕ → List ℕ → Type 0
AreLooksBelow functions agent point = AreBelow (MayLook functions agent point)

-- ---- sends

-- The way, where there is a send on it
abbrev pub some_way : SendWay → List SendWay
some_way way = if nat_lt 0 way.most then way ∷ [] else []

-- It ends at an earlier point, or at this one and is to one of the first so many streams.
abbrev pub IsUpTo : ℕ → ℕ → SendWay → Type 0
IsUpTo to streams way = (way.to < to) ⊎ ((way.to ≡ to) × (way.stream < streams))

-- All such ways that have some sends, where these are the most of them by end and stream
pub record AreSendsUpTo (Most : ℕ → ℕ → ℕ → Type 0) (to streams : ℕ) (sends : List SendWay) : Type 0 where
  pub rise : AllPairs IsWayBefore sends
  pub each : (way : SendWay) → Contains sends way ↔ (IsUpTo to streams way × (Most way.to way.stream way.most × (1 ≤ way.most)))

-- All ways to some points that have some sends
pub record AreSendsAmong (Most : ℕ → ℕ → ℕ → Type 0) (nexts : List ℕ) (sends : List SendWay) : Type 0 where
  pub rise : AllPairs IsWayBefore sends
  pub each : (way : SendWay) → Contains sends way ↔ (Contains nexts way.to × (Most way.to way.stream way.most × (1 ≤ way.most)))

-- ---- delays

-- The greatest delay of those of some sends that go to a stream
abbrev pub delay_among : Whole → ℕ → List Sending → ℕ
delay_among unit stream sendings = most_of (map (delay_of unit) (filter (λ (s : Sending). s.stream == stream) sendings))

-- ---- lists that grow

-- Each list has so much more at its end.
pub record AreLonger {X : Type 0} (more : ℕ → List X) (before after : List (List X)) : Type 0 where
  pub count : length after ≡ length before
  pub each : (place : ℕ) (list : List X) → slice_get before place ≡ Some list → slice_get after place ≡ Some (list ++ more place)

-- ---- an agent

-- By point of an agent, things of this kind
pub record AreOf {X : Type 0} (agent : AgentDecl) (Are : ℕ → X → Type 0) (lists : List X) : Type 0 where
  pub count : length lists ≡ length agent.points
  pub each : (point : ℕ) (one : X) → slice_get lists point ≡ Some one → Are point one

-- By point of an agent, its ways without what they send
pub record AreStatedPaths (functions : List FunctionDecl) (agent : AgentDecl) (paths : AgentPaths) : Type 0 where
  pub nexts : AreNexts functions agent paths.nexts
  pub looks : AreOf agent (AreLooks functions agent) paths.looks
