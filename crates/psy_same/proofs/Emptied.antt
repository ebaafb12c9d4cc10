-- A unit without its statements, slots and functions is the same for all that reads none of these.
use Rattle.std.proofs.Common.{◌≡◌, refl, ℕ, zero, suc, ◌+◌, List, [], ◌∷◌, map, length, get_or}
use Rattle.std.proofs.lemmas.List.{length-map}
use Rattle.psy_base.specs.Extremes.{most_of}
use Rattle.psy_clock.specs.declared.clock.Clock.{Clock}
use Rattle.psy_history.specs.Processors.{processor_at, processors}
use Rattle.psy_image.specs.Answers.{emptied, emptied_agent}
use Rattle.psy_meaning.specs.CodeWays.{budget_of}
use Rattle.psy_meaning.specs.ListedWays.{points_of}
use Rattle.psy_meaning.specs.RingSizes.{agent_timing}
use Rattle.psy_meaning.specs.Timing.{Timing, timing_of}
use Rattle.psy_tree.specs.Parts.{agent_at, homes, no_agent}
use Rattle.psy_tree.specs.declared.unit.AgentDecl.{AgentDecl}
use Rattle.psy_tree.specs.declared.unit.StreamDecl.{StreamDecl}
use Rattle.psy_tree.specs.declared.unit.Unit.{Unit as Whole}
use Rattle.psy_tree.specs.declared.unit.VarDecl.{VarDecl}

-- ---- of some agents

pub emptied_at : (agents : List AgentDecl) (agent : ℕ) → get_or (map emptied_agent agents) agent no_agent ≡ emptied_agent (get_or agents agent no_agent)
emptied_at [] agent = refl
emptied_at (a ∷ agents) zero = refl
emptied_at (a ∷ agents) (suc agent) = emptied_at agents agent

-- What reads nothing else of an agent is listed alike.
pub listed_alike : {Y : Type 0} (of : AgentDecl → Y) → ((a : AgentDecl) → of (emptied_agent a) ≡ of a) → (agents : List AgentDecl)
    → map of (map emptied_agent agents) ≡ map of agents
listed_alike of same [] = refl
listed_alike of same (a ∷ agents) = λ i. same a i ∷ listed_alike of same agents i

-- ---- of a unit

module _ (unit : Whole) where
  pub same_agent : (agent : ℕ) → agent_at (emptied unit) agent ≡ emptied_agent (agent_at unit agent)
  same_agent = emptied_at unit.agents

  pub same_count : length (emptied unit).agents ≡ length unit.agents
  same_count = length-map unit.agents emptied_agent

  pub same_points : points_of (emptied unit) ≡ points_of unit
  same_points = listed_alike (λ a. length a.points) (λ a. refl) unit.agents

  pub same_homes : homes (emptied unit) ≡ homes unit
  same_homes = listed_alike (λ a. a.processor) (λ a. refl) unit.agents

  pub same_processor : processor_at (emptied unit) ≡ processor_at unit
  unfolding processor_at
  same_processor = λ i agent. get_or (same_homes i) agent 0

  pub same_processors : processors (emptied unit) ≡ processors unit
  unfolding processors
  same_processors = λ i. most_of (same_homes i) + 1

  pub same_budgets : budget_of (emptied unit) ≡ budget_of unit
  same_budgets = λ i agent point. (get_or (same_agent agent i).points point (record { count = 1; clock = 0; budget = 0 })).budget

  pub same_timings : (nexts : List (List (List ℕ))) → agent_timing (emptied unit) nexts ≡ agent_timing unit nexts
  same_timings nexts = λ i agent. timing_of unit (same_agent agent i) (get_or nexts agent [])

-- What all else reads of a unit but its names, where these points may follow each point of each agent
pub record Plain : Type 0 where
  pub timings : ℕ → Timing
  pub agents : ℕ
  pub variables : List VarDecl
  pub streams : List StreamDecl
  pub clocks : List Clock

abbrev pub plain : Whole → List (List (List ℕ)) → Plain
plain unit nexts = record {
  timings = agent_timing unit nexts;
  agents = length unit.agents;
  variables = unit.variables;
  streams = unit.streams;
  clocks = unit.clocks;
}

pub same_plain : (unit : Whole) (nexts : List (List (List ℕ))) → plain (emptied unit) nexts ≡ plain unit nexts
same_plain unit nexts = λ i. record {
  timings = same_timings unit nexts i;
  agents = same_count unit i;
  variables = unit.variables;
  streams = unit.streams;
  clocks = unit.clocks;
}
