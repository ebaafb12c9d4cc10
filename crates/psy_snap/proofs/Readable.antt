-- A plan that fits is one that a state can be read by.
use Rattle.std.proofs.Common.{◌≡◌, ◌∙◌, ℕ, ◌<◌, ◌≤◌, List, [], ◌∷◌, length, sym, ap, subst, arith}
use Rattle.std.specs.List.{All}
use Rattle.std.proofs.lemmas.List.{length-map}
use Rattle.std.proofs.lemmas.List.Elements.{All-cons}
use Rattle.psy_dates.specs.declared.plan.Plan.{Plan}
use Rattle.psy_dates.specs.Plans.{IsPlan}
use Rattle.psy_meaning.specs.Alike.{first_copies}
use Rattle.psy_meaning.specs.CodeWays.{agent_code_at}
use Rattle.psy_meaning.specs.Units.{HasHead, IsBarePoint}
use Rattle.psy_snap.specs.Plans.{IsReadable}
use Rattle.psy_tree.specs.Parts.{agent_at, no_agent}
use Rattle.psy_tree.specs.declared.unit.AgentDecl.{AgentDecl}
use Rattle.psy_tree.specs.declared.unit.Point.{Point}
use Rattle.psy_tree.specs.declared.unit.Unit.{Unit as Whole}

-- The body has a head.
some_points : (unit : Whole) (a : AgentDecl) (points : List Point) → HasHead a points (IsBarePoint unit) → 1 ≤ length points
some_points unit a [] head = absurd head
some_points unit a (p ∷ points) head = omega arith

all_timed : (unit : Whole) (a : AgentDecl) (points : List Point) → a.clock < length unit.clocks → HasHead a points (IsBarePoint unit) → All (λ p. p.clock < length unit.clocks) points
all_timed unit a [] less head = absurd head
all_timed unit a (p ∷ points) less head =
    All-cons (λ p. p.clock < length unit.clocks) p points (subst (λ (q : Point). q.clock < length unit.clocks) (sym head.0) less) (λ i d there. (head.1 i d there).clock)

module _ (plan : Plan) (is : IsPlan plan) where
  copies_same : (agent : ℕ) → agent < length plan.unit.agents → length (agent_code_at plan.code agent).copies ≡ length (first_copies plan.unit agent)
  copies_same agent less =
      sym (length-map (agent_code_at plan.code agent).copies (λ c. c.variable)) ∙ ap length (is.fits.parts.each agent less).copies ∙ length-map (first_copies plan.unit agent) (λ c. c.variable)

  pub readable : IsReadable plan
  readable = record {
    clocks = is.fits.bare.clocks;
    codes = is.fits.parts.agents;
    points = λ agent less. some_points plan.unit (agent_at plan.unit agent) (agent_at plan.unit agent).points (is.fits.bare.agents agent no_agent less).points;
    few = λ agent less. (is.fits.bare.agents agent no_agent less).limit;
    timed = λ agent less.
        all_timed plan.unit (agent_at plan.unit agent) (agent_at plan.unit agent).points (is.fits.bare.agents agent no_agent less).clock (is.fits.bare.agents agent no_agent less).points;
    copies = copies_same;
    rings = is.buffers.rings.count;
    published = λ variable d less. (is.fits.bare.variables variable d less).clock;
    queues = is.buffers.queues.count;
    received = λ stream d less. (is.fits.bare.streams stream d less).receiver;
    agents = is.fits.bare.agent_limit;
  }
