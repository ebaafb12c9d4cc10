-- From each place of an agent's code a way ends.
use Rattle.std.proofs.Common.{◌≡◌, ℕ, get_or, Some, sym, ap, ◌∙◌, arith}
use Rattle.std.specs.Prelude.{slice_get}
use Rattle.psy_code.specs.declared.code.AgentCode.{AgentCode}
use Rattle.psy_tree.specs.declared.unit.AgentDecl.{AgentDecl}
use Rattle.psy_tree.specs.declared.unit.Unit.{Unit as Whole}
use Rattle.psy_meaning.specs.Flow.{IsNext}
use Rattle.psy_meaning.specs.Sound.{IsSoundUnit}
use Rattle.psy_gen.proofs.ways.Agents.{stands}
use Rattle.psy_gen.proofs.ways.Delays.{dies_at}
use Rattle.psy_gen.proofs.ways.Points.{IsAgent}
use Rattle.psy_gen.proofs.verified.Agents.{Ends, agent_start, its_is}
use Rattle.psy_gen.proofs.verified.Marked.{AllEnd}

module _ (unit : Whole) (sound : IsSoundUnit unit) (number : ℕ) (agent : AgentDecl) (known : IsAgent unit number agent)
    (leads : (to : ℕ) × IsNext unit.functions agent 0 to) where
  -- The place where the code begins, as both say it
  same_place : (stands unit number agent known.at).place ≡ agent_start unit sound number agent known.at
  same_place = ap (λ (a : AgentCode). get_or a.points 0 0) (sym (stands unit number agent known.at).entry ∙ its_is unit sound number agent known.at)

  agent_ends : Ends unit sound number agent known.at
  agent_ends place above below =
      let d = dies_at unit number agent known leads place (omega (arith, above, same_place)) (omega (arith, below, same_place)) in
      (d.point, d.places, d.way)

pub all_end : (unit : Whole) (sound : IsSoundUnit unit)
    → ((number : ℕ) (agent : AgentDecl) → slice_get unit.agents number ≡ Some agent → IsAgent unit number agent)
    → ((number : ℕ) (agent : AgentDecl) → slice_get unit.agents number ≡ Some agent → (to : ℕ) × IsNext unit.functions agent 0 to) → AllEnd unit sound
all_end unit sound known leads number agent got = agent_ends unit sound number agent (known number agent got) (leads number agent got)
