-- What is left of the proof of `laws::listed`.
use Rattle.std.proofs.Common.{ℕ, ◌<◌, length}
use Rattle.std.proofs.lemmas.Option.{slice_get-get_or}
use Rattle.psy_tree.specs.declared.unit.Unit.{Unit as Whole}
use Rattle.psy_tree.specs.Parts.{agent_at, no_agent}
use Rattle.psy_meaning.specs.Units.{IsOfText}
use Rattle.psy_flow.specs.Agents.{IsAgentOf}
use Rattle.psy_flow.proofs.ReadLists.{AreFacts, alike, of_program, stream_there}
use Rattle.psy_flow.proofs.laws.listed.Goals as goal
use Rattle.psy_flow.proofs.laws.listed.Goals.{After-named-2}

-- What the laws say of a text
facts : (c : After-named-2) (unit : Whole) → IsOfText unit → AreFacts unit
facts c unit text =
    let agent_of : (agent : ℕ) → agent < length unit.agents → IsAgentOf unit agent (agent_at unit agent) = λ agent less. (text, slice_get-get_or unit.agents agent no_agent less) in
    let sound = λ (agent : ℕ) (less : agent < length unit.agents). (c.known.ensures unit agent (agent_at unit agent) (agent_of agent less)).sound in
    record {
      text = text;
      known = λ agent less. c.known.ensures unit agent (agent_at unit agent) (agent_of agent less);
      some = λ agent from to stream less. c.sends.ensures.some unit agent (agent_at unit agent) from to stream (agent_of agent less);
      one = λ agent from to stream n m less. c.sends.ensures.one unit agent (agent_at unit agent) from to stream n m (agent_of agent less);
      inside = λ agent from to met s less. c.sendings.ensures unit agent (agent_at unit agent) from to met s (sound agent less) (agent_of agent less).1;
      meets = λ agent s less. c.met.ensures unit agent (agent_at unit agent) s (sound agent less) (agent_of agent less).1;
      sends = λ agent from to met s less. c.named-2.ensures.sends unit agent (agent_at unit agent) from to met s (sound agent less) (agent_of agent less).1;
      looks = λ agent point variable less. c.named.ensures.looks unit agent (agent_at unit agent) point variable (agent_of agent less);
      ways = λ agent point way less. c.named.ensures.sends unit agent (agent_at unit agent) point way (agent_of agent less);
    }

pub returns-clause-known : goal.returns-clause-known
returns-clause-known c unit ways text are = of_program unit (facts c unit text) ways are

pub returns-clause-alike : goal.returns-clause-alike
returns-clause-alike c unit ways text are = alike unit (facts c unit text) ways are

pub returns-clause-streams : goal.returns-clause-streams
returns-clause-streams c unit agent stream text less = stream_there unit (facts c unit text) agent stream less
