-- What is answered for a unit and its code, by what was written of them.
use Rattle.std.proofs.Common.{◌≡◌, ◌∙◌, List, ℕ, [], ◌∷◌, ◌++◌, map, refl, sym, ap, subst}
use Rattle.psy_code.specs.declared.code.AgentCode.{AgentCode}
use Rattle.psy_code.specs.declared.code.Code.{Code}
use Rattle.psy_tree.specs.declared.unit.AgentDecl.{AgentDecl}
use Rattle.psy_tree.specs.declared.unit.Unit.{Unit as Whole}
use Rattle.psy_image.specs.Answers.{KeepRanges, emptied, emptied_agent, image_of}
use Rattle.psy_image.specs.Bytes.{agent_bytes, agents_bytes, image_bytes, paired_bytes}
use Rattle.psy_image.specs.Images.{spells_image}
use Rattle.psy_image.proofs.PrintedAgents.{spelled_bytes}

-- An agent's slots and statements have no bytes.
same_agents : (agents : List AgentDecl) (codes : List AgentCode) → paired_bytes agent_bytes (map emptied_agent agents) codes ≡ paired_bytes agent_bytes agents codes
same_agents [] [] = refl
same_agents [] (code ∷ codes) = refl
same_agents (agent ∷ agents) [] = refl
same_agents (agent ∷ agents) (code ∷ codes) = ap (λ bytes. agent_bytes agent code ++ bytes) (same_agents agents codes)

same_bytes : (unit : Whole) (code : Code) → image_bytes (emptied unit) code ≡ image_bytes unit code
unfolding image_bytes agents_bytes
same_bytes unit code = rw (same_agents unit.agents code.agents) refl

pub is_bytes : (unit : Whole) (code : Code) (bytes : List ℕ) → spells_image (image_of unit code) bytes → bytes ≡ image_bytes unit code
is_bytes unit code bytes h = spelled_bytes bytes (image_of unit code) h ∙ same_bytes unit code

pub one_text : (unit : Whole) (code : Code) (bytes other : List ℕ) → spells_image (image_of unit code) bytes → spells_image (image_of unit code) other → bytes ≡ other
one_text unit code bytes other h g = is_bytes unit code bytes h ∙ sym (is_bytes unit code other g)

pub written_spells : (unit : Whole) (code : Code) (out : List ℕ) → KeepRanges unit code → out ≡ image_bytes unit code → spells_image (image_of unit code) out
unfolding KeepRanges
written_spells unit code out (bytes, h) is = subst (spells_image (image_of unit code)) (is_bytes unit code bytes h ∙ sym is) h
