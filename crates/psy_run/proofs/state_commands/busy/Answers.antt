-- What is left of the proof of `state_commands::busy`.
use Rattle.std.proofs.Common.{◌≡◌, ◌∙◌, sym, ap, subst, ℕ, ◌<◌, ◌≤◌, List, length, get_or, inl}
use Rattle.std.proofs.lemmas.List.{get_or_default}
use Rattle.psy_base.specs.declared.limits.TheConstants.{WORD_BYTES}
use Rattle.psy_run.specs.declared.refusal.Refusal.TheVariants.{Busy}
use Rattle.psy_run.specs.declared.refusal.Stop.TheVariants.{Refused}
use Rattle.psy_tree.specs.declared.unit.AgentDecl.{AgentDecl}
use Rattle.psy_tree.specs.declared.unit.Unit.{Unit as Whole}
use Rattle.psy_tree.specs.Parts.{agent_at, no_agent}
use Rattle.psy_run.proofs.state_commands.busy.Goals as goal

-- The name of the agent of a number, as it is read
its_name : (unit : Whole) (number : ℕ) (it : AgentDecl) (agents : List AgentDecl) (name : List ℕ) → number < length unit.agents → agents ≡ unit.agents → name ≡ (get_or agents number it).name
    → name ≡ (agent_at unit number).name
its_name unit number it agents name known all is =
    is ∙ ap (λ (a : AgentDecl). a.name) (ap (λ xs. get_or xs number it) all ∙ get_or_default unit.agents number it no_agent known)

pub of-requires : goal.of-requires
of-requires c =
    let name = its_name c.args.unit.now c.args.agent _ _ _ c.requires.known c.as_slice.ensures c.bytes.ensures in
    subst (λ text. length text ≤ WORD_BYTES) (sym name) ((c.requires.bare.agents c.args.agent no_agent c.requires.known).name.1)

pub returns-in-Ok : goal.returns-in-Ok
returns-in-Ok c =
    let name = its_name c.args.unit.now c.args.agent _ _ _ c.requires.known c.as_slice.ensures c.bytes.ensures in
    inl (ap (λ text. Refused (Busy text)) (c.in-Ok.ensures ∙ name))
