-- The stores that agents carry from action to action, and how an action ends that starts with one.
use Rattle.std.proofs.Common.{◌≡◌, ℕ, ◌<◌, List, length, Some, replicate, refl, sym, ap, ◌∙◌, subst, arith}
use Rattle.std.specs.Prelude.{slice_get}
use Rattle.std.proofs.lemmas.List.{length-replicate}
use Rattle.std.proofs.lemmas.Option.{slice_get-get_or}
use Rattle.psy_code.specs.declared.code.AgentCode.{AgentCode}
use Rattle.psy_code.specs.declared.code.Code.{Code}
use Rattle.psy_code.specs.Execution.{RunState, run_code}
use Rattle.psy_code.specs.Lasting.{IsOver, Lasted}
use Rattle.psy_code.specs.Views.{View}
use Rattle.psy_tree.specs.declared.unit.AgentDecl.{AgentDecl}
use Rattle.psy_tree.specs.declared.unit.Unit.{Unit as Whole}
use Rattle.psy_history.specs.Actions.{Next}
use Rattle.psy_meaning.specs.Alike.{AgentAlike, EndsAs, IsStoreOf, IsViewOf, begun, first_store, started}
use Rattle.psy_meaning.specs.CodeWays.{agent_code_at}
use Rattle.psy_history.specs.Executors.{Carried, by_code, carried_in, machine_at, store_of}
use Rattle.psy_tree.specs.Parts.{agent_at}
use Rattle.psy_meaning.specs.Kept.{IsKept}
use Rattle.psy_meaning.specs.Rest.{rest}
use Rattle.psy_meaning.specs.Sound.{IsSoundUnit}
use Rattle.psy_meaning.specs.States.{Final, Halts, Store}
use Rattle.psy_meaning.specs.Statements.{act}
use Rattle.psy_history.specs.Compiled.{IsCompiled}
use Rattle.psy_history.proofs.Cuts.{store_back}

-- What the laws say of a unit of a text, whose statements keep the stores of its agents, and of the runs of code.
pub record AreStoreLaws (unit : Whole) (code : Code) : Type 0 where
  pub sound : IsSoundUnit unit
  pub keeps : (number : ℕ) (agent : AgentDecl) (point : ℕ) (store : Store) (view : View) → slice_get unit.agents number ≡ Some agent → point < length agent.points → IsStoreOf unit number agent store → IsViewOf unit number view
      → (final : Final) × (act unit.functions (rest agent.stmts point) (begun store view) ≡ Halts final) × IsKept unit number agent final
  pub first : (number : ℕ) (agent : AgentDecl) → slice_get unit.agents number ≡ Some agent → IsStoreOf unit number agent (first_store unit number agent)
  pub lasted : (its : AgentCode) (s t : RunState) (n : ℕ) → IsOver (run_code code its s n) t → Lasted code its s n t

-- The agent carries a store of its own.
pub record Carries (unit : Whole) (agent : ℕ) (carried : Carried) : Type 0 where
  pub store : Store
  pub holds : IsStoreOf unit agent (agent_at unit agent) store
  pub is : carried ≡ carried_in store

-- An agent may go on so: at one of its points, with a store of its own.
pub record IsReady (unit : Whole) (agent : ℕ) (n : Next) : Type 0 where
  pub less : agent < length unit.agents
  pub known : n.point < length (agent_at unit agent).points
  pub carries : Carries unit agent n.carried

-- An action that begins so ends by its statements, which keep the store, and by its code as they do.
pub record EndsAlike (unit : Whole) (code : Code) (agent point : ℕ) (carried : Carried) (view : View) : Type 0 where
  pub final : Final
  pub acts : act unit.functions (rest (agent_at unit agent).stmts point) (begun (store_of (agent_at unit agent) carried) view) ≡ Halts final
  pub kept : IsKept unit agent (agent_at unit agent) final
  pub ends : EndsAs (Halts final) (run_code code (agent_code_at code agent) (started (machine_at (agent_code_at code agent) point carried) view))

module _ (unit : Whole) (code : Code) (nexts : List (List (List ℕ))) (laws : AreStoreLaws unit code) (compiled : IsCompiled unit code nexts) where
  -- ---- parts by number

  pub of_unit : (agent : ℕ) → agent < length unit.agents → slice_get unit.agents agent ≡ Some (agent_at unit agent)
  of_unit agent less = slice_get-get_or unit.agents agent _ less

  pub of_code : (agent : ℕ) → agent < length unit.agents → slice_get code.agents agent ≡ Some (agent_code_at code agent)
  of_code agent less = slice_get-get_or code.agents agent _ (omega (arith, less, compiled.alike.agents))

  pub alike : (agent : ℕ) → agent < length unit.agents → AgentAlike unit code agent (agent_at unit agent) (agent_code_at code agent)
  alike agent less = compiled.alike.each agent (agent_at unit agent) (agent_code_at code agent) (of_unit agent less) (of_code agent less)

  -- ---- where agents begin

  pub first_carried : (agent : ℕ) → agent < length unit.agents → (by_code code).first agent ≡ carried_in (first_store unit agent (agent_at unit agent))
  first_carried agent less = rw ((alike agent less).cells, (alike agent less).copies) refl

  -- ---- how actions end

  pub ends_alike : (agent point : ℕ) (carried : Carried) (view : View) → agent < length unit.agents → point < length (agent_at unit agent).points → Carries unit agent carried → IsViewOf unit agent view → EndsAlike unit code agent point carried view
  ends_alike agent point carried view less known carries sees =
      let decl = agent_at unit agent in
      let its = agent_code_at code agent in
      let store = carries.store in
      let kept = laws.keeps agent decl point store view (of_unit agent less) known carries.holds sees in
      let back : store_of decl carried ≡ store = ap (store_of decl) carries.is ∙ store_back unit agent decl store carries.holds in
      let counters : List ℕ = replicate its.counters 0 in
      let acts = (alike agent less).acts point store view counters known carries.holds sees (length-replicate its.counters 0) in
      let ends = subst (λ o. EndsAs o (run_code code its (started (machine_at its point (carried_in store)) view))) kept.1 acts in
      record {
        final = kept.0;
        acts = ap (λ s. act unit.functions (rest decl.stmts point) (begun s view)) back ∙ kept.1;
        kept = kept.2;
        ends = subst (λ c. EndsAs (Halts kept.0) (run_code code its (started (machine_at its point c) view))) (sym carries.is) ends;
      }
