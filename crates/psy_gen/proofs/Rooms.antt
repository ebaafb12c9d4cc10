-- The code of a unit asks for as much room as its statements hold.
use Rattle.std.proofs.Common.{◌≡◌, refl, ap, subst, ℕ, zero, suc, ◌+◌, List, [], ◌∷◌, length, Some, slice_get}
use Rattle.std.proofs.lemmas.Option.{same_Some}
use Rattle.psy_tree.specs.declared.unit.AgentDecl.{AgentDecl}
use Rattle.psy_tree.specs.declared.unit.FunctionDecl.{FunctionDecl}
use Rattle.psy_tree.specs.declared.unit.Unit.{Unit as Whole}
use Rattle.psy_code.specs.declared.code.AgentCode.{AgentCode}
use Rattle.psy_code.specs.declared.code.FunctionCode.{FunctionCode}
use Rattle.psy_gen.specs.Emission.{agent_entries, agent_entry, agent_size, code_of, function_entries, function_entry, function_size, functions_size}
use Rattle.psy_gen.specs.Rooms.{HasAgentRoom, HasCallRoom, HasRooms}

-- ---- agents

agent_room : (unit : Whole) (first : ℕ) (agents : List AgentDecl) (p number : ℕ) (agent : AgentDecl) (its : AgentCode) → slice_get agents number ≡ Some agent
    → slice_get (agent_entries unit first agents p) number ≡ Some its → HasAgentRoom unit agent its
agent_room unit first [] p number agent its at found = cc
agent_room unit first (a ∷ rest) p zero agent its at found =
    subst (λ b. HasAgentRoom unit b its) (same_Some a agent at) (subst (HasAgentRoom unit a) (same_Some (agent_entry unit first a p) its found) (record { stack = refl; frames = refl; counters = refl }))
agent_room unit first (a ∷ rest) p (suc number) agent its at found = agent_room unit (first + 1) rest (p + agent_size a) number agent its at found

count_agents : (unit : Whole) (first : ℕ) (agents : List AgentDecl) (p : ℕ) → length (agent_entries unit first agents p) ≡ length agents
count_agents unit first [] p = refl
count_agents unit first (a ∷ rest) p = ap suc (count_agents unit (first + 1) rest (p + agent_size a))

-- ---- functions

call_room : (functions : List FunctionDecl) (p number : ℕ) (f : FunctionDecl) (its : FunctionCode) → slice_get functions number ≡ Some f
    → slice_get (function_entries functions p) number ≡ Some its → HasCallRoom f its
call_room [] p number f its at found = cc
call_room (g ∷ rest) p zero f its at found =
    subst (λ h. HasCallRoom h its) (same_Some g f at) (subst (HasCallRoom g) (same_Some (function_entry g p) its found) (record { params = refl; locals = refl; counters = refl }))
call_room (g ∷ rest) p (suc number) f its at found = call_room rest (p + function_size g) number f its at found

count_functions : (functions : List FunctionDecl) (p : ℕ) → length (function_entries functions p) ≡ length functions
count_functions [] p = refl
count_functions (g ∷ rest) p = ap suc (count_functions rest (p + function_size g))

-- ---- the whole

pub rooms_of : (unit : Whole) → HasRooms unit (code_of unit)
rooms_of unit = record {
  agents = λ number agent its at found. agent_room unit 0 unit.agents (functions_size unit.functions) number agent its at found;
  functions = λ number f its at found. call_room unit.functions 0 number f its at found;
  all_agents = count_agents unit 0 unit.agents (functions_size unit.functions);
  all_functions = count_functions unit.functions 0;
}
