-- What bytes spell as an image is a bare unit with code for its agents.
use Rattle.std.proofs.Common.{◌≡◌, ◌∙◌, ℕ, ℤ, ◌-◌, ◌^◌, ◌<◌, ◌≤◌, List, [], ◌∷◌, ◌++◌, map, length, append_assoc, true, sym, ap, subst, arith}
use Rattle.std.specs.Prelude.{⊤, FitsSigned}
use Rattle.std.specs.Int.{w32}
use Rattle.std.specs.List.{All}
use Rattle.std.proofs.lemmas.List.Elements.{All-nil, All-weaker}
use Rattle.std.proofs.lemmas.Option.{slice_get-get_or}
use Rattle.psy_lists.proofs.lemmas.Members.{get_or_holds}
use Rattle.psy_base.specs.declared.limits.TheConstants.{CLOCKS, FUNCTIONS, NAMES, QUANTUM, STREAMS, VARIABLES}
use Rattle.psy_clock.specs.declared.clock.Clock.{Clock}
use Rattle.psy_code.specs.declared.code.Code.{Code}
use Rattle.psy_code.specs.declared.code.FunctionCode.{FunctionCode}
use Rattle.psy_code.specs.declared.instr.Instr.{Instr}
use Rattle.psy_image.specs.declared.agents.AgentLists.{AgentLists}
use Rattle.psy_image.specs.declared.image.Image.{Image}
use Rattle.psy_image.specs.declared.seen.Seen.{Seen}
use Rattle.psy_image.specs.Images.{agents, clocks, functions, image, instrs, spells_image, streams, variables}
use Rattle.psy_image.specs.Names.{is_name}
use Rattle.psy_tree.specs.declared.unit.AgentDecl.{AgentDecl}
use Rattle.psy_tree.specs.declared.unit.Point.{Point}
use Rattle.psy_tree.specs.declared.unit.Slots.{Slots}
use Rattle.psy_tree.specs.declared.unit.StreamDecl.{StreamDecl}
use Rattle.psy_tree.specs.declared.unit.Unit.{Unit as Whole}
use Rattle.psy_tree.specs.declared.unit.VarDecl.{VarDecl}
use Rattle.psy_tree.specs.Parts.{agent_at, no_agent}
use Rattle.psy_meaning.specs.Alike.{FitSlots}
use Rattle.psy_meaning.specs.CodeWays.{agent_code_at}
use Rattle.psy_meaning.specs.Units.{AllDiffer, HasHead, IsBare, IsBareAgent, IsBareFunction, IsBarePoint, IsBareSlot, IsBareStream, IsBareVariable, IsName, OwnedWithin, Within}
use Rattle.psy_history.specs.Executors.{cut}
use Rattle.psy_history.specs.Fitting.{IsAgentCodeFor, IsCodeFor}
use Rattle.psy_history.specs.Openings.{FitCells}
use Rattle.psy_verify.specs.Fits.{IsSoundImage}
use Rattle.psy_verify.proofs.images.Crew.{AreCrew, IsAgentOf, says_agents}
use Rattle.psy_verify.proofs.images.Declared.{AreClocks, AreStreams, AreVariables, HasFew, IsVariableOf, says_clocks, says_functions, says_instrs, says_streams, says_variables}
use Rattle.psy_verify.proofs.images.Placed.{IsPointOf, owned_is}
use Rattle.psy_verify.proofs.images.Said.{Says, said, says_then}

-- ---- an agent without slots

no_slots : (a : AgentDecl) → a.slots ≡ [] → All IsBareSlot a.slots × (length a.slots ≤ NAMES)
no_slots a none = (subst (All IsBareSlot) (sym none) (All-nil IsBareSlot), omega (arith, ap length none))

-- Where there are no slots, nothing is asked of cells.
no_cells : (a : AgentDecl) (cells : List ℤ) → a.slots ≡ [] → FitCells a cells
no_cells a cells none =
    subst (λ (slots : List Slots). FitSlots (map (λ s. s.width) slots) (cut (map (λ s. s.cells) slots) cells)) (sym none) (λ slot width its at there. absurd (cc))

bare_point : (unit : Whole) (p : Point) → IsPointOf (length unit.clocks) p → IsBarePoint unit p
bare_point unit p h = record { count = h.count; clock = h.clock; budget = h.budget }

bare_head : (unit : Whole) (a : AgentDecl) (ps : List Point) → HasHead a ps (IsPointOf (length unit.clocks)) → HasHead a ps (IsBarePoint unit)
bare_head unit a [] h = h
bare_head unit a (head ∷ rest) h = (h.0, All-weaker (IsPointOf (length unit.clocks)) (IsBarePoint unit) (bare_point unit) rest h.1)

bare_agent : (unit : Whole) (a : AgentDecl) → IsAgentOf (length unit.clocks) a → IsBareAgent unit a
bare_agent unit a h =
    let (slots, few) = no_slots a h.slots in
    record {
      name = h.name;
      clock = h.clock;
      processor = h.processor;
      budget = h.budget;
      slots = slots;
      names = few;
      points = bare_head unit a a.points h.points;
      limit = h.limit;
    }

-- ---- the parts side by side

-- What was read, with what is said of each part
record Parts : Type 0 where
  pub quantum : ℕ
  pub clocks : List (List ℕ) × List Clock
  pub variables : Seen × List VarDecl
  pub streams : Seen × List StreamDecl
  pub functions : List FunctionCode
  pub crew : AgentLists
  pub instrs : List Instr

abbrev unit_of : Parts → Whole
unit_of p = record { quantum = p.quantum; clocks = p.clocks.1; clock_names = p.clocks.0; variables = p.variables.1; streams = p.streams.1; functions = []; agents = p.crew.agents }

abbrev code_of : Parts → Code
code_of p = record { instrs = p.instrs; agents = p.crew.codes; functions = p.functions }

record AreSaid (p : Parts) : Type 0 where
  pub quantum : Within 1 QUANTUM p.quantum
  pub clocks : AreClocks p.clocks
  pub clocks_few : length p.clocks.1 ≤ CLOCKS
  pub variables : AreVariables (length p.clocks.1) p.clocks.0 p.variables
  pub variables_few : length p.variables.1 ≤ VARIABLES
  pub streams : AreStreams (length p.clocks.1) p.variables.0 p.streams
  pub streams_few : length p.streams.1 ≤ STREAMS
  pub functions : All HasFew p.functions
  pub functions_few : length p.functions ≤ FUNCTIONS
  pub crew : AreCrew (length p.clocks.1) p.variables.1 p.streams.0 p.crew
  pub instrs : length p.instrs ≤ 2 ^ 32 - 1

module _ (p : Parts) (h : AreSaid p) where
  variables_below : All (λ v. OwnedWithin (length p.crew.agents) v.owner) p.variables.1
  variables_below = h.variables.owned (length p.crew.agents) (h.streams.owned (length p.crew.agents) h.crew.2).0

  bare_variables : All (IsBareVariable (unit_of p)) p.variables.1
  bare_variables k d less =
      let its = h.variables.each k d less in
      record { name = its.name; owner = variables_below k d less; clock = its.clock; depth = its.depth }

  bare_streams : All (IsBareStream (unit_of p)) p.streams.1
  bare_streams k d less =
      let its = h.streams.each k d less in
      record { name = its.name; receiver = (h.streams.owned (length p.crew.agents) h.crew.2).1 k d less; clock = its.clock; keep = its.keep }

  names_are : p.crew.names ≡ p.clocks.0 ++ (map (λ (v : VarDecl). v.name) p.variables.1 ++ (map (λ (s : StreamDecl). s.name) p.streams.1 ++ map (λ (a : AgentDecl). a.name) p.crew.agents))
  names_are =
      let vs = map (λ (v : VarDecl). v.name) p.variables.1 in
      let ss = map (λ (s : StreamDecl). s.name) p.streams.1 in
      let crew = map (λ (a : AgentDecl). a.name) p.crew.agents in
      h.crew.0.follow ∙ ap (λ ns. ns ++ crew) (h.streams.follow ∙ ap (λ ns. ns ++ ss) h.variables.follow) ∙ append_assoc (p.clocks.0 ++ vs) ss crew ∙ append_assoc p.clocks.0 vs (ss ++ crew)

  is_bare : IsBare (unit_of p)
  is_bare = record {
    quantum = h.quantum;
    clocks = h.clocks.lawful;
    clock_names = h.clocks.names.each;
    clocks_named = h.clocks.as_many;
    clock_limit = h.clocks_few;
    variables = bare_variables;
    variable_limit = h.variables_few;
    streams = bare_streams;
    stream_limit = h.streams_few;
    functions = All-nil IsBareFunction;
    function_limit = omega arith;
    agents = All-weaker (IsAgentOf (length p.clocks.1)) (IsBareAgent (unit_of p)) (bare_agent (unit_of p)) p.crew.agents h.crew.0.each;
    agent_limit = h.crew.1;
    names = subst AllDiffer names_are h.crew.0.names.differ;
  }

  agent_is : (agent : ℕ) → agent < length p.crew.agents → IsAgentOf (length p.clocks.1) (agent_at (unit_of p) agent)
  agent_is agent less = h.crew.0.each agent no_agent less

  is_code_for : IsCodeFor (unit_of p) (code_of p)
  is_code_for = record { agents = h.crew.0.as_many; each = its }
    where
      its : (agent : ℕ) → agent < length p.crew.agents → IsAgentCodeFor (unit_of p) agent (agent_code_at (code_of p) agent)
      its agent less =
          let is = h.crew.0.codes agent (agent_at (unit_of p) agent) (slice_get-get_or p.crew.agents agent no_agent less) in
          record {
            points = is.points;
            cells = no_cells (agent_at (unit_of p) agent) (agent_code_at (code_of p) agent).cells (agent_is agent less).slots;
            copies = is.copies.variables ∙ owned_is agent 0 p.variables.1;
            inits = is.copies.inits;
          }

  is_sound : IsSoundImage (record { unit = unit_of p; code = code_of p })
  is_sound = record {
    bare = is_bare;
    inits = All-weaker (IsVariableOf (length p.clocks.1)) (λ (v : VarDecl). FitsSigned w32 v.init) (λ v its. its.init) p.variables.1 h.variables.each;
    parts = is_code_for;
    slots = λ agent less. (agent_is agent less).slots;
    few = h.functions_few;
    sized = record {
      instrs = omega (arith, h.instrs);
      functions = h.functions_few;
      locals = λ number. get_or_holds HasFew p.functions number (record { entry = 0; params = 0; locals = []; counters = 0 }) (omega arith) h.functions;
    };
  }

-- ---- the whole

module _ (named : (text : List ℕ) → is_name text ≡ true → IsName text) where
  says_image : Says IsSoundImage image
  unfolding image
  says_image = λ magic any quantum fits.
      says_then (λ s. AreClocks s × (length s.1 ≤ CLOCKS)) IsSoundImage clocks _ (says_clocks named) (λ cs h0.
      says_then (λ s. AreVariables (length cs.1) cs.0 s × (length s.1 ≤ VARIABLES)) IsSoundImage (variables (length cs.1) (record { names = cs.0; claims = [] })) _ (says_variables named (length cs.1) cs.0 h0.0.names) (λ vs h1.
      says_then (λ s. AreStreams (length cs.1) vs.0 s × (length s.1 ≤ STREAMS)) IsSoundImage (streams (length cs.1) vs.0) _ (says_streams named (length cs.1) vs.0 h1.0.names) (λ ss h2.
      says_then (λ s. All HasFew s × (length s ≤ FUNCTIONS)) IsSoundImage functions _ says_functions (λ fs h3.
      says_then (AreCrew (length cs.1) vs.1 ss.0) IsSoundImage (agents (length cs.1) vs.1 ss.0) _ (says_agents named (length cs.1) vs.1 ss.0 h2.0.names) (λ crew h4.
      says_then (λ s. ⊤ × (length s ≤ 2 ^ 32 - 1)) IsSoundImage instrs _ says_instrs (λ code h5 end none.
      is_sound (record { quantum = quantum; clocks = cs; variables = vs; streams = ss; functions = fs; crew = crew; instrs = code }) (record {
        quantum = (fits.0, fits.1);
        clocks = h0.0;
        clocks_few = h0.1;
        variables = h1.0;
        variables_few = h1.1;
        streams = h2.0;
        streams_few = h2.1;
        functions = h3.0;
        functions_few = h3.1;
        crew = h4;
        instrs = h5.1;
      })))))))

  pub sound_image : (bytes : List ℕ) (it : Image) → spells_image it bytes → IsSoundImage it
  unfolding spells_image
  sound_image bytes it h = said IsSoundImage image bytes it [] says_image h
