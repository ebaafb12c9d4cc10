-- A unit and a code that keep the ranges of an image have bytes that spell it.
use Rattle.std.proofs.Common.{◌≡◌, ◌∙◌, ℕ, ◌-◌, ◌^◌, ◌≤◌, List, [], ◌∷◌, ◌++◌, map, length, append-nil, append_assoc, Some, refl, sym, ap, subst, arith}
use Rattle.std.specs.Prelude.{FitsSigned, slice_get, true}
use Rattle.std.specs.Int.{w32}
use Rattle.psy_base.specs.declared.limits.TheConstants.{FUNCTIONS, QUANTUM}
use Rattle.psy_clock.specs.declared.clock.Clock.{Clock}
use Rattle.psy_clock.specs.Dates.{IsClock}
use Rattle.psy_code.specs.declared.code.AgentCode.{AgentCode}
use Rattle.psy_code.specs.declared.code.Code.{Code}
use Rattle.psy_code.specs.declared.code.FunctionCode.{FunctionCode}
use Rattle.psy_code.specs.declared.instr.Instr.{Instr}
use Rattle.psy_image.specs.declared.image.Image.{Image}
use Rattle.psy_image.specs.Answers.{KeepRanges, emptied_agent, image_of}
use Rattle.psy_image.specs.Bytes.{agents_bytes, clocks_bytes, function_bytes, instr_bytes, list_bytes, number_bytes, stream_bytes, variable_bytes}
use Rattle.psy_image.specs.Fields.{End}
use Rattle.psy_image.specs.Formats.{Format, Done, Spells, ◌>>=◌, field}
use Rattle.psy_image.specs.Images.{agents, clocks, functions, image, instrs, spells_image, streams, variables}
use Rattle.psy_image.specs.Names.{is_name}
use Rattle.psy_meaning.specs.Sound.{Each}
use Rattle.psy_meaning.specs.Units.{AllDiffer, IsBare, IsBareAgent, IsBareStream, IsBareVariable}
use Rattle.psy_tree.specs.declared.unit.AgentDecl.{AgentDecl}
use Rattle.psy_tree.specs.declared.unit.StreamDecl.{StreamDecl}
use Rattle.psy_tree.specs.declared.unit.Unit.{Unit as Whole}
use Rattle.psy_tree.specs.declared.unit.VarDecl.{VarDecl}
use Rattle.psy_build.proofs.Fit.{Fit}
use Rattle.psy_build.proofs.Gets.{Gets, Says, gets_by, gets_done, gets_end, gets_number, gets_then, gets_these}
use Rattle.psy_build.proofs.Lists.{each_of, pairs}
use Rattle.psy_build.proofs.SpelledAgents.{IsFitAgent, gets_agents}
use Rattle.psy_build.proofs.SpelledCode.{gets_instrs}
use Rattle.psy_build.proofs.SpelledParts.{IsFitFunction, StreamsRead, VariablesRead, gets_clocks, gets_functions, gets_streams, gets_variables}

-- The names that an image has
abbrev pub names_of : Whole → List (List ℕ)
names_of unit = unit.clock_names ++ (map (λ (v : VarDecl). v.name) unit.variables ++ (map (λ (c : StreamDecl). c.name) unit.streams ++ map (λ (a : AgentDecl). a.name) unit.agents))

-- Unit and code keep the ranges of an image, field by field.
pub record HasRanges (unit : Whole) (code : Code) : Type 0 where
  pub bare : IsBare unit
  pub differ : AllDiffer (names_of unit)
  pub clock_names : Each (λ name. is_name name ≡ true) unit.clock_names
  pub variable_names : Each (λ (v : VarDecl). is_name v.name ≡ true) unit.variables
  pub stream_names : Each (λ (c : StreamDecl). is_name c.name ≡ true) unit.streams
  pub agent_names : Each (λ (a : AgentDecl). is_name a.name ≡ true) unit.agents
  pub inits : Each (λ (v : VarDecl). FitsSigned w32 v.init) unit.variables
  pub functions : Each IsFitFunction code.functions
  pub function_limit : length code.functions ≤ FUNCTIONS
  pub all_agents : length unit.agents ≡ length code.agents
  pub agents : (number : ℕ) (p : AgentDecl × AgentCode) → slice_get (pairs unit.agents code.agents) number ≡ Some p → IsFitAgent unit number p.0 p.1
  pub instrs : Each Fit code.instrs
  pub instr_limit : length code.instrs ≤ 2 ^ 32 - 1

-- A unit that has been read
abbrev read_unit : ℕ → List (List ℕ) × List Clock → List VarDecl → List StreamDecl → List AgentDecl → Whole
read_unit quantum its_clocks vs cs crew = record { quantum = quantum; clocks = its_clocks.1; clock_names = its_clocks.0; variables = vs; streams = cs; functions = []; agents = crew }

abbrev read_image : ℕ → List (List ℕ) × List Clock → List VarDecl → List StreamDecl → List FunctionCode → List AgentDecl → List AgentCode → List Instr → Image
read_image quantum its_clocks vs cs fs crew codes code =
    record { unit = read_unit quantum its_clocks vs cs crew; code = record { instrs = code; agents = codes; functions = fs } }

same_image : (unit : Whole) (code : Code) (its : List (List ℕ) × List Clock) (vs : List VarDecl) (cs : List StreamDecl) (fs : List FunctionCode) (crew : List AgentDecl) (codes : List AgentCode) (all : List Instr)
    → its ≡ (unit.clock_names, unit.clocks) → vs ≡ unit.variables → cs ≡ unit.streams → fs ≡ code.functions → crew ≡ map emptied_agent unit.agents → codes ≡ code.agents → all ≡ code.instrs
    → read_image unit.quantum its vs cs fs crew codes all ≡ image_of unit code
same_image unit code its vs cs fs crew codes all a b c d e f g =
    let names : List (List ℕ) × List Clock = (unit.clock_names, unit.clocks) in
    ap (λ (x : List (List ℕ) × List Clock). read_image unit.quantum x vs cs fs crew codes all) a
    ∙ ap (λ (x : List VarDecl). read_image unit.quantum names x cs fs crew codes all) b
    ∙ ap (λ (x : List StreamDecl). read_image unit.quantum names unit.variables x fs crew codes all) c
    ∙ ap (λ (x : List FunctionCode). read_image unit.quantum names unit.variables unit.streams x crew codes all) d
    ∙ ap (λ (x : List AgentDecl). read_image unit.quantum names unit.variables unit.streams code.functions x codes all) e
    ∙ ap (λ (x : List AgentCode). read_image unit.quantum names unit.variables unit.streams code.functions (map emptied_agent unit.agents) x all) f
    ∙ ap (λ (x : List Instr). read_image unit.quantum names unit.variables unit.streams code.functions (map emptied_agent unit.agents) code.agents x) g

abbrev magic_bytes : List ℕ
magic_bytes = 80 ∷ 83 ∷ 89 ∷ 67 ∷ 1 ∷ []

-- What is read behind the clocks
abbrev image_behind : ℕ → List (List ℕ) × List Clock → Format Image
image_behind quantum its_clocks = do
  its_variables ← variables (length its_clocks.1) (record { names = its_clocks.0; claims = [] })
  its_streams ← streams (length its_clocks.1) its_variables.0
  its_functions ← functions
  its_agents ← agents (length its_clocks.1) its_variables.1 its_streams.0
  its_instrs ← instrs
  end ← field End
  Done (read_image quantum its_clocks its_variables.1 its_streams.1 its_functions its_agents.agents its_agents.codes its_instrs)

module _ (unit : Whole) (code : Code) (has : HasRanges unit code) where
  abbrev vn : List (List ℕ)
  vn = map (λ (v : VarDecl). v.name) unit.variables

  abbrev sn : List (List ℕ)
  sn = map (λ (c : StreamDecl). c.name) unit.streams

  abbrev an : List (List ℕ)
  an = map (λ (a : AgentDecl). a.name) unit.agents

  differ_streams : AllDiffer ((unit.clock_names ++ vn) ++ (sn ++ an))
  differ_streams = subst AllDiffer (sym (append_assoc unit.clock_names vn (sn ++ an))) has.differ

  differ_agents : AllDiffer (((unit.clock_names ++ vn) ++ sn) ++ (an ++ []))
  differ_agents = subst AllDiffer (sym (append_assoc (unit.clock_names ++ vn) sn an) ∙ ap (λ l. ((unit.clock_names ++ vn) ++ sn) ++ l) (sym (append-nil an))) differ_streams

  abbrev t7 : List ℕ
  t7 = []

  abbrev t6 : List ℕ
  t6 = list_bytes instr_bytes code.instrs ++ t7

  abbrev t5 : List ℕ
  t5 = agents_bytes unit.agents code.agents ++ t6

  abbrev t4 : List ℕ
  t4 = list_bytes function_bytes code.functions ++ t5

  abbrev t3 : List ℕ
  t3 = list_bytes stream_bytes unit.streams ++ t4

  abbrev t2 : List ℕ
  t2 = list_bytes variable_bytes unit.variables ++ t3

  abbrev t1 : List ℕ
  t1 = clocks_bytes unit.clock_names unit.clocks ++ t2

  abbrev W : Image → List ℕ → Type 0
  W it now = (it ≡ image_of unit code) × (now ≡ [])

  -- What is read behind the clocks, where they are these
  gets_rest : Gets W (image_behind unit.quantum (unit.clock_names, unit.clocks)) t2
  gets_rest =
      gets_then (λ u now. VariablesRead (length unit.agents) unit.clock_names unit.variables u × (now ≡ t3)) W (variables (length unit.clocks) (record { names = unit.clock_names; claims = [] })) _ t2
      (gets_variables unit unit.clock_names (sn ++ an) (record { names = unit.clock_names; claims = [] }) unit.variables t3 has.bare.variable_limit has.bare.agent_limit has.bare.clock_limit has.variable_names
      (each_of (IsBareVariable unit) unit.variables has.bare.variables) has.inits has.differ refl tt)
      (λ v now3 read3. gets_by W _ now3 t3 read3.1
      (gets_then (λ u now. StreamsRead (length unit.agents) (unit.clock_names ++ vn) unit.streams u × (now ≡ t4)) W (streams (length unit.clocks) v.0) _ t3
      (gets_streams unit (unit.clock_names ++ vn) an v.0 unit.streams t4 has.bare.stream_limit has.bare.agent_limit has.bare.clock_limit has.stream_names
      (each_of (IsBareStream unit) unit.streams has.bare.streams) differ_streams read3.0.1 read3.0.2)
      (λ c now4 read4. gets_by W _ now4 t4 read4.1
      (gets_then (Says code.functions t5) W functions _ t4 (gets_functions code.functions t5 has.function_limit has.functions)
      (λ fs now5 read5. gets_by W _ now5 t5 read5.1
      (gets_then (λ u now. ((u.agents ≡ map emptied_agent unit.agents) × (u.codes ≡ code.agents)) × (now ≡ t6)) W (agents (length unit.clocks) v.1 c.0) _ t5
      (subst (λ vs. Gets (λ u now. ((u.agents ≡ map emptied_agent unit.agents) × (u.codes ≡ code.agents)) × (now ≡ t6)) (agents (length unit.clocks) vs c.0) t5) (sym read3.0.0)
      (gets_agents unit code.agents ((unit.clock_names ++ vn) ++ sn) c.0 t6 has.all_agents has.bare.agent_limit has.bare.clock_limit has.agent_names
      (each_of (IsBareAgent unit) unit.agents has.bare.agents) has.agents differ_agents read4.0.1 read4.0.2))
      (λ crew now6 read6. gets_by W _ now6 t6 read6.1
      (gets_then (Says code.instrs t7) W instrs _ t6 (gets_instrs code.instrs t7 has.instr_limit has.instrs)
      (λ all now7 read7. gets_by W _ now7 [] read7.1
      (gets_end W _ (gets_done W _ [] (same_image unit code (unit.clock_names, unit.clocks) v.1 c.1 fs crew.agents crew.codes all refl read3.0.0 read4.0.0 read5.0 read6.0.0 read6.0.1 read7.0, refl))))))))))))

  gets_image : Gets W image (magic_bytes ++ (number_bytes unit.quantum ++ t1))
  unfolding image
  gets_image =
      gets_these W magic_bytes _ (number_bytes unit.quantum ++ t1)
      (gets_number W 1 QUANTUM unit.quantum _ t1 has.bare.quantum.0 has.bare.quantum.1 (omega (arith, has.bare.quantum.1))
      (gets_then (Says (unit.clock_names, unit.clocks) t2) W clocks (image_behind unit.quantum) t1
      (gets_clocks unit.clock_names unit.clocks (vn ++ (sn ++ an)) t2 has.bare.clocks_named has.bare.clock_limit has.clock_names (each_of IsClock unit.clocks has.bare.clocks) has.differ)
      (λ its now h. gets_by W _ now t2 h.1 (subst (λ (x : List (List ℕ) × List Clock). Gets W (image_behind unit.quantum x) t2) (sym h.0) gets_rest))))

  pub keep_ranges : KeepRanges unit code
  unfolding KeepRanges spells_image
  keep_ranges = let (it, rest, spells, is) = gets_image in
      (magic_bytes ++ (number_bytes unit.quantum ++ t1), spelled it rest spells is.0 is.1)
    where
      spelled : (it : Image) (rest : List ℕ) → Spells image (magic_bytes ++ (number_bytes unit.quantum ++ t1)) it rest → it ≡ image_of unit code → rest ≡ [] → Spells image (magic_bytes ++ (number_bytes unit.quantum ++ t1)) (image_of unit code) []
      spelled it rest h same none = subst (λ left. Spells image (magic_bytes ++ (number_bytes unit.quantum ++ t1)) (image_of unit code) left) none
          (subst (λ (x : Image). Spells image (magic_bytes ++ (number_bytes unit.quantum ++ t1)) x rest) same h)
