-- Reading a state, and the least of its faults.
use Rattle.std.proofs.Common.{◌≡◌, ◌∙◌, ℕ, suc, ◌-◌, ◌≤◌, Bool, true, false, cond, not, List, [], ◌∷◌, ◌++◌, map, length, drop, Some, None, Result, Ok, Err, refl, sym, ap, subst, arith}
use Rattle.std.specs.Prelude.{is_some, nat_eq}
use Rattle.std.specs.List.{flat_map, starts_with}
use Rattle.std.proofs.lemmas.Bool.Decides.{Decides-eqb}
use Rattle.std.proofs.lemmas.Slice.Eq.{starts_is}
use Rattle.std.proofs.lemmas.List.{length-append, length-drop, length-map}
use Rattle.std.proofs.lemmas.Option.{none-some}
use Rattle.psy_dates.specs.declared.opening.AgentOpening.{AgentOpening}
use Rattle.psy_dates.specs.declared.opening.Opening.{Opening}
use Rattle.psy_dates.specs.declared.opening.StreamOpening.{StreamOpening}
use Rattle.psy_dates.specs.declared.opening.VarOpening.{VarOpening}
use Rattle.psy_snap.specs.declared.fault.ReadError.{ReadError}
use Rattle.psy_snap.specs.declared.fault.ReadError.TheVariants as errors
use Rattle.psy_snap.specs.Bytes.{mark}
use Rattle.psy_snap.specs.Cuts.{At, Cut, behind_mark, cut_agent, cut_at, cut_each, cut_state, cut_streams, cut_variable, last_number, on_behind, on_behind_streams, up_to}
use Rattle.psy_snap.specs.Faults.{Fault, agents_faults, faults_by, faults_in, faults_of, has_begun, least_fault, receives, streams_faults, surplus, where_so}
use Rattle.psy_snap.specs.Forms.{AgentForm, Form, StreamForm, VarForm}
use Rattle.psy_snap.specs.Reading.{agent_at, bad, each_at, end_at, field_at, go_on, head_at, state_at, stream_at, variable_at}
use Rattle.psy_snap.proofs.AgentsRead.{Begins, agent_leg, agents_follow, agents_legs, told_legs}
use Rattle.psy_snap.proofs.Legs.{Leads, each_leads, legs, on_legs, onward_legs, shown}
use Rattle.psy_snap.proofs.Parts.{Fits, field_cut, field_cuts, fits_longer, fits_map, fits_then, onward_at, seen}
use Rattle.psy_snap.proofs.Places.{Above, Onward, Decides, above_less, decides_all, decides_first, onward_then}
use Rattle.psy_snap.proofs.StreamsRead.{stream_leg, stream_onward, streams_follow, streams_legs, streams_on}
use Rattle.psy_snap.proofs.VariablesRead.{Untold, variable_leg, variables_faults, variables_follow}

-- ---- the agents

abbrev agent_cuts : List AgentForm → At → List Cut
agent_cuts forms at = cut_each cut_agent forms at

abbrev agent_faults_at : ℕ → List AgentForm → At → List Fault
agent_faults_at date forms at = agents_faults date forms (agent_cuts forms at)

abbrev agents_end : List AgentForm → At → At
agents_end forms at = on_behind (agent_cuts forms at) at

agents_on : (date : ℕ) (forms : List AgentForm) (at : At) → agents_end forms at ≡ (legs (agent_leg date) forms [] at).on
agents_on date forms at = on_legs cut_agent (agent_leg date) (λ form told at. refl) forms [] at

agents_onward : (date : ℕ) (forms : List AgentForm) (at : At) → Onward at (agent_faults_at date forms at) (agents_end forms at)
agents_onward date forms at = rw (agents_legs date forms [] at, agents_on date forms at) (onward_legs (agent_leg date) (agents_follow date).onward forms [] at)

agents_lead : (total date : ℕ) (forms : List AgentForm) (bytes : List ℕ) → length bytes ≤ total
    → Leads Begins total (length bytes) (each_at (agent_at date) forms [] bytes) (legs (agent_leg date) forms [] (seen total bytes))
agents_lead total date forms bytes le = each_leads Begins (agent_at date) (agent_leg date) (agents_follow date) total forms [] [] bytes le refl

agents_fit : (total date : ℕ) (forms : List AgentForm) (bytes : List ℕ) → length bytes ≤ total
    → Fits total (length bytes) (each_at (agent_at date) forms [] bytes) (agent_faults_at date forms (seen total bytes)) (agents_end forms (seen total bytes))
agents_fit total date forms bytes le = rw (agents_legs date forms [] (seen total bytes), agents_on date forms (seen total bytes)) (agents_lead total date forms bytes le).fits

-- Who has begun
agents_told : (total date : ℕ) (forms : List AgentForm) (bytes : List ℕ) → length bytes ≤ total → (agents : List AgentOpening) (rest : List ℕ)
    → each_at (agent_at date) forms [] bytes ≡ Ok (agents, rest) → map (λ (a : AgentOpening). is_some a.begun) agents ≡ map has_begun (agent_cuts forms (seen total bytes))
agents_told total date forms bytes le agents rest is =
    shown Begins (each_at (agent_at date) forms [] bytes) _ agents rest is (agents_lead total date forms bytes le).shows ∙ told_legs date forms [] (seen total bytes)

each_cut : (forms : List AgentForm) (at : At) → length (agent_cuts forms at) ≡ length forms
unfolding cut_each
each_cut [] at = refl
each_cut (form ∷ forms) at = ap suc (each_cut forms (cut_agent form at).on)

agents_count : (forms : List AgentForm) (at : At) (agents : List AgentOpening) → map (λ (a : AgentOpening). is_some a.begun) agents ≡ map has_begun (agent_cuts forms at)
    → length agents ≡ length forms
agents_count forms at agents same =
    sym (length-map agents (λ (a : AgentOpening). is_some a.begun)) ∙ ap length same ∙ length-map (agent_cuts forms at) has_begun ∙ each_cut forms at

-- ---- the variables

abbrev variable_cuts : ℕ → List VarForm → At → List Cut
variable_cuts date forms at = cut_each (λ form. cut_variable form date) forms at

abbrev variable_faults_at : ℕ → List VarForm → At → List Fault
variable_faults_at date forms at = flat_map (λ (c : Cut). faults_in c.fields) (variable_cuts date forms at)

abbrev variables_end : ℕ → List VarForm → At → At
variables_end date forms at = on_behind (variable_cuts date forms at) at

variables_on : (date : ℕ) (forms : List VarForm) (at : At) → variables_end date forms at ≡ (legs (variable_leg date) forms tt at).on
variables_on date forms at = on_legs (λ form. cut_variable form date) (variable_leg date) (λ form told at. refl) forms tt at

variables_onward : (date : ℕ) (forms : List VarForm) (at : At) → Onward at (variable_faults_at date forms at) (variables_end date forms at)
variables_onward date forms at =
    rw (variables_faults date forms at, variables_on date forms at) (onward_legs (variable_leg date) (variables_follow date).onward forms tt at)

variables_fit : (total date : ℕ) (forms : List VarForm) (bytes : List ℕ) → length bytes ≤ total
    → Fits total (length bytes) (each_at (variable_at date) forms [] bytes) (variable_faults_at date forms (seen total bytes)) (variables_end date forms (seen total bytes))
variables_fit total date forms bytes le =
    rw (variables_faults date forms (seen total bytes), variables_on date forms (seen total bytes))
    (each_leads Untold (variable_at date) (variable_leg date) (variables_follow date) total forms [] tt bytes le tt).fits

-- ---- the streams

abbrev stream_faults_at : ℕ → ℕ → List Cut → List StreamForm → At → List Fault
stream_faults_at count date cuts forms at = streams_faults date cuts forms (cut_streams count forms at)

abbrev streams_end : ℕ → List StreamForm → At → At
streams_end count forms at = on_behind_streams (cut_streams count forms at) at

streams_onward : (count date : ℕ) (cuts : List Cut) (forms : List StreamForm) (at : At) → Onward at (stream_faults_at count date cuts forms at) (streams_end count forms at)
streams_onward count date cuts forms at =
    rw (streams_legs count date cuts forms at, streams_on count date cuts forms at)
    (onward_legs (stream_leg count date cuts) (λ form told on. stream_onward count date (receives cuts form) form on) forms tt at)

module _ (date : ℕ) (agents : List AgentOpening) (cuts : List Cut) (same : map (λ (a : AgentOpening). is_some a.begun) agents ≡ map has_begun cuts) where
  streams_fit : (total : ℕ) (forms : List StreamForm) (bytes : List ℕ) → length bytes ≤ total
      → Fits total (length bytes) (each_at (stream_at date agents) forms [] bytes) (stream_faults_at (length agents) date cuts forms (seen total bytes))
      (streams_end (length agents) forms (seen total bytes))
  streams_fit total forms bytes le =
      rw (streams_legs (length agents) date cuts forms (seen total bytes), streams_on (length agents) date cuts forms (seen total bytes))
      (each_leads Untold (stream_at date agents) (stream_leg (length agents) date cuts) (streams_follow date agents cuts same) total forms [] tt bytes le tt).fits

-- ---- what comes behind all of them

-- Nothing is read behind a surplus byte.
abbrev ended : At → At
ended None = None
ended (Some (place, [])) = Some (place, [])
ended (Some (place, byte ∷ bytes)) = None

surplus_onward : (at : At) → Onward at (surplus at) (ended at)
surplus_onward None = λ later behind. behind
surplus_onward (Some (place, [])) = λ later behind. behind
surplus_onward (Some (place, byte ∷ bytes)) = λ later none. (omega arith, subst (λ fs. Above place fs) (sym none) tt)

end_fits : (total : ℕ) (bytes : List ℕ) → Fits total (length bytes) (end_at bytes) (surplus (seen total bytes)) (ended (seen total bytes))
end_fits total [] = (refl, refl, omega arith)
end_fits total (byte ∷ bytes) =
    (omega arith, decides_first (record { number = 1; place = total - length (byte ∷ bytes) }) [] [] None (λ later none. subst (λ fs. Above (suc (total - length (byte ∷ bytes))) fs) (sym none) tt))

-- ---- the mark

mark_there : (bytes : List ℕ) → starts_with nat_eq bytes mark ≡ true → 5 ≤ length bytes
mark_there bytes is = omega (arith, ap length ((starts_is Decides-eqb bytes mark (starts_with nat_eq bytes mark) refl).0 is), length-append mark (drop 5 bytes))

-- ---- all of it, from the back

module _ (form : Form) where
  abbrev streams_on_to : ℕ → List Cut → At → List Fault
  streams_on_to date cuts at = stream_faults_at (length form.agents) date cuts form.streams at ++ surplus (streams_end (length form.agents) form.streams at)

  abbrev last_end : At → At
  last_end at = ended (streams_end (length form.agents) form.streams at)

  streams_on_to_onward : (date : ℕ) (cuts : List Cut) (at : At) → Onward at (streams_on_to date cuts at) (last_end at)
  streams_on_to_onward date cuts at = onward_then at _ _ _ _ (streams_onward (length form.agents) date cuts form.streams at) (surplus_onward (streams_end (length form.agents) form.streams at))

  abbrev variables_on_to : ℕ → List Cut → At → List Fault
  variables_on_to date cuts at = variable_faults_at date form.variables at ++ streams_on_to date cuts (variables_end date form.variables at)

  variables_on_to_onward : (date : ℕ) (cuts : List Cut) (at : At) → Onward at (variables_on_to date cuts at) (last_end (variables_end date form.variables at))
  variables_on_to_onward date cuts at = onward_then at _ _ _ _ (variables_onward date form.variables at) (streams_on_to_onward date cuts (variables_end date form.variables at))

  abbrev agents_on_to : ℕ → At → List Fault
  agents_on_to date at = agent_faults_at date form.agents at ++ variables_on_to date (agent_cuts form.agents at) (agents_end form.agents at)

  abbrev all_end : ℕ → At → At
  all_end date at = last_end (variables_end date form.variables (agents_end form.agents at))

  agents_on_to_onward : (date : ℕ) (at : At) → Onward at (agents_on_to date at) (all_end date at)
  agents_on_to_onward date at = onward_then at _ _ _ _ (agents_onward date form.agents at) (variables_on_to_onward date (agent_cuts form.agents at) (agents_end form.agents at))

  -- ---- reading, from the back

  abbrev made : ℕ → List AgentOpening → List VarOpening → List StreamOpening → Opening
  made date agents variables streams = record { date = date; agents = agents; variables = variables; streams = streams }

  abbrev read_streams : ℕ → List AgentOpening → List VarOpening → List ℕ → Result (Opening × List ℕ) ReadError
  read_streams date agents variables bytes =
      go_on (each_at (stream_at date agents) form.streams [] bytes) (λ streams rest. go_on (end_at rest) (λ _ last. Ok (made date agents variables streams, last)))

  abbrev read_variables : ℕ → List AgentOpening → List ℕ → Result (Opening × List ℕ) ReadError
  read_variables date agents bytes = go_on (each_at (variable_at date) form.variables [] bytes) (λ variables rest. read_streams date agents variables rest)

  abbrev read_agents : ℕ → List ℕ → Result (Opening × List ℕ) ReadError
  read_agents date bytes = go_on (each_at (agent_at date) form.agents [] bytes) (λ agents rest. read_variables date agents rest)

  abbrev AreTold : List AgentOpening → List Cut → Type 0
  AreTold agents cuts = map (λ (a : AgentOpening). is_some a.begun) agents ≡ map has_begun cuts

  fits_streams : (total date : ℕ) (agents : List AgentOpening) (cuts : List Cut) → AreTold agents cuts → length agents ≡ length form.agents
      → (variables : List VarOpening) (bytes : List ℕ) → length bytes ≤ total
      → Fits total (length bytes) (read_streams date agents variables bytes) (streams_on_to date cuts (seen total bytes)) (last_end (seen total bytes))
  fits_streams total date agents cuts same count variables bytes le =
      fits_then total (length bytes) (each_at (stream_at date agents) form.streams [] bytes) _ _ _ _ _
      (subst (λ n. Fits total (length bytes) (each_at (stream_at date agents) form.streams [] bytes) (stream_faults_at n date cuts form.streams (seen total bytes)) (streams_end n form.streams (seen total bytes)))
      count (streams_fit date agents cuts same total form.streams bytes le))
      (surplus_onward (streams_end (length form.agents) form.streams (seen total bytes)))
      (λ streams rest is on less.
      subst (λ on. Fits total (length rest) (go_on (end_at rest) (λ _ last. Ok (made date agents variables streams, last))) (surplus on) (ended on)) (sym on)
      (fits_map total (length rest) (end_at rest) (λ _. made date agents variables streams) _ _ (end_fits total rest)))

  fits_variables : (total date : ℕ) (agents : List AgentOpening) (cuts : List Cut) → AreTold agents cuts → length agents ≡ length form.agents → (bytes : List ℕ) → length bytes ≤ total
      → Fits total (length bytes) (read_variables date agents bytes) (variables_on_to date cuts (seen total bytes)) (last_end (variables_end date form.variables (seen total bytes)))
  fits_variables total date agents cuts same count bytes le =
      fits_then total (length bytes) (each_at (variable_at date) form.variables [] bytes) _ _ _ _ _
      (variables_fit total date form.variables bytes le)
      (streams_on_to_onward date cuts (variables_end date form.variables (seen total bytes)))
      (λ variables rest is on less.
      subst (λ on. Fits total (length rest) (read_streams date agents variables rest) (streams_on_to date cuts on) (last_end on)) (sym on)
      (fits_streams total date agents cuts same count variables rest (omega (arith, le, less))))

  fits_agents : (total date : ℕ) (bytes : List ℕ) → length bytes ≤ total
      → Fits total (length bytes) (read_agents date bytes) (agents_on_to date (seen total bytes)) (all_end date (seen total bytes))
  fits_agents total date bytes le =
      fits_then total (length bytes) (each_at (agent_at date) form.agents [] bytes) _ _ _ _ _
      (agents_fit total date form.agents bytes le)
      (variables_on_to_onward date (agent_cuts form.agents (seen total bytes)) (agents_end form.agents (seen total bytes)))
      (λ agents rest is on less.
      let same = agents_told total date form.agents bytes le agents rest is in
      subst (λ on. Fits total (length rest) (read_variables date agents rest) (variables_on_to date (agent_cuts form.agents (seen total bytes)) on) (last_end (variables_end date form.variables on))) (sym on)
      (fits_variables total date agents (agent_cuts form.agents (seen total bytes)) same (agents_count form.agents (seen total bytes) agents same) rest (omega (arith, le, less))))

  -- ---- the mark and the date

  abbrev date_cut : At → Cut
  date_cut at = cut_at (up_to form.until) at

  abbrev from_date : At → List Fault
  from_date at = faults_in (date_cut at).fields ++ agents_on_to (last_number (date_cut at).fields) (date_cut at).on

  abbrev date_end : At → At
  date_end at = all_end (last_number (date_cut at).fields) (date_cut at).on

  from_date_onward : (at : At) → Onward at (from_date at) (date_end at)
  from_date_onward at = onward_then at _ _ _ _ (onward_at (up_to form.until) at) (agents_on_to_onward (last_number (date_cut at).fields) (date_cut at).on)

  abbrev read_date : List ℕ → Result (Opening × List ℕ) ReadError
  read_date bytes = go_on (field_at (up_to form.until) bytes) (λ date rest. read_agents date rest)

  fits_date : (total : ℕ) (bytes : List ℕ) → length bytes ≤ total → Fits total (length bytes) (read_date bytes) (from_date (seen total bytes)) (date_end (seen total bytes))
  fits_date total bytes le =
      fits_then total (length bytes) (field_at (up_to form.until) bytes) _ _ _ _ _ (field_cuts total (up_to form.until) bytes le)
      (agents_on_to_onward (last_number (date_cut (seen total bytes)).fields) (date_cut (seen total bytes)).on)
      (λ date rest is on less.
      subst (λ (c : Cut). Fits total (length rest) (read_agents date rest) (agents_on_to (last_number c.fields) c.on) (all_end (last_number c.fields) c.on))
      (sym (field_cut total (up_to form.until) bytes le date rest is)) (fits_agents total date rest (omega (arith, le, less))))

  -- What is read behind the mark, where it is there
  abbrev read_by : Bool → List ℕ → Result (Opening × List ℕ) ReadError
  read_by marked bytes = go_on (cond marked (field_at (up_to form.until) (drop 5 bytes)) (bad (length bytes))) (λ date rest. read_agents date rest)

  state_is : (bytes : List ℕ) → state_at form bytes ≡ read_by (starts_with nat_eq bytes mark) bytes
  unfolding state_at head_at
  state_is bytes = refl

  fits_by : (marked : Bool) (bytes : List ℕ) → starts_with nat_eq bytes mark ≡ marked
      → Fits (length bytes) (length bytes) (read_by marked bytes) (where_so (not marked) 1 0 ++ from_date (behind_mark bytes)) (date_end (behind_mark bytes))
  fits_by true bytes is =
      let there : 5 ≤ length bytes = mark_there bytes is in
      let less : length (drop 5 bytes) ≤ length bytes = omega (arith, length-drop 5 bytes) in
      let five : length bytes - length (drop 5 bytes) ≡ 5 = omega (arith, there, length-drop 5 bytes) in
      fits_longer (length bytes) (length (drop 5 bytes)) (length bytes) (read_date (drop 5 bytes)) _ _ less
      (subst (λ place. Fits (length bytes) (length (drop 5 bytes)) (read_date (drop 5 bytes)) (from_date (Some (place, drop 5 bytes))) (date_end (Some (place, drop 5 bytes)))) five
      (fits_date (length bytes) (drop 5 bytes) less))
  fits_by false bytes is =
      let none : length bytes - length bytes ≡ 0 = omega arith in (
        omega arith,
        subst (λ place. Decides (where_so true 1 0 ++ from_date (behind_mark bytes)) (date_end (behind_mark bytes)) (record { number = 1; place = place })) (sym none)
            (decides_first (record { number = 1; place = 0 }) [] (from_date (behind_mark bytes)) (date_end (behind_mark bytes))
            (λ later behind. above_less 5 1 _ (omega arith) (from_date_onward (behind_mark bytes) later behind))),
      )

  state_fits : (bytes : List ℕ) → Fits (length bytes) (length bytes) (state_at form bytes) (faults_of form bytes) (date_end (behind_mark bytes))
  unfolding faults_of faults_by cut_state
  state_fits bytes = subst (λ r. Fits (length bytes) (length bytes) r (where_so (not (starts_with nat_eq bytes mark)) 1 0 ++ from_date (behind_mark bytes)) (date_end (behind_mark bytes)))
      (sym (state_is bytes)) (fits_by (starts_with nat_eq bytes mark) bytes refl)

  -- ---- what reading says of the least fault

  pub read_sound : (bytes : List ℕ) (opening : Opening) (rest : List ℕ) → state_at form bytes ≡ Ok (opening, rest) → least_fault (faults_of form bytes) ≡ None
  unfolding least_fault
  read_sound bytes opening rest is =
      ap least_fault (subst (λ r. Fits (length bytes) (length bytes) r (faults_of form bytes) (date_end (behind_mark bytes))) is (state_fits bytes)).0

  pub read_fault : (bytes : List ℕ) (number left : ℕ) → state_at form bytes ≡ Err (errors.Bad number left)
      → (left ≤ length bytes) × (least_fault (faults_of form bytes) ≡ Some (record { number = number; place = length bytes - left }))
  read_fault bytes number left is =
      let fits = subst (λ r. Fits (length bytes) (length bytes) r (faults_of form bytes) (date_end (behind_mark bytes))) is (state_fits bytes) in
      (fits.0, decides_all (faults_of form bytes) (date_end (behind_mark bytes)) (record { number = number; place = length bytes - left }) fits.1)

  -- Where there is no fault, a state is read.
  pub read_well : (bytes : List ℕ) → least_fault (faults_of form bytes) ≡ None → (opening : Opening) × (rest : List ℕ) × (state_at form bytes ≡ Ok (opening, rest))
  read_well bytes none = by (state_at form bytes) refl
    where
      by : (r : Result (Opening × List ℕ) ReadError) → state_at form bytes ≡ r → (opening : Opening) × (rest : List ℕ) × (state_at form bytes ≡ Ok (opening, rest))
      by (Ok x) is = (x.0, x.1, is)
      by (Err (errors.Bad number left)) is = absurd (none-some _ (sym none ∙ (read_fault bytes number left is).1))
      by (Err errors.Memory) is = absurd (subst (λ r. Fits (length bytes) (length bytes) r (faults_of form bytes) (date_end (behind_mark bytes))) is (state_fits bytes))
