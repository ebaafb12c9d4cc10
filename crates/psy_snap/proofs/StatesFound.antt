-- A state without a fault is found where the bytes spell it: what is read of them is that state, and no part of it is at fault.
use Rattle.std.proofs.Common.{◌≡◌, ◌∙◌, ℕ, suc, ◌^◌, ◌<◌, ◌≤◌, List, [], ◌∷◌, ◌++◌, append-nil, append_assoc, length, Some, None, Result, Ok, refl, sym, ap, arith}
use Rattle.std.specs.Prelude.{⊤, slice_get}
use Rattle.std.specs.List.{All, flat_map}
use Rattle.std.proofs.lemmas.Bool.{leb-true}
use Rattle.std.proofs.lemmas.List.Elements.{All-head, All-tail}
use Rattle.psy_dates.specs.declared.opening.AgentOpening.{AgentOpening}
use Rattle.psy_dates.specs.declared.opening.Opening.{Opening}
use Rattle.psy_dates.specs.declared.opening.StreamOpening.{StreamOpening}
use Rattle.psy_dates.specs.declared.opening.VarOpening.{VarOpening}
use Rattle.psy_snap.specs.declared.fault.ReadError.{ReadError}
use Rattle.psy_snap.specs.Bytes.{agent_bytes, mark, number_bytes, spelling, stream_bytes, variable_bytes}
use Rattle.psy_snap.specs.Cuts.{up_to}
use Rattle.psy_snap.specs.Faults.{faults_of, least_fault}
use Rattle.psy_snap.specs.Forms.{Form}
use Rattle.psy_snap.specs.Ranges.{FitsAgent, FitsState, FitsStream, FitsVariable}
use Rattle.psy_snap.specs.Reading.{agent_at, each_at, end_at, go_on, head_at, state_at, stream_at, variable_at}
use Rattle.psy_snap.specs.Shapes.{AreOf, HasAgentForm, HasForm, HasStreamForm, HasVarForm}
use Rattle.psy_snap.proofs.AgentsFound.{IsAgentRight, finds_agents}
use Rattle.psy_snap.proofs.Finds.{Both, Finds, Rights, finds_field, finds_said, finds_then, finds_weaker, rights_pairs}
use Rattle.psy_snap.proofs.MessagesFound.{IsStreamRight, finds_streams}
use Rattle.psy_snap.proofs.Spelled.{Pairs, are_of}
use Rattle.psy_snap.proofs.StatesRead.{read_well}
use Rattle.psy_snap.proofs.Steps.{ok_is}
use Rattle.psy_snap.proofs.VariablesFound.{IsVariableRight, finds_variables}

-- No part of it is at fault.
pub record IsStateRight (form : Form) (opening : Opening) : Type 0 where
  pub date : opening.date ≤ form.until
  pub agents : AreOf (IsAgentRight opening.date) form.agents opening.agents
  pub variables : AreOf (IsVariableRight opening.date) form.variables opening.variables
  pub streams : AreOf (IsStreamRight opening.date opening.agents) form.streams opening.streams

-- Each has what it is to have, and its numbers are in their ranges.
pairs_good : {F X : Type 0} (Has : F → X → Type 0) (FitsIts : X → Type 0) (forms : List F) (xs : List X) → length xs ≡ length forms
    → ((i : ℕ) (form : F) (x : X) → slice_get forms i ≡ Some form → slice_get xs i ≡ Some x → Has form x) → All FitsIts xs → Pairs (λ form x. Both (Has form x) (FitsIts x)) forms xs
pairs_good Has FitsIts [] [] same has fits = tt
pairs_good Has FitsIts [] (x ∷ xs) same has fits = absurd (omega (arith, same))
pairs_good Has FitsIts (form ∷ forms) [] same has fits = absurd (omega (arith, same))
pairs_good Has FitsIts (form ∷ forms) (x ∷ xs) same has fits = (
  record { first = has 0 form x refl refl; second = All-head FitsIts x xs fits },
  pairs_good Has FitsIts forms xs (omega (arith, same)) (λ i f y there is. has (suc i) f y there is) (All-tail FitsIts x xs fits),
)

finds_head : (until date : ℕ) → date < 2 ^ 32 → Finds (head_at until) (mark ++ number_bytes date) date (λ rest. date ≤ until)
unfolding head_at
finds_head until date small = record {
  found = λ rest x last e.
      let it = (finds_field (up_to until) date small).found rest x last e in
      record { is = it.is; behind = it.behind; holds = leb-true _ _ it.holds };
}

at_end : (bytes : List ℕ) (x : ⊤) (last : List ℕ) → end_at bytes ≡ Ok (x, last) → (tt ≡ x) × (bytes ≡ last)
at_end [] x last e =
    let same : (tt, []) ≡ (x, last) = ok_is (tt, []) (x, last) e in
    (ap (λ p. p.0) same, ap (λ p. p.1) same)
at_end (byte ∷ bytes) x last e = absurd cc

finds_end : Finds end_at [] tt (λ rest. ⊤)
finds_end = record {
  found = λ rest x last e.
      let it = at_end rest x last e in
      record { is = sym it.0; behind = sym it.1; holds = tt };
}

module _ (form : Form) where
  abbrev made : ℕ → List AgentOpening → List VarOpening → List StreamOpening → Opening
  made date agents variables streams = record { date = date; agents = agents; variables = variables; streams = streams }

  abbrev Read : Type 0
  Read = Result (Opening × List ℕ) ReadError

  abbrev with_end : ℕ → List AgentOpening → List VarOpening → List StreamOpening → List ℕ → Read
  with_end date agents variables streams bytes = go_on (end_at bytes) (λ _ last. Ok (made date agents variables streams, last))

  abbrev with_streams : ℕ → List AgentOpening → List VarOpening → List ℕ → Read
  with_streams date agents variables bytes = go_on (each_at (stream_at date agents) form.streams [] bytes) (with_end date agents variables)

  abbrev with_variables : ℕ → List AgentOpening → List ℕ → Read
  with_variables date agents bytes = go_on (each_at (variable_at date) form.variables [] bytes) (with_streams date agents)

  abbrev with_agents : ℕ → List ℕ → Read
  with_agents date bytes = go_on (each_at (agent_at date) form.agents [] bytes) (with_variables date)

  module _ (date : ℕ) (agents : List AgentOpening) (variables : List VarOpening) (streams : List StreamOpening)
      (has : HasForm form (record { date = date; agents = agents; variables = variables; streams = streams }))
      (fits : FitsState (record { date = date; agents = agents; variables = variables; streams = streams })) where
    abbrev it : Opening
    it = made date agents variables streams

    abbrev agent_part : List ℕ
    agent_part = flat_map agent_bytes agents

    abbrev variable_part : List ℕ
    variable_part = flat_map variable_bytes variables

    abbrev stream_part : List ℕ
    stream_part = flat_map stream_bytes streams

    right_agents : Rights (λ form before agent. IsAgentRight date form agent) form.agents [] agents → AreOf (IsAgentRight date) form.agents agents
    right_agents right = are_of (IsAgentRight date) form.agents agents (rights_pairs (IsAgentRight date) form.agents [] agents has.agents.count right)

    right_variables : Rights (λ form before variable. IsVariableRight date form variable) form.variables [] variables → AreOf (IsVariableRight date) form.variables variables
    right_variables right = are_of (IsVariableRight date) form.variables variables (rights_pairs (IsVariableRight date) form.variables [] variables has.variables.count right)

    right_streams : Rights (λ form before stream. IsStreamRight date agents form stream) form.streams [] streams → AreOf (IsStreamRight date agents) form.streams streams
    right_streams right = are_of (IsStreamRight date agents) form.streams streams (rights_pairs (IsStreamRight date agents) form.streams [] streams has.streams.count right)

    finds_state : Finds (state_at form) ((mark ++ number_bytes date) ++ (agent_part ++ (variable_part ++ (stream_part ++ [])))) it (λ rest. IsStateRight form it)
    unfolding state_at
    finds_state =
        finds_weaker (state_at form) ((mark ++ number_bytes date) ++ (agent_part ++ (variable_part ++ (stream_part ++ [])))) it
        (λ rest h. record { date = h.first; agents = right_agents h.second.first; variables = right_variables h.second.second.first; streams = right_streams h.second.second.second.first })
        (finds_then (head_at form.until) with_agents (mark ++ number_bytes date) (agent_part ++ (variable_part ++ (stream_part ++ []))) date it (finds_head form.until date fits.date)
        (finds_then (each_at (agent_at date) form.agents []) (with_variables date) agent_part (variable_part ++ (stream_part ++ [])) agents it
        (finds_agents date form.agents agents (pairs_good HasAgentForm FitsAgent form.agents agents has.agents.count has.agents.each fits.agents))
        (finds_then (each_at (variable_at date) form.variables []) (with_streams date agents) variable_part (stream_part ++ []) variables it
        (finds_variables date form.variables variables (pairs_good HasVarForm FitsVariable form.variables variables has.variables.count has.variables.each fits.variables))
        (finds_then (each_at (stream_at date agents) form.streams []) (with_end date agents variables) stream_part [] streams it
        (finds_streams date agents form.streams streams (pairs_good HasStreamForm FitsStream form.streams streams has.streams.count has.streams.each fits.streams))
        (finds_said end_at (λ _. it) [] tt finds_end)))))

    spelled : ((mark ++ number_bytes date) ++ (agent_part ++ (variable_part ++ (stream_part ++ [])))) ++ [] ≡ spelling it
    unfolding spelling
    spelled =
        append-nil ((mark ++ number_bytes date) ++ (agent_part ++ (variable_part ++ (stream_part ++ []))))
        ∙ append_assoc mark (number_bytes date) (agent_part ++ (variable_part ++ (stream_part ++ [])))
        ∙ ap (λ bs. mark ++ (number_bytes date ++ (agent_part ++ (variable_part ++ bs)))) (append-nil stream_part)

    -- What is read of its bytes is the state itself.
    found_state : (read : Opening) (rest : List ℕ) → state_at form (spelling it) ≡ Ok (read, rest) → (read ≡ it) × IsStateRight form it
    found_state read rest e =
        let found = finds_state.found [] read rest (ap (state_at form) spelled ∙ e) in
        (found.is, found.holds)

-- The state is right, and is what its bytes give.
pub state_right : (form : Form) (opening : Opening) → HasForm form opening → FitsState opening → least_fault (faults_of form (spelling opening)) ≡ None → IsStateRight form opening
state_right form opening has fits none =
    let (read, rest, e) = read_well form (spelling opening) none in
    (found_state form opening.date opening.agents opening.variables opening.streams has fits read rest e).1

-- Two states that are spelled alike are the same.
pub state_same : (form : Form) (opening other : Opening) → HasForm form opening → FitsState opening → HasForm form other → FitsState other
    → least_fault (faults_of form (spelling opening)) ≡ None → spelling opening ≡ spelling other → opening ≡ other
state_same form opening other has fits other_has other_fits none same =
    let (read, rest, e) = read_well form (spelling opening) none in
    sym (found_state form opening.date opening.agents opening.variables opening.streams has fits read rest e).0
    ∙ (found_state form other.date other.agents other.variables other.streams other_has other_fits read rest (ap (state_at form) (sym same) ∙ e)).0
