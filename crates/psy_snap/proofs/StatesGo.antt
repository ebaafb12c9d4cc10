-- A state that is right has no fault: reading its bytes goes well.
use Rattle.std.proofs.Common.{◌≡◌, ◌∙◌, ℕ, suc, ◌^◌, ◌<◌, ◌≤◌, List, [], ◌∷◌, ◌++◌, append-nil, append_assoc, length, Some, None, Result, Ok, refl, sym, ap, subst, arith}
use Rattle.std.specs.Prelude.{slice_get}
use Rattle.std.specs.List.{All, flat_map}
use Rattle.std.proofs.lemmas.Bool.{le-leb}
use Rattle.std.proofs.lemmas.Option.{get_or_from_slice_get, slice_get_within}
use Rattle.psy_dates.specs.declared.opening.AgentOpening.{AgentOpening}
use Rattle.psy_dates.specs.declared.opening.Opening.{Opening}
use Rattle.psy_dates.specs.declared.opening.StreamOpening.{StreamOpening}
use Rattle.psy_dates.specs.declared.opening.VarOpening.{VarOpening}
use Rattle.psy_snap.specs.declared.fault.ReadError.{ReadError}
use Rattle.psy_snap.specs.Bytes.{agent_bytes, mark, number_bytes, spelling, stream_bytes, variable_bytes}
use Rattle.psy_snap.specs.Cuts.{up_to}
use Rattle.psy_snap.specs.Faults.{faults_of, least_fault}
use Rattle.psy_snap.specs.Forms.{Form}
use Rattle.psy_snap.specs.Ranges.{FitsAgent, FitsState, FitsStream, FitsVariable}
use Rattle.psy_snap.specs.Reading.{agent_at, each_at, end_at, go_on, head_at, state_at, stream_at, variable_at}
use Rattle.psy_snap.specs.Shapes.{AreOf, HasAgentForm, HasForm, HasStreamForm, HasVarForm}
use Rattle.psy_snap.proofs.AgentsFound.{IsAgentRight}
use Rattle.psy_snap.proofs.AgentsGo.{goes_agents}
use Rattle.psy_snap.proofs.Finds.{Both, Rights}
use Rattle.psy_snap.proofs.Goes.{Goes, goes_field, goes_said, goes_then, goes_where, pairs_rights}
use Rattle.psy_snap.proofs.MessagesFound.{IsStreamRight}
use Rattle.psy_snap.proofs.Spelled.{Pairs}
use Rattle.psy_snap.proofs.StatesFound.{IsStateRight}
use Rattle.psy_snap.proofs.StatesRead.{read_sound}
use Rattle.psy_snap.proofs.StreamsGo.{goes_streams}
use Rattle.psy_snap.proofs.VariablesFound.{IsVariableRight}
use Rattle.psy_snap.proofs.VariablesGo.{goes_variables}

-- Parts that have what their forms ask for, one by one
pairs_of : {F X : Type 0} (Has : F → X → Type 0) (forms : List F) (xs : List X) → length xs ≡ length forms
    → ((i : ℕ) (form : F) (x : X) → slice_get forms i ≡ Some form → slice_get xs i ≡ Some x → Has form x) → Pairs Has forms xs
pairs_of Has [] [] same has = tt
pairs_of Has [] (x ∷ xs) same has = absurd (omega (arith, same))
pairs_of Has (form ∷ forms) [] same has = absurd (omega (arith, same))
pairs_of Has (form ∷ forms) (x ∷ xs) same has = (has 0 form x refl refl, pairs_of Has forms xs (omega (arith, same)) (λ i f y there is. has (suc i) f y there is))

-- Each has what it is to have, and its numbers are in their ranges.
pairs_good : {F X : Type 0} (Has : F → X → Type 0) (FitsIts : X → Type 0) (forms : List F) (xs : List X) → AreOf Has forms xs → All FitsIts xs → Pairs (λ form x. Both (Has form x) (FitsIts x)) forms xs
pairs_good Has FitsIts forms xs has fits = pairs_of (λ form x. Both (Has form x) (FitsIts x)) forms xs has.count (λ i form x there at. record {
  first = has.each i form x there at;
  second = subst FitsIts (get_or_from_slice_get xs i x x at) (fits i x (slice_get_within xs i x at));
})

rights_of : {F X : Type 0} (Right : F → X → Type 0) (forms : List F) (xs : List X) → AreOf Right forms xs → Rights (λ form before x. Right form x) forms [] xs
rights_of Right forms xs are = pairs_rights Right forms [] xs (pairs_of Right forms xs are.count are.each)

goes_head : (until date : ℕ) → date < 2 ^ 32 → Goes (head_at until) (mark ++ number_bytes date) date (λ rest. date ≤ until)
unfolding head_at
goes_head until date small = record { goes = λ rest le. (goes_field (up_to until) date small).goes rest (le-leb date until le) }

-- Nothing comes behind.
goes_end : Goes end_at [] tt (λ rest. rest ≡ [])
goes_end = record { goes = λ rest none. subst (λ bs. end_at bs ≡ Ok (tt, bs)) (sym none) refl }

module _ (form : Form) where
  abbrev made : ℕ → List AgentOpening → List VarOpening → List StreamOpening → Opening
  made date agents variables streams = record { date = date; agents = agents; variables = variables; streams = streams }

  abbrev Read : Type 0
  Read = Result (Opening × List ℕ) ReadError

  abbrev with_end : ℕ → List AgentOpening → List VarOpening → List StreamOpening → List ℕ → Read
  with_end date agents variables streams bytes = go_on (end_at bytes) (λ _ last. Ok (made date agents variables streams, last))

  abbrev with_streams : ℕ → List AgentOpening → List VarOpening → List ℕ → Read
  with_streams date agents variables bytes = go_on (each_at (stream_at date agents) form.streams [] bytes) (with_end date agents variables)

  abbrev with_variables : ℕ → List AgentOpening → List ℕ → Read
  with_variables date agents bytes = go_on (each_at (variable_at date) form.variables [] bytes) (with_streams date agents)

  abbrev with_agents : ℕ → List ℕ → Read
  with_agents date bytes = go_on (each_at (agent_at date) form.agents [] bytes) (with_variables date)

  module _ (date : ℕ) (agents : List AgentOpening) (variables : List VarOpening) (streams : List StreamOpening)
      (has : HasForm form (record { date = date; agents = agents; variables = variables; streams = streams }))
      (fits : FitsState (record { date = date; agents = agents; variables = variables; streams = streams })) where
    abbrev it : Opening
    it = made date agents variables streams

    abbrev agent_part : List ℕ
    agent_part = flat_map agent_bytes agents

    abbrev variable_part : List ℕ
    variable_part = flat_map variable_bytes variables

    abbrev stream_part : List ℕ
    stream_part = flat_map stream_bytes streams

    abbrev whole : List ℕ
    whole = (mark ++ number_bytes date) ++ (agent_part ++ (variable_part ++ (stream_part ++ [])))

    goes_state : Goes (state_at form) whole it (λ rest. Both (IsStateRight form it) (rest ≡ []))
    unfolding state_at
    goes_state =
        goes_where (state_at form) whole it
        (λ rest when. record {
          first = when.first.date;
          second = record {
            first = rights_of (IsAgentRight date) form.agents agents when.first.agents;
            second = record {
              first = rights_of (IsVariableRight date) form.variables variables when.first.variables;
              second = record { first = rights_of (IsStreamRight date agents) form.streams streams when.first.streams; second = when.second };
            };
          };
        })
        (goes_then (head_at form.until) with_agents (mark ++ number_bytes date) (agent_part ++ (variable_part ++ (stream_part ++ []))) date it (goes_head form.until date fits.date)
        (goes_then (each_at (agent_at date) form.agents []) (with_variables date) agent_part (variable_part ++ (stream_part ++ [])) agents it
        (goes_agents date form.agents agents (pairs_good HasAgentForm FitsAgent form.agents agents has.agents fits.agents))
        (goes_then (each_at (variable_at date) form.variables []) (with_streams date agents) variable_part (stream_part ++ []) variables it
        (goes_variables date form.variables variables (pairs_good HasVarForm FitsVariable form.variables variables has.variables fits.variables))
        (goes_then (each_at (stream_at date agents) form.streams []) (with_end date agents variables) stream_part [] streams it
        (goes_streams date agents form.streams streams (pairs_good HasStreamForm FitsStream form.streams streams has.streams fits.streams))
        (goes_said end_at (λ _. it) [] tt goes_end)))))

    spelled : whole ++ [] ≡ spelling it
    unfolding spelling
    spelled =
        append-nil whole ∙ append_assoc mark (number_bytes date) (agent_part ++ (variable_part ++ (stream_part ++ [])))
        ∙ ap (λ bs. mark ++ (number_bytes date ++ (agent_part ++ (variable_part ++ bs)))) (append-nil stream_part)

    right_read : IsStateRight form it → state_at form (spelling it) ≡ Ok (it, [])
    right_read right = ap (state_at form) (sym spelled) ∙ goes_state.goes [] (record { first = right; second = refl })

pub no_fault : (form : Form) (opening : Opening) → HasForm form opening → FitsState opening → IsStateRight form opening → least_fault (faults_of form (spelling opening)) ≡ None
no_fault form opening has fits right =
    read_sound form (spelling opening) opening [] (right_read form opening.date opening.agents opening.variables opening.streams has fits right)
