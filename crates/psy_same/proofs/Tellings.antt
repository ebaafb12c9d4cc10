-- What inputs and scripts say of an emptied unit is what they say of the unit.
use Rattle.std.proofs.Common.{◌≡◌, refl, subst, ℕ, List, [], ◌∷◌, ◌||◌, not, map, Option, None, Some, if◌then◌else◌, bytes_eq, flat_map, option_to_list, ℤ}
use Rattle.std.specs.List.{list_all, list_any, position_or_len, range_with_len}
use Rattle.psy_history.specs.declared.told.Script.{Script}
use Rattle.psy_history.specs.Scripts.{in_force, order_of}
use Rattle.psy_image.specs.Answers.{emptied, emptied_agent}
use Rattle.psy_script.specs.declared.fault.LineKind.TheVariants.{Again, NoSuchName, Range}
use Rattle.psy_script.specs.Faults.{Judge, IsLawful}
use Rattle.psy_script.specs.Inputs.{AreListsOf, Listing, inputs_judge, listing_fault, listing_in, listings}
use Rattle.psy_script.specs.Rising.{rising}
use Rattle.psy_script.specs.Script.{IsScriptOf, Orders, Rounds, Stalls, Statement, agent_number, is_agent, is_in_range, names_agents, order_before, order_said}
use Rattle.psy_script.specs.Script.{round_before, round_said, script_in, script_judge, stall_before, stall_said, stands_again, statement_fault}
use Rattle.psy_script.specs.Script.{statement_in, statements}
use Rattle.psy_text.specs.Lines.{is_skipped, lines_of}
use Rattle.psy_text.specs.Words.{words_of}
use Rattle.psy_tree.specs.declared.unit.AgentDecl.{AgentDecl}
use Rattle.psy_tree.specs.declared.unit.Unit.{Unit as Whole}
use Rattle.psy_same.proofs.Emptied.{listed_alike, same_count, same_processors}

-- Some agent has the name.
any_alike : (name : List ℕ) (agents : List AgentDecl)
    → list_any (λ (a : AgentDecl). bytes_eq name a.name) (map emptied_agent agents)
    ≡ list_any (λ (a : AgentDecl). bytes_eq name a.name) agents
any_alike name [] = refl
any_alike name (a ∷ agents) = λ i. bytes_eq name a.name || any_alike name agents i

module _ (unit : Whole) where
  -- ---- inputs

  listing_alike : (before : List Listing) (said : Option Listing) → listing_fault (emptied unit) before said ≡ listing_fault unit before said
  listing_alike before None = refl
  listing_alike before (Some l) = refl

  pub inputs_alike : inputs_judge (emptied unit) ≡ inputs_judge unit
  inputs_alike = λ i before line. if is_skipped line then None else listing_alike (listings before) (listing_in (words_of line)) i

  pub lists_alike : (text : List ℕ) (lists : List (List ℤ)) → AreListsOf (emptied unit) text lists → AreListsOf unit text lists
  lists_alike text lists are = record { lawful = subst (λ (judge : Judge). IsLawful judge text) inputs_alike are.lawful; stated = are.stated }

  -- ---- what a script's lines say

  agent_alike : is_agent (emptied unit) ≡ is_agent unit
  agent_alike = λ i name. any_alike name unit.agents i

  number_alike : agent_number (emptied unit) ≡ agent_number unit
  number_alike = λ i name. position_or_len (bytes_eq name) (listed_alike (λ (a : AgentDecl). a.name) (λ a. refl) unit.agents i)

  said_alike : statements (emptied unit) ≡ statements unit
  said_alike = λ i lines. flat_map (λ line. option_to_list
      (if is_skipped line then None else statement_in (same_count unit i) (same_processors unit i) (words_of line))) lines

  -- ---- faults

  names_alike : (said : Statement) → names_agents (emptied unit) said ≡ names_agents unit said
  names_alike (Stalls agent action instr cycles) = λ i. agent_alike i agent
  names_alike (Orders cycle agents) = λ i. list_all (agent_alike i) agents
  names_alike (Rounds cycle processors) = refl

  fault_alike : (before : List Statement) (said : Option Statement) → statement_fault (emptied unit) before said ≡ statement_fault unit before said
  fault_alike before None = refl
  fault_alike before (Some said) = λ i.
      if not (names_alike said i) then Some NoSuchName
      else if stands_again before said then Some Again
      else if not (is_in_range (same_processors unit i) said) then Some Range
      else None

  pub script_alike : script_judge (emptied unit) ≡ script_judge unit
  script_alike = λ i before line. if is_skipped line then None
      else fault_alike (said_alike i before) (statement_in (same_count unit i) (same_processors unit i) (words_of line)) i

  -- ---- what a script states

  stall_alike : (said : Statement) → stall_said (emptied unit) said ≡ stall_said unit said
  stall_alike (Stalls agent action instr cycles) = λ i. record { agent = number_alike i agent; action = action; instr = instr; cycles = cycles } ∷ []
  stall_alike (Orders cycle agents) = refl
  stall_alike (Rounds cycle processors) = refl

  order_alike : (said : Statement) → order_said (emptied unit) said ≡ order_said unit said
  order_alike (Stalls agent action instr cycles) = refl
  order_alike (Orders cycle agents) = λ i. record { cycle = cycle; agents = map (number_alike i) agents } ∷ []
  order_alike (Rounds cycle processors) = refl

  stated_alike : script_in (emptied unit) ≡ script_in unit
  stated_alike = λ i lines. record {
    stalls = rising stall_before (flat_map (λ said. stall_alike said i) (said_alike i lines));
    orders = rising order_before (flat_map (λ said. order_alike said i) (said_alike i lines));
    rounds = rising round_before (flat_map round_said (said_alike i lines));
  }

  pub scripts_alike : (text : List ℕ) (script : Script) → IsScriptOf (emptied unit) text script → IsScriptOf unit text script
  scripts_alike text script is = record {
    lawful = subst (λ (judge : Judge). IsLawful judge text) script_alike is.lawful;
    stated = subst (λ (script_by : List (List ℕ) → Script). script ≡ script_by (lines_of text)) stated_alike is.stated;
  }

  pub orders_alike : order_of (emptied unit) ≡ order_of unit
  orders_alike = λ i script cycle. in_force (range_with_len 0 (same_count unit i)) script.orders cycle
