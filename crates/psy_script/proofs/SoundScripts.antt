-- Lines without fault state a script of the program.
use Rattle.std.proofs.Common.{◌≡◌, ◌∙◌, refl, sym, subst, ℕ, suc, ◌<◌, Bool, true, false, cond, not, ◌&&◌, List, [], ◌∷◌, ◌++◌, length, map, Option, Some, None, eqb, leb, ltb, eqb-true, leb-true, ltb-true, append-nil, append_assoc, bytes_eq, codes}
use Rattle.std.specs.Option.{option_and_then, option_map, option_to_list}
use Rattle.std.specs.List.{All, AllPairs, flat_map, list_all, list_any}
use Rattle.std.proofs.lemmas.Bool.{and_parts, or_parts}
use Rattle.std.proofs.lemmas.Grind.{flat_map-append}
use Rattle.std.proofs.lemmas.List.{length-map}
use Rattle.std.proofs.lemmas.List.Elements.{All-append, All-cons, All-nil}
use Rattle.psy_base.specs.declared.limits.TheConstants.{RUN, STALL}
use Rattle.psy_tree.specs.declared.unit.Unit.{Unit as Whole}
use Rattle.psy_history.specs.Processors.{processors}
use Rattle.psy_history.specs.declared.told.Order.{Order}
use Rattle.psy_history.specs.declared.told.Round.{Round}
use Rattle.psy_history.specs.declared.told.Script.{Script}
use Rattle.psy_history.specs.Scripts.{IsOrder, IsRound, IsScript, IsStall, StallBefore}
use Rattle.psy_script.specs.Entries.{number_or_0}
use Rattle.psy_script.specs.declared.fault.LineKind.{LineKind}
use Rattle.psy_script.specs.declared.fault.LineKind.TheVariants.{BadLine, NoSuchName, Again, Range}
use Rattle.psy_script.specs.Faults.{Fault, Judge, fault_or, first_behind, first_fault}
use Rattle.psy_text.specs.Lines.{is_skipped}
use Rattle.psy_text.specs.Words.{words_of, is_number, number_of}
use Rattle.psy_script.specs.Script.{Statement, Stalls, Orders, Rounds, agent_number, has_same, has_twice, is_agent, is_in_range, is_order_at, is_round_at, order_before, order_in, order_said, round_before, round_in, round_said, script_in, script_judge, stall_before, stall_in, stall_said, stall_with, stands_again, statement_fault, statement_in, statement_of, statements}
use Rattle.psy_script.proofs.EachOnce.{lists_each}
use Rattle.psy_script.proofs.Placing.{All_rising}
use Rattle.psy_script.proofs.RoundNumbers.{numbers_are}
use Rattle.psy_script.proofs.ScriptFaults.{statements_more}
use Rattle.psy_script.proofs.Stated.{number_below, repeats_are}

-- ---- a property that each line without fault keeps

-- Something isn't nothing.
pub not_there : {X : Type 0} (x : X) → Some x ≡ None → ⊥
not_there x e = cc

-- There is no first fault where the first line has none and the others have none.
fault_none : (o : Option LineKind) (line : ℕ) (behind : Option Fault) → fault_or o line behind ≡ None → (o ≡ None) × (behind ≡ None)
fault_none None line behind e = (refl, e)
fault_none (Some kind) line behind e = absurd (not_there (record { kind = kind; line = line }) e)

-- It holds of all lines where it holds of none.
kept : (judge : Judge) (P : List (List ℕ) → Type 0) → ((before : List (List ℕ)) (line : List ℕ) → judge before line ≡ None → P before → P (before ++ line ∷ []))
    → (before lines : List (List ℕ)) → first_behind judge before lines ≡ None → P before → P (before ++ lines)
kept judge P keeps before [] sound p = subst P (sym (append-nil before)) p
kept judge P keeps before (line ∷ lines) sound p =
    let parts = fault_none (judge before line) (suc (length before)) (first_behind judge (before ++ line ∷ []) lines) sound in
    subst P (append_assoc before (line ∷ []) lines) (kept judge P keeps (before ++ line ∷ []) lines parts.1 (keeps before line parts.0 p))

-- ---- the forms

-- An order names so many agents, and a round so many processors.
Names : ℕ → ℕ → Option Statement → Type 0
Names agents count None = Unit {0}
Names agents count (Some (Stalls agent action instr cycles)) = Unit {0}
Names agents count (Some (Orders cycle names)) = length names ≡ agents
Names agents count (Some (Rounds cycle numbers)) = length numbers ≡ count

-- A stall names no order of agents,
stall_with_names : (agents count : ℕ) (agent : List ℕ) (a i c : Option ℕ) → Names agents count (stall_with agent a i c)
unfolding Names
stall_with_names agents count agent (Some a) (Some i) (Some c) = tt
stall_with_names agents count agent (Some a) (Some i) None = tt
stall_with_names agents count agent (Some a) None c = tt
stall_with_names agents count agent None i c = tt

-- Whatever its words are.
stall_names : (agents count : ℕ) (words : List (List ℕ)) → Names agents count (stall_in words)
unfolding Names
stall_names agents count [] = tt
stall_names agents count (a ∷ []) = tt
stall_names agents count (a ∷ b ∷ []) = tt
stall_names agents count (a ∷ b ∷ c ∷ []) = tt
stall_names agents count (a ∷ b ∷ c ∷ d ∷ []) = stall_with_names agents count a (number_of b) (number_of c) (number_of d)
stall_names agents count (a ∷ b ∷ c ∷ d ∷ e ∷ rest) = tt

-- An order is one where its names are as many as the agents,
order_names_at : (agents count : ℕ) (names : List (List ℕ)) (full : Bool) (o : Option ℕ) → eqb (length names) agents ≡ full → Names agents count (cond full (option_map (λ n. Orders n names) o) None)
unfolding Names
order_names_at agents count names true None e = tt
order_names_at agents count names true (Some n) e = eqb-true (length names) agents e
order_names_at agents count names false o e = tt

-- So it names so many.
order_names : (agents count : ℕ) (words : List (List ℕ)) → Names agents count (order_in agents words)
unfolding Names
order_names agents count [] = tt
order_names agents count (cycle ∷ names) = order_names_at agents count names (eqb (length names) agents) (number_of cycle) refl

-- A round is one where its words are as many as the processors, and each a number,
round_names_at : (agents count : ℕ) (words : List (List ℕ)) (full all : Bool) (o : Option ℕ) → eqb (length words) count ≡ full
    → Names agents count (cond full (option_and_then (λ n. option_map (Rounds n) (cond all (Some (map number_or_0 words)) None)) o) None)
unfolding Names
round_names_at agents count words true all None e = tt
round_names_at agents count words true true (Some n) e = length-map words number_or_0 ∙ eqb-true (length words) count e
round_names_at agents count words true false (Some n) e = tt
round_names_at agents count words false all o e = tt

-- So it names so many.
round_names : (agents count : ℕ) (words : List (List ℕ)) → Names agents count (round_in count words)
unfolding Names
round_names agents count [] = tt
round_names agents count (cycle ∷ words) =
    let full = eqb (length words) count in
    subst (λ ns. Names agents count (cond full (option_and_then (λ n. option_map (Rounds n) ns) (number_of cycle)) None)) (sym (numbers_are words))
    (round_names_at agents count words full (list_all is_number words) (number_of cycle) refl)

-- A line is a stall, an order or a round, or none of them.
one_names : (agents count : ℕ) (stall order round : Bool) (s o r : Option Statement) → Names agents count s → Names agents count o → Names agents count r
    → Names agents count (cond stall s (cond order o (cond round r None)))
unfolding Names
one_names agents count true order round s o r of_stall of_order of_round = of_stall
one_names agents count false true round s o r of_stall of_order of_round = of_order
one_names agents count false false true s o r of_stall of_order of_round = of_round
one_names agents count false false false s o r of_stall of_order of_round = tt

-- Whatever a line says, its order names so many agents, and its round so many processors.
statement_names : (agents count : ℕ) (words : List (List ℕ)) → Names agents count (statement_in agents count words)
unfolding Names
statement_names agents count [] = tt
statement_names agents count (word ∷ words) =
    one_names agents count (bytes_eq word (codes "stall")) (bytes_eq word (codes "order")) (bytes_eq word (codes "round")) (stall_in words) (order_in agents words) (round_in count words)
    (stall_names agents count words) (order_names agents count words) (round_names agents count words)

-- ---- stalls, orders and rounds

-- What is said are stalls, orders and rounds of the program.
IsSaid : Whole → List Statement → Type 0
IsSaid unit said = All (IsStall unit) (flat_map (stall_said unit) said) × All (IsOrder unit) (flat_map (order_said unit) said) × All (IsRound unit) (flat_map round_said said)

-- A stall whose numbers are in their ranges is one of the program.
stall_is : (unit : Whole) (agent : List ℕ) (action instr cycles : ℕ) → is_agent unit agent ≡ true → is_in_range (processors unit) (Stalls agent action instr cycles) ≡ true → IsStall unit (record { agent = agent_number unit agent; action = action; instr = instr; cycles = cycles })
stall_is unit agent action instr cycles is within =
    let first = and_parts (leb action STALL) (leb instr STALL && (leb 1 cycles && leb cycles STALL)) within in
    let second = and_parts (leb instr STALL) (leb 1 cycles && leb cycles STALL) first.1 in
    let third = and_parts (leb 1 cycles) (leb cycles STALL) second.1 in
    record {
      agent = number_below unit agent is;
      action = leb-true action STALL first.0;
      instr = leb-true instr STALL second.0;
      some = leb-true 1 cycles third.0;
      most = leb-true cycles STALL third.1;
    }

-- Numbers that pass the test are below this.
pub all_below : (bound : ℕ) (numbers : List ℕ) → list_all (λ n. ltb n bound) numbers ≡ true → All (λ n. n < bound) numbers
all_below bound [] are = All-nil (λ n. n < bound)
all_below bound (n ∷ numbers) are =
    let parts = and_parts (ltb n bound) (list_all (λ m. ltb m bound) numbers) are in
    All-cons (λ m. m < bound) n numbers (ltb-true n bound parts.0) (all_below bound numbers parts.1)

-- The numbers of agents are those of the program.
numbers_below : (unit : Whole) (names : List (List ℕ)) → list_all (is_agent unit) names ≡ true → All (λ n. n < length unit.agents) (map (agent_number unit) names)
numbers_below unit [] are = All-nil (λ n. n < length unit.agents)
numbers_below unit (name ∷ names) are =
    let parts = and_parts (is_agent unit name) (list_all (is_agent unit) names) are in
    All-cons (λ n. n < length unit.agents) (agent_number unit name) (map (agent_number unit) names) (number_below unit name parts.0) (numbers_below unit names parts.1)

-- So is an order that names each agent once.
order_is : (unit : Whole) (cycle : ℕ) (names : List (List ℕ)) → list_all (is_agent unit) names ≡ true → has_twice names ≡ false → is_in_range (processors unit) (Orders cycle names) ≡ true → length names ≡ length unit.agents
    → IsOrder unit (record { cycle = cycle; agents = map (agent_number unit) names })
order_is unit cycle names are once within full = record {
  cycle = leb-true cycle RUN within;
  agents = lists_each (length unit.agents) (map (agent_number unit) names) (numbers_below unit names are) (repeats_are unit names are ∙ once) (length-map names (agent_number unit) ∙ full);
}

-- And a round that has each processor once.
round_is : (unit : Whole) (cycle : ℕ) (numbers : List ℕ) → has_same numbers ≡ false → is_in_range (processors unit) (Rounds cycle numbers) ≡ true → length numbers ≡ processors unit → IsRound unit (record { cycle = cycle; processors = numbers })
round_is unit cycle numbers once within full =
    let parts = and_parts (leb cycle RUN) (list_all (λ n. ltb n (processors unit)) numbers) within in
    record {
      cycle = leb-true cycle RUN parts.0;
      processors = lists_each (processors unit) numbers (all_below (processors unit) numbers parts.1) once full;
    }

-- What a statement without fault keeps
pub parts_of : (named again within : Bool) → cond (not named) (Some NoSuchName) (cond again (Some Again) (cond (not within) (Some Range) None)) ≡ None → (named ≡ true) × (again ≡ false) × (within ≡ true)
parts_of true true within e = absurd (not_there Again e)
parts_of true false true e = (refl, refl, refl)
parts_of true false false e = absurd (not_there Range e)
parts_of false again within e = absurd (not_there NoSuchName e)

-- A statement without fault is a stall, an order or a round of the program.
said_one : (unit : Whole) (said : List Statement) (st : Statement) → Names (length unit.agents) (processors unit) (Some st) → statement_fault unit said (Some st) ≡ None → IsSaid unit (st ∷ [])
unfolding Names IsSaid
said_one unit said (Stalls agent action instr cycles) full sound =
    let parts = parts_of (is_agent unit agent) (stands_again said (Stalls agent action instr cycles)) (is_in_range (processors unit) (Stalls agent action instr cycles)) sound in (
      All-cons (IsStall unit) (record { agent = agent_number unit agent; action = action; instr = instr; cycles = cycles }) [] (stall_is unit agent action instr cycles parts.0 parts.2) (All-nil (IsStall unit)),
      All-nil (IsOrder unit),
      All-nil (IsRound unit),
    )
said_one unit said (Orders cycle names) full sound =
    let parts = parts_of (list_all (is_agent unit) names) (stands_again said (Orders cycle names)) (is_in_range (processors unit) (Orders cycle names)) sound in
    let once = (or_parts (list_any (is_order_at cycle) said) (has_twice names) parts.1).1 in (
      All-nil (IsStall unit),
      All-cons (IsOrder unit) (record { cycle = cycle; agents = map (agent_number unit) names }) [] (order_is unit cycle names parts.0 once parts.2 full) (All-nil (IsOrder unit)),
      All-nil (IsRound unit),
    )
said_one unit said (Rounds cycle numbers) full sound =
    let parts = parts_of true (stands_again said (Rounds cycle numbers)) (is_in_range (processors unit) (Rounds cycle numbers)) sound in
    let once = (or_parts (list_any (is_round_at cycle) said) (has_same numbers) parts.1).1 in (
      All-nil (IsStall unit),
      All-nil (IsOrder unit),
      All-cons (IsRound unit) (record { cycle = cycle; processors = numbers }) [] (round_is unit cycle numbers once parts.2 full) (All-nil (IsRound unit)),
    )

-- So is what a line without fault says,
said_by : (unit : Whole) (said : List Statement) (skipped : Bool) (o : Option Statement) → Names (length unit.agents) (processors unit) o → cond skipped None (statement_fault unit said o) ≡ None → IsSaid unit (option_to_list (cond skipped None o))
unfolding IsSaid
said_by unit said true o full sound = (All-nil (IsStall unit), All-nil (IsOrder unit), All-nil (IsRound unit))
said_by unit said false None full sound = absurd (not_there BadLine sound)
said_by unit said false (Some st) full sound = said_one unit said st full sound

-- And what is said first and then,
all_both : {Y : Type 0} (P : Y → Type 0) (says : Statement → List Y) (said more : List Statement) → All P (flat_map says said) → All P (flat_map says more) → All P (flat_map says (said ++ more))
all_both P says said more first second = subst (All P) (sym (flat_map-append says said more)) (All-append P (flat_map says said) (flat_map says more) first second)

said_both : (unit : Whole) (said more : List Statement) → IsSaid unit said → IsSaid unit more → IsSaid unit (said ++ more)
unfolding IsSaid
said_both unit said more first second = (
  all_both (IsStall unit) (stall_said unit) said more first.0 second.0,
  all_both (IsOrder unit) (order_said unit) said more first.1 second.1,
  all_both (IsRound unit) round_said said more first.2 second.2,
)

-- And what lines say with one line more,
said_line : (unit : Whole) (before : List (List ℕ)) (line : List ℕ) → script_judge unit before line ≡ None → IsSaid unit (statements unit before) → IsSaid unit (statements unit (before ++ line ∷ []))
said_line unit before line sound all =
    let names = statement_names (length unit.agents) (processors unit) (words_of line) in
    subst (IsSaid unit) (sym (statements_more unit before line))
    (said_both unit (statements unit before) (option_to_list (statement_of unit line)) all
    (said_by unit (statements unit before) (is_skipped line) (statement_in (length unit.agents) (processors unit) (words_of line)) names sound))

-- And what all lines say.
said_all : (unit : Whole) (lines : List (List ℕ)) → first_fault (script_judge unit) lines ≡ None → IsSaid unit (statements unit lines)
unfolding IsSaid
said_all unit lines sound = kept (script_judge unit) (λ ls. IsSaid unit (statements unit ls)) (said_line unit) [] lines sound (All-nil (IsStall unit), All-nil (IsOrder unit), All-nil (IsRound unit))

-- A script rises: its stalls by agent, action and instruction, its orders and its rounds by cycle.
pub record Rises (script : Script) : Type 0 where
  pub stalls : AllPairs StallBefore script.stalls
  pub orders : AllPairs (λ (o p : Order). o.cycle < p.cycle) script.orders
  pub rounds : AllPairs (λ (r q : Round). r.cycle < q.cycle) script.rounds

-- The script of lines without fault is one of the program, where it rises.
pub script_is : (unit : Whole) (lines : List (List ℕ)) (script : Script) → first_fault (script_judge unit) lines ≡ None → script ≡ script_in unit lines → Rises script → IsScript unit script
unfolding IsSaid
script_is unit lines script sound is rises =
    let said = said_all unit lines sound in
    record {
      stalls = subst (λ (s : Script). All (IsStall unit) s.stalls) (sym is) (All_rising (IsStall unit) stall_before (flat_map (stall_said unit) (statements unit lines)) said.0);
      stalls_rise = rises.stalls;
      orders = subst (λ (s : Script). All (IsOrder unit) s.orders) (sym is) (All_rising (IsOrder unit) order_before (flat_map (order_said unit) (statements unit lines)) said.1);
      orders_rise = rises.orders;
      rounds = subst (λ (s : Script). All (IsRound unit) s.rounds) (sym is) (All_rising (IsRound unit) round_before (flat_map round_said (statements unit lines)) said.2);
      rounds_rise = rises.rounds;
    }
