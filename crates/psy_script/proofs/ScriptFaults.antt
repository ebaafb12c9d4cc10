-- What is wrong with the next line of a script, and the script with that line where nothing is.
use Rattle.std.proofs.Common.{◌≡◌, ◌∙◌, refl, sym, ap, ap₂, subst, ℕ, ◌^◌, ◌≤◌, Bool, true, false, cond, not, List, [], ◌∷◌, ◌++◌, length, Option, Some, None, leb, ltb, lt-ltb, ltb-true, append-nil, arith}
use Rattle.std.specs.List.{list_all}
use Rattle.std.specs.Option.{option_to_list}
use Rattle.std.proofs.lemmas.Bool.{and_from, and_parts}
use Rattle.std.proofs.lemmas.Grind.{flat_map-append}
use Rattle.psy_base.specs.declared.limits.TheConstants.{PROCESSORS, RUN}
use Rattle.psy_tree.specs.declared.unit.Unit.{Unit as Whole}
use Rattle.psy_history.specs.Processors.{processors}
use Rattle.psy_history.specs.declared.told.Script.{Script}
use Rattle.psy_script.specs.declared.entry.Entry.{Entry}
use Rattle.psy_script.specs.declared.fault.LineKind.TheVariants.{NoSuchName, Again, Range}
use Rattle.psy_script.specs.Entries.{clashes, entry_in, is_narrow, with_entry}
use Rattle.psy_text.specs.Lines.{is_skipped}
use Rattle.psy_text.specs.Words.{words_of}
use Rattle.psy_script.specs.Script.{Statement, Stalls, Orders, Rounds, is_in_range, names_agents, script_in, script_judge, stands_again, statement_fault, statement_in, statement_of, statements}
use Rattle.psy_script.proofs.Stated.{agent_names, clashes_are, entry_is, numbered, said_more, script_said}

-- A line says this.
pub record Says (unit : Whole) (line : List ℕ) (st : Statement) : Type 0 where
  pub spoken : is_skipped line ≡ false
  pub form : statement_in (length unit.agents) (processors unit) (words_of line) ≡ Some st

-- As the code finds it
pub says_so : (unit : Whole) (line : List ℕ) (st : Statement) (agents count : ℕ) → false ≡ is_skipped line → Some st ≡ statement_in agents count (words_of line) → agents ≡ length unit.agents → count ≡ processors unit → Says unit line st
says_so unit line st agents count spoken form all each = record { spoken = sym spoken; form = sym (ap₂ (λ n m. statement_in n m (words_of line)) all each) ∙ sym form }

-- The entry of a statement, as the code finds it
pub entry_found : (unit : Whole) (names : List (List ℕ)) (st : Statement) (o found : Option Entry) → names ≡ agent_names unit → o ≡ entry_in names st → o ≡ found → entry_in (agent_names unit) st ≡ found
entry_found unit names st o found all is e = sym (ap (λ ns. entry_in ns st) all) ∙ sym is ∙ e

-- What the lines so far say, with one line more
pub statements_more : (unit : Whole) (before : List (List ℕ)) (line : List ℕ) → statements unit (before ++ line ∷ []) ≡ statements unit before ++ option_to_list (statement_of unit line)
statements_more unit before line =
    flat_map-append (λ l. option_to_list (statement_of unit l)) before (line ∷ []) ∙ ap (λ said. statements unit before ++ said) (append-nil (option_to_list (statement_of unit line)))

-- A choice that gives something
cond_some : {X : Type 0} (b : Bool) (x y : X) → cond b (Some x) None ≡ Some y → (b ≡ true) × (x ≡ y)
cond_some true x y e = (refl, cc)
cond_some {X} false x y e = absurd (let no : ◌≡◌ {A = Option X} None (Some y) = e in cc)

-- And one that gives nothing
cond_none : {X : Type 0} (b : Bool) (x : X) → cond b (Some x) None ≡ None → b ≡ false
cond_none {X} true x e = absurd (let no : ◌≡◌ {A = Option X} (Some x) None = e in cc)
cond_none false x e = refl

-- The entry of a statement, where it names agents alone
named_entry : (unit : Whole) (st : Statement) (e : Entry) → entry_in (agent_names unit) st ≡ Some e → (names_agents unit st ≡ true) × (numbered unit st ≡ e)
named_entry unit st e found = cond_some (names_agents unit st) (numbered unit st) e (sym (entry_is unit st) ∙ found)

-- Numbers below a few fit 32 bits.
numbers_narrow : (bound : ℕ) → bound ≤ PROCESSORS → (numbers : List ℕ) → list_all (λ n. ltb n bound) numbers ≡ true → list_all (λ n. ltb n (2 ^ 32)) numbers ≡ true
numbers_narrow bound few [] below = refl
numbers_narrow bound few (n ∷ numbers) below =
    let parts = and_parts (ltb n bound) (list_all (λ m. ltb m bound) numbers) below in
    and_from (ltb n (2 ^ 32)) (list_all (λ m. ltb m (2 ^ 32)) numbers) (lt-ltb n (2 ^ 32) (omega (arith, few, ltb-true n bound parts.0))) (numbers_narrow bound few numbers parts.1)

-- So do those of a statement whose numbers are in their ranges.
numbered_narrow : (unit : Whole) (st : Statement) (count : ℕ) → count ≤ PROCESSORS → is_in_range count st ≡ true → is_narrow (numbered unit st) ≡ true
numbered_narrow unit (Stalls agent action instr cycles) count few within = refl
numbered_narrow unit (Orders cycle agents) count few within = refl
numbered_narrow unit (Rounds cycle numbers) count few within = numbers_narrow count few numbers (and_parts (leb cycle RUN) (list_all (λ n. ltb n count) numbers) within).1

-- And those of its entry.
pub narrow_entry : (unit : Whole) (st : Statement) (e : Entry) (count : ℕ) → entry_in (agent_names unit) st ≡ Some e → count ≤ PROCESSORS → is_in_range count st ≡ true → is_narrow e ≡ true
narrow_entry unit st e count found few within = subst (λ x. is_narrow x ≡ true) (named_entry unit st e found).1 (numbered_narrow unit st count few within)

module _ (unit : Whole) (line : List ℕ) (st : Statement) (says : Says unit line st) (before : List (List ℕ)) where
  -- Its fault is that of what it says.
  judged : script_judge unit before line ≡ statement_fault unit (statements unit before) (Some st)
  judged = ap (λ b. cond b None (statement_fault unit (statements unit before) (statement_in (length unit.agents) (processors unit) (words_of line)))) says.spoken ∙ ap (statement_fault unit (statements unit before)) says.form

  -- With it, that is said too.
  said_here : statements unit (before ++ line ∷ []) ≡ statements unit before ++ st ∷ []
  said_here = statements_more unit before line ∙ ap (λ o. statements unit before ++ option_to_list o) (ap (λ b. cond b None (statement_in (length unit.agents) (processors unit) (words_of line))) says.spoken ∙ says.form)

  -- It names no agent.
  pub names_none : entry_in (agent_names unit) st ≡ None → script_judge unit before line ≡ Some NoSuchName
  names_none none = judged ∙ ap (λ b. cond (not b) (Some NoSuchName) (cond (stands_again (statements unit before) st) (Some Again) (cond (not (is_in_range (processors unit) st)) (Some Range) None))) (cond_none (names_agents unit st) (numbered unit st) (sym (entry_is unit st) ∙ none))

  module _ (e : Entry) (found : entry_in (agent_names unit) st ≡ Some e) (script : Script) (is : script ≡ script_in unit before) where
    named : (names_agents unit st ≡ true) × (numbered unit st ≡ e)
    named = named_entry unit st e found

    clash : clashes script e ≡ stands_again (statements unit before) st
    clash = ap₂ clashes is (sym named.1) ∙ clashes_are unit (statements unit before) st named.0

    judged_named : script_judge unit before line ≡ cond (clashes script e) (Some Again) (cond (not (is_in_range (processors unit) st)) (Some Range) None)
    judged_named =
        judged ∙ ap (λ b. cond (not b) (Some NoSuchName) (cond (stands_again (statements unit before) st) (Some Again) (cond (not (is_in_range (processors unit) st)) (Some Range) None))) named.0
        ∙ ap (λ b. cond b (Some Again) (cond (not (is_in_range (processors unit) st)) (Some Range) None)) (sym clash)

    -- What it speaks of stood in an earlier line, or it names an agent or a processor twice.
    pub stands_twice : clashes script e ≡ true → script_judge unit before line ≡ Some Again
    stands_twice twice = judged_named ∙ ap (λ b. cond b (Some Again) (cond (not (is_in_range (processors unit) st)) (Some Range) None)) twice

    -- A number isn't in its range.
    pub out_of_range : clashes script e ≡ false → is_in_range (processors unit) st ≡ false → script_judge unit before line ≡ Some Range
    out_of_range once out = judged_named ∙ ap (λ b. cond b (Some Again) (cond (not (is_in_range (processors unit) st)) (Some Range) None)) once ∙ ap (λ b. cond (not b) (Some Range) None) out

    -- Nothing is wrong.
    pub without_fault : clashes script e ≡ false → is_in_range (processors unit) st ≡ true → script_judge unit before line ≡ None
    without_fault once within = judged_named ∙ ap (λ b. cond b (Some Again) (cond (not (is_in_range (processors unit) st)) (Some Range) None)) once ∙ ap (λ b. cond (not b) (Some Range) None) within

    -- Then it is placed.
    pub placed_more : with_entry script e ≡ script_in unit (before ++ line ∷ [])
    placed_more = ap₂ with_entry is (sym named.1) ∙ said_more unit (statements unit before) st ∙ ap (script_said unit) (sym said_here)
