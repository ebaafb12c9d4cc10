-- Whether a run is of a program is told by what its summary says.
use Rattle.std.proofs.Common.{◌≡◌, ◌∙◌, ℕ, suc, Bool, true, false, List, [], ◌∷◌, Option, None, Some, cond, drop, get_or, length, map, refl, sym, ap, arith}
use Rattle.std.proofs.lemmas.Bool.{false≢true}
use Rattle.psy_draw.specs.Gathering.{undated}
use Rattle.psy_draw.specs.Sayings.{HasSummary}
use Rattle.psy_log.specs.declared.form.Form.{Form}
use Rattle.psy_log.specs.declared.form.Form.TheVariants as form
use Rattle.psy_log.specs.declared.note.Note.{Note}
use Rattle.psy_log.specs.declared.note.Note.TheVariants as note
use Rattle.psy_log.specs.Forms.{says}
use Rattle.psy_log.specs.Table.{Said, name}
use Rattle.psy_match.specs.Belonging.{behind, first_in_run, foreign_in_run, is_next_agent, is_next_stream, is_next_variable}
use Rattle.psy_tree.specs.declared.unit.AgentDecl.{AgentDecl}
use Rattle.psy_tree.specs.declared.unit.StreamDecl.{StreamDecl}
use Rattle.psy_tree.specs.declared.unit.VarDecl.{VarDecl}
use Rattle.psy_tree.specs.declared.unit.Unit.{Unit as Whole}

-- ---- notes that say the same

abbrev Rest : Type 0
Rest = List AgentDecl → List VarDecl → List StreamDecl → Option ℕ

-- By what the first note says
abbrev next_by : Rest → List AgentDecl → List VarDecl → List StreamDecl → Form → List Said → Option ℕ
next_by rest agents variables streams form.AgentEnd (name agent ∷ said) =
    cond (is_next_agent agents agent) (behind (rest (drop 1 agents) variables streams)) (Some 1)
next_by rest agents variables streams form.VariableEnd (name variable ∷ said) =
    cond (is_next_variable variables variable) (behind (rest agents (drop 1 variables) streams)) (Some 1)
next_by rest agents variables streams form.StreamEnd (name stream ∷ said) =
    cond (is_next_stream streams stream) (behind (rest agents variables (drop 1 streams))) (Some 1)
next_by rest agents variables streams _ said = behind (rest agents variables streams)

next_step : (agents : List AgentDecl) (variables : List VarDecl) (streams : List StreamDecl) (n : Note) (notes : List Note)
    → first_in_run agents variables streams (n ∷ notes) ≡ next_by (λ a v s. first_in_run a v s notes) agents variables streams (says n).0 (says n).1
next_step agents variables streams (note.Infeasible len demand supply None) notes = refl
next_step agents variables streams (note.Infeasible len demand supply (Some processor)) notes = refl
next_step agents variables streams (note.Refused what number None) notes = refl
next_step agents variables streams (note.Refused what number (Some at)) notes = refl
next_step agents variables streams _ notes = refl

same_said : (xs ys : List Note) → map says xs ≡ map says ys → (agents : List AgentDecl) (variables : List VarDecl) (streams : List StreamDecl)
    → first_in_run agents variables streams xs ≡ first_in_run agents variables streams ys
same_said [] [] e agents variables streams = refl
same_said [] (y ∷ ys) e agents variables streams = let no : 0 ≡ suc (length (map says ys)) = ap length e in absurd (omega (arith, no))
same_said (x ∷ xs) [] e agents variables streams = let no : suc (length (map says xs)) ≡ 0 = ap length e in absurd (omega (arith, no))
same_said (x ∷ xs) (y ∷ ys) e agents variables streams =
    let first : says x ≡ says y = ap (λ said. get_or said 0 (says x)) e in
    let others : map says xs ≡ map says ys = ap (drop 1) e in
    next_step agents variables streams x xs
    ∙ ap (λ (rest : Rest). next_by rest agents variables streams (says x).0 (says x).1) (λ i a v s. same_said xs ys others a v s i)
    ∙ ap (λ (saying : Form × List Said). next_by (λ a v s. first_in_run a v s ys) agents variables streams saying.0 saying.1) first
    ∙ sym (next_step agents variables streams y ys)

-- ---- the notes without a date

-- None was found.
abbrev is_nothing : Option ℕ → Bool
is_nothing None = true
is_nothing (Some k) = false

none_is : (found : Option ℕ) → is_nothing found ≡ true → found ≡ None
none_is None e = refl
none_is (Some k) e = absurd (false≢true e)

passed : (found : Option ℕ) → is_nothing (behind found) ≡ is_nothing found
passed None = refl
passed (Some k) = refl

if_next : (b : Bool) (found other : Option ℕ) → is_nothing found ≡ is_nothing other
    → is_nothing (cond b (behind found) (Some 1)) ≡ is_nothing (cond b (behind other) (Some 1))
if_next true found other e = passed found ∙ e ∙ sym (passed other)
if_next false found other e = refl

undated_alone : (notes : List Note) (agents : List AgentDecl) (variables : List VarDecl) (streams : List StreamDecl)
    → is_nothing (first_in_run agents variables streams notes) ≡ is_nothing (first_in_run agents variables streams (undated notes))
undated_alone [] a v s = refl
undated_alone (note.StopOverrun date agent ∷ notes) a v s = passed (first_in_run a v s notes) ∙ undated_alone notes a v s
undated_alone (note.StopTrap date agent kind ∷ notes) a v s = passed (first_in_run a v s notes) ∙ undated_alone notes a v s
undated_alone (note.Value date variable value ∷ notes) a v s = passed (first_in_run a v s notes) ∙ undated_alone notes a v s
undated_alone (note.Message date stream value ∷ notes) a v s = passed (first_in_run a v s notes) ∙ undated_alone notes a v s
undated_alone (note.AgentEnd agent count slack ∷ notes) a v s = if_next (is_next_agent a agent.now) _ _ (undated_alone notes (drop 1 a) v s)
undated_alone (note.VariableEnd variable size reach ∷ notes) a v s = if_next (is_next_variable v variable.now) _ _ (undated_alone notes a (drop 1 v) s)
undated_alone (note.StreamEnd stream size held ∷ notes) a v s = if_next (is_next_stream s stream.now) _ _ (undated_alone notes a v (drop 1 s))
undated_alone (n ∷ notes) a v s =
    passed (first_in_run a v s notes) ∙ undated_alone notes a v s ∙ sym (passed (first_in_run a v s (undated notes)))

-- ---- one summary

pub by_summary : (unit : Whole) (summary some other : List Note) → HasSummary some summary → HasSummary other summary → foreign_in_run unit some ≡ None
    → foreign_in_run unit other ≡ None
by_summary unit summary some other has also own =
    none_is (foreign_in_run unit other)
    (undated_alone other unit.agents unit.variables unit.streams
    ∙ ap is_nothing (same_said (undated other) (undated some) (also ∙ sym has) unit.agents unit.variables unit.streams)
    ∙ sym (undated_alone some unit.agents unit.variables unit.streams) ∙ ap is_nothing own)
