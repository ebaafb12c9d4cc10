-- The lines of a run's end and summary are a run's, whose summary lists the same.
use Rattle.std.proofs.Common.{◌≡◌, ◌∙◌, refl, sym, ap, subst, ℕ, ◌+◌, ◌≤◌, Bool, true, false, List, [], ◌∷◌, ◌++◌, Some, arith}
use Rattle.std.specs.Prelude.{IsTrue, fold, nat_lt, unwrap_or}
use Rattle.std.proofs.lemmas.Bool.{false≢true}
use Rattle.std.proofs.lemmas.Bool.Decides.{nat_tests}
use Rattle.psy_base.specs.declared.limits.TheConstants.{STREAMS, UNTIL, VARIABLES}
use Rattle.psy_log.specs.declared.note.Note.{Note}
use Rattle.psy_log.specs.declared.note.Note.TheVariants as note
use Rattle.psy_log.specs.Forms.{line_of}
use Rattle.psy_notes.specs.declared.stand.Stand.{Stand}
use Rattle.psy_notes.specs.declared.stand.Stand.TheVariants as stand
use Rattle.psy_notes.specs.Stands.{behind_agents, behind_streams, behind_variables, may_be_dated, may_end, next_stand, run_begins, where_so}
use Rattle.psy_notes.specs.Texts.{IsText, Leads, text_of}
use Rattle.psy_passes.specs.Listing.{added_agent, added_stream, added_variable, agents_in, streams_in, variables_in}
use Rattle.psy_passes.specs.Runs.{tail_line, tail_of}
use Rattle.psy_passes.specs.NameChecks.{kept, undated}
use Rattle.psy_passes.proofs.Firsts.{none_some}

-- The lines of the notes without a date
text_kept : (n : Note) (notes : List Note) (rest : List ℕ) → text_of notes ≡ rest → text_of (kept n notes) ≡ tail_line n ++ rest
text_kept (note.StopOverrun date agent) notes rest is = is
text_kept (note.StopTrap date agent kind) notes rest is = is
text_kept (note.Value date variable value) notes rest is = is
text_kept (note.Message date stream value) notes rest is = is
text_kept n notes rest is = ap (λ t. line_of n ++ t) is

text_undated : (notes : List Note) → text_of (undated notes) ≡ tail_of notes
text_undated [] = refl
text_undated (n ∷ notes) = text_kept n (undated notes) (tail_of notes) (text_undated notes)

-- Their names
agents_undated : (names : List (List ℕ)) (notes : List Note) → fold added_agent names (undated notes) ≡ fold added_agent names notes
agents_undated names [] = refl
agents_undated names (note.StopOverrun date agent ∷ notes) = agents_undated names notes
agents_undated names (note.StopTrap date agent kind ∷ notes) = agents_undated names notes
agents_undated names (note.Value date variable value ∷ notes) = agents_undated names notes
agents_undated names (note.Message date stream value ∷ notes) = agents_undated names notes
agents_undated names (n ∷ notes) = agents_undated (added_agent names n) notes

variables_undated : (names : List (List ℕ)) (notes : List Note) → fold added_variable names (undated notes) ≡ fold added_variable names notes
variables_undated names [] = refl
variables_undated names (note.StopOverrun date agent ∷ notes) = variables_undated names notes
variables_undated names (note.StopTrap date agent kind ∷ notes) = variables_undated names notes
variables_undated names (note.Value date variable value ∷ notes) = variables_undated names notes
variables_undated names (note.Message date stream value ∷ notes) = variables_undated names notes
variables_undated names (n ∷ notes) = variables_undated (added_variable names n) notes

streams_undated : (names : List (List ℕ)) (notes : List Note) → fold added_stream names (undated notes) ≡ fold added_stream names notes
streams_undated names [] = refl
streams_undated names (note.StopOverrun date agent ∷ notes) = streams_undated names notes
streams_undated names (note.StopTrap date agent kind ∷ notes) = streams_undated names notes
streams_undated names (note.Value date variable value ∷ notes) = streams_undated names notes
streams_undated names (note.Message date stream value ∷ notes) = streams_undated names notes
streams_undated names (n ∷ notes) = streams_undated (added_stream names n) notes

-- Where a stand follows, its test holds, and it is that one.
so_some : (b : Bool) (s to : Stand) → where_so b s ≡ Some to → (b ≡ true) × (s ≡ to)
so_some true s to e = (refl, ap (λ o. unwrap_or o s) e)
so_some false s to e = absurd (none_some to e)

-- Behind the end of a run
abbrev Behind : Stand → Type 0
Behind (stand.Dated date) = ⊥
Behind (stand.Agents agents) = Unit {0}
Behind (stand.Variables variables) = Unit {0}
Behind (stand.Streams streams) = Unit {0}
Behind (stand.Graphs agents nodes told edges) = ⊥

-- No note behind the end is dated, and none leads back.
abbrev Quiet : Note → Stand → Type 0
Quiet n to = ((notes : List Note) → kept n notes ≡ n ∷ notes) × Behind to

agents_step : (agents : ℕ) (n : Note) (to : Stand) → behind_agents agents n ≡ Some to → Quiet n to
agents_step agents (note.AgentEnd agent count slack) to e = (λ notes. refl, subst Behind (so_some _ _ to e).1 tt)
agents_step agents (note.VariableEnd variable size reach) to e = (λ notes. refl, subst Behind (so_some (nat_lt 0 VARIABLES) (stand.Variables (0 + 1)) to e).1 tt)
agents_step agents (note.StreamEnd stream size held) to e = (λ notes. refl, subst Behind (so_some (nat_lt 0 STREAMS) (stand.Streams (0 + 1)) to e).1 tt)
agents_step agents _ to e = absurd (none_some to e)

variables_step : (variables : ℕ) (n : Note) (to : Stand) → behind_variables variables n ≡ Some to → Quiet n to
variables_step variables (note.VariableEnd variable size reach) to e = (λ notes. refl, subst Behind (so_some _ _ to e).1 tt)
variables_step variables (note.StreamEnd stream size held) to e = (λ notes. refl, subst Behind (so_some (nat_lt 0 STREAMS) (stand.Streams (0 + 1)) to e).1 tt)
variables_step variables _ to e = absurd (none_some to e)

streams_step : (streams : ℕ) (n : Note) (to : Stand) → behind_streams streams n ≡ Some to → Quiet n to
streams_step streams (note.StreamEnd stream size held) to e = (λ notes. refl, subst Behind (so_some _ _ to e).1 tt)
streams_step streams _ to e = absurd (none_some to e)

quiet_step : (from : Stand) (n : Note) (to : Stand) → Behind from → next_stand from n ≡ Some to → Quiet n to
quiet_step (stand.Dated date) n to behind e = absurd behind
quiet_step (stand.Agents agents) n to behind e = agents_step agents n to e
quiet_step (stand.Variables variables) n to behind e = variables_step variables n to e
quiet_step (stand.Streams streams) n to behind e = streams_step streams n to e
quiet_step (stand.Graphs agents nodes told edges) n to behind e = absurd behind

all_kept : (from to : Stand) (notes : List Note) → Behind from → Leads from notes to → undated notes ≡ notes
all_kept from to [] behind leads = refl
all_kept from to (n ∷ notes) behind leads =
    let step = quiet_step from n leads.0 behind leads.1.1 in
    step.0 (undated notes) ∙ ap (λ ns. n ∷ ns) (all_kept leads.0 to notes step.1 leads.2)

-- The end may follow from the beginning on.
ends_anywhere : (last until : ℕ) → may_be_dated last until ≡ true → may_be_dated 0 until ≡ true
ends_anywhere last until holds =
    let most : until ≤ UNTIL = grind (arith, nat_tests, holds) in
    grind (arith, nat_tests, most)

-- Behind a dated note dates go on.
on : (last date : ℕ) (between : Stand) (notes : List Note) (to : Stand) → where_so (may_be_dated last date) (stand.Dated date) ≡ Some between → Leads between notes to
    → Leads (stand.Dated date) notes to
on last date between notes to e leads = subst (λ s. Leads s notes to) (sym (so_some (may_be_dated last date) (stand.Dated date) between e).1) leads

leads_undated : (last : ℕ) (to : Stand) (notes : List Note) → Leads (stand.Dated last) notes to → IsTrue (may_end to) → Leads (stand.Dated 0) (undated notes) to
leads_undated last to [] leads ends = let no : IsTrue (may_end (stand.Dated last)) = subst (λ s. IsTrue (may_end s)) (sym leads) ends in absurd (false≢true no)
leads_undated last to (note.StopOverrun date agent ∷ notes) leads ends = leads_undated date to notes (on last date leads.0 notes to leads.1.1 leads.2) ends
leads_undated last to (note.StopTrap date agent kind ∷ notes) leads ends = leads_undated date to notes (on last date leads.0 notes to leads.1.1 leads.2) ends
leads_undated last to (note.Value date variable value ∷ notes) leads ends = leads_undated date to notes (on last date leads.0 notes to leads.1.1 leads.2) ends
leads_undated last to (note.Message date stream value ∷ notes) leads ends = leads_undated date to notes (on last date leads.0 notes to leads.1.1 leads.2) ends
leads_undated last to (note.End until ∷ notes) leads ends =
    let step = so_some (may_be_dated last until) (stand.Agents 0) leads.0 leads.1.1 in
    let behind : Behind leads.0 = subst Behind step.1 tt in
    let next : where_so (may_be_dated 0 until) (stand.Agents 0) ≡ Some leads.0 = ap (λ b. where_so b (stand.Agents 0)) (ends_anywhere last until step.0) ∙ ap Some step.1 in
    (leads.0, (leads.1.0, next), subst (λ ns. Leads leads.0 ns to) (sym (all_kept leads.0 to notes behind leads.2)) leads.2)
leads_undated last to (n ∷ notes) leads ends = absurd (none_some leads.0 leads.1.1)

-- The lines of the end and the summary are the text of a run.
pub tail_is_text : (notes : List Note) → IsText run_begins (text_of notes) notes → IsText run_begins (tail_of notes) (undated notes)
tail_is_text notes read =
    record { last = read.last; leads = leads_undated 0 read.last notes read.leads read.ends; ends = read.ends; whole = sym (text_undated notes) }

-- All of them are without one.
undated_kept : (n : Note) (notes : List Note) → undated notes ≡ notes → undated (kept n notes) ≡ kept n notes
undated_kept (note.StopOverrun date agent) notes is = is
undated_kept (note.StopTrap date agent kind) notes is = is
undated_kept (note.Value date variable value) notes is = is
undated_kept (note.Message date stream value) notes is = is
undated_kept n notes is = ap (λ ns. n ∷ ns) is

pub undated_twice : (notes : List Note) → undated (undated notes) ≡ undated notes
undated_twice [] = refl
undated_twice (n ∷ notes) = undated_kept n (undated notes) (undated_twice notes)

pub names_undated : (notes : List Note)
    → (agents_in (undated notes) ≡ agents_in notes) × (variables_in (undated notes) ≡ variables_in notes) × (streams_in (undated notes) ≡ streams_in notes)
names_undated notes = (agents_undated [] notes, variables_undated [] notes, streams_undated [] notes)
