-- The times of a log's notes rise.
use Rattle.std.proofs.Common.{◌≡◌, ◌⊎◌, ℕ, ◌<◌, ◌≤◌, ◌==◌, Bool, true, false, List, [], ◌∷◌, ◌++◌, Option, None, Some, if◌then◌else◌, inl, inr, refl, sym, ap, subst, ◌∙◌, append-nil, arith}
use Rattle.std.specs.List.{flat_map}
use Rattle.std.specs.Prelude.{unwrap_or}
use Rattle.std.proofs.lemmas.Bool.{false≢true}
use Rattle.std.proofs.lemmas.Bool.Decides.{nat_tests}
use Rattle.psy_log.specs.declared.note.Note.{Note}
use Rattle.psy_log.specs.declared.note.Note.TheVariants as note
use Rattle.psy_notes.specs.declared.stand.Stand.{Stand}
use Rattle.psy_notes.specs.declared.stand.Stand.TheVariants as stand
use Rattle.psy_notes.specs.Stands.{behind_agents, behind_dated, behind_streams, behind_variables, may_be_dated, next_stand, where_so}
use Rattle.psy_notes.specs.Texts.{Leads}
use Rattle.psy_wave.specs.Changes.{later, stamp, time_of}
use Rattle.psy_wave.specs.Times.{Rise, time_line, times, times_by}

-- The lines that are written for a time
pub stamp_lines : (last : ℕ) (time : Option ℕ) → stamp last time ≡ flat_map time_line (times_by last time)
stamp_lines last None = refl
stamp_lines last (Some time) = by (time == last)
  where
    by : (t : Bool) → (if t then [] else time_line time) ≡ flat_map time_line (if t then [] else time ∷ [])
    by true = refl
    by false = sym (append-nil (time_line time))

-- None is no stand.
is_some_stand : Option Stand → Bool
is_some_stand None = false
is_some_stand (Some s) = true

none_some : (s : Stand) → None ≡ Some s → ⊥
unfolding is_some_stand
none_some s e = false≢true (ap is_some_stand e)

-- Where a stand follows, its test holds, and it is that one.
so_some : (b : Bool) (s to : Stand) → where_so b s ≡ Some to → (b ≡ true) × (s ≡ to)
so_some true s to e = (refl, ap (λ o. unwrap_or o s) e)
so_some false s to e = absurd (none_some to e)

-- Behind the end of a run
abbrev Behind : Stand → Type 0
Behind (stand.Dated date) = ⊥
Behind (stand.Agents agents) = Unit {0}
Behind (stand.Variables variables) = Unit {0}
Behind (stand.Streams streams) = Unit {0}
Behind (stand.Graphs agents nodes told edges) = ⊥

-- No note behind the end has a time, and none leads back.
abbrev Quiet : Note → Stand → Type 0
Quiet n to = (time_of n ≡ None) × Behind to

agents_step : (agents : ℕ) (n : Note) (to : Stand) → behind_agents agents n ≡ Some to → Quiet n to
agents_step agents (note.AgentEnd agent count slack) to e = (refl, subst Behind (so_some _ _ to e).1 tt)
agents_step agents (note.VariableEnd variable size reach) to e = (refl, subst Behind (so_some true (stand.Variables 1) to e).1 tt)
agents_step agents (note.StreamEnd stream size held) to e = (refl, subst Behind (so_some true (stand.Streams 1) to e).1 tt)
agents_step agents _ to e = absurd (none_some to e)

variables_step : (variables : ℕ) (n : Note) (to : Stand) → behind_variables variables n ≡ Some to → Quiet n to
variables_step variables (note.VariableEnd variable size reach) to e = (refl, subst Behind (so_some _ _ to e).1 tt)
variables_step variables (note.StreamEnd stream size held) to e = (refl, subst Behind (so_some true (stand.Streams 1) to e).1 tt)
variables_step variables _ to e = absurd (none_some to e)

streams_step : (streams : ℕ) (n : Note) (to : Stand) → behind_streams streams n ≡ Some to → Quiet n to
streams_step streams (note.StreamEnd stream size held) to e = (refl, subst Behind (so_some _ _ to e).1 tt)
streams_step streams _ to e = absurd (none_some to e)

quiet_step : (from : Stand) (n : Note) (to : Stand) → Behind from → next_stand from n ≡ Some to → Quiet n to
quiet_step (stand.Dated date) n to behind e = absurd behind
quiet_step (stand.Agents agents) n to behind e = agents_step agents n to e
quiet_step (stand.Variables variables) n to behind e = variables_step variables n to e
quiet_step (stand.Streams streams) n to behind e = streams_step streams n to e
quiet_step (stand.Graphs agents nodes told edges) n to behind e = absurd behind

-- Behind the end no time is written.
quiet : (from to : Stand) (notes : List Note) (last : ℕ) → Behind from → Leads from notes to → times last notes ≡ []
quiet from to [] last behind leads = refl
quiet from to (n ∷ notes) last behind leads =
    let step : Quiet n leads.0 = quiet_step from n leads.0 behind leads.1.1 in
    ap (λ t. times_by last t ++ times (later last t) notes) step.0 ∙ quiet leads.0 to notes last step.1 leads.2

-- A dated note has a date no earlier than the last one, and dates go on from it or the run has ended.
abbrev Dates : ℕ → Note → Stand → Type 0
Dates last n to = (date : ℕ) × (time_of n ≡ Some date) × (last ≤ date) × ((to ≡ stand.Dated date) ⊎ Behind to)

dated : (last date : ℕ) (next to : Stand) → where_so (may_be_dated last date) next ≡ Some to → (last ≤ date) × (next ≡ to)
dated last date next to e =
    let step = so_some (may_be_dated last date) next to e in
    let holds : may_be_dated last date ≡ true = step.0 in
    (grind (arith, nat_tests, holds), step.1)

dated_step : (last : ℕ) (n : Note) (to : Stand) → behind_dated last n ≡ Some to → Dates last n to
dated_step last (note.StopOverrun date agent) to e = let h = dated last date (stand.Dated date) to e in (date, refl, h.0, inl (sym h.1))
dated_step last (note.StopTrap date agent kind) to e = let h = dated last date (stand.Dated date) to e in (date, refl, h.0, inl (sym h.1))
dated_step last (note.Value date variable value) to e = let h = dated last date (stand.Dated date) to e in (date, refl, h.0, inl (sym h.1))
dated_step last (note.Message date stream value) to e = let h = dated last date (stand.Dated date) to e in (date, refl, h.0, inl (sym h.1))
dated_step last (note.End until) to e = let h = dated last until (stand.Agents 0) to e in (until, refl, h.0, inr (subst Behind h.1 tt))
dated_step last _ to e = absurd (none_some to e)

-- A time no earlier than the last one, and times behind it
rise_more : (last date : ℕ) (rest : List ℕ) → last ≤ date → Rise date rest → Rise last (times_by last (Some date) ++ rest)
rise_more last date rest most h = by (date == last) refl
  where
    by : (t : Bool) → (date == last) ≡ t → Rise last ((if t then [] else date ∷ []) ++ rest)
    by true e = let same : date ≡ last = grind (arith, nat_tests, e) in subst (λ d. Rise d rest) same h
    by false e = let less : last < date = grind (arith, nat_tests, e, most) in (less, h)

-- The times of a run's notes rise.
pub times_rise : (last : ℕ) (to : Stand) (notes : List Note) → Leads (stand.Dated last) notes to → Rise last (times last notes)
times_rise last to [] leads = tt
times_rise last to (n ∷ notes) leads =
    by (dated_step last n leads.0 leads.1.1) (λ date same. times_rise date to notes (subst (λ s. Leads s notes to) same leads.2))
  where
    Then : Option ℕ → Type 0
    Then t = Rise last (times_by last t ++ times (later last t) notes)

    by : Dates last n leads.0 → ((date : ℕ) → leads.0 ≡ stand.Dated date → Rise date (times date notes)) → Then (time_of n)
    by (date, time, most, inl same) more = subst Then (sym time) (rise_more last date (times date notes) most (more date same))
    by (date, time, most, inr behind) more =
        subst Then (sym time) (rise_more last date (times date notes) most (subst (Rise date) (sym (quiet leads.0 to notes date behind leads.2)) tt))
