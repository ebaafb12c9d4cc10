-- Notes in a row: those of dates that rise, the end and a summary lead from the beginning of a run to where its text may end.
use Rattle.std.proofs.Common.{◌≡◌, refl, sym, ap, subst, ◌∙◌, ℕ, zero, suc, ◌+◌, ◌<◌, ◌≤◌, ◌^◌, Bool, true, List, [], ◌∷◌, ◌++◌, length, flat_map, Some, arith}
use Rattle.std.specs.Prelude.{IsTrue, nat_le, nat_lt}
use Rattle.std.specs.List.{AllByRecursion, range_with_len}
use Rattle.std.proofs.lemmas.Bool.{and_from, le-leb, lt-ltb}
use Rattle.psy_base.specs.declared.limits.TheConstants.{UNTIL, AGENTS, VARIABLES, STREAMS}
use Rattle.psy_log.specs.declared.note.Note.{Note}
use Rattle.psy_log.specs.declared.note.Note.TheVariants as note
use Rattle.psy_notes.specs.declared.stand.Stand.{Stand}
use Rattle.psy_notes.specs.declared.stand.Stand.TheVariants as stand
use Rattle.psy_notes.specs.Notes.{IsTold}
use Rattle.psy_notes.specs.Stands.{next_stand, where_so, may_be_dated, may_end, next_stream, next_variable, run_begins}
use Rattle.psy_notes.specs.Texts.{Leads, text_of, IsText}

-- ---- notes in a row

pub where_true : (holds : Bool) (next : Stand) → holds ≡ true → where_so holds next ≡ Some next
where_true holds next is = ap (λ b. where_so b next) is

pub Leads-append : (from between to : Stand) (notes more : List Note) → Leads from notes between → Leads between more to → Leads from (notes ++ more) to
Leads-append from between to [] more leads goes = subst (λ s. Leads s more to) (sym leads) goes
Leads-append from between to (note ∷ notes) more leads goes = (leads.0, leads.1, Leads-append leads.0 between to notes more leads.2 goes)

-- ---- dates

-- A note of a date: its line may stand behind those of no later date.
abbrev pub IsAt : ℕ → Note → Type 0
IsAt date note = IsTold note × ((last : ℕ) → next_stand (stand.Dated last) note ≡ where_so (may_be_dated last date) (stand.Dated date))

-- Notes lead from a date to one that is no later than this.
abbrev pub LeadsUpto : ℕ → List Note → ℕ → Type 0
LeadsUpto from notes upto = (last : ℕ) × (last ≤ upto) × Leads (stand.Dated from) notes (stand.Dated last)

may_be : (last date : ℕ) → last ≤ date → date ≤ UNTIL → may_be_dated last date ≡ true
may_be last date within most = and_from (nat_le last date) (nat_le date UNTIL) (le-leb last date within) (le-leb date UNTIL most)

-- Those of one date
at_date : (from date : ℕ) (notes : List Note) → from ≤ date → date ≤ UNTIL → AllByRecursion (IsAt date) notes → LeadsUpto from notes date
at_date from date [] within most are = (from, within, refl)
at_date from date (note ∷ notes) within most are =
    let rest = at_date date date notes (omega arith) most are.1 in
    (rest.0, rest.1, (stand.Dated date, (are.0.0, are.0.1 from ∙ where_true (may_be_dated from date) (stand.Dated date) (may_be from date within most)), rest.2))

-- Those of so many dates, from one on
pub at_dates : (events : ℕ → List Note) (from first dates upto : ℕ) → from ≤ first → first + dates ≤ upto + 1 → upto ≤ UNTIL → first ≤ upto
    → ((date : ℕ) → date ≤ upto → AllByRecursion (IsAt date) (events date)) → LeadsUpto from (flat_map events (range_with_len first dates)) upto
at_dates events from first zero upto within few most some are = (from, omega (arith, within, some), refl)
at_dates events from first (suc zero) upto within few most some are =
    let here = at_date from first (events first) within (omega (arith, some, most)) (are first some) in
    (here.0, omega (arith, here.1, some), Leads-append (stand.Dated from) (stand.Dated here.0) (stand.Dated here.0) (events first) [] here.2 refl)
at_dates events from first (suc (suc dates)) upto within few most some are =
    let here = at_date from first (events first) within (omega (arith, some, most)) (are first some) in
    let rest = at_dates events here.0 (first + 1) (suc dates) upto (omega (arith, here.1)) (omega (arith, few)) most (omega (arith, few)) are in
    (rest.0, rest.1, Leads-append (stand.Dated from) (stand.Dated here.0) (stand.Dated rest.0) (events first) (flat_map events (range_with_len (first + 1) (suc dates))) here.2 rest.2)

-- ---- the summary

-- The note of an agent's line
abbrev pub IsAgentLine : Note → Type 0
IsAgentLine note = IsTold note × ((agents : ℕ) → next_stand (stand.Agents agents) note ≡ where_so (nat_lt agents AGENTS) (stand.Agents (agents + 1)))

-- The note of a variable's line
pub record IsVariableLine (note : Note) : Type 0 where
  pub told : IsTold note
  pub first : (agents : ℕ) → next_stand (stand.Agents agents) note ≡ next_variable 0
  pub next : (variables : ℕ) → next_stand (stand.Variables variables) note ≡ next_variable variables

-- The note of a stream's line
pub record IsStreamLine (note : Note) : Type 0 where
  pub told : IsTold note
  pub first : (agents : ℕ) → next_stand (stand.Agents agents) note ≡ next_stream 0
  pub behind : (variables : ℕ) → next_stand (stand.Variables variables) note ≡ next_stream 0
  pub next : (streams : ℕ) → next_stand (stand.Streams streams) note ≡ next_stream streams

-- Agents, behind so many others
agents_lead : (agents : ℕ) (notes : List Note) → agents + length notes ≤ AGENTS → AllByRecursion IsAgentLine notes → Leads (stand.Agents agents) notes (stand.Agents (agents + length notes))
agents_lead agents [] few are = ap stand.Agents (omega arith)
agents_lead agents (note ∷ notes) few are =
    let rest = agents_lead (agents + 1) notes (omega (arith, few)) are.1 in
    let same : agents + 1 + length notes ≡ agents + length (note ∷ notes) = omega arith in (
      stand.Agents (agents + 1),
      (are.0.0, are.0.1 agents ∙ where_true (nat_lt agents AGENTS) (stand.Agents (agents + 1)) (lt-ltb agents AGENTS (omega (arith, few)))),
      subst (λ n. Leads (stand.Agents (agents + 1)) notes (stand.Agents n)) same rest,
    )

-- What stands there may end, and streams may follow it.
pub record Ends (s : Stand) : Type 0 where
  pub ends : IsTrue (may_end s)
  pub stream : (note : Note) → IsStreamLine note → next_stand s note ≡ next_stream 0

ends_agents : (agents : ℕ) → Ends (stand.Agents agents)
ends_agents agents = record { ends = refl; stream = λ note is. is.first agents }

ends_variables : (variables : ℕ) → Ends (stand.Variables variables)
ends_variables variables = record { ends = refl; stream = λ note is. is.behind variables }

-- Variables, behind so many others
more_variables : (variables : ℕ) (notes : List Note) → variables + length notes ≤ VARIABLES → AllByRecursion IsVariableLine notes → (to : Stand) × Ends to × Leads (stand.Variables variables) notes to
more_variables variables [] few are = (stand.Variables variables, ends_variables variables, refl)
more_variables variables (note ∷ notes) few are =
    let rest = more_variables (variables + 1) notes (omega (arith, few)) are.1 in
    (rest.0, rest.1, (stand.Variables (variables + 1), (are.0.told, are.0.next variables ∙ where_true (nat_lt variables VARIABLES) (stand.Variables (variables + 1)) (lt-ltb variables VARIABLES (omega (arith, few)))), rest.2))

-- Variables, behind agents
variables_lead : (agents : ℕ) (notes : List Note) → length notes ≤ VARIABLES → AllByRecursion IsVariableLine notes → (to : Stand) × Ends to × Leads (stand.Agents agents) notes to
variables_lead agents [] few are = (stand.Agents agents, ends_agents agents, refl)
variables_lead agents (note ∷ notes) few are =
    let rest = more_variables 1 notes (omega (arith, few)) are.1 in
    (rest.0, rest.1, (stand.Variables 1, (are.0.told, are.0.first agents ∙ where_true (nat_lt 0 VARIABLES) (stand.Variables 1) (lt-ltb 0 VARIABLES (omega (arith, few)))), rest.2))

-- Streams, behind so many others
more_streams : (streams : ℕ) (notes : List Note) → streams + length notes ≤ STREAMS → AllByRecursion IsStreamLine notes → (to : Stand) × IsTrue (may_end to) × Leads (stand.Streams streams) notes to
more_streams streams [] few are = (stand.Streams streams, refl, refl)
more_streams streams (note ∷ notes) few are =
    let rest = more_streams (streams + 1) notes (omega (arith, few)) are.1 in
    (rest.0, rest.1, (stand.Streams (streams + 1), (are.0.told, are.0.next streams ∙ where_true (nat_lt streams STREAMS) (stand.Streams (streams + 1)) (lt-ltb streams STREAMS (omega (arith, few)))), rest.2))

-- Streams, behind what may end
streams_lead : (from : Stand) (notes : List Note) → Ends from → length notes ≤ STREAMS → AllByRecursion IsStreamLine notes → (to : Stand) × IsTrue (may_end to) × Leads from notes to
streams_lead from [] ends few are = (from, ends.ends, refl)
streams_lead from (note ∷ notes) ends few are =
    let rest = more_streams 1 notes (omega (arith, few)) are.1 in
    (rest.0, rest.1, (stand.Streams 1, (are.0.told, ends.stream note are.0 ∙ where_true (nat_lt 0 STREAMS) (stand.Streams 1) (lt-ltb 0 STREAMS (omega (arith, few)))), rest.2))

-- ---- a run

-- What a run tells: by date, and in its summary
pub record AreRunNotes (until : ℕ) (events : ℕ → List Note) (agents variables streams : List Note) : Type 0 where
  pub most : until ≤ UNTIL
  pub dated : (date : ℕ) → date ≤ until → AllByRecursion (IsAt date) (events date)
  pub agent_lines : AllByRecursion IsAgentLine agents
  pub few_agents : length agents ≤ AGENTS
  pub variable_lines : AllByRecursion IsVariableLine variables
  pub few_variables : length variables ≤ VARIABLES
  pub stream_lines : AllByRecursion IsStreamLine streams
  pub few_streams : length streams ≤ STREAMS

-- The notes of a summary
abbrev pub summary_notes : ℕ → List Note → List Note → List Note → List Note
summary_notes until agents variables streams = note.End until ∷ (agents ++ (variables ++ streams))

module _ (until : ℕ) (events : ℕ → List Note) (agents variables streams : List Note) (are : AreRunNotes until events agents variables streams) where
  -- A summary, behind dates
  summary_leads : (last : ℕ) → last ≤ until → (to : Stand) × IsTrue (may_end to) × Leads (stand.Dated last) (summary_notes until agents variables streams) to
  summary_leads last within =
      let first = agents_lead 0 agents (omega (arith, are.few_agents)) are.agent_lines in
      let next = variables_lead (0 + length agents) variables are.few_variables are.variable_lines in
      let end = streams_lead next.0 streams next.1 are.few_streams are.stream_lines in
      let behind = Leads-append (stand.Agents (0 + length agents)) next.0 end.0 variables streams next.2 end.2 in
      let long : until < 2 ^ 64 = omega (arith, are.most) in (
        end.0,
        end.1,
        (
          stand.Agents 0,
          ((long, tt), where_true (may_be_dated last until) (stand.Agents 0) (may_be last until within are.most)),
          Leads-append (stand.Agents 0) (stand.Agents (0 + length agents)) end.0 agents (variables ++ streams) first behind,
        ),
      )

  -- A summary alone
  pub trial_reads : IsText run_begins (text_of (summary_notes until agents variables streams)) (summary_notes until agents variables streams)
  trial_reads =
      let (to, ends, leads) = summary_leads 0 (omega arith) in
      record { last = to; leads = leads; ends = ends; whole = refl }

  -- A whole run
  abbrev pub run_notes : List Note
  run_notes = flat_map events (range_with_len 0 (until + 1)) ++ summary_notes until agents variables streams

  pub run_reads : IsText run_begins (text_of run_notes) run_notes
  run_reads =
      let (last, within, dates) = at_dates events 0 0 (until + 1) until (omega arith) (omega arith) are.most (omega arith) are.dated in
      let (to, ends, leads) = summary_leads last within in
      record {
        last = to;
        leads = Leads-append (stand.Dated 0) (stand.Dated last) to (flat_map events (range_with_len 0 (until + 1))) (summary_notes until agents variables streams) dates leads;
        ends = ends;
        whole = refl;
      }
