-- What is kept when all cycles were done, with how the last actions ended and the last stretches.
use Rattle.std.proofs.Common.{◌≡◌, ◌∙◌, refl, sym, ap, subst, ℕ, ◌+◌, ◌-◌, ◌*◌, ◌<◌, ◌==◌, Bool, true, false, not, List, [], ◌∷◌, ◌++◌, Option, Some, None, filter, map, length, get_or, reverse, nat_le, arith}
use Rattle.std.specs.Prelude.{if◌then◌else◌, option_to_list}
use Rattle.std.specs.List.{All, Contains, flat_map, range_with_len}
use Rattle.std.proofs.lemmas.Bool.{and_parts, false≢true, leb-true}
use Rattle.std.proofs.lemmas.List.{map-append, reverse-append}
use Rattle.std.proofs.lemmas.List.Elements.{All-cons, All-nil}
use Rattle.std.proofs.lemmas.Option.{none-some, same_Some, slice_get-get_or}
use Rattle.psy_lists.proofs.lemmas.Members.{contains_front}
use Rattle.psy_lists.proofs.lemmas.Tests.{is_off}
use Rattle.psy_audit.specs.declared.said.Act.{Act}
use Rattle.psy_audit.specs.declared.said.Ending.TheVariants.{At, Unfinished}
use Rattle.psy_audit.specs.declared.said.Publication.{Publication}
use Rattle.psy_audit.specs.declared.said.Said.TheVariants.{Acted, Published, Served}
use Rattle.psy_audit.specs.declared.said.Segment.{Segment}
use Rattle.psy_audit.specs.Spelled.{trace_text}
use Rattle.psy_audit.specs.Traced.{act_of, ending_by, looks_of, publication_at, stretches}
use Rattle.psy_collect.specs.Collected.{AreActs, IsLastDue, IsRunning, act_so_far, behind_first, doing_of, first_of, turns_on}
use Rattle.psy_collect.specs.Keeping.{end_in, ended_by, ending_of, kept_text, no_seat, published_in}
use Rattle.psy_collect.specs.declared.kept.Kept.{Kept}
use Rattle.psy_collect.proofs.DateDone.{lawful_clock, stands_at, turns_now}
use Rattle.psy_collect.proofs.Large.{on_whole}
use Rattle.psy_collect.proofs.Laws.{Due, NextRing}
use Rattle.psy_collect.proofs.Published.{published_more}
use Rattle.psy_collect.proofs.Rows.{row_more}
use Rattle.psy_collect.proofs.Runs.{Lawful, lawful, supplied, unsilent}
use Rattle.psy_collect.proofs.Stretches.{first_own}
use Rattle.psy_collect.proofs.Texts.{same_text}
use Rattle.psy_collect.proofs.Turns.{agent_of}
use Rattle.psy_dates.proofs.lemmas.Fits.{GoWell}
use Rattle.psy_dates.specs.declared.seat.Phase.{Phase}
use Rattle.psy_dates.specs.declared.seat.Seat.{Seat}
use Rattle.psy_dates.specs.declared.shared.Shared.{Shared}
use Rattle.psy_dates.specs.Plans.{IsPlan}
use Rattle.psy_dates.specs.Standing.{IsSeated, SeatOf, SeatStands, SharedStands, TellsEnd, phase_by}
use Rattle.psy_history.specs.Actions.{Action, Done, Overran, System, Trapped, Verdict, is_done, is_silent}
use Rattle.psy_history.specs.Compiled.{AreInputs}
use Rattle.psy_history.specs.History.{history}
use Rattle.psy_history.specs.Processors.{processors}
use Rattle.psy_history.specs.Schedule.{Turn, is_pending, units}
use Rattle.psy_history.specs.Scheduled.{IsSupplied, turns_by, turns_of}
use Rattle.psy_history.specs.Scripts.{IsScript}
use Rattle.psy_kernel.specs.Progress.{Progress, after_date, order, system, turns_so_far}
use Rattle.psy_kernel.specs.Runs.{all_given}

-- ---- how an action ended

ending_at : (seat : Seat) (silent pending : Bool) (v : Verdict) → (silent ≡ true → (pending ≡ false) × (is_done v ≡ false)) → (at : Phase) → at ≡ phase_by silent pending (is_done v) → TellsEnd seat v at
    → ending_of at seat.end ≡ (if pending then Unfinished else ending_by v)
ending_at seat true true v over at is tells = absurd (false≢true (sym (over refl).0))
ending_at seat true false (Done point end) over at is tells = absurd (false≢true (sym (over refl).1))
ending_at seat true false (Trapped kind) over at is tells = ap (λ a. ending_of a seat.end) is
ending_at seat true false Overran over at is tells = ap (λ a. ending_of a seat.end) is
ending_at seat false true v over at is tells = ap (λ a. ending_of a seat.end) is
ending_at seat false false (Done point end) over at is tells = ap (λ a. ending_of a seat.end) is ∙ ap At (subst (TellsEnd seat (Done point end)) is tells).0
ending_at seat false false (Trapped kind) over at is tells = ap (λ a. ending_of a seat.end) is
ending_at seat false false Overran over at is tells = ap (λ a. ending_of a seat.end) is

module _ (s : System) (order : ℕ → List ℕ) (until : ℕ) (supplied : IsSupplied s order until) (law : Due) (agent : ℕ) (seat : Seat) where
  abbrev far : List (Option Turn)
  far = turns_by s order (until * s.unit.quantum) agent

  -- The last action of an agent is told with how it ended.
  ended_one : (r : Action) (before : List Action) → history s until agent ≡ r ∷ before → SeatOf (until - 1) far r seat → record (act_so_far far r) { ending = ending_of seat.phase seat.end } ≡ act_of far r
  ended_one r before is sits =
      ap (λ e. record { agent = r.agent; number = r.number; point = r.point; start = r.start; due = r.deadline; work = units r.agent r.number far; ending = e })
      (ending_at seat (is_silent (until - 1) (r ∷ [])) (is_pending far r) r.verdict over seat.phase sits.phase sits.ends)
    where
      over : is_silent (until - 1) (r ∷ []) ≡ true → (is_pending far r ≡ false) × (is_done r.verdict ≡ false)
      over silent =
          let parts = and_parts (not (is_done r.verdict)) (nat_le r.deadline (until - 1)) silent in
          let c = subst (λ rs. Contains rs r) (sym is) (contains_front r before) in
          let low = leb-true r.deadline (until - 1) parts.1 in
          (subst (λ a. is_pending (turns_by s order (until * s.unit.quantum) a) r ≡ false) (agent_of s supplied.lawful until agent r c) (law s order until until agent r supplied (omega arith) c (omega (arith, low))), is_off (is_done r.verdict) parts.0)

  pub ended_row : (actions : List Action) → history s until agent ≡ actions → SeatStands (until - 1) far actions seat
      → map (act_of far) (reverse (behind_first actions)) ++ ended_by (ending_of seat.phase seat.end) (doing_of far actions) ≡ map (act_of far) (reverse actions)
  ended_row [] is sits = refl
  ended_row (r ∷ before) is sits =
      ap (λ a. map (act_of far) (reverse before) ++ a ∷ []) (ended_one r before is sits) ∙ sym (map-append (act_of far) (reverse before) (r ∷ []))
      ∙ ap (map (act_of far)) (sym (reverse-append (r ∷ []) before))

-- ---- lists

map_map : {X Y Z : Type 0} (f : X → Y) (g : Y → Z) (xs : List X) → map g (map f xs) ≡ map (λ x. g (f x)) xs
map_map f g [] = refl
map_map f g (x ∷ xs) = ap (λ zs. g (f x) ∷ zs) (map_map f g xs)

all_stretches : (old : List Segment) → reverse (behind_first old) ++ option_to_list (first_of old) ≡ reverse old
all_stretches [] = refl
all_stretches (g ∷ before) = sym (reverse-append (g ∷ []) before)

-- ---- all that is kept

module _ (p : Progress) (k : Kept) (running : IsRunning p k) (last : IsLastDue p) (fits : IsPlan p.plan) (inputs : AreInputs p.plan.unit p.inputs) (script : IsScript p.plan.unit p.script) (well : GoWell) (law : Lawful)
    (due : Due) (next : NextRing) (before : Shared) (stood : SharedStands (system p) p.plan.sizes (turns_so_far p) p.dates before)
    (q : Progress) (is : q ≡ all_given (after_date p)) (shared : Shared) (stands : SharedStands (system q) q.plan.sizes (turns_so_far q) q.dates shared) where
  abbrev s : System
  s = system p

  abbrev until : ℕ
  until = p.plan.until

  abbrev all : ℕ → List (Option Turn)
  all = turns_by s (order p) (until * p.plan.unit.quantum)

  all_is : turns_so_far p ≡ all
  all_is = turns_now p (until * p.plan.unit.quantum) last.units last.cycles

  seated : (agent : ℕ) → agent < length s.unit.agents → SeatStands (until - 1) (all agent) (history s until agent) (get_or before.seats.items agent no_seat)
  seated agent less =
      let at = slice_get-get_or before.seats.items agent no_seat (omega (arith, less, stood.seated)) in
      let sits = subst (λ b. IsSeated b s.opening.dates (p.dates - 1) (turns_so_far p agent) (history s p.dates agent) (get_or before.seats.items agent no_seat)) (unsilent p running.whole fits inputs script well agent)
      (stood.seats agent (get_or before.seats.items agent no_seat) at) in
      subst (λ turns. SeatStands (until - 1) (turns agent) (history s until agent) (get_or before.seats.items agent no_seat)) all_is
      (subst (λ d. SeatStands (d - 1) (turns_so_far p agent) (history s d agent) (get_or before.seats.items agent no_seat)) last.dates sits)

  acts_are : AreActs (length s.unit.agents) all all (history s until) k.acts k.doing
  acts_are =
      subst (λ turns. AreActs (length s.unit.agents) all turns (history s until) k.acts k.doing) all_is
      (subst (λ d. AreActs (length s.unit.agents) all (turns_so_far p) (history s d) k.acts k.doing) last.dates running.collected.acts)

  own : (agent : ℕ) → agent < length s.unit.agents → All (λ (a : Act). a.agent ≡ agent) (end_in k.doing before.seats.items agent)
  own agent less = kept (get_or k.doing agent None) (acts_are.last agent less)
    where
      kept : (o : Option Act) → o ≡ doing_of (all agent) (history s until agent) → All (λ (a : Act). a.agent ≡ agent) (ended_by (ending_of (get_or before.seats.items agent no_seat).phase (get_or before.seats.items agent no_seat).end) o)
      kept None e = All-nil (λ (a : Act). a.agent ≡ agent)
      kept (Some a) e = All-cons (λ (x : Act). x.agent ≡ agent) (record a { ending = ending_of (get_or before.seats.items agent no_seat).phase (get_or before.seats.items agent no_seat).end }) [] (on (history s until agent) refl e) (All-nil (λ (x : Act). x.agent ≡ agent))
        where
          on : (actions : List Action) → history s until agent ≡ actions → Some a ≡ doing_of (all agent) actions → a.agent ≡ agent
          on [] at same = absurd (none-some a (sym same))
          on (r ∷ rest) at same =
              ap (λ (x : Act). x.agent) (same_Some a (act_so_far (all agent) r) same)
              ∙ agent_of s (lawful p running.whole fits inputs script well law) until agent r (subst (λ rs. Contains rs r) (sym at) (contains_front r rest))

  own_stretch : (processor : ℕ) → processor < processors s.unit → All (λ (g : Segment). g.processor ≡ processor) (option_to_list (get_or k.serving processor None))
  own_stretch processor less = kept (get_or k.serving processor None) (running.collected.stretches.last processor less)
    where
      kept : (o : Option Segment) → o ≡ first_of (stretches processor (turns_on p processor)) → All (λ (g : Segment). g.processor ≡ processor) (option_to_list o)
      kept None e = All-nil (λ (g : Segment). g.processor ≡ processor)
      kept (Some g) e = All-cons (λ (x : Segment). x.processor ≡ processor) g [] (first_own processor (turns_on p processor) g (sym e)) (All-nil (λ (x : Segment). x.processor ≡ processor))

  on_end : (processor : ℕ) → turns_on p processor ≡ turns_of s (order p) (until * p.plan.unit.quantum) processor
  on_end processor = ap (λ c. turns_of s (order p) c processor) (on_whole p processor last.units ∙ last.cycles)

  abbrev whole : List Act → List Publication → List Segment → Kept
  whole acts publications segments = record k { acts = acts; publications = publications; segments = segments }

  -- All that the run tells is kept: so the text is that of its trace.
  pub all_text : (acts : List Act) (publications : List Publication) (segments : List Segment)
      → acts ≡ k.acts ++ flat_map (end_in k.doing before.seats.items) (range_with_len 0 (length before.seats.items))
      → publications ≡ k.publications ++ flat_map (published_in p.plan shared p.dates) (range_with_len 0 (length p.plan.unit.variables))
      → segments ≡ k.segments ++ flat_map (λ processor. option_to_list (get_or k.serving processor None)) (range_with_len 0 (processors p.plan.unit))
      → kept_text p.plan.unit until (whole acts publications segments) ≡ trace_text s (order p) p.plan.sizes until
  all_text acts publications segments acts_is publications_is segments_is = same_text s (order p) p.plan.sizes until (whole acts publications segments) (record {
    acts = λ agent less.
        ap (λ xs. map Acted (filter (λ (a : Act). a.agent == agent) xs)) (acts_is ∙ ap (λ n. k.acts ++ flat_map (end_in k.doing before.seats.items) (range_with_len 0 n)) stood.seated)
        ∙ ap (map Acted) (row_more (λ (a : Act). a.agent) (end_in k.doing before.seats.items) (length s.unit.agents) own k.acts agent less
        ∙ ap (λ xs. xs ++ end_in k.doing before.seats.items agent) (acts_are.over agent less)
        ∙ ap (λ o. map (act_of (all agent)) (reverse (behind_first (history s until agent))) ++ ended_by (ending_of (get_or before.seats.items agent no_seat).phase (get_or before.seats.items agent no_seat).end) o) (acts_are.last agent less)
        ∙ ended_row s (order p) until (supplied p running.whole fits inputs script well law) due agent (get_or before.seats.items agent no_seat) (history s until agent) refl (seated agent less))
        ∙ map_map (act_of (all agent)) Acted (reverse (history s until agent));
    publications = λ variable less.
        ap (λ ps. map Published (filter (λ (x : Publication). x.variable == variable) ps)) publications_is
        ∙ (published_more p.plan s (turns_so_far p) p.dates shared fits refl (lawful p running.whole fits inputs script well law) next (stands_at p q is shared stands) (lawful_clock p fits) k.publications running.collected.publications).each variable less
        ∙ ap (λ d. flat_map (publication_at s p.plan.sizes variable) (range_with_len 0 (d + 1))) last.dates;
    segments = λ processor less.
        ap (λ gs. map Served (filter (λ (g : Segment). g.processor == processor) gs)) segments_is
        ∙ ap (map Served) (row_more (λ (g : Segment). g.processor) (λ n. option_to_list (get_or k.serving n None)) (processors s.unit) own_stretch k.segments processor less
        ∙ ap (λ xs. xs ++ option_to_list (get_or k.serving processor None)) (running.collected.stretches.over processor less)
        ∙ ap (λ o. reverse (behind_first (stretches processor (turns_on p processor))) ++ option_to_list o) (running.collected.stretches.last processor less)
        ∙ all_stretches (stretches processor (turns_on p processor)) ∙ ap (λ ts. reverse (stretches processor ts)) (on_end processor));
    looks = λ agent less.
        running.collected.looks.each agent less
        ∙ ap (λ turns. flat_map (looks_of s p.plan.sizes (turns agent)) (reverse (history s p.dates agent))) all_is
        ∙ ap (λ d. flat_map (looks_of s p.plan.sizes (all agent)) (reverse (history s d agent))) last.dates;
  })
