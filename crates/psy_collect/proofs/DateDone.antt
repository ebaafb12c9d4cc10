-- A run behind one more date, and what is kept of it.
use Rattle.std.proofs.Common.{◌≡◌, ◌∙◌, refl, sym, ap, subst, ℕ, ◌+◌, ◌-◌, ◌*◌, ◌^◌, ◌<◌, ◌≤◌, false, List, ◌++◌, Option, None, length, get_or, reverse, arith}
use Rattle.std.specs.Prelude.{Some, slice_get}
use Rattle.std.specs.List.{flat_map, range_with_len}
use Rattle.psy_audit.specs.declared.said.Act.{Act}
use Rattle.psy_audit.specs.declared.said.Publication.{Publication}
use Rattle.psy_audit.specs.Traced.{looks_of}
use Rattle.psy_clock.specs.Dates.{IsClock}
use Rattle.psy_collect.specs.Collected.{AreActs, ArePublished, IsRunning, ShowsAll, turns_at_end}
use Rattle.psy_collect.specs.Keeping.{last_in, over_in, published_in}
use Rattle.psy_collect.specs.declared.kept.Kept.{Kept}
use Rattle.psy_collect.proofs.DateActs.{acts_more, looks_same}
use Rattle.psy_collect.proofs.Large.{on_whole}
use Rattle.psy_collect.proofs.Laws.{Earlier, NextRing, Unstarted, Within}
use Rattle.psy_collect.proofs.Published.{published_more, shows}
use Rattle.psy_collect.proofs.Runs.{Lawful, lawful, supplied, unsilent}
use Rattle.psy_dates.proofs.lemmas.Fits.{GoWell}
use Rattle.psy_dates.specs.declared.plan.Plan.{Plan}
use Rattle.psy_dates.specs.declared.seat.Seat.{Seat}
use Rattle.psy_dates.specs.declared.shared.Shared.{Shared}
use Rattle.psy_dates.specs.Plans.{IsPlan}
use Rattle.psy_dates.specs.Standing.{IsSeated, SeatStands, SharedStands}
use Rattle.psy_history.specs.Actions.{System, publishing}
use Rattle.psy_history.specs.Compiled.{AreInputs}
use Rattle.psy_history.specs.History.{history}
use Rattle.psy_history.specs.Processors.{processor_at}
use Rattle.psy_history.specs.Schedule.{Turn}
use Rattle.psy_history.specs.Scheduled.{turns_by, turns_of}
use Rattle.psy_history.specs.Scripts.{IsScript}
use Rattle.psy_kernel.specs.Progress.{Progress, after_date, cycles_on, order, system, turns_so_far}
use Rattle.psy_kernel.specs.Runs.{all_given}
use Rattle.psy_tree.specs.Parts.{no_clock, no_variable, variable_at}

-- The clock of a variable is lawful.
pub lawful_clock : (p : Progress) → IsPlan p.plan → (variable : ℕ) → variable < length p.plan.unit.variables → IsClock (publishing (system p) variable)
lawful_clock p fits variable less =
    let v = variable_at p.plan.unit variable in
    fits.fits.bare.clocks v.clock no_clock (fits.fits.bare.variables variable no_variable less).clock

-- Where no cycle was begun, each processor did the cycles that were done whole.
pub turns_now : (p : Progress) (cycles : ℕ) → p.units ≡ 0 → p.cycles ≡ cycles → turns_so_far p ≡ turns_by (system p) (order p) cycles
turns_now p cycles none is = λ i agent. turns_of (system p) (order p) (at agent i) (processor_at p.plan.unit agent)
  where
    at : (agent : ℕ) → cycles_on p (processor_at p.plan.unit agent) ≡ cycles
    at agent = on_whole p (processor_at p.plan.unit agent) none ∙ is

module _ (p q : Progress) (is : q ≡ all_given (after_date p)) (shared : Shared) (stands : SharedStands (system q) q.plan.sizes (turns_so_far q) q.dates shared) where
  pub stands_at : SharedStands (system p) p.plan.sizes (turns_so_far p) (p.dates + 1) shared
  stands_at = subst (λ x. SharedStands (system x) x.plan.sizes (turns_so_far x) x.dates shared) is stands

  pub shows_at : (plan : Plan) (date : ℕ) → plan ≡ q.plan → date ≡ p.dates → date ≤ 2 ^ 40 → ShowsAll plan date shared
  shows_at plan date plan_is date_is early =
      subst (λ x. ShowsAll x date shared) (sym (plan_is ∙ ap (λ (x : Progress). x.plan) is))
      (shows p.plan (system p) (turns_so_far p) date shared refl early (subst (λ d. SharedStands (system p) p.plan.sizes (turns_so_far p) (d + 1) shared) (sym date_is) stands_at))

-- The seats of a run, none of whose agents is silent from the beginning
pub seats_at : (p : Progress) (turns : ℕ → List (Option Turn)) (date : ℕ) (shared : Shared) → ((agent : ℕ) → (system p).opening.silent agent ≡ false) → SharedStands (system p) p.plan.sizes turns (date + 1) shared
    → (agent : ℕ) (seat : Seat) → slice_get shared.seats.items agent ≡ Some seat → SeatStands date (turns agent) (history (system p) (date + 1) agent) seat
seats_at p turns date shared loud stands agent seat at =
    let e : date + 1 - 1 ≡ date = omega arith in
    subst (λ d. SeatStands d (turns agent) (history (system p) (date + 1) agent) seat) e
    (subst (λ b. IsSeated b (system p).opening.dates (date + 1 - 1) (turns agent) (history (system p) (date + 1) agent) seat) (loud agent) (stands.seats agent seat at))

module _ (p : Progress) (k : Kept) (running : IsRunning p k) (fits : IsPlan p.plan) (inputs : AreInputs p.plan.unit p.inputs) (script : IsScript p.plan.unit p.script) (well : GoWell) (law : Lawful)
    (earlier : Earlier) (within : Within) (unstarted : Unstarted) (next : NextRing) (early : p.dates < p.plan.until) (due : p.cycles ≡ p.dates * p.plan.unit.quantum)
    (q : Progress) (is : q ≡ all_given (after_date p)) (shared : Shared) (stands : SharedStands (system q) q.plan.sizes (turns_so_far q) q.dates shared) where
  abbrev s : System
  s = system p

  none : p.units ≡ 0
  none = running.due due

  now_is : turns_so_far p ≡ turns_by s (order p) (p.dates * p.plan.unit.quantum)
  now_is = turns_now p (p.dates * p.plan.unit.quantum) none due

  its : SharedStands s p.plan.sizes (turns_by s (order p) (p.dates * p.plan.unit.quantum)) (p.dates + 1) shared
  its = subst (λ turns. SharedStands s p.plan.sizes turns (p.dates + 1) shared) now_is (stands_at p q is shared stands)

  -- What is kept of the run behind the date
  pub date_kept : (acts : List Act) (publications : List Publication) (last : List (Option Act))
      → publications ≡ k.publications ++ flat_map (published_in p.plan shared p.dates) (range_with_len 0 (length p.plan.unit.variables))
      → acts ≡ k.acts ++ flat_map (over_in k.doing shared.seats.items p.dates) (range_with_len 0 (length shared.seats.items))
      → length last ≡ length k.doing → ((agent : ℕ) → agent < length shared.seats.items → get_or last agent None ≡ last_in k.doing shared.seats.items p.dates agent)
      → IsRunning q (record k { acts = acts; publications = publications; doing = last })
  date_kept acts publications last published_is acts_are many each =
      subst (λ x. IsRunning x (record k { acts = acts; publications = publications; doing = last })) (sym is) (record {
        whole = running.whole;
        given = refl;
        begun = running.begun;
        early = omega (arith, early);
        high = omega (arith, due);
        low = omega (arith, due);
        due = λ e. none;
        collected = record {
          acts = subst (λ turns. AreActs (length p.plan.unit.agents) (turns_at_end p) turns (history s (p.dates + 1)) acts last) (sym now_is)
              (subst (λ xs. AreActs (length p.plan.unit.agents) (turns_at_end p) (turns_by s (order p) (p.dates * p.plan.unit.quantum)) (history s (p.dates + 1)) xs last) (sym acts_are)
              (acts_more s (order p) p.plan.until (supplied p running.whole fits inputs script well law) earlier within unstarted p.dates early k.acts k.doing
              (subst (λ turns. AreActs (length p.plan.unit.agents) (turns_at_end p) turns (history s p.dates) k.acts k.doing) now_is running.collected.acts)
              shared.seats.items its.seated (seats_at p (turns_by s (order p) (p.dates * p.plan.unit.quantum)) p.dates shared (unsilent p running.whole fits inputs script well) its) last many each));
          publications = subst (ArePublished s p.plan.sizes (p.dates + 1)) (sym published_is)
              (published_more p.plan s (turns_by s (order p) (p.dates * p.plan.unit.quantum)) p.dates shared fits refl (lawful p running.whole fits inputs script well law) next its (lawful_clock p fits) k.publications running.collected.publications);
          stretches = running.collected.stretches;
          looks = record {
            each = λ agent less.
                running.collected.looks.each agent less
                ∙ ap (λ turns. flat_map (looks_of s p.plan.sizes (turns agent)) (reverse (history s p.dates agent))) now_is
                ∙ looks_same s (order p) p.plan.until (supplied p running.whole fits inputs script well law) earlier within unstarted p.dates early p.plan.sizes agent
                ∙ sym (ap (λ turns. flat_map (looks_of s p.plan.sizes (turns agent)) (reverse (history s (p.dates + 1) agent))) now_is);
            known = running.collected.looks.known;
          };
        };
      })
