-- The lines, the schedule and the figures of a run of code are the same in an emptied unit.
use Rattle.std.proofs.Common.{◌≡◌, refl, ℕ, ◌+◌, ◌==◌, List, ◌++◌, map, filter, length, Option, None, Some, flat_map, ℤ}
use Rattle.std.specs.List.{range_with_len}
use Rattle.psy_base.specs.Extremes.{greatest_of, most_of}
use Rattle.psy_budget.specs.declared.charge.Stall.{Stall}
use Rattle.psy_budget.specs.Charges.{cycle_of}
use Rattle.psy_code.specs.declared.code.Code.{Code}
use Rattle.psy_code.specs.Views.{Looked}
use Rattle.psy_history.specs.Actions.{Action, History, System}
use Rattle.psy_history.specs.History.{history}
use Rattle.psy_history.specs.Lines.{events}
use Rattle.psy_history.specs.Schedule.{Turn, cycle_of_unit, turns}
use Rattle.psy_history.specs.Scheduled.{turns_by, turns_of}
use Rattle.psy_history.specs.Summary.{age_in, ages_of, at_least, dates_from, due_by, most_held, numbers_in, reach, slack}
use Rattle.psy_tree.specs.declared.unit.Unit.{Unit as Whole}
use Rattle.psy_same.proofs.Emptied.{same_count, same_processor}
use Rattle.psy_same.proofs.Histories.{bare, events_alike, held_alike, history_alike, whole}

-- Two systems have the same lines and the same figures: of their agents as many actions that are due, with the same least slack, and of their buffers
-- the same reach and the most messages held.
pub record AreAlike (a b : System) : Type 0 where
  pub lines : (date : ℕ) → events a date ≡ events b date
  pub counts : (dates until agent : ℕ) → length (due_by until (history a dates agent)) ≡ length (due_by until (history b dates agent))
  pub slacks : (order : ℕ → List ℕ) (dates cycles until agent : ℕ)
      → slack a.unit.quantum (turns_by a order cycles agent) (due_by until (history a dates agent))
      ≡ slack b.unit.quantum (turns_by b order cycles agent) (due_by until (history b dates agent))
  pub held : (until stream : ℕ) → most_held a until stream ≡ most_held b until stream
  pub reaches : (order : ℕ → List ℕ) (dates cycles variable : ℕ)
      → reach a (turns_by a order cycles) (history a dates) variable ≡ reach b (turns_by b order cycles) (history b dates) variable

module _ (unit : Whole) (code : Code) (nexts : List (List (List ℕ))) (stalls : ℕ → List Stall) (inputs : List (List ℤ)) where
  abbrev less : System
  less = bare unit code nexts stalls inputs

  abbrev full : System
  full = whole unit code nexts stalls inputs

  started : (dates : ℕ) → history less dates ≡ history full dates
  started dates = history_alike unit code nexts stalls inputs dates

  -- ---- turns

  turns_alike : (order : ℕ → List ℕ) (cycles processor : ℕ) → turns_of less order cycles processor ≡ turns_of full order cycles processor
  turns_alike order cycles processor = λ i.
      turns (λ cycle. filter (λ agent. same_processor unit i agent == processor) (order cycle)) unit.quantum (λ dates. started dates i) cycles

  turns_by_alike : (order : ℕ → List ℕ) (cycles : ℕ) → turns_by less order cycles ≡ turns_by full order cycles
  turns_by_alike order cycles = λ i agent. turns_alike order cycles (same_processor unit i agent) i

  -- ---- buffers

  age_alike : (r : Action) (look : Looked) (cycle : Option ℕ) → age_in less r look cycle ≡ age_in full r look cycle
  age_alike r look None = refl
  age_alike r look (Some cycle) = refl

  ages_alike : (gone : ℕ → List (Option Turn)) (variable : ℕ) (r : Action) → ages_of less gone variable r ≡ ages_of full gone variable r
  ages_alike gone variable r = λ i.
      flat_map (λ (look : Looked). age_alike r look (cycle_of_unit r.agent r.number (cycle_of (stalls r.agent) r.number look.number) (gone r.agent)) i)
      (filter (λ (look : Looked). look.variable == variable) r.deeds.looks)

  reach_alike : (gone : ℕ → List (Option Turn)) (h : History) (variable : ℕ) → reach less gone h variable ≡ reach full gone h variable
  reach_alike gone h variable = λ i.
      greatest_of (numbers_in (full.opening.reach variable)
      ++ flat_map (λ agent. flat_map (λ r. ages_alike gone variable r i) (h agent)) (range_with_len 0 (same_count unit i)))

  most_alike : (until stream : ℕ) → most_held less until stream ≡ most_held full until stream
  most_alike until stream = λ i. at_least (full.opening.most stream)
      (most_of (map (λ at. length (held_alike unit code nexts stalls inputs (started (at + 1) i) stream at i)) (dates_from full.opening.dates (until + 1))))

  -- ---- all of it

  pub are_alike : AreAlike less full
  are_alike = record {
    lines = events_alike unit code nexts stalls inputs;
    counts = λ dates until agent. (λ i. length (due_by until (started dates i agent)));
    slacks = λ order dates cycles until agent. (λ i. slack unit.quantum (turns_by_alike order cycles i agent) (due_by until (started dates i agent)));
    held = most_alike;
    reaches = λ order dates cycles variable. (λ i. reach_alike (turns_by_alike order cycles i) (started dates i) variable i);
  }
