-- What each agent of a processor may ask for over the length of a demand that the processor can't supply.
use Rattle.std.specs.Prelude.{◌≡◌, ℕ, ◌<◌, ◌≤◌, nat_le, if◌then◌else◌, List, [], ◌∷◌, bytes_eq, codes, flat_map}
use Rattle.std.specs.Prelude.{Option, Some, None, MatchOption}
use Rattle.psy_base.specs.declared.limits.TheConstants.{UNTIL}
use Rattle.psy_history.specs.Processors.{processors}
use Rattle.psy_plan.specs.Programs.{IsProgram, IsRefused}
use Rattle.psy_plan.specs.declared.refusal.Refusal.{Refusal}
use Rattle.psy_text.specs.Words.{number_of, words_of}
use Rattle.psy_tree.specs.declared.unit.Unit.{Unit as Whole}
use Rattle.psy_report.specs.Agents.{agents_on, part_text}
use Rattle.psy_report.specs.declared.asked.TheConstants.{ASK}
use Rattle.psy_report.specs.declared.part.Load.{Load}
use Rattle.psy_report.specs.declared.measures.Measures.{Measures}
use Rattle.psy_report.specs.Measured.{AreMeasures, IsUnmeasured}

-- The number, where it is no later than the last date that there is
abbrev pub up_to_last : Option ℕ → Option ℕ
up_to_last None = None
up_to_last (Some number) = if nat_le number UNTIL then Some number else None

-- A length and a processor, where there are both
abbrev pub both : Option ℕ → Option ℕ → Option Load
both (Some within) (Some processor) = Some (record { within = within; processor = processor })
both _ _ = None

-- The processor that the words behind a supply tell: 0 where there are none
abbrev pub processor_told : List (List ℕ) → Option ℕ
processor_told [] = Some 0
processor_told (word ∷ number ∷ []) = if bytes_eq word (codes "on") then number_of number else None
processor_told _ = None

-- The length and the processor of a line that tells of a demand which can't be supplied, by its words
abbrev pub overload_told : List (List ℕ) → Option Load
overload_told (word ∷ length ∷ demand ∷ supply ∷ more) =
    if bytes_eq word (codes "infeasible") then both (up_to_last (number_of length)) (processor_told more) else None
overload_told _ = None

-- What is told of the agents of a processor of a text over a length: each one's part; nothing where the text is no program or has no such processor, or
-- where a limit stands against measuring it
pub data AreAskedBy (program : List ℕ) (over : Load) : List ℕ → Type 0 where
  no_program : (refusal : Refusal) → IsRefused program refusal → AreAskedBy program over []
  no_processor : (unit : Whole) → IsProgram program unit → processors unit ≤ over.processor → AreAskedBy program over []
  unmeasured : (unit : Whole) (refusal : Refusal) → IsProgram program unit → over.processor < processors unit → IsUnmeasured unit over.within refusal
      → AreAskedBy program over []
  each_asks : (unit : Whole) (measures : Measures) → IsProgram program unit → over.processor < processors unit → AreMeasures unit over.within measures
      → AreAskedBy program over (flat_map (part_text ASK.now unit measures over.within) (agents_on unit over.processor))

-- What is told of them where a line tells of a demand that can't be supplied; nothing where it tells of something else
abbrev pub AreAsked : List ℕ → List ℕ → List ℕ → Type 0
AreAsked program line told = MatchOption (overload_told (words_of line)) (told ≡ []) (λ over. AreAskedBy program over told)
