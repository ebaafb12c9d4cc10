-- A trace whose numbers have at most 12 digits is read as it was written, line by line.
use Rattle.std.proofs.Common.{◌≡◌, ◌∙◌, refl, sym, ap, ℕ, ◌<◌, List, [], ◌∷◌, length, map, Some, None}
use Rattle.std.specs.Prelude.{FitsSigned, if◌then◌else◌, option_and_then}
use Rattle.std.specs.Int.{w32}
use Rattle.std.specs.List.{Contains, flat_map}
use Rattle.std.proofs.lemmas.Bool.{eq-eqb}
use Rattle.std.proofs.lemmas.Simd.{map-map}
use Rattle.psy_lists.proofs.lemmas.Members.{contains_behind, contains_front}
use Rattle.psy_meaning.specs.Units.{IsBare}
use Rattle.psy_text.specs.Lines.{lines_of}
use Rattle.psy_text.specs.Words.{words_of}
use Rattle.psy_tree.specs.declared.unit.Unit.{Unit as Whole}
use Rattle.psy_tree.specs.Parts.{agent_at, no_agent, no_variable, variable_at}
use Rattle.psy_audit.specs.declared.said.Said.{Said}
use Rattle.psy_audit.specs.declared.said.Said.TheVariants.{Acted, Published, Served, Looked, Ended}
use Rattle.psy_audit.specs.Spelled.{line_told, words_told}
use Rattle.psy_audit.specs.Texts.{act_with, end_at, lines_in, look_with, publication_with, said_in, segment_with}
use Rattle.psy_legal.proofs.WrittenNames.{agent_again, variable_again}
use Rattle.psy_legal.proofs.WrittenNumbers.{EndsShort, IsShort, ending_again, ending_plain, name_plain, number_again, number_plain, value_again, value_plain}
use Rattle.psy_legal.proofs.WrittenWords.{AreWords, IsPlain, words_again}

-- A line whose agents and variables there are, whose numbers have at most 12 digits, and whose values have 32 bits
abbrev pub IsTold : Whole → ℕ → Said → Type 0
IsTold unit until (Acted a) = (a.agent < length unit.agents) × IsShort a.number × IsShort a.point × IsShort a.start × IsShort a.due × IsShort a.work × EndsShort a.ending
IsTold unit until (Published p) = (p.variable < length unit.variables) × IsShort p.date × IsShort p.slot × FitsSigned w32 p.value
IsTold unit until (Served t) = IsShort t.processor × IsShort t.first × IsShort t.past × (t.agent < length unit.agents) × IsShort t.number
IsTold unit until (Looked l) = (l.agent < length unit.agents) × IsShort l.number × IsShort l.cycle × (l.variable < length unit.variables) × IsShort l.back × IsShort l.slot × FitsSigned w32 l.value
IsTold unit until Ended = IsShort until

module _ (unit : Whole) (bare : IsBare unit) (until : ℕ) where
  agent_plain : (agent : ℕ) → agent < length unit.agents → IsPlain (agent_at unit agent).name
  agent_plain agent less = name_plain (agent_at unit agent).name (bare.agents agent no_agent less).name.0

  variable_plain : (variable : ℕ) → variable < length unit.variables → IsPlain (variable_at unit variable).name
  variable_plain variable less = name_plain (variable_at unit variable).name (bare.variables variable no_variable less).name.0

  -- Its words are words,
  words_are : (x : Said) → IsTold unit until x → AreWords (words_told unit until x)
  words_are (Acted a) (agent, number, point, start, due, work, ending) =
      ((refl, (refl, (refl, tt {0}))), (agent_plain a.agent agent, (number_plain a.number number, (number_plain a.point point, (number_plain a.start start, (number_plain a.due due, (number_plain a.work work, (ending_plain a.ending ending, tt {0}))))))))
  words_are (Published p) (variable, date, slot, value) =
      ((refl, (refl, (refl, tt {0}))), (variable_plain p.variable variable, (number_plain p.date date, (number_plain p.slot slot, (value_plain p.value value, tt {0})))))
  words_are (Served t) (processor, first, past, agent, number) =
      ((refl, (refl, (refl, tt {0}))), (number_plain t.processor processor, (number_plain t.first first, (number_plain t.past past, (agent_plain t.agent agent, (number_plain t.number number, tt {0}))))))
  words_are (Looked l) (agent, number, cycle, variable, back, slot, value) =
      ((refl, (refl, (refl, (refl, tt {0})))), (agent_plain l.agent agent, (number_plain l.number number, (number_plain l.cycle cycle, (variable_plain l.variable variable, (number_plain l.back back, (number_plain l.slot slot, (value_plain l.value value, tt {0}))))))))
  words_are Ended short = ((refl, (refl, (refl, tt {0}))), (number_plain until short, tt {0}))

  -- and say what it says.
  line_again : (x : Said) → IsTold unit until x → said_in unit until (words_told unit until x) ≡ Some x
  line_again (Acted a) (agent, number, point, start, due, work, ending) = λ i.
      act_with (agent_again unit bare a.agent agent i) (number_again a.number number i) (number_again a.point point i) (number_again a.start start i) (number_again a.due due i) (number_again a.work work i) (ending_again a.ending ending i)
  line_again (Published p) (variable, date, slot, value) = λ i.
      publication_with (variable_again unit bare p.variable variable i) (number_again p.date date i) (number_again p.slot slot i) (value_again p.value value i)
  line_again (Served t) (processor, first, past, agent, number) = λ i.
      segment_with (number_again t.processor processor i) (number_again t.first first i) (number_again t.past past i) (agent_again unit bare t.agent agent i) (number_again t.number number i)
  line_again (Looked l) (agent, number, cycle, variable, back, slot, value) = λ i.
      look_with (agent_again unit bare l.agent agent i) (number_again l.number number i) (number_again l.cycle cycle i) (variable_again unit bare l.variable variable i) (number_again l.back back i) (number_again l.slot slot i) (value_again l.value value i)
  line_again Ended short = ap (option_and_then (end_at until)) (number_again until short) ∙ ap (λ t. if t then Some Ended else None) (eq-eqb until until refl)

  each_again : (xs : List Said) → ((x : Said) → Contains xs x → IsTold unit until x) → map (said_in unit until) (map (words_told unit until) xs) ≡ map Some xs
  each_again [] told = refl
  each_again (x ∷ xs) told =
      ap (λ o. o ∷ map (said_in unit until) (map (words_told unit until) xs)) (line_again x (told x (contains_front x xs)))
      ∙ ap (λ os. Some x ∷ os) (each_again xs (λ y c. told y (contains_behind x xs y c)))

  -- The text is read as it was written.
  pub read_again : (xs : List Said) → ((x : Said) → Contains xs x → IsTold unit until x) → lines_in unit until (flat_map (line_told unit until) xs) ≡ map Some xs
  read_again xs told =
      sym (map-map (said_in unit until) words_of (lines_of (flat_map (line_told unit until) xs)))
      ∙ ap (map (said_in unit until)) (words_again (words_told unit until) xs (λ x c. words_are x (told x c)))
      ∙ each_again xs told
