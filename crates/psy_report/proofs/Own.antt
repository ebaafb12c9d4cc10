-- Agents one by one: what each demands of a processor, sums over them, and the lines of those that a processor serves.
use Rattle.std.proofs.Common.{◌≡◌, ◌∙◌, ℕ, ◌+◌, Bool, true, false, List, [], ◌∷◌, ◌++◌, get_or, refl, sym, ap, append_assoc, append-nil}
use Rattle.std.specs.Prelude.{if◌then◌else◌}
use Rattle.std.specs.List.{filter, flat_map, range_with_len}
use Rattle.std.proofs.lemmas.Bool.{eq-eqb, ne_eqb}
use Rattle.std.proofs.lemmas.Grind.{flat_map-append}
use Rattle.std.proofs.lemmas.List.Elements.{filter-append}
use Rattle.psy_lists.proofs.lemmas.Ranges.{range_more}
use Rattle.psy_history.specs.Processors.{processor_at}
use Rattle.psy_tree.specs.declared.unit.Unit.{Unit as Whole}
use Rattle.psy_tree.specs.Parts.{homes}
use Rattle.psy_report.specs.Tightness.{demand_of}

module _ (unit : Whole) (lists : List (List ℕ)) (processor within agent : ℕ) where
  -- An agent of the processor demands what its list has,
  pub demand_of_own : processor_at unit agent ≡ processor → demand_of lists (homes unit) processor within agent ≡ get_or (get_or lists agent []) within 0
  unfolding processor_at
  demand_of_own own = rw (eq-eqb (get_or (homes unit) agent 0) processor own) refl

  -- And one of another nothing.
  pub demand_of_other : (processor_at unit agent ≡ processor → ⊥) → demand_of lists (homes unit) processor within agent ≡ 0
  unfolding processor_at
  demand_of_other other = rw (ne_eqb (get_or (homes unit) agent 0) processor other) refl

module _ (line : ℕ → List ℕ) (own : ℕ → Bool) where
  -- The lines of those, among the first so many, that are own ones
  abbrev pub own_below : ℕ → List ℕ
  own_below n = flat_map line (filter own (range_with_len 0 n))

  line_if_own : (n : ℕ) (b : Bool) → own n ≡ b → flat_map line (filter own (n ∷ [])) ≡ (if b then line n else [])
  line_if_own n true is = rw is (append-nil (line n))
  line_if_own n false is = rw is refl

  own_more : (n : ℕ) → own_below (n + 1) ≡ own_below n ++ (if own n then line n else [])
  own_more n =
      ap (λ numbers. flat_map line (filter own numbers)) (range_more n) ∙ ap (flat_map line) (filter-append own (range_with_len 0 n) (n ∷ []))
      ∙ flat_map-append line (filter own (range_with_len 0 n)) (filter own (n ∷ [])) ∙ ap (λ l. own_below n ++ l) (line_if_own n (own n) refl)

  -- A text that goes on by the line of one more, where that is an own one
  pub own_line_more : (front out new : List ℕ) (n : ℕ) → out ≡ front ++ own_below n → new ≡ out ++ (if own n then line n else [])
      → new ≡ front ++ own_below (n + 1)
  own_line_more front out new n was now =
      let more = if own n then line n else [] in
      now ∙ ap (λ l. l ++ more) was ∙ append_assoc front (own_below n) more ∙ ap (λ l. front ++ l) (sym (own_more n))
