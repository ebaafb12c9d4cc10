-- What a run has told so far is no longer than what it tells in all.
use Rattle.std.proofs.Common.{◌≡◌, ◌∙◌, refl, ap, subst, ℕ, zero, suc, ◌+◌, ◌-◌, ◌*◌, ◌/◌, ◌≤◌, ◌==◌, ◌&&◌, Bool, true, false, List, [], ◌∷◌, ◌++◌, Option, Some, None, length, reverse, append-nil, length-append, arith}
use Rattle.std.specs.Prelude.{if◌then◌else◌}
use Rattle.std.specs.List.{flat_map, range_with_len}
use Rattle.std.proofs.lemmas.Grind.{flat_map-append}
use Rattle.std.proofs.lemmas.List.{reverse-append}
use Rattle.psy_audit.specs.declared.said.Said.{Said}
use Rattle.psy_audit.specs.declared.said.Said.TheVariants.{Acted, Published, Served, Looked, Ended}
use Rattle.psy_audit.specs.declared.said.Segment.{Segment}
use Rattle.psy_audit.specs.Spelled.{line_told, words_told}
use Rattle.psy_audit.specs.Traced.{look_in, looks_of, stretches, with_cycle}
use Rattle.psy_base.specs.declared.sizes.Sizes.{Sizes}
use Rattle.psy_code.specs.Views.{Looked as Sight}
use Rattle.psy_budget.specs.Charges.{cycle_of}
use Rattle.psy_collect.specs.Collected.{behind_first}
use Rattle.psy_history.specs.Actions.{Action, Next, System, next_of}
use Rattle.psy_history.specs.History.{action_of, history, with_start}
use Rattle.psy_history.specs.Schedule.{Turn, cycle_of_unit, is_of, pending, soonest, turn_of, units}
use Rattle.psy_history.specs.Processors.{served}
use Rattle.psy_history.specs.Scheduled.{turns_of}
use Rattle.psy_log.specs.Table.{end_before, spell}
use Rattle.psy_lists.proofs.lemmas.Ranges.{range_longer}
use Rattle.psy_tree.specs.declared.unit.Unit.{Unit as Whole}

-- ---- lines

spell_long : (words : List (List ℕ)) (more : List ℕ) → length words + length more ≤ length (spell words more)
spell_long [] more = omega arith
spell_long (word ∷ words) more =
    let rest = spell_long words more in
    omega (arith, rest, length-append word (end_before words ∷ spell words more))

line_by : (words : List (List ℕ)) → 2 ≤ length words → 2 ≤ length (spell words [])
line_by words some = (let long = spell_long words [] in omega (arith, long, some))

line_long : (unit : Whole) (until : ℕ) (said : Said) → 2 ≤ length (line_told unit until said)
line_long unit until (Acted a) = line_by (words_told unit until (Acted a)) (omega arith)
line_long unit until (Published p) = line_by (words_told unit until (Published p)) (omega arith)
line_long unit until (Served s) = line_by (words_told unit until (Served s)) (omega arith)
line_long unit until (Looked l) = line_by (words_told unit until (Looked l)) (omega arith)
line_long unit until Ended = line_by (words_told unit until Ended) (omega arith)

-- Lines have at least two bytes each.
pub lines_long : (unit : Whole) (until : ℕ) (lines : List Said) → 2 * length lines ≤ length (flat_map (line_told unit until) lines)
lines_long unit until [] = omega arith
lines_long unit until (line ∷ lines) =
    let rest = lines_long unit until lines in
    omega (arith, rest, line_long unit until line, length-append (line_told unit until line) (flat_map (line_told unit until) lines))

-- ---- ranges

module _ {X : Type 0} (f : ℕ → List X) where
  range_on : (n more : ℕ) → length (flat_map f (range_with_len 0 n)) ≤ length (flat_map f (range_with_len 0 (n + more)))
  range_on n zero = (let same : n ≡ n + 0 = omega arith in omega (arith, ap (λ m. length (flat_map f (range_with_len 0 m))) same))
  range_on n (suc more) =
      let rest = range_on n more in
      let next : suc (n + more) ≡ n + suc more = omega arith in
      let is : flat_map f (range_with_len 0 (suc (n + more))) ≡ flat_map f (range_with_len 0 (n + more)) ++ flat_map f ((0 + (n + more)) ∷ []) =
      ap (flat_map f) (range_longer 0 (n + more)) ∙ flat_map-append f (range_with_len 0 (n + more)) ((0 + (n + more)) ∷ []) in
      omega (arith, rest, ap (λ m. length (flat_map f (range_with_len 0 m))) next, ap length is, length-append (flat_map f (range_with_len 0 (n + more))) (flat_map f ((0 + (n + more)) ∷ [])))

  -- What is told of fewer numbers is no longer.
  pub range_most : (n m : ℕ) → n ≤ m → length (flat_map f (range_with_len 0 n)) ≤ length (flat_map f (range_with_len 0 m))
  range_most n m less = subst (λ k. length (flat_map f (range_with_len 0 n)) ≤ length (flat_map f (range_with_len 0 k))) (let same : n + (m - n) ≡ m = omega (arith, less) in same) (range_on n (m - n))

-- ---- an agent's actions

pub length_reverse : {X : Type 0} (xs : List X) → length (reverse xs) ≡ length xs
length_reverse [] = refl
length_reverse (x ∷ xs) = ap length (reverse-append (x ∷ []) xs) ∙ length-append (reverse xs) (x ∷ []) ∙ (let rest = length_reverse xs in let e : length (reverse xs) + 1 ≡ suc (length xs) = omega (arith, rest) in e)

pub behind_few : {X : Type 0} (xs : List X) → length (behind_first xs) ≤ length xs
behind_few [] = omega arith
behind_few (x ∷ xs) = omega arith

-- The last one's come last.
pub flat_reverse : {X Y : Type 0} (f : X → List Y) (x : X) (xs : List X) → flat_map f (reverse (x ∷ xs)) ≡ flat_map f (reverse xs) ++ f x
flat_reverse f x xs = ap (flat_map f) (reverse-append (x ∷ []) xs) ∙ flat_map-append f (reverse xs) (x ∷ []) ∙ ap (λ ys. flat_map f (reverse xs) ++ ys) (append-nil (f x))

module _ {Y : Type 0} (f : Action → List Y) (s : System) (agent : ℕ) where
  date_on : (date : ℕ) → length (flat_map f (reverse (history s date agent))) ≤ length (flat_map f (reverse (history s (suc date) agent)))
  date_on date = by (next_of s agent (history s date agent))
    where
      by : (next : Option Next) → length (flat_map f (reverse (history s date agent))) ≤ length (flat_map f (reverse (with_start s (history s date) date agent (history s date agent) next)))
      by None = omega arith
      by (Some n) = on (n.start == date)
        where
          on : (b : Bool) → length (flat_map f (reverse (history s date agent))) ≤ length (flat_map f (reverse (if b then action_of s (history s date) agent n ∷ history s date agent else history s date agent)))
          on false = omega arith
          on true =
              let is = flat_reverse f (action_of s (history s date) agent n) (history s date agent) in
              omega (arith, ap length is, length-append (flat_map f (reverse (history s date agent))) (f (action_of s (history s date) agent n)))

  dates_on : (date more : ℕ) → length (flat_map f (reverse (history s date agent))) ≤ length (flat_map f (reverse (history s (date + more) agent)))
  dates_on date zero = (let same : date ≡ date + 0 = omega arith in omega (arith, ap (λ d. length (flat_map f (reverse (history s d agent)))) same))
  dates_on date (suc more) =
      let next : suc (date + more) ≡ date + suc more = omega arith in
      omega (arith, dates_on date more, date_on (date + more), ap (λ d. length (flat_map f (reverse (history s d agent)))) next)

  -- What is told of the actions of fewer dates is no longer.
  pub dates_most : (date until : ℕ) → date ≤ until → length (flat_map f (reverse (history s date agent))) ≤ length (flat_map f (reverse (history s until agent)))
  dates_most date until less =
      subst (λ d. length (flat_map f (reverse (history s date agent))) ≤ length (flat_map f (reverse (history s d agent)))) (let same : date + (until - date) ≡ until = omega (arith, less) in same) (dates_on date (until - date))

-- ---- stretches

stretch_on : (processor cycle : ℕ) (turn : Option Turn) (old : List Segment) → length old ≤ length (with_cycle processor cycle turn old)
stretch_on processor cycle None old = omega arith
stretch_on processor cycle (Some turn) [] = omega arith
stretch_on processor cycle (Some turn) (s ∷ before) = by (s.past == cycle && (s.agent == turn.agent && s.number == turn.number))
  where
    by : (b : Bool) → suc (length before) ≤ length (if b then record s { past = cycle + 1 } ∷ before else record { processor = processor; first = cycle; past = cycle + 1; agent = turn.agent; number = turn.number } ∷ s ∷ before)
    by true = omega arith
    by false = omega arith

-- What a cycle of a processor goes to
abbrev pub next_turn : System → (ℕ → List ℕ) → ℕ → ℕ → Option Turn
next_turn s order processor cycle =
    turn_of (soonest (pending (served s.unit processor (order cycle)) (turns_of s order cycle processor) (history s (cycle / s.unit.quantum + 1))))

module _ (s : System) (order : ℕ → List ℕ) (processor : ℕ) where
  stretches_on : (cycle more : ℕ) → length (stretches processor (turns_of s order cycle processor)) ≤ length (stretches processor (turns_of s order (more + cycle) processor))
  stretches_on cycle zero = (let same : cycle ≡ zero + cycle = omega arith in omega (arith, ap (λ c. length (stretches processor (turns_of s order c processor))) same))
  stretches_on cycle (suc more) =
      let before = turns_of s order (more + cycle) processor in
      let grown : length (stretches processor before) ≤ length (stretches processor (next_turn s order processor (more + cycle) ∷ before)) =
      stretch_on processor (length before) (next_turn s order processor (more + cycle)) (stretches processor before) in
      let e : suc (more + cycle) ≡ suc more + cycle = omega arith in
      omega (arith, stretches_on cycle more, grown, ap (λ c. length (stretches processor (turns_of s order c processor))) e)

  -- Fewer cycles have no more stretches.
  pub stretches_most : (cycle end : ℕ) → cycle ≤ end → length (stretches processor (turns_of s order cycle processor)) ≤ length (stretches processor (turns_of s order end processor))
  stretches_most cycle end less =
      subst (λ c. length (stretches processor (turns_of s order cycle processor)) ≤ length (stretches processor (turns_of s order c processor)))
      (let same : (end - cycle) + cycle ≡ end = omega (arith, less) in same) (stretches_on cycle (end - cycle))

-- ---- looks

pub flat_most : {X Y : Type 0} (f g : X → List Y) → ((x : X) → length (f x) ≤ length (g x)) → (xs : List X) → length (flat_map f xs) ≤ length (flat_map g xs)
flat_most f g each [] = omega arith
flat_most f g each (x ∷ xs) = omega (arith, each x, flat_most f g each xs, length-append (f x) (flat_map f xs), length-append (g x) (flat_map g xs))

look_few : (s : System) (sizes : Sizes) (r : Action) (look : Sight) (cycle : Option ℕ) → length (look_in s sizes r look cycle) ≤ 1
look_few s sizes r look None = omega arith
look_few s sizes r look (Some cycle) = omega arith

module _ (s : System) (sizes : Sizes) (r : Action) where
  look_on : (turn : Option Turn) (turns : List (Option Turn)) (look : Sight) (unit : ℕ)
      → length (look_in s sizes r look (cycle_of_unit r.agent r.number unit turns)) ≤ length (look_in s sizes r look (cycle_of_unit r.agent r.number unit (turn ∷ turns)))
  look_on turn turns look unit = by (is_of r.agent r.number turn && units r.agent r.number turns == unit)
    where
      by : (b : Bool) → length (look_in s sizes r look (cycle_of_unit r.agent r.number unit turns))
          ≤ length (look_in s sizes r look (if b then Some (length turns) else cycle_of_unit r.agent r.number unit turns))
      by true = look_few s sizes r look (cycle_of_unit r.agent r.number unit turns)
      by false = omega arith

  -- An action looks at no less with one more cycle.
  pub looks_on : (turn : Option Turn) (turns : List (Option Turn)) → length (looks_of s sizes turns r) ≤ length (looks_of s sizes (turn ∷ turns) r)
  looks_on turn turns =
      flat_most (λ (look : Sight). look_in s sizes r look (cycle_of_unit r.agent r.number (cycle_of (s.stalls r.agent) r.number look.number) turns))
      (λ (look : Sight). look_in s sizes r look (cycle_of_unit r.agent r.number (cycle_of (s.stalls r.agent) r.number look.number) (turn ∷ turns)))
      (λ look. look_on turn turns look (cycle_of (s.stalls r.agent) r.number look.number)) r.deeds.looks

module _ (s : System) (order : ℕ → List ℕ) (sizes : Sizes) (processor : ℕ) (r : Action) where
  looks_by : (cycle more : ℕ) → length (looks_of s sizes (turns_of s order cycle processor) r) ≤ length (looks_of s sizes (turns_of s order (more + cycle) processor) r)
  looks_by cycle zero = (let same : cycle ≡ zero + cycle = omega arith in omega (arith, ap (λ c. length (looks_of s sizes (turns_of s order c processor) r)) same))
  looks_by cycle (suc more) =
      let before = turns_of s order (more + cycle) processor in
      let grown : length (looks_of s sizes before r) ≤ length (looks_of s sizes (next_turn s order processor (more + cycle) ∷ before) r) = looks_on s sizes r (next_turn s order processor (more + cycle)) before in
      let e : suc (more + cycle) ≡ suc more + cycle = omega arith in
      omega (arith, looks_by cycle more, grown, ap (λ c. length (looks_of s sizes (turns_of s order c processor) r)) e)

  -- Nor with more cycles.
  pub looks_most : (cycle end : ℕ) → cycle ≤ end → length (looks_of s sizes (turns_of s order cycle processor) r) ≤ length (looks_of s sizes (turns_of s order end processor) r)
  looks_most cycle end less =
      subst (λ c. length (looks_of s sizes (turns_of s order cycle processor) r) ≤ length (looks_of s sizes (turns_of s order c processor) r))
      (let same : (end - cycle) + cycle ≡ end = omega (arith, less) in same) (looks_by cycle (end - cycle))
