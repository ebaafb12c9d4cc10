-- The actions of a trace have their cycles: as many as they tell of, no more than their budget, from their start on and before their deadline.
use Rattle.std.proofs.Common.{◌≡◌, ◌∙◌, refl, sym, ap, subst, ℕ, zero, suc, ◌+◌, ◌-◌, ◌*◌, ◌/◌, ◌<◌, ◌≤◌, ◌==◌, ◌&&◌, ◌||◌, nat_le, Bool, true, false, cond, not, List, Option, inl, inr, arith}
use Rattle.std.specs.List.{Contains, count_by, list_all, range_with_len}
use Rattle.std.proofs.lemmas.Bool.{and_from, and_left, and_right, cases_lt, eq-eqb, le-leb, lt-leb, ltb-false, or_right, le-ltb}
use Rattle.std.proofs.lemmas.List.Elements.{All-contains}
use Rattle.std.proofs.lemmas.Nat.{div_below, le-div, mul-le}
use Rattle.psy_base.specs.declared.sizes.Sizes.{Sizes}
use Rattle.psy_lists.proofs.lemmas.Ranges.{sum_more}
use Rattle.psy_history.specs.Actions.{Action, System, timing}
use Rattle.psy_history.specs.History.{history}
use Rattle.psy_history.specs.Processors.{processor_at}
use Rattle.psy_history.specs.Regular.{IsRegular}
use Rattle.psy_history.specs.Schedule.{Turn, is_of, units, work}
use Rattle.psy_history.specs.Scheduled.{turns_by}
use Rattle.psy_meaning.specs.Timing.{budget_at}
use Rattle.psy_audit.specs.declared.said.Act.{Act}
use Rattle.psy_audit.specs.declared.said.Segment.{Segment}
use Rattle.psy_audit.specs.Courses.{cycles_in, has_cycles, is_filled, is_unfinished, is_within}
use Rattle.psy_audit.specs.Traced.{act_of}
use Rattle.psy_audit.specs.Traces.{Judged, Lines, segments_of}
use Rattle.psy_legal.proofs.Firsts.{date_begins, tiles_of}
use Rattle.psy_legal.proofs.Growth.{stays_started}
use Rattle.psy_legal.proofs.Numbers.{agent_of, one_of_number}
use Rattle.psy_legal.proofs.StartedActions.{start_below, started_by}
use Rattle.psy_legal.proofs.TileCycles.{all_pass, cycles_are, goes_to, tile_within}
use Rattle.psy_legal.proofs.Tiles.{Tiles}
use Rattle.psy_legal.proofs.Told.{IsOnTime, Tells, all_stretches, judge}
use Rattle.psy_legal.proofs.Turns.{next_is_pending, next_of_number, next_turn, serving, turns_in, units_rise}
use Rattle.psy_legal.proofs.Waiting.{given_within, unfinished_is}

-- The cycles of an action are counted.
pub units_counted : (s : System) (order : ℕ → List ℕ) (agent number n : ℕ) → units agent number (turns_in s order n) ≡ count_by (λ c. is_of agent number (next_turn s order c)) (range_with_len 0 n)
units_counted s order agent number zero = refl
units_counted s order agent number (suc n) =
    let counted = λ (c : ℕ). cond {A = ℕ} (is_of agent number (next_turn s order c)) 1 0 in
    let more : suc n ≡ n + 1 = omega arith in
    let rest = units_counted s order agent number n in
    let sum = sum_more counted n in
    one (is_of agent number (next_turn s order n)) (units agent number (turns_in s order n)) ∙ ap (λ k. k + counted n) rest ∙ sym sum ∙ ap (λ m. count_by (λ c. is_of agent number (next_turn s order c)) (range_with_len 0 m)) (sym more)
  where
    one : (b : Bool) (k : ℕ) → cond {A = ℕ} b (suc k) k ≡ k + cond {A = ℕ} b 1 0
    one true k = omega arith
    one false k = omega arith

module _ (s : System) (order : ℕ → List ℕ) (sizes : Sizes) (until : ℕ) (known : IsOnTime s order sizes until) (agent : ℕ) (r : Action) (there : Contains (history s until agent) r) where
  abbrev last : ℕ
  last = until * s.unit.quantum

  abbrev home : ℕ
  home = processor_at s.unit r.agent

  abbrev own : ℕ → List ℕ
  own = serving s order home

  abbrev turns : List (Option Turn)
  turns = turns_by s order last r.agent

  its_agent : r.agent ≡ agent
  its_agent = agent_of s until agent r there

  mine : Contains (history s until r.agent) r
  mine = subst (λ a. Contains (history s until a) r) (sym its_agent) there

  regular : IsRegular s r.agent r
  regular = All-contains (IsRegular s r.agent) (history s until r.agent) r (known.lawful.actions until r.agent).each mine

  -- No cycle goes to it before it starts,
  pub behind_start : (c : ℕ) → is_of r.agent r.number (next_turn s own c) ≡ true → r.start * s.unit.quantum ≤ c
  behind_start c turn =
      let dates = c / s.unit.quantum + 1 in
      let (q, begun, of_number, less) = next_of_number s own c r.agent r.number turn in
      let same : q ≡ r = one_of_number s dates until r.agent q r begun mine of_number in
      let early = start_below s known.lawful dates r.agent r (subst (Contains (history s dates r.agent)) same begun) in
      let before : r.start * s.unit.quantum ≤ c / s.unit.quantum * s.unit.quantum = mul-le r.start s.unit.quantum (c / s.unit.quantum) s.unit.quantum (omega (arith, early)) (omega arith) in
      omega (arith, before, date_begins c s.unit.quantum known.quantum)

  -- and none from its deadline on, when it is finished.
  pub before_due : (c : ℕ) → c < last → is_of r.agent r.number (next_turn s own c) ≡ true → c < r.deadline * s.unit.quantum
  before_due c less turn = elim (cases_lt c (r.deadline * s.unit.quantum)) [
    | inl early ↦ early
    | inr late ↦ (
        let date = c / s.unit.quantum in
        let due : r.deadline ≤ date = le-div r.deadline c s.unit.quantum (omega (arith, known.quantum)) late in
        let begun = stays_started s (suc r.start) date r.agent r (omega (arith, regular.due, due)) (started_by s until r.agent r mine) in
        let below = div_below c s.unit.quantum until (omega (arith, known.quantum)) less in
        let finished = known.due date r.agent r (omega (arith, below)) begun due in
        let all = ltb-false (units r.agent r.number (turns_in s own (date * s.unit.quantum))) (work r) finished in
        let more = units_rise s own r.agent r.number (date * s.unit.quantum) c (date_begins c s.unit.quantum known.quantum) in
        let fewer = next_is_pending s own c until r.agent r mine turn in
        absurd (omega (arith, all, more, fewer)))
  ]

  module _ (all : Lines) (tells : Tells s order sizes until all) where
    abbrev j : Judged
    j = judge s order sizes until

    abbrev its : List Segment
    its = segments_of r.agent r.number all

    abbrev st : List Segment
    st = all_stretches s order sizes until home

    tiles : Tiles (next_turn s own) home last st
    tiles = tiles_of s own home last

    to_home : (t : Segment) → Contains its t → Contains st t × (t.agent ≡ r.agent) × (t.number ≡ r.number)
    to_home = tells.of_act r.agent r.number

    from_home : (t : Segment) → Contains st t → t.agent ≡ r.agent → t.number ≡ r.number → Contains its t
    from_home = tells.of_home r.agent r.number

    abbrev told : Act
    told = act_of turns r

    work_is : told.work ≡ cycles_in its
    work_is = units_counted s own r.agent r.number last ∙ sym (cycles_are (next_turn s own) home last st its tiles r.agent r.number to_home from_home)

    within : (t : Segment) → Contains its t → is_within j told t ≡ true
    within t c = elim (cases_lt t.first t.past) [
      | inr none ↦ ap (λ b. not b || (nat_le (r.start * s.unit.quantum) t.first && nat_le t.past (r.deadline * s.unit.quantum))) (le-ltb t.first t.past none)
      | inl filled ↦ (
          let final : ℕ = t.past - 1 in
          let past = tile_within (next_turn s own) home last st its tiles r.agent r.number to_home from_home t c in
          let low = behind_start t.first (goes_to (next_turn s own) home last st its tiles r.agent r.number to_home from_home t t.first c (omega arith) filled) in
          let high = before_due final (omega (arith, past, filled)) (goes_to (next_turn s own) home last st its tiles r.agent r.number to_home from_home t final c (omega (arith, filled)) (omega (arith, filled))) in
          or_right (not (is_filled t)) (nat_le (r.start * s.unit.quantum) t.first && nat_le t.past (r.deadline * s.unit.quantum))
          (and_from (nat_le (r.start * s.unit.quantum) t.first) (nat_le t.past (r.deadline * s.unit.quantum)) (le-leb (r.start * s.unit.quantum) t.first low) (le-leb t.past (r.deadline * s.unit.quantum) (omega (arith, high, filled)))))
    ]

    over : not (is_unfinished told.ending && nat_le r.deadline until) ≡ true
    over = ap not (elim (cases_lt until r.deadline) [
      | inl later ↦ and_right (is_unfinished told.ending) (nat_le r.deadline until) (lt-leb r.deadline until later)
      | inr due ↦ and_left (is_unfinished told.ending) (nat_le r.deadline until) (unfinished_is turns r ∙ known.due until r.agent r (omega arith) mine due)
    ])

    pub cycles : has_cycles j all told ≡ true
    cycles =
        let budget = budget_at (timing s r.agent) r.point in
        let given = given_within s own until last r.agent r mine in
        let all_within = list_all (is_within j told) its in
        let none_left = not (is_unfinished told.ending && nat_le r.deadline until) in
        and_from (nat_le told.work budget) (told.work == cycles_in its && (all_within && none_left)) (le-leb told.work budget (omega (arith, given, regular.budget)))
        (and_from (told.work == cycles_in its) (all_within && none_left) (eq-eqb told.work (cycles_in its) work_is)
        (and_from all_within none_left (all_pass (is_within j told) its within) over))
