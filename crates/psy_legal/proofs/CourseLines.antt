-- The actions of a trace are those that its judge asks for: the first and the next ones of their agent, due and continued as its program says.
use Rattle.std.proofs.Common.{◌≡◌, ◌∙◌, refl, sym, ap, subst, ℕ, ◌+◌, ◌*◌, ◌<◌, ◌≤◌, ◌==◌, ◌&&◌, ◌||◌, nat_le, nat_lt, Bool, true, false, List, [], ◌∷◌, ◌++◌, length, map, reverse, Option, Some, inl, inr, arith, ◌⊎◌}
use Rattle.std.specs.Prelude.{if◌then◌else◌}
use Rattle.std.specs.List.{Contains, list_any}
use Rattle.std.proofs.lemmas.Bool.{and_from, cases_lt, eq-eqb, le-leb, lt-ltb, or_left, or_right}
use Rattle.std.proofs.lemmas.List.Elements.{All-contains, Contains-append_right}
use Rattle.psy_base.specs.declared.sizes.Sizes.{Sizes}
use Rattle.psy_lists.proofs.lemmas.Members.{contains_behind, contains_front, contains_map}
use Rattle.psy_history.specs.Actions.{Action, Next, System, Verdict, Done, Trapped, Overran, first_action, next_of, timing, next_by}
use Rattle.psy_history.specs.History.{history}
use Rattle.psy_history.specs.Regular.{IsRegular, WasStarted, WereStarted, first_number, number_of}
use Rattle.psy_history.specs.Schedule.{Turn, is_pending}
use Rattle.psy_history.specs.Scheduled.{turns_by}
use Rattle.psy_meaning.specs.Timing.{Timing, deadline, end_date, first_date, following}
use Rattle.psy_audit.specs.declared.said.Act.{Act}
use Rattle.psy_audit.specs.declared.said.Ending.TheVariants.{At, Unfinished}
use Rattle.psy_audit.specs.Courses.{comes_next, ends_at, goes_on, has_begun, has_course, is_continued, is_course, is_first}
use Rattle.psy_audit.specs.Traced.{act_of, ending_by}
use Rattle.psy_audit.specs.Traces.{Lines, acts_of, last_of}
use Rattle.psy_legal.proofs.Growth.{next_done}
use Rattle.psy_legal.proofs.Lists.{contains_reverse, split_map, reverse_of_map}
use Rattle.psy_legal.proofs.NextStarts.{next_late}
use Rattle.psy_legal.proofs.Numbers.{agent_of}
use Rattle.psy_legal.proofs.TileCycles.{any_of}
use Rattle.psy_legal.proofs.Tiles.{last_reverse, reverse_split}
use Rattle.psy_legal.proofs.Told.{IsOnTime, Tells, judge}
use Rattle.std.proofs.lemmas.List.{reverse-reverse}

module _ (s : System) (order : ℕ → List ℕ) (sizes : Sizes) (until : ℕ) (known : IsOnTime s order sizes until) (agent : ℕ) where
  abbrev times : Timing
  times = timing s agent

  abbrev last : ℕ
  last = until * s.unit.quantum

  abbrev turns : List (Option Turn)
  turns = turns_by s order last agent

  abbrev told : Action → Act
  told = act_of turns

  abbrev actions : List Action
  actions = history s until agent

  regular : (r : Action) → Contains actions r → IsRegular s agent r
  regular r there = All-contains (IsRegular s agent) actions r (known.lawful.actions until agent).each there

  -- ---- how an action ends

  -- What is due by the last date is finished.
  finished : (r : Action) → Contains actions r → r.deadline ≤ until → is_pending turns r ≡ false
  finished r there due =
      let over = known.due until agent r (omega arith) there due in
      subst (λ a. is_pending (turns_by s order last a) r ≡ false) (agent_of s until agent r there) over

  -- An action that reached a point before the last date ends there.
  ends : (r : Action) (point end : ℕ) → Contains actions r → r.verdict ≡ Done point end → end ≤ until → (told r).ending ≡ At end
  ends r point end there done early =
      let its = regular r there in
      let due = (its.ends point end done).2 in
      ap (λ t. if t then Unfinished else ending_by r.verdict) (finished r there (omega (arith, due, early))) ∙ ap ending_by done

  -- ---- the next action

  -- The one that started behind another goes on from it.
  goes : (r q : Action) (before : List Action) → Contains actions r → Contains actions q → WasStarted s until agent (q ∷ before) r → q.number ≡ first_number s agent + length before → goes_on times (told q) (told r) ≡ true
  goes r q before there_r there_q was numbered =
      let n = was.next in
      let done = (next_done q.number q.after q.verdict n was.is_next).0 in
      let its = regular q there_q in
      let follows = its.ends n.point n.start done in
      let start : r.start ≡ n.start = ap (λ (x : Action). x.start) was.made in
      let point : r.point ≡ n.point = ap (λ (x : Action). x.point) was.made in
      let number : r.number ≡ q.number + 1 = omega (arith, was.number, numbered) in
      let ended = ends q n.point n.start there_q done (omega (arith, was.at)) in
      let at : ends_at r.start (told q).ending ≡ true = ap (ends_at r.start) ended ∙ eq-eqb n.start r.start (sym start) in
      let to = and_from (n.point == r.point) (end_date times q.start n.point == r.start) (eq-eqb n.point r.point (sym point)) (eq-eqb (end_date times q.start n.point) r.start (sym follows.1 ∙ sym start)) in
      let any = any_of (λ to. to == r.point && end_date times q.start to == r.start) (following times q.point) n.point follows.0 to in
      and_from (r.number == q.number + 1) (ends_at r.start (told q).ending && list_any (λ to. to == r.point && end_date times q.start to == r.start) (following times q.point))
      (eq-eqb r.number (q.number + 1) number)
      (and_from (ends_at r.start (told q).ending) (list_any (λ to. to == r.point && end_date times q.start to == r.start) (following times q.point)) at any)

  -- The first one starts as the agent begins.
  begins : (r : Action) → WasStarted s until agent [] r → is_first times (told r) ≡ true
  begins r was =
      let n = was.next in
      let first = known.opens agent n was.is_next in
      let zero_number : first_number s agent ≡ 0 = ap number_of was.is_next ∙ ap (λ (m : Next). m.number) first in
      let number : r.number ≡ 0 = omega (arith, was.number, zero_number) in
      let point : r.point ≡ 0 = ap (λ (x : Action). x.point) was.made ∙ ap (λ (m : Next). m.point) first in
      let start : r.start ≡ first_date times = ap (λ (x : Action). x.start) was.made ∙ ap (λ (m : Next). m.start) first in
      and_from (r.number == 0) (r.point == 0 && r.start == first_date times) (eq-eqb r.number 0 number)
      (and_from (r.point == 0) (r.start == first_date times) (eq-eqb r.point 0 point) (eq-eqb r.start (first_date times) start))

  -- ---- where the actions are split

  -- What was started stands behind what comes after it.
  behind : (later : List Action) (r : Action) (before : List Action) → WereStarted s until agent (later ++ r ∷ before) → WasStarted s until agent before r × WereStarted s until agent before
  behind [] r before were = were
  behind (q ∷ later) r before (was, were) = behind later r before were

  -- The one that comes next, where there is one
  nearest : (later : List Action) (r : Action) (before : List Action) → WereStarted s until agent (later ++ r ∷ before) → (later ≡ []) ⊎ ((q : Action) × Contains (later ++ r ∷ before) q × WasStarted s until agent (r ∷ before) q)
  nearest [] r before were = inl refl
  nearest (q ∷ []) r before (was, were) = inr (q, contains_front q (r ∷ before), was)
  nearest (q ∷ p ∷ later) r before (was, were) = elim (nearest (p ∷ later) r before were) [
    | inl none ↦ absurd cc
    | inr (x, there, its) ↦ inr (x, contains_behind q ((p ∷ later) ++ r ∷ before) x there, its)
  ]

  module _ (later : List Action) (r : Action) (before : List Action) (split : actions ≡ later ++ r ∷ before) where
    were : WereStarted s until agent (later ++ r ∷ before)
    were = subst (WereStarted s until agent) split (known.lawful.actions until agent).were_started

    was : WasStarted s until agent before r
    was = (behind later r before were).0

    there : Contains actions r
    there = subst (λ xs. Contains xs r) (sym split) (Contains-append_right later (r ∷ before) r (contains_front r before))

    there_before : (q : Action) → Contains before q → Contains actions q
    there_before q c = subst (λ xs. Contains xs q) (sym split) (Contains-append_right later (r ∷ before) q (contains_behind r before q c))

    next_is : (earlier : List Action) → before ≡ earlier → comes_next times (last_of (map told (reverse earlier))) (told r) ≡ true
    next_is [] same = begins r (subst (λ xs. WasStarted s until agent xs r) same was)
    next_is (q ∷ rest) same =
        let was_q = (subst (WereStarted s until agent) same (behind later r before were).1).0 in
        let front : last_of (map told (reverse (q ∷ rest))) ≡ Some (told q) = ap last_of (sym (reverse_of_map told (q ∷ rest))) ∙ last_reverse (map told (q ∷ rest)) in
        ap (λ o. comes_next times o (told r)) front
        ∙ goes r q rest there (there_before q (subst (λ xs. Contains xs q) (sym same) (contains_front q rest))) (subst (λ xs. WasStarted s until agent xs r) same was) was_q.number

    -- One that ended before the last date has one behind it.
    goes_further : (point end : ℕ) → r.verdict ≡ Done point end → end < until → list_any (goes_on times (told r)) (map told (reverse actions)) ≡ true
    goes_further point end done early = elim (nearest later r before were) [
      | inl none ↦ (
          let only : actions ≡ r ∷ before = split ∙ ap (λ xs. xs ++ r ∷ before) none in
          let n : Next = record { number = r.number + 1; point = point; start = end; carried = r.after } in
          let next : next_of s agent actions ≡ Some n = ap (next_of s agent) only ∙ ap (next_by r.number r.after) done in
          let late = next_late s known.lawful until agent n next in
          absurd (omega (arith, late, early)))
      | inr (q, c, its) ↦ (
          let listed : Contains actions q = subst (λ xs. Contains xs q) (sym split) c in
          any_of (goes_on times (told r)) (map told (reverse actions)) (told q) (contains_map told (reverse actions) q (contains_reverse actions q listed))
          (goes q r before listed there its was.number))
    ]

    continued : is_continued times until (map told (reverse actions)) (told r) (told r).ending ≡ true
    continued = by (is_pending turns r) refl r.verdict refl
      where
        by : (b : Bool) → is_pending turns r ≡ b → (v : Verdict) → r.verdict ≡ v → is_continued times until (map told (reverse actions)) (told r) (if b then Unfinished else ending_by v) ≡ true
        by true pending v is = refl
        by false over (Done point end) is =
            let follows = (regular r there).ends point end is in
            let to = any_of (λ to. end_date times r.start to == end) (following times r.point) point follows.0 (eq-eqb (end_date times r.start point) end (sym follows.1)) in
            let far : (nat_le until end || list_any (goes_on times (told r)) (map told (reverse actions))) ≡ true = elim (cases_lt end until) [
              | inl early ↦ or_right (nat_le until end) (list_any (goes_on times (told r)) (map told (reverse actions))) (goes_further point end is early)
              | inr late ↦ or_left (nat_le until end) (list_any (goes_on times (told r)) (map told (reverse actions))) (le-leb until end late)
            ] in
            and_from (list_any (λ to. end_date times r.start to == end) (following times r.point)) (nat_le until end || list_any (goes_on times (told r)) (map told (reverse actions))) to far
        by false over (Trapped kind) is = refl
        by false over Overran is = refl

    course : is_course times until (last_of (map told (reverse before))) (map told (reverse actions)) (told r) ≡ true
    course =
        let its = regular r there in
        let start : r.start ≡ was.next.start = ap (λ (x : Action). x.start) was.made in
        let go = is_continued times until (map told (reverse actions)) (told r) (told r).ending in
        and_from (comes_next times (last_of (map told (reverse before))) (told r)) (nat_lt r.start until && (r.deadline == deadline times r.point r.start && go)) (next_is before refl)
        (and_from (nat_lt r.start until) (r.deadline == deadline times r.point r.start && go) (lt-ltb r.start until (omega (arith, start, was.at)))
        (and_from (r.deadline == deadline times r.point r.start) go (eq-eqb r.deadline (deadline times r.point r.start) its.deadline) continued))

  -- ---- as lines tell it

  module _ (all : Lines) (tells : Tells s order sizes until all) where
    pub courses : (front : List Act) (a : Act) (back : List Act) (before : Lines) → acts_of agent all ≡ front ++ a ∷ back → acts_of agent before ≡ front → a.agent ≡ agent → has_course (judge s order sizes until) all before a ≡ true
    courses front a back before split same of =
        let (fs, r, bs, is, fronts, at, backs) = split_map told (reverse actions) front a back (sym (tells.acts agent) ∙ split) in
        let turned : actions ≡ reverse bs ++ r ∷ reverse fs = reverse_split actions fs r bs is in
        let its = course (reverse bs) r (reverse fs) turned in
        let first : front ≡ map told (reverse (reverse fs)) = sym fronts ∙ ap (map told) (sym (reverse-reverse fs)) in
        subst (λ k. is_course (timing s k) until (last_of (acts_of k before)) (acts_of k all) a ≡ true) (sym of)
        (subst (λ acts. is_course times until (last_of acts) (acts_of agent all) a ≡ true) (sym (same ∙ first))
        (subst (λ acts. is_course times until (last_of (map told (reverse (reverse fs)))) acts a ≡ true) (sym (tells.acts agent))
        (subst (λ x. is_course times until (last_of (map told (reverse (reverse fs)))) (map told (reverse actions)) x ≡ true) at its)))

    pub begun : agent < length s.unit.agents → has_begun (judge s order sizes until) all agent ≡ true
    begun there = elim (cases_lt (first_date times) until) [
      | inr late ↦ or_left (nat_le until (first_date times)) (list_any (λ (a : Act). true) (acts_of agent all)) (le-leb until (first_date times) late)
      | inl early ↦ or_right (nat_le until (first_date times)) (list_any (λ (a : Act). true) (acts_of agent all)) (some actions refl early)
    ]
      where
        some : (its : List Action) → actions ≡ its → first_date times < until → list_any (λ (a : Act). true) (acts_of agent all) ≡ true
        some [] none early =
            let n = first_action s.unit s.nexts s.executor agent in
            let next : next_of s agent actions ≡ Some n = ap (next_of s agent) none ∙ known.begins agent there in
            let late = next_late s known.lawful until agent n next in
            absurd (omega (arith, late, early))
        some (r ∷ rest) is early =
            let listed : Contains actions r = subst (λ xs. Contains xs r) (sym is) (contains_front r rest) in
            let has : Contains (acts_of agent all) (told r) = subst (λ acts. Contains acts (told r)) (sym (tells.acts agent)) (contains_map told (reverse actions) r (contains_reverse actions r listed)) in
            any_of (λ (a : Act). true) (acts_of agent all) (told r) has refl
