-- The stretches of a trace are those that its judge asks for: each cycle goes to the action that comes first, and none is left while one waits.
use Rattle.std.proofs.Common.{◌≡◌, ◌∙◌, refl, sym, ap, subst, ℕ, ◌+◌, ◌-◌, ◌*◌, ◌/◌, ◌<◌, ◌≤◌, ◌==◌, ◌&&◌, nat_le, Bool, true, false, not, List, ◌∷◌, ◌++◌, reverse, Option, Some, None, arith, length}
use Rattle.std.specs.Prelude.{is_none, option_map}
use Rattle.std.specs.List.{Contains, list_all, list_any}
use Rattle.std.proofs.lemmas.Bool.{and_from, eq-eqb, eqb-true, le-leb, lt-ltb}
use Rattle.std.proofs.lemmas.List.{reverse-reverse}
use Rattle.std.proofs.lemmas.Nat.{div_below}
use Rattle.std.proofs.lemmas.Option.{none-some, same_Some}
use Rattle.psy_base.specs.declared.sizes.Sizes.{Sizes}
use Rattle.psy_lists.proofs.lemmas.Members.{contains_map, filter_from}
use Rattle.psy_history.specs.Actions.{Action, System}
use Rattle.psy_history.specs.History.{history}
use Rattle.psy_history.specs.Processors.{processor_at, processors}
use Rattle.psy_history.specs.Schedule.{Turn, pending, soonest, turn_of}
use Rattle.psy_history.specs.Scheduled.{turns_by}
use Rattle.psy_audit.specs.declared.said.Act.{Act}
use Rattle.psy_audit.specs.declared.said.Segment.{Segment}
use Rattle.psy_audit.specs.Courses.{is_filled}
use Rattle.psy_audit.specs.Traced.{act_of}
use Rattle.psy_audit.specs.Traces.{Judged, Lines, acts_of, last_of}
use Rattle.psy_audit.specs.Turns.{between, first_at, is_idle, is_of_act, is_over, is_own, is_served, past_of, past_on, segments_on, touches}
use Rattle.psy_legal.proofs.Firsts.{first_is, tiles_of}
use Rattle.psy_legal.proofs.Growth.{stays_started}
use Rattle.psy_legal.proofs.Lists.{contains_reverse, range_has}
use Rattle.psy_legal.proofs.Numbers.{agent_of}
use Rattle.psy_legal.proofs.Soonest.{IsSoonest, pending_from, soonest_is}
use Rattle.psy_legal.proofs.TileCycles.{all_pass, any_none, any_of}
use Rattle.psy_legal.proofs.Tiles.{IsTile, Tiles, first_in, gap, last_reverse, reverse_split, tiles_behind, turn_in, untouched, tile_of}
use Rattle.psy_legal.proofs.Told.{IsOnTime, Tells, all_stretches, judge}
use Rattle.psy_legal.proofs.Turns.{next_turn, serving, turns_in}
use Rattle.std.proofs.lemmas.List.Elements.{All-contains}
use Rattle.psy_history.specs.Regular.{IsRegular}

-- ---- turns

some_turn : (o : Option Action) (t : Turn) → turn_of o ≡ Some t → (r : Action) × (o ≡ Some r) × (r.agent ≡ t.agent) × (r.number ≡ t.number)
some_turn None t e = absurd (none-some t e)
some_turn (Some r) t e = (let same = same_Some (record { agent = r.agent; number = r.number }) t e in (r, refl, ap (λ (x : Turn). x.agent) same, ap (λ (x : Turn). x.number) same))

no_turn : (o : Option Action) → turn_of o ≡ None → o ≡ None
no_turn None e = refl
no_turn (Some r) e = absurd (none-some (record { agent = r.agent; number = r.number }) (sym e))

-- What a cycle of a processor goes to is of an agent of its own.
pub home_of : (s : System) (order : ℕ → List ℕ) (p c : ℕ) (t : Segment) → next_turn s (serving s order p) c ≡ Some (turn_in t) → processor_at s.unit t.agent ≡ p
home_of s order p c t is =
    let own = serving s order p in
    let dates = c / s.unit.quantum + 1 in
    let waiting : List Action = pending (own c) (turns_in s own c) (history s dates) in
    let (r, found, agent, number) = some_turn (soonest waiting) (turn_in t) is in
    let soon = subst (IsSoonest waiting) found (soonest_is waiting) in
    let (of, known_there, there, fewer) = pending_from (own c) (turns_in s own c) (history s dates) r soon.0 in
    ap (processor_at s.unit) (sym (sym (agent_of s dates of r there) ∙ agent))
    ∙ eqb-true (processor_at s.unit of) p (filter_from (λ a. processor_at s.unit a == p) (order c) of known_there).1

-- A stretch of a processor is of that one.
pub on_processor : (s : System) (order : ℕ → List ℕ) (sizes : Sizes) (until p : ℕ) (t : Segment) → Contains (all_stretches s order sizes until p) t → t.processor ≡ p
on_processor s order sizes until p t c =
    let st = all_stretches s order sizes until p in
    let (m, few, tile) = tile_of (next_turn s (serving s order p)) p (until * s.unit.quantum) st t (tiles_of s (serving s order p) p (until * s.unit.quantum)) c in
    tile.processor_is

module _ (s : System) (order : ℕ → List ℕ) (sizes : Sizes) (until : ℕ) (known : IsOnTime s order sizes until) (all : Lines) (tells : Tells s order sizes until all) where
  abbrev j : Judged
  j = judge s order sizes until

  abbrev last : ℕ
  last = until * s.unit.quantum

  abbrev goes : ℕ → ℕ → Option Turn
  goes p c = next_turn s (serving s order p) c

  abbrev chosen : ℕ → ℕ → Option Action
  chosen p c = soonest (pending (serving s order p c) (turns_in s (serving s order p) c) (history s (c / s.unit.quantum + 1)))

  abbrev told : ℕ → Action → Act
  told p = act_of (turns_in s (serving s order p) last)

  -- ---- one cycle

  own_first : (p c : ℕ) (t : Segment) → c < last → goes p c ≡ Some (turn_in t) → is_own t (first_at j all p c) ≡ true
  own_first p c t less is =
      let (r, found, agent, number) = some_turn (chosen p c) (turn_in t) is in
      ap (is_own t) (first_is s order sizes until known all tells p c less ∙ ap (option_map (told p)) found)
      ∙ and_from (r.agent == t.agent) (r.number == t.number) (eq-eqb r.agent t.agent agent) (eq-eqb r.number t.number number)

  none_first : (p c : ℕ) → c < last → goes p c ≡ None → is_none (first_at j all p c) ≡ true
  none_first p c less is = ap is_none (first_is s order sizes until known all tells p c less ∙ ap (option_map (told p)) (no_turn (chosen p c) is))

  its_act : (p c : ℕ) (t : Segment) → c < last → goes p c ≡ Some (turn_in t) → is_of_act j all t ≡ (p == t.processor)
  its_act p c t less is =
      let (r, found, agent, number) = some_turn (chosen p c) (turn_in t) is in
      let dates = c / s.unit.quantum + 1 in
      let soon = subst (IsSoonest (pending (serving s order p c) (turns_in s (serving s order p) c) (history s dates))) found
      (soonest_is (pending (serving s order p c) (turns_in s (serving s order p) c) (history s dates))) in
      let (of, known_there, there, fewer) = pending_from (serving s order p c) (turns_in s (serving s order p) c) (history s dates) r soon.0 in
      let same : of ≡ t.agent = sym (agent_of s dates of r there) ∙ agent in
      let home : processor_at s.unit t.agent ≡ p = ap (processor_at s.unit) (sym same)
      ∙ eqb-true (processor_at s.unit of) p (filter_from (λ a. processor_at s.unit a == p) (order c) of known_there).1 in
      let begun = div_below c s.unit.quantum until (omega (arith, known.quantum)) less in
      let stays = stays_started s dates until t.agent r (omega (arith, begun)) (subst (λ a. Contains (history s dates a) r) same there) in
      let turns : List (Option Turn) = turns_by s order last t.agent in
      let listed : Contains (acts_of t.agent all) (act_of turns r) = subst (λ acts. Contains acts (act_of turns r)) (sym (tells.acts t.agent))
      (contains_map (act_of turns) (reverse (history s until t.agent)) r (contains_reverse (history s until t.agent) r stays)) in
      ap (λ q. q == t.processor && list_any (λ (a : Act). a.number == t.number) (acts_of t.agent all)) home
      ∙ ap (λ b. (p == t.processor) && b) (any_of (λ (a : Act). a.number == t.number) (acts_of t.agent all) (act_of turns r) listed (eq-eqb r.number t.number number))
      ∙ and_true (p == t.processor)
    where
      and_true : (b : Bool) → (b && true) ≡ b
      and_true true = refl
      and_true false = refl

  -- ---- agents

  -- A stretch of a processor is of an action that was started by its first cycle,
  pub act_of_stretch : (p : ℕ) (t : Segment) → Contains (all_stretches s order sizes until p) t → (of : ℕ) × (r : Action) × Contains (history s until of) r × (t.agent ≡ of) × (r.number ≡ t.number)
  act_of_stretch p t c =
      let st = all_stretches s order sizes until p in
      let (m, few, tile) = tile_of (goes p) p last st t (tiles_of s (serving s order p) p last) c in
      let is = tile.own t.first (omega arith) tile.filled in
      let (r, found, agent, number) = some_turn (chosen p t.first) (turn_in t) is in
      let dates = t.first / s.unit.quantum + 1 in
      let waiting : List Action = pending (serving s order p t.first) (turns_in s (serving s order p) t.first) (history s dates) in
      let soon = subst (IsSoonest waiting) found (soonest_is waiting) in
      let (of, known_there, there, fewer) = pending_from (serving s order p t.first) (turns_in s (serving s order p) t.first) (history s dates) r soon.0 in
      let begun = div_below t.first s.unit.quantum until (omega (arith, known.quantum)) (omega (arith, few, tile.within, tile.filled)) in
      (of, r, stays_started s dates until of r (omega (arith, begun)) there, sym agent ∙ agent_of s dates of r there, number)

  -- of one of its agents.
  pub known_agent : (p : ℕ) (t : Segment) → Contains (all_stretches s order sizes until p) t → t.agent < length s.unit.agents
  known_agent p t c =
      let (of, r, there, agent, number) = act_of_stretch p t c in
      let its : IsRegular s of r = All-contains (IsRegular s of) (history s until of) r (known.lawful.actions until of).each there in
      omega (arith, its.known, agent)

  -- ---- many cycles

  idle : (p from to : ℕ) → to ≤ last → ((c : ℕ) → from ≤ c → c < to → goes p c ≡ None) → is_idle j all p from to ≡ true
  idle p from to l none = all_pass (λ c. is_none (first_at j all p c)) (between from to) (λ c there.
      let (low, high) = range_has from (to - from) c there in
      none_first p c (omega (arith, low, high, l)) (none c low (omega (arith, low, high))))

  past_is : (p : ℕ) (before : Lines) (st : List Segment) → segments_on p before ≡ reverse st → past_on p before ≡ past_of (first_in st)
  past_is p before st is = ap (λ ts. past_of (last_of ts)) is ∙ ap past_of (last_reverse st)

  pub over : (p : ℕ) → p < processors s.unit → is_over j all p ≡ true
  over p there =
      let st = all_stretches s order sizes until p in
      let past = past_is p all st (tells.on p there) in
      subst (λ n. is_idle j all p n last ≡ true) (sym past) (idle p (past_of (first_in st)) last (omega arith) (gap (goes p) p last st (tiles_of s (serving s order p) p last)))

  module _ (p : ℕ) (front : List Segment) (t : Segment) (back : List Segment) (at : reverse (all_stretches s order sizes until p) ≡ front ++ t ∷ back) (before : Lines) (on : segments_on p before ≡ front) where
    split : all_stretches s order sizes until p ≡ reverse back ++ t ∷ reverse front
    split = reverse_split (all_stretches s order sizes until p) front t back at

    tiles_here : (m : ℕ) × (m ≤ last) × Tiles (goes p) p m (t ∷ reverse front)
    tiles_here = tiles_behind (goes p) p last (reverse back) t (reverse front) (subst (Tiles (goes p) p last) split (tiles_of s (serving s order p) p last))

    tile : IsTile (goes p) p tiles_here.0 t
    tile = tiles_here.2.0

    within : t.past ≤ last
    within = omega (arith, tile.within, tiles_here.1)

    abbrev nothing_touches : Bool
    nothing_touches = not (list_any (touches t) (segments_on p before))

    abbrev all_own : Bool
    all_own = list_all (λ c. is_own t (first_at j all p c)) (between t.first t.past)

    abbrev none_left : Bool
    none_left = is_idle j all p (past_on p before) t.first

    untouched_is : nothing_touches ≡ true
    untouched_is = ap not (any_none (touches t) (segments_on p before) (λ u there.
        untouched (goes p) p tiles_here.0 t (reverse front) u tiles_here.2 (contains_reverse front u (subst (λ ts. Contains ts u) on there))))

    own_is : all_own ≡ true
    own_is = all_pass (λ c. is_own t (first_at j all p c)) (between t.first t.past) (λ c there.
        let (low, high) = range_has t.first (t.past - t.first) c there in
        own_first p c t (omega (arith, high, low, within)) (tile.own c low (omega (arith, low, high))))

    left_is : none_left ≡ true
    left_is =
        let past = past_is p before (reverse front) (on ∙ sym (reverse-reverse front)) in
        subst (λ n. is_idle j all p n t.first ≡ true) (sym past)
        (idle p (past_of (first_in (reverse front))) t.first (omega (arith, tile.filled, within)) (gap (goes p) p t.first (reverse front) tiles_here.2.2))

    by_processor : (q : ℕ) → q ≡ p → (is_filled t && (nat_le t.past last && (is_of_act j all t && (not (list_any (touches t) (segments_on q before))
        && (list_all (λ c. is_own t (first_at j all q c)) (between t.first t.past) && is_idle j all q (past_on q before) t.first))))) ≡ true
    by_processor q same =
        subst (λ q. (is_filled t && (nat_le t.past last && (is_of_act j all t && (not (list_any (touches t) (segments_on q before))
        && (list_all (λ c. is_own t (first_at j all q c)) (between t.first t.past) && is_idle j all q (past_on q before) t.first))))) ≡ true) (sym same)
        (and_from (is_filled t) (nat_le t.past last && (is_of_act j all t && (nothing_touches && (all_own && none_left)))) (lt-ltb t.first t.past tile.filled)
        (and_from (nat_le t.past last) (is_of_act j all t && (nothing_touches && (all_own && none_left))) (le-leb t.past last within)
        (and_from (is_of_act j all t) (nothing_touches && (all_own && none_left))
        (its_act p t.first t (omega (arith, tile.filled, within)) (tile.own t.first (omega arith) tile.filled) ∙ eq-eqb p t.processor (sym tile.processor_is))
        (and_from nothing_touches (all_own && none_left) untouched_is (and_from all_own none_left own_is left_is)))))

    pub served : is_served j all before t ≡ true
    served = by_processor t.processor tile.processor_is
