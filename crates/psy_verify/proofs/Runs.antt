-- The runs of verified code: never stuck, and on ways.
use Rattle.std.proofs.Common.{◌≡◌, ◌≢◌, refl, sym, ap, subst, ◌∙◌, arith, append-nil}
use Rattle.std.specs.Prelude.{ℕ, zero, suc, ◌≤◌, nat_le, Bool, true, if◌then◌else◌, List, [], ◌∷◌, ◌++◌, length, map, Option, None, Some, slice_get, ⊤}
use Rattle.std.proofs.lemmas.List.Elements.{Contains-append_right}
use Rattle.std.proofs.lemmas.Option.{none-some, slice_get-get_or}
use Rattle.psy_base.specs.declared.limits.TheConstants.{OPEN_CALLS}
use Rattle.psy_lists.proofs.lemmas.Places.{there}
use Rattle.psy_lists.proofs.lemmas.Tests.{both}
use Rattle.psy_code.specs.declared.code.AgentCode.{AgentCode}
use Rattle.psy_code.specs.declared.code.Code.{Code}
use Rattle.psy_code.specs.declared.instr.Instr.{Instr}
use Rattle.psy_code.specs.declared.instr.Instr.TheVariants as instr
use Rattle.psy_code.specs.Execution.{Copy, Ended, Frame, Machine, Next, NoRun, OpenCall, RanTo, Run, RunState, Running, Stuck, Trapped, TrappedBy, Went, call_by, call_of, cells_in_calls, deeds_then, does, go_on, has_room, need, next_of, run_by, run_code, standing, state_then, within}
use Rattle.psy_code.specs.Views.{Call, View, found_in}
use Rattle.psy_tree.specs.declared.unit.Unit.{Unit as Whole}
use Rattle.psy_meaning.specs.Alike.{started}
use Rattle.psy_meaning.specs.CodeWays.{GoesOn, IsOnWay, agent_code_at, ends, place_of}
use Rattle.psy_meaning.specs.Ways.{sending_of}
use Rattle.psy_flow.specs.Owners.{Agent, Begins, Function, Owner}
use Rattle.psy_flow.specs.Heights.{at_start}
use Rattle.psy_flow.specs.Verified.{IsNamed, IsOrdered, IsVerified}
use Rattle.psy_verify.specs.Standing.{IsSafe, MayBegin, Shows}
use Rattle.psy_verify.specs.Following.{Follows, HasGone, MayGoOn, glance_of, looks_along, looks_of, sends_along, sends_of}
use Rattle.psy_verify.proofs.Able.{Good, HomeGoes, IsOn, finds, good, home_place, level, named, no_call, ordered, ours_by}
use Rattle.psy_verify.proofs.Levels.{IsOutside, height_reached, reached_inside, room_there}
use Rattle.psy_verify.proofs.Roads.{HasValue, IsRoad, at_first, did_look, did_send, further, looks_append, looks_one_more, road_ends, road_passed, sends_append, sends_one_more, silent, value_there, way_starts}
use Rattle.psy_verify.proofs.Sights.{shows_then}

module _ (unit : Whole) (code : Code) (v : IsVerified unit code) (few : length code.functions ≤ OPEN_CALLS) (agent : ℕ) where
  abbrev its : AgentCode
  its = agent_code_at code agent

  abbrev next_at : View → Machine → Next
  next_at view m = next_of code its view m

  -- ---- one instruction

  module _ (view : View) (shows : Shows unit agent view) (m : Machine) (stood : IsSafe unit code agent m) where
    -- What comes of the instruction at the machine's place
    pub record IsGood (next : Next) : Type 0 where
      pub here : Instr
      pub at : slice_get code.instrs m.place ≡ Some here
      pub good : Good unit code v agent view shows m stood here next

    has_room_then : (n : Machine) → IsSafe unit code agent n → has_room its n ≡ true
    has_room_then n safe =
        let room = room_there unit code v agent n.place n n.calls OPEN_CALLS few refl safe.stands in
        let operands : nat_le (length n.operands) its.stack ≡ true = grind (arith, room.operands) in
        let frames : nat_le (cells_in_calls n.calls) its.frames ≡ true = grind (arith, room.frames) in
        let calls : nat_le (length n.calls) OPEN_CALLS ≡ true = grind (arith, room.calls) in
        both _ _ operands (both _ _ frames calls)

    within_good : (i : Instr) (next : Next) → Good unit code v agent view shows m stood i next → Good unit code v agent view shows m stood i (within its next)
    within_good i (Went n) g = subst (λ (b : Bool). Good unit code v agent view shows m stood i (if b then Went n else Stuck)) (sym (has_room_then n g.safe)) g
    within_good i (Ended point n) g = g
    within_good i (Trapped kind) g = g
    within_good i Stuck g = g

    pub next_good : IsGood (next_at view m)
    next_good =
        let inside = reached_inside unit code v (level unit code v agent view shows m stood).owner m.place
        (height_reached code (level unit code v agent view shows m stood).owner m.place (level unit code v agent view shows m stood).height (level unit code v agent view shows m stood).reached) in
        let (i, at) = there code.instrs m.place inside in
        let done = within_good i (does code its view i m) (good unit code v agent view shows m stood i at) in
        record {
          here = i;
          at = at;
          good = subst (λ (found : Option Instr). Good unit code v agent view shows m stood i (need found (λ j. within its (does code its view j m)))) (sym at) done;
        }

    good_on : (n : Machine) (next : Next) → next ≡ Went n → IsGood next → IsSafe unit code agent n
    good_on n (Went k) e g = subst (IsSafe unit code agent) (went_same k n e) g.good.safe
      where
        went_same : (k n : Machine) → Went k ≡ Went n → k ≡ n
        went_same k n e = cc
    good_on n (Ended point k) e g = absurd (cc)
    good_on n (Trapped kind) e g = absurd (cc)
    good_on n Stuck e g = absurd g.good

    pub on : (n : Machine) → next_at view m ≡ Went n → IsSafe unit code agent n
    on n e = good_on n (next_at view m) e next_good

    not_stuck : (next : Next) → next ≡ Stuck → IsGood next → ⊥
    not_stuck (Went k) e g = cc
    not_stuck (Ended point k) e g = cc
    not_stuck (Trapped kind) e g = cc
    not_stuck Stuck e g = g.good

    pub never : next_at view m ≢ Stuck
    never e = not_stuck (next_at view m) e next_good

  -- ---- on a road

  -- A run is safe and on a road from a place: what it sent and looked at is what the places passed do.
  pub record IsOnRoad (from : ℕ) (s : RunState) : Type 0 where
    pub safe : IsSafe unit code agent s.machine
    pub shows : Shows unit agent s.view
    pub places : List ℕ
    pub road : IsRoad code.instrs from places (home_place s.machine.place s.machine.calls)
    pub sends : map sending_of s.deeds.sends ≡ sends_along code.instrs places
    pub looks : map glance_of s.deeds.looks ≡ looks_along code.instrs places

  module _ (from : ℕ) (begins : Begins code (Agent agent) from) where
    -- Wherever a road has come, a way goes on to an end.
    goes_on : (s : RunState) → IsOnRoad from s → MayGoOn code.instrs from s.deeds
    goes_on s on =
        let here = home_place s.machine.place s.machine.calls in
        let (point, more, way) = v.ends here agent (from, begins, road_passed code.instrs from here on.places on.road) in
        record {
          point = point;
          places = on.places ++ more;
          way = road_ends code.instrs from here point on.places more on.road way;
          sends = (sends_along code.instrs more, sends_append code.instrs on.places more ∙ ap (λ xs. xs ++ sends_along code.instrs more) (sym on.sends));
          looks = (looks_along code.instrs more, looks_append code.instrs on.places more ∙ ap (λ xs. xs ++ looks_along code.instrs more) (sym on.looks));
        }

    module _ (s : RunState) (on : IsOnRoad from s) where
      abbrev m : Machine
      m = s.machine

      abbrev stood : IsSafe unit code agent m
      stood = on.safe

      call_is : (i : Instr) → slice_get code.instrs m.place ≡ Some i → call_of code m ≡ call_by i m.operands
      call_is i at = ap (λ (found : Option Instr). found_in found (λ j. call_by j m.operands)) at

      has_value : (i : Instr) (at : slice_get code.instrs m.place ≡ Some i) → HasValue i m.operands
      has_value i at =
          let l = level unit code v agent s.view on.shows m stood in
          value_there code m.place l.height i m.operands (omega (arith, l.counted)) (finds unit code v agent s.view on.shows m stood i at)

      -- Outside of calls the road goes on by the machine's place.
      on_outside : (i : Instr) (at : slice_get code.instrs m.place ≡ Some i) (n : Machine) → IsSafe unit code agent n → (call : Option Call) → call ≡ call_by i m.operands → m.calls ≡ [] → GoesOn i m.place (home_place n.place n.calls)
          → IsOnRoad from (state_then s call n)
      on_outside i at n safe call is none goes =
          let road : IsRoad code.instrs from on.places m.place = subst (λ (calls : List OpenCall). IsRoad code.instrs from on.places (home_place m.place calls)) none on.road in
          record {
            safe = safe;
            shows = shows_then unit agent s.view call on.shows;
            places = on.places ++ m.place ∷ [];
            road = further on.places m.place (home_place n.place n.calls) i road at goes;
            sends = ap (λ (c : Option Call). map sending_of (deeds_then s.deeds c).sends) is ∙ did_send s.deeds i m.operands (has_value i at)
                ∙ ap (λ xs. xs ++ sends_of (Some i)) on.sends ∙ sym (sends_one_more code.instrs on.places m.place i at);
            looks = ap (λ (c : Option Call). map glance_of (deeds_then s.deeds c).looks) is ∙ did_look s.deeds i m.operands
                ∙ ap (λ xs. xs ++ looks_of (Some i)) on.looks ∙ sym (looks_one_more code.instrs on.places m.place i at);
          }

      -- In a call it stays, and nothing is asked.
      on_inside : (n : Machine) → IsSafe unit code agent n → (call : Option Call) → call ≡ None → home_place n.place n.calls ≡ home_place m.place m.calls → IsOnRoad from (state_then s call n)
      on_inside n safe call none stays = record {
        safe = safe;
        shows = shows_then unit agent s.view call on.shows;
        places = on.places;
        road = subst (IsRoad code.instrs from on.places) (sym stays) on.road;
        sends = ap (λ (c : Option Call). map sending_of (deeds_then s.deeds c).sends) none ∙ on.sends;
        looks = ap (λ (c : Option Call). map glance_of (deeds_then s.deeds c).looks) none ∙ on.looks;
      }

      -- In a call its owner is a function.
      in_function : (i : Instr) (at : slice_get code.instrs m.place ≡ Some i) (c : OpenCall) (rest : List OpenCall) → m.calls ≡ c ∷ rest → call_by i m.operands ≡ None
      in_function i at c rest some =
          let l = level unit code v agent s.view on.shows m stood in
          by l.owner (subst (λ (calls : List OpenCall). IsOutside calls l.owner) some l.outside) (ordered unit code v agent s.view on.shows m stood i at)
        where
          by : (o : Owner) → IsOutside (c ∷ rest) o → IsOrdered o i → call_by i m.operands ≡ None
          by (Agent number) outside order = absurd outside
          by (Function number) outside order = silent number i m.operands order

      went : (i : Instr) (at : slice_get code.instrs m.place ≡ Some i) (n : Machine) → IsOn unit code v agent s.view on.shows m stood i n → IsOnRoad from (state_then s (call_of code m) n)
      went i at n is = by m.calls refl is.home
        where
          by : (calls : List OpenCall) → m.calls ≡ calls → HomeGoes i m.place calls (home_place n.place n.calls) → IsOnRoad from (state_then s (call_of code m) n)
          by [] none goes = on_outside i at n is.safe (call_of code m) (call_is i at) none goes
          by (c ∷ rest) some goes = on_inside n is.safe (call_of code m) (call_is i at ∙ in_function i at c rest some)
              (goes ∙ sym (ap (λ (calls : List OpenCall). home_place m.place calls) some))

      ended : (point : ℕ) (i : Instr) (at : slice_get code.instrs m.place ≡ Some i) (n : Machine) → m.calls ≡ [] → i ≡ instr.Advance point → HasGone code.instrs from point (state_then s (call_of code m) n).deeds
      ended point i at n none is =
          let here : slice_get code.instrs m.place ≡ Some (instr.Advance point) = at ∙ ap Some is in
          let road : IsRoad code.instrs from on.places m.place = subst (λ (calls : List OpenCall). IsRoad code.instrs from on.places (home_place m.place calls)) none on.road in
          let nothing : call_of code m ≡ None = call_is (instr.Advance point) here in
          record {
            places = on.places ++ m.place ∷ [];
            way = road_ends code.instrs from m.place point on.places (m.place ∷ []) road (ends m.place here);
            sends = ap (λ (c : Option Call). map sending_of (deeds_then s.deeds c).sends) nothing ∙ on.sends ∙ sym (append-nil (sends_along code.instrs on.places)) ∙ sym (sends_one_more code.instrs on.places m.place (instr.Advance point) here);
            looks = ap (λ (c : Option Call). map glance_of (deeds_then s.deeds c).looks) nothing ∙ on.looks ∙ sym (append-nil (looks_along code.instrs on.places)) ∙ sym (looks_one_more code.instrs on.places m.place (instr.Advance point) here);
          }

      -- ---- what is asked

      outside_asks : (i : Instr) (at : slice_get code.instrs m.place ≡ Some i) (call : Call) → call_by i m.operands ≡ Some call → (function : ℕ) → IsOrdered (Function function) i → ⊥
      outside_asks i at call some function order = none-some call (sym (silent function i m.operands order) ∙ some)

      pub asks : (i : Instr) (call : Call) → slice_get code.instrs m.place ≡ Some i → call_by i m.operands ≡ Some call → IsOnWay code.instrs from i × IsNamed unit code (Agent agent) i
      asks i call at some =
          let none = no_call unit code v agent s.view on.shows m stood i at (outside_asks i at call some) in
          let road : IsRoad code.instrs from on.places m.place = subst (λ (calls : List OpenCall). IsRoad code.instrs from on.places (home_place m.place calls)) none on.road in
          let (point, more, way) = v.ends m.place agent (from, begins, road_passed code.instrs from m.place on.places road) in (
            (point, m.place, on.places ++ more, road_ends code.instrs from m.place point on.places more road way, Contains-append_right on.places more m.place (way_starts code.instrs point m.place more way), at),
            ours_by unit code v agent s.view on.shows m stood i at (λ o. IsNamed unit code o i) (outside_asks i at call some) (named unit code v agent s.view on.shows m stood i at),
          )

    -- ---- many instructions

    follows_by : (n : ℕ) (s : RunState) (on : IsOnRoad from s) (next : Next) → IsGood s.view on.shows s.machine on.safe next → ((t : RunState) → IsOnRoad from t → Follows code.instrs from (run_code code its t n))
        → Follows code.instrs from (go_on (run_by s (call_of code s.machine) next) (λ t. run_code code its t n))
    follows_by n s on (Went k) g rest = rest (state_then s (call_of code s.machine) k) (went s on g.here g.at k g.good)
    follows_by n s on (Ended point k) g rest = ended s on point g.here g.at k g.good.0 g.good.1
    follows_by n s on (Trapped kind) g rest = (let may = goes_on s on in record { point = may.point; places = may.places; way = may.way; sends = may.sends; looks = may.looks })
    follows_by n s on Stuck g rest = absurd g.good

    pub follows : (n : ℕ) (s : RunState) → IsOnRoad from s → Follows code.instrs from (run_code code its s n)
    follows zero s on = goes_on s on
    follows (suc n) s on = follows_by n s on (next_at s.view s.machine) (next_good s.view on.shows s.machine on.safe) (follows n)

    -- Where it still runs, it is on the road.
    abbrev Stays : Run → Type 0
    Stays (Running t) = IsOnRoad from t
    Stays (RanTo point t) = ⊤
    Stays (TrappedBy kind t) = ⊤
    Stays NoRun = ⊤

    stays_by : (n : ℕ) (s : RunState) (on : IsOnRoad from s) (next : Next) → IsGood s.view on.shows s.machine on.safe next → ((t : RunState) → IsOnRoad from t → Stays (run_code code its t n))
        → Stays (go_on (run_by s (call_of code s.machine) next) (λ t. run_code code its t n))
    stays_by n s on (Went k) g rest = rest (state_then s (call_of code s.machine) k) (went s on g.here g.at k g.good)
    stays_by n s on (Ended point k) g rest = tt {0}
    stays_by n s on (Trapped kind) g rest = tt {0}
    stays_by n s on Stuck g rest = absurd g.good

    stays : (n : ℕ) (s : RunState) → IsOnRoad from s → Stays (run_code code its s n)
    stays zero s on = on
    stays (suc n) s on = stays_by n s on (next_at s.view s.machine) (next_good s.view on.shows s.machine on.safe) (stays n)

    pub still_on : (n : ℕ) (s t : RunState) → IsOnRoad from s → run_code code its s n ≡ Running t → IsOnRoad from t
    still_on n s t on e = subst Stays e (stays n s on)

  -- ---- from a point

  module _ (point : ℕ) (home : Frame) (copies : List Copy) (view : View) (may : MayBegin unit code agent point home copies view) where
    pub begins_there : Begins code (Agent agent) (place_of code agent point)
    begins_there = (point, slice_get-get_or its.points point 0 may.known)

    pub on_first : IsOnRoad (place_of code agent point) (started (standing its point home copies) view)
    on_first = record {
      safe = record { stands = at_start (place_of code agent point) begins_there; home = may.home; copies = may.copies };
      shows = may.shows;
      places = [];
      road = at_first;
      sends = refl;
      looks = refl;
    }
