-- From each point of an agent the ways of its code are those of its statements.
use Rattle.std.proofs.Common.{◌≡◌, ℕ, zero, suc, ◌+◌, ◌<◌, Bool, true, false, cond, List, [], ◌∷◌, length, Option, Some, None, refl, sym, ap, subst, ◌∙◌, inl}
use Rattle.std.proofs.Common.{inr, arith}
use Rattle.std.specs.Prelude.{slice_get, slice_index_or, ◌⊎◌, ◌↔◌, ◌==◌}
use Rattle.std.proofs.lemmas.List.Sums.{sum_by-cons}
use Rattle.psy_code.specs.declared.instr.Instr.{Instr}
use Rattle.psy_code.specs.declared.instr.Instr.TheVariants as instr
use Rattle.psy_tree.specs.declared.unit.AgentDecl.{AgentDecl}
use Rattle.psy_tree.specs.declared.unit.Unit.{Unit as Whole}
use Rattle.psy_meaning.specs.CodeWays.{IsCodeWay, IsOnWay, HasCodeSends, is_send_to, place_of, sends_at}
use Rattle.psy_meaning.specs.Flow.{HasSends, IsNext, IsWayFrom, MayLook}
use Rattle.psy_meaning.specs.Rest.{pieces_of, rest, rests_of_list}
use Rattle.psy_meaning.specs.Sizes.{stmts_size}
use Rattle.psy_meaning.specs.Sound.{Each, IsSoundAgent, agent_scope}
use Rattle.psy_meaning.specs.Statements.{Hop}
use Rattle.psy_meaning.specs.Ways.{Meter, Sending, Course, Fell, unmetered, callee_ways, courses_through, piece_course}
use Rattle.psy_meaning.proofs.lemmas.NoWays.{no_fall_behind, no_fall_through}
use Rattle.psy_gen.specs.Emission.{agent_layout, code_of}
use Rattle.psy_gen.specs.Keeping.{HasSendlessLoops}
use Rattle.psy_gen.specs.SameWays.{SameFrom}
use Rattle.psy_gen.proofs.ways.Agents.{place_is, points_count, stands}
use Rattle.psy_gen.proofs.ways.Counts.{Counted, Listed, find_counted, is_counted, listed, walk_of, weight, weighed}
use Rattle.psy_gen.proofs.ways.Gauges.{find_among, looks, looks_at, sends, some_among}
use Rattle.psy_gen.proofs.ways.Measures.{Measure}
use Rattle.psy_gen.proofs.ways.Modes.{Allows, Exact, Found, Mode}
use Rattle.psy_gen.proofs.ways.Rests.{same_rest}
use Rattle.psy_gen.proofs.ways.Same.{Onto, SameAll, Upto}
use Rattle.psy_gen.proofs.ways.Suits.{Suits, all_found}

-- What is known of the calls of a unit's functions: from whatever was met there is a way of each, and none looks or sends.
pub record AreCalls (unit : Whole) : Type 0 where
  pub some : (function : ℕ) (before : Meter) → (now : Meter) × callee_ways unit.functions function before now
  pub still : (function : ℕ) (before now : Meter) → callee_ways unit.functions function before now → (now.looks ≡ before.looks) × (now.sends ≡ before.sends)

-- What is known of an agent of a text
pub record IsAgent (unit : Whole) (number : ℕ) (agent : AgentDecl) : Type 0 where
  pub at : slice_get unit.agents number ≡ Some agent
  pub calls : AreCalls unit
  pub sound : IsSoundAgent unit number agent

module _ (unit : Whole) (number : ℕ) (agent : AgentDecl) (known : IsAgent unit number agent) where
  abbrev instrs : List Instr
  instrs = (code_of unit).instrs

  abbrev start : ℕ
  start = (stands unit number agent known.at).place

  abbrev end : ℕ
  end = start + stmts_size agent.stmts

  abbrev course_from : ℕ → Course
  course_from point = courses_through (piece_course (callee_ways unit.functions)) (rest agent.stmts point)

  module _ (point : ℕ) (named : point < length agent.points) where
    abbrev from : ℕ
    from = place_of (code_of unit) number point

    -- The code from there goes as the rest of the body does.
    pub same_from : (its : Measure) (mode : Mode) → Allows its mode → Each (Suits mode) agent.stmts → SameAll instrs its mode (course_from point) from end
    same_from its mode allows suits =
        subst (λ p. SameAll instrs its mode (course_from point) p end) (sym (place_is unit number agent known.at point))
        (same_rest instrs its (agent_layout agent) (callee_ways unit.functions) known.calls.some
        (λ f m n w. its.still m n (known.calls.still f m n w).0 (known.calls.still f m n w).1)
        (agent_scope unit number agent) refl mode allows agent.stmts start point known.sound.stmts suits (stands unit number agent known.at).has
        (omega (arith, named, points_count unit number agent known.at known.sound)))

    -- None falls through.
    none_falls : (point : ℕ) (m n : Meter) → course_from point Fell m n → ⊥
    none_falls zero = no_fall_through (callee_ways unit.functions) agent.stmts known.sound.ends
    none_falls (suc n) =
        no_fall_behind (callee_ways unit.functions) (slice_index_or (rests_of_list agent.stmts) n []) (Hop ∷ pieces_of agent.stmts)
        (no_fall_behind (callee_ways unit.functions) (Hop ∷ []) (pieces_of agent.stmts)
        (no_fall_through (callee_ways unit.functions) agent.stmts known.sound.ends))

    -- A way of statements is one of the code,
    pub coded : (its : Measure) (mode : Mode) → Allows its mode → Each (Suits mode) agent.stmts → (to : ℕ) (met : Meter) → its.met unmetered ≡ 0
        → IsWayFrom unit.functions agent point to met → Listed instrs its to from (its.met met)
    coded its mode allows suits to met nothing way =
        let f = (same_from its mode allows suits).end unmetered met to way in
        let l = listed instrs its to f.steps from f.more f.way in
        record { places = l.places; way = l.way; weighs = omega (arith, l.weighs, f.as_much, nothing) }

    -- and a way of the code is one of statements.
    pub stated : (its : Measure) (mode : Mode) → Allows its mode → Each (Suits mode) agent.stmts → (to : ℕ) (places : List ℕ)
        → IsCodeWay instrs to from places → Upto its mode (course_from point) to (weighed instrs its places) unmetered
    stated its mode allows suits to places way =
        let w = walk_of instrs its to from places way in
        by ((same_from its mode allows suits).into unmetered to w.steps (weighed instrs its places) w.way)
      where
        by : Onto instrs its mode (course_from point Fell) end to (walk_of instrs its to from places way).steps (weighed instrs its places) unmetered
            ⊎ Upto its mode (course_from point) to (weighed instrs its places) unmetered
            → Upto its mode (course_from point) to (weighed instrs its places) unmetered
        by (inl a) = absurd (none_falls point unmetered a.now a.goes)
        by (inr a) = a

    -- ---- ends

    nexts : (to : ℕ) → IsNext unit.functions agent point to ↔ ((places : List ℕ) × IsCodeWay instrs to from places)
    nexts to = (
      (λ (met, way). let l = coded (looks 0) Found (tt {0}) (all_found agent.stmts) to met refl way in (l.places, l.way)),
      (λ (places, way). let a = stated (looks 0) Found (tt {0}) (all_found agent.stmts) to places way in (a.now, a.goes)),
    )

    -- ---- looks

    past_of : (variable : ℕ) (i : Instr) → 0 < (looks variable).of i → (back : ℕ) × (i ≡ instr.Past variable back)
    past_of variable (instr.Past own back) h =
        (back, let same : own ≡ variable = eq own variable (own == variable) refl h in ap (λ v. instr.Past v back) same)
      where
        eq : (a b : ℕ) (t : Bool) → (a == b) ≡ t → 0 < cond t 1 0 → a ≡ b
        eq a b true e h = grind (arith, e)
        eq a b false e h = absurd (omega (arith, h))
    past_of variable _ h = absurd (omega (arith, h))

    looked : (variable back : ℕ) → 0 < (looks variable).of (instr.Past variable back)
    looked variable back = let e : (variable == variable) ≡ true = grind arith in omega (arith, ap {B = ℕ} (λ b. cond b 1 0) e)

    -- A counted place of a way is a look at the variable.
    look_found : (variable to : ℕ) (met : Meter) (l : Listed instrs (looks variable) to from ((looks variable).met met))
        → Counted instrs (looks variable) l.places
        → (back : ℕ) × IsOnWay instrs from (instr.Past variable back)
    look_found variable to met l c = let p = past_of variable c.i c.counts in (p.0, (to, c.place, l.places, l.way, c.among, c.at ∙ ap Some p.1))

    may_look : (variable : ℕ) → MayLook unit.functions agent point variable ↔ ((back : ℕ) × IsOnWay instrs from (instr.Past variable back))
    may_look variable = (
      (λ (to, met, way, look, there, same).
          let l = coded (looks variable) Found (tt {0}) (all_found agent.stmts) to met refl way in
          let is : looks_at variable look ≡ true = grind (arith, same) in
          look_found variable to met l (find_counted instrs (looks variable) l.places
          (omega (arith, l.weighs, some_among (looks_at variable) met.looks look there is)))),
      (λ (back, (to, place, places, way, among, at)).
          let a = stated (looks variable) Found (tt {0}) (all_found agent.stmts) to places way in
          let some = is_counted instrs (looks variable) places place (instr.Past variable back) among at (looked variable back) in
          let l = find_among (looks_at variable) a.now.looks (omega (arith, a.over (omega (arith, some)))) in
          let own = l.counted in
          (to, a.now, a.goes, l.one, l.there, grind (arith, own))),
    )

    -- ---- sends

    abbrev to_stream : ℕ → Sending → Bool
    to_stream stream send = send.stream == stream

    sent_weighs : (stream : ℕ) (o : Option Instr) → weight instrs (sends (to_stream stream)) o ≡ cond (is_send_to stream o) 1 0
    sent_weighs stream None = refl
    sent_weighs stream (Some (instr.Send target after clock)) = refl
    sent_weighs stream (Some _) = refl

    sends_weigh : (stream : ℕ) (places : List ℕ) → weighed instrs (sends (to_stream stream)) places ≡ sends_at instrs stream places
    sends_weigh stream [] = refl
    sends_weigh stream (q ∷ places) =
        omega (
          arith,
          sent_weighs stream (slice_get instrs q),
          sends_weigh stream places,
          sum_by-cons
              (λ (place : ℕ). cond (is_send_to stream (slice_get instrs place)) 1 0) q places,
        )

    has_sends : Each HasSendlessLoops agent.stmts → (to stream count : ℕ)
        → HasSends unit.functions agent point to stream count ↔ HasCodeSends instrs from to stream count
    has_sends silent to stream count = (
      (λ (met, way, has).
          let l = coded (sends (to_stream stream)) Exact (λ variable back. refl) silent to met refl way in
          (l.places, l.way, sym (sends_weigh stream l.places) ∙ l.weighs ∙ has)),
      (λ (places, way, has).
          let a = stated (sends (to_stream stream)) Exact (λ variable back. refl) silent to places way in
          (a.now, a.goes, omega (arith, a.over, sends_weigh stream places, has))),
    )

    pub points_same : SameFrom unit (code_of unit) number point agent
    points_same = record { nexts = nexts; looks = may_look; sends = has_sends }
