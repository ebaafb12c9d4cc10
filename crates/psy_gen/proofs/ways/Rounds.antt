-- The code of a bounded loop goes as its turns do.
use Rattle.std.proofs.Common.{◌≡◌, ℕ, zero, suc, ◌+◌, ◌≤◌, List, Some, refl, ap, subst, ◌∙◌, inl, inr, arith}
use Rattle.std.specs.Prelude.{slice_get, ◌⊎◌}
use Rattle.psy_code.specs.declared.instr.Instr.{Instr}
use Rattle.psy_code.specs.declared.instr.Instr.TheVariants as instr
use Rattle.psy_meaning.specs.Ways.{Meter, Way, Course, Fell, To, one, both, turning}
use Rattle.psy_gen.proofs.ways.Measures.{Measure, Goes, Behind, behind_first}
use Rattle.psy_gen.proofs.ways.Modes.{Mode, Quiet, Found, Exact, Over, over_same, over_then, Past, past_by, past_on}
use Rattle.psy_gen.proofs.ways.Same.{Onto, From, Upto, Same, SameAll, stays_one}

-- Where the parts of a loop stand: its test with the count of its turns, the jump out, the body, and the jump back
pub record Loop (instrs : List Instr) (its : Measure) (mode : Mode) (test : Way) (body : Course) (again out back end : ℕ) : Type 0 where
  pub tests : Same instrs its mode (both test one) again out
  pub leaves : slice_get instrs out ≡ Some (instr.JumpZero end)
  pub turns : SameAll instrs its mode body (out + 1) back
  pub goes_back : slice_get instrs back ≡ Some (instr.Jump again)
  pub stays : (m n : Meter) (point : ℕ) → body (To point) m n → ⊥

module _ (instrs : List Instr) (its : Measure) (mode : Mode) (test : Way) (body : Course) (again out back end : ℕ)
    (loop : Loop instrs its mode test body again out back end) where
  -- Through the test, and on
  abbrev tested : Way
  tested = both test (both one one)

  abbrev stepped : Meter → Meter
  stepped m = record m { steps = m.steps + 1 }

  -- Out of the loop
  pub record Left (way : Way) (point n count : ℕ) (before : Meter) : Type 0 where
    pub now : Meter
    pub steps : ℕ
    pub more : ℕ
    pub goes : way before now
    pub left : Goes instrs its point steps end more
    pub shorter : steps ≤ n
    pub past : Past mode (its.met before) count (its.met now) more

  -- Behind a test: the way of code goes on at the body, or out.
  record Tested (point n count : ℕ) (before : Meter) (next : ℕ) : Type 0 where
    now : Meter
    steps : ℕ
    more : ℕ
    goes : tested before now
    way : Goes instrs its point steps next more
    shorter : suc steps ≤ n
    over : Over mode (its.met before) count (its.met now) more

  test_once : (before : Meter) (point n count : ℕ) → Goes instrs its point n again count
      → Tested point n count before (out + 1) ⊎ Tested point n count before end
  test_once before point n count w = by (loop.tests.into before point n count w)
    where
      at : (a : Onto instrs its mode (both test one) out point n count before) (b : Behind instrs its (instr.JumpZero end) point a.steps out a.more)
          (next : ℕ) → b.next ≡ next → Tested point n count before next
      at a b next e = record {
        now = stepped a.now;
        steps = b.steps;
        more = b.more;
        goes = (a.goes.0, a.goes.1, (a.now, a.goes.2, refl));
        way = subst (λ x. Goes instrs its point b.steps x b.more) e b.way;
        shorter = omega (arith, a.shorter, b.shorter);
        over = over_then mode _ count _ a.more _ b.more a.over
            (over_same mode _ a.more _ b.more (stays_one instrs its a.now) (omega (arith, b.adds, its.other (instr.JumpZero end) (tt {0}))));
      }

      chosen : (a : Onto instrs its mode (both test one) out point n count before) (b : Behind instrs its (instr.JumpZero end) point a.steps out a.more)
          → (b.next ≡ out + 1) ⊎ (b.next ≡ end) → Tested point n count before (out + 1) ⊎ Tested point n count before end
      chosen a b (inl e) = inl (at a b (out + 1) e)
      chosen a b (inr e) = inr (at a b end e)

      by : Onto instrs its mode (both test one) out point n count before → Tested point n count before (out + 1) ⊎ Tested point n count before end
      by a = let b = behind_first instrs its (instr.JumpZero end) point a.steps out a.more loop.leaves (λ e. e) a.left in chosen a b b.on

  -- Through the body, and back to the test
  record Turned (point n count : ℕ) (before : Meter) : Type 0 where
    now : Meter
    steps : ℕ
    more : ℕ
    goes : body Fell before now
    way : Goes instrs its point steps again more
    shorter : suc steps ≤ n
    over : Over mode (its.met before) count (its.met now) more

  turn_once : (before : Meter) (point n count : ℕ) → Goes instrs its point n (out + 1) count → Turned point n count before
  turn_once before point n count w = by (loop.turns.into before point n count w)
    where
      by : Onto instrs its mode (body Fell) back point n count before ⊎ Upto its mode body point count before → Turned point n count before
      by (inr a) = absurd (loop.stays before a.now point a.goes)
      by (inl a) =
          let b = behind_first instrs its (instr.Jump again) point a.steps back a.more loop.goes_back (λ e. e) a.left in
          record {
            now = a.now;
            steps = b.steps;
            more = b.more;
            goes = a.goes;
            way = subst (λ x. Goes instrs its point b.steps x b.more) b.on b.way;
            shorter = omega (arith, a.shorter, b.shorter);
            over = over_then mode _ count _ a.more _ b.more a.over
                (over_same mode _ a.more _ b.more refl (omega (arith, b.adds, its.other (instr.Jump again) (tt {0}))));
          }

  -- ---- rounds that are passed over

  -- Shorter ways leave the loop.
  abbrev Known : (ℕ → Meter → ℕ → ℕ → Type 0) → ℕ → Type 0
  Known Leaves n = (before : Meter) (point m count : ℕ) → suc m ≤ n → Goes instrs its point m again count → Leaves point before m count

  skip_round : (before : Meter) (point n count : ℕ) → Goes instrs its point n again count
      → Known (λ point before m count. Left tested point m count before) n → Left tested point n count before
  skip_round before point n count w known = by (test_once before point n count w)
    where
      by : Tested point n count before (out + 1) ⊎ Tested point n count before end → Left tested point n count before
      by (inr a) = record {
        now = a.now;
        steps = a.steps;
        more = a.more;
        goes = a.goes;
        left = a.way;
        shorter = omega (arith, a.shorter);
        past = past_by mode (its.met before) count (its.met a.now) a.more a.over;
      }
      by (inl a) =
          let b = turn_once a.now point a.steps a.more a.way in
          let d = known before point b.steps b.more (omega (arith, a.shorter, b.shorter)) b.way in
          record {
            now = d.now;
            steps = d.steps;
            more = d.more;
            goes = d.goes;
            left = d.left;
            shorter = omega (arith, a.shorter, b.shorter, d.shorter);
            past = past_on mode (its.met before) count (its.met b.now) b.more (its.met d.now) d.more
                (over_then mode _ count _ a.more _ b.more a.over b.over) d.past;
          }

  skip_by : (fuel : ℕ) (before : Meter) (point n count : ℕ) → n ≤ fuel → Goes instrs its point n again count → Left tested point n count before
  skip_by zero before point n count less w = skip_round before point n count w (λ b q m c h v. absurd (omega (arith, less, h)))
  skip_by (suc fuel) before point n count less w = skip_round before point n count w (λ b q m c h v. skip_by fuel b q m c (omega (arith, less, h)) v)

  pub skip : (before : Meter) (point n count : ℕ) → Goes instrs its point n again count → Left tested point n count before
  skip before point n count w = skip_by n before point n count (omega arith) w

  -- ---- out of the loop by its turns

  pub leave_at_once : (most : ℕ) (m n : Meter) → tested m n → turning most test body Fell m n
  leave_at_once zero m n w = w
  leave_at_once (suc most) m n w = inl w

  enter_out : (before mid : Meter) (point count now : ℕ) → tested before mid → From instrs its (out + 1) point count (its.met mid) now
      → From instrs its again point count (its.met before) now
  enter_out before mid point count now (t, v, (u, e, f)) a =
      let i = instr.JumpZero end in
      let b = loop.tests.out before u point (suc a.steps) (its.of i + a.more) (t, v, e) (i, out + 1, a.more, loop.leaves, inl refl, a.way, refl) in
      let same : its.met mid ≡ its.met u = ap its.met f ∙ stays_one instrs its u in
      record { steps = b.steps; more = b.more; way = b.way; as_much = omega (arith, b.as_much, a.as_much, same, its.other i (tt {0})) }

  leave_out : (before mid : Meter) (point n count : ℕ) → tested before mid → Goes instrs its point n end count
      → From instrs its again point count (its.met before) (its.met mid)
  leave_out before mid point n count (t, v, (u, e, f)) w =
      let i = instr.JumpZero end in
      let b = loop.tests.out before u point (suc n) (its.of i + count) (t, v, e) (i, end, count, loop.leaves, inr refl, w, refl) in
      let same : its.met mid ≡ its.met u = ap its.met f ∙ stays_one instrs its u in
      record { steps = b.steps; more = b.more; way = b.way; as_much = omega (arith, b.as_much, same, its.other i (tt {0})) }

  turn_out : (before mid next : Meter) (point count now : ℕ) → body Fell before mid → one mid next → From instrs its again point count (its.met next) now
      → From instrs its (out + 1) point count (its.met before) now
  turn_out before mid next point count now v e a =
      let i = instr.Jump again in
      let b = loop.turns.out before mid point (suc a.steps) (its.of i + a.more) v (i, again, a.more, loop.goes_back, refl, a.way, refl) in
      let same : its.met next ≡ its.met mid = ap its.met e ∙ stays_one instrs its mid in
      record { steps = b.steps; more = b.more; way = b.way; as_much = omega (arith, b.as_much, a.as_much, same, its.other i (tt {0})) }

  turns_out : (most : ℕ) (before now : Meter) (point n count : ℕ) → turning most test body Fell before now → Goes instrs its point n end count
      → From instrs its again point count (its.met before) (its.met now)
  turns_out zero before now point n count v w = leave_out before now point n count v w
  turns_out (suc most) before now point n count (inl v) w = leave_out before now point n count v w
  turns_out (suc most) before now point n count (inr (mid, v, inl (b, u, (d, e, more)))) w =
      enter_out before mid point count (its.met now) v (turn_out mid b d point count (its.met now) u e (turns_out most d now point n count more w))
  turns_out (suc most) before now point n count (inr (mid, v, inr u)) w = absurd u

  turns_end : (most : ℕ) (before now : Meter) (point : ℕ) → turning most test body (To point) before now
      → From instrs its again point 0 (its.met before) (its.met now)
  turns_end zero before now point v = absurd v
  turns_end (suc most) before now point (inl v) = absurd v
  turns_end (suc most) before now point (inr (mid, v, inl (b, u, (d, e, more)))) = enter_out before mid point 0 (its.met now) v
      (turn_out mid b d point 0 (its.met now) u e (turns_end most d now point more))
  turns_end (suc most) before now point (inr (mid, v, inr u)) = absurd (loop.stays mid now point u)

  -- The code goes as the turns do, where its ways leave the loop so.
  pub by_turns : (most : ℕ) → ((before : Meter) (point n count : ℕ) → Goes instrs its point n again count → Onto instrs its mode
      (turning most test body Fell) end point n count before)
      → SameAll instrs its mode (turning most test body) again end
  by_turns most into = record { into = λ before point n count w. inl (into before point n count w); out = turns_out most; end = turns_end most }

-- ---- nothing is counted

pub quiet_turns : (instrs : List Instr) (its : Measure) (test : Way) (body : Course) (again out back end : ℕ)
    (loop : Loop instrs its Quiet test body again out back end) (most : ℕ)
    → SameAll instrs its Quiet (turning most test body) again end
quiet_turns instrs its test body again out back end loop most = by_turns instrs its Quiet test body again out back end loop most (λ before point n count w.
    let a = skip instrs its Quiet test body again out back end loop before point n count w in
    record {
      now = a.now;
      steps = a.steps;
      more = a.more;
      goes = leave_at_once instrs its Quiet test body again out back end loop most before a.now a.goes;
      left = a.left;
      shorter = a.shorter;
      over = a.past;
    })

exact_onto : (instrs : List Instr) (its : Measure) (course : Course) (place point n count : ℕ) (before : Meter)
    → Onto instrs its Quiet (course Fell) place point n count before ⊎ Upto its Quiet course point count before
    → Onto instrs its Exact (course Fell) place point n count before ⊎ Upto its Exact course point count before
exact_onto instrs its course place point n count before (inl a) =
    inl (record { now = a.now; steps = a.steps; more = a.more; goes = a.goes; left = a.left; shorter = a.shorter; over = omega (arith, a.over.0, a.over.1) })
exact_onto instrs its course place point n count before (inr a) = inr (record { now = a.now; goes = a.goes; over = omega (arith, a.over.0, a.over.1) })

-- Where nothing is counted, it is found as often.
pub exact_of : (instrs : List Instr) (its : Measure) (course : Course) (p q : ℕ) → SameAll instrs its Quiet course p q → SameAll instrs its Exact course p q
exact_of instrs its course p q f = record {
  into = λ before point n count w. exact_onto instrs its course q point n count before (f.into before point n count w);
  out = f.out;
  end = f.end;
}

-- ---- what is counted is found in one turn

module _ (instrs : List Instr) (its : Measure) (test : Way) (body : Course) (again out back end : ℕ)
    (loop : Loop instrs its Found test body again out back end) (most : ℕ) where
  abbrev Result : Meter → ℕ → ℕ → ℕ → Type 0
  Result before point n count = Onto instrs its Found (turning (suc most) test body Fell) end point n count before

  -- With something met in the first turn, the loop is left behind it; else that turn is passed over.
  found_by : (k : ℕ) (before : Meter) (point n count : ℕ) (a : Tested instrs its Found test body again out back end loop point n count before (out + 1))
      (b : Turned instrs its Found test body again out back end loop point a.steps a.more a.now) → its.met b.now ≡ k
      → ((m left : ℕ) → suc m ≤ n → Goes instrs its point m again left → Result before point m left) → Result before point n count
  found_by zero before point n count a b e known =
      let d = known b.steps b.more (omega (arith, a.shorter, b.shorter)) b.way in
      record {
        now = d.now;
        steps = d.steps;
        more = d.more;
        goes = d.goes;
        left = d.left;
        shorter = omega (arith, a.shorter, b.shorter, d.shorter);
        over = λ h. d.over (omega (arith, b.over (a.over h), e));
      }
  found_by (suc k) before point n count a b e known =
      let next : Meter = record b.now { steps = b.now.steps + 1 } in
      let d = skip instrs its Found test body again out back end loop next point b.steps b.more b.way in
      record {
        now = d.now;
        steps = d.steps;
        more = d.more;
        goes = inr (
          a.now,
          a.goes,
          inl
              (b.now, b.goes, (next, refl, leave_at_once instrs its Found test body again out back end loop most next d.now d.goes)),
        );
        left = d.left;
        shorter = omega (arith, a.shorter, b.shorter, d.shorter);
        over = λ h. d.past (omega (arith, e, stays_one instrs its b.now));
      }

  found_round : (before : Meter) (point n count : ℕ) → Goes instrs its point n again count
      → ((m left : ℕ) → suc m ≤ n → Goes instrs its point m again left → Result before point m left) → Result before point n count
  found_round before point n count w known = by (test_once instrs its Found test body again out back end loop before point n count w)
    where
      by : Tested instrs its Found test body again out back end loop point n count before (out + 1)
          ⊎ Tested instrs its Found test body again out back end loop point n count before end → Result before point n count
      by (inr a) = record { now = a.now; steps = a.steps; more = a.more; goes = inl a.goes; left = a.way; shorter = omega (arith, a.shorter); over = a.over }
      by (inl a) = let b = turn_once instrs its Found test body again out back end loop a.now point a.steps a.more a.way in found_by
          (its.met b.now) before point n count a b refl known

  found_within : (fuel : ℕ) (before : Meter) (point n count : ℕ) → n ≤ fuel → Goes instrs its point n again count → Result before point n count
  found_within zero before point n count less w = found_round before point n count w (λ m left h v. absurd (omega (arith, less, h)))
  found_within (suc fuel) before point n count less w = found_round before point n count w
      (λ m left h v. found_within fuel before point m left (omega (arith, less, h)) v)

  pub found_turns : SameAll instrs its Found (turning (suc most) test body) again end
  found_turns = by_turns instrs its Found test body again out back end loop (suc most)
      (λ before point n count w. found_within n before point n count (omega arith) w)
