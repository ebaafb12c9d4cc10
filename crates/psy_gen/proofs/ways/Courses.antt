-- The courses of statements through a stretch of code are those of that code.
use Rattle.std.proofs.Common.{◌≡◌, ℕ, suc, ◌+◌, List, Some, refl, sym, ap, subst, ◌∙◌, inl, inr, arith}
use Rattle.std.specs.Prelude.{slice_get, ◌⊎◌}
use Rattle.psy_code.specs.declared.instr.Instr.{Instr}
use Rattle.psy_code.specs.declared.instr.Instr.TheVariants as instr
use Rattle.psy_meaning.specs.Ways.{Meter, Way, Course, Fell, To, one, falling, reaching, behind, and_on, or_else}
use Rattle.psy_gen.proofs.ways.Kinds.{Forks, fork_on, fork_next, fork_jump, fork_ends, fork_other}
use Rattle.psy_gen.proofs.ways.Measures.{Measure, Goes, Behind, behind_first, end_first}
use Rattle.psy_gen.proofs.ways.Modes.{Mode, Over, over_same, over_then}
use Rattle.psy_gen.proofs.ways.Same.{Onto, From, Same, Upto, SameAll, next_one, stays, stays_one}

module _ (instrs : List Instr) (its : Measure) (mode : Mode) where
  abbrev S : Way → ℕ → ℕ → Type 0
  S = Same instrs its mode

  abbrev A : Course → ℕ → ℕ → Type 0
  A = SameAll instrs its mode

  pub all_falling : (way : Way) (p q : ℕ) → S way p q → A (falling way) p q
  all_falling way p q f = record {
    into = λ before point n count w. inl (f.into before point n count w);
    out = λ before now point n count v w. f.out before now point n count v w;
    end = λ before now point v. absurd v;
  }

  pub all_reaching : (own p q : ℕ) → slice_get instrs p ≡ Some (instr.Advance own) → A (reaching own one) p q
  all_reaching own p q at = record {
    into = λ before point n count w.
        let e = end_first instrs its point own n p count at w in
        inr (record { now = next_one instrs its before; goes = (ap To (sym e.0), refl); over = over_same mode _ count _ 0 (stays_one instrs its before) (sym e.1) });
    out = λ before now point n count v w. absurd (fell_to own v.0);
    end = λ before now point v.
        record { steps = 0; more = 0; way = (instr.Advance own, at, to_is own point v.0, refl); as_much = omega (arith, stays instrs its before now v.1) };
  }
    where
      fell_to : (point : ℕ) → Fell ≡ To point → ⊥
      fell_to point e = cc

      to_is : (own point : ℕ) → To point ≡ To own → own ≡ point
      to_is own point e = cc

  pub all_behind : (way : Way) (course : Course) (p q r : ℕ) → S way p q → A course q r → A (behind way course) p r
  all_behind way course p q r f g = record { into = in_to; out = out_of; end = end_of }
    where
      joined : (before : Meter) (point n count : ℕ) (a : Onto instrs its mode way q point n count before)
          → Onto instrs its mode (course Fell) r point a.steps a.more a.now ⊎ Upto its mode course point a.more a.now
          → Onto instrs its mode (behind way course Fell) r point n count before ⊎ Upto its mode (behind way course) point count before
      joined before point n count a (inl b) = inl (record {
        now = b.now;
        steps = b.steps;
        more = b.more;
        goes = (a.now, a.goes, b.goes);
        left = b.left;
        shorter = omega (arith, a.shorter, b.shorter);
        over = over_then mode _ count _ a.more _ b.more a.over b.over;
      })
      joined before point n count a (inr b) = inr
          (record { now = b.now; goes = (a.now, a.goes, b.goes); over = over_then mode _ count _ a.more _ 0 a.over b.over })

      in_to : (before : Meter) (point n count : ℕ) → Goes instrs its point n p count
          → Onto instrs its mode (behind way course Fell) r point n count before ⊎ Upto its mode (behind way course) point count before
      in_to before point n count w = let a = f.into before point n count w in joined before point n count a (g.into a.now point a.steps a.more a.left)

      out_of : (before now : Meter) (point n count : ℕ) → behind way course Fell before now → Goes instrs its point n r count
          → From instrs its p point count (its.met before) (its.met now)
      out_of before now point n count (mid, v, u) w =
          let b = g.out mid now point n count u w in
          let a = f.out before mid point b.steps b.more v b.way in
          record { steps = a.steps; more = a.more; way = a.way; as_much = a.as_much ∙ b.as_much }

      end_of : (before now : Meter) (point : ℕ) → behind way course (To point) before now → From instrs its p point 0 (its.met before) (its.met now)
      end_of before now point (mid, v, u) =
          let b = g.end mid now point u in
          let a = f.out before mid point b.steps b.more v b.way in
          record { steps = a.steps; more = a.more; way = a.way; as_much = a.as_much ∙ b.as_much }

  pub all_on : (first second : Course) (p q r : ℕ) → A first p q → A second q r → A (and_on first second) p r
  all_on first second p q r f g = record { into = in_to; out = out_of; end = end_of }
    where
      further : (before : Meter) (point n count : ℕ) (a : Onto instrs its mode (first Fell) q point n count before)
          → Onto instrs its mode (second Fell) r point a.steps a.more a.now ⊎ Upto its mode second point a.more a.now
          → Onto instrs its mode (and_on first second Fell) r point n count before ⊎ Upto its mode (and_on first second) point count before
      further before point n count a (inl b) = inl (record {
        now = b.now;
        steps = b.steps;
        more = b.more;
        goes = inl (a.now, a.goes, b.goes);
        left = b.left;
        shorter = omega (arith, a.shorter, b.shorter);
        over = over_then mode _ count _ a.more _ b.more a.over b.over;
      })
      further before point n count a (inr b) = inr
          (record { now = b.now; goes = inl (a.now, a.goes, b.goes); over = over_then mode _ count _ a.more _ 0 a.over b.over })

      joined : (before : Meter) (point n count : ℕ) → Onto instrs its mode (first Fell) q point n count before ⊎ Upto its mode first point count before
          → Onto instrs its mode (and_on first second Fell) r point n count before ⊎ Upto its mode (and_on first second) point count before
      joined before point n count (inl a) = further before point n count a (g.into a.now point a.steps a.more a.left)
      joined before point n count (inr a) = inr (record { now = a.now; goes = inr a.goes; over = a.over })

      in_to : (before : Meter) (point n count : ℕ) → Goes instrs its point n p count
          → Onto instrs its mode (and_on first second Fell) r point n count before ⊎ Upto its mode (and_on first second) point count before
      in_to before point n count w = joined before point n count (f.into before point n count w)

      out_of : (before now : Meter) (point n count : ℕ) → and_on first second Fell before now → Goes instrs its point n r count
          → From instrs its p point count (its.met before) (its.met now)
      out_of before now point n count (inl (mid, v, u)) w =
          let b = g.out mid now point n count u w in
          let a = f.out before mid point b.steps b.more v b.way in
          record { steps = a.steps; more = a.more; way = a.way; as_much = a.as_much ∙ b.as_much }
      out_of before now point n count (inr v) w = absurd v

      end_of : (before now : Meter) (point : ℕ) → and_on first second (To point) before now → From instrs its p point 0 (its.met before) (its.met now)
      end_of before now point (inl (mid, v, u)) =
          let b = g.end mid now point u in
          let a = f.out before mid point b.steps b.more v b.way in
          record { steps = a.steps; more = a.more; way = a.way; as_much = a.as_much ∙ b.as_much }
      end_of before now point (inr v) = f.end before now point v

  -- Behind a test: on at the next place, or at the jump's
  pub all_fork : (i : Instr) (this that : Course) (p to r : ℕ) → slice_get instrs p ≡ Some i → Forks i to → A this (p + 1) r → A that to r
      → A (behind one (or_else this that)) p r
  all_fork i this that p to r at forks f g = record { into = in_to; out = out_of; end = end_of }
    where
      course : Course
      course = behind one (or_else this that)

      none : its.of i ≡ 0
      none = its.other i (fork_other i to forks)

      Result : Meter → ℕ → ℕ → ℕ → Type 0
      Result before point n count = Onto instrs its mode (course Fell) r point n count before ⊎ Upto its mode course point count before

      passed : (before : Meter) (point n count : ℕ) (b : Behind instrs its i point n p count)
          → Over mode (its.met before) count (its.met (next_one instrs its before)) b.more
      passed before point n count b = over_same mode _ count _ b.more (stays_one instrs its before) (omega (arith, b.adds, none))

      by_this : (before : Meter) (point n count : ℕ) (b : Behind instrs its i point n p count)
          → Onto instrs its mode (this Fell) r point b.steps b.more (next_one instrs its before) ⊎ Upto its mode this point b.more (next_one instrs its before)
          → Result before point n count
      by_this before point n count b (inl a) = inl (record {
        now = a.now;
        steps = a.steps;
        more = a.more;
        goes = (next_one instrs its before, refl, inl a.goes);
        left = a.left;
        shorter = omega (arith, a.shorter, b.shorter);
        over = over_then mode _ count _ b.more _ a.more (passed before point n count b) a.over;
      })
      by_this before point n count b (inr a) = inr
          (record {
            now = a.now;
            goes = (next_one instrs its before, refl, inl a.goes);
            over = over_then mode _ count _ b.more _ 0
                (passed before point n count b) a.over;
          })

      by_that : (before : Meter) (point n count : ℕ) (b : Behind instrs its i point n p count)
          → Onto instrs its mode (that Fell) r point b.steps b.more (next_one instrs its before) ⊎ Upto its mode that point b.more (next_one instrs its before)
          → Result before point n count
      by_that before point n count b (inl a) = inl (record {
        now = a.now;
        steps = a.steps;
        more = a.more;
        goes = (next_one instrs its before, refl, inr a.goes);
        left = a.left;
        shorter = omega (arith, a.shorter, b.shorter);
        over = over_then mode _ count _ b.more _ a.more (passed before point n count b) a.over;
      })
      by_that before point n count b (inr a) = inr
          (record {
            now = a.now;
            goes = (next_one instrs its before, refl, inr a.goes);
            over = over_then mode _ count _ b.more _ 0
                (passed before point n count b) a.over;
          })

      chosen : (before : Meter) (point n count : ℕ) (b : Behind instrs its i point n p count) → (b.next ≡ p + 1) ⊎ (b.next ≡ to)
          → Result before point n count
      chosen before point n count b (inl e) = by_this before point n count b
          (f.into (next_one instrs its before) point b.steps b.more (subst (λ x. Goes instrs its point b.steps x b.more) e b.way))
      chosen before point n count b (inr e) = by_that before point n count b
          (g.into (next_one instrs its before) point b.steps b.more (subst (λ x. Goes instrs its point b.steps x b.more) e b.way))

      in_to : (before : Meter) (point n count : ℕ) → Goes instrs its point n p count → Result before point n count
      in_to before point n count w =
          let b = behind_first instrs its i point n p count at (fork_ends i to point forks) w in
          chosen before point n count b (fork_on i p to b.next forks b.on)

      out_next : (before mid now : Meter) (point count : ℕ) → one before mid → From instrs its (p + 1) point count (its.met mid) (its.met now)
          → From instrs its p point count (its.met before) (its.met now)
      out_next before mid now point count e a =
          record {
            steps = suc a.steps;
            more = its.of i + a.more;
            way = (i, p + 1, a.more, at, fork_next i p to forks, a.way, refl);
            as_much = omega
                (arith, none, a.as_much, stays instrs its before mid e);
          }

      out_jump : (before mid now : Meter) (point count : ℕ) → one before mid → From instrs its to point count (its.met mid) (its.met now)
          → From instrs its p point count (its.met before) (its.met now)
      out_jump before mid now point count e a =
          record {
            steps = suc a.steps;
            more = its.of i + a.more;
            way = (i, to, a.more, at, fork_jump i p to forks, a.way, refl);
            as_much = omega
                (arith, none, a.as_much, stays instrs its before mid e);
          }

      out_of : (before now : Meter) (point n count : ℕ) → course Fell before now → Goes instrs its point n r count
          → From instrs its p point count (its.met before) (its.met now)
      out_of before now point n count (mid, e, inl v) w = out_next before mid now point count e (f.out mid now point n count v w)
      out_of before now point n count (mid, e, inr v) w = out_jump before mid now point count e (g.out mid now point n count v w)

      end_of : (before now : Meter) (point : ℕ) → course (To point) before now → From instrs its p point 0 (its.met before) (its.met now)
      end_of before now point (mid, e, inl v) = out_next before mid now point 0 e (f.end mid now point v)
      end_of before now point (mid, e, inr v) = out_jump before mid now point 0 e (g.end mid now point v)

  -- Where none falls through, the place behind is any.
  pub all_ends : (course : Course) (p q r : ℕ) → ((m n : Meter) → course Fell m n → ⊥) → A course p q → A course p r
  all_ends course p q r never f = record {
    into = in_to;
    out = λ before now point n count v w. absurd
        (never before now v);
    end = λ before now point v. f.end before now point v;
  }
    where
      only : (before : Meter) (point n count : ℕ) → Onto instrs its mode (course Fell) q point n count before ⊎ Upto its mode course point count before
          → Onto instrs its mode (course Fell) r point n count before ⊎ Upto its mode course point count before
      only before point n count (inl a) = absurd (never before a.now a.goes)
      only before point n count (inr a) = inr a

      in_to : (before : Meter) (point n count : ℕ) → Goes instrs its point n p count
          → Onto instrs its mode (course Fell) r point n count before ⊎ Upto its mode course point count before
      in_to before point n count w = only before point n count (f.into before point n count w)
