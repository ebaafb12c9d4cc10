-- The ways of statements through a stretch of code are the ways of that code.
use Rattle.std.proofs.Common.{◌≡◌, ℕ, suc, ◌+◌, ◌≤◌, List, Some, refl, sym, ap, subst, ◌∙◌, inl, inr, arith}
use Rattle.std.specs.Prelude.{slice_get, ◌⊎◌}
use Rattle.psy_code.specs.declared.instr.Instr.{Instr}
use Rattle.psy_code.specs.declared.instr.Instr.TheVariants as instr
use Rattle.psy_meaning.specs.CodeWays.{GoesOn}
use Rattle.psy_meaning.specs.Ways.{Meter, Way, Course, Fell, To, here, one, both, either}
use Rattle.psy_gen.proofs.ways.Kinds.{IsPlain, Forks, plain_on, plain_goes, plain_ends, plain_other, fork_on, fork_next, fork_jump, fork_ends, fork_other}
use Rattle.psy_gen.proofs.ways.Measures.{Measure, IsOther, Ends, Goes, Behind, behind_first}
use Rattle.psy_gen.proofs.ways.Modes.{Mode, Quiet, Over, over_same, over_then, over_counted}

-- A way of statements from what was met before, and what is left of the way of code from this place on
pub record Onto (instrs : List Instr) (its : Measure) (mode : Mode) (way : Way) (place point n count : ℕ) (before : Meter) : Type 0 where
  pub now : Meter
  pub steps : ℕ
  pub more : ℕ
  pub goes : way before now
  pub left : Goes instrs its point steps place more
  pub shorter : steps ≤ n
  pub over : Over mode (its.met before) count (its.met now) more

-- A way of code from this place that counts as much
pub record From (instrs : List Instr) (its : Measure) (place point count before now : ℕ) : Type 0 where
  pub steps : ℕ
  pub more : ℕ
  pub way : Goes instrs its point steps place more
  pub as_much : before + more ≡ now + count

-- From one place to another the code goes as the way does.
pub record Same (instrs : List Instr) (its : Measure) (mode : Mode) (way : Way) (p q : ℕ) : Type 0 where
  pub into : (before : Meter) (point n count : ℕ) → Goes instrs its point n p count → Onto instrs its mode way q point n count before
  pub out : (before now : Meter) (point n count : ℕ) → way before now → Goes instrs its point n q count
      → From instrs its p point count (its.met before) (its.met now)

-- A way of statements to the point where the way of code ends
pub record Upto (its : Measure) (mode : Mode) (course : Course) (point count : ℕ) (before : Meter) : Type 0 where
  pub now : Meter
  pub goes : course (To point) before now
  pub over : Over mode (its.met before) count (its.met now) 0

-- From one place to another, or to a point, the code goes as the course does.
pub record SameAll (instrs : List Instr) (its : Measure) (mode : Mode) (course : Course) (p q : ℕ) : Type 0 where
  pub into : (before : Meter) (point n count : ℕ) → Goes instrs its point n p count
      → Onto instrs its mode (course Fell) q point n count before ⊎ Upto its mode course point count before
  pub out : (before now : Meter) (point n count : ℕ) → course Fell before now → Goes instrs its point n q count
      → From instrs its p point count (its.met before) (its.met now)
  pub end : (before now : Meter) (point : ℕ) → course (To point) before now → From instrs its p point 0 (its.met before) (its.met now)

module _ (instrs : List Instr) (its : Measure) where
  pub stays : (m n : Meter) → one m n → its.met n ≡ its.met m
  stays m n e = its.still m n (ap (λ (k : Meter). k.looks) e) (ap (λ (k : Meter). k.sends) e)

  abbrev pub next_one : Meter → Meter
  next_one m = record m { steps = m.steps + 1 }

  pub stays_one : (m : Meter) → its.met (next_one m) ≡ its.met m
  stays_one m = stays m (next_one m) refl

  module _ (mode : Mode) where
    abbrev S : Way → ℕ → ℕ → Type 0
    S = Same instrs its mode

    pub same_here : (p : ℕ) → S here p p
    same_here p = record {
      into = λ before point n count way.
          record { now = before; steps = n; more = count; goes = refl; left = way; shorter = omega arith; over = over_same mode _ count _ count refl refl };
      out = λ before now point n count e way. record { steps = n; more = count; way = way; as_much = ap (λ (m : Meter). its.met m + count) (sym e) };
    }

    -- An instruction that goes on at one place alone
    step : (i : Instr) (p q : ℕ) → slice_get instrs p ≡ Some i → ((point : ℕ) → Ends i point → ⊥) → IsOther i → ((next : ℕ) → GoesOn i p next → next ≡ q)
        → GoesOn i p q → S one p q
    step i p q at never other on goes = record { into = in_to; out = out_of }
      where
        in_to : (before : Meter) (point n count : ℕ) → Goes instrs its point n p count → Onto instrs its mode one q point n count before
        in_to before point n count way =
            let b = behind_first instrs its i point n p count at (never point) way in
            record {
              now = next_one before;
              steps = b.steps;
              more = b.more;
              goes = refl;
              left = subst (λ x. Goes instrs its point b.steps x b.more) (on b.next b.on) b.way;
              shorter = omega (arith, b.shorter);
              over = over_same mode _ count _ b.more (stays_one before) (omega (arith, b.adds, its.other i other));
            }

        out_of : (before now : Meter) (point n count : ℕ) → one before now → Goes instrs its point n q count
            → From instrs its p point count (its.met before) (its.met now)
        out_of before now point n count e way = record {
          steps = suc n;
          more = its.of i + count;
          way = (i, q, count, at, goes, way, refl);
          as_much = omega (arith, its.other i other, stays before now e);
        }

    pub same_plain : (i : Instr) (p : ℕ) → IsPlain i → slice_get instrs p ≡ Some i → S one p (p + 1)
    same_plain i p h at = step i p (p + 1) at (λ point. plain_ends i point h) (plain_other i h) (λ next. plain_on i p next h) (plain_goes i p h)

    pub same_jump : (p to : ℕ) → slice_get instrs p ≡ Some (instr.Jump to) → S one p to
    same_jump p to at = step (instr.Jump to) p to at (λ point e. e) (tt {0}) (λ next e. e) refl

    -- An instruction that is counted
    pub counted : (way : Way) (i : Instr) (p : ℕ) (met : Meter → Meter) → slice_get instrs p ≡ Some i → ((point : ℕ) → Ends i point → ⊥)
        → ((next : ℕ) → GoesOn i p next → next ≡ p + 1) → GoesOn i p (p + 1)
        → (mode ≡ Quiet → its.of i ≡ 0) → ((m : Meter) → way m (met m)) → ((m n : Meter) → way m n → its.met n ≡ its.met m + its.of i) → S way p (p + 1)
    counted way i p met at never on goes none some adds = record { into = in_to; out = out_of }
      where
        in_to : (before : Meter) (point n count : ℕ) → Goes instrs its point n p count → Onto instrs its mode way (p + 1) point n count before
        in_to before point n count w =
            let b = behind_first instrs its i point n p count at (never point) w in
            record {
              now = met before;
              steps = b.steps;
              more = b.more;
              goes = some before;
              left = subst (λ x. Goes instrs its point b.steps x b.more) (on b.next b.on) b.way;
              shorter = omega (arith, b.shorter);
              over = over_counted mode (its.met before) (its.of i) count (its.met (met before)) b.more none (adds before (met before) (some before)) b.adds;
            }

        out_of : (before now : Meter) (point n count : ℕ) → way before now → Goes instrs its point n (p + 1) count
            → From instrs its p point count (its.met before) (its.met now)
        out_of before now point n count e w = record {
          steps = suc n;
          more = its.of i + count;
          way = (i, p + 1, count, at, goes, w, refl);
          as_much = omega
              (arith, adds before now e);
        }

    pub same_both : (first second : Way) (p q r : ℕ) → S first p q → S second q r → S (both first second) p r
    same_both first second p q r f g = record { into = in_to; out = out_of }
      where
        in_to : (before : Meter) (point n count : ℕ) → Goes instrs its point n p count → Onto instrs its mode (both first second) r point n count before
        in_to before point n count way =
            let a = f.into before point n count way in
            let b = g.into a.now point a.steps a.more a.left in
            record {
              now = b.now;
              steps = b.steps;
              more = b.more;
              goes = (a.now, a.goes, b.goes);
              left = b.left;
              shorter = omega (arith, a.shorter, b.shorter);
              over = over_then mode _ count _ a.more _ b.more a.over b.over;
            }

        out_of : (before now : Meter) (point n count : ℕ) → both first second before now → Goes instrs its point n r count
            → From instrs its p point count (its.met before) (its.met now)
        out_of before now point n count (mid, w, v) way =
            let b = g.out mid now point n count v way in
            let a = f.out before mid point b.steps b.more w b.way in
            record { steps = a.steps; more = a.more; way = a.way; as_much = a.as_much ∙ b.as_much }

    -- A test, behind which the way goes on at the jump's place or at the next
    pub same_fork : (i : Instr) (this that : Way) (p to r : ℕ) → slice_get instrs p ≡ Some i → Forks i to → S this to r → S that (p + 1) r
        → S (both one (either this that)) p r
    same_fork i this that p to r at forks f g = record { into = in_to; out = out_of }
      where
        way : Way
        way = both one (either this that)

        none : its.of i ≡ 0
        none = its.other i (fork_other i to forks)

        by_that : (before : Meter) (point n count : ℕ) (b : Behind instrs its i point n p count) → b.next ≡ p + 1
            → Onto instrs its mode way r point n count before
        by_that before point n count b e =
            let a = g.into (next_one before) point b.steps b.more (subst (λ x. Goes instrs its point b.steps x b.more) e b.way) in
            record {
              now = a.now;
              steps = a.steps;
              more = a.more;
              goes = (next_one before, refl, inr a.goes);
              left = a.left;
              shorter = omega (arith, a.shorter, b.shorter);
              over = over_then mode _ count _ b.more _ a.more (over_same mode _ count _ b.more (stays_one before) (omega (arith, b.adds, none))) a.over;
            }

        by_this : (before : Meter) (point n count : ℕ) (b : Behind instrs its i point n p count) → b.next ≡ to
            → Onto instrs its mode way r point n count before
        by_this before point n count b e =
            let a = f.into (next_one before) point b.steps b.more (subst (λ x. Goes instrs its point b.steps x b.more) e b.way) in
            record {
              now = a.now;
              steps = a.steps;
              more = a.more;
              goes = (next_one before, refl, inl a.goes);
              left = a.left;
              shorter = omega (arith, a.shorter, b.shorter);
              over = over_then mode _ count _ b.more _ a.more (over_same mode _ count _ b.more (stays_one before) (omega (arith, b.adds, none))) a.over;
            }

        chosen : (before : Meter) (point n count : ℕ) (b : Behind instrs its i point n p count) → (b.next ≡ p + 1) ⊎ (b.next ≡ to)
            → Onto instrs its mode way r point n count before
        chosen before point n count b (inl e) = by_that before point n count b e
        chosen before point n count b (inr e) = by_this before point n count b e

        in_to : (before : Meter) (point n count : ℕ) → Goes instrs its point n p count → Onto instrs its mode way r point n count before
        in_to before point n count w =
            let b = behind_first instrs its i point n p count at (fork_ends i to point forks) w in
            chosen before point n count b (fork_on i p to b.next forks b.on)

        out_of : (before now : Meter) (point n count : ℕ) → way before now → Goes instrs its point n r count
            → From instrs its p point count (its.met before) (its.met now)
        out_of before now point n count (mid, e, inl w) v =
            let a = f.out mid now point n count w v in
            record {
              steps = suc a.steps;
              more = its.of i + a.more;
              way = (i, to, a.more, at, fork_jump i p to forks, a.way, refl);
              as_much = omega
                  (arith, none, a.as_much, stays before mid e);
            }
        out_of before now point n count (mid, e, inr w) v =
            let a = g.out mid now point n count w v in
            record {
              steps = suc a.steps;
              more = its.of i + a.more;
              way = (i, p + 1, a.more, at, fork_next i p to forks, a.way, refl);
              as_much = omega
                  (arith, none, a.as_much, stays before mid e);
            }

    -- A way that is always there and neither looks nor sends is no part of the code.
    pub same_still : (way : Way) (p : ℕ) → ((m : Meter) → (n : Meter) × way m n) → ((m n : Meter) → way m n → its.met n ≡ its.met m) → S way p p
    same_still way p some still = record {
      into = λ before point n count w.
          record {
            now = (some before).0;
            steps = n;
            more = count;
            goes =
                (some before).1;
            left = w;
            shorter = omega arith;
            over = over_same mode _ count _ count (still before (some before).0 (some before).1) refl;
          };
      out = λ before now point n count v w. record { steps = n; more = count; way = w; as_much = omega (arith, still before now v) };
    }
