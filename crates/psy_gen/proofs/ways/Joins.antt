-- Courses one after the other.
use Rattle.std.proofs.Common.{ℕ, List, [], ◌∷◌, ◌++◌, refl, subst, inl, inr}
use Rattle.std.specs.Prelude.{◌⊎◌}
use Rattle.psy_code.specs.declared.instr.Instr.{Instr}
use Rattle.psy_meaning.specs.Ways.{Meter, Course, End, Fell, Back, To, here, falling, leaving, and_on, courses_through}
use Rattle.psy_gen.proofs.ways.Measures.{Measure}
use Rattle.psy_gen.proofs.ways.Modes.{Mode}
use Rattle.psy_gen.proofs.ways.Courses.{all_on}
use Rattle.psy_gen.proofs.ways.Same.{Onto, Upto, SameAll}

-- Each way of the one is a way of the other.
abbrev Within : Course → Course → Type 0
Within these those = (end : End) (m n : Meter) → these end m n → those end m n

none_left : {A : Type 0} (end : End) (m n : Meter) → leaving (falling here) end m n → A
none_left Fell m n w = absurd w
none_left Back m n w = absurd w
none_left (To point) m n w = absurd w

module _ {X : Type 0} (course : X → Course) where
  abbrev through : List X → Course
  through xs = courses_through course xs

  taken : (x : X) (xs ys : List X) → Within (and_on (through xs) (through ys)) (through (xs ++ ys))
      → Within (and_on (through (x ∷ xs)) (through ys)) (through (x ∷ xs ++ ys))
  taken x xs ys known end m n (inl (mid, inl (k, a, b), w)) = inl (k, a, known end k n (inl (mid, b, w)))
  taken x xs ys known end m n (inl (mid, inr a, w)) = absurd a
  taken x xs ys known Fell m n (inr w) = absurd w
  taken x xs ys known Back m n (inr (inl (k, a, b))) = inl (k, a, known Back k n (inr b))
  taken x xs ys known Back m n (inr (inr a)) = inr a
  taken x xs ys known (To point) m n (inr (inl (k, a, b))) = inl (k, a, known (To point) k n (inr b))
  taken x xs ys known (To point) m n (inr (inr a)) = inr a

  pub joined : (xs ys : List X) → Within (and_on (through xs) (through ys)) (through (xs ++ ys))
  joined [] ys end m n (inl (mid, e, w)) = subst (λ k. through ys end k n) e w
  joined [] ys end m n (inr w) = none_left end m n w
  joined (x ∷ xs) ys end m n w = taken x xs ys (joined xs ys) end m n w

  given : (x : X) (xs ys : List X) → Within (through (xs ++ ys)) (and_on (through xs) (through ys))
      → Within (through (x ∷ xs ++ ys)) (and_on (through (x ∷ xs)) (through ys))
  given x xs ys known end m n (inl (k, a, w)) = by end (known end k n w)
    where
      by : (end : End) → and_on (through xs) (through ys) end k n → and_on (through (x ∷ xs)) (through ys) end m n
      by end (inl (mid, b, v)) = inl (mid, inl (k, a, b), v)
      by Fell (inr v) = absurd v
      by Back (inr v) = inr (inl (k, a, v))
      by (To point) (inr v) = inr (inl (k, a, v))
  given x xs ys known Fell m n (inr w) = absurd w
  given x xs ys known Back m n (inr w) = inr (inr w)
  given x xs ys known (To point) m n (inr w) = inr (inr w)

  pub parted : (xs ys : List X) → Within (through (xs ++ ys)) (and_on (through xs) (through ys))
  parted [] ys end m n w = inl (m, refl, w)
  parted (x ∷ xs) ys end m n w = given x xs ys (parted xs ys) end m n w

  module _ (instrs : List Instr) (its : Measure) (mode : Mode) where
    pub same_joined : (xs ys : List X) (p q r : ℕ) → SameAll instrs its mode (through xs) p q → SameAll instrs its mode (through ys) q r
        → SameAll instrs its mode (through (xs ++ ys)) p r
    same_joined xs ys p q r f g = record {
      into = λ before point n count w. by before point n count (both.into before point n count w);
      out = λ before now point n count v w. both.out before now point n count (parted xs ys Fell before now v) w;
      end = λ before now point v. both.end before now point (parted xs ys (To point) before now v);
    }
      where
        both : SameAll instrs its mode (and_on (through xs) (through ys)) p r
        both = all_on instrs its mode (through xs) (through ys) p q r f g

        by : (before : Meter) (point n count : ℕ)
            → Onto instrs its mode (and_on (through xs) (through ys) Fell) r point n count before ⊎ Upto its mode
            (and_on (through xs) (through ys)) point count before
            → Onto instrs its mode (through (xs ++ ys) Fell) r point n count before ⊎ Upto its mode (through (xs ++ ys)) point count before
        by before point n count (inl a) = inl (record {
          now = a.now;
          steps = a.steps;
          more = a.more;
          goes = joined xs ys Fell before a.now a.goes;
          left = a.left;
          shorter = a.shorter;
          over = a.over;
        })
        by before point n count (inr a) = inr (record { now = a.now; goes = joined xs ys (To point) before a.now a.goes; over = a.over })
