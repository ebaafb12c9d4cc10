-- What is counted on a way of code, by its places.
use Rattle.std.proofs.Common.{◌≡◌, ℕ, zero, suc, ◌+◌, ◌<◌, List, [], ◌∷◌, length, get_or, Option, Some, None, refl, ap, ◌∙◌, arith}
use Rattle.std.specs.Prelude.{slice_get}
use Rattle.std.specs.List.{Contains}
use Rattle.psy_code.specs.declared.instr.Instr.{Instr}
use Rattle.psy_code.specs.declared.instr.Instr.TheVariants as instr
use Rattle.psy_meaning.specs.CodeWays.{IsCodeWay}
use Rattle.psy_gen.proofs.ways.Measures.{Measure, Ends, Goes}

module _ (instrs : List Instr) (its : Measure) where
  -- What is there counts so much.
  abbrev pub weight : Option Instr → ℕ
  weight None = 0
  weight (Some i) = its.of i

  -- What stands at these places
  abbrev pub weighed : List ℕ → ℕ
  weighed [] = 0
  weighed (q ∷ places) = weight (slice_get instrs q) + weighed places

  -- A way of code with its count
  pub record Walk (point from : ℕ) (places : List ℕ) : Type 0 where
    pub steps : ℕ
    pub way : Goes instrs its point steps from (weighed places)

  ends_other : (i : Instr) (point : ℕ) → Ends i point → its.of i ≡ 0
  ends_other (instr.Advance own) point e = its.other (instr.Advance own) (tt {0})
  ends_other _ point e = absurd e

  is_advance : (i : Instr) (point : ℕ) → Ends i point → i ≡ instr.Advance point
  is_advance (instr.Advance own) point e = ap instr.Advance e
  is_advance _ point e = absurd e

  pub walk_of : (point from : ℕ) (places : List ℕ) → IsCodeWay instrs point from places → Walk point from places
  walk_of point from places (IsCodeWay.ends place at) = record {
    steps = 0;
    way = (instr.Advance point, at, refl, omega (arith, ap weight at, its.other (instr.Advance point) (tt {0})));
  }
  walk_of point from places (IsCodeWay.goes place next i more at on rest) =
      let w = walk_of point next more rest in
      record { steps = suc w.steps; way = (i, next, weighed more, at, on, w.way, ap (λ n. n + weighed more) (ap weight at)) }

  -- A way of code as places
  pub record Listed (point from count : ℕ) : Type 0 where
    pub places : List ℕ
    pub way : IsCodeWay instrs point from places
    pub weighs : weighed places ≡ count

  pub listed : (point n from count : ℕ) → Goes instrs its point n from count → Listed point from count
  listed point zero from count (i, at, ends, none) = record {
    places = from ∷ [];
    way = IsCodeWay.ends from (at ∙ ap Some (is_advance i point ends));
    weighs = omega (arith, none, ap weight at, ends_other i point ends);
  }
  listed point (suc n) from count (i, next, more, at, on, way, adds) =
      let l = listed point n next more way in
      record { places = from ∷ l.places; way = IsCodeWay.goes from next i l.places at on l.way; weighs = omega (arith, l.weighs, ap weight at, adds) }

  -- ---- one that is counted

  pub record Counted (places : List ℕ) : Type 0 where
    pub place : ℕ
    pub i : Instr
    pub among : Contains places place
    pub at : slice_get instrs place ≡ Some i
    pub counts : 0 < its.of i

  later : (q : ℕ) (places : List ℕ) → Counted places → Counted (q ∷ places)
  later q places c = record { place = c.place; i = c.i; among = (suc c.among.0, omega (arith, c.among.1), c.among.2); at = c.at; counts = c.counts }

  first_or : (q : ℕ) (places : List ℕ) (o : Option Instr) (k : ℕ) → slice_get instrs q ≡ o → weight o ≡ k → 0 < k + weighed places
      → (0 < weighed places → Counted places) → Counted (q ∷ places)
  first_or q places o zero at e h known = later q places (known (omega (arith, h)))
  first_or q places None (suc k) at e h known = absurd (omega (arith, e))
  first_or q places (Some i) (suc k) at e h known = record { place = q; i = i; among = (0, omega arith, refl); at = at; counts = omega (arith, e) }

  pub find_counted : (places : List ℕ) → 0 < weighed places → Counted places
  find_counted [] h = absurd (omega (arith, h))
  find_counted (q ∷ places) h = first_or q places (slice_get instrs q) (weight (slice_get instrs q)) refl refl h (find_counted places)

  counts_at : (places : List ℕ) (place j : ℕ) (i : Instr) → j < length places → get_or places j place ≡ place → slice_get instrs place ≡ Some i
      → 0 < its.of i → 0 < weighed places
  counts_at [] place j i less e at h = absurd (omega (arith, less))
  counts_at (q ∷ places) place zero i less e at h = omega (arith, h, ap (λ x. weight (slice_get instrs x)) e, ap weight at)
  counts_at (q ∷ places) place (suc j) i less e at h = omega (arith, counts_at places place j i (omega (arith, less)) e at h)

  pub is_counted : (places : List ℕ) (place : ℕ) (i : Instr) → Contains places place → slice_get instrs place ≡ Some i → 0 < its.of i → 0 < weighed places
  is_counted places place i (j, less, e) at h = counts_at places place j i less e at h
