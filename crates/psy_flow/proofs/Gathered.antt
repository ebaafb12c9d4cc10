-- Bits that go back along ways, by steps and by passes.
use Rattle.std.proofs.Common.{◌≡◌, ◌⊎◌, ◌||◌, ℕ, ◌+◌, ◌-◌, ◌<◌, ◌≤◌, Bool, true, false, List, length, get_or, None, Some, refl, sym, ap, subst, ◌∙◌, inl, inr, arith, length-set, get_or-set_other, get_or-set_same}
use Rattle.std.specs.Prelude.{Option, slice_get, slice_set}
use Rattle.std.specs.Int.{bit_at}
use Rattle.std.specs.Int.Bits.{bit_or}
use Rattle.std.specs.List.{sum_by}
use Rattle.std.proofs.lemmas.Bool.{cases_lt, false≢true}
use Rattle.std.proofs.lemmas.List.Sums.{sum_by-set}
use Rattle.std.proofs.lemmas.Nat.{le_or_l}
use Rattle.std.proofs.lemmas.Nat.Bits.{bit_at-lt, bit_at-zero, bit_at_or}
use Rattle.std.proofs.lemmas.Option.{slice_get_within}
use Rattle.psy_lists.proofs.lemmas.Places.{there}
use Rattle.psy_code.specs.declared.instr.Instr.{Instr}
use Rattle.psy_meaning.specs.CodeWays.{GoesOn, IsPassed, first, later}
use Rattle.psy_flow.specs.Bits.{AreGathered, AreStill, HasBit, HasBitAt, HasBitBehind, IsGathered, bits_from, gathered_at, onward_bits, spare}
use Rattle.psy_flow.specs.Walks.{onward_of}
use Rattle.psy_flow.specs.Worths.{cell_of}
use Rattle.psy_flow.proofs.Onwards.{goes_if, one_of}
use Rattle.psy_flow.proofs.QuestWays.{passed_on}
use Rattle.psy_flow.proofs.WorthCells.{same_or_not}

-- ---- bits of both

pub either_bit : (a b bit : ℕ) → HasBit (bit_or a b) bit → HasBit a bit ⊎ HasBit b bit
either_bit a b bit h = elim (cases_lt (bit_at a bit) 1) [
  | inl none ↦ inr (omega (arith, h, none, bit_at_or a b bit, bit_at-lt b bit))
  | inr some ↦ inl (omega (arith, some, bit_at-lt a bit))
]

pub left_bit : (a b bit : ℕ) → HasBit a bit → HasBit (bit_or a b) bit
left_bit a b bit h = omega (arith, h, bit_at_or a b bit, bit_at-lt b bit)

pub right_bit : (a b bit : ℕ) → HasBit b bit → HasBit (bit_or a b) bit
right_bit a b bit h = omega (arith, h, bit_at_or a b bit, bit_at-lt a bit)

pub no_bit : (bit : ℕ) → HasBit 0 bit → ⊥
no_bit bit h = omega (arith, h, bit_at-zero bit)

cell_bit : (row : List ℕ) (to : Option ℕ) (bit : ℕ) → HasBit (cell_of row to) bit → (next : ℕ) × (Some next ≡ to) × HasBitAt row next bit
cell_bit row None bit h = absurd (no_bit bit h)
cell_bit row (Some next) bit h = (next, refl, h)

module _ (instrs : List Instr) where
  -- ---- of the places where ways go on

  -- A bit of the places where ways go on is one of such a place.
  abbrev IsOnward : List ℕ → ℕ → ℕ → Type 0
  IsOnward row place bit = (next : ℕ) × (i : Instr) × (slice_get instrs place ≡ Some i) × GoesOn i place next × HasBitAt row next bit

  onward_by : (row : List ℕ) (place bit : ℕ) (o : Option Instr) → slice_get instrs place ≡ o → HasBit (bits_from row place o) bit → IsOnward row place bit
  onward_by row place bit None at h = absurd (no_bit bit h)
  onward_by row place bit (Some i) at h = elim (either_bit (cell_of row (onward_of i place).next) (cell_of row (onward_of i place).jump) bit h) [
    | inl a ↦ (let (next, is, has) = cell_bit row (onward_of i place).next bit a in (next, i, at, goes_if i place next (inl is), has))
    | inr b ↦ (let (next, is, has) = cell_bit row (onward_of i place).jump bit b in (next, i, at, goes_if i place next (inr is), has))
  ]

  onward_bit : (row : List ℕ) (place next bit : ℕ) (i : Instr) → slice_get instrs place ≡ Some i → GoesOn i place next → HasBitAt row next bit → HasBit (bits_from row place (slice_get instrs place)) bit
  onward_bit row place next bit i at goes h =
      let cells : HasBit (onward_bits row (onward_of i place)) bit =
      elim (one_of i place next goes) [
        | inl is ↦ left_bit (cell_of row (onward_of i place).next) (cell_of row (onward_of i place).jump) bit (subst (λ o. HasBit (cell_of row o) bit) is h)
        | inr is ↦ right_bit (cell_of row (onward_of i place).next) (cell_of row (onward_of i place).jump) bit (subst (λ o. HasBit (cell_of row o) bit) is h)
      ] in
      subst (λ o. HasBit (bits_from row place o) bit) (sym at) cells

  -- ---- steps

  pub gathered_none : (row : List ℕ) → IsGathered instrs row row
  gathered_none row = record { count = refl; kept = λ place bit h. h; found = λ place bit h. (place, first, h) }

  pub gathered_on : (a b c : List ℕ) → IsGathered instrs a b → IsGathered instrs b c → IsGathered instrs a c
  gathered_on a b c p q = record {
    count = q.count ∙ p.count;
    kept = λ place bit h. q.kept place bit (p.kept place bit h);
    found = λ place bit h.
        let (middle, passed, has) = q.found place bit h in
        let (last, further, also) = p.found middle bit has in
        (last, passed_on instrs place middle last passed further, also);
  }

  -- The bits of a place and of those where ways go on from it are bits of places that are passed.
  gathered_found : (row : List ℕ) (place bit : ℕ) → HasBit (gathered_at instrs row place) bit → HasBitBehind instrs row place bit
  gathered_found row place bit h = elim (either_bit (get_or row place 0) (bits_from row place (slice_get instrs place)) bit h) [
    | inl own ↦ (place, first, own)
    | inr on ↦ (let (next, i, at, goes, has) = onward_by row place bit (slice_get instrs place) refl on in (next, later place next i first at goes, has))
  ]

  pub gathered_step : (row after : List ℕ) (place : ℕ) → place < length row → after ≡ slice_set row place (gathered_at instrs row place) → IsGathered instrs row after
  gathered_step row after place inside is =
      let all = gathered_at instrs row place in
      let here : get_or after place 0 ≡ all = ap (λ r. get_or r place 0) is ∙ get_or-set_same row place all 0 inside in
      let others : (q : ℕ) → (q ≡ place → ⊥) → get_or after q 0 ≡ get_or row q 0 = λ q other. ap (λ r. get_or r q 0) is ∙ get_or-set_other row place q all 0 other in
      record {
        count = ap length is ∙ length-set row place all;
        kept = λ q bit h. elim (same_or_not q place) [
          | inl same ↦ subst (λ p. HasBitAt after p bit) (sym same) (subst (λ cell. HasBit cell bit) (sym here) (left_bit (get_or row place 0) (bits_from row place (slice_get instrs place)) bit (subst (λ p. HasBitAt row p bit) same h)))
          | inr other ↦ subst (λ cell. HasBit cell bit) (sym (others q other)) h
        ];
        found = λ q bit h. elim (same_or_not q place) [
          | inl same ↦ subst (λ p. HasBitBehind instrs row p bit) (sym same) (gathered_found row place bit (subst (λ cell. HasBit cell bit) here (subst (λ p. HasBitAt after p bit) same h)))
          | inr other ↦ (q, first, subst (λ cell. HasBit cell bit) (others q other) h)
        ];
      }

  -- What is left to cells gets less where one gets more.
  pub spare_less : (row after : List ℕ) (place all top : ℕ) → place < length row → after ≡ slice_set row place all → get_or row place 0 < all → all < top → sum_by (λ cell. top - cell) after < sum_by (λ cell. top - cell) row
  spare_less row after place all top inside is more low =
      let sums = sum_by-set (λ cell. top - cell) row place all 0 inside in
      omega (arith, sums, ap (λ r. sum_by (λ cell. top - cell) r) is, more, low)

  pub no_less : (row : List ℕ) (place : ℕ) → get_or row place 0 ≤ gathered_at instrs row place
  no_less row place = le_or_l (get_or row place 0) (bits_from row place (slice_get instrs place))

  -- ---- a pass

  -- What a row is when all places from this one on were visited
  pub record IsPassingBack (before row : List ℕ) (more : Bool) (place : ℕ) : Type 0 where
    pub within : place ≤ length instrs
    pub gathered : IsGathered instrs before row
    pub same : more ≡ false → row ≡ before
    pub spared : more ≡ true → spare row < spare before
    pub still : more ≡ false → (p : ℕ) → place ≤ p → p < length instrs → AreStill instrs row p

  pub passing_none : (row : List ℕ) → IsPassingBack row row false (length instrs)
  passing_none row = record {
    within = omega arith;
    gathered = gathered_none row;
    same = λ e. refl;
    spared = λ e. absurd (false≢true e);
    still = λ e p low less. absurd (omega (arith, low, less));
  }

  or_left : (a b : Bool) → (a || b) ≡ false → a ≡ false
  or_left true b h = h
  or_left false b h = refl

  or_right : (a b : Bool) → (a || b) ≡ false → b ≡ false
  or_right true b h = absurd (false≢true (sym h))
  or_right false b h = h

  module _ (before row after : List ℕ) (more now : Bool) (place : ℕ) (kept : IsPassingBack before row more (place + 1)) (gathered : IsGathered instrs row after)
      (spared : now ≡ true → spare after < spare row) (same : now ≡ false → after ≡ row) (still : now ≡ false → AreStill instrs row place) where
    spared_by : (a b : Bool) → more ≡ a → now ≡ b → (a || b) ≡ true → spare after < spare before
    spared_by true true p q h = omega (arith, kept.spared p, spared q)
    spared_by true false p q h = omega (arith, kept.spared p, ap spare (same q))
    spared_by false true p q h = omega (arith, ap spare (kept.same p), spared q)
    spared_by false false p q h = absurd (false≢true h)

    still_by : more ≡ false → now ≡ false → (p : ℕ) → place ≤ p → p < length instrs → AreStill instrs after p
    still_by a b p low less = subst (λ r. AreStill instrs r p) (sym (same b)) (elim (same_or_not p place) [
      | inl here ↦ subst (AreStill instrs row) (sym here) (still b)
      | inr other ↦ (let above : place + 1 ≤ p = elim (cases_lt place p) [
        | inl under ↦ omega (arith, under)
        | inr not ↦ absurd (other (omega (arith, not, low)))
      ] in kept.still a p above less)
    ])

    pub passing_more : IsPassingBack before after (more || now) place
    passing_more = record {
      within = omega (arith, kept.within);
      gathered = gathered_on before row after kept.gathered gathered;
      same = λ h. same (or_right more now h) ∙ kept.same (or_left more now h);
      spared = λ h. spared_by more now refl refl h;
      still = λ h. still_by (or_left more now h) (or_right more now h);
    }

  -- ---- all passes

  still_back : (row : List ℕ) → ((p : ℕ) → p < length instrs → AreStill instrs row p) → (from place bit : ℕ) → IsPassed instrs from place → HasBitAt row place bit → HasBitAt row from bit
  still_back row still from place bit first h = h
  still_back row still from place bit (later before next i passed at goes) h =
      let behind = onward_bit row before next bit i at goes h in
      let less = slice_get_within instrs before i at in
      let here : HasBitAt row before bit = subst (λ cell. HasBit cell bit) (still before less) (right_bit (get_or row before 0) (bits_from row before (slice_get instrs before)) bit behind) in
      still_back row still from before bit passed here

  pub gathered_all : (before row : List ℕ) → IsGathered instrs before row → ((p : ℕ) → p < length instrs → AreStill instrs row p) → AreGathered instrs before row
  gathered_all before row gathered still = record {
    count = gathered.count;
    each = λ place bit. (gathered.found place bit, (λ (there, passed, has). still_back row still place there bit passed (gathered.kept there bit has)));
  }
