-- A height above the number of instructions: some part of its way climbs from a place to that place, so that there is no greatest height.
use Rattle.std.proofs.Common.{◌≡◌, ◌⊎◌, ◌||◌, ℕ, zero, suc, ◌+◌, ◌-◌, ◌<◌, ◌≤◌, Bool, true, false, List, [], ◌∷◌, length, eqb, Some, refl, sym, ap, subst, inl, inr, arith}
use Rattle.std.specs.Prelude.{slice_get}
use Rattle.std.specs.List.{AllByRecursion, IsDistinct, list_any}
use Rattle.std.proofs.lemmas.Bool.{false≢true}
use Rattle.std.proofs.lemmas.Map.Keys.{IsDistinct-cons}
use Rattle.std.proofs.lemmas.Map.Steps.{length-le_from_distinct_below}
use Rattle.std.proofs.lemmas.Option.{slice_get_within}
use Rattle.psy_lists.proofs.lemmas.Tests.{or_right}
use Rattle.psy_code.specs.declared.code.Code.{Code}
use Rattle.psy_code.specs.declared.code.FunctionCode.{FunctionCode}
use Rattle.psy_code.specs.declared.instr.Instr.{Instr}
use Rattle.psy_code.specs.declared.instr.Instr.TheVariants as instr
use Rattle.std.specs.Prelude.{Option, None}
use Rattle.psy_meaning.specs.CodeWays.{IsUnbounded}
use Rattle.psy_flow.specs.Owners.{Owner}
use Rattle.psy_flow.specs.Heights.{IsAmong, IsHeight, Moves, Shift, at_start, moved, onto, past_call, shifts}

-- ---- what is pushed

one_few : (s : Shift) (to p q : ℕ) → q ≤ 1 → IsAmong s (onto to p q) → s.pushes ≤ 1
one_few s to p q low (inl e) = omega (arith, low, ap (λ (t : Shift). t.pushes) e)
one_few s to p q low (inr h) = absurd h

two_few : (s : Shift) (next to p q r : ℕ) → q ≤ 1 → IsAmong s (record { to = next; pops = r; pushes = 0 } ∷ onto to p q) → s.pushes ≤ 1
two_few s next to p q r low (inl e) = omega (arith, ap (λ (t : Shift). t.pushes) e)
two_few s next to p q r low (inr h) = one_few s to p q low h

past_few : (s : Shift) (place : ℕ) (found : Option FunctionCode) → IsAmong s (past_call place found) → s.pushes ≤ 1
past_few s place None h = absurd h
past_few s place (Some f) h = one_few s (place + 1) f.params 1 (omega arith) h

-- An instruction pushes one operand at most.
pub pushes_few : (code : Code) (place : ℕ) (i : Instr) (s : Shift) → IsAmong s (shifts code place i) → s.pushes ≤ 1
pushes_few code place (instr.Jump to) s h = one_few s to 0 0 (omega arith) h
pushes_few code place (instr.JumpZero to) s h = two_few s (place + 1) to 1 0 1 (omega arith) h
pushes_few code place (instr.AndTest to) s h = two_few s (place + 1) to 1 1 1 (omega arith) h
pushes_few code place (instr.OrTest to) s h = two_few s (place + 1) to 1 1 1 (omega arith) h
pushes_few code place instr.Return s h = absurd h
pushes_few code place (instr.Advance point) s h = absurd h
pushes_few code place (instr.Call function) s h = past_few s place (slice_get code.functions function) h
pushes_few code place (instr.Push number) s h = one_few s (place + 1) 0 1 (omega arith) h
pushes_few code place (instr.Load cell) s h = one_few s (place + 1) 0 1 (omega arith) h
pushes_few code place (instr.Store cell) s h = one_few s (place + 1) 1 0 (omega arith) h
pushes_few code place (instr.LoadCell base cells) s h = one_few s (place + 1) 1 1 (omega arith) h
pushes_few code place (instr.StoreCell base cells) s h = one_few s (place + 1) 2 0 (omega arith) h
pushes_few code place (instr.LoadCopy variable) s h = one_few s (place + 1) 0 1 (omega arith) h
pushes_few code place (instr.StoreCopy variable) s h = one_few s (place + 1) 1 0 (omega arith) h
pushes_few code place (instr.Past variable back) s h = one_few s (place + 1) 0 1 (omega arith) h
pushes_few code place (instr.Ready stream) s h = one_few s (place + 1) 0 1 (omega arith) h
pushes_few code place (instr.Take stream) s h = one_few s (place + 1) 0 1 (omega arith) h
pushes_few code place (instr.Send stream after clock) s h = one_few s (place + 1) 1 0 (omega arith) h
pushes_few code place instr.Truth s h = one_few s (place + 1) 1 1 (omega arith) h
pushes_few code place (instr.Zero counter) s h = one_few s (place + 1) 0 0 (omega arith) h
pushes_few code place (instr.Guard counter bound) s h = one_few s (place + 1) 1 1 (omega arith) h
pushes_few code place (instr.Binary operator width) s h = one_few s (place + 1) 2 1 (omega arith) h
pushes_few code place (instr.Unary operator width) s h = one_few s (place + 1) 1 1 (omega arith) h
pushes_few code place (instr.Cast width) s h = one_few s (place + 1) 1 1 (omega arith) h

-- ---- numbers that differ

none_distinct : IsDistinct eqb []
unfolding IsDistinct
none_distinct = tt

differs : (k : ℕ) (ks : List ℕ) → list_any (eqb k) ks ≡ false → AllByRecursion (λ y. eqb k y ≡ false) ks
differs k [] e = tt
differs k (y ∷ ys) e = (or_none (eqb k y) (list_any (eqb k) ys) e, differs k ys (or_right (eqb k y) (list_any (eqb k) ys) e))
  where
    or_none : (a b : Bool) → (a || b) ≡ false → a ≡ false
    or_none true b h = h
    or_none false b h = refl

distinct_more : (k : ℕ) (ks : List ℕ) → list_any (eqb k) ks ≡ false → IsDistinct eqb ks → IsDistinct eqb (k ∷ ks)
distinct_more k ks new distinct = IsDistinct-cons eqb k ks (differs k ks new) distinct

-- ---- climbing

-- A way from one place to another, which ends so many operands higher and never pops one that was there at first
data Climbs (code : Code) (from : ℕ) : ℕ → ℕ → Type 0 where
  stays : Climbs code from from 0
  climbs : (place next height after : ℕ) (i : Instr) → Climbs code from place height → slice_get code.instrs place ≡ Some i
      → Moves code place i height next after → Climbs code from next after

module _ (code : Code) where
  -- It begins at an instruction.
  begins_in : (from place height : ℕ) (i : Instr) → Climbs code from place height → slice_get code.instrs place ≡ Some i → from < length code.instrs
  begins_in from place height i stays at = slice_get_within code.instrs from i at
  begins_in from place height i (climbs before _ low _ j way there on) at = begins_in from before low j way there

  rises_in : (from place height : ℕ) → Climbs code from place (suc height) → from < length code.instrs
  rises_in from place height (climbs before _ low _ j way there on) = begins_in from before low j way there

  -- One way behind the other
  behind : (from mid to h g n : ℕ) → Climbs code from mid h → Climbs code mid to g → n ≡ h + g → Climbs code from to n
  behind from mid _ h _ n first stays e = subst (Climbs code from mid) (omega (arith, e)) first
  behind from mid _ h _ n first (climbs place next height after i way at (shift, among, to, low, same)) e =
      climbs place next (h + height) n i (behind from mid place h height (h + height) first way refl) at (shift, among, to, omega (arith, low), omega (arith, same, e))

  module _ (owner : Owner) where
    lifted : (from place k h n : ℕ) → IsHeight code owner from k → Climbs code from place h → n ≡ k + h → IsHeight code owner place n
    lifted from _ k _ n reached stays e = subst (IsHeight code owner from) (omega (arith, e)) reached
    lifted from _ k _ n reached (climbs place next height after i way at (shift, among, to, low, same)) e =
        moved place next (k + height) n i (lifted from place k height (k + height) reached way refl) at (shift, among, to, omega (arith, low), omega (arith, same, e))

    lift_unbounded : (from place h : ℕ) → IsUnbounded (IsHeight code owner from) → Climbs code from place h → IsUnbounded (IsHeight code owner place)
    lift_unbounded from place h without way m =
        let (n, reached, more) = without m in (n + h, lifted from place n h (n + h) reached way refl, omega (arith, more))

    -- A way that climbs to where it began can be gone again.
    pump : (place d k : ℕ) → Climbs code place place (suc d) → IsHeight code owner place k → IsUnbounded (IsHeight code owner place)
    pump place d k way reached zero = (k + suc d, lifted place place k (suc d) (k + suc d) reached way refl, omega arith)
    pump place d k way reached (suc m) =
        let (n, also, more) = pump place d k way reached m in
        (n + suc d, lifted place place n (suc d) (n + suc d) also way refl, omega (arith, more))

    -- ---- rungs

    -- Places, the last first, of which each stands one operand above the one before, and no way between goes below
    data Ladder : ℕ → List ℕ → Type 0 where
      base : (q : ℕ) → IsHeight code owner q 0 → Ladder 0 (q ∷ [])
      rung : (h q p : ℕ) (rest : List ℕ) → Ladder h (q ∷ rest) → Climbs code q p 1 → IsHeight code owner p (suc h) → Ladder (suc h) (p ∷ q ∷ rest)

    -- A place stands level with the last.
    abbrev Level : ℕ → ℕ → Type 0
    Level place h = (q : ℕ) × (rest : List ℕ) × Ladder h (q ∷ rest) × Climbs code q place 0

    down : (r h k g n place q : ℕ) (rest : List ℕ) → h ≡ r + k → n ≡ r + g → Ladder h (q ∷ rest) → Climbs code q place g
        → (p : ℕ) × (others : List ℕ) × Ladder k (p ∷ others) × Climbs code p place n
    down zero h k g n place q rest e f ladder way =
        (q, rest, subst (λ m. Ladder m (q ∷ rest)) (omega (arith, e)) ladder, subst (Climbs code q place) (omega (arith, f)) way)
    down (suc r) _ k g n place _ _ e f (base q reached) way = absurd (omega (arith, e))
    down (suc r) _ k g n place _ _ e f (rung h q2 q rest ladder up reached) way =
        down r h k (suc g) n place q2 rest (omega (arith, e)) (omega (arith, f)) ladder (behind q2 q place 1 g (suc g) up way (omega arith))

    up_by : (k n next place : ℕ) (i : Instr) (others : List ℕ) (p after r : ℕ) → Ladder k (p ∷ others) → Climbs code p place r → slice_get code.instrs place ≡ Some i
        → (shift : Shift) → IsAmong shift (shifts code place i) → next ≡ shift.to → shift.pops ≡ r → shift.pushes ≡ n → after ≡ k + n → n ≤ 1
        → IsHeight code owner next after → Level next after
    up_by k zero next place i others p after r ladder way at shift among to pops pushes e few reached = (
      p,
      others,
      subst (λ m. Ladder m (p ∷ others)) (omega (arith, e)) ladder,
      climbs place next r 0 i way at (shift, among, to, omega (arith, pops), omega (arith, pops, pushes)),
    )
    up_by k (suc zero) next place i others p after r ladder way at shift among to pops pushes e few reached =
        let same : after ≡ suc k = omega (arith, e) in
        let on : Climbs code p next 1 = climbs place next r 1 i way at (shift, among, to, omega (arith, pops), omega (arith, pops, pushes)) in
        (next, p ∷ others, subst (λ m. Ladder m (next ∷ p ∷ others)) (sym same) (rung k p next others ladder on (subst (IsHeight code owner next) same reached)), stays)
    up_by k (suc (suc n)) next place i others p after r ladder way at shift among to pops pushes e few reached = absurd (omega (arith, few))

    climbed : (place h : ℕ) → IsHeight code owner place h → Level place h
    climbed _ _ (at_start place begins) = (place, [], base place (at_start place begins), stays)
    climbed _ _ (moved place next height after i reached at (shift, among, to, low, same)) =
        let (q, rest, ladder, way) = climbed place height reached in
        let (p, others, lower, from) = down shift.pops height (height - shift.pops) 0 shift.pops place q rest (omega (arith, low)) (omega arith) ladder way in
        up_by (height - shift.pops) shift.pushes next place i others p after shift.pops lower from at shift among to refl refl (omega (arith, low, same))
        (pushes_few code place i shift among) (moved place next height after i reached at (shift, among, to, low, same))

    -- ---- more rungs than places

    here_or : (x q : ℕ) (rest : List ℕ) → list_any (eqb x) (q ∷ rest) ≡ true → (x ≡ q) ⊎ (list_any (eqb x) rest ≡ true)
    here_or x q rest has = split (eqb x q) refl has
      where
        split : (b : Bool) → eqb x q ≡ b → (b || list_any (eqb x) rest) ≡ true → (x ≡ q) ⊎ (list_any (eqb x) rest ≡ true)
        split true e h = inl (grind (arith, e))
        split false e h = inr h

    from_rung : (x place g h q : ℕ) (rest : List ℕ) → Ladder h (q ∷ rest) → Climbs code q place g → list_any (eqb x) (q ∷ rest) ≡ true
        → (d : ℕ) × (g ≤ d) × Climbs code x place d
    from_rung x place g _ _ _ (base q reached) way has = elim (here_or x q [] has) [
      | inl same ↦ (g, omega arith, subst (λ p. Climbs code p place g) (sym same) way)
      | inr more ↦ absurd (false≢true more)
    ]
    from_rung x place g _ _ _ (rung h q2 q rest ladder up reached) way has = elim (here_or x q (q2 ∷ rest) has) [
      | inl same ↦ (g, omega arith, subst (λ p. Climbs code p place g) (sym same) way)
      | inr more ↦ lower g (from_rung x place (suc g) h q2 rest ladder (behind q2 q place 1 g (suc g) up way (omega arith)) more)
    ]
      where
        lower : (g : ℕ) → (d : ℕ) × (suc g ≤ d) × Climbs code x place d → (d : ℕ) × (g ≤ d) × Climbs code x place d
        lower g (d, low, on) = (d, omega (arith, low), on)

    -- All rungs but the last are different places of the code.
    abbrev Differ : ℕ → List ℕ → Type 0
    Differ h rest = IsDistinct eqb rest × ((p : ℕ) → list_any (eqb p) rest ≡ true → p < length code.instrs) × (length rest ≡ h)

    top_rung : (h q : ℕ) (rest : List ℕ) → Ladder h (q ∷ rest) → IsHeight code owner q h
    top_rung _ _ _ (base q reached) = reached
    top_rung _ _ _ (rung h q p rest ladder up reached) = reached

    again : (h q p : ℕ) (rest : List ℕ) → Ladder h (q ∷ rest) → Climbs code q p 1 → list_any (eqb q) rest ≡ true → IsUnbounded (IsHeight code owner p)
    again _ _ p _ (base q reached) up has = absurd (false≢true has)
    again _ _ p _ (rung h q2 q rest ladder below reached) up has =
        let (d, low, on) = from_rung q q 1 h q2 rest ladder below has in
        lift_unbounded q p 1 (by d low on) up
      where
        by : (d : ℕ) → 1 ≤ d → Climbs code q q d → IsUnbounded (IsHeight code owner q)
        by zero low on = absurd (omega (arith, low))
        by (suc d) low on = pump q d (suc h) on reached

    decided : (h q : ℕ) (rest : List ℕ) → Ladder h (q ∷ rest) → IsUnbounded (IsHeight code owner q) ⊎ Differ h rest
    decided _ _ _ (base q reached) = inr (none_distinct, (λ p has. absurd (false≢true has)), refl)
    decided _ _ _ (rung h q p rest ladder up reached) = elim (decided h q rest ladder) [
      | inl without ↦ inl (lift_unbounded q p 1 without up)
      | inr differ ↦ split differ (list_any (eqb q) rest) refl
    ]
      where
        split : Differ h rest → (b : Bool) → list_any (eqb q) rest ≡ b → IsUnbounded (IsHeight code owner p) ⊎ Differ (suc h) (q ∷ rest)
        split differ true e = inl (again h q p rest ladder up e)
        split (distinct, within, count) false e = inr (distinct_more q rest e distinct, below, ap suc count)
          where
            below : (x : ℕ) → list_any (eqb x) (q ∷ rest) ≡ true → x < length code.instrs
            below x has = by (eqb x q) refl
              where
                by : (b : Bool) → eqb x q ≡ b → x < length code.instrs
                by true e = (let same : x ≡ q = grind (arith, e) in omega (arith, same, rises_in q p 0 up))
                by false e = within x (subst (λ b. (b || list_any (eqb x) rest) ≡ true) e has)

    pub endless : (place h : ℕ) → IsHeight code owner place h → length code.instrs < h → IsUnbounded (IsHeight code owner place)
    endless place h reached more =
        let (q, rest, ladder, way) = climbed place h reached in
        elim (decided h q rest ladder) [
          | inl without ↦ lift_unbounded q place 0 without way
          | inr (distinct, within, count) ↦ absurd (omega (arith, count, more, length-le_from_distinct_below rest (length code.instrs) distinct within))
        ]
