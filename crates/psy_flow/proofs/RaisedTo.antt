-- Numbers by stream that are raised to the greatest of some.
use Rattle.std.proofs.Common.{◌≡◌, ◌⊎◌, ℕ, zero, suc, ◌+◌, ◌-◌, ◌*◌, ◌<◌, ◌≤◌, List, [], ◌∷◌, ◌++◌, length, get_or, take, replicate, Some, refl, sym, ap, subst, ◌∙◌, inl, inr, arith, length-set, get_or-set_other, get_or-set_same}
use Rattle.std.specs.Prelude.{slice_get, slice_set, ◌≢◌}
use Rattle.std.proofs.lemmas.List.{length-replicate, take_more}
use Rattle.std.proofs.lemmas.List.Elements.{Contains-append_left, Contains-push, Contains-push_cases}
use Rattle.std.proofs.lemmas.Option.{slice_get-get_or, slice_get_within, get_or_from_slice_get}
use Rattle.psy_code.specs.declared.code.Code.{Code}
use Rattle.psy_code.specs.declared.instr.Instr.{Instr}
use Rattle.psy_code.specs.declared.instr.Instr.TheVariants as instr
use Rattle.psy_tree.specs.declared.unit.Unit.{Unit as Whole}
use Rattle.psy_tree.specs.Parts.{agent_at, no_agent}
use Rattle.psy_meaning.specs.CodeWays.{AreCodeDelays, CanWalk, HasCodeDelay, IsOnWay, IsPassed, place_of}
use Rattle.psy_meaning.specs.Sendings.{delay_of, period_of}
use Rattle.psy_flow.specs.declared.parts.Part.{Part}
use Rattle.psy_flow.specs.declared.parts.Part.TheVariants as part
use Rattle.psy_flow.specs.Bits.{AreEndings, HasBitAt}
use Rattle.psy_flow.specs.CodeLists.{AreStarts, HasDelayAmong, HasDelayThere, HasPartDelay, IsRaisedTo}
use Rattle.psy_flow.specs.Quests.{part_of}
use Rattle.psy_flow.specs.Walks.{AllStayIn, ArePassedFrom}
use Rattle.psy_flow.proofs.CodeRows.{same_points}
use Rattle.psy_flow.proofs.QuestWays.{begins, way_front, way_rest}
use Rattle.psy_flow.proofs.WorthCells.{same_or_not}

-- So many zeros
abbrev zeros_of : ℕ → List ℕ
zeros_of n = replicate n 0

-- ---- raising

pub raised_none : (Has : ℕ → ℕ → Type 0) (xs : List ℕ) → ((s n : ℕ) → Has s n → ⊥) → IsRaisedTo Has xs xs
raised_none Has xs none = record { count = refl; kept = λ s. omega arith; most = λ s n less has. absurd (none s n has); one = λ s. inl refl }

pub raised_more : (A B : ℕ → ℕ → Type 0) (xs ys zs : List ℕ) → IsRaisedTo A xs ys → IsRaisedTo B ys zs → IsRaisedTo (λ s n. A s n ⊎ B s n) xs zs
raised_more A B xs ys zs a b = record {
  count = b.count ∙ a.count;
  kept = λ s. omega (arith, a.kept s, b.kept s);
  most = λ s n less has. elim has [
    | inl p ↦ omega (arith, a.most s n less p, b.kept s)
    | inr q ↦ b.most s n (omega (arith, less, a.count)) q
  ];
  one = λ s. elim (b.one s) [
    | inl same ↦ elim (a.one s) [
      | inl also ↦ inl (same ∙ also)
      | inr p ↦ inr (inl (subst (A s) (sym same) p))
    ]
    | inr q ↦ inr (inr q)
  ];
}

pub raised_same : (A B : ℕ → ℕ → Type 0) (xs ys : List ℕ) → ((s n : ℕ) → A s n → B s n) → ((s n : ℕ) → B s n → A s n) → IsRaisedTo A xs ys → IsRaisedTo B xs ys
raised_same A B xs ys to back a = record {
  count = a.count;
  kept = a.kept;
  most = λ s n less has. a.most s n less (back s n has);
  one = λ s. elim (a.one s) [ inl same ↦ inl same | inr has ↦ inr (to s (get_or ys s 0) has) ];
}

pub raised_set : (xs : List ℕ) (stream delay : ℕ) → stream < length xs → get_or xs stream 0 < delay → IsRaisedTo (λ s n. (stream ≡ s) × (n ≡ delay)) xs (slice_set xs stream delay)
raised_set xs stream delay inside less =
    let here : get_or (slice_set xs stream delay) stream 0 ≡ delay = get_or-set_same xs stream delay 0 inside in
    record {
      count = length-set xs stream delay;
      kept = λ s. elim (same_or_not s stream) [
        | inl same ↦ (let there : get_or xs s 0 ≡ get_or xs stream 0 = ap (λ q. get_or xs q 0) same in
            let after : get_or (slice_set xs stream delay) s 0 ≡ delay = ap (λ q. get_or (slice_set xs stream delay) q 0) same ∙ here in omega (arith, there, after, less))
        | inr other ↦ (let still = get_or-set_other xs stream s delay 0 other in omega (arith, still))
      ];
      most = λ s n low (same, is). (let after : get_or (slice_set xs stream delay) s 0 ≡ delay = ap (λ q. get_or (slice_set xs stream delay) q 0) (sym same) ∙ here in omega (arith, is, after));
      one = λ s. elim (same_or_not s stream) [
        | inl same ↦ inr (sym same, ap (λ q. get_or (slice_set xs stream delay) q 0) same ∙ here)
        | inr other ↦ inl (get_or-set_other xs stream s delay 0 other)
      ];
    }

pub raised_kept : (xs : List ℕ) (stream delay : ℕ) → (stream < length xs → delay ≤ get_or xs stream 0) → IsRaisedTo (λ s n. (stream ≡ s) × (n ≡ delay)) xs xs
raised_kept xs stream delay low = record {
  count = refl;
  kept = λ s. omega arith;
  most = λ s n less (same, is). (let there : get_or xs stream 0 ≡ get_or xs s 0 = ap (λ q. get_or xs q 0) same in omega (arith, is, there, low (omega (arith, same, less))));
  one = λ s. inl refl;
}

same_instr : (a b : Instr) → Some a ≡ Some b → a ≡ b
same_instr a b e = cc

-- ---- delays on ways

part_delay : (unit : Whole) (i : Instr) (s n : ℕ) → HasPartDelay unit (part_of i) s n → (after clock : ℕ) × (i ≡ instr.Send s after clock) × (n ≡ delay_of unit (record { stream = s; after = after; clock = clock }))
part_delay unit (instr.Send own after clock) s n (same, is) = (after, clock, ap (λ o. instr.Send o after clock) same, is)
part_delay unit _ s n h = absurd h

zero_there : (n s : ℕ) → get_or (zeros_of n) s 0 ≡ 0
zero_there zero s = refl
zero_there (suc n) zero = refl
zero_there (suc n) (suc s) = zero_there n s

-- ---- of one instruction

pub raised_part : (unit : Whole) (p : Part) (stream after clock delay : ℕ) (xs ys : List ℕ) → p ≡ part.Sent stream after clock → delay ≡ (after + 1) * period_of unit clock - 1 → IsRaisedTo (λ s n. (stream ≡ s) × (n ≡ delay)) xs ys → IsRaisedTo (HasPartDelay unit p) xs ys
raised_part unit p stream after clock delay xs ys is told raised =
    subst (λ q. IsRaisedTo (HasPartDelay unit q) xs ys) (sym is) (subst (λ d. IsRaisedTo (λ s n. (stream ≡ s) × (n ≡ d)) xs ys) told raised)

no_delay : (unit : Whole) (p : Part) → ((stream after clock : ℕ) → p ≢ part.Sent stream after clock) → (s n : ℕ) → HasPartDelay unit p s n → ⊥
no_delay unit (part.Sent stream after clock) not s n has = not stream after clock refl
no_delay unit _ not s n has = has

pub raised_no_part : (unit : Whole) (p : Part) (xs : List ℕ) → ((stream after clock : ℕ) → p ≢ part.Sent stream after clock) → IsRaisedTo (HasPartDelay unit p) xs xs
raised_no_part unit p xs not = raised_none (HasPartDelay unit p) xs (no_delay unit p not)

module _ (unit : Whole) (instrs : List Instr) (row : List ℕ) where
  pub raised_there : (place : ℕ) (i : Instr) (xs ys : List ℕ) → slice_get instrs place ≡ Some i → HasBitAt row place 0 → IsRaisedTo (HasPartDelay unit (part_of i)) xs ys → IsRaisedTo (HasDelayThere unit instrs row place) xs ys
  raised_there place i xs ys at some raised =
      raised_same (HasPartDelay unit (part_of i)) (HasDelayThere unit instrs row place) xs ys
      (λ s n has. (i, at, some, has))
      (λ s n (j, also, full, has). (let same : j ≡ i = same_instr j i (sym also ∙ at) in subst (λ k. HasPartDelay unit (part_of k) s n) same has))
      raised

  pub raised_not_there : (place : ℕ) (xs : List ℕ) → (HasBitAt row place 0 → ⊥) → IsRaisedTo (HasDelayThere unit instrs row place) xs xs
  raised_not_there place xs none = raised_none (HasDelayThere unit instrs row place) xs (λ s n (j, also, full, has). none full)

  pub among_none : (xs : List ℕ) → IsRaisedTo (HasDelayAmong unit instrs row []) xs xs
  among_none xs = raised_none (HasDelayAmong unit instrs row []) xs (λ s n (place, has, there). omega (arith, has.1))

  pub among_more : (places : List ℕ) (k : ℕ) (xs ys zs : List ℕ) → k < length places → IsRaisedTo (HasDelayAmong unit instrs row (take k places)) xs ys → IsRaisedTo (HasDelayThere unit instrs row (get_or places k 0)) ys zs → IsRaisedTo (HasDelayAmong unit instrs row (take (k + 1) places)) xs zs
  among_more places k xs ys zs less a b =
      let last = get_or places k 0 in
      let more : take (k + 1) places ≡ take k places ++ last ∷ [] = take_more places k 0 less in
      subst (λ ps. IsRaisedTo (HasDelayAmong unit instrs row ps) xs zs) (sym more)
      (raised_same (λ s n. HasDelayAmong unit instrs row (take k places) s n ⊎ HasDelayThere unit instrs row last s n) (HasDelayAmong unit instrs row (take k places ++ last ∷ [])) xs zs
      (λ s n has. elim has [
        | inl (place, inside, there) ↦ (place, Contains-append_left (take k places) (last ∷ []) place inside, there)
        | inr there ↦ (last, Contains-push (take k places) last, there)
      ])
      (λ s n (place, inside, there). elim (Contains-push_cases (take k places) last place inside) [
        | inl before ↦ inl (place, before, there)
        | inr is ↦ inr (subst (λ p. HasDelayThere unit instrs row p s n) (sym is) there)
      ])
      (raised_more (HasDelayAmong unit instrs row (take k places)) (HasDelayThere unit instrs row last) xs ys zs a b))

-- ---- of a program's code

module _ (unit : Whole) (code : Code) (walk : CanWalk unit code) (endings starts places : List ℕ) (are : AreEndings code.instrs endings) (begun : AreStarts code starts) (passed : ArePassedFrom code.instrs starts places) where
  to_code : (s n : ℕ) → HasDelayAmong unit code.instrs endings places s n → HasCodeDelay unit code s n
  to_code s n (place, inside, (i, at, bit, has)) =
      let (after, clock, same, is) = part_delay unit i s n has in
      let (start, among, on) = (passed.each place).0 inside in
      let (agent, less, (point, low, there)) = (begun start).0 among in
      let (end, rest, way) = (are.each place).0 bit in
      let (all, through, holds) = way_front code.instrs start place end place rest on way (begins code.instrs place end rest way) in
      let on_way : IsOnWay code.instrs start (instr.Send s after clock) = (end, place, all, through, holds, at ∙ ap Some same) in
      (agent, point, after, clock, omega (arith, less, walk.agents), omega (arith, low, same_points unit code walk agent less), subst (λ p. IsOnWay code.instrs p (instr.Send s after clock)) there on_way, is)

  of_code : (s n : ℕ) → HasCodeDelay unit code s n → HasDelayAmong unit code.instrs endings places s n
  of_code s n (agent, point, after, clock, less, low, (end, place, all, way, holds, at), is) =
      let start = place_of code agent point in
      let own : agent < length code.agents = omega (arith, less, walk.agents) in
      let (on, behind) = way_rest code.instrs end start place all way holds in
      let among = (begun start).1 (agent, own, (point, omega (arith, low, same_points unit code walk agent own), refl)) in
      (place, (passed.each place).1 (start, among, on), (instr.Send s after clock, at, (are.each place).1 (end, behind.0, behind.1), (refl, is)))

  -- From zeros on, those of all agents
  pub delays_are : (xs : List ℕ) → IsRaisedTo (HasDelayAmong unit code.instrs endings places) (replicate (length unit.streams) 0) xs → AreCodeDelays unit code xs
  delays_are xs raised = record {
    count = raised.count ∙ length-replicate (length unit.streams) 0;
    each = λ stream delay at. record {
      one = elim (raised.one stream) [
        | inl same ↦ inl (omega (arith, get_or_from_slice_get xs stream delay 0 at, same, zero_there (length unit.streams) stream))
        | inr has ↦ inr (subst (HasCodeDelay unit code stream) (get_or_from_slice_get xs stream delay 0 at) (to_code stream (get_or xs stream 0) has))
      ];
      all = λ n has. (
          let less = slice_get_within xs stream delay at in
          omega (arith, get_or_from_slice_get xs stream delay 0 at, raised.most stream n (omega (arith, less, raised.count)) (of_code stream n has)));
    };
  }

-- Each place that ways from the points pass lies in the code.
pub starts_stay : (unit : Whole) (code : Code) (walk : CanWalk unit code) (starts : List ℕ) → AreStarts code starts → AllStayIn code.instrs starts
starts_stay unit code walk starts begun place (start, among, on) =
    let (agent, less, (point, low, there)) = (begun start).0 among in
    walk.inside agent point place (agent_at unit agent) (slice_get-get_or unit.agents agent no_agent (omega (arith, less, walk.agents)))
    (omega (arith, low, same_points unit code walk agent less)) (subst (λ p. IsPassed code.instrs p place) there on)
