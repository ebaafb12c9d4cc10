-- One place more is met on the ways through code, and when all are.
use Rattle.std.proofs.Common.{◌≡◌, ◌⊎◌, ℕ, zero, suc, ◌+◌, ◌<◌, ◌≤◌, Bool, true, false, List, [], ◌∷◌, ◌++◌, length, length-append, get_or, append_assoc, Some, refl, sym, ap, subst, ◌∙◌, inl, inr, arith}
use Rattle.std.specs.Prelude.{slice_get, slice_set, replicate}
use Rattle.std.specs.List.{Contains}
use Rattle.std.proofs.lemmas.Bool.{cases_lt, false≢true}
use Rattle.std.proofs.lemmas.List.{get_or_append_left, get_or_default}
use Rattle.std.proofs.lemmas.List.Elements.{Contains-append_left, Contains-get_or, Contains-push, Contains-push_cases}
use Rattle.std.proofs.lemmas.Option.{none-some, same_Some, slice_get_within}
use Rattle.psy_code.specs.declared.instr.Instr.{Instr}
use Rattle.psy_meaning.specs.CodeWays.{GoesOn, IsPassed, first, later}
use Rattle.psy_judge.specs.Walked.{AreMet, ArePassedFrom, IsGrown, IsMarkedAt, IsMetFrom, IsPassedFrom, MayFollow, onward_of, unmarked}
use Rattle.psy_judge.proofs.OnwardOf.{IsOneOf, goes_if, one_of}

-- ---- marks

pub length-marked : (marks : List Bool) (p : ℕ) → length (slice_set marks p true) ≡ length marks
length-marked [] p = refl
length-marked (m ∷ marks) zero = refl
length-marked (m ∷ marks) (suc p) = omega (arith, length-marked marks p)

unmarked_set : (marks : List Bool) (p : ℕ) → slice_get marks p ≡ Some false → suc (unmarked (slice_set marks p true)) ≡ unmarked marks
unmarked_set [] p e = absurd (none-some false e)
unmarked_set (true ∷ marks) zero e = absurd (false≢true (sym (same_Some true false e)))
unmarked_set (false ∷ marks) zero e = refl
unmarked_set (true ∷ marks) (suc p) e = unmarked_set marks p e
unmarked_set (false ∷ marks) (suc p) e = ap suc (unmarked_set marks p e)

marked_there : (marks : List Bool) (p : ℕ) → p < length marks → IsMarkedAt (slice_set marks p true) p
marked_there [] p less = absurd (omega (arith, less))
marked_there (m ∷ marks) zero less = refl
marked_there (m ∷ marks) (suc p) less = marked_there marks p (omega (arith, less))

marked_still : (marks : List Bool) (p q : ℕ) → IsMarkedAt marks q → IsMarkedAt (slice_set marks p true) q
marked_still [] p q h = absurd (none-some true h)
marked_still (m ∷ marks) zero zero h = refl
marked_still (m ∷ marks) zero (suc q) h = h
marked_still (m ∷ marks) (suc p) zero h = h
marked_still (m ∷ marks) (suc p) (suc q) h = marked_still marks p q h

marked_before : (marks : List Bool) (p q : ℕ) → IsMarkedAt (slice_set marks p true) q → (p ≡ q) ⊎ IsMarkedAt marks q
marked_before [] p q h = absurd (none-some true h)
marked_before (m ∷ marks) zero zero h = inl refl
marked_before (m ∷ marks) zero (suc q) h = inr h
marked_before (m ∷ marks) (suc p) zero h = inr h
marked_before (m ∷ marks) (suc p) (suc q) h = elim (marked_before marks p q h) [ inl e ↦ inl (ap suc e) | inr k ↦ inr k ]

unmarked_all : (n : ℕ) → unmarked (replicate n false) ≡ n
unmarked_all zero = refl
unmarked_all (suc n) = ap suc (unmarked_all n)

none_marked : (n p : ℕ) → IsMarkedAt (replicate n false) p → ⊥
none_marked zero p h = none-some true h
none_marked (suc n) zero h = false≢true (same_Some false true h)
none_marked (suc n) (suc p) h = none_marked n p h

length_none : (n : ℕ) → length (replicate n false) ≡ n
length_none zero = refl
length_none (suc n) = omega (arith, length_none n)

-- ---- growing

pub grown_none : (places : List ℕ) → IsGrown places places
grown_none places = ([], sym (nil places))
  where
    nil : (xs : List ℕ) → xs ++ [] ≡ xs
    nil [] = refl
    nil (x ∷ xs) = ap (λ ys. x ∷ ys) (nil xs)

pub grown_on : (a b c : List ℕ) → IsGrown a b → IsGrown b c → IsGrown a c
grown_on a b c (more, is) (rest, also) = (more ++ rest, also ∙ ap (λ xs. xs ++ rest) is ∙ append_assoc a more rest)

pub grown_length : (a b : List ℕ) → IsGrown a b → length a ≤ length b
grown_length a b (more, is) = omega (arith, ap length is, length-append a more)

pub grown_has : (a b : List ℕ) (p : ℕ) → IsGrown a b → Contains a p → Contains b p
grown_has a b p (more, is) has = subst (λ xs. Contains xs p) (sym is) (Contains-append_left a more p has)

-- ---- places met

module _ (instrs : List Instr) (starts : List ℕ) where
  pub met_none : AreMet instrs starts (replicate (length instrs) false) []
  met_none = record {
    count = length_none (length instrs);
    room = omega (arith, unmarked_all (length instrs));
    listed = λ place h. absurd (none_marked (length instrs) place h);
    marked = λ place c. absurd (omega (arith, c.1));
    passed = λ place c. absurd (omega (arith, c.1));
  }

  pub met_more : (marks : List Bool) (places : List ℕ) (place : ℕ) → AreMet instrs starts marks places → slice_get marks place ≡ Some false → IsMetFrom instrs starts place → AreMet instrs starts (slice_set marks place true) (places ++ place ∷ [])
  met_more marks places place met new passed = record {
    count = omega (arith, met.count, length-marked marks place);
    room = omega (arith, met.room, unmarked_set marks place new, length-append places (place ∷ []));
    listed = λ q h. elim (marked_before marks place q h) [
      | inl e ↦ subst (Contains (places ++ place ∷ [])) e (Contains-push places place)
      | inr k ↦ Contains-append_left places (place ∷ []) q (met.listed q k)
    ];
    marked = λ q c. elim (Contains-push_cases places place q c) [
      | inl before ↦ marked_still marks place q (met.marked q before)
      | inr e ↦ subst (IsMarkedAt (slice_set marks place true)) e (marked_there marks place (slice_get_within marks place false new))
    ];
    passed = λ q c. elim (Contains-push_cases places place q c) [
      | inl before ↦ met.passed q before
      | inr e ↦ subst (IsMetFrom instrs starts) e passed
    ];
  }

  -- Each place up to this one in the list was followed.
  abbrev pub Done : List ℕ → ℕ → Type 0
  Done places at = (k : ℕ) → k < at → k < length places → MayFollow instrs places (get_or places k 0)

  follow_grown : (a b : List ℕ) (place : ℕ) → IsGrown a b → MayFollow instrs a place → MayFollow instrs b place
  follow_grown a b place grown may next i at goes within = grown_has a b next grown (may next i at goes within)

  pub done_none : (places : List ℕ) → Done places 0
  done_none places k less inside = absurd (omega (arith, less))

  -- One place more was followed.
  pub done_more : (a b : List ℕ) (at : ℕ) → Done a at → at < length a → IsGrown a b → MayFollow instrs b (get_or a at 0) → Done b (at + 1)
  done_more a b at done there (more, is) may k less inside =
      let still : (j : ℕ) → j < length a → get_or b j 0 ≡ get_or a j 0 = λ j low. ap (λ xs. get_or xs j 0) is ∙ get_or_append_left a more 0 j low in
      elim (cases_lt k at) [
        | inl before ↦ (let low : k < length a = omega (arith, before, there) in
            subst (MayFollow instrs b) (sym (still k low)) (follow_grown a b (get_or a k 0) (more, is) (done k before low)))
        | inr not ↦ (let same : at ≡ k = omega (arith, not, less) in
            subst (λ j. MayFollow instrs b (get_or b j 0)) same (subst (MayFollow instrs b) (sym (still at there)) may))
      ]

  pub place_in : (places : List ℕ) (at : ℕ) → at < length places → Contains places (get_or places at 0)
  place_in places at less = Contains-get_or places at 0 less

  -- ---- all of them

  all_followed : (places : List ℕ) → Done places (length places) → (place : ℕ) → Contains places place → MayFollow instrs places place
  all_followed places done place (k, less, is) =
      let here : get_or places k 0 ≡ place = get_or_default places k 0 place less ∙ is in
      subst (MayFollow instrs places) here (done k less less)

  met_from : (places : List ℕ) → Done places (length places) → (start : ℕ) → (start < length instrs → Contains places start) → (place : ℕ) → IsPassed instrs start place → place < length instrs → Contains places place
  met_from places done start begun place first within = begun within
  met_from places done start begun place (later before next i passed at goes) within =
      all_followed places done before (met_from places done start begun before passed (slice_get_within instrs before i at)) place i at goes within

  pub passed_all : (marks : List Bool) (places : List ℕ) → AreMet instrs starts marks places → ((start : ℕ) → Contains starts start → start < length instrs → Contains places start) → Done places (length places) → ArePassedFrom instrs starts places
  passed_all marks places met begun done = record {
    each = λ place. ((λ c. met.passed place c), (λ (within, (start, has, passed)). met_from places done start (begun start has) place passed within));
  }

-- ---- marks taken away

-- What is still marked when so many of the places aren't any more
pub record AreLeft (before marks : List Bool) (places : List ℕ) (done : ℕ) : Type 0 where
  pub count : length marks ≡ length before
  pub left : (place : ℕ) → IsMarkedAt marks place → (k : ℕ) × (done ≤ k) × (k < length places) × (get_or places k 0 ≡ place)

pub left_all : (marks : List Bool) (places : List ℕ) → ((place : ℕ) → IsMarkedAt marks place → Contains places place) → AreLeft marks marks places 0
left_all marks places listed = record {
  count = refl;
  left = λ place m. (let (k, less, is) = listed place m in (k, omega arith, less, get_or_default places k 0 place less ∙ is));
}

length-unmarked : (marks : List Bool) (p : ℕ) → length (slice_set marks p false) ≡ length marks
length-unmarked [] p = refl
length-unmarked (m ∷ marks) zero = refl
length-unmarked (m ∷ marks) (suc p) = omega (arith, length-unmarked marks p)

-- Where a mark is taken away, another stood before.
marked_other : (marks : List Bool) (p q : ℕ) → IsMarkedAt (slice_set marks p false) q → IsMarkedAt marks q × (p ≡ q → ⊥)
marked_other [] p q h = absurd (none-some true h)
marked_other (m ∷ marks) zero zero h = absurd (false≢true (same_Some false true h))
marked_other (m ∷ marks) zero (suc q) h = (h, λ e. omega (arith, e))
marked_other (m ∷ marks) (suc p) zero h = (h, λ e. omega (arith, e))
marked_other (m ∷ marks) (suc p) (suc q) h = let (was, other) = marked_other marks p q h in (was, λ e. other (omega (arith, e)))

pub left_less : (before marks : List Bool) (places : List ℕ) (k : ℕ) → get_or places k 0 < length marks → AreLeft before marks places k → AreLeft before (slice_set marks (get_or places k 0) false) places (k + 1)
left_less before marks places k inside kept = record {
  count = length-unmarked marks (get_or places k 0) ∙ kept.count;
  left = λ place m. (
      let (was, other) = marked_other marks (get_or places k 0) place m in
      let (j, low, less, is) = kept.left place was in
      elim (cases_lt k j) [
        | inl above ↦ (j, omega (arith, above), less, is)
        | inr not ↦ (let same : k ≡ j = omega (arith, low, not) in absurd (other (ap (λ n. get_or places n 0) same ∙ is)))
      ]);
}

no_mark : (marks : List Bool) → ((place : ℕ) → IsMarkedAt marks place → ⊥) → marks ≡ replicate (length marks) false
no_mark [] none = refl
no_mark (true ∷ marks) none = absurd (none 0 refl)
no_mark (false ∷ marks) none = ap (λ ms. false ∷ ms) (no_mark marks (λ place m. none (suc place) m))

pub left_none : (before marks : List Bool) (places : List ℕ) (done : ℕ) → length places ≤ done → AreLeft before marks places done → marks ≡ replicate (length before) false
left_none before marks places done all kept =
    no_mark marks (λ place m. (let (k, low, less, is) = kept.left place m in omega (arith, low, less, all))) ∙ ap (λ n. replicate n false) kept.count

-- ---- after one instruction

-- Where a way may go on after an instruction that is passed, it passes.
pub onward_passed : (instrs : List Instr) (starts : List ℕ) (place : ℕ) (i : Instr) → IsPassedFrom instrs starts place → slice_get instrs place ≡ Some i → (next : ℕ) → IsOneOf next i place → IsPassedFrom instrs starts next
onward_passed instrs starts place i (start, has, passed) at next one = (start, has, later place next i passed at (goes_if i place next one))

pub followed : (instrs : List Instr) (place : ℕ) (i : Instr) (places : List ℕ) → slice_get instrs place ≡ Some i → ((p : ℕ) → Some p ≡ (onward_of i place).next → p < length instrs → Contains places p) → ((p : ℕ) → Some p ≡ (onward_of i place).jump → p < length instrs → Contains places p) → MayFollow instrs places place
followed instrs place i places at nexts jumps next j also goes within =
    let same : j ≡ i = same_Some j i (sym also ∙ at) in
    elim (one_of i place next (subst (λ k. GoesOn k place next) same goes)) [ inl e ↦ nexts next e within | inr e ↦ jumps next e within ]
