-- What one more line adds to what the lines before it tell.
use Rattle.std.proofs.Common.{◌≡◌, ◌≢◌, ◌∙◌, refl, sym, ap, ℕ, zero, suc, ◌+◌, ◌^◌, ◌<◌, ◌≤◌, ◌==◌, Bool, true, false, cond, not, ◌||◌, List, [], ◌∷◌, ◌++◌, map, length, get_or, filter, Option, Some, None, inl, inr, append-nil, length-append, arith}
use Rattle.std.proofs.Math.ListN.{set}
use Rattle.std.specs.List.{flat_map, list_any, range_with_len}
use Rattle.std.proofs.lemmas.Bool.{cases_Bool, cases_lt, eq-eqb, ne_eqb, or_parts}
use Rattle.std.proofs.lemmas.List.{get_or_past}
use Rattle.std.proofs.lemmas.List.Concat.{flat_map-append}
use Rattle.std.proofs.lemmas.List.Elements.{filter-append}
use Rattle.std.proofs.lemmas.List.Folds.{list_any-append}
use Rattle.std.proofs.lemmas.List.FromFn.{get_or-map-range_with_len, length-map-range_with_len}
use Rattle.std.proofs.lemmas.List.Sums.{take_while-cons}
use Rattle.psy_lists.proofs.lemmas.Searches.{filter_less}
use Rattle.psy_audit.specs.declared.said.Act.{Act}
use Rattle.psy_audit.specs.declared.said.Publication.{Publication}
use Rattle.psy_audit.specs.declared.said.Said.{Said}
use Rattle.psy_audit.specs.declared.said.Said.TheVariants.{Acted, Published, Served, Looked, Ended}
use Rattle.psy_audit.specs.declared.said.Segment.{Segment}
use Rattle.psy_audit.specs.Traces.{Lines, act_in, acts, acts_of, body, is_end, last_of, look_in, looks, publication_in, publications, publications_of, segment_in, segments}
use Rattle.psy_audit.specs.Turns.{past_of, past_on}

-- ---- the body

-- Lines none of which ends the trace all count.
pub body_open : (before : Lines) → list_any is_end before ≡ false → body before ≡ before
body_open [] still = refl
body_open (line ∷ before) still =
    let parts = or_parts (is_end line) (list_any is_end before) still in
    take_while-cons (λ l. not (is_end l)) line before ∙ ap (λ b. cond (not b) (line ∷ body before) []) parts.0 ∙ ap (λ ls. line ∷ ls) (body_open before parts.1)

-- So does one more, where it doesn't end the trace either.
pub body_more : (before : Lines) (line : Option Said) → list_any is_end before ≡ false → body (before ++ line ∷ []) ≡ before ++ body (line ∷ [])
body_more [] line still = refl
body_more (first ∷ before) line still =
    let parts = or_parts (is_end first) (list_any is_end before) still in
    take_while-cons (λ l. not (is_end l)) first (before ++ line ∷ []) ∙ ap (λ b. cond (not b) (first ∷ body (before ++ line ∷ [])) []) parts.0
    ∙ ap (λ ls. first ∷ ls) (body_more before line parts.1)

-- The lines before the first that ends the trace are its body.
pub body_before : (before rest : Lines) → list_any is_end before ≡ false → body (before ++ Some Ended ∷ rest) ≡ before
body_before [] rest still = take_while-cons (λ l. not (is_end l)) (Some Ended) rest
body_before (first ∷ before) rest still =
    let parts = or_parts (is_end first) (list_any is_end before) still in
    take_while-cons (λ l. not (is_end l)) first (before ++ Some Ended ∷ rest) ∙ ap (λ b. cond (not b) (first ∷ body (before ++ Some Ended ∷ rest)) []) parts.0
    ∙ ap (λ ls. first ∷ ls) (body_before before rest parts.1)

-- What counts of what counts is the same.
body_twice : (lines : Lines) → body (body lines) ≡ body lines
body_twice [] = refl
body_twice (line ∷ lines) =
    let step = take_while-cons (λ l. not (is_end l)) line lines in
    elim (cases_Bool (is_end line)) [
      | inl ends ↦ (let none : body (line ∷ lines) ≡ [] = step ∙ ap (λ b. cond (not b) (line ∷ body lines) []) ends in ap body none ∙ sym none)
      | inr more ↦ (let whole : body (line ∷ lines) ≡ line ∷ body lines = step ∙ ap (λ b. cond (not b) (line ∷ body lines) []) more in
          ap body whole ∙ take_while-cons (λ l. not (is_end l)) line (body lines) ∙ ap (λ b. cond (not b) (line ∷ body (body lines)) []) more
          ∙ ap (λ ls. line ∷ ls) (body_twice lines) ∙ sym whole)
    ]

-- So it tells of the same stretches.
pub same_segments : (lines all : Lines) → body all ≡ lines → segments lines ≡ segments all
same_segments lines all whole = ap segments (sym whole) ∙ ap (flat_map segment_in) (body_twice all)

module _ {X : Type 0} (f : Option Said → List X) (none : f (Some Ended) ≡ []) where
  alone : (line : Option Said) → is_end line ≡ false → flat_map f (body (line ∷ [])) ≡ f line
  alone line still =
      ap (flat_map f) (take_while-cons (λ l. not (is_end l)) line [] ∙ ap (λ b. cond (not b) (line ∷ body []) []) still) ∙ append-nil (f line)

  one : (line : Option Said) → flat_map f (body (line ∷ [])) ≡ f line
  one None = alone None refl
  one (Some (Acted a)) = alone (Some (Acted a)) refl
  one (Some (Published p)) = alone (Some (Published p)) refl
  one (Some (Served s)) = alone (Some (Served s)) refl
  one (Some (Looked l)) = alone (Some (Looked l)) refl
  one (Some Ended) = ap (flat_map f) (take_while-cons (λ l. not (is_end l)) (Some Ended) []) ∙ sym none

  -- What one more line tells of comes last.
  pub found_more : (before : Lines) (line : Option Said) → list_any is_end before ≡ false → flat_map f (body (before ++ line ∷ [])) ≡ flat_map f (body before) ++ f line
  found_more before line still =
      ap (flat_map f) (body_more before line still) ∙ flat_map-append f before (body (line ∷ []))
      ∙ ap (λ xs. flat_map f before ++ xs) (one line) ∙ ap (λ ls. flat_map f ls ++ f line) (sym (body_open before still))

-- ---- the last

pub last_more : {X : Type 0} (xs : List X) (x : X) → last_of (xs ++ x ∷ []) ≡ Some x
last_more [] x = refl
last_more (y ∷ []) x = refl
last_more (y ∷ z ∷ xs) x = last_more (z ∷ xs) x

-- One more, which is of this sort or isn't
pub kept_more : {X : Type 0} (p : X → Bool) (xs : List X) (x : X) → p x ≡ true → filter p (xs ++ x ∷ []) ≡ filter p xs ++ x ∷ []
kept_more p xs x is = filter-append p xs (x ∷ []) ∙ ap (λ b. filter p xs ++ cond b (x ∷ []) []) is

pub kept_same : {X : Type 0} (p : X → Bool) (xs : List X) (x : X) → p x ≡ false → filter p (xs ++ x ∷ []) ≡ filter p xs
kept_same p xs x other = filter-append p xs (x ∷ []) ∙ ap (λ b. filter p xs ++ cond b (x ∷ []) []) other ∙ append-nil (filter p xs)

-- One more ends the trace just where it does itself.
pub ended_more : (before : Lines) (line : Option Said) → list_any is_end before ≡ false → list_any is_end (before ++ line ∷ []) ≡ is_end line
ended_more before line still = list_any-append is_end before (line ∷ []) ∙ ap (λ b. b || (is_end line || false)) still ∙ or_none (is_end line)
  where
    or_none : (b : Bool) → (b || false) ≡ b
    or_none true = refl
    or_none false = refl

-- ---- tables

module _ {X : Type 0} (f g : ℕ → X) where
  pub map_same : (a n : ℕ) → ((k : ℕ) → a ≤ k → f k ≡ g k) → map f (range_with_len a n) ≡ map g (range_with_len a n)
  map_same a zero same = refl
  map_same a (suc n) same =
      ap (λ x. x ∷ map f (range_with_len (a + 1) n)) (same a (omega arith))
      ∙ ap (λ xs. g a ∷ xs) (map_same (a + 1) n (λ k l. same k (omega (arith, l))))

  -- A table of which one place changes
  pub put_at : (x : X) (a n i j : ℕ) → j ≡ a + i → ((k : ℕ) → k ≢ j → f k ≡ g k) → (i < n → x ≡ g j) → set (map f (range_with_len a n)) i x ≡ map g (range_with_len a n)
  put_at x a zero i j at same is = refl
  put_at x a (suc n) zero j at same is =
      let here : j ≡ a = omega (arith, at) in
      ap (λ y. y ∷ map f (range_with_len (a + 1) n)) (is (omega arith) ∙ ap g here)
      ∙ ap (λ xs. g a ∷ xs) (map_same (a + 1) n (λ k l. same k (λ e. absurd (omega (arith, e, here, l)))))
  put_at x a (suc n) (suc i) j at same is =
      ap (λ y. y ∷ set (map f (range_with_len (a + 1) n)) i x) (same a (λ e. absurd (omega (arith, e, at))))
      ∙ ap (λ xs. g a ∷ xs) (put_at x (a + 1) n i j (omega (arith, at)) same (λ l. is (omega (arith, l))))

-- ---- how many there are

-- Lines tell of no more than they are.
flat_few : {X Y : Type 0} (f : X → List Y) (xs : List X) → ((x : X) → length (f x) ≤ 1) → length (flat_map f xs) ≤ length xs
flat_few f [] one = omega arith
flat_few f (x ∷ xs) one =
    let first = one x in
    let rest = flat_few f xs one in
    let sum = length-append (f x) (flat_map f xs) in
    omega (arith, first, rest, sum)

body_few : (lines : Lines) → length (body lines) ≤ length lines
body_few [] = omega arith
body_few (line ∷ lines) =
    let rest = body_few lines in
    let step = take_while-cons (λ l. not (is_end l)) line lines in
    elim (cases_Bool (is_end line)) [
      | inl ends ↦ (let none : body (line ∷ lines) ≡ [] = step ∙ ap (λ b. cond (not b) (line ∷ body lines) []) ends in omega (arith, ap length none))
      | inr none ↦ (let more : body (line ∷ lines) ≡ line ∷ body lines = step ∙ ap (λ b. cond (not b) (line ∷ body lines) []) none in omega (arith, ap length more, rest))
    ]

pub found_few : {X : Type 0} (f : Option Said → List X) (lines : Lines) → ((line : Option Said) → length (f line) ≤ 1) → length (flat_map f (body lines)) ≤ length lines
found_few f lines one = let whole = body_few lines in let part = flat_few f (body lines) one in omega (arith, whole, part)

one_act : (line : Option Said) → length (act_in line) ≤ 1
one_act None = omega arith
one_act (Some (Acted a)) = omega arith
one_act (Some (Published p)) = omega arith
one_act (Some (Served s)) = omega arith
one_act (Some (Looked l)) = omega arith
one_act (Some Ended) = omega arith

one_publication : (line : Option Said) → length (publication_in line) ≤ 1
one_publication None = omega arith
one_publication (Some (Acted a)) = omega arith
one_publication (Some (Published p)) = omega arith
one_publication (Some (Served s)) = omega arith
one_publication (Some (Looked l)) = omega arith
one_publication (Some Ended) = omega arith

one_look : (line : Option Said) → length (look_in line) ≤ 1
one_look None = omega arith
one_look (Some (Acted a)) = omega arith
one_look (Some (Published p)) = omega arith
one_look (Some (Served s)) = omega arith
one_look (Some (Looked l)) = omega arith
one_look (Some Ended) = omega arith

pub acts_few : (lines : Lines) → length (acts lines) ≤ length lines
acts_few lines = found_few act_in lines one_act

pub looks_few : (lines : Lines) → length (looks lines) ≤ length lines
looks_few lines = found_few look_in lines one_look

pub publications_few : (variable : ℕ) (lines : Lines) → length (publications_of variable lines) ≤ length lines
publications_few variable lines =
    let all = found_few publication_in lines one_publication in
    let kept = filter_less (λ (p : Publication). p.variable == variable) (publications lines) in
    omega (arith, all, kept)

-- ---- what is kept of the lines before, with one more

module _ (n : ℕ) (before : Lines) (still : list_any is_end before ≡ false) where
  -- an action
  pub act_noted : (line : Option Said) (a : Act) → act_in line ≡ a ∷ [] → set (map (λ agent. last_of (acts_of agent before)) (range_with_len 0 n)) a.agent (Some a)
      ≡ map (λ agent. last_of (acts_of agent (before ++ line ∷ []))) (range_with_len 0 n)
  act_noted line a is =
      let more : acts (before ++ line ∷ []) ≡ acts before ++ a ∷ [] = found_more act_in refl before line still ∙ ap (λ xs. acts before ++ xs) is in
      put_at (λ agent. last_of (acts_of agent before)) (λ agent. last_of (acts_of agent (before ++ line ∷ []))) (Some a) 0 n a.agent a.agent (omega arith)
      (λ k other. sym (ap (λ xs. last_of (filter (λ (x : Act). x.agent == k) xs)) more
      ∙ ap last_of (kept_same (λ (x : Act). x.agent == k) (acts before) a (ne_eqb a.agent k (λ e. other (sym e))))))
      (λ l. sym (ap (λ xs. last_of (filter (λ (x : Act). x.agent == a.agent) xs)) more
      ∙ ap last_of (kept_more (λ (x : Act). x.agent == a.agent) (acts before) a (eq-eqb a.agent a.agent refl))
      ∙ last_more (filter (λ (x : Act). x.agent == a.agent) (acts before)) a))

  pub no_act_noted : (line : Option Said) → act_in line ≡ [] → map (λ agent. last_of (acts_of agent before)) (range_with_len 0 n)
      ≡ map (λ agent. last_of (acts_of agent (before ++ line ∷ []))) (range_with_len 0 n)
  no_act_noted line none =
      let same : acts (before ++ line ∷ []) ≡ acts before = found_more act_in refl before line still ∙ ap (λ xs. acts before ++ xs) none ∙ append-nil (acts before) in
      ap (λ xs. map (λ agent. last_of (filter (λ (x : Act). x.agent == agent) xs)) (range_with_len 0 n)) (sym same)

  -- a publication
  pub publication_noted : (line : Option Said) (p : Publication) → publication_in line ≡ p ∷ [] → set (map (λ variable. length (publications_of variable before)) (range_with_len 0 n)) p.variable
      (get_or (map (λ variable. length (publications_of variable before)) (range_with_len 0 n)) p.variable 0 + 1)
      ≡ map (λ variable. length (publications_of variable (before ++ line ∷ []))) (range_with_len 0 n)
  publication_noted line p is =
      let f = λ (variable : ℕ). length (publications_of variable before) in
      let more : publications (before ++ line ∷ []) ≡ publications before ++ p ∷ [] = found_more publication_in refl before line still ∙ ap (λ xs. publications before ++ xs) is in
      put_at f (λ variable. length (publications_of variable (before ++ line ∷ []))) (get_or (map f (range_with_len 0 n)) p.variable 0 + 1) 0 n p.variable p.variable (omega arith)
      (λ k other. sym (ap (λ xs. length (filter (λ (x : Publication). x.variable == k) xs)) more
      ∙ ap length (kept_same (λ (x : Publication). x.variable == k) (publications before) p (ne_eqb p.variable k (λ e. other (sym e))))))
      (λ l. ap (λ m. m + 1) (get_or-map-range_with_len f 0 n p.variable p.variable 0 l (omega arith))
      ∙ sym (ap (λ xs. length (filter (λ (x : Publication). x.variable == p.variable) xs)) more
      ∙ ap length (kept_more (λ (x : Publication). x.variable == p.variable) (publications before) p (eq-eqb p.variable p.variable refl))
      ∙ length-append (filter (λ (x : Publication). x.variable == p.variable) (publications before)) (p ∷ [])))

  pub no_publication_noted : (line : Option Said) → publication_in line ≡ [] → map (λ variable. length (publications_of variable before)) (range_with_len 0 n)
      ≡ map (λ variable. length (publications_of variable (before ++ line ∷ []))) (range_with_len 0 n)
  no_publication_noted line none =
      let same : publications (before ++ line ∷ []) ≡ publications before =
      found_more publication_in refl before line still ∙ ap (λ xs. publications before ++ xs) none ∙ append-nil (publications before) in
      ap (λ xs. map (λ variable. length (filter (λ (x : Publication). x.variable == variable) xs)) (range_with_len 0 n)) (sym same)

  -- How many publications a variable had is a number that can be counted on.
  pub number_few : (variable : ℕ) → length before < 2 ^ 63 → get_or (map (λ v. length (publications_of v before)) (range_with_len 0 n)) variable 0 < 2 ^ 63
  number_few variable few = elim (cases_lt variable n) [
    | inl l ↦ (let is = get_or-map-range_with_len (λ v. length (publications_of v before)) 0 n variable variable 0 l (omega arith) in
        let less = publications_few variable before in omega (arith, is, less, few))
    | inr past ↦ (let is = get_or_past (map (λ v. length (publications_of v before)) (range_with_len 0 n)) variable 0
        (omega (arith, past, length-map-range_with_len (λ v. length (publications_of v before)) 0 n)) in omega (arith, is))
  ]

  -- a stretch
  pub past_noted : (line : Option Said) (s : Segment) → segment_in line ≡ s ∷ [] → set (map (λ processor. past_on processor before) (range_with_len 0 n)) s.processor s.past
      ≡ map (λ processor. past_on processor (before ++ line ∷ [])) (range_with_len 0 n)
  past_noted line s is =
      let more : segments (before ++ line ∷ []) ≡ segments before ++ s ∷ [] = found_more segment_in refl before line still ∙ ap (λ xs. segments before ++ xs) is in
      put_at (λ processor. past_on processor before) (λ processor. past_on processor (before ++ line ∷ [])) s.past 0 n s.processor s.processor (omega arith)
      (λ k other. sym (ap (λ xs. past_of (last_of (filter (λ (x : Segment). x.processor == k) xs))) more
      ∙ ap (λ xs. past_of (last_of xs)) (kept_same (λ (x : Segment). x.processor == k) (segments before) s (ne_eqb s.processor k (λ e. other (sym e))))))
      (λ l. sym (ap (λ xs. past_of (last_of (filter (λ (x : Segment). x.processor == s.processor) xs))) more
      ∙ ap (λ xs. past_of (last_of xs)) (kept_more (λ (x : Segment). x.processor == s.processor) (segments before) s (eq-eqb s.processor s.processor refl))
      ∙ ap past_of (last_more (filter (λ (x : Segment). x.processor == s.processor) (segments before)) s)))

  pub no_past_noted : (line : Option Said) → segment_in line ≡ [] → map (λ processor. past_on processor before) (range_with_len 0 n)
      ≡ map (λ processor. past_on processor (before ++ line ∷ [])) (range_with_len 0 n)
  no_past_noted line none =
      let same : segments (before ++ line ∷ []) ≡ segments before = found_more segment_in refl before line still ∙ ap (λ xs. segments before ++ xs) none ∙ append-nil (segments before) in
      ap (λ xs. map (λ processor. past_of (last_of (filter (λ (x : Segment). x.processor == processor) xs))) (range_with_len 0 n)) (sym same)
