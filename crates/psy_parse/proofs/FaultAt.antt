-- Where reading can't go on, there is the token at fault.
use Rattle.std.proofs.Common.{◌≡◌, ℕ, suc, ◌+◌, ◌-◌, ◌<◌, ◌≤◌, List, [], ◌∷◌, ◌++◌, length, take, drop, Result, Ok, Err, refl, sym, ap, subst, ◌∙◌, append_assoc, arith}
use Rattle.std.proofs.lemmas.List.{length-append, length-take-le, take_at, take_all, take-take, take-append-drop}
use Rattle.psy_tree.specs.declared.token.Token.{Token}
use Rattle.psy_tree.specs.declared.raw.Raw.{Raw}
use Rattle.psy_tree.specs.Grammar.{Numbered, numbered, Spells}
use Rattle.psy_tree.specs.Grammar as grammar
use Rattle.psy_parse.specs.Fault.{Viable, AtFault, inside, at_end}
use Rattle.psy_parse.specs.Reading.{◌>>=◌, text_at}
use Rattle.psy_parse.proofs.Numbers.{length_of_numbered, numbered-append, numbered-take, tokens_of, numbered-tokens_of}
use Rattle.psy_parse.proofs.Steps.{Front, IsFront, SameHead, same_head, IsText, text, CanEnd, numbers, Read, done, failed}
use Rattle.psy_parse.proofs.ItemSteps.{Texts, Nothing, whole_at, whole_part, text_whole}
use Rattle.psy_parse.proofs.AgainItems.{reading_from_spells, no_tree}

spells_of_text : (raw : Raw) (ts : List Numbered) (tokens : List Token) → IsText raw ts → numbered 0 tokens ≡ ts → Spells raw tokens
spells_of_text raw ts tokens (text p) e = grammar.Spells.program e p

-- Viable tokens

viable_front : (before after : List Token) → Viable (before ++ after) → Viable before
viable_front before after v = record {
  more = after ++ v.more;
  raw = v.raw;
  spells = subst (λ (ts : List Token). Spells v.raw ts) (append_assoc before after v.more) v.spells;
}

viable_take : (j i : ℕ) (tokens : List Token) → j ≤ i → Viable (take i tokens) → Viable (take j tokens)
viable_take j i tokens le v =
    subst (λ (ts : List Token). Viable ts) (take-take j i tokens le) (viable_front (take j (take i tokens)) (drop j (take i tokens)) (subst (λ (ts : List Token). Viable ts) (sym (take-append-drop j (take i tokens))) v))

pub viable_all : (i : ℕ) (tokens : List Token) → Viable tokens → Viable (take i tokens)
viable_all i tokens v = viable_front (take i tokens) (drop i tokens) (subst (λ (ts : List Token). Viable ts) (sym (take-append-drop i tokens)) v)

-- Reading

-- Reading is stuck with k tokens left, and so it is in m turns, while the tokens up to the next are the same
record Stops (m : ℕ) (ts : List Numbered) (k : ℕ) : Type 0 where
  front : Front
  rest : List Numbered
  is_front : IsFront front
  whole : ts ≡ front rest
  left : length rest ≡ k
  hope : CanEnd front
  again : (us : List Numbered) → SameHead rest us → whole_at m (front us) ≡ Err (length us)

text_read : (n m : ℕ) (ts : List Numbered) → n ≤ m → length ts < n → Read (λ us. us) Texts Nothing ts (whole_at m) 0 (whole_at n ts)
text_read n m ts le lt = (whole_part n m le (λ us. us) (λ mid raw is k. ([], raw, is)) ts).go ts (λ _. refl) refl (omega arith) lt tt (λ _ _. refl)

stops_by : (m : ℕ) (ts : List Numbered) (r : Result (Raw × List Numbered) ℕ) → Read (λ us. us) Texts Nothing ts (whole_at m) 0 r → (k : ℕ) → (r >>= λ x. Ok x.0) ≡ Err k → Stops m ts k
stops_by m ts _ (done front is len spelled none again) k e = absurd cc
stops_by m ts _ (failed {mid = mid} {rest = rest} front is hope again) k e =
    record { front = mid; rest = rest; is_front = front; whole = is; left = cc; hope = hope; again = again }

stops : (n m : ℕ) (ts : List Numbered) (k : ℕ) → n ≤ m → length ts < n → text_at n ts ≡ Err k → Stops m ts k
stops n m ts k le lt e = stops_by m ts (whole_at n ts) (text_read n m ts le lt) k (sym (text_whole n ts) ∙ e)

texts_by : (m : ℕ) (ts : List Numbered) (r : Result (Raw × List Numbered) ℕ) → Read (λ us. us) Texts Nothing ts (whole_at m) 0 r → (raw : Raw) → (r >>= λ x. Ok x.0) ≡ Ok raw → IsText raw ts
texts_by m ts _ (done {mid = mid} {x = x} {rest = rest} front is len spelled none again) raw e =
    let same : x ≡ raw = cc in
    subst (λ (us : List Numbered). IsText raw us) (sym (is ∙ ap mid none)) (subst (λ (r : Raw). IsText r (mid [])) same spelled)
texts_by m ts _ (failed front is hope again) raw e = absurd cc

-- The tree that is read has these tokens
pub spells_from_reading : (tokens : List Token) (raw : Raw) → text_at (length tokens + 1) (numbered 0 tokens) ≡ Ok raw → Spells raw tokens
spells_from_reading tokens raw e =
    let n = length tokens + 1 in
    let ts = numbered 0 tokens in
    spells_of_text raw ts tokens (texts_by n ts (whole_at n ts) (text_read n n ts (omega arith) (omega (arith, length_of_numbered 0 tokens))) raw (sym (text_whole n ts) ∙ e)) refl

-- The tokens that were read before it stopped
module _ (tokens : List Token) (m k : ℕ) (s : Stops m (numbered 0 tokens) k) where
  abbrev taken : ℕ
  taken = length (s.front [])

  whole_parts : numbered 0 tokens ≡ s.front [] ++ s.rest
  whole_parts = s.whole ∙ s.is_front s.rest

  counts : taken + k ≡ length tokens
  counts = omega (arith, length_of_numbered 0 tokens, ap length whole_parts, length-append (s.front []) s.rest, s.left)

  numbered_before : numbered 0 (take taken tokens) ≡ s.front []
  numbered_before = numbered-take 0 taken tokens ∙ ap (λ (ts : List Numbered). take taken ts) whole_parts ∙ take_at (s.front []) s.rest taken refl

  viable_before : Viable (take taken tokens)
  viable_before =
      let hope = s.hope taken in
      let count : 0 + length (take taken tokens) ≡ taken = omega (arith, length-take-le taken tokens (omega (arith, counts))) in
      let are : numbered 0 (take taken tokens ++ tokens_of hope.0) ≡ s.front (numbers taken hope.0) =
      numbered-append 0 (take taken tokens) (tokens_of hope.0)
      ∙ ap (λ j. numbered 0 (take taken tokens) ++ numbered j (tokens_of hope.0)) count
      ∙ ap (λ (ts : List Numbered). ts ++ numbered taken (tokens_of hope.0)) numbered_before
      ∙ ap (λ (ts : List Numbered). s.front [] ++ ts) (numbered-tokens_of taken hope.0)
      ∙ sym (s.is_front (numbers taken hope.0)) in
      record { more = tokens_of hope.0; raw = hope.1; spells = spells_of_text hope.1 _ _ hope.2 are }

  next_token : (t : Numbered) (us : List Numbered) → s.rest ≡ t ∷ us → numbered 0 (take (suc taken) tokens) ≡ s.front [] ++ t ∷ []
  next_token t us e =
      let split : numbered 0 tokens ≡ (s.front [] ++ t ∷ []) ++ us = whole_parts ∙ ap (λ (ts : List Numbered). s.front [] ++ ts) e ∙ sym (append_assoc (s.front []) (t ∷ []) us) in
      numbered-take 0 (suc taken) tokens ∙ ap (λ (ts : List Numbered). take (suc taken) ts) split
      ∙ take_at (s.front [] ++ t ∷ []) us (suc taken) (omega (arith, length-append (s.front []) (t ∷ [])))

  not_viable : (t : Numbered) (us : List Numbered) → s.rest ≡ t ∷ us → (v : Viable (take (suc taken) tokens)) → length (take (suc taken) tokens ++ v.more) < m → ⊥
  not_viable t us e v lt =
      let after = numbered (0 + length (take (suc taken) tokens)) v.more in
      let are : numbered 0 (take (suc taken) tokens ++ v.more) ≡ s.front (t ∷ after) =
      numbered-append 0 (take (suc taken) tokens) v.more ∙ ap (λ (ts : List Numbered). ts ++ after) (next_token t us e) ∙ append_assoc (s.front []) (t ∷ []) after ∙ sym (s.is_front (t ∷ after)) in
      let read : text_at m (s.front (t ∷ after)) ≡ Ok v.raw = ap (λ (ts : List Numbered). text_at m ts) (sym are) ∙ reading_from_spells m v.spells lt in
      let head : SameHead s.rest (t ∷ after) = subst (λ (ts : List Numbered). SameHead ts (t ∷ after)) (sym e) same_head in
      let fails : text_at m (s.front (t ∷ after)) ≡ Err (length (t ∷ after)) = text_whole m (s.front (t ∷ after)) ∙ ap (λ r. r >>= λ x. Ok x.0) (s.again (t ∷ after) head) in
      let both : ◌≡◌ {A = Result Raw ℕ} (Ok v.raw) (Err (length (t ∷ after))) = sym read ∙ fails in
      absurd cc

module _ (tokens : List Token) (k : ℕ) (read : text_at (length tokens + 1) (numbered 0 tokens) ≡ Err k) where
  stops_in : (m : ℕ) → length tokens + 1 ≤ m → Stops m (numbered 0 tokens) k
  stops_in m le = stops (length tokens + 1) m (numbered 0 tokens) k le (omega (arith, length_of_numbered 0 tokens)) read

  refuted_by : (i m : ℕ) (s : Stops m (numbered 0 tokens) k) (v : Viable (take (suc i) tokens)) → i + k ≡ length tokens → 0 < k → length (take (suc i) tokens ++ v.more) < m
      → (rest : List Numbered) → s.rest ≡ rest → ⊥
  refuted_by i m s v sum some lt [] at = absurd (omega (arith, s.left, ap length at))
  refuted_by i m s v sum some lt (t ∷ us) at =
      let same : i ≡ length (s.front []) = omega (arith, sum, counts tokens m k s) in
      subst (λ j. (v : Viable (take (suc j) tokens)) → length (take (suc j) tokens ++ v.more) < m → ⊥) (sym same) (not_viable tokens m k s t us at) v lt

  -- with the next token they aren't viable, as more turns show
  refuted : (i : ℕ) → i + k ≡ length tokens → 0 < k → Viable (take (suc i) tokens) → ⊥
  refuted i sum some v =
      let m = length tokens + 1 + suc (length (take (suc i) tokens ++ v.more)) in
      let s = stops_in m (omega arith) in
      refuted_by i m s v sum some (omega arith) s.rest refl

  fault_by : (s : Stops (length tokens + 1) (numbered 0 tokens) k) → (rest : List Numbered) → s.rest ≡ rest → AtFault tokens (length tokens - k)
  fault_by s [] at =
      let count : length (s.front []) ≡ length tokens = omega (arith, counts tokens _ k s, s.left, ap length at) in
      let same : length tokens ≡ length tokens - k = omega (arith, s.left, ap length at) in
      subst (λ i. AtFault tokens i) same
      (at_end (subst (λ (ts : List Token). Viable ts) (take_all (length (s.front [])) tokens (omega (arith, count))) (viable_before tokens _ k s)) (no_tree tokens k read))
  fault_by s (t ∷ us) at =
      let some : 0 < k = omega (arith, s.left, ap length at) in
      let sum = counts tokens _ k s in
      let count : length (s.front []) ≡ length tokens - k = omega (arith, sum) in
      inside (omega (arith, sum))
      (λ earlier lt. viable_take (suc earlier) (length (s.front [])) tokens (omega (arith, count)) (viable_before tokens _ k s))
      (refuted (length tokens - k) (omega (arith, sum)) some)

  pub fault_at : AtFault tokens (length tokens - k)
  fault_at = let s = stops_in (length tokens + 1) (omega arith) in fault_by s s.rest refl

  -- no more tokens are left than there are
  pub left_within : k ≤ length tokens
  left_within = let s = stops_in (length tokens + 1) (omega arith) in omega (arith, counts tokens _ k s)
