-- From which places a way goes on to an `Advance`.
use Rattle.std.proofs.Common.{◌≡◌, ◌⊎◌, ℕ, zero, suc, ◌+◌, ◌<◌, ◌≤◌, Bool, true, false, ◌||◌, List, [], ◌∷◌, length, get_or, Some, refl, sym, ap, subst, ◌∙◌, inl, inr, arith, get_or-set_other}
use Rattle.std.specs.Prelude.{Option, None, nat_eq, replicate, slice_get, slice_set}
use Rattle.std.proofs.lemmas.Bool.{cases_lt, false≢true}
use Rattle.std.proofs.lemmas.List.{length-set}
use Rattle.std.proofs.lemmas.Option.{same_Some, slice_get_within}
use Rattle.psy_lists.proofs.lemmas.Tests.{or_right}
use Rattle.psy_code.specs.declared.instr.Instr.{Instr}
use Rattle.psy_code.specs.declared.instr.Instr.TheVariants as instr
use Rattle.psy_meaning.specs.CodeWays.{GoesOn, IsCodeWay, ends, goes}
use Rattle.psy_flow.specs.Verified.{HasEnd}
use Rattle.psy_judge.specs.Ending.{AreEnds, IsFoundEnd, IsPass, ends_by, marked_in}
use Rattle.psy_judge.specs.Walked.{onward_of, unmarked}
use Rattle.psy_judge.proofs.JudgedBools.{judge_eq, known, or_left}
use Rattle.psy_judge.proofs.OnwardOf.{IsOneOf, goes_if, one_of}

-- ---- an instruction

-- It is an `Advance`, or goes on at a marked place.
abbrev Ends : List Bool → Instr → ℕ → Type 0
Ends marks i place = ((point : ℕ) × (i ≡ instr.Advance point)) ⊎ ((next : ℕ) × GoesOn i place next × (get_or marks next false ≡ true))

marked_some : (marks : List Bool) (o : Option ℕ) → marked_in marks o ≡ true → (next : ℕ) × (Some next ≡ o) × (get_or marks next false ≡ true)
marked_some marks None e = absurd (false≢true e)
marked_some marks (Some next) e = (next, refl, e)

either_true : (a b : Bool) → (a || b) ≡ true → (a ≡ true) ⊎ (b ≡ true)
either_true true b e = inl refl
either_true false b e = inr e

other_ends : (marks : List Bool) (i : Instr) (place : ℕ) → (marked_in marks (onward_of i place).next || marked_in marks (onward_of i place).jump) ≡ true → Ends marks i place
other_ends marks i place e = inr (elim (either_true (marked_in marks (onward_of i place).next) (marked_in marks (onward_of i place).jump) e) [
  | inl next ↦ (let (to, one, marked) = marked_some marks (onward_of i place).next next in (to, goes_if i place to (inl one), marked))
  | inr jump ↦ (let (to, one, marked) = marked_some marks (onward_of i place).jump jump in (to, goes_if i place to (inr one), marked))
])

ends_of : (marks : List Bool) (i : Instr) (place : ℕ) → ends_by i (onward_of i place) marks ≡ true → Ends marks i place
ends_of marks (instr.Advance point) place e = inl (point, refl)
ends_of marks (instr.Jump to) place e = other_ends marks (instr.Jump to) place e
ends_of marks (instr.JumpZero to) place e = other_ends marks (instr.JumpZero to) place e
ends_of marks (instr.AndTest to) place e = other_ends marks (instr.AndTest to) place e
ends_of marks (instr.OrTest to) place e = other_ends marks (instr.OrTest to) place e
ends_of marks instr.Return place e = other_ends marks instr.Return place e
ends_of marks (instr.Call function) place e = other_ends marks (instr.Call function) place e
ends_of marks (instr.Push number) place e = other_ends marks (instr.Push number) place e
ends_of marks (instr.Load cell) place e = other_ends marks (instr.Load cell) place e
ends_of marks (instr.Store cell) place e = other_ends marks (instr.Store cell) place e
ends_of marks (instr.LoadCell base cells) place e = other_ends marks (instr.LoadCell base cells) place e
ends_of marks (instr.StoreCell base cells) place e = other_ends marks (instr.StoreCell base cells) place e
ends_of marks (instr.LoadCopy variable) place e = other_ends marks (instr.LoadCopy variable) place e
ends_of marks (instr.StoreCopy variable) place e = other_ends marks (instr.StoreCopy variable) place e
ends_of marks (instr.Past variable back) place e = other_ends marks (instr.Past variable back) place e
ends_of marks (instr.Ready stream) place e = other_ends marks (instr.Ready stream) place e
ends_of marks (instr.Take stream) place e = other_ends marks (instr.Take stream) place e
ends_of marks (instr.Send stream after clock) place e = other_ends marks (instr.Send stream after clock) place e
ends_of marks instr.Truth place e = other_ends marks instr.Truth place e
ends_of marks (instr.Zero counter) place e = other_ends marks (instr.Zero counter) place e
ends_of marks (instr.Guard counter bound) place e = other_ends marks (instr.Guard counter bound) place e
ends_of marks (instr.Binary operator width) place e = other_ends marks (instr.Binary operator width) place e
ends_of marks (instr.Unary operator width) place e = other_ends marks (instr.Unary operator width) place e
ends_of marks (instr.Cast width) place e = other_ends marks (instr.Cast width) place e

true_left : (a b : Bool) → a ≡ true → (a || b) ≡ true
true_left a b e = ap (λ (c : Bool). c || b) e

true_right : (a b : Bool) → b ≡ true → (a || b) ≡ true
true_right true b e = refl
true_right false b e = e

marked_one : (marks : List Bool) (i : Instr) (place next : ℕ) → IsOneOf next i place → get_or marks next false ≡ true
    → (marked_in marks (onward_of i place).next || marked_in marks (onward_of i place).jump) ≡ true
marked_one marks i place next (inl e) marked =
    true_left (marked_in marks (onward_of i place).next) (marked_in marks (onward_of i place).jump) (subst (λ o. marked_in marks o ≡ true) e marked)
marked_one marks i place next (inr e) marked =
    true_right (marked_in marks (onward_of i place).next) (marked_in marks (onward_of i place).jump) (subst (λ o. marked_in marks o ≡ true) e marked)

-- One that goes on at a marked place
ends_on : (marks : List Bool) (i : Instr) (place next : ℕ) → GoesOn i place next → get_or marks next false ≡ true → ends_by i (onward_of i place) marks ≡ true
ends_on marks (instr.Advance point) place next on marked = refl
ends_on marks (instr.Jump to) place next on marked = marked_one marks (instr.Jump to) place next (one_of (instr.Jump to) place next on) marked
ends_on marks (instr.JumpZero to) place next on marked = marked_one marks (instr.JumpZero to) place next (one_of (instr.JumpZero to) place next on) marked
ends_on marks (instr.AndTest to) place next on marked = marked_one marks (instr.AndTest to) place next (one_of (instr.AndTest to) place next on) marked
ends_on marks (instr.OrTest to) place next on marked = marked_one marks (instr.OrTest to) place next (one_of (instr.OrTest to) place next on) marked
ends_on marks instr.Return place next on marked = absurd on
ends_on marks (instr.Call function) place next on marked = marked_one marks (instr.Call function) place next (one_of (instr.Call function) place next on) marked
ends_on marks (instr.Push number) place next on marked = marked_one marks (instr.Push number) place next (one_of (instr.Push number) place next on) marked
ends_on marks (instr.Load cell) place next on marked = marked_one marks (instr.Load cell) place next (one_of (instr.Load cell) place next on) marked
ends_on marks (instr.Store cell) place next on marked = marked_one marks (instr.Store cell) place next (one_of (instr.Store cell) place next on) marked
ends_on marks (instr.LoadCell base cells) place next on marked = marked_one marks (instr.LoadCell base cells) place next (one_of (instr.LoadCell base cells) place next on) marked
ends_on marks (instr.StoreCell base cells) place next on marked = marked_one marks (instr.StoreCell base cells) place next (one_of (instr.StoreCell base cells) place next on) marked
ends_on marks (instr.LoadCopy variable) place next on marked = marked_one marks (instr.LoadCopy variable) place next (one_of (instr.LoadCopy variable) place next on) marked
ends_on marks (instr.StoreCopy variable) place next on marked = marked_one marks (instr.StoreCopy variable) place next (one_of (instr.StoreCopy variable) place next on) marked
ends_on marks (instr.Past variable back) place next on marked = marked_one marks (instr.Past variable back) place next (one_of (instr.Past variable back) place next on) marked
ends_on marks (instr.Ready stream) place next on marked = marked_one marks (instr.Ready stream) place next (one_of (instr.Ready stream) place next on) marked
ends_on marks (instr.Take stream) place next on marked = marked_one marks (instr.Take stream) place next (one_of (instr.Take stream) place next on) marked
ends_on marks (instr.Send stream after clock) place next on marked = marked_one marks (instr.Send stream after clock) place next (one_of (instr.Send stream after clock) place next on) marked
ends_on marks instr.Truth place next on marked = marked_one marks instr.Truth place next (one_of instr.Truth place next on) marked
ends_on marks (instr.Zero counter) place next on marked = marked_one marks (instr.Zero counter) place next (one_of (instr.Zero counter) place next on) marked
ends_on marks (instr.Guard counter bound) place next on marked = marked_one marks (instr.Guard counter bound) place next (one_of (instr.Guard counter bound) place next on) marked
ends_on marks (instr.Binary operator width) place next on marked = marked_one marks (instr.Binary operator width) place next (one_of (instr.Binary operator width) place next on) marked
ends_on marks (instr.Unary operator width) place next on marked = marked_one marks (instr.Unary operator width) place next (one_of (instr.Unary operator width) place next on) marked
ends_on marks (instr.Cast width) place next on marked = marked_one marks (instr.Cast width) place next (one_of (instr.Cast width) place next on) marked

-- ---- one mark

unmarked_less : (marks : List Bool) (p : ℕ) → p < length marks → get_or marks p false ≡ false → unmarked (slice_set marks p true) < unmarked marks
unmarked_less [] p less e = absurd (omega (arith, less))
unmarked_less (true ∷ marks) zero less e = absurd (false≢true (sym e))
unmarked_less (false ∷ marks) zero less e = omega arith
unmarked_less (true ∷ marks) (suc p) less e = unmarked_less marks p (omega (arith, less)) e
unmarked_less (false ∷ marks) (suc p) less e = omega (arith, unmarked_less marks p (omega (arith, less)) e)

module _ (instrs : List Instr) where
  pub found_none : (marks : List Bool) → marks ≡ replicate (length instrs) false → IsFoundEnd instrs marks
  found_none marks same = record {
    size = ap length same ∙ count (length instrs);
    each = λ place e. absurd (false≢true (sym (none (length instrs) place) ∙ ap (λ (m : List Bool). get_or m place false) (sym same) ∙ e));
  }
    where
      count : (n : ℕ) → length (replicate n false) ≡ n
      count zero = refl
      count (suc n) = ap suc (count n)

      none : (n p : ℕ) → get_or (replicate n false) p false ≡ false
      none zero p = refl
      none (suc n) zero = refl
      none (suc n) (suc p) = none n p

  has_end : (marks : List Bool) (place : ℕ) (i : Instr) → IsFoundEnd instrs marks → slice_get instrs place ≡ Some i → Ends marks i place → HasEnd instrs place
  has_end marks place i found at (inl (point, is)) = (point, place ∷ [], ends place (at ∙ ap Some is))
  has_end marks place i found at (inr (next, on, marked)) =
      let (point, places, way) = found.each next marked in (point, place ∷ places, goes place next i places at on way)

  pub found_more : (marks : List Bool) (place : ℕ) (i : Instr) → IsFoundEnd instrs marks → slice_get instrs place ≡ Some i → ends_by i (onward_of i place) marks ≡ true → IsFoundEnd instrs (slice_set marks place true)
  found_more marks place i found at so = record {
    size = length-set marks place true ∙ found.size;
    each = λ p e. elim (known (nat_eq p place) (judge_eq p place)) [
      | inl same ↦ subst (HasEnd instrs) (sym same) (has_end marks place i found at (ends_of marks i place so))
      | inr other ↦ found.each p (sym (get_or-set_other marks place p true false other) ∙ e)
    ];
  }

  pub pass_more : (marks : List Bool) (place : ℕ) → place < length marks → get_or marks place false ≡ false → IsPass instrs (λ q. q ≡ place) marks (slice_set marks place true) true
  pass_more marks place less e = record {
    same = λ d. absurd (false≢true (sym d));
    room = λ d. unmarked_less marks place less e;
    none = λ d. absurd (false≢true (sym d));
  }

  pub pass_marked : (marks : List Bool) (place : ℕ) → get_or marks place false ≡ true → IsPass instrs (λ q. q ≡ place) marks marks false
  pass_marked marks place e = record {
    same = λ d. refl;
    room = λ d. absurd (false≢true d);
    none = λ d q i here at so. ap (λ (p : ℕ). get_or marks p false) here ∙ e;
  }

  pub pass_none : (marks : List Bool) (place : ℕ) (i : Instr) → slice_get instrs place ≡ Some i → ends_by i (onward_of i place) marks ≡ false → IsPass instrs (λ q. q ≡ place) marks marks false
  pass_none marks place i at e = record {
    same = λ d. refl;
    room = λ d. absurd (false≢true d);
    none = λ d q j here there so. absurd (false≢true (sym e ∙ moved q j here there so));
  }
    where
      moved : (q : ℕ) (j : Instr) → q ≡ place → slice_get instrs q ≡ Some j → ends_by j (onward_of j q) marks ≡ true → ends_by i (onward_of i place) marks ≡ true
      moved q j here there so =
          let same : j ≡ i = same_Some j i (sym (subst (λ p. slice_get instrs p ≡ Some j) here there) ∙ at) in
          subst (λ (k : Instr). ends_by k (onward_of k place) marks ≡ true) same (subst (λ p. ends_by j (onward_of j p) marks ≡ true) here so)

  -- ---- passes

  pub passed_none : (n : ℕ) (marks : List Bool) → length instrs ≤ n → IsPass instrs (λ q. n ≤ q) marks marks false
  passed_none n marks past = record {
    same = λ d. refl;
    room = λ d. absurd (false≢true d);
    none = λ d q i low at so. (let less = slice_get_within instrs q i at in absurd (omega (arith, less, low, past)));
  }

  pub passed_more : (place n : ℕ) (before marks after : List Bool) (more now : Bool) → n ≡ place + 1 → IsPass instrs (λ q. n ≤ q) before marks more → IsPass instrs (λ q. q ≡ place) marks after now
      → IsPass instrs (λ q. place ≤ q) before after (more || now)
  passed_more place n before marks after more now e all one = record {
    same = λ d. one.same (or_right more now d) ∙ all.same (or_left more now d);
    room = λ d. rooms more now refl refl d;
    none = λ d q i low at so. elim (cases_lt place q) [
      | inl above ↦ (let same : after ≡ marks = one.same (or_right more now d) in
          subst (λ (m : List Bool). get_or m q false ≡ true) (sym same)
          (all.none (or_left more now d) q i (omega (arith, above, e)) at (subst (λ (m : List Bool). ends_by i (onward_of i q) m ≡ true) same so)))
      | inr not ↦ one.none (or_right more now d) q i (omega (arith, not, low)) at so
    ];
  }
    where
      rooms : (c d : Bool) → more ≡ c → now ≡ d → (c || d) ≡ true → unmarked after < unmarked before
      rooms true true p q h = omega (arith, all.room p, one.room q)
      rooms true false p q h = omega (arith, all.room p, ap unmarked (one.same q))
      rooms false true p q h = omega (arith, ap unmarked (all.same p), one.room q)
      rooms false false p q h = absurd (false≢true h)

  pub passed_all : (place : ℕ) (before after : List Bool) (more : Bool) → place ≤ 0 → IsPass instrs (λ q. place ≤ q) before after more → IsPass instrs (λ q. q < length instrs) before after more
  passed_all place before after more low is = record {
    same = is.same;
    room = is.room;
    none = λ d q i less at so. is.none d q i (omega (arith, low)) at so;
  }

  pub all_ends : (before marks : List Bool) → IsFoundEnd instrs marks → IsPass instrs (λ q. q < length instrs) before marks false → AreEnds instrs marks
  all_ends before marks found pass = record {
    size = found.size;
    each = λ place. (found.each place, λ (point, places, way). marked point place places way);
  }
    where
      marked : (point place : ℕ) (places : List ℕ) → IsCodeWay instrs point place places → get_or marks place false ≡ true
      marked point _ _ (ends place at) = pass.none refl place (instr.Advance point) (slice_get_within instrs place (instr.Advance point) at) at refl
      marked point _ _ (goes place next i places at on way) =
          pass.none refl place i (slice_get_within instrs place i at) at (ends_on marks i place next on (marked point next places way))
