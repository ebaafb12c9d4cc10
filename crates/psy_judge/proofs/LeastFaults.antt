-- The least of faults, family by family and place by place.
use Rattle.std.proofs.Common.{◌≡◌, ℕ, ◌<◌, ◌≤◌, Bool, true, false, ◌&&◌, if◌then◌else◌, refl, inl, inr, arith}
use Rattle.std.specs.Prelude.{Option, None, Some, nat_eq, nat_lt}
use Rattle.psy_flow.specs.Verified.{ComesBefore, Rule, number_of}
use Rattle.psy_judge.specs.declared.fault.Fault.{Fault}
use Rattle.psy_judge.specs.Judged.{IsFirst, IsLeast, IsLeastOf, Judges, is_before, lesser}
use Rattle.psy_judge.proofs.JudgedBools.{fails, holds, judge_and, judge_eq, judge_lt, judge_or}

-- Both are said.
abbrev pub Both : (ℕ → Rule → Type 0) → (ℕ → Rule → Type 0) → ℕ → Rule → Type 0
Both Says Also place rule = Says place rule × Also place rule

before_tells : (this that : Fault) → Judges (is_before this that) (ComesBefore this.place this.number that.place that.number)
before_tells this that =
    judge_or _ _ (nat_lt this.place that.place) (nat_eq this.place that.place && nat_lt this.number that.number) (judge_lt this.place that.place)
    (judge_and _ _ (nat_eq this.place that.place) (nat_lt this.number that.number) (judge_eq this.place that.place) (judge_lt this.number that.number))

before_before : (p n q m r k : ℕ) → ComesBefore p n q m → ComesBefore q m r k → ComesBefore p n r k
before_before p n q m r k (inl a) (inl b) = inl (omega (arith, a, b))
before_before p n q m r k (inl a) (inr b) = inl (omega (arith, a, b.0))
before_before p n q m r k (inr a) (inl b) = inl (omega (arith, a.0, b))
before_before p n q m r k (inr a) (inr b) = inr (omega (arith, a.0, b.0), omega (arith, a.1, b.1))

-- What comes before a fault comes before any other that doesn't.
before_other : (p n q m r k : ℕ) → ComesBefore p n q m → (ComesBefore r k q m → ⊥) → ComesBefore p n r k
before_other p n q m r k before not = by (nat_lt p r) refl (nat_lt r p) refl (nat_lt n k) refl
  where
    by : (a : Bool) → nat_lt p r ≡ a → (b : Bool) → nat_lt r p ≡ b → (c : Bool) → nat_lt n k ≡ c → ComesBefore p n r k
    by true e b f c g = inl (holds (nat_lt p r) (judge_lt p r) e)
    by false e true f c g = absurd (not (under (holds (nat_lt r p) (judge_lt r p) f) before))
      where
        under : r < p → ComesBefore p n q m → ComesBefore r k q m
        under low (inl h) = inl (omega (arith, low, h))
        under low (inr h) = inl (omega (arith, low, h.0))
    by false e false f true g = inr (same (fails (nat_lt p r) (judge_lt p r) e) (fails (nat_lt r p) (judge_lt r p) f), holds (nat_lt n k) (judge_lt n k) g)
      where
        same : (p < r → ⊥) → (r < p → ⊥) → p ≡ r
        same u v = grind (arith, u, v)
    by false e false f false g = absurd (not (level (same (fails (nat_lt p r) (judge_lt p r) e) (fails (nat_lt r p) (judge_lt r p) f)) (fails (nat_lt n k) (judge_lt n k) g) before))
      where
        same : (p < r → ⊥) → (r < p → ⊥) → p ≡ r
        same u v = grind (arith, u, v)

        at_most : (n < k → ⊥) → k ≤ n
        at_most u = grind (arith, u)

        level : p ≡ r → (n < k → ⊥) → ComesBefore p n q m → ComesBefore r k q m
        level s u (inl h) = inl (omega (arith, s, h))
        level s u (inr h) = inr (omega (arith, s, h.0), (let low = at_most u in omega (arith, low, h.1)))

module _ (Says Also : ℕ → Rule → Type 0) where
  first_least : (this that : Fault) → IsLeastOf Says this → IsLeastOf Also that → (ComesBefore that.place that.number this.place this.number → ⊥) → IsLeastOf (Both Says Also) this
  first_least this that a b not = record {
    present = (let (rule, number, breaks) = a.present in (rule, number, λ (h : Both Says Also this.place rule). breaks h.0));
    least = λ place rule before.
        (a.least place rule before, b.least place rule (before_other place (number_of rule) this.place this.number that.place that.number before not));
  }

  second_least : (this that : Fault) → IsLeastOf Says this → IsLeastOf Also that → ComesBefore that.place that.number this.place this.number → IsLeastOf (Both Says Also) that
  second_least this that a b under = record {
    present = (let (rule, number, breaks) = b.present in (rule, number, λ (h : Both Says Also that.place rule). breaks h.1));
    least = λ place rule before.
        (a.least place rule (before_before place (number_of rule) that.place that.number this.place this.number before under), b.least place rule before);
  }

  -- The lesser of the least of two families is the least of both.
  pub least_lesser : (this that : Option Fault) → IsLeast Says this → IsLeast Also that → IsLeast (Both Says Also) (lesser this that)
  least_lesser None None a b = λ place rule. (a place rule, b place rule)
  least_lesser None (Some that) a b = record {
    present = (let (rule, number, breaks) = b.present in (rule, number, λ (h : Both Says Also that.place rule). breaks h.1));
    least = λ place rule before. (a place rule, b.least place rule before);
  }
  least_lesser (Some this) None a b = record {
    present = (let (rule, number, breaks) = a.present in (rule, number, λ (h : Both Says Also this.place rule). breaks h.0));
    least = λ place rule before. (a.least place rule before, b place rule);
  }
  least_lesser (Some this) (Some that) a b = by (is_before that this) refl
    where
      by : (c : Bool) → is_before that this ≡ c → IsLeast (Both Says Also) (if c then Some that else Some this)
      by true e = second_least this that a b (holds (is_before that this) (before_tells that this) e)
      by false e = first_least this that a b (fails (is_before that this) (before_tells that this) e)

  -- The same fault is the least of what says the same.
  pub least_same : (fault : Option Fault) → ((place : ℕ) (rule : Rule) → Says place rule → Also place rule) → ((place : ℕ) (rule : Rule) → Also place rule → Says place rule)
      → IsLeast Says fault → IsLeast Also fault
  least_same None on back a = λ place rule. on place rule (a place rule)
  least_same (Some fault) on back a = record {
    present = (let (rule, number, breaks) = a.present in (rule, number, λ (h : Also fault.place rule). breaks (back fault.place rule h)));
    least = λ place rule before. on place rule (a.least place rule before);
  }

-- ---- at one place

-- It is said of this place alone.
abbrev pub At : ℕ → (Rule → Type 0) → ℕ → Rule → Type 0
At here Says place rule = place ≡ here → Says rule

-- The first rule that is broken there is the least fault.
pub least_at : (Says : Rule → Type 0) (fault : Fault) → IsFirst Says (Some fault.number) → IsLeast (At fault.place Says) (Some fault)
least_at Says fault ((rule, number, breaks), least) = record {
  present = (rule, number, λ (h : At fault.place Says fault.place rule). breaks (h refl));
  least = λ place other before same. by other same before;
}
  where
    by : (other : Rule) {place : ℕ} → place ≡ fault.place → ComesBefore place (number_of other) fault.place fault.number → Says other
    by other same (inl under) = absurd (omega (arith, same, under))
    by other same (inr (_, under)) = least other under

pub least_none_at : (here : ℕ) (Says : Rule → Type 0) → IsFirst Says None → IsLeast (At here Says) None
least_none_at here Says all = λ place rule same. all rule
