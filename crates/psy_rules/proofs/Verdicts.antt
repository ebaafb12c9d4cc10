-- A tree has one verdict.
use Rattle.std.proofs.Common.{◌≡◌, ◌⊎◌, ◌∙◌, sym, ap, refl, ℕ, Option, Some, None, inl, inr, arith, ◌==◌, if◌then◌else◌}
use Rattle.psy_tree.specs.declared.raw.Raw.{Raw}
use Rattle.psy_tree.specs.declared.rules.Count.{Count}
use Rattle.psy_tree.specs.declared.rules.RuleKind.{RuleKind}
use Rattle.psy_tree.specs.declared.rules.RuleKind.TheVariants as kind
use Rattle.psy_tree.specs.declared.unit.Unit.{Unit as Whole}
use Rattle.psy_tree.specs.Places.{places}
use Rattle.psy_tree.specs.Rules.{LeastFault, NoFault, rule_number}
use Rattle.psy_tree.specs.Stands.{Stands, unit_of, first_passed}
use Rattle.psy_rules.specs.declared.least.RuleAt.{RuleAt}
use Rattle.psy_rules.specs.Judged.{judged_sited}
use Rattle.psy_rules.specs.Verdict.{Verdict}
use Rattle.psy_rules.proofs.LeastFaults.{best_of}

kind_at : ℕ → RuleKind
kind_at n =
    if n == 1 then kind.Twice
    else (if n == 2 then kind.Unknown
    else (if n == 3 then kind.WrongKind
    else (if n == 4 then kind.NotOwner
    else (if n == 5 then kind.NotReceiver
    else (if n == 6 then kind.TooDeep
    else (if n == 7 then kind.NoMax
    else (if n == 8 then kind.MixedLoop
    else (if n == 9 then kind.NoAdvance
    else (if n == 10 then kind.CallsDown
    else (if n == 11 then kind.BadClock
    else kind.BadNumber))))))))))

kind_at-rule_number : (k : RuleKind) → kind_at (rule_number k) ≡ k
unfolding kind_at
kind_at-rule_number kind.Twice = refl
kind_at-rule_number kind.Unknown = refl
kind_at-rule_number kind.WrongKind = refl
kind_at-rule_number kind.NotOwner = refl
kind_at-rule_number kind.NotReceiver = refl
kind_at-rule_number kind.TooDeep = refl
kind_at-rule_number kind.NoMax = refl
kind_at-rule_number kind.MixedLoop = refl
kind_at-rule_number kind.NoAdvance = refl
kind_at-rule_number kind.CallsDown = refl
kind_at-rule_number kind.BadClock = refl
kind_at-rule_number kind.BadNumber = refl

rule_number-injective : (k l : RuleKind) → rule_number k ≡ rule_number l → k ≡ l
rule_number-injective k l e = sym (kind_at-rule_number k) ∙ ap kind_at e ∙ kind_at-rule_number l

-- A tree has one least fault at most,
pub LeastFault-once : (raw : Raw) (k l : RuleKind) (n m : ℕ) → LeastFault raw k n → LeastFault raw l m → (k ≡ l) × (n ≡ m)
LeastFault-once raw k l n m a b = elim (a.least l m b.present) [
  | inl before ↦ elim (b.least k n a.present) [ inl behind ↦ absurd (omega arith) | inr also ↦ absurd (let e = also.0 in omega arith) ]
  | inr at ↦ elim (b.least k n a.present) [
    | inl behind ↦ absurd (let e = at.0 in omega arith)
    | inr also ↦ (rule_number-injective k l (let p = at.1 in let q = also.1 in omega arith), at.0)
  ]
]

-- Stands for one unit at most,
pub Stands-once : (raw : Raw) (unit other : Whole) → Stands unit raw → Stands other raw → unit ≡ other
Stands-once raw unit other a b = a.numbered ∙ sym b.numbered

-- And has one first count at most that passes.
pub count-once : (raw : Raw) (count other : Count) → first_passed raw ≡ Some count → first_passed raw ≡ Some other → count ≡ other
count-once raw count other a b = let e : Some count ≡ Some other = sym a ∙ b in cc

-- No two of these hold.
pub stands_or_fault : (raw : Raw) (unit : Whole) (kind : RuleKind) (token : ℕ) → Stands unit raw → LeastFault raw kind token → ⊥
stands_or_fault raw unit kind token stands least = stands.no_fault kind token least.present

pub stands_or_count : (raw : Raw) (unit : Whole) (count : Count) → Stands unit raw → first_passed raw ≡ Some count → ⊥
stands_or_count raw unit count stands passed = absurd (let e : Some count ≡ None = sym passed ∙ stands.within_limits in cc)

pub fault_or_none : (raw : Raw) (kind : RuleKind) (token : ℕ) → LeastFault raw kind token → NoFault raw → ⊥
fault_or_none raw kind token least none = none kind token least.present

-- One of them does.
abbrev Some_of : Raw → Type 0
Some_of raw = ((unit : Whole) × Stands unit raw) ⊎ (((kind : RuleKind) × (token : ℕ) × LeastFault raw kind token) ⊎ ((count : Count) × NoFault raw × (first_passed raw ≡ Some count)))

of_counts : (raw : Raw) (passed : Option Count) → first_passed raw ≡ passed → NoFault raw → Some_of raw
of_counts raw None e none = inl (unit_of raw, record { no_fault = none; within_limits = e; numbered = refl })
of_counts raw (Some count) e none = inr (inr (count, none, e))

of_faults : (raw : Raw) (least : Option RuleAt) → Verdict raw least → Some_of raw
of_faults raw None none = of_counts raw (first_passed raw) refl none
of_faults raw (Some f) least = inr (inl (f.kind, f.token, least))

pub some_verdict : (raw : Raw) → ((unit : Whole) × Stands unit raw) ⊎ (((kind : RuleKind) × (token : ℕ) × LeastFault raw kind token) ⊎ ((count : Count) × NoFault raw × (first_passed raw ≡ Some count)))
some_verdict raw = of_faults raw (judged_sited (places raw) None) (best_of raw (judged_sited (places raw) None) refl)
