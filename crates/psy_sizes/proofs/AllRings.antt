-- The sizes of all rings of a unit, and the first ring that is too large: only one of both, and one of each.
use Rattle.std.proofs.Common.{◌≡◌, ◌⊎◌, ℕ, zero, suc, ◌+◌, ◌<◌, ◌≤◌, List, [], ◌∷◌, ◌++◌, Some, length, length-append, get_or, refl, sym, subst, ◌∙◌, inl, inr, add-one, arith}
use Rattle.std.specs.List.{All}
use Rattle.std.specs.Prelude.{slice_get}
use Rattle.std.proofs.lemmas.Bool.{cases_lt}
use Rattle.std.proofs.lemmas.List.{ext_get_or}
use Rattle.std.proofs.lemmas.List.Elements.{All-nil, All-push, All-get_or}
use Rattle.std.proofs.lemmas.Option.{slice_get_within, slice_get-get_or, get_or_from_slice_get}
use Rattle.psy_base.specs.declared.limits.TheConstants.{RING}
use Rattle.psy_lists.proofs.lemmas.Places.{each_more}
use Rattle.psy_clock.specs.Dates.{IsClock}
use Rattle.psy_tree.specs.declared.unit.Unit.{Unit as Whole}
use Rattle.psy_tree.specs.declared.unit.VarDecl.{VarDecl}
use Rattle.psy_meaning.specs.KnownWays.{Ways}
use Rattle.psy_meaning.specs.RingSizes.{AreRings, IsLargeRing, IsRingSize}
use Rattle.psy_meaning.specs.Units.{IsBareVariable}
use Rattle.psy_sizes.proofs.Existence.{most_before}
use Rattle.psy_sizes.proofs.RingsOf.{ring_size, one_size}
use Rattle.psy_sizes.proofs.Sharing.{no_clock}
use Rattle.psy_sizes.proofs.Told.{AreTold}
use Rattle.psy_tree.specs.Parts.{no_variable}

module _ (unit : Whole) (ways : Ways) (nexts : List (List (List ℕ))) where
  -- ---- one of each

  pub same_sizes : (sizes others : List ℕ) → AreRings unit ways nexts sizes → AreRings unit ways nexts others → sizes ≡ others
  same_sizes sizes others a b = ext_get_or 0 sizes others (a.count ∙ sym b.count) (λ variable less.
      one_size unit ways nexts variable _ _ (a.each variable _ (slice_get-get_or sizes variable 0 less)) (b.each variable _ (slice_get-get_or others variable 0 (omega (arith, less, a.count, b.count)))))

  not_before : (variable other : ℕ) → IsLargeRing unit ways nexts variable → IsLargeRing unit ways nexts other → variable < other → ⊥
  not_before variable other a b less = let small = b.earlier variable a.size less a.is_size in omega (arith, a.passes, small)

  pub same_large : (variable other : ℕ) → IsLargeRing unit ways nexts variable → IsLargeRing unit ways nexts other → variable ≡ other
  same_large variable other a b = grind (arith, not_before variable other a b, not_before other variable b a)

  pub rings_apart : (sizes : List ℕ) (variable : ℕ) → AreRings unit ways nexts sizes → All (λ size. size ≤ RING) sizes → IsLargeRing unit ways nexts variable → ⊥
  rings_apart sizes variable are small large =
      let there = slice_get_within unit.variables variable large.is_size.decl large.is_size.declared in
      let less : variable < length sizes = omega (arith, there, are.count) in
      let same : large.size ≡ get_or sizes variable 0 = one_size unit ways nexts variable _ _ large.is_size (are.each variable _ (slice_get-get_or sizes variable 0 less)) in
      let fits : get_or sizes variable 0 ≤ RING = small variable 0 less in
      omega (arith, same, fits, large.passes)

  -- ---- at least one of both

  -- The rings of the variables before one have these sizes.
  pub record AreRingsBefore (variable : ℕ) (sizes : List ℕ) : Type 0 where
    pub count : length sizes ≡ variable
    pub each : (before d : ℕ) → before < variable → IsRingSize unit ways nexts before (get_or sizes before d)
    pub small : All (λ size. size ≤ RING) sizes

  pub all_rings : (sizes : List ℕ) → AreRingsBefore (length unit.variables) sizes → AreRings unit ways nexts sizes
  all_rings sizes are = record {
    count = are.count;
    each = λ variable size e. (
        let less = slice_get_within sizes variable size e in
        subst (IsRingSize unit ways nexts variable) (get_or_from_slice_get sizes variable size size e) (are.each variable size (omega (arith, less, are.count)))
        );
  }

  -- A variable whose ring is too large is the first one, where those before it have rings that aren't.
  pub first_large : (sizes : List ℕ) (variable size : ℕ) → AreRingsBefore variable sizes → IsRingSize unit ways nexts variable size → RING < size → IsLargeRing unit ways nexts variable
  first_large sizes variable size are is passes = record {
    size = size;
    is_size = is;
    passes = passes;
    earlier = λ before other less its. (
        let same = one_size unit ways nexts before other (get_or sizes before 0) its (are.each before 0 less) in
        omega (arith, same, are.small before 0 (omega (arith, less, are.count)))
        );
  }

  -- The rings of the variables before this one keep the limit, or the first ring that doesn't is known.
  abbrev AreKept : ℕ → Type 0
  AreKept variable = ((sizes : List ℕ) × AreRingsBefore variable sizes) ⊎ ((other : ℕ) × IsLargeRing unit ways nexts other)

  next_told : (variable size : ℕ) (sizes : List ℕ) → IsRingSize unit ways nexts variable size → AreRingsBefore variable sizes → AreKept (variable + 1)
  next_told variable size sizes is are = elim (cases_lt RING size) [
    | inl passes ↦ inr (variable, first_large sizes variable size are is passes)
    | inr fit ↦ inl (
      sizes ++ size ∷ [],
      record {
        count = omega (arith, are.count, length-append sizes (size ∷ []));
        each = each_more (IsRingSize unit ways nexts) sizes (sizes ++ size ∷ []) size variable are.count are.each is refl;
        small = All-push (λ n. n ≤ RING) sizes size are.small fit;
      },
    )
  ]

  each_told : ((variable : ℕ) → variable < length unit.variables → (size : ℕ) × IsRingSize unit ways nexts variable size) → (variable : ℕ) → variable ≤ length unit.variables → AreKept variable
  each_told each zero few = inl ([], record { count = refl; each = λ before d less. absurd (omega (arith, less)); small = All-nil (λ n. n ≤ RING) })
  each_told each (suc variable) few = elim (each_told each variable (omega (arith, few))) [
    | inl (sizes, are) ↦ (let (size, is) = each variable (omega (arith, few)) in subst AreKept (add-one variable) (next_told variable size sizes is are))
    | inr large ↦ inr large
  ]

  module _ (its : AreTold unit ways nexts) where
    ring_exists : (variable : ℕ) → variable < length unit.variables → (size : ℕ) × IsRingSize unit ways nexts variable size
    ring_exists variable less =
        let decl : VarDecl = get_or unit.variables variable no_variable in
        let declared : slice_get unit.variables variable ≡ Some decl = slice_get-get_or unit.variables variable _ less in
        let bare : IsBareVariable unit decl = its.bare.variables variable _ less in
        let clock = get_or unit.clocks decl.clock no_clock in
        let lawful = All-get_or IsClock unit.clocks decl.clock no_clock bare.clock its.bare.clocks in
        let (most, is) = most_before unit ways nexts its variable clock lawful (length unit.agents) (omega arith) in
        (decl.depth + most, ring_size unit ways nexts variable decl declared clock refl most is)

    pub rings_or_large : ((sizes : List ℕ) × AreRings unit ways nexts sizes × All (λ size. size ≤ RING) sizes) ⊎ ((variable : ℕ) × IsLargeRing unit ways nexts variable)
    rings_or_large = elim (each_told ring_exists (length unit.variables) (omega arith)) [
      | inl (sizes, before) ↦ inl (sizes, all_rings sizes before, before.small)
      | inr large ↦ inr large
    ]
