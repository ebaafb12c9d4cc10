-- Extents with one value more.
use Rattle.std.proofs.Common.{◌≡◌, refl, ℤ, Bool, true, false, ◌&&◌, ◌||◌, not, Some, arith}
use Rattle.std.proofs.lemmas.Int.{ints}
use Rattle.std.specs.Prelude.{int_le, int_lt}
use Rattle.std.specs.Int.{int_max, int_min}
use Rattle.std.specs.Ordering.{int_eq}
use Rattle.psy_assert.specs.declared.terms.Relation.TheVariants as relation
use Rattle.psy_assert.specs.declared.sum.Extent.{Extent}
use Rattle.psy_assert.specs.declared.sum.Sought.{Sought}
use Rattle.psy_assert.specs.declared.sum.Sought.TheVariants as sought
use Rattle.psy_assert.specs.Sums.{has_sought, is_by_ends, passes}

le_min : (v a b : ℤ) → int_le v (int_min a b) ≡ (int_le v a && int_le v b)
le_min v a b = grind (arith, ints)

lt_min : (v a b : ℤ) → int_lt v (int_min a b) ≡ (int_lt v a && int_lt v b)
lt_min v a b = grind (arith, ints)

max_le : (v a b : ℤ) → int_le (int_max a b) v ≡ (int_le a v && int_le b v)
max_le v a b = grind (arith, ints)

max_lt : (v a b : ℤ) → int_lt (int_max a b) v ≡ (int_lt a v && int_lt b v)
max_lt v a b = grind (arith, ints)

eq_le : (a b : ℤ) → int_eq a b ≡ (int_le b a && int_le a b)
eq_le a b = grind (arith, ints)

not_both : (a b : Bool) → not (a && b) ≡ (not a || not b)
not_both true b = refl
not_both false b = refl

not_four : (a b c d : Bool) → not ((a && c) && (b && d)) ≡ (not (a && b) || not (c && d))
not_four true true true true = refl
not_four true true true false = refl
not_four true true false true = refl
not_four true true false false = refl
not_four true false true true = refl
not_four true false true false = refl
not_four true false false true = refl
not_four true false false false = refl
not_four false b c d = refl

-- What is looked for is there where it was, or is the new value.
pub one_value_more : (wanted : Sought) → is_by_ends wanted ≡ true → (e : Extent) (least most value : ℤ) → least ≡ int_min e.least value → most ≡ int_max e.most value
    → has_sought wanted (Some (record { least = least; most = most })) ≡ (has_sought wanted (Some e) || passes wanted value)
one_value_more sought.Any ends e least most value low high = refl
one_value_more (sought.Failing relation.Equal v) ends e least most value low high =
    rw (low, high, le_min v e.least value, max_le v e.most value, eq_le value v) (not_four (int_le v e.least) (int_le e.most v) (int_le v value) (int_le value v))
one_value_more (sought.Failing relation.Unequal v) ends e least most value low high = absurd cc
one_value_more (sought.Failing relation.Less v) ends e least most value low high = rw (high, max_lt v e.most value) (not_both (int_lt e.most v) (int_lt value v))
one_value_more (sought.Failing relation.AtMost v) ends e least most value low high = rw (high, max_le v e.most value) (not_both (int_le e.most v) (int_le value v))
one_value_more (sought.Failing relation.Greater v) ends e least most value low high = rw (low, lt_min v e.least value) (not_both (int_lt v e.least) (int_lt v value))
one_value_more (sought.Failing relation.AtLeast v) ends e least most value low high = rw (low, le_min v e.least value) (not_both (int_le v e.least) (int_le v value))
