-- Different values.
use Rattle.std.proofs.Common.{◌≡◌, ℕ, Bool, true, false, cond, ◌+◌, ◌<◌, ◌≤◌, List, [], ◌∷◌, ◌++◌, fold, length, nat_le, take, drop, get_or, refl, sym, ap, ◌∙◌, length-append, arith}
use Rattle.std.specs.Prelude.{ℤ}
use Rattle.std.specs.List.{flat_map, list_any}
use Rattle.std.specs.Ordering.{int_eq}
use Rattle.std.proofs.lemmas.Grind.{common_steps}
use Rattle.std.proofs.lemmas.List.{take-append-drop, take_more}
use Rattle.std.proofs.lemmas.List.Concat.{flat_map-append}
use Rattle.std.proofs.lemmas.List.Sums.{fold-append}
use Rattle.psy_draw.specs.declared.column.Column.{Column}
use Rattle.psy_draw.specs.Columns.{different, is_few, kept, with_other}

-- With another value they aren't fewer.
either : (b : Bool) (seen : List ℤ) (v : ℤ) → length seen ≤ length (cond b seen (seen ++ v ∷ []))
either true seen v = omega arith
either false seen v = let more = length-append seen (v ∷ []) in omega (arith, more)

-- With other values they aren't fewer.
pub no_fewer : (seen values : List ℤ) → length seen ≤ length (fold with_other seen values)
no_fewer seen [] = omega arith
no_fewer seen (v ∷ values) =
    let one = either (list_any (λ w. int_eq w v) seen) seen v in
    let more = no_fewer (with_other seen v) values in
    omega (arith, one, more)

-- Nor with those that are left.
no_fewer_upto : (start values : List ℤ) (n : ℕ) → length (fold with_other start (take n values)) ≤ length (fold with_other start values)
no_fewer_upto start values n =
    let more = no_fewer (fold with_other start (take n values)) (drop n values) in
    let all = ap length (sym (fold-append with_other start (take n values) (drop n values)) ∙ ap (fold with_other start) (take-append-drop n values)) in
    omega (arith, more, all)

-- One more of some values
pub others_more : (start values : List ℤ) (i : ℕ) (d : ℤ) (seen new : List ℤ) → i < length values → seen ≡ fold with_other start (take i values) → new ≡ with_other seen (get_or values i d)
    → new ≡ fold with_other start (take (i + 1) values)
others_more start values i d seen new within before now =
    now ∙ ap (λ s. with_other s (get_or values i d)) before ∙ sym (fold-append with_other start (take i values) (get_or values i d ∷ [])) ∙ ap (fold with_other start) (sym (take_more values i d within))

-- Too many with one more are too many.
pub many_of : (start values : List ℤ) (i : ℕ) (d : ℤ) (seen : List ℤ) → i < length values → seen ≡ fold with_other start (take i values) → 8 < length (with_other seen (get_or values i d))
    → 8 < length (fold with_other start values)
many_of start values i d seen within before many =
    let now = ap length (others_more start values i d seen _ within before refl) in
    let upto = no_fewer_upto start values (i + 1) in
    omega (arith, now, upto, many)

-- Those of a column more
pub different_more : (columns : List Column) (i : ℕ) (d : Column) (seen new : List ℤ) → i < length columns → seen ≡ different (flat_map kept (take i columns))
    → new ≡ fold with_other seen (kept (get_or columns i d)) → new ≡ different (flat_map kept (take (i + 1) columns))
different_more columns i d seen new within before now =
    let so_far = flat_map kept (take i columns) in
    let one = get_or columns i d in
    now ∙ ap (λ s. fold with_other s (kept one)) before ∙ sym (fold-append with_other [] so_far (kept one)) ∙ ap different (sym (flat_map-append kept (take i columns) (one ∷ [])))
    ∙ ap (λ cs. different (flat_map kept cs)) (sym (take_more columns i d within))

-- Too many with those of a column more are too many.
pub too_many : (columns : List Column) (i : ℕ) (d : Column) (seen : List ℤ) → i < length columns → seen ≡ different (flat_map kept (take i columns))
    → 8 < length (fold with_other seen (kept (get_or columns i d))) → is_few columns ≡ false
too_many columns i d seen within before many =
    let so_far = flat_map kept (take (i + 1) columns) in
    let rest = flat_map kept (drop (i + 1) columns) in
    let now = ap length (different_more columns i d seen _ within before refl) in
    let all : different (flat_map kept columns) ≡ fold with_other (different so_far) rest =
    ap (λ cs. different (flat_map kept cs)) (sym (take-append-drop (i + 1) columns)) ∙ ap different (flat_map-append kept (take (i + 1) columns) (drop (i + 1) columns))
    ∙ fold-append with_other [] so_far rest in
    let longer = no_fewer (different so_far) rest in
    let long = ap length all in
    beyond (length (different (flat_map kept columns))) (omega (arith, many, now, longer, long))
  where
    beyond : (n : ℕ) → 8 < n → nat_le n 8 ≡ false
    beyond n h = grind (arith, common_steps)
