-- Depths as far as they can be counted.
use Rattle.std.proofs.Common.{◌≡◌, ℕ, ◌+◌, ◌-◌, ◌^◌, min, max, sym, ap, ◌∙◌, arith}
use Rattle.psy_arith.specs.declared.operators.Op2.{Op2}
use Rattle.psy_arith.specs.declared.operators.Op2.TheVariants as op
use Rattle.psy_meaning.specs.Depths.{Depth, deeper, on_top_of, binary_depth}
use Rattle.psy_flow.specs.Counted.{capped_depth}

abbrev depth : ℕ → ℕ → Depth
depth operands cells = record { operands = operands; cells = cells }

-- Depths with the same numbers
pub same : (a b : Depth) → a.operands ≡ b.operands → a.cells ≡ b.cells → a ≡ b
same a b p q = ap (λ n. depth n a.cells) p ∙ ap (depth b.operands) q

min-max : (a b m : ℕ) → min (max a b) m ≡ max (min a m) (min b m)
min-max a b m = omega arith

min-min : (a m : ℕ) → min (min a m) m ≡ min a m
min-min a m = omega arith

min-add-min : (n a m : ℕ) → min (n + min a m) m ≡ min (n + a) m
min-add-min n a m = omega arith

pub capped-deeper : (a b : Depth) → capped_depth (deeper a b) ≡ deeper (capped_depth a) (capped_depth b)
capped-deeper a b = same (capped_depth (deeper a b)) (deeper (capped_depth a) (capped_depth b)) (min-max a.operands b.operands (2 ^ 64 - 1)) (min-max a.cells b.cells (2 ^ 64 - 1))

pub capped-capped : (d : Depth) → capped_depth (capped_depth d) ≡ capped_depth d
capped-capped d = same (capped_depth (capped_depth d)) (capped_depth d) (min-min d.operands (2 ^ 64 - 1)) (min-min d.cells (2 ^ 64 - 1))

pub capped-top : (n : ℕ) (d : Depth) → capped_depth (on_top_of n (capped_depth d)) ≡ capped_depth (on_top_of n d)
capped-top n d = same (capped_depth (on_top_of n (capped_depth d))) (capped_depth (on_top_of n d)) (min-add-min n d.operands (2 ^ 64 - 1)) (min-min d.cells (2 ^ 64 - 1))

capped_both : (a b : Depth) → capped_depth (deeper (capped_depth a) (capped_depth b)) ≡ capped_depth (deeper a b)
capped_both a b = ap capped_depth (sym (capped-deeper a b)) ∙ capped-capped (deeper a b)

capped_on_top : (a b : Depth) → capped_depth (deeper (capped_depth a) (on_top_of 1 (capped_depth b))) ≡ capped_depth (deeper a (on_top_of 1 b))
capped_on_top a b =
    capped-deeper (capped_depth a) (on_top_of 1 (capped_depth b)) ∙ ap (deeper (capped_depth (capped_depth a))) (capped-top 1 b)
    ∙ ap (λ d. deeper d (capped_depth (on_top_of 1 b))) (capped-capped a) ∙ sym (capped-deeper a (on_top_of 1 b))

pub capped_binary : (operator : Op2) (a b : Depth) → capped_depth (binary_depth operator (capped_depth a) (capped_depth b)) ≡ capped_depth (binary_depth operator a b)
capped_binary op.AndAnd a b = capped_both a b
capped_binary op.OrOr a b = capped_both a b
capped_binary _ a b = capped_on_top a b

-- The depths so far, and the next one on top of so many operands
pub capped_argument : (i n : ℕ) (so_far before here next top : Depth) → n ≡ i → so_far ≡ capped_depth before → here ≡ capped_depth next → top ≡ capped_depth (on_top_of n here) → deeper so_far top ≡ capped_depth (deeper before (on_top_of i next))
capped_argument i n so_far before here next top same_number p q r =
    let on_it : top ≡ capped_depth (on_top_of i next) = r ∙ ap (λ m. capped_depth (on_top_of m here)) same_number ∙ ap (λ d. capped_depth (on_top_of i d)) q ∙ capped-top i next in
    ap (deeper so_far) on_it ∙ ap (λ d. deeper d (capped_depth (on_top_of i next))) p ∙ sym (capped-deeper before (on_top_of i next))

pub capped_next : (so_far before here next : Depth) → so_far ≡ capped_depth before → here ≡ capped_depth next → deeper so_far here ≡ capped_depth (deeper before next)
capped_next so_far before here next p q = ap (deeper so_far) q ∙ ap (λ d. deeper d (capped_depth next)) p ∙ sym (capped-deeper before next)
