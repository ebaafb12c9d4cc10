-- How the bytes of a sink grow over several writes.
use Rattle.std.proofs.Common.{◌∙◌, sym, ap, ℕ, List, [], ◌++◌, Option, None, Some, append_assoc, append-nil, ◌≤◌, arith}
use Rattle.psy_door.specs.Faults.{Rose}
use Rattle.psy_door.specs.Growth.{Grew}

pub Grew-trans : (a b c : Option (List ℕ)) (p q : List ℕ) → Grew a b p → Grew b c q → Grew a c (p ++ q)
Grew-trans a b None p q first second = tt
Grew-trans None None (Some z) p q first second = absurd second
Grew-trans (Some x) None (Some z) p q first second = absurd second
Grew-trans None (Some y) (Some z) p q first second = absurd first
Grew-trans (Some x) (Some y) (Some z) p q first second = second ∙ ap (λ bytes. bytes ++ q) first ∙ append_assoc x p q

pub Grew-nothing : (a : Option (List ℕ)) → Grew a a []
Grew-nothing None = tt
Grew-nothing (Some x) = sym (append-nil x)

-- A count that rose from a later one on rose from an earlier one on.
pub rose_before : (before between after : ℕ) → before ≤ between → Rose between after → Rose before after
rose_before before between after less rose = omega arith
