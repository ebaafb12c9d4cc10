-- How the bytes of a sink grow over several writes.
use Rattle.std.proofs.Common.{◌∙◌, sym, ap, subst, ℕ, ◌+◌, min, List, [], ◌++◌, take, length, Option, None, Some, append_assoc, append-nil, arith}
use Rattle.std.proofs.lemmas.List.{take-append-le, take_min}
use Rattle.std.proofs.Math.Seq.{take-append-add, take-length}
use Rattle.psy_door.specs.Growth.{Grew, GrewByFront}

pub grew_more : (a b c : Option (List ℕ)) (p q : List ℕ) → Grew a b p → Grew b c q → Grew a c (p ++ q)
grew_more a b None p q first second = tt
grew_more None None (Some z) p q first second = absurd second
grew_more (Some x) None (Some z) p q first second = absurd second
grew_more None (Some y) (Some z) p q first second = absurd first
grew_more (Some x) (Some y) (Some z) p q first second = second ∙ ap (λ bytes. bytes ++ q) first ∙ append_assoc x p q

pub grew_nothing : (a : Option (List ℕ)) → Grew a a []
grew_nothing None = tt
grew_nothing (Some x) = sym (append-nil x)

-- Nothing is a front.
pub front_nothing : (a : Option (List ℕ)) (text : List ℕ) → GrewByFront a a text
front_nothing a text = (0, grew_nothing a)

-- A text, and a front of what stands behind it, are a front of both.
pub front_behind : (a b c : Option (List ℕ)) (before piece : List ℕ) → Grew a b before → GrewByFront b c piece → GrewByFront a c (before ++ piece)
front_behind a b c before piece first second =
    (length before + second.0, subst (Grew a c) (sym (take-append-add before piece second.0)) (grew_more a b c before (take second.0 piece) first second.1))

-- A whole text is a front of it.
pub front_whole : (a b : Option (List ℕ)) (text : List ℕ) → Grew a b text → GrewByFront a b text
front_whole a b text grew = (length text, subst (Grew a b) (sym (take-length text)) grew)

-- A front of a text is one of a longer text.
pub front_longer : (a b : Option (List ℕ)) (text more : List ℕ) → GrewByFront a b text → GrewByFront a b (text ++ more)
front_longer a b text more front =
    (min front.0 (length text), subst (Grew a b) (sym (take-append-le (min front.0 (length text)) text more (omega arith))) (subst (Grew a b) (sym (take_min front.0 text)) front.1))
