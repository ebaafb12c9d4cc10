-- What writing two texts in a row did.
use Rattle.std.proofs.Common.{◌≡◌, ◌∙◌, sym, subst, ap, ℕ, ◌+◌, ◌≤◌, List, ◌++◌, take, length, Option, arith, Result, Ok, Err, inl, inr}
use Rattle.std.proofs.lemmas.Bool.{cases_lt}
use Rattle.std.proofs.lemmas.List.{take-append-le, take_all}
use Rattle.std.proofs.Math.Seq.{take-append-add, take-append_seam}
use Rattle.psy_run.proofs.lemmas.Growth.{Grew-trans}
use Rattle.psy_door.specs.Growth.{Grew, GrewByFront}
use Rattle.psy_log.specs.declared.write.WriteFault.{WriteFault}
use Rattle.psy_log.specs.Writing.{Written}

-- A front of a text is a front of the text with more behind it
pub GrewByFront-append : (a b : Option (List ℕ)) (p q : List ℕ) → GrewByFront a b p → GrewByFront a b (p ++ q)
GrewByFront-append a b p q h = elim (cases_lt (length p) h.0) [
  | inr le ↦ (h.0, subst (λ text. Grew a b text) (sym (take-append-le h.0 p q le)) h.1)
  | inl lt ↦
      let all : length p ≤ h.0 = omega arith in
      (length p, subst (λ text. Grew a b text) (take_all h.0 p all ∙ sym (take-append_seam p q)) h.1)
]

-- A text, and a front of the next one
pub Grew-GrewByFront : (a b c : Option (List ℕ)) (p q : List ℕ) → Grew a b p → GrewByFront b c q → GrewByFront a c (p ++ q)
Grew-GrewByFront a b c p q first second =
    (length p + second.0, subst (λ text. Grew a c text) (sym (take-append-add p q second.0)) (Grew-trans a b c p (take second.0 q) first second.1))

-- A text, and what was written of the next one
pub Written-append : (a b c : Option (List ℕ)) (result : Result (Unit {0}) WriteFault) (p q : List ℕ) → Grew a b p → Written b c result q → Written a c result (p ++ q)
Written-append a b c (Ok done) p q first second = Grew-trans a b c p q first second
Written-append a b c (Err fault) p q first second = Grew-GrewByFront a b c p q first second

-- A text so far, and the whole next item of it
pub Grew-item : (a b c : Option (List ℕ)) (so_far item next : List ℕ) → next ≡ so_far ++ item → Grew a b so_far → Grew b c item → Grew a c next
Grew-item a b c so_far item next is first second = subst (Grew a c) (sym is) (Grew-trans a b c so_far item first second)

-- A text so far, and a front of its next item: a front of the whole text
pub GrewByFront-item : (a b c : Option (List ℕ)) (so_far item next rest whole : List ℕ) → next ≡ so_far ++ item → whole ≡ next ++ rest → Grew a b so_far → GrewByFront b c item → GrewByFront a c whole
GrewByFront-item a b c so_far item next rest whole is all first second =
    subst (GrewByFront a c) (sym (all ∙ ap (λ front. front ++ rest) is)) (GrewByFront-append a c (so_far ++ item) rest (Grew-GrewByFront a b c so_far item first second))
