-- The last line behind one byte more.
use Rattle.std.proofs.Common.{◌≡◌, ℕ, ◌+◌, ◌<◌, ◌≤◌, ◌==◌, List, [], ◌∷◌, ◌++◌, take, inl, inr, refl, sym, ap, ◌∙◌, arith}
use Rattle.std.proofs.lemmas.Bool.{cases_lt}
use Rattle.std.proofs.lemmas.List.{length_push}
use Rattle.psy_last.specs.declared.tail.Tail.{Tail}
use Rattle.psy_last.specs.Lasts.{is_over}
use Rattle.psy_last.specs.Tails.{IsTail}

-- A line is over where its last byte is a line feed.
is_over-push : (line : List ℕ) (b : ℕ) → is_over (line ++ b ∷ []) ≡ b == 10
is_over-push [] b = refl
is_over-push (x ∷ []) b = refl
is_over-push (x ∷ y ∷ line) b = is_over-push (y ∷ line) b

-- What is told of a line that isn't over is told of it with a byte more.
pub IsTail-add : (old new : Tail) (line : List ℕ) (b : ℕ) → IsTail old line
    → (old.length < 128 → (new.length ≡ old.length + 1) × (take new.length new.bytes ≡ take old.length old.bytes ++ b ∷ []))
    → (128 ≤ old.length → new.length ≡ 129) → new.is_over ≡ b == 10 → IsTail new (line ++ b ∷ [])
IsTail-add old new line b is kept long over = elim (cases_lt old.length 128) [
  | inl less ↦
      let more = kept less in
      record {
        short = λ few. ap (λ l. l ++ b ∷ []) (is.short (omega (arith, less))) ∙ sym more.1;
        count = λ few. omega (arith, length_push line b, is.count (omega (arith, less)), more.0);
        long = λ much. absurd (omega (arith, less, more.0, much));
        over = over ∙ sym (is_over-push line b);
      }
  | inr full ↦
      let past = long full in
      record {
        short = λ few. absurd (omega (arith, past, few));
        count = λ few. absurd (omega (arith, past, few));
        long = λ much. elim (cases_lt 128 old.length) [
          | inl beyond ↦ omega (arith, length_push line b, is.long beyond)
          | inr at ↦ omega (arith, length_push line b, is.count at, full)
        ];
        over = over ∙ sym (is_over-push line b);
      }
]
