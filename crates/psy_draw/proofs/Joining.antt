-- Texts that are added one behind the other.
use Rattle.std.proofs.Common.{◌≡◌, ℕ, ◌+◌, Bool, false, cond, List, [], ◌++◌, sym, ap, subst, ◌∙◌, append_assoc}
use Rattle.std.specs.List.{flat_map, range_with_len}
use Rattle.std.proofs.lemmas.List.{flat_map_more}
use Rattle.psy_lists.proofs.lemmas.Ranges.{range_more}

-- Three texts
pub three : (a b c old one two new : List ℕ) → one ≡ old ++ a → two ≡ one ++ b → new ≡ two ++ c → new ≡ old ++ (a ++ (b ++ c))
three a b c old one two new e f g =
    g ∙ ap (λ t. t ++ c) (f ∙ ap (λ t. t ++ b) e ∙ append_assoc old a b) ∙ append_assoc old (a ++ b) c ∙ ap (λ t. old ++ t) (append_assoc a b c)

-- Six texts, behind none
pub six : (a b c d e f one two three four five new : List ℕ) → one ≡ a → two ≡ one ++ b → three ≡ two ++ c → four ≡ three ++ d → five ≡ four ++ e → new ≡ five ++ f
    → new ≡ a ++ (b ++ (c ++ (d ++ (e ++ f))))
six a b c d e f one two between later last new p q r s t u =
    u ∙ ap (λ x. x ++ f) t ∙ append_assoc later e f ∙ ap (λ x. x ++ (e ++ f)) (s ∙ ap (λ x. x ++ d) (r ∙ ap (λ x. x ++ c) (q ∙ ap (λ x. x ++ b) p)))
    ∙ append_assoc (((a ++ b) ++ c)) d (e ++ f) ∙ append_assoc (a ++ b) c (d ++ (e ++ f)) ∙ append_assoc a b (c ++ (d ++ (e ++ f)))

-- A text of one that may stay out
pub text_else : (b : Bool) (old text new : List ℕ) → b ≡ false → new ≡ old ++ text → new ≡ old ++ cond b [] text
text_else b old text new out e = subst (λ t. new ≡ old ++ cond t [] text) (sym out) e

-- The second of two numbers
pub number_else : (b : Bool) (one two n : ℕ) → b ≡ false → n ≡ two → n ≡ cond b one two
number_else b one two n out e = subst (λ t. n ≡ cond t one two) (sym out) e

-- The text of one number more
pub numbered : (f : ℕ → List ℕ) (n : ℕ) (old text new : List ℕ) → text ≡ old ++ flat_map f (range_with_len 0 n) → new ≡ text ++ f n → new ≡ old ++ flat_map f (range_with_len 0 (n + 1))
numbered f n old text new before now =
    now ∙ ap (λ t. t ++ f n) before ∙ flat_map_more f old (range_with_len 0 n) n ∙ ap (λ xs. old ++ flat_map f xs) (sym (range_more n))
