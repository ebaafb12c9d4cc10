-- The numbers of a round, by the words of its line.
use Rattle.std.proofs.Common.{◌≡◌, refl, ap, ap₂, ℕ, Bool, true, false, cond, ◌&&◌, ◌||◌, List, [], ◌∷◌, map, Option, Some, None, eqb, arith}
use Rattle.std.specs.Option.{option_and_then, option_map, unwrap_or}
use Rattle.std.specs.List.{list_all}
use Rattle.std.proofs.lemmas.Bool.Decides.{nat_tests}
use Rattle.psy_text.specs.Words.{is_number}
use Rattle.psy_tree.specs.Lexemes.{decimal_value}
use Rattle.psy_script.specs.Entries.{number_or_0, repeats}
use Rattle.psy_script.specs.Script.{has_same, numbers_of}
use Rattle.psy_script.proofs.Stated.{any_same}

-- One word more, which may be a number, before others that may be
one_more : (b r : Bool) (n : ℕ) (ns : List ℕ) (rest : Option (List ℕ)) → rest ≡ cond r (Some ns) None
    → option_and_then (λ m. option_map (λ ms. m ∷ ms) rest) (cond b (Some n) None) ≡ cond (b && r) (Some (unwrap_or (cond b (Some n) None) 0 ∷ ns)) None
one_more true true n ns rest e = ap (option_map (λ ms. n ∷ ms)) e
one_more true false n ns rest e = ap (option_map (λ ms. n ∷ ms)) e
one_more false r n ns rest e = refl

-- Where each word is a number, the numbers are those of the words.
pub numbers_are : (words : List (List ℕ)) → numbers_of words ≡ cond (list_all is_number words) (Some (map number_or_0 words)) None
numbers_are [] = refl
numbers_are (word ∷ words) = one_more (is_number word) (list_all is_number words) (decimal_value word) (map number_or_0 words) (numbers_of words) (numbers_are words)

-- Of two numbers either may stand first.
eqb_swap : (n m : ℕ) → eqb m n ≡ eqb n m
eqb_swap n m = grind (arith, nat_tests)

-- By the test of numbers, a number stands there twice.
pub same_repeats : (ns : List ℕ) → repeats eqb ns ≡ has_same ns
same_repeats [] = refl
same_repeats (n ∷ ns) = ap₂ (λ a b. a || b) (any_same (λ m. eqb m n) (λ m. eqb n m) (eqb_swap n) ns) (same_repeats ns)
