-- The lines that may end in one of two ways, in one piece.
use Rattle.std.proofs.Common.{◌≡◌, ℕ, List, ◌++◌, Option, None, Some, codes, sym, append_assoc}
use Rattle.std.specs.Prelude.{decimal}
use Rattle.psy_log.specs.Forms.{at_place, infeasible_line, on_processor, refused_line}

nine : (a b c d e f g h i : List ℕ) → ((((((a ++ b) ++ c) ++ d) ++ e) ++ f) ++ (g ++ h)) ++ i ≡ a ++ (b ++ (c ++ (d ++ (e ++ (f ++ (g ++ (h ++ i)))))))
nine a b c d e f g h i = simp append_assoc

seven : (a b c d e f g : List ℕ) → ((((a ++ b) ++ c) ++ d) ++ (e ++ f)) ++ g ≡ a ++ (b ++ (c ++ (d ++ (e ++ (f ++ g)))))
seven a b c d e f g = simp append_assoc

pub infeasible_line-pieces : (length demand supply : ℕ) (processor : Option ℕ) → infeasible_line length demand supply processor
    ≡ codes "infeasible " ++ decimal length ++ codes " " ++ decimal demand ++ codes " " ++ decimal supply ++ on_processor processor ++ codes "\n"
infeasible_line-pieces length demand supply None = simp append_assoc
infeasible_line-pieces length demand supply (Some processor) =
    sym (nine (codes "infeasible ") (decimal length) (codes " ") (decimal demand) (codes " ") (decimal supply) (codes " on ") (decimal processor) (codes "\n"))

pub refused_line-pieces : (what : List ℕ) (number : ℕ) (at : Option ℕ) → refused_line what number at
    ≡ codes "refused " ++ what ++ codes " " ++ decimal number ++ at_place at ++ codes "\n"
refused_line-pieces what number None = simp append_assoc
refused_line-pieces what number (Some at) = sym (seven (codes "refused ") what (codes " ") (decimal number) (codes " at ") (decimal at) (codes "\n"))
