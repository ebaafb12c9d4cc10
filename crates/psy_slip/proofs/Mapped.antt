-- Lengths and fronts of lists that are seen otherwise.
use Rattle.std.proofs.Common.{◌≡◌, ℕ, List, length, map, take}
use Rattle.std.proofs.lemmas.List.{length-map, take-map}

pub length_of_map : {A B : Type 0} (f : A → B) (xs : List A) → length (map f xs) ≡ length xs
length_of_map f xs = length-map xs f

pub front_of_map : {A B : Type 0} (f : A → B) (n : ℕ) (xs : List A) → take n (map f xs) ≡ map f (take n xs)
front_of_map f n xs = take-map f n xs
