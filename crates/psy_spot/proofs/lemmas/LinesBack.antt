-- What stands behind the last line feed.
use Rattle.std.proofs.Common.{◌≡◌, ℕ, ◌-◌, ◌≤◌, List, ◌++◌, length, take, drop, sym, ap, ◌∙◌, arith, length-drop}
use Rattle.std.specs.Prelude.{reverse}
use Rattle.std.specs.List.{suffix_len}
use Rattle.std.proofs.lemmas.List.{length-reverse, reverse-append, reverse-reverse, take-append-drop, take_at}
use Rattle.std.proofs.lemmas.List.Sums.{suffix_len-le-length}
use Rattle.psy_tree.specs.Lexemes.{is_in_line}
use Rattle.psy_spot.specs.Spots.{line_back}

-- The last elements, from the back
reverse-take-reverse : {X : Type 0} (n : ℕ) (xs : List X) → n ≤ length xs → reverse (take n (reverse xs)) ≡ drop (length xs - n) xs
reverse-take-reverse n xs within =
    let front = take (length xs - n) xs in
    let back = drop (length xs - n) xs in
    let few : length (reverse back) ≡ n = omega (arith, length-reverse back, length-drop (length xs - n) xs) in
    let parts : reverse xs ≡ reverse back ++ reverse front = ap reverse (sym (take-append-drop (length xs - n) xs)) ∙ reverse-append front back in
    ap (λ ys. reverse (take n ys)) parts ∙ ap reverse (take_at (reverse back) (reverse front) n few) ∙ reverse-reverse back

pub line_back-is : (bytes : List ℕ) → line_back bytes ≡ drop (length bytes - suffix_len is_in_line bytes) bytes
line_back-is bytes = reverse-take-reverse (suffix_len is_in_line bytes) bytes (suffix_len-le-length is_in_line bytes)

pub length-line_back : (bytes : List ℕ) → length (line_back bytes) ≡ suffix_len is_in_line bytes
length-line_back bytes =
    omega (arith, ap length (line_back-is bytes), length-drop (length bytes - suffix_len is_in_line bytes) bytes, suffix_len-le-length is_in_line bytes)
