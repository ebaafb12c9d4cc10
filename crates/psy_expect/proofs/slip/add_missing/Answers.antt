-- What is left of the proof of `slip::add_missing`.
use Rattle.std.proofs.Common.{◌≡◌, ℕ, List, ◌++◌, map, codes, ap, ◌∙◌, append_assoc}
use Rattle.psy_expect.specs.Phrases.{phrase_words, listed}
use Rattle.psy_expect.proofs.slip.add_missing.Goals as goal

joined : (out head told end : List ℕ) → ((out ++ head) ++ told) ++ end ≡ out ++ ((head ++ told) ++ end)
joined out head told end = simp append_assoc

pub returns : goal.returns
returns c =
    let told = listed (map phrase_words c.args.missing.now) in
    c.in_ok-extend_from_slice-2.ensures.items
    ∙ ap (λ (b : List ℕ). b ++ codes " is missing before this\n") (c.in_ok-add_listed.ensures ∙ ap (λ (b : List ℕ). b ++ told) c.in_ok-extend_from_slice.ensures.items)
    ∙ joined c.args.out.now.items (codes "hint: ") told (codes " is missing before this\n")
