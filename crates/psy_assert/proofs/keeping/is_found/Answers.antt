-- What is left of the proof of `keeping::is_found`.
use Rattle.std.proofs.Common.{◌≡◌, ◌∙◌, refl, sym, ap, true, false, ◌&&◌}
use Rattle.std.specs.List.{list_any}
use Rattle.psy_assert.specs.Sums.{is_between, is_by_ends, passes, value_of, wanted_of}
use Rattle.psy_assert.proofs.Kept.{found_named, found_valued}
use Rattle.psy_assert.proofs.keeping.is_found.Goals as goal

pub returns-then-is_by_ends : goal.returns-then-is_by_ends
returns-then-is_by_ends c =
    let a = c.args.assertion.now in
    let wanted : c.wanted_of-wanted.result ≡ wanted_of a.claim = c.wanted_of-wanted.ensures in
    c.has_between.ensures false c.args.notes.now c.requires.named (sym c.is_by_ends.ensures ∙ c.if-is_by_ends.true)
    ∙ ap (λ w. list_any (λ n. is_between false c.args.named.now.cuts.items c.args.first c.args.last n && passes w (value_of n)) c.args.notes.now) wanted
    ∙ found_named a c.args.notes.now c.args.named.now c.args.first c.args.last c.requires.named c.requires.first c.requires.last

pub returns-in-Some : goal.returns-in-Some
returns-in-Some c =
    let a = c.args.assertion.now in
    let single : is_by_ends (wanted_of a.claim) ≡ false = ap is_by_ends (sym c.wanted_of-wanted.ensures) ∙ sym c.is_by_ends.ensures ∙ c.if-is_by_ends.false in
    c.has_between-in-Some.ensures true c.args.notes.now c.requires.valued refl
    ∙ found_valued a c.args.notes.now single c.args.valued.now _ _ c.requires.valued c.in-Some.ensures.first c.in-Some.ensures.last
