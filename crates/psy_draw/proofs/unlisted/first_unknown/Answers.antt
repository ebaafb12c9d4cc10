-- What is left of the proof of `unlisted::first_unknown`.
use Rattle.std.proofs.Common.{rules, ◌≡◌, ℕ, List, get_or, not, sym, ap, ◌∙◌, arith}
use Rattle.std.specs.Prelude.{string_bytes}
use Rattle.psy_lists.proofs.lemmas.Searches.{position-map}
use Rattle.psy_draw.specs.Tables.{has_name}
use Rattle.psy_draw.proofs.Failing.{failing_found, failing_never}
use Rattle.psy_draw.proofs.unlisted.first_unknown.Goals as goal

pub returns-then-not-is_named : goal.returns-then-not-is_named
returns-then-not-is_named c =
    let item : get_or c.args.names.now c.loop-place.place c.index-names-place.result ≡ c.index-names-place.result = search rules in
    sym (position-map (λ (name : List ℕ). not (has_name c.args.listed.now name)) string_bytes c.args.names.now
    ∙ failing_found (λ name. has_name c.args.listed.now (string_bytes name)) c.args.names.now c.loop-place.place c.index-names-place.result c.loop-place-test.true c.loop-place.invariant
    (ap (λ name. has_name c.args.listed.now (string_bytes name)) item ∙ sym c.is_named.ensures ∙ c.if-not-is_named.true))

pub returns : goal.returns
returns c =
    sym (position-map (λ (name : List ℕ). not (has_name c.args.listed.now name)) string_bytes c.args.names.now
    ∙ failing_never (λ name. has_name c.args.listed.now (string_bytes name)) c.args.names.now (λ k d under. c.loop-place.invariant k d (omega (arith, under, c.loop-place-test.false))))
