-- What is left of the proof of `served::explanation_over`.
use Rattle.std.proofs.Common.{ℕ, List, ◌++◌, Global, codes, map, refl, string_bytes, sym, subst}
use Rattle.std.proofs.lemmas.Option.{IfSome_then}
use Rattle.psy_serve.specs.Behind.{IsExplanation}
use Rattle.psy_serve.proofs.Growing.{beside_over, explained_whole}
use Rattle.psy_serve.specs.Behind.{explained, explained_beside}
use Rattle.psy_serve.proofs.served.explanation_over.Goals as goal

pub returns-clause-explained : goal.returns-clause-explained
returns-clause-explained g c =
    let line = c.args.line.now in
    let name = c.in_ok-name.name.now in
    let bytes = c.in_ok-bytes.bytes.items in
    let more = c.in_ok-more.more.items in
    explained line name bytes more refl (sym c.in_ok-name.ensures) c.in_ok-bytes.ensures.bytes
    (subst (λ (b : List ℕ). IsExplanation name b line more) c.as_slice.ensures.value c.in_ok-more.ensures)

pub returns-in-Some-clause-explained : goal.returns-in-Some-clause-explained
returns-in-Some-clause-explained g c =
    let line = c.args.line.now in
    let name = c.in_ok-name.name.now in
    let bytes = c.in_ok-bytes.bytes.items in
    let more = c.in_ok-more.more.items in
    let told = c.as_slice-in-Some.result.now in
    let words = map (string_bytes {Z = Global}) c.args.words.now in
    let files = g.F.Shelf.files c.args.shelf.now in
    let tells = beside_over words (g.F.Shelf.files c.bytes_of.new.shelf) files c.as_slice-2.result.now bytes line c.in-Some.told.items told
    c.in_ok-bytes.ensures.shelf.1 c.as_slice-2.ensures.value c.as_slice-in-Some.ensures.value c.in-Some.ensures.beside in
    IfSome_then c.joined.result c.joined.ensures
    (λ whole is.
    explained_whole words files (line ++ codes "\n") (more ++ told) whole.items is
    (explained_beside line name bytes more told refl (sym c.in_ok-name.ensures) c.in_ok-bytes.ensures.bytes
    (subst (λ (b : List ℕ). IsExplanation name b line more) c.as_slice.ensures.value c.in_ok-more.ensures) tells))
