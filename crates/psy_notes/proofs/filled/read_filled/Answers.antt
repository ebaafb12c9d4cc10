-- What is left of the proof of `filled::read_filled`.
use Rattle.std.proofs.Common.{◌≡◌, List, [], ◌∷◌, ◌++◌, map, refl, sym, ap, subst, ◌∙◌, arith}
use Rattle.psy_log.specs.Table.{Place, place_of}
use Rattle.psy_notes.specs.Reading.{end_of, said_of}
use Rattle.psy_notes.proofs.Filling.{Halfway, at_last, no_fields, no_filling, no_word, one_more, stuck}
use Rattle.psy_notes.proofs.filled.read_filled.Goals as goal

pub returns-in_err-word-clause-none : goal.returns-in_err-word-clause-none
returns-in_err-word-clause-none c = λ u.
    let places = map place_of c.args.fields.now in
    let text = c.args.text.now in
    let done = map said_of c.filling.contents.items in
    let rest = c.filling.rest.now in
    let field = place_of c.in-Some.field.now in
    let next = map place_of c.in-Some.next.now in
    let half : Halfway places text done (field ∷ next) rest = subst (λ (left : List Place). Halfway places text done left rest) (ap (map place_of) c.in-Some.ensures.cases.0) c.filling.invariant.0 in
    stuck places text done next rest [] [] field half
    (no_word places text done next rest [] [] field half (λ first more plain is. c.in_err-word.ensures.none refl first more plain (is ∙ ap (λ end. first ++ end ∷ more) (sym c.end_before.ensures))))

pub returns-in_err-fill-clause-none : goal.returns-in_err-fill-clause-none
returns-in_err-fill-clause-none c = λ u.
    let places = map place_of c.args.fields.now in
    let text = c.args.text.now in
    let done = map said_of c.filling.contents.items in
    let rest = c.filling.rest.now in
    let field = place_of c.in-Some.field.now in
    let next = map place_of c.in-Some.next.now in
    let half : Halfway places text done (field ∷ next) rest = subst (λ (left : List Place). Halfway places text done left rest) (ap (map place_of) c.in-Some.ensures.cases.0) c.filling.invariant.0 in
    let word = c.in_ok-word.word.now in
    let behind = c.in_ok-word.behind.now in
    let cut : rest ≡ word ++ end_of next ∷ behind = c.in_ok-word.ensures.some.1 ∙ ap (λ end. word ++ end ∷ behind) c.end_before.ensures in
    stuck places text done next rest word behind field half (no_filling places text done next rest word behind field half c.in_ok-word.ensures.some.0 cut (c.in_err-fill.ensures.none refl))

pub filling-preserved : goal.filling-preserved
filling-preserved c =
    let places = map place_of c.args.fields.now in
    let text = c.args.text.now in
    let done = map said_of c.filling.contents.items in
    let rest = c.filling.rest.now in
    let field = place_of c.in-Some.field.now in
    let next = map place_of c.in-Some.next.now in
    let half : Halfway places text done (field ∷ next) rest = subst (λ (left : List Place). Halfway places text done left rest) (ap (map place_of) c.in-Some.ensures.cases.0) c.filling.invariant.0 in
    let word = c.in_ok-word.word.now in
    let behind = c.in_ok-word.behind.now in
    let cut : rest ≡ word ++ end_of next ∷ behind = c.in_ok-word.ensures.some.1 ∙ ap (λ end. word ++ end ∷ behind) c.end_before.ensures in (
      one_more places text done next rest word behind field (map said_of c.fill.new.contents.items) half c.in_ok-word.ensures.some.0 cut c.in_ok-fill.ensures.some,
      omega (arith, c.in_ok-fill.ensures.room, c.filling.invariant.1, c.in-Some.ensures.cases.1),
    )

pub returns-clause-some : goal.returns-clause-some
returns-clause-some c =
    let places = map place_of c.args.fields.now in
    let text = c.args.text.now in
    let done = map said_of c.filling.contents.items in
    let rest = c.filling.rest.now in
    let none = no_fields c.filling.left.now c.in_default.ensures.cases in
    let half : Halfway places text done [] rest = subst (λ (left : List Place). Halfway places text done left rest) none c.filling.invariant.0 in
    at_last places text done rest half
