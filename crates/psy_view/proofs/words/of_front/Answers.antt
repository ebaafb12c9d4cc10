-- What is left of the proof of `words::of_front`.
use Rattle.std.proofs.Common.{◌≡◌, sym, subst, false, map}
use Rattle.std.specs.Prelude.{string_bytes}
use Rattle.std.specs.List.{list_all}
use Rattle.psy_view.specs.Asked.{SelectNothing, is_name}
use Rattle.psy_view.specs.Reading.{IsSelected}
use Rattle.psy_view.proofs.SelectLemmas.{none_of_dates, none_of_names, of_dates, of_names, told}
use Rattle.psy_view.proofs.words.of_front.Goals as goal

pub returns-in-Some : goal.returns-in-Some
returns-in-Some c =
    let names = map string_bytes c.args.names.now in
    let window = c.in-Some.window in
    told c.of_names.result c.of_names.ensures
    (λ none. subst SelectNothing (sym c.requires) (none_of_dates c.args.from.now c.args.to.now window.from window.to names c.in-Some.ensures.0 c.in-Some.ensures.1 none))
    (λ view is. subst (λ words. IsSelected words view) (sym c.requires)
    (of_dates c.args.from.now c.args.to.now window names view c.in-Some.ensures.0 c.in-Some.ensures.1 is.0 is.1))

pub returns-in-None : goal.returns-in-None
returns-in-None c =
    let names = map string_bytes c.args.names.now in
    let words = map string_bytes c.args.words.now in
    told c.of_names-in-None.result c.of_names-in-None.ensures
    (λ none. subst SelectNothing (sym c.requires)
    (none_of_names c.args.from.now c.args.to.now names c.in-None.ensures (subst (λ w. list_all is_name w ≡ false) c.requires none)))
    (λ view is. of_names words view is.0 is.1)
