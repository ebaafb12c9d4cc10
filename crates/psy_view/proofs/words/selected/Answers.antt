-- What is left of the proof of `words::selected`.
use Rattle.std.proofs.Common.{sym, subst, ◌<◌, map}
use Rattle.std.specs.Prelude.{string_bytes}
use Rattle.std.proofs.lemmas.List.{length-map}
use Rattle.psy_view.proofs.SelectLemmas.{none_of_few, of_names, told}
use Rattle.psy_view.proofs.words.selected.Goals as goal

pub returns-in_default : goal.returns-in_default
returns-in_default c =
    let words = map string_bytes c.args.words.now in
    told c.of_names.result c.of_names.ensures
    (λ none. none_of_few words (subst (λ n. n < 2) (sym (length-map c.args.words.now string_bytes)) c.in_default.len_below) none)
    (λ view is. of_names words view is.0 is.1)
