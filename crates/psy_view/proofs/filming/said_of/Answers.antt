-- What is left of the proof of `filming::said_of`.
use Rattle.std.proofs.Common.{ap, sym, subst, ◌∙◌, refl}
use Rattle.std.specs.Prelude.{string_bytes}
use Rattle.psy_film.specs.declared.fault.FilmFault.TheVariants as fault
use Rattle.psy_view.specs.Filming.{SaysOf}
use Rattle.psy_view.specs.Reading.{names_in}
use Rattle.psy_view.proofs.PictureLemmas.{name_at}
use Rattle.psy_view.proofs.filming.said_of.Goals as goal

pub refusal-requires : goal.refusal-requires
refusal-requires c = λ is. c.requires.written (c.in-Run.is ∙ ap fault.Run is)

pub returns-in_ok-unknown_line-in-Unknown : goal.returns-in_ok-unknown_line-in-Unknown
returns-in_ok-unknown_line-in-Unknown c =
    let place = c.in-Unknown.place in
    let asked = c.args.selection.names.now in
    let named = c.index-names-place.result in
    let at = name_at string_bytes asked place named (c.requires.place place c.in-Unknown.is) (sym c.index-names-place.is) in
    let says = SaysOf c.args.name.now c.args.program.now c.args.selection.window (names_in c.args.selection) in
    subst (λ f. says f 1 c.in_ok-unknown_line-in-Unknown.field-0.items) (sym c.in-Unknown.is)
    (string_bytes named, at, refl, rw (c.as_bytes-in-Unknown.ensures.value, c.as_bytes-in-Unknown-2.ensures.value) at c.in_ok-unknown_line-in-Unknown.ensures)
