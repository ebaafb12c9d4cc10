-- What is left of the proof of `programs::dotted_of`.
use Rattle.std.proofs.Common.{subst, sym, ap, ◌∙◌, ℕ, List, [], ◌∷◌, map}
use Rattle.psy_draw.specs.Folded.{folded_of}
use Rattle.psy_draw.specs.Homes.{housed_of}
use Rattle.psy_match.specs.Homes.{homes_in}
use Rattle.psy_view.specs.Asked.{DotOf}
use Rattle.psy_view.specs.Pairing.{IsGraphMatched}
use Rattle.psy_view.specs.Views.{AreLines, ViewOf, dotted_of}
use Rattle.psy_view.proofs.programs.dotted_of.Goals as goal

pub returns-in_ok-dot_by_point-in-Of : goal.returns-in_ok-dot_by_point-in-Of
returns-in_ok-dot_by_point-in-Of c =
    let name = c.args.name.now in
    let program = c.args.program.now in
    let bytes = c.args.bytes.now in
    let text = c.args.text.now in
    let read = c.in-Of.pair.program in
    let own = subst (IsGraphMatched name program bytes text) c.in-Of.is c.in_ok-matched.ensures in
    let are : AreLines text c.in_ok-lines-in-Of.lines = (read.tokens, own.2.tokens_of, rw c.as_slice.ensures at c.in_ok-lines-in-Of.ensures) in
    let view : List ℕ → Type 0 = λ told. ViewOf (DotOf name program) (bytes ∷ text ∷ []) 0 told in
    let homes = ap (map housed_of) c.as_slice-in-Of-2.ensures.value ∙ c.in_ok-homes-in-Of.ensures in
    let told =
    c.in_ok-dot_by_point-in-Of.ensures ∙ ap (λ hs. folded_of hs c.as_slice-in-Of-3.result.now c.as_slice-in-Of.result.now) homes ∙ ap (λ ls. folded_of (homes_in read.unit) ls c.as_slice-in-Of.result.now) c.as_slice-in-Of-3.ensures
    ∙ ap (λ ns. folded_of (homes_in read.unit) c.in_ok-lines-in-Of.lines ns) c.as_slice-in-Of.ensures.value in
    subst view (sym told) (dotted_of name program bytes text c.in-Of.pair.notes.items read.unit c.in_ok-lines-in-Of.lines own.0 are)
