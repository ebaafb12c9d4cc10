-- What is left of the proof of `columns::joins`.
use Rattle.std.proofs.Common.{Bool, sym, subst}
use Rattle.std.specs.Option.{option_copied}
use Rattle.psy_draw.specs.Columns.{Judges, rule}
use Rattle.psy_draw.proofs.columns.joins.Goals as goal

pub returns-else-of_variable : goal.returns-else-of_variable
returns-else-of_variable c = λ place at.
    let P : Bool → Type 0 = λ b. Judges place (rule b place) c.joins_place.result (option_copied c.args.last) c.args.one.now in
    subst P (sym c.if-of_variable.false) (c.joins_place.ensures place at)
