-- What is left of the proof of `series::Series::add_message`.
use Rattle.std.proofs.Common.{ℕ, List, sym, ap, subst, ◌∙◌}
use Rattle.std.specs.Prelude.{OnOk}
use Rattle.psy_draw.specs.Columns.{Dated, is_there}
use Rattle.psy_draw.specs.Gathering.{AddsEach}
use Rattle.psy_draw.specs.Scales.{place_by}
use Rattle.psy_draw.specs.Told.{said_of}
use Rattle.psy_draw.proofs.series.Series.add_message.Goals as goal

pub returns-in-Some-clause-added : goal.returns-in-Some-clause-added
returns-in-Some-clause-added c =
    let place = place_by c.args.scale.now in
    let P : (List ℕ → List Dated) → Type 0 = λ more. OnOk c.add_told.result (AddsEach place (is_there place) more c.args.self.now c.add_told.new.self) in
    let told = λ (name : List ℕ). sym (ap (said_of name) c.in-Some.is) ∙ c.message_within.ensures name in
    subst P (λ i name. told name i) c.add_told.ensures.added
