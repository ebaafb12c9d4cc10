-- What is left of the proof of `head::put_head`.
use Rattle.std.proofs.Common.{◌≡◌, ◌++◌, [], ◌∷◌, OnOk, List, ℕ, decimal, ap, subst, ◌∙◌}
use Rattle.std.specs.List.{flat_map}
use Rattle.psy_draw.specs.declared.head.TheConstants.{HEAD}
use Rattle.psy_draw.specs.declared.style.TheConstants.{STYLE}
use Rattle.psy_draw.specs.Titles.{title_end}
use Rattle.psy_page.specs.Spelling.{escaped}
use Rattle.psy_page.specs.Templates.{fill}
use Rattle.psy_draw.proofs.head.put_head.Goals as goal

pub returns : goal.returns
returns c =
    let frame = c.args.frame.now in
    let scale = c.args.scale.now in
    let P : List ℕ → Type 0 = λ name. OnOk c.fill.result (c.fill.new.self ≡ c.args.page.now ++ fill HEAD.now (decimal frame.width ∷ decimal frame.height
    ∷ decimal frame.width ∷ decimal frame.height ∷ flat_map escaped name ∷ decimal scale.from ∷ decimal scale.to ∷ STYLE.now ∷ flat_map escaped name
    ∷ decimal scale.from ∷ decimal scale.to ∷ [])) in
    subst P (c.end_of-name.ensures ∙ ap title_end c.as_bytes.ensures.value) c.fill.ensures
