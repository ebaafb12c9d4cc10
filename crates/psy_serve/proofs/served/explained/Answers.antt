-- What is left of the proof of `served::explained`.
use Rattle.std.proofs.Common.{◌++◌, ℕ, List, ap, subst, ◌∙◌}
use Rattle.psy_where.specs.Explained.{Explains}
use Rattle.psy_serve.proofs.served.explained.Goals as goal

pub returns : goal.returns
returns c =
    let text = c.in-Ok.text.items in
    let explains = subst (λ (name : List ℕ). Explains name c.args.bytes.now c.args.line.now text) c.as_bytes.ensures.value c.in-Ok.ensures.explains in (
      text,
      c.in-Ok-asked_for.asked.items,
      explains,
      c.in-Ok-asked_for.ensures,
      c.in_ok-whole.ensures ∙ ap (λ (more : List ℕ). text ++ more) c.as_slice.ensures.value,
    )
