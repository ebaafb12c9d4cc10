-- What is left of the proof of `text_reel::TextReel::bytes_under`.
use Rattle.std.proofs.Common.{◌∙◌, sym, ap, [], cond, bytes_eq}
use Rattle.psy_reel.proofs.lemmas.OneFile.{bytes_of_one}
use Rattle.psy_reel.proofs.text_reel.TextReel.bytes_under.Goals as goal

pub returns-then-eq : goal.returns-then-eq
returns-then-eq c =
    let name = c.args.name.now in
    let reel = c.args.self.now in
    ap (λ r. r.text) c.self.view_is
    ∙ ap (λ b. cond b reel.text [])
    (c.if-eq.ensures ∙ ap (λ n. bytes_eq n c.self.inside.name.now) c.as_bytes.ensures.value ∙ ap (λ r. bytes_eq name r.name) c.self.view_is)
    ∙ sym (bytes_of_one reel.name reel.text name)

pub returns-else-eq : goal.returns-else-eq
returns-else-eq c =
    let name = c.args.name.now in
    let reel = c.args.self.now in
    ap (λ b. cond b reel.text [])
    (c.if-eq.ensures ∙ ap (λ n. bytes_eq n c.self.inside.name.now) c.as_bytes.ensures.value ∙ ap (λ r. bytes_eq name r.name) c.self.view_is)
    ∙ sym (bytes_of_one reel.name reel.text name)
