-- What is left of the proof of `line_front::open_front`.
use Rattle.std.proofs.Common.{◌∙◌, sym}
use Rattle.psy_notes.proofs.Shapes.{none_comes, some_bytes}
use Rattle.psy_notes.proofs.line_front.open_front.Goals as goal

pub returns-else-is_part : goal.returns-else-is_part
returns-else-is_part c =
    let whole = sym c.is_part.ensures ∙ c.if-is_part.false in
    (some_bytes c.args.bytes.now whole, none_comes c.args.stand c.args.bytes.now c.requires whole)
