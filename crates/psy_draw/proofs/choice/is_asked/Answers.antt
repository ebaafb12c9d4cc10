-- What is left of the proof of `choice::is_asked`.
use Rattle.std.proofs.Common.{◌≡◌, ◌==◌, ◌||◌, false, bytes_eq, length, map, sym, ap, ◌∙◌}
use Rattle.std.specs.Prelude.{string_bytes}
use Rattle.std.specs.List.{list_any}
use Rattle.std.proofs.lemmas.List.{length-map}
use Rattle.psy_lists.proofs.lemmas.Searches.{list_any-map}
use Rattle.psy_draw.proofs.choice.is_asked.Goals as goal

pub returns-else-is_empty : goal.returns-else-is_empty
returns-else-is_empty c =
    let some : (length (map string_bytes c.args.names.now) == 0) ≡ false = ap (λ n. n == 0) (length-map c.args.names.now string_bytes) ∙ sym c.is_empty.ensures ∙ c.if-is_empty.false in
    c.is_among.ensures ∙ sym (list_any-map (bytes_eq c.args.name.now) string_bytes c.args.names.now) ∙ sym (ap (λ b. b || list_any (bytes_eq c.args.name.now) (map string_bytes c.args.names.now)) some)
