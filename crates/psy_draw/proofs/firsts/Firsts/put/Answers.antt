-- What is left of the proof of `firsts::Firsts::put`.
use Rattle.std.proofs.Common.{◌≡◌, ℕ, List, [], ◌∷◌, Option, None, Some, bytes_eq, cond, sym, ap, ◌∙◌}
use Rattle.psy_draw.specs.Columns.{dated}
use Rattle.psy_draw.specs.declared.values.Told.{Told}
use Rattle.psy_draw.specs.Told.{values_of}
use Rattle.psy_draw.proofs.Eachs.{each_put, place_within, said_one}
use Rattle.psy_draw.proofs.firsts.Firsts.put.Goals as goal

pub returns-in-Some-clause-told : goal.returns-in-Some-clause-told
returns-in-Some-clause-told c = λ values are.
    let firsts = c.args.self.now in
    let name = c.args.name.now in
    let v = dated c.args.told.date c.args.told.value in
    let at = sym c.place.ensures.place ∙ c.in-Some.is in
    let P : List ℕ → Option Told → Type 0 = λ n t. values_of t ≡ values n in
    let Q : List ℕ → Option Told → Type 0 = λ n t. values_of t ≡ cond (bytes_eq name n) (v ∷ []) (values n) in
    each_put P Q None name firsts.names firsts.told.items c.in-Some.place (Some c.args.told)
    (place_within name firsts.names c.in-Some.place _ at firsts.as_many) at are (sym (said_one name v (values name)))
    (λ other y apart is. is ∙ sym (ap (λ b. cond b (v ∷ []) (values other)) apart))
