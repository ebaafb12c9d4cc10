-- What is left of the proof of `names::Names::add`.
use Rattle.std.proofs.Common.{◌≡◌, map, refl, sym, ap, subst, ◌∙◌}
use Rattle.psy_passes.specs.Names.{AreDistinct, with_name}
use Rattle.psy_passes.proofs.NameTables.{names_inserted}
use Rattle.psy_passes.proofs.lemmas.Distinct.{distinct_added}
use Rattle.psy_passes.proofs.names.Names.add.Goals as goal

pub invariant_of-self-2 : goal.invariant_of-self-2
invariant_of-self-2 c =
    let old = c.self.inside.table.keys in
    let new = c.insert.new.self.keys in
    let is : map (λ k. k.now) new ≡ with_name (map (λ k. k.now) old) c.args.name.now =
    ap (map (λ k. k.now)) c.in_ok-insert.ensures.keys ∙ names_inserted (λ k. k.now) _ (λ x y. refl) old c.args.name in
    subst AreDistinct (sym is) (distinct_added (map (λ k. k.now) old) c.args.name.now c.self.invariant)

pub returns : goal.returns
returns c =
    ap (map (λ k. k.now)) c.in_ok-insert.ensures.keys ∙ names_inserted (λ k. k.now) _ (λ x y. refl) c.self.inside.table.keys c.args.name
    ∙ ap (λ names. with_name names c.args.name.now) c.self.view_is
