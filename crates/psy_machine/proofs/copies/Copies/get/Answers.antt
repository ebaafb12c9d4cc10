-- What is left of the proof of `copies::Copies::get`.
use Rattle.std.proofs.Common.{ap, ◌∙◌, arith}
use Rattle.std.proofs.lemmas.Int.{to_z-of_z}
use Rattle.psy_machine.proofs.Entries.{reads}
use Rattle.psy_machine.proofs.copies.Copies.get.Goals as goal

pub index-requires : goal.index-requires
index-requires c =
    let f = c.self.inside in
    omega (arith, (reads c.args.variable f.entries.items f.places.items _ c.self.view_is c.self.invariant c.requires).within, f.places.ok.0)

pub index-requires-2 : goal.index-requires-2
index-requires-2 c =
    let f = c.self.inside in
    let r = reads c.args.variable f.entries.items f.places.items _ c.self.view_is c.self.invariant c.requires in
    let at = c.index.ensures ∙ r.read c.index.result.now in
    omega (arith, at, r.found.within, f.entries.ok.0)

pub returns : goal.returns
returns c =
    let f = c.self.inside in
    let r = reads c.args.variable f.entries.items f.places.items _ c.self.view_is c.self.invariant c.requires in
    let at = c.index.ensures ∙ r.read c.index.result.now in
    let e = c.index-2.result.now in
    let value = ap (λ x. x.value) c.index-2.ensures in
    let copy = r.found.value e in
    grind (arith, to_z-of_z, at, value, copy, c.self.view_is)
