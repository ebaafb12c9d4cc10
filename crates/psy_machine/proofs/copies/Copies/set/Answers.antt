-- What is left of the proof of `copies::Copies::set`.
use Rattle.std.proofs.Common.{◌≡◌, ℕ, get_or, set, w32, to_z, of_z, ap, ◌∙◌, sym, arith}
use Rattle.std.proofs.lemmas.Int.{to_z-of_z}
use Rattle.psy_machine.specs.declared.copies.Entry.{Entry}
use Rattle.psy_machine.specs.Copying.{copies_in}
use Rattle.psy_machine.proofs.Entries.{reads, index-set}
use Rattle.psy_machine.proofs.copies.Copies.set.Goals as goal

pub index-place-requires : goal.index-place-requires
index-place-requires c =
    let f = c.self.inside in
    omega (arith, (reads c.args.variable f.entries.items f.places.items _ c.self.view_is c.self.invariant c.requires).within, f.places.ok.0)

pub index_mut-requires : goal.index_mut-requires
index_mut-requires c =
    let f = c.self.inside in
    let r = reads c.args.variable f.entries.items f.places.items _ c.self.view_is c.self.invariant c.requires in
    let at = c.index-place.ensures ∙ r.read c.index-place.result.now in
    omega (arith, at, r.found.within, f.entries.ok.0)

pub invariant_of-self : goal.invariant_of-self
invariant_of-self c =
    let f = c.self.inside in
    let r = reads c.args.variable f.entries.items f.places.items _ c.self.view_is c.self.invariant c.requires in
    let at = c.index-place.ensures ∙ r.read c.index-place.result.now in
    let e = c.index_mut.result.now in
    index-set f.entries.items f.places.items c.index-place.result.now _ e c.self.invariant (ap (λ (x : Entry). x.variable) c.index_mut.ensures.value) (omega (arith, at, r.found.within))

pub returns : goal.returns
returns c =
    let f = c.self.inside in
    let es = f.entries.items in
    let r = reads c.args.variable es f.places.items _ c.self.view_is c.self.invariant c.requires in
    let at = c.index-place.ensures ∙ r.read c.index-place.result.now in
    let e = c.index_mut.result.now in
    let v = c.args.value in
    let value : to_z w32 (of_z w32 v) ≡ v = grind (arith, to_z-of_z) in
    let entry : e ≡ get_or es r.found.place e = c.index_mut.ensures.value ∙ ap (λ n. get_or es n e) at in
    let here = ap (λ (n : ℕ). copies_in (set es n (record e { value = v }))) at in
    let same = ap (λ (x : Entry). copies_in (set es r.found.place (record x { value = v }))) entry in
    rw value (rw (← c.self.view_is) (here ∙ same ∙ sym (r.found.changed e v)))
