-- The publications of a trace are those that its judge asks for: one at each date of a variable, in the place that is due.
use Rattle.std.proofs.Common.{◌≡◌, ◌∙◌, refl, sym, ap, subst, ℕ, zero, suc, ◌+◌, ◌%◌, ◌<◌, ◌==◌, true, List, [], ◌∷◌, ◌++◌, length, get_or, arith}
use Rattle.std.specs.List.{range_with_len}
use Rattle.std.proofs.lemmas.Bool.{and_from, eq-eqb, le-leb}
use Rattle.std.proofs.lemmas.List.{length-map}
use Rattle.std.proofs.lemmas.List.FromFn.{length-range_with_len}
use Rattle.psy_base.specs.declared.sizes.Sizes.{Sizes}
use Rattle.psy_clock.specs.Dates.{count, date}
use Rattle.psy_history.specs.Actions.{System, publishing}
use Rattle.psy_audit.specs.declared.said.Publication.{Publication}
use Rattle.psy_audit.specs.Publications.{is_next, is_number, is_published}
use Rattle.psy_audit.specs.Traces.{Judged, Lines, publications_of}
use Rattle.psy_legal.proofs.Lists.{split_map}
use Rattle.psy_legal.proofs.Told.{Tells, judge, publication_number}

-- Where a range is split, as many stand before as the number is far in.
range_split : (from n : ℕ) (front : List ℕ) (k : ℕ) (back : List ℕ) → range_with_len from n ≡ front ++ k ∷ back → k ≡ from + length front
range_split from zero [] k back e = absurd cc
range_split from zero (x ∷ front) k back e = absurd cc
range_split from (suc n) [] k back e = (let same : from ≡ k = cc in omega (arith, same))
range_split from (suc n) (x ∷ front) k back e =
    let rest : range_with_len (from + 1) n ≡ front ++ k ∷ back = cc in
    let far = range_split (from + 1) n front k back rest in
    omega (arith, far)

module _ (s : System) (order : ℕ → List ℕ) (sizes : Sizes) (until : ℕ) (all : Lines) (tells : Tells s order sizes until all) where
  abbrev j : Judged
  j = judge s order sizes until

  pub publishes : (variable : ℕ) → variable < length s.unit.variables → (front : List Publication) (p : Publication) (back : List Publication) (before : Lines)
      → publications_of variable all ≡ front ++ p ∷ back → publications_of variable before ≡ front → p.variable ≡ variable → is_next j before p ≡ true
  publishes variable there front p back before split same of =
      let numbers = range_with_len 0 (count (publishing s variable) until) in
      let (fs, k, bs, is, fronts, at, backs) = split_map (publication_number s sizes variable) numbers front p back (sym (tells.published variable there) ∙ split) in
      let far = range_split 0 (count (publishing s variable) until) fs k bs is in
      let number : length (publications_of variable before) ≡ k = ap length (same ∙ sym fronts) ∙ length-map fs (publication_number s sizes variable) ∙ (let e : length fs ≡ k = omega (arith, far) in e) in
      subst (λ v. is_number j (length (publications_of v before)) p ≡ true) (sym of)
      (subst (λ n. is_number j n p ≡ true) (sym number)
      (subst (λ p. is_number j k p ≡ true) at
      (and_from (date (publishing s variable) k == date (publishing s variable) k) (k % get_or sizes.rings variable 0 == k % get_or sizes.rings variable 0)
      (eq-eqb (date (publishing s variable) k) (date (publishing s variable) k) refl) (eq-eqb (k % get_or sizes.rings variable 0) (k % get_or sizes.rings variable 0) refl))))

  pub all_there : (variable : ℕ) → variable < length s.unit.variables → is_published j all variable ≡ true
  all_there variable there =
      let n = count (publishing s variable) until in
      let many : length (publications_of variable all) ≡ n = ap length (tells.published variable there) ∙ length-map (range_with_len 0 n) (publication_number s sizes variable) ∙ length-range_with_len 0 n in
      le-leb n (length (publications_of variable all)) (omega (arith, many))
