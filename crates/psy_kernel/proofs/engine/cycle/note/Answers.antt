-- What is left of the proof of `engine::cycle::note`.
use Rattle.std.proofs.Common.{◌≡◌, ℕ, ◌+◌, ◌==◌, ◌<◌, List, Option, Some, length, get_or, slice_get, slice_set, sym, ap, ◌∙◌, subst, refl, inl, inr, arith}
use Rattle.std.proofs.lemmas.Bool.{cases_eq, cond-false, cond-true, eq-eqb, ne_eqb}
use Rattle.std.proofs.lemmas.List.{length-set}
use Rattle.std.proofs.lemmas.Option.{get_or_from_slice_get, slice_get-get_or, slice_get_read, slice_get_within}
use Rattle.psy_clock.specs.declared.clock.Clock.{Clock}
use Rattle.psy_dates.specs.Plans.{opened_of}
use Rattle.psy_history.specs.Rings.{age_at}
use Rattle.psy_history.specs.Actions.{System, publishing, variable_of}
use Rattle.psy_meaning.specs.RingSizes.{dates_between}
use Rattle.psy_base.specs.Extremes.{greater}
use Rattle.psy_tree.specs.declared.unit.VarDecl.{VarDecl}
use Rattle.psy_kernel.specs.Cycles.{IsNear, reach_by}
use Rattle.psy_kernel.specs.Seeing.{clock_in}
use Rattle.psy_dates.proofs.lemmas.Sets.{get_set_other, get_set_same}
use Rattle.psy_kernel.proofs.engine.cycle.note.Goals as goal
use Rattle.psy_tree.specs.Parts.{no_variable}

-- What is reached for after a look stands in place of what was before
set_at : (s : System) (start date looked back : ℕ) (reaches : List (Option ℕ)) (new : Option ℕ) (variable : ℕ) (n : Option ℕ) → slice_get reaches variable ≡ Some n
    → ((m : Option ℕ) → slice_get reaches looked ≡ Some m → new ≡ greater (age_at s looked back start date) m)
    → slice_get (slice_set reaches looked new) variable ≡ Some (reach_by s variable start date (Some (looked, back)) n)
set_at s start date looked back reaches new variable n at is_new = elim (cases_eq variable looked) [
  | inl same ↦
      subst (λ v. slice_get reaches v ≡ Some n → slice_get (slice_set reaches looked new) v ≡ Some (reach_by s v start date (Some (looked, back)) n)) (sym same)
      (λ here.
      (let within = slice_get_within reaches looked n here in
      let there = slice_get-get_or (slice_set reaches looked new) looked new (omega (arith, within, length-set reaches looked new)) in
      there ∙ ap Some (get_set_same reaches looked new (get_or (slice_set reaches looked new) looked new) there ∙ is_new n here ∙ sym (cond-true (looked == looked) (greater (age_at s looked back start date) n) n (eq-eqb looked looked refl)))))
      at
  | inr other ↦
      get_set_other reaches looked variable new other ∙ at
      ∙ ap Some (sym (cond-false (looked == variable) (greater (age_at s variable back start date) n) n (ne_eqb looked variable (λ e. other (sym e)))))
]

pub returns-in-Some-clause-reached : goal.returns-in-Some-clause-reached
returns-in-Some-clause-reached c = λ opening inputs stalls variable n at.
    let s : System = opened_of c.args.plan.now opening inputs stalls in
    let looked : ℕ = c.in-Some.variable in
    let back : ℕ = c.in-Some.back in
    let reaches : List (Option ℕ) = c.args.reaches.now.items in
    let known : looked < length s.unit.variables = (subst (IsNear s c.args.start c.args.date) c.in-Some.is c.requires.near).0 in
    let decl : VarDecl = c.index-as_slice-number.result in
    let declared : decl ≡ variable_of s looked =
    sym (get_or_from_slice_get s.unit.variables looked decl no_variable
    (slice_get_read s.unit.variables (length s.unit.variables) looked decl refl known (c.index-as_slice-number.is ∙ ap (λ (vs : List VarDecl). get_or vs looked decl) c.as_slice.ensures))) in
    let clock : c.clock_in-clock.result ≡ publishing s looked = c.clock_in-clock.ensures.clock ∙ ap (λ (cs : List Clock). clock_in cs decl.clock) c.as_slice-in-Some.ensures ∙ ap (λ (v : VarDecl). clock_in s.unit.clocks v.clock) declared in
    let passed : back + c.dates_between-passed.result ≡ age_at s looked back c.args.start c.args.date = ap (λ n. back + n) (c.dates_between-passed.ensures ∙ ap (λ (k : Clock). dates_between k c.args.start c.args.date) clock) in
    let new : (m : Option ℕ) → slice_get reaches looked ≡ Some m → c.reached.result ≡ greater (age_at s looked back c.args.start c.args.date) m =
    λ m there. c.reached.ensures ∙ ap (λ n. greater n c.index.result.now) passed ∙ ap (greater (age_at s looked back c.args.start c.args.date)) (c.index.ensures ∙ get_or_from_slice_get reaches looked m c.index.result.now there) in
    subst (λ look. slice_get (slice_set reaches looked c.reached.result) variable ≡ Some (reach_by s variable c.args.start c.args.date look n)) (sym c.in-Some.is)
    (set_at s c.args.start c.args.date looked back reaches c.reached.result variable n at new)
