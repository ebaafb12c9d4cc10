-- The text of a run grows line by line, and date by date.
use Rattle.std.proofs.Common.{◌≡◌, ◌≢◌, ◌∙◌, sym, ap, subst, refl, ℕ, zero, suc, ◌+◌, ◌*◌, ◌-◌, ◌≤◌, nat_lt, ℤ, List, [], ◌∷◌, ◌++◌, append_assoc, append-nil, length, slice_get, take, None, Some, Option, arith, inl, inr, add-one}
use Rattle.std.specs.List.{flat_map, range_with_len}
use Rattle.std.proofs.lemmas.Bool.{cond-false, cond-true, le-ltb, lt-ltb}
use Rattle.std.proofs.lemmas.Bool.Decides.{nat_tests}
use Rattle.std.proofs.lemmas.Grind.{flat_map-append}
use Rattle.std.proofs.lemmas.List.{take_all}
use Rattle.std.proofs.lemmas.Option.{slice_get_within, get_or_from_slice_get}
use Rattle.std.proofs.Math.Nat.{eq-or-lt_of_le}
use Rattle.psy_lists.proofs.lemmas.Ranges.{range_longer, range_more}
use Rattle.psy_door.specs.Growth.{Grew, GrewByFront}
use Rattle.psy_kernel.specs.declared.stage.Stage.TheVariants.{DateDue}
use Rattle.psy_kernel.specs.Engines.{lines_at}
use Rattle.psy_kernel.specs.Progress.{Progress, after_date, after_line, began, lines_told, stage_of, system}
use Rattle.psy_kernel.specs.Texts.{lines_of, log_of, text_of}
use Rattle.psy_dates.specs.declared.opening.Opening.{Opening as State}
use Rattle.psy_dates.specs.declared.plan.Plan.{Plan}
use Rattle.psy_history.specs.Actions.{System}
use Rattle.psy_history.specs.Summary.{dates_from}
use Rattle.psy_history.specs.declared.told.Script.{Script}
use Rattle.psy_run.proofs.TextLemmas.{items_more, items_split}
use Rattle.psy_run.proofs.WritingLemmas.{Grew-item, GrewByFront-item}

-- ---- lines of one list

-- One line more
pub lines_more : (lines : List (List ℕ)) (n : ℕ) (line : List ℕ) → slice_get lines n ≡ Some line → text_of (take (n + 1) lines) ≡ text_of (take n lines) ++ line
lines_more lines n line at =
    let less = slice_get_within lines n line at in
    items_more (λ l. l) lines n line less ∙ ap (λ l. text_of (take n lines) ++ l) (get_or_from_slice_get lines n line line at)

pub Grew-line : (a b c : Option (List ℕ)) (lines : List (List ℕ)) (n : ℕ) (line : List ℕ) → slice_get lines n ≡ Some line → Grew a b (text_of (take n lines)) → Grew b c line → Grew a c (text_of (take (n + 1) lines))
Grew-line a b c lines n line at first second = Grew-item a b c _ line _ (lines_more lines n line at) first second

pub GrewByFront-line : (a b c : Option (List ℕ)) (lines : List (List ℕ)) (n : ℕ) (line : List ℕ) → slice_get lines n ≡ Some line → Grew a b (text_of (take n lines)) → GrewByFront b c line → GrewByFront a c (text_of lines)
GrewByFront-line a b c lines n line at first second = GrewByFront-item a b c _ line _ _ _ (lines_more lines n line at) (items_split (λ l. l) lines (n + 1)) first second

pub Grew-lines : (a b : Option (List ℕ)) (lines : List (List ℕ)) (n : ℕ) → length lines ≤ n → Grew a b (text_of (take n lines)) → Grew a b (text_of lines)
Grew-lines a b lines n all grew = subst (λ ls. Grew a b (text_of ls)) (take_all n lines all) grew

-- ---- dates

-- One date more, behind the others
dates_longer : (done n : ℕ) → done ≤ n → dates_from done (n + 1) ≡ dates_from done n ++ n ∷ []
dates_longer zero n behind = range_more n
dates_longer (suc last) n behind =
    let one : n + 1 - suc last ≡ suc (n - suc last) = omega (arith, behind) in
    let at : suc last + (n - suc last) ≡ n = omega (arith, behind) in
    ap (range_with_len (suc last)) one ∙ range_longer (suc last) (n - suc last) ∙ ap (λ k. range_with_len (suc last) (n - suc last) ++ k ∷ []) at

-- Behind those that were done before there is none below the next one.
dates_none : (done : ℕ) → dates_from done done ≡ []
dates_none zero = refl
dates_none (suc last) = (let none : suc last - suc last ≡ 0 = omega arith in ap (range_with_len (suc last)) none)

module _ {X : Type 0} (of : ℕ → List X) (done : ℕ) where
  -- What is told of the dates below this one, behind those that were done before
  abbrev told_dates : ℕ → List X
  told_dates n = flat_map of (dates_from done n)

  pub dates-next : (n : ℕ) → done ≤ n → told_dates (n + 1) ≡ told_dates n ++ of n
  dates-next n behind =
      ap (flat_map of) (dates_longer done n behind) ∙ flat_map-append of (dates_from done n) (n ∷ []) ∙ ap (λ told. told_dates n ++ told) (append-nil (of n))

  -- What is told of more dates begins with that of fewer
  pub dates-more : (dates n : ℕ) → done ≤ dates → dates ≤ n → (rest : List X) × (told_dates n ≡ told_dates dates ++ rest)
  dates-more dates zero behind h = let none : dates ≡ 0 = omega arith in ([], rw none (sym (append-nil (told_dates 0))))
  dates-more dates (suc n) behind h = elim (eq-or-lt_of_le h) [
    | inl eq ↦ ([], rw eq (sym (append-nil (told_dates (suc n)))))
    | inr lt ↦
        let before = dates-more dates n behind (omega arith) in
        let next : told_dates (suc n) ≡ told_dates n ++ of n = ap told_dates (sym (add-one n)) ∙ dates-next n (omega (arith, behind, lt)) in
        (before.0 ++ of n, next ∙ ap (λ told. told ++ of n) before.1 ∙ append_assoc (told_dates dates) before.0 (of n))
  ]

log-next : (s : System) (date : ℕ) → s.opening.dates ≤ date → log_of s (date + 1) ≡ log_of s date ++ text_of (lines_of s date)
log-next s date behind = dates-next (λ date. text_of (lines_of s date)) s.opening.dates date behind

-- Nothing is told of the dates that were done before.
pub log-none : (s : System) (dates : ℕ) → s.opening.dates ≡ dates → log_of s dates ≡ []
log-none s dates is = ap (log_of s) (sym is) ∙ ap (flat_map (λ date. text_of (lines_of s date))) (dates_none s.opening.dates)

-- One date more was written
pub Grew-date : (a b c : Option (List ℕ)) (s : System) (date : ℕ) → s.opening.dates ≤ date → Grew a b (log_of s date) → Grew b c (text_of (lines_of s date)) → Grew a c (log_of s (date + 1))
Grew-date a b c s date behind before lines = Grew-item a b c (log_of s date) (text_of (lines_of s date)) (log_of s (date + 1)) (log-next s date behind) before lines

-- A write of a date's lines failed
pub GrewByFront-date : (a b c : Option (List ℕ)) (s : System) (date n : ℕ) → s.opening.dates ≤ date → date + 1 ≤ n → Grew a b (log_of s date) → GrewByFront b c (text_of (lines_of s date)) → GrewByFront a c (log_of s n)
GrewByFront-date a b c s date n behind h before lines =
    let more = dates-more (λ date. text_of (lines_of s date)) s.opening.dates (date + 1) n (omega (arith, behind)) h in
    GrewByFront-item a b c (log_of s date) (text_of (lines_of s date)) (log_of s (date + 1)) more.0 (log_of s n) (log-next s date behind) more.1 before lines

-- ---- how far a run is

-- What is due where a date is
pub stage-date : (p : Progress) (date : ℕ) → stage_of p ≡ DateDue date → (date ≡ p.dates) × (p.cycles ≡ p.dates * p.plan.unit.quantum) × (p.dates ≢ p.plan.until + 1)
stage-date p date e = (grind (arith, nat_tests), grind (arith, nat_tests), grind (arith, nat_tests))

-- Of the dates that were done before a run began there are no lines.
lines_at-none : (s : System) (dates : ℕ) → dates ≤ s.opening.dates → lines_at s dates ≡ []
lines_at-none s zero before = refl
lines_at-none s (suc date) before = cond-true (nat_lt date s.opening.dates) [] (lines_of s date) (lt-ltb date s.opening.dates (omega (arith, before)))

-- The lines of the date that is done next
lines_told-after : (p : Progress) → (system p).opening.dates ≤ p.dates → lines_told (after_date p) ≡ lines_of (system p) p.dates
lines_told-after p behind =
    ap (lines_at (system p)) (add-one p.dates)
    ∙ cond-false (nat_lt p.dates (system p).opening.dates) [] (lines_of (system p) p.dates) (le-ltb p.dates (system p).opening.dates behind)

-- The same of a run that is another's but for how far it is
pub lines-done : (p q r : Progress) → p ≡ after_date q → q ≡ record r { dates = q.dates; cycles = q.cycles; given = q.given; last = None } → (system r).opening.dates ≤ q.dates → lines_told p ≡ lines_of (system r) q.dates
lines-done p q r after same behind =
    let opening : (system q).opening.dates ≡ (system r).opening.dates = ap (λ k. (system k).opening.dates) same in
    ap lines_told after ∙ lines_told-after q (omega (arith, opening, behind)) ∙ ap (λ k. lines_of (system k) q.dates) same

-- A run whose program, inputs and script are another's
pub progress-parts : (p q : Progress) → p.plan ≡ q.plan → p.inputs ≡ q.inputs → p.script ≡ q.script → p.opening ≡ q.opening → p.units ≡ q.units → p.last ≡ None → p ≡ record q { dates = p.dates; cycles = p.cycles; given = p.given; last = None }
progress-parts p q plan inputs script opening units last = λ i. record { plan = plan i; inputs = inputs i; script = script i; opening = opening i; dates = p.dates; cycles = p.cycles; units = units i; given = p.given; last = last i }

-- The cycles done so far are before the next date
pub cycles-after : (quantum dates cycles : ℕ) → cycles ≡ dates * quantum → cycles ≤ (dates + 1) * quantum
cycles-after quantum dates cycles is = omega (arith, is)

-- A run of which nothing was done, before date 0 or behind the date of a state
pub record IsBegun (p : Progress) : Type 0 where
  pub same : p ≡ record p { last = None }
  pub given : p.given ≡ length (lines_told p)
  pub dates : (system p).opening.dates ≡ p.dates
  pub cycles : p.cycles ≤ p.dates * p.plan.unit.quantum
  pub over : p.dates ≡ p.plan.until + 1 → p.cycles ≡ p.plan.until * p.plan.unit.quantum

is_begun : (plan : Plan) (inputs : List (List ℤ)) (script : Script) (opening : Option State) → IsBegun (began plan inputs script opening)
is_begun plan inputs script None = record {
  same = refl;
  given = refl;
  dates = refl;
  cycles = omega arith;
  over = λ last. absurd (omega (arith, last));
}
is_begun plan inputs script (Some state) = record {
  same = refl;
  given = sym (ap length (lines_at-none (system (began plan inputs script (Some state))) (state.date + 1) (omega arith)));
  dates = refl;
  cycles = cycles-after plan.unit.quantum state.date (state.date * plan.unit.quantum) refl;
  over = λ last. let at : state.date ≡ plan.until = omega (arith, last) in ap (λ n. n * plan.unit.quantum) at;
}

pub begun_by : (p : Progress) → p ≡ began p.plan p.inputs p.script p.opening → IsBegun p
begun_by p is = subst IsBegun (sym is) (is_begun p.plan p.inputs p.script p.opening)

-- One line more was given of a run that is another's but for the lines given
pub given-set : (p q r : Progress) → p ≡ after_line q → q ≡ record r { given = q.given } → p ≡ record r { given = p.given }
given-set p q r after same =
    let set : ℕ → Progress = λ n. record r { given = n } in
    let next : Progress → Progress = after_line in
    after ∙ ap next same ∙ ap set (sym (ap (λ k. k.given) after))
