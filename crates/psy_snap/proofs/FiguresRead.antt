-- Reading what is told behind a flag, and what is cut of it.
use Rattle.std.proofs.Common.{◌≡◌, ◌∙◌, ℕ, ◌-◌, ◌≤◌, Bool, true, false, cond, eqb, List, [], ◌∷◌, append-nil, length, Option, Some, None, Result, Ok, refl, sym, ap, subst, arith}
use Rattle.psy_snap.specs.declared.fault.ReadError.{ReadError}
use Rattle.psy_snap.specs.declared.limits.TheConstants.{FIGURE}
use Rattle.psy_snap.specs.Cuts.{Ask, At, Cut, cut_at, cut_fields, cut_figures, flag_after, followed, last_number, long_below, where_one}
use Rattle.psy_snap.specs.Faults.{faults_in}
use Rattle.psy_snap.specs.Reading.{field_at, figures_at, go_on, slack_at}
use Rattle.psy_snap.proofs.Parts.{Cuts, Fits, IsOnward, cuts_behind, field_cut, field_cuts, fits_map, good_field, onward_at, onward_behind, onward_fields, seen}
use Rattle.psy_snap.proofs.Steps.{go_on_ok, go_on_same, go_on_then, said_ok}

-- One field is cut as a list of one.
pub alone : (ask : Ask) (at : At) → cut_fields (ask ∷ []) at ≡ cut_at ask at
unfolding cut_fields
alone ask at = ap (λ fs. record { fields = fs; on = (cut_at ask at).on }) (append-nil (cut_at ask at).fields)

pub onward_followed : (at : At) (cut : Cut) (more : ℕ → List Ask) → IsOnward at cut → IsOnward at (followed cut more)
onward_followed at cut more onward = onward_behind at cut (cut_fields (more (last_number cut.fields))) onward (onward_fields (more (last_number cut.fields)) cut.on)

-- A field, and what its number asks for
pub followed_cuts : {B : Type 0} (total : ℕ) (bytes : List ℕ) (ask : Ask) (next : ℕ → List ℕ → Result (B × List ℕ) ReadError) (more : ℕ → List Ask) → length bytes ≤ total
    → ((n : ℕ) (rest : List ℕ) → field_at ask bytes ≡ Ok (n, rest) → length rest ≤ total → Cuts total rest (next n rest) (cut_fields (more n) (seen total rest)))
    → Cuts total bytes (go_on (field_at ask bytes) next) (followed (cut_at ask (seen total bytes)) more)
followed_cuts total bytes ask next more le then_cuts =
    let cut = cut_at ask (seen total bytes) in
    cuts_behind total bytes (field_at ask bytes) next cut (cut_fields (more (last_number cut.fields))) le (field_cuts total ask bytes le) (onward_fields _ cut.on)
    (λ n rest is less. subst (λ (c : Cut). Cuts total rest (next n rest) (cut_fields (more (last_number c.fields)) (seen total rest))) (sym (field_cut total ask bytes le n rest is))
    (then_cuts n rest is less))

-- ---- a number behind a flag of 1

abbrev pub optional : Ask → ℕ → List ℕ → Result (Option ℕ × List ℕ) ReadError
optional ask flag bytes = cond (eqb flag 1) (go_on (field_at ask bytes) (λ n rest. Ok (Some n, rest))) (Ok (None, bytes))

optional_cuts : (total : ℕ) (ask : Ask) (flag : ℕ) (bytes : List ℕ) → length bytes ≤ total → Cuts total bytes (optional ask flag bytes) (cut_fields (where_one ask flag) (seen total bytes))
unfolding cut_fields
optional_cuts total ask flag bytes le = by (eqb flag 1)
  where
    by : (b : Bool) → Cuts total bytes (cond b (go_on (field_at ask bytes) (λ n rest. Ok (Some n, rest))) (Ok (None, bytes))) (cut_fields (cond b (ask ∷ []) []) (seen total bytes))
    by true = subst (λ cut. Cuts total bytes (go_on (field_at ask bytes) (λ n rest. Ok (Some n, rest))) cut) (sym (alone ask (seen total bytes)))
        (fits_map total (length bytes) (field_at ask bytes) (λ n. Some n) _ _ (field_cuts total ask bytes le))
    by false = (refl, refl, omega arith)

-- Some parts with a flag behind, and the number for which the flag asks
pub flagged_cuts : {A B : Type 0} (total : ℕ) (bytes : List ℕ) (r : Result ((A × ℕ) × List ℕ) ReadError) (cut : Cut) (ask : Ask) (say : A × ℕ → Option ℕ → B) → length bytes ≤ total
    → Cuts total bytes r cut → ((p : A × ℕ) (rest : List ℕ) → r ≡ Ok (p, rest) → last_number cut.fields ≡ p.1)
    → Cuts total bytes (go_on r (λ p more. go_on (optional ask p.1 more) (λ o last. Ok (say p o, last)))) (followed cut (where_one ask))
flagged_cuts total bytes r cut ask say le cuts flag =
    cuts_behind total bytes r _ cut (cut_fields (where_one ask (last_number cut.fields))) le cuts (onward_fields _ cut.on)
    (λ p rest is less. subst (λ n. Cuts total rest (go_on (optional ask p.1 rest) (λ o last. Ok (say p o, last))) (cut_fields (where_one ask n) (seen total rest))) (sym (flag p rest is))
    (fits_map total (length rest) (optional ask p.1 rest) (say p) _ _ (optional_cuts total ask p.1 rest less)))

-- ---- COUNT and SLACK

-- COUNT and the flag behind it
abbrev counted : List ℕ → Result ((ℕ × ℕ) × List ℕ) ReadError
counted bytes = go_on (field_at (long_below FIGURE) bytes) (λ count rest. go_on (field_at (flag_after count) rest) (λ flag more. Ok ((count, flag), more)))

abbrev counted_cut : At → Cut
counted_cut at = followed (cut_at (long_below FIGURE) at) (λ count. flag_after count ∷ [])

counted_cuts : (total : ℕ) (bytes : List ℕ) → length bytes ≤ total → Cuts total bytes (counted bytes) (counted_cut (seen total bytes))
counted_cuts total bytes le =
    followed_cuts total bytes (long_below FIGURE) (λ count rest. go_on (field_at (flag_after count) rest) (λ flag more. Ok ((count, flag), more))) (λ count. flag_after count ∷ []) le
    (λ count rest is less. subst (λ cut. Cuts {A = ℕ × ℕ} total rest (go_on (field_at (flag_after count) rest) (λ flag more. Ok ((count, flag), more))) cut) (sym (alone (flag_after count) (seen total rest)))
    (fits_map total (length rest) (field_at (flag_after count) rest) (λ flag. (count, flag)) _ _ (field_cuts total (flag_after count) rest less)))

pub rest_less : (total : ℕ) (ask : Ask) (bytes : List ℕ) (n : ℕ) (rest : List ℕ) → length bytes ≤ total → field_at ask bytes ≡ Ok (n, rest) → length rest ≤ total
rest_less total ask bytes n rest le is =
    let cut = cut_at ask (seen total bytes) in
    let fits = subst (λ r. Fits total (length bytes) r (faults_in cut.fields) cut.on) is (field_cuts total ask bytes le) in
    omega (arith, le, fits.2)

counted_last : (total : ℕ) (bytes : List ℕ) → length bytes ≤ total → (p : ℕ × ℕ) (rest : List ℕ) → counted bytes ≡ Ok (p, rest) → last_number (counted_cut (seen total bytes)).fields ≡ p.1
counted_last total bytes le p rest is =
    let (count, mid, first, second) = go_on_ok (field_at (long_below FIGURE) bytes) (λ count rest. go_on (field_at (flag_after count) rest) (λ flag more. Ok ((count, flag), more))) p rest is in
    let (flag, read, said) = said_ok (field_at (flag_after count) mid) (λ flag. (count, flag)) p rest second in
    let less = rest_less total (long_below FIGURE) bytes count mid le first in
    ap (λ (c : Cut). last_number (followed c (λ count. flag_after count ∷ [])).fields) (field_cut total (long_below FIGURE) bytes le count mid first)
    ∙ ap (λ (c : Cut). last_number (good_field (total - length bytes) count ∷ c.fields)) (alone (flag_after count) (seen total mid) ∙ field_cut total (flag_after count) mid less flag rest read)
    ∙ ap (λ (q : ℕ × ℕ). q.1) said

figures_grouped : (bytes : List ℕ) → go_on (counted bytes) (λ p more. go_on (slack_at p.1 more) (λ slack last. Ok ((p.0, slack), last))) ≡ figures_at bytes
unfolding figures_at
figures_grouped bytes =
    go_on_then (field_at (long_below FIGURE) bytes) _ _
    ∙ go_on_same (field_at (long_below FIGURE) bytes) _ _ (λ count rest. go_on_then (field_at (flag_after count) rest) _ _)

pub figures_cuts : (total : ℕ) (bytes : List ℕ) → length bytes ≤ total → Cuts total bytes (figures_at bytes) (cut_figures (seen total bytes))
unfolding cut_figures
figures_cuts total bytes le =
    subst (λ r. Cuts total bytes r (followed (counted_cut (seen total bytes)) (where_one (long_below FIGURE)))) (figures_grouped bytes)
    (flagged_cuts total bytes (counted bytes) (counted_cut (seen total bytes)) (long_below FIGURE) (λ p slack. (p.0, slack)) le
    (counted_cuts total bytes le) (counted_last total bytes le))

pub onward_figures : (at : At) → IsOnward at (cut_figures at)
unfolding cut_figures
onward_figures at = onward_followed at (counted_cut at) (where_one (long_below FIGURE)) (onward_followed at (cut_at (long_below FIGURE) at) (λ count. flag_after count ∷ []) (onward_at (long_below FIGURE) at))
