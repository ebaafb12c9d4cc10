-- What notes tell is told by what they say.
use Rattle.std.proofs.Common.{◌≡◌, Bor, ℕ, ◌+◌, ◌-◌, ◌^◌, Bool, true, false, ◌&&◌, ◌||◌, not, cond, List, [], ◌∷◌, ◌++◌, None, Some, bytes_eq, map, max, min, nat_le, refl, sym, ap, ◌∙◌}
use Rattle.std.specs.Prelude.{fold}
use Rattle.std.specs.List.{count_by, flat_map, list_any}
use Rattle.std.proofs.lemmas.Bool.{false≢true}
use Rattle.psy_log.specs.declared.form.Form.{Form}
use Rattle.psy_log.specs.declared.form.Form.TheVariants as form
use Rattle.psy_log.specs.declared.note.Note.{Note}
use Rattle.psy_log.specs.declared.note.Note.TheVariants as note
use Rattle.psy_log.specs.Forms.{says}
use Rattle.psy_log.specs.Table.{Said, short, long, value, name, short_or_none, long_or_none}
use Rattle.psy_draw.specs.declared.outset.Outset.{Outset}
use Rattle.psy_draw.specs.Columns.{Dated, dated}
use Rattle.psy_draw.specs.Dates.{date_of, last_date}
use Rattle.psy_draw.specs.Gathering.{Counts, first_values, is_dated, undated}
use Rattle.psy_draw.specs.Lanes.{is_asked, last_alone, may_have_lane, values_before}
use Rattle.psy_draw.specs.Listing.{Lists, ends_agent, ends_stream, ends_variable}
use Rattle.psy_draw.specs.Sayings.{HasSummary}

-- What is said
abbrev pub Saying : Type 0
Saying = Form × List Said

-- What is made of notes, one behind the other, is made of what they say.
flat_by : {A : Type 0} (f : Note → List A) (g : Saying → List A) → ((n : Note) → f n ≡ g (says n)) → (notes : List Note) → flat_map f notes ≡ flat_map g (map says notes)
flat_by f g same [] = refl
flat_by f g same (n ∷ notes) = ap (λ t. t ++ flat_map f notes) (same n) ∙ ap (λ t. g (says n) ++ t) (flat_by f g same notes)

flat_same : {A : Type 0} (f : Note → List A) (g : Saying → List A) → ((n : Note) → f n ≡ g (says n)) → (some other : List Note) → map says some ≡ map says other
    → flat_map f some ≡ flat_map f other
flat_same f g same some other is = flat_by f g same some ∙ ap (flat_map g) is ∙ sym (flat_by f g same other)

fold_by : {B : Type 0} (f : B → Note → B) (g : B → Saying → B) → ((b : B) (n : Note) → f b n ≡ g b (says n)) → (b : B) (notes : List Note) → fold f b notes ≡ fold g b (map says notes)
fold_by f g same b [] = refl
fold_by f g same b (n ∷ notes) = ap (λ c. fold f c notes) (same b n) ∙ fold_by f g same (g b (says n)) notes

any_by : (p : Note → Bool) (q : Saying → Bool) → ((n : Note) → p n ≡ q (says n)) → (notes : List Note) → list_any p notes ≡ list_any q (map says notes)
any_by p q same [] = refl
any_by p q same (n ∷ notes) = ap (λ b. b || list_any p notes) (same n) ∙ ap (λ b. q (says n) || b) (any_by p q same notes)

count_by_saying : (p : Note → Bool) (q : Saying → Bool) → ((n : Note) → p n ≡ q (says n)) → (notes : List Note) → count_by p notes ≡ count_by q (map says notes)
count_by_saying p q same notes =
    fold_by (λ count n. count + cond (p n) 1 0) (λ count s. count + cond (q s) 1 0) (λ count n. ap (λ b. count + cond b 1 0) (same n)) 0 notes

-- ---- what must be known before values are drawn

abbrev date_by : Form → List Said → ℕ
date_by form.StopOverrun (long date ∷ said) = date
date_by form.StopTrap (long date ∷ said) = date
date_by form.Value (long date ∷ said) = date
date_by form.Message (long date ∷ said) = date
date_by form.End (long until ∷ said) = until
date_by _ said = 0

date_step : (n : Note) → date_of n ≡ date_by (says n).0 (says n).1
date_step (note.Infeasible len demand supply None) = refl
date_step (note.Infeasible len demand supply (Some processor)) = refl
date_step (note.Refused what number None) = refl
date_step (note.Refused what number (Some at)) = refl
date_step _ = refl

abbrev lane_by : List (List ℕ) → Form → List Said → Bool
lane_by names form.StopOverrun (long date ∷ name agent ∷ said) = is_asked names agent
lane_by names form.StopTrap (long date ∷ name agent ∷ said) = is_asked names agent
lane_by names form.VariableEnd (name variable ∷ said) = is_asked names variable
lane_by names form.StreamEnd (name stream ∷ said) = is_asked names stream
lane_by names _ said = false

lane_step : (names : List (List ℕ)) (n : Note) → may_have_lane names n ≡ lane_by names (says n).0 (says n).1
lane_step names (note.Infeasible len demand supply None) = refl
lane_step names (note.Infeasible len demand supply (Some processor)) = refl
lane_step names (note.Refused what number None) = refl
lane_step names (note.Refused what number (Some at)) = refl
lane_step names _ = refl

abbrev before_by : ℕ → List ℕ → Form → List Said → List Dated
before_by from called form.Value (long date ∷ name variable ∷ value number ∷ said) =
    cond (bytes_eq variable called && nat_le date from) (dated date number ∷ []) []
before_by from called _ said = []

before_step : (from : ℕ) (called : List ℕ) (n : Note) → values_before from called n ≡ before_by from called (says n).0 (says n).1
before_step from called (note.Infeasible len demand supply None) = refl
before_step from called (note.Infeasible len demand supply (Some processor)) = refl
before_step from called (note.Refused what number None) = refl
before_step from called (note.Refused what number (Some at)) = refl
before_step from called _ = refl

last_same : (some other : List Note) → map says some ≡ map says other → last_date some ≡ last_date other
last_same some other is =
    let g : ℕ → Saying → ℕ = λ last s. max (date_by s.0 s.1) last in
    let by : (notes : List Note) → last_date notes ≡ fold g 0 (map says notes) = λ notes. fold_by (λ last n. max (date_of n) last) g (λ last n. ap (λ d. max d last) (date_step n)) 0 notes in
    by some ∙ ap (fold g 0) is ∙ sym (by other)

lanes_same : (names : List (List ℕ)) (some other : List Note) → map says some ≡ map says other → count_by (may_have_lane names) some ≡ count_by (may_have_lane names) other
lanes_same names some other is =
    let q : Saying → Bool = λ s. lane_by names s.0 s.1 in
    let by : (notes : List Note) → count_by (may_have_lane names) notes ≡ count_by q (map says notes) = λ notes. count_by_saying (may_have_lane names) q (lane_step names) notes in
    by some ∙ ap (count_by q) is ∙ sym (by other)

first_same : (from : ℕ) (some other : List Note) → map says some ≡ map says other → (called : List ℕ) → first_values from some called ≡ first_values from other called
first_same from some other is called =
    ap last_alone (flat_same (values_before from called) (λ s. before_by from called s.0 s.1) (before_step from called) some other is)

-- What is known of notes is known of those that say the same.
pub counts_same : (names : List (List ℕ)) (from : ℕ) (some other : List Note) (outset : Outset) → map says some ≡ map says other → Counts names from some outset
    → Counts names from other outset
counts_same names from some other outset is counts =
    record {
      last = counts.last ∙ last_same some other is;
      lanes = counts.lanes ∙ ap (λ n. min n (2 ^ 64 - 1)) (lanes_same names some other is);
      firsts = λ called k at. counts.firsts called k at ∙ first_same from some other is called;
    }

-- ---- the summary

-- Without the notes that have a date
without_dated : {A : Type 0} (f : Note → List A) → ((n : Note) → is_dated n ≡ true → f n ≡ []) → (notes : List Note) → flat_map f notes ≡ flat_map f (undated notes)
without_dated f none [] = refl
without_dated f none (n ∷ notes) = by (is_dated n) refl (without_dated f none notes)
  where
    by : (b : Bool) → is_dated n ≡ b → flat_map f notes ≡ flat_map f (undated notes) → f n ++ flat_map f notes ≡ flat_map f (cond (not (is_dated n)) (n ∷ undated notes) (undated notes))
    by true e more =
        ap (λ t. t ++ flat_map f notes) (none n e) ∙ more
        ∙ ap (λ b. flat_map f (cond (not b) (n ∷ undated notes) (undated notes))) (sym e)
    by false e more =
        ap (λ t. f n ++ t) more ∙ ap (λ b. flat_map f (cond (not b) (n ∷ undated notes) (undated notes))) (sym e)

any_undated : (p : Note → Bool) → ((n : Note) → is_dated n ≡ true → p n ≡ false) → (notes : List Note) → list_any p notes ≡ list_any p (undated notes)
any_undated p none [] = refl
any_undated p none (n ∷ notes) = by (is_dated n) refl (any_undated p none notes)
  where
    by : (b : Bool) → is_dated n ≡ b → list_any p notes ≡ list_any p (undated notes) → (p n || list_any p notes) ≡ list_any p (cond (not (is_dated n)) (n ∷ undated notes) (undated notes))
    by true e more =
        ap (λ t. t || list_any p notes) (none n e) ∙ more ∙ ap (λ b. list_any p (cond (not b) (n ∷ undated notes) (undated notes))) (sym e)
    by false e more =
        ap (λ t. p n || t) more ∙ ap (λ b. list_any p (cond (not b) (n ∷ undated notes) (undated notes))) (sym e)

-- A note of a summary with its words in place of its own, and one note for all others
abbrev at : List ℕ → Bor (List ℕ)
at bytes = record { ref_ptr = (0, 0); now = bytes }

abbrev pub rest : Note → Note
rest (note.AgentEnd agent count slack) = note.AgentEnd (at agent.now) count slack
rest (note.VariableEnd variable size reach) = note.VariableEnd (at variable.now) size reach
rest (note.StreamEnd stream size held) = note.StreamEnd (at stream.now) size held
rest _ = note.Always

abbrev rest_by : Form → List Said → Note
rest_by form.AgentEnd (name agent ∷ long count ∷ long_or_none slack ∷ said) = note.AgentEnd (at agent) count slack
rest_by form.VariableEnd (name variable ∷ short size ∷ short_or_none reach ∷ said) = note.VariableEnd (at variable) size reach
rest_by form.StreamEnd (name stream ∷ short size ∷ short held ∷ said) = note.StreamEnd (at stream) size held
rest_by _ said = note.Always

rest_is : (n : Note) → rest n ≡ rest_by (says n).0 (says n).1
rest_is (note.Infeasible len demand supply None) = refl
rest_is (note.Infeasible len demand supply (Some processor)) = refl
rest_is (note.Refused what number None) = refl
rest_is (note.Refused what number (Some at)) = refl
rest_is _ = refl

rest_dated : (n : Note) → is_dated n ≡ true → rest n ≡ note.Always
rest_dated (note.AgentEnd agent count slack) e = absurd (false≢true e)
rest_dated (note.VariableEnd variable size reach) e = absurd (false≢true e)
rest_dated (note.StreamEnd stream size held) e = absurd (false≢true e)
rest_dated _ e = refl

-- Of notes with one summary it tells the same, where it looks at nothing else.
pub same_summary : {A : Type 0} (f : Note → List A) → ((n : Note) → f n ≡ f (rest n)) → f note.Always ≡ [] → (notes summary : List Note) → HasSummary notes summary
    → flat_map f summary ≡ flat_map f notes
same_summary {A} f by none notes summary has =
    let g : Saying → List A = λ s. f (rest_by s.0 s.1) in
    let told : (n : Note) → f n ≡ g (says n) = λ n. by n ∙ ap f (rest_is n) in
    let zero : (n : Note) → is_dated n ≡ true → f n ≡ [] = λ n e. by n ∙ ap f (rest_dated n e) ∙ none in
    without_dated f zero summary ∙ flat_same f g told (undated summary) (undated notes) (sym has) ∙ sym (without_dated f zero notes)

any_summary : (p : Note → Bool) → ((n : Note) → p n ≡ p (rest n)) → p note.Always ≡ false → (notes summary : List Note) → HasSummary notes summary
    → list_any p summary ≡ list_any p notes
any_summary p by none notes summary has =
    let q : Saying → Bool = λ s. p (rest_by s.0 s.1) in
    let told : (n : Note) → p n ≡ q (says n) = λ n. by n ∙ ap p (rest_is n) in
    let zero : (n : Note) → is_dated n ≡ true → p n ≡ false = λ n e. by n ∙ ap p (rest_dated n e) ∙ none in
    any_undated p zero summary ∙ any_by p q told (undated summary) ∙ ap (list_any q) (sym has) ∙ sym (any_by p q told (undated notes)) ∙ sym (any_undated p zero notes)

agent_step : (called : List ℕ) (n : Note) → ends_agent called n ≡ ends_agent called (rest n)
agent_step called (note.AgentEnd agent count slack) = refl
agent_step called _ = refl

variable_step : (called : List ℕ) (n : Note) → ends_variable called n ≡ ends_variable called (rest n)
variable_step called (note.VariableEnd variable size reach) = refl
variable_step called _ = refl

stream_step : (called : List ℕ) (n : Note) → ends_stream called n ≡ ends_stream called (rest n)
stream_step called (note.StreamEnd stream size held) = refl
stream_step called _ = refl

-- The names that the summary lists are those of the notes.
pub agents_listed : (notes summary : List Note) (names : List (List ℕ)) → HasSummary notes summary → Lists ends_agent summary names → Lists ends_agent notes names
agents_listed notes summary names has lists called = lists called ∙ any_summary (ends_agent called) (agent_step called) refl notes summary has

pub variables_listed : (notes summary : List Note) (names : List (List ℕ)) → HasSummary notes summary → Lists ends_variable summary names → Lists ends_variable notes names
variables_listed notes summary names has lists called = lists called ∙ any_summary (ends_variable called) (variable_step called) refl notes summary has

pub streams_listed : (notes summary : List Note) (names : List (List ℕ)) → HasSummary notes summary → Lists ends_stream summary names → Lists ends_stream notes names
streams_listed notes summary names has lists called = lists called ∙ any_summary (ends_stream called) (stream_step called) refl notes summary has
