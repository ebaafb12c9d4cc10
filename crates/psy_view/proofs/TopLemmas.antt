-- How the top call ends, clause by clause.
use Rattle.std.proofs.Common.{◌≡◌, ◌≢◌, ◌∙◌, sym, subst, refl, ℕ, true, List, [], ◌∷◌, Option, None, ◌⊎◌, inl, inr, arith}
use Rattle.psy_door.specs.Faults.{Rose}
use Rattle.psy_door.specs.Files.{Files}
use Rattle.psy_door.specs.Growth.{Grew, GrewByFront}
use Rattle.psy_draw.specs.declared.window.Window.{Window}
use Rattle.psy_draw.specs.Knowledge.{Knowledge, nothing}
use Rattle.psy_export.specs.Ending.{Says}
use Rattle.psy_export.specs.Exports.{Exports}
use Rattle.psy_export.specs.Exports as export
use Rattle.psy_export.specs.declared.forms.Format.{Format}
use Rattle.psy_log.specs.declared.note.Note.{Note}
use Rattle.psy_match.specs.Knowledge.{knowledge_in}
use Rattle.psy_tree.specs.declared.unit.Unit.{Unit as Whole}
use Rattle.psy_view.specs.Answer.{Answers, no_words, of_itself, viewed, too_long, exported, filmed}
use Rattle.psy_view.specs.Asked.{File, Request, Asks, AskNothing, files_of, of_run}
use Rattle.psy_view.specs.Fetching.{AreTexts, ComeTo, IsLong, first}
use Rattle.psy_view.specs.Outcome.{EndsUnread, IsBegun, MayAnswer, may_answer, may_miss, may_change, unread_again, unread_first}
use Rattle.psy_view.specs.Outcome.{IsToldOf, told_of_run, unread_now, changed, Replies, viewed_all, missed, stopped_at, of_long_run}
use Rattle.psy_export.specs.Refusals.{unread_line}
use Rattle.psy_view.specs.Views.{ViewOf, where_told, timeline, dotted, no_graph, dotted_of, undotted_of}
use Rattle.psy_view.specs.Views.{tabled, no_table, dumped, no_dump, compared, expected, IsWhere, explained, no_refusal, beyond}
use Rattle.psy_view.specs.Views.{flows, no_flow, lists, no_listing, reports, no_report, unmeasured}
use Rattle.psy_view.specs.Views.{IsShown, drawn, undrawn, IsFed, with_inputs, undrawn_with, no_inputs}
use Rattle.psy_view.specs.Views.{IsToldOfNotes, alone, by_program, by_other, by_inputs, with_other, IsTimeline, of_a_run, of_no_run}
use Rattle.psy_view.specs.Views.{IsCompared, same, differs, first_breaks, second_breaks, IsExpected, kept, unkept, wrong, no_log}

-- ---- the statuses

-- 0 or 1
abbrev pub IsOfView : ℕ → Type 0
IsOfView status = (status ≡ 0) ⊎ (status ≡ 1)

of_shown : (name : List ℕ) (window : Window) (knowledge : Knowledge) (names : List (List ℕ)) (notes : List Note) (status : ℕ) (text : List ℕ)
    → IsShown name window knowledge names notes status text → IsOfView status
of_shown name window knowledge names notes _ _ (drawn svg picture) = inl refl
of_shown name window knowledge names notes _ _ (undrawn told is) = inr refl

of_fed : (name inputs : List ℕ) (window : Window) (names : List (List ℕ)) (notes : List Note) (unit : Whole) (fed : List ℕ) (status : ℕ) (text : List ℕ)
    → IsFed name inputs window names notes unit fed status text → IsOfView status
of_fed name inputs window names notes unit fed _ _ (with_inputs given more svg are feed picture) = inl refl
of_fed name inputs window names notes unit fed _ _ (undrawn_with given told are is) = inr refl
of_fed name inputs window names notes unit fed _ _ (no_inputs line told refuses tells) = inr refl

of_notes : (notes : List Note) (request : Request) (texts : List (List ℕ)) (status : ℕ) (text : List ℕ) → IsToldOfNotes notes request texts status text
    → IsOfView status
of_notes notes _ _ _ _ (alone name window names status told shows) = of_shown name window nothing names notes status told shows
of_notes notes _ _ _ _ (by_program name program window names text unit status told own shows) =
    of_shown name window (knowledge_in unit notes) names notes status told shows
of_notes notes _ _ _ _ (by_other name program window names text told other) = inr refl
of_notes notes _ _ _ _ (by_inputs name program inputs window names text fed unit status told own is) =
    of_fed name inputs window names notes unit fed status told is
of_notes notes _ _ _ _ (with_other name program inputs window names text fed told other) = inr refl

of_timeline : (IsRead : List ℕ → List Note → Type 0) (IsUnread : List ℕ → List ℕ → Type 0) (request : Request) (texts : List (List ℕ)) (status : ℕ)
    (text : List ℕ) → IsTimeline IsRead IsUnread request texts status text → IsOfView status
of_timeline IsRead IsUnread request texts _ _ (of_a_run name notes status told for read is) = of_notes notes request texts status told is
of_timeline IsRead IsUnread request texts _ _ (of_no_run name told for unread) = inr refl

of_where : (name line bytes : List ℕ) (status : ℕ) (text : List ℕ) → IsWhere name line bytes status text → IsOfView status
of_where name line bytes _ _ (explained text asked is asks) = inl refl
of_where name line bytes _ _ (no_refusal is) = inr refl
of_where name line bytes _ _ (beyond is) = inr refl

of_compared : (name other first second : List ℕ) (status : ℕ) (text : List ℕ) → IsCompared name other first second status text → IsOfView status
of_compared name other one two _ _ (same notes is equal) = inl refl
of_compared name other one two _ _ (differs text is) = inr refl
of_compared name other one two _ _ (first_breaks line is) = inr refl
of_compared name other one two _ _ (second_breaks notes line is cut) = inr refl

of_expected : (name claims log text : List ℕ) (status : ℕ) (told : List ℕ) → IsExpected name claims log text status told → IsOfView status
of_expected name claims log text _ _ (kept notes is tried) = inl refl
of_expected name claims log text _ _ (unkept notes told is tried) = inr refl
of_expected name claims log text _ _ (wrong notes line slip is at) = inr refl
of_expected name claims log text _ _ (no_log told is) = inr refl

of_view : (request : Request) (texts : List (List ℕ)) (status : ℕ) (text : List ℕ) → ViewOf request texts status text → IsOfView status
of_view _ _ _ _ (where_told name line bytes status text is) = of_where name line bytes status text is
of_view _ _ _ _ (timeline request bytes texts status text is) = of_timeline _ _ request texts status text is
of_view _ _ _ _ (dotted name bytes notes is) = inl refl
of_view _ _ _ _ (dotted_of name program bytes text notes unit lines pair are) = inl refl
of_view _ _ _ _ (undotted_of name program bytes text told is) = inr refl
of_view _ _ _ _ (no_graph name bytes line is) = inr refl
of_view _ _ _ _ (tabled name bytes notes is) = inl refl
of_view _ _ _ _ (no_table name bytes told is) = inr refl
of_view _ _ _ _ (dumped name bytes notes is) = inl refl
of_view _ _ _ _ (no_dump name bytes told is) = inr refl
of_view _ _ _ _ (flows name bytes unit is) = inl refl
of_view _ _ _ _ (no_flow name bytes refusal text is tells) = inr refl
of_view _ _ _ _ (lists name bytes unit lines is are) = inl refl
of_view _ _ _ _ (no_listing name bytes refusal text is tells) = inr refl
of_view _ _ _ _ (reports name bytes until unit text is report) = inl refl
of_view _ _ _ _ (no_report name bytes until refusal text is tells) = inr refl
of_view _ _ _ _ (unmeasured name bytes until unit refusal text is cause tells) = inr refl
of_view _ _ _ _ (compared name other one two status text is) = of_compared name other one two status text is
of_view _ _ _ _ (expected name claims log text status told is) = of_expected name claims log text status told is

pub of_export : (files : Option Files) (name : List ℕ) (to : Format) (status : ℕ) (text : List ℕ) → Exports files name to status text → IsOfView status
of_export files name to _ _ (export.of_log bytes notes is log) = inl refl
of_export files name to _ _ (export.no_run bytes line is cut) = inr refl
of_export files name to _ _ (export.has_unlisted bytes notes line is read lacks) = inr refl
of_export files name to _ _ (export.has_many bytes is many) = inr refl

-- A defined answer's: 2 for words of no form, and else a view's
of_answer : (words : List (List ℕ)) (files : Option Files) (status : ℕ) (text : List ℕ) → Answers words files status text → ((status ≡ 2) × AskNothing words) ⊎ IsOfView status
of_answer words files _ _ (no_words more nothing behind) = inl (refl, nothing)
of_answer words files _ _ (of_itself text asks) = inr (inl refl)
of_answer words files _ _ (viewed request texts status text asks are is) = inr (of_view request texts status text is)
of_answer words files _ _ (too_long request file asks comes whole longer) = inr (inr refl)
of_answer words files _ _ (exported request name to status text asks is longer exports) = inr (of_export files name to status text exports)
of_answer words files _ _ (filmed request name others texts status text asks files_are longer are is) =
    inr (of_timeline _ _ request texts status text is)

-- The miss of a file
abbrev Misses : List (List ℕ) → Option Files → ℕ → ℕ → List ℕ → Type 0
Misses words files before after text =
    (request : Request) × (file : File) × Asks words request × ComeTo files (files_of request) file × Rose before after × (text ≡ unread_line file.name)

-- The change of a file
abbrev Changes : List (List ℕ) → Option Files → List ℕ → Type 0
Changes words files text =
    (request : Request) × (file : File) × Asks words request × ComeTo files (files_of request) file × (file.in_pieces ≡ true) × IsLong files file
    × (files ≡ None) × (text ≡ unread_line file.name)

-- An answer's: that, or 3 where a file couldn't be read, or changed
of_any : (words : List (List ℕ)) (files : Option Files) (before after status : ℕ) (text : List ℕ) → MayAnswer words files before after status text
    → ((status ≡ 2) × AskNothing words) ⊎ (IsOfView status ⊎ (((status ≡ 3) × Misses words files before after text) ⊎ ((status ≡ 3) × Changes words files text)))
of_any words files before after _ _ (may_answer status text is) = elim (of_answer words files status text is) [
  | inl two ↦ inl two
  | inr view ↦ inr (inl view)
]
of_any words files before after _ _ (may_miss request file asks comes rose) = inr (inr (inl (refl, (request, file, asks, comes, rose, refl))))
of_any words files before after _ _ (may_change request file asks comes pieces longer none) =
    inr (inr (inr (refl, (request, file, asks, comes, pieces, longer, none, refl))))

-- No answer's status is that one
never : (k : ℕ) → k ≢ 0 → k ≢ 1 → k ≢ 2 → k ≢ 3 → (words : List (List ℕ)) (files : Option Files) (before after status : ℕ) (text : List ℕ) → MayAnswer words files before after status text → status ≢ k
never k a b c d words files before after status text may e = elim (of_any words files before after status text may) [
  | inl two ↦ c (sym e ∙ two.0)
  | inr (inl (inl zero)) ↦ a (sym e ∙ zero)
  | inr (inl (inr one)) ↦ b (sym e ∙ one)
  | inr (inr (inl three)) ↦ d (sym e ∙ three.0)
  | inr (inr (inr three)) ↦ d (sym e ∙ three.0)
]

-- ---- replies

-- The file of a run of any length is come to first.
come_to : (files : Option Files) (request : Request) (name : List ℕ) (others : List File) → files_of request ≡ of_run name ∷ others
    → ComeTo files (files_of request) (of_run name)
come_to files request name others is = subst (λ fs. ComeTo files fs (of_run name)) (sym is) (first (of_run name) others)

-- What is told of a run in a file longer than is read together may answer words that ask for it.
of_told : (words : List (List ℕ)) (files : Option Files) (b a : ℕ) (request : Request) (name : List ℕ) (others : List File) (texts : List (List ℕ))
    (status : ℕ) (text : List ℕ) → Asks words request → files_of request ≡ of_run name ∷ others → IsLong files (of_run name) → AreTexts files others texts
    → IsToldOf files b a request name texts status text → MayAnswer words files b a status text
of_told words files b a request name others texts _ _ asks is longer are (told_of_run status text tells) =
    may_answer status text (filmed request name others texts status text asks is longer are tells)
of_told words files b a request name others texts _ _ asks is longer are (unread_now rose) =
    may_miss request (of_run name) asks (come_to files request name others is) rose
of_told words files b a request name others texts _ _ asks is longer are (changed none) =
    may_change request (of_run name) asks (come_to files request name others is) refl longer none

-- What replies to a request may answer words that ask for it
pub of_reply : (words : List (List ℕ)) (files : Option Files) (b a : ℕ) (request : Request) (status : ℕ) (text : List ℕ) → Asks words request
    → Replies files b a request status text → MayAnswer words files b a status text
of_reply words files b a request _ _ asks (viewed_all texts status text are is) = may_answer status text (viewed request texts status text asks are is)
of_reply words files b a request _ _ asks (missed file comes rose) = may_miss request file asks comes rose
of_reply words files b a request _ _ asks (stopped_at file comes whole longer) = may_answer _ _ (too_long request file asks comes whole longer)
of_reply words files b a request _ _ asks (of_long_run name others texts status text is longer are tells) =
    of_told words files b a request name others texts status text asks is longer are tells

-- ---- the clauses

-- What was written, where no write failed
by_says : {P : Type 0} (old now : Option (List ℕ)) (before after answer status : ℕ) (text : List ℕ) → Says old now before after answer status text
    → (answer ≡ status → Grew old now text → P) → (answer ≡ 4 → Rose before after → GrewByFront old now text → P) → P
by_says old now before after answer status text says whole cut = elim says [
  | inl a ↦ whole a.0 a.1
  | inr b ↦ cut b.0 b.1 b.2
]

-- The defined answer, or the miss of a file
by_may : {P : Type 0} (words : List (List ℕ)) (files : Option Files) (before after status : ℕ) (text : List ℕ) → MayAnswer words files before after status text
    → (Answers words files status text → P) → (status ≡ 3 → Rose before after → P) → (status ≡ 3 → files ≡ None → P) → P
by_may words files before after _ _ (may_answer status text is) defined misses changes = defined is
by_may words files before after _ _ (may_miss request file asks comes rose) defined misses changes = misses refl rose
by_may words files before after _ _ (may_change request file asks comes pieces longer none) defined misses changes = changes refl none

pub ends_answered : (words : List (List ℕ)) (files : Option Files) (b a : ℕ) (old now : Option (List ℕ)) (before after answer status : ℕ) (text : List ℕ)
    → MayAnswer words files b a status text → Says old now before after answer status text
    → answer ≢ 3 → answer ≢ 4 → answer ≢ 8 → (written : List ℕ) × Answers words files answer written × Grew old now written
ends_answered words files b a old now before after answer status text may says three four eight =
    by_says old now before after answer status text says
    (λ same grew. by_may words files b a status text may (λ is. (text, subst (λ s. Answers words files s text) (sym same) is, grew)) (λ miss rose. absurd (three (same ∙ miss)))
    (λ change none. absurd (three (same ∙ change))))
    (λ cut rose grew. absurd (four cut))

pub ends_done : (words : List (List ℕ)) (files : Option Files) (b a : ℕ) (old now : Option (List ℕ)) (before after answer status : ℕ) (text : List ℕ)
    → MayAnswer words files b a status text → Says old now before after answer status text
    → (Rose b a → ⊥) → (Rose before after → ⊥) → ((written : List ℕ) × Answers words files answer written × Grew old now written) ⊎ ((answer ≡ 8) ⊎ ((answer ≡ 3) × (files ≡ None)))
ends_done words files b a old now before after answer status text may says read write =
    by_says old now before after answer status text says
    (λ same grew. by_may words files b a status text may (λ is. inl (text, subst (λ s. Answers words files s text) (sym same) is, grew)) (λ miss rose. absurd (read rose))
    (λ change none. inr (inr (same ∙ change, none))))
    (λ cut rose grew. absurd (write rose))

pub ends_listed : (words : List (List ℕ)) (files : Option Files) (b a : ℕ) (old now : Option (List ℕ)) (before after answer status : ℕ) (text : List ℕ)
    → MayAnswer words files b a status text → Says old now before after answer status text → answer ≡ 2 → AskNothing words
ends_listed words files b a old now before after answer status text may says two =
    by_says old now before after answer status text says
    (λ same grew. elim (of_any words files b a status text may) [
      | inl is ↦ is.1
      | inr (inl (inl zero)) ↦ absurd (omega (arith, two, same, zero))
      | inr (inl (inr one)) ↦ absurd (omega (arith, two, same, one))
      | inr (inr (inl miss)) ↦ let three = miss.0 in absurd (omega (arith, two, same, three))
      | inr (inr (inr change)) ↦ let three = change.0 in absurd (omega (arith, two, same, three))
    ])
    (λ cut rose grew. absurd (omega (arith, two, cut)))

pub ends_read : (words : List (List ℕ)) (files : Option Files) (b a : ℕ) (old now : Option (List ℕ)) (before after answer status : ℕ) (text : List ℕ)
    → MayAnswer words files b a status text → Says old now before after answer status text
    → answer ≡ 3 → (request : Request) × (file : File) × Asks words request × ComeTo files (files_of request) file × EndsUnread files b a old now request file
ends_read words files b a old now before after answer status text may says three =
    by_says old now before after answer status text says
    (λ same grew. elim (of_any words files b a status text may) [
      | inl is ↦ let two = is.0 in absurd (omega (arith, three, same, two))
      | inr (inl (inl zero)) ↦ absurd (omega (arith, three, same, zero))
      | inr (inl (inr one)) ↦ absurd (omega (arith, three, same, one))
      | inr (inr (inl miss)) ↦ let is = miss.1 in (is.0, is.1, is.2, is.3, unread_first is.4 (subst (Grew old now) is.5 grew))
      | inr (inr (inr change)) ↦
          let is = change.1 in
          (is.0, is.1, is.2, is.3, unread_again is.4 is.5 (inr is.6) (subst (Grew old now) is.7 grew))
    ])
    (λ cut rose grew. absurd (omega (arith, three, cut)))

pub ends_write : (words : List (List ℕ)) (files : Option Files) (b a : ℕ) (old now : Option (List ℕ)) (before after answer status : ℕ) (text : List ℕ)
    → MayAnswer words files b a status text → Says old now before after answer status text → answer ≡ 4 → Rose before after × GrewByFront old now text
ends_write words files b a old now before after answer status text may says four =
    by_says old now before after answer status text says
    (λ same grew. absurd (never 4 (λ e. absurd (omega (arith, e))) (λ e. absurd (omega (arith, e))) (λ e. absurd (omega (arith, e))) (λ e. absurd (omega (arith, e))) words files b a status text may (sym same ∙ four)))
    (λ cut rose grew. (rose, grew))

pub ends_cut_short : (words : List (List ℕ)) (files : Option Files) (b a : ℕ) (old now : Option (List ℕ)) (before after answer status : ℕ) (text : List ℕ)
    → MayAnswer words files b a status text → Says old now before after answer status text
    → answer ≡ 4 → (whole : List ℕ) × (((wanted : ℕ) × MayAnswer words files b a wanted whole) ⊎ IsBegun words files whole) × GrewByFront old now whole
ends_cut_short words files b a old now before after answer status text may says four =
    (text, inl (status, may), (ends_write words files b a old now before after answer status text may says four).1)

pub ends_for_memory : (words : List (List ℕ)) (files : Option Files) (b a : ℕ) (old now : Option (List ℕ)) (before after answer status : ℕ) (text : List ℕ)
    → MayAnswer words files b a status text → Says old now before after answer status text → answer ≡ 8
    → Grew old now [] ⊎ ((part : List ℕ) × IsBegun words files part × GrewByFront old now part)
ends_for_memory words files b a old now before after answer status text may says eight =
    by_says old now before after answer status text says
    (λ same grew. absurd (never 8 (λ e. absurd (omega (arith, e))) (λ e. absurd (omega (arith, e))) (λ e. absurd (omega (arith, e))) (λ e. absurd (omega (arith, e))) words files b a status text may (sym same ∙ eight)))
    (λ cut rose grew. absurd (omega (arith, eight, cut)))
