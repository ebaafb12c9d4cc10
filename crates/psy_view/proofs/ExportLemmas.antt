-- How a run in another form ends, clause by clause.
use Rattle.std.proofs.Common.{◌≡◌, ◌≢◌, refl, ℕ, List, [], ◌∷◌, Option, None, ◌⊎◌, inl, inr, arith}
use Rattle.psy_door.specs.Faults.{Rose}
use Rattle.psy_door.specs.Files.{Files}
use Rattle.psy_door.specs.Growth.{Grew, GrewByFront}
use Rattle.psy_export.specs.Ending.{Ends, IsUnreadable, MayStand}
use Rattle.psy_export.specs.Ending as ending
use Rattle.psy_export.specs.Exports.{Exports, IsExportFront}
use Rattle.psy_export.specs.declared.forms.Format.{Format}
use Rattle.psy_export.specs.declared.forms.Format.TheVariants as format
use Rattle.psy_view.specs.Answer.{Answers, IsExport, as_dump, as_table, exported, viewed}
use Rattle.psy_view.specs.Asked.{AskNothing, Asks, File, Request, of_run, files_of}
use Rattle.psy_view.specs.Fetching.{AreTexts, ComeTo, IsLong, IsTextOf, first}
use Rattle.psy_view.specs.Outcome.{EndsExport, EndsUnread, IsBegun, MayAnswer, may_answer, may_change, may_miss, no_room, of_long, of_none, of_text}
use Rattle.psy_view.specs.Outcome.{unread_again, unread_late}
use Rattle.psy_view.specs.Reading.{request_of_export}
use Rattle.psy_export.specs.Refusals.{unread_line}
use Rattle.psy_view.specs.Views.{ViewOf}
use Rattle.psy_view.proofs.TopLemmas.{IsOfView, ends_answered, ends_cut_short, ends_done, ends_for_memory, ends_listed, ends_read, ends_write, of_export}

-- ---- the request

pub is_export : (name : List ℕ) (to : Format) → IsExport (request_of_export name to) name to
is_export name format.Table = as_table name
is_export name format.Dump = as_dump name

come_to : (files : Option Files) (name : List ℕ) (to : Format) → ComeTo files (files_of (request_of_export name to)) (of_run name)
come_to files name format.Table = first _ []
come_to files name format.Dump = first _ []

one_text : (files : Option Files) (name bytes : List ℕ) (to : Format) → IsTextOf files (of_run name) bytes → AreTexts files (files_of (request_of_export name to)) (bytes ∷ [])
one_text files name bytes format.Table is = (is, tt)
one_text files name bytes format.Dump is = (is, tt)

-- A view's status is 0 or 1.
not_2 : (status : ℕ) → IsOfView status → status ≢ 2
not_2 status (inl zero) two = omega (arith, zero, two)
not_2 status (inr one) two = omega (arith, one, two)

not_3 : (status : ℕ) → IsOfView status → status ≢ 3
not_3 status (inl zero) three = omega (arith, zero, three)
not_3 status (inr one) three = omega (arith, one, three)

not_4 : (status : ℕ) → IsOfView status → status ≢ 4
not_4 status (inl zero) four = omega (arith, zero, four)
not_4 status (inr one) four = omega (arith, one, four)

not_8 : (status : ℕ) → IsOfView status → status ≢ 8
not_8 status (inl zero) eight = omega (arith, zero, eight)
not_8 status (inr one) eight = omega (arith, one, eight)

module _ (words : List (List ℕ)) (files : Option Files) (name : List ℕ) (to : Format) (b a before after : ℕ) (old now : Option (List ℕ))
    (asks : Asks words (request_of_export name to)) where
  abbrev Long : ℕ → Type 0
  Long = Ends files name to b a before after old now

  -- ---- what may answer

  of_view : (bytes : List ℕ) (status : ℕ) (text : List ℕ) → IsTextOf files (of_run name) bytes → ViewOf (request_of_export name to) (bytes ∷ []) status text
      → MayAnswer words files b a status text
  of_view bytes status text is views = may_answer status text (viewed _ (bytes ∷ []) status text asks (one_text files name bytes to is) views)

  of_miss : Rose b a → MayAnswer words files b a 3 (unread_line name)
  of_miss rose = may_miss _ (of_run name) asks (come_to files name to) rose

  of_exports : IsLong files (of_run name) → (status : ℕ) (text : List ℕ) → Exports files name to status text → Answers words files status text
  of_exports long status text exports = exported _ name to status text asks (is_export name to) long exports

  -- ---- the clauses

  abbrev Answered : ℕ → Type 0
  Answered answer = (written : List ℕ) × Answers words files answer written × Grew old now written

  long_answered : IsLong files (of_run name) → (answer : ℕ) → Long answer → answer ≢ 3 → answer ≢ 4 → answer ≢ 8 → Answered answer
  long_answered long _ (ending.answered status text exports grew same) three four eight = (text, of_exports long status text exports, grew)
  long_answered long _ (ending.unread unreadable grew same) three four eight = absurd (three refl)
  long_answered long _ (ending.left_off text unreadable front grew same) three four eight = absurd (three refl)
  long_answered long _ (ending.cut_short text may grew rose) three four eight = absurd (four refl)
  long_answered long _ (ending.no_memory text front grew same) three four eight = absurd (eight refl)

  pub export_answered : (answer : ℕ) → EndsExport files name to b a before after old now answer → answer ≢ 3 → answer ≢ 4 → answer ≢ 8 → Answered answer
  export_answered answer (of_text bytes status text is views says) =
      ends_answered words files b a old now before after answer status text (of_view bytes status text is views) says
  export_answered answer (of_none rose says) = ends_answered words files b a old now before after answer 3 (unread_line name) (of_miss rose) says
  export_answered answer (of_long long ends) = long_answered long answer ends
  export_answered answer (no_room none grew) = λ three four eight. absurd (eight none)

  abbrev Done : ℕ → Type 0
  Done answer = Answered answer ⊎ ((answer ≡ 8) ⊎ ((answer ≡ 3) × (files ≡ None)))

  untold : (Rose b a → ⊥) → IsUnreadable files b a → files ≡ None
  untold read (inl rose) = absurd (read rose)
  untold read (inr none) = none

  long_done : IsLong files (of_run name) → (answer : ℕ) → Long answer → (Rose b a → ⊥) → (Rose before after → ⊥) → Done answer
  long_done long _ (ending.answered status text exports grew same) read write = inl (text, of_exports long status text exports, grew)
  long_done long _ (ending.unread unreadable grew same) read write = inr (inr (refl, untold read unreadable))
  long_done long _ (ending.left_off text unreadable front grew same) read write = inr (inr (refl, untold read unreadable))
  long_done long _ (ending.cut_short text may grew rose) read write = absurd (write rose)
  long_done long _ (ending.no_memory text front grew same) read write = inr (inl refl)

  pub export_done : (answer : ℕ) → EndsExport files name to b a before after old now answer → (Rose b a → ⊥) → (Rose before after → ⊥) → Done answer
  export_done answer (of_text bytes status text is views says) =
      ends_done words files b a old now before after answer status text (of_view bytes status text is views) says
  export_done answer (of_none rose says) = ends_done words files b a old now before after answer 3 (unread_line name) (of_miss rose) says
  export_done answer (of_long long ends) = long_done long answer ends
  export_done answer (no_room none grew) = λ read write. inr (inl none)

  long_listed : (answer : ℕ) → Long answer → answer ≡ 2 → ⊥
  long_listed _ (ending.answered status text exports grew same) two = not_2 status (of_export files name to status text exports) two
  long_listed _ (ending.unread unreadable grew same) two = omega (arith, two)
  long_listed _ (ending.left_off text unreadable front grew same) two = omega (arith, two)
  long_listed _ (ending.cut_short text may grew rose) two = omega (arith, two)
  long_listed _ (ending.no_memory text front grew same) two = omega (arith, two)

  pub export_listed : (answer : ℕ) → EndsExport files name to b a before after old now answer → answer ≡ 2 → AskNothing words
  export_listed answer (of_text bytes status text is views says) =
      ends_listed words files b a old now before after answer status text (of_view bytes status text is views) says
  export_listed answer (of_none rose says) = ends_listed words files b a old now before after answer 3 (unread_line name) (of_miss rose) says
  export_listed answer (of_long long ends) = λ two. absurd (long_listed answer ends two)
  export_listed answer (no_room none grew) = λ two. absurd (omega (arith, two, none))

  abbrev Unread : Type 0
  Unread =
      (request : Request) × (file : File) × Asks words request × ComeTo files (files_of request) file × EndsUnread files b a old now request file

  long_read : IsLong files (of_run name) → (answer : ℕ) → Long answer → answer ≡ 3 → Unread
  long_read long _ (ending.answered status text exports grew same) three = absurd (not_3 status (of_export files name to status text exports) three)
  long_read long _ (ending.unread unreadable grew same) three =
      (request_of_export name to, of_run name, asks, come_to files name to, unread_again refl long unreadable grew)
  long_read long _ (ending.left_off text unreadable front grew same) three =
      (request_of_export name to, of_run name, asks, come_to files name to, unread_late to text (is_export name to) long unreadable front grew)
  long_read long _ (ending.cut_short text may grew rose) three = absurd (omega (arith, three))
  long_read long _ (ending.no_memory text front grew same) three = absurd (omega (arith, three))

  pub export_read : (answer : ℕ) → EndsExport files name to b a before after old now answer → answer ≡ 3 → Unread
  export_read answer (of_text bytes status text is views says) =
      ends_read words files b a old now before after answer status text (of_view bytes status text is views) says
  export_read answer (of_none rose says) = ends_read words files b a old now before after answer 3 (unread_line name) (of_miss rose) says
  export_read answer (of_long long ends) = long_read long answer ends
  export_read answer (no_room none grew) = λ three. absurd (omega (arith, three, none))

  abbrev Cut : Type 0
  Cut = (text : List ℕ) × (((status : ℕ) × MayAnswer words files b a status text) ⊎ IsBegun words files text) × GrewByFront old now text

  begun : IsLong files (of_run name) → (text : List ℕ) → IsExportFront to files name text → IsBegun words files text
  begun long text front = (request_of_export name to, name, to, asks, is_export name to, long, front)

  may_stand : IsLong files (of_run name) → (text : List ℕ) → MayStand files name to b a text → ((status : ℕ) × MayAnswer words files b a status text) ⊎ IsBegun words files text
  may_stand long _ (ending.may_answer status text exports) = inl (status, may_answer status text (of_exports long status text exports))
  may_stand long _ (ending.may_miss (inl rose)) = inl (3, of_miss rose)
  may_stand long _ (ending.may_miss (inr none)) = inl (3, may_change _ (of_run name) asks (come_to files name to) refl long none)
  may_stand long _ (ending.may_begin text front) = inr (begun long text front)

  long_cut : IsLong files (of_run name) → (answer : ℕ) → Long answer → answer ≡ 4 → Rose before after × Cut
  long_cut long _ (ending.answered status text exports grew same) four = absurd (not_4 status (of_export files name to status text exports) four)
  long_cut long _ (ending.unread unreadable grew same) four = absurd (omega (arith, four))
  long_cut long _ (ending.left_off text unreadable front grew same) four = absurd (omega (arith, four))
  long_cut long _ (ending.cut_short text may grew rose) four = (rose, (text, may_stand long text may, grew))
  long_cut long _ (ending.no_memory text front grew same) four = absurd (omega (arith, four))

  pub export_write : (answer : ℕ) → EndsExport files name to b a before after old now answer → answer ≡ 4 → Rose before after
  export_write answer (of_text bytes status text is views says) = λ four.
      (ends_write words files b a old now before after answer status text (of_view bytes status text is views) says four).0
  export_write answer (of_none rose says) = λ four. (ends_write words files b a old now before after answer 3 (unread_line name) (of_miss rose) says four).0
  export_write answer (of_long long ends) = λ four. (long_cut long answer ends four).0
  export_write answer (no_room none grew) = λ four. absurd (omega (arith, four, none))

  pub export_cut_short : (answer : ℕ) → EndsExport files name to b a before after old now answer → answer ≡ 4 → Cut
  export_cut_short answer (of_text bytes status text is views says) =
      ends_cut_short words files b a old now before after answer status text (of_view bytes status text is views) says
  export_cut_short answer (of_none rose says) = ends_cut_short words files b a old now before after answer 3 (unread_line name) (of_miss rose) says
  export_cut_short answer (of_long long ends) = λ four. (long_cut long answer ends four).1
  export_cut_short answer (no_room none grew) = λ four. absurd (omega (arith, four, none))

  abbrev WithoutMemory : Type 0
  WithoutMemory = Grew old now [] ⊎ ((part : List ℕ) × IsBegun words files part × GrewByFront old now part)

  long_memory : IsLong files (of_run name) → (answer : ℕ) → Long answer → answer ≡ 8 → WithoutMemory
  long_memory long _ (ending.answered status text exports grew same) eight = absurd (not_8 status (of_export files name to status text exports) eight)
  long_memory long _ (ending.unread unreadable grew same) eight = absurd (omega (arith, eight))
  long_memory long _ (ending.left_off text unreadable front grew same) eight = absurd (omega (arith, eight))
  long_memory long _ (ending.cut_short text may grew rose) eight = absurd (omega (arith, eight))
  long_memory long _ (ending.no_memory text front grew same) eight = inr (text, begun long text front, grew)

  pub export_memory : (answer : ℕ) → EndsExport files name to b a before after old now answer → answer ≡ 8 → WithoutMemory
  export_memory answer (of_text bytes status text is views says) =
      ends_for_memory words files b a old now before after answer status text (of_view bytes status text is views) says
  export_memory answer (of_none rose says) = ends_for_memory words files b a old now before after answer 3 (unread_line name) (of_miss rose) says
  export_memory answer (of_long long ends) = long_memory long answer ends
  export_memory answer (no_room none grew) = λ eight. inl grew
