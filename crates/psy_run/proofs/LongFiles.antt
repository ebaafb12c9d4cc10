-- Where a command stops at a file that is too long: only at a read.
use Rattle.std.proofs.Common.{◌≡◌, sym, ap, subst, refl, ℕ, List, [], Option, inl, inr, Result, Ok, Err, IfErr, arith}
use Rattle.std.specs.Result.{IsErrAnd}
use Rattle.psy_door.specs.Growth.{Grew}
use Rattle.psy_log.specs.Forms.{read_line}
use Rattle.psy_audit.specs.Traces.{Judged}
use Rattle.psy_history.specs.Actions.{System}
use Rattle.psy_kernel.specs.Progress.{Progress}
use Rattle.psy_make.specs.Text.{made_text}
use Rattle.psy_snap.specs.Forms.{Form}
use Rattle.psy_tree.specs.declared.unit.Unit.{Unit as Whole}
use Rattle.psy_run.specs.declared.refusal.File.{File}
use Rattle.psy_run.specs.declared.refusal.Refusal.{Refusal}
use Rattle.psy_run.specs.declared.refusal.Refusal.TheVariants.{Words, TooLong, Cycles, Large, LongTrace, LongState}
use Rattle.psy_run.specs.declared.refusal.Stop.{Stop}
use Rattle.psy_run.specs.declared.refusal.Stop.TheVariants as stop
use Rattle.psy_base.specs.declared.ways.Ways.{Ways as WayLists}
use Rattle.psy_image.specs.declared.image.Image.{Image as CodeImage}
use Rattle.psy_run.specs.Answer.{leaving_of, translating, supplying, supplying_by, trying}
use Rattle.psy_run.specs.Courses.{Course, in_row}
use Rattle.psy_run.specs.Outcome.{Halts, halts_refused, halts_unread, halts_memory, Says, TookLimit, IsPastLimit}
use Rattle.psy_run.specs.Refusals.{status_of, line_of, file_name}
use Rattle.psy_run.specs.Services.{meaning_of, saved_run, text_of}
use Rattle.psy_run.specs.Steps.{auditing, decoding, verifying, imaging, graphing, stating, directing, pacing, fitting, IsBusyAt, holding, resting, restoring}

-- ---- courses that read no file

-- No step of it stops so.
abbrev pub IsNeverLong : {X : Type 0} → Course X → Type 0
IsNeverLong c = (file : File) → c.stops (TooLong file) → ⊥

never_long_then : {X Y : Type 0} (c : Course X) (f : X → Course Y) → IsNeverLong c → ((x : X) → IsNeverLong (f x)) → IsNeverLong (in_row c f)
unfolding in_row
never_long_then c f first later file (inl stops) = first file stops
never_long_then c f first later file (inr (x, gives, stops)) = later x file stops

not_cycles : (file : File) → TooLong file ≡ Cycles → ⊥
not_cycles file e = absurd cc

pub not_words : (file : File) → Words ≡ TooLong file → ⊥
not_words file e = absurd cc

pub translating_never_long : (bytes : List ℕ) → IsNeverLong (translating bytes)
translating_never_long bytes file stops = stops

pub graphing_never_long : (unit : Whole) → IsNeverLong (graphing unit)
graphing_never_long unit file stops = stops

pub supplying_never_long : (unit : Whole) (until : ℕ) → IsNeverLong (supplying unit until)
supplying_never_long unit until file stops = stops

pub pacing_never_long : (unit : Whole) (until : ℕ) → IsNeverLong (pacing unit until)
pacing_never_long unit until file stops = not_cycles file stops.0

pub decoding_never_long : (bytes : List ℕ) → IsNeverLong (decoding bytes)
decoding_never_long bytes file stops = stops

pub verifying_never_long : (it : CodeImage) → IsNeverLong (verifying it)
verifying_never_long it file stops = stops

pub supplying_by_never_long : (unit : Whole) (ways : WayLists) (until : ℕ) → IsNeverLong (supplying_by unit ways until)
supplying_by_never_long unit ways until file stops = stops

not_large : (file : File) → TooLong file ≡ Large → ⊥
not_large file e = absurd cc

pub imaging_never_long : (unit : Whole) → IsNeverLong (imaging unit)
imaging_never_long unit file stops = not_large file stops.0

pub stating_never_long : (unit : Whole) (bytes : List ℕ) → IsNeverLong (stating unit bytes)
stating_never_long unit bytes file stops = stops

pub directing_never_long : (unit : Whole) (bytes : List ℕ) → IsNeverLong (directing unit bytes)
directing_never_long unit bytes file stops = stops

pub auditing_never_long : (j : Judged) (text : List ℕ) → IsNeverLong (auditing j text)
auditing_never_long j text file stops = stops

not_long : (file : File) → TooLong file ≡ LongTrace → ⊥
not_long file e = absurd cc

pub fitting_never_long : (trace : List ℕ) → IsNeverLong (fitting trace)
fitting_never_long trace file stops = not_long file stops.0

-- A date that isn't quiet is no such refusal, nor is a long state.
not_busy : (s : System) (date : ℕ) (file : File) → IsBusyAt s date (TooLong file) → ⊥
not_busy s date file stops = stops

not_long_state : (file : File) → TooLong file ≡ LongState → ⊥
not_long_state file e = absurd cc

holding_never_long : (state : List ℕ) → IsNeverLong (holding state)
holding_never_long state file stops = not_long_state file stops.0

pub leaving_never_long : (kernel : Progress) → IsNeverLong (leaving_of kernel)
leaving_never_long kernel =
    let s = meaning_of kernel.plan.unit kernel.plan.nexts kernel.inputs kernel.script in
    let state = text_of (saved_run kernel) in
    never_long_then (resting s kernel.plan.until) (λ done. holding state) (λ file stops. not_busy s kernel.plan.until file stops) (λ done. holding_never_long state)

pub restoring_never_long : (form : Form) (bytes : List ℕ) → IsNeverLong (restoring form bytes)
restoring_never_long form bytes file stops = stops

pub trying_never_long : (seed until : ℕ) → IsNeverLong (trying seed until)
trying_never_long seed until =
    never_long_then (translating (made_text seed)) _ (translating_never_long (made_text seed))
    (λ unit. never_long_then (supplying unit until) _ (supplying_never_long unit until) (λ supply. never_long_then (pacing unit until) _ (pacing_never_long unit until) (λ done file stops. stops)))

-- ---- stops

same_refusal : (r s : Refusal) → stop.Refused r ≡ stop.Refused s → r ≡ s
same_refusal r s e = cc

not_refused : (file : File) (r : Refusal) → stop.Unread file ≡ stop.Refused r → ⊥
not_refused file r e = absurd cc

no_refusal : (r : Refusal) → stop.Memory ≡ stop.Refused r → ⊥
no_refusal r e = absurd cc

-- A course that reads no file says nothing of the shelf.
pub took_never : {X : Type 0} (course : Course X) (failed : List ℕ) (before after taken : ℕ) (at : Stop) → IsNeverLong course → Halts course failed before after at → TookLimit taken at
took_never course failed before after taken _ never (halts_refused refusal stops) file e = absurd (never file (subst course.stops (same_refusal refusal (TooLong file) e) stops))
took_never course failed before after taken _ never (halts_unread other reads rose) file e = absurd (not_refused other (TooLong file) e)
took_never course failed before after taken _ never halts_memory file e = absurd (no_refusal (TooLong file) e)

-- The same of its end
pub took_last : {X Y : Type 0} (course : Course X) (failed : List ℕ) (before after taken : ℕ) (result : Result Y Stop) → IsNeverLong course → IfErr result (Halts course failed before after) → IfErr result (TookLimit taken)
took_last course failed before after taken (Ok y) never halts = tt
took_last course failed before after taken (Err at) never halts = took_never course failed before after taken at never halts

-- What `?` hands on, where it hands on the stop itself
pub took_exit : {Y : Type 0} (taken : ℕ) (at : Stop) (result : Result Y Stop) → IsErrAnd result (λ handed. handed ≡ at) → TookLimit taken at → IfErr result (TookLimit taken)
took_exit taken at (Ok y) is took = absurd is
took_exit taken at (Err handed) is took = subst (TookLimit taken) (sym is) took

-- Want of memory is none of a file.
pub took_for_memory : (taken : ℕ) → TookLimit taken stop.Memory
took_for_memory taken file e = absurd (no_refusal (TooLong file) e)

-- ---- the top

-- The answer 7 is that of a limit.
pub limit_passed : {X : Type 0} (course : Course X) (failed : List ℕ) (before after taken answer : ℕ) (old now : Option (List ℕ)) (low high : ℕ) (at : Stop) → Halts course failed before after at → TookLimit taken at
    → ((refusal : Refusal) → at ≡ stop.Refused refusal → Says old now low high answer (status_of refusal) (line_of refusal))
    → ((file : File) → at ≡ stop.Unread file → Says old now low high answer 3 (read_line (file_name file)))
    → (at ≡ stop.Memory → (answer ≡ 8) × Grew old now [])
    → answer ≡ 7 → IsPastLimit course old now taken
limit_passed course failed before after taken answer old now low high _ (halts_refused refusal stops) took says reads memory seven = elim (says refusal refl) [
  | inl (is, grew) ↦ record { refusal = refusal; stops = stops; grew = grew; took = λ file e. took file (ap stop.Refused e) }
  | inr (four, rose, front) ↦ absurd (omega (arith, four, seven))
]
limit_passed course failed before after taken answer old now low high _ (halts_unread file read rose) took says reads memory seven = elim (reads file refl) [
  | inl (three, grew) ↦ absurd (omega (arith, three, seven))
  | inr (four, again, front) ↦ absurd (omega (arith, four, seven))
]
limit_passed course failed before after taken answer old now low high _ halts_memory took says reads memory seven = absurd (omega (arith, (memory refl).0, seven))
