-- Which calls of shelf and sink failed, where a command stopped.
use Rattle.std.proofs.Common.{◌≡◌, ◌≢◌, ◌∙◌, sym, subst, refl, ℕ, List, Option, inl, inr, Result, Ok, Err, IfErr}
use Rattle.std.specs.Result.{IsErrAnd}
use Rattle.psy_log.specs.Forms.{read_line}
use Rattle.psy_run.specs.declared.refusal.File.{File}
use Rattle.psy_run.specs.declared.refusal.Stop.{Stop}
use Rattle.psy_run.specs.declared.refusal.Stop.TheVariants as stop
use Rattle.psy_run.specs.Outcome.{Says, Unfailed}
use Rattle.psy_run.specs.Refusals.{file_name}

-- What `?` hands on, where it hands on the stop itself
pub unfailed_exit : {Y : Type 0} (before after : ℕ) (at : Stop) (result : Result Y Stop) → IsErrAnd result (λ handed. handed ≡ at) → Unfailed before after at → IfErr result (Unfailed before after)
unfailed_exit before after at (Ok y) is unfailed = absurd is
unfailed_exit before after at (Err handed) is unfailed = subst (Unfailed before after) (sym is) unfailed

-- A stop behind calls that didn't fail
pub unfailed_behind : (before between after : ℕ) (at : Stop) → between ≡ before → Unfailed between after at → Unfailed before after at
unfailed_behind before between after at first later other = later other ∙ first

-- An end behind calls that didn't fail
pub unfailed_last : {Y : Type 0} (before after : ℕ) (result : Result Y Stop) → after ≡ before → IfErr result (Unfailed before after)
unfailed_last before after (Ok y) same = tt
unfailed_last before after (Err at) same = λ other. same

-- A stop at a file that couldn't be read says nothing of the count.
pub unread_any : (before after : ℕ) (file : File) → Unfailed before after (stop.Unread file)
unread_any before after file other = absurd (other file refl)

-- Such a stop is answered by 3, or by 4 where its line couldn't be written.
pub unfailed_answer : (before after low high answer : ℕ) (old now : Option (List ℕ)) (at : Stop) → Unfailed before after at
    → ((file : File) → at ≡ stop.Unread file → Says old now low high answer 3 (read_line (file_name file)))
    → answer ≢ 3 → answer ≢ 4 → after ≡ before
unfailed_answer before after low high answer old now at unfailed reads three four = unfailed (λ file is. elim (reads file is) [
  | inl (status, grew) ↦ three status
  | inr (cut, rose, front) ↦ four cut
])
