-- What a run sees on its way: the pasts that it saw from the start, and messages of the same streams.
use Rattle.std.proofs.Common.{◌≡◌, ℕ, zero, suc, true, List, [], ◌∷◌, Option, Some, None, refl, ap, subst, ◌∙◌}
use Rattle.std.specs.Prelude.{ℤ, IsSome, map, slice_get, slice_set}
use Rattle.psy_meaning.proofs.lemmas.Running.{same_running}
use Rattle.psy_code.specs.declared.code.AgentCode.{AgentCode}
use Rattle.psy_code.specs.declared.code.Code.{Code}
use Rattle.psy_code.specs.Execution.{Next, Went, Ended, Trapped, Stuck, Run, RunState, Running, RanTo, TrappedBy, NoRun, call_of, go_on, next_of, run_by, run_code, run_one, state_then, view_then}
use Rattle.psy_code.specs.Views.{Call, Past, Ready, Take, Send, View, found_in, view_after, without_first}
use Rattle.psy_meaning.specs.Alike.{is_there}

-- There are messages of the same streams, and the same pasts.
abbrev pub SeesAs : View → View → Type 0
SeesAs start now = (now.pasts ≡ start.pasts) × (map is_there now.messages ≡ map is_there start.messages)

-- ---- messages

there_still : (messages : Option (List ℤ)) → is_there (without_first messages) ≡ is_there messages
there_still None = refl
there_still (Some messages) = refl

there_after : (messages : List (Option (List ℤ))) (stream : ℕ) → map is_there (slice_set messages stream (without_first (found_in (slice_get messages stream) (λ m. m)))) ≡ map is_there messages
there_after [] stream = refl
there_after (m ∷ messages) zero = ap (λ b. b ∷ map is_there messages) (there_still m)
there_after (m ∷ messages) (suc stream) = ap (λ bs. is_there m ∷ bs) (there_after messages stream)

-- A stream whose messages are found is one of those that are there
pub there_found : (messages : List (Option (List ℤ))) (stream : ℕ) → IsSome (found_in (slice_get messages stream) (λ m. m)) → slice_get (map is_there messages) stream ≡ Some true
there_found [] stream some = cc
there_found (None ∷ messages) zero some = cc
there_found (Some values ∷ messages) zero some = refl
there_found (m ∷ messages) (suc stream) some = there_found messages stream some

-- ---- instructions

sees_after : (view : View) (call : Call) → SeesAs view (view_after view call)
sees_after view (Past variable back) = (refl, refl)
sees_after view (Ready stream) = (refl, refl)
sees_after view (Take stream) = (refl, there_after view.messages stream)
sees_after view (Send sent) = (refl, refl)

sees_then : (view : View) (call : Option Call) → SeesAs view (view_then view call)
sees_then view None = (refl, refl)
sees_then view (Some call) = sees_after view call

sees_one : (s u : RunState) (call : Option Call) (next : Next) → run_by s call next ≡ Running u → SeesAs s.view u.view
sees_one s u call (Went m) e = subst (λ (t : RunState). SeesAs s.view t.view) (same_running (state_then s call m) u e) (sees_then s.view call)
sees_one s u call (Ended point m) e = cc
sees_one s u call (Trapped kind) e = cc
sees_one s u call Stuck e = cc

sees_through : (view between last : View) → SeesAs view between → SeesAs between last → SeesAs view last
sees_through view between last first second = (second.0 ∙ first.0, second.1 ∙ first.1)

-- ---- runs

sees_on : (s t : RunState) (run : Run) (go : RunState → Run) → ((u : RunState) → run ≡ Running u → go u ≡ Running t → SeesAs s.view t.view) → go_on run go ≡ Running t → SeesAs s.view t.view
sees_on s t (Running u) go on e = on u refl e
sees_on s t (RanTo point u) go on e = cc
sees_on s t (TrappedBy kind u) go on e = cc
sees_on s t NoRun go on e = cc

-- After so many instructions a run sees so.
pub sees_as : (code : Code) (its : AgentCode) (n : ℕ) (s t : RunState) → run_code code its s n ≡ Running t → SeesAs s.view t.view
sees_as code its zero s t e = subst (λ (u : RunState). SeesAs s.view u.view) (same_running s t e) (refl, refl)
sees_as code its (suc n) s t e =
    sees_on s t (run_one code its s) (λ u. run_code code its u n) (λ u one rest. sees_through s.view u.view t.view (sees_one s u (call_of code s.machine) (next_of code its s.view s.machine) one) (sees_as code its n u t rest)) e
