-- The words ask for one command, or for none.
use Rattle.std.proofs.Common.{◌≡◌, ◌∙◌, sym, subst, ap, refl, ℕ, List, [], ◌∷◌, ◌⊎◌, inl, inr, Option, Some, None, Bool, true, false, if◌then◌else◌, bytes_eq, codes}
use Rattle.std.proofs.lemmas.Option.{none-some, same_Some, option_and_then_some}
use Rattle.psy_lists.proofs.lemmas.Texts.{same_text}
use Rattle.psy_run.specs.declared.refusal.Refusal.TheVariants.{Words}
use Rattle.psy_run.specs.Asked.{Command, Asks, asks_run, asks_run_with_inputs, asks_run_with_script, asks_check, asks_graph, asks_make, asks_trial, asks_build, asks_exec, asks_exec_with_inputs, asks_exec_with_script, asks_audit, asks_audit_with_script, asks_trace, asks_trace_with_inputs, asks_trace_with_script, asks_save, asks_save_with_inputs, asks_save_with_script, asks_resume, asks_resume_with_inputs, asks_resume_with_script}
use Rattle.psy_run.specs.Steps.{asking}
use Rattle.psy_run.proofs.AskedLemmas.{date_of, from_date, seed_of, from_seed, command_of, to_command}
use Rattle.psy_run.proofs.Courses.{IsSome, IsDecided}

-- What comes where the first word is this one, or what comes where it is another
chosen : (word name : List ℕ) (this other : Option Command) (command : Command) → (if bytes_eq word name then this else other) ≡ Some command → ((word ≡ name) × (this ≡ Some command)) ⊎ (other ≡ Some command)
chosen word name this other command is = by (bytes_eq word name) refl is
  where
    by : (t : Bool) → t ≡ bytes_eq word name → (if t then this else other) ≡ Some command → ((word ≡ name) × (this ≡ Some command)) ⊎ (other ≡ Some command)
    by true same is = inl (same_text word name same, is)
    by false different is = inr is

of_two : (first word : List ℕ) (command : Command) → command_of (first ∷ word ∷ []) ≡ Some command → Asks (first ∷ word ∷ []) command
unfolding command_of
of_two first word command is = elim (chosen first (codes "graph") _ _ command is) [
  | inl graph ↦ subst (Asks (first ∷ word ∷ [])) (same_Some _ command graph.1) (asks_graph word (ap (λ w. w ∷ word ∷ []) graph.0))
  | inr other ↦ elim (chosen first (codes "build") _ _ command other) [
    | inl build ↦ subst (Asks (first ∷ word ∷ [])) (same_Some _ command build.1) (asks_build word (ap (λ w. w ∷ word ∷ []) build.0))
    | inr neither ↦ elim (chosen first (codes "make") _ _ command neither) [
      | inl make ↦ option_and_then_some _ (seed_of word) command make.1
          (λ seed found same. subst (Asks (first ∷ word ∷ [])) (same_Some _ command same) (asks_make word seed (ap (λ w. w ∷ word ∷ []) make.0) (from_seed word seed found)))
      | inr none ↦ absurd (none-some command none)
    ]
  ]
]

of_three : (first word date : List ℕ) (command : Command) → command_of (first ∷ word ∷ date ∷ []) ≡ Some command → Asks (first ∷ word ∷ date ∷ []) command
unfolding command_of
of_three first word date command is = option_and_then_some _ (date_of date) command is (λ until found that. elim (chosen first (codes "run") _ _ command that) [
  | inl run ↦ subst (Asks (first ∷ word ∷ date ∷ [])) (same_Some _ command run.1) (asks_run word date until (ap (λ w. w ∷ word ∷ date ∷ []) run.0) (from_date date until found))
  | inr other ↦ elim (chosen first (codes "exec") _ _ command other) [
    | inl exec ↦ subst (Asks (first ∷ word ∷ date ∷ [])) (same_Some _ command exec.1) (asks_exec word date until (ap (λ w. w ∷ word ∷ date ∷ []) exec.0) (from_date date until found))
    | inr neither ↦ elim (chosen first (codes "check") _ _ command neither) [
      | inl check ↦ subst (Asks (first ∷ word ∷ date ∷ [])) (same_Some _ command check.1) (asks_check word date until (ap (λ w. w ∷ word ∷ date ∷ []) check.0) (from_date date until found))
      | inr last ↦ elim (chosen first (codes "trial") _ _ command last) [
        | inl trial ↦ option_and_then_some _ (seed_of word) command trial.1
            (λ seed drawn same. subst (Asks (first ∷ word ∷ date ∷ [])) (same_Some _ command same) (asks_trial word date seed until (ap (λ w. w ∷ word ∷ date ∷ []) trial.0) (from_seed word seed drawn) (from_date date until found)))
        | inr fifth ↦ elim (chosen first (codes "trace") _ _ command fifth) [
          | inl trace ↦ subst (Asks (first ∷ word ∷ date ∷ [])) (same_Some _ command trace.1) (asks_trace word date until (ap (λ w. w ∷ word ∷ date ∷ []) trace.0) (from_date date until found))
          | inr sixth ↦ elim (chosen first (codes "save") _ _ command sixth) [
            | inl save ↦ subst (Asks (first ∷ word ∷ date ∷ [])) (same_Some _ command save.1) (asks_save word date until (ap (λ w. w ∷ word ∷ date ∷ []) save.0) (from_date date until found))
            | inr none ↦ absurd (none-some command none)
          ]
        ]
      ]
    ]
  ]
])

of_four : (first program date inputs : List ℕ) (command : Command) → command_of (first ∷ program ∷ date ∷ inputs ∷ []) ≡ Some command → Asks (first ∷ program ∷ date ∷ inputs ∷ []) command
unfolding command_of
of_four first program date inputs command whole = elim (chosen first (codes "resume") _ _ command whole) [
  | inl resume ↦ option_and_then_some _ (date_of inputs) command resume.1
      (λ until found that. subst (Asks (first ∷ program ∷ date ∷ inputs ∷ [])) (same_Some _ command that)
      (asks_resume program date inputs until (ap (λ w. w ∷ program ∷ date ∷ inputs ∷ []) resume.0) (from_date inputs until found)))
  | inr is ↦ option_and_then_some _ (date_of date) command is (λ until found that. elim (chosen first (codes "run") _ _ command that) [
    | inl run ↦ subst (Asks (first ∷ program ∷ date ∷ inputs ∷ [])) (same_Some _ command run.1)
        (asks_run_with_inputs program date inputs until (ap (λ w. w ∷ program ∷ date ∷ inputs ∷ []) run.0) (from_date date until found))
    | inr other ↦ elim (chosen first (codes "exec") _ _ command other) [
      | inl exec ↦ subst (Asks (first ∷ program ∷ date ∷ inputs ∷ [])) (same_Some _ command exec.1)
          (asks_exec_with_inputs program date inputs until (ap (λ w. w ∷ program ∷ date ∷ inputs ∷ []) exec.0) (from_date date until found))
      | inr neither ↦ elim (chosen first (codes "audit") _ _ command neither) [
        | inl audit ↦ subst (Asks (first ∷ program ∷ date ∷ inputs ∷ [])) (same_Some _ command audit.1)
            (asks_audit program date inputs until (ap (λ w. w ∷ program ∷ date ∷ inputs ∷ []) audit.0) (from_date date until found))
        | inr last ↦ elim (chosen first (codes "trace") _ _ command last) [
          | inl trace ↦ subst (Asks (first ∷ program ∷ date ∷ inputs ∷ [])) (same_Some _ command trace.1)
              (asks_trace_with_inputs program date inputs until (ap (λ w. w ∷ program ∷ date ∷ inputs ∷ []) trace.0) (from_date date until found))
          | inr fifth ↦ elim (chosen first (codes "save") _ _ command fifth) [
            | inl save ↦ subst (Asks (first ∷ program ∷ date ∷ inputs ∷ [])) (same_Some _ command save.1)
                (asks_save_with_inputs program date inputs until (ap (λ w. w ∷ program ∷ date ∷ inputs ∷ []) save.0) (from_date date until found))
            | inr none ↦ absurd (none-some command none)
          ]
        ]
      ]
    ]
  ])
]

of_five : (first program date inputs script : List ℕ) (command : Command) → command_of (first ∷ program ∷ date ∷ inputs ∷ script ∷ []) ≡ Some command → Asks (first ∷ program ∷ date ∷ inputs ∷ script ∷ []) command
unfolding command_of
of_five first program date inputs script command whole = elim (chosen first (codes "resume") _ _ command whole) [
  | inl resume ↦ option_and_then_some _ (date_of inputs) command resume.1
      (λ until found that. subst (Asks (first ∷ program ∷ date ∷ inputs ∷ script ∷ [])) (same_Some _ command that)
      (asks_resume_with_inputs program date inputs script until (ap (λ w. w ∷ program ∷ date ∷ inputs ∷ script ∷ []) resume.0) (from_date inputs until found)))
  | inr is ↦ option_and_then_some _ (date_of date) command is (λ until found that. elim (chosen first (codes "run") _ _ command that) [
    | inl run ↦ subst (Asks (first ∷ program ∷ date ∷ inputs ∷ script ∷ [])) (same_Some _ command run.1)
        (asks_run_with_script program date inputs script until (ap (λ w. w ∷ program ∷ date ∷ inputs ∷ script ∷ []) run.0) (from_date date until found))
    | inr other ↦ elim (chosen first (codes "exec") _ _ command other) [
      | inl exec ↦ subst (Asks (first ∷ program ∷ date ∷ inputs ∷ script ∷ [])) (same_Some _ command exec.1)
          (asks_exec_with_script program date inputs script until (ap (λ w. w ∷ program ∷ date ∷ inputs ∷ script ∷ []) exec.0) (from_date date until found))
      | inr neither ↦ elim (chosen first (codes "audit") _ _ command neither) [
        | inl audit ↦ subst (Asks (first ∷ program ∷ date ∷ inputs ∷ script ∷ [])) (same_Some _ command audit.1)
            (asks_audit_with_script program date inputs script until (ap (λ w. w ∷ program ∷ date ∷ inputs ∷ script ∷ []) audit.0) (from_date date until found))
        | inr last ↦ elim (chosen first (codes "trace") _ _ command last) [
          | inl trace ↦ subst (Asks (first ∷ program ∷ date ∷ inputs ∷ script ∷ [])) (same_Some _ command trace.1)
              (asks_trace_with_script program date inputs script until (ap (λ w. w ∷ program ∷ date ∷ inputs ∷ script ∷ []) trace.0) (from_date date until found))
          | inr fifth ↦ elim (chosen first (codes "save") _ _ command fifth) [
            | inl save ↦ subst (Asks (first ∷ program ∷ date ∷ inputs ∷ script ∷ [])) (same_Some _ command save.1)
                (asks_save_with_script program date inputs script until (ap (λ w. w ∷ program ∷ date ∷ inputs ∷ script ∷ []) save.0) (from_date date until found))
            | inr none ↦ absurd (none-some command none)
          ]
        ]
      ]
    ]
  ])
]

of_six : (first program state date inputs script : List ℕ) (command : Command) → command_of (first ∷ program ∷ state ∷ date ∷ inputs ∷ script ∷ []) ≡ Some command → Asks (first ∷ program ∷ state ∷ date ∷ inputs ∷ script ∷ []) command
unfolding command_of
of_six first program state date inputs script command whole = elim (chosen first (codes "resume") _ _ command whole) [
  | inl resume ↦ option_and_then_some _ (date_of date) command resume.1
      (λ until found that. subst (Asks (first ∷ program ∷ state ∷ date ∷ inputs ∷ script ∷ [])) (same_Some _ command that)
      (asks_resume_with_script program state date inputs script until (ap (λ w. w ∷ program ∷ state ∷ date ∷ inputs ∷ script ∷ []) resume.0) (from_date date until found)))
  | inr none ↦ absurd (none-some command none)
]

from_command : (words : List (List ℕ)) (command : Command) → command_of words ≡ Some command → Asks words command
unfolding command_of
from_command [] command is = absurd (none-some command is)
from_command (a ∷ []) command is = absurd (none-some command is)
from_command (a ∷ b ∷ []) command is = of_two a b command is
from_command (a ∷ b ∷ c ∷ []) command is = of_three a b c command is
from_command (a ∷ b ∷ c ∷ d ∷ []) command is = of_four a b c d command is
from_command (a ∷ b ∷ c ∷ d ∷ e ∷ []) command is = of_five a b c d e command is
from_command (a ∷ b ∷ c ∷ d ∷ e ∷ f ∷ []) command is = of_six a b c d e f command is
from_command (a ∷ b ∷ c ∷ d ∷ e ∷ f ∷ g ∷ words) command is = absurd (none-some command is)

-- ---- the step

pub decided_asking : (words : List (List ℕ)) → IsDecided (asking words)
decided_asking words = record {
  one = record {
    gift = λ x y p q. same_Some x y (sym (to_command words x p) ∙ to_command words y q);
    stop = λ r s p q. p.0 ∙ sym q.0;
    apart = λ x r p q. q.1 x p;
  };
  some = by (command_of words) refl;
}
  where
    by : (found : Option Command) → command_of words ≡ found → IsSome (asking words)
    by (Some command) is = inl (command, from_command words command is)
    by None is = inr (Words, (refl, λ command asks. none-some command (sym is ∙ to_command words command asks)))
