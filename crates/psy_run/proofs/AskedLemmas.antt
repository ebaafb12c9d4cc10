-- What words ask for, as it is found word by word.
use Rattle.std.proofs.Common.{◌≡◌, ◌∙◌, sym, subst, ap, refl, ℕ, zero, suc, ◌<◌, ◌≤◌, List, [], ◌∷◌, length, map, drop, get_or, Option, Some, None, Bool, true, false, if◌then◌else◌, MatchOption, bytes_eq, codes, arith, drop-cons}
use Rattle.std.specs.Prelude.{◌^◌, nat_lt, nat_le, option_and_then}
use Rattle.std.proofs.lemmas.Bool.{ltb-true, leb-true, lt-ltb, le-leb}
use Rattle.std.proofs.lemmas.Option.{cond_some, option_and_then_some}
use Rattle.psy_base.specs.declared.limits.TheConstants.{UNTIL}
use Rattle.psy_lists.proofs.lemmas.Texts.{same_text}
use Rattle.psy_text.specs.Words.{number_of}
use Rattle.psy_run.specs.declared.asked.Command.{Command as Read}
use Rattle.psy_run.specs.Asked.{IsDate, IsSeed, Command, Run, Check, Graph, Make, Trial, Build, Exec, Audit, Trace, Save, Resume, Asks, AskNothing, asks_run, asks_run_with_inputs, asks_run_with_script, asks_check, asks_graph, asks_make, asks_trial, asks_build, asks_exec, asks_exec_with_inputs, asks_exec_with_script, asks_audit, asks_audit_with_script, asks_trace, asks_trace_with_inputs, asks_trace_with_script, asks_save, asks_save_with_inputs, asks_save_with_script, asks_resume, asks_resume_with_inputs, asks_resume_with_script, asked_by}

-- What is made from the items from one place on, item by item
pub map-next : {X Y : Type 0} {x : X} {y : Y} {ys : List Y} (f : X → Y) (xs : List X) (k : ℕ) → k < length xs → x ≡ get_or xs k x → y ≡ f x → map f (drop (suc k) xs) ≡ ys → map f (drop k xs) ≡ y ∷ ys
map-next {x = x} f xs k less at is rest = ap (map f) (drop-cons xs k x less) ∙ (λ i. (ap f (sym at) ∙ sym is) i ∷ rest i)

pub map-end : {X Y : Type 0} (f : X → Y) (xs : List X) (k : ℕ) → length xs ≤ k → map f (drop k xs) ≡ []
map-end f [] zero long = refl
map-end f (x ∷ xs) zero long = absurd (omega (arith, long))
map-end f [] (suc k) long = refl
map-end f (x ∷ xs) (suc k) long = map-end f xs k (omega (arith, long))

-- ---- numbers

-- The number that a word is, where it passes a test
number_that : (ℕ → Bool) → List ℕ → Option ℕ
number_that test word = option_and_then (λ n. if test n then Some n else None) (number_of word)

to_number : (test : ℕ → Bool) (word : List ℕ) (n : ℕ) → number_of word ≡ Some n → test n ≡ true → number_that test word ≡ Some n
unfolding number_that
to_number test word n is passes = ap (option_and_then (λ n. if test n then Some n else None)) is ∙ ap (λ t. if t then Some n else None) passes

from_number : (test : ℕ → Bool) (word : List ℕ) (n : ℕ) → number_that test word ≡ Some n → (number_of word ≡ Some n) × (test n ≡ true)
unfolding number_that
from_number test word n is = option_and_then_some (λ n. if test n then Some n else None) (number_of word) n is
    (λ m found tested.
    let (passes, same) = cond_some (test m) m n tested in
    subst (λ k. (number_of word ≡ Some k) × (test k ≡ true)) same (found, passes))

-- The date that a word is
pub date_of : List ℕ → Option ℕ
date_of word = number_that (λ n. nat_le n UNTIL) word

to_date : (word : List ℕ) (date : ℕ) → IsDate word date → date_of word ≡ Some date
unfolding date_of
to_date word date is = to_number (λ n. nat_le n UNTIL) word date is.value (le-leb date UNTIL is.most)

pub from_date : (word : List ℕ) (date : ℕ) → date_of word ≡ Some date → IsDate word date
unfolding date_of
from_date word date is =
    let (value, most) = from_number (λ n. nat_le n UNTIL) word date is in
    record { value = value; most = leb-true date UNTIL most }

-- The number that a word is, to make a program from
pub seed_of : List ℕ → Option ℕ
seed_of word = number_that (λ n. nat_lt n (2 ^ 32)) word

to_seed : (word : List ℕ) (seed : ℕ) → IsSeed word seed → seed_of word ≡ Some seed
unfolding seed_of
to_seed word seed is = to_number (λ n. nat_lt n (2 ^ 32)) word seed is.value (lt-ltb seed (2 ^ 32) is.most)

pub from_seed : (word : List ℕ) (seed : ℕ) → seed_of word ≡ Some seed → IsSeed word seed
unfolding seed_of
from_seed word seed is =
    let (value, most) = from_number (λ n. nat_lt n (2 ^ 32)) word seed is in
    record { value = value; most = ltb-true seed (2 ^ 32) most }

-- ---- commands

-- The command that words ask for, by their count and the first of them
unfoldable pub command_of : List (List ℕ) → Option Command
command_of (first ∷ word ∷ []) =
    if bytes_eq first (codes "graph") then Some (Graph word)
    else if bytes_eq first (codes "build") then Some (Build word)
    else if bytes_eq first (codes "make") then option_and_then (λ seed. Some (Make seed)) (seed_of word)
    else None
command_of (first ∷ word ∷ date ∷ []) = option_and_then (λ until.
    if bytes_eq first (codes "run") then Some (Run word until None None)
    else if bytes_eq first (codes "exec") then Some (Exec word until None None)
    else if bytes_eq first (codes "check") then Some (Check word until)
    else if bytes_eq first (codes "trial") then option_and_then (λ seed. Some (Trial seed until)) (seed_of word)
    else if bytes_eq first (codes "trace") then Some (Trace word until None None)
    else if bytes_eq first (codes "save") then Some (Save word until None None)
    else None) (date_of date)
command_of (first ∷ word ∷ date ∷ inputs ∷ []) = if bytes_eq first (codes "resume") then option_and_then (λ until. Some (Resume word date until None None)) (date_of inputs)
    else option_and_then (λ until.
    if bytes_eq first (codes "run") then Some (Run word until (Some inputs) None)
    else if bytes_eq first (codes "exec") then Some (Exec word until (Some inputs) None)
    else if bytes_eq first (codes "audit") then Some (Audit word until inputs None)
    else if bytes_eq first (codes "trace") then Some (Trace word until (Some inputs) None)
    else if bytes_eq first (codes "save") then Some (Save word until (Some inputs) None)
    else None) (date_of date)
command_of (first ∷ word ∷ date ∷ inputs ∷ script ∷ []) = if bytes_eq first (codes "resume") then option_and_then (λ until. Some (Resume word date until (Some script) None)) (date_of inputs)
    else option_and_then (λ until.
    if bytes_eq first (codes "run") then Some (Run word until (Some inputs) (Some script))
    else if bytes_eq first (codes "exec") then Some (Exec word until (Some inputs) (Some script))
    else if bytes_eq first (codes "audit") then Some (Audit word until inputs (Some script))
    else if bytes_eq first (codes "trace") then Some (Trace word until (Some inputs) (Some script))
    else if bytes_eq first (codes "save") then Some (Save word until (Some inputs) (Some script))
    else None) (date_of date)
command_of (first ∷ word ∷ state ∷ date ∷ inputs ∷ script ∷ []) =
    if bytes_eq first (codes "resume") then option_and_then (λ until. Some (Resume word state until (Some inputs) (Some script))) (date_of date) else None
command_of _ = None

pub to_command : (words : List (List ℕ)) (command : Command) → Asks words command → command_of words ≡ Some command
unfolding command_of
to_command words command (asks_run program date until is dated) = ap command_of is ∙ ap (option_and_then (λ until. Some (Run program until None None))) (to_date date until dated)
to_command words command (asks_run_with_inputs program date inputs until is dated) =
    ap command_of is ∙ ap (option_and_then (λ until. Some (Run program until (Some inputs) None))) (to_date date until dated)
to_command words command (asks_run_with_script program date inputs script until is dated) =
    ap command_of is ∙ ap (option_and_then (λ until. Some (Run program until (Some inputs) (Some script)))) (to_date date until dated)
to_command words command (asks_check program date until is dated) = ap command_of is ∙ ap (option_and_then (λ until. Some (Check program until))) (to_date date until dated)
to_command words command (asks_graph program is) = ap command_of is
to_command words command (asks_make number seed is seeded) = ap command_of is ∙ ap (option_and_then (λ seed. Some (Make seed))) (to_seed number seed seeded)
to_command words command (asks_trial number date seed until is seeded dated) =
    ap command_of is ∙ ap (option_and_then (λ until. option_and_then (λ seed. Some (Trial seed until)) (seed_of number))) (to_date date until dated)
    ∙ ap (option_and_then (λ seed. Some (Trial seed until))) (to_seed number seed seeded)
to_command words command (asks_build program is) = ap command_of is
to_command words command (asks_exec image date until is dated) = ap command_of is ∙ ap (option_and_then (λ until. Some (Exec image until None None))) (to_date date until dated)
to_command words command (asks_exec_with_inputs image date inputs until is dated) =
    ap command_of is ∙ ap (option_and_then (λ until. Some (Exec image until (Some inputs) None))) (to_date date until dated)
to_command words command (asks_exec_with_script image date inputs script until is dated) =
    ap command_of is ∙ ap (option_and_then (λ until. Some (Exec image until (Some inputs) (Some script)))) (to_date date until dated)
to_command words command (asks_audit program date trace until is dated) = ap command_of is ∙ ap (option_and_then (λ until. Some (Audit program until trace None))) (to_date date until dated)
to_command words command (asks_audit_with_script program date trace script until is dated) =
    ap command_of is ∙ ap (option_and_then (λ until. Some (Audit program until trace (Some script)))) (to_date date until dated)
to_command words command (asks_trace program date until is dated) = ap command_of is ∙ ap (option_and_then (λ until. Some (Trace program until None None))) (to_date date until dated)
to_command words command (asks_trace_with_inputs program date inputs until is dated) =
    ap command_of is ∙ ap (option_and_then (λ until. Some (Trace program until (Some inputs) None))) (to_date date until dated)
to_command words command (asks_trace_with_script program date inputs script until is dated) =
    ap command_of is ∙ ap (option_and_then (λ until. Some (Trace program until (Some inputs) (Some script)))) (to_date date until dated)
to_command words command (asks_save program word date is dated) = ap command_of is ∙ ap (option_and_then (λ until. Some (Save program until None None))) (to_date word date dated)
to_command words command (asks_save_with_inputs program word inputs date is dated) =
    ap command_of is ∙ ap (option_and_then (λ until. Some (Save program until (Some inputs) None))) (to_date word date dated)
to_command words command (asks_save_with_script program word inputs script date is dated) =
    ap command_of is ∙ ap (option_and_then (λ until. Some (Save program until (Some inputs) (Some script)))) (to_date word date dated)
to_command words command (asks_resume program state date until is dated) = ap command_of is ∙ ap (option_and_then (λ until. Some (Resume program state until None None))) (to_date date until dated)
to_command words command (asks_resume_with_inputs program state date inputs until is dated) =
    ap command_of is ∙ ap (option_and_then (λ until. Some (Resume program state until (Some inputs) None))) (to_date date until dated)
to_command words command (asks_resume_with_script program state date inputs script until is dated) =
    ap command_of is ∙ ap (option_and_then (λ until. Some (Resume program state until (Some inputs) (Some script)))) (to_date date until dated)

-- `make` and a word that is no seed ask for nothing.
pub unmade : (first word : List ℕ) → true ≡ bytes_eq first (codes "make") → ((seed : ℕ) → IsSeed word seed → ⊥) → AskNothing (first ∷ word ∷ [])
unfolding command_of
unmade first word make none command asks =
    let is = to_command (codes "make" ∷ word ∷ []) command (subst (λ w. Asks (w ∷ word ∷ []) command) (same_text first (codes "make") make) asks) in
    option_and_then_some (λ seed. Some (Make seed)) (seed_of word) command is (λ seed found same. none seed (from_seed word seed found))

-- So do `trial`, such a word and any other.
pub untried : (first word date : List ℕ) → true ≡ bytes_eq first (codes "trial") → ((seed : ℕ) → IsSeed word seed → ⊥) → AskNothing (first ∷ word ∷ date ∷ [])
unfolding command_of
untried first word date trial none command asks =
    let is = to_command (codes "trial" ∷ word ∷ date ∷ []) command (subst (λ w. Asks (w ∷ word ∷ date ∷ []) command) (same_text first (codes "trial") trial) asks) in
    option_and_then_some (λ until. option_and_then (λ seed. Some (Trial seed until)) (seed_of word)) (date_of date) command is
    (λ until when that. option_and_then_some (λ seed. Some (Trial seed until)) (seed_of word) command that (λ seed found same. none seed (from_seed word seed found)))

-- So do words whose third one is no date.
pub undated_three : (first word date : List ℕ) → ((until : ℕ) → IsDate date until → ⊥) → AskNothing (first ∷ word ∷ date ∷ [])
unfolding command_of
undated_three first word date none command asks =
    option_and_then_some _ (date_of date) command (to_command (first ∷ word ∷ date ∷ []) command asks) (λ until found that. none until (from_date date until found))

-- What follows where the first word isn't `resume`
no_resume : (first : List ℕ) (this other : Option Command) (command : Command) → false ≡ bytes_eq first (codes "resume") → (if bytes_eq first (codes "resume") then this else other) ≡ Some command → other ≡ Some command
no_resume first this other command different is = sym (ap (λ t. if t then this else other) (sym different)) ∙ is

pub undated_four : (first program date inputs : List ℕ) → false ≡ bytes_eq first (codes "resume") → ((until : ℕ) → IsDate date until → ⊥) → AskNothing (first ∷ program ∷ date ∷ inputs ∷ [])
unfolding command_of
undated_four first program date inputs different none command asks =
    option_and_then_some _ (date_of date) command (no_resume first _ _ command different (to_command (first ∷ program ∷ date ∷ inputs ∷ []) command asks)) (λ until found that. none until (from_date date until found))

pub undated_five : (first program date inputs script : List ℕ) → false ≡ bytes_eq first (codes "resume") → ((until : ℕ) → IsDate date until → ⊥) → AskNothing (first ∷ program ∷ date ∷ inputs ∷ script ∷ [])
unfolding command_of
undated_five first program date inputs script different none command asks =
    option_and_then_some _ (date_of date) command (no_resume first _ _ command different (to_command (first ∷ program ∷ date ∷ inputs ∷ script ∷ []) command asks)) (λ until found that. none until (from_date date until found))

-- ---- `resume`

-- What was found of the words behind `resume` is what they all ask for.
asked_for : (words : List (List ℕ)) (date : List ℕ) (make : ℕ → Command) (found : Option Read) → ((command : Command) → Asks words command → (until : ℕ) × IsDate date until)
    → ((until : ℕ) → IsDate date until → Asks words (make until)) → MatchOption found ((until : ℕ) → IsDate date until → ⊥) (λ read. (until : ℕ) × IsDate date until × (asked_by read ≡ make until))
    → MatchOption found (AskNothing words) (λ read. Asks words (asked_by read))
asked_for words date make None dated asks none = λ command asked. let (until, is) = dated command asked in none until is
asked_for words date make (Some read) dated asks (until, is, same) = subst (Asks words) (sym same) (asks until is)

module _ (first program state date : List ℕ) (is : true ≡ bytes_eq first (codes "resume")) (found : Option Read) where
  -- the first word
  resume : first ≡ codes "resume"
  resume = same_text first (codes "resume") is

  -- the date among words that begin with it
  dated : (rest : List (List ℕ)) (make : ℕ → Command) → ((command : Command) → Asks (codes "resume" ∷ rest) command → option_and_then (λ until. Some (make until)) (date_of date) ≡ Some command)
      → (command : Command) → Asks (first ∷ rest) command → (until : ℕ) × IsDate date until
  dated rest make by command asks = option_and_then_some (λ until. Some (make until)) (date_of date) command (by command (subst (λ w. Asks (w ∷ rest) command) resume asks)) (λ until that same. (until, from_date date until that))

  pub resume_four : MatchOption found ((until : ℕ) → IsDate date until → ⊥) (λ read. (until : ℕ) × IsDate date until × (asked_by read ≡ Resume program state until None None))
      → MatchOption found (AskNothing (first ∷ program ∷ state ∷ date ∷ [])) (λ read. Asks (first ∷ program ∷ state ∷ date ∷ []) (asked_by read))
  unfolding command_of
  resume_four = asked_for (first ∷ program ∷ state ∷ date ∷ []) date (λ until. Resume program state until None None) found
      (dated (program ∷ state ∷ date ∷ []) (λ until. Resume program state until None None) (λ command asks. to_command (codes "resume" ∷ program ∷ state ∷ date ∷ []) command asks))
      (λ until day. asks_resume program state date until (ap (λ w. w ∷ program ∷ state ∷ date ∷ []) resume) day)

  pub resume_five : (inputs : List ℕ) → MatchOption found ((until : ℕ) → IsDate date until → ⊥) (λ read. (until : ℕ) × IsDate date until × (asked_by read ≡ Resume program state until (Some inputs) None))
      → MatchOption found (AskNothing (first ∷ program ∷ state ∷ date ∷ inputs ∷ [])) (λ read. Asks (first ∷ program ∷ state ∷ date ∷ inputs ∷ []) (asked_by read))
  unfolding command_of
  resume_five inputs = asked_for (first ∷ program ∷ state ∷ date ∷ inputs ∷ []) date (λ until. Resume program state until (Some inputs) None) found
      (dated (program ∷ state ∷ date ∷ inputs ∷ []) (λ until. Resume program state until (Some inputs) None) (λ command asks. to_command (codes "resume" ∷ program ∷ state ∷ date ∷ inputs ∷ []) command asks))
      (λ until day. asks_resume_with_inputs program state date inputs until (ap (λ w. w ∷ program ∷ state ∷ date ∷ inputs ∷ []) resume) day)

  pub resume_six : (inputs script : List ℕ) → MatchOption found ((until : ℕ) → IsDate date until → ⊥) (λ read. (until : ℕ) × IsDate date until × (asked_by read ≡ Resume program state until (Some inputs) (Some script)))
      → MatchOption found (AskNothing (first ∷ program ∷ state ∷ date ∷ inputs ∷ script ∷ [])) (λ read. Asks (first ∷ program ∷ state ∷ date ∷ inputs ∷ script ∷ []) (asked_by read))
  unfolding command_of
  resume_six inputs script = asked_for (first ∷ program ∷ state ∷ date ∷ inputs ∷ script ∷ []) date (λ until. Resume program state until (Some inputs) (Some script)) found
      (dated (program ∷ state ∷ date ∷ inputs ∷ script ∷ []) (λ until. Resume program state until (Some inputs) (Some script)) (λ command asks. to_command (codes "resume" ∷ program ∷ state ∷ date ∷ inputs ∷ script ∷ []) command asks))
      (λ until day. asks_resume_with_script program state date inputs script until (ap (λ w. w ∷ program ∷ state ∷ date ∷ inputs ∷ script ∷ []) resume) day)
