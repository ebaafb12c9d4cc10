-- What the laws say of the plan's steps, and that each step from a file to a text, and to what inputs and script state, comes to one end.
use Rattle.std.proofs.Common.{◌≡◌, ◌∙◌, sym, ap, ℕ, ◌*◌, ◌<◌, ◌≤◌, List, length, ◌⊎◌, inl, inr, Option, Some, None, refl, arith}
use Rattle.std.proofs.lemmas.Option.{none-some, same_Some}
use Rattle.psy_base.specs.declared.limits.TheConstants.{FILE_BYTES, LINES, RUN}
use Rattle.psy_door.specs.Files.{Files, bytes_under}
use Rattle.psy_make.specs.Text.{made_text}
use Rattle.psy_meaning.specs.Units.{IsOfText}
use Rattle.psy_plan.proofs.lemmas.Decisions.{most_or_more}
use Rattle.psy_plan.specs.Courses.{IsDecided as IsPlanDecided}
use Rattle.psy_plan.specs.Programs as programs
use Rattle.psy_plan.specs.Steps as plan
use Rattle.psy_plan.specs.Supplies as supplies
use Rattle.psy_script.specs.declared.fault.LineKind.{LineKind}
use Rattle.psy_script.specs.Faults.{Judge, Fault, IsLawful, IsFirst, HasManyLines, first_fault}
use Rattle.psy_script.specs.Inputs.{AreListsOf, inputs_judge, lists_in}
use Rattle.psy_script.specs.Script.{IsScriptOf, script_judge, script_in}
use Rattle.psy_text.specs.Lines.{lines_of}
use Rattle.psy_tree.specs.declared.unit.Unit.{Unit as Whole}
use Rattle.psy_run.specs.declared.refusal.File.{File}
use Rattle.psy_run.specs.declared.refusal.File.TheVariants.{Inputs, Script}
use Rattle.psy_run.specs.declared.refusal.Refusal.{Refusal}
use Rattle.psy_run.specs.declared.refusal.Refusal.TheVariants.{TooLong, Line, Lines, Cycles, LongTrace, LongState}
use Rattle.psy_run.specs.Courses.{step}
use Rattle.psy_run.specs.Steps.{reading, stating, directing, pacing, fitting, holding}
use Rattle.psy_run.proofs.Courses.{IsOne, IsSome, IsDecided, decided_unless}

-- ---- the plan

-- The program of a text that is short enough to be read is one of a text.
abbrev pub TextsHold : Type 0
TextsHold = (bytes : List ℕ) (unit : Whole) → length bytes ≤ FILE_BYTES → programs.IsProgram bytes unit → IsOfText unit

-- What the laws say of texts and plans: each comes to one end.
pub record PlansDecide : Type 0 where
  pub of_text : TextsHold
  pub short : (seed : ℕ) → length (made_text seed) ≤ FILE_BYTES
  pub program : (bytes : List ℕ) → IsPlanDecided (programs.translating bytes)
  pub graphs : (unit : Whole) → IsOfText unit → IsPlanDecided (plan.graphing unit)
  pub costs : (unit : Whole) → IsOfText unit → IsPlanDecided (plan.costing unit)
  pub supply : (unit : Whole) (until : ℕ) → IsOfText unit → IsPlanDecided (supplies.supplying unit until)

-- ---- the file

pub decided_reading : (files : Files) (file : File) (name : List ℕ) → IsDecided (reading (Some files) file name)
decided_reading files file name = record {
  one = record {
    gift = λ x y p q. p.1 ∙ sym q.1;
    stop = λ r s p q. p.0 ∙ sym q.0;
    apart = λ x r p q. let e : length x ≡ length (bytes_under files name) = ap length p.1 in absurd (omega (arith, e, p.0, q.1));
  };
  some = elim (most_or_more (length (bytes_under files name)) FILE_BYTES) [
    | inl short ↦ inl (bytes_under files name, (short, refl))
    | inr long ↦ inr (TooLong file, (refl, long))
  ];
}

-- ---- its inputs and its script

-- What the text of a file is refused for: its first fault, or its many lines
abbrev IsUntold : File → Judge → List ℕ → Refusal → Type 0
IsUntold own judge bytes (Line file kind line) = (file ≡ own) × IsFirst judge bytes kind line
IsUntold own judge bytes Lines = HasManyLines bytes
IsUntold own judge bytes _ = ⊥

-- Such a refusal names a first fault, or many lines.
untold_is : (own : File) (judge : Judge) (bytes : List ℕ) (refusal : Refusal) → IsUntold own judge bytes refusal → ((kind : LineKind) × (line : ℕ) × (refusal ≡ Line own kind line) × IsFirst judge bytes kind line) ⊎ ((refusal ≡ Lines) × HasManyLines bytes)
untold_is own judge bytes (Line file kind line) at = inl (kind, line, ap (λ f. Line f kind line) at.0, at.1)
untold_is own judge bytes Lines many = inr (refl, many)
untold_is own judge bytes _ never = absurd never

-- A lawful text states this, and nothing else; another has one first fault, or many lines.
module _ {X : Type 0} (own : File) (judge : Judge) (bytes : List ℕ) (States : X → Type 0) (stated : X) where
  one_telling : ((x : X) → States x → IsLawful judge bytes) → ((x : X) → States x → x ≡ stated) → IsOne (step States (IsUntold own judge bytes))
  one_telling lawful same = record {
    gift = λ x y p q. same x p ∙ sym (same y q);
    stop = λ r s p q. elim (untold_is own judge bytes r p) [
      | inl a ↦ elim (untold_is own judge bytes s q) [
        | inl b ↦ let e = same_Some (record { kind = a.0; line = a.1 }) (record { kind = b.0; line = b.1 }) (sym a.3.fault ∙ b.3.fault) in a.2 ∙ ap (λ (f : Fault). Line own f.kind f.line) e ∙ sym b.2
        | inr b ↦ let few = a.3.few in let many = b.1 in absurd (omega (arith, few, many))
      ]
      | inr a ↦ elim (untold_is own judge bytes s q) [
        | inl b ↦ let few = b.3.few in let many = a.1 in absurd (omega (arith, few, many))
        | inr b ↦ a.0 ∙ sym b.0
      ]
    ];
    apart = λ x r p q.
        let sound = lawful x p in
        elim (untold_is own judge bytes r q) [
          | inl a ↦ none-some (record { kind = a.0; line = a.1 }) (sym sound.sound ∙ a.3.fault)
          | inr a ↦ let few = sound.few in let many = a.1 in absurd (omega (arith, few, many))
        ];
  }

  some_telling : (IsLawful judge bytes → States stated) → IsSome (step States (IsUntold own judge bytes))
  some_telling states = elim (most_or_more (length (lines_of bytes)) LINES) [
    | inl few ↦ by (first_fault judge (lines_of bytes)) refl few
    | inr many ↦ inr (Lines, many)
  ]
    where
      by : (o : Option Fault) → first_fault judge (lines_of bytes) ≡ o → length (lines_of bytes) ≤ LINES → IsSome (step States (IsUntold own judge bytes))
      by None e few = inl (stated, states (record { few = few; sound = e }))
      by (Some first) e few = inr (Line own first.kind first.line, (refl, record { few = few; fault = e }))

pub decided_stating : (unit : Whole) (bytes : List ℕ) → IsDecided (stating unit bytes)
decided_stating unit bytes =
    let States = AreListsOf unit bytes in
    let lists = lists_in unit (lines_of bytes) in
    record {
      one = one_telling Inputs (inputs_judge unit) bytes States lists (λ x are. are.lawful) (λ x are. are.stated);
      some = some_telling Inputs (inputs_judge unit) bytes States lists (λ lawful. record { lawful = lawful; stated = refl });
    }

pub decided_directing : (unit : Whole) (bytes : List ℕ) → IsDecided (directing unit bytes)
decided_directing unit bytes =
    let States = IsScriptOf unit bytes in
    let script = script_in unit (lines_of bytes) in
    record {
      one = one_telling Script (script_judge unit) bytes States script (λ x is. is.lawful) (λ x is. is.stated);
      some = some_telling Script (script_judge unit) bytes States script (λ lawful. record { lawful = lawful; stated = refl });
    }

pub decided_fitting : (trace : List ℕ) → IsDecided (fitting trace)
decided_fitting trace = decided_unless (length trace ≤ FILE_BYTES) (FILE_BYTES < length trace) LongTrace (λ few many. omega (arith, few, many)) (most_or_more (length trace) FILE_BYTES)

pub decided_holding : (state : List ℕ) → IsDecided (holding state)
decided_holding state = decided_unless (length state ≤ FILE_BYTES) (FILE_BYTES < length state) LongState (λ few many. omega (arith, few, many)) (most_or_more (length state) FILE_BYTES)

pub decided_pacing : (unit : Whole) (until : ℕ) → IsDecided (pacing unit until)
decided_pacing unit until = decided_unless (until * unit.quantum ≤ RUN) (RUN < until * unit.quantum) Cycles (λ few many. omega (arith, few, many)) (most_or_more (until * unit.quantum) RUN)
