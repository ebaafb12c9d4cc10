-- The first fault of a text, as its lines are read one by one.
use Rattle.std.proofs.Common.{◌≡◌, ℕ, suc, ◌+◌, ◌<◌, ◌≤◌, List, [], ◌∷◌, ◌++◌, length, Option, Some, None, Result, Err, refl, sym, ap, ◌∙◌, subst, append-nil, append_assoc, length-append, arith}
use Rattle.psy_base.specs.declared.limits.TheConstants.{LINES}
use Rattle.psy_script.specs.declared.fault.LineKind.{LineKind}
use Rattle.psy_script.specs.declared.fault.TextFault.{TextFault}
use Rattle.psy_script.specs.declared.fault.TextFault.TheVariants.{Line}
use Rattle.psy_script.specs.Faults.{Judge, Fault, fault_or, first_behind, first_fault, IsLawful, IsFirst}
use Rattle.psy_text.specs.Lines.{lines_of}

-- Lines that were read, none of them at fault, and those that are left are the lines of the text.
pub record AreRead (judge : Judge) (text : List ℕ) (before after : List (List ℕ)) : Type 0 where
  pub few : length (lines_of text) ≤ LINES
  pub lines : lines_of text ≡ before ++ after
  pub first : first_fault judge (lines_of text) ≡ first_behind judge before after

-- At first none was read.
pub read_none : (judge : Judge) (text : List ℕ) → length (lines_of text) ≤ LINES → AreRead judge text [] (lines_of text)
read_none judge text few = record { few = few; lines = refl; first = refl }

module _ (judge : Judge) (text : List ℕ) (before after : List (List ℕ)) (line : List ℕ) (r : AreRead judge text before (line ∷ after)) where
  -- A line without fault was read.
  pub read_more : judge before line ≡ None → AreRead judge text (before ++ line ∷ []) after
  read_more sound = record {
    few = r.few;
    lines = r.lines ∙ sym (append_assoc before (line ∷ []) after);
    first = subst (λ o. first_fault judge (lines_of text) ≡ fault_or o (suc (length before)) (first_behind judge (before ++ line ∷ []) after)) sound r.first;
  }

  -- The line that comes next is at fault.
  pub read_fault : (kind : LineKind) → judge before line ≡ Some kind → IsFirst judge text kind (length before + 1)
  read_fault kind wrong =
      let number : suc (length before) ≡ length before + 1 = omega arith in
      let first = subst (λ o. first_fault judge (lines_of text) ≡ fault_or o (suc (length before)) (first_behind judge (before ++ line ∷ []) after)) wrong r.first in
      record { few = r.few; fault = subst (λ n. first_fault judge (lines_of text) ≡ Some (record { kind = kind; line = n })) number first }

  -- Its number is one of those that are counted.
  pub read_few : length before < LINES
  read_few = omega (arith, r.few, ap length r.lines ∙ length-append before (line ∷ after))

-- All of them were read.
pub read_all : (judge : Judge) (text : List ℕ) (before : List (List ℕ)) → AreRead judge text before [] → IsLawful judge text × (before ≡ lines_of text)
read_all judge text before r = (record { few = r.few; sound = r.first }, sym (r.lines ∙ append-nil before))

-- A fault that is told is the one that was found.
pub told : {X : Type 0} (Found : LineKind → ℕ → Type 0) (kind other : LineKind) (line number : ℕ) → ◌≡◌ {A = Result X TextFault} (Err (Line kind line)) (Err (Line other number)) → Found kind line → Found other number
told Found kind other line number e found =
    let same_kind : kind ≡ other = cc in
    let same_line : line ≡ number = cc in
    subst (Found other) same_line (subst (λ k. Found k line) same_kind found)

-- There is no fault here, nor behind it.
fault_or_none : (here : Option LineKind) (line : ℕ) (behind : Option Fault) → fault_or here line behind ≡ None → (here ≡ None) × (behind ≡ None)
fault_or_none None line behind h = (refl, h)
fault_or_none (Some kind) line behind h = absurd cc

module _ (judge : Judge) (Holds : List (List ℕ) → Type 0) (more : (before : List (List ℕ)) (line : List ℕ) → Holds before → judge before line ≡ None → Holds (before ++ line ∷ [])) where
  -- What each line without fault keeps, lines without fault keep.
  pub kept_behind : (before after : List (List ℕ)) → Holds before → first_behind judge before after ≡ None → Holds (before ++ after)
  kept_behind before [] holds sound = subst Holds (sym (append-nil before)) holds
  kept_behind before (line ∷ after) holds sound =
      let parts = fault_or_none (judge before line) (suc (length before)) (first_behind judge (before ++ line ∷ []) after) sound in
      subst Holds (append_assoc before (line ∷ []) after) (kept_behind (before ++ line ∷ []) after (more before line holds parts.0) parts.1)

  -- It holds of the lines of a text without fault.
  pub kept_lines : (text : List ℕ) → Holds [] → IsLawful judge text → Holds (lines_of text)
  kept_lines text none lawful = kept_behind [] (lines_of text) none lawful.sound
