-- What the rules say of an instruction is as it is computed.
use Rattle.std.proofs.Common.{◌≡◌, ℕ, ◌+◌, ◌<◌, ◌≤◌, false, ◌&&◌, List, [], ◌∷◌, ◌++◌, length, Some, refl, sym, ap, subst, ◌∙◌, inl, inr, arith}
use Rattle.std.specs.Prelude.{Option, None, nat_eq, nat_le, nat_lt, slice_get}
use Rattle.std.proofs.lemmas.Option.{none-some, same_Some}
use Rattle.psy_lists.proofs.lemmas.Places.{there}
use Rattle.psy_base.specs.declared.limits.TheConstants.{AFTER}
use Rattle.psy_code.specs.declared.code.Code.{Code}
use Rattle.psy_code.specs.declared.instr.Instr.{Instr}
use Rattle.psy_code.specs.declared.instr.Instr.TheVariants as instr
use Rattle.psy_tree.specs.declared.unit.StreamDecl.{StreamDecl}
use Rattle.psy_tree.specs.declared.unit.Unit.{Unit as Whole}
use Rattle.psy_tree.specs.declared.unit.VarDecl.{VarDecl}
use Rattle.psy_meaning.specs.CodeWays.{GoesOn, agent_code_at}
use Rattle.psy_meaning.specs.Sound.{Each}
use Rattle.psy_flow.specs.Owners.{Agent, Function, Owner}
use Rattle.psy_flow.specs.Heights.{Finds, Shift, shifts}
use Rattle.psy_flow.specs.Needs.{cells_of, counters_of}
use Rattle.psy_flow.specs.Verified.{Hears, IsFramed, IsLed, IsNamed, IsOrdered, Owns, Reaches}
use Rattle.psy_judge.specs.declared.steps.Step.{Step}
use Rattle.psy_judge.specs.declared.steps.Steps.{Steps}
use Rattle.psy_judge.specs.Walked.{onward_of}
use Rattle.psy_judge.specs.Highest.{shift_of, shifts_of}
use Rattle.psy_judge.specs.Judged.{Judges}
use Rattle.psy_judge.specs.Deciding.{finds_by, finds_on, framed_by, hears_by, is_deep, is_heard, is_number, is_owned, leads_by, lies_in, named_by, ordered_by, owns_by, stays_by}
use Rattle.psy_judge.proofs.JudgedBools.{judge_and, judge_eq, judge_if, judge_le, judge_lt}
use Rattle.psy_judge.proofs.OnwardOf.{goes_if, one_of}

-- ---- places

lies_tells : (o : Option ℕ) (count : ℕ) → Judges (lies_in o count) ((p : ℕ) → Some p ≡ o → p < count)
lies_tells None count = λ p e. absurd (none-some p (sym e))
lies_tells (Some place) count =
    judge_if (nat_lt place count) (judge_lt place count) (λ less p e. omega (arith, same_Some p place e, less)) (λ all. all place refl)

pub stays_tells : (i : Instr) (place count : ℕ) → Judges (stays_by (onward_of i place) count) ((next : ℕ) → GoesOn i place next → next < count)
stays_tells i place count =
    judge_if (stays_by (onward_of i place) count)
    (judge_and _ _ (lies_in (onward_of i place).next count) (lies_in (onward_of i place).jump count) (lies_tells (onward_of i place).next count) (lies_tells (onward_of i place).jump count))
    (λ (nexts, jumps) next goes. elim (one_of i place next goes) [ inl e ↦ nexts next e | inr e ↦ jumps next e ])
    (λ all. ((λ p e. all p (goes_if i place p (inl e))), (λ p e. all p (goes_if i place p (inr e)))))

-- ---- heights

abbrev Pops : ℕ → Shift → Type 0
Pops height shift = shift.pops ≤ height

on_tells : (o : Option Step) (height : ℕ) → Judges (finds_on o height) (Each (Pops height) (shift_of o))
on_tells None height = tt {0}
on_tells (Some step) height = judge_if (nat_le step.pops height) (judge_le step.pops height) (λ low. (low, tt {0})) (λ each. each.0)

each_two : {X : Type 0} (P : X → Type 0) (xs ys : List X) → Each P xs × Each P ys → Each P (xs ++ ys)
each_two P [] ys (a, b) = b
each_two P (x ∷ xs) ys (a, b) = (a.0, each_two P xs ys (a.1, b))

each_of_two : {X : Type 0} (P : X → Type 0) (xs ys : List X) → Each P (xs ++ ys) → Each P xs × Each P ys
each_of_two P [] ys all = (tt {0}, all)
each_of_two P (x ∷ xs) ys all = (let (a, b) = each_of_two P xs ys all.1 in ((all.0, a), b))

both_tells : (on : Steps) (xs : List Shift) (height : ℕ) → shifts_of on ≡ xs → Judges (finds_on on.next height && finds_on on.jump height) (Each (Pops height) xs)
both_tells on xs height same =
    judge_if (finds_on on.next height && finds_on on.jump height)
    (judge_and _ _ (finds_on on.next height) (finds_on on.jump height) (on_tells on.next height) (on_tells on.jump height))
    (λ h. subst (Each (Pops height)) same (each_two (Pops height) (shift_of on.next) (shift_of on.jump) h))
    (λ h. each_of_two (Pops height) (shift_of on.next) (shift_of on.jump) (subst (Each (Pops height)) (sym same) h))

pub finds_tells : (code : Code) (place : ℕ) (i : Instr) (on : Steps) (height : ℕ) → shifts_of on ≡ shifts code place i → Judges (finds_by i on height) (Finds code place i height)
finds_tells code place instr.Return on height same = judge_eq height 1
finds_tells code place (instr.Advance point) on height same = judge_eq height 0
finds_tells code place (instr.Jump to) on height same = both_tells on (shifts code place (instr.Jump to)) height same
finds_tells code place (instr.JumpZero to) on height same = both_tells on (shifts code place (instr.JumpZero to)) height same
finds_tells code place (instr.AndTest to) on height same = both_tells on (shifts code place (instr.AndTest to)) height same
finds_tells code place (instr.OrTest to) on height same = both_tells on (shifts code place (instr.OrTest to)) height same
finds_tells code place (instr.Call function) on height same = both_tells on (shifts code place (instr.Call function)) height same
finds_tells code place (instr.Push number) on height same = both_tells on (shifts code place (instr.Push number)) height same
finds_tells code place (instr.Load cell) on height same = both_tells on (shifts code place (instr.Load cell)) height same
finds_tells code place (instr.Store cell) on height same = both_tells on (shifts code place (instr.Store cell)) height same
finds_tells code place (instr.LoadCell base cells) on height same = both_tells on (shifts code place (instr.LoadCell base cells)) height same
finds_tells code place (instr.StoreCell base cells) on height same = both_tells on (shifts code place (instr.StoreCell base cells)) height same
finds_tells code place (instr.LoadCopy variable) on height same = both_tells on (shifts code place (instr.LoadCopy variable)) height same
finds_tells code place (instr.StoreCopy variable) on height same = both_tells on (shifts code place (instr.StoreCopy variable)) height same
finds_tells code place (instr.Past variable back) on height same = both_tells on (shifts code place (instr.Past variable back)) height same
finds_tells code place (instr.Ready stream) on height same = both_tells on (shifts code place (instr.Ready stream)) height same
finds_tells code place (instr.Take stream) on height same = both_tells on (shifts code place (instr.Take stream)) height same
finds_tells code place (instr.Send stream after clock) on height same = both_tells on (shifts code place (instr.Send stream after clock)) height same
finds_tells code place instr.Truth on height same = both_tells on (shifts code place instr.Truth) height same
finds_tells code place (instr.Zero counter) on height same = both_tells on (shifts code place (instr.Zero counter)) height same
finds_tells code place (instr.Guard counter bound) on height same = both_tells on (shifts code place (instr.Guard counter bound)) height same
finds_tells code place (instr.Binary operator width) on height same = both_tells on (shifts code place (instr.Binary operator width)) height same
finds_tells code place (instr.Unary operator width) on height same = both_tells on (shifts code place (instr.Unary operator width)) height same
finds_tells code place (instr.Cast width) on height same = both_tells on (shifts code place (instr.Cast width)) height same

-- ---- frames

pub framed_tells : (code : Code) (owner : Owner) (i : Instr) → Judges (framed_by (cells_of code owner) (counters_of code owner) i) (IsFramed code owner i)
framed_tells code owner (instr.Load cell) = judge_lt cell (cells_of code owner)
framed_tells code owner (instr.Store cell) = judge_lt cell (cells_of code owner)
framed_tells code owner (instr.LoadCell base cells) = judge_le (base + cells) (cells_of code owner)
framed_tells code owner (instr.StoreCell base cells) = judge_le (base + cells) (cells_of code owner)
framed_tells code owner (instr.Zero counter) = judge_lt counter (counters_of code owner)
framed_tells code owner (instr.Guard counter bound) = judge_lt counter (counters_of code owner)
framed_tells code owner (instr.Push number) = tt {0}
framed_tells code owner (instr.LoadCopy variable) = tt {0}
framed_tells code owner (instr.StoreCopy variable) = tt {0}
framed_tells code owner (instr.Past variable back) = tt {0}
framed_tells code owner (instr.Ready stream) = tt {0}
framed_tells code owner (instr.Take stream) = tt {0}
framed_tells code owner (instr.Send stream after clock) = tt {0}
framed_tells code owner (instr.Jump to) = tt {0}
framed_tells code owner (instr.JumpZero to) = tt {0}
framed_tells code owner (instr.AndTest to) = tt {0}
framed_tells code owner (instr.OrTest to) = tt {0}
framed_tells code owner instr.Truth = tt {0}
framed_tells code owner (instr.Call function) = tt {0}
framed_tells code owner instr.Return = tt {0}
framed_tells code owner (instr.Advance point) = tt {0}
framed_tells code owner (instr.Binary operator width) = tt {0}
framed_tells code owner (instr.Unary operator width) = tt {0}
framed_tells code owner (instr.Cast width) = tt {0}

-- ---- names

number_tells : (o : Option ℕ) (number : ℕ) → Judges (is_number o number) (o ≡ Some number)
number_tells None number = λ e. none-some number e
number_tells (Some n) number = judge_if (nat_eq n number) (judge_eq n number) (λ e. ap Some e) (λ e. same_Some n number e)

module _ (unit : Whole) where
  owns_tells : (owner : Owner) (variable : ℕ) → Judges (owns_by unit owner variable) (Owns unit owner variable)
  owns_tells (Function number) variable = judge_lt variable (length unit.variables)
  owns_tells (Agent number) variable = by (slice_get unit.variables variable) refl
    where
      by : (o : Option VarDecl) → slice_get unit.variables variable ≡ o → Judges (is_owned o number) ((decl : VarDecl) × (slice_get unit.variables variable ≡ Some decl) × (decl.owner ≡ Some number))
      by None e = λ (decl, there, own). none-some decl (sym e ∙ there)
      by (Some some) e =
          judge_if (is_number some.owner number) (number_tells some.owner number) (λ own. (some, e, own))
          (λ (decl, there, own). ap (λ (d : VarDecl). d.owner) (same_Some some decl (sym e ∙ there)) ∙ own)

  hears_tells : (owner : Owner) (stream : ℕ) → Judges (hears_by unit owner stream) (Hears unit owner stream)
  hears_tells (Function number) stream = judge_lt stream (length unit.streams)
  hears_tells (Agent number) stream = by (slice_get unit.streams stream) refl
    where
      by : (o : Option StreamDecl) → slice_get unit.streams stream ≡ o → Judges (is_heard o number) ((decl : StreamDecl) × (slice_get unit.streams stream ≡ Some decl) × (decl.receiver ≡ number))
      by None e = λ (decl, there, own). none-some decl (sym e ∙ there)
      by (Some some) e =
          judge_if (nat_eq some.receiver number) (judge_eq some.receiver number) (λ own. (some, e, own))
          (λ (decl, there, own). ap (λ (d : StreamDecl). d.receiver) (same_Some some decl (sym e ∙ there)) ∙ own)

  deep_tells : (variable back : ℕ) → Judges (is_deep (slice_get unit.variables variable) back) (Reaches unit variable back)
  deep_tells variable back = by (slice_get unit.variables variable) refl
    where
      by : (o : Option VarDecl) → slice_get unit.variables variable ≡ o → Judges (is_deep o back) (Reaches unit variable back)
      by None e = λ (decl, there, low). none-some decl (sym e ∙ there)
      by (Some some) e =
          judge_if (nat_lt back some.depth) (judge_lt back some.depth) (λ low. (some, e, low))
          (λ (decl, there, low). subst (λ (d : VarDecl). back < d.depth) (sym (same_Some some decl (sym e ∙ there))) low)

  pub named_tells : (code : Code) (owner : Owner) (i : Instr) → Judges (named_by unit code owner i) (IsNamed unit code owner i)
  named_tells code owner (instr.LoadCopy variable) = owns_tells owner variable
  named_tells code owner (instr.StoreCopy variable) = owns_tells owner variable
  named_tells code owner (instr.Past variable back) = deep_tells variable back
  named_tells code owner (instr.Ready stream) = hears_tells owner stream
  named_tells code owner (instr.Take stream) = hears_tells owner stream
  named_tells code owner (instr.Send stream after clock) =
      judge_if (nat_lt stream (length unit.streams) && (nat_lt clock (length unit.clocks) && nat_le after AFTER))
      (judge_and _ _ (nat_lt stream (length unit.streams)) (nat_lt clock (length unit.clocks) && nat_le after AFTER) (judge_lt stream (length unit.streams))
      (judge_and _ _ (nat_lt clock (length unit.clocks)) (nat_le after AFTER) (judge_lt clock (length unit.clocks)) (judge_le after AFTER)))
      (λ (to, (on, low)). (to, on, low)) (λ (to, on, low). (to, (on, low)))
  named_tells code owner (instr.Call function) = judge_lt function (length code.functions)
  named_tells code owner (instr.Push number) = tt {0}
  named_tells code owner (instr.Load cell) = tt {0}
  named_tells code owner (instr.Store cell) = tt {0}
  named_tells code owner (instr.LoadCell base cells) = tt {0}
  named_tells code owner (instr.StoreCell base cells) = tt {0}
  named_tells code owner (instr.Jump to) = tt {0}
  named_tells code owner (instr.JumpZero to) = tt {0}
  named_tells code owner (instr.AndTest to) = tt {0}
  named_tells code owner (instr.OrTest to) = tt {0}
  named_tells code owner instr.Truth = tt {0}
  named_tells code owner (instr.Zero counter) = tt {0}
  named_tells code owner (instr.Guard counter bound) = tt {0}
  named_tells code owner instr.Return = tt {0}
  named_tells code owner (instr.Advance point) = tt {0}
  named_tells code owner (instr.Binary operator width) = tt {0}
  named_tells code owner (instr.Unary operator width) = tt {0}
  named_tells code owner (instr.Cast width) = tt {0}

-- ---- order and points

never : Judges false ⊥
never = λ (x : ⊥). x

pub ordered_tells : (owner : Owner) (i : Instr) → Judges (ordered_by owner i) (IsOrdered owner i)
ordered_tells (Agent number) i = tt {0}
ordered_tells (Function number) (instr.Call function) = judge_lt function number
ordered_tells (Function number) (instr.LoadCopy variable) = never
ordered_tells (Function number) (instr.StoreCopy variable) = never
ordered_tells (Function number) (instr.Past variable back) = never
ordered_tells (Function number) (instr.Ready stream) = never
ordered_tells (Function number) (instr.Take stream) = never
ordered_tells (Function number) (instr.Send stream after clock) = never
ordered_tells (Function number) (instr.Advance point) = never
ordered_tells (Function number) (instr.Push n) = tt {0}
ordered_tells (Function number) (instr.Load cell) = tt {0}
ordered_tells (Function number) (instr.Store cell) = tt {0}
ordered_tells (Function number) (instr.LoadCell base cells) = tt {0}
ordered_tells (Function number) (instr.StoreCell base cells) = tt {0}
ordered_tells (Function number) (instr.Jump to) = tt {0}
ordered_tells (Function number) (instr.JumpZero to) = tt {0}
ordered_tells (Function number) (instr.AndTest to) = tt {0}
ordered_tells (Function number) (instr.OrTest to) = tt {0}
ordered_tells (Function number) instr.Truth = tt {0}
ordered_tells (Function number) (instr.Zero counter) = tt {0}
ordered_tells (Function number) (instr.Guard counter bound) = tt {0}
ordered_tells (Function number) instr.Return = tt {0}
ordered_tells (Function number) (instr.Binary operator width) = tt {0}
ordered_tells (Function number) (instr.Unary operator width) = tt {0}
ordered_tells (Function number) (instr.Cast width) = tt {0}

pub leads_tells : (code : Code) (number place : ℕ) (i : Instr) → Judges (leads_by (agent_code_at code number).points place i) (IsLed code (Agent number) place i)
leads_tells code number place (instr.Advance point) =
    let points : List ℕ = (agent_code_at code number).points in
    judge_and _ _ (nat_le 1 point) (is_number (slice_get points point) (place + 1)) (judge_le 1 point) (number_tells (slice_get points point) (place + 1))
leads_tells code number place (instr.Push n) = tt {0}
leads_tells code number place (instr.Load cell) = tt {0}
leads_tells code number place (instr.Store cell) = tt {0}
leads_tells code number place (instr.LoadCell base cells) = tt {0}
leads_tells code number place (instr.StoreCell base cells) = tt {0}
leads_tells code number place (instr.LoadCopy variable) = tt {0}
leads_tells code number place (instr.StoreCopy variable) = tt {0}
leads_tells code number place (instr.Past variable back) = tt {0}
leads_tells code number place (instr.Ready stream) = tt {0}
leads_tells code number place (instr.Take stream) = tt {0}
leads_tells code number place (instr.Send stream after clock) = tt {0}
leads_tells code number place (instr.Jump to) = tt {0}
leads_tells code number place (instr.JumpZero to) = tt {0}
leads_tells code number place (instr.AndTest to) = tt {0}
leads_tells code number place (instr.OrTest to) = tt {0}
leads_tells code number place instr.Truth = tt {0}
leads_tells code number place (instr.Zero counter) = tt {0}
leads_tells code number place (instr.Guard counter bound) = tt {0}
leads_tells code number place (instr.Call function) = tt {0}
leads_tells code number place instr.Return = tt {0}
leads_tells code number place (instr.Binary operator width) = tt {0}
leads_tells code number place (instr.Unary operator width) = tt {0}
leads_tells code number place (instr.Cast width) = tt {0}
