-- Heights, and room for calls, are as they are computed.
use Rattle.std.proofs.Common.{◌≡◌, ℕ, ◌+◌, ◌-◌, ◌^◌, ◌<◌, ◌≤◌, Bool, true, false, ◌&&◌, List, length, Some, refl, sym, ap, subst, ◌∙◌, inl, inr, arith}
use Rattle.std.specs.Prelude.{Option, None, nat_le, slice_get, ⊤}
use Rattle.std.specs.List.{Contains}
use Rattle.std.proofs.lemmas.Bool.{cases_lt}
use Rattle.std.proofs.lemmas.List.{get_or_past}
use Rattle.std.proofs.lemmas.Option.{none-some, same_Some}
use Rattle.psy_code.specs.declared.code.Code.{Code}
use Rattle.psy_code.specs.declared.code.FunctionCode.{FunctionCode}
use Rattle.psy_code.specs.declared.instr.Instr.{Instr}
use Rattle.psy_code.specs.declared.instr.Instr.TheVariants as instr
use Rattle.psy_meaning.specs.CodeWays.{agent_code_at}
use Rattle.psy_meaning.specs.Sound.{Each}
use Rattle.psy_flow.specs.Owners.{Agent, Function, IsReached, Owner, function_code_at}
use Rattle.psy_flow.specs.Heights.{Finds, IsBalanced, IsHeight, Shift, past_call, shifts}
use Rattle.psy_flow.specs.Needs.{Calls, FitsFrames, FitsStack, IsCounted, MayHold, MayUse}
use Rattle.psy_flow.proofs.lemmas.Shifted.{function_there}
use Rattle.psy_judge.specs.declared.heights.Top.{Top}
use Rattle.psy_judge.specs.declared.heights.Top.TheVariants as top
use Rattle.psy_judge.specs.declared.needs.Need.{Need}
use Rattle.psy_judge.specs.declared.steps.Steps.{Steps}
use Rattle.psy_judge.specs.Highest.{AreTops, shifts_of, top_at}
use Rattle.psy_judge.specs.Judged.{Judges}
use Rattle.psy_judge.specs.Judging.{AreNeeds, AreReached, FitsFramesOf, FitsStackOf, IsNeed, IsNeedOf, IsTop}
use Rattle.psy_judge.specs.Deciding.{balanced_by, call_fits, called, finds_by, frames_fit, held_by, level_by, need_at, need_fits, stack_fits, use_fits, used_by}
use Rattle.psy_judge.proofs.InstrJudged.{finds_tells}
use Rattle.psy_judge.proofs.JudgedBools.{fails, holds, judge_and, judge_if, judge_le}
use Rattle.psy_judge.proofs.RowsTaken.{reached_at}

-- An instruction that calls is a call.
pub call_is : (i : Instr) (f : ℕ) → called i ≡ Some f → i ≡ instr.Call f
call_is (instr.Call function) f e = ap instr.Call (same_Some function f e)
call_is (instr.Push number) f e = absurd (none-some f e)
call_is (instr.Load cell) f e = absurd (none-some f e)
call_is (instr.Store cell) f e = absurd (none-some f e)
call_is (instr.LoadCell base cells) f e = absurd (none-some f e)
call_is (instr.StoreCell base cells) f e = absurd (none-some f e)
call_is (instr.LoadCopy variable) f e = absurd (none-some f e)
call_is (instr.StoreCopy variable) f e = absurd (none-some f e)
call_is (instr.Past variable back) f e = absurd (none-some f e)
call_is (instr.Ready stream) f e = absurd (none-some f e)
call_is (instr.Take stream) f e = absurd (none-some f e)
call_is (instr.Send stream after clock) f e = absurd (none-some f e)
call_is (instr.Jump to) f e = absurd (none-some f e)
call_is (instr.JumpZero to) f e = absurd (none-some f e)
call_is (instr.AndTest to) f e = absurd (none-some f e)
call_is (instr.OrTest to) f e = absurd (none-some f e)
call_is instr.Truth f e = absurd (none-some f e)
call_is (instr.Zero counter) f e = absurd (none-some f e)
call_is (instr.Guard counter bound) f e = absurd (none-some f e)
call_is instr.Return f e = absurd (none-some f e)
call_is (instr.Advance point) f e = absurd (none-some f e)
call_is (instr.Binary operator width) f e = absurd (none-some f e)
call_is (instr.Unary operator width) f e = absurd (none-some f e)
call_is (instr.Cast width) f e = absurd (none-some f e)

-- Where a call finds its arguments, they are no more than the height.
pub params_found : (code : Code) (place f height : ℕ) → f < length code.functions → Finds code place (instr.Call f) height → (function_code_at code f).params ≤ height
params_found code place f height less finds =
    (subst (λ (o : Option FunctionCode). Each (λ (shift : Shift). shift.pops ≤ height) (past_call place o)) (function_there code f less) finds).0

-- ---- needs that are known

module _ (code : Code) (count : ℕ) (needs : List (Option Need)) (are : AreNeeds code count needs) where
  -- A function that has a need is one of those that are known.
  pub need_known : (f : ℕ) (need : Need) → need_at needs f ≡ Some need → (f < count) × IsNeed code f need
  need_known f need e = elim (cases_lt f count) [
    | inl less ↦ (less, subst (IsNeedOf code f) e (are.each f less))
    | inr past ↦ absurd (none-some need (sym (get_or_past needs f None (omega (arith, past, are.size))) ∙ e))
  ]

  pub need_few : count ≤ 64 → (f : ℕ) (need : Need) → Some need ≡ need_at needs f → need.held < 2 ^ 62
  need_few few f need e = (let (less, is) = need_known f need (sym e) in omega (arith, is.held_few, less, few))

  -- One of those that are counted has a need.
  pub need_counted : (f : ℕ) → f < count → need_at needs f ≡ None → IsCounted code f → ⊥
  need_counted f less e = subst (IsNeedOf code f) e (are.each f less)

-- ---- one height at most

module _ (code : Code) (owner : Owner) (place : ℕ) (i : Instr) (at : slice_get code.instrs place ≡ Some i) (on : Steps) (steps : shifts_of on ≡ shifts code place i) where
  pub balanced_tells : (t : Top) → IsTop (IsHeight code owner place) t → Judges (balanced_by i on t) (IsBalanced code owner place)
  balanced_tells top.Nothing is = record {
    same = λ height other reached also. absurd (is.covered height reached);
    there = λ height j reached also. absurd (is.covered height reached);
  }
  balanced_tells (top.One height) is =
      judge_if (finds_by i on height) (finds_tells code place i on height steps)
      (λ finds. record {
        same = λ one other reached also. is.covered one reached ∙ sym (is.covered other also);
        there = λ one j reached there. subst (λ (k : Instr). Finds code place k one) (same_Some i j (sym at ∙ there)) (subst (Finds code place i) (sym (is.covered one reached)) finds);
      })
      (λ balanced. balanced.there height i is.found at)
  balanced_tells (top.Two a b) is = λ balanced. (let same = balanced.same a b is.found.0 is.found.1 in let less = is.found.2 in omega (arith, same, less))
  balanced_tells top.Endless is = λ balanced. (
      let (n, has, more) = is.found 0 in
      let (m, also, further) = is.found n in
      let same = balanced.same n m has also in
      omega (arith, same, further))

-- ---- an agent's room

module _ (code : Code) (number place : ℕ) (i : Instr) (at : slice_get code.instrs place ≡ Some i) (needs : List (Option Need)) (are : AreNeeds code (length code.functions) needs) where
  -- The call that stands there
  named : (f g : ℕ) → called i ≡ Some f → slice_get code.instrs place ≡ Some (instr.Call g) → f ≡ g
  named f g e there = same_Some f g (sym e ∙ ap called (same_Some i (instr.Call g) (sym at ∙ there)))

  no_call : (g : ℕ) → called i ≡ None → slice_get code.instrs place ≡ Some (instr.Call g) → ⊥
  no_call g e there = none-some g (sym e ∙ ap called (same_Some i (instr.Call g) (sym at ∙ there)))

  there_call : (f : ℕ) → called i ≡ Some f → slice_get code.instrs place ≡ Some (instr.Call f)
  there_call f e = at ∙ ap Some (call_is i f e)

  abbrev CallsFit : ℕ → Type 0
  CallsFit stack = (function left more : ℕ) → Calls code (Agent number) place function left → IsCounted code function → MayHold code function more → left + more ≤ stack

  call_tells : (stack height : ℕ) → IsTop (IsHeight code (Agent number) place) (top.One height) → Finds code place i height → Judges (call_fits code needs stack (called i) height) (CallsFit stack)
  call_tells stack height is finds = by (called i) refl
    where
      need_tells : (f : ℕ) → called i ≡ Some f → (o : Option Need) → need_at needs f ≡ o → Judges (need_fits o (height - (function_code_at code f).params) stack) (CallsFit stack)
      need_tells f e None none = λ function left more (reached, there) counted held. (
          let same : function ≡ f = sym (named f function e there) in
          absurd (need_counted code (length code.functions) needs are f (subst (λ g. g < length code.functions) same counted.0) none (subst (IsCounted code) same counted)))
      need_tells f e (Some need) some =
          let params : ℕ = (function_code_at code f).params in
          let (less, known) = need_known code (length code.functions) needs are f need some in
          let low : params ≤ height = params_found code place f height less (subst (λ (j : Instr). Finds code place j height) (call_is i f e) finds) in
          judge_if (nat_le (height - params + need.held) stack) (judge_le (height - params + need.held) stack)
          (λ fits function left more (reached, there) counted held. (
          let same : function ≡ f = sym (named f function e there) in
          let level : left + params ≡ height = is.covered (left + params) (subst (λ g. IsHeight code (Agent number) place (left + (function_code_at code g).params)) same reached) in
          let most : more ≤ need.held = known.held.1 more (subst (λ g. MayHold code g more) same held) in
          omega (arith, fits, level, most)))
          (λ all. all f (height - params) need.held
          (subst (IsHeight code (Agent number) place) (sum height params low) is.found, there_call f e) known.counted known.held.0)
        where
          sum : (a b : ℕ) → b ≤ a → a ≡ a - b + b
          sum a b low = omega (arith, low)

      by : (o : Option ℕ) → called i ≡ o → Judges (call_fits code needs stack o height) (CallsFit stack)
      by None e = λ function left more (reached, there) counted held. absurd (no_call function e there)
      by (Some f) e = need_tells f e (need_at needs f) refl

  pub stack_tells : (height : ℕ) → IsTop (IsHeight code (Agent number) place) (top.One height) → Finds code place i height
      → Judges (stack_fits code needs (agent_code_at code number).stack i height) (FitsStack code number place)
  stack_tells height is finds =
      let stack : ℕ = (agent_code_at code number).stack in
      judge_if (nat_le height stack && call_fits code needs stack (called i) height)
      (judge_and _ _ (nat_le height stack) (call_fits code needs stack (called i) height) (judge_le height stack) (call_tells stack height is finds))
      (λ (own, calls). record { own = λ h reached. omega (arith, own, is.covered h reached); call = calls })
      (λ fits. (fits.own height is.found, fits.call))

  pub frames_tells : IsReached code (Agent number) place → Judges (frames_fit needs (agent_code_at code number).frames (called i)) (FitsFrames code number place)
  frames_tells reached = by (called i) refl
    where
      use_tells : (f : ℕ) → called i ≡ Some f → (o : Option Need) → need_at needs f ≡ o → Judges (use_fits o (agent_code_at code number).frames) (FitsFrames code number place)
      use_tells f e None none = λ function more also there counted used. (
          let same : function ≡ f = sym (named f function e there) in
          absurd (need_counted code (length code.functions) needs are f (subst (λ g. g < length code.functions) same counted.0) none (subst (IsCounted code) same counted)))
      use_tells f e (Some need) some =
          let (less, known) = need_known code (length code.functions) needs are f need some in
          judge_if (nat_le need.used (agent_code_at code number).frames) (judge_le need.used (agent_code_at code number).frames)
          (λ fits function more also there counted used. (
          let same : function ≡ f = sym (named f function e there) in
          let most : more ≤ need.used = known.used.1 more (subst (λ g. MayUse code g more) same used) in
          omega (arith, fits, most)))
          (λ all. all f need.used reached (there_call f e) known.counted known.used.0)

      by : (o : Option ℕ) → called i ≡ o → Judges (frames_fit needs (agent_code_at code number).frames o) (FitsFrames code number place)
      by None e = λ function more also there counted used. absurd (no_call function e there)
      by (Some f) e = use_tells f e (need_at needs f) refl

-- ---- all that rules 3 and 4 say of room

-- An agent's needs are those of all functions.
abbrev pub AreKnown : Code → List (Option Need) → Owner → Type 0
AreKnown code needs (Agent number) = AreNeeds code (length code.functions) needs
AreKnown code needs (Function number) = ⊤

module _ (code : Code) (place : ℕ) (i : Instr) (at : slice_get code.instrs place ≡ Some i) (on : Steps) (steps : shifts_of on ≡ shifts code place i) (needs : List (Option Need)) where
  held_tells : (owner : Owner) (height : ℕ) → AreKnown code needs owner → IsTop (IsHeight code owner place) (top.One height) → Finds code place i height → Judges (held_by code needs owner i height) (FitsStackOf code owner place)
  held_tells (Agent number) height are is finds = stack_tells code number place i at needs are height is finds
  held_tells (Function number) height are is finds = tt {0}

  none_fits : (owner : Owner) → IsTop (IsHeight code owner place) top.Nothing → FitsStackOf code owner place
  none_fits (Agent number) is = record {
    own = λ height reached. absurd (is.covered height reached);
    call = λ function left more calls counted held. absurd (is.covered _ calls.0);
  }
  none_fits (Function number) is = tt {0}

  pub level_tells : (owner : Owner) (t : Top) → AreKnown code needs owner → IsTop (IsHeight code owner place) t → Judges (level_by code needs owner i on t) (IsBalanced code owner place × FitsStackOf code owner place)
  level_tells owner top.Nothing known is = (balanced_tells code owner place i at on steps top.Nothing is, none_fits owner is)
  level_tells owner (top.One height) known is = by (finds_by i on height) refl
    where
      by : (b : Bool) → finds_by i on height ≡ b → Judges (b && held_by code needs owner i height) (IsBalanced code owner place × FitsStackOf code owner place)
      by false e = λ h. fails (balanced_by i on (top.One height)) (balanced_tells code owner place i at on steps (top.One height) is) e h.0
      by true e =
          judge_if (held_by code needs owner i height) (held_tells owner height known is (holds (finds_by i on height) (finds_tells code place i on height steps) e))
          (λ fits. (holds (balanced_by i on (top.One height)) (balanced_tells code owner place i at on steps (top.One height) is) e, fits))
          (λ h. h.1)
  level_tells owner (top.Two a b) known is = λ h. balanced_tells code owner place i at on steps (top.Two a b) is h.0
  level_tells owner top.Endless known is = λ h. balanced_tells code owner place i at on steps top.Endless is h.0

  pub used_tells : (owner : Owner) → AreKnown code needs owner → IsReached code owner place → Judges (used_by code needs owner i) (FitsFramesOf code owner place)
  used_tells (Agent number) are reached = frames_tells code number place i at needs are reached
  used_tells (Function number) are reached = tt {0}

-- ---- from the tops of all places

pub top_is : (code : Code) (owner : Owner) (row : List Top) (place : ℕ) → AreTops code owner row → place < length code.instrs → IsTop (IsHeight code owner place) (top_at row place)
top_is code owner row place tops within = record { found = tops.found place; covered = λ height reached. tops.covered place height within reached }

-- A function whose places are balanced is counted.
pub counted_all : (code : Code) (function : ℕ) (places : List ℕ) → function < length code.functions → AreReached code (Function function) places
    → ((place : ℕ) → Contains places place → IsBalanced code (Function function) place) → IsCounted code function
counted_all code function places there reached each = (
  there,
  λ place within. record {
    same = λ height other high also. (each place ((reached place).1 (within, reached_at code (Function function) place height high))).same height other high also;
    there = λ height i high at. (each place ((reached place).1 (within, reached_at code (Function function) place height high))).there height i high at;
  },
)
