-- A run cut in two at a number of instructions: what it looks at behind the cut has no lower number.
use Rattle.std.proofs.Common.{◌≡◌, ℕ, zero, suc, ◌+◌, ◌-◌, ◌≤◌, Bool, true, false, cond, List, [], ◌∷◌, ◌++◌, refl, sym, ap, ◌∙◌, subst, arith, append-nil, zero-add, suc-add}
use Rattle.std.proofs.lemmas.Bool.{le-ltb}
use Rattle.std.proofs.lemmas.List.Elements.{filter-append}
use Rattle.std.specs.List.{filter}
use Rattle.std.specs.Prelude.{Option, Some, None, nat_lt}
use Rattle.psy_code.specs.declared.code.AgentCode.{AgentCode}
use Rattle.psy_code.specs.declared.code.Code.{Code}
use Rattle.psy_code.specs.Execution.{Next, Went, Ended, Trapped, Stuck, NoRun, RanTo, Run, RunState, Running, TrappedBy, call_of, deeds_then, go_on, next_of, run_by, run_code, run_one, state_then}
use Rattle.psy_code.specs.Lasting.{IsOver}
use Rattle.psy_code.specs.Views.{Call, Deeds, Looked, Past, Ready, Send, Take}

-- The looks below a number of instructions
abbrev pub looks_below : ℕ → Deeds → List Looked
looks_below n deeds = filter (λ (look : Looked). nat_lt look.number n) deeds.looks

last_dropped : (b : Bool) (looks : List Looked) (look : Looked) → b ≡ false → looks ++ cond b (look ∷ []) [] ≡ looks
last_dropped true looks look e = cc
last_dropped false looks look e = append-nil looks

late_call : (n : ℕ) (deeds : Deeds) (call : Option Call) → n ≤ deeds.steps → looks_below n (deeds_then deeds call) ≡ looks_below n deeds
late_call n deeds None h = refl
late_call n deeds (Some (Past variable back)) h =
    let look : Looked = record { number = deeds.steps; variable = variable; back = back } in
    filter-append (λ (look : Looked). nat_lt look.number n) deeds.looks (look ∷ []) ∙ last_dropped (nat_lt deeds.steps n) (looks_below n deeds) look (le-ltb deeds.steps n h)
late_call n deeds (Some (Ready stream)) h = refl
late_call n deeds (Some (Take stream)) h = refl
late_call n deeds (Some (Send sent)) h = refl

pub steps_then : (deeds : Deeds) (call : Option Call) → (deeds_then deeds call).steps ≡ deeds.steps + 1
steps_then deeds None = refl
steps_then deeds (Some (Past variable back)) = refl
steps_then deeds (Some (Ready stream)) = refl
steps_then deeds (Some (Take stream)) = refl
steps_then deeds (Some (Send sent)) = refl

module _ (code : Code) (its : AgentCode) where
  late_by : (n k : ℕ) (s t : RunState) (next : Next) → n ≤ s.deeds.steps → ((u : RunState) → n ≤ u.deeds.steps → IsOver (run_code code its u k) t → looks_below n t.deeds ≡ looks_below n u.deeds)
      → IsOver (go_on (run_by s (call_of code s.machine) next) (λ u. run_code code its u k)) t → looks_below n t.deeds ≡ looks_below n s.deeds
  late_by n k s t (Went m) h on over =
      let call = call_of code s.machine in
      let more = steps_then s.deeds call in
      on (state_then s call m) (omega (arith, more, h)) over ∙ late_call n s.deeds call h
  late_by n k s t (Ended point m) h on over = ap (λ (u : RunState). looks_below n u.deeds) over ∙ late_call n s.deeds (call_of code s.machine) h
  late_by n k s t (Trapped kind) h on over = ap (λ (u : RunState). looks_below n u.deeds) over
  late_by n k s t Stuck h on over = absurd over

  -- what a run looks at has at least the number of its first instruction
  late_looks : (n k : ℕ) (s t : RunState) → n ≤ s.deeds.steps → IsOver (run_code code its s k) t → looks_below n t.deeds ≡ looks_below n s.deeds
  late_looks n zero s t h over = absurd over
  late_looks n (suc k) s t h over = late_by n k s t (next_of code its s.view s.machine) h (λ u. late_looks n k u t) over

  -- ---- the run in two parts

  parts_by : (n k : ℕ) (run : Run) → ((u : RunState) → run_code code its u (n + k) ≡ go_on (run_code code its u n) (λ t. run_code code its t k))
      → go_on run (λ u. run_code code its u (n + k)) ≡ go_on (go_on run (λ u. run_code code its u n)) (λ t. run_code code its t k)
  parts_by n k (Running u) on = on u
  parts_by n k (RanTo point u) on = refl
  parts_by n k (TrappedBy kind u) on = refl
  parts_by n k NoRun on = refl

  pub parts : (n k : ℕ) (s : RunState) → run_code code its s (n + k) ≡ go_on (run_code code its s n) (λ t. run_code code its t k)
  parts zero k s = ap (run_code code its s) (zero-add k)
  parts (suc n) k s = ap (run_code code its s) (suc-add n k) ∙ parts_by n k (run_one code its s) (λ u. parts n k u)

  over_on : (run : Run) (t : RunState) (go : RunState → Run) → IsOver run t → go_on run go ≡ run
  over_on (Running u) t go over = absurd over
  over_on (RanTo point u) t go over = refl
  over_on (TrappedBy kind u) t go over = refl
  over_on NoRun t go over = absurd over

  -- a run that is over stays so
  pub over_stays : (n m : ℕ) (s t : RunState) → n ≤ m → IsOver (run_code code its s n) t → run_code code its s m ≡ run_code code its s n
  over_stays n m s t h over =
      let k : m ≡ n + (m - n) = omega arith in
      ap (run_code code its s) k ∙ parts n (m - n) s ∙ over_on (run_code code its s n) t _ over

  -- what a run that is over looked at below a number of instructions, it looked at before
  pub looks_before : (n m : ℕ) (s t u : RunState) → n ≤ m → run_code code its s n ≡ Running u → u.deeds.steps ≡ n → IsOver (run_code code its s m) t → looks_below n u.deeds ≡ looks_below n t.deeds
  looks_before n m s t u h running counted over =
      let k : m ≡ n + (m - n) = omega arith in
      let rest : run_code code its s m ≡ run_code code its u (m - n) = ap (run_code code its s) k ∙ parts n (m - n) s ∙ ap (λ run. go_on run (λ t. run_code code its t (m - n))) running in
      sym (late_looks n (m - n) u t (omega (arith, counted)) (subst (λ run. IsOver run t) rest over))
