-- What an action of code did, an instruction on its way asked for.
use Rattle.std.proofs.Common.{◌≡◌, ◌⊎◌, ℕ, zero, suc, ◌<◌, Option, Some, None, refl, ap, ◌∙◌, subst, inl, inr, arith, [], sym, ◌∷◌}
use Rattle.std.specs.List.{Contains, AllPairs}
use Rattle.std.proofs.lemmas.List.Elements.{Contains-push_cases}
use Rattle.psy_lists.proofs.lemmas.Members.{contains_none, front_or_behind}
use Rattle.psy_code.specs.declared.code.AgentCode.{AgentCode}
use Rattle.psy_code.specs.declared.code.Code.{Code}
use Rattle.psy_code.specs.Execution.{Next, Went, Ended, Trapped, Stuck, NoRun, RanTo, Run, RunState, Running, TrappedBy, call_of, deeds_then, go_on, next_of, run_by, run_code, state_then}
use Rattle.psy_code.specs.Views.{Call, Deeds, Looked, Past, Ready, Send, Take, nothing_done, tick}
use Rattle.psy_history.specs.Executors.{Carried, acted_as}
use Rattle.psy_legal.proofs.LooksOfCode.{before_or_made}
use Rattle.psy_lists.proofs.lemmas.Ordered.{pairs_append}

-- What a run did
abbrev pub deeds_of : Run → Deeds
deeds_of (Running s) = s.deeds
deeds_of (RanTo point s) = s.deeds
deeds_of (TrappedBy kind s) = s.deeds
deeds_of NoRun = nothing_done

-- An action looks at what its run does.
pub looks_as : (budget : ℕ) (carried : Carried) (run : Run) → (acted_as budget carried run).deeds.looks ≡ (deeds_of run).looks
looks_as budget carried (RanTo point s) = refl
looks_as budget carried (TrappedBy kind s) = refl
looks_as budget carried (Running s) = refl
looks_as budget carried NoRun = refl

-- One of the first so many instructions of a run asks for this.
pub record IsAsked (code : Code) (its : AgentCode) (call : Call) (n : ℕ) (s : RunState) : Type 0 where
  pub at : ℕ
  pub before : at < n
  pub state : RunState
  pub running : run_code code its s at ≡ Running state
  pub asks : call_of code state.machine ≡ Some call

-- Deeds that are there, where they were before or an instruction asked for them
module _ (code : Code) (its : AgentCode) (call : Call) (Has : Deeds → Type 0) (made : (deeds : Deeds) (asked : Option Call) → Has (deeds_then deeds asked) → Has deeds ⊎ (asked ≡ Some call)) (ticked : (deeds : Deeds) → Has (tick deeds) → Has deeds) (none : Has nothing_done → ⊥) where
  asked_first : (n : ℕ) (s : RunState) → Has (deeds_then s.deeds (call_of code s.machine)) → Has s.deeds ⊎ IsAsked code its call (suc n) s
  asked_first n s has = elim (made s.deeds (call_of code s.machine) has) [
    | inl before ↦ inl before
    | inr asks ↦ inr (record { at = 0; before = omega arith; state = s; running = refl; asks = asks })
  ]

  asked_by : (n : ℕ) (s : RunState) (next : Next) → next_of code its s.view s.machine ≡ next → ((u : RunState) → Has (deeds_of (run_code code its u n)) → Has u.deeds ⊎ IsAsked code its call n u)
      → Has (deeds_of (go_on (run_by s (call_of code s.machine) next) (λ u. run_code code its u n))) → Has s.deeds ⊎ IsAsked code its call (suc n) s
  asked_by n s (Went m) is on has = elim (on (state_then s (call_of code s.machine) m) has) [
    | inl now ↦ asked_first n s now
    | inr later ↦ inr (record {
      at = suc later.at;
      before = omega (arith, later.before);
      state = later.state;
      running = ap (λ next. go_on (run_by s (call_of code s.machine) next) (λ u. run_code code its u later.at)) is ∙ later.running;
      asks = later.asks;
    })
  ]
  asked_by n s (Ended point m) is on has = asked_first n s has
  asked_by n s (Trapped kind) is on has = inl (ticked s.deeds has)
  asked_by n s Stuck is on has = absurd (none has)

  asked : (n : ℕ) (s : RunState) → Has (deeds_of (run_code code its s n)) → Has s.deeds ⊎ IsAsked code its call n s
  asked zero s has = inl has
  asked (suc n) s has = asked_by n s (next_of code its s.view s.machine) refl (λ u. asked n u) has

-- ---- looks

-- What an instruction asks where it makes a look
abbrev pub look_call : Looked → Call
look_call look = Past look.variable look.back

look_made : (look : Looked) (deeds : Deeds) (call : Option Call) → Contains (deeds_then deeds call).looks look → Contains deeds.looks look ⊎ (call ≡ Some (look_call look))
look_made look deeds call c = elim (before_or_made deeds call look c) [ inl before ↦ inl before | inr is ↦ inr is.1 ]

module _ (code : Code) (its : AgentCode) (n : ℕ) (s : RunState) (fresh : s.deeds ≡ nothing_done) where
  -- A run that did nothing before looks at what an instruction asks for.
  pub look_asked_for : (look : Looked) → Contains (deeds_of (run_code code its s n)).looks look → IsAsked code its (look_call look) n s
  look_asked_for look c =
      elim (asked code its (look_call look) (λ deeds. Contains deeds.looks look) (look_made look) (λ deeds c. c) (contains_none look) n s c) [
        | inl before ↦ absurd (contains_none look (subst (λ (d : Deeds). Contains d.looks look) fresh before))
        | inr asks ↦ asks
      ]

-- ---- in order

-- The looks rise by the numbers of their instructions, all of which were executed.
pub record IsRising (deeds : Deeds) : Type 0 where
  pub pairs : AllPairs (λ (l m : Looked). l.number < m.number) deeds.looks
  pub below : (look : Looked) → Contains deeds.looks look → look.number < deeds.steps

none_rise : IsRising nothing_done
none_rise = record { pairs = λ i j d less within. absurd (omega (arith, less, within)); below = λ look c. absurd (contains_none look c) }

tick_rises : (deeds : Deeds) → IsRising deeds → IsRising (tick deeds)
tick_rises deeds rise = record { pairs = rise.pairs; below = λ look c. (let less = rise.below look c in omega (arith, less)) }

then_rises : (deeds : Deeds) (call : Option Call) → IsRising deeds → IsRising (deeds_then deeds call)
then_rises deeds None rise = tick_rises deeds rise
then_rises deeds (Some (Past variable back)) rise =
    let look : Looked = record { number = deeds.steps; variable = variable; back = back } in
    record {
      pairs = pairs_append (λ (l m : Looked). l.number < m.number) deeds.looks (look ∷ []) rise.pairs (λ i j d less within. absurd (omega (arith, less, within))) (λ l m c last.
          elim (front_or_behind look [] m last) [
            | inl e ↦ subst (λ (m : Looked). l.number < m.number) e (rise.below l c)
            | inr none ↦ absurd (contains_none m none)
          ]);
      below = λ l c. elim (Contains-push_cases deeds.looks look l c) [
        | inl before ↦ (let less = rise.below l before in omega (arith, less))
        | inr e ↦ (let number = ap (λ (m : Looked). m.number) e in omega (arith, number))
      ];
    }
then_rises deeds (Some (Ready stream)) rise = tick_rises deeds rise
then_rises deeds (Some (Take stream)) rise = record { pairs = rise.pairs; below = (tick_rises deeds rise).below }
then_rises deeds (Some (Send sent)) rise = record { pairs = rise.pairs; below = (tick_rises deeds rise).below }

module _ (code : Code) (its : AgentCode) where
  rises_by : (n : ℕ) (s : RunState) (next : Next) → IsRising s.deeds → ((u : RunState) → IsRising u.deeds → IsRising (deeds_of (run_code code its u n))) → IsRising (deeds_of (go_on (run_by s (call_of code s.machine) next) (λ u. run_code code its u n)))
  rises_by n s (Went m) rise on = on (state_then s (call_of code s.machine) m) (then_rises s.deeds (call_of code s.machine) rise)
  rises_by n s (Ended point m) rise on = then_rises s.deeds (call_of code s.machine) rise
  rises_by n s (Trapped kind) rise on = tick_rises s.deeds rise
  rises_by n s Stuck rise on = none_rise

  run_rises : (n : ℕ) (s : RunState) → IsRising s.deeds → IsRising (deeds_of (run_code code its s n))
  run_rises zero s rise = rise
  run_rises (suc n) s rise = rises_by n s (next_of code its s.view s.machine) rise (λ u. run_rises n u)

  -- So those of a run rise that did nothing before.
  pub fresh_rises : (n : ℕ) (s : RunState) → s.deeds ≡ nothing_done → IsRising (deeds_of (run_code code its s n))
  fresh_rises n s fresh = run_rises n s (subst IsRising (sym fresh) none_rise)
