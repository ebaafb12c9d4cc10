-- The history of a program's code is alike that of its statements: date by date, one action an agent.
use Rattle.std.proofs.Common.{◌≡◌, ℕ, zero, suc, ◌<◌, inl, inr, List, Option, Some, None, refl, sym, ap, ap₂, ◌∙◌, subst, arith}
use Rattle.std.proofs.lemmas.Bool.{cases_Bool, lt-ltb}
use Rattle.std.specs.Prelude.{ℤ, ◌==◌, if◌then◌else◌}
use Rattle.psy_base.specs.declared.message.Message.{Message}
use Rattle.psy_budget.specs.declared.charge.Stall.{Stall}
use Rattle.psy_code.specs.declared.code.Code.{Code}
use Rattle.psy_code.specs.Views.{View}
use Rattle.psy_tree.specs.declared.unit.Unit.{Unit as Whole}
use Rattle.psy_history.specs.Actions.{Action, History, Next, Opening, System, Overran, charge_of, next_by, next_of, timing, verdict_by, verdict_of}
use Rattle.psy_history.specs.Executors.{Acted, Fate}
use Rattle.psy_history.specs.History.{action_of, executed, history, recorded, with_start}
use Rattle.psy_meaning.specs.Timing.{Timing, budget_at}
use Rattle.psy_history.specs.Visible.{seen_at, view_of}
use Rattle.psy_history.specs.Compiled.{IsCompiled, coded_behind, stated_behind}
use Rattle.psy_history.specs.Likeness.{AreLike, IsLike}
use Rattle.psy_history.specs.Runs.{IsRun}
use Rattle.psy_meaning.specs.KnownWays.{OfText}
use Rattle.psy_history.proofs.CarriedStores.{carries_of}
use Rattle.psy_history.proofs.LikeActions.{by_pairs, like_same, same_by}
use Rattle.psy_history.proofs.LikeViews.{seen_same, view_same}
use Rattle.psy_history.proofs.OneAction.{ArePast, AreWithin}
use Rattle.psy_history.proofs.RunActions.{AreRunLaws, point_known}
use Rattle.psy_history.proofs.RunHistories.{next_ready, next_sees}
use Rattle.psy_history.proofs.Starts.{acted_alike}
use Rattle.psy_history.proofs.Stores.{AreStoreLaws, IsReady}

overran : (timing : Timing) (start budget charge : ℕ) (fate : Fate) → budget < charge → verdict_of timing start budget charge fate ≡ Overran
overran timing start budget charge fate h = ap (λ b. if b then Overran else verdict_by timing start fate) (lt-ltb budget charge h)

module _ (unit : Whole) (code : Code) (nexts : List (List (List ℕ))) (stalls : ℕ → List Stall) (inputs : List (List ℤ)) (opening : Opening) where
  abbrev of_code : System
  of_code = coded_behind unit code nexts stalls inputs opening

  abbrev of_stmts : System
  of_stmts = stated_behind unit nexts stalls inputs opening

  -- ---- where the next action starts

  pub next_like : (agent : ℕ) (rs qs : List Action) → AreLike rs qs → next_of of_code agent rs ≡ next_of of_stmts agent qs
  next_like agent = by_pairs (λ rs qs. next_of of_code agent rs ≡ next_of of_stmts agent qs) refl (λ r q rs qs one others rest.
      same_by (λ (x : Action). next_by x.number x.after x.verdict) r q one (λ o p. ap (next_by r.number r.after) o ∙ sym (ap (next_by q.number q.after) p)))

  -- ---- what is recorded

  recorded_past : (agent : ℕ) (n : Next) (view : View) (seen : ℕ → List Message) (a b : Acted) → ArePast (budget_at (timing of_stmts agent) n.point) a b → IsLike (recorded of_code agent n view seen a) (recorded of_stmts agent n view seen b)
  recorded_past agent n view seen a b past =
      let budget = budget_at (timing of_stmts agent) n.point in
      let over_a = overran (timing of_stmts agent) n.start budget (charge_of of_stmts agent n.number a.deeds.steps) a.fate (omega (arith, past.this)) in
      let over_b = overran (timing of_stmts agent) n.start budget (charge_of of_stmts agent n.number b.deeds.steps) b.fate (omega (arith, past.that)) in
      record {
        agent = refl;
        number = refl;
        point = refl;
        start = refl;
        budget = refl;
        deadline = refl;
        verdict = over_a ∙ sym over_b;
        finished = λ h. absurd (h over_a);
        work = omega (arith, past.this, past.that);
        looks = past.looks;
      }

  recorded_like : (agent : ℕ) (n : Next) (view : View) (seen : ℕ → List Message) (a b : Acted) → AreWithin (budget_at (timing of_stmts agent) n.point) a b → IsLike (recorded of_code agent n view seen a) (recorded of_stmts agent n view seen b)
  recorded_like agent n view seen a b (inl e) = like_same (recorded of_code agent n view seen a) (recorded of_stmts agent n view seen b) (ap (recorded of_stmts agent n view seen) e)
  recorded_like agent n view seen a b (inr past) = recorded_past agent n view seen a b past

  module _ (laws : AreStoreLaws unit code) (compiled : IsCompiled unit code nexts) (runs : AreRunLaws code) (run : IsRun of_code (OfText unit) code) where
    -- ---- one date

    module _ (date : ℕ) (like : (agent : ℕ) → AreLike (history of_code date agent) (history of_stmts date agent)) (agent : ℕ) where
      abbrev h : History
      h = history of_code date

      abbrev k : History
      k = history of_stmts date

      action_like : (n : Next) → next_of of_code agent (h agent) ≡ Some n → IsLike (action_of of_code h agent n) (action_of of_stmts k agent n)
      action_like n is =
          let seen = seen_at of_code h n.start in
          let view = view_of of_code h agent n.start seen in
          let next = next_ready of_code (OfText unit) code runs run date agent n is in
          let ready : IsReady unit agent n = record {
            less = next.less;
            known = point_known of_code (OfText unit) code runs run agent next.less n.point next.alike.met next.alike.may;
            carries = carries_of unit code nexts laws compiled agent next.less n.carried next.carries;
          } in
          let sees = next_sees of_code (OfText unit) code runs run date agent n.start in
          let within = acted_alike unit code nexts stalls inputs laws compiled agent n ready view sees in
          let budget = budget_at (timing of_stmts agent) n.point in
          let both = recorded_like agent n view seen (of_code.executor.act agent n.point n.carried view budget) (of_stmts.executor.act agent n.point n.carried view budget) within in
          let same : executed of_stmts agent n view seen ≡ action_of of_stmts k agent n =
          ap₂ (λ (v : View) (m : ℕ → List Message). executed of_stmts agent n v m) (view_same unit code nexts stalls inputs opening h k like agent n.start) (seen_same unit code nexts stalls inputs opening h k like n.start) in
          subst (IsLike (action_of of_code h agent n)) same both

      started_like : (o : Option Next) → next_of of_code agent (h agent) ≡ o → AreLike (with_start of_code h date agent (h agent) o) (with_start of_stmts k date agent (k agent) o)
      started_like None is = like agent
      started_like (Some n) is = elim (cases_Bool (n.start == date)) [
        | inl t ↦ rw t (action_like n is, like agent)
        | inr t ↦ rw t (like agent)
      ]

      date_like : AreLike (history of_code (suc date) agent) (history of_stmts (suc date) agent)
      date_like =
          let next = next_of of_code agent (h agent) in
          subst (λ o. AreLike (with_start of_code h date agent (h agent) next) (with_start of_stmts k date agent (k agent) o)) (next_like agent (h agent) (k agent) (like agent)) (started_like next refl)

    -- ---- date by date

    pub histories_like : (dates agent : ℕ) → AreLike (history of_code dates agent) (history of_stmts dates agent)
    histories_like zero agent = tt
    histories_like (suc date) agent = date_like date (histories_like date) agent
