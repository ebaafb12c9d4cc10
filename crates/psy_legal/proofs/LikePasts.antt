-- Histories of code and of statements that are alike show the same values: what variables publish, and what an action sees of them.
use Rattle.std.proofs.Common.{◌≡◌, ℕ, ◌-◌, List, length, map, Option, Some, None, refl, sym, ap, ◌∙◌, subst, inl, inr}
use Rattle.std.proofs.Math.Path.{fun_ext}
use Rattle.std.specs.Prelude.{ℤ, if◌then◌else◌, nat_lt}
use Rattle.std.specs.List.{Contains, range_with_len}
use Rattle.psy_budget.specs.declared.charge.Stall.{Stall}
use Rattle.psy_clock.specs.Dates.{count, date}
use Rattle.psy_code.specs.declared.code.Code.{Code}
use Rattle.psy_lists.proofs.lemmas.Members.{contains_none, front_or_behind}
use Rattle.psy_tree.specs.declared.unit.Unit.{Unit as Whole}
use Rattle.psy_history.specs.Actions.{Action, System, publishing, variable_of}
use Rattle.psy_history.specs.Compiled.{coded, stated}
use Rattle.psy_history.specs.History.{action_of, history}
use Rattle.psy_history.specs.Likeness.{AreLike}
use Rattle.psy_history.specs.Visible.{commit, committed_in, past, published, published_by}
use Rattle.psy_legal.proofs.Growth.{at_each_date}
use Rattle.psy_legal.proofs.LikeActions.{by_pairs, same_by}

-- ---- what an action sees

-- By variable, the values that an action sees that starts at a date
abbrev pub pasts_at : System → ℕ → List (List ℤ)
pasts_at s start = map (λ variable. map (past s (history s start) variable start) (range_with_len 0 (variable_of s variable).depth)) (range_with_len 0 (length s.unit.variables))

pub pasts_are : (s : System) (dates agent : ℕ) (r : Action) → Contains (history s dates agent) r → r.view.pasts ≡ pasts_at s r.start
pasts_are s = at_each_date s (λ date agent actions. (r : Action) → Contains actions r → r.view.pasts ≡ pasts_at s r.start) (λ agent r c. absurd (contains_none r c)) (λ date agent actions h. h) (λ date agent n before next at r c.
    elim (front_or_behind (action_of s (history s date) agent n) (history s date agent) r c) [
      | inl is ↦ subst (λ (q : Action). q.view.pasts ≡ pasts_at s q.start) is
          (ap (λ d. map (λ variable. map (past s (history s d) variable n.start) (range_with_len 0 (variable_of s variable).depth)) (range_with_len 0 (length s.unit.variables))) (sym at))
      | inr behind ↦ before agent r behind
    ])

-- ---- the two histories

module _ (unit : Whole) (code : Code) (nexts : List (List (List ℕ))) (stalls : ℕ → List Stall) (inputs : List (List ℤ)) where
  abbrev of_code : System
  of_code = coded unit code nexts stalls inputs

  abbrev of_stmts : System
  of_stmts = stated unit nexts stalls inputs

  committed_same : (variable by : ℕ) (rs qs : List Action) → AreLike rs qs → committed_in of_code variable by rs ≡ committed_in of_stmts variable by qs
  committed_same variable by = by_pairs (λ rs qs. committed_in of_code variable by rs ≡ committed_in of_stmts variable by qs) refl (λ r q rs qs one others rest.
      let earlier = committed_in of_stmts variable by qs in
      ap (λ value. commit variable by r.after value r.verdict) rest
      ∙ same_by (λ (x : Action). commit variable by x.after earlier x.verdict) r q one (λ o p. ap (commit variable by r.after earlier) o ∙ sym (ap (commit variable by q.after earlier) p)))

  module _ (like : (dates agent : ℕ) → AreLike (history of_code dates agent) (history of_stmts dates agent)) (dates : ℕ) where
    published_by_same : (variable date : ℕ) (owner : Option ℕ) → published_by of_code (history of_code dates) variable date owner ≡ published_by of_stmts (history of_stmts dates) variable date owner
    published_by_same variable date None = refl
    published_by_same variable date (Some owner) = committed_same variable date (history of_code dates owner) (history of_stmts dates owner) (like dates owner)

    pub published_same : (variable date : ℕ) → published of_code (history of_code dates) variable date ≡ published of_stmts (history of_stmts dates) variable date
    published_same variable date = published_by_same variable date (variable_of of_stmts variable).owner

    past_same : (variable start back : ℕ) → past of_code (history of_code dates) variable start back ≡ past of_stmts (history of_stmts dates) variable start back
    past_same variable start back =
        let clock = publishing of_stmts variable in
        ap (λ value. if nat_lt back (count clock start) then value else (variable_of of_stmts variable).init) (published_same variable (date clock (count clock start - 1 - back)))

    pub pasts_same : pasts_at of_code dates ≡ pasts_at of_stmts dates
    pasts_same =
        ap (λ (pasts : ℕ → ℕ → ℤ). map (λ variable. map (pasts variable) (range_with_len 0 (variable_of of_stmts variable).depth)) (range_with_len 0 (length unit.variables)))
        (fun_ext (λ variable. fun_ext (λ back. past_same variable dates back)))
