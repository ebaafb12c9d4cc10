-- At a quiet date the actions that started before it are over.
use Rattle.std.proofs.Common.{◌≡◌, ℕ, ◌<◌, ◌≤◌, true, false, not, List, [], ◌∷◌, refl, sym, ap, ◌∙◌, subst, inl, inr, arith}
use Rattle.std.specs.Prelude.{nat_le, nat_lt}
use Rattle.std.specs.List.{All, Contains}
use Rattle.std.proofs.lemmas.Bool.{and_cases, and_parts, leb-true, lt-ltb, not-false, not-true}
use Rattle.std.proofs.lemmas.List.Elements.{All-contains}
use Rattle.psy_lists.proofs.lemmas.Members.{all_members, contains_front, contains_none, front_or_behind}
use Rattle.psy_history.specs.Actions.{Action, System, Done, is_done, is_silent}
use Rattle.psy_history.specs.History.{history}
use Rattle.psy_history.specs.Regular.{IsLawful, IsRegular}
use Rattle.psy_history.specs.Resuming.{IsQuiet, is_busy}
use Rattle.psy_history.proofs.Growth.{grown}
use Rattle.psy_history.proofs.LastActions.{EndedBy, done_before, ended_before}
use Rattle.psy_history.proofs.StartedActions.{start_below}

-- An action is over at a date: it was due by then, and where it reached a point, it did so by then.
record IsOver (date : ℕ) (r : Action) : Type 0 where
  due : r.deadline ≤ date
  ended : (point end : ℕ) → r.verdict ≡ Done point end → end ≤ date

-- Of a silent agent the last action is.
stopped_over : (date : ℕ) (r : Action) (before : List Action) → is_silent date (r ∷ before) ≡ true → IsOver date r
stopped_over date r before silent =
    let (stopped, due) = and_parts (not (is_done r.verdict)) (nat_le r.deadline date) silent in
    record {
      due = leb-true r.deadline date due;
      ended = λ point end done. (let no : true ≡ false = sym (ap is_done done) ∙ not-true (is_done r.verdict) stopped in absurd cc);
    }

module _ (s : System) (lawful : IsLawful s) (date : ℕ) (quiet : IsQuiet s date) where
  module _ (agent : ℕ) where
    abbrev actions : List Action
    actions = history s date agent

    -- so is one that reached a point by then
    done_over : (r : Action) → Contains actions r → EndedBy date r → IsOver date r
    done_over r there (point, end, is, early) =
        let regular = All-contains (IsRegular s agent) actions r (lawful.actions date agent).each there in
        record {
          due = omega (arith, early, (regular.ends point end is).2);
          ended = λ to by done. (let same : Done point end ≡ Done to by = sym is ∙ done in let at : end ≡ by = cc in omega (arith, at, early));
        }

    -- where none starts at the date, the last one isn't under way
    still_over : (its : List Action) → actions ≡ its → is_busy date its ≡ false → (x : Action) → Contains its x → IsOver date x
    still_over [] e still x c = absurd (contains_none x c)
    still_over (r ∷ before) e still x c = elim (front_or_behind r before x c) [
      | inl is ↦ subst (IsOver date) is (elim (and_cases (nat_lt r.start date) (not (is_silent date (r ∷ before))) still) [
        | inl late ↦ (let no : true ≡ false = sym (lt-ltb r.start date begun) ∙ late in absurd cc)
        | inr silent ↦ stopped_over date r before (not-false (is_silent date (r ∷ before)) silent)
      ])
      | inr behind ↦ (
          let (point, end, is, early) = ended_before s lawful date agent r before e x behind in
          done_over x (subst (λ xs. Contains xs x) (sym e) c) (point, end, is, omega (arith, early, begun)))
    ]
      where
        begun : r.start < date
        begun = start_below s lawful date agent r (subst (λ xs. Contains xs r) (sym e) (contains_front r before))

    -- and where one starts, all reached a point
    all_over : (x : Action) → Contains actions x → IsOver date x
    all_over x c = elim (grown s date agent) [
      | inl (same, other) ↦ still_over actions refl (sym (ap (is_busy date) same) ∙ quiet agent) x c
      | inr (n, next, at, more) ↦ (
          let are = lawful.actions date agent in
          let (point, end, is, early) = done_before s date agent actions are.were_started are.each n next x c in
          done_over x c (point, end, is, omega (arith, early, at)))
    ]

  -- They were due by the date.
  pub old_due : (agent : ℕ) → All (λ r. r.deadline ≤ date) (history s date agent)
  old_due agent = all_members (λ r. r.deadline ≤ date) (history s date agent) (λ r c. (all_over agent r c).due)

  -- Those that reached a point did so by the date.
  pub old_ended : (agent point end : ℕ) (r : Action) → Contains (history s date agent) r → r.verdict ≡ Done point end → end ≤ date
  old_ended agent point end r c done = (all_over agent r c).ended point end done
