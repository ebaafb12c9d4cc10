-- The pending agents by deadline, once one is added or dropped.
use Rattle.std.proofs.Common.{◌≡◌, ℕ, ◌+◌, ◌<◌, ◌≤◌, List, length, set, get_or, Option, Some, None, sym, ap, ◌∙◌, subst, inl, inr, arith}
use Rattle.std.specs.Prelude.{◌≢◌}
use Rattle.std.proofs.lemmas.Bool.{cases_order, cases_lt, cases_eq}
use Rattle.std.proofs.lemmas.List.{get_or-set_same, get_or-set_other, get_or_past}
use Rattle.std.proofs.lemmas.List.Quantifiers.{all_pairs_remove}
use Rattle.std.proofs.lemmas.List.Sums.{sum_by-set}
use Rattle.std.specs.List.{Contains, insert, remove, sum_by}
use Rattle.std.specs.List.Sorted.{IsPartitionPoint}
use Rattle.psy_ready.specs.declared.ready.Pending.{Pending}
use Rattle.psy_ready.specs.Choice.{pending_deadline}
use Rattle.psy_ready.specs.Standing.{AreSorted, resting}
use Rattle.psy_ready.proofs.Edits.{all_insert, pairs_insert, contains_inserted, contains_insert, all_remove, contains_remove}

nobody : {d : ℕ} → None ≡ Some d → ⊥
nobody e = cc

same_deadline : {d e : ℕ} → Some d ≡ Some e → d ≡ e
same_deadline e = cc

module _ (deadlines : List (Option ℕ)) (sorted : List Pending) (is : AreSorted deadlines sorted) (agent : ℕ) (inside : agent < length deadlines) where
  -- the deadlines of others stay
  other_stays : (now : Option ℕ) (a : ℕ) → (a ≡ agent → ⊥) → pending_deadline (set deadlines agent now) a ≡ pending_deadline deadlines a
  other_stays now a apart = get_or-set_other deadlines agent a now None apart

  agent_changes : (now : Option ℕ) → pending_deadline (set deadlines agent now) agent ≡ now
  agent_changes now = get_or-set_same deadlines agent now None inside

  module _ (deadline place : ℕ) (free : pending_deadline deadlines agent ≡ None) (within : place ≤ length sorted)
      (point : IsPartitionPoint (λ (p : Pending). p.deadline ≤ deadline) (λ (p : Pending). deadline < p.deadline) sorted place) where
    abbrev added : Pending
    added = record { agent = agent; deadline = deadline }

    -- those that are pending are others
    apart : (k : ℕ) (d : Pending) → k < length sorted → (get_or sorted k d).agent ≢ agent
    apart k d less same = nobody (sym free ∙ sym (ap (pending_deadline deadlines) same) ∙ is.pending k d less)

    pub one_added : AreSorted (set deadlines agent (Some deadline)) (insert sorted place (record { agent = agent; deadline = deadline }))
    one_added =
        let now : List (Option ℕ) = set deadlines agent (Some deadline) in
        let then : List Pending = insert sorted place added in
        record {
          rise = pairs_insert sorted place added within (λ (p q : Pending). p.deadline ≤ q.deadline) is.rise (λ k d less. point.0 k d (omega arith) less)
              (λ k d more less. let later : deadline < (get_or sorted k d).deadline = point.1 k d more less in omega (arith, later));
          once = pairs_insert sorted place added within (λ (p q : Pending). p.agent ≢ q.agent) is.once (λ k d less. apart k d (omega (arith, less, within))) (λ k d _ less same. apart k d less (sym same));
          pending = all_insert sorted place added within (λ (p : Pending). pending_deadline now p.agent ≡ Some p.deadline)
              (λ k d less. other_stays (Some deadline) (get_or sorted k d).agent (apart k d less) ∙ is.pending k d less) (agent_changes (Some deadline));
          each = λ a d due. elim (cases_eq a agent) [
            | inl same ↦
                let here : d ≡ deadline = same_deadline (sym due ∙ ap (pending_deadline now) same ∙ agent_changes (Some deadline)) in
                subst (λ b. Contains then (record { agent = b; deadline = d })) (sym same) (subst (λ e. Contains then (record { agent = agent; deadline = e })) (sym here) (contains_inserted sorted place added within))
            | inr other ↦ contains_insert sorted place added within (record { agent = a; deadline = d }) (is.each a d (sym (other_stays (Some deadline) a other) ∙ due))
          ];
        }

  module _ (place : ℕ) (within : place < length sorted) (at : (d : Pending) → (get_or sorted place d).agent ≡ agent) where
    -- the agent stands there alone
    alone : (k : ℕ) (d : Pending) → k < length sorted → (get_or sorted k d).agent ≡ agent → k ≡ place
    alone k d less same = elim (cases_order k place) [
      | inl here ↦ here
      | inr other ↦ elim other [
        | inl first ↦ absurd (is.once k place d first within (same ∙ sym (at d)))
        | inr last ↦ absurd (is.once place k d last less (at d ∙ sym same))
      ]
    ]

    pub one_dropped : AreSorted (set deadlines agent None) (remove sorted place)
    one_dropped =
        let now : List (Option ℕ) = set deadlines agent None in
        record {
          rise = all_pairs_remove (λ (p q : Pending). p.deadline ≤ q.deadline) sorted place within is.rise;
          once = all_pairs_remove (λ (p q : Pending). p.agent ≢ q.agent) sorted place within is.once;
          pending = all_remove sorted place within (λ (p : Pending). pending_deadline now p.agent ≡ Some p.deadline)
              (λ k d less differs. other_stays None (get_or sorted k d).agent (λ same. differs (alone k d less same)) ∙ is.pending k d less);
          each = λ a d due.
              let x : Pending = record { agent = a; deadline = d } in
              let other : a ≡ agent → ⊥ = λ same. nobody (sym (agent_changes None) ∙ ap (pending_deadline now) (sym same) ∙ due) in
              let has : Contains sorted x = is.each a d (sym (other_stays None a other) ∙ due) in
              contains_remove sorted place within x has (λ same. other (sym (ap (λ (p : Pending). p.agent) has.2) ∙ ap (λ k. (get_or sorted k x).agent) same ∙ at x));
        }

-- An agent that becomes pending takes a place less of those that aren't.
pub fewer_rest : (deadlines : List (Option ℕ)) (agent deadline : ℕ) → agent < length deadlines → pending_deadline deadlines agent ≡ None → sum_by resting (set deadlines agent (Some deadline)) + 1 ≡ sum_by resting deadlines
fewer_rest deadlines agent deadline inside free = omega (arith, sum_by-set resting deadlines agent (Some deadline) None inside, ap resting free)

pub more_rest : (deadlines : List (Option ℕ)) (agent deadline : ℕ) → agent < length deadlines → pending_deadline deadlines agent ≡ Some deadline → sum_by resting (set deadlines agent None) ≡ sum_by resting deadlines + 1
more_rest deadlines agent deadline inside due = omega (arith, sum_by-set resting deadlines agent None None inside, ap resting due)

-- An agent with a deadline is one of those.
pub inside_where : (deadlines : List (Option ℕ)) (agent deadline : ℕ) → pending_deadline deadlines agent ≡ Some deadline → agent < length deadlines
inside_where deadlines agent deadline due = elim (cases_lt agent (length deadlines)) [ inl less ↦ less | inr past ↦ absurd (nobody (sym (get_or_past deadlines agent None past) ∙ due)) ]
