-- What the code and the statements of a program begin with is the same, and so is what they leave at a date.
use Rattle.std.proofs.Common.{◌≡◌, ℕ, suc, ◌&&◌, not, Bool, List, ◌++◌, get_or, Option, Some, None, refl, ap, ap₂, ◌∙◌}
use Rattle.std.proofs.Math.Path.{fun_ext}
use Rattle.std.proofs.lemmas.Option.{slice_get_within}
use Rattle.std.specs.List.{range_with_len}
use Rattle.std.specs.Prelude.{ℤ, nat_le, slice_get}
use Rattle.psy_budget.specs.declared.charge.Stall.{Stall}
use Rattle.psy_code.specs.declared.code.Code.{Code}
use Rattle.psy_tree.specs.declared.unit.AgentDecl.{AgentDecl}
use Rattle.psy_tree.specs.declared.unit.Unit.{Unit as Whole}
use Rattle.psy_base.specs.Extremes.{least_of}
use Rattle.psy_history.specs.Actions.{Action, History, Opening, System, first_action, is_done, plain, rests, variable_of}
use Rattle.psy_history.specs.Compiled.{IsCompiled, coded_behind, stated_behind}
use Rattle.psy_history.specs.Executors.{Carried, by_code, by_statements}
use Rattle.psy_history.specs.History.{history}
use Rattle.psy_history.specs.Likeness.{AreLike}
use Rattle.psy_history.specs.Processors.{processor_at, served}
use Rattle.psy_history.specs.Resuming.{committed_at, opening_at}
use Rattle.psy_history.specs.Rings.{ring_of}
use Rattle.psy_history.specs.Schedule.{Turn}
use Rattle.psy_history.specs.Scheduled.{turns_by}
use Rattle.psy_history.specs.Summary.{added_to, due_by, least_slack, numbers_in, reach}
use Rattle.psy_history.specs.Visible.{past}
use Rattle.psy_history.proofs.LikeActions.{by_pairs, length_like, map_same}
use Rattle.psy_history.proofs.LikeHistories.{next_like}
use Rattle.psy_history.proofs.LikeLines.{held_same, most_held_same}
use Rattle.psy_history.proofs.LikeReaches.{reach_same}
use Rattle.psy_history.proofs.LikeSchedules.{due_like, slacks_same, turns_same}
use Rattle.psy_history.proofs.LikeViews.{committed_same, past_same}
use Rattle.psy_history.proofs.Reached.{reach_alike}
use Rattle.psy_history.proofs.Stores.{AreStoreLaws, first_carried}

-- ---- the plain opening

module _ (unit : Whole) (code : Code) (nexts : List (List (List ℕ))) (laws : AreStoreLaws unit code) (compiled : IsCompiled unit code nexts) where
  -- an agent carries the same into its first action
  starts_same : (agent : ℕ) (its : Option AgentDecl) → slice_get unit.agents agent ≡ its → (plain unit nexts (by_code code)).starts agent ≡ (plain unit nexts (by_statements unit)).starts agent
  starts_same agent None is = rw is refl
  starts_same agent (Some its) is =
      let first = first_carried unit code nexts laws compiled agent (slice_get_within unit.agents agent its is) in
      rw is (ap (λ (carried : Carried). Some (record (first_action unit nexts (by_statements unit) agent) { carried = carried })) first)

  -- So the plain opening is the same.
  pub plain_same : plain unit nexts (by_code code) ≡ plain unit nexts (by_statements unit)
  plain_same =
      let starts = fun_ext (λ agent. starts_same agent (slice_get unit.agents agent) refl) in
      ap (λ starts. record (plain unit nexts (by_statements unit)) { starts = starts }) starts

-- ---- what is left at a date

-- Two openings are the same where each part is.
same_parts : (x y : Opening) → x.dates ≡ y.dates → x.starts ≡ y.starts → x.silent ≡ y.silent → x.committed ≡ y.committed → x.published ≡ y.published → x.messages ≡ y.messages
    → x.count ≡ y.count → x.slack ≡ y.slack → x.reach ≡ y.reach → x.most ≡ y.most → x ≡ y
same_parts x y dates starts silent committed published messages count slack reached most =
    ap₂ (λ dates starts. record x { dates = dates; starts = starts }) dates starts
    ∙ ap₂ (λ silent committed. record x { dates = y.dates; starts = y.starts; silent = silent; committed = committed }) silent committed
    ∙ ap₂ (λ published messages. record y { published = published; messages = messages; count = x.count; slack = x.slack; reach = x.reach; most = x.most }) published messages
    ∙ ap₂ (λ count slack. record y { count = count; slack = slack; reach = x.reach; most = x.most }) count slack
    ∙ ap₂ (λ reached most. record y { reach = reached; most = most }) reached most

rests_same : (quiet : Bool) (date : ℕ) (rs qs : List Action) → AreLike rs qs → rests quiet date rs ≡ rests quiet date qs
rests_same quiet date = by_pairs (λ rs qs. rests quiet date rs ≡ rests quiet date qs) refl (λ r q rs qs one others rest.
    ap₂ (λ verdict deadline. not (is_done verdict) && nat_le deadline date) one.verdict one.deadline)

module _ (unit : Whole) (code : Code) (nexts : List (List (List ℕ))) (stalls : ℕ → List Stall) (inputs : List (List ℤ)) (opening : Opening) where
  abbrev of_code : System
  of_code = coded_behind unit code nexts stalls inputs opening

  abbrev of_stmts : System
  of_stmts = stated_behind unit nexts stalls inputs opening

  module _ (like : (dates agent : ℕ) → AreLike (history of_code dates agent) (history of_stmts dates agent)) (order : ℕ → List ℕ) (cycles : ℕ) where
    abbrev these : ℕ → List (Option Turn)
    these = turns_by of_code order cycles

    abbrev those : ℕ → List (Option Turn)
    those = turns_by of_stmts order cycles

    -- Cycles go to the same.
    pub turns_by_same : (agent : ℕ) → these agent ≡ those agent
    turns_by_same agent = turns_same (λ cycle. served unit (processor_at unit agent) (order cycle)) unit.quantum (history of_code) (history of_stmts) like cycles

    -- Rings are reached for as far back.
    pub reaches_same : (dates variable : ℕ) → reach of_code these (history of_code dates) variable ≡ reach of_stmts those (history of_stmts dates) variable
    reaches_same dates variable =
        reach_alike of_code these those (history of_code dates) variable turns_by_same
        ∙ reach_same unit code nexts stalls inputs opening (history of_code dates) order cycles dates variable (like dates)

    module _ (sizes : List ℕ) (date : ℕ) where
      abbrev h : History
      h = history of_code date

      abbrev k : History
      k = history of_stmts date

      committed_by : (variable : ℕ) (owner : Option ℕ) → committed_at of_code date variable owner ≡ committed_at of_stmts date variable owner
      committed_by variable None = refl
      committed_by variable (Some owner) = committed_same unit code nexts stalls inputs opening variable date (h owner) (k owner) (like date owner)

      due : (agent : ℕ) → AreLike (due_by date (h agent)) (due_by date (k agent))
      due agent = due_like date (h agent) (k agent) (like date agent)

      least_same : (agent : ℕ) → least_slack of_code (these agent) agent (due_by date (h agent)) ≡ least_slack of_stmts (those agent) agent (due_by date (k agent))
      least_same agent =
          ap (λ done. least_slack of_code done agent (due_by date (h agent))) (turns_by_same agent)
          ∙ ap (λ slacks. least_of (numbers_in (opening.slack agent) ++ slacks)) (slacks_same unit.quantum (those agent) (due_by date (h agent)) (due_by date (k agent)) (due agent))

      ring_same : (variable : ℕ) → ring_of of_code (suc date) variable (get_or sizes variable 0) ≡ ring_of of_stmts (suc date) variable (get_or sizes variable 0)
      ring_same variable =
          map_same (past of_code (history of_code (suc date)) variable date) (past of_stmts (history of_stmts (suc date)) variable date)
          (past_same unit code nexts stalls inputs opening (history of_code (suc date)) (history of_stmts (suc date)) (like (suc date)) variable date) (range_with_len 0 (get_or sizes variable 0))

      -- So they leave the same.
      pub left_same : opening_at of_code sizes these date ≡ opening_at of_stmts sizes those date
      left_same =
          same_parts (opening_at of_code sizes these date) (opening_at of_stmts sizes those date) refl
          (fun_ext (λ agent. next_like unit code nexts stalls inputs opening agent (h agent) (k agent) (like date agent)))
          (fun_ext (λ agent. rests_same (opening.silent agent) date (h agent) (k agent) (like date agent)))
          (fun_ext (λ variable. committed_by variable (variable_of of_stmts variable).owner))
          (fun_ext ring_same)
          (fun_ext (λ stream. held_same unit code nexts stalls inputs opening (history of_code (suc date)) (history of_stmts (suc date)) (like (suc date)) stream date))
          (fun_ext (λ agent. ap (added_to (opening.count agent)) (length_like (due_by date (h agent)) (due_by date (k agent)) (due agent))))
          (fun_ext least_same)
          (fun_ext (reaches_same date))
          (fun_ext (λ stream. most_held_same unit code nexts stalls inputs opening like date stream))
