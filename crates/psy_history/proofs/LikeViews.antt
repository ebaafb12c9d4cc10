-- Histories that are alike show the same: what variables publish, the messages of streams, and what an action sees.
use Rattle.std.proofs.Common.{◌≡◌, ℕ, zero, suc, ◌+◌, ◌-◌, ◌&&◌, not, List, [], ◌∷◌, ◌++◌, length, Option, Some, None, refl, sym, ap, ◌∙◌}
use Rattle.std.proofs.Math.Path.{fun_ext}
use Rattle.std.specs.List.{filter, flat_map, list_any, range_with_len}
use Rattle.std.specs.Prelude.{ℤ, ◌==◌, if◌then◌else◌, map, nat_le, nat_lt}
use Rattle.psy_base.specs.declared.message.Message.{Message}
use Rattle.psy_budget.specs.declared.charge.Stall.{Stall}
use Rattle.psy_clock.specs.Dates.{count, date}
use Rattle.psy_code.specs.declared.code.Code.{Code}
use Rattle.psy_code.specs.declared.look.Sent.{Sent}
use Rattle.psy_tree.specs.declared.unit.Unit.{Unit as Whole}
use Rattle.psy_history.specs.Actions.{Action, History, Opening, System, Verdict, Done, is_done_by, publishing, stream_of, variable_of}
use Rattle.psy_history.specs.Visible.{commit, committed_in, in_order, is_in_view, is_untaken, is_same, message_of, messages, messages_by, messages_from, past, published, published_before, published_behind, published_by, seen_at, sent_to, taken, values_for, view_of}
use Rattle.psy_history.specs.Compiled.{coded_behind, stated_behind}
use Rattle.psy_history.specs.Likeness.{AreLike}
use Rattle.psy_history.proofs.LikeActions.{by_pairs, flat_map_like, flat_map_same, list_all_like, same_by}

-- ---- what a history leaves of a stream

pub left_same : (stream by : ℕ) (rs qs : List Action) (m : Message) → AreLike rs qs → is_untaken stream by rs m ≡ is_untaken stream by qs m
left_same stream by rs qs m like =
    let test = λ (r : Action). not (is_done_by by r.verdict && list_any (is_same m) (taken r stream)) in
    list_all_like test test (λ r q h. same_by test r q h (λ o p. ap (λ v. not (is_done_by by v && list_any (is_same m) (taken r stream))) o ∙ sym (ap (λ v. not (is_done_by by v && list_any (is_same m) (taken q stream))) p))) rs qs like

module _ (unit : Whole) (code : Code) (nexts : List (List (List ℕ))) (stalls : ℕ → List Stall) (inputs : List (List ℤ)) (opening : Opening) where
  abbrev of_code : System
  of_code = coded_behind unit code nexts stalls inputs opening

  abbrev of_stmts : System
  of_stmts = stated_behind unit nexts stalls inputs opening

  pub committed_same : (variable by : ℕ) (rs qs : List Action) → AreLike rs qs → committed_in of_code variable by rs ≡ committed_in of_stmts variable by qs
  committed_same variable by = by_pairs (λ rs qs. committed_in of_code variable by rs ≡ committed_in of_stmts variable by qs) refl (λ r q rs qs one others rest.
      let earlier = committed_in of_stmts variable by qs in
      ap (λ value. commit variable by r.after value r.verdict) rest
      ∙ same_by (λ (x : Action). commit variable by x.after earlier x.verdict) r q one (λ o p. ap (commit variable by r.after earlier) o ∙ sym (ap (commit variable by q.after earlier) p)))

  sends_same : (stream agent end number : ℕ) (sends : List Sent) → messages_from of_code stream agent end number sends ≡ messages_from of_stmts stream agent end number sends
  sends_same stream agent end number [] = refl
  sends_same stream agent end number (sent ∷ sends) = ap (λ rest. if sent.stream == stream then message_of of_stmts agent end number sent ∷ rest else rest) (sends_same stream agent end (number + 1) sends)

  messages_by_same : (stream agent : ℕ) (sends : List Sent) (verdict : Verdict) → messages_by of_code stream agent sends verdict ≡ messages_by of_stmts stream agent sends verdict
  messages_by_same stream agent sends (Done point end) = sends_same stream agent end 0 sends
  messages_by_same stream agent sends verdict = refl

  module _ (h k : History) (like : (agent : ℕ) → AreLike (h agent) (k agent)) where
    published_by_same : (variable date : ℕ) (owner : Option ℕ) → published_by of_code h variable date owner ≡ published_by of_stmts k variable date owner
    published_by_same variable date None = refl
    published_by_same variable date (Some owner) = committed_same variable date (h owner) (k owner) (like owner)

    published_behind_same : (dates variable date : ℕ) → published_behind dates of_code h variable date ≡ published_behind dates of_stmts k variable date
    published_behind_same zero variable date = published_by_same variable date (variable_of of_stmts variable).owner
    published_behind_same (suc last) variable date =
        ap (λ value. if nat_le date last then published_before of_stmts last variable date else value) (published_by_same variable date (variable_of of_stmts variable).owner)

    pub published_same : (variable date : ℕ) → published of_code h variable date ≡ published of_stmts k variable date
    published_same variable date = published_behind_same opening.dates variable date

    pub past_same : (variable start back : ℕ) → past of_code h variable start back ≡ past of_stmts k variable start back
    past_same variable start back =
        let clock = publishing of_stmts variable in
        ap (λ value. if nat_lt back (count clock start) then value else (variable_of of_stmts variable).init) (published_same variable (date clock (count clock start - 1 - back)))

    sent_same : (stream : ℕ) → sent_to of_code h stream ≡ sent_to of_stmts k stream
    sent_same stream =
        ap (λ sent. opening.messages stream ++ sent) (flat_map_same (λ agent. flat_map (λ (r : Action). messages_by of_code stream r.agent r.deeds.sends r.verdict) (h agent)) (λ agent. flat_map (λ (r : Action). messages_by of_stmts stream r.agent r.deeds.sends r.verdict) (k agent))
        (λ agent.
        flat_map_like (λ (r : Action). messages_by of_code stream r.agent r.deeds.sends r.verdict) (λ (r : Action). messages_by of_stmts stream r.agent r.deeds.sends r.verdict) (h agent) (k agent)
        (λ r q there l.
        messages_by_same stream r.agent r.deeds.sends r.verdict
        ∙ same_by (λ (x : Action). messages_by of_stmts stream x.agent x.deeds.sends x.verdict) r q l (λ o p. ap (messages_by of_stmts stream r.agent r.deeds.sends) o ∙ sym (ap (messages_by of_stmts stream q.agent q.deeds.sends) p)))
        (like agent))
        (range_with_len 0 (length unit.agents)))

    pub messages_same : (stream : ℕ) → messages of_code h stream ≡ messages of_stmts k stream
    messages_same stream = ap in_order (sent_same stream)

    pub seen_same : (date : ℕ) → seen_at of_code h date ≡ seen_at of_stmts k date
    seen_same date = fun_ext (λ stream.
        let receiver = (stream_of of_stmts stream).receiver in
        ap (λ seen. filter (is_in_view stream date (h receiver)) seen) (messages_same stream)
        ∙ ap (λ test. filter test (messages of_stmts k stream)) (fun_ext (λ m. ap (λ left. nat_le m.entry date && (nat_le m.visible date && (nat_lt date m.expiry && left))) (left_same stream date (h receiver) (k receiver) m (like receiver)))))

    pub view_same : (agent start : ℕ) → view_of of_code h agent start (seen_at of_code h start) ≡ view_of of_stmts k agent start (seen_at of_stmts k start)
    view_same agent start =
        ap (λ (seen : ℕ → List Message). view_of of_code h agent start seen) (seen_same start)
        ∙ ap (λ (pasts : ℕ → ℕ → ℤ). record {
          pasts = map (λ variable. map (pasts variable) (range_with_len 0 (variable_of of_stmts variable).depth)) (range_with_len 0 (length unit.variables));
          messages = map (values_for of_stmts (seen_at of_stmts k start) agent) (range_with_len 0 (length unit.streams));
        }) (fun_ext (λ variable. fun_ext (λ back. past_same variable start back)))
