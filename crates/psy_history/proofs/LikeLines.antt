-- Histories that are alike tell the same: their lines, and how many messages each stream held.
use Rattle.std.proofs.Common.{◌≡◌, ℕ, ◌+◌, ◌&&◌, not, Bool, List, [], ◌∷◌, ◌++◌, length, map, Option, Some, None, refl, ap, ap₂, ◌∙◌}
use Rattle.std.proofs.Math.Path.{fun_ext}
use Rattle.std.specs.List.{filter, range_with_len}
use Rattle.std.specs.Prelude.{ℤ, ◌==◌, if◌then◌else◌, nat_le}
use Rattle.psy_base.specs.declared.message.Message.{Message}
use Rattle.psy_budget.specs.declared.charge.Stall.{Stall}
use Rattle.psy_code.specs.declared.code.Code.{Code}
use Rattle.psy_tree.specs.declared.unit.Unit.{Unit as Whole}
use Rattle.psy_history.specs.Actions.{Action, History, Opening, System, is_done, is_silent, publishing, stream_of, variable_of}
use Rattle.psy_history.specs.History.{history}
use Rattle.psy_history.specs.Lines.{Publish, Show, events, events_in, is_date, publications, publications_by, shows, stops_by, stops_of}
use Rattle.psy_history.specs.Summary.{at_least, dates_from, most_held}
use Rattle.psy_base.specs.Extremes.{most_of}
use Rattle.psy_history.specs.Visible.{held, is_fresh, is_held, messages, swept}
use Rattle.psy_history.specs.Compiled.{coded_behind, stated_behind}
use Rattle.psy_history.specs.Likeness.{AreLike}
use Rattle.psy_history.proofs.LikeActions.{by_pairs, flat_map_like, flat_map_same, map_same}
use Rattle.psy_history.proofs.LikeViews.{left_same, messages_same, published_same}

stops_same : (date : ℕ) (rs qs : List Action) → AreLike rs qs → stops_of date rs ≡ stops_of date qs
stops_same date rs qs like =
    let stops = λ (r : Action). if r.deadline == date then stops_by r.agent r.verdict else [] in
    flat_map_like stops stops rs qs (λ r q there h. ap (λ deadline. if deadline == date then stops_by r.agent r.verdict else []) h.deadline ∙ ap₂ (λ agent verdict. if q.deadline == date then stops_by agent verdict else []) h.agent h.verdict) like

swept_same : (quiet : Bool) (date : ℕ) (rs qs : List Action) → AreLike rs qs → swept quiet date rs ≡ swept quiet date qs
swept_same quiet date = by_pairs (λ rs qs. swept quiet date rs ≡ swept quiet date qs) refl (λ r q rs qs one others rest.
    ap₂ (λ verdict deadline. Some (if not (is_done verdict) && nat_le deadline date then date else r.start)) one.verdict one.deadline
    ∙ ap (λ start. Some (if is_silent date (q ∷ qs) then date else start)) one.start)

module _ (unit : Whole) (code : Code) (nexts : List (List (List ℕ))) (stalls : ℕ → List Stall) (inputs : List (List ℤ)) (opening : Opening) where
  abbrev of_code : System
  of_code = coded_behind unit code nexts stalls inputs opening

  abbrev of_stmts : System
  of_stmts = stated_behind unit nexts stalls inputs opening

  module _ (h k : History) (like : (agent : ℕ) → AreLike (h agent) (k agent)) where
    publications_by_same : (date variable : ℕ) (owner : Option ℕ) → publications_by of_code h date variable owner ≡ publications_by of_stmts k date variable owner
    publications_by_same date variable None = refl
    publications_by_same date variable (Some owner) = ap (λ value. if is_date (publishing of_stmts variable) date then Publish variable value ∷ [] else []) (published_same unit code nexts stalls inputs opening h k like variable date)

    shows_same : (date stream : ℕ) → shows of_code h date stream ≡ shows of_stmts k date stream
    shows_same date stream = ap (λ ms. map (λ (m : Message). Show stream m.value) (filter (λ (m : Message). m.visible == date) ms)) (messages_same unit code nexts stalls inputs opening h k like stream)

    events_in_same : (date : ℕ) → events_in of_code h date ≡ events_in of_stmts k date
    events_in_same date =
        ap₂ (λ stops rest. stops ++ rest) (flat_map_same (λ agent. stops_of date (h agent)) (λ agent. stops_of date (k agent)) (λ agent. stops_same date (h agent) (k agent) (like agent)) (range_with_len 0 (length unit.agents)))
        (ap₂ (λ published shown. published ++ shown)
        (flat_map_same (publications of_code h date) (publications of_stmts k date) (λ variable. publications_by_same date variable (variable_of of_stmts variable).owner) (range_with_len 0 (length unit.variables)))
        (flat_map_same (shows of_code h date) (shows of_stmts k date) (shows_same date) (range_with_len 0 (length unit.streams))))

    pub held_same : (stream date : ℕ) → held of_code h stream date ≡ held of_stmts k stream date
    held_same stream date =
        let receiver = (stream_of of_stmts stream).receiver in
        let quiet : Bool = opening.silent receiver in
        ap (λ ms. filter (is_held quiet stream date (h receiver)) ms) (messages_same unit code nexts stalls inputs opening h k like stream)
        ∙ ap (λ test. filter test (messages of_stmts k stream))
        (fun_ext (λ m. ap₂ (λ left sweep. nat_le m.entry date && (left && is_fresh sweep m)) (left_same stream date (h receiver) (k receiver) m (like receiver)) (swept_same quiet date (h receiver) (k receiver) (like receiver))))

  module _ (like : (dates agent : ℕ) → AreLike (history of_code dates agent) (history of_stmts dates agent)) where
    pub events_same : (date : ℕ) → events of_code date ≡ events of_stmts date
    events_same date = events_in_same (history of_code (date + 1)) (history of_stmts (date + 1)) (like (date + 1)) date

    pub most_held_same : (until stream : ℕ) → most_held of_code until stream ≡ most_held of_stmts until stream
    most_held_same until stream =
        ap (λ numbers. at_least (opening.most stream) (most_of numbers)) (map_same (λ date. length (held of_code (history of_code (date + 1)) stream date)) (λ date. length (held of_stmts (history of_stmts (date + 1)) stream date))
        (λ date. ap length (held_same (history of_code (date + 1)) (history of_stmts (date + 1)) (like (date + 1)) stream date)) (dates_from opening.dates (until + 1)))
