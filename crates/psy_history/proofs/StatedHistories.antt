-- The history of a program's statements: at each date its agents go on with stores of their own, and what their actions took and sent is
-- of their texts.
use Rattle.std.proofs.Common.{◌≡◌, ℕ, ◌<◌, List, ◌∷◌, Some, refl, sym, ap, ◌∙◌, subst, arith}
use Rattle.std.specs.Prelude.{ℤ, FitsSigned, length, slice_get}
use Rattle.std.specs.Int.{w32}
use Rattle.std.specs.List.{All, Contains}
use Rattle.std.proofs.lemmas.List.Elements.{All-cons, All-nil}
use Rattle.std.proofs.lemmas.Option.{slice_get-get_or}
use Rattle.psy_base.specs.declared.message.Message.{Message}
use Rattle.psy_lists.proofs.lemmas.Members.{contains_map, get_or_holds}
use Rattle.psy_budget.specs.declared.charge.Stall.{Stall}
use Rattle.psy_code.specs.declared.look.Sent.{Sent}
use Rattle.psy_code.specs.Views.{View, nothing_done}
use Rattle.psy_tree.specs.declared.unit.AgentDecl.{AgentDecl}
use Rattle.psy_tree.specs.declared.unit.Unit.{Unit as Whole}
use Rattle.psy_history.specs.Actions.{Action, Next, System, Done, charge_of, next_by, next_of, timing}
use Rattle.psy_meaning.specs.Alike.{IsStoreOf, IsViewOf, begun, first_store}
use Rattle.psy_history.specs.Executors.{Acted, Reached, acted_by, by_statements, store_of}
use Rattle.psy_tree.specs.Parts.{agent_at}
use Rattle.psy_history.specs.History.{action_of, executed, history}
use Rattle.psy_meaning.specs.Kept.{IsKept, IsSentOf, Receives}
use Rattle.psy_meaning.specs.Sendings.{sendings_in}
use Rattle.psy_meaning.specs.Rest.{rest}
use Rattle.psy_meaning.specs.Sound.{IsSoundUnit}
use Rattle.psy_meaning.specs.States.{Final, Halts, State, Store}
use Rattle.psy_meaning.specs.States as by
use Rattle.psy_meaning.specs.Statements.{Piece, act}
use Rattle.psy_meaning.specs.Timing.{Timing, budget_at}
use Rattle.psy_history.specs.Visible.{seen_at, view_of}
use Rattle.psy_meaning.specs.Ways.{IsWay, Meter, Sending, met_by, sending_of}
use Rattle.psy_history.specs.Compiled.{AreInputs, stated}
use Rattle.psy_history.proofs.Cuts.{store_back}
use Rattle.psy_history.proofs.Growth.{at_each_date, next_done, opens_with}
use Rattle.psy_history.proofs.Seeing.{Fits, LeavesFit, MessageFits, sees, zero_fits}
use Rattle.psy_history.proofs.Starts.{done_of}
use Rattle.psy_history.proofs.Stores.{IsReady}

-- What the laws say of a unit of a text: its statements keep the stores of its agents, and their ways send what the texts hold.
pub record AreTextLaws (unit : Whole) : Type 0 where
  pub sound : IsSoundUnit unit
  pub keeps : (number : ℕ) (agent : AgentDecl) (point : ℕ) (store : Store) (view : View) → slice_get unit.agents number ≡ Some agent → point < length agent.points → IsStoreOf unit number agent store → IsViewOf unit number view
      → (final : Final) × (act unit.functions (rest agent.stmts point) (begun store view) ≡ Halts final) × IsKept unit number agent final
  pub first : (number : ℕ) (agent : AgentDecl) → slice_get unit.agents number ≡ Some agent → IsStoreOf unit number agent (first_store unit number agent)
  pub ways : (pieces : List Piece) (point : ℕ) (s t : State) → s.deeds ≡ nothing_done → act unit.functions pieces s ≡ Halts (by.Ended point t) → IsWay unit.functions pieces point (met_by t.deeds)
  pub sendings : (number : ℕ) (agent : AgentDecl) (from to : ℕ) (met : Meter) (sending : Sending) → slice_get unit.agents number ≡ Some agent → IsWay unit.functions (rest agent.stmts from) to met → Contains met.sends sending → Contains (sendings_in agent.stmts) sending

-- An action of an agent took from streams that the agent receives, and sent what its text holds.
pub record IsOfAgent (unit : Whole) (agent : ℕ) (r : Action) : Type 0 where
  pub takes : All (Receives unit agent) r.deeds.takes
  pub sends : (point end : ℕ) → r.verdict ≡ Done point end → (sent : Sent) → Contains r.deeds.sends sent → Contains (sendings_in (agent_at unit agent).stmts) (sending_of sent)

module _ (unit : Whole) (nexts : List (List (List ℕ))) (stalls : ℕ → List Stall) (inputs : List (List ℤ)) (laws : AreTextLaws unit) where
  abbrev system : System
  system = stated unit nexts stalls inputs

  -- The agent of a number that there is
  at : (agent : ℕ) → agent < length unit.agents → slice_get unit.agents agent ≡ Some (agent_at unit agent)
  at agent less = slice_get-get_or unit.agents agent _ less

  -- ---- one action

  module _ (agent : ℕ) (n : Next) (ready : IsReady unit agent n) (view : View) (seen : ℕ → List Message) (sees : IsViewOf unit agent view) where
    abbrev decl : AgentDecl
    decl = agent_at unit agent

    abbrev times : Timing
    times = timing system agent

    abbrev budget : ℕ
    budget = budget_at times n.point

    abbrev acted : Acted
    acted = system.executor.act agent n.point n.carried view budget

    abbrev r : Action
    r = executed system agent n view seen

    -- How its statements end, which keep the store.
    record Finishes : Type 0 where
      final : Final
      acts : act unit.functions (rest decl.stmts n.point) (begun (store_of decl n.carried) view) ≡ Halts final
      kept : IsKept unit agent decl final

    it : Finishes
    it =
        let store = ready.carries.store in
        let kept = laws.keeps agent decl n.point store view (at agent ready.less) ready.known ready.carries.holds sees in
        let back : store_of decl n.carried ≡ store = ap (store_of decl) ready.carries.is ∙ store_back unit agent decl store ready.carries.holds in
        record { final = kept.0; acts = ap (λ s. act unit.functions (rest decl.stmts n.point) (begun s view)) back ∙ kept.1; kept = kept.2 }

    -- What came of it
    came : acted ≡ acted_by budget n.carried (Halts it.final)
    came = ap (acted_by budget n.carried) it.acts

    takes_of : (f : Final) → IsKept unit agent decl f → All (Receives unit agent) (acted_by budget n.carried (Halts f)).deeds.takes
    takes_of (by.Ended p s) kept = kept.2.takes
    takes_of (by.Trapped kind s) kept = kept.1.takes

    reached_by : (f : Final) (to : ℕ) → (acted_by budget n.carried (Halts f)).fate ≡ Reached to → (s : State) × (f ≡ by.Ended to s)
    reached_by (by.Ended p s) to h = (s, cc)
    reached_by (by.Trapped kind s) to h = absurd cc

    -- Where it reached a point, its statements ended there.
    record Arrives (to : ℕ) : Type 0 where
      state : State
      acts : act unit.functions (rest decl.stmts n.point) (begun (store_of decl n.carried) view) ≡ Halts (by.Ended to state)
      kept : IsKept unit agent decl (by.Ended to state)
      came_of : acted ≡ acted_by budget n.carried (Halts (by.Ended to state))

    reached : (to : ℕ) → acted.fate ≡ Reached to → Arrives to
    reached to h =
        let (s, is) = reached_by it.final to (sym (ap (λ (a : Acted). a.fate) came) ∙ h) in
        record { state = s; acts = it.acts ∙ ap Halts is; kept = subst (IsKept unit agent decl) is it.kept; came_of = came ∙ ap (λ f. acted_by budget n.carried (Halts f)) is }

    done : (p e : ℕ) → r.verdict ≡ Done p e → Arrives p
    done p e h = reached p (done_of times n.start budget (charge_of system agent n.number acted.deeds.steps) acted.fate p e h).0

    of_text : IsOfAgent unit agent r
    of_text = record {
      takes = subst (λ (a : Acted). All (Receives unit agent) a.deeds.takes) (sym came) (takes_of it.final it.kept);
      sends = λ p e h sent c.
          let to = done p e h in
          let sends : acted.deeds.sends ≡ to.state.deeds.sends = ap (λ (a : Acted). a.deeds.sends) to.came_of in
          let way = laws.ways (rest decl.stmts n.point) p (begun (store_of decl n.carried) view) to.state refl to.acts in
          laws.sendings agent decl n.point p (met_by to.state.deeds) (sending_of sent) (at agent ready.less) way (contains_map sending_of to.state.deeds.sends sent (subst (λ xs. Contains xs sent) sends c));
    }

    leaves : LeavesFit unit r
    leaves = record {
      copies = λ p e h. (let to = done p e h in subst (λ (a : Acted). All (λ x. FitsSigned w32 x.value) a.carried.copies) (sym to.came_of) to.kept.1.copies);
      sends = λ p e h. (let to = done p e h in subst (λ (a : Acted). All (IsSentOf unit) a.deeds.sends) (sym to.came_of) to.kept.2.sends);
    }

    goes_on : (m : Next) → next_by r.number r.after r.verdict ≡ Some m → IsReady unit agent m
    goes_on m h =
        let (is, number, carried) = next_done r.number r.after r.verdict m h in
        let to = done m.point m.start is in
        record {
          less = ready.less;
          known = to.kept.0.1;
          carries = record { store = to.state.store; holds = to.kept.1; is = carried ∙ ap (λ (a : Acted). a.carried) to.came_of };
        }

  -- ---- date by date

  module _ (given : AreInputs unit inputs) where
    -- What is kept of the actions of an agent, and of where it goes on.
    record Keeps (agent : ℕ) (actions : List Action) : Type 0 where
      text : All (IsOfAgent unit agent) actions
      leave : All (LeavesFit unit) actions
      next : (n : Next) → next_of system agent actions ≡ Some n → IsReady unit agent n

    first_ready : (agent : ℕ) (n : Next) → system.opening.starts agent ≡ Some n → IsReady unit agent n
    first_ready agent n is =
        let decl = agent_at unit agent in
        let (less, first) = opens_with unit nexts (by_statements unit) stalls inputs agent n is in
        subst (IsReady unit agent) first (record {
          less = less;
          known = omega (arith, (laws.sound.agents agent decl (at agent less)).points);
          carries = record { store = first_store unit agent decl; holds = laws.first agent decl (at agent less); is = refl };
        })

    keeps_more : (date agent : ℕ) (n : Next) → ((agent : ℕ) → Keeps agent (history system date agent)) → next_of system agent (history system date agent) ≡ Some n → Keeps agent (action_of system (history system date) agent n ∷ history system date agent)
    keeps_more date agent n all is =
        let h = history system date in
        let r : Action = action_of system h agent n in
        let ready = (all agent).next n is in
        let seen = seen_at system h n.start in
        let view = view_of system h agent n.start seen in
        let fits = sees system (λ variable. get_or_holds (λ v. Fits v.init) unit.variables variable _ zero_fits laws.sound.values) (λ variable. All-nil Fits) (λ stream. All-nil MessageFits) given.values laws.sound.values h (λ a. (all a).leave) agent n.start in
        record {
          text = All-cons (IsOfAgent unit agent) r (h agent) (of_text agent n ready view seen fits) (all agent).text;
          leave = All-cons (LeavesFit unit) r (h agent) (leaves agent n ready view seen fits) (all agent).leave;
          next = goes_on agent n ready view seen fits;
        }

    keeps : (dates agent : ℕ) → Keeps agent (history system dates agent)
    keeps = at_each_date system (λ date. Keeps) (λ agent. record { text = All-nil (IsOfAgent unit agent); leave = All-nil (LeavesFit unit); next = first_ready agent }) (λ date agent actions kept. kept) (λ date agent n all is at. keeps_more date agent n all is)

    -- What each action took and sent is of its agent's text.
    pub all_of_text : (dates agent : ℕ) → All (IsOfAgent unit agent) (history system dates agent)
    all_of_text dates agent = (keeps dates agent).text

    -- The next action is that of an agent that there is.
    pub next_known : (date agent : ℕ) (n : Next) → next_of system agent (history system date agent) ≡ Some n → slice_get unit.agents agent ≡ Some (agent_at unit agent)
    next_known date agent n is = at agent ((keeps date agent).next n is).less

    -- What each action left are values of 32 bits.
    pub all_fit : (dates agent : ℕ) → All (LeavesFit unit) (history system dates agent)
    all_fit dates agent = (keeps dates agent).leave
