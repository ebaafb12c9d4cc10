-- What is kept of an agent's actions behind one date more.
use Rattle.std.proofs.Common.{◌≡◌, ◌≢◌, ◌∙◌, refl, sym, ap, subst, ℕ, suc, ◌+◌, ◌*◌, ◌<◌, ◌≤◌, ◌==◌, ◌&&◌, Bool, true, false, List, [], ◌∷◌, ◌++◌, Option, Some, None, map, length, get_or, reverse, append-nil, arith}
use Rattle.std.specs.Prelude.{if◌then◌else◌, slice_get}
use Rattle.std.specs.List.{All, Contains, flat_map, range_with_len}
use Rattle.std.proofs.lemmas.Bool.{eq-eqb, eqb-true, ltb-false, ne_eqb}
use Rattle.std.proofs.lemmas.List.{map-append, reverse-append}
use Rattle.std.proofs.lemmas.List.Elements.{All-cons, All-head, All-nil}
use Rattle.std.proofs.lemmas.Nat.{mul-le}
use Rattle.std.proofs.lemmas.Option.{none-some, same_Some, slice_get-get_or}
use Rattle.psy_lists.proofs.lemmas.Members.{contains_front}
use Rattle.psy_audit.specs.declared.said.Act.{Act}
use Rattle.psy_audit.specs.declared.said.Ending.TheVariants.{At, Unfinished}
use Rattle.psy_audit.specs.Traced.{act_of, ending_by, look_in, looks_of}
use Rattle.psy_base.specs.declared.sizes.Sizes.{Sizes}
use Rattle.psy_budget.specs.Charges.{cycle_of}
use Rattle.psy_code.specs.Views.{Looked as Sight}
use Rattle.psy_collect.specs.Collected.{AreActs, act_so_far, behind_first, doing_of}
use Rattle.psy_collect.specs.Keeping.{act_in, ended_by, has_started, last_in, no_seat, over_in}
use Rattle.psy_collect.proofs.Laws.{Earlier, Unstarted, Within}
use Rattle.psy_collect.proofs.Longer.{flat_reverse}
use Rattle.psy_collect.proofs.Rows.{all_more, row_more}
use Rattle.psy_collect.proofs.Turns.{agent_of}
use Rattle.psy_dates.specs.declared.seat.Phase.{Phase}
use Rattle.psy_dates.specs.declared.seat.Phase.TheVariants as phase
use Rattle.psy_dates.specs.declared.seat.Seat.{Seat}
use Rattle.psy_dates.specs.Standing.{SeatOf, SeatStands, phase_by}
use Rattle.psy_history.specs.Actions.{Action, Done, Next, Overran, System, Trapped, Verdict, is_done, is_silent, next_by, next_of}
use Rattle.psy_history.specs.History.{action_of, history, with_start}
use Rattle.psy_history.specs.Regular.{WereStarted, first_number}
use Rattle.psy_history.specs.Schedule.{Turn, cycle_of_unit, is_of, is_pending, units, work}
use Rattle.psy_history.specs.Scheduled.{IsFinished, IsSupplied, turns_by}

-- ---- phases

has_some : (date : ℕ) (silent pending done : Bool) → has_started date (phase_by silent pending done) date ≡ true
has_some date true pending done = eq-eqb date date refl
has_some date false true done = eq-eqb date date refl
has_some date false false true = eq-eqb date date refl
has_some date false false false = eq-eqb date date refl

has_none : (date start : ℕ) (at : Phase) → start ≢ date → has_started date at start ≡ false
has_none date start phase.Waiting other = refl
has_none date start phase.Acting other = ne_eqb start date other
has_none date start phase.Ended other = ne_eqb start date other
has_none date start phase.Stopped other = ne_eqb start date other
has_none date start phase.Silent other = ne_eqb start date other

-- ---- looks

-- What had no cycle had none of its units.
no_cycle : (agent number unit : ℕ) (turns : List (Option Turn)) → units agent number turns ≡ 0 → cycle_of_unit agent number unit turns ≡ None
no_cycle agent number unit [] none = refl
no_cycle agent number unit (turn ∷ turns) none = by (is_of agent number turn) refl (λ rest. no_cycle agent number unit turns rest)
  where
    by : (b : Bool) → is_of agent number turn ≡ b → (units agent number turns ≡ 0 → cycle_of_unit agent number unit turns ≡ None) → cycle_of_unit agent number unit (turn ∷ turns) ≡ None
    by true e before = absurd (let some : suc (units agent number turns) ≡ 0 = sym (ap (λ t. if t then suc (units agent number turns) else units agent number turns) e) ∙ none in omega (arith, some))
    by false e before =
        let rest : units agent number turns ≡ 0 = sym (ap (λ t. if t then suc (units agent number turns) else units agent number turns) e) ∙ none in
        ap (λ t. if t && units agent number turns == unit then Some (length turns) else cycle_of_unit agent number unit turns) e ∙ before rest

pub no_looks : (s : System) (sizes : Sizes) (turns : List (Option Turn)) (r : Action) → units r.agent r.number turns ≡ 0 → looks_of s sizes turns r ≡ []
no_looks s sizes turns r none = by r.deeds.looks
  where
    by : (looks : List Sight) → flat_map (λ (look : Sight). look_in s sizes r look (cycle_of_unit r.agent r.number (cycle_of (s.stalls r.agent) r.number look.number) turns)) looks ≡ []
    by [] = refl
    by (look ∷ looks) =
        ap (λ c. look_in s sizes r look c ++ flat_map (λ (l : Sight). look_in s sizes r l (cycle_of_unit r.agent r.number (cycle_of (s.stalls r.agent) r.number l.number) turns)) looks)
        (no_cycle r.agent r.number (cycle_of (s.stalls r.agent) r.number look.number) turns none)
        ∙ by looks

-- ---- what a date does to an agent

-- It starts an action behind those of before, or none.
pub data Course (s : System) (date agent : ℕ) : Type 0 where
  starts : (n : Next) → next_of s agent (history s date agent) ≡ Some n → n.start ≡ date → history s (date + 1) agent ≡ action_of s (history s date) agent n ∷ history s date agent → Course s date agent
  goes_on : history s (date + 1) agent ≡ history s date agent → Course s date agent

pub course : (s : System) (date agent : ℕ) → Course s date agent
course s date agent = by (next_of s agent (history s date agent)) refl
  where
    one : history s (date + 1) agent ≡ history s (suc date) agent
    one = ap (λ d. history s d agent) (let e : date + 1 ≡ suc date = omega arith in e)

    by : (next : Option Next) → next_of s agent (history s date agent) ≡ next → Course s date agent
    by None e = goes_on (one ∙ ap (with_start s (history s date) date agent (history s date agent)) e)
    by (Some n) e = on (n.start == date) refl
      where
        step : (b : Bool) → (n.start == date) ≡ b → history s (date + 1) agent ≡ (if b then action_of s (history s date) agent n ∷ history s date agent else history s date agent)
        step b t = one ∙ ap (with_start s (history s date) date agent (history s date agent)) e ∙ ap (λ c. if c then action_of s (history s date) agent n ∷ history s date agent else history s date agent) t

        on : (b : Bool) → (n.start == date) ≡ b → Course s date agent
        on true t = starts n e (eqb-true n.start date t) (step true t)
        on false t = goes_on (step false t)

module _ (s : System) (order : ℕ → List ℕ) (until : ℕ) (supplied : IsSupplied s order until) (earlier : Earlier) (within : Within) (unstarted : Unstarted) (date : ℕ) (early : date < until) where
  abbrev all : ℕ → List (Option Turn)
  all agent = turns_by s order (until * s.unit.quantum) agent

  abbrev now : ℕ → List (Option Turn)
  now agent = turns_by s order (date * s.unit.quantum) agent

  -- ---- an action that is over

  module _ (agent : ℕ) (r : Action) (before : List Action) (is : history s date agent ≡ r ∷ before) (n : Next) (next : next_of s agent (history s date agent) ≡ Some n) (at : n.start ≡ date)
      (later : history s (date + 1) agent ≡ action_of s (history s date) agent n ∷ history s date agent) where
    its_agent : r.agent ≡ agent
    its_agent = agent_of s supplied.lawful date agent r (subst (λ rs. Contains rs r) (sym is) (contains_front r before))

    over_by : (cycles : ℕ) → date * s.unit.quantum ≤ cycles → IsFinished s order cycles r
    over_by cycles low =
        All-head (IsFinished s order cycles) r before
        (subst (All (IsFinished s order cycles)) is
        (earlier s order until date cycles agent (action_of s (history s date) agent n) (history s date agent) supplied (omega (arith, early)) low later))

    low_end : date * s.unit.quantum ≤ until * s.unit.quantum
    low_end = mul-le date s.unit.quantum until s.unit.quantum (omega (arith, early)) (omega arith)

    few_by : (cycles : ℕ) → units r.agent r.number (turns_by s order cycles r.agent) ≤ work r
    few_by cycles = within s order date cycles agent r supplied.lawful supplied.quantum (subst (λ rs. Contains rs r) (sym is) (contains_front r before))

    all_work : (cycles : ℕ) → date * s.unit.quantum ≤ cycles → units r.agent r.number (turns_by s order cycles r.agent) ≡ work r
    all_work cycles low = (let most = few_by cycles in let least = ltb-false (units r.agent r.number (turns_by s order cycles r.agent)) (work r) (over_by cycles low) in omega (arith, most, least))

    ended_at : ending_by r.verdict ≡ At date
    ended_at = by r.verdict (sym (ap (next_of s agent) is) ∙ next)
      where
        by : (v : Verdict) → next_by r.number r.after v ≡ Some n → ending_by v ≡ At date
        by (Done point end) e = ap At (ap (λ (m : Next). m.start) (same_Some (record { number = r.number + 1; point = point; start = end; carried = r.after }) n e) ∙ at)
        by (Trapped kind) e = absurd (none-some n e)
        by Overran e = absurd (none-some n e)

    -- It is told as it was kept, ended at this date.
    over_is : record (act_so_far (now agent) r) { ending = At date } ≡ act_of (all agent) r
    over_is =
        let same_units : units r.agent r.number (now agent) ≡ units r.agent r.number (all agent) =
        subst (λ a. units r.agent r.number (now a) ≡ units r.agent r.number (all a)) its_agent (all_work (date * s.unit.quantum) (omega arith) ∙ sym (all_work (until * s.unit.quantum) low_end)) in
        let done : is_pending (all agent) r ≡ false = subst (λ a. is_pending (all a) r ≡ false) its_agent (over_by (until * s.unit.quantum) low_end) in
        ap (λ w. record { agent = r.agent; number = r.number; point = r.point; start = r.start; due = r.deadline; work = w; ending = At date }) same_units
        ∙ ap (λ e. record { agent = r.agent; number = r.number; point = r.point; start = r.start; due = r.deadline; work = units r.agent r.number (all agent); ending = e })
        (sym (ap (λ b. if b then Unfinished else ending_by r.verdict) done ∙ ended_at))

  -- ---- an action that starts

  module _ (agent : ℕ) (n : Next) (at : n.start ≡ date) (later : history s (date + 1) agent ≡ action_of s (history s date) agent n ∷ history s date agent) where
    abbrev fresh : Action
    fresh = action_of s (history s date) agent n

    number_is : n.number ≡ first_number s agent + length (history s date agent)
    number_is = (subst (WereStarted s (date + 1) agent) later (supplied.lawful.actions (date + 1) agent).were_started).0.number

    pub no_units : units fresh.agent fresh.number (now agent) ≡ 0
    no_units = unstarted s order date (date * s.unit.quantum) agent n.number supplied.lawful supplied.quantum (omega arith) (omega (arith, number_is))

  -- Those that started before did so at earlier dates.
  before_date : (agent : ℕ) (r : Action) (rest : List Action) → history s date agent ≡ r ∷ rest → r.start ≢ date
  before_date agent r rest is e =
      let was = (subst (WereStarted s date agent) is (supplied.lawful.actions date agent).were_started).0 in
      omega (arith, e, ap (λ (x : Action). x.start) was.made, was.at)

  -- ---- what is kept

  module _ (acts : List Act) (doing : List (Option Act)) (are : AreActs (length s.unit.agents) all now (history s date) acts doing)
      (seats : List Seat) (count : length seats ≡ length s.unit.agents) (seated : (agent : ℕ) (seat : Seat) → slice_get seats agent ≡ Some seat → SeatStands date (now agent) (history s (date + 1) agent) seat) where
    abbrev seat_of : ℕ → Seat
    seat_of agent = get_or seats agent no_seat

    stands : (agent : ℕ) → agent < length s.unit.agents → SeatStands date (now agent) (history s (date + 1) agent) (seat_of agent)
    stands agent less = seated agent (seat_of agent) (slice_get-get_or seats agent no_seat (omega (arith, less, count)))

    quiet : (agent : ℕ) → agent < length s.unit.agents → history s (date + 1) agent ≡ history s date agent → has_started date (seat_of agent).phase (seat_of agent).start ≡ false
    quiet agent less same = by (history s date agent) refl (subst (λ rs. SeatStands date (now agent) rs (seat_of agent)) same (stands agent less))
      where
        by : (actions : List Action) → history s date agent ≡ actions → SeatStands date (now agent) actions (seat_of agent) → has_started date (seat_of agent).phase (seat_of agent).start ≡ false
        by [] e waits = ap (λ a. has_started date a (seat_of agent).start) waits
        by (r ∷ rest) e sits = has_none date (seat_of agent).start (seat_of agent).phase (λ same. before_date agent r rest e (sym sits.start ∙ same))

    module _ (agent : ℕ) (less : agent < length s.unit.agents) (n : Next) (at : n.start ≡ date) (later : history s (date + 1) agent ≡ action_of s (history s date) agent n ∷ history s date agent) where
      sits : SeatOf date (now agent) (action_of s (history s date) agent n) (seat_of agent)
      sits = subst (λ rs. SeatStands date (now agent) rs (seat_of agent)) later (stands agent less)

      started : has_started date (seat_of agent).phase (seat_of agent).start ≡ true
      started =
          let r = action_of s (history s date) agent n in
          ap (λ k. has_started date (seat_of agent).phase k) (sits.start ∙ at) ∙ ap (λ a. has_started date a date) sits.phase
          ∙ has_some date (is_silent date (r ∷ [])) (is_pending (now agent) r) (is_done r.verdict)

      -- It is kept as it began.
      fresh_is : act_in agent (seat_of agent) ≡ act_so_far (now agent) (action_of s (history s date) agent n)
      fresh_is = λ i. record {
        agent = agent;
        number = sits.number i;
        point = sits.point i;
        start = sits.start i;
        due = sits.deadline i;
        work = sym (no_units agent n at later) i;
        ending = Unfinished;
      }

    -- By agent what is over, and what is its last action then
    over_row : (agent : ℕ) → agent < length s.unit.agents
        → map (act_of (all agent)) (reverse (behind_first (history s date agent))) ++ over_in doing seats date agent ≡ map (act_of (all agent)) (reverse (behind_first (history s (date + 1) agent)))
    over_row agent less = by (course s date agent)
      where
        by : Course s date agent → map (act_of (all agent)) (reverse (behind_first (history s date agent))) ++ over_in doing seats date agent ≡ map (act_of (all agent)) (reverse (behind_first (history s (date + 1) agent)))
        by (goes_on same) =
            ap (λ b. map (act_of (all agent)) (reverse (behind_first (history s date agent))) ++ (if b then ended_by (At date) (get_or doing agent None) else [])) (quiet agent less same)
            ∙ append-nil (map (act_of (all agent)) (reverse (behind_first (history s date agent)))) ∙ ap (λ rs. map (act_of (all agent)) (reverse (behind_first rs))) (sym same)
        by (starts n next at later) =
            ap (λ b. map (act_of (all agent)) (reverse (behind_first (history s date agent))) ++ (if b then ended_by (At date) (get_or doing agent None) else [])) (started agent less n at later)
            ∙ ap (λ o. map (act_of (all agent)) (reverse (behind_first (history s date agent))) ++ ended_by (At date) o) (are.last agent less)
            ∙ on (history s date agent) refl ∙ ap (λ rs. map (act_of (all agent)) (reverse (behind_first rs))) (sym later)
          where
            on : (actions : List Action) → history s date agent ≡ actions
                → map (act_of (all agent)) (reverse (behind_first actions)) ++ ended_by (At date) (doing_of (now agent) actions) ≡ map (act_of (all agent)) (reverse actions)
            on [] e = refl
            on (r ∷ before) e =
                ap (λ a. map (act_of (all agent)) (reverse before) ++ a ∷ []) (over_is agent r before e n next at later)
                ∙ sym (map-append (act_of (all agent)) (reverse before) (r ∷ [])) ∙ ap (map (act_of (all agent))) (sym (reverse-append (r ∷ []) before))

    last_row : (agent : ℕ) → agent < length s.unit.agents → last_in doing seats date agent ≡ doing_of (now agent) (history s (date + 1) agent)
    last_row agent less = by (course s date agent)
      where
        by : Course s date agent → last_in doing seats date agent ≡ doing_of (now agent) (history s (date + 1) agent)
        by (goes_on same) =
            ap (λ b. if b then Some (act_in agent (seat_of agent)) else get_or doing agent None) (quiet agent less same) ∙ are.last agent less ∙ ap (doing_of (now agent)) (sym same)
        by (starts n next at later) =
            ap (λ b. if b then Some (act_in agent (seat_of agent)) else get_or doing agent None) (started agent less n at later) ∙ ap Some (fresh_is agent less n at later)
            ∙ ap (doing_of (now agent)) (sym later)

    own : (agent : ℕ) → agent < length s.unit.agents → All (λ (a : Act). a.agent ≡ agent) (over_in doing seats date agent)
    own agent less = by (has_started date (seat_of agent).phase (seat_of agent).start) (get_or doing agent None) (are.last agent less)
      where
        kept : (o : Option Act) → o ≡ doing_of (now agent) (history s date agent) → All (λ (a : Act). a.agent ≡ agent) (ended_by (At date) o)
        kept None e = All-nil (λ (a : Act). a.agent ≡ agent)
        kept (Some a) e = All-cons (λ (x : Act). x.agent ≡ agent) (record a { ending = At date }) [] (on (history s date agent) refl e) (All-nil (λ (x : Act). x.agent ≡ agent))
          where
            on : (actions : List Action) → history s date agent ≡ actions → Some a ≡ doing_of (now agent) actions → a.agent ≡ agent
            on [] is same = absurd (none-some a (sym same))
            on (r ∷ before) is same =
                ap (λ (x : Act). x.agent) (same_Some a (act_so_far (now agent) r) same) ∙ agent_of s supplied.lawful date agent r (subst (λ rs. Contains rs r) (sym is) (contains_front r before))

        by : (b : Bool) (o : Option Act) → o ≡ doing_of (now agent) (history s date agent) → All (λ (a : Act). a.agent ≡ agent) (if b then ended_by (At date) o else [])
        by true o e = kept o e
        by false o e = All-nil (λ (a : Act). a.agent ≡ agent)

    -- What is kept of the actions behind the date
    pub acts_more : (last : List (Option Act)) → length last ≡ length doing → ((agent : ℕ) → agent < length seats → get_or last agent None ≡ last_in doing seats date agent)
        → AreActs (length s.unit.agents) all now (history s (date + 1)) (acts ++ flat_map (over_in doing seats date) (range_with_len 0 (length seats))) last
    acts_more last many each = subst (λ n. AreActs (length s.unit.agents) all now (history s (date + 1)) (acts ++ flat_map (over_in doing seats date) (range_with_len 0 n)) last) (sym count) (record {
      over = λ agent less.
          row_more (λ (a : Act). a.agent) (over_in doing seats date) (length s.unit.agents) own acts agent less ∙ ap (λ xs. xs ++ over_in doing seats date agent) (are.over agent less) ∙ over_row agent less;
      last = λ agent less. each agent (omega (arith, less, count)) ∙ last_row agent less;
      count = many ∙ are.count;
      known = all_more (λ (a : Act). a.agent) (over_in doing seats date) (length s.unit.agents) own acts are.known;
    })

  -- ---- looks

  -- Nothing more was looked at.
  pub looks_same : (sizes : Sizes) (agent : ℕ) → flat_map (looks_of s sizes (now agent)) (reverse (history s date agent)) ≡ flat_map (looks_of s sizes (now agent)) (reverse (history s (date + 1) agent))
  looks_same sizes agent = by (course s date agent)
    where
      by : Course s date agent → flat_map (looks_of s sizes (now agent)) (reverse (history s date agent)) ≡ flat_map (looks_of s sizes (now agent)) (reverse (history s (date + 1) agent))
      by (goes_on same) = ap (λ rs. flat_map (looks_of s sizes (now agent)) (reverse rs)) (sym same)
      by (starts n next at later) =
          let r = action_of s (history s date) agent n in
          sym (ap (λ rs. flat_map (looks_of s sizes (now agent)) (reverse rs)) later ∙ flat_reverse (looks_of s sizes (now agent)) r (history s date agent)
          ∙ ap (λ xs. flat_map (looks_of s sizes (now agent)) (reverse (history s date agent)) ++ xs) (no_looks s sizes (now agent) r (no_units agent n at later))
          ∙ append-nil (flat_map (looks_of s sizes (now agent)) (reverse (history s date agent))))
