-- What a run tells can be told: its names are words, and its numbers have the bits of their places.
use Rattle.std.proofs.Common.{◌≡◌, refl, sym, subst, ℕ, zero, suc, ◌+◌, ◌*◌, ◌^◌, ◌<◌, ◌≤◌, ◌==◌, if◌then◌else◌, List, [], ◌∷◌, ◌++◌, All, length, map, get_or, Option, Some, None, arith, mul-le-mul_right}
use Rattle.std.specs.Prelude.{FitsSigned, filter, nat_le}
use Rattle.std.specs.Int.{w32}
use Rattle.std.specs.List.{AllByRecursion, flat_map, range_with_len}
use Rattle.std.proofs.lemmas.Bool.{cond_both, leb-true}
use Rattle.std.proofs.lemmas.List.Elements.{All-filter, All-map, recursion_from_All}
use Rattle.psy_base.specs.declared.limits.TheConstants.{QUEUE, RING, RUN, UNTIL}
use Rattle.psy_base.specs.declared.message.Message.{Message}
use Rattle.psy_base.specs.declared.sizes.Sizes.{Sizes}
use Rattle.psy_lists.proofs.lemmas.Searches.{filter_less}
use Rattle.psy_text.specs.Fronts.{IsName}
use Rattle.psy_history.specs.Actions.{Action, Done, History, Next, Overran, System, Trapped, Verdict, next_of, publishing, stream_of, variable_of}
use Rattle.psy_meaning.specs.BufferSizes.{AreSizes}
use Rattle.psy_meaning.specs.KnownWays.{OfText}
use Rattle.psy_tree.specs.Parts.{agent_at}
use Rattle.psy_history.specs.History.{action_of, history, with_start}
use Rattle.psy_history.specs.Lines.{Publish, Show, events, is_date, publications, publications_by, shows, stops_by, stops_of}
use Rattle.psy_history.specs.Schedule.{Turn}
use Rattle.psy_history.specs.Summary.{added_to, due_by, most_held, numbers_in, reach, slack_of}
use Rattle.psy_base.specs.Extremes.{least_of, lesser}
use Rattle.psy_meaning.specs.Units.{IsBare}
use Rattle.psy_history.specs.Visible.{messages, published}
use Rattle.psy_notes.specs.Notes.{IsLong, IsShort, OrNone}
use Rattle.psy_agree.proofs.RunNotes.{IsTellable, IsTellableRun}

-- ---- lists

all_append : {X : Type 0} (P : X → Type 0) (xs ys : List X) → AllByRecursion P xs → AllByRecursion P ys → AllByRecursion P (xs ++ ys)
all_append P [] ys all more = more
all_append P (x ∷ xs) ys all more = (all.0, all_append P xs ys all.1 more)

-- What is made of the numbers from one on, many of each
all_made : {X : Type 0} (P : X → Type 0) (f : ℕ → List X) (first n below : ℕ) → first + n ≤ below → ((k : ℕ) → k < below → AllByRecursion P (f k)) → AllByRecursion P (flat_map f (range_with_len first n))
all_made P f first zero below within each = tt
all_made P f first (suc n) below within each =
    all_append P (f first) (flat_map f (range_with_len (first + 1) n)) (each first (omega (arith, within))) (all_made P f (first + 1) n below (omega (arith, within)) each)

-- ---- histories

module _ (s : System) where
  -- An action is its agent's
  with_own : (h : History) (date agent : ℕ) (actions : List Action) (next : Option Next) → AllByRecursion (λ (r : Action). r.agent ≡ agent) actions → AllByRecursion (λ (r : Action). r.agent ≡ agent) (with_start s h date agent actions next)
  with_own h date agent actions None own = own
  with_own h date agent actions (Some n) own =
      cond_both (n.start == date) (action_of s h agent n ∷ actions) actions (AllByRecursion (λ (r : Action). r.agent ≡ agent)) (λ t. (refl, own)) (λ t. own)

  all_own : (dates agent : ℕ) → AllByRecursion (λ (r : Action). r.agent ≡ agent) (history s dates agent)
  all_own zero agent = tt
  all_own (suc date) agent = with_own (history s date) date agent (history s date agent) (next_of s agent (history s date agent)) (all_own date agent)

  -- There are no more than dates
  with_few : (h : History) (date agent : ℕ) (actions : List Action) (next : Option Next) → length (with_start s h date agent actions next) ≤ suc (length actions)
  with_few h date agent actions None = omega arith
  with_few h date agent actions (Some n) =
      cond_both (n.start == date) (action_of s h agent n ∷ actions) actions (λ rs. length rs ≤ suc (length actions)) (λ t. omega arith) (λ t. omega arith)

  few_actions : (dates agent : ℕ) → length (history s dates agent) ≤ dates
  few_actions zero agent = omega arith
  few_actions (suc date) agent =
      omega (arith, with_few (history s date) date agent (history s date agent) (next_of s agent (history s date agent)), few_actions date agent)

-- ---- events

module _ (s : System) where
  stop_tellable : (agent : ℕ) (verdict : Verdict) → IsName (agent_at s.unit agent).name → AllByRecursion (IsTellable s) (stops_by agent verdict)
  stop_tellable agent (Done point end) named = tt
  stop_tellable agent (Trapped kind) named = (named, tt)
  stop_tellable agent Overran named = (named, tt)

  stops_tellable : (date agent : ℕ) (actions : List Action) → IsName (agent_at s.unit agent).name → AllByRecursion (λ (r : Action). r.agent ≡ agent) actions → AllByRecursion (IsTellable s) (stops_of date actions)
  stops_tellable date agent [] named own = tt
  stops_tellable date agent (r ∷ actions) named own =
      let here = stop_tellable r.agent r.verdict (subst (λ a. IsName (agent_at s.unit a).name) (sym own.0) named) in
      all_append (IsTellable s) (if r.deadline == date then stops_by r.agent r.verdict else []) (stops_of date actions)
      (cond_both (r.deadline == date) (stops_by r.agent r.verdict) [] (AllByRecursion (IsTellable s)) (λ t. here) (λ t. tt)) (stops_tellable date agent actions named own.1)

  publication_tellable : (h : History) (date variable : ℕ) (owner : Option ℕ) → IsName (variable_of s variable).name → FitsSigned w32 (published s h variable date) → AllByRecursion (IsTellable s) (publications_by s h date variable owner)
  publication_tellable h date variable None named fits = tt
  publication_tellable h date variable (Some owner) named fits =
      cond_both (is_date (publishing s variable) date) (Publish variable (published s h variable date) ∷ []) [] (AllByRecursion (IsTellable s)) (λ t. ((named, fits), tt)) (λ t. tt)

  shows_tellable : (h : History) (date stream : ℕ) → IsName (stream_of s stream).name → All (λ (m : Message). FitsSigned w32 m.value) (messages s h stream) → AllByRecursion (IsTellable s) (shows s h date stream)
  shows_tellable h date stream named fits =
      let shown = filter (λ (m : Message). m.visible == date) (messages s h stream) in
      let all : All (λ (m : Message). FitsSigned w32 m.value) shown = All-filter _ (λ (m : Message). FitsSigned w32 m.value) (messages s h stream) fits in
      recursion_from_All (IsTellable s) (map (λ (m : Message). Show stream m.value) shown)
      (All-map (IsTellable s) (λ (m : Message). Show stream m.value) shown (λ k d less. (named, all k d less)))

-- What the program of a run declares: names that are words
pub record HasNames (s : System) : Type 0 where
  pub agents : (agent : ℕ) → agent < length s.unit.agents → IsName (agent_at s.unit agent).name
  pub variables : (variable : ℕ) → variable < length s.unit.variables → IsName (variable_of s variable).name
  pub streams : (stream : ℕ) → stream < length s.unit.streams → IsName (stream_of s stream).name

pub has_names : (s : System) → IsBare s.unit → HasNames s
has_names s bare = record {
  agents = λ agent less. (bare.agents agent _ less).name;
  variables = λ variable less. (bare.variables variable _ less).name;
  streams = λ stream less. (bare.streams stream _ less).name;
}

-- What it publishes and sends: values of 32 bits
pub record HasValues (s : System) : Type 0 where
  pub published_fit : (dates variable date : ℕ) → FitsSigned w32 (published s (history s dates) variable date)
  pub messages_fit : (dates stream : ℕ) → All (λ (m : Message). FitsSigned w32 m.value) (messages s (history s dates) stream)

-- Nothing was done before, and no action was counted.
pub record IsPlain (s : System) : Type 0 where
  pub whole : s.opening.dates ≡ 0
  pub count : (agent : ℕ) → s.opening.count agent ≡ 0
  pub slack : (agent : ℕ) → s.opening.slack agent ≡ None

events_tellable : (s : System) → HasNames s → HasValues s → (date : ℕ) → AllByRecursion (IsTellable s) (events s date)
events_tellable s names values date =
    let h = history s (date + 1) in
    let agents = length s.unit.agents in
    let variables = length s.unit.variables in
    let streams = length s.unit.streams in
    all_append (IsTellable s) (flat_map (λ agent. stops_of date (h agent)) (range_with_len 0 agents)) _
    (all_made (IsTellable s) (λ agent. stops_of date (h agent)) 0 agents agents (omega arith) (λ k less. stops_tellable s date k (h k) (names.agents k less) (all_own s (date + 1) k)))
    (all_append (IsTellable s) (flat_map (publications s h date) (range_with_len 0 variables)) (flat_map (shows s h date) (range_with_len 0 streams))
    (all_made (IsTellable s) (publications s h date) 0 variables variables (omega arith)
    (λ k less. publication_tellable s h date k (variable_of s k).owner (names.variables k less) (values.published_fit (date + 1) k date)))
    (all_made (IsTellable s) (shows s h date) 0 streams streams (omega arith) (λ k less. shows_tellable s h date k (names.streams k less) (values.messages_fit (date + 1) k))))

-- ---- the summary

least_long : (numbers : List ℕ) → AllByRecursion IsLong numbers → OrNone IsLong (least_of numbers)
least_long [] all = tt
least_long (n ∷ numbers) all = lesser_long n (least_of numbers) all.0 (least_long numbers all.1)
  where
    lesser_long : (n : ℕ) (o : Option ℕ) → IsLong n → OrNone IsLong o → OrNone IsLong (lesser n o)
    lesser_long n None small rest = small
    lesser_long n (Some m) small rest = omega (arith, small, rest)

-- The slack of actions that are due by a date whose cycles are no more than a run may have
slacks_long : (quantum until : ℕ) (turns : List (Option Turn)) (actions : List Action) → until * quantum ≤ RUN → AllByRecursion IsLong (map (slack_of quantum turns) (due_by until actions))
slacks_long quantum until turns [] paced = tt
slacks_long quantum until turns (r ∷ actions) paced =
    let rest = slacks_long quantum until turns actions paced in
    cond_both (nat_le r.deadline until) (r ∷ due_by until actions) (due_by until actions) (λ rs. AllByRecursion IsLong (map (slack_of quantum turns) rs))
    (λ t. (let product : r.deadline * quantum ≤ until * quantum = mul-le-mul_right quantum (leb-true r.deadline until t) in omega (arith, product, paced), rest)) (λ t. rest)

-- What is below a size is short where the size is.
short_below : (size : ℕ) (o : Option ℕ) → size < 2 ^ 32 → ((n : ℕ) → o ≡ Some n → n < size) → OrNone IsShort o
short_below size None small below = tt
short_below size (Some n) small below = omega (arith, small, below n refl)

module _ (s : System) (turns : ℕ → List (Option Turn)) (sizes : Sizes) (until : ℕ) (bare : IsBare s.unit) (buffers : AreSizes s.unit (OfText s.unit) s.nexts sizes) (values : HasValues s) (plain : IsPlain s) (most : until ≤ UNTIL) (paced : until * s.unit.quantum ≤ RUN)
    (rings : (variable n : ℕ) → variable < length s.unit.variables → reach s turns (history s (until + 1)) variable ≡ Some n → n < get_or sizes.rings variable 0)
    (queues : (stream : ℕ) → stream < length s.unit.streams → most_held s until stream ≤ get_or sizes.queues stream 0) where
  ring_short : (variable : ℕ) → variable < length s.unit.variables → IsShort (get_or sizes.rings variable 0)
  ring_short variable less = let small : get_or sizes.rings variable 0 ≤ RING = buffers.small_rings variable 0 (omega (arith, less, buffers.rings.count)) in omega (arith, small)

  queue_short : (stream : ℕ) → stream < length s.unit.streams → IsShort (get_or sizes.queues stream 0)
  queue_short stream less = let small : get_or sizes.queues stream 0 ≤ QUEUE = buffers.small_queues stream 0 (omega (arith, less, buffers.queues.count)) in omega (arith, small)

  pub run_tellable : IsTellableRun s turns sizes until
  run_tellable =
      let names = has_names s bare in
      record {
        whole = plain.whole;
        most = most;
        events_told = λ date within. events_tellable s names values date;
        few_agents = bare.agent_limit;
        few_variables = bare.variable_limit;
        few_streams = bare.stream_limit;
        agents = names.agents;
        variables = names.variables;
        streams = names.streams;
        counts = λ agent. (let actions = history s (until + 1) agent in
            let few : length (due_by until actions) < 2 ^ 64 = omega (arith, filter_less (λ (r : Action). nat_le r.deadline until) actions, few_actions s (until + 1) agent, most) in
            subst (λ n. IsLong (added_to n (length (due_by until actions)))) (sym (plain.count agent)) few);
        slacks = λ agent. (let due = due_by until (history s (until + 1) agent) in
            let slacks = map (slack_of s.unit.quantum (turns agent)) due in
            subst (λ o. OrNone IsLong (least_of (numbers_in o ++ slacks))) (sym (plain.slack agent)) (least_long slacks (slacks_long s.unit.quantum until (turns agent) (history s (until + 1) agent) paced)));
        rings = ring_short;
        reaches = λ variable less. short_below (get_or sizes.rings variable 0) (reach s turns (history s (until + 1)) variable) (ring_short variable less) (λ n far. rings variable n less far);
        queues = queue_short;
        held = λ stream less. omega (arith, queues stream less, queue_short stream less);
      }
