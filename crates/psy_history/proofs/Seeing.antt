-- What an action sees: values of 32 bits, as many of each variable as its depth.
use Rattle.std.proofs.Common.{◌≡◌, ℕ, zero, suc, ◌+◌, Bool, true, false, List, [], ◌∷◌, All, length, map, get_or, Option, Some, None, refl, sym, ◌∙◌}
use Rattle.std.specs.Prelude.{ℤ, pos, FitsSigned, if◌then◌else◌, ◌==◌, ◌-◌, nat_le, nat_lt}
use Rattle.std.specs.Int.{w32}
use Rattle.std.specs.List.{range_with_len}
use Rattle.std.proofs.lemmas.Bool.{cond_both}
use Rattle.std.proofs.lemmas.List.{get_or-map, length-map}
use Rattle.std.proofs.lemmas.List.Elements.{All-append, All-cons, All-contains, All-filter, All-head, All-map, All-nil, All-tail}
use Rattle.std.proofs.lemmas.List.FromFn.{fill_by_all, length-map-range_with_len}
use Rattle.std.proofs.lemmas.Simd.{map-map}
use Rattle.std.proofs.Math.Facts.{sfits_lit}
use Rattle.psy_base.specs.declared.message.Message.{Message}
use Rattle.psy_lists.proofs.lemmas.Members.{all_flat_map, get_or_holds}
use Rattle.psy_clock.specs.Dates.{count, date}
use Rattle.psy_code.specs.declared.look.Sent.{Sent}
use Rattle.psy_code.specs.Execution.{Copy, copy_of}
use Rattle.psy_tree.specs.declared.unit.Unit.{Unit as Whole}
use Rattle.psy_queue.specs.Order.{comes_before, put_in_order}
use Rattle.psy_history.specs.Actions.{Action, History, System, Verdict, Done, publishing, stream_of, variable_of}
use Rattle.psy_history.specs.Actions as verdict
use Rattle.psy_meaning.specs.Alike.{AllFit, IsViewOf, MessagesFit, is_there}
use Rattle.psy_history.specs.Executors.{Carried, copy_in}
use Rattle.psy_meaning.specs.Kept.{IsSentOf}
use Rattle.psy_meaning.specs.States.{value_or_zero}
use Rattle.psy_history.specs.Visible.{commit, committed_in, in_order, input_value, message_of, messages, messages_by, messages_from, nth_or_last, past, published, published_before, published_behind, published_by, seen_at, sent_to, values_for, view_of}

-- ---- lists

-- What is made of each number of a list is what is made of its elements
by_number : {X Y : Type 0} (f : ℕ → Y) (g : X → Y) (d : X) (xs : List X) → ((i : ℕ) → f i ≡ g (get_or xs i d)) → map f (range_with_len 0 (length xs)) ≡ map g xs
by_number f g d xs same = sym (fill_by_all f (map g xs) (length xs) (g d) (length-map xs g) (λ i l. get_or-map g xs i d (g d) l ∙ sym (same i)))

-- What is made of each number
pub all_made : {X : Type 0} (P : X → Type 0) (f : ℕ → X) (ks : List ℕ) → ((k : ℕ) → P (f k)) → All P (map f ks)
all_made P f ks h = All-map P f ks (λ k d less. h (get_or ks k d))

-- ---- what actions leave

abbrev pub Fits : ℤ → Type 0
Fits v = FitsSigned w32 v

pub zero_fits : Fits (pos 0)
zero_fits = sfits_lit tt

abbrev CopiesFit : List Copy → Type 0
CopiesFit copies = All (λ c. FitsSigned w32 c.value) copies

copy_fits : (variable : ℕ) (copies : List Copy) → CopiesFit copies → Fits (value_or_zero (copy_of variable copies))
copy_fits variable [] all = zero_fits
copy_fits variable (c ∷ rest) all =
    cond_both (c.variable == variable) (Some c.value) (copy_of variable rest) (λ o. Fits (value_or_zero o)) (λ t. All-head (λ c. FitsSigned w32 c.value) c rest all)
    (λ t. copy_fits variable rest (All-tail (λ c. FitsSigned w32 c.value) c rest all))

-- An action that ended leaves values of 32 bits: its copies and its messages.
pub record LeavesFit (unit : Whole) (r : Action) : Type 0 where
  pub copies : (point end : ℕ) → r.verdict ≡ Done point end → CopiesFit r.after.copies
  pub sends : (point end : ℕ) → r.verdict ≡ Done point end → All (IsSentOf unit) r.deeds.sends

abbrev pub MessageFits : Message → Type 0
MessageFits m = Fits m.value

module _ (s : System) where
  abbrev Leaves : Action → Type 0
  Leaves = LeavesFit s.unit

  -- ---- values

  commit_fits : (variable by : ℕ) (carried : Carried) (earlier : ℤ) (v : Verdict) → Fits earlier → ((point end : ℕ) → v ≡ Done point end → CopiesFit carried.copies) → Fits (commit variable by carried earlier v)
  commit_fits variable by carried earlier (Done point end) before copies = cond_both (nat_le end by) (copy_in carried variable) earlier Fits (λ t. copy_fits variable carried.copies (copies point end refl)) (λ t. before)
  commit_fits variable by carried earlier (verdict.Trapped kind) before copies = before
  commit_fits variable by carried earlier verdict.Overran before copies = before

  pub committed_fits : (variable by : ℕ) (actions : List Action) → Fits (s.opening.committed variable) → All Leaves actions → Fits (committed_in s variable by actions)
  committed_fits variable by [] first all = first
  committed_fits variable by (r ∷ before) first all =
      commit_fits variable by r.after (committed_in s variable by before) r.verdict (committed_fits variable by before first (All-tail Leaves r before all)) (All-head Leaves r before all).copies

  nth_fits : (last : ℤ) (values : List ℤ) (n : ℕ) → Fits last → AllFit values → Fits (nth_or_last last values n)
  nth_fits last [] n h all = h
  nth_fits last (v ∷ values) zero h all = All-head (FitsSigned w32) v values all
  nth_fits last (v ∷ values) (suc n) h all = nth_fits v values n (All-head (FitsSigned w32) v values all) (All-tail (FitsSigned w32) v values all)

  -- ---- messages

  sent_fits : (stream agent end number : ℕ) (sends : List Sent) → All (IsSentOf s.unit) sends → All MessageFits (messages_from s stream agent end number sends)
  sent_fits stream agent end number [] all = All-nil MessageFits
  sent_fits stream agent end number (sent ∷ sends) all =
      let rest = sent_fits stream agent end (number + 1) sends (All-tail (IsSentOf s.unit) sent sends all) in
      cond_both (sent.stream == stream) (message_of s agent end number sent ∷ messages_from s stream agent end (number + 1) sends) (messages_from s stream agent end (number + 1) sends) (All MessageFits)
      (λ t. All-cons MessageFits (message_of s agent end number sent) (messages_from s stream agent end (number + 1) sends) (All-head (IsSentOf s.unit) sent sends all).value rest) (λ t. rest)

  by_fits : (stream agent : ℕ) (sends : List Sent) (v : Verdict) → ((point end : ℕ) → v ≡ Done point end → All (IsSentOf s.unit) sends) → All MessageFits (messages_by s stream agent sends v)
  by_fits stream agent sends (Done point end) all = sent_fits stream agent end 0 sends (all point end refl)
  by_fits stream agent sends (verdict.Trapped kind) all = All-nil MessageFits
  by_fits stream agent sends verdict.Overran all = All-nil MessageFits

  put_fits : (m : Message) (ms : List Message) → MessageFits m → All MessageFits ms → All MessageFits (put_in_order m ms)
  put_fits m [] h all = All-cons MessageFits m [] h all
  put_fits m (n ∷ ns) h all =
      cond_both (comes_before m n) (m ∷ n ∷ ns) (n ∷ put_in_order m ns) (All MessageFits) (λ t. All-cons MessageFits m (n ∷ ns) h all)
      (λ t. All-cons MessageFits n (put_in_order m ns) (All-head MessageFits n ns all) (put_fits m ns h (All-tail MessageFits n ns all)))

  order_fits : (ms : List Message) → All MessageFits ms → All MessageFits (in_order ms)
  order_fits [] all = all
  order_fits (m ∷ ms) all = put_fits m (in_order ms) (All-head MessageFits m ms all) (order_fits ms (All-tail MessageFits m ms all))

  -- ---- the view

  there_is : (b : Bool) (values : List ℤ) → is_there (if b then Some values else None) ≡ b
  there_is true values = refl
  there_is false values = refl

  none_fit : MessagesFit None
  none_fit = tt {0}

  module _ (first : (variable : ℕ) → Fits (s.opening.committed variable)) (before : (variable : ℕ) → AllFit (s.opening.published variable)) (sent : (stream : ℕ) → All MessageFits (s.opening.messages stream)) (inputs : All AllFit s.inputs) (values : All (λ v. FitsSigned w32 v.init) s.unit.variables) where
    init_fits : (variable : ℕ) → Fits (variable_of s variable).init
    init_fits variable = get_or_holds (λ v. FitsSigned w32 v.init) s.unit.variables variable _ zero_fits values

    input_fits : (variable date : ℕ) → Fits (input_value s variable date)
    input_fits variable date = nth_fits (variable_of s variable).init (get_or s.inputs variable []) _ (init_fits variable) (get_or_holds AllFit s.inputs variable [] (All-nil (FitsSigned w32)) inputs)

    module _ (h : History) (leave : (agent : ℕ) → All Leaves (h agent)) where
      pub by_owner : (variable date : ℕ) (owner : Option ℕ) → Fits (published_by s h variable date owner)
      by_owner variable date (Some owner) = committed_fits variable date (h owner) (first variable) (leave owner)
      by_owner variable date None = input_fits variable date

      -- also before the history begins
      published_fits : (variable date dates : ℕ) → Fits (published_behind dates s h variable date)
      published_fits variable date zero = by_owner variable date (variable_of s variable).owner
      published_fits variable date (suc last) =
          cond_both (nat_le date last) (published_before s last variable date) (published_by s h variable date (variable_of s variable).owner) Fits
          (λ early. get_or_holds Fits (s.opening.published variable) (count (publishing s variable) last - count (publishing s variable) date) (variable_of s variable).init (init_fits variable) (before variable))
          (λ late. by_owner variable date (variable_of s variable).owner)

      pub past_fits : (variable start back : ℕ) → Fits (past s h variable start back)
      past_fits variable start back =
          let clock = publishing s variable in
          let at : ℕ = date clock (count clock start - 1 - back) in
          cond_both (nat_lt back (count clock start)) (published s h variable at) (variable_of s variable).init Fits (λ t. published_fits variable at s.opening.dates) (λ t. init_fits variable)

      pub messages_fit : (stream : ℕ) → All MessageFits (messages s h stream)
      messages_fit stream =
          order_fits (sent_to s h stream) (All-append MessageFits (s.opening.messages stream) _ (sent stream)
          (all_flat_map MessageFits _ _ (λ agent known. all_flat_map MessageFits _ (h agent) (λ r there. by_fits stream r.agent r.deeds.sends r.verdict (All-contains Leaves (h agent) r (leave agent) there).sends))))

      seen_fits : (date stream : ℕ) → All MessageFits (seen_at s h date stream)
      seen_fits date stream = All-filter _ MessageFits (messages s h stream) (messages_fit stream)

      pub sees : (agent start : ℕ) → IsViewOf s.unit agent (view_of s h agent start (seen_at s h start))
      sees agent start = record {
        depths = map-map length (λ variable. map (past s h variable start) (range_with_len 0 (variable_of s variable).depth)) (range_with_len 0 (length s.unit.variables))
            ∙ by_number _ (λ v. v.depth) _ s.unit.variables (λ i. length-map-range_with_len (past s h i start) 0 (variable_of s i).depth);
        values = all_made AllFit _ _ (λ variable. all_made (FitsSigned w32) (past s h variable start) _ (past_fits variable start));
        streams = map-map is_there (values_for s (seen_at s h start) agent) (range_with_len 0 (length s.unit.streams))
            ∙ by_number _ (λ st. st.receiver == agent) _ s.unit.streams (λ i. there_is ((stream_of s i).receiver == agent) _);
        messages = all_made MessagesFit _ _ (λ stream. cond_both ((stream_of s stream).receiver == agent) (Some (map (λ (m : Message). m.value) (seen_at s h start stream))) None MessagesFit
            (λ t. All-map (FitsSigned w32) (λ (m : Message). m.value) (seen_at s h start stream) (seen_fits start stream)) (λ t. none_fit));
      }
