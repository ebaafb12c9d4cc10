-- The greatest number of sends on ways through code: from cells, without sends, and that there is just one.
use Rattle.std.proofs.Common.{◌≡◌, ℕ, suc, ◌+◌, ◌-◌, ◌<◌, ◌≤◌, min, Bool, true, false, List, length, get_or, replicate, Some, refl, sym, ap, subst, ◌∙◌, inl, inr, arith}
use Rattle.std.specs.Prelude.{◌≢◌, slice_get}
use Rattle.std.specs.List.{Contains, list_any}
use Rattle.std.proofs.lemmas.Bool.{cases_lt, false≢true}
use Rattle.std.proofs.lemmas.List.{length-replicate}
use Rattle.std.proofs.lemmas.List.Folds.{list_any_at}
use Rattle.std.proofs.lemmas.Option.{same_Some, slice_get-get_or}
use Rattle.psy_base.specs.Extremes.{IsGreatest}
use Rattle.psy_base.specs.declared.limits.TheConstants.{SENDS}
use Rattle.psy_code.specs.declared.instr.Instr.{Instr}
use Rattle.psy_code.specs.declared.instr.Instr.TheVariants as instr
use Rattle.psy_meaning.specs.CodeWays.{AreCodeNexts, GoesOn, HasCodeSends, IsCodeWay, IsMostCodeSends, IsPassed, IsUnbounded, first, later}
use Rattle.psy_meaning.specs.Flow.{IsCut}
use Rattle.psy_flow.specs.CodeLists.{send_of, sends_at, sends_there}
use Rattle.psy_flow.specs.declared.parts.Part.{Part}
use Rattle.psy_flow.specs.declared.parts.Part.TheVariants as part
use Rattle.psy_flow.specs.Quests.{HasCount, counted, counts, ends_here, goes_on, part_of, quest_of}
use Rattle.psy_flow.specs.Reach.{marked}
use Rattle.psy_flow.specs.Walks.{ArePassed}
use Rattle.psy_flow.specs.Worths.{AreTops}
use Rattle.psy_flow.proofs.Cuts.{one_cut}
use Rattle.psy_flow.proofs.MarkedNumbers.{length-marked, set_marked}
use Rattle.psy_flow.proofs.PartKinds.{counts_none}
use Rattle.psy_flow.proofs.QuestWays.{count_of_sends, passed_on, sends_way}

module _ (instrs : List Instr) (from to stream budget : ℕ) where
  abbrev Has : ℕ → Type 0
  Has = HasCodeSends instrs from to stream

  pub cut_of_tops : (places row : List ℕ) → AreTops instrs (quest_of to stream) places row → Contains places from → (all : List ℕ) × IsCodeWay instrs to from all → IsMostCodeSends instrs from to stream budget (min (get_or row from 0 - 1) SENDS)
  cut_of_tops places row tops inside (all, way) =
      let top = tops.each from inside in
      let n = get_or row from 0 - 1 in
      let some = top.most _ (count_of_sends instrs to stream from _ (all, way, refl)) in
      let is : get_or row from 0 ≡ suc n = omega (arith, some) in
      let greatest : IsGreatest Has n = record {
        one = sends_way instrs to stream from n (top.one n is);
        most = λ m has. omega (arith, top.most m (count_of_sends instrs to stream from m has));
      } in
      inl (n, greatest, refl)

  pub endless_sends : IsUnbounded (HasCount instrs (quest_of to stream) from) → IsMostCodeSends instrs from to stream budget (min budget SENDS)
  endless_sends unbounded = inr ((λ m. let (n, has, less) = unbounded m in (n, sends_way instrs to stream from n has, less)), refl)

  unbounded_cut : (n : ℕ) → IsUnbounded Has → IsCut Has SENDS n → ⊥
  unbounded_cut n unbounded (most, greatest, is) = let (m, has, less) = unbounded most in omega (arith, greatest.most m has, less)

  pub one_most_code : (n m : ℕ) → IsMostCodeSends instrs from to stream budget n → IsMostCodeSends instrs from to stream budget m → n ≡ m
  one_most_code n m (inl p) (inl q) = one_cut Has SENDS n m p q
  one_most_code n m (inl p) (inr q) = absurd (unbounded_cut n q.0 p)
  one_most_code n m (inr p) (inl q) = absurd (unbounded_cut m p.0 q)
  one_most_code n m (inr p) (inr q) = p.1 ∙ sym q.1

  -- Where some are sent, there is a way with a send.
  pub some_sent : (n : ℕ) → IsMostCodeSends instrs from to stream budget n → 1 ≤ n → (m : ℕ) × Has m × (1 ≤ m)
  some_sent n (inl (k, greatest, is)) some = (k, greatest.one, omega (arith, is, some))
  some_sent n (inr (unbounded, is)) some = let (m, has, less) = unbounded 0 in (m, has, omega (arith, less))

-- ---- sends to a stream stand at places that are passed

sent_part : (i : Instr) (to stream : ℕ) → counts (part_of i) (quest_of to stream) ≡ true → send_of (Some i) stream ≡ true
sent_part (instr.Send own after clock) to stream h = h
sent_part _ to stream h = absurd (false≢true h)

send_is : (i : Instr) (to stream : ℕ) → counts (part_of i) (quest_of to stream) ≡ true → (after clock : ℕ) × (i ≡ instr.Send stream after clock)
send_is (instr.Send own after clock) to stream h = let same : own ≡ stream = grind (arith, h) in (after, clock, ap (λ s. instr.Send s after clock) same)
send_is _ to stream h = absurd (false≢true h)

module _ (instrs : List Instr) (to stream : ℕ) where
  -- On a way from a place stands a send to the stream.
  abbrev HasSendOn : ℕ → Type 0
  HasSendOn place = (there : ℕ) × (i : Instr) × IsPassed instrs place there × (slice_get instrs there ≡ Some i) × (counts (part_of i) (quest_of to stream) ≡ true)

  sent_here : (here next m k : ℕ) (i : Instr) → slice_get instrs here ≡ Some i → GoesOn i here next → m ≡ k + counted (part_of i) (quest_of to stream) → 1 ≤ m → (1 ≤ k → HasSendOn next) → (b : Bool) → counts (part_of i) (quest_of to stream) ≡ b → HasSendOn here
  sent_here here next m k i at on e some rest true is = (here, i, first, at, is)
  sent_here here next m k i at on e some rest false is =
      let none = counts_none (part_of i) (quest_of to stream) is in
      let (there, j, passed, stands, counts_there) = rest (omega (arith, e, none, some)) in
      (there, j, passed_on instrs here next there (later here next i first at on) passed, stands, counts_there)

  -- A way with sends passes one.
  pub sent_where : (place n : ℕ) → HasCount instrs (quest_of to stream) place n → 1 ≤ n → HasSendOn place
  sent_where place n (ends_here here m i at end e) some = absurd (omega (arith, e, some))
  sent_where place n (goes_on here next m k i at on has e) some = sent_here here next m k i at on e some (λ more. sent_where next k has more) (counts (part_of i) (quest_of to stream)) refl

  pub named_stream : (from streams n : ℕ) → ((place s after clock : ℕ) → IsPassed instrs from place → slice_get instrs place ≡ Some (instr.Send s after clock) → s < streams) → HasCount instrs (quest_of to stream) from n → 1 ≤ n → stream < streams
  named_stream from streams n named has some =
      let (there, i, passed, at, is) = sent_where from n has some in
      let (after, clock, same) = send_is i to stream is in
      named there stream after clock passed (at ∙ ap Some same)

pub no_send : (p : Part) → ((stream after clock : ℕ) → p ≢ part.Sent stream after clock) → (stream : ℕ) → sends_at p stream ≡ false
no_send (part.Sent own after clock) not stream = absurd (not own after clock refl)
no_send _ not stream = refl

-- Some of the places holds a send to the stream.
abbrev pub some_sends : List Instr → List ℕ → ℕ → Bool
some_sends instrs places stream = list_any (sends_there instrs stream) places

-- To a stream that isn't marked no way sends.
module _ (instrs : List Instr) (from : ℕ) (places : List ℕ) (are : ArePassed instrs from places) (sent : List Bool) (streams : ℕ) (is : sent ≡ marked (replicate streams false) (some_sends instrs places)) (to stream : ℕ) (inside : stream < length sent) (not : get_or sent stream false ≡ false) where
  unsent : some_sends instrs places stream ≡ true → ⊥
  unsent h =
      let low : stream < streams = omega (arith, inside, ap length is, length-marked 0 (replicate streams false) (some_sends instrs places), length-replicate streams false) in
      let marks : slice_get sent stream ≡ Some true = ap (λ ms. slice_get ms stream) is ∙ set_marked 0 streams stream (some_sends instrs places) low (ap (some_sends instrs places) (let zeroed : 0 + stream ≡ stream = omega arith in zeroed) ∙ h) in
      let read : slice_get sent stream ≡ Some false = slice_get-get_or sent stream false inside ∙ ap Some not in
      false≢true (same_Some false true (sym read ∙ marks))

  none_sent : (n : ℕ) → HasCount instrs (quest_of to stream) from n → n ≡ 0
  none_sent n has = elim (cases_lt 0 n) [
    | inl some ↦ (
        let (there, i, passed, at, counts_there) = sent_where instrs to stream from n has (omega (arith, some)) in
        let (k, less, same) = (are.each there).1 passed in
        let holds : sends_there instrs stream there ≡ true = ap (λ o. send_of o stream) at ∙ sent_part i to stream counts_there in
        absurd (unsent (list_any_at (sends_there instrs stream) places k there less (ap (sends_there instrs stream) same ∙ holds))))
    | inr none ↦ omega (arith, none)
  ]

  pub most_of_none : (budget : ℕ) → (all : List ℕ) × IsCodeWay instrs to from all → IsMostCodeSends instrs from to stream budget 0
  most_of_none budget (all, way) =
      let here = count_of_sends instrs to stream from _ (all, way, refl) in
      let greatest : IsGreatest (HasCodeSends instrs from to stream) 0 = record {
        one = subst (HasCodeSends instrs from to stream) (none_sent _ here) (all, way, refl);
        most = λ m has. (let zero_is = none_sent m (count_of_sends instrs to stream from m has) in omega (arith, zero_is));
      } in
      inl (0, greatest, omega arith)

-- What is sent to on a way to a point is there, and the point is one of the next ones.
pub sent_there : (instrs : List Instr) (from budget streams : ℕ) (nexts : List ℕ) → AreCodeNexts instrs from nexts → ((place s after clock : ℕ) → IsPassed instrs from place → slice_get instrs place ≡ Some (instr.Send s after clock) → s < streams) → (to stream most : ℕ) → IsMostCodeSends instrs from to stream budget most → 1 ≤ most → (stream < streams) × Contains nexts to
sent_there instrs from budget streams nexts next named to stream most is some =
    let (m, (places, way, sends), more) = some_sent instrs from to stream budget most is some in
    (named_stream instrs to stream from streams m named (count_of_sends instrs to stream from m (places, way, sends)) more, (next.each to).1 (places, way))
