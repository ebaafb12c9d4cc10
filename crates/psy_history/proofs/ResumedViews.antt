-- What an action of a history that is taken up again at a quiet date sees of variables: what the whole history shows it.
use Rattle.std.proofs.Common.{◌≡◌, ℕ, zero, suc, ◌-◌, ◌<◌, ◌≤◌, List, [], ◌∷◌, ◌++◌, length, map, get_or, Option, Some, None, refl, sym, ap, ◌∙◌, inl, inr, arith}
use Rattle.std.specs.Prelude.{ℤ, nat_le, nat_lt}
use Rattle.std.specs.List.{All, Contains, range_with_len}
use Rattle.std.proofs.lemmas.Bool.{cases_lt, cond-false, cond-true, le-leb, le-ltb, lt-leb, lt-ltb}
use Rattle.std.proofs.lemmas.List.FromFn.{get_or-map-range_with_len}
use Rattle.std.proofs.lemmas.Option.{get_or_from_slice_get, slice_get-get_or}
use Rattle.psy_base.specs.declared.message.Message.{Message}
use Rattle.psy_clock.specs.declared.clock.Clock.{Clock}
use Rattle.psy_clock.specs.Dates.{IsClock, count, date as date_of}
use Rattle.psy_lists.proofs.lemmas.Members.{contains_behind, contains_front, get_or_holds}
use Rattle.psy_meaning.specs.KnownWays.{Ways}
use Rattle.psy_meaning.specs.RingSizes.{AreRings}
use Rattle.psy_tree.specs.declared.unit.VarDecl.{VarDecl}
use Rattle.psy_history.specs.Actions.{Action, History, System, Verdict, Done, Trapped, Overran, publishing, variable_of}
use Rattle.psy_history.specs.Executors.{Carried}
use Rattle.psy_history.specs.History.{history}
use Rattle.psy_history.specs.Regular.{IsLawful}
use Rattle.psy_history.specs.Resuming.{committed_at, resumed_at}
use Rattle.psy_history.specs.Visible.{commit, committed_in, past, published, published_before, published_behind, published_by, values_for, view_of}
use Rattle.psy_history.proofs.ClockDates.{AreCounted, count_of_date, count_rises}
use Rattle.psy_history.proofs.IsolatedViews.{map_below}
use Rattle.psy_history.proofs.PastValues.{value_further_back}
use Rattle.psy_history.proofs.Timings.{every_tick}

-- An action that doesn't end behind a date commits by each later date what it does by that one.
commit_since : (variable date by : ℕ) (carried : Carried) (earlier : ℤ) (v : Verdict) → date ≤ by → ((point end : ℕ) → v ≡ Done point end → end ≤ date)
    → commit variable by carried earlier v ≡ commit variable date carried earlier v
commit_since variable date by carried earlier (Done point end) since ended =
    let early : end ≤ date = ended point end refl in
    cond-true (nat_le end by) _ _ (le-leb end by (omega (arith, early, since))) ∙ sym (cond-true (nat_le end date) _ _ (le-leb end date early))
commit_since variable date by carried earlier (Trapped kind) since ended = refl
commit_since variable date by carried earlier Overran since ended = refl

module _ (s : System) (sizes : List ℕ) (order : ℕ → List ℕ) (date : ℕ) (behind : s.opening.dates ≤ suc date)
    (ended : (agent point end : ℕ) (r : Action) → Contains (history s date agent) r → r.verdict ≡ Done point end → end ≤ date) where
  abbrev t : System
  t = resumed_at s sizes order date

  -- ---- what is committed

  -- so do several
  committed_since : (variable by : ℕ) (its : List Action) → date ≤ by → ((point end : ℕ) (r : Action) → Contains its r → r.verdict ≡ Done point end → end ≤ date)
      → committed_in s variable by its ≡ committed_in s variable date its
  committed_since variable by [] since early = refl
  committed_since variable by (r ∷ before) since early =
      ap (λ value. commit variable by r.after value r.verdict) (committed_since variable by before since (λ point end x c. early point end x (contains_behind r before x c)))
      ∙ commit_since variable date by r.after (committed_in s variable date before) r.verdict since (λ point end is. early point end r (contains_front r before) is)

  -- New actions commit upon what was committed at the date.
  committed_on : (variable by owner : ℕ) → (variable_of s variable).owner ≡ Some owner → (new : List Action) → date ≤ by
      → committed_in s variable by (new ++ history s date owner) ≡ committed_in t variable by new
  committed_on variable by owner its [] since =
      committed_since variable by (history s date owner) since (λ point end r c. ended owner point end r c) ∙ sym (ap (committed_at s date variable) its)
  committed_on variable by owner its (r ∷ new) since = ap (λ value. commit variable by r.after value r.verdict) (committed_on variable by owner its new since)

  module _ (later : ℕ) (late : date ≤ later) (actions : (agent : ℕ) → history s later agent ≡ history t later agent ++ history s date agent) where
    abbrev whole : History
    whole = history s later

    abbrev new : History
    new = history t later

    -- ---- what is published

    -- Behind the date the same values are published.
    pub published_later : (variable by : ℕ) → date < by → published s whole variable by ≡ published t new variable by
    published_later variable by since =
        by_whole s.opening.dates behind ∙ by_owner (variable_of s variable).owner refl ∙ sym (cond-false (nat_le by date) _ _ (lt-leb by date since))
      where
        by_whole : (dates : ℕ) → dates ≤ suc date → published_behind dates s whole variable by ≡ published_by s whole variable by (variable_of s variable).owner
        by_whole zero low = refl
        by_whole (suc last) low = cond-false (nat_le by last) _ _ (lt-leb by last (omega (arith, low, since)))

        by_owner : (owner : Option ℕ) → (variable_of s variable).owner ≡ owner → published_by s whole variable by owner ≡ published_by t new variable by owner
        by_owner None its = refl
        by_owner (Some owner) its = ap (committed_in s variable by) (actions owner) ∙ committed_on variable by owner its (new owner) (omega (arith, since))

    -- ---- what is seen

    module _ (lawful : IsLawful s) (ways : Ways) (counted : AreCounted) (clocks : All IsClock s.unit.clocks) (rings : AreRings s.unit ways s.nexts sizes)
        (variable back : ℕ) (less : variable < length s.unit.variables) (deep : back < (variable_of s variable).depth) where
      abbrev clock : Clock
      clock = publishing s variable

      abbrev size : ℕ
      size = get_or sizes variable 0

      abbrev init : ℤ
      init = (variable_of s variable).init

      abbrev ring : ℕ → ℤ
      ring = past s (history s (suc date)) variable date

      is : IsClock clock
      is = get_or_holds IsClock s.unit.clocks (variable_of s variable).clock _ every_tick clocks

      -- the ring has as many places as the variable has depth
      places : (variable_of s variable).depth ≤ size
      places =
          let its = rings.each variable size (slice_get-get_or sizes variable 0 (omega (arith, rings.count, less))) in
          let same : variable_of s variable ≡ its.decl = get_or_from_slice_get s.unit.variables variable its.decl _ its.declared in
          omega (arith, its.sum, ap (λ (v : VarDecl). v.depth) same)

      module _ (within : back < count clock later) where
        abbrev number : ℕ
        number = count clock later - 1 - back

        abbrev at : ℕ
        at = date_of clock number

        abbrev place : ℕ
        place = count clock date - count clock at

        counts : count clock at ≡ suc number
        counts = count_of_date counted clock is number

        -- what was published by the date stands in the ring
        early_is : at ≤ date → past s whole variable later back ≡ published_before t date variable at
        early_is early =
            let known : number < count clock date = (counted.upto clock date number is).0 early in
            let rises : count clock date ≤ count clock later = count_rises clock date later late in
            let by_date : (i : ℕ) → i < count clock date → date_of clock i ≤ date = λ i l. (counted.upto clock date i is).1 l in
            value_further_back s lawful variable date later (count clock date) place (count clock later) back late (omega (arith, counts, within, known)) by_date
            ∙ sym (value_further_back s lawful variable date (suc date) (count clock date) place (count clock date) place (omega arith) refl by_date)
            ∙ sym (get_or-map-range_with_len ring 0 size place place init (omega (arith, counts, within, rises, deep, places)) (omega arith))

        within_is : past s whole variable later back ≡ past t new variable later back
        within_is = elim (cases_lt date at) [
          | inl since ↦
              cond-true (nat_lt back (count clock later)) _ _ (lt-ltb back (count clock later) within)
              ∙ published_later variable at since
              ∙ sym (cond-true (nat_lt back (count clock later)) _ _ (lt-ltb back (count clock later) within))
          | inr early ↦
              early_is early
              ∙ sym (cond-true (nat_le at date) _ _ (le-leb at date early))
              ∙ sym (cond-true (nat_lt back (count clock later)) _ _ (lt-ltb back (count clock later) within))
        ]

      past_resumed : past s whole variable later back ≡ past t new variable later back
      past_resumed = elim (cases_lt back (count clock later)) [
        | inl within ↦ within_is within
        | inr beyond ↦
            cond-false (nat_lt back (count clock later)) _ _ (le-ltb back (count clock later) beyond)
            ∙ sym (cond-false (nat_lt back (count clock later)) _ _ (le-ltb back (count clock later) beyond))
      ]

    -- An action at a later date sees the same, where it sees the same messages.
    pub view_resumed : IsLawful s → (ways : Ways) → AreCounted → All IsClock s.unit.clocks → AreRings s.unit ways s.nexts sizes
        → (agent : ℕ) (seen : ℕ → List Message) → view_of s whole agent later seen ≡ view_of t new agent later seen
    view_resumed lawful ways counted clocks rings agent seen =
        ap (λ (pasts : List (List ℤ)). record { pasts = pasts; messages = map (values_for s seen agent) (range_with_len 0 (length s.unit.streams)) })
        (map_below (λ variable. map (past s whole variable later) (range_with_len 0 (variable_of s variable).depth))
        (λ variable. map (past t new variable later) (range_with_len 0 (variable_of s variable).depth)) (length s.unit.variables) [] (λ variable less.
        map_below (past s whole variable later) (past t new variable later) (variable_of s variable).depth (variable_of s variable).init (λ back deep.
        past_resumed lawful ways counted clocks rings variable back less deep)))
