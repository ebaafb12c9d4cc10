-- The ring of a variable stands for what it published up to a date, where it did so for the dates before.
use Rattle.std.proofs.Common.{◌≡◌, ℕ, zero, suc, ◌+◌, ◌≤◌, Bool, true, false, List, ◌∷◌, length, get_or, take, Option, Some, None, refl, sym, ap, subst, ◌∙◌, length-take, arith, ◌<◌, All}
use Rattle.std.specs.Prelude.{if◌then◌else◌, nat_le, ℤ, pos}
use Rattle.std.proofs.lemmas.Bool.{cond-false, lt-leb, ne_eqb}
use Rattle.std.proofs.lemmas.List.Elements.{All-get_or}
use Rattle.std.proofs.lemmas.Option.{get_or_from_slice_get, slice_get-get_or, slice_get_within}
use Rattle.psy_base.specs.declared.sizes.Sizes.{Sizes}
use Rattle.psy_clock.specs.Dates.{from_date}
use Rattle.psy_dates.specs.Calendars.{CalendarStands}
use Rattle.psy_history.specs.Actions.{History, System, publishing, variable_of}
use Rattle.psy_history.specs.History.{history}
use Rattle.psy_history.specs.Lines.{is_date}
use Rattle.psy_history.specs.Visible.{published, published_before, published_behind, published_by}
use Rattle.psy_history.specs.Rings.{ring_of}
use Rattle.psy_dates.specs.Publications.{ring_then, value_by}
use Rattle.psy_dates.specs.Standing.{RingStands, committed_by}

-- What a variable publishes is what it has committed, or the value of its list
value_is : (s : System) (h : History) (values : List ℤ) (date variable : ℕ) (owner : Option ℕ) → get_or values variable (pos 0) ≡ committed_by s h variable date owner → value_by s values date variable owner ≡ published_by s h variable date owner
value_is s h values date variable None is = refl
value_is s h values date variable (Some owner) is = is

-- Behind the dates that were done before, it publishes so.
published_now : (s : System) (h : History) (variable date dates : ℕ) → dates ≤ date → published_by s h variable date (variable_of s variable).owner ≡ published_behind dates s h variable date
published_now s h variable date zero later = refl
published_now s h variable date (suc last) later = sym (cond-false (nat_le date last) (published_before s last variable date) (published_by s h variable date (variable_of s variable).owner) (lt-leb date last later))

-- A ring keeps its size
same_size : (at : Bool) (value : ℤ) (ring : List ℤ) → length (if at then take (length ring) (value ∷ ring) else ring) ≡ length ring
same_size true value ring = omega (arith, length-take (length ring) (value ∷ ring))
same_size false value ring = refl

-- Where each clock has its next date later no variable publishes.
pub none_due : (s : System) (date : ℕ) (calendar : List ℕ) → CalendarStands s.unit.clocks date calendar → All (λ next. date < next) calendar → (variable : ℕ) → (variable_of s variable).clock < length s.unit.clocks → is_date (publishing s variable) date ≡ false
none_due s date calendar stands late variable known =
    let clock = (variable_of s variable).clock in
    let next = stands.nexts clock (publishing s variable) (slice_get-get_or s.unit.clocks clock _ known) in
    let first = from_date (publishing s variable) date 0 in
    let l : date < first = subst (λ n. date < n) (get_or_from_slice_get calendar clock first first next) (All-get_or (λ n. date < n) calendar clock first (slice_get_within calendar clock first next) late) in
    ne_eqb first date (λ e. omega (arith, l, e))

pub ring_stays : (s : System) (values : List ℤ) (date variable : ℕ) (ring : List ℤ) → is_date (publishing s variable) date ≡ false → ring_then s values date variable ring ≡ ring
ring_stays s values date variable ring not = cond-false (is_date (publishing s variable) date) (take (length ring) (value_by s values date variable (variable_of s variable).owner ∷ ring)) ring not

-- What the ring holds at the next date
abbrev pub Goes : System → ℕ → ℕ → Type 0
Goes s date variable = (size : ℕ) → ring_of s (date + 1) variable size ≡ (if is_date (publishing s variable) date then take size (published s (history s (date + 1)) variable date ∷ ring_of s date variable size) else ring_of s date variable size)

pub ring_moves : (s : System) (sizes : Sizes) (date variable : ℕ) → s.opening.dates ≤ date → Goes s date variable → (values ring : List ℤ) → get_or values variable (pos 0) ≡ committed_by s (history s (date + 1)) variable date (variable_of s variable).owner → RingStands s sizes date variable ring → RingStands s sizes (date + 1) variable (ring_then s values date variable ring)
ring_moves s sizes date variable later goes values ring committed stands =
    let at = is_date (publishing s variable) date in
    let owner = (variable_of s variable).owner in
    let size = length ring in
    let long : length (ring_then s values date variable ring) ≡ size = same_size at (value_by s values date variable owner) ring in
    record {
      size = long ∙ stands.size;
      values = ap (λ value. if at then take size (value ∷ ring) else ring) (value_is s (history s (date + 1)) values date variable owner committed ∙ published_now s (history s (date + 1)) variable date s.opening.dates later)
          ∙ ap (λ held. if at then take size (published s (history s (date + 1)) variable date ∷ held) else held) stands.values
          ∙ sym (goes size)
          ∙ ap (ring_of s (date + 1) variable) (sym long);
    }
