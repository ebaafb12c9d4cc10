-- The twelve kinds of fault: where each is said, of a place and where that stands.
use Rattle.std.specs.Prelude.{◌≡◌, ◌⊎◌, ℕ, ◌+◌, ◌*◌, ◌<◌, ◌≤◌, Bool, true, false, not, ◌&&◌, ◌||◌, nat_eq, nat_lt, nat_le, if◌then◌else◌, List, []}
use Rattle.std.specs.Prelude.{◌∷◌, ◌++◌, take, length, Option, Some, None, slice_get}
use Rattle.std.specs.List.{Contains, list_any}
use Rattle.std.specs.Str.{bytes_eq}
use Rattle.std.specs.Option.{is_none}
use Rattle.psy_clock.specs.declared.clock.TheConstants.{PERIOD}
use Rattle.psy_clock.specs.declared.clock.Clock.{Clock}
use Rattle.psy_clock.specs.Dates.{IsClock, derived}
use Rattle.psy_tree.specs.declared.raw.Name.{Name}
use Rattle.psy_tree.specs.declared.raw.Lit.{Lit}
use Rattle.psy_tree.specs.declared.raw.Item.{Item}
use Rattle.psy_tree.specs.declared.raw.Item.TheVariants as item
use Rattle.psy_tree.specs.declared.raw.Raw.{Raw}
use Rattle.psy_tree.specs.declared.reach.Asks.{Asks}
use Rattle.psy_tree.specs.declared.reach.Asks.TheVariants as asks
use Rattle.psy_tree.specs.declared.reach.Found.{Found}
use Rattle.psy_tree.specs.declared.reach.Found.TheVariants as found
use Rattle.psy_tree.specs.declared.rules.RuleKind.{RuleKind}
use Rattle.psy_tree.specs.declared.rules.RuleKind.TheVariants as kind
use Rattle.psy_tree.specs.Scope.{SlotName, Site, item_name, slots_of, own_item, own_slots, stands_for, stands_globally, item_at}
use Rattle.psy_tree.specs.Places.{Place, NamesItem, NamesSlot, Derives, Uses, LooksBack, Acts, Returns, Loops, HasBody, Ranges, Sited, token_of, places}

-- ---- what is declared

-- There is a declaration, and it is a clock.
abbrev pub is_clock : Option Item → Bool
is_clock (Some (item.Clock name by parent shift)) = true
is_clock _ = false

-- There is a declaration, and it is an agent.
abbrev pub is_agent : Option Item → Bool
is_agent (Some (item.Agent name clock processor budget locals body stmts)) = true
is_agent _ = false

-- There is a declaration, and it is a function.
abbrev pub is_function : Option Item → Bool
is_function (Some (item.Function name params locals stmts)) = true
is_function _ = false

-- There is a declaration, and it is a stream.
abbrev pub is_stream : Option Item → Bool
is_stream (Some (item.Stream name receiver keep clock)) = true
is_stream _ = false

-- There is a declaration, and it is a temporal variable. An input is none.
abbrev pub is_temporal : Option Item → Bool
is_temporal (Some (item.Temporal name owner clock init depth)) = true
is_temporal _ = false

-- The depth of a temporal variable or an input, as it is written.
abbrev pub declared_depth : Option Item → Option ℕ
declared_depth (Some (item.Temporal name owner clock init depth)) = Some depth.value
declared_depth (Some (item.Input name clock init depth)) = Some depth.value
declared_depth _ = None

-- There is a declaration, and it is a function with n parameters.
abbrev pub has_params : ℕ → Option Item → Bool
has_params n (Some (item.Function name params locals stmts)) = nat_eq (length params) n
has_params n _ = false

-- The site is inside an agent.
abbrev pub in_agent : Site → Bool
in_agent site = site.inside && is_agent (own_item site)

-- The site is inside a function.
abbrev pub in_function : Site → Bool
in_function site = site.inside && is_function (own_item site)

-- A slot is a scalar, or an array.
abbrev pub slot_is_array : Bool → Option SlotName → Bool
slot_is_array array None = false
slot_is_array array (Some slot) = if slot.array then array else not array

-- What a name stands for is of the kind that its place asks for. A function uses nothing but its own
-- scalars and other functions.
abbrev pub suits_by : Site → Asks → Found → Bool
suits_by site asks.Clock (found.Item k) = is_clock (slice_get site.items k)
suits_by site asks.Parent (found.Item k) = is_clock (slice_get site.items k)
suits_by site asks.Agent (found.Item k) = is_agent (slice_get site.items k)
suits_by site asks.Value (found.Item k) = in_agent site && is_temporal (slice_get site.items k)
suits_by site asks.Value (found.Slot k) = slot_is_array false (slice_get (own_slots site) k)
suits_by site asks.Cell (found.Slot k) = in_agent site && slot_is_array true (slice_get (own_slots site) k)
suits_by site asks.Past (found.Item k) = not (is_none (declared_depth (slice_get site.items k)))
suits_by site asks.Target (found.Item k) = is_stream (slice_get site.items k)
suits_by site asks.Messages (found.Item k) = is_stream (slice_get site.items k)
suits_by site (asks.Call n) (found.Item k) = has_params n (slice_get site.items k)
suits_by site _ _ = false

-- The name stands for an agent, and for another than the one here.
abbrev pub other_agent : Site → Option Found → Bool
other_agent site (Some (found.Item k)) = is_agent (slice_get site.items k) && not (nat_eq k site.at)
other_agent site _ = false

-- It is a temporal variable, and its owner is another agent than the one here.
abbrev pub owner_elsewhere : Site → Option Item → Bool
owner_elsewhere site (Some (item.Temporal name owner clock init depth)) = other_agent site (stands_globally site.items owner.text)
owner_elsewhere site _ = false

-- It is a stream, and its receiver is another agent than the one here.
abbrev pub receiver_elsewhere : Site → Option Item → Bool
receiver_elsewhere site (Some (item.Stream name receiver keep clock)) = other_agent site (stands_globally site.items receiver.text)
receiver_elsewhere site _ = false

-- The name stands in `past`.
abbrev pub is_past : Asks → Bool
is_past asks.Past = true
is_past _ = false

-- The name is that of a clock's parent.
abbrev pub is_parent : Asks → Bool
is_parent asks.Parent = true
is_parent _ = false

-- The name stands in `ready` or `take`.
abbrev pub is_messages : Asks → Bool
is_messages asks.Messages = true
is_messages _ = false

-- The name is that of what is called.
abbrev pub is_call : Asks → Bool
is_call (asks.Call n) = true
is_call _ = false

-- ---- sound clocks

-- A clock's shift, which is 0 where none is written.
abbrev pub shift_of : Option Lit → ℕ
shift_of None = 0
shift_of (Some shift) = shift.value

-- The clock derived from one, where it is lawful.
abbrev pub lawful : Option Clock → ℕ → ℕ → Option Clock
lawful None n m = None
lawful (Some c) n m = if nat_lt m n && nat_le (n * c.period) PERIOD then Some (derived c n m) else None

-- The inner option, and None where the outer one is empty.
abbrev pub flat : {A : Type 0} → Option (Option A) → Option A
flat None = None
flat (Some x) = x

-- The clock that `tick` stands for: each tick is a date.
abbrev pub base : Clock
base = record { period = 1; first = 0 }

-- The known clock that was found, where what was found is one.
abbrev pub sound_found : List (Option Clock) → Option Found → Option Clock
sound_found known (Some (found.Item k)) = flat (slice_get known k)
sound_found known _ = None

-- The clock that a parent stands for, given the sound clocks above: tick, or a sound clock above.
abbrev pub sound_parent : List Item → List (Option Clock) → Option Name → Option Clock
sound_parent items known None = Some base
sound_parent items known (Some parent) = sound_found known (stands_globally items parent.text)

-- The clock of a declaration, where it is one and sound, given those of the declarations above it.
abbrev pub sound : List Item → List (Option Clock) → Item → Option Clock
sound items known (item.Clock name by parent shift) = lawful (sound_parent items known parent) by.value (shift_of shift)
sound items known _ = None

-- The known clocks, and then by declaration the sound clock that it is, given all before it.
abbrev pub sounds_from : List Item → List (Option Clock) → List Item → List (Option Clock)
sounds_from items known [] = known
sounds_from items known (i ∷ is) = sounds_from items (known ++ sound items known i ∷ []) is

-- By declaration, the sound clock that it is, for the first n of them.
abbrev pub sound_clocks : List Item → ℕ → List (Option Clock)
sound_clocks items n = sounds_from items [] (take n items)

-- Each clock among them is lawful.
abbrev pub AreClocks : List (Option Clock) → Type 0
AreClocks known = (k : ℕ) (c : Clock) → slice_get known k ≡ Some (Some c) → IsClock c

-- There is a clock, and n of its periods are longer than a period may be.
abbrev pub too_slow : Option Clock → ℕ → Bool
too_slow None n = false
too_slow (Some c) n = nat_lt PERIOD (n * c.period)

-- It is a clock, and its shift isn't below its factor, or its parent is sound and its period too long.
abbrev pub clock_at_fault : Site → Option Item → Bool
clock_at_fault site (Some (item.Clock name by parent shift)) =
    nat_le by.value (shift_of shift) || too_slow (sound_parent site.items (sound_clocks site.items site.at) parent) by.value
clock_at_fault site _ = false

-- ---- the kinds

-- The declaration gives this name.
abbrev pub declares : List ℕ → Item → Bool
declares text i = bytes_eq text (item_name i).text

-- The slot has this name.
abbrev pub names_slot : List ℕ → SlotName → Bool
names_slot text s = bytes_eq text s.name.text

-- 1 Twice, at the later of two declarations of one name, which both stand in the whole program, or one
-- there and one inside an agent or function, or both inside the same one.
abbrev pub is_twice : Site → Place → Bool
is_twice site (NamesItem name) = list_any (λ i. declares name.text i || list_any (names_slot name.text) (slots_of i)) (take site.at site.items)
is_twice site (NamesSlot k name) = list_any (declares name.text) (take (site.at + 1) site.items) || list_any (names_slot name.text) (take k (own_slots site))
is_twice site _ = false

-- What was found is a clock, at the place's own declaration or below it.
abbrev pub below : Site → Option Found → Bool
below site (Some (found.Item k)) = is_clock (slice_get site.items k) && nat_le site.at k
below site _ = false

-- 2 Unknown, where no declaration in reach has the name, or a clock's parent names a clock at or below it.
abbrev pub is_unknown : Site → Place → Bool
is_unknown site (Uses name what) = is_none (stands_for site name.text) || (is_parent what && below site (stands_for site name.text))
is_unknown site _ = false

-- Something was found, and it isn't what the place asks for.
abbrev pub unsuited : Site → Asks → Option Found → Bool
unsuited site what None = false
unsuited site what (Some f) = not (suits_by site what f)

-- 3 WrongKind, where a name is declared but not of the kind that the place asks for, a call's number of
-- arguments among that; and where a word of agents stands in a function, or `return` in an agent.
abbrev pub is_wrong_kind : Site → Place → Bool
is_wrong_kind site (Uses name what) = unsuited site what (stands_for site name.text)
is_wrong_kind site (Acts token) = in_function site
is_wrong_kind site (Returns token) = in_agent site
is_wrong_kind site _ = false

-- 4 NotOwner, where an agent names a temporal variable of another agent outside `past`.
abbrev pub is_not_owner : Site → Place → Bool
is_not_owner site (Uses name what) = in_agent site && not (is_past what) && owner_elsewhere site (item_at site.items (stands_for site name.text))
is_not_owner site _ = false

-- 5 NotReceiver, at `ready` or `take` by an agent that isn't the receiver.
abbrev pub is_not_receiver : Site → Place → Bool
is_not_receiver site (Uses name what) = in_agent site && is_messages what && receiver_elsewhere site (item_at site.items (stands_for site name.text))
is_not_receiver site _ = false

-- There is a depth, and the number is at least it.
abbrev pub reaches : ℕ → Option ℕ → Bool
reaches back None = false
reaches back (Some depth) = nat_le depth back

-- 6 TooDeep, at the number of a `past` that is at least the depth.
abbrev pub is_too_deep : Site → Place → Bool
is_too_deep site (LooksBack name back) = reaches back.value (declared_depth (item_at site.items (stands_for site name.text)))
is_too_deep site _ = false

-- 7 NoMax, at a loop without `max` that holds no `advance`.
abbrev pub is_no_max : Site → Place → Bool
is_no_max site (Loops token bounded advances quiet) = not bounded && not advances
is_no_max site _ = false

-- 8 MixedLoop, at a loop with `max` that holds an `advance`, or at one without it that holds one and has a
-- path through its body that has none.
abbrev pub is_mixed_loop : Site → Place → Bool
is_mixed_loop site (Loops token bounded advances quiet) = advances && (bounded || quiet)
is_mixed_loop site _ = false

-- 9 NoAdvance, where a path through an agent's body has no `advance`.
abbrev pub is_no_advance : Site → Place → Bool
is_no_advance site (HasBody token quiet) = quiet
is_no_advance site _ = false

-- What was found is a function, at the place's own declaration or below it.
abbrev pub function_from : Site → Option Found → Bool
function_from site (Some (found.Item k)) = is_function (slice_get site.items k) && nat_le site.at k
function_from site _ = false

-- 10 CallsDown, where a function calls one that doesn't stand above it.
abbrev pub is_calls_down : Site → Place → Bool
is_calls_down site (Uses name what) = in_function site && is_call what && function_from site (stands_for site name.text)
is_calls_down site _ = false

-- 11 BadClock, where the shift reaches the factor; also where the period is above 10,000 ticks and the
-- parent is `tick` or a sound clock above: one with lawful numbers whose own parent is so too.
abbrev pub is_bad_clock : Site → Place → Bool
is_bad_clock site (Derives name) = clock_at_fault site (own_item site)
is_bad_clock site _ = false

-- 12 BadNumber, at a number outside its range.
abbrev pub is_bad_number : Site → Place → Bool
is_bad_number site (Ranges number low high) = nat_lt number.value low || nat_lt high number.value
is_bad_number site _ = false

-- The place has a fault of this kind.
abbrev pub is_fault : RuleKind → Site → Place → Bool
is_fault kind.Twice = is_twice
is_fault kind.Unknown = is_unknown
is_fault kind.WrongKind = is_wrong_kind
is_fault kind.NotOwner = is_not_owner
is_fault kind.NotReceiver = is_not_receiver
is_fault kind.TooDeep = is_too_deep
is_fault kind.NoMax = is_no_max
is_fault kind.MixedLoop = is_mixed_loop
is_fault kind.NoAdvance = is_no_advance
is_fault kind.CallsDown = is_calls_down
is_fault kind.BadClock = is_bad_clock
is_fault kind.BadNumber = is_bad_number

-- The program has this fault, named by this token.
abbrev pub IsFault : Raw → RuleKind → ℕ → Type 0
IsFault raw kind token = (p : Sited) × Contains (places raw) p × (is_fault kind p.site p.place ≡ true) × (token_of p.place ≡ token)

-- The number of a kind.
abbrev pub rule_number : RuleKind → ℕ
rule_number kind.Twice = 1
rule_number kind.Unknown = 2
rule_number kind.WrongKind = 3
rule_number kind.NotOwner = 4
rule_number kind.NotReceiver = 5
rule_number kind.TooDeep = 6
rule_number kind.NoMax = 7
rule_number kind.MixedLoop = 8
rule_number kind.NoAdvance = 9
rule_number kind.CallsDown = 10
rule_number kind.BadClock = 11
rule_number kind.BadNumber = 12

-- By token, then by number.
abbrev pub NotAfter : RuleKind → ℕ → RuleKind → ℕ → Type 0
NotAfter k s l t = (s < t) ⊎ ((s ≡ t) × (rule_number k ≤ rule_number l))

-- It has this fault, and none before it.
pub record LeastFault (raw : Raw) (kind : RuleKind) (token : ℕ) : Type 0 where
  pub present : IsFault raw kind token
  pub least : (other : RuleKind) (at : ℕ) → IsFault raw other at → NotAfter kind token other at

-- It has no fault of any kind.
abbrev pub NoFault : Raw → Type 0
NoFault raw = (kind : RuleKind) (token : ℕ) → IsFault raw kind token → ⊥
