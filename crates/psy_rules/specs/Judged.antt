-- The least of the faults that were noted.
use Rattle.std.specs.Prelude.{ℕ, Bool, true, ◌&&◌, ◌||◌, nat_eq, nat_lt, if◌then◌else◌, List, [], ◌∷◌, Option, Some, None}
use Rattle.psy_tree.specs.declared.rules.RuleKind.{RuleKind}
use Rattle.psy_tree.specs.declared.rules.RuleKind.TheVariants as kind
use Rattle.psy_tree.specs.Scope.{Site}
use Rattle.psy_tree.specs.Places.{Place, NamesItem, NamesSlot, Derives, Uses, LooksBack, Acts, Returns, Loops, HasBody, Ranges, Sited}
use Rattle.psy_tree.specs.Rules.{rule_number, is_twice, is_unknown, is_wrong_kind, is_not_owner, is_not_receiver, is_too_deep, is_no_max}
use Rattle.psy_tree.specs.Rules.{is_mixed_loop, is_calls_down, is_bad_clock, is_bad_number}
use Rattle.psy_rules.specs.declared.least.RuleAt.{RuleAt}

-- No fault was noted, or one that comes after this.
abbrev pub is_before : RuleKind → ℕ → Option RuleAt → Bool
is_before k token None = true
is_before k token (Some least) = nat_lt token least.token || (nat_eq token least.token && nat_lt (rule_number k) (rule_number least.kind))

-- The least fault after one more is noted, where it is there.
unfoldable pub noted : Bool → RuleKind → ℕ → Option RuleAt → Option RuleAt
noted there k token least = if there && is_before k token least then Some (record { kind = k; token = token }) else least

-- The least fault after a place was judged
unfoldable pub judged : Site → Place → Option RuleAt → Option RuleAt
judged site (NamesItem name) l = noted (is_twice site (NamesItem name)) kind.Twice name.token l
judged site (NamesSlot k name) l = noted (is_twice site (NamesSlot k name)) kind.Twice name.token l
judged site (Derives name) l = noted (is_bad_clock site (Derives name)) kind.BadClock name.token l
judged site (Uses name what) l =
    noted (is_calls_down site (Uses name what)) kind.CallsDown name.token
    (noted (is_not_receiver site (Uses name what)) kind.NotReceiver name.token
    (noted (is_not_owner site (Uses name what)) kind.NotOwner name.token
    (noted (is_wrong_kind site (Uses name what)) kind.WrongKind name.token
    (noted (is_unknown site (Uses name what)) kind.Unknown name.token l))))
judged site (LooksBack name back) l = noted (is_too_deep site (LooksBack name back)) kind.TooDeep back.token l
judged site (Acts token) l = noted (is_wrong_kind site (Acts token)) kind.WrongKind token l
judged site (Returns token) l = noted (is_wrong_kind site (Returns token)) kind.WrongKind token l
judged site (Loops token bounded advances quiet) l =
    noted (is_mixed_loop site (Loops token bounded advances quiet)) kind.MixedLoop token
    (noted (is_no_max site (Loops token bounded advances quiet)) kind.NoMax token l)
judged site (HasBody token quiet) l = noted quiet kind.NoAdvance token l
judged site (Ranges number low high) l = noted (is_bad_number site (Ranges number low high)) kind.BadNumber number.token l

-- After places at one site, in order
abbrev pub judged_all : Site → List Place → Option RuleAt → Option RuleAt
judged_all site [] l = l
judged_all site (p ∷ ps) l = judged_all site ps (judged site p l)

-- After places wherever they stand
abbrev pub judged_sited : List Sited → Option RuleAt → Option RuleAt
judged_sited [] l = l
judged_sited (p ∷ ps) l = judged_sited ps (judged p.site p.place l)
