-- Reading values, cells and figures goes well where they are right.
use Rattle.std.proofs.Common.{◌≡◌, ◌∙◌, ℕ, zero, suc, ◌+◌, ◌^◌, ◌<◌, ◌≤◌, ◌||◌, Bool, true, false, cond, eqb, ltb, List, [], ◌∷◌, ◌++◌, append-nil, map, length, Option, Some, None, Result, Ok, refl, sym, ap, subst, arith, inl, inr}
use Rattle.std.specs.Prelude.{ℤ, FitsSigned, slice_get}
use Rattle.std.specs.Int.{w32, cast_signed, cast_unsigned}
use Rattle.std.specs.List.{All, flat_map, range_with_len}
use Rattle.std.specs.Ordering.{int_eq}
use Rattle.std.proofs.lemmas.Bool.{cases_lt, lt-ltb, ne_eqb}
use Rattle.std.proofs.lemmas.Bool.Decides.{Decides-int_eq}
use Rattle.std.proofs.lemmas.Int.{to_z-of_z}
use Rattle.std.proofs.lemmas.List.Elements.{All-head, All-tail}
use mir.Syntax.{Width}
use mir.Val.{bits}
use mir.ValLaws.{of_z_fits}
use Rattle.psy_snap.specs.declared.fault.ReadError.{ReadError}
use Rattle.psy_snap.specs.declared.limits.TheConstants.{FIGURE}
use Rattle.psy_snap.specs.Bytes.{long_bytes, number_bytes, reach_bytes, slack_bytes}
use Rattle.psy_snap.specs.Cuts.{Ask, flag_after, long_below, one_of, up_to}
use Rattle.psy_snap.specs.Ranges.{IfThere, IsLong, IsShort}
use Rattle.psy_snap.specs.Reading.{each_at, field_at, figures_at, go_on, kept_ask, reach_at, said_at, slack_at}
use Rattle.psy_snap.proofs.Finds.{Rights}
use Rattle.psy_snap.proofs.Goes.{Goes, goes_each, goes_field, goes_none, goes_said, goes_then, goes_where}
use Rattle.psy_snap.proofs.PartsFound.{AreFigures, ReachRight}
use Rattle.psy_snap.proofs.Spelled.{AllAre, IsLong as HasWidth, Pairs, bytes_as, most_as}

-- ---- numbers with a sign

-- It has the width that is asked for.
pub record IsSigned (w : Width) (long : Bool) (ask : Ask) (z : ℤ) : Type 0 where
  pub wide : ask.long ≡ long
  pub fits : FitsSigned w z

module _ (w : Width) (long : Bool) (most : 2 ^ bits w ≡ most_as long) where
  abbrev spell : ℤ → List ℕ
  spell z = bytes_as long (cast_unsigned w z)

  abbrev Passes : Ask → ℤ → Type 0
  Passes ask z = ask.range (cast_unsigned w z) ≡ true

  goes_signed : (ask : Ask) (before : List ℤ) (z : ℤ) → IsSigned w long ask z → Goes (said_at (cast_signed w) ask before) (spell z) (before ++ z ∷ []) (λ rest. Passes ask z)
  goes_signed ask before z good =
      let n = cast_unsigned w z in
      let small : n < most_as long = subst (λ m. n < m) most (of_z_fits w z good.fits).fits in
      let said = goes_said (field_at ask) (λ m. before ++ cast_signed w m ∷ []) (bytes_as ask.long n) n (goes_field ask n (subst (λ b. n < most_as b) (sym good.wide) small)) in
      subst (λ y. Goes (said_at (cast_signed w) ask before) (spell z) (before ++ y ∷ []) (λ rest. Passes ask z)) (to_z-of_z w z good.fits)
      (subst (λ b. Goes (said_at (cast_signed w) ask before) (bytes_as b n) (before ++ cast_signed w n ∷ []) (λ rest. Passes ask z)) good.wide said)

  are_signed : (asks : List Ask) (zs : List ℤ) → length zs ≡ length asks → AllAre (HasWidth long) asks → All (FitsSigned w) zs → Pairs (IsSigned w long) asks zs
  are_signed [] [] same wide fits = tt
  are_signed [] (z ∷ zs) same wide fits = absurd (omega (arith, same))
  are_signed (ask ∷ asks) [] same wide fits = absurd (omega (arith, same))
  are_signed (ask ∷ asks) (z ∷ zs) same wide fits =
      (record { wide = wide.0; fits = All-head (FitsSigned w) z zs fits }, are_signed asks zs (omega (arith, same)) wide.1 (All-tail (FitsSigned w) z zs fits))

  pub goes_all_signed : (asks : List Ask) (zs : List ℤ) → length zs ≡ length asks → AllAre (HasWidth long) asks → All (FitsSigned w) zs
      → Goes (each_at (said_at (cast_signed w)) asks []) (flat_map spell zs) zs (λ rest. Rights (λ ask before z. Passes ask z) asks [] zs)
  goes_all_signed asks zs same wide fits =
      goes_each spell (said_at (cast_signed w)) (IsSigned w long) (λ ask before z. Passes ask z) goes_signed asks [] zs (are_signed asks zs same wide fits)

-- Any number is in the range of an ask for any.
pub any_rights : (asks : List Ask) (before zs : List ℤ) → AllAre (λ (ask : Ask). (n : ℕ) → ask.range n ≡ true) asks → Rights (λ (ask : Ask) before z. ask.range (cast_unsigned w32 z) ≡ true) asks before zs
any_rights [] before zs any = tt
any_rights (ask ∷ asks) before [] any = tt
any_rights (ask ∷ asks) before (z ∷ zs) any = record { first = any.0 (cast_unsigned w32 z); second = any_rights asks (before ++ z ∷ []) zs any.1 }

or_true : (a : Bool) → (a || true) ≡ true
or_true true = refl
or_true false = refl

-- A value of a ring passes where it is published, or the first one.
kept_passes : (published back : ℕ) (z init : ℤ) → FitsSigned w32 z → (published ≤ back → z ≡ init) → (kept_ask published init back).range (cast_unsigned w32 z) ≡ true
kept_passes published back z init fits first =
    let read : cast_signed w32 (cast_unsigned w32 z) ≡ z = to_z-of_z w32 z fits in
    elim (cases_lt back published) [
      | inl less ↦ ap (λ b. b || int_eq (cast_signed w32 (cast_unsigned w32 z)) init) (lt-ltb back published less)
      | inr le ↦ ap (λ b. ltb back published || b) ((Decides-int_eq (cast_signed w32 (cast_unsigned w32 z)) init).1 (read ∙ first le)) ∙ or_true (ltb back published)
    ]

pub ring_rights : (published : ℕ) (init : ℤ) (start size : ℕ) (before values : List ℤ) → All (FitsSigned w32) values
    → ((back : ℕ) (value : ℤ) → slice_get values back ≡ Some value → published ≤ start + back → value ≡ init)
    → Rights (λ (ask : Ask) before z. ask.range (cast_unsigned w32 z) ≡ true) (map (kept_ask published init) (range_with_len start size)) before values
ring_rights published init start zero before values fits first = tt
ring_rights published init start (suc size) before [] fits first = tt
ring_rights published init start (suc size) before (z ∷ values) fits first = record {
  first = kept_passes published start z init (All-head (FitsSigned w32) z values fits) (λ le. first 0 z refl (omega (arith, le)));
  second = ring_rights published init (start + 1) size (before ++ z ∷ []) values (All-tail (FitsSigned w32) z values fits)
      (λ back value there le. first (suc back) value there (omega (arith, le)));
}

-- ---- figures

flag_some : (count : ℕ) → 1 ≤ count → eqb 1 (cond (eqb count 0) 0 1) ≡ true
flag_some count some = ap (λ none. eqb 1 (cond none 0 1)) (ne_eqb count 0 (λ none. absurd (omega (arith, none, some))))

abbrev figures_by : ℕ → ℕ → List ℕ → Result ((ℕ × Option ℕ) × List ℕ) ReadError
figures_by count flag more = go_on (slack_at flag more) (λ slack last. Ok ((count, slack), last))

abbrev counted : ℕ → List ℕ → Result ((ℕ × Option ℕ) × List ℕ) ReadError
counted count rest = go_on (field_at (flag_after count) rest) (figures_by count)

goes_counted : (count : ℕ) (slack : Option ℕ) → IfThere IsLong slack → Goes (counted count) (slack_bytes slack) (count, slack) (λ rest. AreFigures count slack)
goes_counted count None there =
    let all = goes_then (field_at (flag_after count)) (figures_by count) (number_bytes 0) [] 0 (count, None) (goes_field (flag_after count) 0 (omega arith))
    (goes_said (slack_at 0) (λ slack. (count, slack)) [] None (goes_none None)) in
    subst (λ bs. Goes (counted count) bs (count, None) (λ rest. AreFigures count None)) (append-nil (number_bytes 0))
    (goes_where (counted count) (number_bytes 0 ++ []) (count, None) (λ rest are. record { first = ap (λ n. eqb 0 (cond (eqb n 0) 0 1)) are.slack; second = tt }) all)
goes_counted count (Some n) there =
    let all = goes_then (field_at (flag_after count)) (figures_by count) (number_bytes 1) (long_bytes n) 1 (count, Some n) (goes_field (flag_after count) 1 (omega arith))
    (goes_said (slack_at 1) (λ slack. (count, slack)) (long_bytes n) (Some n)
    (goes_said (field_at (long_below FIGURE)) (λ n. Some n) (long_bytes n) n (goes_field (long_below FIGURE) n there))) in
    goes_where (counted count) (number_bytes 1 ++ long_bytes n) (count, Some n)
    (λ rest are. record { first = flag_some count are.slack.0; second = lt-ltb n FIGURE are.slack.1 }) all

pub goes_figures : (count : ℕ) (slack : Option ℕ) → IsLong count → IfThere IsLong slack → Goes figures_at (long_bytes count ++ slack_bytes slack) (count, slack) (λ rest. AreFigures count slack)
unfolding figures_at
goes_figures count slack small there =
    goes_where figures_at (long_bytes count ++ slack_bytes slack) (count, slack) (λ rest are. record { first = lt-ltb count FIGURE are.count; second = are })
    (goes_then (field_at (long_below FIGURE)) counted (long_bytes count) (slack_bytes slack) count (count, slack) (goes_field (long_below FIGURE) count small) (goes_counted count slack there))

-- ---- REACH

abbrev reached : {B : Type 0} → ℕ → (Option ℕ → B) → List ℕ → Result (B × List ℕ) ReadError
reached size say bytes = go_on (field_at (up_to 1) bytes) (λ flag more. go_on (reach_at size flag more) (λ reach last. Ok (say reach, last)))

pub goes_reach : {B : Type 0} (size : ℕ) (say : Option ℕ → B) (reach : Option ℕ) → IfThere IsShort reach
    → Goes (reached size say) (reach_bytes reach) (say reach) (λ rest. ReachRight size reach)
goes_reach size say None there =
    let all = goes_then (field_at (up_to 1)) (λ flag more. go_on (reach_at size flag more) (λ reach last. Ok (say reach, last))) (number_bytes 0) [] 0 (say None) (goes_field (up_to 1) 0 (omega arith))
    (goes_said (reach_at size 0) say [] None (goes_none None)) in
    subst (λ bs. Goes (reached size say) bs (say None) (λ rest. ReachRight size None)) (append-nil (number_bytes 0))
    (goes_where (reached size say) (number_bytes 0 ++ []) (say None) (λ rest right. record { first = refl; second = tt }) all)
goes_reach size say (Some m) there =
    let all = goes_then (field_at (up_to 1)) (λ flag more. go_on (reach_at size flag more) (λ reach last. Ok (say reach, last))) (number_bytes 1) (number_bytes m) 1 (say (Some m))
    (goes_field (up_to 1) 1 (omega arith))
    (goes_said (reach_at size 1) say (number_bytes m) (Some m) (goes_said (field_at (one_of size)) (λ n. Some n) (number_bytes m) m (goes_field (one_of size) m there))) in
    goes_where (reached size say) (number_bytes 1 ++ number_bytes m) (say (Some m)) (λ rest right. record { first = refl; second = lt-ltb m size (right m refl) }) all
