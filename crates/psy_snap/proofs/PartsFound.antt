-- Values, cells and figures are found where the bytes spell them.
use Rattle.std.proofs.Common.{◌≡◌, ◌∙◌, ℕ, zero, suc, ◌+◌, ◌^◌, ◌<◌, ◌≤◌, ◌||◌, Bool, true, false, cond, eqb, ltb, List, [], ◌∷◌, ◌++◌, append-nil, map, length, Option, Some, None, Result, Ok, refl, sym, ap, subst, arith}
use Rattle.std.specs.Prelude.{ℤ, FitsSigned, slice_get}
use Rattle.std.specs.Int.{w32, cast_signed, cast_unsigned}
use Rattle.std.specs.List.{All, flat_map, range_with_len}
use Rattle.std.specs.Ordering.{int_eq}
use Rattle.std.proofs.lemmas.Bool.{eqb-true, le-ltb, ltb-true}
use Rattle.std.proofs.lemmas.Bool.Decides.{Decides-int_eq}
use Rattle.std.proofs.lemmas.Int.{to_z-of_z}
use Rattle.std.proofs.lemmas.List.Elements.{All-head, All-tail}
use mir.Syntax.{Width}
use mir.Val.{bits}
use mir.ValLaws.{of_z_fits}
use Rattle.psy_history.specs.Openings.{HasFigure}
use Rattle.psy_lists.proofs.lemmas.Tests.{differ}
use Rattle.psy_snap.specs.declared.fault.ReadError.{ReadError}
use Rattle.psy_snap.specs.declared.limits.TheConstants.{FIGURE}
use Rattle.psy_snap.specs.Bytes.{long_bytes, number_bytes, reach_bytes, slack_bytes}
use Rattle.psy_snap.specs.Cuts.{Ask, flag_after, long_below, one_of, up_to}
use Rattle.psy_snap.specs.Ranges.{IfThere, IsLong, IsShort}
use Rattle.psy_snap.specs.Reading.{each_at, field_at, figures_at, go_on, kept_ask, reach_at, said_at, slack_at, unless_wrong}
use Rattle.psy_snap.proofs.Finds.{Both, Finds, Rights, finds_each, finds_field, finds_none, finds_said, finds_then, finds_weaker}
use Rattle.psy_snap.proofs.Spelled.{AllAre, IsLong as HasWidth, Pairs, bytes_as, most_as}
use Rattle.psy_snap.proofs.Steps.{go_on_ok, ok_is}

-- ---- a number that begins a part

pub record IsRight (wrong : Bool) (n m : ℕ) (mid rest : List ℕ) : Type 0 where
  pub off : wrong ≡ false
  pub same : n ≡ m
  pub behind : mid ≡ rest

right_by : (wrong : Bool) (number n : ℕ) (mid : List ℕ) (left m : ℕ) (rest : List ℕ) → unless_wrong wrong number n mid left ≡ Ok (m, rest) → IsRight wrong n m mid rest
right_by true number n mid left m rest e = absurd cc
right_by false number n mid left m rest e =
    let same : (n, mid) ≡ (m, rest) = ok_is (n, mid) (m, rest) e in
    record { off = refl; same = ap (λ p. p.0) same; behind = ap (λ p. p.1) same }

-- It is read only where the part isn't wrong.
pub finds_unless : (ask : Ask) (wrong : ℕ → List ℕ → Bool) (number n : ℕ) → n < most_as ask.long
    → Finds (λ bytes. go_on (field_at ask bytes) (λ m more. unless_wrong (wrong m bytes) number m more (length bytes))) (bytes_as ask.long n) n
    (λ rest. Both (ask.range n ≡ true) (wrong n (bytes_as ask.long n ++ rest) ≡ false))
finds_unless ask wrong number n small = record {
  found = λ rest x last e.
      let bytes = bytes_as ask.long n ++ rest in
      let (m, mid, e1, e2) = go_on_ok (field_at ask bytes) (λ m more. unless_wrong (wrong m bytes) number m more (length bytes)) x last e in
      let it = (finds_field ask n small).found rest m mid e1 in
      let right = right_by (wrong m bytes) number m mid (length bytes) x last e2 in
      record {
        is = sym right.same ∙ it.is;
        behind = sym right.behind ∙ it.behind;
        holds = record { first = it.holds; second = ap (λ k. wrong k bytes) (sym it.is) ∙ right.off };
      };
}

-- ---- numbers with a sign

-- It has the width that is asked for.
pub record IsSigned (w : Width) (long : Bool) (ask : Ask) (z : ℤ) : Type 0 where
  pub wide : ask.long ≡ long
  pub fits : FitsSigned w z

module _ (w : Width) (long : Bool) (most : 2 ^ bits w ≡ most_as long) where
  abbrev spell : ℤ → List ℕ
  spell z = bytes_as long (cast_unsigned w z)

  abbrev Passes : Ask → ℤ → Type 0
  Passes ask z = ask.range (cast_unsigned w z) ≡ true

  finds_signed : (ask : Ask) (before : List ℤ) (z : ℤ) → IsSigned w long ask z → Finds (said_at (cast_signed w) ask before) (spell z) (before ++ z ∷ []) (λ rest. Passes ask z)
  finds_signed ask before z good =
      let n = cast_unsigned w z in
      let small : n < most_as long = subst (λ m. n < m) most (of_z_fits w z good.fits).fits in
      let said = finds_said (field_at ask) (λ m. before ++ cast_signed w m ∷ []) (bytes_as ask.long n) n (finds_field ask n (subst (λ b. n < most_as b) (sym good.wide) small)) in
      subst (λ y. Finds (said_at (cast_signed w) ask before) (spell z) (before ++ y ∷ []) (λ rest. Passes ask z)) (to_z-of_z w z good.fits)
      (subst (λ b. Finds (said_at (cast_signed w) ask before) (bytes_as b n) (before ++ cast_signed w n ∷ []) (λ rest. Passes ask z)) good.wide said)

  are_signed : (asks : List Ask) (zs : List ℤ) → length zs ≡ length asks → AllAre (HasWidth long) asks → All (FitsSigned w) zs → Pairs (IsSigned w long) asks zs
  are_signed [] [] same wide fits = tt
  are_signed [] (z ∷ zs) same wide fits = absurd (omega (arith, same))
  are_signed (ask ∷ asks) [] same wide fits = absurd (omega (arith, same))
  are_signed (ask ∷ asks) (z ∷ zs) same wide fits =
      (record { wide = wide.0; fits = All-head (FitsSigned w) z zs fits }, are_signed asks zs (omega (arith, same)) wide.1 (All-tail (FitsSigned w) z zs fits))

  pub finds_all_signed : (asks : List Ask) (zs : List ℤ) → length zs ≡ length asks → AllAre (HasWidth long) asks → All (FitsSigned w) zs
      → Finds (each_at (said_at (cast_signed w)) asks []) (flat_map spell zs) zs (λ rest. Rights (λ ask before z. Passes ask z) asks [] zs)
  finds_all_signed asks zs same wide fits =
      finds_each spell (said_at (cast_signed w)) (IsSigned w long) (λ ask before z. Passes ask z) finds_signed asks [] zs (are_signed asks zs same wide fits)

-- Behind those that were published a ring's values are the first one.
first_by : (published back n : ℕ) (value init : ℤ) → published ≤ back → value ≡ cast_signed w32 n → (kept_ask published init back).range n ≡ true → value ≡ init
first_by published back n value init le is passes =
    let off : ltb back published ≡ false = le-ltb back published le in
    is ∙ (Decides-int_eq (cast_signed w32 n) init).0 (sym (ap (λ b. b || int_eq (cast_signed w32 n) init) off) ∙ passes)

pub ring_right : (published : ℕ) (init : ℤ) (start size : ℕ) (before values : List ℤ) → length values ≡ size → All (FitsSigned w32) values
    → Rights (λ (ask : Ask) before z. ask.range (cast_unsigned w32 z) ≡ true) (map (kept_ask published init) (range_with_len start size)) before values
    → (back : ℕ) (value : ℤ) → slice_get values back ≡ Some value → published ≤ start + back → value ≡ init
ring_right published init start zero before [] same fits right back value there le = absurd cc
ring_right published init start zero before (z ∷ values) same fits right back value there le = absurd (omega (arith, same))
ring_right published init start (suc size) before [] same fits right back value there le = absurd (omega (arith, same))
ring_right published init start (suc size) before (z ∷ values) same fits right zero value there le =
    let is : z ≡ value = cc in
    first_by published start (cast_unsigned w32 z) value init (omega (arith, le)) (sym is ∙ sym (to_z-of_z w32 z (All-head (FitsSigned w32) z values fits))) right.first
ring_right published init start (suc size) before (z ∷ values) same fits right (suc back) value there le =
    ring_right published init (start + 1) size (before ++ z ∷ []) values (omega (arith, same)) (All-tail (FitsSigned w32) z values fits) right.second back value there (omega (arith, le))

-- ---- figures

flag_off : (none : Bool) → eqb 0 (cond none 0 1) ≡ true → none ≡ true
flag_off true e = refl
flag_off false e = differ (sym e)

flag_on : (none : Bool) → eqb 1 (cond none 0 1) ≡ true → none ≡ false
flag_on true e = differ (sym e)
flag_on false e = refl

flag_none : (count : ℕ) → eqb 0 (cond (eqb count 0) 0 1) ≡ true → count ≡ 0
flag_none count e = eqb-true count 0 (flag_off (eqb count 0) e)

flag_some : (count : ℕ) → eqb 1 (cond (eqb count 0) 0 1) ≡ true → 1 ≤ count
flag_some zero e = differ (flag_on true e)
flag_some (suc count) e = omega arith

pub record AreFigures (number : ℕ) (least : Option ℕ) : Type 0 where
  pub count : number < FIGURE
  pub slack : HasFigure number least

abbrev figures_by : ℕ → ℕ → List ℕ → Result ((ℕ × Option ℕ) × List ℕ) ReadError
figures_by count flag more = go_on (slack_at flag more) (λ slack last. Ok ((count, slack), last))

abbrev counted : ℕ → List ℕ → Result ((ℕ × Option ℕ) × List ℕ) ReadError
counted count rest = go_on (field_at (flag_after count) rest) (figures_by count)

abbrev Counted : ℕ → Option ℕ → Type 0
Counted count slack = (long_below FIGURE).range count ≡ true → AreFigures count slack

finds_counted : (count : ℕ) (slack : Option ℕ) → IfThere IsLong slack → Finds (counted count) (slack_bytes slack) (count, slack) (λ rest. Counted count slack)
finds_counted count None there =
    let all = finds_then (field_at (flag_after count)) (figures_by count) (number_bytes 0) [] 0 (count, None) (finds_field (flag_after count) 0 (omega arith))
    (finds_said (slack_at 0) (λ slack. (count, slack)) [] None (finds_none None)) in
    subst (λ bs. Finds (counted count) bs (count, None) (λ rest. Counted count None)) (append-nil (number_bytes 0))
    (finds_weaker (counted count) (number_bytes 0 ++ []) (count, None) (λ rest h below. record { count = ltb-true _ _ below; slack = flag_none count h.first }) all)
finds_counted count (Some n) there =
    let all = finds_then (field_at (flag_after count)) (figures_by count) (number_bytes 1) (long_bytes n) 1 (count, Some n) (finds_field (flag_after count) 1 (omega arith))
    (finds_said (slack_at 1) (λ slack. (count, slack)) (long_bytes n) (Some n)
    (finds_said (field_at (long_below FIGURE)) (λ n. Some n) (long_bytes n) n (finds_field (long_below FIGURE) n there))) in
    finds_weaker (counted count) (number_bytes 1 ++ long_bytes n) (count, Some n)
    (λ rest h below. record { count = ltb-true _ _ below; slack = (flag_some count h.first, ltb-true _ _ h.second) }) all

pub finds_figures : (count : ℕ) (slack : Option ℕ) → IsLong count → IfThere IsLong slack → Finds figures_at (long_bytes count ++ slack_bytes slack) (count, slack) (λ rest. AreFigures count slack)
unfolding figures_at
finds_figures count slack small there =
    finds_weaker figures_at (long_bytes count ++ slack_bytes slack) (count, slack) (λ rest h. h.second h.first)
    (finds_then (field_at (long_below FIGURE)) counted (long_bytes count) (slack_bytes slack) count (count, slack) (finds_field (long_below FIGURE) count small) (finds_counted count slack there))

-- ---- REACH

abbrev pub ReachRight : ℕ → Option ℕ → Type 0
ReachRight size reach = (n : ℕ) → reach ≡ Some n → n < size

some_is : {A : Type 0} (x y : A) → Some x ≡ Some y → x ≡ y
some_is x y e = cc

abbrev reached : {B : Type 0} → ℕ → (Option ℕ → B) → List ℕ → Result (B × List ℕ) ReadError
reached size say bytes = go_on (field_at (up_to 1) bytes) (λ flag more. go_on (reach_at size flag more) (λ reach last. Ok (say reach, last)))

pub finds_reach : {B : Type 0} (size : ℕ) (say : Option ℕ → B) (reach : Option ℕ) → IfThere IsShort reach
    → Finds (reached size say) (reach_bytes reach) (say reach) (λ rest. ReachRight size reach)
finds_reach size say None there =
    let all = finds_then (field_at (up_to 1)) (λ flag more. go_on (reach_at size flag more) (λ reach last. Ok (say reach, last))) (number_bytes 0) [] 0 (say None) (finds_field (up_to 1) 0 (omega arith))
    (finds_said (reach_at size 0) say [] None (finds_none None)) in
    subst (λ bs. Finds (reached size say) bs (say None) (λ rest. ReachRight size None)) (append-nil (number_bytes 0))
    (finds_weaker (reached size say) (number_bytes 0 ++ []) (say None) (λ rest h n is. absurd cc) all)
finds_reach size say (Some m) there =
    let all = finds_then (field_at (up_to 1)) (λ flag more. go_on (reach_at size flag more) (λ reach last. Ok (say reach, last))) (number_bytes 1) (number_bytes m) 1 (say (Some m))
    (finds_field (up_to 1) 1 (omega arith))
    (finds_said (reach_at size 1) say (number_bytes m) (Some m) (finds_said (field_at (one_of size)) (λ n. Some n) (number_bytes m) m (finds_field (one_of size) m there))) in
    finds_weaker (reached size say) (number_bytes 1 ++ number_bytes m) (say (Some m)) (λ rest h n is. subst (λ k. k < size) (some_is m n is) (ltb-true _ _ h.second)) all
