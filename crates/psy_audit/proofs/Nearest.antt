-- Of actions that are apart, those that tell which are pending.
use Rattle.std.proofs.Common.{◌≡◌, ◌∙◌, refl, sym, ap, subst, ℕ, zero, suc, ◌-◌, ◌<◌, ◌≤◌, Bool, true, false, cond, ◌&&◌, ◌||◌, List, [], ◌∷◌, ◌++◌, inl, inr, nat_le, nat_lt, arith, length, get_or, take, drop, filter, map}
use Rattle.std.specs.List.{All}
use Rattle.std.proofs.lemmas.Bool.{cases_lt, le-ltb, lt-leb}
use Rattle.std.proofs.lemmas.List.Quantifiers.{all_pairs_push}
use Rattle.psy_audit.specs.declared.waits.Wait.{Wait}
use Rattle.psy_audit.specs.Apart.{AreApart, IsBefore, IsSteady}
use Rattle.psy_audit.specs.Courses.{is_unfinished}
use Rattle.psy_audit.specs.Waits.{is_waiting, pending_in}
use Rattle.psy_audit.proofs.Edges.{waits_steady}

-- ---- one more

one_less : (k : ℕ) → suc k - 1 ≡ k
one_less k = omega arith

-- One that is released when the last of some that are apart is over is apart from all of them.
pub apart_more : (list : List Wait) (wait : Wait) → AreApart list → ((d : Wait) → 0 < length list → IsBefore (get_or list (length list - 1) d) wait) → AreApart (list ++ wait ∷ [])
apart_more list wait apart last = all_pairs_push IsBefore list wait apart (λ k d less.
    (let end : IsBefore (get_or list (length list - 1) d) wait = last d (omega (arith, less)) in
    elim (cases_lt k (length list - 1)) [
      | inl far ↦ (
          let this : IsBefore (get_or list k d) (get_or list (length list - 1) d) = apart k (length list - 1) d far (omega (arith, less)) in
          record { finished = this.finished; over = omega (arith, this.over, end.released); released = omega (arith, this.released, end.released) })
      | inr near ↦ (let is : length list - 1 ≡ k = omega (arith, less, near) in subst (λ n. IsBefore (get_or list n d) wait) is end)
    ]))

-- ---- actions that aren't pending

none_both : (b : Bool) → (b && false) ≡ false
none_both true = refl
none_both false = refl

module _ (c : ℕ) where
  not_released : (w : Wait) → c < w.from → is_waiting c w ≡ false
  not_released w late = ap (λ b. b && (is_unfinished w.act.ending || nat_lt c w.past)) (lt-leb w.from c late)

  over_by : (w : Wait) → is_unfinished w.act.ending ≡ false → w.past ≤ c → is_waiting c w ≡ false
  over_by w finished over =
      ap (λ b. nat_le w.from c && (b || nat_lt c w.past)) finished ∙ ap (λ b. nat_le w.from c && b) (le-ltb c w.past over) ∙ none_both (nat_le w.from c)

  none_released : (list : List Wait) → ((k : ℕ) (d : Wait) → k < length list → c < (get_or list k d).from) → filter (is_waiting c) list ≡ []
  none_released [] late = refl
  none_released (w ∷ list) late =
      let this : c < w.from = late 0 w (omega arith) in
      ap (λ b. cond b (w ∷ filter (is_waiting c) list) (filter (is_waiting c) list)) (not_released w this)
      ∙ none_released list (λ k d less. late (suc k) d (omega (arith, less)))

  -- ---- the first two, and two behind others

  first_two : (list : List Wait) → AreApart list → ((d : Wait) → 1 < length list → c < (get_or list 1 d).from)
      → filter (is_waiting c) list ≡ filter (is_waiting c) (take 2 list)
  first_two [] apart late = refl
  first_two (x ∷ []) apart late = refl
  first_two (x ∷ v ∷ rest) apart late =
      let here : c < v.from = late v (omega arith) in
      let none : filter (is_waiting c) rest ≡ [] = none_released rest (λ k d less.
      (let before : v.from ≤ (get_or rest k d).from = (apart 1 (suc (suc k)) d (omega arith) (omega (arith, less))).released in omega (arith, here, before))) in
      ap (λ xs. cond (is_waiting c x) (x ∷ cond (is_waiting c v) (v ∷ xs) xs) (cond (is_waiting c v) (v ∷ xs) xs)) none

  two_behind : (k : ℕ) (list : List Wait) → AreApart list → k < length list → ((d : Wait) → (get_or list k d).from ≤ c)
      → ((d : Wait) → suc k < length list → c < (get_or list (suc k) d).from) → filter (is_waiting c) list ≡ filter (is_waiting c) (take 2 (drop k list))
  two_behind k [] apart less come late = absurd (omega (arith, less))
  two_behind zero (x ∷ list) apart less come late = first_two (x ∷ list) apart late
  two_behind (suc k) (x ∷ list) apart less come late =
      let in_it : k < length list = omega (arith, less) in
      let before : IsBefore x (get_or list k x) = apart 0 (suc k) x (omega arith) (omega (arith, less)) in
      let at : (get_or list k x).from ≤ c = come x in
      let most : x.past ≤ (get_or list k x).from = before.over in
      let over : x.past ≤ c = omega (arith, most, at) in
      ap (λ b. cond b (x ∷ filter (is_waiting c) list) (filter (is_waiting c) list)) (over_by x before.finished over)
      ∙ two_behind k list (λ i j d low high. apart (suc i) (suc j) d (omega (arith, low)) (omega (arith, high))) in_it come (λ d more. late d (omega (arith, more)))

  pub two_tell : (place : ℕ) (list : List Wait) → AreApart list → place ≤ length list → ((d : Wait) → 0 < place → (get_or list (place - 1) d).from ≤ c)
      → ((d : Wait) → place < length list → c < (get_or list place d).from) → filter (is_waiting c) list ≡ filter (is_waiting c) (take 2 (drop (place - 1) list))
  two_tell zero list apart within come late = first_two list apart (λ d more.
      (let first : c < (get_or list 0 d).from = late d (omega (arith, more)) in
      let rise : (get_or list 0 d).from ≤ (get_or list 1 d).from = (apart 0 1 d (omega arith) more).released in
      omega (arith, first, rise)))
  two_tell (suc k) list apart within come late =
      let less : k < length list = omega (arith, within) in
      subst (λ n. filter (is_waiting c) list ≡ filter (is_waiting c) (take 2 (drop n list))) (sym (one_less k))
      (two_behind k list apart less (λ d. subst (λ n. (get_or list n d).from ≤ c) (one_less k) (come d (omega arith))) late)

-- ---- what holds of the two holds of the next one to be released

module _ (P : Wait → Type 0) where
  second_one : (k : ℕ) (list : List Wait) (d : Wait) → suc k < length list → All P (take 2 (drop k list)) → P (get_or list (suc k) d)
  second_one k [] d less all = absurd (omega (arith, less))
  second_one zero (x ∷ []) d less all = absurd (omega (arith, less))
  second_one zero (x ∷ v ∷ rest) d less all = all 1 d (omega arith)
  second_one (suc k) (x ∷ list) d less all = second_one k list d (omega (arith, less)) all

  first_one : (list : List Wait) (d : Wait) → 0 < length list → All P (take 2 list) → P (get_or list 0 d)
  first_one [] d less all = absurd (omega (arith, less))
  first_one (x ∷ []) d less all = all 0 d (omega arith)
  first_one (x ∷ v ∷ rest) d less all = all 0 d (omega arith)

  next_one : (place : ℕ) (list : List Wait) (d : Wait) → place < length list → All P (take 2 (drop (place - 1) list)) → P (get_or list place d)
  next_one zero list d less all = first_one list d less all
  next_one (suc k) list d less all = second_one k list d less (subst (λ n. All P (take 2 (drop n list))) (one_less k) all)

-- ---- and so what is pending goes on

pub two_now : (cycle place : ℕ) (list : List Wait) → AreApart list → place ≤ length list → ((d : Wait) → 0 < place → (get_or list (place - 1) d).from ≤ cycle)
    → ((d : Wait) → place < length list → cycle < (get_or list place d).from) → pending_in cycle (take 2 (drop (place - 1) list)) ≡ pending_in cycle list
two_now cycle place list apart within come late = ap (map (λ (w : Wait). w.act)) (sym (two_tell cycle place list apart within come late))

pub two_steady : (cycle to c place : ℕ) (list : List Wait) → AreApart list → place ≤ length list → ((d : Wait) → 0 < place → (get_or list (place - 1) d).from ≤ cycle)
    → ((d : Wait) → place < length list → cycle < (get_or list place d).from) → cycle ≤ c → c < to → All (IsSteady cycle to) (take 2 (drop (place - 1) list))
    → pending_in c list ≡ pending_in cycle list
two_steady cycle to c place list apart within come late low high all =
    let near = take 2 (drop (place - 1) list) in
    let come_by : (d : Wait) → 0 < place → (get_or list (place - 1) d).from ≤ c = λ d some. (let by = come d some in omega (arith, by, low)) in
    let late_by : (d : Wait) → place < length list → c < (get_or list place d).from = λ d less.
    (let still : to ≤ (get_or list place d).from = (next_one (IsSteady cycle to) place list d less all).first (late d less) in omega (arith, still, high)) in
    ap (map (λ (w : Wait). w.act))
    (two_tell c place list apart within come_by late_by ∙ waits_steady cycle to c low high near all ∙ sym (two_tell cycle place list apart within come late))
