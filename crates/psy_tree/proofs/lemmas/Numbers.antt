-- The number of a declaration among those of its kind.
use Rattle.std.proofs.Common.{◌≡◌, ℕ, zero, suc, ◌+◌, ◌<◌, Bool, true, false, cond, List, [], ◌∷◌, ◌++◌, take, length, get_or, Option, Some, refl, sym, ap, subst, ◌∙◌, arith, append_assoc, append-nil}
use Rattle.std.specs.Prelude.{slice_get}
use Rattle.std.specs.List.{flat_map}
use Rattle.std.proofs.lemmas.List.{take_more, length-take, length-append}
use Rattle.std.proofs.lemmas.List.Sums.{sum_by-cons}
use Rattle.std.proofs.lemmas.Option.{none-some, same_Some}
use Rattle.psy_tree.specs.declared.raw.Raw.{Raw}
use Rattle.psy_tree.specs.declared.raw.Item.{Item}
use Rattle.psy_tree.specs.declared.raw.Item.TheVariants as item
use Rattle.psy_tree.specs.declared.unit.VarDecl.{VarDecl}
use Rattle.psy_tree.specs.declared.unit.StreamDecl.{StreamDecl}
use Rattle.psy_tree.specs.declared.unit.FunctionDecl.{FunctionDecl}
use Rattle.psy_tree.specs.declared.unit.AgentDecl.{AgentDecl}
use Rattle.psy_tree.specs.Rules.{is_clock, is_agent, is_function, is_stream}
use Rattle.psy_tree.specs.Stands.{unit_of, counting, is_variable, clock_names, variables, streams, functions, agents, each_from}
use Rattle.psy_tree.proofs.lemmas.Lists.{slice_get-behind}

-- One thing where the test holds of an item, and else none.
abbrev pub Gives : {A : Type 0} → (Option Item → Bool) → (ℕ → Item → List A) → Type 0
Gives p f = (k : ℕ) (i : Item) → length (f k i) ≡ cond (p (Some i)) 1 0

pub counting-cons : (p : Option Item → Bool) (x : Item) (xs : List Item) → counting p (x ∷ xs) ≡ cond (p (Some x)) 1 0 + counting p xs
counting-cons p x xs = sum_by-cons (λ i. cond (p (Some i)) 1 0) x xs

pub flat_map-each : {A : Type 0} (f : Item → List A) (m : ℕ) (xs : List Item) → flat_map f xs ≡ each_from (λ k. f) m xs
flat_map-each f m [] = refl
flat_map-each f m (x ∷ xs) = ap (λ l. f x ++ l) (flat_map-each f (m + 1) xs)

each_from-append : {A : Type 0} (f : ℕ → Item → List A) (k : ℕ) (xs ys : List Item) → each_from f k (xs ++ ys) ≡ each_from f k xs ++ each_from f (k + length xs) ys
each_from-append f k [] ys = ap (λ n. each_from f n ys) (omega arith)
each_from-append f k (x ∷ xs) ys =
    let e : k + 1 + length xs ≡ k + length (x ∷ xs) = omega arith in
    ap (λ ps. f k x ++ ps) (each_from-append f (k + 1) xs ys ∙ ap (λ n. each_from f (k + 1) xs ++ each_from f n ys) e)
    ∙ sym (append_assoc (f k x) (each_from f (k + 1) xs) (each_from f (k + length (x ∷ xs)) ys))

pub each_from_more : {A : Type 0} (f : ℕ → Item → List A) (xs : List Item) (n : ℕ) (x : Item) → n < length xs → each_from f 0 (take (n + 1) xs) ≡ each_from f 0 (take n xs) ++ f n (get_or xs n x)
each_from_more f xs n x h =
    let len : 0 + length (take n xs) ≡ n = omega (arith, length-take n xs) in
    ap (each_from f 0) (take_more xs n x h)
    ∙ each_from-append f 0 (take n xs) (get_or xs n x ∷ [])
    ∙ ap (λ m. each_from f 0 (take n xs) ++ each_from f m (get_or xs n x ∷ [])) len
    ∙ ap (λ ps. each_from f 0 (take n xs) ++ ps) (append-nil (f n (get_or xs n x)))

-- What one declaration gives stands behind what those before it give.
pub given_at : {A : Type 0} (f : ℕ → Item → List A) (m : ℕ) (xs : List Item) (j n : ℕ) (i : Item) (a : A) → j < n → slice_get xs j ≡ Some i → f (m + j) i ≡ a ∷ []
    → slice_get (each_from f m (take n xs)) (length (each_from f m (take j xs))) ≡ Some a
given_at f m xs j zero i a less own gives = absurd (omega (arith, less))
given_at f m [] j (suc n) i a less own gives = cc
given_at f m (x ∷ xs) zero (suc n) i a less own gives =
    let same : x ≡ i = cc in
    let z : m ≡ m + 0 = omega arith in
    ap (λ l. slice_get (l ++ each_from f (m + 1) (take n xs)) 0) (ap (f m) same ∙ ap (λ k. f k i) z ∙ gives)
given_at f m (x ∷ xs) (suc j) (suc n) i a less own gives =
    let next : m + 1 + j ≡ m + suc j = omega arith in
    let e : length (f m x ++ each_from f (m + 1) (take j xs)) ≡ length (f m x) + length (each_from f (m + 1) (take j xs)) = length-append (f m x) (each_from f (m + 1) (take j xs)) in
    ap (slice_get (f m x ++ each_from f (m + 1) (take n xs))) e
    ∙ slice_get-behind (f m x) (each_from f (m + 1) (take n xs)) (length (each_from f (m + 1) (take j xs)))
    ∙ given_at f (m + 1) xs j n i a (omega (arith, less)) own (ap (λ k. f k i) next ∙ gives)

module _ {A : Type 0} (p : Option Item → Bool) (f : ℕ → Item → List A) (gives : Gives p f) where
  pub length-each : (m : ℕ) (xs : List Item) → length (each_from f m xs) ≡ counting p xs
  length-each m [] = refl
  length-each m (x ∷ xs) = omega (arith, length-append (f m x) (each_from f (m + 1) xs), gives m x, length-each (m + 1) xs, counting-cons p x xs)

  pub each_at : (m : ℕ) (xs : List Item) (k : ℕ) (i : Item) (a : A) → slice_get xs k ≡ Some i → f (m + k) i ≡ a ∷ [] → slice_get (each_from f m xs) (counting p (take k xs)) ≡ Some a
  each_at m [] k i a own here = absurd (none-some i own)
  each_at m (x ∷ xs) zero i a own here =
      let e : m + 0 ≡ m = omega arith in
      let same : f m x ≡ a ∷ [] = ap (f m) (same_Some x i own) ∙ ap (λ n. f n i) (sym e) ∙ here in
      ap (λ l. slice_get (l ++ each_from f (m + 1) xs) 0) same
  each_at m (x ∷ xs) (suc k) i a own here =
      let e : m + 1 + k ≡ m + suc k = omega arith in
      let n : counting p (x ∷ take k xs) ≡ length (f m x) + counting p (take k xs) = omega (arith, counting-cons p x (take k xs), gives m x) in
      ap (slice_get (f m x ++ each_from f (m + 1) xs)) n ∙ slice_get-behind (f m x) (each_from f (m + 1) xs) (counting p (take k xs))
      ∙ each_at (m + 1) xs k i a own (ap (λ j. f j i) e ∙ here)

  abbrev pub From : ℕ → List Item → ℕ → A → Type 0
  From m xs n a = (k : ℕ) × (i : Item) × (slice_get xs k ≡ Some i) × (f (m + k) i ≡ a ∷ []) × (n ≡ counting p (take k xs))

  later : (m : ℕ) (x : Item) (xs : List Item) (n : ℕ) (a : A) → From (m + 1) xs n a → From m (x ∷ xs) (length (f m x) + n) a
  later m x xs n a (k, i, own, here, is) =
      let e : m + suc k ≡ m + 1 + k = omega arith in
      (suc k, i, own, ap (λ j. f j i) e ∙ here, omega (arith, is, counting-cons p x (take k xs), gives m x))

  few : (b : Bool) (n : ℕ) → suc (suc n) ≡ cond b 1 0 → ⊥
  few true n e = omega (arith, e)
  few false n e = omega (arith, e)

  first : (m : ℕ) (x : Item) (xs : List Item) (l : List A) (n : ℕ) (a : A) → f m x ≡ l → slice_get (l ++ each_from f (m + 1) xs) n ≡ Some a → ((n : ℕ) → slice_get (each_from f (m + 1) xs) n ≡ Some a → From (m + 1) xs n a) → From m (x ∷ xs) n a
  first m x xs [] n a is own more = subst (λ j. From m (x ∷ xs) j a) (omega (arith, ap length is)) (later m x xs n a (more n own))
  first m x xs (b ∷ []) zero a is own more =
      let e : m + 0 ≡ m = omega arith in
      (0, x, refl, ap (λ j. f j x) e ∙ is ∙ ap (λ c. c ∷ []) (same_Some b a own), refl)
  first m x xs (b ∷ []) (suc n) a is own more = subst (λ j. From m (x ∷ xs) j a) (omega (arith, ap length is)) (later m x xs n a (more n own))
  first m x xs (b ∷ c ∷ l) n a is own more = absurd (few (p (Some x)) (length l) (sym (ap length is) ∙ gives m x))

  pub each_from_some : (m : ℕ) (xs : List Item) (n : ℕ) (a : A) → slice_get (each_from f m xs) n ≡ Some a → From m xs n a
  each_from_some m [] n a own = absurd (none-some a own)
  each_from_some m (x ∷ xs) n a own = first m x xs (f m x) n a refl own (λ j. each_from_some (m + 1) xs j a)

-- ---- each kind

pub gives_clock_names : Gives is_clock (λ k. clock_names)
gives_clock_names k (item.Clock name by parent shift) = refl
gives_clock_names k _ = refl

pub gives_variables : (items : List Item) → Gives is_variable (λ k. variables items)
gives_variables items k (item.Clock name by parent shift) = refl
gives_variables items k (item.Temporal name owner clock init depth) = refl
gives_variables items k (item.Input name clock init depth) = refl
gives_variables items k (item.Stream name receiver keep clock) = refl
gives_variables items k (item.Function name params locals stmts) = refl
gives_variables items k (item.Agent name clock processor budget locals body stmts) = refl

pub gives_streams : (items : List Item) → Gives is_stream (λ k. streams items)
gives_streams items k (item.Stream name receiver keep clock) = refl
gives_streams items k _ = refl

pub gives_functions : (items : List Item) → Gives is_function (functions items)
gives_functions items k (item.Function name params locals stmts) = refl
gives_functions items k _ = refl

pub gives_agents : (items : List Item) → Gives is_agent (agents items)
gives_agents items k (item.Agent name clock processor budget locals body stmts) = refl
gives_agents items k _ = refl

pub variable_at : (raw : Raw) (k : ℕ) (i : Item) (v : VarDecl) → slice_get raw.items k ≡ Some i → variables raw.items i ≡ v ∷ [] → slice_get (unit_of raw).variables (counting is_variable (take k raw.items)) ≡ Some v
variable_at raw k i v own gives =
    ap (λ l. slice_get l (counting is_variable (take k raw.items))) (flat_map-each (variables raw.items) 0 raw.items)
    ∙ each_at is_variable (λ k. variables raw.items) (gives_variables raw.items) 0 raw.items k i v own gives

pub stream_at : (raw : Raw) (k : ℕ) (i : Item) (s : StreamDecl) → slice_get raw.items k ≡ Some i → streams raw.items i ≡ s ∷ [] → slice_get (unit_of raw).streams (counting is_stream (take k raw.items)) ≡ Some s
stream_at raw k i s own gives =
    ap (λ l. slice_get l (counting is_stream (take k raw.items))) (flat_map-each (streams raw.items) 0 raw.items)
    ∙ each_at is_stream (λ k. streams raw.items) (gives_streams raw.items) 0 raw.items k i s own gives

pub function_at : (raw : Raw) (k : ℕ) (i : Item) (f : FunctionDecl) → slice_get raw.items k ≡ Some i → functions raw.items k i ≡ f ∷ [] → slice_get (unit_of raw).functions (counting is_function (take k raw.items)) ≡ Some f
function_at raw k i f own gives =
    let e : 0 + k ≡ k = omega arith in
    each_at is_function (functions raw.items) (gives_functions raw.items) 0 raw.items k i f own (ap (λ j. functions raw.items j i) e ∙ gives)

-- An agent of the unit is that of a declaration.
pub agent_from : (raw : Raw) (n : ℕ) (a : AgentDecl) → slice_get (unit_of raw).agents n ≡ Some a → (k : ℕ) × (i : Item) × (slice_get raw.items k ≡ Some i) × (agents raw.items k i ≡ a ∷ []) × (n ≡ counting is_agent (take k raw.items))
agent_from raw n a own =
    let there = each_from_some is_agent (agents raw.items) (gives_agents raw.items) 0 raw.items n a own in
    let e : there.0 ≡ 0 + there.0 = omega arith in
    (there.0, there.1, there.2, ap (λ j. agents raw.items j there.1) e ∙ there.3, there.4)
