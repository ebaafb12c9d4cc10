-- Tokens whose last one is another of the same terminal.
use Rattle.std.proofs.Common.{◌≡◌, ◌≢◌, ℕ, suc, ◌+◌, ◌<◌, ◌≤◌, List, [], ◌∷◌, ◌++◌, length, take, reverse, map, cond, eqb, refl, sym, ap, subst, ◌∙◌, append_assoc, inl, inr, arith}
use Rattle.std.proofs.lemmas.List.{map-append, reverse-append, length-append, take-append-le, take_all}
use Rattle.std.proofs.lemmas.Bool.Decides.{eqb_tells, leb_tells}
use Rattle.psy_tree.specs.declared.token.Kind.{Kind}
use Rattle.psy_tree.specs.declared.token.Kind.TheVariants as kinds
use Rattle.psy_tree.specs.declared.token.Sign.{Sign}
use Rattle.psy_tree.specs.declared.token.Token.{Token}
use Rattle.psy_tree.specs.Deep.{bracket_depth, operators_since, up_to, IsTooDeep, Shallow}
use Rattle.psy_tree.specs.Grammar.{Numbered, numbered}
use Rattle.psy_parse.specs.Fault.{Viable}
use Rattle.psy_expect.specs.Terminals.{terminal_of, IsFront}
use Rattle.psy_expect.proofs.Renamed.{swap, swaps, spelled}

-- ---- numbers

numbered-append : (n : ℕ) (before after : List Token) → numbered n (before ++ after) ≡ numbered n before ++ numbered (n + length before) after
numbered-append n [] after = let same : n + 0 ≡ n = omega arith in ap (λ k. numbered k after) (sym same)
numbered-append n (token ∷ before) after =
    let same : suc n + length before ≡ n + length (token ∷ before) = omega arith in
    ap (λ (ts : List Numbered). (n, token.kind) ∷ ts) (numbered-append (suc n) before after ∙ ap (λ k. numbered (suc n) before ++ numbered k after) same)

-- At one number x, and else what it was
abbrev only_at : {A : Type 0} → ℕ → A → ℕ → A → A
only_at i x n old = cond (eqb n i) x old

at_it : {A : Type 0} (i : ℕ) (x old : A) → only_at i x i old ≡ x
at_it i x old = elim (eqb_tells i i) [
  | inl same ↦ ap (λ b. cond b x old) same.0
  | inr differ ↦ absurd (differ.1 refl)
]

elsewhere : {A : Type 0} (i n : ℕ) (x old : A) → n ≢ i → only_at i x n old ≡ old
elsewhere i n x old differ = elim (eqb_tells n i) [
  | inl same ↦ absurd (differ same.1)
  | inr other ↦ ap (λ b. cond b x old) other.0
]

module _ (i : ℕ) (text : List ℕ) (value : ℕ) where
  abbrev change : Numbered → Numbered
  change = swap (only_at i text) (only_at i value)

  abbrev changes : List Numbered → List Numbered
  changes = swaps (only_at i text) (only_at i value)

  unchanged : (n : ℕ) (k : Kind) → n ≢ i → change (n, k) ≡ (n, k)
  unchanged n (kinds.Word w) differ = refl
  unchanged n (kinds.Name t) differ = ap (λ (t : List ℕ). (n, kinds.Name t)) (elsewhere i n text t differ)
  unchanged n (kinds.Number v) differ = ap (λ (v : ℕ). (n, kinds.Number v)) (elsewhere i n value v differ)
  unchanged n (kinds.Sign s) differ = refl

  kept : (n : ℕ) (tokens : List Token) → ((m : ℕ) → n ≤ m → m < n + length tokens → m ≢ i) → changes (numbered n tokens) ≡ numbered n tokens
  kept n [] apart = refl
  kept n (token ∷ tokens) apart =
      ap (λ (t : Numbered). t ∷ changes (numbered (suc n) tokens)) (unchanged n token.kind (apart n (omega arith) (omega arith)))
      ∙ ap (λ (ts : List Numbered). (n, token.kind) ∷ ts) (kept (suc n) tokens (λ m low high. apart m (omega (arith, low)) (omega (arith, high))))

-- The change that makes a token another of its terminal
record Turns (i : ℕ) (a b : Kind) : Type 0 where
  text : List ℕ
  value : ℕ
  turns : change i text value (i, a) ≡ (i, b)

turn : (i : ℕ) (a b : Kind) → terminal_of a ≡ terminal_of b → Turns i a b
turn i (kinds.Word w) (kinds.Word v) e = record { text = []; value = 0; turns = cc }
turn i (kinds.Name t) (kinds.Name u) e = record { text = u; value = 0; turns = ap (λ (t : List ℕ). (i, kinds.Name t)) (at_it i u t) }
turn i (kinds.Number v) (kinds.Number w) e = record { text = []; value = w; turns = ap (λ (v : ℕ). (i, kinds.Number v)) (at_it i w v) }
turn i (kinds.Sign s) (kinds.Sign r) e = record { text = []; value = 0; turns = cc }
turn i (kinds.Word w) (kinds.Name u) e = absurd cc
turn i (kinds.Word w) (kinds.Number v) e = absurd cc
turn i (kinds.Word w) (kinds.Sign s) e = absurd cc
turn i (kinds.Name t) (kinds.Word w) e = absurd cc
turn i (kinds.Name t) (kinds.Number v) e = absurd cc
turn i (kinds.Name t) (kinds.Sign s) e = absurd cc
turn i (kinds.Number v) (kinds.Word w) e = absurd cc
turn i (kinds.Number v) (kinds.Name t) e = absurd cc
turn i (kinds.Number v) (kinds.Sign s) e = absurd cc
turn i (kinds.Sign s) (kinds.Word w) e = absurd cc
turn i (kinds.Sign s) (kinds.Name t) e = absurd cc
turn i (kinds.Sign s) (kinds.Number v) e = absurd cc

-- ---- viable

module _ (front : List Token) (a b : Token) (same : terminal_of a.kind ≡ terminal_of b.kind) where
  abbrev i : ℕ
  i = length front

  start : 0 + length front ≡ i
  start = omega arith

  here : Turns i a.kind b.kind
  here = turn i a.kind b.kind same

  parts : (x : Token) (more : List Token) → numbered 0 ((front ++ x ∷ []) ++ more) ≡ numbered 0 front ++ (i, x.kind) ∷ numbered (suc i) more
  parts x more = ap (λ (ts : List Token). numbered 0 ts) (append_assoc front (x ∷ []) more) ∙ numbered-append 0 front (x ∷ more) ∙ ap (λ k. numbered 0 front ++ numbered k (x ∷ more)) start

  changed : (more : List Token) → numbered 0 ((front ++ b ∷ []) ++ more) ≡ changes i here.text here.value (numbered 0 ((front ++ a ∷ []) ++ more))
  changed more =
      let c = changes i here.text here.value in
      let before : c (numbered 0 front) ≡ numbered 0 front = kept i here.text here.value 0 front (λ m low high e. absurd (omega (arith, high, e))) in
      let after : c (numbered (suc i) more) ≡ numbered (suc i) more = kept i here.text here.value (suc i) more (λ m low high e. absurd (omega (arith, low, e))) in
      parts b more
      ∙ sym (
      ap c (parts a more) ∙ map-append (change i here.text here.value) (numbered 0 front) ((i, a.kind) ∷ numbered (suc i) more)
      ∙ ap (λ (ts : List Numbered). ts ++ c ((i, a.kind) ∷ numbered (suc i) more)) before
      ∙ ap (λ (t : Numbered). numbered 0 front ++ t ∷ c (numbered (suc i) more)) here.turns
      ∙ ap (λ (ts : List Numbered). numbered 0 front ++ (i, b.kind) ∷ ts) after
      )

  viable_alike : Viable (front ++ a ∷ []) → Viable (front ++ b ∷ [])
  viable_alike v =
      let other = spelled (only_at i here.text) (only_at i here.value) v.raw ((front ++ a ∷ []) ++ v.more) ((front ++ b ∷ []) ++ v.more) v.spells (changed v.more) in
      record { more = v.more; raw = other.0; spells = other.1 }

-- ---- shallow

-- Tokens of one terminal count alike for both measures
measures : (a b : Kind) (before : List Kind) → terminal_of a ≡ terminal_of b → (bracket_depth (a ∷ before) ≡ bracket_depth (b ∷ before)) × (operators_since (a ∷ before) ≡ operators_since (b ∷ before))
measures (kinds.Word w) (kinds.Word v) before e = (refl, refl)
measures (kinds.Name t) (kinds.Name u) before e = (refl, refl)
measures (kinds.Number v) (kinds.Number w) before e = (refl, refl)
measures (kinds.Sign s) (kinds.Sign r) before e =
    let is : s ≡ r = cc in
    (ap (λ (s : Sign). bracket_depth (kinds.Sign s ∷ before)) is, ap (λ (s : Sign). operators_since (kinds.Sign s ∷ before)) is)
measures (kinds.Word w) (kinds.Name u) before e = absurd cc
measures (kinds.Word w) (kinds.Number v) before e = absurd cc
measures (kinds.Word w) (kinds.Sign s) before e = absurd cc
measures (kinds.Name t) (kinds.Word w) before e = absurd cc
measures (kinds.Name t) (kinds.Number v) before e = absurd cc
measures (kinds.Name t) (kinds.Sign s) before e = absurd cc
measures (kinds.Number v) (kinds.Word w) before e = absurd cc
measures (kinds.Number v) (kinds.Name t) before e = absurd cc
measures (kinds.Number v) (kinds.Sign s) before e = absurd cc
measures (kinds.Sign s) (kinds.Word w) before e = absurd cc
measures (kinds.Sign s) (kinds.Name t) before e = absurd cc
measures (kinds.Sign s) (kinds.Number v) before e = absurd cc

abbrev kinds_of : List Token → List Kind
kinds_of tokens = map (λ token. token.kind) tokens

up_to_last : (front : List Token) (x : Token) → up_to (front ++ x ∷ []) (length front) ≡ x.kind ∷ reverse (kinds_of front)
up_to_last front x =
    ap (λ (ts : List Token). reverse (kinds_of ts)) (take_all (suc (length front)) (front ++ x ∷ []) (omega (arith, length-append front (x ∷ []))))
    ∙ ap (λ (ks : List Kind). reverse ks) (map-append (λ (t : Token). t.kind) front (x ∷ []))
    ∙ reverse-append (kinds_of front) (x.kind ∷ [])

up_to_before : (front : List Token) (x : Token) (n : ℕ) → n < length front → up_to (front ++ x ∷ []) n ≡ reverse (kinds_of (take (suc n) front))
up_to_before front x n before = ap (λ (ts : List Token). reverse (kinds_of ts)) (take-append-le (suc n) front (x ∷ []) (omega (arith, before)))

too_deep_by : (tokens others : List Token) (n : ℕ) → bracket_depth (up_to tokens n) ≡ bracket_depth (up_to others n) → operators_since (up_to tokens n) ≡ operators_since (up_to others n) → IsTooDeep tokens n → IsTooDeep others n
too_deep_by tokens others n depth since (inl e) = inl (sym depth ∙ e)
too_deep_by tokens others n depth since (inr e) = inr (sym since ∙ e)

module _ (front : List Token) (a b : Token) (same : terminal_of a.kind ≡ terminal_of b.kind) where
  too_deep_alike : (n : ℕ) → n < length (front ++ b ∷ []) → IsTooDeep (front ++ b ∷ []) n → IsTooDeep (front ++ a ∷ []) n
  too_deep_alike n within deep = elim (leb_tells (length front) n) [
    | inl high ↦
        let last : n ≡ length front = omega (arith, within, high.1, length-append front (b ∷ [])) in
        let both = measures a.kind b.kind (reverse (kinds_of front)) same in
        let there = up_to_last front a in
        let here = up_to_last front b in
        let depth : bracket_depth (up_to (front ++ b ∷ []) (length front)) ≡ bracket_depth (up_to (front ++ a ∷ []) (length front)) = ap bracket_depth here ∙ sym both.0 ∙ sym (ap bracket_depth there) in
        let since : operators_since (up_to (front ++ b ∷ []) (length front)) ≡ operators_since (up_to (front ++ a ∷ []) (length front)) = ap operators_since here ∙ sym both.1 ∙ sym (ap operators_since there) in
        subst (λ m. IsTooDeep (front ++ b ∷ []) m → IsTooDeep (front ++ a ∷ []) m) (sym last) (too_deep_by (front ++ b ∷ []) (front ++ a ∷ []) (length front) depth since) deep
    | inr low ↦
        let e : up_to (front ++ b ∷ []) n ≡ up_to (front ++ a ∷ []) n = up_to_before front b n low.1 ∙ sym (up_to_before front a n low.1) in
        too_deep_by (front ++ b ∷ []) (front ++ a ∷ []) n (ap bracket_depth e) (ap operators_since e) deep
  ]

  shallow_alike : Shallow (front ++ a ∷ []) → Shallow (front ++ b ∷ [])
  shallow_alike shallow n within deep =
      shallow n (omega (arith, within, length-append front (a ∷ []), length-append front (b ∷ []))) (too_deep_alike n within deep)

-- Of two tokens of one terminal both may stand behind tokens, or neither
pub front_alike : (front : List Token) (a b : Token) → terminal_of a.kind ≡ terminal_of b.kind → IsFront (front ++ a ∷ []) → IsFront (front ++ b ∷ [])
front_alike front a b same is = record { viable = viable_alike front a b same is.viable; shallow = shallow_alike front a b same is.shallow }
