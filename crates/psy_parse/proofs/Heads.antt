-- Steps of reading that look at one token.
use Rattle.std.proofs.Common.{◌≡◌, ℕ, suc, ◌<◌, List, [], ◌∷◌, length, Result, Err, Option, Some, None, true, false, cond, leb, refl, sym, ap, subst, ◌∙◌, rules}
use Rattle.std.proofs.lemmas.Bool.{leb-false}
use denote.Enum.Bare.{sameb, same_true, true_same}
use Rattle.psy_arith.specs.declared.operators.Op1.{Op1}
use Rattle.psy_arith.specs.declared.operators.Op2.{Op2}
use Rattle.psy_arith.specs.declared.width.Width.{Width}
use Rattle.psy_tree.specs.declared.token.Kind.TheVariants as kinds
use Rattle.psy_tree.specs.declared.token.Word.{Word}
use Rattle.psy_tree.specs.declared.token.Sign.{Sign}
use Rattle.psy_tree.specs.contracts.token.Word as word_kind
use Rattle.psy_tree.specs.contracts.token.Sign as sign_kind
use Rattle.psy_tree.specs.declared.raw.Name.{Name}
use Rattle.psy_tree.specs.declared.raw.Lit.{Lit}
use Rattle.psy_tree.specs.Grammar.{Numbered, named, numeral, word, sign, type_of, unary_of, binary_of}
use Rattle.psy_parse.specs.Reading.{◌>>=◌, given, or_stuck, name_at, number_at, after_number, after_word, after_sign, after_type, word_at, sign_at, unary_at_front, binary_at_front}
use Rattle.psy_parse.proofs.Again.{found_above}
use Rattle.psy_parse.proofs.Steps.{Front, SameHead, same_head, through, Anything, Step, Seen, here, elsewhere, Looks, Met, met, missed, Meets, must_step, given_step, given_step_with}

module _ {X J : Type 0} {peek : List Numbered → Option X} {token : J → Numbered} {found : J → List Numbered → X} where
  -- this token isn't one
  passed_over : (t : Numbered) (us : List Numbered) → ((vs : List Numbered) → peek (t ∷ vs) ≡ None) → Seen peek token found (t ∷ us) None
  passed_over t us none = elsewhere (none us) other where
    other : (vs : List Numbered) → SameHead (t ∷ us) vs → peek vs ≡ None
    other _ same_head = none _

  -- no token is left
  nothing_left : peek [] ≡ None → Seen peek token found [] None
  nothing_left none = elsewhere none (λ vs head. elim head [ ])

  must_by : (us : List Numbered) (o : Option X) → Seen peek token found us o → Met (λ vs. or_stuck vs (peek vs)) token found us (or_stuck us o)
  must_by _ _ (here j) = met j
  must_by us _ (elsewhere none again) = missed (λ vs head. ap (λ o. or_stuck vs o) (again vs head))

  -- a token that is found, or else reading is stuck
  must_be : Looks peek token found → Meets (λ us. or_stuck us (peek us)) token found
  must_be l = record {
    finds = λ j us. ap (λ o. or_stuck (token j ∷ us) o) (l.finds j us);
    meets = λ us. must_by us (peek us) (l.seen us);
  }

-- Signs

sign_seen : (s r : Sign) (n : ℕ) (us : List Numbered) → Seen (after_sign s) (λ n. sign n s) (λ n us. us) (sign n r ∷ us) (after_sign s (sign n r ∷ us))
unfolding after_sign
sign_seen s r n us =
    elim (sameb sign_kind.the_type r s) as (λ b. sameb sign_kind.the_type r s ≡ b → Seen (after_sign s) (λ n. sign n s) (λ n us. us) (sign n r ∷ us) (cond b (Some us) None)) [
      | true ↦ λ e. subst (λ (x : Sign). Seen (after_sign s) (λ n. sign n s) (λ n us. us) (sign n x ∷ us) (Some us)) (sym (same_true sign_kind.the_type (search rules) r s e)) (here n)
      | false ↦ λ e. passed_over (sign n r) us (λ vs. ap (λ b. cond b (Some vs) None) e)
    ] refl

sign_looks : (s : Sign) → Looks (after_sign s) (λ n. sign n s) (λ n us. us)
unfolding after_sign
sign_looks s = record {
  finds = λ n us. ap (λ b. cond b (Some us) None) (true_same sign_kind.the_type s s refl);
  seen = by;
} where
  by : (us : List Numbered) → Seen (after_sign s) (λ n. sign n s) (λ n us. us) us (after_sign s us)
  by [] = nothing_left refl
  by ((n, kinds.Sign r) ∷ us) = sign_seen s r n us
  by ((n, kinds.Word w) ∷ us) = passed_over _ us (λ vs. refl)
  by ((n, kinds.Name x) ∷ us) = passed_over _ us (λ vs. refl)
  by ((n, kinds.Number v) ∷ us) = passed_over _ us (λ vs. refl)

-- Words

word_seen : (w r : Word) (n : ℕ) (us : List Numbered) → Seen (after_word w) (λ n. word n w) (λ n us. (n, us)) (word n r ∷ us) (after_word w (word n r ∷ us))
unfolding after_word
word_seen w r n us =
    elim (sameb word_kind.the_type r w) as (λ b. sameb word_kind.the_type r w ≡ b → Seen (after_word w) (λ n. word n w) (λ n us. (n, us)) (word n r ∷ us) (cond b (Some (n, us)) None)) [
      | true ↦ λ e. subst (λ (x : Word). Seen (after_word w) (λ n. word n w) (λ n us. (n, us)) (word n x ∷ us) (Some (n, us))) (sym (same_true word_kind.the_type (search rules) r w e)) (here n)
      | false ↦ λ e. passed_over (word n r) us (λ vs. ap (λ b. cond b (Some (n, vs)) None) e)
    ] refl

word_looks : (w : Word) → Looks (after_word w) (λ n. word n w) (λ n us. (n, us))
unfolding after_word
word_looks w = record {
  finds = λ n us. ap (λ b. cond b (Some (n, us)) None) (true_same word_kind.the_type w w refl);
  seen = by;
} where
  by : (us : List Numbered) → Seen (after_word w) (λ n. word n w) (λ n us. (n, us)) us (after_word w us)
  by [] = nothing_left refl
  by ((n, kinds.Word r) ∷ us) = word_seen w r n us
  by ((n, kinds.Sign s) ∷ us) = passed_over _ us (λ vs. refl)
  by ((n, kinds.Name x) ∷ us) = passed_over _ us (λ vs. refl)
  by ((n, kinds.Number v) ∷ us) = passed_over _ us (λ vs. refl)

-- Types

-- A word that names a type
pub record TypeWord : Type 0 where
  pub number : ℕ
  pub word_of : Word
  pub width : Width
  pub is : type_of word_of ≡ Some width

abbrev typed : List Numbered → Option Width → Option (Width × List Numbered)
typed us o = given o (λ width. Some (width, us)) None

type_seen : (w : Word) (n : ℕ) (us : List Numbered) → Seen after_type (λ (t : TypeWord). word t.number t.word_of) (λ t us. (t.width, us)) (word n w ∷ us) (after_type (word n w ∷ us))
unfolding after_type
type_seen w n us =
    elim (type_of w) as (λ o. type_of w ≡ o → Seen after_type (λ (t : TypeWord). word t.number t.word_of) (λ t us. (t.width, us)) (word n w ∷ us) (typed us o)) [
      | Some width ↦ λ e. here (record { number = n; word_of = w; width = width; is = e })
      | None ↦ λ e. passed_over (word n w) us (λ vs. ap (typed vs) e)
    ] refl

type_looks : Looks after_type (λ (t : TypeWord). word t.number t.word_of) (λ t us. (t.width, us))
unfolding after_type
type_looks = record {
  finds = λ t us. ap (typed us) t.is;
  seen = by;
} where
  by : (us : List Numbered) → Seen after_type (λ (t : TypeWord). word t.number t.word_of) (λ t us. (t.width, us)) us (after_type us)
  by [] = nothing_left refl
  by ((n, kinds.Word w) ∷ us) = type_seen w n us
  by ((n, kinds.Sign s) ∷ us) = passed_over _ us (λ vs. refl)
  by ((n, kinds.Name x) ∷ us) = passed_over _ us (λ vs. refl)
  by ((n, kinds.Number v) ∷ us) = passed_over _ us (λ vs. refl)

-- Numbers

number_looks : Looks after_number numeral (λ k us. (k, us))
unfolding after_number
number_looks = record {
  finds = λ k us. refl;
  seen = by;
} where
  by : (us : List Numbered) → Seen after_number numeral (λ k us. (k, us)) us (after_number us)
  by [] = nothing_left refl
  by ((n, kinds.Number v) ∷ us) = here (record { value = v; token = n })
  by ((n, kinds.Word w) ∷ us) = passed_over _ us (λ vs. refl)
  by ((n, kinds.Sign s) ∷ us) = passed_over _ us (λ vs. refl)
  by ((n, kinds.Name x) ∷ us) = passed_over _ us (λ vs. refl)

-- Names

missed_here : (t : Numbered) (us : List Numbered) → ((vs : List Numbered) → name_at (t ∷ vs) ≡ Err (length (t ∷ vs))) → Met name_at named (λ x us. (x, us)) (t ∷ us) (Err (length (t ∷ us)))
missed_here t us none = missed other where
  other : (vs : List Numbered) → SameHead (t ∷ us) vs → name_at vs ≡ Err (length vs)
  other _ same_head = none _

name_meets : Meets name_at named (λ x us. (x, us))
unfolding name_at
name_meets = record {
  finds = λ x us. refl;
  meets = by;
} where
  by : (us : List Numbered) → Met name_at named (λ x us. (x, us)) us (name_at us)
  by [] = missed (λ vs head. elim head [ ])
  by ((n, kinds.Name t) ∷ us) = met (record { text = t; token = n })
  by ((n, kinds.Word w) ∷ us) = missed_here _ us (λ vs. refl)
  by ((n, kinds.Sign s) ∷ us) = missed_here _ us (λ vs. refl)
  by ((n, kinds.Number v) ∷ us) = missed_here _ us (λ vs. refl)

-- Operators

-- An operator before an operand
pub record Prefix : Type 0 where
  pub number : ℕ
  pub sign_of : Sign
  pub op : Op1
  pub is : unary_of sign_of ≡ Some op

unary_seen : (s : Sign) (n : ℕ) (us : List Numbered) → Seen unary_at_front (λ (o : Prefix). sign o.number o.sign_of) (λ o us. (o.op, us)) (sign n s ∷ us) (unary_at_front (sign n s ∷ us))
unfolding unary_at_front
unary_seen s n us =
    elim (unary_of s) as (λ o. unary_of s ≡ o → Seen unary_at_front (λ (o : Prefix). sign o.number o.sign_of) (λ o us. (o.op, us)) (sign n s ∷ us) (given o (λ op. Some (op, us)) None)) [
      | Some op ↦ λ e. here (record { number = n; sign_of = s; op = op; is = e })
      | None ↦ λ e. passed_over (sign n s) us (λ vs. ap (λ (o : Option Op1). given {B = Option (Op1 × List Numbered)} o (λ op. Some (op, vs)) None) e)
    ] refl

unary_looks : Looks unary_at_front (λ (o : Prefix). sign o.number o.sign_of) (λ o us. (o.op, us))
unfolding unary_at_front
unary_looks = record {
  finds = λ o us. ap (λ (p : Option Op1). given {B = Option (Op1 × List Numbered)} p (λ op. Some (op, us)) None) o.is;
  seen = by;
} where
  by : (us : List Numbered) → Seen unary_at_front (λ (o : Prefix). sign o.number o.sign_of) (λ o us. (o.op, us)) us (unary_at_front us)
  by [] = nothing_left refl
  by ((n, kinds.Sign s) ∷ us) = unary_seen s n us
  by ((n, kinds.Word w) ∷ us) = passed_over _ us (λ vs. refl)
  by ((n, kinds.Name x) ∷ us) = passed_over _ us (λ vs. refl)
  by ((n, kinds.Number v) ∷ us) = passed_over _ us (λ vs. refl)

-- An operator between operands, of a level below this one
pub record Infix (level : ℕ) : Type 0 where
  pub number : ℕ
  pub sign_of : Sign
  pub own : ℕ
  pub op : Op2
  pub is : binary_of sign_of ≡ Some (own, op)
  pub below : own < level

abbrev front_of : ℕ → List Numbered → Option (ℕ × Op2) → Option (ℕ × Op2 × List Numbered)
front_of level us o = given o (λ p. cond (leb level p.0) None (Some (p.0, p.1, us))) None

binary_seen : (level : ℕ) (s : Sign) (n : ℕ) (us : List Numbered)
    → Seen (binary_at_front level) (λ (o : Infix level). sign o.number o.sign_of) (λ o us. (o.own, o.op, us)) (sign n s ∷ us) (binary_at_front level (sign n s ∷ us))
unfolding binary_at_front
binary_seen level s n us =
    elim (binary_of s) as (λ o. binary_of s ≡ o → Seen (binary_at_front level) (λ (o : Infix level). sign o.number o.sign_of) (λ o us. (o.own, o.op, us)) (sign n s ∷ us) (front_of level us o)) [
      | Some p ↦ λ e.
          elim (leb level p.0) as (λ b. leb level p.0 ≡ b → Seen (binary_at_front level) (λ (o : Infix level). sign o.number o.sign_of) (λ o us. (o.own, o.op, us)) (sign n s ∷ us) (cond b None (Some (p.0, p.1, us)))) [
            | true ↦ λ t. passed_over (sign n s) us (λ vs. ap (λ o. front_of level vs o) e ∙ ap (λ b. cond b None (Some (p.0, p.1, vs))) t)
            | false ↦ λ t. here (record { number = n; sign_of = s; own = p.0; op = p.1; is = e; below = leb-false _ _ t })
          ] refl
      | None ↦ λ e. passed_over (sign n s) us (λ vs. ap (λ o. front_of level vs o) e)
    ] refl

binary_looks : (level : ℕ) → Looks (binary_at_front level) (λ (o : Infix level). sign o.number o.sign_of) (λ o us. (o.own, o.op, us))
unfolding binary_at_front
binary_looks level = record {
  finds = λ o us. found_above level o.own o.op o.sign_of o.number us o.is o.below;
  seen = by;
} where
  by : (us : List Numbered) → Seen (binary_at_front level) (λ (o : Infix level). sign o.number o.sign_of) (λ o us. (o.own, o.op, us)) us (binary_at_front level us)
  by [] = nothing_left refl
  by ((n, kinds.Sign s) ∷ us) = binary_seen level s n us
  by ((n, kinds.Word w) ∷ us) = passed_over _ us (λ vs. refl)
  by ((n, kinds.Name x) ∷ us) = passed_over _ us (λ vs. refl)
  by ((n, kinds.Number v) ∷ us) = passed_over _ us (λ vs. refl)

-- Steps

module _ {A : Type 0} {pre : Front} {R : Front → A → Type 0} {E : List Numbered → Type 0} {ts : List Numbered}
    {other : List Numbered → Result (A × List Numbered) ℕ} {takes bound : ℕ} {mid : Front} {c : ℕ} {F : List Numbered → Type 0} where
  -- a sign that has to stand
  pub sign_step : (s : Sign) (f f' : List Numbered → Result (A × List Numbered) ℕ) → ((n : ℕ) → Step pre R E ts other takes bound (λ us. mid (sign n s ∷ us)) (suc c) Anything f f')
      → Step pre R E ts other takes bound mid c F (λ us. sign_at s us >>= f) (λ us. sign_at s us >>= f')
  unfolding sign_at
  sign_step s f f' h = must_step _ _ _ f f' (must_be (sign_looks s)) (through (λ us. pre (mid us)) (kinds.Sign s) (λ n. (h n).hope)) h

  -- a word that has to stand
  pub word_step : (w : Word) (f f' : ℕ × List Numbered → Result (A × List Numbered) ℕ)
      → ((n : ℕ) → Step pre R E ts other takes bound (λ us. mid (word n w ∷ us)) (suc c) Anything (λ us. f (n, us)) (λ us. f' (n, us)))
      → Step pre R E ts other takes bound mid c F (λ us. word_at w us >>= f) (λ us. word_at w us >>= f')
  unfolding word_at
  word_step w f f' h = must_step _ _ _ f f' (must_be (word_looks w)) (through (λ us. pre (mid us)) (kinds.Word w) (λ n. (h n).hope)) h

  -- a number that has to stand
  pub number_step : (f f' : Lit × List Numbered → Result (A × List Numbered) ℕ)
      → ((k : Lit) → Step pre R E ts other takes bound (λ us. mid (numeral k ∷ us)) (suc c) Anything (λ us. f (k, us)) (λ us. f' (k, us)))
      → Step pre R E ts other takes bound mid c F (λ us. number_at us >>= f) (λ us. number_at us >>= f')
  unfolding number_at
  number_step f f' h = must_step _ _ _ f f' (must_be number_looks) (through (λ us. pre (mid us)) (kinds.Number 1) (λ n. (h (record { value = 1; token = n })).hope)) h

  -- a name that has to stand
  pub name_step : (f f' : Name × List Numbered → Result (A × List Numbered) ℕ)
      → ((x : Name) → Step pre R E ts other takes bound (λ us. mid (named x ∷ us)) (suc c) Anything (λ us. f (x, us)) (λ us. f' (x, us)))
      → Step pre R E ts other takes bound mid c F (λ us. name_at us >>= f) (λ us. name_at us >>= f')
  name_step f f' h = must_step _ _ _ f f' name_meets (through (λ us. pre (mid us)) (kinds.Name (120 ∷ [])) (λ n. (h (record { text = 120 ∷ []; token = n })).hope)) h

  -- a sign, or else
  pub given_sign : (s : Sign) (f f' g g' : List Numbered → Result (A × List Numbered) ℕ)
      → ((n : ℕ) → Step pre R E ts other takes bound (λ us. mid (sign n s ∷ us)) (suc c) Anything f f') → Step pre R E ts other takes bound mid c F g g'
      → Step pre R E ts other takes bound mid c F (λ us. given (after_sign s us) f (g us)) (λ us. given (after_sign s us) f' (g' us))
  given_sign s f f' g g' h k = given_step _ _ _ f f' g g' (sign_looks s) h k

  -- a word, or else
  pub given_word : (w : Word) (f f' : ℕ × List Numbered → Result (A × List Numbered) ℕ) (g g' : List Numbered → Result (A × List Numbered) ℕ)
      → ((n : ℕ) → Step pre R E ts other takes bound (λ us. mid (word n w ∷ us)) (suc c) Anything (λ us. f (n, us)) (λ us. f' (n, us)))
      → Step pre R E ts other takes bound mid c F g g'
      → Step pre R E ts other takes bound mid c F (λ us. given (after_word w us) f (g us)) (λ us. given (after_word w us) f' (g' us))
  given_word w f f' g g' h k = given_step _ _ _ f f' g g' (word_looks w) h k

  -- the word of a type, or else
  pub given_type : (f f' : Width × List Numbered → Result (A × List Numbered) ℕ) (g g' : List Numbered → Result (A × List Numbered) ℕ)
      → ((t : TypeWord) → Step pre R E ts other takes bound (λ us. mid (word t.number t.word_of ∷ us)) (suc c) Anything (λ us. f (t.width, us)) (λ us. f' (t.width, us)))
      → Step pre R E ts other takes bound mid c F g g'
      → Step pre R E ts other takes bound mid c F (λ us. given (after_type us) f (g us)) (λ us. given (after_type us) f' (g' us))
  given_type f f' g g' h k = given_step _ _ _ f f' g g' type_looks h k

  -- a number, or else
  pub given_number : (f f' : Lit × List Numbered → Result (A × List Numbered) ℕ) (g g' : List Numbered → Result (A × List Numbered) ℕ)
      → ((k : Lit) → Step pre R E ts other takes bound (λ us. mid (numeral k ∷ us)) (suc c) Anything (λ us. f (k, us)) (λ us. f' (k, us)))
      → Step pre R E ts other takes bound mid c F g g'
      → Step pre R E ts other takes bound mid c F (λ us. given (after_number us) f (g us)) (λ us. given (after_number us) f' (g' us))
  given_number f f' g g' h k = given_step _ _ _ f f' g g' number_looks h k

  -- an operator before an operand, or else
  pub given_unary : (f f' : Op1 × List Numbered → Result (A × List Numbered) ℕ) (g g' : List Numbered → Result (A × List Numbered) ℕ)
      → ((o : Prefix) → Step pre R E ts other takes bound (λ us. mid (sign o.number o.sign_of ∷ us)) (suc c) Anything (λ us. f (o.op, us)) (λ us. f' (o.op, us)))
      → Step pre R E ts other takes bound mid c F g g'
      → Step pre R E ts other takes bound mid c F (λ us. given (unary_at_front us) f (g us)) (λ us. given (unary_at_front us) f' (g' us))
  given_unary f f' g g' h k = given_step _ _ _ f f' g g' unary_looks h k

  -- an operator between operands, of a level below this one, or else
  pub given_binary : (level : ℕ) (f f' : ℕ × Op2 × List Numbered → Result (A × List Numbered) ℕ) (g g' : List Numbered → Result (A × List Numbered) ℕ)
      → ((o : Infix level) (us : List Numbered) → F (sign o.number o.sign_of ∷ us)
      → Step pre R E ts other takes bound (λ us. mid (sign o.number o.sign_of ∷ us)) (suc c) Anything (λ us. f (o.own, o.op, us)) (λ us. f' (o.own, o.op, us)))
      → Step pre R E ts other takes bound mid c (λ us. F us × (binary_at_front level us ≡ None)) g g'
      → Step pre R E ts other takes bound mid c F (λ us. given (binary_at_front level us) f (g us)) (λ us. given (binary_at_front level us) f' (g' us))
  given_binary level f f' g g' h k = given_step_with _ _ _ f f' g g' (binary_looks level) h k
