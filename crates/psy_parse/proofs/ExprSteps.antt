-- Each step of an expression that is read.
use Rattle.std.proofs.Common.{◌≡◌, ℕ, zero, suc, ◌+◌, ◌≤◌, List, [], ◌∷◌, ◌++◌, Option, Some, None, cond, leb, refl, ap, arith, inl, inr}
use Rattle.std.proofs.Math.Dec.{leb-zero}
use Rattle.std.proofs.lemmas.Bool.{cases_lt, leb-true}
use Rattle.psy_arith.specs.declared.operators.Op2.{Op2}
use Rattle.psy_tree.specs.declared.token.Kind.TheVariants as kinds
use Rattle.psy_tree.specs.declared.token.Word.TheVariants as words
use Rattle.psy_tree.specs.declared.token.Sign.{Sign}
use Rattle.psy_tree.specs.declared.token.Sign.TheVariants as signs
use Rattle.psy_tree.specs.declared.raw.Name.{Name}
use Rattle.psy_tree.specs.declared.raw.RawExpr.{RawExpr}
use Rattle.psy_tree.specs.declared.raw.RawExpr.TheVariants.{Number, Ready, Take, Binary, Call}
use Rattle.psy_tree.specs.Grammar.{Numbered, named, numeral, word, sign, binary_of, Expr, Others}
use Rattle.psy_tree.specs.Grammar as grammar
use Rattle.psy_parse.specs.Reading.{given, Reads, binary_at_front, in_brackets_at, past_at, cast_at, args_at, behind_name_at, primary_at, operand_at, expr_at, climb_at, others_at}
use Rattle.psy_parse.proofs.Again.{is_none}
use Rattle.psy_parse.proofs.Steps.{Front, through, Anything, Whatever, Ends, Step, Part, Listed, listed, nothing_listed, one_listed, done_step, out_of_turns, weaker_step, bind_step, last_step}
use Rattle.psy_parse.proofs.Heads.{TypeWord, sign_step, number_step, name_step, given_sign, given_word, given_type, given_number, given_unary, given_binary}

-- Levels

-- No operator of a level below this one follows
abbrev pub Ended : ℕ → List Numbered → Type 0
Ended level us = binary_at_front level us ≡ None

-- A level that is looser still
looser : (a b : ℕ) {ts rest : List Numbered} {e : RawExpr} → a ≤ b → Expr a ts e rest → Expr b ts e rest
looser a zero le h = let same : a ≡ 0 = omega arith in rw same at h
looser a (suc b) le h =
    elim (cases_lt b a) [
      | inl lt ↦ let same : a ≡ suc b = omega arith in rw same at h
      | inr low ↦ grammar.Expr.tighter (looser a b low h)
    ]

-- An operator isn't of a level below that at which an expression ended before it
not_below : (k own : ℕ) (op : Op2) (s : Sign) (n : ℕ) (us : List Numbered) → binary_of s ≡ Some (own, op) → Ended k (sign n s ∷ us) → k ≤ own
unfolding binary_at_front
not_below k own op s n us is ended = leb-true k own (is_none (leb k own) (own, op, us) (rw is at ended))

none_by : (o : Option (ℕ × Op2)) (ts : List Numbered) → given {B = Option (ℕ × Op2 × List Numbered)} o (λ p. cond (leb 0 p.0) None (Some (p.0, p.1, ts))) None ≡ None
none_by None ts = refl
none_by (Some p) ts = ap (λ b. cond {A = Option (ℕ × Op2 × List Numbered)} b None (Some (p.0, p.1, ts))) (leb-zero p.0)

-- No operator is of a level below 0
none_at_zero : (ts : List Numbered) → Ended 0 ts
unfolding binary_at_front
none_at_zero [] = refl
none_at_zero ((n, kinds.Word w) ∷ ts) = refl
none_at_zero ((n, kinds.Name x) ∷ ts) = refl
none_at_zero ((n, kinds.Number v) ∷ ts) = refl
none_at_zero ((n, kinds.Sign s) ∷ ts) = none_by (binary_of s) ts

-- Parts of expressions

data InBrackets : List Numbered → Name → List Numbered → Type 0 where
  brackets : {n m : ℕ} {x : Name} {rest : List Numbered} → InBrackets (sign n signs.OpenRound ∷ named x ∷ sign m signs.CloseRound ∷ rest) x rest

in_brackets_part : (enough : ℕ) → Part (Whatever InBrackets) Anything 1 enough in_brackets_at in_brackets_at
unfolding in_brackets_at
in_brackets_part enough pre ends ts = sign_step _ _ _ (λ _. name_step _ _ (λ x. sign_step _ _ _ (λ _. done_step ends (omega arith) (λ us _. tt) (λ rest. brackets))))

ready_of : {n : ℕ} {ts rest : List Numbered} {x : Name} → InBrackets ts x rest → Expr 0 (word n words.Ready ∷ ts) (Ready n x) rest
ready_of brackets = grammar.Expr.ready

take_of : {n : ℕ} {ts rest : List Numbered} {x : Name} → InBrackets ts x rest → Expr 0 (word n words.Take ∷ ts) (Take n x) rest
take_of brackets = grammar.Expr.take

-- The arguments of a call, and the closing bracket
data Args : List Numbered → List RawExpr → List Numbered → Type 0 where
  no_args : {n : ℕ} {rest : List Numbered} → Args (sign n signs.CloseRound ∷ rest) [] rest
  some_args : {first : RawExpr} {others : List RawExpr} {ts us rest : List Numbered} → Expr 10 ts first us → Others us others rest → Args ts (first ∷ others) rest

args_of : {first : RawExpr} {all : List RawExpr} {one mid : Front} → Whatever (Expr 10) one first → Listed (Whatever Others) (first ∷ []) mid all → Whatever Args (λ us. one (mid us)) all
args_of e (listed o) = λ rest. some_args (e _) (o rest)

call_of : {n : ℕ} {f : Name} {args : List RawExpr} {ts rest : List Numbered} → Args ts args rest → Expr 0 (named f ∷ sign n signs.OpenRound ∷ ts) (Call f args) rest
call_of no_args = grammar.Expr.call_of_none
call_of (some_args e o) = grammar.Expr.call e o

module _ (expr expr' : ℕ → Reads RawExpr) (others others' : List RawExpr → Reads (List RawExpr)) (enough : ℕ)
    (expr_part : (level : ℕ) → Part (Whatever (Expr level)) (Ended level) 1 enough (expr level) (expr' level))
    (others_part : (front : List RawExpr) → Part (Listed (Whatever Others) front) Anything 1 enough (others front) (others' front)) where
  args_part : Part (Whatever Args) Anything 1 enough (args_at (expr 10) others) (args_at (expr' 10) others')
  unfolding args_at
  args_part pre ends ts =
      given_sign _ _ _ _ _ (λ _. done_step ends (omega arith) (λ us _. tt) (λ rest. no_args))
      (bind_step _ _ (expr_part 10) (omega arith) (λ one e is. last_step ends (others_part (e ∷ [])) (omega arith) (omega arith) (λ us _. tt) (λ m all l. args_of is l)))

  module _ (pre : Front) (ends : Ends pre (Whatever (Expr 0))) {ts : List Numbered} {other : Reads RawExpr} where
    past_steps : (n : ℕ) → Step pre (Whatever (Expr 0)) Anything ts other 1 (suc enough) (λ us. word n words.Past ∷ us) 1 Anything (past_at n) (past_at n)
    unfolding past_at
    past_steps n =
        sign_step _ _ _ (λ _. name_step _ _ (λ x. sign_step _ _ _ (λ _. number_step _ _ (λ k. sign_step _ _ _ (λ _. done_step ends (omega arith) (λ us _. tt) (λ rest. grammar.Expr.past))))))

    cast_steps : (t : TypeWord) → Step pre (Whatever (Expr 0)) Anything ts other 1 (suc enough) (λ us. word t.number t.word_of ∷ us) 1 Anything (cast_at (expr 10) t.width) (cast_at (expr' 10) t.width)
    unfolding cast_at
    cast_steps t =
        sign_step _ _ _ (λ _. bind_step _ _ (expr_part 10) (omega arith) (λ m e is. sign_step _ _ _ (λ _. done_step ends (omega arith) (λ us _. tt) (λ rest. grammar.Expr.cast t.is (is _)))))

    behind_name_steps : (x : Name) → Step pre (Whatever (Expr 0)) Anything ts other 1 (suc enough) (λ us. named x ∷ us) 1 Anything (behind_name_at (expr 10) others x) (behind_name_at (expr' 10) others' x)
    unfolding behind_name_at
    behind_name_steps x =
        given_sign _ _ _ _ _ (λ _. bind_step _ _ (expr_part 10) (omega arith) (λ m e is. sign_step _ _ _ (λ _. done_step ends (omega arith) (λ us _. tt) (λ rest. grammar.Expr.cell (is _)))))
        (given_sign _ _ _ _ _ (λ _. bind_step _ _ args_part (omega arith) (λ m es is. done_step ends (omega arith) (λ us _. tt) (λ rest. call_of (is rest))))
        (done_step ends (omega arith) (λ us _. tt) (λ rest. grammar.Expr.variable)))

    primary_steps : {F : List Numbered → Type 0} → Step pre (Whatever (Expr 0)) Anything ts other 1 (suc enough) (λ us. us) 0 F (primary_at (expr 10) others) (primary_at (expr' 10) others')
    unfolding primary_at
    primary_steps =
        given_sign _ _ _ _ _ (λ _. bind_step _ _ (expr_part 10) (omega arith) (λ m e is. sign_step _ _ _ (λ _. done_step ends (omega arith) (λ us _. tt) (λ rest. grammar.Expr.in_parentheses (is _)))))
        (given_type _ _ _ _ (λ t. cast_steps t)
        (given_word _ _ _ _ _ (λ n. past_steps n)
        (given_word _ _ _ _ _ (λ n. bind_step _ _ (in_brackets_part enough) (omega arith) (λ m x is. done_step ends (omega arith) (λ us _. tt) (λ rest. ready_of (is rest))))
        (given_word _ _ _ _ _ (λ n. bind_step _ _ (in_brackets_part enough) (omega arith) (λ m x is. done_step ends (omega arith) (λ us _. tt) (λ rest. take_of (is rest))))
        (given_number _ _ _ _ (λ k. done_step ends (omega arith) (λ us _. tt) (λ rest. grammar.Expr.number))
        (name_step _ _ (λ x. behind_name_steps x)))))))

  operand_part : Part (Whatever (Expr 0)) Anything 1 (suc enough) (operand_at expr others) (operand_at expr' others')
  unfolding operand_at
  operand_part pre ends ts =
      given_unary _ _ _ _ (λ o. bind_step _ _ (expr_part 0) (omega arith) (λ m e is. done_step ends (omega arith) (λ us _. tt) (λ rest. grammar.Expr.unary o.is (is rest))))
      (primary_steps pre ends)

-- A left side of level l, behind which no operator of a level below k follows, and the operators behind it
abbrev Climb : (level bound : ℕ) (k k' : RawExpr → Reads RawExpr) → Type 0
Climb level enough go go' = (pre : Front) → Ends pre (Whatever (Expr level)) → (ts : List Numbered) (other : Reads RawExpr) (bound c l k : ℕ) (left : Front) (e : RawExpr)
    → Whatever (Expr l) left e → l ≤ level → l ≤ suc k → bound ≤ c + enough → 1 ≤ c
    → Step pre (Whatever (Expr level)) (Ended level) ts other 1 bound left c (Ended k) (go e) (go' e)

pub record ExprParts (n m : ℕ) : Type 0 where
  pub expr : (level : ℕ) → Part (Whatever (Expr level)) (Ended level) 1 n (expr_at n level) (expr_at m level)
  climb : (level : ℕ) → Climb level n (climb_at n level) (climb_at m level)
  others : (front : List RawExpr) → Part (Listed (Whatever Others) front) Anything 1 n (others_at n front) (others_at m front)

pub expr_parts : (n m : ℕ) → n ≤ m → ExprParts n m
unfolding expr_at
expr_parts zero m le = record {
  expr = λ level pre ends ts. out_of_turns (through pre (kinds.Number 1) (λ n. ends (λ us. (n, kinds.Number 1) ∷ us) (Number (record { value = 1; token = n })) (λ rest. looser 0 level (omega arith) grammar.Expr.number))) (omega arith);
  climb = λ level pre ends ts other bound c l k left e is low near enough some. out_of_turns (ends left e (λ rest. looser l level low (is rest))) (omega arith);
  others = λ front pre ends ts. out_of_turns (through pre (kinds.Sign signs.CloseRound) (λ n. ends (λ us. sign n signs.CloseRound ∷ us) front (nothing_listed front (λ rest. grammar.Others.no_more)))) (omega arith);
}
expr_parts (suc n) zero le = absurd (omega arith)
expr_parts (suc n) (suc m) le =
    let h = expr_parts n m (omega arith) in
    record {
      expr = λ level pre ends ts.
          bind_step _ _ (operand_part (expr_at n) (expr_at m) (others_at n) (others_at m) n h.expr h.others) (omega arith) (λ left e is.
          weaker_step (λ us _. none_at_zero us) (h.climb level pre ends ts _ _ _ 0 0 left e is (omega arith) (omega arith) (omega arith) (omega arith)));
      climb = λ level pre ends ts other bound c l k left e is low near enough some.
          given_binary level _ _ _ _
          (λ o us held. bind_step _ _ (h.expr o.own) (omega arith) (λ mid r right.
          let above : k ≤ o.own = not_below k o.own o.op o.sign_of o.number us o.is held in
          h.climb level pre ends ts other bound _ (suc o.own) o.own (λ vs. left (sign o.number o.sign_of ∷ mid vs)) (Binary o.op e r)
          (λ rest. grammar.Expr.binary o.is (looser l (suc o.own) (omega (arith, above)) (is _)) (right rest)) (omega (arith, o.below)) (omega arith) (omega arith) (omega arith)))
          (done_step ends (omega arith) (λ us held. held.1) (λ rest. looser l level low (is rest)));
      others = λ front pre ends ts.
          given_sign _ _ _ _ _ (λ _. done_step ends (omega arith) (λ us _. tt) (nothing_listed front (λ rest. grammar.Others.no_more)))
          (sign_step _ _ _ (λ a. bind_step _ _ (h.expr 10) (omega arith) (λ one e is. last_step ends (h.others (front ++ e ∷ [])) (omega arith) (omega arith) (λ us _. tt)
          (λ mid all l. one_listed front e (λ us. sign a signs.Comma ∷ one us) (λ es o rest. grammar.Others.one_more (is _) (o rest)) l))));
    }
