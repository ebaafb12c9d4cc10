-- Each expression that is spelled is read again, if what follows it can't be a part of it.
use Rattle.std.proofs.Common.{◌≡◌, ℕ, zero, suc, ◌<◌, ◌≤◌, List, [], ◌∷◌, ◌++◌, length, Option, Some, None, Ok, Bool, true, false, cond, leb, refl, sym, ap, ◌∙◌, append_assoc, arith}
use Rattle.std.proofs.lemmas.Bool.{leb-true, le-leb, lt-leb}
use Rattle.std.proofs.lemmas.List.{append-nil}
use Rattle.psy_arith.specs.declared.operators.Op2.{Op2}
use Rattle.psy_tree.specs.declared.token.Kind.TheVariants as kinds
use Rattle.psy_tree.specs.declared.token.Sign.{Sign}
use Rattle.psy_tree.specs.declared.token.Sign.TheVariants as signs
use Rattle.psy_tree.specs.declared.raw.RawExpr.{RawExpr}
use Rattle.psy_tree.specs.declared.raw.RawExpr.TheVariants.{Binary}
use Rattle.psy_tree.specs.Grammar.{Numbered, sign, unary_of, binary_of, Expr, Others}
use Rattle.psy_tree.specs.Grammar.Expr.{number, variable, cell, call_of_none, call, past, ready, take, cast, in_parentheses, unary, tighter, binary}
use Rattle.psy_tree.specs.Grammar.Others.{no_more, one_more}
use Rattle.psy_parse.specs.Reading.{given, name_at, number_at, after_number, after_word, after_sign, after_type, word_at, sign_at, unary_at_front, binary_at_front, in_brackets_at, past_at, cast_at, args_at, behind_name_at, primary_at, operand_at, expr_at, climb_at, others_at}

-- What follows an expression of operators of levels below this one
pub record Closed (level : ℕ) (rest : List Numbered) : Type 0 where
  pub operator : binary_at_front level rest ≡ None
  pub round : after_sign signs.OpenRound rest ≡ None
  pub square : after_sign signs.OpenSquare rest ≡ None

mutual
  pub shorter : {level : ℕ} {ts rest : List Numbered} {e : RawExpr} → Expr level ts e rest → length rest < length ts
  shorter number = omega arith
  shorter variable = omega arith
  shorter (cell h) = omega (arith, shorter h)
  shorter call_of_none = omega arith
  shorter (call h o) = omega (arith, shorter h, shorter_others o)
  shorter past = omega arith
  shorter ready = omega arith
  shorter take = omega arith
  shorter (cast e h) = omega (arith, shorter h)
  shorter (in_parentheses h) = omega (arith, shorter h)
  shorter (unary e h) = omega (arith, shorter h)
  shorter (tighter h) = shorter h
  shorter (binary e a b) = omega (arith, shorter a, shorter b)

  pub shorter_others : {ts rest : List Numbered} {es : List RawExpr} → Others ts es rest → length rest < length ts
  shorter_others no_more = omega arith
  shorter_others (one_more h o) = omega (arith, shorter h, shorter_others o)

-- No expression begins with a closing bracket
unary_open : (s : Sign) (n : ℕ) (op : _) (ts : List Numbered) → unary_of s ≡ Some op → after_sign signs.CloseRound (sign n s ∷ ts) ≡ None
unfolding after_sign
unary_open signs.CloseRound n op ts e = absurd cc
unary_open _ n op ts e = refl

opens_with : {level : ℕ} {ts rest : List Numbered} {e : RawExpr} → Expr level ts e rest → after_sign signs.CloseRound ts ≡ None
unfolding after_sign
opens_with number = refl
opens_with variable = refl
opens_with (cell h) = refl
opens_with call_of_none = refl
opens_with (call h o) = refl
opens_with past = refl
opens_with ready = refl
opens_with take = refl
opens_with (cast e h) = refl
opens_with (in_parentheses h) = refl
opens_with (unary {op = op} {s = s} {n = n} {ts = ts} e h) = unary_open s n op ts e
opens_with (tighter h) = opens_with h
opens_with (binary e a b) = opens_with a

others_closed : {ts rest : List Numbered} {es : List RawExpr} → Others ts es rest → Closed 10 ts
unfolding after_sign binary_at_front
others_closed no_more = record { operator = refl; round = refl; square = refl }
others_closed (one_more h o) = record { operator = refl; round = refl; square = refl }

-- An operator between operands is no bracket
not_bracket : (s : Sign) (p : ℕ × Op2) (n : ℕ) (ts : List Numbered) → binary_of s ≡ Some p → (after_sign signs.OpenRound (sign n s ∷ ts) ≡ None) × (after_sign signs.OpenSquare (sign n s ∷ ts) ≡ None)
unfolding after_sign
not_bracket signs.OpenRound p n ts e = absurd cc
not_bracket signs.OpenSquare p n ts e = absurd cc
not_bracket _ p n ts e = (refl, refl)

-- An operator is found by levels looser than its own, and by no other
pub found_above : (level own : ℕ) (op : Op2) (s : Sign) (n : ℕ) (ts : List Numbered) → binary_of s ≡ Some (own, op) → own < level → binary_at_front level (sign n s ∷ ts) ≡ Some (own, op, ts)
unfolding binary_at_front
found_above level own op s n ts e lt = rw (e, lt-leb level own lt) refl

not_found : (own : ℕ) (op : Op2) (s : Sign) (n : ℕ) (ts : List Numbered) → binary_of s ≡ Some (own, op) → binary_at_front own (sign n s ∷ ts) ≡ None
unfolding binary_at_front
not_found own op s n ts e = rw (e, le-leb own own (omega arith)) refl

pub is_none : {A : Type 0} (b : Bool) (x : A) → cond b None (Some x) ≡ None → b ≡ true
is_none true x e = refl
is_none false x e = absurd cc

none_cases : (o : Option (ℕ × Op2)) (level low : ℕ) (ts : List Numbered) → low ≤ level → given {B = Option (ℕ × Op2 × List Numbered)} o (λ p. cond (leb level p.0) None (Some (p.0, p.1, ts))) None ≡ None
    → given {B = Option (ℕ × Op2 × List Numbered)} o (λ p. cond (leb low p.0) None (Some (p.0, p.1, ts))) None ≡ None
none_cases None level low ts le none = refl
none_cases (Some p) level low ts le none =
    let found : ℕ × Op2 × List Numbered = (p.0, p.1, ts) in
    let above : level ≤ p.0 = leb-true level p.0 (is_none (leb level p.0) found none) in
    ap (λ b. cond b None (Some found)) (le-leb low p.0 (omega arith))

none_below : (level low : ℕ) (ts : List Numbered) → low ≤ level → binary_at_front level ts ≡ None → binary_at_front low ts ≡ None
unfolding binary_at_front
none_below level low [] le none = refl
none_below level low ((n, kinds.Word w) ∷ ts) le none = refl
none_below level low ((n, kinds.Name x) ∷ ts) le none = refl
none_below level low ((n, kinds.Number v) ∷ ts) le none = refl
none_below level low ((n, kinds.Sign s) ∷ ts) le none = none_cases (binary_of s) level low ts le none

pub record Complete (n : ℕ) : Type 0 where
  pub expr : (level : ℕ) (ts : List Numbered) (e : RawExpr) (rest : List Numbered) → Expr level ts e rest → length ts < n → Closed level rest → expr_at n level ts ≡ Ok (e, rest)
  pub others : (ts : List Numbered) (es : List RawExpr) (rest : List Numbered) → Others ts es rest → length ts < n → (front : List RawExpr) → others_at n front ts ≡ Ok (front ++ es, rest)

closed_by : {level : ℕ} {rest : List Numbered} → binary_at_front level rest ≡ None → after_sign signs.OpenRound rest ≡ None → after_sign signs.OpenSquare rest ≡ None → Closed level rest
closed_by a b c = record { operator = a; round = b; square = c }

operand_again : (n : ℕ) (H : Complete n) {ts rest : List Numbered} {e : RawExpr} → Expr 0 ts e rest → length ts ≤ n → Closed 0 rest → operand_at (expr_at n) (others_at n) ts ≡ Ok (e, rest)
unfolding operand_at primary_at behind_name_at args_at past_at cast_at in_brackets_at name_at number_at after_number after_word after_sign after_type word_at sign_at unary_at_front binary_at_front
operand_again n H number le c = refl
operand_again n H variable le c = rw (c.square, c.round) refl
operand_again n H (cell h) le c = rw (H.expr _ _ _ _ h (omega arith) (closed_by refl refl refl)) refl
operand_again n H call_of_none le c = refl
operand_again n H (call {first = first} h o) le c = rw (opens_with h, H.expr _ _ _ _ h (omega arith) (others_closed o), H.others _ _ _ o (omega (arith, shorter h)) (first ∷ [])) refl
operand_again n H past le c = refl
operand_again n H ready le c = refl
operand_again n H take le c = refl
operand_again n H (cast e h) le c = rw (e, H.expr _ _ _ _ h (omega arith) (closed_by refl refl refl)) refl
operand_again n H (in_parentheses h) le c = rw (H.expr _ _ _ _ h (omega arith) (closed_by refl refl refl)) refl
operand_again n H (unary e h) le c = rw (e, H.expr _ _ _ _ h (omega arith) c) refl

record Leads (n level : ℕ) (ts : List Numbered) (e : RawExpr) (rest : List Numbered) : Type 0 where
  turns : ℕ
  within : turns ≤ n
  enough : length rest < turns
  reads : expr_at (suc n) level ts ≡ climb_at turns level e rest

positive : (k m : ℕ) → m < k → (j : ℕ) × (k ≡ suc j)
positive zero m lt = absurd (omega arith)
positive (suc k) m lt = (k, refl)

stops : (k m level : ℕ) (e : RawExpr) (rest : List Numbered) → m < k → binary_at_front level rest ≡ None → climb_at k level e rest ≡ Ok (e, rest)
unfolding climb_at
stops zero m level e rest lt none = absurd (omega arith)
stops (suc k) m level e rest lt none = rw none refl

climb_step : (j level own : ℕ) (op : Op2) (left right : RawExpr) (s : Sign) (n : ℕ) (us rest : List Numbered) → binary_of s ≡ Some (own, op) → own < level → expr_at j own us ≡ Ok (right, rest)
    → climb_at (suc j) level left (sign n s ∷ us) ≡ climb_at j level (Binary op left right) rest
unfolding climb_at
climb_step j level own op left right s n us rest is lt read = rw (found_above level own op s n us is lt, read) refl

spine : (n : ℕ) (H : (j : ℕ) → j ≤ n → Complete j) (l : ℕ) {ts rest : List Numbered} {e : RawExpr} → Expr l ts e rest → (level m : ℕ) → l ≤ level → length ts ≤ n → l ≤ suc m → Closed m rest → Leads n level ts e rest
unfolding expr_at
spine n H zero {ts = ts} {rest = rest} {e = e} h level m le len low c =
    record {
      turns = n;
      within = omega arith;
      enough = omega (arith, shorter h);
      reads = rw (operand_again n (H n (omega arith)) h len (closed_by (none_below m 0 rest (omega arith) c.operator) c.round c.square)) refl;
    }
spine n H (suc l) (tighter h) level m le len low c = spine n H l h level m (omega arith) len (omega arith) c
spine n H (suc l) {ts = ts} {rest = rest} (binary {op = op} {left = left} {right = right} {s = s} {n = k} {us = us} is a b) level m le len low c =
    let open_after = not_bracket s (l, op) k us is in
    let before = spine n H (suc l) a level l le len (omega arith) (closed_by (not_found l op s k us is) open_after.0 open_after.1) in
    let j = positive before.turns (length (sign k s ∷ us)) before.enough in
    let read = (H j.0 (omega (arith, before.within, j.1))).expr l us right rest b (omega (arith, before.enough, j.1)) (closed_by (none_below m l rest (omega arith) c.operator) c.round c.square) in
    record {
      turns = j.0;
      within = omega (arith, before.within, j.1);
      enough = omega (arith, before.enough, j.1, shorter b);
      reads = before.reads ∙ ap (λ t. climb_at t level left (sign k s ∷ us)) j.1 ∙ climb_step j.0 level l op left right s k us rest is (omega arith) read;
    }

others_again : (n : ℕ) (H : Complete n) {ts rest : List Numbered} {es : List RawExpr} → Others ts es rest → length ts ≤ n → (front : List RawExpr) → others_at (suc n) front ts ≡ Ok (front ++ es, rest)
unfolding others_at after_sign sign_at
others_again n H {rest = rest} no_more le front = ap (λ (all : List RawExpr). Ok (all, rest)) (sym (append-nil front))
others_again n H {rest = rest} (one_more {e = e} {others = others} h o) le front =
    rw (H.expr _ _ _ _ h (omega arith) (others_closed o), H.others _ _ _ o (omega (arith, shorter h)) (front ++ e ∷ []))
    (ap (λ (all : List RawExpr). Ok (all, rest)) (append_assoc front (e ∷ []) others))

make : (n : ℕ) → ((j : ℕ) → j < n → Complete j) → Complete n
make zero H = record { expr = λ level ts e rest h lt c. absurd (omega arith); others = λ ts es rest o lt front. absurd (omega arith) }
make (suc n) H = record {
  expr = λ level ts e rest h lt c.
      let s = spine n (λ j le. H j (omega arith)) level h level level (omega arith) (omega arith) (omega arith) c in
      s.reads ∙ stops s.turns (length rest) level e rest s.enough c.operator;
  others = λ ts es rest o lt front. others_again n (H n (omega arith)) o (omega arith) front;
}

below : (n m : ℕ) → m < n → Complete m
below zero m lt = absurd (omega arith)
below (suc n) m lt = make m (λ j lj. below n j (omega arith))

pub complete : (n : ℕ) → Complete n
complete n = below (suc n) n (omega arith)
