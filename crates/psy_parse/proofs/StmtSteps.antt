-- Each step of a statement that is read.
use Rattle.std.proofs.Common.{ℕ, zero, suc, ◌≤◌, List, [], ◌∷◌, ◌++◌, Option, Some, None, arith}
use Rattle.psy_tree.specs.declared.token.Kind.TheVariants as kinds
use Rattle.psy_tree.specs.declared.token.Word.{Word}
use Rattle.psy_tree.specs.declared.token.Word.TheVariants as words
use Rattle.psy_tree.specs.declared.token.Sign.TheVariants as signs
use Rattle.psy_tree.specs.declared.raw.Name.{Name}
use Rattle.psy_tree.specs.declared.raw.Lit.{Lit}
use Rattle.psy_tree.specs.declared.raw.RawExpr.{RawExpr}
use Rattle.psy_tree.specs.declared.raw.RawStmt.{RawStmt}
use Rattle.psy_tree.specs.declared.raw.RawStmt.TheVariants.{If, While, Advance}
use Rattle.psy_tree.specs.Grammar.{Numbered, named, numeral, word, sign, Expr, Stmt, Block}
use Rattle.psy_tree.specs.Grammar as grammar
use Rattle.psy_parse.specs.Reading.{Reads, optional_at, expr_at, test_at, block_in_braces_at, if_at, while_at, send_at, advance_at, return_at, set_at, set_cell_at, stmt_at, block_at}
use Rattle.psy_parse.proofs.Steps.{Front, through, Anything, Whatever, Ends, Step, Part, Listed, listed, nothing_listed, one_listed, done_step, out_of_turns, bind_step, last_step}
use Rattle.psy_parse.proofs.Heads.{sign_step, word_step, number_step, name_step, given_sign, given_word}
use Rattle.psy_parse.proofs.ExprSteps.{Ended, expr_parts}

-- A number behind a word, or neither
pub data Optional (w : Word) : List Numbered → Option Lit → List Numbered → Type 0 where
  without : {rest : List Numbered} → Optional w rest None rest
  with_number : {n : ℕ} {k : Lit} {rest : List Numbered} → Optional w (word n w ∷ numeral k ∷ rest) (Some k) rest

pub optional_part : (w : Word) (enough : ℕ) → Part (Whatever (Optional w)) Anything 0 enough (optional_at w) (optional_at w)
unfolding optional_at
optional_part w enough pre ends ts =
    given_word _ _ _ _ _ (λ _. number_step _ _ (λ k. done_step ends (omega arith) (λ us _. tt) (λ rest. with_number)))
    (done_step ends (omega arith) (λ us _. tt) (λ rest. without))

data InRound : List Numbered → RawExpr → List Numbered → Type 0 where
  round : {a b : ℕ} {e : RawExpr} {ts rest : List Numbered} → Expr 10 ts e (sign b signs.CloseRound ∷ rest) → InRound (sign a signs.OpenRound ∷ ts) e rest

data InBraces : List Numbered → List RawStmt → List Numbered → Type 0 where
  braces : {a : ℕ} {body : List RawStmt} {ts rest : List Numbered} → Block ts body rest → InBraces (sign a signs.OpenBrace ∷ ts) body rest

alone_of : {n : ℕ} {e : RawExpr} {body : List RawStmt} {ts us rest : List Numbered} → InRound ts e us → InBraces us body rest → Stmt (word n words.If ∷ ts) (If e body None) rest
alone_of (round h) (braces b) = grammar.Stmt.if_alone h b

else_of : {n m : ℕ} {e : RawExpr} {body other : List RawStmt} {ts us vs rest : List Numbered} → InRound ts e us → InBraces us body (word m words.Else ∷ vs) → InBraces vs other rest
    → Stmt (word n words.If ∷ ts) (If e body (Some other)) rest
else_of (round h) (braces b) (braces o) = grammar.Stmt.if_else h b o

while_of : {n : ℕ} {e : RawExpr} {most : Option Lit} {body : List RawStmt} {ts us vs rest : List Numbered} → InRound ts e us → Optional words.Max us most vs → InBraces vs body rest
    → Stmt (word n words.While ∷ ts) (While n e most body) rest
while_of (round h) without (braces b) = grammar.Stmt.while_timed h b
while_of (round h) with_number (braces b) = grammar.Stmt.while_bounded h b

advance_of : {n a b : ℕ} {count : Lit} {clock : Name} {budget : Option Lit} {us rest : List Numbered} → Optional words.Budget us budget (sign b signs.Semicolon ∷ rest)
    → Stmt (word n words.Advance ∷ numeral count ∷ word a words.On ∷ named clock ∷ us) (Advance n count clock budget) rest
advance_of without = grammar.Stmt.advance
advance_of with_number = grammar.Stmt.advance_budget

module _ (expr expr' : Reads RawExpr) (block block' : Reads (List RawStmt)) (enough : ℕ)
    (expr_part : Part (Whatever (Expr 10)) (Ended 10) 1 enough expr expr') (block_part : Part (Whatever Block) Anything 1 enough block block') where
  test_part : Part (Whatever InRound) Anything 1 enough (test_at expr) (test_at expr')
  unfolding test_at
  test_part pre ends ts = sign_step _ _ _ (λ _. bind_step _ _ expr_part (omega arith) (λ m e is. sign_step _ _ _ (λ _. done_step ends (omega arith) (λ us _. tt) (λ rest. round (is _)))))

  braces_part : Part (Whatever InBraces) Anything 1 enough (block_in_braces_at block) (block_in_braces_at block')
  unfolding block_in_braces_at
  braces_part pre ends ts = sign_step _ _ _ (λ _. last_step ends block_part (omega arith) (omega arith) (λ us _. tt) (λ m body b rest. braces (b rest)))

  module _ (pre : Front) (ends : Ends pre (Whatever Stmt)) {ts : List Numbered} {other : Reads RawStmt} where
    if_steps : (n : ℕ) → Step pre (Whatever Stmt) Anything ts other 1 (suc enough) (λ us. word n words.If ∷ us) 1 Anything (if_at expr block) (if_at expr' block')
    unfolding if_at
    if_steps n =
        bind_step _ _ test_part (omega arith) (λ _ e t. bind_step _ _ braces_part (omega arith) (λ _ body b.
        given_word _ _ _ _ _ (λ _. bind_step _ _ braces_part (omega arith) (λ _ other o. done_step ends (omega arith) (λ us _. tt) (λ rest. else_of (t _) (b _) (o rest))))
        (done_step ends (omega arith) (λ us _. tt) (λ rest. alone_of (t _) (b rest)))))

    while_steps : (n : ℕ) → Step pre (Whatever Stmt) Anything ts other 1 (suc enough) (λ us. word n words.While ∷ us) 1 Anything (while_at expr block n) (while_at expr' block' n)
    unfolding while_at
    while_steps n =
        bind_step _ _ test_part (omega arith) (λ _ e t. bind_step _ _ (optional_part words.Max enough) (omega arith) (λ _ most o. bind_step _ _ braces_part (omega arith) (λ _ body b.
        done_step ends (omega arith) (λ us _. tt) (λ rest. while_of (t _) (o _) (b rest)))))

    send_steps : (n : ℕ) → Step pre (Whatever Stmt) Anything ts other 1 (suc enough) (λ us. word n words.Send ∷ us) 1 Anything (send_at expr n) (send_at expr' n)
    unfolding send_at
    send_steps n =
        bind_step _ _ expr_part (omega arith) (λ _ e is. word_step _ _ _ (λ _. name_step _ _ (λ stream. word_step _ _ _ (λ _. number_step _ _ (λ after. word_step _ _ _ (λ _. name_step _ _ (λ clock. sign_step _ _ _ (λ _.
        done_step ends (omega arith) (λ us _. tt) (λ rest. grammar.Stmt.send (is _))))))))))

    advance_steps : (n : ℕ) → Step pre (Whatever Stmt) Anything ts other 1 (suc enough) (λ us. word n words.Advance ∷ us) 1 Anything (advance_at n) (advance_at n)
    unfolding advance_at
    advance_steps n =
        number_step _ _ (λ count. word_step _ _ _ (λ _. name_step _ _ (λ clock. bind_step _ _ (optional_part words.Budget enough) (omega arith) (λ _ budget o. sign_step _ _ _ (λ _.
        done_step ends (omega arith) (λ us _. tt) (λ rest. advance_of (o _)))))))

    return_steps : (n : ℕ) → Step pre (Whatever Stmt) Anything ts other 1 (suc enough) (λ us. word n words.Return ∷ us) 1 Anything (return_at expr n) (return_at expr' n)
    unfolding return_at
    return_steps n = bind_step _ _ expr_part (omega arith) (λ _ e is. sign_step _ _ _ (λ _. done_step ends (omega arith) (λ us _. tt) (λ rest. grammar.Stmt.return (is _))))

    set_steps : (x : Name) → Step pre (Whatever Stmt) Anything ts other 1 (suc enough) (λ us. named x ∷ us) 1 Anything (set_at expr x) (set_at expr' x)
    unfolding set_at
    set_steps x = sign_step _ _ _ (λ _. bind_step _ _ expr_part (omega arith) (λ _ e is. sign_step _ _ _ (λ _. done_step ends (omega arith) (λ us _. tt) (λ rest. grammar.Stmt.set (is _)))))

    set_cell_steps : (x : Name) (n : ℕ) → Step pre (Whatever Stmt) Anything ts other 1 (suc enough) (λ us. named x ∷ sign n signs.OpenSquare ∷ us) 2 Anything (set_cell_at expr x) (set_cell_at expr' x)
    unfolding set_cell_at
    set_cell_steps x n =
        bind_step _ _ expr_part (omega arith) (λ _ index i. sign_step _ _ _ (λ _. sign_step _ _ _ (λ _. bind_step _ _ expr_part (omega arith) (λ _ e is. sign_step _ _ _ (λ _.
        done_step ends (omega arith) (λ us _. tt) (λ rest. grammar.Stmt.set_cell (i _) (is _)))))))

  stmt_part : Part (Whatever Stmt) Anything 1 (suc enough) (stmt_at expr block) (stmt_at expr' block')
  unfolding stmt_at
  stmt_part pre ends ts =
      given_word _ _ _ _ _ (λ n. if_steps pre ends n)
      (given_word _ _ _ _ _ (λ n. while_steps pre ends n)
      (given_word _ _ _ _ _ (λ n. send_steps pre ends n)
      (given_word _ _ _ _ _ (λ n. advance_steps pre ends n)
      (given_word _ _ _ _ _ (λ n. return_steps pre ends n)
      (name_step _ _ (λ x. given_sign _ _ _ _ _ (λ n. set_cell_steps pre ends x n) (set_steps pre ends x)))))))

-- From the empty list on nothing was read before
from_nothing : {mid : Front} {body : List RawStmt} → Listed (Whatever Block) [] mid body → Whatever Block mid body
from_nothing (listed b) = b

block_parts : (n m : ℕ) → n ≤ m → (front : List RawStmt) → Part (Listed (Whatever Block) front) Anything 1 n (block_at n front) (block_at m front)
unfolding block_at
block_parts zero m le front pre ends ts =
    out_of_turns (through pre (kinds.Sign signs.CloseBrace) (λ n. ends (λ us. sign n signs.CloseBrace ∷ us) front (nothing_listed front (λ rest. grammar.Block.close)))) (omega arith)
block_parts (suc n) zero le front pre ends ts = absurd (omega arith)
block_parts (suc n) (suc m) le front pre ends ts =
    let within : n ≤ m = omega arith in
    let inner : Part (Whatever Block) Anything 1 n (block_at n []) (block_at m []) = λ pre ends ts. last_step ends (block_parts n m within []) (omega arith) (omega arith) (λ us _. tt) (λ _ body l. from_nothing l) in
    given_sign _ _ _ _ _ (λ _. done_step ends (omega arith) (λ us _. tt) (nothing_listed front (λ rest. grammar.Block.close)))
    (bind_step _ _ (stmt_part (expr_at n 10) (expr_at m 10) (block_at n []) (block_at m []) n ((expr_parts n m within).expr 10) inner) (omega arith) (λ one s is.
    last_step ends (block_parts n m within (front ++ s ∷ [])) (omega arith) (omega arith) (λ us _. tt) (λ _ all l. one_listed front s one (λ body b rest. grammar.Block.next (is _) (b rest)) l)))

pub block_part : (n m : ℕ) → n ≤ m → Part (Whatever Block) Anything 1 n (block_at n []) (block_at m [])
block_part n m le pre ends ts = last_step ends (block_parts n m le []) (omega arith) (omega arith) (λ us _. tt) (λ _ body l. from_nothing l)
