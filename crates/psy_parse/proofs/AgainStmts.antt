-- Each statement that is spelled is read again, if no `else` follows it.
use Rattle.std.proofs.Common.{◌≡◌, ℕ, zero, suc, ◌<◌, ◌≤◌, List, [], ◌∷◌, ◌++◌, length, None, Ok, refl, sym, ap, append_assoc, arith}
use Rattle.std.proofs.lemmas.List.{append-nil}
use Rattle.psy_tree.specs.declared.token.Word.TheVariants as words
use Rattle.psy_tree.specs.declared.token.Sign.TheVariants as signs
use Rattle.psy_tree.specs.declared.raw.RawExpr.{RawExpr}
use Rattle.psy_tree.specs.declared.raw.RawStmt.{RawStmt}
use Rattle.psy_tree.specs.Grammar.{Numbered, Expr, Stmt, Block}
use Rattle.psy_tree.specs.Grammar.Stmt.{set, set_cell, if_alone, if_else, while_timed, while_bounded, send, advance, advance_budget, return}
use Rattle.psy_tree.specs.Grammar.Block.{close, next}
use Rattle.psy_parse.specs.Reading.{name_at, number_at, after_number, after_word, after_sign, after_type, word_at, sign_at, binary_at_front, optional_at, expr_at, test_at, block_in_braces_at, if_at, while_at, send_at, advance_at, return_at, set_at, set_cell_at, stmt_at, block_at}
use Rattle.psy_parse.proofs.Again.{shorter, complete}

mutual
  pub shorter_stmt : {ts rest : List Numbered} {s : RawStmt} → Stmt ts s rest → length rest < length ts
  shorter_stmt (set h) = omega (arith, shorter h)
  shorter_stmt (set_cell h g) = omega (arith, shorter h, shorter g)
  shorter_stmt (if_alone h b) = omega (arith, shorter h, shorter_block b)
  shorter_stmt (if_else h b o) = omega (arith, shorter h, shorter_block b, shorter_block o)
  shorter_stmt (while_timed h b) = omega (arith, shorter h, shorter_block b)
  shorter_stmt (while_bounded h b) = omega (arith, shorter h, shorter_block b)
  shorter_stmt (send h) = omega (arith, shorter h)
  shorter_stmt advance = omega arith
  shorter_stmt advance_budget = omega arith
  shorter_stmt (return h) = omega (arith, shorter h)

  pub shorter_block : {ts rest : List Numbered} {body : List RawStmt} → Block ts body rest → length rest < length ts
  shorter_block close = omega arith
  shorter_block (next s b) = omega (arith, shorter_stmt s, shorter_block b)

-- What a statement doesn't begin with
pub record Begins (ts : List Numbered) : Type 0 where
  pub no_else : after_word words.Else ts ≡ None
  pub no_type : after_type ts ≡ None

stmt_begins : {ts rest : List Numbered} {s : RawStmt} → Stmt ts s rest → Begins ts
unfolding after_word after_type
stmt_begins (set h) = record { no_else = refl; no_type = refl }
stmt_begins (set_cell h g) = record { no_else = refl; no_type = refl }
stmt_begins (if_alone h b) = record { no_else = refl; no_type = refl }
stmt_begins (if_else h b o) = record { no_else = refl; no_type = refl }
stmt_begins (while_timed h b) = record { no_else = refl; no_type = refl }
stmt_begins (while_bounded h b) = record { no_else = refl; no_type = refl }
stmt_begins (send h) = record { no_else = refl; no_type = refl }
stmt_begins advance = record { no_else = refl; no_type = refl }
stmt_begins advance_budget = record { no_else = refl; no_type = refl }
stmt_begins (return h) = record { no_else = refl; no_type = refl }

pub block_begins : {ts rest : List Numbered} {body : List RawStmt} → Block ts body rest → Begins ts
unfolding after_word after_type
block_begins close = record { no_else = refl; no_type = refl }
block_begins (next s b) = stmt_begins s

no_brace : {ts rest : List Numbered} {s : RawStmt} → Stmt ts s rest → after_sign signs.CloseBrace ts ≡ None
unfolding after_sign
no_brace (set h) = refl
no_brace (set_cell h g) = refl
no_brace (if_alone h b) = refl
no_brace (if_else h b o) = refl
no_brace (while_timed h b) = refl
no_brace (while_bounded h b) = refl
no_brace (send h) = refl
no_brace advance = refl
no_brace advance_budget = refl
no_brace (return h) = refl

whole : (n : ℕ) {ts rest : List Numbered} {e : RawExpr} → Expr 10 ts e rest → length ts < n → binary_at_front 10 rest ≡ None → after_sign signs.OpenRound rest ≡ None → after_sign signs.OpenSquare rest ≡ None → expr_at n 10 ts ≡ Ok (e, rest)
whole n h lt a b c = (complete n).expr 10 _ _ _ h lt (record { operator = a; round = b; square = c })

stmt_again : (n : ℕ) → ((ts rest : List Numbered) (body : List RawStmt) → Block ts body rest → length ts < n → block_at n [] ts ≡ Ok (body, rest))
    → {ts rest : List Numbered} {s : RawStmt} → Stmt ts s rest → length ts ≤ n → after_word words.Else rest ≡ None → stmt_at (expr_at n 10) (block_at n []) ts ≡ Ok (s, rest)
unfolding stmt_at if_at while_at send_at advance_at return_at set_at set_cell_at test_at block_in_braces_at optional_at name_at number_at after_number after_word after_sign word_at sign_at binary_at_front
stmt_again n hb (set h) le no_else = rw (whole n h (omega arith) refl refl refl) refl
stmt_again n hb (set_cell h g) le no_else = rw (whole n h (omega arith) refl refl refl, whole n g (omega (arith, shorter h)) refl refl refl) refl
stmt_again n hb (if_alone h b) le no_else = rw (whole n h (omega arith) refl refl refl, hb _ _ _ b (omega (arith, shorter h)), no_else) refl
stmt_again n hb (if_else h b o) le no_else = rw (whole n h (omega arith) refl refl refl, hb _ _ _ b (omega (arith, shorter h)), hb _ _ _ o (omega (arith, shorter h, shorter_block b))) refl
stmt_again n hb (while_timed h b) le no_else = rw (whole n h (omega arith) refl refl refl, hb _ _ _ b (omega (arith, shorter h))) refl
stmt_again n hb (while_bounded h b) le no_else = rw (whole n h (omega arith) refl refl refl, hb _ _ _ b (omega (arith, shorter h))) refl
stmt_again n hb (send h) le no_else = rw (whole n h (omega arith) refl refl refl) refl
stmt_again n hb advance le no_else = refl
stmt_again n hb advance_budget le no_else = refl
stmt_again n hb (return h) le no_else = rw (whole n h (omega arith) refl refl refl) refl

pub block_again : (n : ℕ) (front : List RawStmt) {ts rest : List Numbered} {body : List RawStmt} → Block ts body rest → length ts < n → block_at n front ts ≡ Ok (front ++ body, rest)
unfolding block_at
block_again zero front b lt = absurd (omega arith)
block_again (suc n) front {rest = rest} close lt = unfold after_sign in ap (λ (all : List RawStmt). Ok (all, rest)) (sym (append-nil front))
block_again (suc n) front {rest = rest} (next {first = s} {others = others} h o) lt =
    rw (no_brace h, stmt_again n (λ _ _ _ b le. block_again n [] b le) h (omega arith) (block_begins o).no_else, block_again n (front ++ s ∷ []) o (omega (arith, shorter_stmt h)))
    (ap (λ (all : List RawStmt). Ok (all, rest)) (append_assoc front (s ∷ []) others))
