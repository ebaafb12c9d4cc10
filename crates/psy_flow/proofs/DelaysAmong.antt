-- The greatest delay of some sends: of more of them, and of all agents'.
use Rattle.std.proofs.Common.{◌≡◌, ℕ, ◌+◌, ◌<◌, ◌==◌, max, Bool, List, [], ◌∷◌, ◌++◌, Some, filter, map, take, length, get_or, sym, ap, ◌∙◌, arith}
use Rattle.std.specs.List.{flat_map}
use Rattle.std.proofs.lemmas.Grind.{flat_map-append}
use Rattle.std.proofs.lemmas.List.{append-nil, map-append, take_more}
use Rattle.std.proofs.lemmas.List.Elements.{filter-append}
use Rattle.psy_base.specs.Extremes.{most_of}
use Rattle.psy_tree.specs.declared.unit.AgentDecl.{AgentDecl}
use Rattle.psy_tree.specs.declared.unit.Expr.{Expr}
use Rattle.psy_tree.specs.declared.unit.Stmt.{Stmt, fold-roll-Stmt}
use Rattle.psy_tree.specs.declared.unit.Stmt.TheVariants as stmt
use Rattle.psy_tree.specs.declared.unit.Stmt.TheOpen.{Stmt-F}
use Rattle.psy_tree.specs.declared.unit.Unit.{Unit as Whole}
use Rattle.psy_meaning.specs.Sendings.{delay_of, joined, sendings_in, sendings_of, sendings_step, sendings_to}
use Rattle.psy_meaning.specs.Ways.{Sending}
use Rattle.psy_flow.specs.Listed.{delay_among}

pub most_append : (xs ys : List ℕ) → most_of (xs ++ ys) ≡ max (most_of xs) (most_of ys)
most_append [] ys = omega arith
most_append (n ∷ xs) ys = omega (arith, most_append xs ys)

module _ (unit : Whole) (stream : ℕ) where
  -- the sends go to the stream
  abbrev to : Sending → Bool
  to s = s.stream == stream

  pub among_append : (xs ys : List Sending) → delay_among unit stream (xs ++ ys) ≡ max (delay_among unit stream xs) (delay_among unit stream ys)
  among_append xs ys =
      ap (λ s. most_of (map (delay_of unit) s)) (filter-append to xs ys)
      ∙ ap most_of (map-append (delay_of unit) (filter to xs) (filter to ys))
      ∙ most_append (map (delay_of unit) (filter to xs)) (map (delay_of unit) (filter to ys))

  joined_push : (lists : List (List Sending)) (last : List Sending) → joined (lists ++ last ∷ []) ≡ joined lists ++ last
  joined_push lists last = flat_map-append (λ (sendings : List Sending). sendings) lists (last ∷ []) ∙ ap (λ s. joined lists ++ s) (append-nil last)

  -- Of one statement more
  pub stmt_more : (stmts : List Stmt) (i : ℕ) (d : Stmt) → i < length stmts →
      delay_among unit stream (sendings_in (take (i + 1) stmts)) ≡ max (delay_among unit stream (sendings_in (take i stmts))) (delay_among unit stream (sendings_of (get_or stmts i d)))
  stmt_more stmts i d less =
      let last = get_or stmts i d in
      let more : sendings_in (take (i + 1) stmts) ≡ sendings_in (take i stmts) ++ sendings_of last =
      ap sendings_in (take_more stmts i d less) ∙ ap joined (map-append sendings_of (take i stmts) (last ∷ [])) ∙ joined_push (map sendings_of (take i stmts)) (sendings_of last) in
      ap (delay_among unit stream) more ∙ among_append (sendings_in (take i stmts)) (sendings_of last)

  -- Of both branches
  pub branches : (test : Expr) (branch other : List Stmt) →
      delay_among unit stream (sendings_of (stmt.If test branch (Some other))) ≡ max (delay_among unit stream (sendings_in branch)) (delay_among unit stream (sendings_in other))
  branches test branch other =
      ap (λ s. delay_among unit stream (sendings_of s)) (sym (stmt.rolls-If test branch (Some other)))
      ∙ ap (delay_among unit stream) (fold-roll-Stmt (List Sending) sendings_step (Stmt-F.If test branch (Some other)))
      ∙ among_append (sendings_in branch) (sendings_in other)

  -- The greatest delay of the sends of some agents
  abbrev pub delay_by_all : List AgentDecl → ℕ
  delay_by_all agents = most_of (map (delay_of unit) (flat_map (sendings_to stream) agents))

  -- Of one agent more
  pub agent_more : (agents : List AgentDecl) (i : ℕ) (d : AgentDecl) → i < length agents →
      delay_by_all (take (i + 1) agents) ≡ max (delay_by_all (take i agents)) (delay_among unit stream (sendings_in (get_or agents i d).stmts))
  agent_more agents i d less =
      let last = get_or agents i d in
      let before = flat_map (sendings_to stream) (take i agents) in
      ap delay_by_all (take_more agents i d less)
      ∙ ap (λ s. most_of (map (delay_of unit) s)) (flat_map-append (sendings_to stream) (take i agents) (last ∷ []) ∙ ap (λ s. before ++ s) (append-nil (sendings_to stream last)))
      ∙ ap most_of (map-append (delay_of unit) before (sendings_to stream last))
      ∙ most_append (map (delay_of unit) before) (map (delay_of unit) (sendings_to stream last))
