-- Lists by point of an agent that grow at their ends.
use Rattle.std.proofs.Common.{◌≡◌, ℕ, ◌<◌, List, [], ◌++◌, length, get_or, Some, sym, subst, ◌∙◌, arith}
use Rattle.std.specs.Prelude.{replicate, slice_get}
use Rattle.std.proofs.lemmas.List.{length-replicate, get_or-replicate}
use Rattle.std.proofs.lemmas.Option.{get_or_from_slice_get, same_Some, slice_get-get_or, slice_get_within}
use Rattle.psy_tree.specs.declared.unit.AgentDecl.{AgentDecl}
use Rattle.psy_flow.specs.Listed.{AreLonger, AreOf}

module _ {X : Type 0} (agent : AgentDecl) where
  -- Where each list was this, and with what it has more is that
  pub longer_are : (more : ℕ → List X) (P Q : ℕ → List X → Type 0) (before after : List (List X)) → AreLonger more before after →
      ((point : ℕ) (list : List X) → point < length agent.points → P point list → Q point (list ++ more point)) → AreOf agent P before → AreOf agent Q after
  longer_are more P Q before after longer step are = record {
    count = longer.count ∙ are.count;
    each = λ point one at.
        let inside = slice_get_within after point one at in
        let list : List X = get_or before point [] in
        let was : slice_get before point ≡ Some list = slice_get-get_or before point [] (omega (arith, inside, longer.count)) in
        let is : list ++ more point ≡ one = same_Some (list ++ more point) one (sym (longer.each point list was) ∙ at) in
        subst (Q point) is (step point list (omega (arith, inside, longer.count, are.count)) (are.each point list was));
  }

  -- Where what each list was is that too
  pub same_are : (P Q : ℕ → List X → Type 0) (lists : List (List X)) → ((point : ℕ) (list : List X) → point < length agent.points → P point list → Q point list) →
      AreOf agent P lists → AreOf agent Q lists
  same_are P Q lists step are = record {
    count = are.count;
    each = λ point one at. (let inside = slice_get_within lists point one at in step point one (omega (arith, inside, are.count)) (are.each point one at));
  }

  -- Empty lists
  pub empty_are : (P : ℕ → List X → Type 0) (lists : List (List X)) → lists ≡ replicate (length agent.points) [] → ((point : ℕ) → P point []) → AreOf agent P lists
  empty_are P lists e each = subst (AreOf agent P) (sym e) (record {
    count = length-replicate (length agent.points) [];
    each = λ point one at.
        let inside = slice_get_within (replicate (length agent.points) []) point one at in
        let less : point < length agent.points = omega (arith, inside, length-replicate {A = List X} (length agent.points) []) in
        subst (P point) (sym (get_or-replicate (length agent.points) point [] [] less) ∙ get_or_from_slice_get (replicate (length agent.points) []) point one [] at) (each point);
  })
