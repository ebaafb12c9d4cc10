-- What is left of the proof of `rounds::go_round`.
use Rattle.std.proofs.Common.{◌≡◌, ◌∙◌, ◌≤◌, List, [], ◌∷◌, ◌++◌, length, length-append, inl, inr, subst, sym, ap, arith}
use Rattle.std.proofs.lemmas.Bool.{cases_lt}
use Rattle.std.proofs.lemmas.List.Elements.{All-contains}
use Rattle.psy_base.specs.declared.edge.Edge.{Edge}
use Rattle.psy_rate.specs.Followed.{IsChosen, IsFollowed, IsLoop}
use Rattle.psy_rate.specs.Lines.{end_of}
use Rattle.psy_rate.proofs.Followed.{at_none, both, end_both, length_both, same_path, stops, weight_both}
use Rattle.psy_rate.proofs.rounds.go_round.Goals as goal
use Rattle.psy_window.specs.Windows.{IsEdge}

pub returns-in_err-edge : goal.returns-in_err-edge
returns-in_err-edge c =
    let graph = c.args.edges.now in
    let chosen = c.args.chosen.now in
    let before = c.loop-step.invariant in
    at_none c.from_residual.result ((path : List Edge) → IsLoop graph chosen c.args.start path → length path ≤ length chosen → ⊥) _ c.from_residual.ensures
    (λ loop is few. stops graph chosen c.args.start c.loop-step.node before.path loop before.followed before.ends c.in_err-edge.ensures.chosen is.followed (omega (arith, before.count, before.first loop is)))

pub returns-then-node-start : goal.returns-then-node-start
returns-then-node-start c =
    let graph = c.args.edges.now in
    let chosen = c.args.chosen.now in
    let before = c.loop-step.invariant in
    let e = c.in_ok-edge.edge in
    let edge : IsEdge (length chosen) e = All-contains (IsEdge (length chosen)) graph e c.requires.edges c.in_ok-edge.ensures.listed in
    let path = before.path ++ e ∷ [] in (
      path,
      record {
        round = record {
          loop = record {
            followed = both graph chosen c.args.start before.path (e ∷ []) before.followed (subst (λ n. IsChosen graph chosen n e) (sym before.ends) c.in_ok-edge.ensures.chosen, tt);
            some = omega (arith, length-append before.path (e ∷ []));
            back = end_both c.args.start before.path (e ∷ []) ∙ c.if-node-start.true;
          };
          first = λ other is. omega (arith, before.first other is, before.count, length-append before.path (e ∷ []));
        };
        weighs = omega (arith, weight_both before.path (e ∷ []), before.weighs);
        small = omega (arith, edge.weight, before.small, c.requires.nodes, c.loop-step-test.true);
        lasts = omega (arith, length_both before.path (e ∷ []), before.lasts, c.saturating_add-len.ensures);
        long = omega (arith, edge.after, edge.due, c.saturating_add-len.ensures);
      },
    )

pub loop-step-preserved : goal.loop-step-preserved
loop-step-preserved c =
    let graph = c.args.edges.now in
    let chosen = c.args.chosen.now in
    let start = c.args.start in
    let before = c.loop-step.invariant in
    let e = c.in_ok-edge.edge in
    let edge : IsEdge (length chosen) e = All-contains (IsEdge (length chosen)) graph e c.requires.edges c.in_ok-edge.ensures.listed in
    let path = before.path ++ e ∷ [] in
    let follows : IsFollowed graph chosen start path = both graph chosen start before.path (e ∷ []) before.followed (subst (λ n. IsChosen graph chosen n e) (sym before.ends) c.in_ok-edge.ensures.chosen, tt) in
    let ends : end_of start path ≡ e.to = end_both start before.path (e ∷ []) in
    record {
      path = path;
      followed = follows;
      count = omega (arith, length-append before.path (e ∷ []), before.count);
      ends = ends;
      weighs = omega (arith, weight_both before.path (e ∷ []), before.weighs);
      lasts = omega (arith, length_both before.path (e ∷ []), before.lasts, c.saturating_add-len.ensures);
      small = omega (arith, edge.weight, before.small);
      first = λ other is. elim (cases_lt (length path) (length other)) [
        | inl more ↦ omega (arith, more, length-append before.path (e ∷ []), before.count)
        | inr most ↦ (
            let same = same_path graph chosen start path other follows is.followed (omega (arith, most, before.first other is, length-append before.path (e ∷ []), before.count)) in
            let back : e.to ≡ start = sym ends ∙ sym (ap (end_of start) same) ∙ is.back in
            absurd (c.if-node-start.false back))
      ];
    }
