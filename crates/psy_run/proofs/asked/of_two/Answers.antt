-- What is left of the proof of `asked::of_two`.
use Rattle.std.proofs.Common.{[], ◌∷◌, ap, codes}
use Rattle.psy_lists.proofs.lemmas.Texts.{same_text}
use Rattle.psy_run.specs.Asked.{asks_build, asks_graph, asks_make}
use Rattle.psy_run.proofs.AskedLemmas.{unmade}
use Rattle.psy_run.proofs.asked.of_two.Goals as goal

pub returns-then-eq : goal.returns-then-eq
returns-then-eq c =
    let command = same_text c.args.command.now (codes "graph") c.if-eq.ensures in
    asks_graph c.args.word.now (ap (λ w. w ∷ c.args.word.now ∷ []) command)

pub returns-then-eq-2 : goal.returns-then-eq-2
returns-then-eq-2 c =
    let command = same_text c.args.command.now (codes "build") c.if-eq-2.ensures in
    asks_build c.args.word.now (ap (λ w. w ∷ c.args.word.now ∷ []) command)

pub returns-then-eq-3 : goal.returns-then-eq-3
returns-then-eq-3 c =
    let command = same_text c.args.command.now (codes "make") c.if-eq-3.ensures in
    asks_make c.args.word.now c.in_ok-seed.seed (ap (λ w. w ∷ c.args.word.now ∷ []) command) (rw c.as_bytes.ensures.value at c.in_ok-seed.ensures)

pub returns-in_err-seed : goal.returns-in_err-seed
returns-in_err-seed c = rw c.from_residual.ensures (unmade c.args.command.now c.args.word.now c.if-eq-3.ensures (rw c.as_bytes.ensures.value at c.in_err-seed.ensures))
