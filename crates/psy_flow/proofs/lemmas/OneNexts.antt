-- One list of the points that follow each point of an agent.
use Rattle.std.proofs.Common.{◌≡◌, ℕ, ◌<◌, List, get_or, sym, ◌∙◌, arith, ◌↔◌}
use Rattle.std.specs.List.{AllPairs, Contains}
use Rattle.std.proofs.lemmas.Option.{slice_get-get_or}
use Rattle.psy_lists.proofs.lemmas.Ordered.{same_elements}
use Rattle.psy_lists.proofs.lemmas.Places.{same_lists}
use Rattle.psy_tree.specs.declared.unit.AgentDecl.{AgentDecl}
use Rattle.psy_tree.specs.declared.unit.FunctionDecl.{FunctionDecl}
use Rattle.psy_meaning.specs.Flow.{AreNexts, Rises}

pub pairs_of_rises : (xs : List ℕ) → Rises xs → AllPairs (λ a b. a < b) xs
pairs_of_rises xs rise i j d less inside = rise i j (get_or xs i d) (get_or xs j d) less (slice_get-get_or xs i d (omega (arith, less, inside))) (slice_get-get_or xs j d inside)

pub numbers_same : (xs ys : List ℕ) → Rises xs → Rises ys → ((n : ℕ) → Contains xs n ↔ Contains ys n) → xs ≡ ys
numbers_same xs ys rise also both = same_elements (λ (a b : ℕ). a < b) (λ a b less more. omega (arith, less, more)) xs ys (pairs_of_rises xs rise) (pairs_of_rises ys also) both

pub nexts_one : (functions : List FunctionDecl) (agent : AgentDecl) (xs ys : List (List ℕ)) → AreNexts functions agent xs → AreNexts functions agent ys → xs ≡ ys
nexts_one functions agent xs ys a b =
    same_lists xs ys (a.length ∙ sym b.length)
    (λ point x y at also. numbers_same x y (a.rise point x at) (b.rise point y also) (λ n. ((λ c. (b.each point y also n).1 ((a.each point x at n).0 c)), (λ c. (a.each point x at n).1 ((b.each point y also n).0 c)))))
