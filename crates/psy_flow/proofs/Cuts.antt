-- Numbers have one greatest, and so one that is cut at a limit; so have sends.
use Rattle.std.proofs.Common.{◌≡◌, ℕ, List, inl, inr, arith}
use Rattle.psy_base.specs.declared.limits.TheConstants.{SENDS}
use Rattle.psy_tree.specs.declared.unit.AgentDecl.{AgentDecl}
use Rattle.psy_tree.specs.declared.unit.FunctionDecl.{FunctionDecl}
use Rattle.psy_meaning.specs.Flow.{HasSends, IsCut, IsMostSends, IsNext}

pub one_cut : (Has : ℕ → Type 0) (limit result other : ℕ) → IsCut Has limit result → IsCut Has limit other → result ≡ other
one_cut Has limit result other (n, greatest, is) (m, too, equal) = omega (arith, is, equal, too.most n greatest.one, greatest.most m too.one)

-- Where sends are counted, there is a way.
way_of_cut : (functions : List FunctionDecl) (agent : AgentDecl) (from to stream n : ℕ) → IsCut (HasSends functions agent from to stream) SENDS n → IsNext functions agent from to
way_of_cut functions agent from to stream n (k, greatest, is) = let (met, way, same) = greatest.one in (met, way)

pub one_most : (functions : List FunctionDecl) (agent : AgentDecl) (from to stream n m : ℕ) → IsMostSends functions agent from to stream n → IsMostSends functions agent from to stream m → n ≡ m
one_most functions agent from to stream n m (inl p) (inl q) = omega (arith, p.1, q.1)
one_most functions agent from to stream n m (inl p) (inr q) = absurd (p.0 (way_of_cut functions agent from to stream m q))
one_most functions agent from to stream n m (inr p) (inl q) = absurd (q.0 (way_of_cut functions agent from to stream n p))
one_most functions agent from to stream n m (inr p) (inr q) = one_cut (HasSends functions agent from to stream) SENDS n m p q
