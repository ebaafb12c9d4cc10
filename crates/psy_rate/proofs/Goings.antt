-- How a row goes from one to the next: which cell grew, and what it means that none did.
use Rattle.std.proofs.Common.{◌≡◌, ◌≢◌, ℕ, ◌+◌, ◌-◌, ◌<◌, ◌≤◌, List, Option, Some, None, length, get_or, refl, sym, subst, ◌∙◌, inl, inr, arith}
use Rattle.std.proofs.lemmas.Bool.{cases_eq}
use Rattle.psy_base.specs.declared.edge.Edge.{Edge}
use Rattle.psy_rate.specs.Rows.{excess, HasGone}
use Rattle.psy_rate.proofs.Cells.{seen_cases}

-- Before the first edge.
pub gone_none : (graph : List Edge) (rate : ℕ) (row : List ℕ) → HasGone graph 0 rate row row None
gone_none graph rate row =
    record {
      size = refl;
      grows = λ node. omega arith;
      outcome = (refl, λ e seen. absurd (omega (arith, seen.1, seen.2)));
    }

-- The next edge gives no more than the cell of its node.
pub gone_stays : (graph : List Edge) (seen rate : ℕ) (before row : List ℕ) (last : Option ℕ) (e : Edge) → seen < length graph → ((d : Edge) → get_or graph (length graph - 1 - seen) d ≡ e)
    → excess rate e (get_or row e.to 0) ≤ get_or row e.from 0 → HasGone graph seen rate before row last → HasGone graph (seen + 1) rate before row last
gone_stays graph seen rate before row (Some node) e less at given gone = record { size = gone.size; grows = gone.grows; outcome = gone.outcome }
gone_stays graph seen rate before row None e less at given gone =
    record {
      size = gone.size;
      grows = gone.grows;
      outcome = (
        gone.outcome.0,
        λ f seen_f. elim (seen_cases graph seen e f less at seen_f) [
          | inl same ↦ subst (λ g. excess rate g (get_or row g.to 0) ≤ get_or row g.from 0) same given
          | inr earlier ↦ gone.outcome.1 f earlier
        ],
      );
    }

-- The cell of its node grows.
pub gone_grows : (graph : List Edge) (seen rate : ℕ) (before row new : List ℕ) (last : Option ℕ) (node : ℕ) → node < length row → length new ≡ length row → get_or row node 0 < get_or new node 0 → ((other : ℕ) → other ≢ node → get_or new other 0 ≡ get_or row other 0)
    → HasGone graph seen rate before row last → HasGone graph (seen + 1) rate before new (Some node)
gone_grows graph seen rate before row new last node inside size grew others gone =
    record {
      size = size ∙ gone.size;
      grows = λ other. elim (cases_eq other node) [
        | inl same ↦ subst (λ m. get_or before m 0 ≤ get_or new m 0) (sym same) (omega (arith, grew, gone.grows node))
        | inr differs ↦ omega (arith, others other differs, gone.grows other)
      ];
      outcome = (omega (arith, inside, size), omega (arith, grew, gone.grows node));
    }
