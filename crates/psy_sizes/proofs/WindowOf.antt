-- The window of a stream: there is one, and what its last date tells of tables.
use Rattle.std.proofs.Common.{◌≡◌, ℕ, ◌+◌, ◌-◌, ◌*◌, ◌^◌, ◌<◌, ◌≤◌, min, List, sym, ap, subst, ◌∙◌, arith}
use Rattle.std.proofs.lemmas.Nat.{mul-le}
use Rattle.psy_base.specs.declared.limits.TheConstants.{WINDOW_CELLS}
use Rattle.psy_tree.specs.declared.unit.Unit.{Unit as Whole}
use Rattle.psy_base.specs.Extremes.{IsGreatest}
use Rattle.psy_meaning.specs.KnownWays.{Ways, delay_by}
use Rattle.psy_meaning.specs.QueueSizes.{IsWindow, lasting_of}
use Rattle.psy_sizes.specs.Queues.{IsTop}

pub one_greatest : (Has : ℕ → Type 0) (m n : ℕ) → IsGreatest Has m → IsGreatest Has n → m ≡ n
one_greatest Has m n a b = omega (arith, a.most n b.one, b.most m a.one)

pub one_window : (unit : Whole) (ways : Ways) (nexts : List (List (List ℕ))) (stream window other : ℕ) → IsWindow unit ways nexts stream window → IsWindow unit ways nexts stream other → window ≡ other
one_window unit ways nexts stream window other (longest, a, is) (also, b, is_also) =
    let same : longest ≡ also = one_greatest _ longest also a b in
    is ∙ ap (λ l. delay_by ways stream + lasting_of unit stream + l - 1) same ∙ sym is_also

module _ (unit : Whole) (ways : Ways) (nexts : List (List (List ℕ))) (stream window top nodes : ℕ) (is : IsWindow unit ways nexts stream window) (some : 1 ≤ nodes) where
  rows_fit : nodes * (top + 1) ≤ WINDOW_CELLS → top + 1 ≤ WINDOW_CELLS
  rows_fit fits = let least = mul-le 1 (top + 1) nodes (top + 1) some (omega arith) in omega (arith, least, fits)

  -- Where a table to this date keeps the limit, the date is the last of the window.
  pub top_is : IsTop unit ways nexts stream top → nodes * (top + 1) ≤ WINDOW_CELLS → (1 ≤ window) × (top ≡ window - 1)
  top_is (other, also, least, cut) fits =
      let same = one_window unit ways nexts stream other window also is in
      let rows = rows_fit fits in (omega (arith, same, least), omega (arith, same, least, cut, rows))

  pub table_fits : IsTop unit ways nexts stream top → nodes * (top + 1) ≤ WINDOW_CELLS → nodes * window ≤ WINDOW_CELLS
  table_fits last fits =
      let (least, whole) = top_is last fits in
      let rows : top + 1 ≡ window = omega (arith, least, whole) in subst (λ n. nodes * n ≤ WINDOW_CELLS) rows fits

  pub table_passes : IsTop unit ways nexts stream top → WINDOW_CELLS < nodes * (top + 1) → WINDOW_CELLS < nodes * window
  table_passes (other, also, least, cut) passes =
      let same = one_window unit ways nexts stream other window also is in
      let more = mul-le nodes (top + 1) nodes window (omega arith) (omega (arith, same, least, cut)) in
      omega (arith, more, passes)

-- The sum of what a window is made of, as far as 64 bits and the limit of a table reach
pub cut_is : (delay lasting longest sum last : ℕ) → 1 ≤ lasting → 1 ≤ longest → sum ≡ min (delay + (lasting + longest - 1)) (2 ^ 64 - 1) → last ≡ min (sum - 1) WINDOW_CELLS → last ≡ min (delay + lasting + longest - 1 - 1) WINDOW_CELLS
cut_is delay lasting longest sum last some least is cut = omega (arith, some, least, is, cut)
