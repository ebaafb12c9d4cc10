-- The longest run of bytes of one sort, at the front of a text.
use Rattle.std.proofs.Common.{◌≡◌, ℕ, suc, ◌+◌, ◌<◌, ◌≤◌, List, [], ◌∷◌, ◌++◌, length, take, drop, refl, sym, ap, subst, ◌∙◌, Bool, true, false, cond, arith}
use Rattle.std.specs.Prelude.{All, IsTrue}
use Rattle.std.specs.List.{prefix_len}
use Rattle.std.proofs.Math.Seq.{take-append_seam, drop-append_seam}
use Rattle.std.proofs.lemmas.List.{take-append-drop, length-take, get_or-take}
use Rattle.std.proofs.lemmas.List.Sums.{prefix_len_passes}
use Rattle.psy_tree.specs.Lexemes.{Each, EndsBefore}
use Rattle.psy_text.specs.Fronts.{Cuts}

-- A run that ends before the rest is as long as the longest
pub prefix_len-run : (sort : ℕ → Bool) (run rest : List ℕ) → Each sort run → EndsBefore sort rest → prefix_len sort (run ++ rest) ≡ length run
prefix_len-run sort [] [] each ends = refl
prefix_len-run sort [] (b ∷ rest) each ends = ap (λ t. cond t (1 + prefix_len sort rest) 0) ends
prefix_len-run sort (b ∷ run) rest each ends =
    let h = prefix_len-run sort run rest each.1 ends in
    let e : 1 + prefix_len sort (run ++ rest) ≡ suc (length run) = omega arith in
    ap (λ t. cond t (1 + prefix_len sort (run ++ rest)) 0) each.0 ∙ e

-- The longest run is of the sort, and ends before what follows
pub record IsLongest (sort : ℕ → Bool) (bytes : List ℕ) (len : ℕ) : Type 0 where
  pub each : Each sort (take len bytes)
  pub ends : EndsBefore sort (drop len bytes)

longest_by : (sort : ℕ → Bool) (b : ℕ) (bytes : List ℕ) → IsLongest sort bytes (prefix_len sort bytes) → (t : Bool) → sort b ≡ t → IsLongest sort (b ∷ bytes) (cond t (1 + prefix_len sort bytes) 0)
longest_by sort b bytes rest true is =
    let e : suc (prefix_len sort bytes) ≡ 1 + prefix_len sort bytes = omega arith in
    subst (IsLongest sort (b ∷ bytes)) e (record { each = (is, rest.each); ends = rest.ends })
longest_by sort b bytes rest false is = record { each = tt; ends = is }

pub longest : (sort : ℕ → Bool) (bytes : List ℕ) → IsLongest sort bytes (prefix_len sort bytes)
longest sort [] = record { each = tt; ends = tt }
longest sort (b ∷ bytes) = longest_by sort b bytes (longest sort bytes) (sort b) refl

-- The bytes of the longest run are of the sort
pub Each-longest : (sort : ℕ → Bool) (text run : List ℕ) (len : ℕ) → len ≡ prefix_len sort text → run ≡ take len text → Each sort run
Each-longest sort text run len is run_is = subst (Each sort) (sym (run_is ∙ ap (λ n. take n text) is)) (longest sort text).each

-- The longest run is cut off
pub Cuts-longest : (sort : ℕ → Bool) (text run rest : List ℕ) (len : ℕ) → len ≡ prefix_len sort text → run ≡ take len text → rest ≡ drop len text → Cuts sort text run rest
Cuts-longest sort text run rest len is run_is rest_is = (
  sym (take-append-drop len text) ∙ (λ i. sym run_is i ++ sym rest_is i),
  subst (EndsBefore sort) (sym (rest_is ∙ ap (λ n. drop n text) is)) (longest sort text).ends,
)

-- A run that is cut off is the longest
Cuts_is : (sort : ℕ → Bool) (text run rest : List ℕ) → Each sort run → Cuts sort text run rest → (run ≡ take (prefix_len sort text) text) × (rest ≡ drop (prefix_len sort text) text)
Cuts_is sort text run rest each cuts =
    let len : length run ≡ prefix_len sort text = sym (ap (prefix_len sort) cuts.0 ∙ prefix_len-run sort run rest each cuts.1) in
    (sym (take-append_seam run rest) ∙ (λ i. take (len i) (sym cuts.0 i)), sym (drop-append_seam run rest) ∙ (λ i. drop (len i) (sym cuts.0 i)))

-- A text is cut in one way
pub Cuts-once : (sort : ℕ → Bool) (text run other rest more : List ℕ) → Each sort run → Each sort other → Cuts sort text run rest → Cuts sort text other more → (run ≡ other) × (rest ≡ more)
Cuts-once sort text run other rest more each every cuts divides =
    let a = Cuts_is sort text run rest each cuts in
    let b = Cuts_is sort text other more every divides in
    (a.0 ∙ sym b.0, a.1 ∙ sym b.1)

-- The bytes of a run that is no longer than the longest are of the sort
pub All-run : (sort : ℕ → Bool) (bytes : List ℕ) (len : ℕ) → len ≤ prefix_len sort bytes → All (λ b. IsTrue (sort b)) (take len bytes)
All-run sort bytes len within k d h =
    let short : k < len = omega (arith, length-take len bytes) in
    ap sort (get_or-take len bytes k d short) ∙ prefix_len_passes sort bytes k d (omega arith)
