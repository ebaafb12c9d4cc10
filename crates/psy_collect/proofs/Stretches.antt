-- The stretches of a processor, with one more cycle.
use Rattle.std.proofs.Common.{◌≡◌, ◌≢◌, ◌∙◌, refl, sym, ap, subst, ℕ, ◌+◌, ◌<◌, ◌==◌, Bool, true, false, List, [], ◌∷◌, ◌++◌, Option, Some, None, filter, length, get_or, reverse, inl, inr, append-nil, length-set, arith}
use Rattle.std.specs.Prelude.{if◌then◌else◌, slice_set}
use Rattle.std.specs.List.{All}
use Rattle.std.proofs.lemmas.Bool.{cases_eq}
use Rattle.std.proofs.lemmas.List.{get_or-set_other, get_or-set_same, reverse-append}
use Rattle.std.proofs.lemmas.List.Elements.{All-append, All-cons, All-nil, All-weaker, filter-append}
use Rattle.std.proofs.lemmas.Option.{same_Some}
use Rattle.psy_audit.specs.declared.said.Segment.{Segment}
use Rattle.psy_audit.specs.Traced.{one_cycle, stretches, with_cycle}
use Rattle.psy_collect.specs.Collected.{AreStretches, behind_first, first_of}
use Rattle.psy_collect.specs.Keeping.{goes_on, joined, parted}
use Rattle.psy_collect.proofs.Rows.{row_other, row_own}
use Rattle.psy_history.specs.Schedule.{Turn}

-- ---- one more cycle

module _ (processor cycle : ℕ) (turn : Turn) where
  -- What is over with it
  pub over_more : (old : List Segment) → reverse (behind_first (with_cycle processor cycle (Some turn) old)) ≡ reverse (behind_first old) ++ parted (first_of old) cycle turn.agent turn.number
  over_more [] = refl
  over_more (s ∷ before) = by (goes_on s cycle turn.agent turn.number)
    where
      by : (b : Bool) → reverse (behind_first (if b then record s { past = cycle + 1 } ∷ before else one_cycle processor cycle turn ∷ s ∷ before)) ≡ reverse before ++ (if b then [] else s ∷ [])
      by true = sym (append-nil (reverse before))
      by false = reverse-append (s ∷ []) before

  -- The last one
  pub last_more : (old : List Segment) → first_of (with_cycle processor cycle (Some turn) old) ≡ Some (joined (first_of old) processor cycle turn.agent turn.number)
  last_more [] = refl
  last_more (s ∷ before) = by (goes_on s cycle turn.agent turn.number)
    where
      by : (b : Bool) → first_of (if b then record s { past = cycle + 1 } ∷ before else one_cycle processor cycle turn ∷ s ∷ before)
          ≡ Some (if b then record s { past = cycle + 1 } else one_cycle processor cycle (record { agent = turn.agent; number = turn.number }))
      by true = refl
      by false = refl

  -- It is of the processor, where the last one was.
  joined_own : (last : Option Segment) → ((s : Segment) → last ≡ Some s → s.processor ≡ processor) → (joined last processor cycle turn.agent turn.number).processor ≡ processor
  joined_own None own = refl
  joined_own (Some s) own = by (goes_on s cycle turn.agent turn.number)
    where
      by : (b : Bool) → (if b then record s { past = cycle + 1 } else one_cycle processor cycle (record { agent = turn.agent; number = turn.number })).processor ≡ processor
      by true = own s refl
      by false = refl

-- The last stretch of a processor is its own.
pub first_own : (processor : ℕ) (turns : List (Option Turn)) (s : Segment) → first_of (stretches processor turns) ≡ Some s → s.processor ≡ processor
first_own processor [] s at = cc
first_own processor (None ∷ turns) s at = first_own processor turns s at
first_own processor (Some turn ∷ turns) s at =
    let is : joined (first_of (stretches processor turns)) processor (length turns) turn.agent turn.number ≡ s =
    same_Some (joined (first_of (stretches processor turns)) processor (length turns) turn.agent turn.number) s (sym (last_more processor (length turns) turn (stretches processor turns)) ∙ at) in
    ap (λ (t : Segment). t.processor) (sym is)
    ∙ joined_own processor (length turns) turn (first_of (stretches processor turns)) (λ t. first_own processor turns t)

-- ---- what is kept of it

module _ (count : ℕ) (turns later : ℕ → List (Option Turn)) (segments : List Segment) (serving : List (Option Segment)) (are : AreStretches count turns segments serving) (processor : ℕ) (less : processor < count)
    (others : (q : ℕ) → q < count → q ≢ processor → later q ≡ turns q) where
  abbrev last : Option Segment
  last = get_or serving processor None

  -- A cycle that goes to nobody changes nothing.
  pub idle : later processor ≡ None ∷ turns processor → AreStretches count later segments serving
  idle more = record {
    over = λ q within. are.over q within ∙ ap (λ ts. reverse (behind_first ts)) (same q within);
    last = λ q within. are.last q within ∙ ap first_of (same q within);
    count_is = are.count_is;
    known = are.known;
  }
    where
      same : (q : ℕ) → q < count → stretches q (turns q) ≡ stretches q (later q)
      same q within = elim (cases_eq q processor) [
        | inl here ↦ subst (λ k. stretches k (turns k) ≡ stretches k (later k)) (sym here) (sym (ap (stretches processor) more))
        | inr other ↦ ap (stretches q) (sym (others q within other))
      ]

  module _ (cycle : ℕ) (turn : Turn) (more : later processor ≡ Some turn ∷ turns processor) (at : length (turns processor) ≡ cycle) where
    abbrev old : List Segment
    old = stretches processor (turns processor)

    new_is : stretches processor (later processor) ≡ with_cycle processor cycle (Some turn) old
    new_is = ap (stretches processor) more ∙ ap (λ n. with_cycle processor n (Some turn) old) at

    abbrev parts : List Segment
    parts = parted last cycle turn.agent turn.number

    own_last : (s : Segment) → last ≡ Some s → s.processor ≡ processor
    own_last s is = first_own processor (turns processor) s (sym (are.last processor less) ∙ is)

    -- The stretch that is over is of the processor.
    kept : All (λ (s : Segment). s.processor ≡ processor) parts
    kept = by last own_last
      where
        by : (l : Option Segment) → ((s : Segment) → l ≡ Some s → s.processor ≡ processor) → All (λ (s : Segment). s.processor ≡ processor) (parted l cycle turn.agent turn.number)
        by None own = All-nil (λ (s : Segment). s.processor ≡ processor)
        by (Some s) own = on (goes_on s cycle turn.agent turn.number)
          where
            on : (b : Bool) → All (λ (t : Segment). t.processor ≡ processor) (if b then [] else s ∷ [])
            on true = All-nil (λ (t : Segment). t.processor ≡ processor)
            on false = All-cons (λ (t : Segment). t.processor ≡ processor) s [] (own s refl) (All-nil (λ (t : Segment). t.processor ≡ processor))

    over_now : (q : ℕ) → q < count → filter (λ (s : Segment). s.processor == q) (segments ++ parts) ≡ reverse (behind_first (stretches q (later q)))
    over_now q within = filter-append (λ (s : Segment). s.processor == q) segments parts ∙ elim (cases_eq q processor) [
      | inl here ↦
          subst (λ k. filter (λ (s : Segment). s.processor == k) segments ++ filter (λ (s : Segment). s.processor == k) parts ≡ reverse (behind_first (stretches k (later k)))) (sym here)
          (ap (λ xs. filter (λ (s : Segment). s.processor == processor) segments ++ xs) (row_own (λ (s : Segment). s.processor) processor parts kept) ∙ ap (λ xs. xs ++ parts) (are.over processor less)
          ∙ ap (λ l. reverse (behind_first old) ++ parted l cycle turn.agent turn.number) (are.last processor less)
          ∙ sym (over_more processor cycle turn old) ∙ ap (λ ts. reverse (behind_first ts)) (sym new_is))
      | inr other ↦
          ap (λ xs. filter (λ (s : Segment). s.processor == q) segments ++ xs) (row_other (λ (s : Segment). s.processor) processor q parts kept other) ∙ append-nil (filter (λ (s : Segment). s.processor == q) segments)
          ∙ are.over q within ∙ ap (λ ts. reverse (behind_first (stretches q ts))) (sym (others q within other))
    ]

    abbrev joint : Segment
    joint = joined last processor cycle turn.agent turn.number

    last_now : (q : ℕ) → q < count → get_or (slice_set serving processor (Some joint)) q None ≡ first_of (stretches q (later q))
    last_now q within = elim (cases_eq q processor) [
      | inl here ↦
          subst (λ k. get_or (slice_set serving processor (Some joint)) k None ≡ first_of (stretches k (later k))) (sym here)
          (get_or-set_same serving processor (Some joint) None (omega (arith, less, are.count_is))
          ∙ ap (λ l. Some (joined l processor cycle turn.agent turn.number)) (are.last processor less)
          ∙ sym (last_more processor cycle turn old) ∙ ap first_of (sym new_is))
      | inr other ↦ get_or-set_other serving processor q (Some joint) None other ∙ are.last q within ∙ ap (λ ts. first_of (stretches q ts)) (sym (others q within other))
    ]

    -- A cycle that goes to an action makes the last stretch longer, or begins another.
    pub served : AreStretches count later (segments ++ parts) (slice_set serving processor (Some joint))
    served = record {
      over = over_now;
      last = last_now;
      count_is = length-set serving processor (Some joint) ∙ are.count_is;
      known = All-append (λ (s : Segment). s.processor < count) segments parts are.known
          (All-weaker (λ (s : Segment). s.processor ≡ processor) (λ (s : Segment). s.processor < count) (λ s e. omega (arith, e, less)) parts kept);
    }
