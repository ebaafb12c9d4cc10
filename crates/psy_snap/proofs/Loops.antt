-- Reading one after the other, as loops do: what is read so far and what is left to read are what is read of all.
use Rattle.std.proofs.Common.{◌≡◌, ℕ, ◌+◌, ◌<◌, ◌≤◌, List, length, drop, get_or, map, zero-add, Result, Ok, sym, ap, ◌∙◌, arith}
use Rattle.std.specs.List.{range_with_len}
use Rattle.std.proofs.Math.ListN.{drop_of_length-le}
use Rattle.std.proofs.lemmas.List.{drop_more}
use Rattle.std.proofs.lemmas.List.FromFn.{get_or-map-range_with_len, length-map-range_with_len}
use Rattle.psy_snap.specs.declared.fault.ReadError.{ReadError}
use Rattle.psy_snap.specs.declared.fault.ReadError.TheVariants as errors
use Rattle.psy_snap.specs.Reading.{Fails, each_at, go_on}

-- What reads a part for a form, from what the parts before it came to
abbrev Step : Type 0 → Type 0 → Type 0
Step F S = F → S → List ℕ → Result (S × List ℕ) ReadError

at_item : {F S : Type 0} (step : Step F S) (forms : List F) (i : ℕ) (d : F) (s : S) (bytes : List ℕ) → i < length forms
    → each_at step (drop i forms) s bytes ≡ go_on (step (get_or forms i d) s bytes) (λ t rest. each_at step (drop (i + 1) forms) t rest)
unfolding each_at
at_item step forms i d s bytes less = ap (λ fs. each_at step fs s bytes) (drop_more forms i d less)

pub goes_on : {F S : Type 0} (step : Step F S) (forms : List F) (i : ℕ) (form : F) (s t : S) (bytes rest : List ℕ) (total : Result (S × List ℕ) ReadError)
    → i < length forms → get_or forms i form ≡ form → step form s bytes ≡ Ok (t, rest) → each_at step (drop i forms) s bytes ≡ total
    → each_at step (drop (i + 1) forms) t rest ≡ total
goes_on step forms i form s t bytes rest total less is reads so_far =
    sym (at_item step forms i form s bytes less ∙ ap (λ f. go_on (step f s bytes) (λ a more. each_at step (drop (i + 1) forms) a more)) is
    ∙ ap (λ r. go_on r (λ a more. each_at step (drop (i + 1) forms) a more)) reads) ∙ so_far

pub stops : {F S : Type 0} (e : ReadError) (step : Step F S) (forms : List F) (i : ℕ) (form : F) (s : S) (bytes : List ℕ) (total : Result (S × List ℕ) ReadError)
    → i < length forms → get_or forms i form ≡ form → Fails e (step form s bytes) → each_at step (drop i forms) s bytes ≡ total → Fails e total
stops errors.Memory step forms i form s bytes total less is reads so_far = tt
stops (errors.Bad number left) step forms i form s bytes total less is reads so_far =
    sym so_far ∙ at_item step forms i form s bytes less ∙ ap (λ f. go_on (step f s bytes) (λ a more. each_at step (drop (i + 1) forms) a more)) is
    ∙ ap (λ r. go_on r (λ a more. each_at step (drop (i + 1) forms) a more)) reads

pub is_done : {F S : Type 0} (step : Step F S) (forms : List F) (i : ℕ) (s : S) (bytes : List ℕ) (total : Result (S × List ℕ) ReadError) → length forms ≤ i
    → each_at step (drop i forms) s bytes ≡ total → total ≡ Ok (s, bytes)
unfolding each_at
is_done step forms i s bytes total le so_far =
    sym so_far ∙ ap (λ fs. each_at step fs s bytes) (drop_of_length-le forms le)

-- ---- a form for each number below one

module _ {F S : Type 0} (step : Step F S) (form : ℕ → F) (count i : ℕ) where
  abbrev forms : List F
  forms = map form (range_with_len 0 count)

  there : i < count → i < length forms
  there less = omega (arith, less, length-map-range_with_len form 0 count)

  it_is : i < count → get_or forms i (form i) ≡ form i
  it_is less = get_or-map-range_with_len form 0 count i i (form i) less (zero-add i)

  pub goes_on_below : (s t : S) (bytes rest : List ℕ) (total : Result (S × List ℕ) ReadError) → i < count → step (form i) s bytes ≡ Ok (t, rest)
      → each_at step (drop i forms) s bytes ≡ total → each_at step (drop (i + 1) forms) t rest ≡ total
  goes_on_below s t bytes rest total less reads so_far = goes_on step forms i (form i) s t bytes rest total (there less) (it_is less) reads so_far

  pub stops_below : (e : ReadError) (s : S) (bytes : List ℕ) (total : Result (S × List ℕ) ReadError) → i < count → Fails e (step (form i) s bytes)
      → each_at step (drop i forms) s bytes ≡ total → Fails e total
  stops_below e s bytes total less reads so_far = stops e step forms i (form i) s bytes total (there less) (it_is less) reads so_far

  pub is_done_below : (s : S) (bytes : List ℕ) (total : Result (S × List ℕ) ReadError) → count ≤ i → each_at step (drop i forms) s bytes ≡ total → total ≡ Ok (s, bytes)
  is_done_below s bytes total le so_far = is_done step forms i s bytes total (omega (arith, le, length-map-range_with_len form 0 count)) so_far
