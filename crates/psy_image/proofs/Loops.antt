-- Reading one after the other, as loops do: what is read so far and what is left to read are what is read of all.
use Rattle.std.proofs.Common.{◌≡◌, ℕ, suc, ◌+◌, ◌-◌, ◌<◌, ◌≤◌, List, length, drop, get_or, Result, Ok, sym, ap, ◌∙◌, arith}
use Rattle.std.proofs.Math.ListN.{drop_of_length-le}
use Rattle.std.proofs.lemmas.List.{drop_more}
use Rattle.psy_image.specs.declared.fault.ReadError.{ReadError}
use Rattle.psy_image.specs.declared.fault.ReadError.TheVariants as errors
use Rattle.psy_image.specs.Formats.{Format, times, each}
use Rattle.psy_image.specs.Reading.{Fails, go_on, read}
use Rattle.psy_image.proofs.Exact.{read_then}

-- ---- so many steps

one_step : {S : Type 0} (step : S → Format S) (n : ℕ) (s : S) (bytes : List ℕ) → read (times (suc n) step s) bytes ≡ go_on (read (step s) bytes) (λ a rest. read (times n step a) rest)
unfolding times
one_step step n s bytes = read_then (step s) (times n step) bytes

at_suc : {S : Type 0} (step : S → Format S) (count i : ℕ) (s : S) (bytes : List ℕ) → i < count
    → read (times (count - i) step s) bytes ≡ go_on (read (step s) bytes) (λ a rest. read (times (count - (i + 1)) step a) rest)
at_suc step count i s bytes less =
    let k : count - i ≡ suc (count - (i + 1)) = omega (arith, less) in
    ap (λ n. read (times n step s) bytes) k ∙ one_step step (count - (i + 1)) s bytes

pub goes_on : {S : Type 0} (step : S → Format S) (count i : ℕ) (s t : S) (bytes rest : List ℕ) (total : Result (S × List ℕ) ℕ) → i < count
    → read (step s) bytes ≡ Ok (t, rest) → read (times (count - i) step s) bytes ≡ total → read (times (count - (i + 1)) step t) rest ≡ total
goes_on step count i s t bytes rest total less is so_far =
    sym (at_suc step count i s bytes less ∙ ap (λ r. go_on r (λ a more. read (times (count - (i + 1)) step a) more)) is) ∙ so_far

pub stops : {S : Type 0} (e : ReadError) (step : S → Format S) (count i : ℕ) (s : S) (bytes : List ℕ) (total : Result (S × List ℕ) ℕ) → i < count
    → Fails e (read (step s) bytes) → read (times (count - i) step s) bytes ≡ total → Fails e total
stops errors.Memory step count i s bytes total less is so_far = tt
stops (errors.Bad left) step count i s bytes total less is so_far =
    sym so_far ∙ at_suc step count i s bytes less ∙ ap (λ r. go_on r (λ a more. read (times (count - (i + 1)) step a) more)) is

pub is_done : {S : Type 0} (step : S → Format S) (count i : ℕ) (s : S) (bytes : List ℕ) (total : Result (S × List ℕ) ℕ) → count ≤ i
    → read (times (count - i) step s) bytes ≡ total → total ≡ Ok (s, bytes)
unfolding times
is_done step count i s bytes total le so_far =
    let k : count - i ≡ 0 = omega (arith, le) in
    sym so_far ∙ ap (λ n. read (times n step s) bytes) k

-- ---- a step for each of a list

at_item : {X S : Type 0} (step : X → S → Format S) (xs : List X) (i : ℕ) (d : X) (s : S) (bytes : List ℕ) → i < length xs
    → read (each (drop i xs) step s) bytes ≡ go_on (read (step (get_or xs i d) s) bytes) (λ a rest. read (each (drop (i + 1) xs) step a) rest)
unfolding each
at_item step xs i d s bytes less =
    ap (λ ys. read (each ys step s) bytes) (drop_more xs i d less) ∙ read_then (step (get_or xs i d) s) (each (drop (i + 1) xs) step) bytes

pub goes_on_each : {X S : Type 0} (step : X → S → Format S) (xs : List X) (i : ℕ) (d : X) (s t : S) (bytes rest : List ℕ) (total : Result (S × List ℕ) ℕ) → i < length xs
    → read (step (get_or xs i d) s) bytes ≡ Ok (t, rest) → read (each (drop i xs) step s) bytes ≡ total → read (each (drop (i + 1) xs) step t) rest ≡ total
goes_on_each step xs i d s t bytes rest total less reads so_far =
    sym (at_item step xs i d s bytes less ∙ ap (λ r. go_on r (λ a more. read (each (drop (i + 1) xs) step a) more)) reads) ∙ so_far

pub stops_each : {X S : Type 0} (e : ReadError) (step : X → S → Format S) (xs : List X) (i : ℕ) (d : X) (s : S) (bytes : List ℕ) (total : Result (S × List ℕ) ℕ) → i < length xs
    → Fails e (read (step (get_or xs i d) s) bytes) → read (each (drop i xs) step s) bytes ≡ total → Fails e total
stops_each errors.Memory step xs i d s bytes total less reads so_far = tt
stops_each (errors.Bad left) step xs i d s bytes total less reads so_far =
    sym so_far ∙ at_item step xs i d s bytes less ∙ ap (λ r. go_on r (λ a more. read (each (drop (i + 1) xs) step a) more)) reads

pub is_done_each : {X S : Type 0} (step : X → S → Format S) (xs : List X) (i : ℕ) (s : S) (bytes : List ℕ) (total : Result (S × List ℕ) ℕ) → length xs ≤ i
    → read (each (drop i xs) step s) bytes ≡ total → total ≡ Ok (s, bytes)
unfolding each
is_done_each step xs i s bytes total le so_far =
    sym so_far ∙ ap (λ ys. read (each ys step s) bytes) (drop_of_length-le xs le)
