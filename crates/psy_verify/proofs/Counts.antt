-- How many sends to a stream there are on a way, and in what an action did.
use Rattle.std.proofs.Common.{◌≡◌, refl, sym, ap, ◌∙◌, arith}
use Rattle.std.specs.Prelude.{ℕ, zero, suc, ◌+◌, ◌≤◌, ◌==◌, Bool, true, false, cond, List, [], ◌∷◌, ◌++◌, map, Option, None, Some, slice_get}
use Rattle.std.specs.List.{Contains, count_by}
use Rattle.std.proofs.lemmas.List.Sums.{sum_by-append, sum_by-cons}
use Rattle.psy_code.specs.declared.instr.Instr.{Instr}
use Rattle.psy_code.specs.declared.instr.Instr.TheVariants as instr
use Rattle.psy_code.specs.declared.look.Sent.{Sent}
use Rattle.psy_code.specs.Views.{Deeds}
use Rattle.psy_meaning.specs.CodeWays.{is_send_to, sends_at}
use Rattle.psy_meaning.specs.Ways.{Sending, sending_of}
use Rattle.psy_verify.specs.Following.{HasGone, MayGoOn, sends_along, sends_of}

-- How many of these sends are to a stream
abbrev pub to_stream : ℕ → List Sending → ℕ
to_stream stream sends = count_by (λ (s : Sending). s.stream == stream) sends

count_cons : {X : Type 0} (p : X → Bool) (x : X) (xs : List X) → count_by p (x ∷ xs) ≡ cond (p x) 1 0 + count_by p xs
count_cons p x xs = sum_by-cons (λ y. cond (p y) 1 0) x xs

pub count_append : {X : Type 0} (p : X → Bool) (xs ys : List X) → count_by p (xs ++ ys) ≡ count_by p xs + count_by p ys
count_append p xs ys = sum_by-append (λ y. cond (p y) 1 0) xs ys

-- Values don't matter.
pub without_values : (stream : ℕ) (sends : List Sent) → count_by (λ (s : Sent). s.stream == stream) sends ≡ to_stream stream (map sending_of sends)
without_values stream [] = refl
without_values stream (s ∷ rest) =
    count_cons (λ (x : Sent). x.stream == stream) s rest ∙ ap (λ n. cond (s.stream == stream) 1 0 + n) (without_values stream rest) ∙ sym (count_cons (λ (x : Sending). x.stream == stream) (sending_of s) (map sending_of rest))

one_place : (stream : ℕ) (found : Option Instr) → to_stream stream (sends_of found) ≡ cond (is_send_to stream found) 1 0
one_place stream None = refl
one_place stream (Some (instr.Send target after clock)) =
    let s : Sending = record { stream = target; after = after; clock = clock } in
    omega (arith, count_cons (λ (x : Sending). x.stream == stream) s [])
one_place stream (Some i) = refl

-- The sends along places are those that the places hold.
pub counted_along : (instrs : List Instr) (stream : ℕ) (places : List ℕ) → to_stream stream (sends_along instrs places) ≡ sends_at instrs stream places
counted_along instrs stream [] = refl
counted_along instrs stream (place ∷ rest) =
    let first = count_append (λ (x : Sending). x.stream == stream) (sends_of (slice_get instrs place)) (sends_along instrs rest) in
    let behind = count_cons (λ p. is_send_to stream (slice_get instrs p)) place rest in
    omega (arith, first, behind, one_place stream (slice_get instrs place), counted_along instrs stream rest)

pub gone_counts : (instrs : List Instr) (from point : ℕ) (deeds : Deeds) (gone : HasGone instrs from point deeds) (stream : ℕ)
    → count_by (λ (s : Sent). s.stream == stream) deeds.sends ≡ sends_at instrs stream gone.places
gone_counts instrs from point deeds gone stream = without_values stream deeds.sends ∙ ap (to_stream stream) gone.sends ∙ counted_along instrs stream gone.places

pub going_counts : (instrs : List Instr) (from : ℕ) (deeds : Deeds) (going : MayGoOn instrs from deeds) (stream : ℕ)
    → count_by (λ (s : Sent). s.stream == stream) deeds.sends ≤ sends_at instrs stream going.places
going_counts instrs from deeds going stream =
    let (more, all) = going.sends in
    let total = ap (to_stream stream) all ∙ count_append (λ (x : Sending). x.stream == stream) (map sending_of deeds.sends) more in
    omega (arith, total, without_values stream deeds.sends, counted_along instrs stream going.places)

-- ---- what is counted is there

counted_at : {X : Type 0} (p : X → Bool) (x : X) (xs : List X) (b : Bool) → p x ≡ b → 1 ≤ count_by p (x ∷ xs) → (1 ≤ count_by p xs → (y : X) × Contains xs y × (p y ≡ true)) → (y : X) × Contains (x ∷ xs) y × (p y ≡ true)
counted_at p x xs true e h further = (x, (0, omega arith, refl), e)
counted_at p x xs false e h further =
    let (y, c, holds) = further (omega (arith, h, count_cons p x xs, ap {B = ℕ} (λ b. cond b 1 0) e)) in
    (y, (suc c.0, omega (arith, c.1), c.2), holds)

pub counted : {X : Type 0} (p : X → Bool) (xs : List X) → 1 ≤ count_by p xs → (x : X) × Contains xs x × (p x ≡ true)
counted p [] h = absurd (omega (arith, h))
counted p (x ∷ xs) h = counted_at p x xs (p x) refl h (counted p xs)

-- What is there is counted.
pub some_counted : {X : Type 0} (p : X → Bool) (xs : List X) (x : X) → Contains xs x → p x ≡ true → 1 ≤ count_by p xs
some_counted p [] x (k, less, is) e = absurd (omega (arith, less))
some_counted p (y ∷ xs) x (zero, less, is) e = omega (arith, count_cons p y xs, ap {B = ℕ} (λ b. cond b 1 0) (ap p is ∙ e))
some_counted p (y ∷ xs) x (suc k, less, is) e = omega (arith, count_cons p y xs, some_counted p xs x (k, omega (arith, less), is) e)
