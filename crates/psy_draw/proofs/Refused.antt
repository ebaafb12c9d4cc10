-- Refusals.
use Rattle.std.proofs.Common.{◌≡◌, Result, Ok, Err, ap}
use Rattle.std.specs.Prelude.{IfOk, OnOk}
use Rattle.psy_draw.specs.declared.fault.DrawFault.{DrawFault}
use Rattle.psy_draw.specs.declared.fault.DrawFault.TheVariants as fault

-- The fault of a refusal
fault_of : {T : Type 0} → Result T DrawFault → DrawFault
fault_of (Err f) = f
fault_of (Ok x) = fault.Memory

-- Refusals that are one have one fault.
pub fault_is : {T : Type 0} (a b : DrawFault) → ◌≡◌ {A = Result T DrawFault} (Err a) (Err b) → a ≡ b
unfolding fault_of
fault_is a b e = ap fault_of e

-- What holds, holds where there is a value.
pub on_ok : {T E : Type 0} (P : Type 0) (r : Result T E) → P → OnOk r P
on_ok P (Ok x) p = p
on_ok P (Err e) p = tt

-- What holds where there is a value, and what follows from it
pub if_ok : {T E : Type 0} (P Q : Type 0) (r : Result T E) → (P → Q) → OnOk r P → OnOk r Q
if_ok P Q (Ok x) more p = more p
if_ok P Q (Err e) more p = tt

-- What holds of what came, and what follows from that
pub ok_more : {T E : Type 0} {A B : T → Type 0} (came : Result T E) → ((x : T) → A x → B x) → IfOk came A → IfOk came B
ok_more (Ok x) more is = more x is
ok_more (Err e) more is = tt
