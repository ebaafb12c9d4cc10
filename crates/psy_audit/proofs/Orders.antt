-- Lines are ordered by their places, filled up or not.
use Rattle.std.proofs.Common.{◌≡◌, refl}
use Rattle.psy_audit.specs.declared.said.Said.{Said}
use Rattle.psy_audit.specs.declared.said.Said.TheVariants.{Acted, Published, Served, Looked, Ended}
use Rattle.psy_audit.specs.Faults.{is_less, place_of}
use Rattle.psy_audit.specs.Places.{padded}

pub same_order : (x y : Said) → is_less (padded x) (padded y) ≡ is_less (place_of x) (place_of y)
same_order (Acted a) (Acted a') = refl
same_order (Acted a) (Published p') = refl
same_order (Acted a) (Served s') = refl
same_order (Acted a) (Looked l') = refl
same_order (Acted a) Ended = refl
same_order (Published p) (Acted a') = refl
same_order (Published p) (Published p') = refl
same_order (Published p) (Served s') = refl
same_order (Published p) (Looked l') = refl
same_order (Published p) Ended = refl
same_order (Served s) (Acted a') = refl
same_order (Served s) (Published p') = refl
same_order (Served s) (Served s') = refl
same_order (Served s) (Looked l') = refl
same_order (Served s) Ended = refl
same_order (Looked l) (Acted a') = refl
same_order (Looked l) (Published p') = refl
same_order (Looked l) (Served s') = refl
same_order (Looked l) (Looked l') = refl
same_order (Looked l) Ended = refl
same_order Ended (Acted a') = refl
same_order Ended (Published p') = refl
same_order Ended (Served s') = refl
same_order Ended (Looked l') = refl
same_order Ended Ended = refl
