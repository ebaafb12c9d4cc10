-- What fields of a part say, by the bytes at their places.
use Rattle.std.proofs.Common.{◌≡◌, ◌∙◌, ℕ, zero, suc, ◌+◌, ◌<◌, Bool, true, false, cond, ltb, List, [], ◌∷◌, ◌++◌, length, drop, get_or, Option, Some, None, refl, sym, ap, zero-add, arith}
use Rattle.std.proofs.lemmas.Bool.{le-ltb, lt-ltb, ltb-false, ltb-true}
use Rattle.std.proofs.lemmas.List.{drop-drop, length-drop}
use Rattle.psy_snap.specs.Cuts.{Ask, At, Cut, any_number, cut_field, cut_fields, cut_one, field_in, number_in, width_of}
use Rattle.psy_snap.specs.Faults.{value_at}
use Rattle.psy_snap.specs.Reading.{found_at}

-- How many bytes the fields before one have
abbrev pub offset : List Ask → ℕ → ℕ
offset [] i = 0
offset (ask ∷ asks) zero = 0
offset (ask ∷ asks) (suc i) = width_of ask.long + offset asks i

-- Behind a field that is cut nothing is read.
pub none_cut : (asks : List Ask) → cut_fields asks None ≡ record { fields = []; on = None }
unfolding cut_fields
none_cut [] = refl
none_cut (ask ∷ asks) = ap (λ (c : Cut). record { fields = c.fields; on = c.on }) (none_cut asks)

-- A number further behind
found_by : (short further : Bool) (long : Bool) (width place : ℕ) (bytes : List ℕ) → ltb (length bytes) width ≡ short → ltb (length (drop width bytes)) (place + width_of long) ≡ further
    → cond short None (cond further None (Some (number_in long (drop place (drop width bytes))))) ≡ found_at long (width + place) bytes
found_by true further long width place bytes is more =
    let past : ltb (length bytes) (width + place + width_of long) ≡ true = lt-ltb _ _ (omega (arith, ltb-true _ _ is)) in
    sym (ap (λ b. cond b None (Some (number_in long (drop (width + place) bytes)))) past)
found_by false true long width place bytes is more =
    let past : ltb (length bytes) (width + place + width_of long) ≡ true = lt-ltb _ _ (omega (arith, ltb-false _ _ is, ltb-true _ _ more, length-drop width bytes)) in
    sym (ap (λ b. cond b None (Some (number_in long (drop (width + place) bytes)))) past)
found_by false false long width place bytes is more =
    let there : ltb (length bytes) (width + place + width_of long) ≡ false = le-ltb _ _ (omega (arith, ltb-false _ _ is, ltb-false _ _ more, length-drop width bytes)) in
    ap (λ bs. Some (number_in long bs)) (drop-drop place width bytes) ∙ sym (ap (λ b. cond b None (Some (number_in long (drop (width + place) bytes)))) there)

pub found_further : (long : Bool) (width place : ℕ) (bytes : List ℕ) → cond (ltb (length bytes) width) None (found_at long place (drop width bytes)) ≡ found_at long (width + place) bytes
found_further long width place bytes = found_by (ltb (length bytes) width) (ltb (length (drop width bytes)) (place + width_of long)) long width place bytes refl refl

-- ---- fields and what is cut behind them

module _ (next : At → Cut) (none : (next None).fields ≡ []) where
  -- What they say of their number i
  abbrev said : List Ask → ℕ → At → Option ℕ
  said asks i at = value_at ((cut_fields asks at).fields ++ (next (cut_fields asks at).on).fields) i

  said_none : (asks : List Ask) (i : ℕ) → said asks i None ≡ None
  said_none asks i = ap (λ (c : Cut). value_at (c.fields ++ (next c.on).fields) i) (none_cut asks) ∙ ap (λ fs. value_at fs i) none

  first_by : (short : Bool) (ask : Ask) (asks : List Ask) (place : ℕ) (bytes : List ℕ)
      → let cut : Cut = cond short (record { fields = cut_field place ∷ []; on = None }) (record { fields = field_in ask place bytes ∷ []; on = Some (place + width_of ask.long, drop (width_of ask.long) bytes) }) in
      value_at ((cut.fields ++ (cut_fields asks cut.on).fields) ++ (next (cut_fields asks cut.on).on).fields) 0 ≡ cond short None (Some (number_in ask.long bytes))
  first_by true ask asks place bytes = refl
  first_by false ask asks place bytes = refl

  later_by : (short : Bool) (ask : Ask) (asks : List Ask) (i place : ℕ) (bytes : List ℕ)
      → let cut : Cut = cond short (record { fields = cut_field place ∷ []; on = None }) (record { fields = field_in ask place bytes ∷ []; on = Some (place + width_of ask.long, drop (width_of ask.long) bytes) }) in
      value_at ((cut.fields ++ (cut_fields asks cut.on).fields) ++ (next (cut_fields asks cut.on).on).fields) (suc i)
      ≡ cond short None (said asks i (Some (place + width_of ask.long, drop (width_of ask.long) bytes)))
  later_by true ask asks i place bytes = said_none asks i
  later_by false ask asks i place bytes = refl

  pub said_found : (asks : List Ask) (i place : ℕ) (bytes : List ℕ) → i < length asks
      → said asks i (Some (place, bytes)) ≡ found_at (get_or asks i any_number).long (offset asks i) bytes
  unfolding cut_fields cut_one
  said_found [] i place bytes less = absurd (omega (arith, less))
  said_found (ask ∷ asks) zero place bytes less =
      first_by (ltb (length bytes) (width_of ask.long)) ask asks place bytes
      ∙ ap (λ w. cond (ltb (length bytes) w) None (Some (number_in ask.long bytes))) (sym (zero-add (width_of ask.long)))
  said_found (ask ∷ asks) (suc i) place bytes less =
      later_by (ltb (length bytes) (width_of ask.long)) ask asks i place bytes
      ∙ ap (λ o. cond (ltb (length bytes) (width_of ask.long)) None o) (said_found asks i (place + width_of ask.long) (drop (width_of ask.long) bytes) (omega (arith, less)))
      ∙ found_further (get_or asks i any_number).long (width_of ask.long) (offset asks i) bytes
