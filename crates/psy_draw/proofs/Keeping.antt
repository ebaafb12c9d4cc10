-- What the columns of a lane keep.
use Rattle.std.proofs.Common.{◌≡◌, ℕ, Bool, true, false, cond, List, [], ◌∷◌, ◌++◌, length, map, refl, sym, ap, subst, ◌∙◌, arith}
use Rattle.std.specs.Prelude.{ℤ}
use Rattle.psy_draw.specs.declared.column.Column.{Column}
use Rattle.psy_draw.specs.Columns.{AreOf, Dated, Keeps, StandsAt, StandsFor, pieces, pieces_from, value_of}

-- A value is added to pieces: to the last one where it goes there, or as one of its own.
add_piece : (List Dated → Dated → Bool) → List (List Dated) → Dated → List (List Dated)
add_piece goes [] v = (v ∷ []) ∷ []
add_piece goes (p ∷ []) v = cond (goes p v) ((p ++ v ∷ []) ∷ []) (p ∷ (v ∷ []) ∷ [])
add_piece goes (p ∷ q ∷ more) v = p ∷ add_piece goes (q ∷ more) v

-- There is a first one.
pub HasFirst : List (List Dated) → Type 0
HasFirst all = (p : List Dated) × (more : List (List Dated)) × (all ≡ p ∷ more)

first_either : (b : Bool) (one : List (List Dated)) (p : List Dated) (more : List (List Dated)) → HasFirst one → HasFirst (cond b one (p ∷ more))
unfolding HasFirst
first_either true one p more has = has
first_either false one p more has = (p, more, refl)

pub first_piece : (goes : List Dated → Dated → Bool) (piece values : List Dated) → HasFirst (pieces_from goes piece values)
unfolding HasFirst
first_piece goes piece [] = (piece, [], refl)
first_piece goes piece (v ∷ values) =
    first_either (goes piece v) (pieces_from goes (piece ++ v ∷ []) values) piece (pieces_from goes (v ∷ []) values) (first_piece goes (piece ++ v ∷ []) values)

-- A piece in front stays.
behind_first : (goes : List Dated → Dated → Bool) (piece : List Dated) (all : List (List Dated)) (v : Dated) → HasFirst all → piece ∷ add_piece goes all v ≡ add_piece goes (piece ∷ all) v
unfolding HasFirst add_piece
behind_first goes piece all v has = let P : List (List Dated) → Type 0 = λ ps. piece ∷ add_piece goes ps v ≡ add_piece goes (piece ∷ ps) v in subst P (sym has.2) refl

add_either : (goes : List Dated → Dated → Bool) (b : Bool) (one behind : List (List Dated)) (piece : List Dated) (v : Dated) → HasFirst behind
    → cond b (add_piece goes one v) (piece ∷ add_piece goes behind v) ≡ add_piece goes (cond b one (piece ∷ behind)) v
add_either goes true one behind piece v has = refl
add_either goes false one behind piece v has = behind_first goes piece behind v has

-- One more value
piece_more : (goes : List Dated → Dated → Bool) (piece values : List Dated) (v : Dated) → pieces_from goes piece (values ++ v ∷ []) ≡ add_piece goes (pieces_from goes piece values) v
unfolding add_piece
piece_more goes piece [] v = refl
piece_more goes piece (w ∷ values) v =
    let one = pieces_from goes (piece ++ w ∷ []) values in
    let behind = pieces_from goes (w ∷ []) values in
    ap (λ ps. cond (goes piece w) ps (piece ∷ pieces_from goes (w ∷ []) (values ++ v ∷ []))) (piece_more goes (piece ++ w ∷ []) values v)
    ∙ ap (λ ps. cond (goes piece w) (add_piece goes one v) (piece ∷ ps)) (piece_more goes (w ∷ []) values v)
    ∙ add_either goes (goes piece w) one behind piece v (first_piece goes (w ∷ []) values)

pieces_more : (goes : List Dated → Dated → Bool) (values : List Dated) (v : Dated) → pieces goes (values ++ v ∷ []) ≡ add_piece goes (pieces goes values) v
unfolding add_piece
pieces_more goes [] v = refl
pieces_more goes (w ∷ values) v = piece_more goes (w ∷ []) values v

-- Some columns are of no pieces.
none_of_some : (place : ℕ → ℕ) (columns : List Column) (c : Column) → AreOf place [] (columns ++ c ∷ []) → ⊥
none_of_some place [] c are = are
none_of_some place (d ∷ columns) c are = are

-- No column is of some.
pub some_of_none : (place : ℕ → ℕ) (all : List (List Dated)) → HasFirst all → AreOf place all [] → ⊥
unfolding HasFirst
some_of_none place all has are = let P : List (List Dated) → Type 0 = λ ps. AreOf place ps [] in subst P has.2 are

-- A value begins a column.
begun : (place : ℕ → ℕ) (goes : List Dated → Dated → Bool) (all : List (List Dated)) (columns : List Column) (c one : Column) (v : Dated) → AreOf place all (columns ++ c ∷ [])
    → ((piece : List Dated) → StandsFor (map value_of piece) c → StandsAt place piece c → goes piece v ≡ false) → StandsFor (v.value ∷ []) one → StandsAt place (v ∷ []) one
    → AreOf place (add_piece goes all v) ((columns ++ c ∷ []) ++ one ∷ [])
unfolding add_piece
begun place goes [] columns c one v are judges s t = absurd (none_of_some place columns c are)
begun place goes (p ∷ []) [] c one v are judges s t =
    let P : Bool → Type 0 = λ b. AreOf place (cond b ((p ++ v ∷ []) ∷ []) (p ∷ (v ∷ []) ∷ [])) (c ∷ one ∷ []) in subst P (sym (judges p are.0 are.1)) (are.0, are.1, (s, t, tt))
begun place goes (p ∷ []) (d ∷ columns) c one v are judges s t = absurd (none_of_some place columns c are.2)
begun place goes (p ∷ q ∷ more) [] c one v are judges s t = absurd are.2
begun place goes (p ∷ q ∷ more) (d ∷ columns) c one v are judges s t = (are.0, are.1, begun place goes (q ∷ more) columns c one v are.2 judges s t)

-- Or it goes into the last one.
merged : (place : ℕ → ℕ) (goes : List Dated → Dated → Bool) (all : List (List Dated)) (columns : List Column) (c d : Column) (v : Dated) → AreOf place all (columns ++ c ∷ [])
    → ((piece : List Dated) → StandsFor (map value_of piece) c → StandsAt place piece c → goes piece v ≡ true)
    → ((piece : List Dated) → StandsFor (map value_of piece) c → StandsFor (map value_of (piece ++ v ∷ [])) d) → ((piece : List Dated) → StandsAt place piece c → StandsAt place (piece ++ v ∷ []) d)
    → AreOf place (add_piece goes all v) (columns ++ d ∷ [])
unfolding add_piece
merged place goes [] columns c d v are judges s t = absurd (none_of_some place columns c are)
merged place goes (p ∷ []) [] c d v are judges s t =
    let P : Bool → Type 0 = λ b. AreOf place (cond b ((p ++ v ∷ []) ∷ []) (p ∷ (v ∷ []) ∷ [])) (d ∷ []) in subst P (sym (judges p are.0 are.1)) (s p are.0, t p are.1, tt)
merged place goes (p ∷ []) (b ∷ columns) c d v are judges s t = absurd (none_of_some place columns c are.2)
merged place goes (p ∷ q ∷ more) [] c d v are judges s t = absurd are.2
merged place goes (p ∷ q ∷ more) (b ∷ columns) c d v are judges s t = (are.0, are.1, merged place goes (q ∷ more) columns c d v are.2 judges s t)

pub no_columns : (columns : List Column) → length columns ≡ 0 → columns ≡ []
no_columns [] e = refl
no_columns (c ∷ columns) e = absurd (omega (arith, e))

-- No columns stand for no values.
pub keeps_nothing : (place : ℕ → ℕ) (goes : List Dated → Dated → Bool) → Keeps place goes [] []
unfolding Keeps
keeps_nothing place goes = tt

-- The first column
pub keeps_first : (place : ℕ → ℕ) (goes : List Dated → Dated → Bool) (values : List Dated) (v : Dated) (one : Column) → Keeps place goes values [] → StandsFor (v.value ∷ []) one → StandsAt place (v ∷ []) one
    → Keeps place goes (values ++ v ∷ []) (one ∷ [])
unfolding Keeps
keeps_first place goes [] v one keeps s t = (s, t, tt)
keeps_first place goes (w ∷ values) v one keeps s t = absurd (some_of_none place (pieces_from goes (w ∷ []) values) (first_piece goes (w ∷ []) values) keeps)

-- One more column
pub keeps_more : (place : ℕ → ℕ) (goes : List Dated → Dated → Bool) (values : List Dated) (v : Dated) (columns : List Column) (c one : Column) → Keeps place goes values (columns ++ c ∷ [])
    → ((piece : List Dated) → StandsFor (map value_of piece) c → StandsAt place piece c → goes piece v ≡ false) → StandsFor (v.value ∷ []) one → StandsAt place (v ∷ []) one
    → Keeps place goes (values ++ v ∷ []) ((columns ++ c ∷ []) ++ one ∷ [])
unfolding Keeps
keeps_more place goes values v columns c one keeps judges s t =
    let P : List (List Dated) → Type 0 = λ all. AreOf place all ((columns ++ c ∷ []) ++ one ∷ []) in subst P (sym (pieces_more goes values v)) (begun place goes (pieces goes values) columns c one v keeps judges s t)

-- The values of a list and one more
values_more : (values : List Dated) (v : Dated) → map value_of (values ++ v ∷ []) ≡ map value_of values ++ v.value ∷ []
values_more [] v = refl
values_more (w ∷ values) v = ap (λ vs. w.value ∷ vs) (values_more values v)

-- One more value in the last column
pub keeps_merged : (place : ℕ → ℕ) (goes : List Dated → Dated → Bool) (values : List Dated) (v : Dated) (columns : List Column) (c d : Column) → Keeps place goes values (columns ++ c ∷ [])
    → ((piece : List Dated) → StandsFor (map value_of piece) c → StandsAt place piece c → goes piece v ≡ true)
    → ((group : List ℤ) → StandsFor group c → StandsFor (group ++ v.value ∷ []) d) → ((piece : List Dated) → StandsAt place piece c → StandsAt place (piece ++ v ∷ []) d)
    → Keeps place goes (values ++ v ∷ []) (columns ++ d ∷ [])
unfolding Keeps
keeps_merged place goes values v columns c d keeps judges more at =
    let stands = λ (piece : List Dated) (s : StandsFor (map value_of piece) c).
    let P : List ℤ → Type 0 = λ vs. StandsFor vs d in subst P (sym (values_more piece v)) (more (map value_of piece) s) in
    let P : List (List Dated) → Type 0 = λ all. AreOf place all (columns ++ d ∷ []) in
    subst P (sym (pieces_more goes values v)) (merged place goes (pieces goes values) columns c d v keeps judges stands at)
