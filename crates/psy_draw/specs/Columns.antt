-- What is kept of the values of a column.
use Rattle.std.specs.Prelude.{◌≡◌, ◌≤ℤ◌, ◌^◌, ◌-◌, ◌||◌, ℤ, List, [], ◌∷◌, ◌++◌, Bool, true, false, All, ℕ}
use Rattle.std.specs.Prelude.{cond, int_le, length, map, max, min, nat_le, slice_get, take_while}
use Rattle.std.specs.Prelude.{Option, None, Some}
use Rattle.std.specs.List.{Contains, flat_map, fold, list_all, list_any}
use Rattle.std.specs.Ordering.{int_eq}
use Rattle.psy_draw.specs.declared.column.Column.{Column}

-- A value, and its date
pub record Dated : Type 0 where
  pub date : ℕ
  pub value : ℤ

-- The value of a date
abbrev pub dated : ℕ → ℤ → Dated
dated date value = record { date = date; value = value }

-- The value alone
abbrev pub value_of : Dated → ℤ
value_of v = v.value

-- A column stands for these values, in their order.
pub record StandsFor (values : List ℤ) (c : Column) : Type 0 where
  -- It keeps the first,
  pub first : (behind : List ℤ) × (values ≡ c.first ∷ behind)
  -- the last,
  pub last : (before : List ℤ) × (values ≡ before ++ c.last ∷ [])
  -- and one than which no value is less,
  pub least : Contains values c.least × All (λ v. c.least ≤ℤ v) values
  -- and one than which none is greater;
  pub greatest : Contains values c.greatest × All (λ v. v ≤ℤ c.greatest) values
  -- and it counts those behind the first, as far as 32 bits reach.
  pub more : c.more ≡ min (length values - 1) (2 ^ 32 - 1)

-- A column stands where the first of these values does, by the places of dates: it keeps that one, and its place.
pub record StandsAt (place : ℕ → ℕ) (values : List Dated) (c : Column) : Type 0 where
  pub first : (behind : List Dated) × (values ≡ dated c.date c.first ∷ behind)
  pub at : c.x ≡ place c.date

-- A value goes into the column of those before it where its place isn't behind that of the first of them.
abbrev pub is_there : (ℕ → ℕ) → List Dated → Dated → Bool
is_there place [] v = true
is_there place (w ∷ values) v = nat_le (place v.date) (place w.date)

-- One of a variable does so also where all of them are that value.
abbrev pub is_there_still : (ℕ → ℕ) → List Dated → Dated → Bool
is_there_still place values v = is_there place values v || list_all (λ w. int_eq w.value v.value) values

-- The rule of a variable's lane, or of a stream's
abbrev pub rule : Bool → (ℕ → ℕ) → List Dated → Dated → Bool
rule true place = is_there_still place
rule false place = is_there place

-- Values, and those behind them, in pieces, by such a rule: a value that doesn't go into the column of those before it begins another piece
abbrev pub pieces_from : (List Dated → Dated → Bool) → List Dated → List Dated → List (List Dated)
pieces_from goes piece [] = piece ∷ []
pieces_from goes piece (v ∷ values) =
    cond (goes piece v) (pieces_from goes (piece ++ v ∷ []) values) (piece ∷ pieces_from goes (v ∷ []) values)

-- The values of a lane in pieces, one for each column
abbrev pub pieces : (List Dated → Dated → Bool) → List Dated → List (List Dated)
pieces goes [] = []
pieces goes (v ∷ values) = pieces_from goes (v ∷ []) values

-- Columns stand for these pieces, one by one, each where the first value of its piece does.
abbrev pub AreOf : (ℕ → ℕ) → List (List Dated) → List Column → Type 0
AreOf place [] [] = Unit {0}
AreOf place (piece ∷ more) (c ∷ columns) = StandsFor (map value_of piece) c × StandsAt place piece c × AreOf place more columns
AreOf place _ _ = ⊥

-- The column has one value alone.
abbrev pub is_even : Column → Bool
is_even c = int_le c.greatest c.least

-- Where the first of these columns begins, or this
abbrev pub end_by : List Column → ℕ → ℕ
end_by [] end = end
end_by (c ∷ columns) end = c.x

-- Where the part of a lane ends in which its variable isn't silent: where it falls silent, or where its last value begins, if that is behind it
abbrev pub end_behind : Option Column → ℕ → ℕ
end_behind None silent = silent
end_behind (Some last) silent = max last.x silent

abbrev pub voiced_end : List Column → ℕ → ℕ
voiced_end columns silent = end_behind (slice_get columns (length columns - 1)) silent

-- Columns stand for these values, by the places of dates and by such a rule.
unfoldable pub Keeps : (ℕ → ℕ) → (List Dated → Dated → Bool) → List Dated → List Column → Type 0
Keeps place goes values columns = AreOf place (pieces goes values) columns

-- To columns these values are added.
abbrev pub AddsValues : (ℕ → ℕ) → (List Dated → Dated → Bool) → List Dated → List Column → List Column → Type 0
AddsValues place goes more old new = (values : List Dated) → Keeps place goes values old → Keeps place goes (values ++ more) new

-- Of the last column, where there is one, this tells whether the value of another one goes into it.
abbrev pub Judges : (ℕ → ℕ) → (List Dated → Dated → Bool) → Bool → Option Column → Column → Type 0
Judges place goes joins None one = Unit {0}
Judges place goes joins (Some last) one =
    (piece : List Dated) → StandsFor (map value_of piece) last → StandsAt place piece last → goes piece (dated one.date one.first) ≡ joins

-- What a column keeps of its values
abbrev pub kept : Column → List ℤ
kept c = c.first ∷ c.least ∷ c.greatest ∷ c.last ∷ []

-- These values and another one, where it isn't among them
abbrev pub with_other : List ℤ → ℤ → List ℤ
with_other seen v = cond (list_any (λ w. int_eq w v) seen) seen (seen ++ v ∷ [])

-- The different ones of some values
abbrev pub different : List ℤ → List ℤ
different values = fold with_other [] values

-- What columns keep are at most eight different values.
abbrev pub is_few : List Column → Bool
is_few columns = nat_le (length (different (flat_map kept columns))) 8

-- The columns of a lane up to a place
abbrev pub up_to : ℕ → List Column → List Column
up_to place columns = take_while (λ c. nat_le c.x place) columns

-- No column has a greater value
abbrev pub none_greater : ℤ → List Column → Bool
none_greater value columns = list_all (λ c. int_le c.greatest value) columns

-- No column has a smaller value
abbrev pub none_less : ℤ → List Column → Bool
none_less value columns = list_all (λ c. int_le value c.least) columns
