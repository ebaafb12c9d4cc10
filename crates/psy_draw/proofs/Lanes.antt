-- Lanes that are planned, and lanes that are drawn.
use Rattle.std.proofs.Common.{◌≡◌, ℕ, suc, ◌+◌, ◌<◌, ◌≤◌, ◌==◌, ⊎_elim, Bool, true, false, cond, List, [], ◌∷◌, ◌++◌, length, min, drop, take, get_or, refl, sym, ap, subst, ◌∙◌, append_assoc, append-nil, length-append, arith}
use Rattle.std.proofs.lemmas.Grind.{common_steps}
use Rattle.std.proofs.lemmas.List.{drop_more, take_more}
use Rattle.psy_draw.specs.Columns.{Dated, Keeps, is_few, is_there_still, pieces_from}
use Rattle.psy_draw.specs.declared.column.Column.{Column}
use Rattle.psy_draw.specs.declared.lane.Lane.{Lane}
use Rattle.psy_draw.specs.declared.lane.Shape.{Shape}
use Rattle.psy_draw.specs.declared.lane.Shape.TheVariants as shape
use Rattle.psy_draw.specs.Drawing.{column_count, drawn_lane, heights, stacked}
use Rattle.psy_draw.specs.declared.room.TheConstants.{MOST_LANES}
use Rattle.psy_draw.specs.declared.stopped.Stopped.{Stopped}
use Rattle.psy_draw.specs.Gathering.{AddsStops, AreStops, Pushes}
use Rattle.psy_draw.specs.Planning.{AddsLanes, Are, Has, Held, IsVariable, Shown}
use Rattle.psy_draw.specs.Shapes.{columns_of, height_of}
use Rattle.psy_draw.proofs.Keeping.{first_piece, some_of_none}

-- Lanes, and lanes behind them
are_both : (place : ℕ → ℕ) (a b : List Shown) (x y : List Lane) → Are place a x → Are place b y → Are place (a ++ b) (x ++ y)
are_both place [] b [] y p q = q
are_both place [] b (l ∷ x) y p q = absurd p
are_both place (s ∷ a) b [] y p q = absurd p
are_both place (s ∷ a) b (l ∷ x) y p q = (p.0, p.1, p.2, are_both place a b x y p.3 q)

-- There are as many.
pub are_length : (place : ℕ → ℕ) (shown : List Shown) (lanes : List Lane) → Are place shown lanes → length lanes ≡ length shown
are_length place [] [] are = refl
are_length place [] (l ∷ lanes) are = absurd are
are_length place (s ∷ shown) [] are = absurd are
are_length place (s ∷ shown) (l ∷ lanes) are = let more = are_length place shown lanes are.3 in omega (arith, more)

-- No lane is added.
pub adds_none : (place : ℕ → ℕ) (lanes : List Lane) → AddsLanes place [] lanes lanes
adds_none place lanes = ([], sym (append-nil lanes), tt)

-- Lanes are added, and others behind them.
pub adds_both : (place : ℕ → ℕ) (a b : List Shown) (old between new : List Lane) → AddsLanes place a old between → AddsLanes place b between new → AddsLanes place (a ++ b) old new
adds_both place a b old between new p q =
    (p.0 ++ q.0, q.1 ∙ ap (λ t. t ++ q.0) p.1 ∙ append_assoc old p.0 q.0, are_both place a b p.0 q.0 p.2 q.2)

-- Lanes behind others
pub adds_behind : (place : ℕ → ℕ) (a b : List Shown) (old new : List Lane) → Are place a old → AddsLanes place b old new → Are place (a ++ b) new
adds_behind place a b old new are p = subst (Are place (a ++ b)) (sym p.1) (are_both place a b old p.0 are p.2)

-- One more height
pub heights_more : (lanes : List Lane) (lane : Lane) → heights (lanes ++ lane ∷ []) ≡ heights lanes + height_of lane.shape
heights_more [] lane = omega arith
heights_more (l ∷ lanes) lane = let more = heights_more lanes lane in omega (arith, more)

-- The height of one more lane of a list
pub heights_step : (lanes : List Lane) (i : ℕ) (d : Lane) (b r : ℕ) → i < length lanes → b ≡ 56 + heights (take i lanes) → r ≡ height_of (get_or lanes i d).shape → b + r ≡ 56 + heights (take (i + 1) lanes)
heights_step lanes i d b r within before now =
    let more : heights (take (i + 1) lanes) ≡ heights (take i lanes) + height_of (get_or lanes i d).shape = ap heights (take_more lanes i d within) ∙ heights_more (take i lanes) (get_or lanes i d) in
    omega (arith, more, before, now)

-- One more lane's columns
columns_more : (lanes : List Lane) (lane : Lane) → column_count (lanes ++ lane ∷ []) ≡ column_count lanes + length (columns_of lane.shape)
columns_more [] lane = omega arith
columns_more (l ∷ lanes) lane = let more = columns_more lanes lane in omega (arith, more)

-- The columns of one more lane of a list, as far as they are counted
pub columns_step : (lanes : List Lane) (i : ℕ) (d : Lane) (most b r n : ℕ) → i < length lanes → b ≡ min (column_count (take i lanes)) most
    → r ≡ length (columns_of (get_or lanes i d).shape) → n ≡ min (b + r) most → n ≡ min (column_count (take (i + 1) lanes)) most
columns_step lanes i d most b r n within before now sum =
    let more : column_count (take (i + 1) lanes) ≡ column_count (take i lanes) + length (columns_of (get_or lanes i d).shape) =
    ap column_count (take_more lanes i d within) ∙ columns_more (take i lanes) (get_or lanes i d) in
    omega (arith, more, before, now, sum)

-- One more lane of a list is drawn.
pub stacked_step : (place : ℕ → ℕ) (tells : Bool) (lanes : List Lane) (i : ℕ) (d : Lane) (left top below : ℕ) (whole old new : List ℕ) → i < length lanes
    → old ++ stacked place tells left top (drop i lanes) ≡ whole → new ≡ old ++ drawn_lane place tells left top (get_or lanes i d)
    → below ≡ top + height_of (get_or lanes i d).shape → new ++ stacked place tells left below (drop (i + 1) lanes) ≡ whole
stacked_step place tells lanes i d left top below whole old new within before now high =
    let lane = drawn_lane place tells left top (get_or lanes i d) in
    let rest = stacked place tells left (top + height_of (get_or lanes i d).shape) (drop (i + 1) lanes) in
    ap (λ b. new ++ stacked place tells left b (drop (i + 1) lanes)) high ∙ ap (λ t. t ++ rest) now ∙ append_assoc old lane rest
    ∙ ap (λ ls. old ++ stacked place tells left top ls) (sym (drop_more lanes i d within)) ∙ before

-- A lane that was asked for
pub added : (place : ℕ → ℕ) (b : Bool) (s : Shown) (old new : List Lane) (lane : Lane) → b ≡ true → new ≡ old ++ lane ∷ [] → lane.name.now ≡ s.name → lane.silent ≡ s.silent → Has place lane.shape s.content → AddsLanes place (cond b (s ∷ []) []) old new
added place b s old new lane asked is name silent has =
    let P : Bool → Type 0 = λ t. AddsLanes place (cond t (s ∷ []) []) old new in
    subst P (sym asked) (lane ∷ [], is, (name, silent, has, tt))

-- A lane that was asked for, of some values
pub value_added : (place : ℕ → ℕ) (n b : Bool) (s : Shown) (old new : List Lane) (lane : Lane) → n ≡ false → b ≡ true → new ≡ old ++ lane ∷ [] → lane.name.now ≡ s.name → lane.silent ≡ s.silent → Has place lane.shape s.content → AddsLanes place (cond n [] (cond b (s ∷ []) [])) old new
value_added place n b s old new lane some asked is name silent has =
    let P : Bool → Type 0 = λ t. AddsLanes place (cond t [] (cond b (s ∷ []) [])) old new in
    subst P (sym some) (added place b s old new lane asked is name silent has)

-- The shape of a variable has the values for which its columns stand.
pub has_variable : (place : ℕ → ℕ) (of : Shape) (columns : List Column) (values : List Dated) → IsVariable columns of → Keeps place (is_there_still place) values columns → Has place of (Held values)
has_variable place (shape.Stop stop) columns values is keeps = absurd is
has_variable place (shape.Curve drawn) columns values is keeps =
    let P : List Column → Type 0 = λ cs. Keeps place (is_there_still place) values cs × (is_few cs ≡ false) in subst P (sym is.0) (keeps, is.1)
has_variable place (shape.Boxes drawn) columns values is keeps =
    let P : List Column → Type 0 = λ cs. Keeps place (is_there_still place) values cs × (is_few cs ≡ true) in subst P (sym is.0) (keeps, is.1)
has_variable place (shape.Marks drawn) columns values is keeps = absurd is

-- What holds of true alone
holds : Bool → Type 0
holds true = Unit {0}
holds false = ⊥

true_false : true ≡ false → ⊥
unfolding holds
true_false e = subst holds e tt

pub more_than_none : (n k : ℕ) → n ≡ suc k → (n == 0) ≡ false
more_than_none n k e = grind (arith, common_steps)

-- Where there are columns there are values.
pub keeps_some : (place : ℕ → ℕ) (goes : List Dated → Dated → Bool) (values : List Dated) (columns : List Column) → Keeps place goes values columns → (length columns == 0) ≡ false → (length values == 0) ≡ false
unfolding Keeps
keeps_some place goes [] [] keeps some = absurd (true_false some)
keeps_some place goes [] (c ∷ columns) keeps some = absurd keeps
keeps_some place goes (v ∷ values) columns keeps some = more_than_none (length (v ∷ values)) (length values) refl

-- Where there are none there are none.
pub keeps_none : (place : ℕ → ℕ) (goes : List Dated → Dated → Bool) (values : List Dated) (columns : List Column) → Keeps place goes values columns → (length columns == 0) ≡ true → (length values == 0) ≡ true
unfolding Keeps
keeps_none place goes [] columns keeps none = refl
keeps_none place goes (v ∷ values) [] keeps none = absurd (some_of_none place (pieces_from goes (v ∷ []) values) (first_piece goes (v ∷ []) values) keeps)
keeps_none place goes (v ∷ values) (c ∷ columns) keeps none = absurd (true_false (sym none ∙ more_than_none (length (c ∷ columns)) (length columns) refl))

-- One more stop, as far as there is room
pub pushed : (place : ℕ → ℕ) (b : Bool) (s : Shown) (lane : Lane) (old new : Stopped) → b ≡ true → Pushes lane old new → lane.name.now ≡ s.name → lane.silent ≡ s.silent
    → Has place lane.shape s.content → AddsStops place (cond b (s ∷ []) []) old new
pushed place b s lane old new asked pushes name silent has shown are =
    subst (λ t. AreStops place (shown ++ cond t (s ∷ []) []) new.lanes.items new.full) (sym asked)
    (⊎_elim
    (λ one. subst (λ ls. AreStops place (shown ++ s ∷ []) ls new.full) (sym one.0) (subst (AreStops place (shown ++ s ∷ []) (old.lanes.items ++ lane ∷ [])) (sym one.1)
    (onto old.full old.lanes.items are)))
    (λ none. subst (AreStops place (shown ++ s ∷ []) new.lanes.items) (sym none.2) (past old.full old.lanes.items none.0 are)) pushes)
  where
    longer : length (shown ++ s ∷ []) ≡ length shown + 1
    longer = length-append shown (s ∷ [])

    onto : (full : Bool) (lanes : List Lane) → AreStops place shown lanes full → AreStops place (shown ++ s ∷ []) (lanes ++ lane ∷ []) full
    onto true lanes many = omega (arith, many, longer)
    onto false lanes all = are_both place shown (s ∷ []) lanes (lane ∷ []) all (name, silent, has, tt)

    past : (full : Bool) (lanes : List Lane) → MOST_LANES ≤ length lanes → AreStops place shown lanes full → MOST_LANES < length (shown ++ s ∷ [])
    past true lanes room many = omega (arith, many, longer)
    past false lanes room all = let many = are_length place shown lanes all in omega (arith, room, many, longer)
