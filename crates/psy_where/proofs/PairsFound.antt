-- The walk that finds the first pair of braces: places rise, lines go on or begin anew, and what is left tells the answer.
use Rattle.std.proofs.Common.{◌≡◌, ◌≢◌, ℕ, zero, suc, ◌+◌, ◌-◌, ◌<◌, ◌≤◌, ◌==◌, Bool, true, false, if◌then◌else◌, List, [], ◌∷◌}
use Rattle.std.proofs.Common.{◌++◌, length, take, drop, get_or, refl, sym, ap, subst, ◌∙◌, arith, length-append, length-drop, append-nil, map}
use Rattle.std.proofs.Common.{Option, None, Some}
use Rattle.std.specs.Prelude.{is_some, option_map, option_to_list, reverse, slice_get}
use Rattle.std.specs.List.{suffix_len, prefix_len}
use Rattle.std.specs.Option.{option_or}
use Rattle.std.proofs.lemmas.Bool.{eq-eqb, ne_eqb}
use Rattle.std.proofs.lemmas.List.{drop_more, drop_all, take_more, length-map, length-reverse, length-take-le}
use Rattle.std.proofs.lemmas.List.{map-append, reverse-append, take_at, take-append-drop, take-map, take-take}
use Rattle.std.proofs.lemmas.Option.{slice_get-map}
use Rattle.std.proofs.lemmas.List.Folds.{prefix_len-append}
use Rattle.std.proofs.lemmas.List.Sums.{suffix_len-le-length}
use Rattle.psy_tree.specs.declared.token.Token.{Token}
use Rattle.psy_tree.specs.Lexemes.{is_in_line}
use Rattle.psy_tree.specs.Tokens.{Piece, Separator, Lexeme, TokensOf, text_of, tokens_from}
use Rattle.psy_expect.specs.declared.brace.Brace.{Brace}
use Rattle.psy_expect.specs.declared.brace.Brace.TheVariants.{Opens, Closes, Neither}
use Rattle.psy_expect.specs.Braces.{brace_of, closed_with, open_brace}
use Rattle.psy_where.specs.declared.indent.Line.{Line}
use Rattle.psy_where.specs.declared.indent.Opening.{Opening}
use Rattle.psy_where.specs.declared.indent.Pair.{Pair}
use Rattle.psy_where.specs.Indents.{first_pair, line_of, line_start, opening_of, pair_by, pair_of}
use Rattle.psy_spot.specs.Spots.{before_at}
use Rattle.psy_spot.proofs.lemmas.LinesBack.{length-line_back}
use Rattle.psy_where.proofs.OpenPlaces.{innermost, open_places, opened, places-closed, places-more}

-- ---- places

-- The places of tokens rise from one number, up to another.
abbrev pub Rises : ℕ → ℕ → List Token → Type 0
Rises from end [] = Unit {0}
Rises from end (t ∷ more) = (from ≤ t.place) × (t.place ≤ end) × Rises t.place end more

rises_from : (pieces : List Piece) (from place end : ℕ) → from ≤ place → place + length (text_of pieces) ≤ end → Rises from end (tokens_from place pieces)
rises_from [] from place end above within = tt
rises_from (Separator bytes ∷ pieces) from place end above within =
    rises_from pieces from (place + length bytes) end (omega arith) (omega (arith, length-append bytes (text_of pieces)))
rises_from (Lexeme kind bytes ∷ pieces) from place end above within =
    (above, omega arith, rises_from pieces place (place + length bytes) end (omega arith) (omega (arith, length-append bytes (text_of pieces))))

rises_take : (ts : List Token) (n from end : ℕ) → Rises from end ts → Rises from end (take n ts)
rises_take ts zero from end rises = tt
rises_take [] (suc n) from end rises = tt
rises_take (t ∷ ts) (suc n) from end (above, within, more) = (above, within, rises_take ts n t.place end more)

-- Those of the first tokens of a text do.
pub rises : (text : List ℕ) (tokens : List Token) (n : ℕ) → TokensOf text tokens → Rises 0 (length text) (take n tokens)
rises text tokens n (pieces, splits, are) =
    rises_take tokens n 0 (length text) (subst (Rises 0 (length text)) (sym are)
    (rises_from pieces 0 0 (length text) (omega arith) (omega (arith, ap length splits.whole, length-append (text_of pieces) ([])))))

pub rises-more : (ts : List Token) (at from end : ℕ) (t : Token) → at < length ts → t ≡ get_or ts at t → Rises from end (drop at ts)
    → (from ≤ t.place) × (t.place ≤ end) × Rises t.place end (drop (at + 1) ts)
rises-more ts at from end t some is rises =
    subst (Rises from end) (drop_more ts at t some ∙ ap (λ (u : Token). u ∷ drop (at + 1) ts) (sym is)) rises

-- ---- lines

suffix_len-append : (p : ℕ → Bool) (xs ys : List ℕ)
    → suffix_len p (xs ++ ys) ≡ (if suffix_len p ys == length ys then length ys + suffix_len p xs else suffix_len p ys)
suffix_len-append p xs ys =
    ap (prefix_len p) (reverse-append xs ys) ∙ prefix_len-append p (reverse ys) (reverse xs)
    ∙ ap (λ (n : ℕ). if suffix_len p ys == n then n + suffix_len p xs else suffix_len p ys) (length-reverse ys)

-- How many bytes of its line stand before a place, by those behind an earlier place
back_len-behind : (text : List ℕ) (seen place : ℕ) → seen ≤ place → place ≤ length text
    → length (before_at text place) ≡ (if suffix_len is_in_line (drop seen (take place text)) == length (drop seen (take place text))
    then length (drop seen (take place text)) + length (before_at text seen) else suffix_len is_in_line (drop seen (take place text)))
back_len-behind text seen place order within =
    let between = drop seen (take place text) in
    let parts : take place text ≡ take seen text ++ between =
    sym (take-append-drop seen (take place text)) ∙ ap (λ (front : List ℕ). front ++ between) (take-take seen place text order) in
    length-line_back (take place text) ∙ ap (suffix_len is_in_line) parts ∙ suffix_len-append is_in_line (take seen text) between
    ∙ ap (λ (n : ℕ). if suffix_len is_in_line between == length between then length between + n else suffix_len is_in_line between)
    (sym (length-line_back (take seen text)))

before-within : (text : List ℕ) (place : ℕ) → place ≤ length text → length (before_at text place) ≤ place
before-within text place within =
    omega (arith, length-line_back (take place text), suffix_len-le-length is_in_line (take place text), length-take-le place text within)

-- Without a line feed between them two places lie in one line.
pub same_line : (text : List ℕ) (seen place : ℕ) → seen ≤ place → place ≤ length text
    → suffix_len is_in_line (drop seen (take place text)) ≡ length (drop seen (take place text)) → line_start text place ≡ line_start text seen
same_line text seen place order within all =
    let between = drop seen (take place text) in
    let behind : length (before_at text place) ≡ length between + length (before_at text seen) =
    back_len-behind text seen place order within
    ∙ ap (λ (b : Bool). if b then length between + length (before_at text seen) else suffix_len is_in_line between)
    (eq-eqb (suffix_len is_in_line between) (length between) all) in
    omega (arith, behind, length-drop seen (take place text), length-take-le place text within, before-within text seen (omega arith))

-- Else its line begins behind the last feed.
pub new_line : (text : List ℕ) (seen place : ℕ) → seen ≤ place → place ≤ length text
    → suffix_len is_in_line (drop seen (take place text)) ≢ length (drop seen (take place text))
    → line_start text place ≡ place - suffix_len is_in_line (drop seen (take place text))
new_line text seen place order within some =
    let between = drop seen (take place text) in
    ap (λ (n : ℕ). place - n) (back_len-behind text seen place order within
    ∙ ap (λ (b : Bool). if b then length between + length (before_at text seen) else suffix_len is_in_line between)
    (ne_eqb (suffix_len is_in_line between) (length between) some))

-- ---- the answer

one-more : (ts : List Token) (at : ℕ) (t : Token) → at < length ts → t ≡ get_or ts at t → take (at + 1) ts ≡ take at ts ++ t ∷ []
one-more ts at t some is = take_more ts at t some ∙ ap (λ (u : Token). take at ts ++ u ∷ []) (sym is)

-- It is told by a token, or by those behind it.
pub pair-more : (text : List ℕ) (ts : List Token) (at : ℕ) (t : Token) → at < length ts → t ≡ get_or ts at t
    → first_pair text (take at ts) (drop at ts)
    ≡ option_or (pair_by (brace_of t.kind) text (take at ts) t.place) (first_pair text (take (at + 1) ts) (drop (at + 1) ts))
unfolding first_pair
pair-more text ts at t some is =
    let rest : drop at ts ≡ t ∷ drop (at + 1) ts = drop_more ts at t some ∙ ap (λ (u : Token). u ∷ drop (at + 1) ts) (sym is) in
    rw (rest, one-more ts at t some is) refl

-- Behind the last token there is none.
pub pair-end : (text : List ℕ) (ts earlier : List Token) (at : ℕ) → length ts ≤ at → first_pair text earlier (drop at ts) ≡ None
unfolding first_pair
pair-end text ts earlier at all = rw (drop_all at ts all) refl

-- One token further
pub left-more : (text : List ℕ) (ts : List Token) (at : ℕ) (t : Token) (b : Brace) (whole : Option Pair) → at < length ts → t ≡ get_or ts at t
    → b ≡ brace_of t.kind → pair_by b text (take at ts) t.place ≡ None → first_pair text (take at ts) (drop at ts) ≡ whole
    → first_pair text (take (at + 1) ts) (drop (at + 1) ts) ≡ whole
left-more text ts at t b whole some is kind none left =
    let behind = first_pair text (take (at + 1) ts) (drop (at + 1) ts) in
    sym (ap (λ (o : Option Pair). option_or o behind) (ap (λ (c : Brace). pair_by c text (take at ts) t.place) (sym kind) ∙ none))
    ∙ sym (pair-more text ts at t some is) ∙ left

pub left-found : (text : List ℕ) (ts : List Token) (at : ℕ) (t : Token) (b : Brace) (whole : Option Pair) (pair : Pair) → at < length ts
    → t ≡ get_or ts at t → b ≡ brace_of t.kind → pair_by b text (take at ts) t.place ≡ Some pair
    → first_pair text (take at ts) (drop at ts) ≡ whole → Some pair ≡ whole
left-found text ts at t b whole pair some is kind found left =
    let behind = first_pair text (take (at + 1) ts) (drop (at + 1) ts) in
    sym (ap (λ (o : Option Pair). option_or o behind) (ap (λ (c : Brace). pair_by c text (take at ts) t.place) (sym kind) ∙ found))
    ∙ sym (pair-more text ts at t some is) ∙ left

-- ---- the braces that are open

-- A token that is no brace opens nothing.
pub kept-neither : (text : List ℕ) (ts : List Token) (at : ℕ) (t : Token) (items : List Opening) → at < length ts → t ≡ get_or ts at t
    → Neither ≡ brace_of t.kind → items ≡ map (opening_of text) (open_places (take at ts)) → items ≡ map (opening_of text) (open_places (take (at + 1) ts))
kept-neither text ts at t items some is kind are =
    let none : closed_with (brace_of t.kind) 0 ≡ 0 = ap (λ (b : Brace). closed_with b 0) (sym kind) in
    let more : open_places (take at ts ++ t ∷ []) ≡ open_places (take at ts) =
    places-more (take at ts) t none ∙ ap (λ (b : Brace). open_places (take at ts) ++ opened b 0 t.place) (sym kind) ∙ append-nil (open_places (take at ts)) in
    are ∙ ap (map (opening_of text)) (sym more) ∙ ap (λ (us : List Token). map (opening_of text) (open_places us)) (sym (one-more ts at t some is))

-- A `{` in a line
abbrev pub opening_in : Line → ℕ → Opening
opening_in line place = record { place = place; indent = line.indent }

pub kept-opens : (text : List ℕ) (ts : List Token) (at : ℕ) (t : Token) (items : List Opening) (line : Line) → at < length ts → t ≡ get_or ts at t
    → Opens ≡ brace_of t.kind → line ≡ line_of text t.place → items ≡ map (opening_of text) (open_places (take at ts))
    → items ++ opening_in line t.place ∷ [] ≡ map (opening_of text) (open_places (take (at + 1) ts))
kept-opens text ts at t items line some is kind here are =
    let none : closed_with (brace_of t.kind) 0 ≡ 0 = ap (λ (b : Brace). closed_with b 0) (sym kind) in
    let more : open_places (take at ts ++ t ∷ []) ≡ open_places (take at ts) ++ t.place ∷ [] =
    places-more (take at ts) t none ∙ ap (λ (b : Brace). open_places (take at ts) ++ opened b 0 t.place) (sym kind) in
    ap (λ (l : Line). items ++ opening_in l t.place ∷ []) here
    ∙ ap (λ (os : List Opening). os ++ opening_of text t.place ∷ []) are
    ∙ sym (map-append (opening_of text) (open_places (take at ts)) (t.place ∷ []))
    ∙ ap (map (opening_of text)) (sym more) ∙ ap (λ (us : List Token). map (opening_of text) (open_places us)) (sym (one-more ts at t some is))

pub kept-closes : (text : List ℕ) (ts : List Token) (at : ℕ) (t : Token) (items rest : List Opening) → at < length ts → t ≡ get_or ts at t
    → Closes ≡ brace_of t.kind → items ≡ map (opening_of text) (open_places (take at ts)) → rest ≡ take (length items - 1) items
    → rest ≡ map (opening_of text) (open_places (take (at + 1) ts))
kept-closes text ts at t items rest some is kind are taken =
    let places = open_places (take at ts) in
    let f = opening_of text in
    taken
    ∙ ap (λ (os : List Opening). take (length os - 1) os) are
    ∙ ap (λ (n : ℕ). take (n - 1) (map f places)) (length-map places f)
    ∙ take-map f (length places - 1) places
    ∙ ap (map f) (sym (places-closed (take at ts) t kind))
    ∙ ap (λ (us : List Token). map f (open_places us)) (sym (one-more ts at t some is))

-- The innermost of them
pub last-opening : (text : List ℕ) (front : List Token) (items : List Opening) → items ≡ map (opening_of text) (open_places front)
    → slice_get items (length items - 1) ≡ option_map (opening_of text) (open_brace front)
last-opening text front items are =
    let places = open_places front in
    let f = opening_of text in
    ap (λ (os : List Opening). slice_get os (length os - 1)) are
    ∙ ap (λ (n : ℕ). slice_get (map f places) (n - 1)) (length-map places f)
    ∙ slice_get-map f places (length places - 1)
    ∙ ap (option_map f) (sym (innermost front))

last_got : (rest : List Opening) (opening : Opening) → slice_get (rest ++ opening ∷ []) (length rest) ≡ Some opening
last_got [] opening = refl
last_got (first ∷ rest) opening = last_got rest opening

-- What is taken from the end is the last, where there is one.
pub popped : (items rest : List Opening) (last : Option Opening) → items ≡ rest ++ option_to_list last → (last ≡ None → length items ≡ 0)
    → (last ≡ slice_get items (length items - 1)) × (rest ≡ take (length items - 1) items)
popped items rest (Some opening) are empty =
    let fewer : length items - 1 ≡ length rest = omega (arith, ap length are, length-append rest (opening ∷ [])) in (
      sym (ap (slice_get items) fewer ∙ ap (λ (os : List Opening). slice_get os (length rest)) are ∙ last_got rest opening),
      sym (ap (λ (n : ℕ). take n items) fewer ∙ ap (take (length rest)) are ∙ take_at rest (opening ∷ []) (length rest) refl),
    )
popped [] rest None are empty = (refl, sym (append-nil rest) ∙ sym are)
popped (opening ∷ items) rest None are empty = absurd (omega (arith, empty refl))

-- The pair that a `}` makes is that of the token.
pub pair-is : (text : List ℕ) (front : List Token) (items : List Opening) (line : Line) (place : ℕ) (last : Option Opening)
    → line ≡ line_of text place → items ≡ map (opening_of text) (open_places front) → last ≡ slice_get items (length items - 1)
    → pair_of line place last ≡ pair_by Closes text front place
pair-is text front items line place last is are top =
    ap (λ (l : Line). pair_of l place last) is ∙ ap (pair_of (line_of text place) place) (top ∙ last-opening text front items are)

pub found-is : (text : List ℕ) (ts : List Token) (at : ℕ) (t : Token) (whole pair : Option Pair) → at < length ts → t ≡ get_or ts at t
    → Closes ≡ brace_of t.kind → pair_by Closes text (take at ts) t.place ≡ pair → is_some pair ≡ true
    → first_pair text (take at ts) (drop at ts) ≡ whole → pair ≡ whole
found-is text ts at t whole (Some pair) some is kind by there left = left-found text ts at t Closes whole pair some is kind by left
found-is text ts at t whole None some is kind by there left = cc

pub none-is : (pair : Option Pair) → is_some pair ≡ false → pair ≡ None
none-is None gone = refl
none-is (Some pair) gone = cc
