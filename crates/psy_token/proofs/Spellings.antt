-- The reserved words and the signs: each is found by its spelling, and a longer sign before a shorter one.
use Rattle.std.proofs.Common.{◌≡◌, ◌≢◌, ℕ, zero, suc, ◌≤◌, List, [], ◌∷◌, ◌++◌, length, take, drop, refl, ap, sym, subst, ◌∙◌, Bool, true, false, cond, ◌&&◌, Option, Some, None, arith}
use Rattle.std.specs.Prelude.{not, find, bytes_eq, nat_eq, nat_le, slice_get}
use Rattle.std.specs.List.{starts_with, list_all, prefix_len}
use Rattle.std.proofs.lemmas.List.{take-append-drop, take_at}
use Rattle.std.proofs.lemmas.Bool.{leb-true}
use Rattle.std.proofs.lemmas.Slice.Eq.{bytes_eq-Decides}
use Rattle.psy_base.specs.declared.limits.TheConstants.{WORD_BYTES}
use Rattle.psy_tree.specs.declared.token.Word.{Word}
use Rattle.psy_tree.specs.declared.token.Word.TheVariants.{Advance, After, Agent, Body, Budget, Clock, Depth, Else, If, Input, Int, Int8, Int16, Int32, Int64, Keep, Max, Of, On, Past, Processor, Ready, Return, Send, Stream, Take, Temporal, Tick, To, While}
use Rattle.psy_tree.specs.declared.token.Sign.{Sign}
use Rattle.psy_tree.specs.declared.token.Sign.TheVariants.{Semicolon, OpenBrace, CloseBrace, OpenRound, CloseRound, OpenSquare, CloseSquare, Comma, Assign, Plus, Minus, Star, Slash, Percent, ShiftLeft, ShiftRight, Less, LessEqual, Greater, GreaterEqual, Equal, NotEqual, Amp, Caret, Bar, AmpAmp, BarBar, Tilde, Bang}
use Rattle.psy_tree.specs.Lexemes.{word_spelling, sign_spelling, IsLongestSign, IsWord, Each, begins_word, is_in_word}
use Rattle.psy_token.specs.declared.spelling.TheConstants.{WORDS, SIGNS}
use Rattle.psy_token.specs.Reading.{reserved, sign_at}
use Rattle.psy_token.proofs.Booleans.{and_left, and_right}

passes_by : {X : Type 0} (test : X → Bool) (y : X) (ys : List X) (x : X) → (find test ys ≡ Some x → test x ≡ true) → (t : Bool) → test y ≡ t → cond t (Some y) (find test ys) ≡ Some x → test x ≡ true
passes_by test y ys x later true passes found = let e : y ≡ x = cc in subst (λ z. test z ≡ true) e passes
passes_by test y ys x later false fails found = later found

-- What is found passes the test
pub find_passes : {X : Type 0} (test : X → Bool) (xs : List X) (x : X) → find test xs ≡ Some x → test x ≡ true
find_passes test [] x found = cc
find_passes test (y ∷ ys) x found = passes_by test y ys x (find_passes test ys x) (test y) refl found

-- A reserved word is found by its spelling
pub reserved-spelling : (word : Word) → reserved (word_spelling word) ≡ Some word
reserved-spelling Advance = refl
reserved-spelling After = refl
reserved-spelling Agent = refl
reserved-spelling Body = refl
reserved-spelling Budget = refl
reserved-spelling Clock = refl
reserved-spelling Depth = refl
reserved-spelling Else = refl
reserved-spelling If = refl
reserved-spelling Input = refl
reserved-spelling Int = refl
reserved-spelling Int8 = refl
reserved-spelling Int16 = refl
reserved-spelling Int32 = refl
reserved-spelling Int64 = refl
reserved-spelling Keep = refl
reserved-spelling Max = refl
reserved-spelling Of = refl
reserved-spelling On = refl
reserved-spelling Past = refl
reserved-spelling Processor = refl
reserved-spelling Ready = refl
reserved-spelling Return = refl
reserved-spelling Send = refl
reserved-spelling Stream = refl
reserved-spelling Take = refl
reserved-spelling Temporal = refl
reserved-spelling Tick = refl
reserved-spelling To = refl
reserved-spelling While = refl

pub reserved-some : (name : List ℕ) (word : Word) → reserved name ≡ Some word → name ≡ word_spelling word
reserved-some name word is = sym ((bytes_eq-Decides (word_spelling word) name).0 (find_passes (λ w. bytes_eq (word_spelling w) name) WORDS word is))

pub reserved-none : (name : List ℕ) → reserved name ≡ None → (word : Word) → name ≢ word_spelling word
reserved-none name none word is = let e : reserved name ≡ Some word = ap reserved is ∙ reserved-spelling word in cc

not_reserved : (name : List ℕ) → ((word : Word) → name ≢ word_spelling word) → (found : Option Word) → reserved name ≡ found → found ≡ None
not_reserved name other None is = refl
not_reserved name other (Some word) is = absurd (other word (reserved-some name word is))

pub reserved-other : (name : List ℕ) → ((word : Word) → name ≢ word_spelling word) → reserved name ≡ None
reserved-other name other = not_reserved name other (reserved name) refl

-- Where each sign stands in the table: so many others before it
pub sign_index : Sign → ℕ
sign_index sign = prefix_len (λ s. not (bytes_eq (sign_spelling s) (sign_spelling sign))) SIGNS

listed : (sign : Sign) → slice_get SIGNS (sign_index sign) ≡ Some sign
unfolding sign_index
listed Semicolon = refl
listed OpenBrace = refl
listed CloseBrace = refl
listed OpenRound = refl
listed CloseRound = refl
listed OpenSquare = refl
listed CloseSquare = refl
listed Comma = refl
listed Assign = refl
listed Plus = refl
listed Minus = refl
listed Star = refl
listed Slash = refl
listed Percent = refl
listed ShiftLeft = refl
listed ShiftRight = refl
listed Less = refl
listed LessEqual = refl
listed Greater = refl
listed GreaterEqual = refl
listed Equal = refl
listed NotEqual = refl
listed Amp = refl
listed Caret = refl
listed Bar = refl
listed AmpAmp = refl
listed BarBar = refl
listed Tilde = refl
listed Bang = refl

-- A sign is known by its spelling
by_spelling : List ℕ → Option Sign
by_spelling bytes = find (λ s. bytes_eq (sign_spelling s) bytes) SIGNS

by_spelling-spelling : (sign : Sign) → by_spelling (sign_spelling sign) ≡ Some sign
unfolding by_spelling
by_spelling-spelling Semicolon = refl
by_spelling-spelling OpenBrace = refl
by_spelling-spelling CloseBrace = refl
by_spelling-spelling OpenRound = refl
by_spelling-spelling CloseRound = refl
by_spelling-spelling OpenSquare = refl
by_spelling-spelling CloseSquare = refl
by_spelling-spelling Comma = refl
by_spelling-spelling Assign = refl
by_spelling-spelling Plus = refl
by_spelling-spelling Minus = refl
by_spelling-spelling Star = refl
by_spelling-spelling Slash = refl
by_spelling-spelling Percent = refl
by_spelling-spelling ShiftLeft = refl
by_spelling-spelling ShiftRight = refl
by_spelling-spelling Less = refl
by_spelling-spelling LessEqual = refl
by_spelling-spelling Greater = refl
by_spelling-spelling GreaterEqual = refl
by_spelling-spelling Equal = refl
by_spelling-spelling NotEqual = refl
by_spelling-spelling Amp = refl
by_spelling-spelling Caret = refl
by_spelling-spelling Bar = refl
by_spelling-spelling AmpAmp = refl
by_spelling-spelling BarBar = refl
by_spelling-spelling Tilde = refl
by_spelling-spelling Bang = refl

pub sign_spelling_injective : (s t : Sign) → sign_spelling s ≡ sign_spelling t → s ≡ t
sign_spelling_injective s t same = let e : Some s ≡ Some t = sym (by_spelling-spelling s) ∙ ap by_spelling same ∙ by_spelling-spelling t in cc

-- The sign of one byte with which this one begins
pub first_sign : Sign → Sign
first_sign Semicolon = Semicolon
first_sign OpenBrace = OpenBrace
first_sign CloseBrace = CloseBrace
first_sign OpenRound = OpenRound
first_sign CloseRound = CloseRound
first_sign OpenSquare = OpenSquare
first_sign CloseSquare = CloseSquare
first_sign Comma = Comma
first_sign Assign = Assign
first_sign Plus = Plus
first_sign Minus = Minus
first_sign Star = Star
first_sign Slash = Slash
first_sign Percent = Percent
first_sign ShiftLeft = Less
first_sign ShiftRight = Greater
first_sign Less = Less
first_sign LessEqual = Less
first_sign Greater = Greater
first_sign GreaterEqual = Greater
first_sign Equal = Assign
first_sign NotEqual = Bang
first_sign Amp = Amp
first_sign Caret = Caret
first_sign Bar = Bar
first_sign AmpAmp = Amp
first_sign BarBar = Bar
first_sign Tilde = Tilde
first_sign Bang = Bang

pub first_sign-spelling : (sign : Sign) → sign_spelling (first_sign sign) ≡ take 1 (sign_spelling sign)
unfolding first_sign
first_sign-spelling Semicolon = refl
first_sign-spelling OpenBrace = refl
first_sign-spelling CloseBrace = refl
first_sign-spelling OpenRound = refl
first_sign-spelling CloseRound = refl
first_sign-spelling OpenSquare = refl
first_sign-spelling CloseSquare = refl
first_sign-spelling Comma = refl
first_sign-spelling Assign = refl
first_sign-spelling Plus = refl
first_sign-spelling Minus = refl
first_sign-spelling Star = refl
first_sign-spelling Slash = refl
first_sign-spelling Percent = refl
first_sign-spelling ShiftLeft = refl
first_sign-spelling ShiftRight = refl
first_sign-spelling Less = refl
first_sign-spelling LessEqual = refl
first_sign-spelling Greater = refl
first_sign-spelling GreaterEqual = refl
first_sign-spelling Equal = refl
first_sign-spelling NotEqual = refl
first_sign-spelling Amp = refl
first_sign-spelling Caret = refl
first_sign-spelling Bar = refl
first_sign-spelling AmpAmp = refl
first_sign-spelling BarBar = refl
first_sign-spelling Tilde = refl
first_sign-spelling Bang = refl

-- The bytes begin with the needle
pub starts_with-true : (rest needle : List ℕ) → starts_with nat_eq rest needle ≡ true → rest ≡ needle ++ drop (length needle) rest
starts_with-true rest needle is =
    let e = (bytes_eq-Decides needle (take (length needle) rest)).0 is in
    sym (ap (λ front. front ++ drop (length needle) rest) e ∙ take-append-drop (length needle) rest)

pub starts_with-front : (needle more : List ℕ) → starts_with nat_eq (needle ++ more) needle ≡ true
starts_with-front needle more = (bytes_eq-Decides needle (take (length needle) (needle ++ more))).1 (sym (take_at needle more (length needle) refl))

abbrev begins_with : List ℕ → Sign → Bool
begins_with rest sign = starts_with nat_eq rest (sign_spelling sign)

-- Signs, the longer ones first
no_longer : Sign → Sign → Bool
no_longer s t = nat_le (length (sign_spelling t)) (length (sign_spelling s))

falls : List Sign → Bool
falls [] = true
falls (s ∷ signs) = list_all (no_longer s) signs && falls signs

SIGNS-fall : falls SIGNS ≡ true
unfolding falls no_longer
SIGNS-fall = refl

list_all-get : (test : Sign → Bool) (signs : List Sign) (i : ℕ) (t : Sign) → list_all test signs ≡ true → slice_get signs i ≡ Some t → test t ≡ true
list_all-get test [] i t each is = cc
list_all-get test (s ∷ signs) zero t each is = let e : s ≡ t = cc in subst (λ z. test z ≡ true) e (and_left (test s) (list_all test signs) each)
list_all-get test (s ∷ signs) (suc i) t each is = list_all-get test signs i t (and_right (test s) (list_all test signs) each) is

none_by : (test : Sign → Bool) (s : Sign) (signs : List Sign) (i : ℕ) (t : Sign) → ((j : ℕ) → find test signs ≡ None → slice_get signs j ≡ Some t → test t ≡ true → ⊥) → (b : Bool) → test s ≡ b → cond b (Some s) (find test signs) ≡ None → slice_get (s ∷ signs) i ≡ Some t → test t ≡ true → ⊥
none_by test s signs i t later true first none is passes = cc
none_by test s signs zero t later false first none is passes = let e : s ≡ t = cc in let f : test t ≡ false = subst (λ z. test z ≡ false) e first in cc
none_by test s signs (suc i) t later false first none is passes = later i none is passes

-- Where none is found, none passes
none_passes : (test : Sign → Bool) (signs : List Sign) (i : ℕ) (t : Sign) → find test signs ≡ None → slice_get signs i ≡ Some t → test t ≡ true → ⊥
none_passes test [] i t none is passes = cc
none_passes test (s ∷ signs) i t none is passes = none_by test s signs i t (λ j. none_passes test signs j t) (test s) refl none is passes

longer_by : (test : Sign → Bool) (x : Sign) (signs : List Sign) (i : ℕ) (s t : Sign) → ((j : ℕ) → falls signs ≡ true → find test signs ≡ Some s → slice_get signs j ≡ Some t → test t ≡ true → length (sign_spelling t) ≤ length (sign_spelling s)) → falls (x ∷ signs) ≡ true → (b : Bool) → test x ≡ b → cond b (Some x) (find test signs) ≡ Some s → slice_get (x ∷ signs) i ≡ Some t → test t ≡ true → length (sign_spelling t) ≤ length (sign_spelling s)
unfolding falls no_longer
longer_by test x signs zero s t later fall true first found is passes = let e : t ≡ s = cc in subst (λ z. length (sign_spelling z) ≤ length (sign_spelling s)) (sym e) (omega arith)
longer_by test x signs (suc i) s t later fall true first found is passes =
    let e : x ≡ s = cc in
    let h = list_all-get (no_longer x) signs i t (and_left (list_all (no_longer x) signs) (falls signs) fall) is in
    subst (λ z. length (sign_spelling t) ≤ length (sign_spelling z)) e (leb-true _ _ h)
longer_by test x signs zero s t later fall false first found is passes = let e : x ≡ t = cc in let f : test t ≡ false = subst (λ z. test z ≡ false) e first in cc
longer_by test x signs (suc i) s t later fall false first found is passes = later i (and_right (list_all (no_longer x) signs) (falls signs) fall) found is passes

-- No sign that passes is longer than the one that is found
none_longer : (test : Sign → Bool) (signs : List Sign) (i : ℕ) (s t : Sign) → falls signs ≡ true → find test signs ≡ Some s → slice_get signs i ≡ Some t → test t ≡ true → length (sign_spelling t) ≤ length (sign_spelling s)
none_longer test [] i s t fall found is passes = cc
none_longer test (x ∷ signs) i s t fall found is passes = longer_by test x signs i s t (λ j. none_longer test signs j s t) fall (test x) refl found is passes

-- The sign that is found stands at the front
pub sign_at-some : (rest : List ℕ) (sign : Sign) → sign_at rest ≡ Some sign → rest ≡ sign_spelling sign ++ drop (length (sign_spelling sign)) rest
sign_at-some rest sign found = starts_with-true rest (sign_spelling sign) (find_passes (begins_with rest) SIGNS sign found)

-- Where none is found, none stands at the front
pub sign_at-none : (rest : List ℕ) → sign_at rest ≡ None → (sign : Sign) (more : List ℕ) → rest ≡ sign_spelling sign ++ more → ⊥
sign_at-none rest none sign more is =
    let passes : begins_with rest sign ≡ true = ap (λ r. begins_with r sign) is ∙ starts_with-front (sign_spelling sign) more in
    none_passes (begins_with rest) SIGNS (sign_index sign) sign none (listed sign) passes

-- No longer one stands there
pub sign_at-longest : (rest : List ℕ) (sign : Sign) → sign_at rest ≡ Some sign → (other : Sign) (more : List ℕ) → rest ≡ sign_spelling other ++ more → length (sign_spelling other) ≤ length (sign_spelling sign)
sign_at-longest rest sign found other more is =
    let passes : begins_with rest other ≡ true = ap (λ r. begins_with r other) is ∙ starts_with-front (sign_spelling other) more in
    none_longer (begins_with rest) SIGNS (sign_index other) sign other SIGNS-fall found (listed other) passes

-- Two signs of one length at the front are one sign
same_length : (rest : List ℕ) (s t : Sign) (more others : List ℕ) → rest ≡ sign_spelling s ++ more → rest ≡ sign_spelling t ++ others → length (sign_spelling s) ≡ length (sign_spelling t) → s ≡ t
same_length rest s t more others a b len =
    let e : sign_spelling s ≡ sign_spelling t = sym (take_at (sign_spelling s) more (length (sign_spelling s)) refl) ∙ ap (take (length (sign_spelling s))) (sym a ∙ b) ∙ take_at (sign_spelling t) others (length (sign_spelling s)) (sym len) in
    sign_spelling_injective s t e

longest_by : (sign : Sign) (rest : List ℕ) → IsLongestSign sign rest → (found : Option Sign) → sign_at (sign_spelling sign ++ rest) ≡ found → found ≡ Some sign
longest_by sign rest longest None none = absurd (sign_at-none (sign_spelling sign ++ rest) none sign rest refl)
longest_by sign rest longest (Some other) found =
    let all = sign_spelling sign ++ rest in
    let begins = sign_at-some all other found in
    let at_most = longest other (drop (length (sign_spelling other)) all) begins in
    let at_least = sign_at-longest all other found sign rest refl in
    let len : length (sign_spelling other) ≡ length (sign_spelling sign) = omega (arith, at_most, at_least) in
    ap Some (same_length all other sign (drop (length (sign_spelling other)) all) rest begins refl len)

-- The longest sign is found
pub sign_at-spelling : (sign : Sign) (rest : List ℕ) → IsLongestSign sign rest → sign_at (sign_spelling sign ++ rest) ≡ Some sign
sign_at-spelling sign rest longest = longest_by sign rest longest (sign_at (sign_spelling sign ++ rest)) refl

word_test : List ℕ → Bool
word_test [] = false
word_test (b ∷ bytes) = begins_word b && list_all is_in_word bytes

each_by : (bytes : List ℕ) → list_all is_in_word bytes ≡ true → Each is_in_word bytes
each_by [] each = tt
each_by (b ∷ bytes) each = (and_left (is_in_word b) (list_all is_in_word bytes) each, each_by bytes (and_right (is_in_word b) (list_all is_in_word bytes) each))

word_by : (bytes : List ℕ) → word_test bytes ≡ true → IsWord bytes
unfolding word_test
word_by [] test = cc
word_by (b ∷ bytes) test = (and_left (begins_word b) (list_all is_in_word bytes) test, each_by bytes (and_right (begins_word b) (list_all is_in_word bytes) test))

spelling_test : (word : Word) → word_test (word_spelling word) && nat_le (length (word_spelling word)) WORD_BYTES ≡ true
unfolding word_test
spelling_test Advance = refl
spelling_test After = refl
spelling_test Agent = refl
spelling_test Body = refl
spelling_test Budget = refl
spelling_test Clock = refl
spelling_test Depth = refl
spelling_test Else = refl
spelling_test If = refl
spelling_test Input = refl
spelling_test Int = refl
spelling_test Int8 = refl
spelling_test Int16 = refl
spelling_test Int32 = refl
spelling_test Int64 = refl
spelling_test Keep = refl
spelling_test Max = refl
spelling_test Of = refl
spelling_test On = refl
spelling_test Past = refl
spelling_test Processor = refl
spelling_test Ready = refl
spelling_test Return = refl
spelling_test Send = refl
spelling_test Stream = refl
spelling_test Take = refl
spelling_test Temporal = refl
spelling_test Tick = refl
spelling_test To = refl
spelling_test While = refl

-- Reserved words are words
pub IsWord-spelling : (word : Word) → IsWord (word_spelling word)
IsWord-spelling word = word_by (word_spelling word) (and_left (word_test (word_spelling word)) (nat_le (length (word_spelling word)) WORD_BYTES) (spelling_test word))

pub length-spelling : (word : Word) → length (word_spelling word) ≤ WORD_BYTES
length-spelling word = leb-true _ _ (and_right (word_test (word_spelling word)) (nat_le (length (word_spelling word)) WORD_BYTES) (spelling_test word))
