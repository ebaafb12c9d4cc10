-- The bytes of each part of an image are those that spell it.
use Rattle.std.proofs.Common.{◌≡◌, ◌∙◌, ℕ, ℤ, ◌+◌, ◌-◌, Bool, true, false, cond, eqb, List, [], ◌++◌, length, append-nil, append_assoc, Some, None, refl, sym, ap, arith}
use Rattle.std.proofs.lemmas.Bool.{eqb-false, eqb-true}
use Rattle.psy_clock.specs.declared.clock.Clock.{Clock}
use Rattle.psy_code.specs.declared.code.FunctionCode.{FunctionCode}
use Rattle.psy_base.specs.declared.limits.TheConstants.{FUNCTIONS, NAMES, STREAMS, VARIABLES}
use Rattle.psy_image.specs.declared.seen.Seen.{Seen}
use Rattle.psy_image.specs.Bytes.{clock_bytes, clocks_bytes, function_bytes, list_bytes, name_bytes, number_bytes, owner_number, paired_bytes, stream_bytes, value_bytes, variable_bytes}
use Rattle.psy_image.specs.Formats.{times}
use Rattle.psy_image.specs.Images.{clock, clocks, owner_of, function, functions, stream, streams, value, values_up_to, variable, variables}
use Rattle.psy_tree.specs.declared.unit.StreamDecl.{StreamDecl}
use Rattle.psy_tree.specs.declared.unit.VarDecl.{VarDecl}
use Rattle.psy_image.proofs.Prints.{AddsOne, AddsPair, Paired, Prints, prints_counted, prints_paired, prints_then, weaker}

-- ---- pieces that stand one behind the other

pub three : (t a b c : List ℕ) → ((t ++ a) ++ b) ++ c ≡ t ++ (a ++ (b ++ c))
three t a b c = append_assoc (t ++ a) b c ∙ append_assoc t a (b ++ c)

pub four : (t a b c d : List ℕ) → (((t ++ a) ++ b) ++ c) ++ d ≡ t ++ (a ++ (b ++ (c ++ d)))
four t a b c d = append_assoc ((t ++ a) ++ b) c d ∙ three t a b (c ++ d)

pub five : (t a b c d e : List ℕ) → ((((t ++ a) ++ b) ++ c) ++ d) ++ e ≡ t ++ (a ++ (b ++ (c ++ (d ++ e))))
five t a b c d e = append_assoc (((t ++ a) ++ b) ++ c) d e ∙ four t a b c (d ++ e)

-- ---- declarations

abbrev Named : Type 0
Named = List (List ℕ) × List Clock

prints_clock : (s : Named) (text : List ℕ) → Prints (AddsPair (λ (t : Named). t.0) (λ (t : Named). t.1) clock_bytes s text) (clock s) text
unfolding clock
prints_clock s text = λ name good period lawful first early. (name, record { period = period; first = first }, refl, refl, three text (name_bytes name) (number_bytes period) (number_bytes first))

pub prints_clocks : (text : List ℕ) → Prints (λ s now. (now ≡ text ++ clocks_bytes s.0 s.1)) clocks text
unfolding clocks clocks_bytes
prints_clocks text = λ count few. weaker (Paired (λ (t : Named). t.0) (λ (t : Named). t.1) clock_bytes (text ++ number_bytes count) (count + 0)) (λ s now. now ≡ text ++ clocks_bytes s.0 s.1) (times count clock ([], [])) (text ++ number_bytes count)
    (prints_paired (λ (t : Named). t.0) (λ (t : Named). t.1) clock_bytes clock count 0 ([], []) (text ++ number_bytes count) (text ++ number_bytes count) (sym (append-nil (text ++ number_bytes count)), refl, refl) prints_clock)
    (λ s now h. all count s now h)
  where
    all : (count : ℕ) (s : Named) (now : List ℕ) → Paired (λ (t : Named). t.0) (λ (t : Named). t.1) clock_bytes (text ++ number_bytes count) (count + 0) s now → now ≡ text ++ clocks_bytes s.0 s.1
    all count s now (is, many, as_many) =
        let same : count ≡ length s.1 = omega (arith, as_many) in
        is ∙ append_assoc text (number_bytes count) (paired_bytes clock_bytes s.0 s.1) ∙ ap (λ n. text ++ (number_bytes n ++ paired_bytes clock_bytes s.0 s.1)) same

owner_back : (n : ℕ) → owner_number (owner_of n) ≡ n
owner_back n = by (eqb n 0) refl
  where
    by : (b : Bool) → eqb n 0 ≡ b → owner_number (cond b None (Some (n - 1))) ≡ n
    by true e = sym (eqb-true n 0 e)
    by false e = let some = eqb-false n 0 e in omega (arith, some)

prints_variable : (count : ℕ) (s : Seen × List VarDecl) (text : List ℕ) → Prints (AddsOne (λ (t : Seen × List VarDecl). t.1) variable_bytes s text) (variable count s) text
unfolding variable
prints_variable count s text = λ name good at owner fits clock there init whole depth range. (
  record { name = name; owner = owner_of owner; clock = clock; init = init; depth = depth },
  refl,
  five text (name_bytes name) (number_bytes owner) (number_bytes clock) (value_bytes init) (number_bytes depth)
      ∙ ap (λ n. text ++ (name_bytes name ++ (number_bytes n ++ (number_bytes clock ++ (value_bytes init ++ number_bytes depth))))) (sym (owner_back owner)),
)

pub prints_variables : (count : ℕ) (seen : Seen) (text : List ℕ) → Prints (λ s now. now ≡ text ++ list_bytes variable_bytes s.1) (variables count seen) text
unfolding variables
prints_variables count seen text = prints_counted (λ (t : Seen × List VarDecl). t.1) variable_bytes VARIABLES (variable count) (seen, []) text refl (prints_variable count)

prints_stream : (count : ℕ) (s : Seen × List StreamDecl) (text : List ℕ) → Prints (AddsOne (λ (t : Seen × List StreamDecl). t.1) stream_bytes s text) (stream count s) text
unfolding stream
prints_stream count s text = λ name good at receiver fits keep range clock there. (
  record { name = name; receiver = receiver; keep = keep; clock = clock },
  refl,
  four text (name_bytes name) (number_bytes receiver) (number_bytes keep) (number_bytes clock),
)

pub prints_streams : (count : ℕ) (seen : Seen) (text : List ℕ) → Prints (λ s now. now ≡ text ++ list_bytes stream_bytes s.1) (streams count seen) text
unfolding streams
prints_streams count seen text = prints_counted (λ (t : Seen × List StreamDecl). t.1) stream_bytes STREAMS (stream count) (seen, []) text refl (prints_stream count)

-- ---- functions

pub prints_values : (most : ℕ) (text : List ℕ) → Prints (λ s now. now ≡ text ++ list_bytes value_bytes s) (values_up_to most) text
unfolding values_up_to value
prints_values most text = prints_counted (λ (t : List ℤ). t) value_bytes most value [] text refl one
  where
    one : (s : List ℤ) (now : List ℕ) → Prints (AddsOne (λ (t : List ℤ). t) value_bytes s now) (value s) now
    one s now = λ z whole. (z, refl, refl)

prints_function : (s : List FunctionCode) (text : List ℕ) → Prints (AddsOne (λ (t : List FunctionCode). t) function_bytes s text) (function s) text
unfolding function
prints_function s text = λ entry fits params few. prints_then (λ locals now. now ≡ ((text ++ number_bytes entry) ++ number_bytes params) ++ list_bytes value_bytes locals)
    (AddsOne (λ (t : List FunctionCode). t) function_bytes s text) (values_up_to (NAMES - params)) _ ((text ++ number_bytes entry) ++ number_bytes params)
    (prints_values (NAMES - params) ((text ++ number_bytes entry) ++ number_bytes params))
    (λ locals now is counters range. (
      record { entry = entry; params = params; locals = locals; counters = counters },
      refl,
      ap (λ xs. xs ++ number_bytes counters) is ∙ four text (number_bytes entry) (number_bytes params) (list_bytes value_bytes locals) (number_bytes counters),
    ))

pub prints_functions : (text : List ℕ) → Prints (λ s now. now ≡ text ++ list_bytes function_bytes s) functions text
unfolding functions
prints_functions text = prints_counted (λ (t : List FunctionCode). t) function_bytes FUNCTIONS function [] text refl prints_function
