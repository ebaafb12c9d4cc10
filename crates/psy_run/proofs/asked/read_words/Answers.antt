-- What is left of the proof of `asked::read_words`.
use Rattle.std.proofs.Common.{ℕ, ◌≡◌, [], ◌∷◌, List, map, string_bytes, MatchOption, sym, subst, arith}
use Rattle.psy_run.specs.Asked.{Asks, AskNothing, asked_by}
use Rattle.psy_run.proofs.AskedLemmas.{map-next, map-end}
use Rattle.psy_run.proofs.asked.read_words.Goals as goal

pub returns-in-len4 : goal.returns-in-len4
returns-in-len4 c =
    let words = c.args.words.now in
    let texts : List (List ℕ) = c.as_str-in-len4.result.now ∷ c.as_str-in-len4-2.result.now ∷ c.as_str-in-len4-3.result.now ∷ c.as_str-in-len4-4.result.now ∷ [] in
    let are : map string_bytes words ≡ texts =
    map-next string_bytes words 0 (omega arith) c.command-item-then-words-lt5.is c.as_str-in-len4.ensures.value
    (map-next string_bytes words 1 (omega arith) c.program-item.is c.as_str-in-len4-2.ensures.value
    (map-next string_bytes words 2 (omega arith) c.until-item-then-words-lt5.is c.as_str-in-len4-3.ensures.value
    (map-next string_bytes words 3 (omega arith) c.inputs-item.is c.as_str-in-len4-4.ensures.value
    (map-end string_bytes words 4 (omega arith))))) in
    subst (λ texts. MatchOption c.of_four.result (AskNothing texts) (λ read. Asks texts (asked_by read))) (sym are) c.of_four.ensures

pub returns-in-len5 : goal.returns-in-len5
returns-in-len5 c =
    let words = c.args.words.now in
    let texts : List (List ℕ) = c.as_str-in-len5.result.now ∷ c.as_str-in-len5-2.result.now ∷ c.as_str-in-len5-3.result.now ∷ c.as_str-in-len5-4.result.now ∷ c.as_str-in-len5-5.result.now ∷ [] in
    let are : map string_bytes words ≡ texts =
    map-next string_bytes words 0 (omega arith) c.command-item-then-words-lt6.is c.as_str-in-len5.ensures.value
    (map-next string_bytes words 1 (omega arith) c.program-item-then-words-lt6.is c.as_str-in-len5-2.ensures.value
    (map-next string_bytes words 2 (omega arith) c.until-item-then-words-lt6.is c.as_str-in-len5-3.ensures.value
    (map-next string_bytes words 3 (omega arith) c.inputs-item-then-words-lt6.is c.as_str-in-len5-4.ensures.value
    (map-next string_bytes words 4 (omega arith) c.script-item.is c.as_str-in-len5-5.ensures.value
    (map-end string_bytes words 5 (omega arith)))))) in
    subst (λ texts. MatchOption c.of_five.result (AskNothing texts) (λ read. Asks texts (asked_by read))) (sym are) c.of_five.ensures

pub returns-in-len6 : goal.returns-in-len6
returns-in-len6 c =
    let words = c.args.words.now in
    let texts : List (List ℕ) = c.as_str-in-len6.result.now ∷ c.as_str-in-len6-2.result.now ∷ c.as_str-in-len6-3.result.now ∷ c.as_str-in-len6-4.result.now ∷ c.as_str-in-len6-5.result.now ∷ c.as_str-in-len6-6.result.now ∷ [] in
    let are : map string_bytes words ≡ texts =
    map-next string_bytes words 0 (omega arith) c.command-item-then-words-lt7.is c.as_str-in-len6.ensures.value
    (map-next string_bytes words 1 (omega arith) c.program-item-then-words-lt7.is c.as_str-in-len6-2.ensures.value
    (map-next string_bytes words 2 (omega arith) c.state-item.is c.as_str-in-len6-3.ensures.value
    (map-next string_bytes words 3 (omega arith) c.until-item-then-words-lt7.is c.as_str-in-len6-4.ensures.value
    (map-next string_bytes words 4 (omega arith) c.inputs-item-then-words-lt7.is c.as_str-in-len6-5.ensures.value
    (map-next string_bytes words 5 (omega arith) c.script-item-then-words-lt7.is c.as_str-in-len6-6.ensures.value
    (map-end string_bytes words 6 (omega arith))))))) in
    subst (λ texts. MatchOption c.of_six.result (AskNothing texts) (λ read. Asks texts (asked_by read))) (sym are) c.of_six.ensures
