-- The bytes of agents, and of the whole image, are those that spell them.
use Rattle.std.proofs.Common.{◌≡◌, ◌∙◌, ℕ, ℤ, suc, ◌+◌, ◌-◌, ◌≤◌, Bool, true, false, cond, ltb, List, [], ◌∷◌, ◌++◌, length, append-nil, append_assoc, length-append, refl, sym, ap, subst, arith}
use Rattle.std.specs.Prelude.{⊤}
use Rattle.std.specs.List.{flat_map}
use Rattle.std.proofs.lemmas.Grind.{flat_map-append}
use Rattle.std.proofs.lemmas.List.Concat.{flat_map-cons}
use Rattle.psy_code.specs.declared.code.AgentCode.{AgentCode}
use Rattle.psy_code.specs.declared.code.CopyInit.{CopyInit}
use Rattle.psy_image.specs.declared.agents.AgentLists.{AgentLists}
use Rattle.psy_image.specs.declared.image.Image.{Image}
use Rattle.psy_image.specs.declared.limits.TheConstants.{AGENT_CELLS}
use Rattle.psy_image.specs.declared.seen.Claim.{Claim}
use Rattle.psy_image.specs.declared.seen.Seen.{Seen}
use Rattle.psy_image.specs.Bytes.{agent_bytes, agents_bytes, clocks_bytes, copy_bytes, declaration_bytes, function_bytes, image_bytes, instr_bytes, list_bytes, machine_bytes, name_bytes, number_bytes, paired_bytes, point_bytes, stream_bytes, value_bytes, variable_bytes}
use Rattle.psy_image.specs.Fields.{Fits, Number}
use Rattle.psy_image.specs.Formats.{Refuse, ◌>>=◌, times, each}
use Rattle.psy_image.specs.Images.{agent, agents, clocks, copies, copy, declaration, functions, head, image, instrs, judged, machine, owned_from, point, points, spells_image, streams, values_up_to, variables}
use Rattle.psy_tree.specs.declared.unit.AgentDecl.{AgentDecl}
use Rattle.psy_tree.specs.declared.unit.Point.{Point}
use Rattle.psy_tree.specs.declared.unit.VarDecl.{VarDecl}
use Rattle.psy_image.proofs.Prints.{AddsPair, Paired, Prints, printed, prints_paired, prints_then, weaker}
use Rattle.psy_image.proofs.Printed.{prints_clocks, prints_functions, prints_streams, prints_values, prints_variables, four, five}
use Rattle.psy_image.proofs.PrintedCode.{prints_instrs}

-- ---- points

abbrev Placed : Type 0
Placed = List Point × List ℕ

abbrev PointsSaid : List ℕ → ℕ → Placed → List ℕ → Type 0
PointsSaid = Paired (λ (t : Placed). t.1) (λ (t : Placed). t.0) point_bytes

prints_point : (count : ℕ) (s : Placed) (text : List ℕ) → Prints (AddsPair (λ (t : Placed). t.1) (λ (t : Placed). t.0) point_bytes s text) (point count s) text
unfolding point
prints_point count s text = λ number some clock there budget lawful place any. (
  place,
  record { count = number; clock = clock; budget = budget },
  refl,
  refl,
  four text (number_bytes number) (number_bytes clock) (number_bytes budget) (number_bytes place),
)

prints_head : (clock budget : ℕ) (text : List ℕ) → Prints (PointsSaid text 1) (head clock budget) text
unfolding head
prints_head clock budget text = λ none is0 same_clock is1 same_budget is2 place any. (
  four text (number_bytes none) (number_bytes same_clock) (number_bytes same_budget) (number_bytes place)
      ∙ ap (λ xs. text ++ xs) (sym (append-nil (number_bytes none ++ (number_bytes same_clock ++ (number_bytes same_budget ++ number_bytes place))))),
  refl,
  refl,
)

abbrev PointsThere : List ℕ → Placed → List ℕ → Type 0
PointsThere text s now = now ≡ text ++ (number_bytes (length s.0) ++ paired_bytes point_bytes s.1 s.0)

prints_points : (clocks clock budget : ℕ) (text : List ℕ) → Prints (PointsThere text) (points clocks clock budget) text
unfolding points
prints_points clocks clock budget text = λ count fits. prints_then (PointsSaid (text ++ number_bytes count) 1) (PointsThere text) (head clock budget) _ (text ++ number_bytes count) (prints_head clock budget (text ++ number_bytes count))
    (λ first now h. weaker (PointsSaid (text ++ number_bytes count) ((count - 1) + 1)) (PointsThere text) (times (count - 1) (point clocks) first) now
    (prints_paired (λ (t : Placed). t.1) (λ (t : Placed). t.0) point_bytes (point clocks) (count - 1) 1 first (text ++ number_bytes count) now h (prints_point clocks))
    (λ s after g. all count s after fits.0 g))
  where
    all : (count : ℕ) (s : Placed) (now : List ℕ) → 1 ≤ count → PointsSaid (text ++ number_bytes count) ((count - 1) + 1) s now → PointsThere text s now
    all count s now some (is, many, as_many) =
        let same : count ≡ length s.0 = omega (arith, as_many, some) in
        is ∙ append_assoc text (number_bytes count) (paired_bytes point_bytes s.1 s.0) ∙ ap (λ n. text ++ (number_bytes n ++ paired_bytes point_bytes s.1 s.0)) same

-- ---- copies

abbrev Copied : List ℕ → ℕ → List CopyInit → List ℕ → Type 0
Copied text i s now = (now ≡ text ++ flat_map copy_bytes s) × (length s ≡ i)

prints_copy : (text : List ℕ) (i owned : ℕ) (s : List CopyInit) (now : List ℕ) → Copied text i s now → Prints (Copied text (suc i)) (copy owned s) now
unfolding copy
prints_copy text i owned s now (is, many) = λ variable same init whole. more variable init
  where
    more : (variable : ℕ) (init : ℤ) → Copied text (suc i) (s ++ record { variable = variable; init = init } ∷ []) ((now ++ number_bytes variable) ++ value_bytes init)
    more variable init =
        let one : CopyInit = record { variable = variable; init = init } in (
          append_assoc now (number_bytes variable) (value_bytes init) ∙ ap (λ xs. xs ++ copy_bytes one) is ∙ append_assoc text (flat_map copy_bytes s) (copy_bytes one)
              ∙ ap (λ xs. text ++ xs) (sym (flat_map-append copy_bytes s (one ∷ []) ∙ ap (λ xs. flat_map copy_bytes s ++ xs) (flat_map-cons copy_bytes one [] ∙ append-nil (copy_bytes one)))),
          length-append s (one ∷ []) ∙ omega (arith, many),
        )

prints_each : (text : List ℕ) (owned : List ℕ) (i : ℕ) (s : List CopyInit) (now : List ℕ) → Copied text i s now → Prints (Copied text (length owned + i)) (each owned copy s) now
unfolding each
prints_each text [] i s now h = let same : i ≡ 0 + i = omega arith in subst (λ n. Copied text n s now) same h
prints_each text (x ∷ owned) i s now h =
    let same : length owned + suc i ≡ suc (length owned) + i = omega arith in
    subst (λ n. Prints (Copied text n) (copy x s >>= each owned copy) now) same
    (prints_then (Copied text (suc i)) (Copied text (length owned + suc i)) (copy x s) (each owned copy) now (prints_copy text i x s now h) (λ t after g. prints_each text owned (suc i) t after g))

prints_copies : (owned text : List ℕ) → Prints (λ s now. now ≡ text ++ list_bytes copy_bytes s) (copies owned) text
unfolding copies
prints_copies owned text = λ count fits. weaker (Copied (text ++ number_bytes count) (length owned + 0)) (λ s now. now ≡ text ++ list_bytes copy_bytes s) (each owned copy []) (text ++ number_bytes count)
    (prints_each (text ++ number_bytes count) owned 0 [] (text ++ number_bytes count) (sym (append-nil (text ++ number_bytes count)), refl))
    (λ s now h. all count s now fits h)
  where
    all : (count : ℕ) (s : List CopyInit) (now : List ℕ) → Fits (Number (length owned) (length owned)) count → Copied (text ++ number_bytes count) (length owned + 0) s now → now ≡ text ++ list_bytes copy_bytes s
    all count s now (low, high, small) (is, many) =
        let same : count ≡ length s = omega (arith, many, low, high) in
        is ∙ append_assoc text (number_bytes count) (flat_map copy_bytes s) ∙ ap (λ n. text ++ (number_bytes n ++ flat_map copy_bytes s)) same

-- ---- agents

abbrev Declared : List ℕ → AgentDecl × List ℕ → List ℕ → Type 0
Declared text its now = now ≡ text ++ declaration_bytes its.0 its.1

prints_declaration : (clocks : ℕ) (names : List (List ℕ)) (text : List ℕ) → Prints (Declared text) (declaration clocks names) text
unfolding declaration
prints_declaration clocks names text = λ name good clock there budget lawful processor known.
    let before = (((text ++ name_bytes name) ++ number_bytes clock) ++ number_bytes budget) ++ number_bytes processor in
    prints_then (PointsThere before) (Declared text) (points clocks clock budget) _ before (prints_points clocks clock budget before) (λ its now is.
    is ∙ five-less text (name_bytes name) (number_bytes clock) (number_bytes budget) (number_bytes processor) (number_bytes (length its.0) ++ paired_bytes point_bytes its.1 its.0))
  where
    five-less : (t a b c d e : List ℕ) → ((((t ++ a) ++ b) ++ c) ++ d) ++ e ≡ t ++ (a ++ (b ++ (c ++ (d ++ e))))
    five-less = five

abbrev Made : List ℕ → List ℕ → AgentCode → List ℕ → Type 0
Made text places code now = (now ≡ text ++ machine_bytes code) × (code.points ≡ places)

prints_machine : (owned places text : List ℕ) → Prints (Made text places) (machine owned places) text
unfolding machine
prints_machine owned places text = prints_then (λ s now. now ≡ text ++ list_bytes value_bytes s) (Made text places) (values_up_to AGENT_CELLS) _ text (prints_values AGENT_CELLS text) (λ cells now is counters few.
    prints_then (λ s after. after ≡ (now ++ number_bytes counters) ++ list_bytes copy_bytes s) (Made text places) (copies owned) _ (now ++ number_bytes counters) (prints_copies owned (now ++ number_bytes counters)) (λ its after as_is stack fits frames range. (
      ap (λ xs. (xs ++ number_bytes stack) ++ number_bytes frames) (as_is ∙ ap (λ xs. (xs ++ number_bytes counters) ++ list_bytes copy_bytes its) is)
          ∙ five text (list_bytes value_bytes cells) (number_bytes counters) (list_bytes copy_bytes its) (number_bytes stack) (number_bytes frames),
      refl,
    )))

abbrev AgentAdded : AgentLists → List ℕ → AgentLists → List ℕ → Type 0
AgentAdded = AddsPair (λ (t : AgentLists). t.agents) (λ (t : AgentLists). t.codes) agent_bytes

prints_agent : (clocks : ℕ) (variables : List VarDecl) (s : AgentLists) (text : List ℕ) → Prints (AgentAdded s text) (agent clocks variables s) text
unfolding agent
prints_agent clocks variables s text = prints_then (Declared text) (AgentAdded s text) (declaration clocks s.names) _ text (prints_declaration clocks s.names text) (λ its now is.
    prints_then (Made now its.1) (AgentAdded s text) (machine (owned_from (length s.agents) 0 variables) its.1) _ now (prints_machine (owned_from (length s.agents) 0 variables) its.1 now) (λ code after made. (
      its.0,
      code,
      refl,
      refl,
      made.0 ∙ ap (λ xs. xs ++ machine_bytes code) is ∙ append_assoc text (declaration_bytes its.0 its.1) (machine_bytes code)
          ∙ ap (λ places. text ++ (declaration_bytes its.0 places ++ machine_bytes code)) (sym made.1),
    )))

abbrev Same : List ℕ → ⊤ → List ℕ → Type 0
Same text good now = now ≡ text

judged_by : (count : ℕ) (claim : Claim) (claims : List Claim) (text : List ℕ) → Prints (Same text) (judged count claims) text → (b : Bool) → Prints (Same text) (cond b (judged count claims) (Refuse claim.left)) text
judged_by count claim claims text rest true = rest
judged_by count claim claims text rest false = tt

prints_judged : (count : ℕ) (claims : List Claim) (text : List ℕ) → Prints (Same text) (judged count claims) text
unfolding judged
prints_judged count [] text = refl
prints_judged count (claim ∷ claims) text = judged_by count claim claims text (prints_judged count claims text) (ltb claim.agent count)

abbrev AgentsSaid : List ℕ → AgentLists → List ℕ → Type 0
AgentsSaid text s now = now ≡ text ++ agents_bytes s.agents s.codes

pub prints_agents : (clocks : ℕ) (variables : List VarDecl) (seen : Seen) (text : List ℕ) → Prints (AgentsSaid text) (agents clocks variables seen) text
unfolding agents agents_bytes
prints_agents clocks variables seen text = λ count fits. prints_then (Same (text ++ number_bytes count)) (AgentsSaid text) (judged count seen.claims) _ (text ++ number_bytes count)
    (prints_judged count seen.claims (text ++ number_bytes count)) (λ good now at.
    weaker (Paired (λ (t : AgentLists). t.agents) (λ (t : AgentLists). t.codes) agent_bytes (text ++ number_bytes count) (count + 0)) (AgentsSaid text) (times count (agent clocks variables) (record { names = seen.names; agents = []; codes = [] })) now
    (prints_paired (λ (t : AgentLists). t.agents) (λ (t : AgentLists). t.codes) agent_bytes (agent clocks variables) count 0 (record { names = seen.names; agents = []; codes = [] }) (text ++ number_bytes count) now
    (at ∙ sym (append-nil (text ++ number_bytes count)), refl, refl) (prints_agent clocks variables))
    (λ s after h. all count s after h))
  where
    all : (count : ℕ) (s : AgentLists) (now : List ℕ) → Paired (λ (t : AgentLists). t.agents) (λ (t : AgentLists). t.codes) agent_bytes (text ++ number_bytes count) (count + 0) s now → AgentsSaid text s now
    all count s now (is, many, as_many) =
        let same : count ≡ length s.codes = omega (arith, as_many) in
        is ∙ append_assoc text (number_bytes count) (paired_bytes agent_bytes s.agents s.codes) ∙ ap (λ n. text ++ (number_bytes n ++ paired_bytes agent_bytes s.agents s.codes)) same

-- ---- the whole

abbrev magic_bytes : List ℕ
magic_bytes = 80 ∷ 83 ∷ 89 ∷ 67 ∷ 1 ∷ []

abbrev Whole : Image → List ℕ → Type 0
Whole it now = now ≡ image_bytes it.unit it.code

eight : (m q c v s f a i : List ℕ) → ((((((m ++ q) ++ c) ++ v) ++ s) ++ f) ++ a) ++ i ≡ m ++ (q ++ (c ++ (v ++ (s ++ (f ++ (a ++ i))))))
eight m q c v s f a i = five (((m ++ q) ++ c)) v s f a i ∙ append_assoc (m ++ q) c (v ++ (s ++ (f ++ (a ++ i)))) ∙ append_assoc m q (c ++ (v ++ (s ++ (f ++ (a ++ i)))))

prints_image : Prints Whole image []
unfolding image image_bytes
prints_image = λ magic any quantum fits.
    let t1 = magic_bytes ++ number_bytes quantum in
    prints_then (λ s now. now ≡ t1 ++ clocks_bytes s.0 s.1) Whole clocks _ t1 (prints_clocks t1) (λ cs t2 e2.
    prints_then (λ s now. now ≡ t2 ++ list_bytes variable_bytes s.1) Whole (variables (length cs.1) (record { names = cs.0; claims = [] })) _ t2 (prints_variables (length cs.1) (record { names = cs.0; claims = [] }) t2) (λ vs t3 e3.
    prints_then (λ s now. now ≡ t3 ++ list_bytes stream_bytes s.1) Whole (streams (length cs.1) vs.0) _ t3 (prints_streams (length cs.1) vs.0 t3) (λ ss t4 e4.
    prints_then (λ s now. now ≡ t4 ++ list_bytes function_bytes s) Whole functions _ t4 (prints_functions t4) (λ fs t5 e5.
    prints_then (AgentsSaid t5) Whole (agents (length cs.1) vs.1 ss.0) _ t5 (prints_agents (length cs.1) vs.1 ss.0 t5) (λ crew t6 e6.
    prints_then (λ s now. now ≡ t6 ++ list_bytes instr_bytes s) Whole instrs _ t6 (prints_instrs t6) (λ code t7 e7 end none.
    append-nil t7 ∙ e7 ∙ ap (λ xs. xs ++ list_bytes instr_bytes code) (e6 ∙ ap (λ xs. xs ++ agents_bytes crew.agents crew.codes) (e5 ∙ ap (λ xs. xs ++ list_bytes function_bytes fs)
    (e4 ∙ ap (λ xs. xs ++ list_bytes stream_bytes ss.1) (e3 ∙ ap (λ xs. xs ++ list_bytes variable_bytes vs.1) e2))))
    ∙ eight magic_bytes (number_bytes quantum) (clocks_bytes cs.0 cs.1) (list_bytes variable_bytes vs.1) (list_bytes stream_bytes ss.1) (list_bytes function_bytes fs) (agents_bytes crew.agents crew.codes) (list_bytes instr_bytes code)))))))

-- What spells an image is its bytes.
pub spelled_bytes : (bytes : List ℕ) (it : Image) → spells_image it bytes → bytes ≡ image_bytes it.unit it.code
unfolding spells_image
spelled_bytes bytes it h =
    let (more, whole, is) = printed Whole image [] bytes it [] prints_image h in
    whole ∙ append-nil more ∙ is
