-- Sends and looks of an agent's ways, where its functions neither send nor look.
use Rattle.std.proofs.Common.{◌≡◌, ℕ, suc, ◌<◌, min, Bool, true, false, cond, List, [], ◌∷◌, Option, Some, None, refl, sym, ap, subst, inl, inr, arith}
use Rattle.std.specs.Prelude.{◌==◌, ◌↔◌, ◌⊎◌, nat_lt, unwrap_or}
use Rattle.std.specs.List.{count_by, Contains}
use Rattle.std.proofs.lemmas.Bool.{false≢true}
use Rattle.std.proofs.lemmas.List.Sums.{sum_by-cons}
use Rattle.psy_lists.proofs.lemmas.Searches.{some_pass}
use Rattle.psy_code.specs.Views.{Looked}
use Rattle.psy_tree.specs.declared.unit.AgentDecl.{AgentDecl}
use Rattle.psy_tree.specs.declared.unit.FunctionDecl.{FunctionDecl}
use Rattle.psy_tree.specs.declared.unit.Unit.{Unit as Whole}
use Rattle.psy_meaning.specs.Paths.{NoneAdvances}
use Rattle.psy_meaning.specs.Rest.{rest}
use Rattle.psy_meaning.specs.Ways.{Sending, Meter, IsWay, callee_ways}
use Rattle.psy_flow.specs.declared.gauge.Gauge.{Gauge}
use Rattle.psy_flow.specs.declared.gauge.Gauge.TheVariants as gauge
use Rattle.psy_flow.specs.declared.tops.Tops.{Tops}
use Rattle.psy_flow.specs.Agents.{IsKnown}
use Rattle.psy_meaning.specs.Flow.{IsMostSends, MayLook}
use Rattle.psy_flow.specs.Tops.{count_of, called, capped_count, capped_tops, pieces_tops}
use Rattle.psy_flow.proofs.Greatest.{IsRow, IsTopTo, top_to, row_of}
use Rattle.psy_flow.proofs.Still.{Left, Still, still_calls}
use Rattle.psy_flow.proofs.TextLooks.{Zero}

-- What is counted doesn't change where looks and sends don't.
abbrev Counts : Gauge → Type 0
Counts g = (m n : Meter) → Left m n → count_of g n ≡ count_of g m

silent_row : (g : Gauge) (functions : List FunctionDecl) → NoneAdvances functions → ((f : ℕ) → Still (callee_ways functions f)) → Counts g → IsRow g functions (called [])
silent_row g functions none still same = record {
  one = λ f before. let (now, way, steps) = (row_of gauge.Steps functions none).one f before in (now, way, omega (arith, same before now (still f before now way)));
  most = λ f before now way. omega (arith, same before now (still f before now way));
}

sends_same : (stream : ℕ) → Counts (gauge.Sends stream)
sends_same stream m n h = ap (count_by (λ (s : Sending). s.stream == stream)) h.1

looks_same : (variable : ℕ) → Counts (gauge.Looks variable)
looks_same variable m n h = ap (count_by (λ (l : Looked). l.variable == variable)) h.0

-- ---- what is counted is there

abbrev pub Counted : {X : Type 0} → (X → Bool) → List X → Type 0
Counted {X} p xs = (x : X) × Contains xs x × (p x ≡ true)

counted_at : {X : Type 0} (p : X → Bool) (x : X) (xs : List X) (b : Bool) → p x ≡ b → 0 < count_by p (x ∷ xs) → (0 < count_by p xs → Counted p xs) → Counted p (x ∷ xs)
counted_at p x xs true e h further = (x, (0, omega arith, refl), e)
counted_at p x xs false e h further =
    let (y, c, holds) = further (omega (arith, h, sum_by-cons (λ y. cond (p y) 1 0) x xs, ap {B = ℕ} (λ b. cond b 1 0) e)) in
    (y, (suc c.0, omega (arith, c.1), c.2), holds)

pub counted : {X : Type 0} (p : X → Bool) (xs : List X) → 0 < count_by p xs → Counted p xs
counted p [] h = absurd (omega (arith, h))
counted p (x ∷ xs) h = counted_at p x xs (p x) refl h (counted p xs)

module _ (unit : Whole) (number : ℕ) (agent : AgentDecl) (its : IsKnown unit number agent) (point : ℕ) where
  abbrev calls : (g : Gauge) → Counts g → IsRow g unit.functions (called [])
  calls g same = silent_row g unit.functions its.none (still_calls unit.functions its.sound.functions) same

  -- ---- sends

  most_cut : (to stream : ℕ) (o : Option ℕ) → IsTopTo (gauge.Sends stream) (Some to) unit.functions (rest agent.stmts point) o → IsMostSends unit.functions agent point to stream (unwrap_or (capped_count (gauge.Sends stream) o) 0)
  most_cut to stream None top = let e : (to == to) ≡ true = grind arith in inl ((λ next. top to next.0 e next.1), refl)
  most_cut to stream (Some n) ((p, met, asked, way, same), most) =
      let e : p ≡ to = grind (arith, asked) in
      let asks : (to == to) ≡ true = grind arith in
      inr (
        n,
        record {
          one = (met, subst (λ q. IsWay unit.functions (rest agent.stmts point) q met) e way, same);
          most = λ m has. omega (arith, most to has.0 asks has.1, has.2);
        },
        refl,
      )

  pub most_of_tops : (to stream : ℕ) (t : Tops) → t ≡ capped_tops (gauge.Sends stream) (pieces_tops (gauge.Sends stream) (Some to) (called []) (rest agent.stmts point)) → IsMostSends unit.functions agent point to stream (unwrap_or t.to 0)
  most_of_tops to stream t h =
      let g = gauge.Sends stream in
      subst (λ o. IsMostSends unit.functions agent point to stream (unwrap_or o 0)) (sym (ap (λ (u : Tops). u.to) h))
      (most_cut to stream (pieces_tops g (Some to) (called []) (rest agent.stmts point)).to
      (top_to g (Some to) unit.functions (called []) (rest agent.stmts point) its.none (calls g (sends_same stream))))

  pub some_most : (to stream : ℕ) → (n : ℕ) × IsMostSends unit.functions agent point to stream n
  some_most to stream =
      let g = gauge.Sends stream in
      let t : Tops = capped_tops g (pieces_tops g (Some to) (called []) (rest agent.stmts point)) in
      (unwrap_or t.to 0, most_of_tops to stream t refl)

  -- ---- looks

  looks_by : (variable : ℕ) (o : Option ℕ) → IsTopTo (gauge.Looks variable) None unit.functions (rest agent.stmts point) o → (nat_lt 0 (unwrap_or (capped_count (gauge.Looks variable) o) 0) ≡ true) ↔ MayLook unit.functions agent point variable
  looks_by variable None top = ((λ h. absurd (false≢true h)), (λ may. absurd (top may.0 may.1 refl may.2)))
  looks_by variable (Some n) ((to, met, asked, way, same), most) = (
    (λ h. let (look, c, is) = counted (λ (l : Looked). l.variable == variable) met.looks (let more : 0 < n = grind (arith, h) in omega (arith, more, same)) in (to, met, way, look, c, grind (arith, is))),
    (λ may. let (to', met', way', look, c, is) = may in
        let asks : (look.variable == variable) ≡ true = grind (arith, is) in
        let more = some_pass (λ (l : Looked). l.variable == variable) met'.looks look c.0 c.1 c.2 asks in
        let some : 0 < min n 1 = omega (arith, more, most to' met' refl way') in
        grind (arith, some)),
  )

  pub looks_of_tops : (variable : ℕ) (t : Tops) → t ≡ capped_tops (gauge.Looks variable) (pieces_tops (gauge.Looks variable) None (called []) (rest agent.stmts point)) → (nat_lt 0 (unwrap_or t.to 0) ≡ true) ↔ MayLook unit.functions agent point variable
  looks_of_tops variable t h =
      let g = gauge.Looks variable in
      subst (λ o. (nat_lt 0 (unwrap_or o 0) ≡ true) ↔ MayLook unit.functions agent point variable) (sym (ap (λ (u : Tops). u.to) h))
      (looks_by variable (pieces_tops g None (called []) (rest agent.stmts point)).to
      (top_to g None unit.functions (called []) (rest agent.stmts point) its.none (calls g (looks_same variable))))

  -- Where nothing is counted none looks.
  pub none_looked : (variable : ℕ) → Zero (pieces_tops (gauge.Looks variable) None (called []) (rest agent.stmts point)).to → MayLook unit.functions agent point variable → ⊥
  none_looked variable none may =
      let g = gauge.Looks variable in
      let pieces = pieces_tops g None (called []) (rest agent.stmts point) in
      never pieces.to none ((looks_of_tops variable (capped_tops g pieces) refl).1 may)
    where
      never : (o : Option ℕ) → Zero o → nat_lt 0 (unwrap_or (capped_count (gauge.Looks variable) o) 0) ≡ true → ⊥
      never None h e = false≢true e
      never (Some n) h e = let more : 0 < min n 1 = grind (arith, e) in omega (arith, h, more)

  -- Whether it may look
  pub told : (variable : ℕ) → MayLook unit.functions agent point variable ⊎ (MayLook unit.functions agent point variable → ⊥)
  told variable =
      let g = gauge.Looks variable in
      let t : Tops = capped_tops g (pieces_tops g None (called []) (rest agent.stmts point)) in
      by (nat_lt 0 (unwrap_or t.to 0)) (looks_of_tops variable t refl)
    where
      by : (b : Bool) → ((b ≡ true) ↔ MayLook unit.functions agent point variable) → MayLook unit.functions agent point variable ⊎ (MayLook unit.functions agent point variable → ⊥)
      by true h = inl (h.0 refl)
      by false h = inr (λ may. false≢true (h.1 may))
