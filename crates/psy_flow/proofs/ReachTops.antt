-- Whether statements fall through and what they reach, part by part.
use Rattle.std.proofs.Common.{◌≡◌, ℕ, zero, suc, ◌+◌, Bool, true, false, ◌||◌, ◌&&◌, ◌==◌, if◌then◌else◌, List, [], ◌∷◌, ◌++◌, map, Option, Some, None, is_some, refl, sym, ap, subst, ◌∙◌}
use Rattle.std.proofs.Math.Bool.{or-false, or-true, or_comm, and-true, and_assoc}
use Rattle.psy_tree.specs.declared.unit.Stmt.{Stmt, roll-Stmt, fold-roll-Stmt, map-Stmt, ind-Stmt}
use Rattle.psy_tree.specs.declared.unit.Stmt.TheOpen.{Stmt-F}
use Rattle.psy_flow.specs.declared.gauge.Gauge.TheVariants as gauge
use Rattle.psy_flow.specs.declared.tops.Tops.{Tops}
use Rattle.psy_flow.specs.Tops.{nowhere, falling, reaching, plus, greater, behind, or_else, on_from, and_on, tops_through, turning, called, stmt_tops_step, stmt_tops}
use Rattle.psy_flow.specs.Reach.{falls}

-- ---- which counts are there

pub some_plus : (n : ℕ) (x : Option ℕ) → is_some (plus n x) ≡ is_some x
some_plus n None = refl
some_plus n (Some m) = refl

pub some_greater : (x y : Option ℕ) → is_some (greater x y) ≡ (is_some x || is_some y)
some_greater None y = refl
some_greater (Some m) None = refl
some_greater (Some m) (Some n) = refl

some_fell : (x : Option ℕ) (b : Tops) → is_some (greater (on_from x b).fell None) ≡ (is_some x && is_some b.fell)
some_fell None b = refl
some_fell (Some n) b = some_greater (plus n b.fell) None ∙ or-false (is_some (plus n b.fell)) ∙ some_plus n b.fell

some_to : (x y : Option ℕ) (b : Tops) → is_some (greater (on_from x b).to y) ≡ (is_some y || (is_some x && is_some b.to))
some_to None y b = sym (or-false (is_some y))
some_to (Some n) y b = some_greater (plus n b.to) y ∙ ap (λ z. z || is_some y) (some_plus n b.to) ∙ or_comm (is_some b.to) (is_some y)

pub fell_and_on : (a b : Tops) → is_some (and_on a b).fell ≡ (is_some a.fell && is_some b.fell)
fell_and_on a b = some_fell a.fell b

pub to_and_on : (a b : Tops) → is_some (and_on a b).to ≡ (is_some a.to || (is_some a.fell && is_some b.to))
to_and_on a b = some_to a.fell a.to b

-- ---- lists of tops

or-and : (r f s g t : Bool) → (r || (f && (s || (g && t)))) ≡ ((r || (f && s)) || ((f && g) && t))
or-and true f s g t = refl
or-and false true s g t = refl
or-and false false s g t = refl

pub fell-append : (xs ys : List Tops) → is_some (tops_through (xs ++ ys)).fell ≡ (is_some (tops_through xs).fell && is_some (tops_through ys).fell)
fell-append [] ys = refl
fell-append (x ∷ xs) ys =
    fell_and_on x (tops_through (xs ++ ys)) ∙ ap (λ b. is_some x.fell && b) (fell-append xs ys)
    ∙ sym (and_assoc (is_some x.fell) (is_some (tops_through xs).fell) (is_some (tops_through ys).fell))
    ∙ sym (ap (λ b. b && is_some (tops_through ys).fell) (fell_and_on x (tops_through xs)))

pub to-append : (xs ys : List Tops) → is_some (tops_through (xs ++ ys)).to ≡ (is_some (tops_through xs).to || (is_some (tops_through xs).fell && is_some (tops_through ys).to))
to-append [] ys = refl
to-append (x ∷ xs) ys =
    let f : Bool = is_some x.fell in
    let g : Bool = is_some (tops_through xs).fell in
    let s : Bool = is_some (tops_through xs).to in
    let t : Bool = is_some (tops_through ys).to in
    to_and_on x (tops_through (xs ++ ys)) ∙ ap (λ b. is_some x.to || (f && b)) (to-append xs ys)
    ∙ or-and (is_some x.to) f s g t
    ∙ sym (ap (λ b. b || (is_some (and_on x (tops_through xs)).fell && t)) (to_and_on x (tops_through xs)) ∙ ap (λ b. (is_some x.to || (f && s)) || (b && t)) (fell_and_on x (tops_through xs)))

-- ---- a point that is asked for changes nothing of what falls through

abbrev tops_to : ℕ → Stmt → Tops
tops_to q = stmt_tops gauge.Steps (Some q) (called [])

abbrev tops_any : Stmt → Tops
tops_any = stmt_tops gauge.Steps None (called [])

abbrev Same : Stmt → Type 0
Same s = (q : ℕ) → is_some (tops_to q s).fell ≡ is_some (tops_any s).fell

abbrev Known : Type 0
Known = (s : Stmt) × Same s

abbrev tree : Known → Stmt
tree k = k.0

through_same : (q : ℕ) (ks : List Known) → is_some (tops_through (map (tops_to q) (map tree ks))).fell ≡ is_some (tops_through (map tops_any (map tree ks))).fell
through_same q [] = refl
through_same q (k ∷ ks) =
    let e : is_some (tops_to q k.0).fell ≡ is_some (tops_any k.0).fell = k.1 q in
    fell_and_on (tops_to q k.0) (tops_through (map (tops_to q) (map tree ks)))
    ∙ ap (λ b. b && is_some (tops_through (map (tops_to q) (map tree ks))).fell) e
    ∙ ap (λ b. is_some (tops_any k.0).fell && b) (through_same q ks)
    ∙ sym (fell_and_on (tops_any k.0) (tops_through (map tops_any (map tree ks))))

pub turning_falls : (most test : ℕ) (body : Tops) → is_some (turning gauge.Steps most test body).fell ≡ true
turning_falls zero test body = refl
turning_falls (suc more) test body = some_greater (Some (test + 2)) _

if_falls : (n : ℕ) (branch : Tops) → is_some (plus n (greater branch.fell (Some 0))) ≡ true
if_falls n branch = some_plus n (greater branch.fell (Some 0)) ∙ some_greater branch.fell (Some 0) ∙ or-true (is_some branch.fell)

both_fall : (n m : ℕ) (branch other : Tops) → is_some (behind n (or_else (and_on branch (falling m)) other)).fell ≡ (is_some branch.fell || is_some other.fell)
both_fall n m branch other =
    some_plus n (greater (and_on branch (falling m)).fell other.fell) ∙ some_greater (and_on branch (falling m)).fell other.fell
    ∙ ap (λ b. b || is_some other.fell) (fell_and_on branch (falling m) ∙ and-true (is_some branch.fell))

advance_falls : (b : Bool) → is_some (if b then reaching 1 else nowhere).fell ≡ false
advance_falls true = refl
advance_falls false = refl

step_same : (q : ℕ) (y : Stmt-F Known) → is_some (stmt_tops_step gauge.Steps (Some q) (called []) (map-Stmt Stmt Tops (tops_to q) (map-Stmt Known Stmt tree y))).fell ≡ is_some (stmt_tops_step gauge.Steps None (called []) (map-Stmt Stmt Tops tops_any (map-Stmt Known Stmt tree y))).fell
step_same q (Stmt-F.If test branch None) = if_falls _ (tops_through (map (tops_to q) (map tree branch))) ∙ sym (if_falls _ (tops_through (map tops_any (map tree branch))))
step_same q (Stmt-F.If test branch (Some other)) =
    both_fall _ 1 (tops_through (map (tops_to q) (map tree branch))) (tops_through (map (tops_to q) (map tree other)))
    ∙ ap (λ b. b || is_some (tops_through (map (tops_to q) (map tree other))).fell) (through_same q branch)
    ∙ ap (λ b. is_some (tops_through (map tops_any (map tree branch))).fell || b) (through_same q other)
    ∙ sym (both_fall _ 1 (tops_through (map tops_any (map tree branch))) (tops_through (map tops_any (map tree other))))
step_same q (Stmt-F.Bounded test most body) =
    some_plus 1 _ ∙ turning_falls most _ (tops_through (map (tops_to q) (map tree body)))
    ∙ sym (some_plus 1 _ ∙ turning_falls most _ (tops_through (map tops_any (map tree body))))
step_same q (Stmt-F.Timed test body) = if_falls _ (tops_through (map (tops_to q) (map tree body))) ∙ sym (if_falls _ (tops_through (map tops_any (map tree body))))
step_same q (Stmt-F.Set slot value) = refl
step_same q (Stmt-F.SetCopy variable value) = refl
step_same q (Stmt-F.SetCell slot index value) = refl
step_same q (Stmt-F.Send value stream after clock) = refl
step_same q (Stmt-F.Advance point) = advance_falls (point == q)
step_same q (Stmt-F.Return value) = refl

layer_same : (y : Stmt-F Known) → Same (roll-Stmt (map-Stmt Known Stmt tree y))
layer_same y q =
    let x : Stmt-F Stmt = map-Stmt Known Stmt tree y in
    ap (λ (t : Tops). is_some t.fell) (fold-roll-Stmt Tops (stmt_tops_step gauge.Steps (Some q) (called [])) x) ∙ step_same q y
    ∙ sym (ap (λ (t : Tops). is_some t.fell) (fold-roll-Stmt Tops (stmt_tops_step gauge.Steps None (called [])) x))

pub fell_same : (s : Stmt) (q : ℕ) → is_some (stmt_tops gauge.Steps (Some q) (called []) s).fell ≡ falls s
fell_same = ind-Stmt Same (λ x y is. subst (λ z. Same (roll-Stmt z)) is (layer_same y))
