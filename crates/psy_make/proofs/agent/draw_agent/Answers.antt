-- What is left of the proof of `agent::draw_agent`.
use Rattle.std.proofs.Common.{◌≡◌, ℕ, suc, ◌+◌, ◌*◌, ◌/◌, ◌%◌, ◌^◌, ◌∙◌, ap, refl, arith}
use Rattle.psy_make.specs.Generator.{next, drawn, draw}
use Rattle.psy_make.proofs.agent.draw_agent.Goals as goal

-- A draw goes on from the i-th number to the one behind it
drawn_next : (seed i j x y : ℕ) → i + 1 ≡ j → x ≡ drawn seed i → y ≡ next x → y ≡ drawn seed j
drawn_next seed i j x y behind at is = let last : j ≡ suc i = omega arith in rw last (is ∙ ap next at)

-- And gives what that one gives
draw_next : (seed i j x n y : ℕ) → i + 1 ≡ j → x ≡ drawn seed i → y ≡ next x / 2 ^ 16 % n → y ≡ draw seed j n
draw_next seed i j x n y behind at is = is ∙ ap (λ x. x / 2 ^ 16 % n) (drawn_next seed i j x (next x) behind at refl)

pub returns : goal.returns
returns c seed at count =
    let i = c.args.number in
    let first = drawn_next seed (3 * i + 1) (3 * i + 2) _ _ (omega arith) at c.draw-clock.ensures.number in
    let second = drawn_next seed (3 * i + 2) (3 * i + 3) _ _ (omega arith) first c.draw-looks_at.ensures.number in
    let clock = draw_next seed (3 * i + 1) (3 * i + 2) _ _ _ (omega arith) at c.draw-clock.ensures.drawn in
    let looks_at = draw_next seed (3 * i + 2) (3 * i + 3) _ _ _ (omega arith) first c.draw-looks_at.ensures.drawn in
    let factor = draw_next seed (3 * i + 3) (3 * i + 4) _ _ _ (omega arith) second c.draw-factor.ensures.drawn in
    (rw (clock, looks_at, factor, count) refl, drawn_next seed (3 * i + 3) _ _ _ (omega arith) second c.draw-factor.ensures.number)
