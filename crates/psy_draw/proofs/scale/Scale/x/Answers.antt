-- What is left of the proof of `scale::Scale::x`.
use Rattle.std.proofs.Common.{ℕ, ◌≤◌, sym, subst}
use Rattle.psy_draw.specs.Places.{x_of}
use Rattle.psy_draw.proofs.Placing.{x_rises}
use Rattle.psy_draw.proofs.scale.Scale.x.Goals as goal

pub returns-clause-rises : goal.returns-clause-rises
returns-clause-rises c = λ later le.
    let P : ℕ → Type 0 = λ x. x ≤ x_of c.args.self.now.from c.args.self.now.to c.args.self.now.grain later in
    subst P (sym c.place.ensures.place) (x_rises c.args.self.now.from c.args.self.now.to c.args.self.now.grain c.args.date later c.args.self.now.grained le)
