-- What is left of the proof of `faults::places::is_less`.
use Rattle.std.proofs.Common.{◌∙◌, ◌==◌, ◌&&◌, ◌||◌, Bool, nat_lt, ap}
use Rattle.psy_audit.proofs.faults.places.is_less.Goals as goal

pub returns : goal.returns
returns c =
    let a = c.args.some in
    let b = c.args.others in
    c.less_or.ensures
    ∙ ap (λ (r : Bool). nat_lt a.kind b.kind || a.kind == b.kind && r) c.less_or-first.ensures
    ∙ ap (λ (r : Bool). nat_lt a.kind b.kind || a.kind == b.kind && (nat_lt a.first b.first || a.first == b.first && r)) c.less_or-second.ensures
    ∙ ap (λ (r : Bool). nat_lt a.kind b.kind || a.kind == b.kind && (nat_lt a.first b.first || a.first == b.first && (nat_lt a.second b.second || a.second == b.second && r)))
    c.less_or-third.ensures
