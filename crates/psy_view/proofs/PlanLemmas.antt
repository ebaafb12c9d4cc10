-- What is said of a program that is refused.
use Rattle.std.proofs.Common.{◌≡◌, ◌∙◌, sym, ap, subst, ℕ, List, Some, Result, Ok, Err, IfOk}
use Rattle.std.specs.Prelude.{codes}
use Rattle.psy_base.specs.declared.memory.Memory.{Memory}
use Rattle.psy_log.specs.Forms.{refused_line}
use Rattle.psy_script.specs.Faults.{line_number}
use Rattle.psy_script.specs.declared.fault.LineKind.{LineKind}
use Rattle.psy_view.specs.declared.view.View.{View}

-- What `where` tells of the line stands, with the status 1, for what is asked now
pub refused_as : (Told : List ℕ → Type 0) (Now : ℕ → List ℕ → Type 0) (came : Result View Memory) → IfOk came (λ v. v.status ≡ 1)
    → IfOk came (λ v. Told v.text.items) → ((text : List ℕ) → Told text → Now 1 text) → IfOk came (λ v. Now v.status v.text.items)
refused_as Told Now (Ok v) one told gives = subst (λ status. Now status v.text.items) (sym one) (gives v.text.items told)
refused_as Told Now (Err none) one told gives = one

-- What was said stands for what is asked now, whatever the status.
pub shown_as : (Was Now : ℕ → List ℕ → Type 0) (came : Result View Memory) → IfOk came (λ v. Was v.status v.text.items)
    → ((status : ℕ) (text : List ℕ) → Was status text → Now status text) → IfOk came (λ v. Now v.status v.text.items)
shown_as Was Now (Ok v) was gives = gives v.status v.text.items was
shown_as Was Now (Err none) was gives = was

-- The line of a fault of inputs, by equal numbers
pub line_by : (k kind : LineKind) (l line : ℕ) (text : List ℕ) → k ≡ kind → l ≡ line → text ≡ refused_line (codes "inputs") (line_number k) (Some l)
    → text ≡ refused_line (codes "inputs") (line_number kind) (Some line)
line_by k kind l line text kinds lines is =
    is ∙ ap (λ n. refused_line (codes "inputs") (line_number n) (Some l)) kinds ∙ ap (λ n. refused_line (codes "inputs") (line_number kind) (Some n)) lines
