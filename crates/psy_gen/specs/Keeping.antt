-- What the loops and the sends of statements keep.
use Rattle.std.specs.Prelude.{ℕ, List, map, ⊤}
use Rattle.psy_tree.specs.declared.unit.Stmt.{Stmt, rec-Stmt}
use Rattle.psy_tree.specs.declared.unit.Stmt.TheOpen.{Stmt-F}
use Rattle.psy_meaning.specs.Sound.{Each, EachOr}

-- What is asked of a bounded loop, by its bound and its body
abbrev pub OfLoops : Type 1
OfLoops = ℕ → List Stmt → Type 0

-- Whether a statement keeps that, once it is known which of its parts do; `sends` says whether it may be a send.
abbrev pub keeps_step : OfLoops → Type 0 → (X : Type 0) → (X → Stmt) → (X → Type 0) → Stmt-F X → Type 0
keeps_step loop sends X tree keeps (Stmt-F.If test branch other) = Each keeps branch × EachOr keeps other
keeps_step loop sends X tree keeps (Stmt-F.Bounded test most body) = loop most (map tree body) × Each keeps body
keeps_step loop sends X tree keeps (Stmt-F.Timed test body) = Each keeps body
keeps_step loop sends X tree keeps (Stmt-F.Send value stream after clock) = sends
keeps_step loop sends X tree keeps _ = ⊤

-- Each bounded loop in a statement is as asked, and where there may be no send there is none.
abbrev pub Keeps : OfLoops → Type 0 → Stmt → Type 0
Keeps loop sends = rec-Stmt (Type 0) (keeps_step loop sends)

-- No send stands in a statement.
abbrev pub IsSendless : Stmt → Type 0
IsSendless = Keeps (λ most body. ⊤) ⊥

-- No send stands in a bounded loop of a statement.
abbrev pub HasSendlessLoops : Stmt → Type 0
HasSendlessLoops = Keeps (λ most body. Each IsSendless body) ⊤
