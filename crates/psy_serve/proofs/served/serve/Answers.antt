-- What is left of the proof of `served::serve`.
use Rattle.std.proofs.Common.{Global, List, ℕ, inl, inr, map, refl, string_bytes, sym, ◌∙◌, take}
use Rattle.std.proofs.Math.Nat.{le_trans}
use Rattle.psy_run.proofs.lemmas.Growth.{rose_before, Grew-trans}
use Rattle.psy_serve.proofs.Growing.{behind_of, explained_behind, no_refusal}
use Rattle.psy_serve.specs.Behind.{IsTold}
use Rattle.psy_serve.proofs.served.serve.Goals as goal

pub returns-in-Ok-clause-answered : goal.returns-in-Ok-clause-answered
returns-in-Ok-clause-answered g c a b d =
    let refusal = sym c.is_refusal.ensures ∙ c.if-is_refusal.true in
    let said = c.answered-status.ensures.answered a b d in
    let behind = c.in-Ok.ensures.explained in (
      said.0,
      behind.0,
      said.1,
      explained_behind _ _ _ c.answered-status.result said.0 behind.0 behind.0 _ _ _ refusal
          c.answered-status.ensures.shelf.1 c.requires.fresh said.2 behind.1 behind.2,
      Grew-trans _ _ _ _ _ said.2 behind.1,
    )

pub returns-in-Ok-clause-complete : goal.returns-in-Ok-clause-complete
returns-in-Ok-clause-complete g c files status text told answers calm still =
    let behind = c.in-Ok.ensures.explained in
    elim (c.answered-status.ensures.complete files status text told answers (λ rose. calm (le_trans rose c.in-Ok.ensures.shelf.0))
    (λ rose. still (le_trans rose c.in-Ok.ensures.counted))) [
      | inl said ↦ inl (said.0, (behind.0, Grew-trans _ _ _ _ _ said.1 behind.1))
      | inr full ↦ inr full
    ]

pub returns-in-Err-clause-complete : goal.returns-in-Err-clause-complete
returns-in-Err-clause-complete g c files status text told answers calm still =
    absurd (still (rose_before _ _ _ c.answered-status.ensures.sink c.in-Err.ensures.failed))

pub returns-in-Err-clause-cut_short : goal.returns-in-Err-clause-cut_short
returns-in-Err-clause-cut_short g c four =
    let refusal = sym c.is_refusal.ensures ∙ c.if-is_refusal.true in
    let said = c.answered-status.ensures.answered (no_refusal _ 3 refusal refl) (no_refusal _ 4 refusal refl) (no_refusal _ 8 refusal refl) in
    let behind = c.in-Err.ensures.front in
    inr (inl (
      c.answered-status.result,
      said.0,
      behind.0,
      behind.1,
      refusal,
      said.1,
      explained_behind _ _ _ c.answered-status.result said.0 behind.0 (take behind.1 behind.0) _ _ _ refusal
          c.answered-status.ensures.shelf.1 c.requires.fresh said.2 behind.2 behind.3,
      Grew-trans _ _ _ _ _ said.2 behind.2,
    ))

pub returns-in-Err-tell_unread-clause-cut_short : goal.returns-in-Err-tell_unread-clause-cut_short
returns-in-Err-tell_unread-clause-cut_short g c four =
    let words = map (string_bytes {Z = Global}) c.args.words.now in
    let said = c.answered-status.ensures.read c.if-status-eq3.true in
    let behind = c.in-Err-tell_unread.ensures.front in
    inr (inr (
      said.0,
      behind.0,
      behind.1,
      said.1,
      behind_of (λ (line : List ℕ). IsTold words line behind.0) _ _ _ _ _ c.requires.fresh said.2 behind.2 behind.3,
      Grew-trans _ _ _ _ _ said.2 behind.2,
    ))
