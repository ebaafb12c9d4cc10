-- The sends on the ways from a point, one stream and one point after the other.
use Rattle.std.proofs.Common.{◌≡◌, ◌⊎◌, ℕ, ◌+◌, ◌<◌, ◌≤◌, Bool, true, false, List, [], ◌∷◌, ◌++◌, length, get_or, take, refl, sym, ap, subst, ◌∙◌, inl, inr, arith}
use Rattle.std.specs.Prelude.{nat_lt, ◌↔◌}
use Rattle.std.specs.List.{AllPairs, Contains}
use Rattle.std.proofs.lemmas.Bool.{cases_lt}
use Rattle.std.proofs.lemmas.List.{append-nil, take_more, length-take-le, get_or-take, get_or_default}
use Rattle.std.proofs.lemmas.List.Elements.{Contains-append_left, Contains-push, Contains-push_cases, Contains-get_or}
use Rattle.std.proofs.lemmas.List.Quantifiers.{all_pairs_push}
use Rattle.std.proofs.lemmas.Option.{slice_get-get_or}
use Rattle.psy_base.specs.declared.ways.SendWay.{SendWay}
use Rattle.psy_meaning.specs.Flow.{Rises}
use Rattle.psy_meaning.specs.ListedWays.{IsWayBefore}
use Rattle.psy_flow.specs.Listed.{some_way, IsUpTo, AreSendsUpTo, AreSendsAmong}

-- A way of sends by its parts
abbrev send_way : ℕ → ℕ → ℕ → SendWay
send_way to stream most = record { to = to; stream = stream; most = most }

-- Of two numbers in a rising list the one that stands before the other is less.
rising : (xs : List ℕ) → Rises xs → (i j : ℕ) → i < j → j < length xs → get_or xs i 0 < get_or xs j 0
rising xs rise i j less inside = rise i j (get_or xs i 0) (get_or xs j 0) less (slice_get-get_or xs i 0 (omega (arith, less, inside))) (slice_get-get_or xs j 0 inside)

-- Those before a place are the lesser ones.
before_less : (xs : List ℕ) → Rises xs → (i : ℕ) → i < length xs → (n : ℕ) → Contains (take i xs) n → n < get_or xs i 0
before_less xs rise i inside n (k, short, is) =
    let len = length-take-le i xs (omega (arith, inside)) in
    let low : k < i = omega (arith, short, len) in
    let here : get_or xs k 0 ≡ n = get_or_default xs k 0 n (omega (arith, low, inside)) ∙ sym (get_or-take i xs k n low) ∙ is in
    omega (arith, here, rising xs rise k i low inside)

less_before : (xs : List ℕ) → Rises xs → (i : ℕ) → i < length xs → (n : ℕ) → Contains xs n → n < get_or xs i 0 → Contains (take i xs) n
less_before xs rise i inside n (k, short, is) less =
    let len = length-take-le i xs (omega (arith, inside)) in
    let here : get_or xs k 0 ≡ n = get_or_default xs k 0 n short ∙ is in
    elim (cases_lt k i) [
      | inl low ↦ (k, omega (arith, low, len), get_or-take i xs k n low ∙ is)
      | inr high ↦ absurd (not_below k (cases_lt i k) here high short)
    ]
  where
    not_below : (k : ℕ) → (i < k) ⊎ (k ≤ i) → get_or xs k 0 ≡ n → i ≤ k → k < length xs → ⊥
    not_below k (inl above) here high short = omega (arith, rising xs rise i k above short, here, less)
    not_below k (inr not) here high short = let same : k ≡ i = omega (arith, not, high) in omega (arith, ap (λ j. get_or xs j 0) same, here, less)

module _ (Most : ℕ → ℕ → ℕ → Type 0) (one : (to stream n m : ℕ) → Most to stream n → Most to stream m → n ≡ m) where
  abbrev pub Is : SendWay → Type 0
  Is way = Most way.to way.stream way.most × (1 ≤ way.most)

  -- ---- one stream more

  -- Sends before a place stand before one at that place.
  up_before : (to stream most : ℕ) (way : SendWay) → IsUpTo to stream way → IsWayBefore way (record { to = to; stream = stream; most = most })
  up_before to stream most way up = up

  up_next : (to stream : ℕ) (way : SendWay) → IsUpTo to stream way → IsUpTo to (stream + 1) way
  up_next to stream way (inl less) = inl less
  up_next to stream way (inr (is, less)) = inr (is, omega (arith, less))

  -- Up to the next stream there are those up to this one, and one to it.
  up_or : (to stream : ℕ) (way : SendWay) → IsUpTo to (stream + 1) way → IsUpTo to stream way ⊎ ((way.to ≡ to) × (way.stream ≡ stream))
  up_or to stream way (inl less) = inl (inl less)
  up_or to stream way (inr (is, less)) = elim (cases_lt way.stream stream) [ inl under ↦ inl (inr (is, under)) | inr above ↦ inr (is, omega (arith, less, above)) ]

  same_way : (way other : SendWay) → way.to ≡ other.to → way.stream ≡ other.stream → way.most ≡ other.most → way ≡ other
  same_way way other a b c = ap (λ t. send_way t way.stream way.most) a ∙ ap (λ s. send_way other.to s way.most) b ∙ ap (λ m. send_way other.to other.stream m) c

  with_one : (to stream : ℕ) (sends : List SendWay) (new : SendWay) → new.to ≡ to → new.stream ≡ stream → AreSendsUpTo Most to stream sends → Is new → AreSendsUpTo Most to (stream + 1) (sends ++ new ∷ [])
  with_one to stream sends new a b kept is = record {
    rise = all_pairs_push IsWayBefore sends new kept.rise (λ k d inside. (
        let up = ((kept.each (get_or sends k d)).0 (Contains-get_or sends k d inside)).0 in
        elim up [ inl less ↦ inl (omega (arith, less, a)) | inr (e, less) ↦ inr (omega (arith, e, a), omega (arith, less, b)) ]));
    each = λ way. (
      (λ c. elim (Contains-push_cases sends new way c) [
        | inl before ↦ (let (up, sent) = (kept.each way).0 before in (up_next to stream way up, sent))
        | inr same ↦ (inr (ap (λ (w : SendWay). w.to) (sym same) ∙ a, omega (arith, ap (λ (w : SendWay). w.stream) same, b)), subst Is same is)
      ]),
      (λ (up, sent). elim (up_or to stream way up) [
        | inl before ↦ Contains-append_left sends (new ∷ []) way ((kept.each way).1 (before, sent))
        | inr (e, f) ↦ (
            let first : new.to ≡ way.to = a ∙ sym e in
            let second : new.stream ≡ way.stream = b ∙ sym f in
            let third : new.most ≡ way.most = one way.to way.stream new.most way.most (subst (λ s. Most way.to s new.most) second (subst (λ t. Most t new.stream new.most) first is.0)) sent.0 in
            subst (Contains (sends ++ new ∷ [])) (same_way new way first second third) (Contains-push sends new))
      ]),
    );
  }

  -- Where there are none to the stream
  pub without : (to stream : ℕ) (sends : List SendWay) → AreSendsUpTo Most to stream sends → ((n : ℕ) → Most to stream n → n ≡ 0) → AreSendsUpTo Most to (stream + 1) sends
  without to stream sends kept none = record {
    rise = kept.rise;
    each = λ way. (
      (λ c. let (up, sent) = (kept.each way).0 c in (up_next to stream way up, sent)),
      (λ (up, sent). elim (up_or to stream way up) [
        | inl before ↦ (kept.each way).1 (before, sent)
        | inr (e, f) ↦ (
            let same = none way.most (subst (λ s. Most to s way.most) f (subst (λ t. Most t way.stream way.most) e sent.0)) in
            absurd (omega (arith, same, sent.1)))
      ]),
    );
  }

  more_by : (to stream most : ℕ) (sends : List SendWay) (b : Bool) → nat_lt 0 most ≡ b → AreSendsUpTo Most to stream sends → Most to stream most → AreSendsUpTo Most to (stream + 1) (sends ++ some_way (record { to = to; stream = stream; most = most }))
  more_by to stream most sends true so kept is =
      let new : SendWay = record { to = to; stream = stream; most = most } in
      let some : 1 ≤ most = grind (arith, so) in
      rw so (with_one to stream sends new refl refl kept (is, some))
  more_by to stream most sends false so kept is =
      let none : most ≡ 0 = grind (arith, so) in
      rw so (subst (AreSendsUpTo Most to (stream + 1)) (sym (append-nil sends)) (without to stream sends kept (λ n has. one to stream n 0 has (subst (Most to stream) none is))))

  pub sends_more : (to stream most : ℕ) (sends : List SendWay) → AreSendsUpTo Most to stream sends → Most to stream most → AreSendsUpTo Most to (stream + 1) (sends ++ some_way (record { to = to; stream = stream; most = most }))
  sends_more to stream most sends kept is = more_by to stream most sends (nat_lt 0 most) refl kept is

  -- ---- one point more

  pub none_before : (to : ℕ) → ((way : SendWay) → Is way → to ≤ way.to) → AreSendsUpTo Most to 0 []
  none_before to late = record {
    rise = λ i j d less inside. absurd (omega (arith, inside));
    each = λ way. (
      (λ c. absurd (omega (arith, c.1))),
      (λ (up, sent). elim up [ inl less ↦ absurd (omega (arith, less, late way sent)) | inr (is, less) ↦ absurd (omega (arith, less)) ]),
    );
  }

  pub next_end : (to streams : ℕ) (sends : List SendWay) → ((way : SendWay) → Is way → way.stream < streams) → AreSendsUpTo Most to streams sends → AreSendsUpTo Most (to + 1) 0 sends
  next_end to streams sends known kept = record {
    rise = kept.rise;
    each = λ way. (
      (λ c. let (up, sent) = (kept.each way).0 c in (elim up [ inl less ↦ inl (omega (arith, less)) | inr (is, less) ↦ inl (omega (arith, is)) ], sent)),
      (λ (up, sent). (kept.each way).1 (
        elim up [
          | inl less ↦ elim (cases_lt way.to to) [ inl under ↦ inl under | inr above ↦ inr (omega (arith, less, above), known way sent) ]
          | inr (is, less) ↦ absurd (omega (arith, less))
        ],
        sent,
      )),
    );
  }

  pub all_ends : (to : ℕ) (sends : List SendWay) → ((way : SendWay) → Is way → way.to < to) → AreSendsUpTo Most to 0 sends → AllPairs IsWayBefore sends × ((way : SendWay) → Contains sends way ↔ Is way)
  all_ends to sends known kept = (kept.rise, (λ way. ((λ c. ((kept.each way).0 c).1), (λ sent. (kept.each way).1 (inl (known way sent), sent)))))

  -- ---- one next point more

  module _ (nexts : List ℕ) (streams : ℕ) (rise : Rises nexts) (there : (way : SendWay) → Is way → (way.stream < streams) × Contains nexts way.to) where
    pub among_up : (i : ℕ) (sends : List SendWay) → i < length nexts → AreSendsAmong Most (take i nexts) sends → AreSendsUpTo Most (get_or nexts i 0) 0 sends
    among_up i sends inside kept = record {
      rise = kept.rise;
      each = λ way. (
        (λ c. let (among, sent) = (kept.each way).0 c in (inl (before_less nexts rise i inside way.to among), sent)),
        (λ (up, sent). elim up [
          | inl less ↦ (kept.each way).1 (less_before nexts rise i inside way.to (there way sent).1 less, sent)
          | inr (is, less) ↦ absurd (omega (arith, less))
        ]),
      );
    }

    pub up_among : (i : ℕ) (sends : List SendWay) → i < length nexts → AreSendsUpTo Most (get_or nexts i 0) streams sends → AreSendsAmong Most (take (i + 1) nexts) sends
    up_among i sends inside kept =
        let to = get_or nexts i 0 in
        let more : take (i + 1) nexts ≡ take i nexts ++ to ∷ [] = take_more nexts i 0 inside in
        subst (λ ns. AreSendsAmong Most ns sends) (sym more) (record {
          rise = kept.rise;
          each = λ way. (
            (λ c. let (up, sent) = (kept.each way).0 c in
                elim up [
                  | inl less ↦ (Contains-append_left (take i nexts) (to ∷ []) way.to (less_before nexts rise i inside way.to (there way sent).1 less), sent)
                  | inr (is, less) ↦ (subst (Contains (take i nexts ++ to ∷ [])) (sym is) (Contains-push (take i nexts) to), sent)
                ]),
            (λ (among, sent). elim (Contains-push_cases (take i nexts) to way.to among) [
              | inl before ↦ (kept.each way).1 (inl (before_less nexts rise i inside way.to before), sent)
              | inr is ↦ (kept.each way).1 (inr (sym is, (there way sent).0), sent)
            ]),
          );
        })

    pub among_all : (sends : List SendWay) → AreSendsAmong Most nexts sends → AllPairs IsWayBefore sends × ((way : SendWay) → Contains sends way ↔ Is way)
    among_all sends kept = (kept.rise, (λ way. ((λ c. ((kept.each way).0 c).1), (λ sent. (kept.each way).1 ((there way sent).1, sent)))))
