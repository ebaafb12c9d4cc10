-- Frames that lie one behind the other.
use Rattle.std.proofs.Common.{◌≡◌, ℕ, ◌+◌, ◌-◌, ◌<◌, ◌≤◌, List, [], ◌∷◌, ◌++◌, length, take, drop, set, get_or, reverse, replicate, vec_capacity, Some, refl, sym, ap, ◌∙◌, arith}
use Rattle.std.specs.Prelude.{ℤ, slice_get, slice_set}
use Rattle.std.specs.Vec.{with_item}
use Rattle.std.proofs.lemmas.List.{length-drop, length-reverse, length-take-le, take_at, drop_at, get_or-drop, get_or-take, take_all, take-take, take-set-le, drop-set-add}
use Rattle.std.proofs.lemmas.Option.{slice_get-get_or}
use Rattle.psy_base.specs.declared.limits.TheConstants.{OPEN_CALLS}
use Rattle.psy_code.specs.Execution.{Frame, OpenCall, innermost_frame, home_with, calls_with, cells_in_calls, cleared}
use Rattle.psy_machine.specs.declared.frames.Place.{Place}
use Rattle.psy_machine.specs.declared.frames.Header.{Header}
use Rattle.psy_machine.specs.declared.frames.Frames.TheInside.{Inside}
use Rattle.psy_machine.specs.Layout.{home_in, calls_in, IsCut, frames_in, IsLaidOut}
use Rattle.psy_machine.specs.Parts.{FrameStack}
use Rattle.psy_machine.proofs.Reversed.{reverse-push}

-- The present frame is what lies behind its beginning
pub present-cut : (hs : List Header) (at : Place) (cells : List ℤ) (counters : List ℕ) (end : Place) → IsCut hs at (length cells) (length counters) end → innermost_frame (home_in hs at cells counters) (calls_in hs at cells counters) ≡ record { cells = drop at.cells cells; counters = drop at.counters counters }
present-cut [] at cells counters end h = rw (h.0, h.1)
present-cut (g ∷ hs) at cells counters end h = refl

-- It begins within all
pub begins_within : (hs : List Header) (at : Place) (n k : ℕ) (end : Place) → IsCut hs at n k end → (at.cells ≤ n) × (at.counters ≤ k)
begins_within [] at n k end h = (omega (arith, h.0), omega (arith, h.1))
begins_within (g ∷ hs) at n k end h = (h.0, h.1)

-- Another cell of the present frame
pub home-set_cell : (hs : List Header) (at : Place) (cells : List ℤ) (counters : List ℕ) (end : Place) (i : ℕ) (v : ℤ) → IsCut hs at (length cells) (length counters) end → home_in hs at (set cells (at.cells + i) v) counters ≡ home_with (home_in hs at cells counters) (calls_in hs at cells counters) (record { cells = set (drop at.cells cells) i v; counters = drop at.counters counters })
home-set_cell [] at cells counters end i v h = rw (h.0, h.1) (grind arith)
home-set_cell (g ∷ hs) at cells counters end i v h = ap (λ below. home_in hs g.caller below (take at.counters counters)) (take-set-le at.cells cells (at.cells + i) v (omega arith))

pub calls-set_cell : (hs : List Header) (at : Place) (cells : List ℤ) (counters : List ℕ) (i : ℕ) (v : ℤ) → calls_in hs at (set cells (at.cells + i) v) counters ≡ calls_with (calls_in hs at cells counters) (record { cells = set (drop at.cells cells) i v; counters = drop at.counters counters })
calls-set_cell [] at cells counters i v = refl
calls-set_cell (g ∷ hs) at cells counters i v = rw (take-set-le at.cells cells (at.cells + i) v (omega arith), drop-set-add at.cells cells i v)

pub home-set_counter : (hs : List Header) (at : Place) (cells : List ℤ) (counters : List ℕ) (end : Place) (i n : ℕ) → IsCut hs at (length cells) (length counters) end → home_in hs at cells (set counters (at.counters + i) n) ≡ home_with (home_in hs at cells counters) (calls_in hs at cells counters) (record { cells = drop at.cells cells; counters = set (drop at.counters counters) i n })
home-set_counter [] at cells counters end i n h = rw (h.0, h.1) (grind arith)
home-set_counter (g ∷ hs) at cells counters end i n h = ap (λ below. home_in hs g.caller (take at.cells cells) below) (take-set-le at.counters counters (at.counters + i) n (omega arith))

pub calls-set_counter : (hs : List Header) (at : Place) (cells : List ℤ) (counters : List ℕ) (i n : ℕ) → calls_in hs at cells (set counters (at.counters + i) n) ≡ calls_with (calls_in hs at cells counters) (record { cells = drop at.cells cells; counters = set (drop at.counters counters) i n })
calls-set_counter [] at cells counters i n = refl
calls-set_counter (g ∷ hs) at cells counters i n = rw (take-set-le at.counters counters (at.counters + i) n (omega arith), drop-set-add at.counters counters i n)

-- Below a new frame lies what was there.
pub home_below : (hs : List Header) (at : Place) (cells more : List ℤ) (counters others : List ℕ) → home_in hs at (take (length cells) (cells ++ more)) (take (length counters) (counters ++ others)) ≡ home_in hs at cells counters
home_below hs at cells more counters others = rw (take_at cells more (length cells) refl, take_at counters others (length counters) refl)

pub calls_below : (hs : List Header) (at : Place) (cells more : List ℤ) (counters others : List ℕ) → calls_in hs at (take (length cells) (cells ++ more)) (take (length counters) (counters ++ others)) ≡ calls_in hs at cells counters
calls_below hs at cells more counters others = rw (take_at cells more (length cells) refl, take_at counters others (length counters) refl)

-- The agent's own frame is the front of all
pub end_within : (hs : List Header) (at : Place) (n k : ℕ) (end : Place) → IsCut hs at n k end → (end.cells ≤ n) × (end.counters ≤ k)
end_within [] at n k end h = (omega (arith, h.2), omega (arith, h.3))
end_within (g ∷ hs) at n k end h = let below = end_within hs g.caller at.cells at.counters end h.2 in (omega (arith, h.0, below.0), omega (arith, h.1, below.1))

pub home-cells : (hs : List Header) (at : Place) (cells : List ℤ) (counters : List ℕ) (end : Place) → IsCut hs at (length cells) (length counters) end → (home_in hs at cells counters).cells ≡ take end.cells cells
home-cells [] at cells counters end h = sym (take_all end.cells cells (omega (arith, h.2)))
home-cells (g ∷ hs) at cells counters end h =
    let nc = length-take-le at.cells cells h.0 in
    let nk = length-take-le at.counters counters h.1 in
    let cut : IsCut hs g.caller (length (take at.cells cells)) (length (take at.counters counters)) end = rw (nc, nk) h.2 in
    let below : end.cells ≤ at.cells = (end_within hs g.caller at.cells at.counters end h.2).0 in
    home-cells hs g.caller (take at.cells cells) (take at.counters counters) end cut ∙ take-take end.cells at.cells cells below

pub home-counters : (hs : List Header) (at : Place) (cells : List ℤ) (counters : List ℕ) (end : Place) → IsCut hs at (length cells) (length counters) end → length (home_in hs at cells counters).counters ≡ end.counters
home-counters [] at cells counters end h = h.3
home-counters (g ∷ hs) at cells counters end h =
    let nc = length-take-le at.cells cells h.0 in
    let nk = length-take-le at.counters counters h.1 in
    let cut : IsCut hs g.caller (length (take at.cells cells)) (length (take at.counters counters)) end = rw (nc, nk) h.2 in
    home-counters hs g.caller (take at.cells cells) (take at.counters counters) end cut

-- All cells are the agent's own and those of the calls, and so are all counters.
pub all_counted : (hs : List Header) (at : Place) (cells : List ℤ) (counters : List ℕ) (end : Place) → IsCut hs at (length cells) (length counters) end → (length cells + length counters ≡ end.cells + end.counters + cells_in_calls (calls_in hs at cells counters))
all_counted [] at cells counters end h = omega (arith, h.2, h.3)
all_counted (g ∷ hs) at cells counters end h =
    let nc = length-take-le at.cells cells h.0 in
    let nk = length-take-le at.counters counters h.1 in
    let cut : IsCut hs g.caller (length (take at.cells cells)) (length (take at.counters counters)) end = rw (nc, nk) h.2 in
    let below = all_counted hs g.caller (take at.cells cells) (take at.counters counters) end cut in
    omega (arith, below, nc, nk, h.0, h.1, length-drop at.cells cells, length-drop at.counters counters)

pub length-calls_in : (hs : List Header) (at : Place) (cells : List ℤ) (counters : List ℕ) → length (calls_in hs at cells counters) ≡ length hs
length-calls_in [] at cells counters = refl
length-calls_in (g ∷ hs) at cells counters = let n = length-calls_in hs g.caller (take at.cells cells) (take at.counters counters) in omega (arith, n)

-- What contracts see of the present frame is what lies behind its beginning.
pub present : (f : Inside) (m : FrameStack) → frames_in f ≡ m → IsLaidOut f → innermost_frame m.home m.calls ≡ record { cells = drop f.present.cells f.cells.items; counters = drop f.present.counters f.counters.items }
present f m e ok = ap (λ (s : FrameStack). innermost_frame s.home s.calls) (sym e) ∙ present-cut (reverse f.headers.items) f.present f.cells.items f.counters.items f.home_end ok.cut

pub cell_within : (f : Inside) (m : FrameStack) (n : ℕ) → frames_in f ≡ m → IsLaidOut f → n < length (innermost_frame m.home m.calls).cells → f.present.cells + n < length f.cells.items
cell_within f m n e ok h =
    let same = ap (λ (s : Frame). length s.cells) (present f m e ok) in
    omega (arith, same, h, length-drop f.present.cells f.cells.items)

pub counter_within : (f : Inside) (m : FrameStack) (n : ℕ) → frames_in f ≡ m → IsLaidOut f → n < length (innermost_frame m.home m.calls).counters → f.present.counters + n < length f.counters.items
counter_within f m n e ok h =
    let same = ap (λ (s : Frame). length s.counters) (present f m e ok) in
    omega (arith, same, h, length-drop f.present.counters f.counters.items)

-- What is read there
pub slice_get-drop : {A : Type 0} → (xs : List A) (at n : ℕ) (x : A) → at + n < length xs → x ≡ get_or xs (at + n) x → slice_get (drop at xs) n ≡ Some x
slice_get-drop xs at n x h e =
    let within : n < length (drop at xs) = omega (arith, length-drop at xs) in
    slice_get-get_or (drop at xs) n x within ∙ ap Some (get_or-drop at xs n x ∙ sym e)

-- The agent's own cells are the front of all cells.
pub home_is : (f : Inside) (m : FrameStack) → frames_in f ≡ m → IsLaidOut f → (f.home_end.cells ≤ length f.cells.items) × (m.home.cells ≡ take f.home_end.cells f.cells.items)
home_is f m e ok =
    let hs = reverse f.headers.items in
    let own = home-cells hs f.present f.cells.items f.counters.items f.home_end ok.cut in
    ((end_within hs f.present (length f.cells.items) (length f.counters.items) f.home_end ok.cut).0, ap (λ (s : FrameStack). s.home.cells) (sym e) ∙ own)

-- A cell of the agent's own frame stands among all cells at its own place.
pub record IsHomeCell (f : Inside) (m : FrameStack) (n : ℕ) : Type 0 where
  pub within : n < length f.cells.items
  pub read : (x : ℤ) → x ≡ get_or f.cells.items n x → slice_get m.home.cells n ≡ Some x

pub home_cell : (f : Inside) (m : FrameStack) (n : ℕ) → frames_in f ≡ m → IsLaidOut f → n < length m.home.cells → IsHomeCell f m n
home_cell f m n e ok less =
    let (ends, same) = home_is f m e ok in
    let short = length-take-le f.home_end.cells f.cells.items ends in
    let low : n < f.home_end.cells = omega (arith, less, ap length same, short) in
    record {
      within = omega (arith, low, ends);
      read = λ x is. ap (λ cells. slice_get cells n) same ∙ slice_get-get_or (take f.home_end.cells f.cells.items) n x (omega (arith, low, short)) ∙ ap Some (get_or-take f.home_end.cells f.cells.items n x low ∙ sym is);
    }

frame_stack : (home home' : Frame) (calls calls' : List OpenCall) (room : ℕ) → home ≡ home' → calls ≡ calls' → ◌≡◌ {A = FrameStack} (record { home = home; calls = calls; room = room }) (record { home = home'; calls = calls'; room = room })
frame_stack home home' calls calls' room e d = cc

-- The frames with another cell, or another counter, of the present one
pub set_cell_gives : (f : Inside) (m : FrameStack) (i : ℕ) (v : ℤ) → frames_in f ≡ m → IsLaidOut f → frames_in (record f { cells = with_item f.cells (f.present.cells + i) v }) ≡ record m { home = home_with m.home m.calls (record (innermost_frame m.home m.calls) { cells = slice_set (innermost_frame m.home m.calls).cells i v }); calls = calls_with m.calls (record (innermost_frame m.home m.calls) { cells = slice_set (innermost_frame m.home m.calls).cells i v }) }
set_cell_gives f m i v e ok =
    let hs = reverse f.headers.items in
    let p = present f m e ok in
    let home = home-set_cell hs f.present f.cells.items f.counters.items f.home_end i v ok.cut in
    let calls = calls-set_cell hs f.present f.cells.items f.counters.items i v in
    rw p (rw (← e) (frame_stack _ _ _ _ _ home calls))

pub set_counter_gives : (f : Inside) (m : FrameStack) (i n : ℕ) → frames_in f ≡ m → IsLaidOut f → frames_in (record f { counters = with_item f.counters (f.present.counters + i) n }) ≡ record m { home = home_with m.home m.calls (record (innermost_frame m.home m.calls) { counters = slice_set (innermost_frame m.home m.calls).counters i n }); calls = calls_with m.calls (record (innermost_frame m.home m.calls) { counters = slice_set (innermost_frame m.home m.calls).counters i n }) }
set_counter_gives f m i n e ok =
    let hs = reverse f.headers.items in
    let p = present f m e ok in
    let home = home-set_counter hs f.present f.cells.items f.counters.items f.home_end i n ok.cut in
    let calls = calls-set_counter hs f.present f.cells.items f.counters.items i n in
    rw p (rw (← e) (frame_stack _ _ _ _ _ home calls))

-- There is room for the cells and counters of one more frame.
pub room_for : (f : Inside) (m : FrameStack) (cells counters : ℕ) → frames_in f ≡ m → IsLaidOut f → cells + counters + cells_in_calls m.calls ≤ m.room → (length f.cells.items + cells ≤ vec_capacity f.cells) × (length f.counters.items + counters ≤ vec_capacity f.counters)
room_for f m cells counters e ok h =
    let hs = reverse f.headers.items in
    let all = all_counted hs f.present f.cells.items f.counters.items f.home_end ok.cut in
    let ends = end_within hs f.present (length f.cells.items) (length f.counters.items) f.home_end ok.cut in
    let calls = ap (λ (s : FrameStack). cells_in_calls s.calls) e in
    let room = ap (λ (s : FrameStack). s.room) e in
    (omega (arith, all, ends.0, ends.1, calls, room, h, ok.cells), omega (arith, all, ends.0, ends.1, calls, room, h, ok.counters))

-- There is room for one more call.
pub call_within : (f : Inside) (m : FrameStack) → frames_in f ≡ m → IsLaidOut f → length m.calls < OPEN_CALLS → length f.headers.items < vec_capacity f.headers
call_within f m e ok h =
    let hs = reverse f.headers.items in
    let calls = ap (λ (s : FrameStack). length s.calls) e in
    omega (arith, calls, h, ok.calls, length-calls_in hs f.present f.cells.items f.counters.items, length-reverse f.headers.items)

-- The frames with one more on top
pub open_gives : (f g : Inside) (m : FrameStack) (cells : List ℤ) (counters : List ℕ) (back : ℕ) → frames_in f ≡ m → g.cells.items ≡ f.cells.items ++ cells → g.counters.items ≡ f.counters.items ++ counters → g.headers.items ≡ f.headers.items ++ record { caller = f.present; back = back } ∷ [] → g.present ≡ record { cells = length f.cells.items; counters = length f.counters.items } → g.room ≡ f.room → frames_in g ≡ record m { calls = record { frame = record { cells = cells; counters = counters }; back = back } ∷ m.calls }
open_gives f g m cells counters back e c k h p r =
    let hs = reverse f.headers.items in
    let top = ap reverse h ∙ reverse-push f.headers.items (record { caller = f.present; back = back }) in
    let home = home_below hs f.present f.cells.items cells f.counters.items counters in
    let calls = calls_below hs f.present f.cells.items cells f.counters.items counters in
    let dc = drop_at f.cells.items cells (length f.cells.items) refl in
    let dk = drop_at f.counters.items counters (length f.counters.items) refl in
    rw (← e) (rw (c, k, top, p, r) (rw (home, calls, dc, dk) refl))

-- The agent's own frame alone, with its counters at 0
pub restart_gives : (f g : Inside) (m : FrameStack) → frames_in f ≡ m → IsLaidOut f → g.cells.items ≡ take f.home_end.cells f.cells.items → g.counters.items ≡ replicate f.home_end.counters 0 → g.headers.items ≡ [] → g.room ≡ f.room → frames_in g ≡ record m { home = cleared m.home; calls = [] }
restart_gives f g m e ok c k h r =
    let hs = reverse f.headers.items in
    let cells = home-cells hs f.present f.cells.items f.counters.items f.home_end ok.cut in
    let counters = home-counters hs f.present f.cells.items f.counters.items f.home_end ok.cut in
    rw (← e) (rw (c, k, ap reverse h, r) (rw (cells, counters) refl))

pub restart_laid : (f g : Inside) → IsLaidOut f → g.cells.items ≡ take f.home_end.cells f.cells.items → length g.counters.items ≡ f.home_end.counters → g.headers.items ≡ [] → g.present ≡ record { cells = 0; counters = 0 } → g.home_end ≡ f.home_end → g.room ≡ f.room → vec_capacity g.cells ≡ vec_capacity f.cells → vec_capacity f.counters ≤ vec_capacity g.counters → vec_capacity g.headers ≡ vec_capacity f.headers → IsLaidOut g
restart_laid f g ok c k h p e r nc nk nh =
    let ends = end_within (reverse f.headers.items) f.present (length f.cells.items) (length f.counters.items) f.home_end ok.cut in
    let short = length-take-le f.home_end.cells f.cells.items ends.0 in
    record {
      cut = rw (h, p, e) (refl, refl, ap length c ∙ short, k);
      cells = rw (e, r, nc) ok.cells;
      counters = rw (e, r) (omega (arith, ok.counters, nk));
      calls = rw nh ok.calls;
    }

-- What a list is after it grew by n zeros
pub grown_by : (xs : List ℕ) (end len n : ℕ) → end ≡ len + n → len ≡ length xs → take end xs ++ replicate (end - len) 0 ≡ xs ++ replicate n 0
grown_by xs end len n more e =
    let all = take_all end xs (omega (arith, e, more)) in
    let rest : end - len ≡ n = omega (arith, more) in
    rw (all, rest) refl
