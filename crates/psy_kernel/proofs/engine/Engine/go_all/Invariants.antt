-- What each loop of `engine::Engine::go_all` keeps.
use Rattle.std.proofs.Common.{◌≡◌, ℕ, ◌<◌, ◌≤◌, Some, length, slice_get}
use Rattle.psy_kernel.proofs.engine.Engine.go_all.Given as goal

abbrev pub invariant-processors : goal.invariant-processors
invariant-processors l = record {
  kept : l.self ≡ record l.fn.self { done = l.self.done };
  count : length l.self.done ≡ length l.fn.self.done;
  gone : (place n : ℕ) → slice_get l.self.done place ≡ Some n → place < l.processor → n ≡ l.end;
  rest : (place : ℕ) → l.processor ≤ place → slice_get l.self.done place ≡ slice_get l.fn.self.done place;
}
