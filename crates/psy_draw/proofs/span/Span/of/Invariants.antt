-- What each loop of `span::Span::of` keeps.
use Rattle.std.proofs.Common.{◌≡◌, take}
use Rattle.psy_draw.specs.Spans.{span_of}
use Rattle.psy_draw.proofs.span.Span.of.Given as goal

-- The span so far
abbrev pub invariant-loop-column : goal.invariant-loop-column
invariant-loop-column l = l.span ≡ span_of l.fn.first (take l.column-index l.fn.rest)
