use Rattle.std.proofs.Common.{◌≡◌, ◌≤◌, ◌+◌, List, drop, map}
use Rattle.limbo_layout.specs.Adts.{Def}
use Rattle.limbo_typed.specs.View.{view_pattern, patterns_of}
use Rattle.limbo_meaning.specs.Program.{terms_before, operands_among}
use Rattle.core_frames.specs.Sizes.{patterns_size}
use Rattle.core_writing.specs.Operands.{operands_size, terms_in}
use Rattle.core_writing.proofs.operands.+patterns.Given as goal

abbrev pub invariant-add_patterns-loop-pattern : goal.invariant-add_patterns-loop-pattern
invariant-add_patterns-loop-pattern l = record {
  terms : terms_before (terms_in l.operands.items) (operands_among (patterns_of (map view_pattern (drop l.pattern-index l.patterns))))
      ≡ terms_before (terms_in l.initial.operands.items) (operands_among (patterns_of (map view_pattern l.patterns)));
  size : (defs : List Def) →
      operands_size defs l.operands.items + patterns_size defs (patterns_of (map view_pattern (drop l.pattern-index l.patterns)))
      ≤ operands_size defs l.initial.operands.items + patterns_size defs (patterns_of (map view_pattern l.patterns));
}
