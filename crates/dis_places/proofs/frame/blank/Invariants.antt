use Rattle.std.proofs.Common.{◌≡◌}
use Rattle.dis_meaning.specs.Words.{blanks}
use Rattle.dis_places.specs.Words.{view_words}
use Rattle.dis_places.proofs.frame.blank.Given as goal

abbrev pub invariant-loop-k : goal.invariant-loop-k
invariant-loop-k l = view_words l.words.items ≡ blanks l.desc 0 l.k
