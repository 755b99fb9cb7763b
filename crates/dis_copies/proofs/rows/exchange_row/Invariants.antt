use Rattle.std.proofs.Common.{◌≡◌, ℕ, ◌+◌, drop}
use Rattle.dis_meaning.specs.Counts.{in_words}
use Rattle.dis_meaning.specs.Words.{Found}
use Rattle.dis_places.specs.Words.{view_words}
use Rattle.dis_copies.specs.Spans.{all_named, kinds, meets, over}
use Rattle.dis_copies.proofs.rows.exchange_row.Given as goal

-- What is left to do leads where all of it does.
abbrev pub invariant-loop-k : goal.invariant-loop-k
invariant-loop-k l = record {
  left : over (view_words l.row.items) (l.from + l.k) (view_words (drop l.k l.words)) ≡ over (view_words l.initial.row.items) l.from (view_words l.initial.words);
  meets : meets (view_words l.row.items) (l.from + l.k) (view_words (drop l.k l.words)) ≡ Found tt;
  kinds : kinds (view_words l.words) ≡ kinds (view_words l.initial.words);
  named : (n : ℕ) → in_words n (view_words l.row.items) + all_named l.words n ≡ in_words n (view_words l.initial.row.items) + all_named l.initial.words n;
}
