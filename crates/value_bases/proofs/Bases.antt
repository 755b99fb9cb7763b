-- What rows are built on, from the laws about processes that stand for one another, and about the object.
use Rattle.std.proofs.Common.{[], ◌∷◌}
use Rattle.system_model.specs.Limits.{frames_limit}
use Rattle.value_code.specs.Objects.{object_of}
use Rattle.value_roots.proofs.Still.{still_there}
use Rattle.value_bases.specs.Bases.{BasesHold}
use Rattle.value_bases.proofs.Holding as holding
use Rattle.value_bases.proofs.Rows as rows

pub bases_hold : BasesHold
bases_hold m = record {
  ready_later = λ k now i x y p q r left holds. holding.ready_later m i k now x y p q left holds r;
  stands_later = λ k now i x y busy a p q s left holds. holding.stands_later m i k now x y p q left holds busy a s;
  mine_later = λ k now i x y p q left holds b named free made. holding.mine_later m i k now x y p q left holds b named free made;
  holds_on_way = λ k i w x busy a p q s worlds live way lead. holding.holds_on_way m i k w x p q worlds live busy a s way lead;
  holds_again = λ k i w x p q r worlds live. holding.holds_again m i k w x p q worlds live r;
  there_again = λ x y q r went closed live. still_there frames_limit (object_of m ∷ []) x y q r closed live went;
  row_stands = λ number f pc instr there here. rows.row_stands m number f pc instr there here;
  inside = λ number f pc instr there here. rows.inside m number f pc instr there here;
}
