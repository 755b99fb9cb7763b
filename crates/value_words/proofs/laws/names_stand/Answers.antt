use Rattle.std.proofs.Common.{◌≡◌, ℕ, Option, Some, subst, List}
use Rattle.std.specs.Prelude.{slice_get}
use Rattle.value_words.specs.Facts.{IsNamed}
use Rattle.value_words.proofs.Covered.{covered}
use Rattle.value_words.proofs.Dropped.{stands_without}
use Rattle.value_words.proofs.Named.{counted, names_there}
use Rattle.value_words.proofs.laws.names_stand.Goals as goal

only : (x y : Option ℕ) (ns : List (Option ℕ)) (k : ℕ) → slice_get ns k ≡ Some x → slice_get ns k ≡ Some y → x ≡ y
only x y ns k e f = cc

pub returns : goal.returns
returns c = record {
  counted = λ defs t os v n. counted defs t os v n;
  there = λ defs facts words at t v os n s k o m e f.
      let x = names_there defs facts words at t v os k o s n e in
      (x.block, x.word, subst (λ (y : Option ℕ). IsNamed facts x.block y) (only x.name m _ k x.among f) x.is);
  covered = λ defs facts words at t room v l s o b h e. covered defs facts words at t room v o b l s h e;
  dropped = λ defs facts words at t room v os n l a s k o e. stands_without defs facts words at t v os k o s n e;
}
