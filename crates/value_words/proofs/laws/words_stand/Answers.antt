use Rattle.value_words.proofs.Blank.{stands_zero}
use Rattle.value_words.proofs.Later.{stands_later}
use Rattle.value_words.proofs.Moved.{moved}
use Rattle.value_words.proofs.Wholes.{stands_whole}
use Rattle.value_words.proofs.laws.words_stand.Goals as goal

pub returns : goal.returns
returns c = record {
  zero = λ defs facts words at t r l a i b. stands_zero defs facts words i at t r l a b;
  whole = λ defs facts words at t r v l s. stands_whole defs facts words at t v s;
  moved = λ defs facts words others at there t r v l a i j s h. moved words others i j defs facts at there t r v l a s h;
  later = λ defs facts later words at t v g s. stands_later defs facts later words g at t v s;
}
