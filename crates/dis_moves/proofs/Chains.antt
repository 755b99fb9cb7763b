-- Steps of instructions, in another order of brackets.
use Rattle.std.proofs.Common.{◌≡◌, ℕ, List, refl, sym, ap, ◌∙◌}
use Rattle.dis_file.specs.declared.object.Object.{Object}
use Rattle.dis_isa.specs.declared.inst.Inst.{Inst}
use Rattle.dis_meaning.specs.Words.{Word, Access, Found, Wrong, Raises, ◌>>=◌, word_number}
use Rattle.dis_meaning.specs.Process.{Process}
use Rattle.dis_meaning.specs.Places.{Spot, place_in}
use Rattle.dis_memory.specs.Blocks.{World}
use Rattle.dis_memory.specs.Copies.{put, typed_words}
use Rattle.dis_memory.specs.Data.{movmp}
use Rattle.dis_memory.specs.Lists.{conses, consmp}
use Rattle.dis_memory.specs.Operands.{middle_type}
use Rattle.dis_memory.specs.Places.{spot, words_at, with_words_at}
use Rattle.dis_memory.specs.Process.{Does, next}
use Rattle.dis_copies.specs.Spans.{put_at}
use Rattle.dis_moves.specs.Values.{value_named, value_to}

pub assoc : {S T U : Type 0} (a : Access S) (f : S → Access T) (g : T → Access U) → (a >>= f >>= g) ≡ (a >>= λ s. f s >>= g)
assoc (Found s) f g = refl
assoc (Wrong n) f g = refl
assoc (Raises text) f g = refl

pub under : {S T : Type 0} (a : Access S) (f g : S → Access T) → ((s : S) → f s ≡ g s) → (a >>= f) ≡ (a >>= g)
under (Found s) f g e = e s
under (Wrong n) f g e = refl
under (Raises text) f g e = refl

-- What is made of the source's value.
pub value_then : (o : Object) (x : World) (p : Process) (i : Inst) (k : List Word → Access Does) →
    (value_named o x p i >>= k) ≡
    (spot x p i.src >>= λ s. words_at x p s >>= λ source. word_number (place_in s) >>= λ from. middle_type o i.middle >>= λ desc. typed_words desc source from >>= k)
value_then o x p i k =
    assoc (spot x p i.src) _ k
    ∙ under (spot x p i.src) _ _
    (λ s. assoc (words_at x p s) _ k
    ∙ under (words_at x p s) _ _
    (λ source. assoc (word_number (place_in s)) _ k
    ∙ under (word_number (place_in s)) _ _
    (λ from. assoc (middle_type o i.middle) _ k)))

pub as_movmp : (o : Object) (x : World) (p : Process) (i : Inst) → movmp o x p i ≡ (value_named o x p i >>= value_to x p i.dst)
as_movmp o x p i = sym (value_then o x p i (value_to x p i.dst))

pub as_consmp : (o : Object) (x : World) (p : Process) (i : Inst) → consmp o x p i ≡ (value_named o x p i >>= λ element. conses o x p i (Found element))
as_consmp o x p i = sym (value_then o x p i (λ element. conses o x p i (Found element)))

-- What is put over words that are found.
pub as_put : (x : World) (p : Process) (d : Spot) (target : List Word) (to : ℕ) (vs : List Word) → words_at x p d ≡ Found target →
    (put target to vs >>= with_words_at x p d >>= λ m. Found (next m)) ≡ (put_at x p d to vs >>= λ m. Found (next m))
as_put x p d target to vs e = ap (λ a. a >>= (λ words. put words to vs >>= with_words_at x p d) >>= λ m. Found (next m)) (sym e)
