-- What operands name is the same, word by word and number by number.
use Rattle.std.proofs.Common.{◌≡◌, ℕ, ℤ, [], refl, sym, ap, subst, ◌∙◌, if◌then◌else◌}
use Rattle.std.specs.Prelude.{Option, Some, None, pos, slice_get, nat_lt, length, ◌/◌}
use Rattle.limbo_values.specs.declared.number.Kind.{Kind}
use Rattle.limbo_values.specs.declared.number.Kind.TheVariants.{Int}
use Rattle.limbo_values.specs.declared.operator.Comparison.{Comparison}
use Rattle.limbo_values.specs.Operators.{compared}
use Rattle.dis_isa.specs.declared.inst.Middle.{Middle}
use Rattle.dis_isa.specs.declared.inst.Middle.TheVariants as middle
use Rattle.dis_isa.specs.declared.inst.Operand.{Operand}
use Rattle.dis_isa.specs.declared.inst.Operand.TheVariants as operand
use Rattle.dis_file.specs.declared.object.Object.{Object}
use Rattle.dis_meaning.specs.Words.{InBlock, InFrame, Word, Plain, Refer, Address, Access, Found, Wrong, Raises, ◌>>=◌, type_check}
use Rattle.dis_meaning.specs.Words.{or_wrong, at_least_zero, word_at, number_in, plain, reference, dead_address}
use Rattle.dis_meaning.specs.World as today
use Rattle.dis_meaning.specs.Numbers.{number_at}
use Rattle.dis_meaning.specs.Process.{Process}
use Rattle.dis_meaning.specs.Places as old
use Rattle.dis_meaning.specs.Places.{Spot, Own, Data, Far, words_in, all_frames, place_in}
use Rattle.dis_meaning.specs.Step as step
use Rattle.dis_memory.specs.Blocks.{World, block}
use Rattle.dis_memory.specs.Places as new
use Rattle.dis_memory.specs.Operands as operands
use Rattle.dis_memory.specs.Kinds.{text_at, text_in}
use Rattle.dis_memory.specs.Control as control
use Rattle.dis_memory.specs.Numbers as numbers
use Rattle.dis_memory.specs.Sound.{IsThere}
use Rattle.dis_counts.specs.Alike.{block_of}
use Rattle.dis_agreement.specs.Agreement.{WorldsAgree}
use Rattle.dis_agreement.proofs.Following.{Follows, found, wrong, raises, Same, finds, fails, throws, itself, with_same, on}
use Rattle.dis_agreement.proofs.Blocks.{same_block, block_follows, data_same}

-- ---- operands that are immediates

pub immediate_same : (o : Operand) → Same (step.immediate o) (operands.immediate o)
immediate_same (operand.Imm n) = itself (at_least_zero n)
immediate_same (operand.Fp k) = fails 110 _
immediate_same (operand.Mp k) = fails 110 _
immediate_same (operand.IndFp inner outer) = fails 110 _
immediate_same (operand.IndMp inner outer) = fails 110 _
immediate_same operand.None = fails 110 _

pub middle_immediate_same : (m : Middle) → Same (step.middle_immediate m) (operands.middle_immediate m)
middle_immediate_same (middle.Imm n) = itself (at_least_zero n)
middle_immediate_same (middle.Fp k) = fails 110 _
middle_immediate_same (middle.Mp k) = fails 110 _
middle_immediate_same middle.None = fails 110 _

pub target_same : (o : Object) (d : Operand) → Same (step.target o d) (operands.target o d)
target_same o d = on _ _ (immediate_same d) (λ pc e f. itself (if nat_lt pc (length o.insts) then Found pc else Wrong 111))

-- ---- words and numbers

pub behind_same : (w : Word) (outer : ℤ) → Same (old.behind w outer) (new.behind w outer)
behind_same (Address place at) outer = finds _
behind_same (Refer (Some n)) outer = finds _
behind_same (Refer None) outer = fails 110 _
behind_same (Plain z) outer = fails 110 _

-- A word, and the number in it.
abbrev pub NumberOf : ℤ → Word → Type 0
NumberOf z w = number_in w ≡ Found z

numbered : (a : Access Word) → Follows NumberOf (a >>= number_in) a
numbered (Found (Plain n)) = found n (Plain n) refl
numbered (Found (Address place at)) = found (pos 0) (Address place at) refl
numbered (Found (Refer r)) = wrong 110 _
numbered (Wrong n) = wrong n _
numbered (Raises text) = raises text

pub words_compared : (c : Comparison) (w v : Word) (a b : ℤ) → NumberOf a w → NumberOf b v
    → numbers.words_compared c w v ≡ Found (compared c a b)
words_compared c (Refer r) v a b e f = absurd cc
words_compared c (Plain n) v a b e f =
    ap (λ u. u >>= λ m. number_in v >>= λ k. Found (compared c m k)) e ∙ ap (λ u. u >>= λ k. Found (compared c a k)) f
words_compared c (Address place at) v a b e f =
    ap (λ u. u >>= λ m. number_in v >>= λ k. Found (compared c m k)) e ∙ ap (λ u. u >>= λ k. Found (compared c a k)) f

module _ (x : today.World) (y : World) (p : Process) (w : WorldsAgree x y) (here : IsThere y 0) where
  pub words_same : (s : Spot) → Same (old.words_at x p s) (new.words_at y p s)
  words_same (Own k) = finds _
  words_same (Data k) = data_same x y w here p.frame.instance
  words_same (Far (InFrame s) k) = itself (words_in s (all_frames p))
  words_same (Far (InBlock n) k) = data_same x y w here n

  pub read_same : (s : Spot) → Same (old.read x p s) (new.read y p s)
  read_same s = on _ _ (words_same s) (λ ws e f. itself (word_at ws (place_in s)))

  pub around_same : (s : Spot) → Same (old.around x p s) (new.around y p s)
  around_same s = on _ _ (words_same s) (λ ws e f. itself (at_least_zero (place_in s) >>= λ n. or_wrong type_check (slice_get ws (n / 4))))

  pub spot_same : (o : Operand) → Same (old.spot x p o) (new.spot y p o)
  spot_same (operand.Fp k) = finds _
  spot_same (operand.Mp k) = finds _
  spot_same (operand.IndFp inner outer) = on _ _ (read_same (Own inner)) (λ v e f. behind_same v outer)
  spot_same (operand.IndMp inner outer) = on _ _ (read_same (Data inner)) (λ v e f. behind_same v outer)
  spot_same (operand.Imm n) = fails 110 _
  spot_same operand.None = fails 110 _

  pub number_same : (kind : Kind) (s : Spot) → Same (old.read_number kind x p s) (new.read_number kind y p s)
  number_same kind s = on _ _ (words_same s) (λ ws e f. itself (number_at kind ws (place_in s)))

  pub source_same : (kind : Kind) (o : Operand) → Same (old.source_of kind x p o) (new.source_of kind y p o)
  source_same kind (operand.Imm n) = finds _
  source_same kind (operand.Fp k) = number_same kind (Own k)
  source_same kind (operand.Mp k) = number_same kind (Data k)
  source_same kind (operand.IndFp inner outer) = on _ _ (spot_same (operand.IndFp inner outer)) (λ s e f. number_same kind s)
  source_same kind (operand.IndMp inner outer) = on _ _ (spot_same (operand.IndMp inner outer)) (λ s e f. number_same kind s)
  source_same kind operand.None = fails 110 _

  pub plain_same : (o : Operand) → Same (old.source_plain x p o) (new.source_plain y p o)
  plain_same (operand.Imm n) = finds _
  plain_same (operand.Fp k) = on _ _ (read_same (Own k)) (λ v e f. itself (plain v))
  plain_same (operand.Mp k) = on _ _ (read_same (Data k)) (λ v e f. itself (plain v))
  plain_same (operand.IndFp inner outer) =
      on _ _ (spot_same (operand.IndFp inner outer)) (λ s e f. on _ _ (read_same s) (λ v e f. itself (plain v)))
  plain_same (operand.IndMp inner outer) =
      on _ _ (spot_same (operand.IndMp inner outer)) (λ s e f. on _ _ (read_same s) (λ v e f. itself (plain v)))
  plain_same operand.None = fails 110 _

  pub word_same : (o : Operand) → Same (old.source_word x p o) (new.source_word y p o)
  word_same (operand.Imm n) = fails 110 _
  word_same (operand.Fp k) = read_same (Own k)
  word_same (operand.Mp k) = read_same (Data k)
  word_same (operand.IndFp inner outer) = on _ _ (spot_same (operand.IndFp inner outer)) (λ s e f. read_same s)
  word_same (operand.IndMp inner outer) = on _ _ (spot_same (operand.IndMp inner outer)) (λ s e f. read_same s)
  word_same operand.None = fails 110 _

  pub reference_same : (o : Operand) → Same (old.source_word x p o >>= reference) (new.source_reference y p o)
  reference_same o = on _ _ (word_same o) (λ v e f. itself (reference v))

  pub given_same : (kind : Kind) (m : Middle) → Same (old.given_of kind x p m) (new.given_of kind y p m)
  given_same kind (middle.Imm n) = finds _
  given_same kind (middle.Fp k) = number_same kind (Own k)
  given_same kind (middle.Mp k) = number_same kind (Data k)
  given_same kind middle.None = fails 110 _

  pub middle_same : (kind : Kind) (m : Middle) (d : Operand) → Same (old.middle_of kind x p m d) (new.middle_of kind y p m d)
  middle_same kind middle.None d = source_same kind d
  middle_same kind (middle.Imm n) d = given_same kind (middle.Imm n)
  middle_same kind (middle.Fp k) d = given_same kind (middle.Fp k)
  middle_same kind (middle.Mp k) d = given_same kind (middle.Mp k)

  -- An int that is compared is a word to the machine with memory, which may compare references.
  compared_at : (s : Spot) → Follows NumberOf (old.read_number Int x p s) (new.read y p s)
  compared_at s = with_same _ _ (words_same s) (λ ws e f. numbered (word_at ws (place_in s)))

  pub source_compared : (o : Operand) → Follows NumberOf (old.source_of Int x p o) (new.source_word y p o)
  source_compared (operand.Imm n) = found n (Plain n) refl
  source_compared (operand.Fp k) = compared_at (Own k)
  source_compared (operand.Mp k) = compared_at (Data k)
  source_compared (operand.IndFp inner outer) = with_same _ _ (spot_same (operand.IndFp inner outer)) (λ s e f. compared_at s)
  source_compared (operand.IndMp inner outer) = with_same _ _ (spot_same (operand.IndMp inner outer)) (λ s e f. compared_at s)
  source_compared operand.None = wrong 110 _

  pub middle_compared : (m : Middle) → Follows NumberOf (old.given_of Int x p m) (new.middle_word y p m)
  middle_compared (middle.Imm n) = found n (Plain n) refl
  middle_compared (middle.Fp k) = compared_at (Own k)
  middle_compared (middle.Mp k) = compared_at (Data k)
  middle_compared middle.None = wrong 110 _

-- ---- texts and modules

module _ (x : today.World) (y : World) (w : WorldsAgree x y) where
  pub text_same : (r : Option ℕ) → ((n : ℕ) → r ≡ Some n → IsThere y n) → Same (step.text_at x r) (text_at y r)
  text_same None t = finds []
  text_same (Some n) t = go (slice_get x.blocks n) refl
    where
      go : (o : Option today.Content) → slice_get x.blocks n ≡ o → Same (or_wrong dead_address o >>= step.text_of) (block y n >>= text_in)
      go None e = fails dead_address _
      go (Some (today.Instance object words)) e = fails 110 _
      go (Some (today.Sys names)) e = fails 110 _
      go (Some (today.Text chars)) e =
          subst (λ o. Same (Found chars) (or_wrong dead_address o >>= text_in)) (sym (same_block x y w n (today.Text chars) e (t n refl)))
          (finds chars)

  pub module_follows : {a b : Access (Option ℕ)} → Same a b → ((r : Option ℕ) (n : ℕ) → b ≡ Found r → r ≡ Some n → IsThere y n)
      → Follows (λ c b. b ≡ block_of c) (a >>= step.module_at x) (b >>= control.loaded_module >>= block y)
  module_follows (finds None) t = wrong 110 _
  module_follows (finds (Some n)) t = block_follows x y w n (t (Some n) n refl refl)
  module_follows (fails n b) t = wrong n _
  module_follows (throws text) t = raises text

pub function_same : (c : today.Content) (k : ℕ) → Same (step.function_of c k) (control.function_of (block_of c) k)
function_same (today.Sys names) k = itself _
function_same (today.Text chars) k = fails 110 _
function_same (today.Instance object words) k = fails 110 _
