-- Values whose size comes first where they are moved: the size is on its way in the linkage then, which changes nothing else.
use Rattle.std.proofs.Common.{◌≡◌, ℕ, Bool, true, false, suc, pos, ◌+◌, ◌<◌, ◌≤◌, List, [], ◌∷◌, ◌++◌, length, Option, Some, refl, sym, ap, ◌∙◌, arith}
use Rattle.std.specs.Prelude.{slice_get}
use Rattle.system_model.specs.Limits.{frames_limit}
use Rattle.limbo_types.specs.Types.{Ty}
use Rattle.limbo_layout.specs.Adts.{Def}
use Rattle.limbo_layout.specs.Layout.{limit}
use Rattle.limbo_typed.specs.Typed as typed
use Rattle.limbo_meaning.specs.Process.{Shared}
use Rattle.process_model.specs.Process.{Went}
use Rattle.core_code.specs.Code.{Instr}
use Rattle.core_code.specs.Machine as code
use Rattle.dis_isa.specs.declared.inst.Inst.{Inst}
use Rattle.dis_isa.specs.declared.inst.Operand as isa
use Rattle.limbo_values.specs.declared.number.Kind.TheVariants.{Int}
use Rattle.dis_meaning.specs.Numbers.{number_at}
use Rattle.dis_meaning.specs.Words.{Word, Plain, Access, Found, ◌>>=◌, plain, number_in, word_at}
use Rattle.dis_meaning.specs.Process.{Process, Printing}
use Rattle.dis_memory.specs.Blocks.{World}
use Rattle.value_words.specs.Facts.{Facts, Grows}
use Rattle.value_frames.specs.Frames.{Boxed, form_of, room_for, passing_place}
use Rattle.value_moves.specs.Operands.{Code, moved}
use Rattle.value_moves.proofs.Leading.{spots_lead}
use Rattle.value_code.specs.Objects.{object_of, of_function, size_at}
use Rattle.number_effects.specs.Giving.{with_word}
use Rattle.number_effects.proofs.Reading.{operands_are_read}
use Rattle.number_effects.proofs.Records.{words_move}
use Rattle.number_effects.proofs.Stepping.{steps_obey}
use Rattle.value_follows.specs.Stands.{Ready}
use Rattle.value_follows.specs.Sides.{sides, HoldTheSame}
use Rattle.value_follows.specs.Rows.{Base, is_tidied}
use Rattle.value_follows.proofs.Several.{moved_to, moved_names, hold_as, Next, goes_silently}
use Rattle.rows_boxes.proofs.Typed.{MovesWhere, HasPassing, is_sized, sizing, moves_once, moves_twice}
use Rattle.rows_boxes.proofs.Whole.{small_range}
use Rattle.rows_places.proofs.Going.{going_on}
use Rattle.rows_places.proofs.Last.{there, begins_at, reaches_here}
use Rattle.rows_places.proofs.Arrays.{LinkageWord, linkage_word}
use Rattle.rows_places.proofs.Linking.{Linked, linked}
use Rattle.rows_places.proofs.Indexing.{onward}

-- ---- the instructions of a move: the last, and what is in front of it

abbrev pub front_of : Bool → ℕ → Code
front_of false n = []
front_of true n = sizing n ∷ []

abbrev pub many_of : Bool → ℕ
many_of false = 0
many_of true = 1

abbrev pub IsOnWay : Bool → ℕ → Process → Type 0
IsOnWay false n p = Unit {0}
IsOnWay true n p = HasPassing n p

pub last_moves : (defs : List Def) (t : Ty) (n : ℕ) (a b : isa.Operand) (c : Bool) → form_of t ≡ Boxed → is_sized defs t ≡ c
    → (i : Inst) × (moved defs t n a b ≡ front_of c (room_for defs t).size ++ i ∷ []) × MovesWhere defs t n a b (IsOnWay c (room_for defs t).size) i
last_moves defs t n a b false form e = moves_once defs t n a b form e
last_moves defs t n a b true form e = moves_twice defs t n a b form e

pub front_long : (c : Bool) (n : ℕ) (i : Inst) → length (front_of c n ++ i ∷ []) ≡ suc (many_of c)
front_long false n i = refl
front_long true n i = refl

pub last_there : (c : Bool) (n : ℕ) (i : Inst) → slice_get (front_of c n ++ i ∷ []) (many_of c) ≡ Some i
last_there false n i = refl
last_there true n i = refl

pub passing_is : (words : List Word) (n : ℕ) → word_at words (pos passing_place) ≡ Found (Plain (pos n))
    → number_at Int words (pos passing_place) ≡ Found (pos n)
passing_is words n e = ap (λ (a : Access Word). a >>= number_in) e

-- ---- the size comes

module _ (m : typed.Module) (b : Base m) (k : Facts) (i : ℕ) (w : Shared) (x : World) (p : code.Process) (q : Process) (ready : Ready m k i x p q)
    (hold : HoldTheSame m k i x p q) (worlds : (sides m).worlds k w x) (instr : Instr) (here : slice_get p.frame.code p.frame.pc ≡ Some instr)
    (pc : ℕ) (pr : Option Printing) (j : ℕ) (so_far : pc ≡ q.frame.pc + j) (bytes : ℕ) (small : bytes ≤ limit) where
  abbrev at : Process
  at = there m b k i w x p q ready hold worlds instr here pc pr j so_far

  abbrev f : typed.Function
  f = ready.stands.is.function

  abbrev pub with_size : List Word
  with_size = with_word q.frame.words passing_place (Plain (pos bytes))

  pub word_there : LinkageWord m k i x p q ready passing_place
  word_there = linkage_word m k i x p q ready passing_place refl (omega arith)

  pub link : Linked m k i x p q ready passing_place refl (omega arith) (omega arith) word_there (Plain (pos bytes)) (λ r e. absurd cc)
      (λ z e. small_range bytes z small e)
  link =
      linked m k i x p q ready passing_place refl (omega arith) (omega arith) word_there (Plain (pos bytes)) (λ r e. absurd cc)
      (λ z e. small_range bytes z small e)

  -- What is so once it is there, whatever the others did meanwhile.
  pub record IsSized (last : Facts) (v : Shared) (y : World) : Type 0 where
    pub still : Ready m last i y p (moved_to q q.frame.pc with_size)
    pub function : still.stands.is.function ≡ ready.stands.is.function
    pub known : still.stands.is.known ≡ ready.stands.is.known
    pub grows : Grows k last
    pub holds : HoldTheSame m last i y p (moved_to q q.frame.pc with_size)
    pub alike : (sides m).worlds last v y
    pub passing : HasPassing bytes (moved_to q (suc pc) with_size)

  module _ (begins : begins_at m b k i w x p q ready hold worlds instr here pc pr j so_far (sizing bytes)) where
    steps : (sides m).code.step x (there m b k i w x p q ready hold worlds instr here pc pr j so_far) ≡ Went x (moved_to q (suc pc) with_size)
    steps =
        let lead = spots_lead.own x at passing_place in
        let stored = words_move.word frames_limit (object_of m) x at (sizing bytes) (Plain (pos bytes)) q.frame.words passing_place lead.0 word_there.old refl
        (operands_are_read.source_plain_given x at (pos bytes)) (ap (λ (a : Access Word). a >>= plain) word_there.found ∙ word_there.is_plain) in
        steps_obey.stores frames_limit (object_of m ∷ []) x at (object_of m) (sizing bytes) x lead.0.place with_size _
        (reaches_here m b k i w x p q ready hold worlds instr here pc pr j so_far (sizing bytes) begins) stored.1 (lead.1 with_size)

    pub sized_way : is_tidied instr ≡ false → suc j < size_at m f.of.answer (of_function m f) p.frame.pc (Some instr) → (n : ℕ)
        → ((last : Facts) (v : Shared) (y : World) → IsSized last v y → Next m b i p n last v y (moved_to q (suc pc) with_size))
        → Next m b i p (suc n) k w x (there m b k i w x p q ready hold worlds instr here pc pr j so_far)
    sized_way plain long n goes =
        goes_silently m b i p (suc n) k w x at (moved_to q (suc pc) with_size) steps worlds
        (onward m b k i w x p q ready hold worlds instr here pc pr j so_far plain long with_size)
        (going_on m b i p (moved_to q q.frame.pc with_size) (moved_to q (suc pc) with_size) (λ l. refl) n k x link.still
        (hold_as m b i p k x q (moved_to q (suc pc) with_size) (λ l. sym (moved_names q (suc pc) with_size link.names l)) hold)
        (λ last v y s grows same holds alike. goes last v y (record {
          still = s;
          function = same.function ∙ link.function;
          known = same.known ∙ link.known;
          grows = grows;
          holds = holds;
          alike = alike;
          passing = passing_is with_size bytes link.word;
        })))
