-- Characters that are written into strings at places: what the source does, and what the machine reads.
use Rattle.std.proofs.Common.{◌≡◌, ℕ, ℤ, Bool, true, false, if◌then◌else◌, suc, ◌+◌, ◌≤◌, List, [], ◌∷◌, ◌++◌, length, Some, ap, ◌∙◌, arith, rules, tests}
use Rattle.std.specs.Prelude.{Result, Ok, Err, slice_get, slice_set, nat_lt, ◌==◌}
use Rattle.inf_text.specs.Steps.{◌>>=◌}
use Rattle.process_model.specs.Process.{Ends}
use Rattle.system_model.specs.Ending.{Broken}
use Rattle.system_model.specs.Limits.{frames_limit}
use Rattle.system_model.specs.Verbs.{character}
use Rattle.limbo_types.specs.Types.{Ty}
use Rattle.limbo_values.specs.declared.number.Kind.TheVariants.{Int}
use Rattle.limbo_values.specs.declared.raised.Raised.{Raised}
use Rattle.limbo_values.specs.declared.raised.Raised.TheVariants.{StringTooLong}
use Rattle.limbo_values.specs.Operators.{text_of as raised_text}
use Rattle.limbo_values.specs.Texts.{index_in, longest}
use Rattle.limbo_typed.specs.Typed as typed
use Rattle.limbo_meaning.specs.Exceptions.{Raising, with_text}
use Rattle.limbo_kept.proofs.Texts as texts
use Rattle.limbo_kept.specs.Values.{AreCharacters}
use Rattle.limbo_meaning.specs.Memory.{Memory}
use Rattle.limbo_meaning.specs.Places.{Root, part_at, with_part, root_value, root_put, stored_at, with_character, not_longer, put_character, count_of, operand}
use Rattle.limbo_meaning.specs.Process.{Shared}
use Rattle.limbo_meaning.specs.Values.{Value, Num, Chars, number_of, text_of}
use Rattle.core_code.specs.Code.{Write}
use Rattle.core_code.specs.Machine as code
use Rattle.core_code.specs.Slots as core
use Rattle.core_code.specs.Slots.{slot, value_of}
use Rattle.dis_isa.specs.declared.inst.Operand as isa
use Rattle.dis_isa.specs.declared.inst.Middle.{Middle}
use Rattle.dis_isa.specs.declared.op.Op.TheVariants as op
use Rattle.dis_meaning.specs.Words.{Found, Raises}
use Rattle.dis_meaning.specs.Process.{Process}
use Rattle.dis_memory.specs.Blocks.{Text, World}
use Rattle.dis_memory.specs.Kinds.{text_at}
use Rattle.dis_memory.specs.Places.{source_of, given_of}
use Rattle.dis_memory.specs.Step.{obey}
use Rattle.dis_memory.specs.Strings as machine
use Rattle.value_moves.specs.Operands.{inst}
use Rattle.value_code.specs.Objects.{object_of}
use Rattle.block_effects.specs.Stored.{ReferenceThere, AfterBlock}
use Rattle.block_effects.proofs.Strings.{strings_come}
use Rattle.value_follows.specs.Sides.{sides, program}
use Rattle.rows_places.specs.Rows.{character_from}
use Rattle.value_words.specs.Facts.{IsString}
use Rattle.rows_places.proofs.Characters.{values_at}

-- ---- the string with the character

no_longer : (a b : ℕ) → nat_lt a b ≡ false → b ≤ a
no_longer a b h = search (rules, tests, h)

-- it is of characters
characters_put : (s : List ℕ) (k : ℕ) (z : ℤ) → AreCharacters s → AreCharacters (put_character s k (character z))
characters_put s k z a = go (k == length s)
  where
    go : (b : Bool) → AreCharacters (if b then s ++ character z ∷ [] else slice_set s k (character z))
    go true = texts.front_and_behind s (character z ∷ []) a (texts.character_is z, tt)
    go false = texts.put s k (character z) a (texts.character_is z)

pub string_put : (s : List ℕ) (k : ℕ) (z : ℤ) → AreCharacters s → nat_lt longest (length (put_character s k (character z))) ≡ false
    → IsString (put_character s k (character z))
string_put s k z a e = (characters_put s k z a, no_longer longest (length (put_character s k (character z))) e)

-- ---- what the source does

module _ (m : typed.Module) (w : Shared) (p : code.Process) (t : Ty) (root : Root) (part operands taken : List ℕ) (from : ℕ)
    (here : slice_get p.frame.code p.frame.pc ≡ Some (Write t (character_from root part) operands taken from)) where
  abbrev store : Memory
  store = code.memory_of w p.frame

  abbrev values : List Value
  values = core.values_of p.frame.slots operands

  abbrev val : Value
  val = part_at taken (value_of (slot p.frame.slots from))

  abbrev comes_to : Raising Memory → code.Does
  comes_to r = code.unless_raised frames_limit (program m) w p r (λ n. code.goes_with w p n p.frame.slots)

  abbrev writes_by : Raising Value → Raising Memory
  writes_by r =
      r >>= λ old.
      stored_at m.adts store (record { type = t; way = character_from root part; operands = values }) old val >>= λ new.
      root_put store root values new

  pub insert_raises : (text : List ℕ) → root_value store root values ≡ Err text → (sides m).program.step w p ≡ Ends w (Broken text)
  insert_raises text raised = ap (code.next frames_limit (program m) w p) here ∙ ap (λ (r : Raising Value). comes_to (writes_by r)) raised

  module _ (old : Value) (rooted : root_value store root values ≡ Ok old) (chars : List ℕ) (is : part_at part old ≡ Chars chars)
      (c : ℕ) (index_there : slice_get operands (count_of root) ≡ Some c) (z : ℤ) (index_is : value_of (slot p.frame.slots c) ≡ Num z)
      (y : ℤ) (value_is : val ≡ Num y) where
    abbrev puts : Raising Value → Raising Memory
    puts r = (r >>= λ u. Ok (with_part part u old)) >>= λ new. root_put store root values new

    does_so : (sides m).program.step w p ≡ comes_to (puts (with_character chars z y))
    does_so =
        ap (code.next frames_limit (program m) w p) here ∙ ap (λ (r : Raising Value). comes_to (writes_by r)) rooted
        ∙ ap (λ (v : Value). comes_to (puts (with_character (text_of v) (number_of (operand (count_of root) values)) (number_of val)))) is
        ∙ ap (λ (v : Value). comes_to (puts (with_character chars (number_of v) (number_of val))))
        (values_at p.frame.slots operands (count_of root) c index_there ∙ index_is)
        ∙ ap (λ (v : Value). comes_to (puts (with_character chars z (number_of v)))) value_is

    abbrev new_text : ℕ → List ℕ
    new_text k = put_character chars k (character y)

    abbrev by_index : Result ℕ Raised → code.Does
    by_index r = comes_to (puts (with_text r >>= λ k. not_longer (new_text k) >>= λ t. Ok (Chars t)))

    by_length : (r : Result ℕ Raised) → index_in (suc (length chars)) z ≡ r → (sides m).program.step w p ≡ by_index r
    by_length r e =
        does_so ∙ ap (λ (n : ℕ). by_index (index_in n z)) (let f : length chars + 1 ≡ suc (length chars) = omega arith in f) ∙ ap by_index e

    pub no_index : (raised : Raised) → index_in (suc (length chars)) z ≡ Err raised → (sides m).program.step w p ≡ Ends w (Broken (raised_text raised))
    no_index raised e = by_length (Err raised) e

    abbrev by_long : ℕ → Bool → code.Does
    by_long k b = comes_to (puts ((if b then Err (raised_text StringTooLong) else Ok (new_text k)) >>= λ t. Ok (Chars t)))

    pub too_long : (k : ℕ) → index_in (suc (length chars)) z ≡ Ok k → nat_lt longest (length (new_text k)) ≡ true
        → (sides m).program.step w p ≡ Ends w (Broken (raised_text StringTooLong))
    too_long k e f = by_length (Ok k) e ∙ ap (by_long k) f

    pub inserts : (k : ℕ) → index_in (suc (length chars)) z ≡ Ok k → nat_lt longest (length (new_text k)) ≡ false → (after : Memory)
        → root_put store root values (with_part part (Chars (new_text k)) old) ≡ Ok after → (sides m).program.step w p ≡ code.goes_with w p after p.frame.slots
    inserts k e f after put = by_length (Ok k) e ∙ ap (by_long k) f ∙ ap comes_to put

-- ---- what the machine does

module _ (x : World) (q : Process) (a d : isa.Operand) (mid : Middle) (z y : ℤ) (source : source_of Int x q a ≡ Found y) (given : given_of Int x q mid ≡ Found z)
    (there : ReferenceThere x q d) (chars : List ℕ) (text : text_at x there.old ≡ Found chars) (m : typed.Module) where
  abbrev made_text : ℕ → List ℕ
  made_text k = machine.with_character chars k (character y)

  abbrev by_long_too : ℕ → Bool → Result (List ℕ) Raised
  by_long_too k b = if b then Err StringTooLong else Ok (made_text k)

  pub stops_outside : (raised : Raised) → index_in (suc (length chars)) z ≡ Err raised
      → obey frames_limit (object_of m) x q (inst op.Insc a mid d) op.Insc ≡ Raises (raised_text raised)
  stops_outside raised e = (strings_come frames_limit (object_of m) x q).insert.no_index a d mid y z chars raised there source given text e

  pub stops_long : (k : ℕ) → index_in (suc (length chars)) z ≡ Ok k → nat_lt longest (length (made_text k)) ≡ true
      → obey frames_limit (object_of m) x q (inst op.Insc a mid d) op.Insc ≡ Raises (raised_text StringTooLong)
  stops_long k e f =
      (strings_come frames_limit (object_of m) x q).insert.too_long a d mid y z k chars StringTooLong there source given text e (ap (by_long_too k) f)

  pub inserted_so : (k : ℕ) → index_in (suc (length chars)) z ≡ Ok k → nat_lt longest (length (made_text k)) ≡ false
      → obey frames_limit (object_of m) x q (inst op.Insc a mid d) op.Insc ≡ AfterBlock x q there (Text (made_text k))
  inserted_so k e f =
      (strings_come frames_limit (object_of m) x q).insert.inserted a d mid y z k chars (made_text k) there source given text e (ap (by_long_too k) f)
