-- The bytes of a string as a new array.
use Rattle.std.proofs.Common.{◌≡◌, ℕ, Bool, true, false, cond, zero, suc, pos, ◌+◌, ◌*◌, ◌/◌, ◌%◌, ◌<◌, ◌≤◌, List, [], ◌∷◌, ◌++◌, length, Some, refl, sym, ap, ◌∙◌, subst, arith, inl, length-append}
use Rattle.std.specs.Prelude.{slice_get, nat_lt, nat_le, encode_utf8, encode_utf8_all}
use Rattle.std.proofs.lemmas.Bool.{le-leb}
use Rattle.std.proofs.lemmas.Int.{ints}
use Rattle.process_model.specs.Process.{Went}
use Rattle.limbo_types.specs.Types as ty
use Rattle.limbo_types.specs.Types.{Ty}
use Rattle.limbo_layout.specs.Layout.{number, is_alone}
use Rattle.limbo_values.specs.declared.number.Kind.TheVariants.{Byte}
use Rattle.limbo_values.specs.Numbers.{InRange}
use Rattle.limbo_typed.specs.Typed as typed
use Rattle.limbo_typed.specs.declared.operation.Operation.TheVariants.{TextBytes}
use Rattle.limbo_kept.proofs.Texts.{AreBytes, spelled_are}
use Rattle.limbo_meaning.specs.Bytes.{bytes_of}
use Rattle.limbo_meaning.specs.Memory as source
use Rattle.limbo_meaning.specs.Process.{Shared}
use Rattle.limbo_meaning.specs.Trees.{Operate}
use Rattle.limbo_meaning.specs.Values.{Part, Value, Num, Array, text_of}
use Rattle.system_model.specs.Limits.{frames_limit}
use Rattle.core_code.specs.Code.{Instr, Give}
use Rattle.core_code.specs.Machine as code
use Rattle.core_code.specs.Slots as core
use Rattle.core_code.specs.Slots.{Holds}
use Rattle.core_typing.specs.Held as held
use Rattle.core_typing.specs.Needs.{AreThese}
use Rattle.core_typing.specs.Going.{got_by}
use Rattle.dis_isa.specs.declared.inst.Middle.TheVariants as middle
use Rattle.dis_isa.specs.declared.op.Op.TheVariants as op
use Rattle.dis_meaning.specs.Words.{Word, Found}
use Rattle.dis_meaning.specs.Process.{Process}
use Rattle.dis_memory.specs.Blocks as block
use Rattle.dis_memory.specs.Blocks.{Block, World, next_serial, bytes_for, most_bytes}
use Rattle.dis_memory.specs.Naming.{inside}
use Rattle.dis_memory.specs.Strings.{byte_type, array_of}
use Rattle.value_words.specs.Forms.{Elements}
use Rattle.value_words.specs.Facts.{Facts, IsString}
use Rattle.value_words.specs.Stands.{Stands, a_number, an_array}
use Rattle.value_heaps.specs.Blocks as blocks
use Rattle.value_heaps.specs.Types.{desc_of}
use Rattle.value_heaps.proofs.Words.{named_where}
use Rattle.value_frames.specs.Frames.{number_place, reference_place}
use Rattle.value_frames.specs.Standing.{a_value}
use Rattle.value_moves.specs.Operands.{inst, own}
use Rattle.value_code.specs.Objects.{object_of, globals, constants}
use Rattle.block_effects.specs.Copying.{IsOfBytes}
use Rattle.block_effects.proofs.ByteArrays.{bytes_are_copied}
use Rattle.block_effects.proofs.Strings.{strings_come}
use Rattle.value_follows.specs.Stands.{types_of}
use Rattle.value_follows.specs.Sides.{sides, contents, HoldTheSame, program}
use Rattle.value_follows.specs.Rows.{Base, InstrGoes}
use Rattle.value_follows.proofs.Standing.{finds, code_here}
use Rattle.value_follows.proofs.Single.{Once}
use Rattle.value_follows.proofs.Comparing.{one_slot}
use Rattle.rows_texts.specs.Rows.{TextBytesGo}
use Rattle.rows_texts.proofs.New.{value_made}
use Rattle.rows_texts.proofs.OnTheWay.{On, reaches_it}
use Rattle.rows_texts.proofs.Arrays.{mapped, long_map}
use Rattle.rows_texts.proofs.Coming.{put_on, reference_there, block_comes}
use Rattle.rows_texts.proofs.Reading.{text_is, reads_text}
use Rattle.rows_texts.proofs.Texts.{used, found, rests, next_on, goes_on_behind, one_goes}

-- ---- how many bytes a string has

four_at_most : (c : ℕ) (x y z : Bool)
    → length (cond x (c ∷ []) (cond y ((192 + c / 64) ∷ (128 + c % 64) ∷ [])
    (cond z ((224 + c / 4096) ∷ (128 + (c / 64) % 64) ∷ (128 + c % 64) ∷ [])
    ((240 + c / 262144) ∷ (128 + (c / 4096) % 64) ∷ (128 + (c / 64) % 64) ∷ (128 + c % 64) ∷ [])))) ≤ 4
four_at_most c true y z = omega arith
four_at_most c false true z = omega arith
four_at_most c false false true = omega arith
four_at_most c false false false = omega arith

one_spelled : (c : ℕ) → length (encode_utf8 c) ≤ 4
unfolding lib.Utf8.encode
one_spelled c = four_at_most c (nat_lt c 128) (nat_lt c 2048) (nat_lt c 65536)

all_spelled : (s : List ℕ) → length (encode_utf8_all s) ≤ 4 * length s
all_spelled [] = omega arith
all_spelled (c ∷ s) =
    let one = one_spelled c in
    let more = all_spelled s in
    let both = length-append (encode_utf8 c) (encode_utf8_all s) in
    omega (arith, one, more, both)

small : (bs : List ℕ) → AreBytes bs → (j b : ℕ) → slice_get bs j ≡ Some b → b < 256
small [] are j b e = absurd cc
small (c ∷ bs) are zero b e = let same : c ≡ b = cc in subst (λ (n : ℕ). n < 256) same are.0
small (c ∷ bs) are (suc j) b e = small bs are.1 j b e

room_there : (s : List ℕ) → IsString s → nat_le (bytes_for byte_type (length (encode_utf8_all s))) most_bytes ≡ true
room_there s is =
    let few = all_spelled s in
    let most = is.1 in
    le-leb (bytes_for byte_type (length (encode_utf8_all s))) most_bytes (omega (arith, few, most))

byte_range : (b : ℕ) → b < 256 → InRange Byte (pos b)
byte_range b l = record { above = omega (arith, ints); below = omega (arith, ints, l) }

-- ---- the array stands for the elements

module _ (m : typed.Module) (s : List ℕ) (is : IsString s) where
  abbrev bs : List ℕ
  bs = encode_utf8_all s

  abbrev vs : List Value
  vs = bytes_of s

  many : length vs ≡ length bs
  many = long_map (λ b. Num (pos b)) bs

  made : (words : List Word) × IsOfBytes bs words
  made = bytes_are_copied.array bs (room_there s is) (small bs (spelled_are s is.0))

  abbrev new : Block
  new = block.Array byte_type (length bs) made.0

  array_made : array_of bs ≡ Found new
  array_made = made.1.found

  names_none : (q : ℕ) → 0 < inside new q → ⊥
  names_none q h = let w = named_where made.0 q h in made.1.plain w.0 (Some q) w.1

  stands : (now : Facts) (serial : ℕ) → now.form serial ≡ Some (Elements ty.Byte (length vs)) → (contents m).stands now serial (source.Elements vs) new
  stands now serial formed = (
    subst (λ (l : ℕ). blocks.IsBlock m.adts (globals m) (constants m) now serial (source.Elements vs) (block.Array (desc_of (number 1)) l made.0)) many
        (blocks.elements ty.Byte (number 1) made.0 vs formed (is_alone ty.Byte (number 1) refl)
        (let spelled = all_spelled s in let most = is.1 in record { above = omega (arith, ints); below = omega (arith, ints, many, spelled, most) })
        ((λ w h. let l = h.1 in let n = made.1.many in omega (arith, l, n, many)), made.1.ranged)
        (λ i v e.
        let b = mapped (λ b. Num (pos b)) bs i v e in
        let found = made.1.each i b.0 b.1 in
        let at : i * 1 ≡ i = omega arith in
        subst (λ (n : ℕ). Stands m.adts now made.0 n ty.Byte v) (sym at) (subst (λ (v : Value). Stands m.adts now made.0 i ty.Byte v) b.2
        (a_number i Byte (pos b.0) found (byte_range b.0 (small bs (spelled_are s is.0) i b.0 b.1)))))
        (λ w to e. absurd (made.1.plain w to e))),
    tt,
  )

-- ---- the row

module _ (m : typed.Module) (b : Base m) (into a : ℕ) where
  abbrev instr : Instr
  instr = Give (ty.ArrayOf ty.Byte) (Operate TextBytes) into (a ∷ [])

  module _ (k : Facts) (i : ℕ) (w : Shared) (x : World) (n : ℕ) (f : typed.Function) (p : code.Process) (q : Process)
      (on : On m k i x [] n f 0 p q) (hold : HoldTheSame m k i x p q) (worlds : (sides m).worlds k w x)
      (here : slice_get p.frame.code p.frame.pc ≡ Some instr) where
    abbrev at_slot : ℕ → ℕ
    at_slot s = reference_place m.adts (types_of m f) s

    -- all of the new array
    abbrev whole_of : List ℕ → Part
    whole_of s = record { array = length w.heap; start = 0; long = length (bytes_of s) }

    abbrev after_it : List ℕ → Shared
    after_it s = record { heap = w.heap ++ Some (source.Elements (bytes_of s)) ∷ []; outside = w.outside }

    bytes : Once m b i p q k w x
    bytes =
        let there = used m k i x [] n f 0 p q on instr here in
        let needs = found m k i x [] n f 0 p q on instr here in
        let these = subst (AreThese on.known (a ∷ [])) needs.2.0.0 needs.1 in
        let t = text_is m k i x [] n f 0 p q on a there.1.0 (λ e. e) these.0 in
        let s = t.chars in
        let is = t.string in
        let rest = rests m k i x n f 0 p q on into there.0 needs.3 in
        let dest = reference_there m b k i w x [] n f 0 p q on hold worlds into there.0 refl rest.0 rest.1 in
        let it = inst op.Cvtca (own (at_slot a)) middle.None (own (at_slot into)) in
        let made = value_made m k i w x worlds (new m s is) (Some (Elements ty.Byte (length (bytes_of s))))
        (λ q h. absurd (names_none m s is q h)) (source.Elements (bytes_of s))
        (λ now grows named formed. stands m s is now (next_serial x) formed) in
        let live = got_by m.adts (ty.ArrayOf ty.Byte) (Operate TextBytes) in
        block_comes m b k i w x [] n f 0 p q on hold worlds into there.0 refl it
        (reaches_it m b i p q [] n f 0 k w x on hold worlds instr here it refl)
        rest.0 rest.1 (new m s is)
        ((strings_come frames_limit (object_of m) x q).convert.as_bytes (own (at_slot a)) (own (at_slot into)) middle.None s (new m s is) dest
        (reads_text m k i w x p q hold worlds [] n f 0 on a t) (array_made m s is))
        made.now (after_it s) made.made made.after (ty.ArrayOf ty.Byte) live (Array (Some (whole_of s)))
        (λ words e.
        a_value words (number_place m.adts (types_of m f) into) (at_slot into) (ty.ArrayOf ty.Byte) live (Array (Some (whole_of s)))
        (an_array (at_slot into) ty.Byte (Some (next_serial x)) (Some (whole_of s)) e (inl (record { fact = made.known; formed = made.formed }, refl)))
        (λ l o h. one_named l o (length w.heap) h))
        (next_on m k i x [] n f 0 p q on instr here 1 refl refl)
        (goes_on_behind m k i x [] n f 0 p q on instr here 0 (suc p.frame.pc) _ (omega arith) refl)
        (ap (code.next frames_limit (program m) w p) here
        ∙ ap (λ (v : core.Slot). gives (text_of (core.value_of v))) t.holds)
      where
        gives : List ℕ → code.Does
        gives s = Went (after_it s) (put_on p into (Holds (Array (Some (whole_of s)))))

        one_named : (l o name : ℕ) → slice_get (Some name ∷ []) l ≡ Some (Some o) → held.Has (0 ∷ []) l
        one_named zero o name h = inl refl
        one_named (suc l) o name h = absurd cc

bytes_go : (m : typed.Module) (b : Base m) (into a : ℕ)
    → InstrGoes m (instr m b into a)
bytes_go m b into a k i x p q ready here =
    one_goes m b i p q k x ready (λ now w y on hold worlds.
    bytes m b into a now i w y ready.0.stands.is.number ready.0.stands.is.function p q on hold worlds here)

pub text_bytes_go : TextBytesGo
text_bytes_go m b t into from k i x p q ready here =
    let it = Give t (Operate TextBytes) into from in
    let r = ready.0 in
    let known = r.stands.is.known in
    let found = finds m r.stands.is.function p.frame.pc known it r.stands.goes (code_here m k i x p q r it here) in
    let slot = one_slot known from ty.Chars (subst (AreThese known from) found.2.0.0 found.1) in
    bytes_go m b into slot.0 k i x p q ready
    (here ∙ ap (λ (u : Ty). Some (Give u (Operate TextBytes) into from)) found.2.0.1
    ∙ ap (λ (rs : List ℕ). Some (Give (ty.ArrayOf ty.Byte) (Operate TextBytes) into rs)) slot.1)
