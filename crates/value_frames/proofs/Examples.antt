-- A frame in words, worked out by hand, also with busy slots; chains of one record and of two; a pair that is put together; a big in its
-- box; blocks that are idle, and references and blocks that aren't.
use Rattle.std.proofs.Common.{◌≡◌, ℕ, zero, suc, ◌+◌, ◌*◌, ◌/◌, ◌<◌, pos, List, [], ◌∷◌, length, Option, Some, None, refl, inl, inr}
use Rattle.std.proofs.Common.{arith, sym, subst, ◌∙◌, ap, Bool, if◌then◌else◌}
use Rattle.std.proofs.lemmas.Bool.Decides.{eqb_tells}
use Rattle.std.specs.Prelude.{ℤ, slice_get}
use Rattle.std.proofs.lemmas.Int.{ints}
use Rattle.heap_model.specs.Heap.{Heap}
use Rattle.heap_model.specs.Facts.{Fact, Named, Chars, Carrier}
use Rattle.limbo_types.specs.Types as ty
use Rattle.limbo_types.specs.Types.{Ty}
use Rattle.limbo_layout.specs.Adts.{Has}
use Rattle.limbo_layout.specs.Layout.{nothing, number, reference, is_alone, none_laid, more_laid}
use Rattle.limbo_values.specs.declared.number.Kind.TheVariants as kind
use Rattle.limbo_values.specs.Numbers.{InRange}
use Rattle.limbo_meaning.specs.Values.{Num, Ref, Parts, row}
use Rattle.core_code.specs.Slots as core
use Rattle.core_code.specs.Slots.{Holds}
use Rattle.core_typing.specs.Held as held
use Rattle.core_typing.specs.Held.{Of}
use Rattle.dis_meaning.specs.Words.{Word, Plain, Refer}
use Rattle.dis_meaning.specs.Counts.{refers as refers_once}
use Rattle.dis_memory.specs.Blocks.{Block, Record}
use Rattle.dis_memory.specs.Naming.{inside}
use Rattle.dis_memory.specs.Strings.{byte_type}
use Rattle.value_words.specs.Contents.{AreInRange}
use Rattle.value_words.specs.Forms.{Form, Cells, OwnedBy}
use Rattle.value_words.specs.Facts.{Facts, IsName, Grows}
use Rattle.value_words.specs.Stands.{Stands, a_number, a_name, a_tuple, none_stand, more_stand}
use Rattle.value_heaps.specs.Blocks.{IsWithin}
use Rattle.value_frames.specs.Frames.{frame_bytes, frame_references, number_place, reference_place, turn_bytes, turn_references}
use Rattle.value_frames.specs.Types.{AreOf, desc}
use Rattle.value_frames.specs.Standing.{NamesOnly, IsBox, IsIdle, nothing_there, text_left, carrier_left, SlotStands, a_value, a_forming, a_loop}
use Rattle.value_frames.specs.Standing.{a_chain, no_more, one_more, RegionStands, more_slots, no_slot, WordsAre}
use Rattle.value_frames.proofs.Slots.{slots_change}

-- ---- where nothing refers, a type's map is empty

type_of_bytes : desc 1 [] ≡ byte_type
type_of_bytes = refl

-- ---- words that are of their type, by what refers among them

abbrev pub refers : (number : ℕ) → List Word → List ℕ
refers n [] = []
refers n (Refer r ∷ ws) = 4 * n ∷ refers (suc n) ws
refers n (w ∷ ws) = refers (suc n) ws

refers_there : (n : ℕ) (ws : List Word) (o : ℕ) → Has (refers n ws) o
    → (k : ℕ) × (r : Option ℕ) × (4 * (n + k) ≡ o) × (slice_get ws k ≡ Some (Refer r))
refers_there n [] o h = absurd h
refers_there n (Refer r ∷ ws) o (inl e) = (0, r, omega (arith, e), refl)
refers_there n (Refer r ∷ ws) o (inr h) =
    let i = refers_there (suc n) ws o h in let e = i.2 in (suc i.0, i.1, omega (arith, e), i.3)
refers_there n (w ∷ ws) o h =
    let i = refers_there (suc n) ws o h in let e = i.2 in (suc i.0, i.1, omega (arith, e), i.3)

is_there : (n : ℕ) (ws : List Word) (k : ℕ) (r : Option ℕ) → slice_get ws k ≡ Some (Refer r) → Has (refers n ws) (4 * (n + k))
is_there n [] k r e = absurd cc
is_there n (Refer s ∷ ws) zero r e = inl (omega arith)
is_there n (Refer s ∷ ws) (suc k) r e =
    inr (subst (λ (m : ℕ). Has (refers (suc n) ws) (4 * m)) (omega arith) (is_there (suc n) ws k r e))
is_there n (w ∷ ws) zero r e = absurd cc
is_there n (w ∷ ws) (suc k) r e = subst (λ (m : ℕ). Has (refers (suc n) ws) (4 * m)) (omega arith) (is_there (suc n) ws k r e)

pub kind_by : (ws : List Word) (size : ℕ) (offsets : List ℕ) → length ws ≡ size / 4 → refers 0 ws ≡ offsets → AreInRange ws
    → AreOf size offsets ws
kind_by ws size offsets long same ranged = record {
  many = long;
  ranged = ranged;
  refer = λ o h.
      let i = refers_there 0 ws o (subst (λ (os : List ℕ). Has os o) (sym same) h) in
      let e = i.2 in
      (i.1, ap (slice_get ws) (let f : o / 4 ≡ i.0 = omega (arith, e) in f) ∙ i.3);
  only = λ w r e.
      subst (λ (os : List ℕ). Has os (4 * w)) same (subst (λ (m : ℕ). Has (refers 0 ws) (4 * m)) (omega arith) (is_there 0 ws w r e));
}

small : (n : ℕ) (z : ℤ) → n < 2147483648 → pos n ≡ z → InRange kind.Int z
small n z l e = subst (λ y. InRange kind.Int y) e (record { above = omega (arith, ints); below = omega (arith, ints) })

data AreSmall : List Word → Type 0 where
  no_words : AreSmall []
  plain_word : (n : ℕ) (ws : List Word) → n < 2147483648 → AreSmall ws → AreSmall (Plain (pos n) ∷ ws)
  refer_word : (r : Option ℕ) (ws : List Word) → AreSmall ws → AreSmall (Refer r ∷ ws)

zero_word : (ws : List Word) → AreSmall ws → AreSmall (Plain (pos 0) ∷ ws)
zero_word ws h = plain_word 0 ws (omega arith) h

in_range : (ws : List Word) → AreSmall ws → AreInRange ws
in_range _ no_words k z e = absurd cc
in_range _ (plain_word n ws l h) zero z e = small n z l cc
in_range _ (plain_word n ws l h) (suc k) z e = in_range ws h k z e
in_range _ (refer_word r ws h) zero z e = absurd cc
in_range _ (refer_word r ws h) (suc k) z e = in_range ws h k z e

-- ---- Block 3 stands for value 9, which is a cell of a list of ints, and block 4 for "H". Blocks 5, 6 and 7 are frame 20's own. Block 8
-- is the box of the big 5, block 9 has block 4 for good, and block 10 block 3.

abbrev ints_list : Ty
ints_list = ty.ListOf ty.Int

abbrev box : List Word
box = Plain (pos 0) ∷ Plain (pos 5) ∷ []

abbrev text_box : List Word
text_box = Refer (Some 4) ∷ []

abbrev list_box : List Word
list_box = Refer (Some 3) ∷ []

abbrev known_of : ℕ → Option (Fact Block)
known_of (suc (suc (suc zero))) = Some (Named 9)
known_of (suc (suc (suc (suc zero)))) = Some (Chars (72 ∷ []))
known_of (suc (suc (suc (suc (suc (suc (suc (suc zero)))))))) = Some (Carrier (Record box))
known_of (suc (suc (suc (suc (suc (suc (suc (suc (suc zero))))))))) = Some (Carrier (Record text_box))
known_of (suc (suc (suc (suc (suc (suc (suc (suc (suc (suc zero)))))))))) = Some (Carrier (Record list_box))
known_of b = None

abbrev formed_of : ℕ → Option Form
formed_of (suc (suc (suc zero))) = Some (Cells ty.Int)
formed_of (suc (suc (suc (suc (suc zero))))) = Some (OwnedBy 20)
formed_of (suc (suc (suc (suc (suc (suc zero)))))) = Some (OwnedBy 20)
formed_of (suc (suc (suc (suc (suc (suc (suc zero))))))) = Some (OwnedBy 20)
formed_of b = None

only_three : (n m : ℕ) → known_of n ≡ Some (Named m) → n ≡ 3
only_three zero m e = absurd cc
only_three (suc zero) m e = absurd cc
only_three (suc (suc zero)) m e = absurd cc
only_three (suc (suc (suc zero))) m e = refl
only_three (suc (suc (suc (suc zero)))) m e = absurd cc
only_three (suc (suc (suc (suc (suc zero))))) m e = absurd cc
only_three (suc (suc (suc (suc (suc (suc zero)))))) m e = absurd cc
only_three (suc (suc (suc (suc (suc (suc (suc zero))))))) m e = absurd cc
only_three (suc (suc (suc (suc (suc (suc (suc (suc zero)))))))) m e = absurd cc
only_three (suc (suc (suc (suc (suc (suc (suc (suc (suc zero))))))))) m e = absurd cc
only_three (suc (suc (suc (suc (suc (suc (suc (suc (suc (suc zero)))))))))) m e = absurd cc
only_three (suc (suc (suc (suc (suc (suc (suc (suc (suc (suc (suc n))))))))))) m e = absurd cc

abbrev known : Facts
known = record {
  fact = known_of;
  maker = λ b. None;
  form = formed_of;
  once = λ m n n' e f. only_three n m e ∙ sym (only_three n' m f);
}

-- ---- a frame with a variable, an int, and two slots: the int 7, beside which the text is left, and the name of the list

abbrev behind_linkage : List Word
behind_linkage =
    Plain (pos 5) ∷ Refer None ∷ Plain (pos 7) ∷ Refer (Some 4) ∷ Plain (pos 0) ∷ Refer (Some 3) ∷ []

abbrev words : List Word
words =
    Plain (pos 0) ∷ Plain (pos 0) ∷ Plain (pos 0) ∷ Plain (pos 0) ∷ Plain (pos 0) ∷ Plain (pos 0) ∷ Plain (pos 0) ∷ Plain (pos 0)
    ∷ behind_linkage

abbrev held_slots : held.Slots
held_slots = Of ty.Int [] ∷ Of ints_list (0 ∷ []) ∷ []

abbrev slots : core.Slots
slots = Holds (Num (pos 7)) ∷ Holds (Ref (Some 9)) ∷ []

words_small : AreSmall words
words_small =
    zero_word _ (zero_word _ (zero_word _ (zero_word _ (zero_word _ (zero_word _ (zero_word _ (zero_word _
    (plain_word 5 _ (omega arith) (refer_word None _ (plain_word 7 _ (omega arith) (refer_word (Some 4) _
    (zero_word _ (refer_word (Some 3) _ no_words)))))))))))))

-- The variable lies at 32, the spare word at 36, and the slots from 40 on.
bytes_are : frame_bytes [] (ty.Int ∷ []) 2 ≡ 56
bytes_are = refl

references_are : frame_references [] (ty.Int ∷ []) 2 ≡ 36 ∷ 44 ∷ 52 ∷ []
references_are = refl

no_name : (z : ℤ) → NamesOnly [] (Num z)
no_name z k n e = absurd cc

-- the name of a list is the reference of number 0
first_name : NamesOnly (0 ∷ []) (Ref (Some 9))
first_name zero n e = inl refl
first_name (suc k) n e = absurd cc

module _ (x : Heap Block) where
  abbrev At : (s : ℕ) → held.Held → core.Slot → Type 0
  At s h l = SlotStands [] known x 20 words (number_place [] (ty.Int ∷ []) s) (reference_place [] (ty.Int ∷ []) s) h l []

  each_slot : (s : ℕ) (h : held.Held) (l : core.Slot) → slice_get held_slots s ≡ Some h → slice_get slots s ≡ Some l → At s h l
  each_slot zero h l e f =
      let a : Of ty.Int [] ≡ h = cc in
      let b : Holds (Num (pos 7)) ≡ l = cc in
      subst (λ (i : held.Held). At 0 i l) a (subst (λ (j : core.Slot). At 0 (Of ty.Int []) j) b
      (a_value words 40 44 ty.Int [] (Num (pos 7))
      (a_number 40 kind.Int (pos 7) refl (small 7 (pos 7) (omega arith) refl), (Some 4, refl, text_left 4 (72 ∷ []) refl))
      (no_name (pos 7))))
  each_slot (suc zero) h l e f =
      let a : Of ints_list (0 ∷ []) ≡ h = cc in
      let b : Holds (Ref (Some 9)) ≡ l = cc in
      subst (λ (i : held.Held). At 1 i l) a (subst (λ (j : core.Slot). At 1 (Of ints_list (0 ∷ [])) j) b
      (a_value words 48 52 ints_list (0 ∷ []) (Ref (Some 9))
      (a_name 52 ints_list (Some 3) (Some 9) tt refl (record { fact = refl; formed = refl })) first_name))
  each_slot (suc (suc s)) h l e f = absurd cc

  frame_stands : WordsAre [] known x 20 [] (ty.Int ∷ []) held_slots (Num (pos 5) ∷ []) slots words
  frame_stands = record {
    laid = more_laid ty.Int [] (number 4) [] (is_alone ty.Int (number 4) refl) none_laid;
    kind = kind_by words 56 (36 ∷ 44 ∷ 52 ∷ []) refl refl (in_range words words_small);
    values = more_stand 32 nothing ty.Int [] (number 4) [] (Num (pos 5)) []
        (a_number 32 kind.Int (pos 5) refl (small 5 (pos 5) (omega arith) refl)) (none_stand 32 _);
    as_many = refl;
    own = λ s. [];
    none_past = λ s l. refl;
    busy_bare = λ s e. refl;
    each = λ s h l free. each_slot s h l;
    single = λ s. tt;
    apart = λ s r b i j. absurd i;
  }

-- ---- while a slot is busy, nothing is said of its words: the second waits for the name of a list

abbrev busy_words : List Word
busy_words =
    Plain (pos 0) ∷ Plain (pos 0) ∷ Plain (pos 0) ∷ Plain (pos 0) ∷ Plain (pos 0) ∷ Plain (pos 0) ∷ Plain (pos 0) ∷ Plain (pos 0)
    ∷ Plain (pos 5) ∷ Refer None ∷ Plain (pos 7) ∷ Refer (Some 4) ∷ Plain (pos 1) ∷ Refer (Some 10) ∷ []

busy_small : AreSmall busy_words
busy_small =
    zero_word _ (zero_word _ (zero_word _ (zero_word _ (zero_word _ (zero_word _ (zero_word _ (zero_word _
    (plain_word 5 _ (omega arith) (refer_word None _ (plain_word 7 _ (omega arith) (refer_word (Some 4) _
    (plain_word 1 _ (omega arith) (refer_word (Some 10) _ no_words)))))))))))))

same_elsewhere : (w : ℕ) → (IsWithin 48 8 w → ⊥) → slice_get busy_words w ≡ slice_get words w
same_elsewhere (suc (suc (suc (suc (suc (suc (suc (suc (suc (suc (suc (suc zero)))))))))))) n = absurd (n (omega arith, omega arith))
same_elsewhere (suc (suc (suc (suc (suc (suc (suc (suc (suc (suc (suc (suc (suc zero))))))))))))) n = absurd (n (omega arith, omega arith))
same_elsewhere w n = refl

same_known : Grows known known
same_known = record { facts = λ b f e. e; makers = λ b i e. e; forms = λ b o e. e }

abbrev Stand : (x : Heap Block) → (busy : List ℕ) → (words : List Word) → Type 0
Stand x busy words = WordsAre [] known x 20 busy (ty.Int ∷ []) held_slots (Num (pos 5) ∷ []) slots words

busy_stands : (x : Heap Block) → (after : Stand x (1 ∷ []) busy_words) × (after.own ≡ (λ s. []))
unfolding frame_stands
busy_stands x =
    slots_change.leaves [] known known x x 20 [] (ty.Int ∷ []) held_slots (Num (pos 5) ∷ []) slots words busy_words 1 (frame_stands x)
    same_known refl (record { each = same_elsewhere })
    (kind_by busy_words 56 (36 ∷ 44 ∷ 52 ∷ []) refl refl (in_range busy_words busy_small)) (λ r b i. absurd i)

-- the first comes to be busy too, and no word changes
both_busy : (x : Heap Block) → Stand x (0 ∷ 1 ∷ []) busy_words
both_busy x =
    let (before, bare) = busy_stands x in
    (slots_change.leaves [] known known x x 20 (1 ∷ []) (ty.Int ∷ []) held_slots (Num (pos 5) ∷ []) slots busy_words busy_words 0 before
    same_known (ap (λ (own : ℕ → List ℕ). own 0) bare) (record { each = λ w n. refl }) before.kind
    (λ r b i. absurd (subst (λ (own : ℕ → List ℕ). Has (own r) b) bare i))).0

-- and both stand at once for what they stood for, in the words of before
both_stand : (x : Heap Block) → Stand x [] words
both_stand x =
    (slots_change.several [] known known x x 20 (0 ∷ 1 ∷ []) [] (ty.Int ∷ []) held_slots held_slots (Num (pos 5) ∷ []) slots slots
    busy_words words (λ s. []) (both_busy x) same_known refl refl
    (record { each = λ w n. sym (same_elsewhere w (λ i. let a = i.0 in let b = i.1 in n (omega (arith, a), omega (arith, b)))) })
    (frame_stands x).kind (λ s l. refl) (λ s i. refl) (λ s h l free e f. inr (each_slot x s h l e f)) (λ s. tt) (λ s r b i j. absurd i)).0

-- ---- loops of which each turn left 7 in its one slot

abbrev turn : (next last : Option ℕ) → List Word
turn next last = Refer next ∷ Refer last ∷ Plain (pos 7) ∷ Refer None ∷ []

abbrev heap : Heap Block
heap =
    None ∷ None ∷ None ∷ None ∷ None ∷ Some (Record (turn None None)) ∷ Some (Record (turn (Some 7) (Some 7)))
    ∷ Some (Record (turn None None)) ∷ []

abbrev held_turn : held.Region
held_turn = held.MoreSlots (Of ty.Int []) held.NoSlot

abbrev turn_slots : core.Region
turn_slots = core.MoreSlots (Holds (Num (pos 7))) core.NoSlot

turn_kind : (next last : Option ℕ) → AreOf (turn_bytes 1) (turn_references 1) (turn next last)
turn_kind next last =
    kind_by (turn next last) 16 (0 ∷ 4 ∷ 12 ∷ []) refl refl
    (in_range (turn next last) (refer_word next _ (refer_word last _ (plain_word 7 _ (omega arith) (refer_word None _ no_words)))))

turn_stands : (next last : Option ℕ) → RegionStands [] known heap 20 (turn next last) 8 held_turn turn_slots []
turn_stands next last =
    more_slots (turn next last) 8 (Of ty.Int []) held.NoSlot (Holds (Num (pos 7))) core.NoSlot [] []
    (a_value (turn next last) 8 12 ty.Int [] (Num (pos 7))
    (a_number 8 kind.Int (pos 7) refl (small 7 (pos 7) (omega arith) refl), (None, refl, nothing_there)) (no_name (pos 7)))
    (no_slot (turn next last) 16)

abbrev one_slot : (number block : ℕ) → List Word
one_slot n b = Plain (pos n) ∷ Refer (Some b) ∷ []

-- Block 5 is the one record of a chain.
one_turn : SlotStands [] known heap 20 (one_slot 1 5) 0 4 (held.Turns (held.MoreRegions held_turn held.NoRegion))
    (core.Turns 1 (core.MoreRegions turn_slots core.NoRegion)) (5 ∷ [])
one_turn =
    a_loop (one_slot 1 5) 0 4 1 (held.MoreRegions held_turn held.NoRegion) (core.MoreRegions turn_slots core.NoRegion) (5 ∷ []) refl
    (a_chain (one_slot 1 5) (turn None None) 4 5 None held_turn held.NoRegion turn_slots core.NoRegion [] []
    (record { word = refl; there = refl; free = tt; formed = refl; kind = turn_kind None None }) refl (turn_stands None None)
    (no_more (turn None None) 0 refl))

-- Blocks 6 and 7 are the two of another: the first has at 4 the last.
two_turns : SlotStands [] known heap 20 (one_slot 2 6) 0 4
    (held.Turns (held.MoreRegions held_turn (held.MoreRegions held_turn held.NoRegion)))
    (core.Turns 2 (core.MoreRegions turn_slots (core.MoreRegions turn_slots core.NoRegion))) (6 ∷ 7 ∷ [])
two_turns =
    a_loop (one_slot 2 6) 0 4 2 (held.MoreRegions held_turn (held.MoreRegions held_turn held.NoRegion))
    (core.MoreRegions turn_slots (core.MoreRegions turn_slots core.NoRegion)) (6 ∷ 7 ∷ []) refl
    (a_chain (one_slot 2 6) (turn (Some 7) (Some 7)) 4 6 (Some 7) held_turn (held.MoreRegions held_turn held.NoRegion) turn_slots
    (core.MoreRegions turn_slots core.NoRegion) [] (7 ∷ [])
    (record { word = refl; there = refl; free = tt; formed = refl; kind = turn_kind (Some 7) (Some 7) }) refl
    (turn_stands (Some 7) (Some 7))
    (one_more (turn (Some 7) (Some 7)) (turn None None) 0 7 None held_turn held.NoRegion turn_slots core.NoRegion [] []
    (record { word = refl; there = refl; free = tt; formed = refl; kind = turn_kind None None }) refl (turn_stands None None)
    (no_more (turn None None) 0 refl)))

-- ---- a pair of an int and a list is put together in frame 20's block 5: the int is there, and then the list

abbrev pair : Ty
pair = ty.Tuple (ty.MoreTys ty.Int (ty.MoreTys ints_list ty.NoTys))

abbrev pair_words : (second : Option ℕ) → List Word
pair_words r = Plain (pos 7) ∷ Refer r ∷ []

abbrev pair_heap : (second : Option ℕ) → Heap Block
pair_heap r = None ∷ None ∷ None ∷ None ∷ None ∷ Some (Record (pair_words r)) ∷ []

pair_kind : (r : Option ℕ) → AreOf 8 (4 ∷ []) (pair_words r)
pair_kind r =
    kind_by (pair_words r) 8 (4 ∷ []) refl refl (in_range (pair_words r) (plain_word 7 _ (omega arith) (refer_word r _ no_words)))

pair_stands : (r o : Option ℕ) → IsName known (Some (Cells ty.Int)) r o
    → Stands [] known (pair_words r) 0 pair (Parts (row (Num (pos 7) ∷ Ref o ∷ [])))
pair_stands r o i =
    a_tuple 0 (ty.MoreTys ty.Int (ty.MoreTys ints_list ty.NoTys)) (number 4 ∷ reference ∷ []) (Num (pos 7) ∷ Ref o ∷ [])
    (more_laid ty.Int _ (number 4) _ (is_alone ty.Int (number 4) refl)
    (more_laid ints_list [] reference [] (is_alone ints_list reference refl) none_laid))
    (more_stand 0 nothing ty.Int _ (number 4) _ (Num (pos 7)) _ (a_number 0 kind.Int (pos 7) refl (small 7 (pos 7) (omega arith) refl))
    (more_stand 0 _ ints_list [] reference [] (Ref o) [] (a_name 4 ints_list r o tt refl i) (none_stand 0 _)))

pair_begun : SlotStands [] known (pair_heap None) 20 (one_slot 0 5) 0 4 (held.Forming pair None (0 ∷ []) (ty.Int ∷ []) [])
    (core.Forms (Num (pos 7) ∷ [])) (5 ∷ [])
pair_begun =
    a_forming (one_slot 0 5) (pair_words None) 0 4 5 pair None (0 ∷ []) (ty.Int ∷ []) [] (Num (pos 7) ∷ [])
    (record { word = refl; there = refl; free = tt; formed = refl; kind = pair_kind None })
    (record {
      stands = pair_stands None None tt;
      as_many = refl;
      typed = refl;
      named = λ n h. h;
      names = λ n h. h;
      only = no_second;
    })
  where
    no_second : NamesOnly [] (Parts (row (Num (pos 7) ∷ Ref None ∷ [])))
    no_second zero n e = absurd cc
    no_second (suc k) n e = absurd cc

pair_formed : SlotStands [] known (pair_heap (Some 3)) 20 (one_slot 0 5) 0 4
    (held.Forming pair None (0 ∷ 1 ∷ []) (ty.Int ∷ ints_list ∷ []) (0 ∷ [])) (core.Forms (Num (pos 7) ∷ Ref (Some 9) ∷ [])) (5 ∷ [])
pair_formed =
    a_forming (one_slot 0 5) (pair_words (Some 3)) 0 4 5 pair None (0 ∷ 1 ∷ []) (ty.Int ∷ ints_list ∷ []) (0 ∷ [])
    (Num (pos 7) ∷ Ref (Some 9) ∷ []) (record { word = refl; there = refl; free = tt; formed = refl; kind = pair_kind (Some 3) })
    (record {
      stands = pair_stands (Some 3) (Some 9) (record { fact = refl; formed = refl });
      as_many = refl;
      typed = refl;
      named = λ n h. h;
      names = λ n h. h;
      only = the_second;
    })
  where
    the_second : NamesOnly (0 ∷ []) (Parts (row (Num (pos 7) ∷ Ref (Some 9) ∷ [])))
    the_second zero n e = inl refl
    the_second (suc k) n e = absurd cc

-- ---- a big stands in a box, to which the slot may refer idly later

big_box : IsBox [] known ty.Big 8 box
big_box = record {
  carries = refl;
  kind = kind_by box 8 [] refl refl (in_range box (zero_word _ (plain_word 5 _ (omega arith) no_words)));
}

big_stands : (x : Heap Block) → SlotStands [] known x 20 (one_slot 0 8) 0 4 (Of ty.Big []) (Holds (Num (pos 5))) []
big_stands x =
    a_value (one_slot 0 8) 0 4 ty.Big [] (Num (pos 5))
    (8, box, refl, big_box, a_number 0 kind.Big (pos 5) refl (record { above = omega (arith, ints); below = omega (arith, ints) }))
    (no_name (pos 5))

big_idle : IsIdle [] known (Some 8)
big_idle = carrier_left 8 (Record box) refl (λ q i. absurd (omega (arith, i)))

text_box_idle : IsIdle [] known (Some 9)
text_box_idle = carrier_left 9 (Record text_box) refl only_text
  where
    only_text : (q : ℕ) → 0 < inside (Record text_box) q → (text : List ℕ) × (known_of q ≡ Some (Chars text))
    only_text q i = elim (eqb_tells 4 q) [
      | inl y ↦ (72 ∷ [], ap known_of (sym y.1))
      | inr y ↦
          let e : refers_once q (Refer (Some 4)) ≡ 0 = ap (λ (b : Bool). if b then 1 else 0) y.0 in
          absurd (omega (arith, i, e))
    ]

-- ---- what stands for a value of the heap isn't left idle, nor a block that names one

not_idle : (r : Option ℕ) → r ≡ Some 3 → IsIdle [] known r → ⊥
not_idle _ e nothing_there = absurd cc
not_idle _ e (text_left b text f) =
    let same : b ≡ 3 = cc in
    let g : Some (Named 9) ≡ Some (Chars text) = ap known_of (sym same) ∙ f in
    absurd cc
not_idle _ e (carrier_left b d f texts) =
    let same : b ≡ 3 = cc in
    let g : Some (Named 9) ≡ Some (Carrier d) = ap known_of (sym same) ∙ f in
    absurd cc

list_box_not_idle : (r : Option ℕ) → r ≡ Some 10 → IsIdle [] known r → ⊥
list_box_not_idle _ e nothing_there = absurd cc
list_box_not_idle _ e (text_left b text f) =
    let same : b ≡ 10 = cc in
    let g : Some (Carrier (Record list_box)) ≡ Some (Chars text) = ap known_of (sym same) ∙ f in
    absurd cc
list_box_not_idle _ e (carrier_left b d f texts) =
    let same : b ≡ 10 = cc in
    let g : Some (Carrier (Record list_box)) ≡ Some (Carrier d) = ap known_of (sym same) ∙ f in
    let h : Record list_box ≡ d = cc in
    let i : Some (Named 9) ≡ Some (Chars (texts 3 (named d h)).0) = (texts 3 (named d h)).1 in
    absurd cc
  where
    named : (d : Block) → Record list_box ≡ d → 0 < inside d 3
    named d h = subst (λ (c : Block). 0 < inside c 3) h (omega arith)
