-- Words that stand for values lead to what these name; and lists of words are accounted for word by word.
use Rattle.std.proofs.Common.{◌≡◌, ℕ, zero, suc, ◌+◌, ◌*◌, ◌/◌, ◌<◌, pos, Bool, List, [], ◌∷◌, ◌++◌, Option, Some, None, inl, inr, refl}
use Rattle.std.proofs.Common.{sym, ap, subst, arith, ◌∙◌, if◌then◌else◌}
use Rattle.std.specs.Prelude.{slice_get}
use Rattle.std.specs.Int.{next_multiple_of}
use Rattle.std.proofs.lemmas.Bool.Decides.{eqb_tells}
use Rattle.heap_model.specs.Heap.{Heap}
use Rattle.heap_model.specs.Facts.{Refers, itself, slice, Covers, refers, chars}
use Rattle.limbo_types.specs.Types as ty
use Rattle.limbo_types.specs.Types.{Ty}
use Rattle.limbo_layout.specs.Adts as adts
use Rattle.limbo_layout.specs.Adts.{Def, Has, parts}
use Rattle.limbo_layout.specs.Layout as layout
use Rattle.limbo_layout.specs.Layout.{Room, Laid, nothing, behind, is_alone, reference}
use Rattle.limbo_typed.specs.Fitting.{of_kind}
use Rattle.limbo_meaning.specs.Values as value
use Rattle.limbo_meaning.specs.Values.{Value, references, references_in, among, array_named}
use Rattle.limbo_meaning.specs.Origins.{Name}
use Rattle.core_code.proofs.Names.{row_references}
use Rattle.core_code.proofs.Rounds.{rounds_give_rooms}
use Rattle.dis_meaning.specs.Words.{Word, Plain, Refer, Address, Found, word_at}
use Rattle.dis_memory.specs.Blocks.{Block}
use Rattle.value_words.specs.Forms.{Form, form_of}
use Rattle.value_words.specs.Facts.{Facts, IsName, IsPart, IsNamed}
use Rattle.value_words.specs.Stands.{Stands, a_number, a_text, a_name, an_array, no_words, a_tuple, an_adt}
use Rattle.value_words.specs.Stands.{AllStand, none_stand, more_stand}
use Rattle.value_words.proofs.Bytes.{word_found, word_there}
use Rattle.value_words.proofs.Carrying.{number_laid, reference_laid}
use Rattle.value_words.proofs.Covered.{IsCovered, names_it}
use Rattle.value_frames.specs.Frames.{room_for}
use Rattle.value_frames.specs.Types.{AreOf}
use Rattle.value_roots.specs.Accounts.{Accounted, a_number as plain_number, an_address, to_nothing, AllAccounted, none, more}
use Rattle.value_roots.proofs.Words.{either}

-- ---- words by their places

pub has_at : (ws : List Word) (j : ℕ) (w : Word) → slice_get ws j ≡ Some w → Has ws w
has_at [] j w e = absurd cc
has_at (u ∷ ws) zero w e = inl cc
has_at (u ∷ ws) (suc j) w e = inr (has_at ws j w e)

pub word_has : (ws : List Word) (p : ℕ) (w : Word) → word_at ws (pos p) ≡ Found w → Has ws w
word_has ws p w e = has_at ws (p / 4) w (word_found ws p w e).1

module _ (k : Facts) (i : ℕ) (x : Heap Block) (names : ℕ → ℕ) where
  one_accounted : (w : Word) → ((b : ℕ) → w ≡ Refer (Some b) → Accounted k i x names (Refer (Some b))) → Accounted k i x names w
  one_accounted (Plain z) f = plain_number z
  one_accounted (Address p a) f = an_address p a
  one_accounted (Refer None) f = to_nothing
  one_accounted (Refer (Some b)) f = f b refl

  pub each_accounted : (ws : List Word)
      → ((j b : ℕ) → slice_get ws j ≡ Some (Refer (Some b)) → Accounted k i x names (Refer (Some b))) → AllAccounted k i x names ws
  each_accounted [] f = none
  each_accounted (w ∷ ws) f =
      more w ws (one_accounted w (λ b e. f 0 b (ap Some e))) (each_accounted ws (λ j b e. f (suc j) b e))

  -- words of a type are where those are that refer
  pub kind_accounted : (size : ℕ) (offsets : List ℕ) (ws : List Word) → AreOf size offsets ws
      → ((o b : ℕ) → Has offsets o → word_at ws (pos o) ≡ Found (Refer (Some b)) → Accounted k i x names (Refer (Some b)))
      → AllAccounted k i x names ws
  kind_accounted size offsets ws kind f = each_accounted ws (λ j b e.
      let same : 4 * j / 4 ≡ j = omega arith in
      f (4 * j) b (kind.only j (Some b) e)
      (word_there ws (4 * j) (Refer (Some b)) (omega arith) (ap (slice_get ws) same ∙ e)))

-- ---- names in rows

pub among_join : (n : ℕ) (rs ss : List (Option ℕ)) → among n (rs ++ ss) ≡ among n rs + among n ss
among_join n [] ss = omega arith
among_join n (r ∷ rs) ss = let a = among_join n rs ss in omega arith

pub one_is : (n m : ℕ) → 0 < value.one n (Some m) → n ≡ m
one_is n m h = elim (eqb_tells n m) [
  | inl y ↦ y.1
  | inr y ↦ let e : value.one n (Some m) ≡ 0 = ap (λ (b : Bool). if b then 1 else 0) y.0 in absurd (omega (arith, h, e))
]

pub one_names : (n : ℕ) → 0 < value.one n (Some n)
one_names n = let h = names_it n in omega (arith, h)

-- ---- values

module _ (defs : List Def) (k : Facts) where
  pub refers_named : (b n : ℕ) → IsNamed k (Some b) (Some n) → Refers k n b
  refers_named b n (inl e) = itself e
  refers_named b n (inr h) = slice h.0 h.1.0 h.1.1

  -- what stands for one of these names, or for a string, is accounted for where they are named
  pub covers_those : (names : ℕ → ℕ) (ns : List (Option ℕ)) (b : ℕ) → ((n : ℕ) → Name ns n → 0 < names n) → IsCovered k ns b
      → Covers k (λ n. 0 < names n) b
  covers_those names ns b named (inl h) = refers h.0 (named h.0 h.1) (refers_named b h.0 h.2)
  covers_those names ns b named (inr h) = chars h.0 h.1.0

  module _ (words : List Word) where
    -- a type whose values stand has a room
    in_room : (t : Ty) (r : Room) → Laid defs t r → Laid defs t (room_for defs t)
    in_room t r l = subst (λ (z : Room). Laid defs t z) (sym (rounds_give_rooms.rooms defs t r l)) l

    pub stands_laid : (at : ℕ) (t : Ty) (v : Value) → Stands defs k words at t v → Laid defs t (room_for defs t)
    stands_laid _ _ _ (a_number at kind z e i) = in_room (of_kind kind) _ (number_laid defs kind)
    stands_laid _ _ _ (a_text at r s e i) = in_room ty.Chars reference (is_alone ty.Chars reference refl)
    stands_laid _ _ _ (a_name at t r n i e j) = in_room t reference (reference_laid defs t i)
    stands_laid _ _ _ (an_array at t r p e i) = in_room (ty.ArrayOf t) reference (is_alone (ty.ArrayOf t) reference refl)
    stands_laid _ _ _ (no_words at) = in_room ty.Nothing nothing (is_alone ty.Nothing nothing refl)
    stands_laid _ _ _ (a_tuple at ts rs vs l all) = in_room (ty.Tuple ts) (layout.in_order rs) (layout.of_tuple ts rs l)
    stands_laid _ _ _ (an_adt at n d rs vs e l all) = in_room (ty.Adt n) (layout.in_order rs) (layout.of_adt n d rs e l)

    -- One of the words refers to a value.
    pub record IsReferred (n : ℕ) : Type 0 where
      pub block : ℕ
      pub has : Has words (Refer (Some block))
      pub is : Refers k n block

    name_referred : (at : ℕ) (asked : Option Form) (r o : Option ℕ) (n : ℕ) → word_at words (pos at) ≡ Found (Refer r)
        → IsName k asked r o → Name (o ∷ []) n → IsReferred n
    name_referred at asked r None n e i h = absurd (omega (arith, h))
    name_referred at asked None (Some m) n e i h = absurd i
    name_referred at None (Some b) (Some m) n e i h = absurd i
    name_referred at (Some form) (Some b) (Some m) n e i h =
        let same : n ≡ m = one_is n m (omega (arith, h)) in
        record { block = b; has = word_has words at (Refer (Some b)) e; is = subst (λ (j : ℕ). Refers k j b) (sym same) (itself i.fact) }

    part_referred : (at : ℕ) (t : Ty) (r : Option ℕ) (p : Option value.Part) (n : ℕ) → word_at words (pos at) ≡ Found (Refer r)
        → IsPart k t r p → Name (array_named p ∷ []) n → IsReferred n
    part_referred at t r None n e i h = absurd (omega (arith, h))
    part_referred at t None (Some p) n e i h = absurd i
    part_referred at t (Some b) (Some p) n e i h =
        let same : n ≡ p.array = one_is n p.array (omega (arith, h)) in
        record {
          block = b;
          has = word_has words at (Refer (Some b)) e;
          is = subst (λ (j : ℕ). Refers k j b) (sym same) (elim i [ inl j ↦ itself j.0.fact | inr j ↦ slice p.start p.long j.0 ]);
        }

    mutual
      pub value_referred : (at : ℕ) (t : Ty) (v : Value) (n : ℕ) → Stands defs k words at t v → Name (references v) n → IsReferred n
      value_referred _ _ _ n (a_number at kind z e i) h = absurd (omega (arith, h))
      value_referred _ _ _ n (a_text at r s e i) h = absurd (omega (arith, h))
      value_referred _ _ _ n (a_name at t r o i e j) h = name_referred at (form_of t) r o n e j h
      value_referred _ _ _ n (an_array at t r p e i) h = part_referred at t r p n e i h
      value_referred _ _ _ n (no_words at) h = absurd (omega (arith, h))
      value_referred _ _ _ n (a_tuple at ts rs vs l all) h =
          row_referred at nothing (adts.listed ts) rs vs n all (subst (λ (ns : List (Option ℕ)). Name ns n) (row_references vs) h)
      value_referred _ _ _ n (an_adt at d def rs vs e l all) h =
          row_referred at nothing (parts def) rs vs n all (subst (λ (ns : List (Option ℕ)). Name ns n) (row_references vs) h)

      pub row_referred : (at : ℕ) (w : Room) (ts : List Ty) (rs : List Room) (vs : List Value) (n : ℕ)
          → AllStand defs k words at w ts rs vs → Name (references_in vs) n → IsReferred n
      row_referred _ _ _ _ _ n (none_stand at w) h = absurd (omega (arith, h))
      row_referred _ _ _ _ _ n (more_stand at w t ts r rs v vs s all) h =
          let j = among_join n (references v) (references_in vs) in
          elim (either (among n (references v)) (among n (references_in vs)) (omega (arith, h, j))) [
            | inl g ↦ value_referred (at + next_multiple_of w.size r.align) t v n s g
            | inr g ↦ row_referred at (behind w r) ts rs vs n all g
          ]
