-- For what the block of an array stands once elements were copied over others.
use Rattle.std.proofs.Common.{◌≡◌, ℕ, pos, ◌+◌, ◌*◌, ◌<◌, ◌≤◌, ◌⊎◌, ◌%◌, ◌/◌, List, length, Option, Some, sym, ap, ◌∙◌, subst, arith, inl, inr}
use Rattle.std.specs.Prelude.{slice_get}
use Rattle.std.proofs.Math.Nat.{mul-mod_left, mul-le-mul_right, mul_assoc, suc-mul}
use Rattle.std.proofs.lemmas.Nat.{div-add-mod'}
use Rattle.limbo_types.specs.Types.{Ty}
use Rattle.limbo_layout.specs.Adts.{Def, Has}
use Rattle.limbo_layout.specs.Layout.{Room, Laid}
use Rattle.limbo_values.specs.declared.number.Kind.TheVariants.{Int}
use Rattle.limbo_values.specs.Numbers.{InRange}
use Rattle.limbo_meaning.specs.Values.{Value}
use Rattle.limbo_meaning.specs.Memory as source
use Rattle.limbo_meaning.specs.Operations.{overwritten}
use Rattle.core_code.proofs.Rounds.{rounds_give_rooms}
use Rattle.dis_file.specs.declared.types.TypeDesc.{TypeDesc}
use Rattle.dis_meaning.specs.Words.{Word, Refer}
use Rattle.dis_memory.specs.Blocks as block
use Rattle.dis_memory.specs.Blocks.{Block}
use Rattle.value_words.specs.Contents.{AreInRange, content}
use Rattle.value_words.specs.Facts.{Facts}
use Rattle.value_words.specs.Forms as form
use Rattle.value_words.specs.Stands.{Stands}
use Rattle.value_words.proofs.Moved.{moved}
use Rattle.value_heaps.specs.Types.{desc_of}
use Rattle.value_heaps.specs.Blocks.{Constant, IsBlock, elements, AreWhole}
use Rattle.value_heaps.proofs.Formed as formed
use Rattle.value_heaps.proofs.Marks.{laid_size}
use Rattle.value_frames.specs.Frames.{room_for}
use Rattle.value_moves.specs.Writing.{Writes}
use Rattle.rows_copying.proofs.Lists.{times_more, times_least, over_long, over_at}

pub multiple : (i n a : ℕ) → n % a ≡ 0 → (i * n) % a ≡ 0
multiple i n a e =
    let f : n ≡ n / a * a = let d = div-add-mod' n a in omega (arith, d, e) in
    ap (λ m. (i * m) % a) f ∙ ap (λ m. m % a) (sym (mul_assoc i (n / a) a)) ∙ mul-mod_left (i * (n / a)) a

before_next : (i j size : ℕ) → i < j → i * size + size ≤ j * size
before_next i j size l = let a = mul-le-mul_right size l in let b = suc-mul i size in omega (arith, a, b)

-- The elements of an array lie in its block, one behind the other.
pub record AreLaid (defs : List Def) (k : Facts) (t : Ty) (words : List Word) (vs : List Value) (r : Room) : Type 0 where
  pub laid : Laid defs t r
  pub counted : InRange Int (pos (length vs))
  pub whole : AreWhole words 0 (length vs * r.size)
  pub each : (i : ℕ) (v : Value) → slice_get vs i ≡ Some v → Stands defs k words (i * r.size) t v
  pub only : (w : ℕ) (to : Option ℕ) → slice_get words w ≡ Some (Refer to)
      → (i : ℕ) × (i < length vs) × ((o : ℕ) × Has r.references o × (i * r.size + o ≡ 4 * w))

module _ (defs : List Def) (globals : List Ty) (constants : List Constant) (k : Facts) (serial : ℕ) where
  pub are_laid : (t : Ty) (desc : TypeDesc) (long n : ℕ) (words : List Word) (vs : List Value)
      → IsBlock defs globals constants k serial (source.Elements vs) (block.Array desc long words) → k.form serial ≡ Some (form.Elements t n)
      → (length vs ≡ long) × (long ≡ n) × (desc ≡ desc_of (room_for defs t)) × AreLaid defs k t words vs (room_for defs t)
  are_laid t desc long n words vs b e =
      let a = formed.are_elements defs globals constants k serial (source.Elements vs) (block.Array desc long words) t n b e in
      let f : source.Elements vs ≡ source.Elements a.values = a.value in
      let g : block.Array desc long words ≡ block.Array (desc_of a.room) n a.words = a.is in
      let values : vs ≡ a.values = cc in
      let many : long ≡ n = cc in
      let type : desc ≡ desc_of a.room = cc in
      let same : words ≡ a.words = cc in
      let room : room_for defs t ≡ a.room = rounds_give_rooms.rooms defs t a.room a.laid in
      let count : length a.values ≡ n = a.count in (
        ap length values ∙ count ∙ sym many,
        many,
        type ∙ ap desc_of (sym room),
        subst (λ (r : Room). AreLaid defs k t words vs r) (sym room)
            (subst (λ (us : List Value). AreLaid defs k t words us a.room) (sym values)
            (subst (λ (ws : List Word). AreLaid defs k t ws a.values a.room) (sym same)
            (record {
              laid = a.laid;
              counted = subst (λ (m : ℕ). InRange Int (pos m)) (sym count) a.counted;
              whole = subst (λ (m : ℕ). AreWhole a.words 0 (m * a.room.size)) (sym count) a.whole;
              each = a.each;
              only = λ w to h.
                  let x = a.only w to h in
                  (x.0, subst (λ (m : ℕ). x.0 < m) (sym count) x.1, x.2);
            }))),
      )

  module _ (t : Ty) (words others from_words : List Word) (vs us : List Value) (from at : ℕ) (a : AreLaid defs k t words vs (room_for defs t))
      (is_formed : k.form serial ≡ Some (form.Elements t (length vs))) (fits : at + length us ≤ length vs)
      (writes : Writes words others (at * (room_for defs t).size) from_words (from * (room_for defs t).size) (length us * (room_for defs t).size))
      (ranged : AreInRange from_words)
      (stand : (j : ℕ) (v : Value) → slice_get us j ≡ Some v → Stands defs k from_words ((from + j) * (room_for defs t).size) t v) where
    abbrev r : Room
    r = room_for defs t

    abbrev new : List Value
    new = overwritten vs at us

    many : length new ≡ length vs
    many = over_long vs us at fits

    ranges : AreInRange others
    ranges = writes.ranged ranged a.whole.1

    aligned : (j : ℕ) → (j * (room_for defs t).size) % (room_for defs t).align ≡ 0
    aligned j = multiple j r.size r.align (laid_size defs t r a.laid)

    -- an element that was copied
    copied : (n : ℕ) (v : Value) → n < length us → slice_get us n ≡ Some v → Stands defs k others ((at + n) * (room_for defs t).size) t v
    copied n v l e =
        moved from_words others ranged ranges defs k ((from + n) * r.size) ((at + n) * r.size) t r v a.laid (aligned (at + n)) same (stand n v e)
      where
        same : (o : ℕ) → o < (room_for defs t).size
            → content others ((at + n) * (room_for defs t).size + o) ≡ content from_words ((from + n) * (room_for defs t).size + o)
        same o h =
            let there = times_more at n r.size in
            let here = times_more from n r.size in
            let inside = before_next n (length us) r.size l in
            let to_there : (at + n) * r.size + o ≡ at * r.size + (n * r.size + o) = omega (arith, there) in
            let to_here : from * r.size + (n * r.size + o) ≡ (from + n) * r.size + o = omega (arith, here) in
            ap (content others) to_there ∙ writes.there (n * r.size + o) (omega (arith, inside, h)) ∙ ap (content from_words) to_here

    -- one that stays
    stays : (j : ℕ) (v : Value) → (j < at) ⊎ (at + length us ≤ j) → slice_get vs j ≡ Some v → Stands defs k others (j * (room_for defs t).size) t v
    stays j v apart e =
        moved words others a.whole.1 ranges defs k (j * r.size) (j * r.size) t r v a.laid (aligned j)
        (λ o h. writes.bytes (j * r.size + o) (outside o h apart)) (a.each j v e)
      where
        outside : (o : ℕ) → o < (room_for defs t).size → (j < at) ⊎ (at + length us ≤ j)
            → (j * (room_for defs t).size + o < at * (room_for defs t).size)
            ⊎ (at * (room_for defs t).size + length us * (room_for defs t).size ≤ j * (room_for defs t).size + o)
        outside o h (inl l) = let m = before_next j at r.size l in inl (omega (arith, m, h))
        outside o h (inr l) =
            let m = times_least (at + length us) j r.size l in
            let n = times_more at (length us) r.size in
            inr (omega (arith, m, n))

    each : (j : ℕ) (v : Value) → slice_get (overwritten vs at us) j ≡ Some v → Stands defs k others (j * (room_for defs t).size) t v
    each j v e = elim (over_at vs us at j v fits e) [
      | inl y ↦ subst (λ n. Stands defs k others (n * r.size) t v) (sym y.2) (copied y.0 v y.1 y.3)
      | inr y ↦ stays j v y.0 y.1
    ]

    pub copied_stands : IsBlock defs globals constants k serial (source.Elements (overwritten vs at us))
        (block.Array (desc_of (room_for defs t)) (length vs) others)
    copied_stands =
        subst (λ (m : ℕ). IsBlock defs globals constants k serial (source.Elements new) (block.Array (desc_of r) m others)) many
        (elements t r others new (is_formed ∙ ap (λ (m : ℕ). Some (form.Elements t m)) (sym many)) a.laid
        (subst (λ (m : ℕ). InRange Int (pos m)) (sym many) a.counted)
        (subst (λ (m : ℕ). AreWhole others 0 (m * r.size)) (sym many)
        (λ w h. let l = a.whole.0 w h in let same = writes.many in omega (arith, l, same), ranges))
        each
        (λ w to f. let s = writes.refer w to f in let h = a.only w s.0 s.1 in (h.0, subst (λ (m : ℕ). h.0 < m) (sym many) h.1, h.2)))
