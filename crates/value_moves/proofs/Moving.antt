-- One instruction moves a value, of whatever type.
use Rattle.std.proofs.Common.{◌≡◌, ℕ, zero, suc, ◌+◌, ◌*◌, ◌<◌, ◌≤◌, ℤ, pos, negsuc, ◌+ℤ◌, ◌*ℤ◌, ◌^◌, ◌/◌, ◌%◌, Bool, true, false}
use Rattle.std.proofs.Common.{List, [], ◌∷◌, ◌++◌, Option, Some, refl, sym, ap, ◌∙◌, subst, arith, inl, w32, if◌then◌else◌}
use Rattle.std.specs.Prelude.{◌&&◌, slice_get, slice_set, slice_index}
use Rattle.std.specs.Int.{cast_unsigned, to_be_bytes, next_multiple_of}
use Rattle.std.proofs.lemmas.Int.{ints}
use Rattle.limbo_types.specs.Types as ty
use Rattle.limbo_types.specs.Types.{Ty}
use Rattle.limbo_layout.specs.Adts.{Def, Has}
use Rattle.limbo_layout.specs.Layout.{Room, is_alone, number, reference, is_in}
use Rattle.limbo_layout.proofs.Rooms.{one_room}
use Rattle.limbo_meaning.specs.Values.{Value}
use Rattle.limbo_values.specs.declared.number.Kind.TheVariants as kind
use Rattle.limbo_values.specs.Numbers.{InRange}
use Rattle.limbo_values.proofs.Ranges.{always}
use Rattle.core_code.proofs.Rounds.{rounds_give_rooms}
use Rattle.dis_isa.specs.declared.inst.Inst.{Inst}
use Rattle.dis_isa.specs.declared.inst.Middle.{Middle}
use Rattle.dis_isa.specs.declared.inst.Middle.TheVariants as middle
use Rattle.dis_isa.specs.declared.inst.Operand.{Operand}
use Rattle.dis_isa.specs.declared.op.Op.TheVariants as op
use Rattle.dis_file.specs.declared.object.Object.{Object}
use Rattle.dis_file.specs.References as file
use Rattle.dis_meaning.specs.Words.{Word, Plain, Refer, Access, Found, ◌>>=◌, word_at, fits}
use Rattle.dis_meaning.specs.Numbers.{bytes_of, joined, high_part, low_part}
use Rattle.dis_meaning.specs.Process.{Process}
use Rattle.dis_meaning.proofs.ReadBack.{parts_join}
use Rattle.dis_memory.specs.Blocks.{World}
use Rattle.dis_memory.specs.Places.{given_of, with_words_at}
use Rattle.dis_memory.specs.Copies.{is_whole, as_marked, plain_words, put, bytes_from, put_bytes}
use Rattle.dis_memory.specs.Process.{next}
use Rattle.dis_memory.specs.Step.{obey}
use Rattle.value_words.specs.Contents as contents
use Rattle.value_words.specs.Contents.{content, content_in}
use Rattle.value_words.specs.Facts.{Facts}
use Rattle.value_words.proofs.Bytes.{is_zero, Reads, word_found, word_there, big_there, byte_there, byte_read}
use Rattle.value_words.proofs.Bytes.{content_at, content_next, read_within}
use Rattle.value_words.proofs.Rows.{below}
use Rattle.value_heaps.proofs.Marks.{whole_words, at_word, among}
use Rattle.value_frames.specs.Frames.{room_for}
use Rattle.value_frames.specs.Types.{desc}
use Rattle.value_moves.specs.Operands.{Code, inst, moved, moved_by, sized, size_middle, has_some}
use Rattle.value_moves.specs.Spots.{Leads}
use Rattle.value_moves.specs.Writing.{Writes, Lies, HasRoom, ValuesMove}
use Rattle.value_moves.proofs.Putting.{Takes, put_words}
use Rattle.value_moves.proofs.Storing.{one_byte}
use Rattle.value_moves.proofs.Copying.{IsTaken, plain_taken, typed_taken, bytes_taken, bytes_put, byte_small, Gives, Readable}
use Rattle.value_moves.proofs.Changing.{one_takes, one_put, stored_is, two_takes, big_put}
use Rattle.value_moves.proofs.Referring.{refers}
use Rattle.value_moves.proofs.Beginning.{begins_plain, room_of}
use Rattle.value_moves.proofs.Marked.{some_there, none_there, marked_fits, marks_of, kind_of, readable}
use Rattle.value_moves.proofs.Obeying.{number_moves, word_moves, reference_moves, bytes_move, typed_moves}
use Rattle.value_moves.proofs.Written.{writes_put, writes_taken, writes_bytes}
use Rattle.value_moves.proofs.Standing.{stands_there, stand_apart}

-- ---- the two words of a big

unique : (g h : ℤ) (u v : ℕ) → u < 2 ^ 32 → v < 2 ^ 32 → g *ℤ pos (2 ^ 32) +ℤ pos u ≡ h *ℤ pos (2 ^ 32) +ℤ pos v → (g ≡ h) × (u ≡ v)
unique g h u v l m e = (omega (arith, ints, l, m, e), omega (arith, ints, l, m, e))

small : (z : ℤ) → InRange kind.Int z → cast_unsigned w32 z < 2 ^ 32
small (pos n) i = let below = i.below in omega (arith, ints)
small (negsuc n) i = omega arith

-- the parts of a big are the words of which it was joined
parts_again : (high low : ℤ) → InRange kind.Int low
    → (high_part (joined high low) ≡ high) × (bytes_of (low_part (joined high low)) ≡ bytes_of low)
parts_again high low i =
    let z = joined high low in
    let u = unique (high_part z) high (cast_unsigned w32 (low_part z)) (cast_unsigned w32 low) (small (low_part z) (always kind.Int z))
    (small low i) (parts_join z) in
    (u.0, ap (to_be_bytes w32) u.1)

-- ---- the instruction

last_is : (i j : Inst) (xs front : Code) → xs ++ (i ∷ []) ≡ front ++ (j ∷ []) → i ≡ j
last_is i j [] [] e = cc
last_is i j [] (k ∷ []) e = absurd cc
last_is i j [] (k ∷ (l ∷ front)) e = absurd cc
last_is i j (h ∷ []) [] e = absurd cc
last_is i j (h ∷ (g ∷ xs)) [] e = absurd cc
last_is i j (h ∷ xs) (k ∷ front) e = last_is i j xs front cc

none_last : (j : Inst) (front : Code) → [] ≡ front ++ (j ∷ []) → ⊥
none_last j [] e = absurd cc
none_last j (k ∷ front) e = absurd cc

all_true : (e f g : Bool) → (e && f && g) ≡ true → (e ≡ true) × (f ≡ true) × (g ≡ true)
all_true true true true h = (refl, refl, refl)
all_true true true false h = absurd cc
all_true true false g h = absurd cc
all_true false f g h = absurd cc

not_in : (c : ℕ) (os : List ℕ) → (Has os c → ⊥) → is_in c os ≡ false
not_in c os h = go (is_in c os) refl
  where
    go : (e : Bool) → is_in c os ≡ e → e ≡ false
    go true e = absurd (h (among c os e))
    go false e = refl

module _ (defs : List Def) (k : Facts) (limit : ℕ) (o : Object) (x : World) (p : Process) (t : Ty) (r : Room) (v : Value) (n : ℕ)
    (a b : Operand) (source target : List Word) (from to : ℕ) (s : Leads x p a source from) (d : Leads x p b target to)
    (lies : Lies defs k source from t r v) (room : HasRoom defs target to t r) where
  abbrev Moves : Inst → Type 0
  Moves i =
      (others : List Word) × Writes target others to source from r.size
      × (obey limit o x p i i.op ≡ (with_words_at x p d.place others >>= λ m. Found (next m)))

  refer_there : (c : ℕ) → Has r.references c → (u : Option ℕ) × (word_at source (pos (from + c)) ≡ Found (Refer u))
  refer_there c h = refers defs k source from t r v c lies.laid lies.stands h

  -- a word of the value, and the one in whose place it goes
  here : from % 4 ≡ 0 → (j : ℕ) → 4 * j < r.size → Gives source (from / 4 + j) (as_marked (is_in (4 * j) r.references))
  here even j l = kind_of source from r lies.whole lies.only refer_there even j l (is_in (4 * j) r.references) refl

  gone : to % 4 ≡ 0 → (j : ℕ) → 4 * j < r.size → Gives target (to / 4 + j) (as_marked (is_in (4 * j) r.references))
  gone even j l = kind_of target to r room.whole room.only room.refer even j l (is_in (4 * j) r.references) refl

  takes : from % 4 ≡ 0 → to % 4 ≡ 0 → (m : ℕ) (vs : List Word) → 4 * m ≤ r.size → IsTaken source (from / 4) m vs → (j : ℕ) (w : Word)
      → slice_get vs j ≡ Some w → Takes target (to / 4 + j) w
  takes e f m vs l taken j w g =
      let long = taken.long in
      let in_vs = below vs j w g in
      let h = here e j (omega (arith, l, long, in_vs)) in
      let i = gone f j (omega (arith, l, long, in_vs)) in
      let same : Some h.0 ≡ Some w = sym h.1 ∙ taken.each j w g in
      let is : h.0 ≡ w = cc in
      record {
        old = i.0;
        stood = i.1;
        takes = marked_fits (is_in (4 * j) r.references) i.0 w i.2
            (subst (λ (u : Word). as_marked (is_in (4 * j) r.references) u ≡ Found u) is h.2);
      }

  -- words that are taken are put
  module _ (even : from % 4 ≡ 0) (even_to : to % 4 ≡ 0) (m : ℕ) (long : r.size ≡ 4 * m) (vs : List Word)
      (taken : IsTaken source (from / 4) m vs) where
    put_there : (others : List Word) × (put target (to / 4) vs ≡ Found others) × Writes target others to source from r.size
    put_there =
        let fit = takes even even_to m vs (omega (arith, long)) taken in
        let i = put_words vs target (to / 4) fit in
        let vs_long = taken.long in
        (i.0, i.1, writes_taken target i.0 source vs to from r.size even_to (omega (arith, long, vs_long)) fit i.2 m even taken)

  -- ---- numbers and references

  module _ (none : (c : ℕ) → Has r.references c → ⊥) where
    source_byte : (c : ℕ) → c < r.size → Readable source (from + c)
    source_byte c l = readable source from r lies.whole lies.only (begins_plain defs k source from t r v lies.laid lies.stands) none c l

    target_byte : (c : ℕ) → c < r.size → Readable target (to + c)
    target_byte c l = readable target to r room.whole room.only room.begins none c l

    byte_moves : r.size ≡ 1 → Moves (inst op.Movb a middle.None b)
    byte_moves one =
        let at : Readable source from =
        subst (Readable source) (let e : from + 0 ≡ from = omega arith in e) (source_byte 0 (omega (arith, one))) in
        let over : Readable target to =
        subst (Readable target) (let e : to + 0 ≡ to = omega arith in e) (target_byte 0 (omega (arith, one))) in
        let c = slice_index (bytes_of at.0) (from % 4) in
        let i = one_byte target to (pos c) over.0 over.1 in
        let less = byte_small at.0 (from % 4) (omega arith) in
        let stands = byte_read (slice_get source (from / 4)) at.0 (from % 4) (omega arith) at.1 in (
          i.0,
          subst (λ (m : ℕ). Writes target i.0 to source from m) (sym one)
              (writes_bytes target i.0 source to from 1 (c ∷ []) (i.2 less)
              (record { long = refl; small = less_all c less; each = byte_there_all c stands })),
          number_moves x p o a b source target i.0 from to s d kind.Byte middle.None (inst op.Movb a middle.None b) (pos c)
              (pos (slice_index (bytes_of over.0) (to % 4))) refl refl (byte_there source from at.0 at.1)
              (byte_there target to over.0 over.1) i.1,
        )
      where
        less_all : (c : ℕ) → c < 256 → (j e : ℕ) → slice_get (c ∷ []) j ≡ Some e → e < 256
        less_all c l zero e f = let g : c ≡ e = cc in omega (arith, l, g)
        less_all c l (suc j) e f = absurd cc

        byte_there_all : (c : ℕ) → content source from ≡ Some (contents.Byte c) → (j e : ℕ) → slice_get (c ∷ []) j ≡ Some e
            → content source (from + j) ≡ Some (contents.Byte e)
        byte_there_all c h zero e f =
            let g : from + 0 ≡ from = omega arith in
            let i : c ≡ e = cc in
            ap (content source) g ∙ h ∙ ap (λ (y : ℕ). Some (contents.Byte y)) i
        byte_there_all c h (suc j) e f = absurd cc

  -- the one word of a value of four bytes
  module _ (four : r.size ≡ 4) (align : r.align ≡ 4) where
    even_from : from % 4 ≡ 0
    even_from = subst (λ (m : ℕ). from % m ≡ 0) align lies.aligned

    even_to : to % 4 ≡ 0
    even_to = subst (λ (m : ℕ). to % m ≡ 0) align room.aligned

    module _ (w old : Word) (w_at : slice_get source (from / 4) ≡ Some w) (old_at : slice_get target (to / 4) ≡ Some old)
        (fit : fits old w ≡ true) where
      one_writes : Writes target (slice_set target (to / 4) w) to source from r.size
      one_writes =
          writes_taken target (slice_set target (to / 4) w) source (w ∷ []) to from r.size even_to four
          (one_takes target (to / 4) old w old_at fit) (one_put target (to / 4) old w old_at fit) 1 even_from
          (record { long = refl; each = each })
        where
          each : (j : ℕ) (u : Word) → slice_get (w ∷ []) j ≡ Some u → slice_get source (from / 4 + j) ≡ Some u
          each zero u e = let g : from / 4 + 0 ≡ from / 4 = omega arith in ap (slice_get source) g ∙ w_at ∙ e
          each (suc j) u e = absurd cc

    int_moves : r.references ≡ [] → Moves (inst op.Movw a middle.None b)
    int_moves none =
        let is : is_in (4 * 0) r.references ≡ false = ap (is_in 0) none in
        let h = kind_of source from r lies.whole lies.only refer_there even_from 0 (omega (arith, four)) false is in
        let i = kind_of target to r room.whole room.only room.refer even_to 0 (omega (arith, four)) false is in
        let e : slice_get source (from / 4) ≡ Some h.0 = let g : from / 4 ≡ from / 4 + 0 = omega arith in ap (slice_get source) g ∙ h.1 in
        let f : slice_get target (to / 4) ≡ Some i.0 = let g : to / 4 ≡ to / 4 + 0 = omega arith in ap (slice_get target) g ∙ i.1 in
        let fit = marked_fits false i.0 h.0 i.2 h.2 in (
          slice_set target (to / 4) h.0,
          one_writes h.0 i.0 e f fit,
          word_moves x p o a b source target (slice_set target (to / 4) h.0) from to s d middle.None h.0 i.0
              (word_there source from h.0 even_from e) h.2 (word_there target to i.0 even_to f) i.2
              (stored_is target to i.0 h.0 even_to f fit),
        )

    pointer_moves : r.references ≡ 0 ∷ [] → Moves (inst op.Movp a middle.None b)
    pointer_moves one =
        let has : Has r.references 0 = subst (λ (os : List ℕ). Has os 0) (sym one) (inl refl) in
        let h = refer_there 0 has in
        let i = room.refer 0 has in
        let e : word_at source (pos from) ≡ Found (Refer h.0) =
        let g : from ≡ from + 0 = omega arith in ap (λ (m : ℕ). word_at source (pos m)) g ∙ h.1 in
        let f : word_at target (pos to) ≡ Found (Refer i.0) =
        let g : to ≡ to + 0 = omega arith in ap (λ (m : ℕ). word_at target (pos m)) g ∙ i.1 in
        let e_at = (word_found source from (Refer h.0) e).1 in
        let f_at = (word_found target to (Refer i.0) f).1 in (
          slice_set target (to / 4) (Refer h.0),
          one_writes (Refer h.0) (Refer i.0) e_at f_at refl,
          reference_moves x p o a b source target (slice_set target (to / 4) (Refer h.0)) from to s d middle.None h.0 i.0 e f
              (stored_is target to (Refer i.0) (Refer h.0) even_to f_at refl),
        )

  -- the two of a big
  module _ (eight : r.size ≡ 8) (align : r.align ≡ 8) (none : (c : ℕ) → Has r.references c → ⊥) where
    big_from : from % 4 ≡ 0
    big_from = let e : from % 8 ≡ 0 = subst (λ (m : ℕ). from % m ≡ 0) align lies.aligned in omega (arith, e)

    big_to : to % 4 ≡ 0
    big_to = let e : to % 8 ≡ 0 = subst (λ (m : ℕ). to % m ≡ 0) align room.aligned in omega (arith, e)

    module _ (high low : ℤ) (first : Reads (slice_get source (from / 4)) high)
        (second : Reads (slice_get source (suc (from / 4))) low) where
      abbrev z : ℤ
      z = joined high low

      again : (high_part z ≡ high) × (bytes_of (low_part z) ≡ bytes_of low)
      again = parts_again high low (read_within (slice_get source (suc (from / 4))) low (λ y e. lies.whole.1 (suc (from / 4)) y e) second)

      same : (j : ℕ) (w : Word) → slice_get (Plain (high_part z) ∷ Plain (low_part z) ∷ []) j ≡ Some w → (c : ℕ) → c < 4
          → content_in (Some w) c ≡ content source (from + (4 * j + c))
      same zero w e c l =
          let f : Plain (high_part z) ≡ w = cc in
          let g : from + (4 * 0 + c) ≡ from + c = omega arith in
          ap (λ (u : Word). content_in (Some u) c) (sym f)
          ∙ ap (λ (y : ℤ). Some (contents.Byte (slice_index (bytes_of y) c))) again.0
          ∙ sym (byte_read (slice_get source (from / 4)) high c l first)
          ∙ sym (content_at source from c big_from l)
          ∙ ap (content source) (sym g)
      same (suc zero) w e c l =
          let f : Plain (low_part z) ≡ w = cc in
          let g : from + (4 * 1 + c) ≡ from + (4 + c) = omega arith in
          ap (λ (u : Word). content_in (Some u) c) (sym f)
          ∙ ap (λ (bs : List ℕ). Some (contents.Byte (slice_index bs c))) again.1
          ∙ sym (byte_read (slice_get source (suc (from / 4))) low c l second)
          ∙ sym (content_next source from c big_from l)
          ∙ ap (content source) (sym g)
      same (suc (suc j)) w e c l = absurd cc

      ranged : (j : ℕ) (y : ℤ) → slice_get (Plain (high_part z) ∷ Plain (low_part z) ∷ []) j ≡ Some (Plain y) → InRange kind.Int y
      ranged zero y e =
          let f : high_part z ≡ y = cc in
          subst (λ (u : ℤ). InRange kind.Int u) (sym again.0 ∙ f)
          (read_within (slice_get source (from / 4)) high (λ y e. lies.whole.1 (from / 4) y e) first)
      ranged (suc zero) y e = let f : low_part z ≡ y = cc in subst (λ (u : ℤ). InRange kind.Int u) f (always kind.Int z)
      ranged (suc (suc j)) y e = absurd cc

      two_move : (up down : ℤ) → Reads (slice_get target (to / 4)) up → Reads (slice_get target (suc (to / 4))) down
          → Moves (inst op.Movl a middle.None b)
      two_move up down e f =
          let fit = two_takes target (to / 4) up down e f (high_part z) (low_part z) in
          let i = put_words (Plain (high_part z) ∷ Plain (low_part z) ∷ []) target (to / 4) fit in (
            i.0,
            writes_put target i.0 source (Plain (high_part z) ∷ Plain (low_part z) ∷ []) to from r.size big_to eight fit i.2 same
                (λ h. ranged),
            number_moves x p o a b source target i.0 from to s d kind.Big middle.None (inst op.Movl a middle.None b) z (joined up down)
                refl refl
                (big_there source from z
                (record { even = big_from; high = high; low = low; first = first; second = second; is = refl }))
                (big_there target to (joined up down) (record { even = big_to; high = up; low = down; first = e; second = f; is = refl }))
                (big_put target i.0 to z big_to i.1),
          )

    big_moves : Moves (inst op.Movl a middle.None b)
    big_moves =
        let h = source_byte none 0 (omega (arith, eight)) in
        let l = source_byte none 4 (omega (arith, eight)) in
        let g = target_byte none 0 (omega (arith, eight)) in
        let m = target_byte none 4 (omega (arith, eight)) in
        two_move h.0 l.0
        (subst (λ (w : ℕ). Reads (slice_get source w) h.0) (let e : (from + 0) / 4 ≡ from / 4 = omega arith in e) h.1)
        (subst (λ (w : ℕ). Reads (slice_get source w) l.0) (let e : (from + 4) / 4 ≡ suc (from / 4) = omega arith in e) l.1)
        g.0 m.0
        (subst (λ (w : ℕ). Reads (slice_get target w) g.0) (let e : (to + 0) / 4 ≡ to / 4 = omega arith in e) g.1)
        (subst (λ (w : ℕ). Reads (slice_get target w) m.0) (let e : (to + 4) / 4 ≡ suc (to / 4) = omega arith in e) m.1)

  -- ---- values of parts

  module _ (none : (c : ℕ) → Has r.references c → ⊥) (m : Middle) (given : given_of kind.Int x p m ≡ Found (pos r.size)) where
    size_moves : Moves (inst op.Movm a m b)
    size_moves = go (is_whole from && is_whole to && is_whole r.size) refl
      where
        by_words : (is_whole from && is_whole to && is_whole r.size) ≡ true → from % 4 ≡ 0 → to % 4 ≡ 0 → r.size ≡ 4 * (r.size / 4)
            → Moves (inst op.Movm a m b)
        by_words c e f long =
            let taken = plain_taken source (r.size / 4) (from / 4)
            (λ j l. kind_of source from r lies.whole lies.only refer_there e j (omega (arith, l, long)) false
            (not_in (4 * j) r.references (none (4 * j)))) in
            let i = put_there e f (r.size / 4) long taken.0 taken.2 in (
              i.0,
              i.2,
              bytes_move x p o a b source target i.0 from to s d m r.size given
                  (ap (λ (y : Bool). if y then plain_words source (from / 4) (r.size / 4) >>= put target (to / 4)
                  else bytes_from source from r.size >>= put_bytes target to) c
                  ∙ ap (λ (y : Access (List Word)). y >>= put target (to / 4)) taken.1
                  ∙ i.1),
            )

        by_bytes : (is_whole from && is_whole to && is_whole r.size) ≡ false → Moves (inst op.Movm a m b)
        by_bytes c =
            let taken = bytes_taken source r.size from (source_byte none) in
            let long = taken.2.long in
            let i = bytes_put taken.0 target to taken.2.small (λ j l. target_byte none j (omega (arith, l, long))) in (
              i.0,
              writes_bytes target i.0 source to from r.size taken.0 i.2 taken.2,
              bytes_move x p o a b source target i.0 from to s d m r.size given
                  (ap (λ (y : Bool). if y then plain_words source (from / 4) (r.size / 4) >>= put target (to / 4)
                  else bytes_from source from r.size >>= put_bytes target to) c
                  ∙ ap (λ (y : Access (List ℕ)). y >>= put_bytes target to) taken.1
                  ∙ i.1),
            )

        go : (c : Bool) → (is_whole from && is_whole to && is_whole r.size) ≡ c → Moves (inst op.Movm a m b)
        go true c =
            let h = all_true (is_whole from) (is_whole to) (is_whole r.size) c in
            let e = is_zero (r.size % 4) h.2 in
            by_words c (is_zero (from % 4) h.0) (is_zero (to % 4) h.1) (omega (arith, e))
        go false c = by_bytes c

  module _ (c : ℕ) (has : Has r.references c) (types : slice_get o.types n ≡ Some (desc (next_multiple_of r.size 4) r.references)) where
    type_moves : Moves (inst op.Movmp a (middle.Imm (pos n)) b)
    type_moves =
        let at = at_word defs t r c lies.laid has in
        let whole = whole_words defs t r c lies.laid has in
        let f = refer_there c has in
        let g = room.refer c has in
        let h = (word_found source (from + c) (Refer f.0) f.1).0 in
        let k = (word_found target (to + c) (Refer g.0) g.1).0 in
        by_type (omega (arith, at, h)) (omega (arith, at, k)) (omega (arith, whole)) (omega (arith, whole))
      where
        by_type : from % 4 ≡ 0 → to % 4 ≡ 0 → r.size ≡ 4 * (r.size / 4) → next_multiple_of r.size 4 ≡ r.size
            → Moves (inst op.Movmp a (middle.Imm (pos n)) b)
        by_type e f long size =
            let type = desc r.size r.references in
            let taken = typed_taken type source (r.size / 4) 0 (from / 4)
            (λ j l.
            let g = here e j (omega (arith, l, long)) in
            let same : 0 + j ≡ j = omega arith in
            let marked = ap (λ (y : ℕ). file.marks type.map y) same ∙ marks_of r.size r.references j (omega (arith, l, long)) in
            (g.0, g.1, ap (λ (y : Bool). as_marked y g.0) marked ∙ g.2)) in
            let i = put_there e f (r.size / 4) long taken.0 taken.2 in (
              i.0,
              i.2,
              typed_moves x p o a b source target i.0 from to s d n type taken.0 e f
                  (types ∙ ap (λ (y : ℕ). Some (desc y r.references)) size) taken.1 i.1,
            )

  -- by the code that the type gives
  module _ (types : slice_get o.types n ≡ Some (desc (next_multiple_of r.size 4) r.references))
      (given : given_of kind.Int x p (size_middle r.size) ≡ Found (pos r.size)) (front : Code) (i : Inst) where
    by_parts : moved_by (has_some r.references) n r.size a b ≡ front ++ (i ∷ []) → Moves i
    by_parts e = go (has_some r.references) refl e
      where
        go : (c : Bool) → has_some r.references ≡ c → moved_by c n r.size a b ≡ front ++ (i ∷ []) → Moves i
        go true h e =
            let c = some_there r.references h in
            subst Moves (last_is (inst op.Movmp a (middle.Imm (pos n)) b) i [] front e) (type_moves c.0 c.1 types)
        go false h e =
            subst Moves (last_is (inst op.Movm a (size_middle r.size) b) i (sized r.size) front e)
            (size_moves (none_there r.references h) (size_middle r.size) given)

    by_rooms : moved_by (has_some (room_for defs t).references) n (room_for defs t).size a b ≡ front ++ (i ∷ []) → Moves i
    by_rooms e =
        by_parts (subst (λ (z : Room). moved_by (has_some z.references) n z.size a b ≡ front ++ (i ∷ []))
        (rounds_give_rooms.rooms defs t r lies.laid) e)

  no_references : (q : Room) → r ≡ q → q.references ≡ [] → (c : ℕ) → Has r.references c → ⊥
  no_references q e f c h = subst (λ (os : List ℕ). Has os c) (ap (λ (z : Room). z.references) e ∙ f) h

one_instruction : (defs : List Def) (k : Facts) (limit : ℕ) (o : Object) (x : World) (p : Process) (t : Ty) (r : Room) (v : Value) (n : ℕ)
    (a b : Operand) (source target : List Word) (from to : ℕ) (s : Leads x p a source from) (d : Leads x p b target to)
    → Lies defs k source from t r v → HasRoom defs target to t r → (front : Code) (i : Inst) → moved defs t n a b ≡ front ++ i ∷ []
    → slice_get o.types n ≡ Some (desc (next_multiple_of r.size 4) r.references)
    → given_of kind.Int x p (size_middle r.size) ≡ Found (pos r.size)
    → (others : List Word) × Writes target others to source from r.size
    × (obey limit o x p i i.op ≡ (with_words_at x p d.place others >>= λ m. Found (next m)))
one_instruction defs k limit o x p ty.Nothing r v n a b source target from to s d lies room front i e types given =
    absurd (none_last i front e)
one_instruction defs k limit o x p ty.Byte r v n a b source target from to s d lies room front i e types given =
    let f = one_room defs ty.Byte r (number 1) lies.laid (is_alone ty.Byte (number 1) refl) in
    subst (Moves defs k limit o x p ty.Byte r v n a b source target from to s d lies room)
    (last_is (inst op.Movb a middle.None b) i [] front e)
    (byte_moves defs k limit o x p ty.Byte r v n a b source target from to s d lies room
    (no_references defs k limit o x p ty.Byte r v n a b source target from to s d lies room (number 1) f refl)
    (ap (λ (z : Room). z.size) f))
one_instruction defs k limit o x p ty.Int r v n a b source target from to s d lies room front i e types given =
    let f = one_room defs ty.Int r (number 4) lies.laid (is_alone ty.Int (number 4) refl) in
    subst (Moves defs k limit o x p ty.Int r v n a b source target from to s d lies room)
    (last_is (inst op.Movw a middle.None b) i [] front e)
    (int_moves defs k limit o x p ty.Int r v n a b source target from to s d lies room
    (ap (λ (z : Room). z.size) f) (ap (λ (z : Room). z.align) f) (ap (λ (z : Room). z.references) f))
one_instruction defs k limit o x p ty.Big r v n a b source target from to s d lies room front i e types given =
    let f = one_room defs ty.Big r (number 8) lies.laid (is_alone ty.Big (number 8) refl) in
    subst (Moves defs k limit o x p ty.Big r v n a b source target from to s d lies room)
    (last_is (inst op.Movl a middle.None b) i [] front e)
    (big_moves defs k limit o x p ty.Big r v n a b source target from to s d lies room
    (ap (λ (z : Room). z.size) f) (ap (λ (z : Room). z.align) f)
    (no_references defs k limit o x p ty.Big r v n a b source target from to s d lies room (number 8) f refl))
one_instruction defs k limit o x p (ty.Tuple ts) r v n a b source target from to s d lies room front i e types given =
    by_rooms defs k limit o x p (ty.Tuple ts) r v n a b source target from to s d lies room types given front i e
one_instruction defs k limit o x p (ty.Adt q) r v n a b source target from to s d lies room front i e types given =
    by_rooms defs k limit o x p (ty.Adt q) r v n a b source target from to s d lies room types given front i e
one_instruction defs k limit o x p u r v n a b source target from to s d lies room front i e types given =
    let f = one_room defs u r reference lies.laid (is_alone u reference refl) in
    subst (Moves defs k limit o x p u r v n a b source target from to s d lies room)
    (last_is (inst op.Movp a middle.None b) i [] front e)
    (pointer_moves defs k limit o x p u r v n a b source target from to s d lies room
    (ap (λ (z : Room). z.size) f) (ap (λ (z : Room). z.align) f) (ap (λ (z : Room). z.references) f))

pub values_move : ValuesMove
values_move = record { moves = one_instruction; room = room_of; stands = stands_there; apart = stand_apart }
