-- What is taken of a value that lies among words, and put where there is room for it: by its type, and as so many bytes. (As `value_moves` has it
-- within its proof.)
use Rattle.std.proofs.Common.{◌≡◌, ℕ, ◌+◌, ◌*◌, ◌<◌, ◌≤◌, pos, ◌/◌, ◌%◌, Bool, true, false, List, Option, Some, refl, sym, ap, ◌∙◌, subst, arith, if◌then◌else◌}
use Rattle.std.specs.Prelude.{◌&&◌, slice_get}
use Rattle.std.specs.Int.{next_multiple_of}
use Rattle.limbo_types.specs.Types.{Ty}
use Rattle.limbo_layout.specs.Adts.{Def, Has}
use Rattle.limbo_layout.specs.Layout.{Room, is_in}
use Rattle.limbo_meaning.specs.Values.{Value}
use Rattle.dis_file.specs.References as file
use Rattle.dis_meaning.specs.Words.{Word, Refer, Access, Found, ◌>>=◌, word_at}
use Rattle.dis_memory.specs.Copies.{is_whole, as_marked, plain_words, put, bytes_from, put_bytes, moved, typed_words}
use Rattle.value_words.specs.Facts.{Facts}
use Rattle.value_words.proofs.Bytes.{is_zero, word_found}
use Rattle.value_words.proofs.Rows.{below}
use Rattle.value_heaps.proofs.Marks.{whole_words, at_word, among}
use Rattle.value_frames.specs.Types.{desc}
use Rattle.value_moves.specs.Writing.{Writes, Lies, HasRoom}
use Rattle.value_moves.proofs.Beginning.{begins_plain}
use Rattle.value_moves.proofs.Putting.{Takes, put_words}
use Rattle.value_moves.proofs.Copying.{IsTaken, plain_taken, typed_taken, bytes_taken, bytes_put, Gives, Readable}
use Rattle.value_moves.proofs.Referring.{refers}
use Rattle.value_moves.proofs.Marked.{marked_fits, marks_of, kind_of, readable}
use Rattle.value_moves.proofs.Written.{writes_taken, writes_bytes}

all_true : (e f g : Bool) → (e && f && g) ≡ true → (e ≡ true) × (f ≡ true) × (g ≡ true)
all_true true true true h = (refl, refl, refl)
all_true true true false h = absurd cc
all_true true false g h = absurd cc
all_true false f g h = absurd cc

not_in : (c : ℕ) (os : List ℕ) → (Has os c → ⊥) → is_in c os ≡ false
not_in c os h = go (is_in c os) refl
  where
    go : (e : Bool) → is_in c os ≡ e → e ≡ false
    go true e = absurd (h (among c os e))
    go false e = refl

module _ (defs : List Def) (k : Facts) (t : Ty) (r : Room) (v : Value) (source target : List Word) (from to : ℕ)
    (lies : Lies defs k source from t r v) (room : HasRoom defs target to t r) where
  refer_there : (c : ℕ) → Has r.references c → (u : Option ℕ) × (word_at source (pos (from + c)) ≡ Found (Refer u))
  refer_there c h = refers defs k source from t r v c lies.laid lies.stands h

  here : from % 4 ≡ 0 → (j : ℕ) → 4 * j < r.size → Gives source (from / 4 + j) (as_marked (is_in (4 * j) r.references))
  here even j l = kind_of source from r lies.whole lies.only refer_there even j l (is_in (4 * j) r.references) refl

  gone : to % 4 ≡ 0 → (j : ℕ) → 4 * j < r.size → Gives target (to / 4 + j) (as_marked (is_in (4 * j) r.references))
  gone even j l = kind_of target to r room.whole room.only room.refer even j l (is_in (4 * j) r.references) refl

  takes : from % 4 ≡ 0 → to % 4 ≡ 0 → (m : ℕ) (vs : List Word) → 4 * m ≤ r.size → IsTaken source (from / 4) m vs → (j : ℕ) (w : Word)
      → slice_get vs j ≡ Some w → Takes target (to / 4 + j) w
  takes e f m vs l taken j w g =
      let long = taken.long in
      let in_vs = below vs j w g in
      let h = here e j (omega (arith, l, long, in_vs)) in
      let i = gone f j (omega (arith, l, long, in_vs)) in
      let same : Some h.0 ≡ Some w = sym h.1 ∙ taken.each j w g in
      let is : h.0 ≡ w = cc in
      record {
        old = i.0;
        stood = i.1;
        takes = marked_fits (is_in (4 * j) r.references) i.0 w i.2
            (subst (λ (u : Word). as_marked (is_in (4 * j) r.references) u ≡ Found u) is h.2);
      }

  module _ (even : from % 4 ≡ 0) (even_to : to % 4 ≡ 0) (m : ℕ) (long : r.size ≡ 4 * m) (vs : List Word)
      (taken : IsTaken source (from / 4) m vs) where
    put_there : (others : List Word) × (put target (to / 4) vs ≡ Found others) × Writes target others to source from r.size
    put_there =
        let fit = takes even even_to m vs (omega (arith, long)) taken in
        let i = put_words vs target (to / 4) fit in
        let vs_long = taken.long in
        (i.0, i.1, writes_taken target i.0 source vs to from r.size even_to (omega (arith, long, vs_long)) fit i.2 m even taken)

  -- by its type, where it refers to something
  pub record TypePut : Type 0 where
    pub whole : next_multiple_of r.size 4 ≡ r.size
    pub even : from % 4 ≡ 0
    pub even_to : to % 4 ≡ 0
    pub words : List Word
    pub taken : typed_words (desc r.size r.references) source (from / 4) ≡ Found words
    pub others : List Word
    pub written : put target (to / 4) words ≡ Found others
    pub writes : Writes target others to source from r.size

  module _ (c : ℕ) (has : Has r.references c) where
    pub type_put : TypePut
    type_put =
        let at = at_word defs t r c lies.laid has in
        let whole = whole_words defs t r c lies.laid has in
        let f = refer_there c has in
        let g = room.refer c has in
        let h = (word_found source (from + c) (Refer f.0) f.1).0 in
        let l = (word_found target (to + c) (Refer g.0) g.1).0 in
        by_type (omega (arith, at, h)) (omega (arith, at, l)) (omega (arith, whole)) (omega (arith, whole))
      where
        by_type : from % 4 ≡ 0 → to % 4 ≡ 0 → r.size ≡ 4 * (r.size / 4) → next_multiple_of r.size 4 ≡ r.size → TypePut
        by_type e f long size =
            let type = desc r.size r.references in
            let taken = typed_taken type source (r.size / 4) 0 (from / 4)
            (λ j l.
            let g = here e j (omega (arith, l, long)) in
            let same : 0 + j ≡ j = omega arith in
            let marked = ap (λ (y : ℕ). file.marks type.map y) same ∙ marks_of r.size r.references j (omega (arith, l, long)) in
            (g.0, g.1, ap (λ (y : Bool). as_marked y g.0) marked ∙ g.2)) in
            let i = put_there e f (r.size / 4) long taken.0 taken.2 in
            record {
              whole = size;
              even = e;
              even_to = f;
              words = taken.0;
              taken = taken.1;
              others = i.0;
              written = i.1;
              writes = i.2;
            }

  -- as so many bytes, where it refers to nothing
  module _ (none : (c : ℕ) → Has r.references c → ⊥) where
    source_byte : (c : ℕ) → c < r.size → Readable source (from + c)
    source_byte c l = readable source from r lies.whole lies.only (begins_plain defs k source from t r v lies.laid lies.stands) none c l

    target_byte : (c : ℕ) → c < r.size → Readable target (to + c)
    target_byte c l = readable target to r room.whole room.only room.begins none c l

    abbrev pub BytesPut : Type 0
    BytesPut = (others : List Word) × (moved source from target to r.size ≡ Found others) × Writes target others to source from r.size

    pub size_put : BytesPut
    size_put = go (is_whole from && is_whole to && is_whole r.size) refl
      where
        by_words : (is_whole from && is_whole to && is_whole r.size) ≡ true → from % 4 ≡ 0 → to % 4 ≡ 0 → r.size ≡ 4 * (r.size / 4) → BytesPut
        by_words c e f long =
            let taken = plain_taken source (r.size / 4) (from / 4)
            (λ j l. kind_of source from r lies.whole lies.only refer_there e j (omega (arith, l, long)) false
            (not_in (4 * j) r.references (none (4 * j)))) in
            let i = put_there e f (r.size / 4) long taken.0 taken.2 in (
              i.0,
              ap (λ (y : Bool). if y then plain_words source (from / 4) (r.size / 4) >>= put target (to / 4)
                  else bytes_from source from r.size >>= put_bytes target to) c
                  ∙ ap (λ (y : Access (List Word)). y >>= put target (to / 4)) taken.1
                  ∙ i.1,
              i.2,
            )

        by_bytes : (is_whole from && is_whole to && is_whole r.size) ≡ false → BytesPut
        by_bytes c =
            let taken = bytes_taken source r.size from source_byte in
            let long = taken.2.long in
            let i = bytes_put taken.0 target to taken.2.small (λ j l. target_byte j (omega (arith, l, long))) in (
              i.0,
              ap (λ (y : Bool). if y then plain_words source (from / 4) (r.size / 4) >>= put target (to / 4)
                  else bytes_from source from r.size >>= put_bytes target to) c
                  ∙ ap (λ (y : Access (List ℕ)). y >>= put_bytes target to) taken.1
                  ∙ i.1,
              writes_bytes target i.0 source to from r.size taken.0 i.2 taken.2,
            )

        go : (c : Bool) → (is_whole from && is_whole to && is_whole r.size) ≡ c → BytesPut
        go true c =
            let h = all_true (is_whole from) (is_whole to) (is_whole r.size) c in
            let e = is_zero (r.size % 4) h.2 in
            by_words c (is_zero (from % 4) h.0) (is_zero (to % 4) h.1) (omega (arith, e))
        go false c = by_bytes c
