-- Words of a row move by a type that marks them, and bytes behind them that refer to nothing; and two such moves are one.
use Rattle.std.proofs.Common.{◌≡◌, ◌⊎◌, ℕ, pos, ◌+◌, ◌-◌, ◌*◌, ◌<◌, ◌≤◌, ◌/◌, ◌%◌, Bool, true, false, List, Option, Some, refl, sym, ap, ◌∙◌, subst, arith, inl, inr, if◌then◌else◌}
use Rattle.std.specs.Prelude.{◌&&◌, slice_get}
use Rattle.limbo_layout.specs.Layout.{is_in}
use Rattle.limbo_values.specs.declared.number.Kind.TheVariants as kind
use Rattle.dis_isa.specs.declared.inst.Inst.{Inst}
use Rattle.dis_isa.specs.declared.inst.Middle.{Middle}
use Rattle.dis_isa.specs.declared.inst.Middle.TheVariants as middle
use Rattle.dis_isa.specs.declared.inst.Operand.{Operand}
use Rattle.dis_isa.specs.declared.op.Op.TheVariants as op
use Rattle.dis_file.specs.declared.object.Object.{Object}
use Rattle.dis_file.specs.References as file
use Rattle.dis_meaning.specs.Words.{Word, Plain, Refer, Address, Access, Found, ◌>>=◌}
use Rattle.dis_meaning.specs.Process.{Process}
use Rattle.dis_memory.specs.Blocks.{World}
use Rattle.dis_memory.specs.Places.{given_of, with_words_at}
use Rattle.dis_memory.specs.Copies.{is_whole, as_marked, plain_words, put, bytes_from, put_bytes}
use Rattle.dis_memory.specs.Process.{next}
use Rattle.dis_memory.specs.Step.{obey}
use Rattle.value_words.specs.Contents.{content}
use Rattle.value_words.proofs.Bytes.{is_zero, Reads}
use Rattle.value_words.proofs.Rows.{below}
use Rattle.value_frames.specs.Types.{desc}
use Rattle.value_moves.specs.Operands.{inst}
use Rattle.value_moves.specs.Spots.{Leads}
use Rattle.value_moves.specs.Writing.{Writes}
use Rattle.value_moves.proofs.Putting.{Takes, put_words}
use Rattle.value_moves.proofs.Copying.{IsTaken, plain_taken, typed_taken, bytes_taken, bytes_put, Gives, Readable}
use Rattle.value_moves.proofs.Changing.{low_or_high}
use Rattle.value_moves.proofs.Marked.{marked_fits, marks_of}
use Rattle.value_moves.proofs.Obeying.{bytes_move, typed_moves}
use Rattle.value_moves.proofs.Standing.{not_both, there_is}
use Rattle.value_moves.proofs.Written.{writes_taken, writes_bytes}

all_true : (e f g : Bool) → (e && f && g) ≡ true → (e ≡ true) × (f ≡ true) × (g ≡ true)
all_true true true true h = (refl, refl, refl)
all_true true true false h = absurd cc
all_true true false g h = absurd cc
all_true false f g h = absurd cc

module _ (limit : ℕ) (o : Object) (x : World) (p : Process) (a b : Operand) (source target : List Word) (from to : ℕ) (s : Leads x p a source from)
    (d : Leads x p b target to) (size : ℕ) where
  abbrev pub Moves : Inst → Type 0
  Moves i =
      (others : List Word) × Writes target others to source from size
      × (obey limit o x p i i.op ≡ (with_words_at x p d.place others >>= λ m. Found (next m)))

  -- words that are taken, each where one of its kind stands
  put_there : from % 4 ≡ 0 → to % 4 ≡ 0 → (m : ℕ) → size ≡ 4 * m → (marked : ℕ → Bool)
      → ((j : ℕ) → j < m → Gives source (from / 4 + j) (as_marked (marked j)))
      → ((j : ℕ) → j < m → Gives target (to / 4 + j) (as_marked (marked j))) → (vs : List Word) → IsTaken source (from / 4) m vs
      → (others : List Word) × (put target (to / 4) vs ≡ Found others) × Writes target others to source from size
  put_there e f m long marked here gone vs taken =
      let vs_long = taken.long in
      let i = put_words vs target (to / 4) fit in
      (i.0, i.1, writes_taken target i.0 source vs to from size f (omega (arith, long, vs_long)) fit i.2 m e taken)
    where
      fit : (j : ℕ) (w : Word) → slice_get vs j ≡ Some w → Takes target (to / 4 + j) w
      fit j w g =
          let vs_long = taken.long in
          let in_vs = below vs j w g in
          let l : j < m = omega (arith, vs_long, in_vs) in
          let h = here j l in
          let i = gone j l in
          let same : Some h.0 ≡ Some w = sym h.1 ∙ taken.each j w g in
          let is : h.0 ≡ w = cc in
          record {
            old = i.0;
            stood = i.1;
            takes = marked_fits (marked j) i.0 w i.2 (subst (λ (u : Word). as_marked (marked j) u ≡ Found u) is h.2);
          }

  -- ---- by a type

  pub typed_goes : from % 4 ≡ 0 → to % 4 ≡ 0 → size % 4 ≡ 0 → (os : List ℕ)
      → ((j : ℕ) → 4 * j < size → Gives source (from / 4 + j) (as_marked (is_in (4 * j) os)))
      → ((j : ℕ) → 4 * j < size → Gives target (to / 4 + j) (as_marked (is_in (4 * j) os))) → (n : ℕ)
      → slice_get o.types n ≡ Some (desc size os) → Moves (inst op.Movmp a (middle.Imm (pos n)) b)
  typed_goes e f even os here gone n types =
      let long : size ≡ 4 * (size / 4) = omega (arith, even) in
      let taken = typed_taken (desc size os) source (size / 4) 0 (from / 4)
      (λ j l.
      let g = here j (omega (arith, l, long)) in
      let same : 0 + j ≡ j = omega arith in
      let marked = ap (λ (y : ℕ). file.marks (desc size os).map y) same ∙ marks_of size os j (omega (arith, l, long)) in
      (g.0, g.1, ap (λ (y : Bool). as_marked y g.0) marked ∙ g.2)) in
      let i = put_there e f (size / 4) long (λ j. is_in (4 * j) os) (λ j l. here j (omega (arith, l, long))) (λ j l. gone j (omega (arith, l, long)))
      taken.0 taken.2 in
      (i.0, i.2, typed_moves x p o a b source target i.0 from to s d n (desc size os) taken.0 e f types taken.1 i.1)

  -- ---- as so many bytes

  is_plain : (w : Word) → ((r : Option ℕ) → w ≡ Refer r → ⊥) → as_marked false w ≡ Found w
  is_plain (Plain z) h = refl
  is_plain (Address q n) h = refl
  is_plain (Refer r) h = absurd (h r refl)

  plain_there : (words : List Word) (at j : ℕ) → at % 4 ≡ 0 → Readable words (at + 4 * j) → Gives words (at / 4 + j) (as_marked false)
  plain_there words at j even r =
      let same : (at + 4 * j) / 4 ≡ at / 4 + j = omega (arith, even) in
      let reads : Reads (slice_get words (at / 4 + j)) r.0 = subst (λ (w : ℕ). Reads (slice_get words w) r.0) same r.1 in
      let w = there_is (slice_get words (at / 4 + j)) r.0 reads in
      (w.0, w.1, is_plain w.0 (λ u e. not_both (slice_get words (at / 4 + j)) u r.0 (w.1 ∙ ap (λ (v : Word). Some v) e) reads))

  pub bytes_go : (m : Middle) → given_of kind.Int x p m ≡ Found (pos size) → ((c : ℕ) → c < size → Readable source (from + c))
      → ((c : ℕ) → c < size → Readable target (to + c)) → Moves (inst op.Movm a m b)
  bytes_go m given here gone = go (is_whole from && is_whole to && is_whole size) refl
    where
      by_words : (is_whole from && is_whole to && is_whole size) ≡ true → from % 4 ≡ 0 → to % 4 ≡ 0 → size ≡ 4 * (size / 4)
          → Moves (inst op.Movm a m b)
      by_words c e f long =
          let there : (j : ℕ) → j < size / 4 → Gives source (from / 4 + j) (as_marked false) = λ j l. plain_there source from j e (here (4 * j) (omega (arith, l, long))) in
          let over : (j : ℕ) → j < size / 4 → Gives target (to / 4 + j) (as_marked false) = λ j l. plain_there target to j f (gone (4 * j) (omega (arith, l, long))) in
          let taken = plain_taken source (size / 4) (from / 4) there in
          let i = put_there e f (size / 4) long (λ j. false) there over taken.0 taken.2 in (
            i.0,
            i.2,
            bytes_move x p o a b source target i.0 from to s d m size given
                (ap (λ (y : Bool). if y then plain_words source (from / 4) (size / 4) >>= put target (to / 4)
                else bytes_from source from size >>= put_bytes target to) c
                ∙ ap (λ (y : Access (List Word)). y >>= put target (to / 4)) taken.1
                ∙ i.1),
          )

      by_bytes : (is_whole from && is_whole to && is_whole size) ≡ false → Moves (inst op.Movm a m b)
      by_bytes c =
          let taken = bytes_taken source size from here in
          let long = taken.2.long in
          let i = bytes_put taken.0 target to taken.2.small (λ j l. gone j (omega (arith, l, long))) in (
            i.0,
            writes_bytes target i.0 source to from size taken.0 i.2 taken.2,
            bytes_move x p o a b source target i.0 from to s d m size given
                (ap (λ (y : Bool). if y then plain_words source (from / 4) (size / 4) >>= put target (to / 4)
                else bytes_from source from size >>= put_bytes target to) c
                ∙ ap (λ (y : Access (List ℕ)). y >>= put_bytes target to) taken.1
                ∙ i.1),
          )

      go : (c : Bool) → (is_whole from && is_whole to && is_whole size) ≡ c → Moves (inst op.Movm a m b)
      go true c =
          let h = all_true (is_whole from) (is_whole to) (is_whole size) c in
          let e = is_zero (size % 4) h.2 in
          by_words c (is_zero (from % 4) h.0) (is_zero (to % 4) h.1) (omega (arith, e))
      go false c = by_bytes c

-- ---- one move behind another

-- nothing is written
pub nothing_written : (target : List Word) (to : ℕ) (source : List Word) (from : ℕ) → Writes target target to source from 0
nothing_written target to source from = record {
  many = refl;
  there = λ o l. absurd (omega (arith, l));
  bytes = λ b h. refl;
  words = λ w h. refl;
  refer = λ w r e. (r, e);
  referred = λ w s e. (s, e);
  ranged = λ f g. g;
}

pub both_written : (target mid others : List Word) (to : ℕ) (source : List Word) (from front rest size : ℕ) → front + rest ≡ size
    → Writes target mid to source from front → Writes mid others (to + front) source (from + front) rest → Writes target others to source from size
both_written target mid others to source from front rest size is f g = record {
  many = g.many ∙ f.many;
  there = there;
  bytes = λ b h. g.bytes b (late b h) ∙ f.bytes b (early b h);
  words = λ w h. g.words w (late_word w h) ∙ f.words w (early_word w h);
  refer = λ w r e. let u = g.refer w r e in f.refer w u.0 u.1;
  referred = λ w s e. let u = f.referred w s e in g.referred w u.0 u.1;
  ranged = λ a c. g.ranged a (f.ranged a c);
}
  where
    late : (b : ℕ) → (b < to) ⊎ (to + size ≤ b) → (b < to + front) ⊎ (to + front + rest ≤ b)
    late b (inl l) = inl (omega (arith, l))
    late b (inr l) = inr (omega (arith, l, is))

    early : (b : ℕ) → (b < to) ⊎ (to + size ≤ b) → (b < to) ⊎ (to + front ≤ b)
    early b (inl l) = inl l
    early b (inr l) = inr (omega (arith, l, is))

    late_word : (w : ℕ) → (4 * w + 4 ≤ to) ⊎ (to + size ≤ 4 * w) → (4 * w + 4 ≤ to + front) ⊎ (to + front + rest ≤ 4 * w)
    late_word w (inl l) = inl (omega (arith, l))
    late_word w (inr l) = inr (omega (arith, l, is))

    early_word : (w : ℕ) → (4 * w + 4 ≤ to) ⊎ (to + size ≤ 4 * w) → (4 * w + 4 ≤ to) ⊎ (to + front ≤ 4 * w)
    early_word w (inl l) = inl l
    early_word w (inr l) = inr (omega (arith, l, is))

    there : (o : ℕ) → o < size → content others (to + o) ≡ content source (from + o)
    there o l = elim (low_or_high o front) [
      | inl low ↦ g.bytes (to + o) (inl (omega (arith, low))) ∙ f.there o low
      | inr high ↦
          let e : to + o ≡ to + front + (o - front) = omega (arith, high) in
          let h : from + front + (o - front) ≡ from + o = omega (arith, high) in
          ap (content others) e ∙ (g.there (o - front) (omega (arith, high, l, is)) ∙ ap (content source) h)
    ]
