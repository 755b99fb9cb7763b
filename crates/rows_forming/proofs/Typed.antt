-- One instruction moves a value that refers to something, by its type, of whatever size (as value_moves moves values of each type).
use Rattle.std.proofs.Common.{◌≡◌, ℕ, ◌+◌, ◌*◌, ◌<◌, ◌≤◌, pos, ◌/◌, ◌%◌, Bool, List, Option, Some}
use Rattle.std.proofs.Common.{refl, sym, ap, ◌∙◌, subst, arith}
use Rattle.std.specs.Prelude.{slice_get}
use Rattle.std.specs.Int.{next_multiple_of}
use Rattle.limbo_types.specs.Types.{Ty}
use Rattle.limbo_layout.specs.Adts.{Def, Has}
use Rattle.limbo_layout.specs.Layout.{Room, is_in}
use Rattle.limbo_meaning.specs.Values.{Value}
use Rattle.dis_isa.specs.declared.inst.Inst.{Inst}
use Rattle.dis_isa.specs.declared.inst.Middle.TheVariants as middle
use Rattle.dis_isa.specs.declared.inst.Operand.{Operand}
use Rattle.dis_isa.specs.declared.op.Op.TheVariants as op
use Rattle.dis_file.specs.declared.object.Object.{Object}
use Rattle.dis_file.specs.References as file
use Rattle.dis_meaning.specs.Words.{Word, Refer, Found, ◌>>=◌, word_at}
use Rattle.dis_meaning.specs.Process.{Process}
use Rattle.dis_memory.specs.Blocks.{World}
use Rattle.dis_memory.specs.Places.{with_words_at}
use Rattle.dis_memory.specs.Copies.{as_marked, put}
use Rattle.dis_memory.specs.Process.{next}
use Rattle.dis_memory.specs.Step.{obey}
use Rattle.value_words.specs.Facts.{Facts}
use Rattle.value_words.proofs.Bytes.{word_found}
use Rattle.value_words.proofs.Rows.{below}
use Rattle.value_heaps.proofs.Marks.{whole_words, at_word}
use Rattle.value_frames.specs.Types.{desc}
use Rattle.value_moves.specs.Operands.{inst}
use Rattle.value_moves.specs.Spots.{Leads}
use Rattle.value_moves.specs.Writing.{Writes, Lies, HasRoom}
use Rattle.value_moves.proofs.Putting.{Takes, put_words}
use Rattle.value_moves.proofs.Copying.{IsTaken, typed_taken, Gives}
use Rattle.value_moves.proofs.Referring.{refers}
use Rattle.value_moves.proofs.Marked.{marked_fits, marks_of, kind_of}
use Rattle.value_moves.proofs.Obeying.{typed_moves}
use Rattle.value_moves.proofs.Written.{writes_taken}

module _ (defs : List Def) (k : Facts) (limit : ℕ) (o : Object) (x : World) (p : Process) (t : Ty) (r : Room) (v : Value) (n : ℕ)
    (a b : Operand) (source target : List Word) (from to : ℕ) (s : Leads x p a source from) (d : Leads x p b target to)
    (lies : Lies defs k source from t r v) (room : HasRoom defs target to t r) where
  abbrev pub Moves : Inst → Type 0
  Moves i =
      (others : List Word) × Writes target others to source from r.size
      × (obey limit o x p i i.op ≡ (with_words_at x p d.place others >>= λ m. Found (next m)))

  refer_there : (c : ℕ) → Has r.references c → (u : Option ℕ) × (word_at source (pos (from + c)) ≡ Found (Refer u))
  refer_there c h = refers defs k source from t r v c lies.laid lies.stands h

  here : from % 4 ≡ 0 → (j : ℕ) → 4 * j < r.size → Gives source (from / 4 + j) (as_marked (is_in (4 * j) r.references))
  here even j l = kind_of source from r lies.whole lies.only refer_there even j l (is_in (4 * j) r.references) refl

  gone : to % 4 ≡ 0 → (j : ℕ) → 4 * j < r.size → Gives target (to / 4 + j) (as_marked (is_in (4 * j) r.references))
  gone even j l = kind_of target to r room.whole room.only room.refer even j l (is_in (4 * j) r.references) refl

  takes : from % 4 ≡ 0 → to % 4 ≡ 0 → (m : ℕ) (vs : List Word) → 4 * m ≤ r.size → IsTaken source (from / 4) m vs → (j : ℕ) (w : Word)
      → slice_get vs j ≡ Some w → Takes target (to / 4 + j) w
  takes e f m vs l taken j w g =
      let long = taken.long in
      let in_vs = below vs j w g in
      let h = here e j (omega (arith, l, long, in_vs)) in
      let i = gone f j (omega (arith, l, long, in_vs)) in
      let same : Some h.0 ≡ Some w = sym h.1 ∙ taken.each j w g in
      let is : h.0 ≡ w = cc in
      record {
        old = i.0;
        stood = i.1;
        takes = marked_fits (is_in (4 * j) r.references) i.0 w i.2
            (subst (λ (u : Word). as_marked (is_in (4 * j) r.references) u ≡ Found u) is h.2);
      }

  module _ (even : from % 4 ≡ 0) (even_to : to % 4 ≡ 0) (m : ℕ) (long : r.size ≡ 4 * m) (vs : List Word)
      (taken : IsTaken source (from / 4) m vs) where
    put_there : (others : List Word) × (put target (to / 4) vs ≡ Found others) × Writes target others to source from r.size
    put_there =
        let fit = takes even even_to m vs (omega (arith, long)) taken in
        let i = put_words vs target (to / 4) fit in
        let vs_long = taken.long in
        (i.0, i.1, writes_taken target i.0 source vs to from r.size even_to (omega (arith, long, vs_long)) fit i.2 m even taken)

  module _ (c : ℕ) (has : Has r.references c) (types : slice_get o.types n ≡ Some (desc (next_multiple_of r.size 4) r.references)) where
    pub type_moves : Moves (inst op.Movmp a (middle.Imm (pos n)) b)
    type_moves =
        let at = at_word defs t r c lies.laid has in
        let whole = whole_words defs t r c lies.laid has in
        let f = refer_there c has in
        let g = room.refer c has in
        let h = (word_found source (from + c) (Refer f.0) f.1).0 in
        let k = (word_found target (to + c) (Refer g.0) g.1).0 in
        by_type (omega (arith, at, h)) (omega (arith, at, k)) (omega (arith, whole)) (omega (arith, whole))
      where
        by_type : from % 4 ≡ 0 → to % 4 ≡ 0 → r.size ≡ 4 * (r.size / 4) → next_multiple_of r.size 4 ≡ r.size
            → Moves (inst op.Movmp a (middle.Imm (pos n)) b)
        by_type e f long size =
            let type = desc r.size r.references in
            let taken = typed_taken type source (r.size / 4) 0 (from / 4)
            (λ j l.
            let g = here e j (omega (arith, l, long)) in
            let same : 0 + j ≡ j = omega arith in
            let marked = ap (λ (y : ℕ). file.marks type.map y) same ∙ marks_of r.size r.references j (omega (arith, l, long)) in
            (g.0, g.1, ap (λ (y : Bool). as_marked y g.0) marked ∙ g.2)) in
            let i = put_there e f (r.size / 4) long taken.0 taken.2 in (
              i.0,
              i.2,
              typed_moves x p o a b source target i.0 from to s d n type taken.0 e f
                  (types ∙ ap (λ (y : ℕ). Some (desc y r.references)) size) taken.1 i.1,
            )
