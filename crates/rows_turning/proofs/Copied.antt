-- Words that are moved by a type, as they are: numbers to where numbers stand, and references to where references do.
use Rattle.std.proofs.Common.{◌≡◌, ◌⊎◌, ℕ, pos, ◌+◌, ◌*◌, ◌/◌, ◌%◌, ◌<◌, ◌≤◌, Bool, List, length, Some, sym, ap, ◌∙◌, subst, arith, inl, inr}
use Rattle.std.specs.Prelude.{slice_get}
use Rattle.limbo_layout.specs.Layout.{is_in}
use Rattle.dis_isa.specs.declared.inst.Middle.TheVariants as middle
use Rattle.dis_isa.specs.declared.inst.Operand.{Operand}
use Rattle.dis_isa.specs.declared.op.Op.TheVariants as op
use Rattle.dis_file.specs.declared.object.Object.{Object}
use Rattle.dis_file.specs.References as file
use Rattle.dis_meaning.specs.Words.{Word, Found}
use Rattle.dis_meaning.specs.Process.{Process}
use Rattle.dis_memory.specs.Blocks.{World}
use Rattle.dis_memory.specs.Copies.{as_marked, typed_from}
use Rattle.dis_memory.specs.Step.{obey}
use Rattle.value_words.proofs.Rows.{is_there, below}
use Rattle.value_frames.specs.Types.{desc}
use Rattle.value_moves.specs.Operands.{inst}
use Rattle.value_moves.specs.Spots.{Leads}
use Rattle.value_moves.proofs.Copying.{typed_taken, Gives}
use Rattle.value_moves.proofs.Marked.{marked_fits, marks_of}
use Rattle.value_moves.proofs.Obeying.{typed_moves}
use Rattle.value_moves.proofs.Putting.{Takes, put_words}
use Rattle.number_effects.specs.Giving.{after}

-- So many words stand where others stood, and all else is as it was.
pub record AreCopied (source target others : List Word) (from to count : ℕ) : Type 0 where
  pub many : length others ≡ length target
  pub same : (j : ℕ) → j < count → slice_get others (to / 4 + j) ≡ slice_get source (from / 4 + j)
  pub rest : (w : ℕ) → (w < to / 4) ⊎ (to / 4 + count ≤ w) → slice_get others w ≡ slice_get target w

module _ (limit : ℕ) (o : Object) (x : World) (p : Process) (a b : Operand) (source target : List Word) (from to : ℕ) (s : Leads x p a source from)
    (d : Leads x p b target to) (whole : from % 4 ≡ 0) (whole_too : to % 4 ≡ 0) (n count : ℕ) (offsets : List ℕ)
    (typed : slice_get o.types n ≡ Some (desc (4 * count) offsets))
    (here : (j : ℕ) → j < count → Gives source (from / 4 + j) (as_marked (is_in (4 * j) offsets)))
    (gone : (j : ℕ) → j < count → Gives target (to / 4 + j) (as_marked (is_in (4 * j) offsets))) where
  pub copied : (others : List Word) × AreCopied source target others from to count
      × (obey limit o x p (inst op.Movmp a (middle.Imm (pos n)) b) op.Movmp ≡ after x p d.place others)
  copied =
      let taken = typed_taken (desc (4 * count) offsets) source count 0 (from / 4)
      (λ j l.
      let g = here j l in
      let same : 0 + j ≡ j = omega arith in
      let marked = ap (λ (y : ℕ). file.marks (desc (4 * count) offsets).map y) same ∙ marks_of (4 * count) offsets j (omega (arith, l)) in
      (g.0, g.1, ap (λ (y : Bool). as_marked y g.0) marked ∙ g.2)) in
      let vs = taken.0 in
      let long = taken.2.long in
      let fit : (j : ℕ) (w : Word) → slice_get vs j ≡ Some w → Takes target (to / 4 + j) w = λ j w e.
      let within = below vs j w e in
      let h = here j (omega (arith, long, within)) in
      let i = gone j (omega (arith, long, within)) in
      let is : h.0 ≡ w = same_word h.0 w (sym h.1 ∙ taken.2.each j w e) in
      record {
        old = i.0;
        stood = i.1;
        takes = marked_fits (is_in (4 * j) offsets) i.0 w i.2
            (subst (λ (u : Word). as_marked (is_in (4 * j) offsets) u ≡ Found u) is h.2);
      } in
      let i = put_words vs target (to / 4) fit in (
        i.0,
        record {
          many = i.2.many;
          same = λ j l.
              let v = is_there vs j (omega (arith, l, long)) in
              i.2.there j v.0 v.1 ∙ sym (taken.2.each j v.0 v.1);
          rest = λ w out. i.2.rest w (beyond w out long);
        },
        typed_moves x p o a b source target i.0 from to s d n (desc (4 * count) offsets) vs whole whole_too typed (ap (λ (c : ℕ). typed_from (desc (4 * count) offsets) 0 source (from / 4) c) by_four ∙ taken.1) i.1,
      )
    where
      same_word : (v w : Word) → Some v ≡ Some w → v ≡ w
      same_word v w e = cc

      by_four : (4 * count) / 4 ≡ count
      by_four = omega arith

      beyond : (w : ℕ) {c : ℕ} → (w < to / 4) ⊎ (to / 4 + count ≤ w) → c ≡ count → (w < to / 4) ⊎ (to / 4 + c ≤ w)
      beyond w (inl l) e = inl l
      beyond w (inr l) e = inr (omega (arith, l, e))
