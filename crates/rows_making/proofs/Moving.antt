-- A value that lies somewhere is moved into a record that a slot is to refer to: it is full. (As `rows_boxes` has it of boxes.)
use Rattle.std.proofs.Common.{◌≡◌, true, ℕ, suc, ◌+◌, ◌*◌, ◌/◌, ◌%◌, List, [], ◌∷◌, Option, Some, None, refl, sym, ap, subst, ◌∙◌, arith, inl, inr}
use Rattle.std.proofs.Math.Nat.{zero-mod}
use Rattle.std.specs.Prelude.{slice_get}
use Rattle.process_model.specs.Process.{Went}
use Rattle.heap_model.specs.Heap.{at, there}
use Rattle.heap_model.specs.Facts.{IsInner, Inner}
use Rattle.limbo_types.specs.Types.{Ty}
use Rattle.limbo_layout.specs.Adts.{Has}
use Rattle.limbo_layout.specs.Layout.{Laid}
use Rattle.limbo_typed.specs.Typed as typed
use Rattle.limbo_meaning.specs.Process.{Shared}
use Rattle.limbo_meaning.specs.Values.{Value, references}
use Rattle.system_model.specs.Limits.{frames_limit}
use Rattle.core_code.specs.Machine as code
use Rattle.dis_isa.specs.declared.inst.Inst.{Inst}
use Rattle.dis_meaning.specs.Words.{Word, Plain, Refer, Address}
use Rattle.dis_meaning.specs.Process.{Process}
use Rattle.dis_memory.specs.Blocks.{World, Record, with_changed}
use Rattle.dis_memory.specs.Step.{obey}
use Rattle.value_words.specs.Contents as contents
use Rattle.value_words.specs.Contents.{content, content_in}
use Rattle.value_words.specs.Forms.{Form}
use Rattle.value_words.specs.Facts.{Facts, IsNamed}
use Rattle.value_words.proofs.Blank.{laid_within}
use Rattle.value_words.proofs.Bytes.{word_there}
use Rattle.value_words.proofs.Covered.{IsCovered, covered}
use Rattle.value_heaps.proofs.Marks.{at_word}
use Rattle.value_frames.specs.Frames.{box_bytes, room_for}
use Rattle.value_frames.specs.Types.{AreOf}
use Rattle.value_frames.proofs.Replacing.{kinds_stay}
use Rattle.value_moves.specs.Operands.{behind}
use Rattle.value_moves.specs.Spots.{Leads}
use Rattle.value_moves.specs.Writing.{Writes, Lies, HasRoom}
use Rattle.value_moves.proofs.Leading.{spots_lead}
use Rattle.value_moves.proofs.Moving.{values_move}
use Rattle.value_code.specs.Objects.{object_of}
use Rattle.number_effects.specs.Giving.{after}
use Rattle.number_effects.specs.Stepping.{Reaches}
use Rattle.number_effects.proofs.Stepping.{steps_obey}
use Rattle.value_follows.specs.Sides.{sides, HoldTheSame}
use Rattle.value_follows.specs.Rows.{Base}
use Rattle.value_follows.proofs.RootedValues.{has_at}
use Rattle.value_follows.proofs.Several.{moved_to}
use Rattle.rows_boxes.proofs.Moving.{SourceLies}
use Rattle.rows_making.proofs.Making.{Making, box_place}
use Rattle.rows_making.proofs.Filling.{Fills}

has_where : (ws : List Word) (v : Word) → Has ws v → (w : ℕ) × (slice_get ws w ≡ Some v)
has_where [] v h = absurd h
has_where (u ∷ ws) v (inl e) = (0, ap (λ (a : Word). Some a) e)
has_where (u ∷ ws) v (inr h) = let w = has_where ws v h in (suc w.0, w.1)

-- bytes of a reference are those of a word that refers so
refers_there : (o : Option Word) (c d : ℕ) (r : Option ℕ) → content_in o c ≡ Some (contents.Reference r d) → o ≡ Some (Refer r)
refers_there None c d r e = absurd cc
refers_there (Some (Plain z)) c d r e = absurd cc
refers_there (Some (Refer s)) c d r e = let f : s ≡ r = cc in ap (λ (a : Option ℕ). Some (Refer a)) f
refers_there (Some (Address p a)) c d r e = absurd cc

module _ (k : Facts) where
  not_inner : (n m : ℕ) → IsNamed k (Some n) (Some m) → Inner k n → ⊥
  not_inner n m (inl e) h = subst IsInner e h
  not_inner n m (inr e) h = subst IsInner e.1.1 h

  covered_outer : (ns : List (Option ℕ)) (n : ℕ) → IsCovered k ns n → Inner k n → ⊥
  covered_outer ns n (inl c) h = not_inner n c.0 c.2 h
  covered_outer ns n (inr c) h = subst IsInner c.1.0 h

module _ (m : typed.Module) (b : Base m) (number : ℕ) (f : typed.Function) (t : Ty) (of : Form) (into : ℕ) (j box : ℕ) (inner : List Word) (i : ℕ) (p : code.Process)
    (q : Process) (k : Facts) (w : Shared) (x : World) (s : Making m number f t of into j box inner k i x p q) (hold : HoldTheSame m k i x p q)
    (worlds : (sides m).worlds k w x) (laid : Laid m.adts t (room_for m.adts t)) where
  -- the record has room for the value
  pub box_room : HasRoom m.adts inner 0 t (room_for m.adts t)
  box_room =
      let many = s.kind.many in
      record {
        laid = laid;
        aligned = zero-mod (room_for m.adts t).align;
        whole = (λ u h. let below = h.1 in omega (arith, many, below), s.kind.ranged);
        begins = λ l. inl refl;
        only = λ u to e h. (4 * u, s.kind.only u to e, omega arith);
        refer = λ o h.
            let r = s.kind.refer o h in
            let even = at_word m.adts t (room_for m.adts t) o laid h in
            (r.0, word_there inner (0 + o) (Refer r.0) (omega (arith, even)) (ap (λ (z : ℕ). slice_get inner (z / 4)) (omega arith) ∙ r.1));
      }

  abbrev pub target_leads : Leads x q (behind (box_place m number f t of into) 0) inner 0
  target_leads = (spots_lead.inner x q (box_place m number f t of into) box inner 0 s.word s.there).0

  module _ (v : Value) (source : SourceLies m t k x v) (others : List Word)
      (writes : Writes inner others 0 source.words source.at (room_for m.adts t).size) where
    written_kind : AreOf (box_bytes m.adts t) (room_for m.adts t).references others
    written_kind =
        kinds_stay.all (box_bytes m.adts t) (room_for m.adts t).references inner others s.kind writes.many writes.refer writes.referred
        (writes.ranged source.lies.whole.1 s.kind.ranged)

    written_lies : Lies m.adts k others 0 t (room_for m.adts t) v
    written_lies = (values_move.stands m.adts k source.words inner others source.at 0 t (room_for m.adts t) v source.lies box_room writes).0

    led_there : (n : ℕ) → Has others (Refer (Some n)) → (there (at x.heap n) ≡ true) × (Inner k n → ⊥)
    led_there n h =
        let u = has_where others (Refer (Some n)) h in
        let has = written_kind.only u.0 (Some n) u.1 in
        let ends = laid_within m.adts t (room_for m.adts t) laid (4 * u.0) has in
        let same : (0 + 4 * u.0) / 4 ≡ u.0 = omega arith in
        let first : (0 + 4 * u.0) % 4 ≡ 0 = omega arith in
        let here : content others (0 + 4 * u.0) ≡ Some (contents.Reference (Some n) 0) =
        ap (λ (z : ℕ). content_in (slice_get others z) ((0 + 4 * u.0) % 4)) same
        ∙ ap (λ (z : ℕ). content_in (slice_get others u.0) z) first
        ∙ ap (λ (o : Option Word). content_in o 0) u.1 in
        let there : content source.words (source.at + 4 * u.0) ≡ Some (contents.Reference (Some n) 0) =
        sym (writes.there (4 * u.0) (omega (arith, ends))) ∙ here in
        let word = refers_there (slice_get source.words ((source.at + 4 * u.0) / 4)) ((source.at + 4 * u.0) % 4) 0 (Some n) there in (
          source.led n (has_at source.words ((source.at + 4 * u.0) / 4) (Refer (Some n)) word),
          covered_outer k (references v) n
              (covered m.adts k others 0 t (room_for m.adts t) v (4 * u.0) n laid written_lies.stands has
              (word_there others (0 + 4 * u.0) (Refer (Some n)) first (ap (slice_get others) same ∙ u.1))),
        )

    pub write_fills : Fills m b number f t of into j box inner i p q k w x s hold worlds others v
    write_fills = record { kind = written_kind; lies = written_lies; led = led_there }

    pub write_goes : (inst : Inst) → Reaches (object_of m ∷ []) x q (object_of m) inst
        → obey frames_limit (object_of m) x q inst inst.op ≡ after x q target_leads.place others
        → (sides m).code.step x q ≡ Went (with_changed x box (Record others)) (moved_to q (suc q.frame.pc) q.frame.words)
    write_goes inst reaches obeys =
        steps_obey.stores frames_limit (object_of m ∷ []) x q (object_of m) inst x target_leads.place others _ reaches obeys
        ((spots_lead.inner x q (box_place m number f t of into) box inner 0 s.word s.there).1 others)
