-- A slot that is busy has its value already: the other process hasn't stepped yet.
use Rattle.std.proofs.Common.{◌≡◌, ℕ, pos, ◌+◌, ◌<◌, true, List, [], ◌∷◌, Option, Some, None}
use Rattle.std.proofs.Common.{refl, sym, ap, ◌∙◌, subst, arith, inl, inr}
use Rattle.std.specs.Prelude.{slice_get}
use Rattle.heap_model.specs.Heap.{at, there}
use Rattle.heap_model.specs.Facts.{Fact, IsInner, IsFree}
use Rattle.heap_model.proofs.Heap.{there_is}
use Rattle.limbo_types.specs.Types as ty
use Rattle.limbo_types.specs.Types.{Ty}
use Rattle.limbo_layout.specs.Adts.{Has}
use Rattle.limbo_layout.specs.Layout.{alone, is_alone, reference}
use Rattle.limbo_typed.specs.Typed as typed
use Rattle.limbo_meaning.specs.Process.{Shared}
use Rattle.limbo_meaning.specs.Values.{Value, references}
use Rattle.limbo_meaning.specs.Origins.{Name}
use Rattle.core_code.specs.Machine as code
use Rattle.core_code.specs.Slots as core
use Rattle.core_code.specs.Slots.{Holds}
use Rattle.core_typing.specs.Held as held
use Rattle.core_typing.specs.Held.{Of}
use Rattle.dis_meaning.specs.Words.{Word, Refer, Found, word_at}
use Rattle.dis_meaning.specs.Process.{Process}
use Rattle.dis_memory.specs.Blocks.{Block, Record, World}
use Rattle.value_words.specs.Facts.{Facts, Grows}
use Rattle.value_words.proofs.Covered.{covered}
use Rattle.value_heaps.specs.Blocks.{IsWithin}
use Rattle.value_roots.specs.Accounts.{Accounted, to_nothing, to_value, to_inner}
use Rattle.value_roots.proofs.Words.{has_counts}
use Rattle.value_frames.specs.Frames.{Form, Nowhere, AsNumber, AsReference, Boxed, form_of, number_place, reference_place, spare_place}
use Rattle.value_frames.specs.Standing.{SlotStands, RefersIdly}
use Rattle.value_frames.specs.Rest.{SlotReads}
use Rattle.value_frames.proofs.Rest.{slots_rest}
use Rattle.value_frames.proofs.Slots.{slots_change}
use Rattle.value_follows.specs.Stands.{types_of}
use Rattle.value_follows.specs.Rooted.{PlaceAccounted}
use Rattle.value_follows.specs.Sides.{sides, HoldTheSame}
use Rattle.value_follows.specs.Rows.{Base, AreThere}
use Rattle.value_follows.proofs.RootedValues.{has_at, each_accounted, covers_those, stands_laid, word_has}
use Rattle.value_follows.proofs.RootedSlots.{IsWhole, idly_accounted}
use Rattle.rows_dropping.proofs.Boxes.{boxes_cover}
use Rattle.rows_dropping.proofs.Spare.{OnWay, way_later, mine_later}
use Rattle.rows_dropping.proofs.Making.{mine_accounted, holds}
use Rattle.rows_dropping.proofs.Sparing.{Spares}

-- a type whose values stand as references has the room of one
refers_alone : (t : Ty) → form_of t ≡ AsReference → alone t ≡ Some reference
refers_alone ty.Byte e = absurd cc
refers_alone ty.Int e = absurd cc
refers_alone ty.Big e = absurd cc
refers_alone ty.Nothing e = absurd cc
refers_alone (ty.Tuple ts) e = absurd cc
refers_alone (ty.Adt n) e = absurd cc
refers_alone _ e = refl

module _ (m : typed.Module) (i : ℕ) (p : code.Process) (into : ℕ) (t : Ty) (live : List ℕ) (u : Value) where
  -- The slot's words stand for its value.
  abbrev pub Got : typed.Function → Facts → World → Process → Type 0
  Got f k x q =
      SlotStands m.adts k x.heap q.frame.serial q.frame.words (number_place m.adts (types_of m f) into) (reference_place m.adts (types_of m f) into)
      (Of t live) (Holds u) []

  -- they do so where more is known and they are as they were
  pub got_on : (f : typed.Function) (k now : Facts) (x y : World) (q r : Process) → r.frame.serial ≡ q.frame.serial → Grows k now
      → ((w : ℕ) → IsWithin (number_place m.adts (types_of m f) into) 8 w → slice_get r.frame.words w ≡ slice_get q.frame.words w)
      → Got f k x q → Got f now y r
  got_on f k now x y q r serial grows same s =
      subst (λ n. SlotStands m.adts now y.heap n r.frame.words (number_place m.adts (types_of m f) into) (reference_place m.adts (types_of m f) into)
      (Of t live) (Holds u) []) (sym serial)
      (slots_change.stays m.adts k now x.heap y.heap q.frame.serial q.frame.words r.frame.words (number_place m.adts (types_of m f) into)
      (Of t live) (Holds u) [] s grows same (λ b h. absurd h))

  pub got_at : (f g : typed.Function) (k : Facts) (x : World) (q : Process) → g ≡ f → Got f k x q → Got g k x q
  got_at f g k x q e s = subst (λ h. Got h k x q) (sym e) s

  -- what the slot refers to is accounted for, where the value is named
  module _ (k : Facts) (w : Shared) (x : World) (q : Process) (worlds : (sides m).worlds k w x) (live_words : AreThere m x q)
      (named : (n : ℕ) → Name (references u) n → 0 < code.process_names p n) (f : typed.Function) (s : Got f k x q) where
    abbrev n_at : ℕ
    n_at = number_place m.adts (types_of m f) into

    abbrev r_at : ℕ
    r_at = reference_place m.adts (types_of m f) into

    whole : IsWhole k x.heap
    whole = record { carriers = λ n d b e g. (worlds.0.carriers n d b e g).0; closed = worlds.0.closed.closed }

    all_there : (b : ℕ) → Has q.frame.words (Refer (Some b)) → there (at x.heap b) ≡ true
    all_there b h = let c = has_counts q.frame.words b h in live_words b (omega (arith, c))

    abbrev Is : Option ℕ → Type 0
    Is r = Accounted k i x.heap (code.process_names p) (Refer r)

    got_reads : SlotReads m.adts k q.frame.words n_at r_at t live u []
    got_reads = slots_rest.reads m.adts k x.heap q.frame.serial q.frame.words n_at r_at t live u [] s

    idle : (b : ℕ) → RefersIdly m.adts k q.frame.words r_at → word_at q.frame.words (pos r_at) ≡ Found (Refer (Some b)) → Is (Some b)
    idle b h e = idly_accounted m.adts k x.heap whole i (code.process_names p) q.frame.words r_at b all_there h e

    by_form : (g : Form) → form_of t ≡ g → (b : ℕ) → word_at q.frame.words (pos r_at) ≡ Found (Refer (Some b)) → Is (Some b)
    by_form Nowhere g b e = idle b (got_reads.nowhere g).1 e
    by_form AsNumber g b e = idle b (got_reads.beside g) e
    by_form AsReference g b e =
        let same : r_at + 0 ≡ r_at = omega arith in
        to_value b (covers_those m.adts k (code.process_names p) (references u) b named
        (covered m.adts k q.frame.words r_at t reference u 0 b (is_alone t reference (refers_alone t g)) (got_reads.reference g) (inl refl)
        (ap (λ (j : ℕ). word_at q.frame.words (pos j)) same ∙ e)))
    by_form Boxed g b e =
        let box = got_reads.boxed g in
        let same : box.0 ≡ b = let z : Found (Refer (Some box.0)) ≡ Found (Refer (Some b)) = sym box.2 ∙ e in cc in
        let there_so = all_there box.0 (word_has q.frame.words r_at (Refer (Some box.0)) box.2) in
        let block = there_is (at x.heap box.0) there_so in
        let is_it = block.1 ∙ ap (λ (c : Block). Some c) (worlds.0.carriers box.0 (Record box.1) block.0 box.3.carries block.1).0 in
        subst (λ c. Is (Some c)) same
        (to_inner box.0 (Record box.1) (subst (λ (o : Option (Fact Block)). IsInner o) (sym box.3.carries) tt) is_it
        (λ free. absurd (subst (λ (o : Option (Fact Block)). IsFree o) box.3.carries free))
        (each_accounted k i x.heap (code.process_names p) box.1 (λ j d h.
        to_value d (boxes_cover m.adts t (stands_laid m.adts k box.1 0 t u box.4) k box.1 u (code.process_names p) named (box.3.kind, box.4) d
        (has_at box.1 j (Refer (Some d)) h)))))

    pub got_accounted : PlaceAccounted m k i x (code.process_names p) q.frame r_at
    got_accounted None e = to_nothing
    got_accounted (Some b) e = by_form (form_of t) refl b e

  -- ---- states on the way

  -- The slot has its value, and the spare word refers to nothing.
  pub record HasGot (known : held.Slots) (far : ℕ) (k : Facts) (x : World) (q : Process) : Type 0 where
    pub way : OnWay m i p known (into ∷ []) far k x q
    pub got : Got way.stands.is.function k x q
    pub spare : word_at q.frame.words (pos (spare_place m.adts (types_of m way.stands.is.function))) ≡ Found (Refer None)

  pub has_later : (b : Base m) (known : held.Slots) (far : ℕ) (k now : Facts) (x y : World) (q : Process) → HasGot known far k x q
      → (sides m).leaves i k now x y → HoldTheSame m now i y p q → HasGot known far now y q
  has_later b known far k now x y q s left hold =
      let way = way_later m i p b k now x y q left hold known (into ∷ []) far s.way in
      record {
        way = way.0;
        got = got_at s.way.stands.is.function way.0.stands.is.function now y q way.1.function
            (got_on s.way.stands.is.function k now x y q q refl left.0.grows (λ w h. refl) s.got);
        spare = subst (λ f. word_at q.frame.words (pos (spare_place m.adts (types_of m f))) ≡ Found (Refer None)) (sym way.1.function) s.spare;
      }

  -- It has, and the spare word refers to a record of the process's own.
  pub record BothGot (so_far : Facts → List Word → Type 0) (known : held.Slots) (far : ℕ) (k : Facts) (x : World) (q : Process) : Type 0 where
    pub spares : Spares m i p so_far known (into ∷ []) far k x q
    pub got : Got spares.way.stands.is.function k x q

  pub both_later : (b : Base m) (so_far : Facts → List Word → Type 0) → ((k now : Facts) (ws : List Word) → Grows k now → so_far k ws → so_far now ws)
      → (known : held.Slots) (far : ℕ) (k now : Facts) (x y : World) (q : Process) → BothGot so_far known far k x q
      → (sides m).leaves i k now x y → HoldTheSame m now i y p q → BothGot so_far known far now y q
  both_later b so_far grows known far k now x y q s left hold =
      let way = way_later m i p b k now x y q left hold known (into ∷ []) far s.spares.way in
      record {
        spares = record {
          way = way.0;
          mine = mine_later m i p b k now x y q left hold s.spares.way.stands.is.words.own way.0.stands.is.words.own
              (spare_place m.adts (types_of m s.spares.way.stands.is.function)) (spare_place m.adts (types_of m way.0.stands.is.function))
              so_far (λ ws h. grows k now ws left.0.grows h) way.1.own
              (ap (λ f. spare_place m.adts (types_of m f)) way.1.function) s.spares.mine;
        };
        got = got_at s.spares.way.stands.is.function way.0.stands.is.function now y q way.1.function
            (got_on s.spares.way.stands.is.function k now x y q q refl left.0.grows (λ w h. refl) s.got);
      }

  -- ---- what both hold then

  module _ (b : Base m) (unnamed : (n : ℕ) → core.slot_names (core.slot p.frame.slots into) n ≡ 0)
      (named : (n : ℕ) → Name (references u) n → 0 < code.process_names p n) (k : Facts) (w : Shared) (x : World) (q : Process)
      (worlds : (sides m).worlds k w x) (live_words : AreThere m x q) where
    leads_none : (s n : ℕ) → Has (into ∷ []) s → 0 < core.slot_names (core.slot p.frame.slots s) n → ⊥
    leads_none s n (inl e) h =
        let z = unnamed n in
        let h' = subst (λ r. 0 < core.slot_names (core.slot p.frame.slots r) n) (sym e) h in omega (arith, z, h')
    leads_none s n (inr e) h = e

    slot_so : (f : typed.Function) → Got f k x q → (s : ℕ) → Has (into ∷ []) s
        → PlaceAccounted m k i x (code.process_names p) q.frame (reference_place m.adts (types_of m f) s)
    slot_so f got s (inl e) =
        subst (λ r. PlaceAccounted m k i x (code.process_names p) q.frame (reference_place m.adts (types_of m f) r)) e
        (got_accounted k w x q worlds live_words named f got)
    slot_so f got s (inr e) = absurd e

    pub has_holds : (known : held.Slots) (far : ℕ) → HasGot known far k x q → HoldTheSame m k i x p q
    has_holds known far s =
        holds m i p k x q b w known (into ∷ []) far s.way worlds live_words
        (slot_so s.way.stands.is.function s.got)
        (λ r e. subst (λ o. Accounted k i x.heap (code.process_names p) (Refer o)) (same_refer None r s.spare e) to_nothing)
        (λ s n h l. absurd (leads_none s n h l))
      where
        same_refer : (a c : Option ℕ) → word_at q.frame.words (pos (spare_place m.adts (types_of m s.way.stands.is.function))) ≡ Found (Refer a)
            → word_at q.frame.words (pos (spare_place m.adts (types_of m s.way.stands.is.function))) ≡ Found (Refer c) → a ≡ c
        same_refer a c e g = let z : Found (Refer a) ≡ Found (Refer c) = sym e ∙ g in cc

    pub both_hold : (so_far : Facts → List Word → Type 0) (known : held.Slots) (far : ℕ) → BothGot so_far known far k x q → HoldTheSame m k i x p q
    both_hold so_far known far s =
        holds m i p k x q b w known (into ∷ []) far s.spares.way worlds live_words
        (slot_so s.spares.way.stands.is.function s.got)
        (mine_accounted m i p k x q s.spares.way.stands.is.words.own (spare_place m.adts (types_of m s.spares.way.stands.is.function)) so_far s.spares.mine)
        (λ s n h l. absurd (leads_none s n h l))
