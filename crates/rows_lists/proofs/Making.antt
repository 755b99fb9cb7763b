-- A new cell in front of a list: the list comes into the slot first, which is busy then, and the cell is made in front of it.
use Rattle.std.proofs.Common.{◌≡◌, ℕ, zero, suc, pos, ◌<◌, Bool, true, false, if◌then◌else◌, List, [], ◌∷◌, ◌++◌, length, Option, Some, None, refl, sym, ap, ◌∙◌, subst, arith, inl, inr}
use Rattle.std.specs.Prelude.{slice_get}
use Rattle.process_model.specs.Process.{Went}
use Rattle.process_ways.specs.Ways.{Way}
use Rattle.heap_model.specs.Heap.{at, there}
use Rattle.heap_model.proofs.Heap.{within}
use Rattle.heap_model.specs.Facts.{IsInner, Inner, itself, refers as covered}
use Rattle.limbo_types.specs.Types as ty
use Rattle.limbo_types.specs.Types.{Ty}
use Rattle.limbo_layout.specs.Adts.{Def, Has}
use Rattle.limbo_values.specs.declared.number.Kind.TheVariants as kind
use Rattle.limbo_typed.specs.Typed as typed
use Rattle.limbo_meaning.specs.Memory as source
use Rattle.limbo_meaning.specs.Process.{Shared}
use Rattle.limbo_meaning.specs.Values as value
use Rattle.limbo_meaning.specs.Values.{Value, Ref, among, references, one}
use Rattle.system_model.specs.Limits.{frames_limit}
use Rattle.core_code.specs.Code.{Instr}
use Rattle.core_code.specs.Machine as code
use Rattle.core_code.specs.Slots as core
use Rattle.core_code.specs.Slots.{Slot, Holds, slots_name, slot_names}
use Rattle.core_typing.specs.Held as held
use Rattle.core_typing.specs.Held.{Of}
use Rattle.core_typing.specs.Needs.{IsClean}
use Rattle.dis_isa.specs.declared.inst.Inst.{Inst}
use Rattle.dis_isa.specs.declared.inst.Operand as isa
use Rattle.dis_isa.specs.declared.inst.Middle.TheVariants as middle
use Rattle.dis_isa.specs.declared.op.Op.TheVariants as op
use Rattle.dis_meaning.specs.Words.{Word, Refer, Access, Found, word_at}
use Rattle.dis_meaning.specs.Process.{Process}
use Rattle.dis_memory.specs.Blocks as block
use Rattle.dis_memory.specs.Blocks.{Block, World, next_serial}
use Rattle.dis_memory.specs.Places.{source_reference}
use Rattle.value_words.proofs.Covered.{same_names}
use Rattle.value_words.specs.Forms as forms
use Rattle.value_words.specs.Forms.{Form, Cells}
use Rattle.value_words.specs.Facts.{Facts, IsName, IsPart, IsText}
use Rattle.value_words.specs.Stands.{Stands, a_number, a_text, a_name, an_array, no_words, a_tuple, an_adt}
use Rattle.value_heaps.proofs.Words.{named_where}
use Rattle.value_roots.specs.Accounts.{Accounted, to_nothing, to_value}
use Rattle.value_frames.specs.Frames.{AsReference, form_of, number_place, reference_place}
use Rattle.value_frames.specs.Standing.{a_value, NamesOnly}
use Rattle.value_moves.specs.Operands.{inst, own}
use Rattle.value_moves.proofs.Leading.{spots_lead}
use Rattle.value_code.specs.Objects.{object_of}
use Rattle.number_effects.specs.Giving.{with_word, WordStored}
use Rattle.number_effects.specs.Stepping.{Reaches}
use Rattle.number_effects.proofs.Records.{words_move}
use Rattle.number_effects.proofs.Stepping.{steps_obey}
use Rattle.block_effects.specs.Stored.{Comes, ReferenceThere, AfterBlock}
use Rattle.value_follows.specs.Stands.{types_of, place_of, GoesOn}
use Rattle.value_follows.specs.Rooted.{PlaceAccounted}
use Rattle.value_follows.specs.Sides.{sides, HoldTheSame}
use Rattle.value_follows.specs.Rows.{place, is_tidied, row_of, Base}
use Rattle.value_follows.proofs.Several.{Next, moved_to}
use Rattle.value_follows.proofs.Single.{Once}
use Rattle.rows_lists.proofs.OnTheWay.{On}
use Rattle.rows_lists.proofs.New.{value_made}
use Rattle.rows_lists.proofs.Coming.{put_on, reference_there, block_comes}
use Rattle.rows_lists.proofs.Needing.{rests}
use Rattle.rows_lists.proofs.Busy.{busied_referring, nothing_to_lead, busy_alone}
use Rattle.rows_lists.proofs.Passing.{goes_by}
use Rattle.rows_lists.proofs.Blocks.{word_leads}
use Rattle.rows_lists.proofs.Cells.{CellOf, cell_stands}

-- ---- what references lead to is no inner block

module _ (k : Facts) where
  named_outer : (asked : Option Form) (c : ℕ) (n : Option ℕ) → IsName k asked (Some c) n → Inner k c → ⊥
  named_outer asked c None i h = i
  named_outer None c (Some n) i h = i
  named_outer (Some f) c (Some n) i h = subst IsInner i.fact h

  part_outer : (t : Ty) (c : ℕ) (p : Option value.Part) → IsPart k t (Some c) p → Inner k c → ⊥
  part_outer t c None i h = i
  part_outer t c (Some p) (inl i) h = subst IsInner i.0.fact h
  part_outer t c (Some p) (inr i) h = subst IsInner i.0 h

  same_refer : (r : Option ℕ) (c : ℕ) → ◌≡◌ {A = Access Word} (Found (Refer r)) (Found (Refer (Some c))) → r ≡ Some c
  same_refer r c e = cc

  pub stands_outer : (defs : List Def) (words : List Word) (at : ℕ) (t : Ty) (v : Value) → form_of t ≡ AsReference → Stands defs k words at t v
      → (c : ℕ) → word_at words (pos at) ≡ Found (Refer (Some c)) → Inner k c → ⊥
  stands_outer defs words _ _ _ e (a_number at kind.Byte z f i) c w h = absurd cc
  stands_outer defs words _ _ _ e (a_number at kind.Int z f i) c w h = absurd cc
  stands_outer defs words _ _ _ e (a_number at kind.Big z f i) c w h = absurd cc
  stands_outer defs words _ _ _ e (a_text at r s f i) c w h =
      let same = same_refer r c (sym f ∙ w) in subst IsInner (subst (λ (o : Option ℕ). IsText k o s) same i).0 h
  stands_outer defs words _ _ _ e (a_name at t r n i f j) c w h =
      let same = same_refer r c (sym f ∙ w) in named_outer (forms.form_of t) c n (subst (λ (o : Option ℕ). IsName k (forms.form_of t) o n) same j) h
  stands_outer defs words _ _ _ e (an_array at t r p f i) c w h =
      let same = same_refer r c (sym f ∙ w) in part_outer t c p (subst (λ (o : Option ℕ). IsPart k t o p) same i) h
  stands_outer defs words _ _ _ e (no_words at) c w h = absurd cc
  stands_outer defs words _ _ _ e (a_tuple at ts rs vs l all) c w h = absurd cc
  stands_outer defs words _ _ _ e (an_adt at n d rs vs f l all) c w h = absurd cc

-- ---- a name that a slot has is named

pub in_slots : (slots : core.Slots) (s n : ℕ) (v : Value) → core.slot slots s ≡ Holds v → 0 < among n (references v) → 0 < slots_name slots n
in_slots [] s n v e h =
    let f : value.nothing ≡ v = cc in absurd (let g = subst (λ (u : Value). 0 < among n (references u)) (sym f) h in omega (arith, g))
in_slots (l ∷ slots) zero n v e h =
    let g = subst (λ (o : Slot). 0 < slot_names o n) (sym e) h in omega (arith, g)
in_slots (l ∷ slots) (suc s) n v e h = let g = in_slots slots s n v e h in omega (arith, g)

pub name_held : (p : code.Process) (s n : ℕ) → core.slot p.frame.slots s ≡ Holds (Ref (Some n)) → 0 < code.process_names p n
name_held p s n e =
    let it : one n (Some n) ≡ 1 = ap (λ (h : Bool). if h then 1 else 0) (same_names n) in
    let g = in_slots p.frame.slots s n (Ref (Some n)) e (omega (arith, it)) in
    omega (arith, g)

-- ---- the second instruction

module _ (m : typed.Module) (b : Base m) (k : Facts) (i : ℕ) (w : Shared) (x : World) (n : ℕ) (f : typed.Function) (p : code.Process) (q : Process)
    (into : ℕ) (on : On m k i x (into ∷ []) n f 1 p q) (hold : HoldTheSame m k i x p q) (worlds : (sides m).worlds k w x)
    (l : into < length p.frame.slots) where
  abbrev to : ℕ
  to = reference_place m.adts (types_of m f) into

  pub cell_comes : (inst : Inst) → Reaches (object_of m ∷ []) x q (object_of m) inst → (rest : Option ℕ)
      → word_at q.frame.words (pos to) ≡ Found (Refer rest) → (item : Ty) (behind : Option ℕ) → IsName k (Some (Cells item)) rest behind
      → (v : Value) (words : List Word) → CellOf m.adts k item v words
      → ((u c : ℕ) → slice_get words u ≡ Some (Refer (Some c)) → (there (at x.heap c) ≡ true) × (Inner k c → ⊥))
      → ((d : ReferenceThere x q (own to)) → Comes frames_limit (object_of m) x q inst (AfterBlock x q d (block.Cell words d.old)))
      → (live : List ℕ) → NamesOnly live (Ref (Some (length w.heap)))
      → suc q.frame.pc ≡ place_of m n f (suc p.frame.pc) → GoesOn m f (suc p.frame.pc) (held.put on.known into (Of (ty.ListOf item) live))
      → (sides m).program.step w p
      ≡ Went (record { heap = w.heap ++ Some (source.Cell v behind) ∷ []; outside = w.outside }) (put_on p into (Holds (Ref (Some (length w.heap)))))
      → Once m b i p q k w x
  cell_comes inst is rest before item behind named v words cell others comes live names next goes does =
      let new = block.Cell words rest in
      let made = value_made m k i w x worlds new (Some (Cells item)) (λ c h. all_outer c (named_where (Refer rest ∷ words) c h))
      (source.Cell v behind)
      (λ now grows known formed. cell_stands m k now grows (next_serial x) item v words cell rest behind named
      (λ c e. within x.heap c (word_leads m k i x p q hold to rest before c e)) formed) in
      block_comes m b k i w x (into ∷ []) n f 1 p q on hold worlds into l (busy_alone into) inst is rest before new
      (comes (reference_there m b k i w x (into ∷ []) n f 1 p q on hold worlds into l (busy_alone into) rest before))
      made.now (record { heap = w.heap ++ Some (source.Cell v behind) ∷ []; outside = w.outside }) made.made made.after
      (ty.ListOf item) live (Ref (Some (length w.heap)))
      (λ ws e.
      a_value ws (number_place m.adts (types_of m f) into) to (ty.ListOf item) live (Ref (Some (length w.heap)))
      (a_name to (ty.ListOf item) (Some (next_serial x)) (Some (length w.heap)) tt e (record { fact = made.known; formed = made.formed }))
      names)
      next goes does
    where
      all_outer : (c : ℕ) → (u : ℕ) × (slice_get (Refer rest ∷ words) u ≡ Some (Refer (Some c))) → (there (at x.heap c) ≡ true) × (Inner k c → ⊥)
      all_outer c (zero, e) =
          let same : rest ≡ Some c = cc in (
            word_leads m k i x p q hold to rest before c same,
            named_outer k (Some (Cells item)) c behind (subst (λ (o : Option ℕ). IsName k (Some (Cells item)) o behind) same named),
          )
      all_outer c (suc u, e) = others u c e

-- ---- the first instruction

module _ (m : typed.Module) (b : Base m) (i : ℕ) (p : code.Process) (n : ℕ) (f : typed.Function) (k : Facts) (w : Shared) (x : World) (q : Process)
    (j : ℕ) (on : On m k i x [] n f j p q) (hold : HoldTheSame m k i x p q) (worlds : (sides m).worlds k w x) (into : ℕ) (l : into < length p.frame.slots)
    (clean : IsClean (held.slot on.known into)) (instr : Instr) (here : slice_get p.frame.code p.frame.pc ≡ Some instr) (plain : is_tidied instr ≡ false)
    (more : suc j < (row_of m f p.frame.pc instr).size) where
  abbrev at_into : ℕ
  at_into = reference_place m.adts (types_of m f) into

  -- the words then
  abbrev pub with_list : Option ℕ → List Word
  with_list r = with_word q.frame.words at_into (Refer r)

  -- What a slot refers to comes into another one, which is busy then.
  pub list_comes : (source : isa.Operand) (r : Option ℕ) → source_reference x q source ≡ Found r
      → Reaches (object_of m ∷ []) x q (object_of m) (inst op.Movp source middle.None (own at_into))
      → Accounted k i x.heap (code.process_names p) (Refer r) → (l : ℕ)
      → (WordStored q.frame.words at_into (Refer r) → On m k i x (into ∷ []) n f (suc j) p (moved_to q (suc q.frame.pc) (with_list r))
      → HoldTheSame m k i x p (moved_to q (suc q.frame.pc) (with_list r))
      → Way (sides m) (place m) l k i x p (moved_to q (suc q.frame.pc) (with_list r)))
      → Next m b i p l k w x q
  list_comes source r read is accounted steps way =
      let move = inst op.Movp source middle.None (own at_into) in
      let rest = rests m k i x n f j p q on into l clean in
      let lead = spots_lead.own x q at_into in
      let stored = words_move.reference frames_limit (object_of m) x q move r q.frame.words at_into lead.0 rest.0 refl read rest.1 in
      let after = busied_referring m k i x n f j p q on into l clean (with_list r) stored.0.changes
      (stored.0.ranged (λ z e. absurd cc) on.words.kind.ranged) in
      goes_by m b i p n f k w x [] (into ∷ []) j q (moved_to q (suc q.frame.pc) (with_list r)) on hold worlds instr here plain more
      (steps_obey.stores frames_limit (object_of m ∷ []) x q (object_of m) move x lead.0.place (with_list r) _ is stored.1 (lead.1 (with_list r)))
      after
      (λ s h. on_its_way stored.0 s h)
      (nothing_to_lead m k i x n f j p q on into l clean (moved_to q (suc q.frame.pc) (with_list r)))
      steps (way stored.0 after)
    where
      same : (a c : Option ℕ) → ◌≡◌ {A = Access Word} (Found (Refer a)) (Found (Refer c)) → a ≡ c
      same a c e = cc

      on_its_way : WordStored q.frame.words at_into (Refer r) → (s : ℕ) → Has (into ∷ []) s
          → PlaceAccounted m k i x (code.process_names p) (moved_to q (suc q.frame.pc) (with_list r)).frame (reference_place m.adts (types_of m f) s)
      on_its_way stored s (inl e) o found =
          let there = subst (λ (u : ℕ). word_at (with_list r) (pos (reference_place m.adts (types_of m f) u)) ≡ Found (Refer o)) (sym e) found in
          subst (λ (a : Option ℕ). Accounted k i x.heap (code.process_names p) (Refer a)) (same r o (sym stored.there ∙ there)) accounted
      on_its_way stored s (inr h) o found = absurd h

-- a list's reference is accounted for where its name is named
pub name_accounted : (k : Facts) (i : ℕ) (x : World) (names : ℕ → ℕ) (asked : Form) (r n : Option ℕ) → IsName k (Some asked) r n
    → ((a : ℕ) → n ≡ Some a → 0 < names a) → Accounted k i x.heap names (Refer r)
name_accounted k i x names asked None n h held = to_nothing
name_accounted k i x names asked (Some c) None h held = absurd h
name_accounted k i x names asked (Some c) (Some n) h held = to_value c (covered n (held n refl) (itself h.fact))
