-- Where a machine of a module's object begins, its process is on its way to where both are ready.
use Rattle.std.proofs.Common.{◌≡◌, ℕ, suc, ◌+◌, ◌<◌, Bool, true, false, List, [], ◌∷◌, length, map, Option, Some, refl, sym, ap, ◌∙◌, subst, arith}
use Rattle.std.specs.Prelude.{slice_get, nat_eq, if◌then◌else◌}
use Rattle.std.proofs.lemmas.Bool.{eqb-true}
use Rattle.heap_model.specs.Heap.{Heap, at, there}
use Rattle.heap_model.specs.Facts.{Named, Chars}
use Rattle.heap_model.proofs.Heap.{there_of}
use Rattle.heap_model.specs.Worlds.{WorldsAlike}
use Rattle.limbo_types.specs.Types as ty
use Rattle.limbo_layout.specs.Layout.{AllLaid}
use Rattle.limbo_layout.specs.Laying.{rooms_of}
use Rattle.core_code.specs.Rooms.{rooms_in}
use Rattle.limbo_types.specs.Types.{Ty}
use Rattle.limbo_typed.specs.Typed as typed
use Rattle.limbo_meaning.specs.Memory as source
use Rattle.limbo_meaning.specs.Program.{globals_of}
use Rattle.limbo_meaning.specs.Runs.{first_world}
use Rattle.dis_file.specs.declared.types.TypeDesc.{TypeDesc}
use Rattle.dis_meaning.specs.Words.{Word, Refer, Access, Found, ◌>>=◌, or_wrong, type_check, blank}
use Rattle.dis_meaning.specs.Counts.{in_words}
use Rattle.dis_meaning.specs.Opening.{entered}
use Rattle.dis_meaning.specs.Process.{Process}
use Rattle.dis_memory.specs.Blocks as block
use Rattle.dis_memory.specs.Blocks.{Block, Outer, World}
use Rattle.dis_memory.specs.Naming as machine
use Rattle.dis_memory.specs.Operands.{type_of}
use Rattle.dis_counts.specs.Opening.{Loading, Opened, loading, instance_of, with_items, opens}
use Rattle.value_words.specs.Forms.{Cells, Instances}
use Rattle.value_words.specs.Facts.{Facts, IsFormed}
use Rattle.value_heaps.specs.Blocks.{IsBlock}
use Rattle.value_heaps.proofs.Words.{named_where}
use Rattle.value_code.specs.Objects.{of_function, object_of, entry_type, frame_desc, globals, constants}
use Rattle.value_code.proofs.Having.{objects_have}
use Rattle.value_follows.specs.Stands.{types_of}
use Rattle.value_follows.specs.Sides.{sides, contents}
use Rattle.value_follows.specs.Rows.{AreThere}
use Rattle.value_bases.proofs.Bases.{bases_hold}
use Rattle.value_opening.specs.Opening.{data_type, data_texts, outer}
use Rattle.value_opening.specs.Putting.{state}
use Rattle.value_opening.proofs.Opening.{items_put}
use Rattle.value_entry.specs.Opening.{listed, with_words, opened_with, WithoutWords}
use Rattle.value_entry.specs.Entry.{CanBegin, IsFirst, AreStrings, Leads, EntriesLead, EntriesLeadWithout}
use Rattle.value_entry.proofs.Way.{machine_at, Begun}
use Rattle.value_entry.proofs.Opening.{leads}
use Rattle.value_entry.proofs.Source.{still}
use Rattle.value_entry.proofs.Listed.{Entry, AnInstance, AText, ACell, block_of, heap_of, block_there, entries, AreListed, are_listed, first_rest}
use Rattle.value_entry.proofs.Worlds.{front, all, known, instance_named, instance_formed, texts_known, alike, instance_there, fact_is, form_is}
use Rattle.value_entry.proofs.Frames.{fresh_are, fresh_spare, fresh_none, list_words, list_stored, list_are, list_spare, list_only}

-- One that gets no words begins as it does otherwise.
pub without_words : WithoutWords
without_words o = refl

found_then : {S T : Type 0} (a : Access S) (s : S) (g : S → Access T) → a ≡ Found s → (a >>= g) ≡ g s
found_then a s g e = ap (λ (b : Access _). b >>= g) e

texts_same : (ts : List (List ℕ)) → map (λ t. Some (block.Text t)) ts ≡ heap_of (map (λ t. AText t) ts)
texts_same [] = refl
texts_same (t ∷ ts) = ap (λ (h : Heap Block). Some (block.Text t) ∷ h) (texts_same ts)

-- what the first process refers to is there
live_of : (heap : Heap Block) (words : List Word) (b : ℕ) → there (at heap 0) ≡ true
    → ((w : ℕ) → slice_get words w ≡ Some (Refer (Some b)) → there (at heap b) ≡ true) → 0 < machine.names (machine_at 0 words) b
    → there (at heap b) ≡ true
live_of heap words b first others h = go (nat_eq 0 b) refl h
  where
    go : (c : Bool) → nat_eq 0 b ≡ c → 0 < ((if c then 1 else 0) + in_words b words) + (0 + 0) → there (at heap b) ≡ true
    go true e h = subst (λ (n : ℕ). there (at heap n) ≡ true) (eqb-true 0 b e) first
    go false e h = let w = named_where words b (omega (arith, h)) in others w.0 w.1

module _ (m : typed.Module) (ready : CanBegin m) (init : ℕ) (f : typed.Function) (is : IsFirst m init f) where
  -- ---- what items put

  data_words : List Word
  data_words = (items_put m ready.sound ready.adts ready.written ready.spelled ready.short ready.once ready.ints).1

  type_found : type_of (object_of m) 0 ≡ Found (data_type m)
  type_found = (items_put m ready.sound ready.adts ready.written ready.spelled ready.short ready.once ready.ints).0

  abbrev texts : List (List ℕ)
  texts = data_texts m

  abbrev loaded : Loading
  loaded = state outer data_words texts

  items_found : with_items (object_of m) (loading (instance_of (data_type m)) (record { serial = 0; from = 0 }) []) (object_of m).items ≡ Found loaded
  unfolding data_words
  items_found = (items_put m ready.sound ready.adts ready.written ready.spelled ready.short ready.once ready.ints).2

  instance_is : (k : Facts) → k.fact 0 ≡ Some (Named 0) → k.form 0 ≡ Some Instances
      → ((j : ℕ) (t : List ℕ) → slice_get texts j ≡ Some t → k.fact (suc j) ≡ Some (Chars t))
      → IsBlock m.adts (globals m) (constants m) k 0 (source.Instance (globals_of m)) (block.Instance 0 data_words)
  unfolding data_words
  instance_is = (items_put m ready.sound ready.adts ready.written ready.spelled ready.short ready.once ready.ints).3

  abbrev frame_type : TypeDesc
  frame_type = frame_desc m (of_function m f)

  frame_found : type_of (object_of m) (object_of m).entry_type ≡ Found frame_type
  frame_found =
      ap (λ (o : Option ℕ). type_of (object_of m) (entry_type m o)) is.named
      ∙ ap (λ (o : Option TypeDesc). or_wrong type_check o) (objects_have.frames m init f is.there)

  -- ---- with words

  module _ (words : List (List ℕ)) where
    abbrev k : Facts
    k = known m data_words texts words

    abbrev x : World
    x = (listed loaded.world words).world

    same : loaded.world.heap ≡ heap_of (front m data_words texts words)
    same = ap (λ (h : Heap Block). Some (block.Instance 0 data_words) ∷ h) (texts_same texts)

    are : AreListed (front m data_words texts words) loaded.world 1 words
    are = are_listed (front m data_words texts words) loaded.world same 1 words

    abbrev fresh : List Word
    fresh = blank frame_type

    -- What the first frame has.
    record FrameHas : Type 0 where
      frame : List Word
      given : with_words fresh (listed loaded.world words).list ≡ Found frame
      begun : Begun m init f is.there is.answer words k x frame
      refer : (b w : ℕ) → slice_get frame w ≡ Some (Refer (Some b)) → there (at x.heap b) ≡ true

    -- blocks that are there
    entry_live : (q : ℕ) (e : Entry) → slice_get (all m data_words texts words) q ≡ Some e → there (at x.heap q) ≡ true
    entry_live q e h =
        there_of (at x.heap q) (block_of e)
        (ap (λ (g : Heap Block). at g q) are.heap ∙ block_there (all m data_words texts words) q e h)

    some_frames : 0 < x.outside.frames
    some_frames = let e = ap (λ (o : Outer). o.frames) are.outside in omega (arith, e)

    abbrev adts_laid : AllLaid m.adts (types_of m f) (rooms_of (rooms_in m.adts) (types_of m f))
    adts_laid = ready.begins.laid init f is.there

  frame_has : (words : List (List ℕ)) → FrameHas words
  frame_has [] =
      let takes = is.takes in
      let a = fresh_are m.adts takes.adt takes.more (types_of m f) takes.variables (of_function m f).slots (adts_laid []) (k []) (x []) in
      record {
        frame = fresh [];
        given = refl;
        begun = record {
          instance = instance_named m data_words texts [];
          formed = instance_formed m data_words texts [];
          are = a.0;
          bare = a.1;
          fresh = some_frames [];
          spare = fresh_spare m.adts takes.adt takes.more (types_of m f) takes.variables (of_function m f).slots (adts_laid []) (k []) (x []);
        };
        refer = λ b w e. absurd (fresh_none m.adts takes.adt takes.more (types_of m f) takes.variables (of_function m f).slots (adts_laid []) (k []) (x []) w b e);
      }
  frame_has (v ∷ vs) =
      let ws : List (List ℕ) = v ∷ vs in
      let takes = is.takes in
      let c = first_rest (front m data_words texts ws) 1 v vs in
      let r : ℕ = suc (length (entries (front m data_words texts ws) 2 vs)) in
      let cell : Entry = ACell 1 c.1 c.2 in
      let formed : IsFormed (k ws) (Cells ty.Chars) r 1 =
      record { fact = fact_is (slice_get (all m data_words texts ws) r) cell c.3; formed = form_is (slice_get (all m data_words texts ws) r) cell c.3 } in
      let a = list_are m.adts takes.adt takes.more (types_of m f) takes.variables (of_function m f).slots (adts_laid ws) (k ws) (x ws) r formed in
      record {
        frame = list_words m.adts takes.adt takes.more (types_of m f) takes.variables (of_function m f).slots (adts_laid ws) (k ws) (x ws) r formed;
        given = ap (with_words (fresh ws)) (are ws).list
            ∙ list_stored m.adts takes.adt takes.more (types_of m f) takes.variables (of_function m f).slots (adts_laid ws) (k ws) (x ws) r formed;
        begun = record {
          instance = instance_named m data_words texts ws;
          formed = instance_formed m data_words texts ws;
          are = a.0;
          bare = a.1;
          fresh = some_frames ws;
          spare = list_spare m.adts takes.adt takes.more (types_of m f) takes.variables (of_function m f).slots (adts_laid ws) (k ws) (x ws) r formed;
        };
        refer = λ b w e.
            let only = list_only m.adts takes.adt takes.more (types_of m f) takes.variables (of_function m f).slots (adts_laid ws) (k ws) (x ws) r formed w b e in
            subst (λ (n : ℕ). there (at (x ws).heap n) ≡ true) only (entry_live ws r cell c.3);
      }

  -- ---- the machine

  module _ (words : List (List ℕ)) (strings : AreStrings words) where
    has : FrameHas words
    has = frame_has words

    abbrev process : Process
    process = machine_at 0 has.frame

    worlds : (sides m).worlds (k words) (first_world m words) (x words)
    worlds = (
      subst (λ (h : Heap Block). WorldsAlike (contents m) (k words) (first_world m words).heap h) (sym (are words).heap)
          (alike m data_words texts words strings (instance_is (k words) (instance_named m data_words texts words) (instance_formed m data_words texts words)
          (texts_known m data_words texts words))),
      ap (λ (o : Outer). o.outside) (are words).outside,
    )

    live : AreThere m (x words) process
    live b h =
        live_of (x words).heap has.frame b (entry_live words 0 (AnInstance data_words) (instance_there m data_words texts words)) (has.refer b) h

    abbrev with_frame : TypeDesc → Loading → Access Opened
    with_frame t l =
        with_words (blank t) (listed l.world words).list >>= λ ws. Found (opens (listed l.world words).world (entered (object_of m) ws))

    abbrev with_types : TypeDesc → TypeDesc → Access Opened
    with_types d t = with_items (object_of m) (loading (instance_of d) (record { serial = 0; from = 0 }) []) (object_of m).items >>= with_frame t

    abbrev with_data : TypeDesc → Access Opened
    with_data d = type_of (object_of m) (object_of m).entry_type >>= with_types d

    opened_is : opened_with (object_of m) words ≡ Found (opens (x words) process)
    opened_is =
        found_then (type_of (object_of m) 0) (data_type m) with_data type_found
        ∙ found_then (type_of (object_of m) (object_of m).entry_type) frame_type (with_types (data_type m)) frame_found
        ∙ found_then (with_items (object_of m) (loading (instance_of (data_type m)) (record { serial = 0; from = 0 }) []) (object_of m).items) loaded
        (with_frame frame_type) items_found
        ∙ found_then (with_words (fresh words) (listed loaded.world words).list) has.frame
        (λ ws. Found (opens (x words) (entered (object_of m) ws))) has.given

    pub entry_leads : (o : Opened) × (opened_with (object_of m) words ≡ Found o) × Leads m f words o
    entry_leads = (
      opens (x words) process,
      opened_is,
      leads m (bases_hold m) ready.begins init f is.there is.answer is.named words (k words) (x words) has.frame has.begun worlds live
          (still m f words is.takes),
    )

pub entries_lead : EntriesLead
entries_lead m ready init f is words strings = entry_leads m ready init f is words strings

pub entries_without : EntriesLeadWithout
entries_without m ready init f is = entry_leads m ready init f is [] (record { written = tt; short = tt })
