-- While a new record is put behind those of a loop's chain: what stands then, and that it does so while others step.
use Rattle.std.proofs.Common.{◌≡◌, ◌≢◌, ◌⊎◌, ℕ, zero, suc, pos, ◌+◌, ◌*◌, ◌/◌, ◌<◌, ◌≤◌, List, [], ◌∷◌, ◌++◌, length, Option, Some, None, refl, sym, ap, ◌∙◌, subst, arith, inl, inr}
use Rattle.std.specs.Prelude.{slice_get}
use Rattle.std.specs.List.{range_with_len}
use Rattle.heap_model.specs.Heap.{at}
use Rattle.heap_model.specs.Facts.{Free}
use Rattle.limbo_types.specs.Types.{Ty}
use Rattle.limbo_layout.specs.Adts.{Has}
use Rattle.limbo_layout.proofs.Rooms.{has_left, has_right, has_cases}
use Rattle.limbo_typed.specs.Typed as typed
use Rattle.core_code.specs.Code.{Instr, Keep}
use Rattle.core_code.specs.Machine as code
use Rattle.core_code.specs.Slots as core
use Rattle.core_code.specs.Slots.{Regions, MoreRegions, chain_of, next_of}
use Rattle.core_typing.specs.Held as held
use Rattle.core_typing.specs.Held.{slots_in}
use Rattle.dis_meaning.specs.Words.{Word, Plain, Refer, Found, word_at}
use Rattle.dis_meaning.specs.Counts.{in_words}
use Rattle.dis_meaning.specs.Process.{Process}
use Rattle.dis_memory.specs.Blocks.{Record, World}
use Rattle.value_words.specs.Forms.{OwnedBy}
use Rattle.value_words.specs.Facts.{Facts}
use Rattle.value_words.proofs.Bytes.{word_found}
use Rattle.value_heaps.proofs.Words.{named_by, named_where}
use Rattle.value_roots.proofs.Words.{has_counts}
use Rattle.value_frames.specs.Frames.{answer_place, spare_place, number_place, reference_place, frame_bytes, frame_references, turn_bytes, turn_references}
use Rattle.value_frames.specs.Types.{AreOf}
use Rattle.value_frames.specs.Slots.{IsKept}
use Rattle.value_frames.specs.Standing.{Single, IsOwn, TailStands, RegionStands, WordsAre}
use Rattle.value_frames.proofs.Slots.{slots_change}
use Rattle.value_frames.proofs.Later.{frames_later}
use Rattle.value_frames.proofs.Replacing.{kinds_stay}
use Rattle.value_moves.proofs.Changing.{low_or_high}
use Rattle.number_effects.specs.Giving.{with_word, WordStored}
use Rattle.value_follows.specs.Stands.{types_of, place_of, Awaited}
use Rattle.value_follows.specs.Sides.{sides, HoldTheSame}
use Rattle.value_follows.specs.Rows.{Base}
use Rattle.value_follows.proofs.Putting.{word_same}
use Rattle.value_follows.proofs.Several.{moved_to}
use Rattle.value_follows.proofs.Standing.{all_wait}
use Rattle.rows_turning.proofs.Reached.{held_near, held_kept, held_far}
use Rattle.rows_chaining.specs.Rows.{AreBare}
use Rattle.rows_chaining.proofs.Chains.{region_stays, tail_stays}
use Rattle.rows_chaining.proofs.Over.{Over, over_agrees}
use Rattle.rows_chaining.proofs.Making.{turn_words}
use Rattle.rows_chaining.proofs.Carrying.{made_stays, over_kept}
use Rattle.rows_chaining.proofs.Owning.{tail_kept, region_kept}

-- ---- words of which one was stored

module _ (words : List Word) (to : ℕ) (v old : Option ℕ) (was : word_at words (pos to) ≡ Found (Refer old)) (stored : WordStored words to (Refer v)) where
  same_refer : (r s : Option ℕ) → Some (Refer r) ≡ Some (Refer s) → r ≡ s
  same_refer r s e = cc

  pub stored_more : (o : ℕ) → 0 < in_words o (with_word words to (Refer v)) → (0 < in_words o words) ⊎ (v ≡ Some o)
  stored_more o h =
      let found = named_where (with_word words to (Refer v)) o h in
      let even = (word_found words to (Refer old) was).0 in
      elim (low_or_high found.0 (to / 4)) [
        | inl low ↦ inl (named_by words found.0 o (sym (stored.changes.words found.0 (inl (omega (arith, low)))) ∙ found.1))
        | inr high ↦ elim (low_or_high (to / 4) found.0) [
          | inl past ↦ inl (named_by words found.0 o (sym (stored.changes.words found.0 (inr (omega (arith, past, even)))) ∙ found.1))
          | inr less ↦
              let here : to / 4 ≡ found.0 = omega (arith, high, less) in
              inr (same_refer v (Some o) (sym (word_found (with_word words to (Refer v)) to (Refer v) stored.there).1
              ∙ ap (slice_get (with_word words to (Refer v))) here ∙ found.1))
        ]
      ]

  pub stored_fewer : (o : ℕ) → 0 < in_words o words → (0 < in_words o (with_word words to (Refer v))) ⊎ (old ≡ Some o)
  stored_fewer o h =
      let found = named_where words o h in
      let even = (word_found words to (Refer old) was).0 in
      elim (low_or_high found.0 (to / 4)) [
        | inl low ↦ inl (named_by (with_word words to (Refer v)) found.0 o (stored.changes.words found.0 (inl (omega (arith, low))) ∙ found.1))
        | inr high ↦ elim (low_or_high (to / 4) found.0) [
          | inl past ↦ inl (named_by (with_word words to (Refer v)) found.0 o (stored.changes.words found.0 (inr (omega (arith, past, even))) ∙ found.1))
          | inr less ↦
              let here : to / 4 ≡ found.0 = omega (arith, high, less) in
              inr (same_refer old (Some o) (sym (word_found words to (Refer old) was).1 ∙ ap (slice_get words) here ∙ found.1))
        ]
      ]

has_first : (from count : ℕ) → 0 < count → Has (range_with_len from count) from
has_first from zero l = absurd (omega (arith, l))
has_first from (suc n) l = inl refl

module _ (m : typed.Module) (b : Base m) (loop from words i : ℕ) (p : code.Process) (n : ℕ) (f : typed.Function)
    (here : slice_get p.frame.code p.frame.pc ≡ Some (Keep loop from words)) (bare : AreBare p from words) (g : core.Region) where
  abbrev pub it : Instr
  it = Keep loop from words

  abbrev pub types : List Ty
  types = types_of m f

  abbrev pub n_at : ℕ
  n_at = number_place m.adts types loop

  abbrev pub r_at : ℕ
  r_at = reference_place m.adts types loop

  abbrev pub to : ℕ
  to = number_place m.adts types from

  abbrev pub from_at : ℕ
  from_at = reference_place m.adts types from

  abbrev pub spare_at : ℕ
  spare_at = spare_place m.adts types

  abbrev pub region : List ℕ
  region = range_with_len from words

  -- the loop's slot and those of the region are busy
  abbrev pub busy : List ℕ
  busy = loop ∷ region

  abbrev pub begin : ℕ
  begin = place_of m n f p.frame.pc

  abbrev pub index : ℕ
  index = next_of (core.slot p.frame.slots loop)

  abbrev pub kept : core.Region
  kept = core.region p.frame.slots from words

  module _ (known : held.Slots) (c first : ℕ) (shape : held.Region) (owned : List ℕ) where
    abbrev pub own_all : (more : List ℕ) → List ℕ
    own_all more = first ∷ owned ++ more

    -- The loop's slot refers to a first record, which has a region, and at 4 this block; behind it are these regions, the last of them in that
    -- block. The slots of the region that is kept are blank, but for the reference of their first.
    pub record Linked (j : ℕ) (r end last : Option ℕ) (hs : held.Regions) (rs : Regions) (more : List ℕ) (ws : List Word) (k : Facts) (x : World)
        (q : Process) : Type 0 where
      pub over : Over m k i x busy n f j (Some c) p q
      pub known_so : over.known ≡ known
      pub number : word_at q.frame.words (pos n_at) ≡ Found (Plain (pos index))
      pub is : IsOwn m.adts k x.heap q.frame.serial q.frame.words r_at (turn_bytes (slots_in shape)) (turn_references (slots_in shape)) first ws
      pub ends : word_at ws (pos 4) ≡ Found (Refer end)
      pub region : RegionStands m.adts k x.heap q.frame.serial ws 8 shape g owned
      pub tail : TailStands m.adts k x.heap q.frame.serial ws 0 last hs rs more
      pub single : Single (own_all more)
      pub apart : (s d : ℕ) → Has (over.words.own s) d → Has (own_all more) d → ⊥
      pub made : (d : ℕ) → Has (own_all more) d → k.maker d ≡ Some i
      pub free : (d : ℕ) → Has (own_all more) d → Free k d
      pub older : first < c
      pub blank : (u : ℕ) → u < 2 * words → u ≢ 1 → slice_get q.frame.words (to / 4 + u) ≡ slice_get (turn_words words) (8 / 4 + u)
      pub from_word : word_at q.frame.words (pos from_at) ≡ Found (Refer r)
      pub from_own : (d : ℕ) → r ≡ Some d → Has (own_all more) d

    -- Besides, the new record isn't in the chain yet.
    pub record Before (j : ℕ) (r end : Option ℕ) (hs : held.Regions) (rs : Regions) (more : List ℕ) (ws inner : List Word) (k : Facts) (x : World)
        (q : Process) : Type 0 where
      pub linked : Linked j r end end hs rs more ws k x q
      pub there : at x.heap c ≡ Some (Record inner)
      pub unknown : k.fact c ≡ None
      pub made : k.maker c ≡ Some i
      pub formed : k.form c ≡ Some (OwnedBy q.frame.serial)
      pub fresh : (s d : ℕ) → Has (linked.over.words.own s) d → d < c
      pub older : (d : ℕ) → Has (own_all more) d → d < c
      pub kind : AreOf (turn_bytes words) (turn_references words) inner
      pub first_word : word_at inner (pos 0) ≡ Found (Refer None)
      pub last_word : word_at inner (pos 4) ≡ Found (Refer None)
      pub region : RegionStands m.adts k x.heap q.frame.serial inner 8 (held.region known from words) kept []

    -- ---- while others step

    module _ (k now : Facts) (x y : World) (q : Process) (left : (sides m).leaves i k now x y) (hold : HoldTheSame m now i y p q) where
      module _ (j : ℕ) (r end last : Option ℕ) (hs : held.Regions) (rs : Regions) (more : List ℕ) (ws : List Word)
          (t : Linked j r end last hs rs more ws k x q) where
        far : (d e : ℕ) (us : List Word) → 0 < hold.same.own d → Free k d → k.maker d ≡ Some i → at x.heap d ≡ Some (Record us) → Has us (Refer (Some e))
            → 0 < hold.same.own e
        far d e us held free made found h = held_far m k now i x y p q left hold d e (Record us) held free made found (has_counts us e h)

        near : 0 < hold.same.own first
        near =
            let h = named_by q.frame.words (r_at / 4) first (word_found q.frame.words r_at (Refer (Some first)) t.is.word).1 in
            held_near m k now i x y p q left hold first (omega (arith, h))

        held_all : (d : ℕ) → Has (own_all more) d → 0 < hold.same.own d
        held_all d (inl e) = subst (λ z. 0 < hold.same.own z) e near
        held_all d (inr u) =
            let all : (e : ℕ) → Has ws (Refer (Some e)) → 0 < hold.same.own e =
            λ e h. far first e ws near t.is.free (t.made first (inl refl)) t.is.there h in
            elim (has_cases owned more d u) [
              | inl v ↦
                  region_kept m.adts k i x.heap q.frame.serial (λ e. 0 < hold.same.own e) far ws 8 shape g owned t.region
                  (λ e z. t.made e (inr (has_left owned more e z))) all d v
              | inr v ↦
                  tail_kept m.adts k i x.heap q.frame.serial (λ e. 0 < hold.same.own e) far ws 0 last hs rs more t.tail
                  (λ e z. t.made e (inr (has_right owned more e z))) all d v
            ]

        kept_all : (d : ℕ) → Has (own_all more) d → IsKept now x.heap y.heap d
        kept_all d h = held_kept m k now i x y p q left hold d (held_all d h) (t.free d h) (t.made d h)

        pub linked_later : (t' : Linked j r end last hs rs more ws now y q) × (t'.over.words.own ≡ t.over.words.own)
        linked_later =
            let o = over_kept m i p q b k now x y left hold busy n f j (Some c) t.over in
            let one = kept_all first (inl refl) in (
              record {
                over = o.0;
                known_so = o.2 ∙ t.known_so;
                number = t.number;
                is = record { word = t.is.word; there = one.1 ∙ t.is.there; free = one.0; formed = left.0.grows.forms first _ t.is.formed; kind = t.is.kind };
                ends = t.ends;
                region = region_stays m.adts k now x.heap y.heap q.frame.serial left.0.grows ws 8 shape g owned t.region
                    (λ d h. kept_all d (inr (has_left owned more d h)));
                tail = tail_stays m.adts k now x.heap y.heap q.frame.serial left.0.grows ws 0 last hs rs more t.tail
                    (λ d h. kept_all d (inr (has_right owned more d h)));
                single = t.single;
                apart = λ s d h u. t.apart s d (subst (λ (own : ℕ → List ℕ). Has (own s) d) o.1 h) u;
                made = λ d h. left.0.grows.makers d i (t.made d h);
                free = λ d h. (kept_all d h).0;
                older = t.older;
                blank = t.blank;
                from_word = t.from_word;
                from_own = t.from_own;
              },
              o.1,
            )

      pub before_later : (j : ℕ) (r end : Option ℕ) (hs : held.Regions) (rs : Regions) (more : List ℕ) (ws inner : List Word)
          → Before j r end hs rs more ws inner k x q → Before j r end hs rs more ws inner now y q
      before_later j r end hs rs more ws inner t =
          let l = linked_later j r end end hs rs more ws t.linked in
          let named = named_by q.frame.words (spare_at / 4) c (word_found q.frame.words spare_at (Refer (Some c)) t.linked.over.spare).1 in
          let kept = made_stays m i p k now x y q left hold c (omega (arith, named)) t.unknown t.made in
          record {
            linked = l.0;
            there = kept.1 ∙ t.there;
            unknown = kept.0;
            made = left.0.grows.makers c i t.made;
            formed = left.0.grows.forms c _ t.formed;
            fresh = λ s d h. t.fresh s d (subst (λ (own : ℕ → List ℕ). Has (own s) d) l.1 h);
            older = t.older;
            kind = t.kind;
            first_word = t.first_word;
            last_word = t.last_word;
            region = region_stays m.adts k now x.heap y.heap q.frame.serial left.0.grows inner 8 (held.region known from words)
                (core.region p.frame.slots from words) [] t.region (λ d h. absurd h);
          }

    -- ---- at another instruction of the row

    abbrev pub at_row : (q : Process) (j : ℕ) (others : List Word) → Process
    at_row q j others = moved_to q (begin + j) others

    module _ (k : Facts) (x : World) (q : Process) (j : ℕ) where
      abbrev pub over_at : (j' : ℕ) → Over m k i x busy n f j (Some c) p q → Over m k i x busy n f j' (Some c) p (at_row q j' q.frame.words)
      over_at j' over = record {
        process = over.process;
        there = over.there;
        code = over.code;
        answer = over.answer;
        many = over.many;
        instance = over.instance;
        formed = over.formed;
        known = over.known;
        words = over.words;
        mine = over.mine;
        fresh = over.fresh;
        goes = over.goes;
        waits = all_wait m k i x Awaited p.frame.answer q.frame (at_row q j' q.frame.words).frame p.below q.below refl refl over.waits;
        pc = refl;
        spare = over.spare;
        none_made = over.none_made;
      }

      abbrev pub linked_at : (j' : ℕ) (r end last : Option ℕ) (hs : held.Regions) (rs : Regions) (more : List ℕ) (ws : List Word)
          → Linked j r end last hs rs more ws k x q → Linked j' r end last hs rs more ws k x (at_row q j' q.frame.words)
      linked_at j' r end last hs rs more ws t = record {
        over = over_at j' t.over;
        known_so = t.known_so;
        number = t.number;
        is = t.is;
        ends = t.ends;
        region = t.region;
        tail = t.tail;
        single = t.single;
        apart = t.apart;
        made = t.made;
        free = t.free;
        older = t.older;
        blank = t.blank;
        from_word = t.from_word;
        from_own = t.from_own;
      }

      pub before_at : (j' : ℕ) (r end : Option ℕ) (hs : held.Regions) (rs : Regions) (more : List ℕ) (ws inner : List Word)
          → Before j r end hs rs more ws inner k x q → Before j' r end hs rs more ws inner k x (at_row q j' q.frame.words)
      before_at j' r end hs rs more ws inner t = record {
        linked = linked_at j' r end end hs rs more ws t.linked;
        there = t.there;
        unknown = t.unknown;
        made = t.made;
        formed = t.formed;
        fresh = t.fresh;
        older = t.older;
        kind = t.kind;
        first_word = t.first_word;
        last_word = t.last_word;
        region = t.region;
      }

      -- ---- the reference of the region's first slot becomes another

      module _ (v r end last : Option ℕ) (hs : held.Regions) (rs : Regions) (more : List ℕ) (ws : List Word) (t : Linked j r end last hs rs more ws k x q)
          (stored : WordStored q.frame.words from_at (Refer v)) (v_own : (d : ℕ) → v ≡ Some d → Has (own_all more) d) where
        abbrev pub others : List Word
        others = with_word q.frame.words from_at (Refer v)

        abbrev pub are : WordsAre m.adts k x.heap q.frame.serial busy types t.over.known p.frame.variables p.frame.slots q.frame.words
        are = t.over.words

        some_words : 0 < words
        some_words = (over_agrees m k i x busy n f j (Some c) p q t.over it here).0.1

        pub in_front : loop < from
        in_front = (over_agrees m k i x busy n f j (Some c) p q t.over it here).0.0

        pub words_then : (then : WordsAre m.adts k x.heap q.frame.serial busy types t.over.known p.frame.variables p.frame.slots others)
            × (then.own ≡ are.own)
        words_then =
            slots_change.within m.adts k k x.heap x.heap q.frame.serial busy types t.over.known p.frame.variables p.frame.slots q.frame.words others from
            are (inr (has_first from words some_words)) (record { facts = λ n f e. e; makers = λ n j e. e; forms = λ n o e. e })
            (record {
              each = λ u outside. elim (low_or_high (4 * u) from_at) [
                | inl low ↦ stored.changes.words u (inl (omega (arith, low)))
                | inr high ↦ elim (low_or_high (4 * u) (from_at + 4)) [
                  | inl inside ↦ absurd (outside (omega (arith, high), omega (arith, inside)))
                  | inr past ↦ stored.changes.words u (inr (omega (arith, past)))
                ]
              ];
            })
            (kinds_stay.all (frame_bytes m.adts types (length p.frame.slots)) (frame_references m.adts types (length p.frame.slots)) q.frame.words others
            are.kind stored.changes.many stored.changes.refer stored.changes.referred (stored.ranged (λ z e. absurd cc) are.kind.ranged))
            (λ s d h.
            (((frames_later m.adts k x.heap q.frame.serial busy types t.over.known p.frame.variables p.frame.slots q.frame.words are).owned s d h).0, refl))

        pub still : (place : ℕ) → 4 * (place / 4) + 4 ≤ from_at → word_at others (pos place) ≡ word_at q.frame.words (pos place)
        still place low = word_same q.frame.words others place (stored.changes.words (place / 4) (inl low))

        abbrev pub linked_from : (j' : ℕ) → Linked j' v end last hs rs more ws k x (at_row q j' others)
        linked_from j' = record {
          over = record {
            process = t.over.process;
            there = t.over.there;
            code = t.over.code;
            answer = t.over.answer;
            many = t.over.many;
            instance = t.over.instance;
            formed = t.over.formed;
            known = t.over.known;
            words = words_then.0;
            mine = λ s d h. t.over.mine s d (subst (λ (own : ℕ → List ℕ). Has (own s) d) words_then.1 h);
            fresh = t.over.fresh;
            goes = t.over.goes;
            waits = all_wait m k i x Awaited p.frame.answer q.frame (at_row q j' others).frame p.below q.below refl (still answer_place (omega arith))
                t.over.waits;
            pc = refl;
            spare = still spare_at (omega arith) ∙ t.over.spare;
            none_made = t.over.none_made;
          };
          known_so = t.known_so;
          number = still n_at (let l = in_front in omega (arith, l)) ∙ t.number;
          is = record {
            word = still r_at (let l = in_front in omega (arith, l)) ∙ t.is.word;
            there = t.is.there;
            free = t.is.free;
            formed = t.is.formed;
            kind = t.is.kind;
          };
          ends = t.ends;
          region = t.region;
          tail = t.tail;
          single = t.single;
          apart = λ s d h u. t.apart s d (subst (λ (own : ℕ → List ℕ). Has (own s) d) words_then.1 h) u;
          made = t.made;
          free = t.free;
          older = t.older;
          blank = λ u l ne. elim (low_or_high u 1) [
            | inl low ↦ stored.changes.words (to / 4 + u) (inl (omega (arith, low))) ∙ t.blank u l ne
            | inr high ↦ elim (low_or_high 1 u) [
              | inl past ↦ stored.changes.words (to / 4 + u) (inr (omega (arith, past))) ∙ t.blank u l ne
              | inr less ↦ absurd (ne (omega (arith, high, less)))
            ]
          ];
          from_word = stored.there;
          from_own = v_own;
        }

      pub before_from : (v r end : Option ℕ) (hs : held.Regions) (rs : Regions) (more : List ℕ) (ws inner : List Word) (j' : ℕ)
          (t : Before j r end hs rs more ws inner k x q) (stored : WordStored q.frame.words from_at (Refer v))
          (v_own : (d : ℕ) → v ≡ Some d → Has (own_all more) d)
          → Before j' v end hs rs more ws inner k x (at_row q j' (with_word q.frame.words from_at (Refer v)))
      before_from v r end hs rs more ws inner j' t stored v_own = record {
        linked = linked_from v r end end hs rs more ws t.linked stored v_own j';
        there = t.there;
        unknown = t.unknown;
        made = t.made;
        formed = t.formed;
        fresh = λ s d h. t.fresh s d (subst (λ (own : ℕ → List ℕ). Has (own s) d) (words_then v r end end hs rs more ws t.linked stored v_own).1 h);
        older = t.older;
        kind = t.kind;
        first_word = t.first_word;
        last_word = t.last_word;
        region = t.region;
      }
