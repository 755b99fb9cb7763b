-- The steps of a region that is kept behind others: the new record is linked behind the last, and the first comes to have it as the last.
use Rattle.std.proofs.Common.{◌≡◌, ◌≢◌, ◌⊎◌, ℕ, suc, pos, List, [], ◌∷◌, ◌++◌, Option, Some, None, sym, ap, ◌∙◌, subst, append_assoc, arith, inl, inr}
use Rattle.std.specs.Prelude.{slice_get}
use Rattle.heap_model.specs.Heap.{at}
use Rattle.heap_model.specs.Facts.{Fact, IsFree, Free}
use Rattle.limbo_layout.specs.Adts.{Has}
use Rattle.limbo_layout.proofs.Rooms.{has_left, has_right, has_cases}
use Rattle.limbo_typed.specs.Typed as typed
use Rattle.core_code.specs.Code.{Keep}
use Rattle.core_code.specs.Machine as code
use Rattle.core_code.specs.Slots as core
use Rattle.core_code.specs.Slots.{Regions, NoRegion, MoreRegions}
use Rattle.core_typing.specs.Held as held
use Rattle.core_typing.specs.Held.{slots_in}
use Rattle.dis_meaning.specs.Words.{Word, Refer, Found, word_at}
use Rattle.dis_meaning.specs.Process.{Process}
use Rattle.dis_memory.specs.Blocks.{Block, Record, World}
use Rattle.value_words.specs.Facts.{Facts, Grows}
use Rattle.value_frames.specs.Frames.{turn_bytes, turn_references}
use Rattle.value_frames.specs.Types.{AreOf}
use Rattle.value_frames.specs.Slots.{IsKept}
use Rattle.value_frames.specs.Standing.{Single, IsOwn, TailStands, no_more, one_more, RegionStands}
use Rattle.value_follows.specs.Rows.{Base}
use Rattle.value_follows.proofs.Putting.{word_same}
use Rattle.rows_chaining.specs.Rows.{AreBare}
use Rattle.rows_chaining.proofs.Chains.{region_stays, tail_stays, tail_at}
use Rattle.rows_chaining.proofs.Regions.{single_apart, singles}
use Rattle.rows_chaining.proofs.Carrying.{known_long}
use Rattle.rows_chaining.proofs.Owning.{no_tail, last_own, tail_grows, single_more}
use Rattle.rows_chaining.proofs.Linked.{Linked, Before, busy, r_at, kept, own_all, at_row}
use Rattle.rows_chaining.proofs.Storing.{Stored}

-- ---- all blocks of a chain with one more

module _ (first : ℕ) (owned more : List ℕ) (c : ℕ) where
  abbrev all : List ℕ
  all = first ∷ owned ++ more

  abbrev then : List ℕ
  then = first ∷ owned ++ (more ++ (c ∷ []))

  has_more : (d : ℕ) → Has then d → Has all d ⊎ (d ≡ c)
  has_more d (inl e) = inl (inl e)
  has_more d (inr u) = elim (has_cases owned (more ++ (c ∷ [])) d u) [
    | inl v ↦ inl (inr (has_left owned more d v))
    | inr v ↦ elim (has_cases more (c ∷ []) d v) [
      | inl z ↦ inl (inr (has_right owned more d z))
      | inr (inl e) ↦ inr (sym e)
      | inr (inr z) ↦ absurd z
    ]
  ]

  more_has : (d : ℕ) → Has all d → Has then d
  more_has d (inl e) = inl e
  more_has d (inr u) = elim (has_cases owned more d u) [
    | inl v ↦ inr (has_left owned (more ++ (c ∷ [])) d v)
    | inr v ↦ inr (has_right owned (more ++ (c ∷ [])) d (has_left more (c ∷ []) d v))
  ]

  then_single : Single all → (Has all c → ⊥) → Single then
  then_single s none = subst (λ os. Single (first ∷ os)) (append_assoc owned more (c ∷ [])) (single_more all c s none)

module _ (m : typed.Module) (b : Base m) (loop from words i : ℕ) (p : code.Process) (n : ℕ) (f : typed.Function)
    (here : slice_get p.frame.code p.frame.pc ≡ Some (Keep loop from words)) (bare : AreBare p from words) (g : core.Region)
    (known : held.Slots) (c first : ℕ) (shape : held.Region) (owned : List ℕ) where
  abbrev Links : (j : ℕ) (r end last : Option ℕ) (hs : held.Regions) (rs : Regions) (more : List ℕ) (ws : List Word) (k : Facts) (x : World)
      (q : Process) → Type 0
  Links j r end last hs rs more ws k x q = Linked m b loop from words i p n f here bare g known c first shape owned j r end last hs rs more ws k x q

  abbrev Befores : (j : ℕ) (r end : Option ℕ) (hs : held.Regions) (rs : Regions) (more : List ℕ) (ws inner : List Word) (k : Facts) (x : World)
      (q : Process) → Type 0
  Befores j r end hs rs more ws inner k x q = Before m b loop from words i p n f here bare g known c first shape owned j r end hs rs more ws inner k x q

  abbrev slots : List ℕ
  slots = busy m b loop from words i p n f here bare g

  abbrev region_then : core.Region
  region_then = kept m b loop from words i p n f here bare g

  abbrev shape_then : held.Region
  shape_then = held.region known from words

  abbrev own_here : (more : List ℕ) → List ℕ
  own_here more = own_all m b loop from words i p n f here bare g known c first shape owned more

  abbrev rs_at : ℕ
  rs_at = r_at m b loop from words i p n f here bare g

  grows : (k : Facts) → Grows k k
  grows k = record { facts = λ n f e. e; makers = λ n j e. e; forms = λ n o e. e }

  abbrev after : (q : Process) (j : ℕ) → Process
  after q j = at_row m b loop from words i p n f here bare g known c first shape owned q (suc j) q.frame.words

  module _ (j : ℕ) (k : Facts) (x y : World) (q : Process) where
    -- ---- the first record, which is the last, comes to refer to the new one

    module _ (r end : Option ℕ) (hs : held.Regions) (rs : Regions) (more : List ℕ) (ws inner : List Word)
        (t : Befores j r end hs rs more ws inner k x q) (e : ℕ) (es : List Word) (one : Has (own_here more) e)
        (s : Stored m k i x y slots n f j c p q t.linked.over e es 0) where
      free_new : Free k c
      free_new = subst (λ (o : Option (Fact Block)). IsFree o) (sym t.unknown) tt

      new_apart : c ≢ e
      new_apart z = let l = t.older e one in omega (arith, l, z)

      new_tail : TailStands m.adts k y.heap q.frame.serial s.others 0 (Some c) (held.MoreRegions shape_then held.NoRegion)
          (MoreRegions region_then NoRegion) (c ∷ [])
      new_tail =
          one_more s.others inner 0 c None shape_then held.NoRegion region_then NoRegion [] []
          (record {
            word = s.word;
            there = s.apart c new_apart ∙ t.there;
            free = free_new;
            formed = t.formed;
            kind = subst (λ u. AreOf (turn_bytes u) (turn_references u) inner) (sym (known_long known words from)) t.kind;
          })
          t.last_word
          (region_stays m.adts k k x.heap y.heap q.frame.serial (grows k) inner 8 shape_then region_then [] t.region (λ d h. absurd h))
          (no_more inner 0 t.first_word)

      kept_apart : (d : ℕ) → Has (own_here more) d → d ≢ e → IsKept k x.heap y.heap d
      kept_apart d h ne = (t.linked.free d h, s.apart d ne)

      none_new : Has (own_here more) c → ⊥
      none_new h = let l = t.older c h in omega (arith, l)

      -- all but the chain
      linked_then : (ws' : List Word)
          → IsOwn m.adts k y.heap q.frame.serial q.frame.words rs_at (turn_bytes (slots_in shape)) (turn_references (slots_in shape)) first ws'
          → word_at ws' (pos 4) ≡ Found (Refer end) → RegionStands m.adts k y.heap q.frame.serial ws' 8 shape g owned
          → TailStands m.adts k y.heap q.frame.serial ws' 0 (Some c) (held.chained hs shape_then) (core.chained rs region_then) (more ++ (c ∷ []))
          → Links (suc j) r end (Some c) (held.chained hs shape_then) (core.chained rs region_then) (more ++ (c ∷ [])) ws' k y (after q j)
      linked_then ws' is ends region tail = record {
        over = s.over;
        known_so = s.known_so ∙ t.linked.known_so;
        number = t.linked.number;
        is = is;
        ends = ends;
        region = region;
        tail = tail;
        single = then_single first owned more c t.linked.single none_new;
        apart = λ u d h v.
            let before = subst (λ (o : ℕ → List ℕ). Has (o u) d) s.own_so h in
            elim (has_more first owned more c d v) [
              | inl z ↦ t.linked.apart u d before z
              | inr z ↦ let l = t.fresh u d before in absurd (omega (arith, l, z))
            ];
        made = λ d v. elim (has_more first owned more c d v) [
          | inl z ↦ t.linked.made d z
          | inr z ↦ subst (λ d. k.maker d ≡ Some i) (sym z) t.made
        ];
        free = λ d v. elim (has_more first owned more c d v) [
          | inl z ↦ t.linked.free d z
          | inr z ↦ subst (λ d. Free k d) (sym z) free_new
        ];
        older = t.linked.older;
        blank = t.linked.blank;
        from_word = t.linked.from_word;
        from_own = λ d z. more_has first owned more c d (t.linked.from_own d z);
      }

      -- where it is the first
      pub linked_first : first ≡ e → ws ≡ es → end ≡ None
          → Links (suc j) r end (Some c) (held.chained hs shape_then) (core.chained rs region_then) (more ++ (c ∷ [])) s.others k y (after q j)
      linked_first same same_words none =
          let bare = no_tail m.adts k x.heap q.frame.serial ws 0 end hs rs more t.linked.tail none in
          linked_then s.others
          (record {
            word = t.linked.is.word;
            there = ap (at y.heap) same ∙ s.there;
            free = t.linked.is.free;
            formed = t.linked.is.formed;
            kind = s.kind _ _ (subst (AreOf (turn_bytes (slots_in shape)) (turn_references (slots_in shape))) same_words t.linked.is.kind);
          })
          (word_same es s.others 4 (s.words 1 (inr (omega arith))) ∙ ap (λ (us : List Word). word_at us (pos 4)) (sym same_words) ∙ t.linked.ends)
          (s.region shape g owned (subst (λ us. RegionStands m.adts k y.heap q.frame.serial us 8 shape g owned) same_words
          (region_stays m.adts k k x.heap y.heap q.frame.serial (grows k) ws 8 shape g owned t.linked.region
          (λ d h. kept_apart d (inr (has_left owned more d h)) (λ z. t.linked.single.0 (has_left owned more first (subst (Has owned) (z ∙ sym same) h)))))))
          (subst (λ hs'. TailStands m.adts k y.heap q.frame.serial s.others 0 (Some c) (held.chained hs' shape_then) (core.chained rs region_then) (more ++ (c ∷ [])))
          (sym bare.known)
          (subst (λ rs'. TailStands m.adts k y.heap q.frame.serial s.others 0 (Some c) (held.MoreRegions shape_then held.NoRegion) (core.chained rs' region_then) (more ++ (c ∷ [])))
          (sym bare.none)
          (subst (λ os. TailStands m.adts k y.heap q.frame.serial s.others 0 (Some c) (held.MoreRegions shape_then held.NoRegion)
          (MoreRegions region_then NoRegion) (os ++ (c ∷ []))) (sym bare.bare) new_tail)))

      -- where it is behind the first
      pub linked_last : at x.heap e ≡ Some (Record es) → end ≡ Some e
          → Links (suc j) r end (Some c) (held.chained hs shape_then) (core.chained rs region_then) (more ++ (c ∷ [])) ws k y (after q j)
      linked_last found last =
          let behind = last_own m.adts k x.heap q.frame.serial ws 0 end hs rs more t.linked.tail e last in
          let ne : first ≢ e = λ z. t.linked.single.0 (has_right owned more first (subst (Has more) (sym z) behind)) in
          linked_then ws
          (record {
            word = t.linked.is.word;
            there = s.apart first ne ∙ t.linked.is.there;
            free = t.linked.is.free;
            formed = t.linked.is.formed;
            kind = t.linked.is.kind;
          })
          t.linked.ends
          (region_stays m.adts k k x.heap y.heap q.frame.serial (grows k) ws 8 shape g owned t.linked.region
          (λ d h. kept_apart d (inr (has_left owned more d h)) (λ z. single_apart owned more e t.linked.single.1 (subst (Has owned) z h) behind)))
          (tail_grows m.adts k x.heap y.heap q.frame.serial e c es s.others found s.there s.apart
          (word_same es s.others 4 (s.words 1 (inr (omega arith)))) s.kind s.region shape_then region_then new_tail ws 0 end hs rs more t.linked.tail last
          (singles owned more t.linked.single.1).1 (λ d h. t.linked.free d (inr (has_right owned more d h))))

    -- ---- the first record has it as the last

    pub linked_end : (r end last : Option ℕ) (hs : held.Regions) (rs : Regions) (more : List ℕ) (ws : List Word)
        (t : Links j r end last hs rs more ws k x q) (s : Stored m k i x y slots n f j c p q t.over first ws 4)
        → Links (suc j) r (Some c) last hs rs more s.others k y (after q j)
    linked_end r end last hs rs more ws t s =
        let kept_apart : (d : ℕ) → Has (owned ++ more) d → IsKept k x.heap y.heap d =
        λ d h. (t.free d (inr h), s.apart d (λ z. t.single.0 (subst (Has (owned ++ more)) z h))) in
        record {
          over = s.over;
          known_so = s.known_so ∙ t.known_so;
          number = t.number;
          is = record { word = t.is.word; there = s.there; free = t.is.free; formed = t.is.formed; kind = s.kind _ _ t.is.kind };
          ends = s.word;
          region = s.region shape g owned
              (region_stays m.adts k k x.heap y.heap q.frame.serial (grows k) ws 8 shape g owned t.region (λ d h. kept_apart d (has_left owned more d h)));
          tail = tail_at m.adts k y.heap q.frame.serial ws s.others 0 0 last hs rs more (word_same ws s.others 0 (s.words 0 (inl (omega arith))))
              (tail_stays m.adts k k x.heap y.heap q.frame.serial (grows k) ws 0 last hs rs more t.tail (λ d h. kept_apart d (has_right owned more d h)));
          single = t.single;
          apart = λ u d h v. t.apart u d (subst (λ (o : ℕ → List ℕ). Has (o u) d) s.own_so h) v;
          made = t.made;
          free = t.free;
          older = t.older;
          blank = t.blank;
          from_word = t.from_word;
          from_own = t.from_own;
        }
