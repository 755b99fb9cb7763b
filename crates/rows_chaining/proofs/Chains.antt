-- Chains of records that are not at their end: the first record, and the one behind it.
use Rattle.std.proofs.Common.{◌≡◌, ◌≢◌, ℕ, pos, ◌+◌, ◌<◌, List, [], ◌∷◌, ◌++◌, Option, Some, None, refl, sym, ap, ◌∙◌, subst, arith, inl, inr}
use Rattle.heap_model.specs.Heap.{Heap, at}
use Rattle.heap_model.specs.Facts.{Free}
use Rattle.limbo_layout.specs.Adts.{Def, Has}
use Rattle.limbo_layout.proofs.Rooms.{has_left, has_right}
use Rattle.core_code.specs.Slots as core
use Rattle.core_code.specs.Slots.{Regions, NoRegion, MoreRegions}
use Rattle.core_typing.specs.Held as held
use Rattle.core_typing.specs.Held.{slots_in}
use Rattle.dis_meaning.specs.Words.{Word, Refer, Found, word_at}
use Rattle.dis_memory.specs.Blocks.{Block, Record}
use Rattle.value_words.specs.Facts.{Facts, Grows}
use Rattle.value_frames.specs.Frames.{turn_bytes, turn_references}
use Rattle.value_frames.specs.Slots.{IsKept}
use Rattle.value_frames.specs.Standing.{IsOwn, last_of, ChainStands, no_chain, a_chain, TailStands, no_more, one_more, RegionStands, no_slot, more_slots}
use Rattle.value_frames.proofs.Slots.{slots_change}

module _ (defs : List Def) (k : Facts) (x : Heap Block) (frame : ℕ) where
  -- What a chain has whose first region is this one.
  pub record FirstOf (words : List Word) (p : ℕ) (gs : held.Regions) (g : core.Region) (rest : Regions) (own : List ℕ) : Type 0 where
    pub block : ℕ
    pub inner : List Word
    pub last : Option ℕ
    pub shape : held.Region
    pub shapes : held.Regions
    pub owned : List ℕ
    pub more : List ℕ
    pub known : gs ≡ held.MoreRegions shape shapes
    pub own_so : own ≡ block ∷ owned ++ more
    pub is : IsOwn defs k x frame words p (turn_bytes (slots_in shape)) (turn_references (slots_in shape)) block inner
    pub end : word_at inner (pos 4) ≡ Found (Refer last)
    pub region : RegionStands defs k x frame inner 8 shape g owned
    pub tail : TailStands defs k x frame inner 0 last shapes rest more

  pub first_of : (words : List Word) (p : ℕ) (gs : held.Regions) (rs : Regions) (own : List ℕ) → ChainStands defs k x frame words p gs rs own
      → (g : core.Region) (rest : Regions) → rs ≡ MoreRegions g rest → FirstOf words p gs g rest own
  first_of _ _ _ _ _ (no_chain words p e) g rest f = absurd cc
  first_of _ _ _ _ _ (a_chain words inner p b last h hs g' gs own more is e r t) g rest f =
      let same : g' ≡ g = cc in
      let also : gs ≡ rest = cc in
      record {
        block = b;
        inner = inner;
        last = last;
        shape = h;
        shapes = hs;
        owned = own;
        more = more;
        known = refl;
        own_so = refl;
        is = is;
        end = e;
        region = subst (λ r. RegionStands defs k x frame inner 8 h r own) same r;
        tail = subst (λ rs. TailStands defs k x frame inner 0 last hs rs more) also t;
      }

  -- What is behind a record where none is.
  pub record NoneBehind (words : List Word) (p : ℕ) (last : Option ℕ) (hs : held.Regions) (own : List ℕ) : Type 0 where
    pub known : hs ≡ held.NoRegion
    pub bare : own ≡ []
    pub word : word_at words (pos p) ≡ Found (Refer None)
    pub none : last ≡ None

  pub none_behind : (words : List Word) (p : ℕ) (last : Option ℕ) (hs : held.Regions) (rs : Regions) (own : List ℕ)
      → TailStands defs k x frame words p last hs rs own → rs ≡ NoRegion → NoneBehind words p last hs own
  none_behind _ _ _ _ _ _ (no_more words p e) f = record { known = refl; bare = refl; word = e; none = refl }
  none_behind _ _ _ _ _ _ (one_more words inner p b last h hs g gs own more is e r t) f = absurd cc

  -- And where one is.
  pub record OneBehind (words : List Word) (p : ℕ) (last : Option ℕ) (hs : held.Regions) (g : core.Region) (rest : Regions) (own : List ℕ)
      : Type 0 where
    pub block : ℕ
    pub inner : List Word
    pub behind : Option ℕ
    pub shape : held.Region
    pub shapes : held.Regions
    pub owned : List ℕ
    pub more : List ℕ
    pub known : hs ≡ held.MoreRegions shape shapes
    pub own_so : own ≡ block ∷ owned ++ more
    pub last_so : last ≡ last_of behind block
    pub is : IsOwn defs k x frame words p (turn_bytes (slots_in shape)) (turn_references (slots_in shape)) block inner
    pub end : word_at inner (pos 4) ≡ Found (Refer None)
    pub region : RegionStands defs k x frame inner 8 shape g owned
    pub tail : TailStands defs k x frame inner 0 behind shapes rest more

  pub one_behind : (words : List Word) (p : ℕ) (last : Option ℕ) (hs : held.Regions) (rs : Regions) (own : List ℕ)
      → TailStands defs k x frame words p last hs rs own → (g : core.Region) (rest : Regions) → rs ≡ MoreRegions g rest
      → OneBehind words p last hs g rest own
  one_behind _ _ _ _ _ _ (no_more words p e) g rest f = absurd cc
  one_behind _ _ _ _ _ _ (one_more words inner p b last h hs g' gs own more is e r t) g rest f =
      let same : g' ≡ g = cc in
      let also : gs ≡ rest = cc in
      record {
        block = b;
        inner = inner;
        behind = last;
        shape = h;
        shapes = hs;
        owned = own;
        more = more;
        known = refl;
        own_so = refl;
        last_so = refl;
        is = is;
        end = e;
        region = subst (λ r. RegionStands defs k x frame inner 8 h r own) same r;
        tail = subst (λ rs. TailStands defs k x frame inner 0 last hs rs more) also t;
      }

  -- ---- the last record is younger than all in front

  module _ (younger : (a c : ℕ) (ws : List Word) → Free k a → Free k c → at x a ≡ Some (Record ws) → Has ws (Refer (Some c)) → a < c)
      (has : (ws : List Word) (p c : ℕ) → word_at ws (pos p) ≡ Found (Refer (Some c)) → Has ws (Refer (Some c))) where
    pub last_younger : (words : List Word) (p : ℕ) (last : Option ℕ) (hs : held.Regions) (rs : Regions) (own : List ℕ)
        → TailStands defs k x frame words p last hs rs own → (a : ℕ) → Free k a → at x a ≡ Some (Record words) → (l : ℕ) → last ≡ Some l → a < l
    last_younger _ _ _ _ _ _ (no_more words p e) a free there l f = absurd cc
    last_younger _ _ _ _ _ _ (one_more words inner p b last h hs g gs own more is e r t) a free there l f =
        let near = younger a b words free is.free there (has words p b is.word) in
        go last refl f near (last_younger inner 0 last hs gs more t b is.free is.there)
      where
        go : (o : Option ℕ) → last ≡ o → last_of last b ≡ Some l → a < b → ((d : ℕ) → last ≡ Some d → b < d) → a < l
        go None n f near rec =
            let same : b ≡ l = let z : last_of None b ≡ Some l = ap (λ o. last_of o b) (sym n) ∙ f in cc in subst (λ c. a < c) same near
        go (Some c) n f near rec =
            let same : c ≡ l = let z : last_of (Some c) b ≡ Some l = ap (λ o. last_of o b) (sym n) ∙ f in cc in
            let far = rec c n in
            omega (arith, near, far, same)

-- ---- a chain stands for the same while its records are as they were

module _ (defs : List Def) (k k' : Facts) (x x' : Heap Block) (frame : ℕ) (grows : Grows k k') where
  pub region_stays : (words : List Word) (p : ℕ) (hs : held.Region) (g : core.Region) (own : List ℕ) → RegionStands defs k x frame words p hs g own
      → ((b : ℕ) → Has own b → IsKept k' x x' b) → RegionStands defs k' x' frame words p hs g own
  region_stays _ _ _ _ _ (no_slot words p) kept = no_slot words p
  region_stays _ _ _ _ _ (more_slots words p h hs s g own more one others) kept =
      more_slots words p h hs s g own more
      (slots_change.stays defs k k' x x' frame words words p h s own one grows (λ w l. refl) (λ b u. kept b (has_left own more b u)))
      (region_stays words (p + 8) hs g more others (λ b u. kept b (has_right own more b u)))

  pub tail_stays : (words : List Word) (p : ℕ) (last : Option ℕ) (hs : held.Regions) (rs : Regions) (own : List ℕ)
      → TailStands defs k x frame words p last hs rs own → ((b : ℕ) → Has own b → IsKept k' x x' b)
      → TailStands defs k' x' frame words p last hs rs own
  tail_stays _ _ _ _ _ _ (no_more words p e) kept = no_more words p e
  tail_stays _ _ _ _ _ _ (one_more words inner p b last h hs g gs own more is e r t) kept =
      let here = kept b (inl refl) in
      one_more words inner p b last h hs g gs own more
      (record {
        word = is.word;
        there = here.1 ∙ is.there;
        free = here.0;
        formed = grows.forms b _ is.formed;
        kind = is.kind;
      })
      e
      (region_stays inner 8 h g own r (λ c u. kept c (inr (has_left own more c u))))
      (tail_stays inner 0 last hs gs more t (λ c u. kept c (inr (has_right own more c u))))

-- a tail's word may stand elsewhere
pub tail_at : (defs : List Def) (k : Facts) (x : Heap Block) (frame : ℕ) (words others : List Word) (p to : ℕ) (last : Option ℕ) (hs : held.Regions) (rs : Regions) (own : List ℕ)
    → word_at others (pos to) ≡ word_at words (pos p) → TailStands defs k x frame words p last hs rs own
    → TailStands defs k x frame others to last hs rs own
tail_at defs k x frame _ others _ to _ _ _ _ same (no_more words p e) = no_more others to (same ∙ e)
tail_at defs k x frame _ others _ to _ _ _ _ same (one_more words inner p b last h hs g gs own more is e r t) =
    one_more others inner to b last h hs g gs own more
    (record { word = same ∙ is.word; there = is.there; free = is.free; formed = is.formed; kind = is.kind }) e r t

-- where more than one record is behind it, the last is another than the next
pub not_last : (behind : Option ℕ) (b l : ℕ) → behind ≡ Some l → (b < l) → last_of behind b ≢ Some b
not_last None b l e less f = absurd cc
not_last (Some c) b l e less f =
    let same : c ≡ b = cc in let also : c ≡ l = cc in absurd (omega (arith, less, same, also))
