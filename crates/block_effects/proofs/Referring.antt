-- To which blocks references lead.
use Rattle.std.proofs.Common.{◌≡◌, ℕ, zero, suc, pos, ◌+◌, ◌<◌, ◌≤◌, true, List, [], ◌∷◌, length, Option, None, Some, refl, sym, ap, ◌∙◌, subst, arith, inl, inr}
use Rattle.std.specs.Prelude.{slice_get}
use Rattle.heap_model.specs.Heap.{Heap, at, there, in_one}
use Rattle.heap_model.specs.Facts.{Named, Is}
use Rattle.heap_model.specs.Contents.{Contents}
use Rattle.heap_model.specs.Worlds.{WorldsAlike}
use Rattle.heap_model.proofs.Heap.{within}
use Rattle.limbo_types.specs.Types.{Ty}
use Rattle.limbo_layout.specs.Adts.{Def}
use Rattle.limbo_layout.specs.Layout.{Laid}
use Rattle.limbo_values.specs.declared.number.Kind.TheVariants.{Int}
use Rattle.limbo_values.specs.Numbers.{InRange}
use Rattle.limbo_meaning.specs.Values as value
use Rattle.limbo_meaning.specs.Memory as source
use Rattle.limbo_meaning.specs.Memory.{HeapValue}
use Rattle.dis_meaning.specs.Words.{Word, Refer, Access, Found, ◌>>=◌, dead_address, or_wrong}
use Rattle.dis_memory.specs.Blocks as block
use Rattle.dis_memory.specs.Blocks.{Block, World}
use Rattle.dis_memory.specs.Kinds.{Elements, text_in, text_at, all_of, some_of, elements_in, elements_at, cell_in, first_cell, cells_from, list_length}
use Rattle.value_words.specs.Forms as form
use Rattle.value_words.specs.Forms.{Form, Cells}
use Rattle.value_words.specs.Facts.{Facts, IsFormed, IsName, IsPart, IsText}
use Rattle.value_heaps.specs.Types.{desc_of}
use Rattle.value_heaps.specs.Laws.{ContentsAre}
use Rattle.value_heaps.specs.Contents.{contents_by}
use Rattle.value_heaps.specs.Blocks as blocks
use Rattle.value_heaps.specs.Blocks.{Constant, IsBlock}
use Rattle.value_heaps.proofs.Words.{named_by}
use Rattle.block_effects.proofs.Counting.{list_once}
use Rattle.block_effects.proofs.Distinct.{AllBelow, IsApart, AreDistinct, not_more}
use Rattle.block_effects.specs.Contents.{IsList, nothing_more, one_more}
use Rattle.block_effects.specs.Contents.{AreElements, IsCell, AreBlocks, IsThere, LeadsTo, LeadsToCell, LeadsToValue, ReferencesLeadBy}
use Rattle.block_effects.specs.Contents.{BlocksAreSuch}

some_block : (o : Option Block) → there o ≡ true → (b : Block) × (o ≡ Some b)
some_block None e = absurd cc
some_block (Some b) e = (b, refl)

module _ (defs : List Def) (c : Contents HeapValue Block Form) (such : AreBlocks defs c) (k : Facts) (w : Heap HeapValue) (x : World)
    (alike : WorldsAlike c k w x.heap) where
  text : (r : Option ℕ) (s : List ℕ) → IsText k r s → IsThere x r → text_at x r ≡ Found s
  text None s e h = ap Found (sym e)
  text (Some b) s e h =
      let f = some_block (at x.heap b) (h b refl) in
      let is : f.0 ≡ block.Text s = alike.texts b s f.0 e.0 f.1 ∙ such.text s in
      ap (λ (o : Option Block). or_wrong dead_address o >>= text_in) (f.1 ∙ ap Some is)

  -- the block that stands for a value, which is there, stands for it now
  standing : (b n : ℕ) (one : Block) → Is k n b → at x.heap b ≡ Some one → LeadsToValue defs c k w x b n
  standing b n one i e =
      let h = alike.here n b one i e in
      let t = alike.there n h.0 h.1 in
      let same : t.0 ≡ b = k.once n t.0 b t.2 i in
      record {
        v = h.0;
        is = h.1;
        one = t.1;
        found = ap (at x.heap) (sym same) ∙ t.3;
        stands = subst (λ (q : ℕ). c.stands k q h.0 t.1) same t.4;
      }

  named : (b n : ℕ) → Is k n b → IsThere x (Some b) → LeadsToValue defs c k w x b n
  named b n i h = let f = some_block (at x.heap b) (h b refl) in standing b n f.0 i f.1

  -- ---- arrays

  -- The block of an array, with all its elements.
  record Whole (t : Ty) (b n long : ℕ) : Type 0 where
    all : Elements
    found : (or_wrong dead_address (at x.heap b) >>= all_of b) ≡ Found all
    leads_there : elements_at x (Some b) ≡ Found (Some all)
    start : all.start ≡ 0
    count : all.long ≡ long
    leads : (p : value.Part) → p.array ≡ n → p.start ≡ all.start → p.long ≡ all.long → LeadsTo defs c k w x t p all

  whole : (t : Ty) (b n long : ℕ) → IsFormed k (form.Elements t long) b n → IsThere x (Some b) → Whole t b n long
  whole t b n long i h =
      let s = named b n i.fact h in
      let a = such.elements k b t long s.v s.one i.formed s.stands in
      array_of b n long i s.v s.is s.one s.found s.stands a
    where
      array_of : (b n long : ℕ) → IsFormed k (form.Elements t long) b n → (v : HeapValue) → at w n ≡ Some v → (one : Block)
          → at x.heap b ≡ Some one → c.stands k b v one → AreElements defs c t long v one → Whole t b n long
      array_of b n long i v is one found stands a =
          let same : one ≡ block.Array (desc_of a.room) (length a.vs) a.words =
          a.found ∙ ap (λ (m : ℕ). block.Array (desc_of a.room) m a.words) (sym a.many) in
          record {
            all = record { array = b; element = desc_of a.room; start = 0; long = long; words = a.words };
            found = ap (λ (o : Option Block). or_wrong dead_address o >>= all_of b) (found ∙ ap Some a.found);
            leads_there = ap (λ (o : Option Block). or_wrong dead_address o >>= elements_in x b >>= λ e. Found (Some e))
                (found ∙ ap Some a.found);
            start = refl;
            count = refl;
            leads = λ p f g h. record {
              vs = a.vs;
              is = ap (at w) f ∙ is ∙ ap Some a.is;
              named = i.fact ∙ ap (λ (m : ℕ). Some (Named m)) (sym f);
              formed = i.formed ∙ ap (λ (m : ℕ). Some (form.Elements t m)) (sym a.many);
              found = found ∙ ap Some same;
              stands = subst (λ (v : HeapValue). c.stands k b v (block.Array (desc_of a.room) (length a.vs) a.words)) a.is
                  (subst (λ (q : Block). c.stands k b v q) same stands);
              room = a.room;
              laid = a.laid;
              element = refl;
              start = sym g;
              long = sym h;
              within = let z = a.many in omega (arith, g, h, z);
              counted = subst (λ (m : ℕ). InRange Int (pos m)) (sym a.many) a.counted;
            };
          }

  -- Part of it.
  part_leads : (t : Ty) (b q : ℕ) (p : value.Part) (long : ℕ) → at x.heap b ≡ Some (block.Part q p.start p.long) → Whole t q p.array long
      → p.start + p.long ≤ long → (e : Elements) × (elements_at x (Some b) ≡ Found (Some e)) × LeadsTo defs c k w x t p e
  part_leads t b q p long f a within =
      let l = a.leads (record { array = p.array; start = a.all.start; long = a.all.long }) refl refl refl in (
        some_of p.start p.long a.all,
        ap (λ (o : Option Block). or_wrong dead_address o >>= elements_in x b >>= λ e. Found (Some e)) f
            ∙ ap (λ (e : Access Elements). e >>= (λ e. Found (some_of p.start p.long e)) >>= λ e. Found (Some e)) a.found,
        record {
          vs = l.vs;
          is = l.is;
          named = l.named;
          formed = l.formed;
          found = l.found;
          stands = l.stands;
          room = l.room;
          laid = l.laid;
          element = l.element;
          start = let z = a.start in omega (arith, z);
          long = refl;
          within = let all = l.within in let z = a.start in let n = a.count in omega (arith, within, all, z, n);
          counted = l.counted;
        },
      )

  array_there : (t : Ty) (r : Option ℕ) (p : value.Part) → IsPart k t r (Some p) → IsThere x r
      → (e : Elements) × (elements_at x r ≡ Found (Some e)) × LeadsTo defs c k w x t p e
  array_there t None p i h = absurd i
  array_there t (Some b) p (inl i) h =
      let a = whole t b p.array p.long i.0 h in (a.all, a.leads_there, a.leads p refl (i.1 ∙ sym a.start) (sym a.count))
  array_there t (Some b) p (inr i) h =
      let f = some_block (at x.heap b) (h b refl) in
      let q = alike.parts b p.array p.start p.long f.0 i.0 f.1 in
      let names : 0 < c.words f.0 q.0 = subst (λ (d : Block). 0 < c.words d q.0) (sym q.1) (c.part_names p.start p.long q.0) in
      let uses = subst (λ (o : Option Block). 0 < in_one c.words o q.0) (sym f.1) names in
      let live = alike.closed.closed b q.0 (h b refl) uses in
      let same = k.once p.array i.1.0 q.0 i.1.1.1.0.fact q.2 in
      let formed = subst (λ (m : ℕ). IsFormed k (form.Elements t i.1.1.0) m p.array) same i.1.1.1.0 in
      part_leads t b q.0 p i.1.1.0 (f.1 ∙ ap Some (q.1 ∙ such.part p.start p.long q.0))
      (whole t q.0 p.array i.1.1.0 formed (is_there q.0 live)) i.1.1.1.1
    where
      is_there : (b : ℕ) → there (at x.heap b) ≡ true → IsThere x (Some b)
      is_there b live d e = let f : b ≡ d = cc in subst (λ (m : ℕ). there (at x.heap m) ≡ true) f live

  no_array : (t : Ty) (r : Option ℕ) → IsPart k t r None → elements_at x r ≡ Found None
  no_array t None i = refl
  no_array t (Some b) i = absurd i

  -- ---- cells

  no_cell : (t : Ty) (r : Option ℕ) → IsName k (Some (Cells t)) r None → first_cell x r ≡ Found None
  no_cell t None i = refl
  no_cell t (Some b) i = absurd i

  cell_there : (t : Ty) (b n : ℕ) → IsName k (Some (Cells t)) (Some b) (Some n) → IsThere x (Some b)
      → LeadsToCell defs c k w x t b n
  cell_there t b n i h =
      let s = named b n i.fact h in
      let a = such.cell k b t s.v s.one i.formed s.stands in
      record {
        head = a.head;
        behind = a.behind;
        is = s.is ∙ ap Some a.is;
        words = a.words;
        rest = a.rest;
        named = a.named;
        found = s.found ∙ ap Some a.found;
        stands = subst (λ (v : HeapValue). c.stands k b v (block.Cell a.words a.rest)) a.is
            (subst (λ (q : Block). c.stands k b s.v q) a.found s.stands);
        rest_there = λ q e.
            let uses = subst (λ (o : Option Block). 0 < in_one c.words o q) (sym s.found) (a.holds q e) in
            alike.closed.closed b q (h b refl) uses;
        older = a.older;
        first = ap (λ (o : Option Block). or_wrong dead_address o >>= cell_in >>= λ c. Found (Some c)) (s.found ∙ ap Some a.found);
      }

  -- ---- lists

  -- These blocks stand for cells of lists that have so many at most.
  abbrev AllShort : ℕ → List ℕ → Type 0
  AllShort m [] = Unit {0}
  AllShort m (b ∷ bs) = ((n : ℕ) × ((j : ℕ) × (Is k n b × IsList w (Some n) j × (j ≤ m)))) × AllShort m bs

  short_later : (m : ℕ) (bs : List ℕ) → AllShort m bs → AllShort (suc m) bs
  short_later m [] s = tt
  short_later m (b ∷ bs) ((n, (j, (i, l, h))), s) = ((n, (j, (i, l, omega (arith, h)))), short_later m bs s)

  apart_from : (n b m : ℕ) → Is k n b → IsList w (Some n) (suc m) → (bs : List ℕ) → AllShort m bs → IsApart b bs
  apart_from n b m i l [] s = tt
  apart_from n b m i l (d ∷ ds) ((o, (j, (e, p, h))), s) = (differs, apart_from n b m i l ds s)
    where
      differs : b ≡ d → ⊥
      differs f =
          let g : k.fact b ≡ Some (Named o) = ap k.fact f ∙ e in
          let is : Some (Named n) ≡ Some (Named o) = sym i ∙ g in
          let same : o ≡ n = cc in
          let once = list_once w (Some n) (suc m) j l (subst (λ (o : ℕ). IsList w (Some o) j) same p) in
          omega (arith, once, h)

  record Walk (r : Option ℕ) (m : ℕ) : Type 0 where
    cells : List ℕ
    long : length cells ≡ m
    all_below : AllBelow (length x.heap) cells
    distinct : AreDistinct cells
    short : AllShort m cells
    is : (most : ℕ) → m ≤ most → cells_from x most r ≡ Found m

  walk : (t : Ty) (r n : Option ℕ) (m : ℕ) → IsName k (Some (Cells t)) r n → IsThere x r → IsList w n m → Walk r m
  walk t None _ _ i h nothing_more = record {
    cells = [];
    long = refl;
    all_below = tt;
    distinct = tt;
    short = tt;
    is = λ most l. refl;
  }
  walk t (Some b) _ _ i h nothing_more = absurd i
  walk t None _ _ i h (one_more n head tail m e l) = absurd i
  walk t (Some b) _ _ i h (one_more n head tail m e l) =
      let f = cell_there t b n i h in
      let g : Some (source.Cell f.head f.behind) ≡ Some (source.Cell head tail) = sym f.is ∙ e in
      let same : f.behind ≡ tail = cc in
      let v = walk t f.rest tail m (subst (λ (o : Option ℕ). IsName k (Some (Cells t)) f.rest o) same f.named) f.rest_there l in
      let long = v.long in
      record {
        cells = b ∷ v.cells;
        long = ap suc long;
        all_below = (within x.heap b (h b refl), v.all_below);
        distinct = (apart_from n b m i.fact (one_more n head tail m e l) v.cells v.short, v.distinct);
        short = ((n, (suc m, (i.fact, one_more n head tail m e l, omega arith))), short_later m v.cells v.short);
        is = cells_are b f.words f.rest m f.found v.is;
      }
    where
      cells_are : (b : ℕ) (words : List Word) (rest : Option ℕ) (m : ℕ) → at x.heap b ≡ Some (block.Cell words rest)
          → ((most : ℕ) → m ≤ most → cells_from x most rest ≡ Found m) → (most : ℕ) → suc m ≤ most → cells_from x most (Some b) ≡ Found (suc m)
      cells_are b words rest m e v zero l = absurd (omega (arith, l))
      cells_are b words rest m e v (suc most) l =
          ap (λ (o : Option Block). or_wrong dead_address o >>= cell_in >>= λ c. cells_from x most c.rest >>= λ m. Found (suc m)) e
          ∙ ap (λ (a : Access ℕ). a >>= λ m. Found (suc m)) (v most (omega (arith, l)))

  list_there : (t : Ty) (r n : Option ℕ) (m : ℕ) → IsName k (Some (Cells t)) r n → IsThere x r → IsList w n m → list_length x r ≡ Found m
  list_there t r n m i h l =
      let v = walk t r n m i h l in
      let long = v.long in
      let few = not_more (length x.heap) v.cells v.all_below v.distinct in
      v.is (length x.heap) (omega (arith, long, few))

pub references_lead : (defs : List Def) (c : Contents HeapValue Block Form) → AreBlocks defs c → ReferencesLeadBy defs c
references_lead defs c such k w x alike = record {
  named = named defs c such k w x alike;
  text = text defs c such k w x alike;
  no_array = no_array defs c such k w x alike;
  array = array_there defs c such k w x alike;
  no_cell = no_cell defs c such k w x alike;
  cell = cell_there defs c such k w x alike;
  list = list_there defs c such k w x alike;
}

-- ---- the blocks of values

module _ (defs : List Def) (globals : List Ty) (constants : List Constant) (law : ContentsAre) (k : Facts) (n : ℕ) where
  block_elements : (t : Ty) (long : ℕ) (v : HeapValue) (b : Block) → k.form n ≡ Some (form.Elements t long) → IsBlock defs globals constants k n v b
      → AreElements defs (contents_by law defs globals constants) t long v b
  block_elements t long _ _ f (blocks.elements u r words vs g l few whole each refer) =
      let same : Some (form.Elements u (length vs)) ≡ Some (form.Elements t long) = sym g ∙ f in
      let type_is : u ≡ t = cc in
      let many : length vs ≡ long = cc in
      record {
        vs = vs;
        is = refl;
        many = many;
        counted = subst (λ (m : ℕ). InRange Int (pos m)) many few;
        room = r;
        laid = subst (λ (u : Ty). Laid defs u r) type_is l;
        words = words;
        found = ap (λ (m : ℕ). block.Array (desc_of r) m words) many;
      }
  block_elements t long _ _ f (blocks.cell u r words v tail rest g l whole each refer named behind older) = absurd cc
  block_elements t long _ _ f (blocks.record_of m r words v g l whole each refer named) = absurd cc
  block_elements t long _ _ f (blocks.channel u desc g) = absurd cc
  block_elements t long _ _ f (blocks.instance_of object rs words vs g l whole all refer named fixed) = absurd cc

  block_cell : (t : Ty) (v : HeapValue) (b : Block) → k.form n ≡ Some (Cells t) → IsBlock defs globals constants k n v b
      → IsCell defs (contents_by law defs globals constants) k n t v b
  block_cell t _ _ f (blocks.elements u r words vs g l few whole each refer) = absurd cc
  block_cell t _ _ f (blocks.cell u r words v tail rest g l whole each refer named behind older) =
      let same : Some (Cells u) ≡ Some (Cells t) = sym g ∙ f in
      let type_is : u ≡ t = cc in
      record {
        head = v;
        behind = tail;
        is = refl;
        words = words;
        rest = rest;
        named = subst (λ (u : Ty). IsName k (Some (Cells u)) rest tail) type_is behind;
        found = refl;
        holds = λ q e.
            let first : slice_get (Refer rest ∷ words) 0 ≡ Some (Refer (Some q)) = ap (λ (o : Option ℕ). Some (Refer o)) e in
            named_by (Refer rest ∷ words) 0 q first;
        older = older;
      }
  block_cell t _ _ f (blocks.record_of m r words v g l whole each refer named) = absurd cc
  block_cell t _ _ f (blocks.channel u desc g) = absurd cc
  block_cell t _ _ f (blocks.instance_of object rs words vs g l whole all refer named fixed) = absurd cc

pub blocks_are_such : BlocksAreSuch
blocks_are_such law defs globals constants = record {
  text = λ s. refl;
  part = λ start long array. refl;
  elements = λ k n t long v b. block_elements defs globals constants law k n t long v b;
  cell = λ k n t v b. block_cell defs globals constants law k n t v b;
}
