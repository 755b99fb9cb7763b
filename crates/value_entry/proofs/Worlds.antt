-- The world that a machine begins with stands for that of the module, as it is before what nobody names goes.
use Rattle.std.proofs.Common.{◌≡◌, ℕ, zero, suc, ◌+◌, ◌<◌, ◌≤◌, true, List, [], ◌∷◌, length, map, Option, None, Some, inl, refl, sym, ap, ◌∙◌, subst, arith}
use Rattle.std.specs.Prelude.{slice_get}
use Rattle.heap_model.specs.Heap.{Heap, at, in_one, there}
use Rattle.heap_model.specs.Kept.{IsClosed}
use Rattle.heap_model.specs.Facts.{Fact, Named, Chars, Part, Bare, Carrier, IsFree, Is, itself, slice, Covers, refers, chars}
use Rattle.heap_model.specs.Worlds.{WorldsAlike, blocks}
use Rattle.heap_model.proofs.Heap.{there_is, there_of, beyond}
use Rattle.limbo_types.specs.Types as ty
use Rattle.limbo_layout.specs.Layout.{reference, is_alone}
use Rattle.limbo_values.specs.Texts.{longest}
use Rattle.limbo_typed.specs.Typed as typed
use Rattle.limbo_typed.specs.Sound.{Each}
use Rattle.limbo_kept.specs.Modules.{WordsAre}
use Rattle.limbo_meaning.specs.Values as value
use Rattle.limbo_meaning.specs.Memory as source
use Rattle.limbo_meaning.specs.Memory.{HeapValue}
use Rattle.limbo_meaning.specs.Program.{globals_of}
use Rattle.limbo_meaning.specs.Runs.{first_world, cells_from}
use Rattle.dis_meaning.specs.Words.{Word, Refer}
use Rattle.dis_memory.specs.Blocks as block
use Rattle.dis_memory.specs.Blocks.{Block}
use Rattle.dis_memory.specs.Naming as machine
use Rattle.value_words.specs.Contents.{AreInRange}
use Rattle.value_words.specs.Forms.{Form, Cells, Instances}
use Rattle.value_words.specs.Facts.{Facts, IsString, IsName}
use Rattle.value_words.specs.Stands.{Stands, a_text}
use Rattle.value_words.proofs.Bytes.{word_there}
use Rattle.value_heaps.specs.Blocks.{IsBlock, IsWithin, AreWhole, ReferOnlyThere, cell}
use Rattle.value_heaps.proofs.Contents.{blocks_stand}
use Rattle.value_code.specs.Objects.{globals, constants}
use Rattle.value_code.proofs.Lists.{get_map}
use Rattle.value_follows.specs.Sides.{contents}
use Rattle.value_entry.specs.Entry.{AreStrings}
use Rattle.value_entry.proofs.Listed.{Entry, AnInstance, AText, ACell, block_of, fact_of, form_of, heap_of, block_there, entry_there, heap_long, past_end}
use Rattle.value_entry.proofs.Listed.{entries, front_there, CellIs, RestIs, cell_is, cell_there, instance_front}

-- ---- what is known of entries

pub fact_in : Option Entry → Option (Fact Block)
fact_in None = None
fact_in (Some e) = Some (fact_of e)

pub form_in : Option Entry → Option Form
form_in None = None
form_in (Some e) = form_of e

pub fact_is : (o : Option Entry) (e : Entry) → o ≡ Some e → fact_in o ≡ Some (fact_of e)
unfolding fact_in
fact_is o e h = ap fact_in h

fact_none : (o : Option Entry) → o ≡ None → fact_in o ≡ None
unfolding fact_in
fact_none o h = ap fact_in h

pub form_is : (o : Option Entry) (e : Entry) → o ≡ Some e → form_in o ≡ form_of e
unfolding form_in
form_is o e h = ap form_in h

form_none : (o : Option Entry) → o ≡ None → form_in o ≡ None
unfolding form_in
form_none o h = ap form_in h

known_is : (o : Option Entry) (f : Fact Block) → fact_in o ≡ Some f → (e : Entry) × (o ≡ Some e) × (fact_of e ≡ f)
unfolding fact_in
known_is None f h = absurd cc
known_is (Some e) f h = (e, refl, cc)

-- ---- words

word_string : (ws : List (List ℕ)) → WordsAre ws → Each (λ (w : List ℕ). length w ≤ longest) ws → (i : ℕ) (w : List ℕ) → slice_get ws i ≡ Some w → IsString w
word_string [] are short i w e = absurd cc
word_string (v ∷ ws) are short zero w e = subst IsString (let same : v ≡ w = cc in same) (are.0, short.0)
word_string (v ∷ ws) are short (suc i) w e = word_string ws are.1 short.1 i w e

module _ (m : typed.Module) (words : List Word) (texts list : List (List ℕ)) where
  -- ---- the entries

  abbrev pub front : List Entry
  front = AnInstance words ∷ map (λ t. AText t) texts

  abbrev pub all : List Entry
  all = entries front 1 list

  text_only : (ts : List (List ℕ)) (q : ℕ) (e : Entry) → slice_get (map (λ t. AText t) ts) q ≡ Some e → (t : List ℕ) × (AText t ≡ e)
  text_only [] q e h = absurd cc
  text_only (t ∷ ts) zero e h = (t, cc)
  text_only (t ∷ ts) (suc q) e h = text_only ts q e h

  bare : (q name text : ℕ) (rest : Option ℕ) → slice_get front q ≡ Some (ACell name text rest) → ⊥
  bare zero name text rest h = cc
  bare (suc q) name text rest h = let t = text_only texts q (ACell name text rest) h in let e = t.1 in cc

  only_instance : (q : ℕ) (ws : List Word) → slice_get front q ≡ Some (AnInstance ws) → (q ≡ 0) × (words ≡ ws)
  only_instance zero ws h = (refl, cc)
  only_instance (suc q) ws h = absurd (let t = text_only texts q (AnInstance ws) h in let e = t.1 in cc)

  instance_is : (q : ℕ) (ws : List Word) → slice_get all q ≡ Some (AnInstance ws) → (q ≡ 0) × (words ≡ ws)
  instance_is q ws h = only_instance q ws (instance_front front 1 list q ws h)

  pub instance_there : slice_get all 0 ≡ Some (AnInstance words)
  instance_there = front_there front 1 list 0 (AnInstance words) refl

  abbrev pub CellAt : (q name text : ℕ) (rest : Option ℕ) → Type 0
  CellAt q name text rest = CellIs front 1 list all q name text rest

  cell_at : (q name text : ℕ) (rest : Option ℕ) → slice_get all q ≡ Some (ACell name text rest) → CellAt q name text rest
  cell_at q name text rest h = cell_is front bare 1 list q name text rest h

  -- ---- what is known

  -- an entry that stands for a value
  pub data Names (q a : ℕ) : Type 0 where
    names_instance : q ≡ 0 → a ≡ 0 → Names q a
    names_cell : (text : ℕ) (rest : Option ℕ) → slice_get all q ≡ Some (ACell a text rest) → CellAt q a text rest → Names q a

  names_so : (q a : ℕ) (e : Entry) → slice_get all q ≡ Some e → fact_of e ≡ Named a → Names q a
  names_so q a (AnInstance ws) h f = let i = instance_is q ws h in names_instance i.0 (let g = f in cc)
  names_so q a (AText t) h f = absurd cc
  names_so q a (ACell name text rest) h f =
      let same : name ≡ a = cc in
      let there : slice_get all q ≡ Some (ACell a text rest) = subst (λ (n : ℕ). slice_get all q ≡ Some (ACell n text rest)) same h in
      names_cell text rest there (cell_at q a text rest there)

  pub names_it : (q a : ℕ) → fact_in (slice_get all q) ≡ Some (Named a) → Names q a
  names_it q a h = let e = known_is (slice_get all q) (Named a) h in names_so q a e.0 e.1 e.2

  pub same_place : (a q r : ℕ) → Names q a → Names r a → q ≡ r
  same_place a q r (names_instance e f) (names_instance g h) = e ∙ sym g
  same_place a q r (names_instance e f) (names_cell t s h c) = let n = c.name_is in absurd (omega (arith, f, n))
  same_place a q r (names_cell t s h c) (names_instance e f) = let n = c.name_is in absurd (omega (arith, f, n))
  same_place a q r (names_cell t s h c) (names_cell u v g d) = let n = c.place in let o = d.place in omega (arith, n, o)

  abbrev pub known : Facts
  known = record {
    fact = λ q. fact_in (slice_get all q);
    maker = λ q. None;
    form = λ q. form_in (slice_get all q);
    once = λ a q r e f. same_place a q r (names_it q a e) (names_it r a f);
  }

  pub instance_named : known.fact 0 ≡ Some (Named 0)
  instance_named = fact_is (slice_get all 0) (AnInstance words) instance_there

  pub instance_formed : known.form 0 ≡ Some Instances
  instance_formed = form_is (slice_get all 0) (AnInstance words) instance_there

  pub texts_known : (j : ℕ) (t : List ℕ) → slice_get texts j ≡ Some t → known.fact (suc j) ≡ Some (Chars t)
  texts_known j t e =
      fact_is (slice_get all (suc j)) (AText t) (front_there front 1 list (suc j) (AText t) (get_map (λ t. AText t) texts j t e))

  -- ---- blocks and values

  module _ (strings : AreStrings list)
      (instance : IsBlock m.adts (globals m) (constants m) known 0 (source.Instance (globals_of m)) (block.Instance 0 words)) where
    abbrev heap : Heap HeapValue
    heap = (first_world m list).heap

    -- a cell's block
    module _ (q name text : ℕ) (rest : Option ℕ) (h : slice_get all q ≡ Some (ACell name text rest)) (c : CellAt q name text rest) where
      abbrev inner : List Word
      inner = Refer (Some text) ∷ []

      stands : Stands m.adts known inner 0 ty.Chars (value.Chars c.word)
      stands =
          a_text 0 (Some text) c.word (word_there inner 0 (Refer (Some text)) refl refl)
          (fact_is (slice_get all text) (AText c.word) c.text_is, word_string list strings.written strings.short c.number c.word c.got)

      whole : AreWhole inner 0 reference.size
      whole = ((λ w i. omega (arith, i.1)), ranged)
        where
          ranged : AreInRange inner
          ranged zero z e = absurd cc
          ranged (suc k) z e = absurd cc

      is_name : (tail rest : Option ℕ) → RestIs front all q tail rest → IsName known (Some (Cells ty.Chars)) rest tail
      is_name None None r = tt
      is_name None (Some b) r = absurd r
      is_name (Some t) None r = absurd r
      is_name (Some t) (Some b) r = record {
        fact = fact_is (slice_get all b) (ACell t r.1 r.2) r.3;
        formed = form_is (slice_get all b) (ACell t r.1 r.2) r.3;
      }

      older : (tail rest : Option ℕ) → RestIs front all q tail rest → (b : ℕ) → rest ≡ Some b → b < q
      older None None r b e = absurd cc
      older None (Some o) r b e = absurd r
      older (Some t) None r b e = absurd r
      older (Some t) (Some o) r b e = let same : o ≡ b = cc in let l = r.0 in omega (arith, same, l)

      refer_only : ReferOnlyThere inner 0 reference
      refer_only w to e i = (0, inl refl, let l = i.1 in omega (arith, l))

      within : (w b : ℕ) → slice_get inner w ≡ Some (Refer (Some b)) → IsWithin 0 reference.size w
      within zero b e = (omega arith, omega arith)
      within (suc w) b e = absurd cc

      pub cell_block : IsBlock m.adts (globals m) (constants m) known q (source.Cell (value.Chars c.word) c.tail) (block.Cell inner rest)
      cell_block =
          cell ty.Chars reference inner (value.Chars c.word) c.tail rest
          (form_is (slice_get all q) (ACell name text rest) h) (is_alone ty.Chars reference refl) whole stands refer_only within
          (is_name c.tail rest c.rest_is) (older c.tail rest c.rest_is)

    -- ---- no reference names what isn't there

    live : (q : ℕ) (f : Fact Block) → known.fact q ≡ Some f → there (at (heap_of all) q) ≡ true
    live q f h =
        let e = known_is (slice_get all q) f h in
        there_of (at (heap_of all) q) (block_of e.0) (block_there all q e.0 e.1)

    covered_live : (named : ℕ → Type 0) (q : ℕ) → Covers known named q → there (at (heap_of all) q) ≡ true
    covered_live named q (refers a n (itself i)) = live q (Named a) i
    covered_live named q (refers a n (slice s l e)) = live q (Part a s l) e
    covered_live named q (chars t e) = live q (Chars t) e

    entry_live : (a b : ℕ) (e : Entry) → slice_get all a ≡ Some e → 0 < machine.inside (block_of e) b → there (at (heap_of all) b) ≡ true
    entry_live a b (AnInstance ws) h u =
        let i = instance_is a ws h in
        let named = subst (λ (o : List Word). 0 < machine.inside (block.Instance 0 o) b) (sym i.1) u in
        covered_live _ b ((blocks_stand m.adts (globals m) (constants m)).from known 0 (source.Instance (globals_of m)) (block.Instance 0 words) b instance named)
    entry_live a b (AText t) h u = absurd (omega (arith, u))
    entry_live a b (ACell name text rest) h u =
        let c = cell_at a name text rest h in
        covered_live _ b ((blocks_stand m.adts (globals m) (constants m)).from known a (source.Cell (value.Chars c.word) c.tail)
        (block.Cell (Refer (Some text) ∷ []) rest) b (cell_block a name text rest h c) u)

    closed : IsClosed (blocks (contents m) (heap_of all))
    closed = record {
      closed = λ a b l u.
          let v = there_is (at (heap_of all) a) l in
          let e = entry_there all a v.0 v.1 in
          let there = block_there all a e.0 e.1 in
          entry_live a b e.0 e.1 (subst (λ (o : Option Block). 0 < in_one machine.inside o b) there u);
    }

    -- ---- values

    value_of : (q a : ℕ) → Names q a → (v : HeapValue) × (at heap a ≡ Some v)
    value_of q a (names_instance e f) = (source.Instance (globals_of m), ap (at heap) f)
    value_of q a (names_cell text rest h c) =
        (source.Cell (value.Chars c.word) c.tail, ap (at heap) (let e = c.name_is in let g : a ≡ suc c.number = omega (arith, e) in g) ∙ c.source_is)

    abbrev HasBlock : (a : ℕ) → HeapValue → Type 0
    HasBlock a v = (n : ℕ) × (b : Block) × Is known a n × (at (heap_of all) n ≡ Some b) × (contents m).stands known n v b

    has_block : (a : ℕ) (v : HeapValue) → at heap a ≡ Some v → HasBlock a v
    has_block zero v h = (
      0,
      block.Instance 0 words,
      instance_named,
      block_there all 0 (AnInstance words) instance_there,
      (
        subst (λ (u : HeapValue). IsBlock m.adts (globals m) (constants m) known 0 u (block.Instance 0 words))
            (let same : source.Instance (globals_of m) ≡ v = cc in same) instance,
        refl,
      ),
    )
    has_block (suc i) v h =
        let r = cell_there front 1 list i v h in
        let next : 1 + i ≡ suc i = omega arith in
        let e : slice_get all r.0 ≡ Some (ACell (suc i) r.1 r.2) = subst (λ (n : ℕ). slice_get all r.0 ≡ Some (ACell n r.1 r.2)) next r.3 in
        let c = cell_at r.0 (suc i) r.1 r.2 e in
        let n = c.name_is in
        let number : c.number ≡ i = omega (arith, n) in
        let same_one : Some (source.Cell (value.Chars c.word) c.tail) ≡ Some v =
        sym c.source_is ∙ ap (at (cells_from 1 list)) number ∙ h in
        let same : source.Cell (value.Chars c.word) c.tail ≡ v = cc in (
          r.0,
          block.Cell (Refer (Some r.1) ∷ []) r.2,
          fact_is (slice_get all r.0) (ACell (suc i) r.1 r.2) e,
          block_there all r.0 (ACell (suc i) r.1 r.2) e,
          (
            subst (λ (u : HeapValue). IsBlock m.adts (globals m) (constants m) known r.0 u (block.Cell (Refer (Some r.1) ∷ []) r.2)) same
                (cell_block r.0 (suc i) r.1 r.2 e c),
            tt,
          ),
        )

    not_part : (e : Entry) (a s l : ℕ) → fact_of e ≡ Part a s l → ⊥
    not_part (AnInstance w) a s l f = cc
    not_part (AText t) a s l f = cc
    not_part (ACell n t r) a s l f = cc

    not_bare : (e : Entry) → fact_of e ≡ Bare → ⊥
    not_bare (AnInstance w) f = cc
    not_bare (AText t) f = cc
    not_bare (ACell n t r) f = cc

    not_carrier : (e : Entry) (d : Block) → fact_of e ≡ Carrier d → ⊥
    not_carrier (AnInstance w) d f = cc
    not_carrier (AText t) d f = cc
    not_carrier (ACell n t r) d f = cc

    not_free : (e : Entry) → IsFree (Some (fact_of e)) → ⊥
    not_free (AnInstance w) f = f
    not_free (AText t) f = f
    not_free (ACell n t r) f = f

    text_of : (e : Entry) (t : List ℕ) → fact_of e ≡ Chars t → block_of e ≡ block.Text t
    text_of (AnInstance w) t f = absurd cc
    text_of (AText u) t f = ap (λ (s : List ℕ). block.Text s) (let same : u ≡ t = cc in same)
    text_of (ACell n u r) t f = absurd cc

    pub alike : WorldsAlike (contents m) known heap (heap_of all)
    alike = record {
      unmade = λ n l.
          let long = heap_long all in
          let none = past_end all n (omega (arith, l, long)) in
          record { fact = fact_none (slice_get all n) none; maker = refl; form = form_none (slice_get all n) none };
      unnamed = λ a n l i.
          let v = value_of n a (names_it n a i) in
          let none = beyond heap a l in
          let w = v.1 in
          cc;
      there = λ a v h. has_block a v h;
      here = λ a n b i h. value_of n a (names_it n a i);
      texts = λ n t b f h.
          let e = known_is (slice_get all n) (Chars t) f in
          let there = block_there all n e.0 e.1 in
          let same : block_of e.0 ≡ b = let g = sym there ∙ h in cc in
          sym same ∙ text_of e.0 t e.2;
      parts = λ n a s l b f h. let e = known_is (slice_get all n) (Part a s l) f in absurd (not_part e.0 a s l e.2);
      carriers = λ n d b f h. let e = known_is (slice_get all n) (Carrier d) f in absurd (not_carrier e.0 d e.2);
      frees = λ n q b f g h u.
          let e = entry_there all n b h in
          absurd (not_free e.0 (subst (λ (o : Option (Fact Block)). IsFree o) (fact_is (slice_get all n) e.0 e.1) f));
      bares = λ n b f h. let e = known_is (slice_get all n) Bare f in not_bare e.0 e.2;
      closed = closed;
    }
