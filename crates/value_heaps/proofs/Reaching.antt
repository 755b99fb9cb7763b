-- A block names a block for each value that its value names.
use Rattle.std.proofs.Common.{◌≡◌, ℕ, zero, suc, ◌<◌, ◌/◌, pos, List, [], ◌∷◌, Option, Some, None, refl, sym, ap, subst, ◌∙◌}
use Rattle.std.proofs.Common.{arith, inl, inr}
use Rattle.std.specs.Prelude.{slice_get}
use Rattle.heap_model.specs.Facts.{Named, Refers, itself, slice}
use Rattle.limbo_types.specs.Types as ty
use Rattle.limbo_types.specs.Types.{Ty}
use Rattle.limbo_layout.specs.Adts.{Def, parts, listed}
use Rattle.limbo_layout.specs.Layout.{Room, nothing}
use Rattle.limbo_meaning.specs.Values as value
use Rattle.limbo_meaning.specs.Values.{Value, references, references_in, array_named}
use Rattle.limbo_meaning.specs.Memory.{HeapValue, inside}
use Rattle.limbo_meaning.specs.Origins.{Name}
use Rattle.limbo_meaning.proofs.Names.{none, nil_names, is_one, either}
use Rattle.core_code.proofs.Names.{row_references}
use Rattle.dis_meaning.specs.Words.{Word, Refer, Found, word_at}
use Rattle.dis_memory.specs.Blocks as block
use Rattle.dis_memory.specs.Blocks.{Block}
use Rattle.dis_memory.specs.Naming as machine
use Rattle.value_words.specs.Forms.{Form, Cells, form_of}
use Rattle.value_words.specs.Facts.{Facts, IsName, IsPart}
use Rattle.value_words.specs.Stands.{Stands, a_number, a_text, a_name, an_array, no_words, a_tuple, an_adt}
use Rattle.value_words.specs.Stands.{AllStand, none_stand, more_stand}
use Rattle.value_words.proofs.Bytes.{word_found}
use Rattle.value_heaps.specs.Blocks.{Constant, IsBlock, elements, cell, record_of, channel, instance_of, globals_place}
use Rattle.value_heaps.proofs.Words.{named_by, some_names}

-- ---- of words

module _ (defs : List Def) (facts : Facts) (words : List Word) where
  -- One of the words refers to value m.
  pub record Reached (m : ℕ) : Type 0 where
    pub named : ℕ
    pub number : ℕ
    pub word : slice_get words number ≡ Some (Refer (Some named))
    pub is : Refers facts m named

  by_name : (at : ℕ) (asked : Option Form) (r n : Option ℕ) (m : ℕ) → word_at words (pos at) ≡ Found (Refer r) → IsName facts asked r n
      → Name (n ∷ []) m → Reached m
  by_name at asked r None m e h i = nil_names m i
  by_name at asked None (Some n) m e h i = absurd h
  by_name at None (Some b) (Some n) m e h i = absurd h
  by_name at (Some form) (Some b) (Some n) m e h i = record {
    named = b;
    number = at / 4;
    word = (word_found words at (Refer (Some b)) e).1;
    is = itself (let f = is_one m n i in h.fact ∙ ap (λ j. Some (Named j)) (sym f));
  }

  by_part : (at : ℕ) (t : Ty) (r : Option ℕ) (p : Option value.Part) (m : ℕ) → word_at words (pos at) ≡ Found (Refer r)
      → IsPart facts t r p → Name (array_named p ∷ []) m → Reached m
  by_part at t r None m e h i = nil_names m i
  by_part at t None (Some p) m e h i = absurd h
  by_part at t (Some b) (Some p) m e h i = record {
    named = b;
    number = at / 4;
    word = (word_found words at (Refer (Some b)) e).1;
    is = subst (λ (j : ℕ). Refers facts j b) (sym (is_one m p.array i)) (refers h);
  }
    where
      refers : IsPart facts t (Some b) (Some p) → Refers facts p.array b
      refers (inl j) = itself j.0.fact
      refers (inr j) = slice p.start p.long j.0

  mutual
    pub reached : (at : ℕ) (t : Ty) (v : Value) (m : ℕ) → Stands defs facts words at t v → Name (references v) m → Reached m
    reached _ _ _ m (a_number at k z e i) h = none m h
    reached _ _ _ m (a_text at r s e i) h = none m h
    reached _ _ _ m (a_name at t r n i e j) h = by_name at (form_of t) r n m e j h
    reached _ _ _ m (an_array at t r p e i) h = by_part at t r p m e i h
    reached _ _ _ m (no_words at) h = none m h
    reached _ _ _ m (a_tuple at ts rs vs l all) h =
        all_reached at nothing (listed ts) rs vs m all (subst (λ (ns : List (Option ℕ)). Name ns m) (row_references vs) h)
    reached _ _ _ m (an_adt at n d rs vs e l all) h =
        all_reached at nothing (parts d) rs vs m all (subst (λ (ns : List (Option ℕ)). Name ns m) (row_references vs) h)

    pub all_reached : (at : ℕ) (w : Room) (ts : List Ty) (rs : List Room) (vs : List Value) (m : ℕ)
        → AllStand defs facts words at w ts rs vs
        → Name (references_in vs) m → Reached m
    all_reached _ _ _ _ _ m (none_stand at w) h = none m h
    all_reached _ _ _ _ _ m (more_stand at w t ts r rs v vs a b) h = elim (either (references v) (references_in vs) m h) [
      | inl i ↦ reached _ t v m a i
      | inr i ↦ all_reached at _ ts rs vs m b i
    ]

-- ---- of blocks

module _ (defs : List Def) (globals : List Ty) (constants : List Constant) (facts : Facts) where
  abbrev pub HasOne : Block → (m : ℕ) → Type 0
  HasOne b m = (q : ℕ) × (0 < machine.inside b q) × Refers facts m q

  tail_reached : (words : List Word) (asked : Option Form) (rest tail : Option ℕ) (m : ℕ) → IsName facts asked rest tail
      → 0 < value.one m tail → HasOne (block.Cell words rest) m
  tail_reached words asked rest None m e h = absurd (omega (arith, h))
  tail_reached words asked None (Some n) m e h = absurd e
  tail_reached words None (Some b) (Some n) m e h = absurd e
  tail_reached words (Some form) (Some b) (Some n) m e h =
      let f : m ≡ n = is_one m n (omega (arith, h)) in
      (b, named_by (Refer (Some b) ∷ words) 0 b refl, itself (e.fact ∙ ap (λ j. Some (Named j)) (sym f)))

  pub block_reaches : (n : ℕ) (v : HeapValue) (b : Block) (m : ℕ) → IsBlock defs globals constants facts n v b → 0 < inside v m → HasOne b m
  block_reaches n _ _ m (elements t r words vs f l few whole each only) h =
      let s = some_names vs m h in
      let x = reached defs facts words _ t s.value m (each s.number s.value s.there) s.names in
      (x.named, named_by words x.number x.named x.word, x.is)
  block_reaches n _ _ m (cell t r words v tail rest formed l whole s there only e older) h = go (value.one m tail) refl
    where
      go : (k : ℕ) → value.one m tail ≡ k → HasOne (block.Cell words rest) m
      go (suc k) f = tail_reached words (Some (Cells t)) rest tail m e (omega arith)
      go zero f =
          let x = reached defs facts words 0 t v m s (omega arith) in
          (x.named, named_by (Refer rest ∷ words) (suc x.number) x.named x.word, x.is)
  block_reaches n _ _ m (record_of a r words v f l whole s there only) h =
      let x = reached defs facts words 0 (ty.Adt a) v m s h in
      (x.named, named_by words x.number x.named x.word, x.is)
  block_reaches n _ _ m (channel t desc f) h = absurd (omega (arith, h))
  block_reaches n _ _ m (instance_of object rs words vs f l whole all there only fixed) h =
      let x = all_reached defs facts words globals_place nothing globals rs vs m all h in
      (x.named, named_by words x.number x.named x.word, x.is)
