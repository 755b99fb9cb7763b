-- The words of a cell whose item has a record of its own: those of the record, or the two halves of a big.
use Rattle.std.proofs.Common.{◌≡◌, ℕ, ℤ, zero, suc, pos, ◌+◌, ◌*◌, ◌/◌, Bool, true, false, List, [], ◌∷◌, length, Option, Some, None, refl, sym, ap, ◌∙◌, subst, arith, inl, inr, if◌then◌else◌}
use Rattle.std.specs.Prelude.{slice_get}
use Rattle.std.proofs.lemmas.Int.{ints}
use Rattle.heap_model.specs.Facts.{IsInner, Inner}
use Rattle.limbo_types.specs.Types as ty
use Rattle.limbo_types.specs.Types.{Ty}
use Rattle.limbo_layout.specs.Adts.{Def}
use Rattle.limbo_layout.specs.Layout.{Laid, is_alone, number, is_in}
use Rattle.limbo_values.specs.declared.number.Kind.TheVariants as kind
use Rattle.limbo_values.specs.Numbers.{InRange}
use Rattle.limbo_meaning.specs.Values.{Value, Num, references}
use Rattle.dis_file.specs.References as file
use Rattle.dis_file.specs.declared.types.TypeDesc.{TypeDesc}
use Rattle.dis_meaning.specs.Words.{Word, Plain, Refer, Access, Found, blank, blanks}
use Rattle.dis_meaning.specs.Numbers.{number_at}
use Rattle.dis_memory.specs.Copies.{as_marked, moved, typed_words}
use Rattle.dis_memory.specs.Lists.{plain_type}
use Rattle.value_words.specs.Contents.{AreInRange}
use Rattle.value_words.specs.Facts.{Facts, IsNamed}
use Rattle.value_words.specs.Stands.{a_number}
use Rattle.value_words.proofs.Blank.{laid_within}
use Rattle.value_words.proofs.Bytes.{word_there}
use Rattle.value_words.proofs.Covered.{IsCovered, covered}
use Rattle.value_heaps.proofs.Made.{blanks_in_range}
use Rattle.value_heaps.proofs.Marks.{whole_words}
use Rattle.value_frames.specs.Frames.{box_bytes, room_for}
use Rattle.value_frames.specs.Types.{desc, AreOf}
use Rattle.value_moves.specs.Operands.{has_references}
use Rattle.value_moves.proofs.Changing.{words_change}
use Rattle.value_moves.proofs.Copying.{typed_taken}
use Rattle.value_moves.proofs.Marked.{some_there, none_there, kind_of, marks_of}
use Rattle.value_moves.proofs.Referring.{refers}
use Rattle.block_effects.specs.Lists.{number_words}
use Rattle.block_effects.proofs.Copying.{none_marked}
use Rattle.rows_boxes.proofs.Puts.{size_put}
use Rattle.rows_dropping.proofs.Boxes.{Boxes, room_in, lies_in, moved_boxes}
use Rattle.rows_lists.proofs.Cells.{CellOf}

-- ---- a big

zeros_ranged : AreInRange (Plain (pos 0) ∷ Plain (pos 0) ∷ [])
zeros_ranged zero z e =
    let f : pos 0 ≡ z = cc in
    subst (InRange kind.Int) f (record { above = omega (arith, ints); below = omega (arith, ints) })
zeros_ranged (suc zero) z e =
    let f : pos 0 ≡ z = cc in
    subst (InRange kind.Int) f (record { above = omega (arith, ints); below = omega (arith, ints) })
zeros_ranged (suc (suc n)) z e = absurd cc

stored_words : (ws vs : List Word) → ◌≡◌ {A = Access (List Word)} (Found ws) (Found vs) → ws ≡ vs
stored_words ws vs e = cc

pub no_reference : (z : ℤ) (w : ℕ) (r : Option ℕ) → slice_get (number_words kind.Big z) w ≡ Some (Refer r) → ⊥
no_reference z zero r e = cc
no_reference z (suc zero) r e = cc
no_reference z (suc (suc w)) r e = cc

pub big_cell : (defs : List Def) (k : Facts) (z : ℤ) → InRange kind.Big z → CellOf defs k ty.Big (Num z) (number_words kind.Big z)
big_cell defs k z range =
    let n = words_change.number kind.Big (Plain (pos 0) ∷ Plain (pos 0) ∷ []) 0 _ z refl in
    let same : number_words kind.Big z ≡ n.others = stored_words (number_words kind.Big z) n.others n.found in
    record {
      room = number 8;
      laid = is_alone ty.Big (number 8) refl;
      whole = (λ w h. let low = h.1 in omega (arith, low), subst AreInRange (sym same) (n.ranged range zeros_ranged));
      stands = a_number 0 kind.Big z (subst (λ (ws : List Word). number_at kind.Big ws (pos 0) ≡ Found z) (sym same) (n.there range)) range;
      only = λ w r e h. absurd (no_reference z w r e);
      within = λ w b e. absurd (no_reference z w (Some b) e);
    }

-- ---- a value of parts

same_words : (vs ws : List Word) → length vs ≡ length ws → ((j : ℕ) (v : Word) → slice_get vs j ≡ Some v → slice_get ws j ≡ Some v) → vs ≡ ws
same_words [] [] e each = refl
same_words [] (w ∷ ws) e each = absurd (omega (arith, e))
same_words (v ∷ vs) [] e each = absurd (omega (arith, e))
same_words (v ∷ vs) (w ∷ ws) e each =
    let rest = same_words vs ws (omega (arith, e)) (λ j u h. each (suc j) u h) in
    let first : Some w ≡ Some v = each 0 v refl in
    let head : v ≡ w = cc in
    ap (λ (u : Word). u ∷ vs) head ∙ ap (λ (us : List Word). w ∷ us) rest

not_inner : (k : Facts) (n m : ℕ) → IsNamed k (Some n) (Some m) → Inner k n → ⊥
not_inner k n m (inl e) h = subst IsInner e h
not_inner k n m (inr e) h = subst IsInner e.1.1 h

covered_outer : (k : Facts) (ns : List (Option ℕ)) (n : ℕ) → IsCovered k ns n → Inner k n → ⊥
covered_outer k ns n (inl c) h = not_inner k n c.0 c.2 h
covered_outer k ns n (inr c) h = subst IsInner c.1.0 h

module _ (defs : List Def) (t : Ty) (laid : Laid defs t (room_for defs t)) (k : Facts) (v : Value) where
  module _ (ws : List Word) (b : Boxes defs t k ws v) where
    -- the words of a record for a value are those of a cell with it
    pub box_cell : CellOf defs k t v ws
    box_cell =
        let lies = lies_in defs t laid k ws v b in
        record {
          room = room_for defs t;
          laid = laid;
          whole = lies.whole;
          stands = b.1;
          only = lies.only;
          within = λ w c e.
              let l = laid_within defs t (room_for defs t) laid (4 * w) (b.0.only w (Some c) e) in
              (omega arith, omega (arith, l));
        }

    -- what they refer to is no inner block
    pub box_outer : (u c : ℕ) → slice_get ws u ≡ Some (Refer (Some c)) → Inner k c → ⊥
    box_outer u c e =
        let at : (0 + 4 * u) / 4 ≡ u = omega arith in
        covered_outer k (references v) c
        (covered defs k ws 0 t (room_for defs t) v (4 * u) c laid b.1 (b.0.only u (Some c) e)
        (word_there ws (0 + 4 * u) (Refer (Some c)) (omega arith) (ap (slice_get ws) at ∙ e)))

    -- where some refer, they are taken by their type as they are
    pub typed_element : has_references defs t ≡ true → typed_words (desc (room_for defs t).size (room_for defs t).references) ws 0 ≡ Found ws
    typed_element h =
        let r = room_for defs t in
        let c = some_there r.references h in
        let whole = whole_words defs t r c.0 laid c.1 in
        let long : r.size ≡ 4 * (r.size / 4) = omega (arith, whole) in
        let lies = lies_in defs t laid k ws v b in
        let type = desc r.size r.references in
        let taken = typed_taken type ws (r.size / 4) 0 0 (λ j l.
        let g = kind_of ws 0 r lies.whole lies.only (λ o has. refers defs k ws 0 t r v o laid b.1 has) refl j (omega (arith, l, long))
        (is_in (4 * j) r.references) refl in
        let same : 0 + j ≡ j = omega arith in
        let marked = ap (λ (y : ℕ). file.marks type.map y) same ∙ marks_of r.size r.references j (omega (arith, l, long)) in
        (g.0, g.1, ap (λ (y : Bool). as_marked y g.0) marked ∙ g.2)) in
        let many = b.0.many in
        let taken_long = taken.2.long in
        let is : taken.0 ≡ ws = same_words taken.0 ws (omega (arith, many, taken_long, whole))
        (λ j u e. let same : 0 + j ≡ j = omega arith in ap (slice_get ws) (sym same) ∙ taken.2.each j u e) in
        subst (λ (us : List Word). typed_words type ws 0 ≡ Found us) is taken.1

  -- ---- where none refers, they are moved as so many bytes

  length_blanks : (d : TypeDesc) (from count : ℕ) → length (blanks d from count) ≡ count
  length_blanks d from zero = refl
  length_blanks d from (suc n) = ap suc (length_blanks d (suc from) n)

  no_blank : (size from n j : ℕ) (r : Option ℕ) → slice_get (blanks (plain_type size) from n) j ≡ Some (Refer r) → ⊥
  no_blank size from zero j r e = cc
  no_blank size from (suc n) zero r e =
      let f : Some (Plain (pos 0)) ≡ Some (Refer r) = ap (λ (c : Bool). Some (if c then Refer None else Plain (pos 0))) (sym (none_marked from)) ∙ e in cc
  no_blank size from (suc n) (suc j) r e = no_blank size (suc from) n j r e

  pub plain_element : has_references defs t ≡ false → (ws : List Word) → Boxes defs t k ws v
      → (element : List Word) × (moved ws 0 (blank (plain_type (room_for defs t).size)) 0 (room_for defs t).size ≡ Found element) × Boxes defs t k element v
  plain_element h ws b =
      let r = room_for defs t in
      let none = none_there r.references h in
      let target = blank (plain_type r.size) in
      let kind : AreOf (box_bytes defs t) r.references target =
      record {
        many = (let long = length_blanks (plain_type r.size) 0 ((plain_type r.size).size / 4) in omega (arith, long));
        ranged = λ w z e. blanks_in_range (plain_type r.size) 0 ((plain_type r.size).size / 4) w z e;
        refer = λ o has. absurd (none o has);
        only = λ w o e. absurd (no_blank r.size 0 ((plain_type r.size).size / 4) w o e);
      } in
      let put = size_put defs k t r v ws target 0 0 (lies_in defs t laid k ws v b) (room_in defs t laid target kind) none in
      (put.0, put.1, moved_boxes defs t laid k ws target put.0 v b kind put.2)
