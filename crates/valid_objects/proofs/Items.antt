-- The items of the module's data stand on words of their kinds.
use Rattle.std.proofs.Common.{◌≡◌, ℕ, zero, suc, ℤ, ◌+◌, ◌-◌, ◌*◌, ◌/◌, ◌%◌, ◌<◌, ◌≤◌, Bool, true, false, not, ◌&&◌, ◌==◌, List, [], ◌∷◌, ◌++◌}
use Rattle.std.proofs.Common.{length, Option, Some, None, refl, sym, ap, ◌∙◌, subst, arith, append_assoc, ◌⊎◌, inl, inr}
use Rattle.std.specs.Prelude.{slice_index_or, encode_utf8_all, nat_lt, nat_le}
use Rattle.std.specs.Str.{IsUtf8, is_utf8}
use Rattle.std.proofs.Math.Nat.{mod-eq_of_lt}
use Rattle.std.proofs.lemmas.Bool.{and_from, lt-ltb, le-leb, eq-eqb, cases_lt}
use Rattle.std.proofs.lemmas.List.{length-append}
use Rattle.std.proofs.lemmas.Str.{is_utf8-from_IsUtf8}
use Rattle.limbo_values.specs.declared.number.Kind.{Kind}
use Rattle.limbo_values.specs.declared.number.Kind.TheVariants as kind
use Rattle.slot_code.specs.Code.{GlobalVariable}
use Rattle.dis_file.specs.References.{marks}
use Rattle.dis_file.specs.declared.object.Item.{Item}
use Rattle.dis_file.specs.declared.types.TypeDesc.{TypeDesc}
use Rattle.dis_format.specs.declared.loading.Block.{Block}
use Rattle.dis_format.specs.declared.loading.Place.{Place}
use Rattle.dis_format.specs.Loading as loading
use Rattle.dis_format.specs.Loading.{Loading, room, is_reference, begins_reference, all_plain, item_stands, after, items_stand}
use Rattle.dis_objects.specs.Code.{Datum, Text, Word, Long, datum_bytes, data_bytes, global_bytes, globals_bytes}
use Rattle.dis_objects.specs.Objects.{map_of, data_words, global_words, globals_words, string_item, word_item, long_item, item_of, items_from}
use Rattle.dis_objects.specs.Objects.{global_items, globals_items}
use Rattle.dis_objects.specs.Spelled.{IsSpelled, AreSpelled}
use Rattle.dis_follows.proofs.Marks.{marks_is}

-- A mark behind others.
first_mark : (front : List Bool) (b : Bool) (rest : List Bool) → slice_index_or (front ++ b ∷ rest) (length front) false ≡ b
first_mark [] b rest = refl
first_mark (a ∷ front) b rest = first_mark front b rest

second_mark : (front : List Bool) (a b : Bool) (rest : List Bool) → slice_index_or (front ++ a ∷ b ∷ rest) (suc (length front)) false ≡ b
second_mark [] a b rest = refl
second_mark (x ∷ front) a b rest = second_mark front a b rest

-- Type 0 has these marks, and the module's data this size.
module _ (types : List TypeDesc) (ws : List Bool) (size : ℕ) (map_is : loading.map_of types 0 ≡ map_of ws) where
  abbrev B : Block
  B = record { number = 0; kind = 0; size = size; length = 1 }

  abbrev H : Place
  H = record { block = B; index = 0 }

  -- Where a byte is by its word.
  marked : (at k : ℕ) (b : Bool) → at < size → at / 4 ≡ k → slice_index_or ws k false ≡ b → is_reference types B at ≡ b
  marked at k b l q e =
      let some : 0 < size = omega (arith, l) in
      ap (λ x. x && marks (loading.map_of types 0) (at % size / 4)) (lt-ltb 0 size some)
      ∙ ap (λ x. marks x (at % size / 4)) map_is
      ∙ marks_is ws (at % size / 4)
      ∙ ap (λ x. slice_index_or ws (x / 4) false) (mod-eq_of_lt l)
      ∙ ap (λ x. slice_index_or ws x false) q
      ∙ e

  begins_word : (at k : ℕ) → at ≡ 4 * k → at < size → slice_index_or ws k false ≡ true → begins_reference types B at ≡ true
  begins_word at k e l m =
      let q : at / 4 ≡ k = omega (arith, e) in
      let z : at % 4 ≡ 0 = omega (arith, e) in
      and_from (is_reference types B at) (at % size % 4 == 0) (marked at k true l q m)
      (ap (λ x. x % 4 == 0) (mod-eq_of_lt l) ∙ eq-eqb (at % 4) 0 z)

  plain_run : (n at : ℕ) → ((j : ℕ) → j < n → is_reference types B (at + j) ≡ false) → all_plain types B at n ≡ true
  plain_run zero at h = refl
  plain_run (suc n) at h =
      let z : at + 0 ≡ at = omega arith in
      let first : is_reference types B at ≡ false = subst (λ k. is_reference types B k ≡ false) z (h 0 (omega arith)) in
      and_from (not (is_reference types B at)) (all_plain types B (suc at) n) (ap not first)
      (plain_run n (suc at) (λ j l.
      let s : at + suc j ≡ suc at + j = omega arith in
      subst (λ k. is_reference types B k ≡ false) s (h (suc j) (omega (arith, l)))))

  plain_word : (at k : ℕ) → at ≡ 4 * k → at + 4 ≤ size → slice_index_or ws k false ≡ false → all_plain types B at 4 ≡ true
  plain_word at k e l m =
      plain_run 4 at (λ j i. let q : (at + j) / 4 ≡ k = omega (arith, e, i) in marked (at + j) k false (omega (arith, l, i)) q m)

  plain_long : (at k : ℕ) → at ≡ 4 * k → at + 8 ≤ size → slice_index_or ws k false ≡ false → slice_index_or ws (suc k) false ≡ false
      → all_plain types B at 8 ≡ true
  plain_long at k e l m n = plain_run 8 at (λ j i. by j i (cases_lt j 4))
    where
      by : (j : ℕ) → j < 8 → (j < 4) ⊎ (4 ≤ j) → is_reference types B (at + j) ≡ false
      by j i (inl less) = let q : (at + j) / 4 ≡ k = omega (arith, e, less) in marked (at + j) k false (omega (arith, l, i)) q m
      by j i (inr more) = let q : (at + j) / 4 ≡ suc k = omega (arith, e, more, i) in marked (at + j) (suc k) false (omega (arith, l, i)) q n

  has_room : (at n : ℕ) → at + n ≤ size → nat_le (at + n) (room H) ≡ true
  has_room at n l = le-leb (at + n) (room H) (omega (arith, l))

  -- ---- an item

  text_stands : (s : Loading) (at k : ℕ) (t : List ℕ) → s.here ≡ H → at ≡ 4 * k → at + 4 ≤ size → slice_index_or ws k false ≡ true
      → IsUtf8 (encode_utf8_all t) → item_stands types s (string_item at t) ≡ true
  unfolding item_stands
  text_stands s at k t h e l m u =
      let n = length (encode_utf8_all t) in
      and_from (nat_le (at + 4) (room s.here) && begins_reference types s.here.block at) (n == n && is_utf8 (encode_utf8_all t))
      (subst (λ (p : Place). (nat_le (at + 4) (room p) && begins_reference types p.block at) ≡ true) (sym h)
      (and_from (nat_le (at + 4) (room H)) (begins_reference types B at) (has_room at 4 l) (begins_word at k e (omega (arith, l)) m)))
      (and_from (n == n) (is_utf8 (encode_utf8_all t)) (eq-eqb n n refl) (is_utf8-from_IsUtf8 (encode_utf8_all t) u))

  word_stands : (s : Loading) (at k : ℕ) (z : ℤ) → s.here ≡ H → at ≡ 4 * k → at + 4 ≤ size → slice_index_or ws k false ≡ false
      → item_stands types s (word_item at z) ≡ true
  unfolding item_stands
  word_stands s at k z h e l m =
      and_from (nat_le (at + 4) (room s.here) && all_plain types s.here.block at 4) (4 == 4 && true)
      (subst (λ (p : Place). (nat_le (at + 4) (room p) && all_plain types p.block at 4) ≡ true) (sym h)
      (and_from (nat_le (at + 4) (room H)) (all_plain types B at 4) (has_room at 4 l) (plain_word at k e l m))) refl

  long_stands : (s : Loading) (at k : ℕ) (z : ℤ) → s.here ≡ H → at ≡ 4 * k → at + 8 ≤ size → slice_index_or ws k false ≡ false
      → slice_index_or ws (suc k) false ≡ false → item_stands types s (long_item at z) ≡ true
  unfolding item_stands
  long_stands s at k z h e l m n =
      and_from (nat_le (at + 8) (room s.here) && all_plain types s.here.block at 8) (8 == 8 && true)
      (subst (λ (p : Place). (nat_le (at + 8) (room p) && all_plain types p.block at 8) ≡ true) (sym h)
      (and_from (nat_le (at + 8) (room H)) (all_plain types B at 8) (has_room at 8 l) (plain_long at k e l m n))) refl

  -- ---- all of them, from wherever the data are filled

  abbrev pub Stand : List Item → Type 0
  Stand is = (s : Loading) → s.here ≡ H → s.back ≡ [] → items_stand types s is ≡ true

  pub none_stand : Stand []
  none_stand s h k = ap loading.is_none k

  text_then : (at k : ℕ) (t : List ℕ) (is : List Item) → at ≡ 4 * k → at + 4 ≤ size → slice_index_or ws k false ≡ true
      → IsUtf8 (encode_utf8_all t) → Stand is → Stand (string_item at t ∷ is)
  unfolding after
  text_then at k t is e l m u r s h b =
      and_from (item_stands types s (string_item at t)) (items_stand types (after types s (string_item at t)) is)
      (text_stands s at k t h e l m u) (r (after types s (string_item at t)) h b)

  word_then : (at k : ℕ) (z : ℤ) (is : List Item) → at ≡ 4 * k → at + 4 ≤ size → slice_index_or ws k false ≡ false → Stand is
      → Stand (word_item at z ∷ is)
  unfolding after
  word_then at k z is e l m r s h b =
      and_from (item_stands types s (word_item at z)) (items_stand types (after types s (word_item at z)) is)
      (word_stands s at k z h e l m) (r (after types s (word_item at z)) h b)

  long_then : (at k : ℕ) (z : ℤ) (is : List Item) → at ≡ 4 * k → at + 8 ≤ size → slice_index_or ws k false ≡ false
      → slice_index_or ws (suc k) false ≡ false → Stand is → Stand (long_item at z ∷ is)
  unfolding after
  long_then at k z is e l m n r s h b =
      and_from (item_stands types s (long_item at z)) (items_stand types (after types s (long_item at z)) is)
      (long_stands s at k z h e l m n) (r (after types s (long_item at z)) h b)

  -- The first item is a text at 0.
  pub text_first : (t : List ℕ) (is : List Item) → 4 ≤ size → slice_index_or ws 0 false ≡ true → IsUtf8 (encode_utf8_all t) → Stand is
      → Stand (string_item 0 t ∷ is)
  text_first t is l m u r = text_then 0 0 t is refl l m u r

  one_longer : (front : List Bool) (b : Bool) → length (front ++ b ∷ []) ≡ suc (length front)
  one_longer front b = let a = length-append front (b ∷ []) in omega (arith, a)

  two_longer : (front : List Bool) (a b : Bool) → length (front ++ a ∷ b ∷ []) ≡ suc (suc (length front))
  two_longer front a b = let l = length-append front (a ∷ b ∷ []) in omega (arith, l)

  at_mark : (front : List Bool) (b : Bool) (rest : List Bool) → ws ≡ front ++ b ∷ rest → slice_index_or ws (length front) false ≡ b
  at_mark front b rest e = ap (λ x. slice_index_or x (length front) false) e ∙ first_mark front b rest

  at_next : (front : List Bool) (a b : Bool) (rest : List Bool) → ws ≡ front ++ a ∷ b ∷ rest
      → slice_index_or ws (suc (length front)) false ≡ b
  at_next front a b rest e = ap (λ x. slice_index_or x (suc (length front)) false) e ∙ second_mark front a b rest

  pub data_stand : (front : List Bool) (at : ℕ) (ds : List Datum) → ws ≡ front ++ data_words ds → at ≡ 4 * length front
      → at + data_bytes ds ≤ size → AreSpelled (items_from at ds) → Stand (items_from at ds)
  data_stand front at [] e a l u = none_stand
  data_stand front at (Text t ∷ ds) e a l u =
      let n = one_longer front true in
      text_then at (length front) t (items_from (at + 4) ds) a (omega (arith, l)) (at_mark front true (data_words ds) e) (u.0 refl)
      (data_stand (front ++ true ∷ []) (at + 4) ds (e ∙ sym (append_assoc front (true ∷ []) (data_words ds))) (omega (arith, a, n))
      (omega (arith, l)) u.1)
  data_stand front at (Word z ∷ ds) e a l u =
      let n = one_longer front false in
      word_then at (length front) z (items_from (at + 4) ds) a (omega (arith, l)) (at_mark front false (data_words ds) e)
      (data_stand (front ++ false ∷ []) (at + 4) ds (e ∙ sym (append_assoc front (false ∷ []) (data_words ds))) (omega (arith, a, n))
      (omega (arith, l)) u.1)
  data_stand front at (Long z ∷ ds) e a l u =
      let n = two_longer front false false in
      long_then at (length front) z (items_from (at + 8) ds) a (omega (arith, l)) (at_mark front false (false ∷ data_words ds) e)
      (at_next front false false (data_words ds) e)
      (data_stand (front ++ false ∷ false ∷ []) (at + 8) ds (e ∙ sym (append_assoc front (false ∷ false ∷ []) (data_words ds)))
      (omega (arith, a, n)) (omega (arith, l)) u.1)

  -- What stands behind the variables.
  abbrev pub Behind : List Bool → (at : ℕ) → List Item → Type 0
  Behind rest at is = (front : List Bool) → ws ≡ front ++ rest → at ≡ 4 * length front → Stand is

  -- Variables behind some marks, and what stands behind them.
  abbrev pub Variables : List GlobalVariable → List Bool → List Item → Type 0
  Variables gs rest is =
      (front : List Bool) (at : ℕ) → ws ≡ front ++ (globals_words gs ++ rest) → at ≡ 4 * length front → at + globals_bytes gs ≤ size
      → Behind rest (at + globals_bytes gs) is → Stand (globals_items at gs ++ is)

  one_stands : (k : Option Kind) (z : ℤ) (gs : List GlobalVariable) (rest : List Bool) (is : List Item) → Variables gs rest is
      → Variables ((record { kind = k; initial = z }) ∷ gs) rest is
  one_stands None z gs rest is more front at e a l b =
      let n = one_longer front true in
      more (front ++ true ∷ []) (at + 4) (e ∙ sym (append_assoc front (true ∷ []) (globals_words gs ++ rest))) (omega (arith, a, n))
      (omega (arith, l)) (λ fs q x. b fs q (omega (arith, x)))
  one_stands (Some kind.Byte) z gs rest is more front at e a l b =
      let n = one_longer front false in
      word_then at (length front) z (globals_items (at + 4) gs ++ is) a (omega (arith, l)) (at_mark front false (globals_words gs ++ rest) e)
      (more (front ++ false ∷ []) (at + 4) (e ∙ sym (append_assoc front (false ∷ []) (globals_words gs ++ rest))) (omega (arith, a, n))
      (omega (arith, l)) (λ fs q x. b fs q (omega (arith, x))))
  one_stands (Some kind.Int) z gs rest is more front at e a l b =
      let n = one_longer front false in
      word_then at (length front) z (globals_items (at + 4) gs ++ is) a (omega (arith, l)) (at_mark front false (globals_words gs ++ rest) e)
      (more (front ++ false ∷ []) (at + 4) (e ∙ sym (append_assoc front (false ∷ []) (globals_words gs ++ rest))) (omega (arith, a, n))
      (omega (arith, l)) (λ fs q x. b fs q (omega (arith, x))))
  one_stands (Some kind.Big) z gs rest is more front at e a l b =
      let n = two_longer front false false in
      long_then at (length front) z (globals_items (at + 8) gs ++ is) a (omega (arith, l))
      (at_mark front false (false ∷ (globals_words gs ++ rest)) e) (at_next front false false (globals_words gs ++ rest) e)
      (more (front ++ false ∷ false ∷ []) (at + 8) (e ∙ sym (append_assoc front (false ∷ false ∷ []) (globals_words gs ++ rest)))
      (omega (arith, a, n)) (omega (arith, l)) (λ fs q x. b fs q (omega (arith, x))))

  pub globals_stand : (gs : List GlobalVariable) (rest : List Bool) (is : List Item) → Variables gs rest is
  globals_stand [] rest is front at e a l b = b front e (omega (arith, a))
  globals_stand (g ∷ gs) rest is front at e a l b = one_stands g.kind g.initial gs rest is (globals_stand gs rest is) front at e a l b
