-- All items of a module's object are put, and its instance stands for that of the module.
use Rattle.std.proofs.Common.{◌≡◌, ℕ, zero, suc, ◌+◌, ◌*◌, ◌<◌, ◌≤◌, ◌⊎◌, ◌%◌, inl, inr, List, [], ◌∷◌, ◌++◌, map, take}
use Rattle.std.proofs.Common.{length, Bool, true, false, Some, None, refl, sym, ap, ◌∙◌, subst, arith, codes, append_assoc}
use Rattle.std.specs.Prelude.{slice_get, encode_utf8_all, chars, ◌&&◌}
use Rattle.std.specs.Str.{IsUtf8}
use Rattle.std.proofs.lemmas.Str.{chars_from_encodes, scalars-chars}
use Rattle.std.proofs.Math.Utf8.{scalar_cases}
use lib.Utf8.{scalar, scalars}
use Rattle.limbo_values.specs.Texts.{longest}
use Rattle.limbo_kept.specs.Values.{AreCharacters}
use Rattle.std.specs.Int.{next_multiple_of}
use Rattle.heap_model.specs.Facts.{Chars}
use Rattle.limbo_types.specs.Types as ty
use Rattle.limbo_types.specs.Types.{Ty}
use Rattle.limbo_layout.specs.Adts.{Def, Has}
use Rattle.limbo_layout.specs.Layout.{Room, AllLaid, is_alone, reference, is_in, nothing, behind, all_behind}
use Rattle.limbo_layout.specs.Laying.{rooms_of}
use Rattle.limbo_layout.proofs.Rooms.{has_left, has_right, has_cases}
use Rattle.limbo_typed.specs.Typed as typed
use Rattle.limbo_typed.specs.Sound.{Each, SoundInitial}
use Rattle.limbo_typed.specs.declared.module.Initial.{Initial}
use Rattle.limbo_typed.specs.declared.stmt.Constant.{Constant}
use Rattle.limbo_typed.specs.declared.stmt.Constant.TheVariants as constant
use Rattle.limbo_meaning.specs.Memory as source
use Rattle.limbo_meaning.specs.Program.{initial_of, initials_from, globals_of}
use Rattle.limbo_meaning.specs.Values as value
use Rattle.limbo_meaning.specs.Values.{Value, Ref, zero_of, fitted}
use Rattle.core_code.specs.Rooms.{rooms_in}
use Rattle.dis_file.specs.declared.object.Item.{Item}
use Rattle.dis_meaning.specs.Words as words
use Rattle.dis_meaning.specs.Words.{Refer, Found, blank, word_at}
use Rattle.dis_memory.specs.Blocks as block
use Rattle.dis_objects.specs.Objects.{string_item}
use Rattle.dis_objects.specs.Spelled.{AreSpelled}
use Rattle.dis_counts.specs.Opening.{loading, with_items, instance_of}
use Rattle.value_words.specs.Forms.{Instances}
use Rattle.value_words.specs.Facts.{Facts, IsString}
use Rattle.value_words.specs.Stands.{Stands, AllStand, a_name, none_stand, more_stand}
use Rattle.value_words.proofs.Blank.{has_map, mapped, all_within, laid_within, stands_zero}
use Rattle.value_words.proofs.Bytes.{word_there}
use Rattle.value_words.proofs.Rows.{below}
use Rattle.value_heaps.specs.Blocks as heaps
use Rattle.value_heaps.specs.Blocks.{IsBlock, HasConstant, globals_place}
use Rattle.value_heaps.proofs.Marks.{all_even}
use Rattle.value_heaps.proofs.Made.{word_by}
use Rattle.value_frames.specs.Frames.{room_for, row_of, within_row}
use Rattle.value_frames.specs.Types.{AreOf}
use Rattle.value_frames.proofs.Beginning.{frames_begin}
use Rattle.value_code.specs.Objects.{globals, constants, end_of, data_references, data_place, data_size, all_data_of}
use Rattle.value_code.specs.Objects.{object_of, initial_items, globals_items, items_from}
use Rattle.value_opening.specs.Puts.{Put, OfText, OfNumber, item_of, text_of, texts_of, Takes, TakesAll}
use Rattle.value_opening.specs.Putting.{IsPut, ArePut, AllApart, state}
use Rattle.value_opening.specs.Opening.{initial_put, type_of, globals_puts, puts_from, data_puts, data_texts, data_offsets, data_type}
use Rattle.value_opening.specs.Opening.{Suits, AreOnce, outer}
use Rattle.value_opening.specs.Laws.{ItemsPut}
use Rattle.value_opening.proofs.Putting.{puts_change}
use Rattle.value_opening.proofs.Regions.{HasTexts, texts_first, texts_rest, kind_after, words_apart, stands_apart, named_after, first_put}
use Rattle.value_opening.proofs.Regions.{in_two, text_stands}
use Rattle.value_opening.proofs.Globals.{laid_at, references_there}
use Rattle.value_opening.proofs.Data.{AreNew, word_is, blank_there, constant_there, references_lie, puts_behind, end_grows, data_items}
use Rattle.value_opening.proofs.Data.{data_take, data_stand}
use Rattle.value_opening.proofs.Suiting.{data_suit}
use Rattle.value_opening.proofs.Variables.{globals_laid, spot, globals_apart, initial_takes, variable_stands, about_spot, spot_ends}
use Rattle.value_opening.proofs.Variables.{spot_aligned, types_at, put_is}

map_both : {A B : Type 0} (f : A → B) (xs ys : List A) → map f (xs ++ ys) ≡ map f xs ++ map f ys
map_both f [] ys = refl
map_both f (x ∷ xs) ys = ap (λ l. f x ∷ l) (map_both f xs ys)

spelled_first : (a b : List Item) → AreSpelled (a ++ b) → AreSpelled a
spelled_first [] b h = tt
spelled_first (i ∷ a) b h = (h.0, spelled_first a b h.1)

spelled_rest : (a b : List Item) → AreSpelled (a ++ b) → AreSpelled b
spelled_rest [] b h = h
spelled_rest (i ∷ a) b h = spelled_rest a b h.1

all_apart : (at long : ℕ) (a b : List Put) → AllApart at long a → AllApart at long b → AllApart at long (a ++ b)
all_apart at long [] b g h = h
all_apart at long (p ∷ a) b g h = (g.0, all_apart at long a b g.1 h)

texts_both : (a b : List Put) → texts_of (a ++ b) ≡ texts_of a ++ texts_of b
texts_both [] b = refl
texts_both (p ∷ a) b =
    ap (λ ts. text_of p ++ ts) (texts_both a b) ∙ sym (append_assoc (text_of p) (texts_of a) (texts_of b))

takes_all : (size : ℕ) (offsets : List ℕ) (a b : List Put) → TakesAll size offsets a → TakesAll size offsets b
    → TakesAll size offsets (a ++ b)
takes_all size offsets [] b g h = h
takes_all size offsets (p ∷ a) b g h = (g.0, takes_all size offsets a b g.1 h)

module _ (m : typed.Module) (laid : AllLaid m.adts (globals m) (rooms_of (rooms_in m.adts) (globals m)))
    (suit : Each (Suits m) (all_data_of m)) where
  abbrev defs : List Def
  defs = m.adts

  abbrev types : List Ty
  types = globals m

  abbrev rooms : List Room
  rooms = rooms_of (rooms_in defs) types

  abbrev row : Room
  row = row_of defs types

  abbrev size : ℕ
  size = data_size m

  abbrev offsets : List ℕ
  offsets = data_offsets m

  abbrev of_row : List ℕ
  of_row = map (λ o. globals_place + o) row.references

  abbrev of_data : List ℕ
  of_data = data_references m (data_place m) (all_data_of m)

  abbrev made : List words.Word
  made = blank (data_type m)

  -- ---- where the references lie

  whole : size % 4 ≡ 0
  whole = omega arith

  place_even : data_place m % 8 ≡ 0
  place_even = omega arith

  data_ends : end_of m (data_place m) (all_data_of m) ≤ size
  data_ends = omega arith

  data_behind : data_place m ≤ size
  data_behind = let a = end_grows m (all_data_of m) (data_place m) in omega (arith, a)

  row_ends : globals_place + row.size ≤ data_place m
  row_ends = omega arith

  row_even : (p : ℕ) → Has row.references p → p % 4 ≡ 0
  row_even p h = (all_even defs nothing types rooms (λ q i. absurd i) laid p h).0

  row_within : (p : ℕ) → Has row.references p → p + 4 ≤ row.size
  row_within p h = all_within defs nothing types rooms (λ q i. absurd i) laid p h

  data_lie : (q : ℕ) → Has of_data q → (data_place m ≤ q) × (q % 4 ≡ 0) × (q + 4 ≤ end_of m (data_place m) (all_data_of m))
  data_lie = references_lie m (all_data_of m) (data_place m) place_even suit

  data IsOffset (q : ℕ) : Type 0 where
    the_path : 0 ≡ q → IsOffset q
    the_nil : 4 ≡ q → IsOffset q
    in_row : (o : ℕ) → Has row.references o → globals_place + o ≡ q → IsOffset q
    in_data : Has of_data q → IsOffset q

  offset_is : (q : ℕ) → Has offsets q → IsOffset q
  offset_is q (inl e) = the_path e
  offset_is q (inr (inl e)) = the_nil e
  offset_is q (inr (inr h)) = elim (has_cases of_row of_data q h) [
    | inl i ↦ let o = mapped (λ o. globals_place + o) row.references q i in in_row o.0 o.1 o.2
    | inr i ↦ in_data i
  ]

  row_all : (q : ℕ) → Has row.references q → Has offsets (globals_place + q)
  row_all q h = inr (inr (has_left of_row of_data (globals_place + q) (has_map (λ o. globals_place + o) row.references q h)))

  row_only : (q : ℕ) → Has offsets q → globals_place ≤ q → q < globals_place + row.size
      → (o : ℕ) × Has row.references o × (globals_place + o ≡ q)
  row_only q h a l = go (offset_is q h)
    where
      go : IsOffset q → (o : ℕ) × Has row.references o × (globals_place + o ≡ q)
      go (the_path e) = absurd (omega (arith, e, a))
      go (the_nil e) = absurd (omega (arith, e, a))
      go (in_row o i e) = (o, i, e)
      go (in_data i) = absurd (let b = (data_lie q i).0 in let c = row_ends in omega (arith, b, c, l))

  data_all : (q : ℕ) → Has of_data q → Has offsets q
  data_all q h = inr (inr (has_right of_row of_data q h))

  data_only : (q : ℕ) → Has offsets q → data_place m ≤ q → Has of_data q
  data_only q h a = go (offset_is q h)
    where
      go : IsOffset q → Has of_data q
      go (the_path e) = absurd (omega (arith, e, a))
      go (the_nil e) = absurd (omega (arith, e, a))
      go (in_row o i e) = absurd (let l = row_within o i in let c = row_ends in omega (arith, e, a, l, c))
      go (in_data i) = i

  first_only : (q : ℕ) → Has offsets q → 0 ≤ q → q < 0 + 4 → (o : ℕ) × Has reference.references o × (0 + o ≡ q)
  first_only q h a l = go (offset_is q h)
    where
      go : IsOffset q → (o : ℕ) × Has reference.references o × (0 + o ≡ q)
      go (the_path e) = (0, inl refl, e)
      go (the_nil e) = absurd (omega (arith, e, l))
      go (in_row o i e) = absurd (omega (arith, e, l))
      go (in_data i) = absurd (let b = (data_lie q i).0 in omega (arith, b, l))

  second_only : (q : ℕ) → Has offsets q → 4 ≤ q → q < 4 + 4 → (o : ℕ) × Has reference.references o × (4 + o ≡ q)
  second_only q h a l = go (offset_is q h)
    where
      go : IsOffset q → (o : ℕ) × Has reference.references o × (4 + o ≡ q)
      go (the_path e) = absurd (omega (arith, e, a))
      go (the_nil e) = (0, inl refl, e)
      go (in_row o i e) = absurd (omega (arith, e, l))
      go (in_data i) = absurd (let b = (data_lie q i).0 in omega (arith, b, l))

  offsets_lie : (q : ℕ) → Has offsets q → (q % 4 ≡ 0) × (q < size)
  offsets_lie q h = go (offset_is q h)
    where
      go : IsOffset q → (q % 4 ≡ 0) × (q < size)
      go (the_path e) = let b = data_behind in (omega (arith, e), omega (arith, e, b))
      go (the_nil e) = let b = data_behind in (omega (arith, e), omega (arith, e, b))
      go (in_row o i e) =
          let a = row_even o i in
          let l = row_within o i in
          let b = data_behind in
          let c = row_ends in
          (omega (arith, a, e), omega (arith, e, l, b, c))
      go (in_data i) =
          let r = data_lie q i in
          let l = r.2 in
          let b = data_ends in
          (r.1, omega (arith, l, b))

  kind : AreOf size offsets made
  kind = frames_begin.kind size offsets whole offsets_lie

  -- ---- the items are those of what is put

  initial_item : (t : Ty) (at : ℕ) (c : Constant) → initial_items m t at c ≡ item_of (initial_put m t at c) ∷ []
  initial_item ty.Byte at (constant.Number z) = refl
  initial_item ty.Big at (constant.Number z) = refl
  initial_item t at (constant.Number z) = refl
  initial_item t at (constant.Chars cs) = refl

  globals_same : (is : List Initial) → globals_items m is ≡ map item_of (globals_puts m is)
  globals_same [] = refl
  globals_same (i ∷ is) =
      ap (λ l. l ++ globals_items m is)
      (initial_item (type_of m i.global) (globals_place + within_row defs types i.global) i.value)
      ∙ ap (λ l. item_of (initial_put m (type_of m i.global) (globals_place + within_row defs types i.global) i.value) ∷ l)
      (globals_same is)

  items_same : (object_of m).items ≡ map item_of (data_puts m)
  items_same =
      ap (λ l. string_item 0 (codes "$Sys") ∷ (l ++ items_from m (data_place m) (all_data_of m))) (globals_same m.initials)
      ∙ ap (λ l. string_item 0 (codes "$Sys") ∷ (map item_of (globals_puts m m.initials) ++ l)) (data_items m (all_data_of m) (data_place m))
      ∙ ap (λ l. string_item 0 (codes "$Sys") ∷ l)
      (sym (map_both item_of (globals_puts m m.initials) (puts_from m (data_place m) (all_data_of m))))

  module _ (sound : Each (SoundInitial m) m.initials) (once : AreOnce m.initials) (spelled : AreSpelled (object_of m).items) where
    abbrev of_globals : List Put
    of_globals = globals_puts m m.initials

    abbrev of_code : List Put
    of_code = puts_from m (data_place m) (all_data_of m)

    -- ---- the data take all that is put

    globals_take : (is : List Initial) → Each (SoundInitial m) is → AreSpelled (globals_items m is)
        → TakesAll size offsets (globals_puts m is)
    globals_take [] s h = tt
    globals_take (i ∷ is) s h =
        let t = (s.0).0 in
        let v = (s.0).1 in
        let e : slice_get types i.global ≡ Some t = types_at m.globals i.global v.0 v.1 ∙ ap Some v.2 in
        let item = initial_items m (type_of m i.global) (globals_place + within_row defs types i.global) i.value in
        let put = initial_put m (type_of m i.global) (globals_place + within_row defs types i.global) i.value in
        let one : AreSpelled (item_of put ∷ []) =
        subst AreSpelled (initial_item (type_of m i.global) (globals_place + within_row defs types i.global) i.value)
        (spelled_first item (globals_items m is) h) in (
          subst (λ (p : Put). Takes size offsets p) (sym (put_is m laid i.global t i.value e))
              (initial_takes m laid size offsets whole (let a = data_behind in let b = row_ends in omega (arith, a, b)) row_all row_only
              i.global t i.value e (s.0).2 (λ at cs f.
              let g : put ≡ OfText at cs = put_is m laid i.global t i.value e ∙ f in
              let o = subst (λ (p : Put). AreSpelled (item_of p ∷ [])) g one in o.0 refl)),
          globals_take is s.1 (spelled_rest item (globals_items m is) h),
        )

    all_take : TakesAll size offsets (data_puts m)
    all_take = (
      (refl, inl refl, spelled.0 refl),
      takes_all size offsets of_globals of_code
          (globals_take m.initials sound (spelled_first (globals_items m m.initials) (items_from m (data_place m) (all_data_of m)) spelled.1))
          (data_take m size offsets whole (all_data_of m) (data_place m) place_even suit data_only data_all data_ends
          (spelled_rest (globals_items m m.initials) (items_from m (data_place m) (all_data_of m)) spelled.1)),
    )

    -- ---- so they are put

    put : (others : List words.Word) × ArePut size offsets made others 0 (data_puts m)
        × (with_items (object_of m) (state outer made []) (map item_of (data_puts m)) ≡ Found (state outer others (data_texts m)))
    put = puts_change.many (object_of m) outer size offsets made [] (data_puts m) kind all_take

    items_found : with_items (object_of m) (loading (instance_of (data_type m)) (record { serial = 0; from = 0 }) []) (object_of m).items
        ≡ Found (state outer (put.0) (data_texts m))
    items_found = ap (λ is. with_items (object_of m) (state outer made []) is) items_same ∙ put.2

    -- ---- what stands in the data then

    module _ (k : Facts) (texts : HasTexts k 0 (data_texts m)) where
      abbrev path : Put
      path = OfText 0 (codes "$Sys")

      behind_path : (between : List words.Word) × IsPut size offsets made between 0 path
          × ArePut size offsets between (put.0) 1 (of_globals ++ of_code)
      behind_path = first_put size offsets made (put.0) 0 (data_puts m) (put.1) path (of_globals ++ of_code) refl

      abbrev first : List words.Word
      first = behind_path.0

      two : Rattle.value_opening.proofs.Regions.InTwo size offsets first (put.0) 1 of_globals of_code
      two = in_two size offsets of_globals of_code first (put.0) 1 behind_path.2

      abbrev second : List words.Word
      second = two.between

      kind_first : AreOf size offsets first
      kind_first = (behind_path.1).kind

      kind_second : AreOf size offsets second
      kind_second = kind_after size offsets first second 1 of_globals two.first kind_first

      kind_last : AreOf size offsets (put.0)
      kind_last = kind_after size offsets second (put.0) (1 + length (texts_of of_globals)) of_code two.second kind_second

      new_first : AreNew size offsets whole first globals_place
      new_first w l = ((behind_path.1).changes).words w (inr (omega (arith, l)))

      new_second : AreNew size offsets whole second (data_place m)
      new_second w l =
          let a = row_ends in
          words_apart size offsets first second 1 of_globals two.first w
          (globals_apart m laid (4 * w) 4 (inr (omega (arith, a, l))) m.initials sound)
          ∙ new_first w (omega (arith, a, l))

      texts_behind : HasTexts k 1 (texts_of of_globals ++ texts_of of_code)
      texts_behind = subst (λ (ts : List (List ℕ)). HasTexts k 1 ts) (texts_both of_globals of_code)
          (texts_rest k 0 (codes "$Sys" ∷ []) (texts_of (of_globals ++ of_code)) texts)

      texts_globals : HasTexts k 1 (texts_of of_globals)
      texts_globals = texts_first k 1 (texts_of of_globals) (texts_of of_code) texts_behind

      texts_code : HasTexts k (1 + length (texts_of of_globals)) (texts_of of_code)
      texts_code = texts_rest k 1 (texts_of of_globals) (texts_of of_code) texts_behind

      -- the variables

      variable_zero : (x : ℕ) (t : Ty) → slice_get types x ≡ Some t → Stands defs k first (spot m laid x t) t (zero_of defs t)
      variable_zero x t e =
          let r = room_for defs t in
          let l = laid_at defs (rooms_in defs) types x t laid e in
          let off = next_multiple_of (row_of defs (take x types)).size r.align in
          let g = spot_ends m laid x t e in
          let a = data_behind in
          let b = row_ends in
          stands_zero defs k first kind_first.ranged (spot m laid x t) t r l (spot_aligned m laid x t e)
          (blank_there size offsets whole first globals_place (spot m laid x t) r refl (omega arith) (omega (arith, g, a, b)) new_first
          (λ o h.
          let q = references_there defs (rooms_in defs) nothing types x t o e h in
          let c = row_even (off + o) q in (
            subst (λ (n : ℕ). Has offsets n)
                (let f : globals_place + (off + o) ≡ globals_place + off + o = omega arith in f) (row_all (off + o) q),
            omega (arith, c),
            laid_within defs t r l o h,
          ))
          (λ w h i j. about_spot m laid size offsets whole (omega (arith, a, b)) row_all row_only x t w e h i j))

      variable_last : (x : ℕ) (t : Ty) → slice_get types x ≡ Some t
          → Stands defs k (put.0) (spot m laid x t) t (fitted defs t (initial_of x m.initials))
      variable_last x t e =
          let a = data_behind in
          let b = row_ends in
          let g = spot_ends m laid x t e in
          let v = fitted defs t (initial_of x m.initials) in
          stands_apart size offsets defs k second (put.0) (1 + length (texts_of of_globals)) of_code two.second kind_second
          (spot m laid x t) t (room_for defs t) v (laid_at defs (rooms_in defs) types x t laid e) (spot_aligned m laid x t e)
          (puts_behind m (all_data_of m) (spot m laid x t) (room_for defs t).size (data_place m) (omega (arith, g, b)))
          (variable_stands m laid size offsets whole (omega (arith, a, b)) row_all row_only k m.initials sound once first second 1
          two.first kind_first texts_globals x t e (variable_zero x t e))

      in_a_row : (vs : List typed.Var) (n : ℕ) (w : Room)
          → ((j : ℕ) (v : typed.Var) → slice_get vs j ≡ Some v → Stands defs k (put.0)
          (globals_place + next_multiple_of (all_behind w (rooms_of (rooms_in defs) (take j (map (λ (v : typed.Var). v.ty) vs)))).size
          (room_for defs v.ty).align) v.ty (fitted defs v.ty (initial_of (n + j) m.initials)))
          → AllStand defs k (put.0) globals_place w (map (λ (v : typed.Var). v.ty) vs)
          (rooms_of (rooms_in defs) (map (λ (v : typed.Var). v.ty) vs)) (initials_from defs n vs m.initials)
      in_a_row [] n w h = none_stand globals_place w
      in_a_row (v ∷ vs) n w h =
          let r = room_for defs v.ty in
          let us = map (λ (v : typed.Var). v.ty) vs in
          more_stand globals_place w v.ty us r (rooms_of (rooms_in defs) us) (fitted defs v.ty (initial_of n m.initials))
          (initials_from defs (suc n) vs m.initials)
          (subst (λ (i : ℕ). Stands defs k (put.0) (globals_place + next_multiple_of w.size r.align) v.ty
          (fitted defs v.ty (initial_of i m.initials))) (let e : n + 0 ≡ n = omega arith in e) (h 0 v refl))
          (in_a_row vs (suc n) (behind w r) (λ j u e. subst (λ (i : ℕ). Stands defs k (put.0)
          (globals_place + next_multiple_of (all_behind (behind w r) (rooms_of (rooms_in defs) (take j us))).size
          (room_for defs u.ty).align) u.ty (fitted defs u.ty (initial_of i m.initials)))
          (let e : n + suc j ≡ suc n + j = omega arith in e) (h (suc j) u e)))

      variables : AllStand defs k (put.0) globals_place nothing types rooms (globals_of m)
      variables = in_a_row m.globals 0 nothing (λ j v e.
          subst (λ (i : ℕ). Stands defs k (put.0) (spot m laid j v.ty) v.ty (fitted defs v.ty (initial_of i m.initials)))
          (let f : j ≡ 0 + j = omega arith in f) (variable_last j v.ty (types_at m.globals j v e)))

      -- what the machine has in front of them

      path_stands : Stands defs k (put.0) 0 ty.Chars (value.Chars (codes "$Sys"))
      path_stands =
          let b = row_ends in
          stands_apart size offsets defs k first (put.0) 1 (of_globals ++ of_code) behind_path.2 kind_first 0 ty.Chars reference
          (value.Chars (codes "$Sys")) (is_alone ty.Chars reference refl) refl
          (all_apart 0 4 of_globals of_code (globals_apart m laid 0 4 (inl (omega arith)) m.initials sound)
          (puts_behind m (all_data_of m) 0 4 (data_place m) (omega (arith, b))))
          (text_stands size offsets defs k made first 0 0 (codes "$Sys") behind_path.1 (texts 0 (codes "$Sys") refl))

      nil_word : slice_get (put.0) 1 ≡ Some (Refer None)
      nil_word =
          let b = row_ends in
          let a = data_behind in
          words_apart size offsets first (put.0) 1 (of_globals ++ of_code) behind_path.2 1
          (all_apart 4 4 of_globals of_code (globals_apart m laid 4 4 (inl (omega arith)) m.initials sound)
          (puts_behind m (all_data_of m) 4 4 (data_place m) (omega (arith, b))))
          ∙ ((behind_path.1).changes).words 1 (inr (omega arith))
          ∙ word_is size offsets whole 1 (omega (arith, a, b))

      nil_stands : Stands defs k (put.0) 4 ty.Nil (Ref None)
      nil_stands = a_name 4 ty.Nil None None tt (word_there (put.0) 4 (Refer None) refl nil_word) tt

      all_constants : (c : heaps.Constant) → Has (constants m) c → HasConstant defs k (put.0) c
      all_constants c (inl e) =
          let a = data_behind in
          let b = row_ends in
          subst (λ (c : heaps.Constant). HasConstant defs k (put.0) c) e
          (constant_there size offsets whole defs k (put.0) 0 ty.Chars (value.Chars (codes "$Sys")) reference kind_last
          (is_alone ty.Chars reference refl) refl (omega (arith, a, b)) first_only path_stands)
      all_constants c (inr (inl e)) =
          let a = data_behind in
          let b = row_ends in
          subst (λ (c : heaps.Constant). HasConstant defs k (put.0) c) e
          (constant_there size offsets whole defs k (put.0) 4 ty.Nil (Ref None) reference kind_last
          (is_alone ty.Nil reference refl) refl (omega (arith, a, b)) second_only nil_stands)
      all_constants c (inr (inr h)) =
          data_stand m size offsets whole k (all_data_of m) (data_place m) place_even suit data_only data_all data_ends second (put.0)
          (1 + length (texts_of of_globals)) two.second kind_second texts_code new_second c h

      -- each word that refers to something refers to a text

      made_none : (w b : ℕ) → slice_get made w ≡ Some (Refer (Some b)) → ⊥
      made_none w b e =
          let many = kind.many in
          let l = below made w (Refer (Some b)) e in
          go (is_in (4 * w) offsets) (sym (word_is size offsets whole w (omega (arith, l, many))) ∙ e)
        where
          go : (t : Bool) → Some (word_by t) ≡ Some (Refer (Some b)) → ⊥
          go true e = absurd cc
          go false e = absurd cc

      texts_only : (w b : ℕ) → slice_get (put.0) w ≡ Some (Refer (Some b)) → (t : List ℕ) × (k.fact b ≡ Some (Chars t))
      texts_only w b e = go (named_after size offsets defs k made (put.0) 0 (data_puts m) (put.1) texts w b e)
        where
          go : (slice_get made w ≡ Some (Refer (Some b))) ⊎ ((t : List ℕ) × (k.fact b ≡ Some (Chars t)))
              → (t : List ℕ) × (k.fact b ≡ Some (Chars t))
          go (inl f) = absurd (made_none w b f)
          go (inr f) = f

      instance_is : k.form 0 ≡ Some Instances
          → IsBlock defs types (constants m) k 0 (source.Instance (globals_of m)) (block.Instance 0 (put.0))
      instance_is formed =
          let many = kind_last.many in
          let a = data_behind in
          let b = row_ends in
          heaps.instance_of 0 rooms (put.0) (globals_of m) formed laid
          ((λ w i. let l = i.1 in omega (arith, many, l, a, b)), kind_last.ranged)
          variables
          (λ w to e i. row_only (4 * w) (kind_last.only w to e) i.0 i.1)
          (λ w c e. inr (texts_only w c e))
          all_constants

-- A text that is spelled in UTF-8 is of characters.
scalars_are : (s : List ℕ) → scalars s ≡ true → AreCharacters s
scalars_are [] e = tt
scalars_are (c ∷ s) e = go (λ g. scalars_are s g) (scalar c) refl (scalars s) refl e
  where
    go : (scalars s ≡ true → AreCharacters s) → (a : Bool) → scalar c ≡ a → (b : Bool) → scalars s ≡ b → (a && b) ≡ true
        → (c < 1114112) × AreCharacters s
    go more true f true g e = (elim (scalar_cases c f) [ inl l ↦ omega (arith, l) | inr h ↦ h.1 ], more g)
    go more true f false g e = absurd cc
    go more false f b g e = absurd cc

spelled_are : (s : List ℕ) → IsUtf8 (encode_utf8_all s) → AreCharacters s
spelled_are s u =
    let same : s ≡ chars (encode_utf8_all s) = chars_from_encodes s (encode_utf8_all s) u refl in
    scalars_are s (ap scalars same ∙ scalars-chars (encode_utf8_all s) u)

-- Texts that are put, and no longer than strings may be, are strings.
texts_are : (size : ℕ) (offsets : List ℕ) (ps : List Put) → TakesAll size offsets ps → Each (λ (t : List ℕ). length t ≤ longest) (texts_of ps)
    → (j : ℕ) (t : List ℕ) → slice_get (texts_of ps) j ≡ Some t → IsString t
texts_are size offsets [] takes short j t e = absurd cc
texts_are size offsets (OfText at s ∷ ps) takes short zero t e =
    let same : s ≡ t = cc in subst IsString same (spelled_are s takes.0.2, short.0)
texts_are size offsets (OfText at s ∷ ps) takes short (suc j) t e = texts_are size offsets ps takes.1 short.1 j t e
texts_are size offsets (OfNumber at k z ∷ ps) takes short j t e = texts_are size offsets ps takes.1 short j t e

pub items_put : ItemsPut
items_put m sound adts written spelled short once ints =
    let laid = globals_laid m sound adts in
    let suit = data_suit m sound adts written ints in (
      refl,
      (put m laid suit sound.initials once spelled).0,
      items_found m laid suit sound.initials once spelled,
      λ k fact form texts. instance_is m laid suit sound.initials once spelled k
          (λ j t e. (
            ap k.fact (let f : suc (0 + j) ≡ suc j = omega arith in f) ∙ texts j t e,
            texts_are (data_size m) (data_offsets m) (data_puts m) (all_take m laid suit sound.initials once spelled) short j t e,
          )) form,
    )
