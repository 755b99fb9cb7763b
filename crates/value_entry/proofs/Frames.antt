-- The first frame stands for that of three-address code, with the list of words in its second parameter.
use Rattle.std.proofs.Common.{◌≡◌, ℕ, zero, suc, pos, ◌+◌, ◌/◌, ◌≤◌, Bool, true, false, List, [], ◌∷◌, length, map, replicate, Option, None, Some, inl, inr, refl, sym, ap, ◌∙◌, subst, arith, if◌then◌else◌}
use Rattle.std.specs.Prelude.{slice_get, slice_set}
use Rattle.std.specs.Int.{next_multiple_of}
use Rattle.std.specs.List.{range_with_len}
use Rattle.std.proofs.lemmas.List.{length-replicate}
use Rattle.limbo_types.specs.Types as ty
use Rattle.limbo_types.specs.Types.{Ty, Nothing}
use Rattle.limbo_layout.specs.Adts.{Def}
use Rattle.limbo_layout.specs.Layout.{Room, behind, nothing, reference, AllLaid}
use Rattle.limbo_layout.specs.Laying.{rooms_of}
use Rattle.limbo_layout.proofs.Rooms.{has_right}
use Rattle.limbo_meaning.specs.Values.{Value, Ref, all_fitted, zero_of}
use Rattle.core_code.specs.Rooms.{rooms_in}
use Rattle.core_code.specs.Slots as core
use Rattle.core_typing.specs.Held as held
use Rattle.dis_file.specs.References.{marks}
use Rattle.dis_file.specs.declared.types.TypeDesc.{TypeDesc}
use Rattle.dis_meaning.specs.Words.{Word, Plain, Refer, Found, Wrong, ◌>>=◌, or_wrong, type_check, fits, word_at, blank, blanks}
use Rattle.dis_memory.specs.Blocks.{World}
use Rattle.value_words.specs.Forms.{Cells}
use Rattle.value_words.specs.Facts.{Facts, IsFormed}
use Rattle.value_words.specs.Contents.{one_name}
use Rattle.value_words.specs.Stands.{Stands, AllStand, a_name, none_stand, more_stand}
use Rattle.value_words.proofs.Aligned.{inside, ends_within}
use Rattle.value_words.proofs.Bytes.{word_there, word_found}
use Rattle.value_words.proofs.Kept.{kept}
use Rattle.value_words.proofs.Named.{names_there}
use Rattle.value_words.proofs.Rows.{set_other, set_same}
use Rattle.value_frames.specs.Frames.{linkage_bytes, spare_place, reference_place, frame_bytes, frame_references, row_of}
use Rattle.value_frames.specs.Slots.{ElseAsWas}
use Rattle.value_frames.specs.Standing.{WordsAre}
use Rattle.value_frames.specs.Types.{desc, AreOf}
use Rattle.value_frames.proofs.Beginning.{frames_begin}
use Rattle.value_frames.proofs.Replacing.{kinds_stay}
use Rattle.value_frames.proofs.Slots.{slots_change}
use Rattle.value_moves.proofs.Changing.{low_or_high}
use Rattle.value_follows.proofs.Putting.{word_same}
use Rattle.value_entry.specs.Opening.{with_words}

-- ---- blank words refer to nothing

none_of : (b : Bool) (r : Option ℕ) → Some (if b then Refer None else Plain (pos 0)) ≡ Some (Refer r) → r ≡ None
none_of true r e = cc
none_of false r e = absurd cc

pub blank_refers : (desc : TypeDesc) (from count k : ℕ) (r : Option ℕ) → slice_get (blanks desc from count) k ≡ Some (Refer r) → r ≡ None
blank_refers desc from zero k r e = absurd cc
blank_refers desc from (suc n) zero r e = none_of (marks desc.map from) r e
blank_refers desc from (suc n) (suc k) r e = blank_refers desc (suc from) n k r e

zeros_fitted : (defs : List Def) (types : List Ty) → all_fitted defs types [] ≡ map (λ t. zero_of defs t) types
zeros_fitted defs [] = refl
zeros_fitted defs (t ∷ ts) = ap (λ (vs : List Value). zero_of defs t ∷ vs) (zeros_fitted defs ts)

-- ---- values in a row, where one word is another

module _ (defs : List Def) (k : Facts) (words : List Word) where
  pub record FirstStands (at : ℕ) (w : Room) (t : Ty) (ts : List Ty) (r : Room) (rs : List Room) (v : Value) (vs : List Value) : Type 0 where
    pub first : Stands defs k words (at + next_multiple_of w.size r.align) t v
    pub rest : AllStand defs k words at (behind w r) ts rs vs

  first_of : (at : ℕ) (w : Room) (us : List Ty) (ss : List Room) (xs : List Value) → AllStand defs k words at w us ss xs
      → (t : Ty) (ts : List Ty) (r : Room) (rs : List Room) (v : Value) (vs : List Value) → us ≡ t ∷ ts → ss ≡ r ∷ rs → xs ≡ v ∷ vs
      → FirstStands at w t ts r rs v vs
  first_of _ _ _ _ _ (none_stand at w) t ts r rs v vs e f g = absurd cc
  first_of _ _ _ _ _ (more_stand at w u us s ss x xs h more) t ts r rs v vs e f g =
      let a : u ≡ t = cc in
      let b : us ≡ ts = cc in
      let c : s ≡ r = cc in
      let d : ss ≡ rs = cc in
      let i : x ≡ v = cc in
      let j : xs ≡ vs = cc in
      let it : FirstStands at w u us s ss x xs = record { first = h; rest = more } in
      subst (λ (z : Ty). FirstStands at w z ts r rs v vs) a
      (subst (λ (z : List Ty). FirstStands at w u z r rs v vs) b
      (subst (λ (z : Room). FirstStands at w u us z rs v vs) c
      (subst (λ (z : List Room). FirstStands at w u us s z v vs) d
      (subst (λ (z : Value). FirstStands at w u us s ss z vs) i
      (subst (λ (z : List Value). FirstStands at w u us s ss x z) j it)))))

  -- the second of two parameters
  list_was : (adt : ℕ) (more : List Ty) (rs : List Room) (zeros : List Value)
      → AllStand defs k words 32 nothing (ty.RefAdt adt ∷ ty.ListOf ty.Chars ∷ more) (reference ∷ reference ∷ rs) (Ref None ∷ Ref None ∷ zeros)
      → Stands defs k words 36 (ty.ListOf ty.Chars) (Ref None)
  list_was adt more rs zeros all =
      let one = first_of 32 nothing _ _ _ all (ty.RefAdt adt) (ty.ListOf ty.Chars ∷ more) reference (reference ∷ rs) (Ref None) (Ref None ∷ zeros)
      refl refl refl in
      (first_of 32 (behind nothing reference) _ _ _ one.rest (ty.ListOf ty.Chars) more reference rs (Ref None) zeros refl refl refl).first

  module _ (others : List Word) (apart : (w : ℕ) → (w ≡ 9 → ⊥) → slice_get others w ≡ slice_get words w) where
    rest_stand : (at : ℕ) (w : Room) (ts : List Ty) (rs : List Room) (vs : List Value) → 40 ≤ at + w.size → AllLaid defs ts rs
        → AllStand defs k words at w ts rs vs → AllStand defs k others at w ts rs vs
    rest_stand _ _ _ _ _ l laid (none_stand at w) = none_stand at w
    rest_stand _ _ _ _ _ l laid (more_stand at w t ts r rs v vs s more) =
        let i = inside defs t ts r rs laid in
        more_stand at w t ts r rs v vs
        (kept words others defs k (at + next_multiple_of w.size r.align) t r v i.0
        (λ o small. apart ((at + next_multiple_of w.size r.align + o) / 4) (λ e. absurd (omega (arith, e, l)))) s)
        (rest_stand at (behind w r) ts rs vs (omega (arith, l)) i.1 more)

    -- the two parameters, of which the second is another, and zeros
    module _ (adt : ℕ) (more : List Ty) (rs : List Room) (zeros : List Value) (new : Option ℕ)
        (laid : AllLaid defs (ty.RefAdt adt ∷ ty.ListOf ty.Chars ∷ more) (reference ∷ reference ∷ rs))
        (all : AllStand defs k words 32 nothing (ty.RefAdt adt ∷ ty.ListOf ty.Chars ∷ more) (reference ∷ reference ∷ rs) (Ref None ∷ Ref None ∷ zeros))
        (here : Stands defs k others 36 (ty.ListOf ty.Chars) (Ref new)) where
      one : FirstStands 32 nothing (ty.RefAdt adt) (ty.ListOf ty.Chars ∷ more) reference (reference ∷ rs) (Ref None) (Ref None ∷ zeros)
      one = first_of 32 nothing _ _ _ all (ty.RefAdt adt) (ty.ListOf ty.Chars ∷ more) reference (reference ∷ rs) (Ref None) (Ref None ∷ zeros) refl refl refl

      two : FirstStands 32 (behind nothing reference) (ty.ListOf ty.Chars) more reference rs (Ref None) zeros
      two = first_of 32 (behind nothing reference) _ _ _ one.rest (ty.ListOf ty.Chars) more reference rs (Ref None) zeros refl refl refl

      pub with_list : AllStand defs k others 32 nothing (ty.RefAdt adt ∷ ty.ListOf ty.Chars ∷ more) (reference ∷ reference ∷ rs) (Ref None ∷ Ref new ∷ zeros)
      with_list =
          let i = inside defs (ty.RefAdt adt) (ty.ListOf ty.Chars ∷ more) reference (reference ∷ rs) laid in
          let j = inside defs (ty.ListOf ty.Chars) more reference rs i.1 in
          more_stand 32 nothing (ty.RefAdt adt) (ty.ListOf ty.Chars ∷ more) reference (reference ∷ rs) (Ref None) (Ref new ∷ zeros)
          (kept words others defs k 32 (ty.RefAdt adt) reference (Ref None) i.0 (λ o small. apart ((32 + o) / 4) (λ e. absurd (omega (arith, e, small)))) one.first)
          (more_stand 32 (behind nothing reference) (ty.ListOf ty.Chars) more reference rs (Ref new) zeros here
          (rest_stand 32 (behind (behind nothing reference) reference) more rs zeros (omega arith) j.1 two.rest))

-- ---- the frame's words

module _ (defs : List Def) (adt : ℕ) (more ts : List Ty) (same : ts ≡ ty.RefAdt adt ∷ ty.ListOf ty.Chars ∷ more) (slots : ℕ)
    (laid : AllLaid defs ts (rooms_of (rooms_in defs) ts)) (k : Facts) (x : World) where
  abbrev zero_types : List Ty → List Value
  zero_types us = map (λ t. zero_of defs t) us

  abbrev first_desc : TypeDesc
  first_desc = desc (frame_bytes defs ts slots) (frame_references defs ts slots)

  abbrev pub fresh_words : List Word
  fresh_words = blank first_desc

  abbrev pub Are : Option ℕ → List Word → Type 0
  Are new words =
      (are : WordsAre defs k x.heap 0 [] ts (replicate slots held.empty) (all_fitted defs ts (Ref None ∷ Ref new ∷ [])) (replicate slots core.empty) words)
      × ((s : ℕ) → are.own s ≡ [])

  variables_so : (new : Option ℕ) → all_fitted defs ts (Ref None ∷ Ref new ∷ []) ≡ Ref None ∷ Ref new ∷ zero_types more
  variables_so new =
      ap (λ (us : List Ty). all_fitted defs us (Ref None ∷ Ref new ∷ [])) same ∙ ap (λ (vs : List Value). Ref None ∷ Ref new ∷ vs) (zeros_fitted defs more)

  pub fresh_are : Are None fresh_words
  fresh_are =
      subst (λ (vs : List Value). (are : WordsAre defs k x.heap 0 [] ts (replicate slots held.empty) vs (replicate slots core.empty) fresh_words)
      × ((s : ℕ) → are.own s ≡ [])) (ap zero_types same ∙ sym (variables_so None)) (frames_begin.begins defs k x.heap 0 ts slots laid)

  -- its spare word refers to nothing
  pub fresh_spare : word_at fresh_words (pos (spare_place defs ts)) ≡ Found (Refer None)
  fresh_spare =
      let long : length (replicate slots core.empty) ≡ slots = length-replicate slots core.empty in
      let kind = subst (λ (l : ℕ). AreOf (frame_bytes defs ts l) (frame_references defs ts l) fresh_words) long fresh_are.0.kind in
      let it = kind.refer (spare_place defs ts)
      (has_right (map (λ o. linkage_bytes + o) (row_of defs ts).references)
      (spare_place defs ts ∷ map (λ s. reference_place defs ts s) (range_with_len 0 slots)) (spare_place defs ts) (inl refl)) in
      let none = blank_refers first_desc 0 _ (spare_place defs ts / 4) it.0 it.1 in
      word_there fresh_words (spare_place defs ts) (Refer None) (omega arith) (it.1 ∙ ap (λ (r : Option ℕ). Some (Refer r)) none)

  -- nothing refers
  pub fresh_none : (w b : ℕ) → slice_get fresh_words w ≡ Some (Refer (Some b)) → ⊥
  fresh_none w b e = let none = blank_refers first_desc 0 _ w (Some b) e in cc

  -- the parameters take eight bytes at least
  wide : 8 ≤ (row_of defs ts).size
  wide =
      subst (λ (us : List Ty). 8 ≤ (row_of defs us).size) (sym same)
      (let e = ends_within (behind nothing reference) reference (rooms_of (rooms_in defs) more) in omega (arith, e))

  -- ---- with a list

  all_stand : AllStand defs k fresh_words 32 nothing (ty.RefAdt adt ∷ ty.ListOf ty.Chars ∷ more) (reference ∷ reference ∷ rooms_of (rooms_in defs) more)
      (Ref None ∷ Ref None ∷ zero_types more)
  all_stand =
      subst (λ (us : List Ty). AllStand defs k fresh_words 32 nothing us (rooms_of (rooms_in defs) us) (zero_types us)) same
      (frames_begin.begins defs k x.heap 0 ts slots laid).0.values

  list_word : (r : Option ℕ) × (slice_get fresh_words 9 ≡ Some (Refer r))
  list_word =
      let stood = list_was defs k fresh_words adt more (rooms_of (rooms_in defs) more) (zero_types more) all_stand in
      let named = names_there defs k fresh_words 36 (ty.ListOf ty.Chars) (Ref None) (0 ∷ []) 0 0 stood (one_name (ty.ListOf ty.Chars) tt) refl in
      (named.block, (word_found fresh_words 36 (Refer named.block) named.word).1)

  module _ (r : ℕ) (formed : IsFormed k (Cells ty.Chars) r 1) where
    abbrev pub list_words : List Word
    list_words = slice_set fresh_words 9 (Refer (Some r))

    pub list_stored : with_words fresh_words (Some r) ≡ Found list_words
    list_stored =
        ap (λ (o : Option Word). or_wrong type_check o >>= λ old. if fits old (Refer (Some r)) then Found list_words else Wrong type_check) list_word.1

    list_there : slice_get list_words 9 ≡ Some (Refer (Some r))
    list_there = set_same fresh_words 9 (Refer (Some r)) (Refer list_word.0) list_word.1

    list_kind : AreOf (frame_bytes defs ts (length (replicate slots core.empty))) (frame_references defs ts (length (replicate slots core.empty))) list_words
    list_kind =
        kinds_stay.set (frame_bytes defs ts (length (replicate slots core.empty))) (frame_references defs ts (length (replicate slots core.empty)))
        fresh_words 9 (Refer list_word.0) (Refer (Some r)) fresh_are.0.kind list_word.1 (inl ((list_word.0, refl), (Some r, refl)))

    list_stand : AllStand defs k list_words linkage_bytes nothing ts (rooms_of (rooms_in defs) ts) (all_fitted defs ts (Ref None ∷ Ref (Some 1) ∷ []))
    list_stand =
        let here : Stands defs k list_words 36 (ty.ListOf ty.Chars) (Ref (Some 1)) =
        a_name 36 (ty.ListOf ty.Chars) (Some r) (Some 1) tt (word_there list_words 36 (Refer (Some r)) refl list_there) formed in
        let all = with_list defs k fresh_words list_words (λ w ne. set_other fresh_words 9 w (Refer (Some r)) ne) adt more (rooms_of (rooms_in defs) more)
        (zero_types more) (Some 1) (subst (λ (us : List Ty). AllLaid defs us (rooms_of (rooms_in defs) us)) same laid) all_stand here in
        subst (λ (vs : List Value). AllStand defs k list_words linkage_bytes nothing ts (rooms_of (rooms_in defs) ts) vs) (sym (variables_so (Some 1)))
        (subst (λ (us : List Ty). AllStand defs k list_words linkage_bytes nothing us (rooms_of (rooms_in defs) us) (Ref None ∷ Ref (Some 1) ∷ zero_types more))
        (sym same) all)

    list_else : ElseAsWas fresh_words list_words linkage_bytes (row_of defs ts).size
    list_else = record {
      each = λ w out. set_other fresh_words 9 w (Refer (Some r)) (λ e. let big = wide in out (omega (arith, e), omega (arith, e, big)));
    }

    pub list_are : Are (Some 1) list_words
    list_are =
        let after = slots_change.variables defs k x.heap 0 [] ts (replicate slots held.empty) (all_fitted defs ts (Ref None ∷ Ref None ∷ []))
        (all_fitted defs ts (Ref None ∷ Ref (Some 1) ∷ [])) (replicate slots core.empty) fresh_words list_words fresh_are.0 list_else list_kind list_stand in
        (after.0, λ s. ap (λ (o : ℕ → List ℕ). o s) after.1 ∙ fresh_are.1 s)

    pub list_spare : word_at list_words (pos (spare_place defs ts)) ≡ Found (Refer None)
    list_spare =
        let big = wide in
        word_same fresh_words list_words (spare_place defs ts)
        (set_other fresh_words 9 (spare_place defs ts / 4) (Refer (Some r)) (λ e. absurd (omega (arith, e, big)))) ∙ fresh_spare

    -- nothing else refers
    pub list_only : (w b : ℕ) → slice_get list_words w ≡ Some (Refer (Some b)) → r ≡ b
    list_only w b e = elim (low_or_high w 9) [
      | inl low ↦ absurd (fresh_none w b (sym (set_other fresh_words 9 w (Refer (Some r)) (λ f. absurd (omega (arith, low, f)))) ∙ e))
      | inr high ↦ elim (low_or_high 9 w) [
        | inl more ↦ absurd (fresh_none w b (sym (set_other fresh_words 9 w (Refer (Some r)) (λ f. absurd (omega (arith, more, f)))) ∙ e))
        | inr less ↦
            let it : w ≡ 9 = omega (arith, high, less) in
            let there : Some (Refer (Some r)) ≡ Some (Refer (Some b)) = sym list_there ∙ ap (slice_get list_words) (sym it) ∙ e in
            cc
      ]
    ]
