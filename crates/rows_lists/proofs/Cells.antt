-- Words of one item, as a cell has them.
use Rattle.std.proofs.Common.{◌≡◌, ℕ, ℤ, zero, suc, pos, ◌<◌, ◌≤◌, List, [], ◌∷◌, Option, Some, refl, sym, subst, arith, inl}
use Rattle.std.specs.Prelude.{slice_get, unsigned_abs}
use Rattle.std.proofs.lemmas.Int.{ints}
use Rattle.limbo_types.specs.Types as ty
use Rattle.limbo_types.specs.Types.{Ty}
use Rattle.limbo_layout.specs.Adts.{Def}
use Rattle.limbo_layout.specs.Layout.{Room, Laid, is_alone, alone, number, reference}
use Rattle.limbo_values.specs.declared.number.Kind.{Kind}
use Rattle.limbo_values.specs.declared.number.Kind.TheVariants as kind
use Rattle.limbo_values.specs.Numbers.{InRange}
use Rattle.limbo_typed.specs.Typed as typed
use Rattle.limbo_typed.specs.Fitting.{of_kind}
use Rattle.limbo_meaning.specs.Memory as source
use Rattle.limbo_meaning.specs.Values.{Value, Num}
use Rattle.dis_meaning.specs.Words.{Word, Plain, Refer, Found, Access}
use Rattle.dis_meaning.specs.Numbers.{number_at, with_byte}
use Rattle.dis_memory.specs.Blocks as block
use Rattle.value_words.specs.Contents.{AreInRange}
use Rattle.value_words.specs.Forms.{Cells}
use Rattle.value_words.specs.Facts.{Facts, Grows, IsName}
use Rattle.value_words.specs.Stands.{Stands, a_number}
use Rattle.value_words.proofs.Later.{stands_later, name_later}
use Rattle.value_frames.specs.Frames.{AsReference, form_of}
use Rattle.value_heaps.specs.Blocks as blocks
use Rattle.value_heaps.specs.Blocks.{AreWhole, ReferOnlyThere, IsWithin}
use Rattle.value_moves.proofs.Changing.{words_change}
use Rattle.value_follows.specs.Sides.{contents}
use Rattle.block_effects.specs.Lists.{number_words}

-- These words are those of a cell with this item.
pub record CellOf (defs : List Def) (k : Facts) (t : Ty) (v : Value) (words : List Word) : Type 0 where
  pub room : Room
  pub laid : Laid defs t room
  pub whole : AreWhole words 0 room.size
  pub stands : Stands defs k words 0 t v
  pub only : ReferOnlyThere words 0 room
  pub within : (w b : ℕ) → slice_get words w ≡ Some (Refer (Some b)) → IsWithin 0 room.size w

module _ (defs : List Def) (k : Facts) where
  pub cell_later : (now : Facts) → Grows k now → (t : Ty) (v : Value) (words : List Word) → CellOf defs k t v words → CellOf defs now t v words
  cell_later now grows t v words c = record {
    room = c.room;
    laid = c.laid;
    whole = c.whole;
    stands = stands_later defs k now words grows 0 t v c.stands;
    only = c.only;
    within = c.within;
  }

  -- ---- a number

  no_word : (y : ℤ) (w : ℕ) (r : Option ℕ) → slice_get (Plain y ∷ []) w ≡ Some (Refer r) → ⊥
  no_word y zero r e = cc
  no_word y (suc w) r e = cc

  plain_cell : (t : Ty) (size : ℕ) → size ≤ 4 → Laid defs t (number size) → (y : ℤ) → AreInRange (Plain y ∷ []) → (v : Value)
      → Stands defs k (Plain y ∷ []) 0 t v → CellOf defs k t v (Plain y ∷ [])
  plain_cell t size few laid y ranged v stands = record {
    room = number size;
    laid = laid;
    whole = (λ w h. let low = h.1 in omega (arith, low, few), ranged);
    stands = stands;
    only = λ w r e h. absurd (no_word y w r e);
    within = λ w b e. absurd (no_word y w (Some b) e);
  }

  zero_ranged : AreInRange (Plain (pos 0) ∷ [])
  zero_ranged zero z e =
      let f : pos 0 ≡ z = cc in
      subst (InRange kind.Int) f (record { above = omega (arith, ints); below = omega (arith, ints) })
  zero_ranged (suc n) z e = absurd cc

  stored_words : (ws vs : List Word) → ◌≡◌ {A = Access (List Word)} (Found ws) (Found vs) → ws ≡ vs
  stored_words ws vs e = cc

  pub number_cell : (j : Kind) → (j ≡ kind.Big → ⊥) → (z : ℤ) → InRange j z → CellOf defs k (of_kind j) (Num z) (number_words j z)
  number_cell kind.Byte small z range =
      let n = words_change.number kind.Byte (Plain (pos 0) ∷ []) 0 (pos 0) z refl in
      let same : number_words kind.Byte z ≡ n.others = stored_words (number_words kind.Byte z) n.others n.found in
      plain_cell ty.Byte 1 (omega arith) (is_alone ty.Byte (number 1) refl) (with_byte (pos 0) 0 (unsigned_abs z))
      (subst AreInRange (sym same) (n.ranged range zero_ranged)) (Num z)
      (a_number 0 kind.Byte z (subst (λ (ws : List Word). number_at kind.Byte ws (pos 0) ≡ Found z) (sym same) (n.there range)) range)
  number_cell kind.Int small z range =
      let n = words_change.number kind.Int (Plain (pos 0) ∷ []) 0 (pos 0) z refl in
      let same : number_words kind.Int z ≡ n.others = stored_words (number_words kind.Int z) n.others n.found in
      plain_cell ty.Int 4 (omega arith) (is_alone ty.Int (number 4) refl) z
      (subst AreInRange (sym same) (n.ranged range zero_ranged)) (Num z)
      (a_number 0 kind.Int z (subst (λ (ws : List Word). number_at kind.Int ws (pos 0) ≡ Found z) (sym same) (n.there range)) range)
  number_cell kind.Big small z range = absurd (small refl)

  -- ---- a reference

  reference_room : (t : Ty) → form_of t ≡ AsReference → alone t ≡ Some reference
  reference_room ty.Chars e = refl
  reference_room ty.Nil e = refl
  reference_room (ty.ArrayOf t) e = refl
  reference_room (ty.ListOf t) e = refl
  reference_room (ty.ChanOf t) e = refl
  reference_room (ty.RefAdt n) e = refl
  reference_room (ty.RefPick n j) e = refl
  reference_room (ty.Module n) e = refl
  reference_room t e = absurd cc

  pub reference_cell : (t : Ty) → form_of t ≡ AsReference → (r : Option ℕ) (v : Value) → Stands defs k (Refer r ∷ []) 0 t v
      → CellOf defs k t v (Refer r ∷ [])
  reference_cell t form r v stands = record {
    room = reference;
    laid = is_alone t reference (reference_room t form);
    whole = (λ w h. let low = h.1 in omega (arith, low), plain_none);
    stands = stands;
    only = first_only;
    within = first_within;
  }
    where
      plain_none : AreInRange (Refer r ∷ [])
      plain_none zero z e = absurd cc
      plain_none (suc n) z e = absurd cc

      first_only : ReferOnlyThere (Refer r ∷ []) 0 reference
      first_only zero to e h = (0, inl refl, omega arith)
      first_only (suc w) to e h = absurd cc

      first_within : (w b : ℕ) → slice_get (Refer r ∷ []) w ≡ Some (Refer (Some b)) → IsWithin 0 4 w
      first_within zero b e = (omega arith, omega arith)
      first_within (suc w) b e = absurd cc

-- ---- a block of a cell

-- It stands for a cell, once it is known of which form it is.
pub cell_stands : (m : typed.Module) (k now : Facts) → Grows k now → (n : ℕ) (t : Ty) (v : Value) (words : List Word) → CellOf m.adts k t v words
    → (rest behind : Option ℕ) → IsName k (Some (Cells t)) rest behind
    → ((c : ℕ) → rest ≡ Some c → c < n) → now.form n ≡ Some (Cells t)
    → (contents m).stands now n (source.Cell v behind) (block.Cell words rest)
cell_stands m k now grows n t v words c rest behind named older formed =
    let later = cell_later m.adts k now grows t v words c in (
      blocks.cell t later.room words v behind rest formed later.laid later.whole later.stands later.only later.within
          (name_later m.adts k now words grows (Some (Cells t)) rest behind named) older,
      tt,
    )
