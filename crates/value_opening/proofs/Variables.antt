-- The module's variables as they stand when all items are put.
use Rattle.std.proofs.Common.{◌≡◌, ℕ, zero, suc, ◌+◌, ◌*◌, ◌/◌, ◌<◌, ◌≤◌, ◌⊎◌, ◌%◌, inl, inr, List, [], ◌∷◌, map, take}
use Rattle.std.proofs.Common.{length, Bool, true, false, Some, refl, sym, ap, ◌∙◌, subst, arith, if◌then◌else◌}
use Rattle.std.specs.Prelude.{slice_get, slice_index_or, nat_eq, encode_utf8_all}
use Rattle.std.specs.Int.{next_multiple_of}
use Rattle.std.proofs.lemmas.Bool.Decides.{eqb_tells}
use Rattle.std.specs.Str.{IsUtf8}
use Rattle.limbo_types.specs.Types as ty
use Rattle.limbo_types.specs.Types.{Ty}
use Rattle.limbo_layout.specs.Adts.{Def, Has, held_in}
use Rattle.limbo_layout.specs.Layout.{Room, Laid, AllLaid, nothing}
use Rattle.limbo_layout.specs.Laying.{rooms_of}
use Rattle.limbo_layout.proofs.Rooms.{has_cases, reads_all}
use Rattle.limbo_adts.proofs.Numbers.{held_there}
use Rattle.limbo_typed.specs.Fitting.{IsConstant}
use Rattle.limbo_typed.specs.Typed as typed
use Rattle.limbo_typed.specs.Sound.{IsSound, Each, IsNamed, SoundInitial}
use Rattle.limbo_typed.specs.declared.module.Initial.{Initial}
use Rattle.limbo_typed.specs.declared.stmt.Constant.{Constant}
use Rattle.limbo_typed.specs.declared.stmt.Constant.TheVariants as constant
use Rattle.limbo_values.specs.declared.number.Kind.TheVariants as kind
use Rattle.limbo_values.proofs.Ranges.{within}
use Rattle.limbo_kept.specs.Modules.{AdtsAreLaid}
use Rattle.limbo_meaning.specs.Operations.{constant_value}
use Rattle.limbo_meaning.specs.Program.{initial_of}
use Rattle.limbo_meaning.specs.Values as value
use Rattle.limbo_meaning.specs.Values.{Value, zero_of, fitted}
use Rattle.core_code.specs.Rooms.{rooms_in}
use Rattle.core_code.proofs.Rounds.{rounds_give_rooms}
use Rattle.dis_meaning.specs.Words.{Word}
use Rattle.value_words.specs.Facts.{Facts}
use Rattle.value_words.specs.Stands.{Stands}
use Rattle.value_words.proofs.Aligned.{IsPower, laid_power}
use Rattle.value_words.proofs.Rows.{is_there}
use Rattle.value_heaps.specs.Blocks.{globals_place}
use Rattle.value_frames.specs.Frames.{room_for, row_of, within_row}
use Rattle.value_frames.specs.Types.{AreOf}
use Rattle.value_moves.proofs.Changing.{low_or_high}
use Rattle.value_code.specs.Objects.{globals}
use Rattle.value_opening.specs.Puts.{Put, OfText, place, extent, text_of, texts_of, Takes}
use Rattle.value_opening.specs.Putting.{IsPut, ArePut, none_put, more_put, IsApart, AllApart}
use Rattle.value_opening.specs.Opening.{initial_put, type_of, globals_puts, AreOnce}
use Rattle.value_opening.proofs.Regions.{HasTexts, text_here, texts_first, texts_rest, stands_apart, first_put, number_stands, text_stands}
use Rattle.value_opening.proofs.Globals.{laid_at, offset_even, offset_ends, offsets_apart, about, references_there}

-- ---- numbers that are the same, or not

same_or_not : (a b : ℕ) → ((nat_eq a b ≡ true) × (a ≡ b)) ⊎ ((nat_eq a b ≡ false) × (a ≡ b → ⊥))
same_or_not a b = eqb_tells a b

less_or_more : (a b : ℕ) → (a ≡ b → ⊥) → (a < b) ⊎ (b < a)
less_or_more a b ne = go (low_or_high a b)
  where
    go : (a < b) ⊎ (b ≤ a) → (a < b) ⊎ (b < a)
    go (inl l) = inl l
    go (inr l) = inr (omega (arith, l, ne))

-- ---- the types of variables

pub types_at : (vs : List typed.Var) (x : ℕ) (v : typed.Var) → slice_get vs x ≡ Some v
    → slice_get (map (λ (v : typed.Var). v.ty) vs) x ≡ Some v.ty
types_at [] x v e = absurd cc
types_at (w ∷ vs) zero v e = let f : w ≡ v = cc in ap (λ (u : typed.Var). Some u.ty) f
types_at (w ∷ vs) (suc x) v e = types_at vs x v e

index_is : (ts : List Ty) (x : ℕ) (t : Ty) → slice_get ts x ≡ Some t → slice_index_or ts x ty.Nothing ≡ t
index_is [] x t e = absurd cc
index_is (u ∷ ts) zero t e = cc
index_is (u ∷ ts) (suc x) t e = index_is ts x t e

held_by_all : (m : typed.Module) (vs : List typed.Var) → Each (λ (v : typed.Var). IsNamed m v.ty) vs → (n : ℕ)
    → Has (held_in (map (λ (v : typed.Var). v.ty) vs)) n → n < length m.adts
held_by_all m [] s n h = absurd h
held_by_all m (v ∷ vs) s n h =
    elim (has_cases (Rattle.limbo_layout.specs.Adts.held v.ty) (held_in (map (λ (v : typed.Var). v.ty) vs)) n h) [
      | inl i ↦ held_there m.adts (length m.interfaces) v.ty n (s.0).0 i
      | inr i ↦ held_by_all m vs s.1 n i
    ]

pub globals_laid : (m : typed.Module) → IsSound m → AdtsAreLaid m.adts
    → AllLaid m.adts (globals m) (rooms_of (rooms_in m.adts) (globals m))
globals_laid m sound laid = reads_all m.adts (rooms_in m.adts) (globals m) (λ n h.
    let d = is_there m.adts n (held_by_all m m.globals sound.globals n h) in
    let r = laid n d.0 d.1 in
    subst (λ (r : Room). Laid m.adts (ty.Adt n) r) (sym (rounds_give_rooms.rooms m.adts (ty.Adt n) r.0 r.1)) r.1)

module _ (m : typed.Module) (laid : AllLaid m.adts (globals m) (rooms_of (rooms_in m.adts) (globals m))) where
  abbrev defs : List Def
  defs = m.adts

  abbrev types : List Ty
  types = globals m

  abbrev row : Room
  row = row_of defs types

  -- Where the variable of a number lies, of this type.
  abbrev pub spot : (x : ℕ) → Ty → ℕ
  spot x t = globals_place + next_multiple_of (row_of defs (take x types)).size (room_for defs t).align

  pub put_is : (x : ℕ) (t : Ty) (c : Constant) → slice_get types x ≡ Some t
      → initial_put m (type_of m x) (globals_place + within_row defs types x) c ≡ initial_put m t (spot x t) c
  put_is x t c e =
      ap (λ (u : Ty). initial_put m u (globals_place + next_multiple_of (row_of defs (take x types)).size (room_for defs u).align) c)
      (index_is types x t e)

  put_there : (u : Ty) (at : ℕ) (c : Constant) → IsConstant u c
      → (place (initial_put m u at c) ≡ at) × (extent (initial_put m u at c) ≡ (room_for defs u).size)
  put_there ty.Byte at (constant.Number z) i = (refl, refl)
  put_there ty.Int at (constant.Number z) i = (refl, refl)
  put_there ty.Big at (constant.Number z) i = (refl, refl)
  put_there _ at (constant.Number z) i = absurd i
  put_there u at (constant.Chars cs) i =
      subst (λ (t : Ty). (place (initial_put m t at (constant.Chars cs)) ≡ at)
      × (extent (initial_put m t at (constant.Chars cs)) ≡ (room_for defs t).size)) (sym i) (refl, refl)

  pub spot_aligned : (x : ℕ) (t : Ty) → slice_get types x ≡ Some t → spot x t % (room_for defs t).align ≡ 0
  spot_aligned x t e = go (laid_power defs t (room_for defs t) (laid_at defs (rooms_in defs) types x t laid e))
      (offset_even defs (rooms_in defs) nothing types x t laid e)
    where
      off : ℕ
      off = next_multiple_of (row_of defs (take x types)).size (room_for defs t).align

      go : IsPower (room_for defs t).align → off % (room_for defs t).align ≡ 0 → (globals_place + off) % (room_for defs t).align ≡ 0
      go (inl i) h = ap (λ n. (globals_place + off) % n) i ∙ (let f : (globals_place + off) % 1 ≡ 0 = omega arith in f)
      go (inr (inl i)) h =
          let g : off % 4 ≡ 0 = sym (ap (λ n. off % n) i) ∙ h in
          ap (λ n. (globals_place + off) % n) i ∙ (let f : (globals_place + off) % 4 ≡ 0 = omega (arith, g) in f)
      go (inr (inr i)) h =
          let g : off % 8 ≡ 0 = sym (ap (λ n. off % n) i) ∙ h in
          ap (λ n. (globals_place + off) % n) i ∙ (let f : (globals_place + off) % 8 ≡ 0 = omega (arith, g) in f)

  pub spot_ends : (x : ℕ) (t : Ty) → slice_get types x ≡ Some t → spot x t + (room_for defs t).size ≤ globals_place + row.size
  spot_ends x t e = let l = offset_ends defs (rooms_in defs) nothing types x t e in omega (arith, l)

  spots_apart : (x y : ℕ) (t u : Ty) (c : Constant) → (x ≡ y → ⊥) → slice_get types x ≡ Some t → slice_get types y ≡ Some u
      → IsConstant u c → IsApart (spot x t) (room_for defs t).size (initial_put m u (spot y u) c)
  spots_apart x y t u c ne e f i = go (less_or_more x y ne)
    where
      p : (place (initial_put m u (spot y u) c) ≡ spot y u) × (extent (initial_put m u (spot y u) c) ≡ (room_for defs u).size)
      p = put_there u (spot y u) c i

      go : (x < y) ⊎ (y < x) → IsApart (spot x t) (room_for defs t).size (initial_put m u (spot y u) c)
      go (inl l) =
          let a = offsets_apart defs (rooms_in defs) nothing types x y t u l e f in
          let b = p.0 in
          inl (omega (arith, a, b))
      go (inr l) =
          let a = offsets_apart defs (rooms_in defs) nothing types y x u t l f e in
          let b = p.0 in
          let d = p.1 in
          inr (omega (arith, a, b, d))

  -- a variable's initial value lies among the variables
  put_inside : (from long : ℕ) → (from + long ≤ globals_place) ⊎ (globals_place + row.size ≤ from) → (x : ℕ) (t : Ty) (c : Constant)
      → slice_get types x ≡ Some t → IsConstant t c → IsApart from long (initial_put m t (spot x t) c)
  put_inside from long (inl l) x t c e i = let p = put_there t (spot x t) c i in let a = p.0 in inl (omega (arith, l, a))
  put_inside from long (inr l) x t c e i =
      let p = put_there t (spot x t) c i in
      let a = p.0 in
      let b = p.1 in
      let g = spot_ends x t e in
      inr (omega (arith, l, a, b, g))

  pub globals_apart : (from long : ℕ) → (from + long ≤ globals_place) ⊎ (globals_place + row.size ≤ from) → (is : List Initial)
      → Each (SoundInitial m) is → AllApart from long (globals_puts m is)
  globals_apart from long l [] s = tt
  globals_apart from long l (i ∷ is) s =
      let t = (s.0).0 in
      let v = (s.0).1 in
      let e : slice_get types i.global ≡ Some t = types_at m.globals i.global v.0 v.1 ∙ ap Some v.2 in (
        subst (λ (p : Put). IsApart from long p) (sym (put_is i.global t i.value e)) (put_inside from long l i.global t i.value e (s.0).2),
        globals_apart from long l is s.1,
      )

  -- ---- what is put for a variable

  module _ (size : ℕ) (offsets : List ℕ) (whole : size % 4 ≡ 0) (ends : globals_place + row.size ≤ size)
      (all : (q : ℕ) → Has row.references q → Has offsets (globals_place + q))
      (only : (q : ℕ) → Has offsets q → globals_place ≤ q → q < globals_place + row.size
      → (o : ℕ) × Has row.references o × (globals_place + o ≡ q)) where
    -- a word that refers and has a byte of the variable is one of its references
    pub about_spot : (x : ℕ) (t : Ty) (w : ℕ) → slice_get types x ≡ Some t → Has offsets (4 * w)
        → 4 * w < spot x t + (room_for defs t).size → spot x t < 4 * w + 4
        → (o : ℕ) × Has (room_for defs t).references o × (spot x t + o ≡ 4 * w)
    about_spot x t w e h l g = first (low_or_high (4 * w) globals_place)
      where
        off : ℕ
        off = next_multiple_of (row_of defs (take x types)).size (room_for defs t).align

        second : (p : ℕ) → globals_place + p ≡ 4 * w
            → (p + 4 ≤ off) ⊎ ((off + (room_for defs t).size ≤ p) ⊎ ((o : ℕ) × Has (room_for defs t).references o × (off + o ≡ p)))
            → (o : ℕ) × Has (room_for defs t).references o × (spot x t + o ≡ 4 * w)
        second p f (inl a) = absurd (omega (arith, f, a, g))
        second p f (inr (inl a)) = absurd (omega (arith, f, a, l))
        second p f (inr (inr a)) = let b = a.2 in (a.0, a.1, omega (arith, f, b))

        first : (4 * w < globals_place) ⊎ (globals_place ≤ 4 * w)
            → (o : ℕ) × Has (room_for defs t).references o × (spot x t + o ≡ 4 * w)
        first (inl a) = absurd (omega (arith, a, g))
        first (inr a) =
            let b = spot_ends x t e in
            let p = only (4 * w) h a (omega (arith, b, l)) in
            second p.0 p.2 (about defs (rooms_in defs) nothing types x t p.0 (λ q i. absurd i) laid e p.1)

    pub initial_takes : (x : ℕ) (t : Ty) (c : Constant) → slice_get types x ≡ Some t → IsConstant t c
        → ((at : ℕ) (s : List ℕ) → initial_put m t (spot x t) c ≡ OfText at s → IsUtf8 (encode_utf8_all s))
        → Takes size offsets (initial_put m t (spot x t) c)
    initial_takes x ty.Byte (constant.Number z) e i spelled =
        let at = spot x ty.Byte in
        let a = spot_ends x ty.Byte e in (
          (omega (arith, a, ends, whole), λ h. let r = about_spot x ty.Byte (at / 4) e h (omega arith) (omega arith) in r.1),
          i,
        )
    initial_takes x ty.Int (constant.Number z) e i spelled =
        let at = spot x ty.Int in
        let a = spot_ends x ty.Int e in
        let b : at % 4 ≡ 0 = spot_aligned x ty.Int e in (
          (b, (omega (arith, a, ends, whole), λ h. let r = about_spot x ty.Int (at / 4) e h (omega arith) (omega arith) in r.1)),
          i,
        )
    initial_takes x ty.Big (constant.Number z) e i spelled =
        let at = spot x ty.Big in
        let a = spot_ends x ty.Big e in
        let b : at % 8 ≡ 0 = spot_aligned x ty.Big e in (
          (
            omega (arith, b),
            (omega (arith, a, ends, whole), λ h. let r = about_spot x ty.Big (at / 4) e h (omega arith) (omega arith) in r.1),
            (
              omega (arith, a, ends, whole, b),
              λ h. let r = about_spot x ty.Big (suc (at / 4)) e h (omega (arith, b)) (omega arith) in r.1,
            ),
          ),
          i,
        )
    initial_takes x _ (constant.Number z) e i spelled = absurd i
    initial_takes x t (constant.Chars cs) e i spelled =
        subst (λ (u : Ty). Takes size offsets (initial_put m u (spot x u) (constant.Chars cs))) (sym i)
        (let f : slice_get types x ≡ Some ty.Chars = e ∙ ap Some i in
        let b : spot x ty.Chars % 4 ≡ 0 = spot_aligned x ty.Chars f in
        let r = references_there defs (rooms_in defs) nothing types x ty.Chars 0 f (inl refl) in
        let off = next_multiple_of (row_of defs (take x types)).size 4 in (
          b,
          subst (λ (q : ℕ). Has offsets q) (let g : globals_place + (off + 0) ≡ globals_place + off = omega arith in g) (all (off + 0) r),
          spelled (spot x ty.Chars) cs
              (ap (λ (u : Ty). initial_put m u (spot x u) (constant.Chars cs)) i),
        ))

    module _ (k : Facts) where
      initial_stands : (at : ℕ) (t : Ty) (c : Constant) (ws others : List Word) (n : ℕ) → IsConstant t c
          → IsPut size offsets ws others n (initial_put m t at c) → HasTexts k n (text_of (initial_put m t at c))
          → Stands defs k others at t (fitted defs t (constant_value c))
      initial_stands at ty.Byte (constant.Number z) ws others n i p h =
          subst (λ (y : _). Stands defs k others at ty.Byte (value.Num y)) (sym (within kind.Byte z i))
          (number_stands size offsets defs k ws others n at kind.Byte z p i)
      initial_stands at ty.Int (constant.Number z) ws others n i p h =
          subst (λ (y : _). Stands defs k others at ty.Int (value.Num y)) (sym (within kind.Int z i))
          (number_stands size offsets defs k ws others n at kind.Int z p i)
      initial_stands at ty.Big (constant.Number z) ws others n i p h =
          subst (λ (y : _). Stands defs k others at ty.Big (value.Num y)) (sym (within kind.Big z i))
          (number_stands size offsets defs k ws others n at kind.Big z p i)
      initial_stands at _ (constant.Number z) ws others n i p h = absurd i
      initial_stands at t (constant.Chars cs) ws others n i p h =
          subst (λ (u : Ty). Stands defs k others at u (fitted defs u (value.Chars cs))) (sym i)
          (text_stands size offsets defs k ws others n at cs
          (subst (λ (u : Ty). IsPut size offsets ws others n (initial_put m u at (constant.Chars cs))) i p)
          (text_here k n (cs ∷ []) cs refl (subst (λ (u : Ty). HasTexts k n (text_of (initial_put m u at (constant.Chars cs)))) i h)))

      -- a variable without an initial value stays as it is, and one with one stands for that
      not_again : (x : ℕ) (t : Ty) → slice_get types x ≡ Some t → (is : List Initial) → Each (SoundInitial m) is
          → Each (λ (j : Initial). x ≡ j.global → ⊥) is → AllApart (spot x t) (room_for defs t).size (globals_puts m is)
      not_again x t e [] s h = tt
      not_again x t e (i ∷ is) s h =
          let u = (s.0).0 in
          let v = (s.0).1 in
          let f : slice_get types i.global ≡ Some u = types_at m.globals i.global v.0 v.1 ∙ ap Some v.2 in (
            subst (λ (p : Put). IsApart (spot x t) (room_for defs t).size p) (sym (put_is i.global u i.value f))
                (spots_apart x i.global t u i.value h.0 e f (s.0).2),
            not_again x t e is s.1 h.1,
          )

      pub variable_stands : (is : List Initial) → Each (SoundInitial m) is → AreOnce is → (ws others : List Word) (n : ℕ)
          → ArePut size offsets ws others n (globals_puts m is) → AreOf size offsets ws → HasTexts k n (texts_of (globals_puts m is))
          → (x : ℕ) (t : Ty) → slice_get types x ≡ Some t → Stands defs k ws (spot x t) t (zero_of defs t)
          → Stands defs k others (spot x t) t (fitted defs t (initial_of x is))
      variable_stands [] s once ws others n put are texts x t e z =
          stands_apart size offsets defs k ws others n [] put are (spot x t) t (room_for defs t) (zero_of defs t)
          (laid_at defs (rooms_in defs) types x t laid e) (spot_aligned x t e) tt z
      variable_stands (i ∷ is) s once ws others n put are texts x t e z =
          go (same_or_not i.global x) (λ vs j put are texts z. variable_stands is s.1 once.1 vs others j put are texts x t e z)
        where
          p : Put
          p = initial_put m (type_of m i.global) (globals_place + within_row defs types i.global) i.value

          f : (between : List Word) × IsPut size offsets ws between n p
              × ArePut size offsets between others (n + length (text_of p)) (globals_puts m is)
          f = first_put size offsets ws others n (p ∷ globals_puts m is) put p (globals_puts m is) refl

          u : Ty
          u = (s.0).0

          there : slice_get types i.global ≡ Some u
          there = let v = (s.0).1 in types_at m.globals i.global v.0 v.1 ∙ ap Some v.2

          laid_here : Laid defs t (room_for defs t)
          laid_here = laid_at defs (rooms_in defs) types x t laid e

          go : ((nat_eq i.global x ≡ true) × (i.global ≡ x)) ⊎ ((nat_eq i.global x ≡ false) × (i.global ≡ x → ⊥))
              → ((vs : List Word) (j : ℕ) → ArePut size offsets vs others j (globals_puts m is) → AreOf size offsets vs
              → HasTexts k j (texts_of (globals_puts m is)) → Stands defs k vs (spot x t) t (zero_of defs t)
              → Stands defs k others (spot x t) t (fitted defs t (initial_of x is)))
              → Stands defs k others (spot x t) t (fitted defs t (if nat_eq i.global x then constant_value i.value else initial_of x is))
          go (inl y) again =
              let same : u ≡ t = (let a : Some u ≡ Some t = sym there ∙ ap (slice_get types) y.1 ∙ e in cc) in
              let put_so : p ≡ initial_put m t (spot x t) i.value =
              ap (λ (j : ℕ). initial_put m (type_of m j) (globals_place + within_row defs types j) i.value) y.1 ∙ put_is x t i.value e in
              let stands = initial_stands (spot x t) t i.value ws f.0 n (subst (λ (a : Ty). IsConstant a i.value) same (s.0).2)
              (subst (λ (a : Put). IsPut size offsets ws f.0 n a) put_so f.1)
              (subst (λ (a : Put). HasTexts k n (text_of a)) put_so (texts_first k n (text_of p) (texts_of (globals_puts m is)) texts)) in
              subst (λ (b : Bool). Stands defs k others (spot x t) t
              (fitted defs t (if b then constant_value i.value else initial_of x is))) (sym y.0)
              (stands_apart size offsets defs k f.0 others (n + length (text_of p)) (globals_puts m is) f.2 (f.1).kind (spot x t) t
              (room_for defs t) (fitted defs t (constant_value i.value)) laid_here (spot_aligned x t e)
              (subst (λ (j : ℕ). AllApart (spot x t) (room_for defs t).size (globals_puts m is)) y.1
              (not_again x t e is s.1 (subst (λ (j : ℕ). Each (λ (l : Initial). j ≡ l.global → ⊥) is) y.1 once.0)))
              stands)
          go (inr y) again =
              let apart = subst (λ (a : Put). IsApart (spot x t) (room_for defs t).size a) (sym (put_is i.global u i.value there))
              (spots_apart x i.global t u i.value (λ g. y.1 (sym g)) e there (s.0).2) in
              subst (λ (b : Bool). Stands defs k others (spot x t) t
              (fitted defs t (if b then constant_value i.value else initial_of x is))) (sym y.0)
              (again f.0 (n + length (text_of p)) f.2 (f.1).kind
              (texts_rest k n (text_of p) (texts_of (globals_puts m is)) texts)
              (stands_apart size offsets defs k ws f.0 n (p ∷ [])
              (more_put ws f.0 f.0 n p [] f.1 (none_put f.0 (n + length (text_of p)))) are (spot x t) t
              (room_for defs t) (zero_of defs t) laid_here (spot_aligned x t e) (apart, tt) z))
