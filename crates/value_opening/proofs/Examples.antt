-- A module to which the law of the items applies; and three sound ones that it leaves out, of which it wouldn't be true: one with two
-- initial values of a variable, one with a text that isn't spelled in UTF-8, and one with the length of an array that is no int.
use Rattle.std.proofs.Common.{◌≡◌, ◌≤◌, ℕ, ℤ, suc, pos, List, [], ◌∷◌, Some, None, refl, subst, inl, codes, arith, map}
use Rattle.std.specs.Prelude.{slice_get}
use Rattle.std.specs.Int.{int_wrap}
use Rattle.std.specs.Str.{is_utf8, chars}
use Rattle.std.proofs.lemmas.Int.{ints}
use Rattle.heap_model.specs.Facts.{Named, Chars}
use Rattle.limbo_types.specs.Types as ty
use Rattle.limbo_types.specs.Types.{Ty, ArrayOf}
use Rattle.limbo_typed.specs.Sound.{IsSound, SoundStmts, Each, IsNamed, SoundInitial}
use Rattle.limbo_typed.specs.Typed.{Of, Filled, Absent}
use Rattle.limbo_typed.specs.Typed as typed
use Rattle.limbo_typed.specs.declared.module.Initial.{Initial}
use Rattle.limbo_typed.specs.declared.stmt.Constant.TheVariants as constant
use Rattle.limbo_values.specs.declared.number.Kind.TheVariants as kind
use Rattle.limbo_values.specs.Numbers.{InRange}
use Rattle.limbo_meaning.specs.Values as value
use Rattle.limbo_meaning.specs.Memory as source
use Rattle.limbo_meaning.specs.Program.{globals_of}
use Rattle.limbo_meaning.proofs.Examples.{variable, function, made_of, items, num, set, var}
use Rattle.limbo_kept.proofs.Examples.{notes, notes_written, notes_laid, notes_sound}
use Rattle.limbo_kept.specs.Modules.{AdtsAreLaid, TextsAreWritten}
use Rattle.dis_meaning.specs.Words.{Word, Plain, Refer, Found, Wrong, type_check}
use Rattle.dis_memory.specs.Blocks as block
use Rattle.dis_memory.specs.Operands.{type_of}
use Rattle.dis_counts.specs.Opening.{loading, with_items, instance_of}
use Rattle.dis_objects.specs.Spelled.{AreSpelled}
use Rattle.value_words.specs.Forms.{Instances}
use Rattle.value_words.specs.Facts.{Facts}
use Rattle.value_words.specs.Stands.{Stands, a_number, a_text, a_name, an_array, no_words, a_tuple, an_adt}
use Rattle.limbo_layout.specs.Adts.{Def}
use Rattle.value_heaps.specs.Blocks.{IsBlock}
use Rattle.value_code.specs.Data as datum
use Rattle.value_code.specs.Objects.{globals, constants, all_data_of, object_of}
use Rattle.value_opening.specs.Putting.{state}
use Rattle.value_opening.specs.Opening.{data_type, data_texts, IsOfInt, TextsAreShort, AreOnce, outer}
use Rattle.value_opening.proofs.Opening.{items_put}

-- What the law says of a module.
abbrev ItemsAre : typed.Module → Type 0
ItemsAre m =
    (type_of (object_of m) 0 ≡ Found (data_type m))
    × (words : List Word)
    × (with_items (object_of m) (loading (instance_of (data_type m)) (record { serial = 0; from = 0 }) []) (object_of m).items
    ≡ Found (state outer words (data_texts m)))
    × ((k : Facts) → k.fact 0 ≡ Some (Named 0) → k.form 0 ≡ Some Instances →
    ((j : ℕ) (t : List ℕ) → slice_get (data_texts m) j ≡ Some t → k.fact (suc j) ≡ Some (Chars t)) →
    IsBlock m.adts (globals m) (constants m) k 0 (source.Instance (globals_of m)) (block.Instance 0 words))

-- Variables of these types, with these initial values, and no functions.
abbrev declaring : List Ty → List Initial → typed.Module
declaring ts is = record (made_of [] ts []) { initials = is }

abbrev initially : ℕ → Rattle.limbo_typed.specs.declared.stmt.Constant.Constant → Initial
initially x c = record { global = x; value = c }

-- Such a module is sound where its initial values are of the types of its variables.
declaring_sound : (ts : List Ty) (is : List Initial) → Each (λ (v : typed.Var). IsNamed (declaring ts is) v.ty) (map variable ts)
    → Each (SoundInitial (declaring ts is)) is → IsSound (declaring ts is)
declaring_sound ts is named initials = record {
  adts = λ n d t e h. absurd cc;
  modules = refl;
  globals = named;
  initials = initials;
  functions = tt;
  declared = tt;
  interfaces = tt;
  system = tt;
  exceptions = tt;
}

-- ---- b: byte = 7; s := "ab"; n: int;

abbrev small : typed.Module
small = declaring (ty.Byte ∷ ty.Chars ∷ ty.Int ∷ []) (initially 0 (constant.Number (pos 7)) ∷ initially 1 (constant.Chars (codes "ab")) ∷ [])

small_sound : IsSound small
small_sound = declaring_sound (ty.Byte ∷ ty.Chars ∷ ty.Int ∷ [])
    (initially 0 (constant.Number (pos 7)) ∷ initially 1 (constant.Chars (codes "ab")) ∷ [])
    ((tt, tt), ((tt, tt), ((tt, tt), tt))) (
      (ty.Byte, (variable ty.Byte, refl, refl), record { above = omega (arith, ints); below = omega (arith, ints) }),
      ((ty.Chars, (variable ty.Chars, refl, refl), refl), tt),
    )

small_written : TextsAreWritten small
small_written = record { initials = (tt, ((omega arith, (omega arith, tt)), tt)); routines = λ f r e. absurd cc }

small_laid : AdtsAreLaid small.adts
small_laid n d e = absurd cc

small_spelled : AreSpelled (object_of small).items
small_spelled = (λ e. (codes "$Sys", (refl, refl)), (λ e. absurd cc, (λ e. (codes "ab", (refl, refl)), tt)))

small_once : AreOnce small.initials
small_once = ((λ e. absurd cc, tt), (tt, tt))

small_short : TextsAreShort small
small_short = (omega arith, (omega arith, tt))

-- so it begins with its variables as they are declared
small_put : ItemsAre small
small_put = items_put small small_sound small_laid small_written small_spelled small_short small_once tt

small_begins : globals_of small ≡ value.Num (pos 7) ∷ value.Chars (codes "ab") ∷ value.Num (pos 0) ∷ []
unfolding int_wrap
small_begins = refl

-- ---- a module with code, whose data are a text and numbers

notes_texts : data_texts notes ≡ codes "$Sys" ∷ codes "ab" ∷ []
notes_texts = refl

notes_spelled : AreSpelled (object_of notes).items
notes_spelled = (
  λ e. (codes "$Sys", (refl, refl)),
  (
    λ e. (codes "ab", (refl, refl)),
    (λ e. absurd cc, (λ e. absurd cc, (λ e. absurd cc, (λ e. absurd cc, (λ e. absurd cc, (λ e. absurd cc, (λ e. absurd cc, tt))))))),
  ),
)

notes_short : TextsAreShort notes
notes_short = (omega arith, (omega arith, tt))

notes_ints : Each IsOfInt (all_data_of notes)
notes_ints = (
  tt,
  (
    few 2 (omega arith),
    (
      few 1 (omega arith),
      (few 0 (omega arith), (few 2 (omega arith), (few 1 (omega arith), (few 1 (omega arith), (few 1 (omega arith), tt))))),
    ),
  ),
)
  where
    few : (n : ℕ) → n ≤ 2 → InRange kind.Int (pos n)
    few n l = record { above = omega (arith, ints, l); below = omega (arith, ints, l) }

notes_put : ItemsAre notes
notes_put = items_put notes notes_sound notes_laid notes_written notes_spelled notes_short tt notes_ints

-- ---- two initial values: the source takes the first, and the machine has the last

abbrev twice : typed.Module
twice = declaring (ty.Int ∷ []) (initially 0 (constant.Number (pos 1)) ∷ initially 0 (constant.Number (pos 2)) ∷ [])

twice_sound : IsSound twice
twice_sound = declaring_sound (ty.Int ∷ []) (initially 0 (constant.Number (pos 1)) ∷ initially 0 (constant.Number (pos 2)) ∷ [])
    ((tt, tt), tt) (
      (ty.Int, (variable ty.Int, refl, refl), record { above = omega (arith, ints); below = omega (arith, ints) }),
      ((ty.Int, (variable ty.Int, refl, refl), record { above = omega (arith, ints); below = omega (arith, ints) }), tt),
    )

twice_source : globals_of twice ≡ value.Num (pos 1) ∷ []
unfolding int_wrap
twice_source = refl

twice_machine : with_items (object_of twice) (loading (instance_of (data_type twice)) (record { serial = 0; from = 0 }) [])
    (object_of twice).items
    ≡ Found (state outer (Refer (Some 1) ∷ Refer None ∷ Plain (pos 0) ∷ Plain (pos 0) ∷ Plain (pos 2) ∷ Plain (pos 0) ∷ [])
    (codes "$Sys" ∷ []))
unfolding is_utf8 chars lib.Utf8.encode
twice_machine = refl

-- ---- a character that UTF-8 doesn't spell

abbrev unspelled : typed.Module
unspelled = declaring (ty.Chars ∷ []) (initially 0 (constant.Chars (0xD800 ∷ [])) ∷ [])

unspelled_sound : IsSound unspelled
unspelled_sound = declaring_sound (ty.Chars ∷ []) (initially 0 (constant.Chars (0xD800 ∷ [])) ∷ []) ((tt, tt), tt)
    ((ty.Chars, (variable ty.Chars, refl, refl), refl), tt)

unspelled_written : TextsAreWritten unspelled
unspelled_written = record { initials = ((omega arith, tt), tt); routines = λ f r e. absurd cc }

unspelled_machine : with_items (object_of unspelled) (loading (instance_of (data_type unspelled)) (record { serial = 0; from = 0 }) [])
    (object_of unspelled).items
    ≡ Wrong type_check
unfolding is_utf8 chars lib.Utf8.encode
unspelled_machine = refl

-- ---- array[] of {2147483647 => 0}, whose length is no int

abbrev lengthy_main : typed.Function
lengthy_main = function [] ty.Nothing (ArrayOf ty.Int ∷ [])
    (set (var (ArrayOf ty.Int) 0) (Of (ArrayOf ty.Int) (Filled Absent (items ((2147483647, num 0) ∷ [])) Absent)) ∷ [])

abbrev lengthy : typed.Module
lengthy = made_of [] [] (lengthy_main ∷ [])

lengthy_body : SoundStmts lengthy lengthy_main [] lengthy_main.body
lengthy_body = (
  (
    (tt, tt),
    (
      (
        (tt, tt),
        (
          ty.Int,
          refl,
          tt,
          (((tt, tt), record { above = omega (arith, ints); below = omega (arith, ints) }), inl refl, tt),
          tt,
        ),
      ),
      (((tt, tt), (variable (ArrayOf ty.Int), refl, refl)), inl refl),
      inl refl,
    ),
  ),
  tt,
)

lengthy_sound : IsSound lengthy
lengthy_sound = record {
  adts = λ n d t e h. absurd cc;
  modules = refl;
  globals = tt;
  initials = tt;
  functions = (record { parameters = refl; named = ((tt, tt), tt); answer = (tt, tt); owner = tt; body = lengthy_body }, tt);
  declared = tt;
  interfaces = tt;
  system = tt;
  exceptions = tt;
}

lengthy_data : all_data_of lengthy ≡ datum.Word (pos 2147483648) ∷ datum.Word (pos 0) ∷ datum.Word (pos 2147483647) ∷ []
lengthy_data = refl

-- Nothing stands for such an int.
int_stands : (defs : List Def) (k : Facts) (words : List Word) (at : ℕ) (t : Ty) (v : value.Value) (z : ℤ) → Stands defs k words at t v
    → t ≡ ty.Int → v ≡ value.Num z → InRange kind.Int z
int_stands defs k words _ _ _ z (a_number at kind.Byte y e i) f g = absurd cc
int_stands defs k words _ _ _ z (a_number at kind.Int y e i) f g =
    let same : y ≡ z = cc in subst (λ (x : ℤ). InRange kind.Int x) same i
int_stands defs k words _ _ _ z (a_number at kind.Big y e i) f g = absurd cc
int_stands defs k words _ _ _ z (a_text at r s e i) f g = absurd cc
int_stands defs k words _ _ _ z (a_name at t r n i e h) f g = absurd cc
int_stands defs k words _ _ _ z (an_array at t r p e i) f g = absurd cc
int_stands defs k words _ _ _ z (no_words at) f g = absurd cc
int_stands defs k words _ _ _ z (a_tuple at ts rs vs l a) f g = absurd cc
int_stands defs k words _ _ _ z (an_adt at n d rs vs e l a) f g = absurd cc

no_length : (defs : List Def) (k : Facts) (words : List Word) (at : ℕ)
    → Stands defs k words at ty.Int (value.Num (pos 2147483648)) → ⊥
no_length defs k words at s =
    let i = int_stands defs k words at ty.Int (value.Num (pos 2147483648)) (pos 2147483648) s refl refl in
    let b = i.below in
    omega (arith, ints, b)
