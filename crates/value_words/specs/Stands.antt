-- When words of memory stand for a value of a type, from a byte on, as the type is laid out.
use Rattle.std.specs.Prelude.{ℕ, ℤ, pos, ◌+◌, ◌≡◌, List, [], ◌∷◌, Option, Some, slice_get}
use Rattle.std.specs.Int.{next_multiple_of}
use Rattle.limbo_types.specs.Types as ty
use Rattle.limbo_types.specs.Types.{Ty, Tys}
use Rattle.limbo_layout.specs.Adts.{Def, parts, listed}
use Rattle.limbo_layout.specs.Layout.{Room, behind, nothing, AllLaid}
use Rattle.limbo_values.specs.declared.number.Kind.{Kind}
use Rattle.limbo_values.specs.Numbers.{InRange}
use Rattle.limbo_typed.specs.Fitting.{of_kind}
use Rattle.limbo_meaning.specs.Values as value
use Rattle.limbo_meaning.specs.Values.{Value, Num, Parts, Ref, Array, NoValues, row}
use Rattle.dis_meaning.specs.Words.{Word, Refer, Found, word_at}
use Rattle.dis_meaning.specs.Numbers.{number_at}
use Rattle.value_words.specs.Forms.{form_of}
use Rattle.value_words.specs.Facts.{Facts, IsName, IsPart, IsText}

-- Types whose values are names of values of the heap, or nothing.
abbrev pub IsReference : Ty → Type 0
IsReference ty.Nil = Unit {0}
IsReference (ty.ListOf t) = Unit {0}
IsReference (ty.ChanOf t) = Unit {0}
IsReference (ty.RefAdt n) = Unit {0}
IsReference (ty.RefPick n k) = Unit {0}
IsReference (ty.Module n) = Unit {0}
IsReference t = ⊥

module _ (defs : List Def) (facts : Facts) (words : List Word) where
  mutual
    -- The words from a byte on stand for a value of a type.
    pub data Stands : (at : ℕ) → Ty → Value → Type 0 where
      a_number : (at : ℕ) (k : Kind) (z : ℤ) → number_at k words (pos at) ≡ Found z → InRange k z → Stands at (of_kind k) (Num z)
      a_text : (at : ℕ) (r : Option ℕ) (s : List ℕ) → word_at words (pos at) ≡ Found (Refer r) → IsText facts r s
          → Stands at ty.Chars (value.Chars s)
      a_name : (at : ℕ) (t : Ty) (r n : Option ℕ) → IsReference t → word_at words (pos at) ≡ Found (Refer r)
          → IsName facts (form_of t) r n
          → Stands at t (Ref n)
      an_array : (at : ℕ) (t : Ty) (r : Option ℕ) (p : Option value.Part) → word_at words (pos at) ≡ Found (Refer r) → IsPart facts t r p
          → Stands at (ty.ArrayOf t) (Array p)
      no_words : (at : ℕ) → Stands at ty.Nothing (Parts NoValues)
      a_tuple : (at : ℕ) (ts : Tys) (rs : List Room) (vs : List Value) → AllLaid defs (listed ts) rs → AllStand at nothing (listed ts) rs vs
          → Stands at (ty.Tuple ts) (Parts (row vs))
      an_adt : (at : ℕ) (n : ℕ) (d : Def) (rs : List Room) (vs : List Value) → slice_get defs n ≡ Some d → AllLaid defs (parts d) rs
          → AllStand at nothing (parts d) rs vs → Stands at (ty.Adt n) (Parts (row vs))

    -- Parts in order, behind what takes so much room from a byte on.
    pub data AllStand : (at : ℕ) → (before : Room) → List Ty → List Room → List Value → Type 0 where
      none_stand : (at : ℕ) (w : Room) → AllStand at w [] [] []
      more_stand : (at : ℕ) (w : Room) (t : Ty) (ts : List Ty) (r : Room) (rs : List Room) (v : Value) (vs : List Value)
          → Stands (at + next_multiple_of w.size r.align) t v → AllStand at (behind w r) ts rs vs
          → AllStand at w (t ∷ ts) (r ∷ rs) (v ∷ vs)
