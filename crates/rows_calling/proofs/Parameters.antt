-- Operands stand for the parameters of a function, where they stand in the places of these.
use Rattle.std.proofs.Common.{◌≡◌, ℕ, pos, ◌+◌, List, [], ◌∷◌, Some, None, inl, inr, refl, sym, ap, ◌∙◌, subst}
use Rattle.std.specs.Int.{next_multiple_of}
use Rattle.limbo_types.specs.Types as ty
use Rattle.limbo_types.specs.Types.{Ty}
use Rattle.limbo_layout.specs.Adts.{Def}
use Rattle.limbo_layout.specs.Layout.{Room, behind}
use Rattle.limbo_layout.specs.Laying.{rooms_of, room}
use Rattle.limbo_values.specs.declared.number.Kind.TheVariants as kind
use Rattle.limbo_meaning.specs.Values.{Value, Ref, fitted, all_fitted}
use Rattle.core_code.specs.Rooms.{rooms_in}
use Rattle.core_typing.specs.Needs.{StandsAs, AllStandAs, MayBeNil}
use Rattle.dis_meaning.specs.Words.{Word, Refer, Found, word_at}
use Rattle.value_words.specs.Facts.{Facts}
use Rattle.value_words.specs.Stands.{Stands, AllStand, none_stand, more_stand, a_number, a_text, a_name, an_array, no_words, a_tuple, an_adt}
use Rattle.value_words.proofs.Wholes.{stands_whole}

module _ (defs : List Def) (k : Facts) (words : List Word) where
  -- a `ref` of a variant stands for one of its adt
  variant : (at : ℕ) (u : Ty) (a j : ℕ) (v : Value) → u ≡ ty.RefPick a j → Stands defs k words at u v
      → Stands defs k words at (ty.RefAdt a) (fitted defs (ty.RefAdt a) v)
  variant _ _ a j _ e (a_number at kind.Byte z f i) = absurd cc
  variant _ _ a j _ e (a_number at kind.Int z f i) = absurd cc
  variant _ _ a j _ e (a_number at kind.Big z f i) = absurd cc
  variant _ _ a j _ e (a_text at r s f i) = absurd cc
  variant _ _ a j _ e (a_name at (ty.RefPick c l) r n i f h) =
      let same : c ≡ a = cc in
      subst (λ d. Stands defs k words at (ty.RefAdt d) (Ref n)) same (a_name at (ty.RefAdt c) r n tt f h)
  variant _ _ a j _ e (a_name at t r n i f h) = absurd cc
  variant _ _ a j _ e (an_array at t r p f i) = absurd cc
  variant _ _ a j _ e (no_words at) = absurd cc
  variant _ _ a j _ e (a_tuple at ts rs vs l all) = absurd cc
  variant _ _ a j _ e (an_adt at n d rs vs f l all) = absurd cc

  -- `nil` stands for each reference
  nil_word : (at : ℕ) (t : Ty) → MayBeNil t → word_at words (pos at) ≡ Found (Refer None) → Stands defs k words at t (fitted defs t (Ref None))
  nil_word at (ty.ArrayOf t) h f = an_array at t None None f tt
  nil_word at (ty.ListOf t) h f = a_name at (ty.ListOf t) None None tt f tt
  nil_word at (ty.ChanOf t) h f = a_name at (ty.ChanOf t) None None tt f tt
  nil_word at (ty.RefAdt n) h f = a_name at (ty.RefAdt n) None None tt f tt
  nil_word at (ty.RefPick n v) h f = a_name at (ty.RefPick n v) None None tt f tt
  nil_word at (ty.Module n) h f = a_name at (ty.Module n) None None tt f tt
  nil_word at t h f = absurd h

  nil_there : (at : ℕ) (u t : Ty) (v : Value) → u ≡ ty.Nil → MayBeNil t → Stands defs k words at u v → Stands defs k words at t (fitted defs t v)
  nil_there _ _ t _ e h (a_number at kind.Byte z f i) = absurd cc
  nil_there _ _ t _ e h (a_number at kind.Int z f i) = absurd cc
  nil_there _ _ t _ e h (a_number at kind.Big z f i) = absurd cc
  nil_there _ _ t _ e h (a_text at r s f i) = absurd cc
  nil_there _ _ t _ e h (a_name at ty.Nil None None i f g) = nil_word at t h f
  nil_there _ _ t _ e h (a_name at ty.Nil (Some b) None i f g) = absurd g
  nil_there _ _ t _ e h (a_name at ty.Nil None (Some n) i f g) = absurd g
  nil_there _ _ t _ e h (a_name at ty.Nil (Some b) (Some n) i f g) = absurd g
  nil_there _ _ t _ e h (a_name at u r n i f g) = absurd cc
  nil_there _ _ t _ e h (an_array at u r p f i) = absurd cc
  nil_there _ _ t _ e h (no_words at) = absurd cc
  nil_there _ _ t _ e h (a_tuple at ts rs vs l all) = absurd cc
  nil_there _ _ t _ e h (an_adt at n d rs vs f l all) = absurd cc

  -- A value stands for one of the type where it is asked for.
  pub stands_as : (at : ℕ) (u t : Ty) (v : Value) → StandsAs u t → Stands defs k words at u v → Stands defs k words at t (fitted defs t v)
  stands_as at u t v (inl (inl e)) s =
      let same = subst (λ y. Stands defs k words at y v) e s in
      subst (λ y. Stands defs k words at t y) (stands_whole defs k words at t v same) same
  stands_as at (ty.RefPick a j) t v (inl (inr e)) s =
      subst (λ y. Stands defs k words at y (fitted defs y v)) (sym e) (variant at (ty.RefPick a j) a j v refl s)
  stands_as at u t v (inl (inr e)) s = absurd e
  stands_as at u t v (inr n) s = nil_there at u t v n.0 n.1 s

-- Such a type has the same room.
nil_room : (rs : List Room) (t : Ty) → MayBeNil t → room rs ty.Nil ≡ room rs t
nil_room rs (ty.ArrayOf t) h = refl
nil_room rs (ty.ListOf t) h = refl
nil_room rs (ty.ChanOf t) h = refl
nil_room rs (ty.RefAdt n) h = refl
nil_room rs (ty.RefPick n v) h = refl
nil_room rs (ty.Module n) h = refl
nil_room rs t h = absurd h

pub same_room : (rs : List Room) (u t : Ty) → StandsAs u t → room rs u ≡ room rs t
same_room rs u t (inl (inl e)) = ap (room rs) e
same_room rs (ty.RefPick a j) t (inl (inr e)) = sym (ap (room rs) e)
same_room rs u t (inl (inr e)) = absurd e
same_room rs u t (inr n) = ap (room rs) n.0 ∙ nil_room rs t n.1

first_same : (r s : Room) (rs ss : List Room) → r ∷ rs ≡ s ∷ ss → r ≡ s
first_same r s rs ss e = cc

rest_same : (r s : Room) (rs ss : List Room) → r ∷ rs ≡ s ∷ ss → rs ≡ ss
rest_same r s rs ss e = cc

-- So do values in a row, one for each.
module _ (defs : List Def) (k : Facts) (words : List Word) where
  abbrev rooms : List Ty → List Room
  rooms ts = rooms_of (rooms_in defs) ts

  pub all_stand_as : (at : ℕ) (w : Room) (us ts : List Ty) (rs : List Room) (vs : List Value) → AllStandAs us ts → rs ≡ rooms us
      → AllStand defs k words at w us rs vs → AllStand defs k words at w ts (rooms ts) (all_fitted defs ts vs)
  all_stand_as _ _ _ [] _ _ so e (none_stand at w) = none_stand at w
  all_stand_as _ _ _ (t ∷ ts) _ _ so e (none_stand at w) = absurd so
  all_stand_as _ _ _ [] _ _ so e (more_stand at w u us r rs v vs s rest) = absurd so
  all_stand_as _ _ _ (t ∷ ts) _ _ so e (more_stand at w u us r rs v vs s rest) =
      let same : r ≡ room (rooms_in defs) t = first_same r (room (rooms_in defs) u) rs (rooms us) e ∙ same_room (rooms_in defs) u t so.0 in
      more_stand at w t ts (room (rooms_in defs) t) (rooms ts) (fitted defs t v) (all_fitted defs ts vs)
      (subst (λ (y : Room). Stands defs k words (at + next_multiple_of w.size y.align) t (fitted defs t v)) same
      (stands_as defs k words (at + next_multiple_of w.size r.align) u t v so.0 s))
      (subst (λ (y : Room). AllStand defs k words at (behind w y) ts (rooms ts) (all_fitted defs ts vs)) same
      (all_stand_as at (behind w r) us ts rs vs so.1 (rest_same r (room (rooms_in defs) u) rs (rooms us) e) rest))
