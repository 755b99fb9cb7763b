-- Words stand for the same where more facts are known.
use Rattle.std.proofs.Common.{ℕ, List, Option, Some, None, inl, inr}
use Rattle.limbo_types.specs.Types.{Ty}
use Rattle.limbo_layout.specs.Adts.{Def, parts, listed}
use Rattle.limbo_layout.specs.Layout.{Room, nothing}
use Rattle.limbo_meaning.specs.Values as value
use Rattle.limbo_meaning.specs.Values.{Value}
use Rattle.dis_meaning.specs.Words.{Word}
use Rattle.heap_model.specs.Facts.{Named, Chars, Part}
use Rattle.value_words.specs.Forms.{Form, Elements, form_of}
use Rattle.value_words.specs.Facts.{Facts, Grows, IsFormed, IsName, IsPart, IsText}
use Rattle.value_words.specs.Stands.{Stands, a_number, a_text, a_name, an_array, no_words, a_tuple, an_adt}
use Rattle.value_words.specs.Stands.{AllStand, none_stand, more_stand}

module _ (defs : List Def) (facts later : Facts) (words : List Word) (grows : Grows facts later) where
  formed_later : (f : Form) (b n : ℕ) → IsFormed facts f b n → IsFormed later f b n
  formed_later f b n h = record { fact = grows.facts b (Named n) h.fact; formed = grows.forms b f h.formed }

  pub name_later : (asked : Option Form) (r n : Option ℕ) → IsName facts asked r n → IsName later asked r n
  name_later asked None None h = h
  name_later asked None (Some n) h = absurd h
  name_later asked (Some b) None h = absurd h
  name_later None (Some b) (Some n) h = absurd h
  name_later (Some f) (Some b) (Some n) h = formed_later f b n h

  part_later : (t : Ty) (r : Option ℕ) (p : Option value.Part) → IsPart facts t r p → IsPart later t r p
  part_later t None None h = h
  part_later t None (Some p) h = absurd h
  part_later t (Some b) None h = absurd h
  part_later t (Some b) (Some p) (inl h) = inl (formed_later (Elements t p.long) b p.array h.0, h.1)
  part_later t (Some b) (Some p) (inr h) =
      inr (grows.facts b (Part p.array p.start p.long) h.0, (h.1.0, (h.1.1.0, (formed_later (Elements t h.1.1.0) h.1.0 p.array h.1.1.1.0, h.1.1.1.1))))

  pub text_later : (r : Option ℕ) (s : List ℕ) → IsText facts r s → IsText later r s
  text_later None s h = h
  text_later (Some b) s h = (grows.facts b (Chars s) h.0, h.1)

  mutual
    pub stands_later : (at : ℕ) (t : Ty) (v : Value) → Stands defs facts words at t v → Stands defs later words at t v
    stands_later _ _ _ (a_number at k z e i) = a_number at k z e i
    stands_later _ _ _ (a_text at r s e h) = a_text at r s e (text_later r s h)
    stands_later _ _ _ (a_name at t r n i e h) = a_name at t r n i e (name_later (form_of t) r n h)
    stands_later _ _ _ (an_array at t r p e h) = an_array at t r p e (part_later t r p h)
    stands_later _ _ _ (no_words at) = no_words at
    stands_later _ _ _ (a_tuple at ts rs vs l all) = a_tuple at ts rs vs l (all_later at nothing (listed ts) rs vs all)
    stands_later _ _ _ (an_adt at n d rs vs e l all) = an_adt at n d rs vs e l (all_later at nothing (parts d) rs vs all)

    pub all_later : (at : ℕ) (w : Room) (ts : List Ty) (rs : List Room) (vs : List Value) → AllStand defs facts words at w ts rs vs
        → AllStand defs later words at w ts rs vs
    all_later _ _ _ _ _ (none_stand at w) = none_stand at w
    all_later _ _ _ _ _ (more_stand at w t ts r rs v vs a b) =
        more_stand at w t ts r rs v vs (stands_later _ t v a) (all_later at _ ts rs vs b)
