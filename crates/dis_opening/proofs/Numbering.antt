-- Numbers that are put in one behind the other.
use Rattle.std.proofs.Common.{◌≡◌, ℕ, ℤ, pos, ◌+◌, ◌-◌, List, [], ◌∷◌, drop, length, take, refl, sym, ap, ◌∙◌, subst, arith}
use Rattle.std.proofs.lemmas.List.{length-drop, take_all}
use Rattle.limbo_values.specs.declared.number.Kind.{Kind}
use Rattle.limbo_values.specs.declared.number.Kind.TheVariants.{Byte, Int, Big}
use Rattle.limbo_values.specs.declared.number.Number.{Number}
use Rattle.dis_meaning.specs.Words.{Word, Access, Found, Wrong, Raises, ◌>>=◌}
use Rattle.dis_meaning.specs.Numbers.{with_number_at}
use Rattle.dis_memory.specs.Blocks.{World}
use Rattle.dis_memory.specs.Places.{data_at, with_data}
use Rattle.dis_counts.specs.Opening.{Loading, changed, loading, numbers, with_numbers, with_numbers_of, width}
use Rattle.dis_opening.specs.declared.fault.StartFault.{StartFault}
use Rattle.dis_opening.specs.declared.fault.StartFault.TheVariants.{NoMemory, Malformed}
use Rattle.dis_opening.specs.Numbers.{BeginsWith}
use Rattle.dis_opening.specs.Starting.{Refuses}
use Rattle.dis_opening.specs.Loading.{number_stored, numbers_stored}
use Rattle.dis_opening.proofs.Written.{Other, other, data_same}

-- Numbers that an item has, put into a block and then told with where items go.
pub as_numbers : (kind : Kind) (l : Loading) (offset : ℕ) (content : List ℕ) →
    with_numbers_of kind l offset content ≡ (numbers_stored kind l.world l.here.serial (l.here.from + offset) content >>= λ y. Found (loading y l.here l.back))
as_numbers kind l offset content = each (numbers kind content)
  where
    each : (a : Access (List ℤ)) → (a >>= λ zs. changed l (with_numbers kind (l.here.from + offset) zs)) ≡
        (a >>= (λ zs. data_at l.world l.here.serial >>= with_numbers kind (l.here.from + offset) zs >>= with_data l.world l.here.serial) >>= λ y. Found (loading y l.here l.back))
    each (Found zs) = refl
    each (Wrong n) = refl
    each (Raises text) = refl

-- What the bytes from a place on begin with.
pub begins_behind : (kind : Kind) (bytes : List ℕ) (at : ℕ) (number : Number) → BeginsWith kind (take (length bytes - at) (drop at bytes)) number →
    BeginsWith kind (drop at bytes) number
begins_behind kind bytes at number b =
    let l = length-drop at bytes in
    subst (λ bs. BeginsWith kind bs number) (take_all (length bytes - at) (drop at bytes) (omega (arith, l))) b

-- Words are there.
pub record HasWords (x : World) (n : ℕ) : Type 0 where
  pub words : List Word
  pub there : data_at x n ≡ Found words

module _ (kind : Kind) (n : ℕ) where
  none_left : numbers kind [] ≡ Found []
  none_left = go kind
    where
      go : (kind : Kind) → numbers kind [] ≡ Found []
      go Byte = refl
      go Int = refl
      go Big = refl

  -- No numbers change nothing.
  pub stored_none : (x : World) (from : ℕ) → HasWords x n → numbers_stored kind x n from [] ≡ Found x
  stored_none x from h =
      ap (λ a. a >>= λ zs. data_at x n >>= with_numbers kind from zs >>= with_data x n) none_left
      ∙ ap (λ a. a >>= with_numbers kind from [] >>= with_data x n) h.there
      ∙ data_same x n h.words h.there

  -- Where no words are there, nothing is put in.
  pub stored_dead : (x t : World) (from number : ℕ) (bytes : List ℕ) → data_at x n ≡ Wrong number → numbers_stored kind x n from bytes ≡ Found t → ⊥
  stored_dead x t from number bytes dead e = each (numbers kind bytes) e
    where
      each : (a : Access (List ℤ)) → (a >>= λ zs. data_at x n >>= with_numbers kind from zs >>= with_data x n) ≡ Found t → ⊥
      each (Found zs) e =
          let a : Wrong number ≡ Found t = sym (ap (λ a. a >>= with_numbers kind from zs >>= with_data x n) dead) ∙ e in absurd cc
      each (Wrong m) e = absurd cc
      each (Raises text) e = absurd cc

  module _ (x : World) (from : ℕ) (z : ℤ) (bytes rest : List ℕ) (first : numbers kind bytes ≡ (numbers kind rest >>= λ zs. Found (z ∷ zs))) where
    -- The first of the numbers, and then the others.
    pub record Put (y : World) : Type 0 where
      pub same : numbers_stored kind x n from bytes ≡ numbers_stored kind y n (from + width kind) rest
      pub has : HasWords y n

    pub stored_first : (y : World) → number_stored kind x n (pos from) z ≡ Found y → Put y
    stored_first y e = there (data_at x n) refl e
      where
        others : (ws us : List Word) → data_at x n ≡ Found ws → with_number_at kind ws (pos from) z ≡ Found us → (o : Other x n us) → o.world ≡ y → Put y
        others ws us is put o same = record {
          same = ap (λ a. a >>= λ zs. data_at x n >>= with_numbers kind from zs >>= with_data x n) first ∙ each (numbers kind rest)
              ∙ ap (λ y. numbers_stored kind y n (from + width kind) rest) same;
          has = record { words = us; there = ap (λ y. data_at y n) (sym same) ∙ o.words };
        }
          where
            back : (a : Access (List Word)) → (a >>= with_data x n) ≡ (a >>= with_data o.world n)
            back (Found vs) = sym (o.back vs)
            back (Wrong m) = refl
            back (Raises text) = refl

            each : (a : Access (List ℤ)) → (a >>= (λ zs. Found (z ∷ zs)) >>= λ zs. data_at x n >>= with_numbers kind from zs >>= with_data x n) ≡
                (a >>= λ zs. data_at o.world n >>= with_numbers kind (from + width kind) zs >>= with_data o.world n)
            each (Found zs) =
                ap (λ a. a >>= with_numbers kind from (z ∷ zs) >>= with_data x n) is
                ∙ ap (λ a. a >>= with_numbers kind (from + width kind) zs >>= with_data x n) put
                ∙ back (with_numbers kind (from + width kind) zs us)
                ∙ ap (λ a. a >>= with_numbers kind (from + width kind) zs >>= with_data o.world n) (sym o.words)
            each (Wrong m) = refl
            each (Raises text) = refl

        one : (ws : List Word) → data_at x n ≡ Found ws → (a : Access (List Word)) → with_number_at kind ws (pos from) z ≡ a → (a >>= with_data x n) ≡ Found y → Put y
        one ws is (Found us) put e =
            let o = other x n us ws is in
            let a : Found o.world ≡ Found y = sym o.put ∙ e in let same : o.world ≡ y = cc in
            others ws us is put o same
        one ws is (Wrong m) put e = absurd cc
        one ws is (Raises text) put e = absurd cc

        there : (a : Access (List Word)) → data_at x n ≡ a → (a >>= (λ words. with_number_at kind words (pos from) z) >>= with_data x n) ≡ Found y → Put y
        there (Found ws) is e = one ws is (with_number_at kind ws (pos from) z) refl e
        there (Wrong m) is e = absurd cc
        there (Raises text) is e = absurd cc

    -- Where all are put in, the first is.
    pub first_stored : (t : World) → numbers_stored kind x n from bytes ≡ Found t → (y : World) × (number_stored kind x n (pos from) z ≡ Found y)
    first_stored t e = each (numbers kind rest) (sym (ap (λ a. a >>= λ zs. data_at x n >>= with_numbers kind from zs >>= with_data x n) first) ∙ e)
      where
        one : (zs : List ℤ) (ws : List Word) → data_at x n ≡ Found ws → (a : Access (List Word)) → with_number_at kind ws (pos from) z ≡ a →
            (a >>= with_numbers kind (from + width kind) zs >>= with_data x n) ≡ Found t → (y : World) × ((a >>= with_data x n) ≡ Found y)
        one zs ws is (Found us) put e = let o = other x n us ws is in (o.world, o.put)
        one zs ws is (Wrong m) put e = absurd cc
        one zs ws is (Raises text) put e = absurd cc

        there : (zs : List ℤ) (a : Access (List Word)) → data_at x n ≡ a → (a >>= with_numbers kind from (z ∷ zs) >>= with_data x n) ≡ Found t →
            (y : World) × ((a >>= (λ words. with_number_at kind words (pos from) z) >>= with_data x n) ≡ Found y)
        there zs (Found ws) is e = one zs ws is (with_number_at kind ws (pos from) z) refl e
        there zs (Wrong m) is e = absurd cc
        there zs (Raises text) is e = absurd cc

        each : (a : Access (List ℤ)) → (a >>= (λ zs. Found (z ∷ zs)) >>= λ zs. data_at x n >>= with_numbers kind from zs >>= with_data x n) ≡ Found t →
            (y : World) × (number_stored kind x n (pos from) z ≡ Found y)
        each (Found zs) e = there zs (data_at x n) refl e
        each (Wrong m) e = absurd cc
        each (Raises text) e = absurd cc

    pub refused_first : (f : StartFault) → Refuses f (number_stored kind x n (pos from) z) → Refuses f (numbers_stored kind x n from bytes)
    refused_first NoMemory h = tt
    refused_first Malformed h = λ t e. let s = first_stored t e in h s.0 s.1
