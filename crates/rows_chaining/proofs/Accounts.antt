-- What a slot's word refers to is accounted for, and so is what a record of a chain refers to.
use Rattle.std.proofs.Common.{◌≡◌, ℕ, zero, suc, pos, ◌+◌, ◌<◌, ◌≤◌, List, [], ◌∷◌, length, Option, Some, refl, sym, ap, ◌∙◌, subst, arith, inl, inr}
use Rattle.std.specs.Prelude.{slice_get}
use Rattle.heap_model.specs.Heap.{Heap, at, there}
use Rattle.heap_model.specs.Facts.{Fact, Named, Chars, Part, IsFree, Free, Covers, refers, chars, itself, slice}
use Rattle.limbo_layout.specs.Adts.{Has}
use Rattle.limbo_typed.specs.Typed as typed
use Rattle.limbo_meaning.specs.Process.{Shared}
use Rattle.core_code.specs.Machine as code
use Rattle.core_code.specs.Slots as core
use Rattle.core_code.specs.Slots.{slot_names, slots_name}
use Rattle.core_typing.specs.Held as held
use Rattle.dis_meaning.specs.Words.{Word, Refer, Found, word_at}
use Rattle.dis_meaning.specs.Process.{Process}
use Rattle.dis_memory.specs.Blocks.{Block, Record, World, words_in}
use Rattle.value_words.specs.Facts.{Facts}
use Rattle.value_roots.specs.Accounts as accounts
use Rattle.value_roots.specs.Accounts.{Accounted, AllAccounted, to_nothing, to_value, to_inner}
use Rattle.value_roots.proofs.Words.{has_counts}
use Rattle.value_frames.specs.Frames.{number_place, reference_place}
use Rattle.value_follows.specs.Stands.{types_of, FrameIs}
use Rattle.value_follows.specs.Sides.{sides}
use Rattle.value_follows.specs.Rows.{AreThere}
use Rattle.value_follows.proofs.RootedSlots.{IsWhole, slot_accounted}
use Rattle.value_follows.proofs.Slots.{slot_is, there_below}

pub slot_within : (slots : core.Slots) (s : ℕ) (l : core.Slot) (n : ℕ) → slice_get slots s ≡ Some l → slot_names l n ≤ slots_name slots n
slot_within [] s l n e = absurd cc
slot_within (t ∷ slots) zero l n e =
    let same : t ≡ l = cc in
    subst (λ (z : core.Slot). slot_names z n ≤ slot_names t n + slots_name slots n) same (omega arith)
slot_within (t ∷ slots) (suc s) l n e = let h = slot_within slots s l n e in omega (arith, h)

module _ (m : typed.Module) (k : Facts) (i : ℕ) (w : Shared) (x : World) (p : code.Process) (q : Process) (busy : List ℕ)
    (is : FrameIs m k i x busy p.frame q.frame) (worlds : (sides m).worlds k w x) (live : AreThere m x q) where
  whole : IsWhole k x.heap
  whole = record {
    carriers = λ n d b fact e. (worlds.0.carriers n d b fact e).0;
    closed = λ c b l u. worlds.0.closed.closed c b l u;
  }

  pub slot_word_accounted : (s : ℕ) → s < length p.frame.slots → (Has busy s → ⊥) → (d : ℕ)
      → word_at q.frame.words (pos (reference_place m.adts (types_of m is.function) s)) ≡ Found (Refer (Some d))
      → Accounted k i x.heap (code.process_names p) (Refer (Some d))
  slot_word_accounted s l idle d e =
      slot_accounted m.adts k x.heap whole i (code.process_names p) q.frame.serial q.frame.words (number_place m.adts (types_of m is.function) s)
      (reference_place m.adts (types_of m is.function) s) (held.slot is.known s) (core.slot p.frame.slots s) (is.words.own s)
      (λ b h. live b (let u = has_counts q.frame.words b h in omega (arith, u)))
      (λ n u. let v = slot_within p.frame.slots s (core.slot p.frame.slots s) n (there_below p.frame.slots s core.empty l) in omega (arith, u, v))
      (λ b h. is.mine s b h) (slot_is m k i x busy p.frame q.frame is s l idle) d e

-- What a record refers to is accounted for where it stands for nothing and a reference to it is.
module _ (k : Facts) (i : ℕ) (x : Heap Block) (names : ℕ → ℕ) where
  not_free : (f : Option (Fact Block)) → IsFree f → (n : Fact Block) → f ≡ Some n → (IsFree (Some n) → ⊥) → ⊥
  not_free f free n e never = never (subst (λ (o : Option (Fact Block)). IsFree o) e free)

  not_covered : (c : ℕ) → Free k c → Covers k (λ n. 0 < names n) c → ⊥
  not_covered c free (refers n h (itself e)) = not_free (k.fact c) free (Named n) e (λ z. z)
  not_covered c free (refers n h (slice s l e)) = not_free (k.fact c) free (Part n s l) e (λ z. z)
  not_covered c free (chars t e) = not_free (k.fact c) free (Chars t) e (λ z. z)

  by_word : (word : Word) → Accounted k i x names word → (c : ℕ) → word ≡ Refer (Some c) → (ws : List Word) → at x c ≡ Some (Record ws) → Free k c
      → AllAccounted k i x names ws
  by_word _ (accounts.a_number z) c e ws there free = absurd cc
  by_word _ (accounts.an_address a z) c e ws there free = absurd cc
  by_word _ accounts.to_nothing c e ws there free = absurd cc
  by_word _ (accounts.to_value b covers) c e ws there free =
      let same : b ≡ c = cc in absurd (not_covered c free (subst (λ d. Covers k (λ n. 0 < names n) d) same covers))
  by_word _ (accounts.to_inner b block inner found made all) c e ws there free =
      let same : b ≡ c = cc in
      let blocks : Some block ≡ Some (Record ws) = sym found ∙ ap (at x) same ∙ there in
      let is : block ≡ Record ws = cc in
      subst (λ d. AllAccounted k i x names (words_in d)) is all

  pub within_accounted : (c : ℕ) → Accounted k i x names (Refer (Some c)) → (ws : List Word) → at x c ≡ Some (Record ws) → Free k c
      → AllAccounted k i x names ws
  within_accounted c a ws there free = by_word (Refer (Some c)) a c refl ws there free

  pub one_accounted : (ws : List Word) (w : Word) → AllAccounted k i x names ws → Has ws w → Accounted k i x names w
  one_accounted _ w accounts.none h = absurd h
  one_accounted _ w (accounts.more v ws a all) (inl e) = subst (Accounted k i x names) e a
  one_accounted _ w (accounts.more v ws a all) (inr h) = one_accounted ws w all h
