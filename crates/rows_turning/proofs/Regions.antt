-- Slots in a row stand for the same wherever else the words are that they had.
use Rattle.std.proofs.Common.{◌≡◌, ℕ, pos, ◌+◌, ◌*◌, ◌/◌, ◌%◌, ◌==◌, ◌<◌, if◌then◌else◌, List, Option, refl, sym, ap, ◌∙◌, subst, arith}
use Rattle.std.specs.Prelude.{slice_get, slice_index}
use Rattle.heap_model.specs.Heap.{Heap}
use Rattle.limbo_layout.specs.Adts.{Def}
use Rattle.limbo_types.specs.Types as ty
use Rattle.limbo_types.specs.Types.{Ty}
use Rattle.limbo_values.specs.declared.number.Kind.{Kind}
use Rattle.limbo_values.specs.declared.number.Kind.TheVariants as kind
use Rattle.limbo_meaning.specs.Values.{Value}
use Rattle.core_code.specs.Slots as core
use Rattle.core_code.specs.Slots.{Slot}
use Rattle.core_typing.specs.Held as held
use Rattle.core_typing.specs.Held.{Held}
use Rattle.dis_meaning.specs.Words.{Word, Access, Found, Wrong, ◌>>=◌, word_at, or_wrong, type_check, number_in}
use Rattle.dis_meaning.specs.Numbers.{number_at, bytes_of}
use Rattle.dis_memory.specs.Blocks.{Block}
use Rattle.value_words.specs.Facts.{Facts}
use Rattle.value_words.specs.Stands.{Stands, a_number, a_text, a_name, an_array, no_words, a_tuple, an_adt}
use Rattle.value_frames.specs.Frames.{Form, Nowhere, AsNumber, AsReference, Boxed, form_of}
use Rattle.core_typing.specs.Held.{slots_in}
use Rattle.value_frames.specs.Standing.{SlotStands, ChainStands, RegionStands, ValueStands, RefersIdly, a_value, a_forming, a_decision, a_loop, no_slot, more_slots}
use Rattle.rows_moving.proofs.References.{one_word}
use Rattle.rows_turning.proofs.Loops.{chain_at}

-- A word of these words is one of those.
pub record SameWord (words others : List Word) (at to : ℕ) : Type 0 where
  pub whole : at % 4 ≡ 0
  pub whole_too : to % 4 ≡ 0
  pub same : slice_get others (to / 4) ≡ slice_get words (at / 4)

module _ (words others : List Word) (at to : ℕ) (s : SameWord words others at to) where
  pub word_moves : word_at others (pos to) ≡ word_at words (pos at)
  word_moves = read others to s.whole_too ∙ ap (or_wrong type_check) s.same ∙ sym (read words at s.whole)
    where
      read : (words : List Word) (at : ℕ) → at % 4 ≡ 0 → word_at words (pos at) ≡ or_wrong type_check (slice_get words (at / 4))
      read words at a = ap (λ (n : ℕ). (if n == 0 then Found (at / 4) else Wrong type_check) >>= λ k. or_wrong type_check (slice_get words k)) a

  pub number_moves : (j : Kind) → (j ≡ kind.Big → ⊥) → number_at j others (pos to) ≡ number_at j words (pos at)
  number_moves kind.Byte small =
      ap (λ (n : ℕ). or_wrong type_check (slice_get others (to / 4)) >>= number_in >>= λ z. Found (pos (slice_index (bytes_of z) n))) (s.whole_too ∙ sym s.whole)
      ∙ ap (λ (o : Option Word). or_wrong type_check o >>= number_in >>= λ z. Found (pos (slice_index (bytes_of z) (at % 4)))) s.same
  number_moves kind.Int small = ap (λ (a : Access Word). a >>= number_in) word_moves
  number_moves kind.Big small = absurd (small refl)

module _ (defs : List Def) (k : Facts) (words others : List Word) where
  a_number_moves : (at to : ℕ) (t : Ty) (v : Value) → SameWord words others at to → form_of t ≡ AsNumber → Stands defs k words at t v
      → Stands defs k others to t v
  a_number_moves at to _ _ s e (a_number _ kind.Byte z f i) =
      a_number to kind.Byte z (number_moves words others at to s kind.Byte (λ e. absurd cc) ∙ f) i
  a_number_moves at to _ _ s e (a_number _ kind.Int z f i) =
      a_number to kind.Int z (number_moves words others at to s kind.Int (λ e. absurd cc) ∙ f) i
  a_number_moves at to _ _ s e (a_number _ kind.Big z f i) = absurd cc
  a_number_moves at to _ _ s e (a_text _ r p f i) = absurd cc
  a_number_moves at to ty.Nil _ s e (a_name _ t r n i f h) = absurd cc
  a_number_moves at to (ty.ListOf t) _ s e (a_name _ u r n i f h) = absurd cc
  a_number_moves at to (ty.ChanOf t) _ s e (a_name _ u r n i f h) = absurd cc
  a_number_moves at to (ty.RefAdt t) _ s e (a_name _ u r n i f h) = absurd cc
  a_number_moves at to (ty.RefPick t j) _ s e (a_name _ u r n i f h) = absurd cc
  a_number_moves at to (ty.Module t) _ s e (a_name _ u r n i f h) = absurd cc
  a_number_moves at to t _ s e (a_name _ u r n i f h) = absurd i
  a_number_moves at to _ _ s e (an_array _ t r p f i) = absurd cc
  a_number_moves at to _ _ s e (no_words _) = absurd cc
  a_number_moves at to _ _ s e (a_tuple _ ts rs vs l all) = absurd cc
  a_number_moves at to _ _ s e (an_adt _ n d rs vs f l all) = absurd cc

  idles : (at to : ℕ) → SameWord words others at to → RefersIdly defs k words at → RefersIdly defs k others to
  idles at to s (r, e, i) = (r, word_moves words others at to s ∙ e, i)

  value_moves : (form : Form) (n r n' r' : ℕ) (t : Ty) (v : Value) → form_of t ≡ form → SameWord words others n n' → SameWord words others r r'
      → ValueStands defs k words n r form t v → ValueStands defs k others n' r' form t v
  value_moves Nowhere n r n' r' t v e s q h = (h.0, idles r r' q h.1)
  value_moves AsNumber n r n' r' t v e s q h = (a_number_moves n n' t v s e h.0, idles r r' q h.1)
  value_moves AsReference n r n' r' t v e s q h =
      let o = one_word defs k words r t v e h in o.elsewhere others r' (word_moves words others r r' q ∙ o.word)
  value_moves Boxed n r n' r' t v e s q (block, inner, w, box, st) = (block, inner, word_moves words others r r' q ∙ w, box, st)

  module _ (x : Heap Block) (frame : ℕ) where
    pub slot_moves : (n r n' r' : ℕ) (h : Held) (l : Slot) (own : List ℕ) → SameWord words others n n' → SameWord words others r r'
        → SlotStands defs k x frame words n r h l own → SlotStands defs k x frame others n' r' h l own
    slot_moves n r n' r' _ _ _ s q (a_value _ _ _ t live v stands names) =
        a_value others n' r' t live v (value_moves (form_of t) n r n' r' t v refl s q stands) names
    slot_moves n r n' r' _ _ _ s q (a_forming _ inner _ _ b t v ks us live vs is f) =
        a_forming others inner n' r' b t v ks us live vs
        (record { word = word_moves words others r r' q ∙ is.word; there = is.there; free = is.free; formed = is.formed; kind = is.kind }) f
    slot_moves n r n' r' _ _ _ s q (a_decision _ _ _ b e i) =
        a_decision others n' r' b (word_moves words others n n' s ∙ e) (idles r r' q i)
    slot_moves n r n' r' _ _ _ s q (a_loop _ _ _ next gs rs own e chain) =
        a_loop others n' r' next gs rs own (word_moves words others n n' s ∙ e)
        (chain_moves gs rs own chain)
      where
        chain_moves : (gs : held.Regions) (rs : core.Regions) (own : List ℕ) → ChainStands defs k x frame words r gs rs own
            → ChainStands defs k x frame others r' gs rs own
        chain_moves gs rs own c = chain_at defs k x frame others words r r' gs rs own (word_moves words others r r' q) c

    -- Slots one behind the other have the same, from wherever their words are.
    pub region_moves : (p to : ℕ) (hs : held.Region) (g : core.Region) (own : List ℕ)
        → ((u : ℕ) → u < 2 * slots_in hs → SameWord words others (p + 4 * u) (to + 4 * u))
        → RegionStands defs k x frame words p hs g own → RegionStands defs k x frame others to hs g own
    region_moves _ to _ _ _ same (no_slot _ p) = no_slot others to
    region_moves _ to _ _ _ same (more_slots _ p h hs l g own more st rest) =
        more_slots others to h hs l g own more
        (slot_moves p (p + 4) to (to + 4) h l own
        (subst (λ (a : ℕ). SameWord words others a to) (omega arith) (subst (SameWord words others (p + 4 * 0)) (omega arith) (same 0 (omega arith))))
        (subst (λ (a : ℕ). SameWord words others a (to + 4)) (omega arith) (subst (SameWord words others (p + 4 * 1)) (omega arith) (same 1 (omega arith)))) st)
        (region_moves (p + 8) (to + 8) hs g more
        (λ u l.
        let a : p + 4 * (2 + u) ≡ p + 8 + 4 * u = omega arith in
        let b : to + 4 * (2 + u) ≡ to + 8 + 4 * u = omega arith in
        subst (λ (c : ℕ). SameWord words others c (to + 8 + 4 * u)) a (subst (SameWord words others (p + 4 * (2 + u))) b (same (2 + u) (omega (arith, l)))))
        rest)
