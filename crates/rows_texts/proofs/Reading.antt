-- What slots have that an instruction on strings reads.
use Rattle.std.proofs.Common.{◌≡◌, ℕ, pos, ◌<◌, true, List, length, Option, Some, None, refl, sym, ap, ◌∙◌, subst, arith, inl, inr}
use Rattle.heap_model.specs.Heap.{at, there}
use Rattle.limbo_types.specs.Types as ty
use Rattle.limbo_types.specs.Types.{Ty}
use Rattle.limbo_layout.specs.Adts.{Def, Has}
use Rattle.limbo_values.specs.declared.number.Kind.{Kind}
use Rattle.limbo_values.specs.declared.number.Kind.TheVariants as kind
use Rattle.limbo_typed.specs.Typed as typed
use Rattle.limbo_typed.specs.Fitting.{of_kind, IsVariantOf}
use Rattle.limbo_meaning.specs.Process.{Shared}
use Rattle.limbo_meaning.specs.Values.{Value, Chars}
use Rattle.core_code.specs.Machine as code
use Rattle.core_code.specs.Slots as core
use Rattle.core_code.specs.Slots.{Slot, Holds}
use Rattle.core_typing.specs.Held as held
use Rattle.core_typing.specs.Held.{Of}
use Rattle.core_typing.specs.Needs.{IsA, StandsAs}
use Rattle.dis_meaning.specs.Words.{Word, Refer, Found, ◌>>=◌, word_at, or_wrong, dead_address}
use Rattle.dis_meaning.specs.Process.{Process}
use Rattle.dis_memory.specs.Blocks.{Block, World}
use Rattle.dis_memory.specs.Kinds.{text_at, text_in}
use Rattle.value_words.specs.Facts.{Facts, IsText, IsString}
use Rattle.value_words.specs.Stands.{Stands, a_number, a_text, a_name, an_array, no_words, a_tuple, an_adt}
use Rattle.value_frames.specs.Frames.{AsNumber, form_of, number_place, reference_place}
use Rattle.value_frames.specs.Standing.{SlotStands}
use Rattle.value_frames.proofs.Rest.{slots_rest}
use Rattle.value_moves.specs.Operands.{own, of_own}
use Rattle.value_moves.proofs.Leading.{spots_lead}
use Rattle.value_roots.proofs.Words.{has_counts}
use Rattle.block_effects.specs.Contents.{IsThere}
use Rattle.block_effects.specs.Stored.{ReadsText, GivesText}
use Rattle.block_effects.proofs.Giving.{operands_read}
use Rattle.value_follows.specs.Stands.{types_of}
use Rattle.value_follows.specs.Sides.{sides, HoldTheSame}
use Rattle.value_follows.proofs.RootedValues.{word_has}
use Rattle.value_follows.proofs.Slots.{slot_is, of_type, number_is, NumberIs}
use Rattle.rows_texts.proofs.OnTheWay.{On, frame_is}

-- ---- texts

no_variant : (u : Ty) → IsVariantOf u ty.Chars → ⊥
no_variant (ty.RefPick n v) e = absurd cc
no_variant _ e = e

text_type : (u : Ty) → StandsAs u ty.Chars → u ≡ ty.Chars
text_type u (inl (inl e)) = e
text_type u (inl (inr v)) = absurd (no_variant u v)
text_type u (inr n) = absurd n.1

-- what stands for a text stands for a string
pub is_string : (k : Facts) (r : Option ℕ) (s : List ℕ) → IsText k r s → IsString s
is_string k None s e = subst IsString (sym e) (tt, omega arith)
is_string k (Some b) s e = e.1

module _ (defs : List Def) (k : Facts) (words : List Word) where
  pub record TextAt (at : ℕ) (v : Value) : Type 0 where
    pub chars : List ℕ
    pub is : v ≡ Chars chars
    pub refers : Option ℕ
    pub word : word_at words (pos at) ≡ Found (Refer refers)
    pub text : IsText k refers chars

  pub text_there : (at : ℕ) (t : Ty) (v : Value) → t ≡ ty.Chars → Stands defs k words at t v → TextAt at v
  text_there _ _ _ e (a_number at kind.Byte z g i) = absurd cc
  text_there _ _ _ e (a_number at kind.Int z g i) = absurd cc
  text_there _ _ _ e (a_number at kind.Big z g i) = absurd cc
  text_there _ _ _ e (a_text at r s g i) = record { chars = s; is = refl; refers = r; word = g; text = i }
  text_there _ _ _ e (a_name at ty.Chars r n i g h) = absurd i
  text_there _ _ _ e (a_name at t r n i g h) = absurd cc
  text_there _ _ _ e (an_array at t r p g i) = absurd cc
  text_there _ _ _ e (no_words at) = absurd cc
  text_there _ _ _ e (a_tuple at ts rs vs l all) = absurd cc
  text_there _ _ _ e (an_adt at n d rs vs g l all) = absurd cc

holds_it : (l : Slot) (v u : Value) → l ≡ Holds v → v ≡ u → l ≡ Holds u
holds_it l v u e f = e ∙ ap Holds f

module _ (m : typed.Module) (k : Facts) (i : ℕ) (x : World) (busy : List ℕ) (n : ℕ) (f : typed.Function) (j : ℕ) (p : code.Process)
    (q : Process) (on : On m k i x busy n f j p q) where
  abbrev n_at : ℕ → ℕ
  n_at s = number_place m.adts (types_of m f) s

  abbrev r_at : ℕ → ℕ
  r_at s = reference_place m.adts (types_of m f) s

  -- A slot has a text where one is asked for.
  pub record TextIs (s : ℕ) : Type 0 where
    pub chars : List ℕ
    pub holds : core.slot p.frame.slots s ≡ Holds (Chars chars)
    pub refers : Option ℕ
    pub word : word_at q.frame.words (pos (r_at s)) ≡ Found (Refer refers)
    pub text : IsText k refers chars
    pub string : IsString chars

  pub text_is : (s : ℕ) → s < length p.frame.slots → (Has busy s → ⊥) → IsA on.known s ty.Chars → TextIs s
  text_is s l free a =
      let h = of_type (held.slot on.known s) a.0 a.1 in
      let same : held.slot on.known s ≡ Of ty.Chars h.0 = h.1 ∙ ap (λ t. Of t h.0) (text_type a.0 a.2) in
      let own = on.words.own s in
      let slot = core.slot p.frame.slots s in
      let stands = subst (λ h. SlotStands m.adts k x.heap q.frame.serial q.frame.words (n_at s) (r_at s) h slot own) same
      (slot_is m k i x busy p.frame q.frame (frame_is m k i x busy n f j p q on) s l free) in
      let v = slots_rest.is_value m.adts k x.heap q.frame.serial q.frame.words (n_at s) (r_at s) ty.Chars h.0 slot own stands in
      let reads = slots_rest.reads m.adts k x.heap q.frame.serial q.frame.words (n_at s) (r_at s) ty.Chars h.0 v.0 own
      (subst (λ o. SlotStands m.adts k x.heap q.frame.serial q.frame.words (n_at s) (r_at s) (Of ty.Chars h.0) o own) v.1 stands) in
      let t = text_there m.adts k q.frame.words (r_at s) ty.Chars v.0 refl (reads.reference refl) in
      record { chars = t.chars; holds = holds_it slot v.0 (Chars t.chars) v.1 t.is; refers = t.refers; word = t.word; text = t.text; string = is_string k t.refers t.chars t.text }

  pub number_on : (u : Kind) (s : ℕ) → form_of (of_kind u) ≡ AsNumber → s < length p.frame.slots → (Has busy s → ⊥) → IsA on.known s (of_kind u)
      → NumberIs m k i x busy p.frame q.frame (frame_is m k i x busy n f j p q on) u s
  number_on u s form l free a = number_is m k i x busy p.frame q.frame (frame_is m k i x busy n f j p q on) u s form l free a

-- ---- what words of the frame refer to is there

module _ (m : typed.Module) (k : Facts) (i : ℕ) (w : Shared) (x : World) (p : code.Process) (q : Process) (hold : HoldTheSame m k i x p q)
    (worlds : (sides m).worlds k w x) where
  pub is_there : (at : ℕ) (r : Option ℕ) → word_at q.frame.words (pos at) ≡ Found (Refer r) → IsThere x r
  is_there at r e b is =
      let has = word_has q.frame.words at (Refer (Some b)) (e ∙ ap (λ (o : Option ℕ). Found (Refer o)) is) in
      let counts = has_counts q.frame.words b has in
      hold.same.live b (hold.same.roots b (omega (arith, counts)))

  some_there : (o : Option Block) → there o ≡ true → (b : Block) × (o ≡ Some b)
  some_there None e = absurd cc
  some_there (Some b) e = (b, refl)

  -- a text is that of its block
  pub text_found : (r : Option ℕ) (s : List ℕ) → IsText k r s → IsThere x r → text_at x r ≡ Found s
  text_found None s e h = ap Found (sym e)
  text_found (Some b) s e h =
      let d = some_there (at x.heap b) (h b refl) in
      ap (λ (o : Option Block). or_wrong dead_address o >>= text_in) (d.1 ∙ ap Some (worlds.0.texts b s d.0 e.0 d.1))

  module _ (busy : List ℕ) (n : ℕ) (f : typed.Function) (j : ℕ) (on : On m k i x busy n f j p q) (s : ℕ)
      (t : TextIs m k i x busy n f j p q on s) where
    abbrev to : ℕ
    to = reference_place m.adts (types_of m f) s

    pub reads_text : ReadsText x q (own to) t.chars
    reads_text = (
      t.refers,
      (operands_read x q).reference (own to) q.frame.words to t.refers (spots_lead.own x q to).0 t.word,
      text_found t.refers t.chars t.text (is_there to t.refers t.word),
    )

    pub gives_text : GivesText x q (of_own to) t.chars
    gives_text = (t.refers, (operands_read x q).given_reference to t.refers t.word, text_found t.refers t.chars t.text (is_there to t.refers t.word))
